-- A mapping that a desk line says is built, and the names of its patterns ascend.
use Rattle.std.proofs.Common.{◌≡◌, Bool, true, false, if◌then◌else◌, List, [], ◌∷◌, Option, None, Some, option_map, option_and_then, unwrap_or, Ok, Err, codes, ℤ, nat_cmp, refl, sym, ap, ◌∙◌, subst}
use Rattle.std.specs.Prelude.{⊤}
use Rattle.std.specs.Cmp.Lexicographic.{slice_cmp}
use Rattle.std.specs.List.{AllByRecursion, filter_map}
use Rattle.std.specs.List.Sorted.{IsStrictlySortedBy}
use Rattle.std.specs.Str.{is_utf8}
use Rattle.serde_json.specs.Data.{Data, null, boolean, number, string, array, object, Items, no_items, item, Members, no_members, member}
use Rattle.serde_json.specs.Find.{get_member, as_str, as_object, as_bool}
use Rattle.serde_json.specs.Read.{read}
use Rattle.lost_spec.specs.declared.places.PlaceKind.{PlaceKind}
use Rattle.lost_spec.specs.declared.places.PlaceKind.TheVariants.{Geodetic2d, Civic, XToken}
use Rattle.lost_spec.specs.declared.faults.MappingError.{MappingError}
use Rattle.lost_spec.specs.Text.{Text, same_text, lowered}
use Rattle.lost_spec.specs.Moment.{Stamp, stamp_of}
use Rattle.lost_spec.specs.Civic.{Pairs, names_of}
use Rattle.lost_spec.specs.Place.{Region, RingRegion, PatternRegion, TokenRegion, UnreadableRegion, kind_of, pattern_of}
use Rattle.lost_spec.specs.Mapping.{Parts, Mapping, DisplayName, parts_fault, mapping_of}
use Rattle.lost_spec.specs.Book.{Identity, Edit, Publish, Replace, Withdraw}
use Rattle.lost_reading.specs.declared.desk.DeskFault.TheVariants.{BadLine}
use Rattle.lost_reading.specs.Members.{tree_of, unless_null, the_member, required, optional, optional_value, defaulting, each_of, list_in, position_in, pairs_of, pairs_in, one_of}
use Rattle.lost_reading.specs.Desk.{Stage, Commit, pattern_region, region_of_kind, region_with, region_in, regions_kind, display_name_in, parts_of_members, unless_fault, mapping_order, withdrawal_fault, withdrawal, withdrawal_order, is_desk_name, order_named, order_of_member, order_in, desk_line}
use Rattle.lost_export.specs.ReadBack.{HasAscendingNames, IsBuilt}
use Rattle.lost_export.proofs.OrderLemmas.{names_in, IsOrdered, ItemsAreOrdered, MembersAreOrdered, read_ordered, found_ordered}

-- ---- patterns

-- if the region is a pattern, its names ascend
abbrev Ascends : Region → Type 0
Ascends (RingRegion positions) = ⊤
Ascends (PatternRegion pairs) = HasAscendingNames pairs
Ascends (TokenRegion tokens) = ⊤
Ascends UnreadableRegion = ⊤

sorted_names : (members : Members) → MembersAreOrdered members → IsStrictlySortedBy (slice_cmp nat_cmp) (names_in members)
unfolding IsStrictlySortedBy
sorted_names no_members all = tt
sorted_names (member name value rest) all = (all.1, sorted_names rest all.2)

same_names_by : (name : Text) (text : Option Text) (others : Option Pairs) (pairs : Pairs) (names : List Text) → ((rest : Pairs) → others ≡ Some rest → names_of rest ≡ names)
    → option_and_then (λ found. option_map (λ rest. (name, found) ∷ rest) others) text ≡ Some pairs → names_of pairs ≡ name ∷ names
same_names_by name None others pairs names same is = absurd (cc)
same_names_by name (Some text) None pairs names same is = absurd (cc)
same_names_by name (Some text) (Some rest) pairs names same is =
    let all : (name, text) ∷ rest ≡ pairs = cc in
    sym (ap names_of all) ∙ ap (λ more. name ∷ more) (same rest refl)

same_names : (members : Members) (pairs : Pairs) → pairs_of members ≡ Some pairs → names_of pairs ≡ names_in members
same_names no_members pairs is =
    let all : [] ≡ pairs = cc in
    sym (ap names_of all)
same_names (member name value rest) pairs is = same_names_by name (as_str value) (pairs_of rest) pairs (names_in rest) (λ more found. same_names rest more found) is

pairs_ascend : (members : Members) (pairs : Option Pairs) → MembersAreOrdered members → pairs_of members ≡ pairs → Ascends (unwrap_or (option_map PatternRegion pairs) UnreadableRegion)
pairs_ascend members None all is = tt
pairs_ascend members (Some pairs) all is = subst (IsStrictlySortedBy (slice_cmp nat_cmp)) (sym (same_names members pairs is)) (sorted_names members all)

pattern_ascends : (value : Data) → IsOrdered value → Ascends (unwrap_or (option_map PatternRegion (pairs_in value)) UnreadableRegion)
pattern_ascends null all = tt
pattern_ascends (boolean b) all = tt
pattern_ascends (number n) all = tt
pattern_ascends (string s) all = tt
pattern_ascends (array items) all = tt
pattern_ascends (object members) all = pairs_ascend members (pairs_of members) all refl

-- ---- regions

-- a member that is there, and no null
there_by : (kept value : Data) (test : Bool) → (if test then None else Some value) ≡ Some kept → value ≡ kept
there_by kept value true is = absurd (cc)
there_by kept value false is = cc

there_ordered_by : (found : Option Data) (kept : Data) → ((value : Data) → found ≡ Some value → IsOrdered value) → option_and_then unless_null found ≡ Some kept → IsOrdered kept
there_ordered_by None kept one is = absurd (cc)
there_ordered_by (Some value) kept one is = subst IsOrdered (there_by kept value _ is) (one value refl)

there_ordered : (name : Text) (members : Members) (kept : Data) → MembersAreOrdered members → the_member name members ≡ Some kept → IsOrdered kept
there_ordered name members kept all is = there_ordered_by (get_member name members) kept (λ value found. found_ordered name members value all found) is

ring_ascends : (positions : Option (List (ℤ × ℤ))) → Ascends (unwrap_or (option_map RingRegion positions) UnreadableRegion)
ring_ascends None = tt
ring_ascends (Some positions) = tt

tokens_ascend : (tokens : Option (List Text)) → Ascends (unwrap_or (option_map TokenRegion tokens) UnreadableRegion)
tokens_ascend None = tt
tokens_ascend (Some tokens) = tt

pattern_if : (found : Option Data) → ((value : Data) → found ≡ Some value → IsOrdered value) → Ascends (pattern_region found)
pattern_if None one = tt
pattern_if (Some value) one = pattern_ascends value (one value refl)

kind_ascends : (kind : Option PlaceKind) (members : Members) → MembersAreOrdered members → Ascends (region_of_kind kind members)
kind_ascends None members all = tt
kind_ascends (Some Geodetic2d) members all = ring_ascends (option_and_then (list_in position_in) (the_member (codes "polygon") members))
kind_ascends (Some Civic) members all = pattern_if (the_member (codes "pattern") members) (λ value found. there_ordered (codes "pattern") members value all found)
kind_ascends (Some XToken) members all = tokens_ascend (option_and_then (list_in as_str) (the_member (codes "tokens") members))

with_profile : (profile : Option Text) (members : Members) → MembersAreOrdered members → Ascends (unwrap_or (option_map (region_with members) profile) UnreadableRegion)
with_profile None members all = tt
with_profile (Some profile) members all = kind_ascends (kind_of profile) members all

region_ascends : (value : Data) → IsOrdered value → Ascends (region_in value)
region_ascends null all = tt
region_ascends (boolean b) all = tt
region_ascends (number n) all = tt
region_ascends (string s) all = tt
region_ascends (array items) all = tt
region_ascends (object members) all = with_profile (required as_str (codes "profile") members) members all

each_by : (first : Region) (others : Option (List Region)) (regions : List Region) → Ascends first → ((rest : List Region) → others ≡ Some rest → AllByRecursion Ascends rest) → option_map (λ rest. first ∷ rest) others ≡ Some regions
    → AllByRecursion Ascends regions
each_by first None regions one all is = absurd (cc)
each_by first (Some rest) regions one all is =
    let same : first ∷ rest ≡ regions = cc in
    subst (AllByRecursion Ascends) same (one, all rest refl)

each_ascends : (items : Items) (regions : List Region) → ItemsAreOrdered items → each_of (λ region. Some (region_in region)) items ≡ Some regions → AllByRecursion Ascends regions
each_ascends no_items regions all is =
    let same : [] ≡ regions = cc in
    subst (AllByRecursion Ascends) same tt
each_ascends (item value rest) regions all is =
    each_by (region_in value) (each_of (λ region. Some (region_in region)) rest) regions (region_ascends value all.0) (λ more found. each_ascends rest more all.1 found) is

regions_ascend : (value : Data) (regions : List Region) → IsOrdered value → regions_kind value ≡ Some regions → AllByRecursion Ascends regions
regions_ascend null regions all is = absurd (cc)
regions_ascend (boolean b) regions all is = absurd (cc)
regions_ascend (number n) regions all is = absurd (cc)
regions_ascend (string s) regions all is = absurd (cc)
regions_ascend (array items) regions all is = each_ascends items regions all is
regions_ascend (object members) regions all is = absurd (cc)

default_by : (read : Option (List Region)) (regions : List Region) → ((found : List Region) → read ≡ Some found → AllByRecursion Ascends found)
    → option_map (λ found. unwrap_or found []) (option_map (λ thing. Some thing) read) ≡ Some regions → AllByRecursion Ascends regions
default_by None regions all is = absurd (cc)
default_by (Some found) regions all is =
    let same : found ≡ regions = cc in
    subst (AllByRecursion Ascends) same (all found refl)

boundary_ascends : (found : Option Data) (regions : List Region) → ((value : Data) → found ≡ Some value → IsOrdered value) → option_map (λ read. unwrap_or read []) (optional_value regions_kind found) ≡ Some regions → AllByRecursion Ascends regions
boundary_ascends None regions one is =
    let same : [] ≡ regions = cc in
    subst (AllByRecursion Ascends) same tt
boundary_ascends (Some value) regions one is = default_by (regions_kind value) regions (λ read found. regions_ascend value read (one value refl) found) is

patterns_ascend : (regions : List Region) → AllByRecursion Ascends regions → AllByRecursion HasAscendingNames (filter_map pattern_of regions)
patterns_ascend [] all = tt
patterns_ascend (RingRegion positions ∷ regions) all = patterns_ascend regions all.1
patterns_ascend (PatternRegion pairs ∷ regions) all = (all.0, patterns_ascend regions all.1)
patterns_ascend (TokenRegion tokens ∷ regions) all = patterns_ascend regions all.1
patterns_ascend (UnreadableRegion ∷ regions) all = patterns_ascend regions all.1

-- ---- parts

-- the parts of what was read of each member
abbrev gathered : (source source_id updated expires service : Option Text) (uris : Option (List Text)) (dialled : Option (Option Text)) (regions : Option (List Region)) (is_default : Option Bool) (names : Option (List DisplayName)) (key : Option (Option Text)) → Option Parts
gathered source source_id updated expires service uris dialled regions is_default names key =
    option_and_then (λ source.
    option_and_then (λ source_id.
    option_and_then (λ last_updated.
    option_and_then (λ expires.
    option_and_then (λ service.
    option_and_then (λ uris.
    option_and_then (λ dialled.
    option_and_then (λ regions.
    option_and_then (λ is_default.
    option_and_then (λ display_names.
    option_map (λ key. record {
      source = source;
      source_id = source_id;
      last_updated = last_updated;
      expires = expires;
      service = service;
      uris = uris;
      number = dialled;
      regions = regions;
      is_default = is_default;
      display_names = display_names;
      key = key;
    }) key) names) is_default) regions) dialled) uris) service) expires) updated) source_id) source

regions_gathered : (source source_id updated expires service : Option Text) (uris : Option (List Text)) (dialled : Option (Option Text)) (regions : Option (List Region)) (is_default : Option Bool) (names : Option (List DisplayName)) (key : Option (Option Text)) (p : Parts)
    → gathered source source_id updated expires service uris dialled regions is_default names key ≡ Some p → regions ≡ Some p.regions
regions_gathered None source_id updated expires service uris dialled regions is_default names key p is = absurd (cc)
regions_gathered (Some source) None updated expires service uris dialled regions is_default names key p is = absurd (cc)
regions_gathered (Some source) (Some source_id) None expires service uris dialled regions is_default names key p is = absurd (cc)
regions_gathered (Some source) (Some source_id) (Some updated) None service uris dialled regions is_default names key p is = absurd (cc)
regions_gathered (Some source) (Some source_id) (Some updated) (Some expires) None uris dialled regions is_default names key p is = absurd (cc)
regions_gathered (Some source) (Some source_id) (Some updated) (Some expires) (Some service) None dialled regions is_default names key p is = absurd (cc)
regions_gathered (Some source) (Some source_id) (Some updated) (Some expires) (Some service) (Some uris) None regions is_default names key p is = absurd (cc)
regions_gathered (Some source) (Some source_id) (Some updated) (Some expires) (Some service) (Some uris) (Some dialled) None is_default names key p is = absurd (cc)
regions_gathered (Some source) (Some source_id) (Some updated) (Some expires) (Some service) (Some uris) (Some dialled) (Some regions) None names key p is = absurd (cc)
regions_gathered (Some source) (Some source_id) (Some updated) (Some expires) (Some service) (Some uris) (Some dialled) (Some regions) (Some is_default) None key p is = absurd (cc)
regions_gathered (Some source) (Some source_id) (Some updated) (Some expires) (Some service) (Some uris) (Some dialled) (Some regions) (Some is_default) (Some names) None p is = absurd (cc)
regions_gathered (Some source) (Some source_id) (Some updated) (Some expires) (Some service) (Some uris) (Some dialled) (Some regions) (Some is_default) (Some names) (Some key) p is =
    let same : record { source = source; source_id = source_id; last_updated = updated; expires = expires; service = service; uris = uris; number = dialled; regions = regions; is_default = is_default; display_names = names; key = key } ≡ p = cc in
    ap (λ (parts : Parts). Some parts.regions) same

parts_ascend : (members : Members) (p : Parts) → MembersAreOrdered members → parts_of_members members ≡ Some p → AllByRecursion Ascends p.regions
parts_ascend members p all is =
    let regions =
    regions_gathered (required as_str (codes "source") members) (required as_str (codes "sourceId") members) (required as_str (codes "lastUpdated") members) (required as_str (codes "expires") members) (required as_str (codes "service") members)
    (required (list_in as_str) (codes "uri") members) (optional as_str (codes "serviceNumber") members) (defaulting regions_kind [] (codes "serviceBoundary") members) (defaulting as_bool false (codes "default") members)
    (defaulting (list_in display_name_in) [] (codes "displayName") members) (optional as_str (codes "key") members) p is in
    boundary_ascends (the_member (codes "serviceBoundary") members) p.regions (λ value found. there_ordered (codes "serviceBoundary") members value all found) regions

-- ---- orders

-- parts that say an edit of a mapping are not refused, and make it
built_by : (fault : Option MappingError) (edit : Mapping → Edit) (p : Parts) (e : Edit) → parts_fault p ≡ fault → unless_fault fault (Stage (edit (mapping_of p))) ≡ Ok (Stage e) → (parts_fault p ≡ None) × (edit (mapping_of p) ≡ e)
built_by None edit p e fault is = (fault, cc)
built_by (Some refusal) edit p e fault is = absurd (cc)

-- the mapping of an edit
abbrev mapping_in : Edit → Option Mapping
mapping_in (Publish m) = Some m
mapping_in (Replace m) = Some m
mapping_in (Withdraw identity stamp) = None

made_ascending : (p : Parts) → AllByRecursion HasAscendingNames (filter_map pattern_of p.regions) → AllByRecursion HasAscendingNames (mapping_of p).regions.patterns
unfolding mapping_of
made_ascending p all = all

built : (edit : Mapping → Edit) (members : Members) (read : Option Parts) (e : Edit) (m : Mapping) → ((n : Mapping) → mapping_in (edit n) ≡ Some n) → MembersAreOrdered members → parts_of_members members ≡ read
    → mapping_order edit read ≡ Ok (Stage e) → mapping_in e ≡ Some m → IsBuilt m
built edit members None e m in_edit all is order found = absurd (cc)
built edit members (Some p) e m in_edit all is order found =
    let by = built_by (parts_fault p) edit p e refl order in
    let same : Some (mapping_of p) ≡ Some m = sym (in_edit (mapping_of p)) ∙ (ap mapping_in by.1 ∙ found) in
    let made : m ≡ mapping_of p = cc in
    record {
      parts = p;
      accepted = by.0;
      made = made;
      ascending = subst (λ n. AllByRecursion HasAscendingNames n.regions.patterns) (sym made) (made_ascending p (patterns_ascend p.regions (parts_ascend members p all is)));
    }

-- a withdrawal is an edit of no mapping
not_withdrawn : (fault : Option MappingError) (identity : Identity) (stamp : Stamp) (e : Edit) (m : Mapping) → unless_fault fault (Stage (Withdraw identity stamp)) ≡ Ok (Stage e) → mapping_in e ≡ Some m → ⊥
not_withdrawn None identity stamp e m order found =
    let same : Withdraw identity stamp ≡ e = cc in
    let none : mapping_in e ≡ None = sym (ap mapping_in same) in
    cc
not_withdrawn (Some fault) identity stamp e m order found = cc

no_withdrawal : (source source_id updated : Option Text) (e : Edit) (m : Mapping)
    → unwrap_or (option_and_then (λ source. option_and_then (λ source_id. option_map (withdrawal source source_id) updated) source_id) source) (Err BadLine) ≡ Ok (Stage e) → mapping_in e ≡ Some m → ⊥
no_withdrawal None source_id updated e m order found = cc
no_withdrawal (Some source) None updated e m order found = cc
no_withdrawal (Some source) (Some source_id) None e m order found = cc
no_withdrawal (Some source) (Some source_id) (Some updated) e m order found =
    not_withdrawn (withdrawal_fault source source_id updated) (record { source = lowered source; source_id = source_id }) (stamp_of updated) e m order found

named_by : (publish replace withdraw : Bool) (members : Members) (e : Edit) (m : Mapping) → MembersAreOrdered members
    → (if publish then mapping_order Publish (parts_of_members members) else (if replace then mapping_order Replace (parts_of_members members) else (if withdraw then withdrawal_order members else Ok Commit))) ≡ Ok (Stage e)
    → mapping_in e ≡ Some m → IsBuilt m
named_by true replace withdraw members e m all order found = built Publish members (parts_of_members members) e m (λ n. refl) all refl order found
named_by false true withdraw members e m all order found = built Replace members (parts_of_members members) e m (λ n. refl) all refl order found
named_by false false true members e m all order found =
    absurd (no_withdrawal (required as_str (codes "source") members) (required as_str (codes "sourceId") members) (required as_str (codes "lastUpdated") members) e m order found)
named_by false false false members e m all order found = absurd (cc)

of_value : (name : Text) (value : Data) (e : Edit) (m : Mapping) → IsOrdered value → unwrap_or (option_map (order_named name) (as_object value)) (Err BadLine) ≡ Ok (Stage e) → mapping_in e ≡ Some m → IsBuilt m
of_value name null e m all order found = absurd (cc)
of_value name (boolean b) e m all order found = absurd (cc)
of_value name (number n) e m all order found = absurd (cc)
of_value name (string s) e m all order found = absurd (cc)
of_value name (array items) e m all order found = absurd (cc)
of_value name (object members) e m all order found =
    named_by (same_text (codes "publish") name) (same_text (codes "replace") name) (same_text (codes "withdraw") name) members e m all order found

of_member : (is_desk : Bool) (name : Text) (value : Data) (e : Edit) (m : Mapping) → IsOrdered value → (if is_desk then Some (unwrap_or (option_map (order_named name) (as_object value)) (Err BadLine)) else None) ≡ Some (Ok (Stage e))
    → mapping_in e ≡ Some m → IsBuilt m
of_member true name value e m all order found = let same : unwrap_or (option_map (order_named name) (as_object value)) (Err BadLine) ≡ Ok (Stage e) = cc in of_value name value e m all same found
of_member false name value e m all order found = absurd (cc)

of_members : (members : Members) (e : Edit) (m : Mapping) → MembersAreOrdered members → option_and_then order_of_member (one_of members) ≡ Some (Ok (Stage e)) → mapping_in e ≡ Some m → IsBuilt m
of_members no_members e m all order found = absurd (cc)
of_members (member name value no_members) e m all order found = of_member (is_desk_name name) name value e m all.0 order found
of_members (member name value (member other more rest)) e m all order found = absurd (cc)

of_tree : (tree : Data) (e : Edit) (m : Mapping) → IsOrdered tree → order_in tree ≡ Some (Ok (Stage e)) → mapping_in e ≡ Some m → IsBuilt m
of_tree null e m all order found = absurd (cc)
of_tree (boolean b) e m all order found = absurd (cc)
of_tree (number n) e m all order found = absurd (cc)
of_tree (string s) e m all order found = absurd (cc)
of_tree (array items) e m all order found = absurd (cc)
of_tree (object members) e m all order found = of_members members e m all order found

of_read : (found : Option Data) (e : Edit) (m : Mapping) → ((tree : Data) → found ≡ Some tree → IsOrdered tree) → option_and_then order_in found ≡ Some (Ok (Stage e)) → mapping_in e ≡ Some m → IsBuilt m
of_read None e m all order is = absurd (cc)
of_read (Some tree) e m all order is = of_tree tree e m (all tree refl) order is

of_utf8 : (is_text : Bool) (line : Text) (e : Edit) (m : Mapping) → option_and_then order_in (if is_text then read line else None) ≡ Some (Ok (Stage e)) → mapping_in e ≡ Some m → IsBuilt m
of_utf8 true line e m order found = of_read (read line) e m (λ tree is. read_ordered line tree is) order found
of_utf8 false line e m order found = absurd (cc)

of_line : (line : Text) (e : Edit) (m : Mapping) → desk_line line ≡ Some (Ok (Stage e)) → mapping_in e ≡ Some m → IsBuilt m
unfolding desk_line tree_of
of_line line e m order found = of_utf8 (is_utf8 line) line e m order found

-- what a line publishes is built, and so is what it replaces another mapping by
pub published_built : (line : Text) (m : Mapping) → desk_line line ≡ Some (Ok (Stage (Publish m))) → IsBuilt m
published_built line m order = of_line line (Publish m) m order refl

pub replacing_built : (line : Text) (m : Mapping) → desk_line line ≡ Some (Ok (Stage (Replace m))) → IsBuilt m
replacing_built line m order = of_line line (Replace m) m order refl

-- The tree of a publish is not deep.
use Rattle.std.proofs.Common.{◌≡◌, ℕ, suc, ◌≤◌, max, List, [], ◌∷◌, ◌++◌, map, Bool, true, false, Option, None, Some, option_map, codes, refl, arith, subst, Ordering, Less, Equal, Greater}
use Rattle.serde_json.specs.Data.{Data, boolean, number, string, Members, no_members, member, put, depth, items_depth, members_depth}
use Rattle.serde_json.specs.Find.{of_integer}
use Rattle.serde_json.specs.View.{items_of}
use Rattle.std.specs.Cmp.Lexicographic.{slice_cmp}
use Rattle.std.specs.Ordering.{nat_cmp, match_ordering}
use Rattle.lost_spec.specs.Text.{Text}
use Rattle.lost_spec.specs.Ring.{Point}
use Rattle.lost_spec.specs.Civic.{Pairs}
use Rattle.lost_spec.specs.Service.{service_text}
use Rattle.lost_spec.specs.Place.{Regions}
use Rattle.lost_spec.specs.Mapping.{DisplayName, Mapping}
use Rattle.lost_export.specs.Export.{member_if, expires_text, list_data, texts_data, position_data, polygon_data, put_pairs, pattern_data, token_set_data, regions_data, display_name_data, display_names_data, default_data, boundary_data, publish_data}

within : (a b n : ℕ) → a ≤ n → b ≤ n → max a b ≤ n
within a b n h k = grind arith

up : (a n : ℕ) → a ≤ n → suc a ≤ suc n
up a n h = omega arith

more : (a m n : ℕ) → a ≤ m → m ≤ n → a ≤ n
more a m n h k = omega arith

at_least : (n : ℕ) → 0 ≤ n
at_least n = omega arith

few : 1 ≤ 4
few = omega arith

room : 6 ≤ 127
room = omega arith

-- ---- lists

items_within : {Thing : Type 0} (shown : Thing → Data) (n : ℕ) → ((thing : Thing) → depth (shown thing) ≤ n) → (things : List Thing) → (rest : List Data) → items_depth (items_of rest) ≤ n → items_depth (items_of (map shown things ++ rest)) ≤ n
items_within shown n each [] rest h = h
items_within shown n each (thing ∷ things) rest h = within (depth (shown thing)) _ n (each thing) (items_within shown n each things rest h)

all_within : {Thing : Type 0} (shown : Thing → Data) (n : ℕ) → ((thing : Thing) → depth (shown thing) ≤ n) → (things : List Thing) → items_depth (items_of (map shown things)) ≤ n
all_within shown n each [] = at_least n
all_within shown n each (thing ∷ things) = within (depth (shown thing)) _ n (each thing) (all_within shown n each things)

list_within : {Thing : Type 0} (shown : Thing → Data) (n : ℕ) → ((thing : Thing) → depth (shown thing) ≤ n) → (things : List Thing) → depth (list_data shown things) ≤ suc n
list_within shown n each things = up (items_depth (items_of (map shown things))) n (all_within shown n each things)

texts_within : (texts : List Text) → depth (texts_data texts) ≤ 1
texts_within texts = list_within string 0 (λ text. at_least 0) texts

-- ---- regions

position_within : (point : Point) → depth (position_data point) ≤ 1
position_within point = list_within (λ coordinate. number (of_integer coordinate)) 0 (λ coordinate. at_least 0) (point.lat ∷ point.lon ∷ [])

polygon_within : (polygon : List Point) → depth (polygon_data polygon) ≤ 3
polygon_within polygon = up (max (depth (list_data position_data polygon)) 0) 2 (within (depth (list_data position_data polygon)) 0 2 (list_within position_data 1 position_within polygon) (at_least 2))

put_within_by : (order : Ordering) (name text other : Text) (value : Data) (rest : Members) → depth value ≤ 0 → members_depth rest ≤ 0 → members_depth (put name (string text) rest) ≤ 0
    → members_depth (match_ordering order (member name (string text) (member other value rest)) (member other (string text) rest) (member other value (put name (string text) rest))) ≤ 0
put_within_by Less name text other value rest one all later = within 0 (max (depth value) (members_depth rest)) 0 (at_least 0) (within (depth value) (members_depth rest) 0 one all)
put_within_by Equal name text other value rest one all later = within 0 (members_depth rest) 0 (at_least 0) all
put_within_by Greater name text other value rest one all later = within (depth value) (members_depth (put name (string text) rest)) 0 one later

first_within : (a b n : ℕ) → max a b ≤ n → a ≤ n
first_within a b n h = grind arith

second_within : (a b n : ℕ) → max a b ≤ n → b ≤ n
second_within a b n h = grind arith

put_within : (name text : Text) (before : Members) → members_depth before ≤ 0 → members_depth (put name (string text) before) ≤ 0
put_within name text no_members h = at_least 0
put_within name text (member other value rest) h =
    let one = first_within (depth value) (members_depth rest) 0 h in
    let all = second_within (depth value) (members_depth rest) 0 h in
    put_within_by (slice_cmp nat_cmp name other) name text other value rest one all (put_within name text rest all)

pairs_within : (before : Members) (pairs : Pairs) → members_depth before ≤ 0 → members_depth (put_pairs before pairs) ≤ 0
pairs_within before [] h = h
pairs_within before (pair ∷ pairs) h = pairs_within (put pair.0 (string pair.1) before) pairs (put_within pair.0 pair.1 before h)

pattern_within : (pattern : Pairs) → depth (pattern_data pattern) ≤ 3
pattern_within pattern =
    let members = members_depth (put_pairs no_members pattern) in
    let some : suc members ≤ 2 = up members 1 (more members 0 1 (pairs_within no_members pattern (at_least 0)) (at_least 1)) in
    up (max (suc members) 0) 2 (within (suc members) 0 2 some (at_least 2))

token_set_within : (tokens : List Text) → depth (token_set_data tokens) ≤ 3
token_set_within tokens =
    let some : depth (texts_data tokens) ≤ 2 = more (depth (texts_data tokens)) 1 2 (texts_within tokens) (up 0 1 (at_least 1)) in
    up (max 0 (max (depth (texts_data tokens)) 0)) 2 (within 0 (max (depth (texts_data tokens)) 0) 2 (at_least 2) (within (depth (texts_data tokens)) 0 2 some (at_least 2)))

regions_within : (regions : Regions) → depth (regions_data regions) ≤ 4
regions_within regions =
    let all =
    items_within polygon_data 3 polygon_within regions.polygons (map pattern_data regions.patterns ++ map token_set_data regions.token_sets)
    (items_within pattern_data 3 pattern_within regions.patterns (map token_set_data regions.token_sets)
    (all_within token_set_data 3 token_set_within regions.token_sets)) in
    up (items_depth (items_of (map polygon_data regions.polygons ++ (map pattern_data regions.patterns ++ map token_set_data regions.token_sets)))) 3 all

-- ---- members

member_within : (name : Text) (value : Data) (rest : Members) → depth value ≤ 4 → members_depth rest ≤ 4 → members_depth (member name value rest) ≤ 4
member_within name value rest one all = within (depth value) (members_depth rest) 4 one all

within_if : (name : Text) (value : Option Data) (rest : Members) → ((there : Data) → value ≡ Some there → depth there ≤ 4) → members_depth rest ≤ 4 → members_depth (member_if name value rest) ≤ 4
within_if name None rest one all = all
within_if name (Some value) rest one all = within (depth value) (members_depth rest) 4 (one value refl) all

text_if : (text : Option Text) (there : Data) → option_map string text ≡ Some there → depth there ≤ 4
text_if None there is = cc
text_if (Some text) there is =
    let same : string text ≡ there = cc in
    subst (λ value. depth value ≤ 4) same (at_least 4)

names_if : (names : List DisplayName) (there : Data) → display_names_data names ≡ Some there → depth there ≤ 4
names_if [] there is = cc
names_if (name ∷ names) there is =
    let same : list_data display_name_data (name ∷ names) ≡ there = cc in
    let shallow : depth (list_data display_name_data (name ∷ names)) ≤ 2 = list_within display_name_data 1 (λ one. up 0 0 (at_least 0)) (name ∷ names) in
    subst (λ value. depth value ≤ 4) same (more (depth (list_data display_name_data (name ∷ names))) 2 4 shallow (omega arith))

boundary_if : (is_default : Bool) (regions : Regions) (there : Data) → boundary_data is_default regions ≡ Some there → depth there ≤ 4
boundary_if true regions there is = cc
boundary_if false regions there is =
    let same : regions_data regions ≡ there = cc in
    subst (λ value. depth value ≤ 4) same (regions_within regions)

default_if : (is_default : Bool) (there : Data) → default_data is_default ≡ Some there → depth there ≤ 4
default_if true there is =
    let same : boolean true ≡ there = cc in
    subst (λ value. depth value ≤ 4) same (at_least 4)
default_if false there is = cc

text_within : (name text : Text) (rest : Members) → members_depth rest ≤ 4 → members_depth (member name (string text) rest) ≤ 4
text_within name text rest all = member_within name (string text) rest (at_least 4) all

pub not_deep : (m : Mapping) → depth (publish_data m) ≤ 127
not_deep m =
    let mark = default_data m.is_default in
    let names = display_names_data m.display_names in
    let boundary = boundary_data m.is_default m.regions in
    let at_uri = member (codes "uri") (texts_data m.uris) no_members in
    let at_source_id = member (codes "sourceId") (string m.source_id) at_uri in
    let at_source = member (codes "source") (string m.source) at_source_id in
    let at_number = member_if (codes "serviceNumber") (option_map string m.number) at_source in
    let at_boundary = member_if (codes "serviceBoundary") boundary at_number in
    let at_service = member (codes "service") (string (service_text m.service)) at_boundary in
    let at_updated = member (codes "lastUpdated") (string m.stamp.text) at_service in
    let at_key = member_if (codes "key") (option_map string m.key) at_updated in
    let at_expires = member (codes "expires") (string (expires_text m.expires)) at_key in
    let at_names = member_if (codes "displayName") names at_expires in
    let at_mark = member_if (codes "default") mark at_names in
    let uri : members_depth at_uri ≤ 4 = member_within (codes "uri") (texts_data m.uris) no_members (more (depth (texts_data m.uris)) 1 4 (texts_within m.uris) few) (at_least 4) in
    let source : members_depth at_source ≤ 4 = text_within (codes "source") m.source at_source_id (text_within (codes "sourceId") m.source_id at_uri uri) in
    let number : members_depth at_number ≤ 4 = within_if (codes "serviceNumber") (option_map string m.number) at_source (text_if m.number) source in
    let bounded : members_depth at_boundary ≤ 4 = within_if (codes "serviceBoundary") boundary at_number (boundary_if m.is_default m.regions) number in
    let updated : members_depth at_updated ≤ 4 = text_within (codes "lastUpdated") m.stamp.text at_service (text_within (codes "service") (service_text m.service) at_boundary bounded) in
    let key : members_depth at_key ≤ 4 = within_if (codes "key") (option_map string m.key) at_updated (text_if m.key) updated in
    let named : members_depth at_names ≤ 4 = within_if (codes "displayName") names at_expires (names_if m.display_names) (text_within (codes "expires") (expires_text m.expires) at_key key) in
    let marked : members_depth at_mark ≤ 4 = within_if (codes "default") mark at_names (default_if m.is_default) named in
    more (suc (max (suc (members_depth at_mark)) 0)) 6 127 (up (max (suc (members_depth at_mark)) 0) 5 (within (suc (members_depth at_mark)) 0 5 (up (members_depth at_mark) 4 marked) (at_least 5))) room

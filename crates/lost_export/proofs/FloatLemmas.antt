-- The tree of a publish has no float.
use Rattle.std.proofs.Common.{◌≡◌, ℤ, pos, negsuc, List, [], ◌∷◌, ◌++◌, map, Bool, true, false, ◌||◌, Option, None, Some, option_map, codes, refl, subst}
use Rattle.serde_json.specs.Data.{Data, number, string, Members, no_members, member, put}
use Rattle.serde_json.specs.Find.{is_float, of_integer}
use Rattle.serde_json.specs.View.{items_of}
use Rattle.serde_json.specs.Written.{has_float, items_have_float, members_have_float}
use Rattle.std.specs.Cmp.Lexicographic.{slice_cmp}
use Rattle.std.specs.Ordering.{nat_cmp, match_ordering}
use Rattle.std.proofs.Common.{Ordering, Less, Equal, Greater}
use Rattle.lost_spec.specs.Text.{Text}
use Rattle.lost_spec.specs.Ring.{Point}
use Rattle.lost_spec.specs.Civic.{Pairs}
use Rattle.lost_spec.specs.Place.{Regions}
use Rattle.lost_spec.specs.Mapping.{DisplayName, Mapping}
use Rattle.lost_export.specs.Export.{member_if, list_data, texts_data, position_data, polygon_data, put_pairs, pattern_data, token_set_data, regions_data, display_name_data, display_names_data, default_data, boundary_data, publish_members, publish_data}

both : (a b : Bool) → a ≡ false → b ≡ false → (a || b) ≡ false
both true b h k = cc
both false b h k = k

-- ---- lists

no_float_in : {Thing : Type 0} (shown : Thing → Data) → ((thing : Thing) → has_float (shown thing) ≡ false) → (things : List Thing) → (more : List Data) → items_have_float (items_of more) ≡ false → items_have_float (items_of (map shown things ++ more)) ≡ false
no_float_in shown each [] more rest = rest
no_float_in shown each (thing ∷ things) more rest = both (has_float (shown thing)) _ (each thing) (no_float_in shown each things more rest)

no_float_in_list : {Thing : Type 0} (shown : Thing → Data) → ((thing : Thing) → has_float (shown thing) ≡ false) → (things : List Thing) → has_float (list_data shown things) ≡ false
no_float_in_list shown each [] = refl
no_float_in_list shown each (thing ∷ things) = both (has_float (shown thing)) _ (each thing) (no_float_in_list shown each things)

no_float_in_texts : (texts : List Text) → has_float (texts_data texts) ≡ false
no_float_in_texts texts = no_float_in_list string (λ text. refl) texts

-- ---- regions

no_float_in_whole : (whole : ℤ) → is_float (of_integer whole) ≡ false
no_float_in_whole (pos n) = refl
no_float_in_whole (negsuc n) = refl

no_float_in_position : (point : Point) → has_float (position_data point) ≡ false
no_float_in_position point = no_float_in_list (λ coordinate. number (of_integer coordinate)) no_float_in_whole (point.lat ∷ point.lon ∷ [])

no_float_in_polygon : (polygon : List Point) → has_float (polygon_data polygon) ≡ false
no_float_in_polygon polygon = both (has_float (list_data position_data polygon)) _ (no_float_in_list position_data no_float_in_position polygon) refl

put_no_float_by : (order : Ordering) (name text other : Text) (value : Data) (rest : Members) → has_float value ≡ false → members_have_float rest ≡ false → members_have_float (put name (string text) rest) ≡ false
    → members_have_float (match_ordering order (member name (string text) (member other value rest)) (member other (string text) rest) (member other value (put name (string text) rest))) ≡ false
put_no_float_by Less name text other value rest one all later = both (has_float value) _ one all
put_no_float_by Equal name text other value rest one all later = all
put_no_float_by Greater name text other value rest one all later = both (has_float value) _ one later

first_none : (a b : Bool) → (a || b) ≡ false → a ≡ false
first_none true b h = cc
first_none false b h = refl

second_none : (a b : Bool) → (a || b) ≡ false → b ≡ false
second_none true b h = cc
second_none false b h = h

put_no_float : (name text : Text) (members : Members) → members_have_float members ≡ false → members_have_float (put name (string text) members) ≡ false
put_no_float name text no_members h = refl
put_no_float name text (member other value rest) h =
    let one = first_none (has_float value) (members_have_float rest) h in
    let all = second_none (has_float value) (members_have_float rest) h in
    put_no_float_by (slice_cmp nat_cmp name other) name text other value rest one all (put_no_float name text rest all)

no_float_in_pairs : (before : Members) (pairs : Pairs) → members_have_float before ≡ false → members_have_float (put_pairs before pairs) ≡ false
no_float_in_pairs before [] h = h
no_float_in_pairs before (pair ∷ pairs) h = no_float_in_pairs (put pair.0 (string pair.1) before) pairs (put_no_float pair.0 pair.1 before h)

no_float_in_pattern : (pattern : Pairs) → has_float (pattern_data pattern) ≡ false
no_float_in_pattern pattern = both (members_have_float (put_pairs no_members pattern)) _ (no_float_in_pairs no_members pattern refl) refl

no_float_in_token_set : (tokens : List Text) → has_float (token_set_data tokens) ≡ false
no_float_in_token_set tokens = both (has_float (texts_data tokens)) false (no_float_in_texts tokens) refl

no_float_in_regions : (regions : Regions) → has_float (regions_data regions) ≡ false
no_float_in_regions regions =
    no_float_in polygon_data no_float_in_polygon regions.polygons (map pattern_data regions.patterns ++ map token_set_data regions.token_sets)
    (no_float_in pattern_data no_float_in_pattern regions.patterns (map token_set_data regions.token_sets)
    (no_float_in_list token_set_data no_float_in_token_set regions.token_sets))

-- ---- members

no_float_if : (name : Text) (value : Option Data) (rest : Members) → ((there : Data) → value ≡ Some there → has_float there ≡ false) → members_have_float rest ≡ false → members_have_float (member_if name value rest) ≡ false
no_float_if name None rest one all = all
no_float_if name (Some value) rest one all = both (has_float value) _ (one value refl) all

text_if : (text : Option Text) (there : Data) → option_map string text ≡ Some there → has_float there ≡ false
text_if None there is = cc
text_if (Some text) there is = cc

names_if : (names : List DisplayName) (there : Data) → display_names_data names ≡ Some there → has_float there ≡ false
names_if [] there is = cc
names_if (name ∷ names) there is =
    let same : list_data display_name_data (name ∷ names) ≡ there = cc in
    subst (λ value. has_float value ≡ false) same (no_float_in_list display_name_data (λ n. refl) (name ∷ names))

boundary_if : (is_default : Bool) (regions : Regions) (there : Data) → boundary_data is_default regions ≡ Some there → has_float there ≡ false
boundary_if true regions there is = cc
boundary_if false regions there is =
    let same : regions_data regions ≡ there = cc in
    subst (λ value. has_float value ≡ false) same (no_float_in_regions regions)

default_if : (is_default : Bool) (there : Data) → default_data is_default ≡ Some there → has_float there ≡ false
default_if true there is = cc
default_if false there is = cc

pub no_float : (m : Mapping) → has_float (publish_data m) ≡ false
no_float m =
    let uris = both (has_float (texts_data m.uris)) false (no_float_in_texts m.uris) refl in
    let number = no_float_if (codes "serviceNumber") (option_map string m.number) (member (codes "source") (string m.source) (member (codes "sourceId") (string m.source_id) (member (codes "uri") (texts_data m.uris) no_members))) (text_if m.number) uris in
    let boundary = no_float_if (codes "serviceBoundary") (boundary_data m.is_default m.regions) _ (boundary_if m.is_default m.regions) number in
    let key = no_float_if (codes "key") (option_map string m.key) _ (text_if m.key) boundary in
    let names = no_float_if (codes "displayName") (display_names_data m.display_names) _ (names_if m.display_names) key in
    let mark = no_float_if (codes "default") (default_data m.is_default) _ (default_if m.is_default) names in
    both (members_have_float (publish_members m)) false mark refl

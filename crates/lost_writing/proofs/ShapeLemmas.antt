-- The trees of replies, written part by part.
use Rattle.std.proofs.Common.{◌≡◌, ℕ, List, [], ◌∷◌, ◌++◌, map, Option, option_map, codes, ap, sym, ◌∙◌}
use Rattle.std.proofs.lemmas.List.{map-append}
use Rattle.std.proofs.lemmas.Simd.{map-map}
use Rattle.json.specs.Token.{Token, begin_object, end_object, begin_array, end_array, key}
use Rattle.serde_json.specs.Data.{Data, Members, no_members, member, array, object, string, number, unsigned}
use Rattle.serde_json.specs.Find.{of_integer}
use Rattle.serde_json.specs.View.{items_of}
use Rattle.lost_spec.specs.Text.{Text}
use Rattle.lost_spec.specs.Ring.{Point}
use Rattle.lost_spec.specs.Service.{service_text}
use Rattle.lost_spec.specs.Mapping.{Mapping}
use Rattle.lost_spec.specs.Request.{Boundary}
use Rattle.lost_writing.specs.Replies.{list_data, texts_data, member_if, one_member, position_data, expires_text, display_names_data, value_data, reference_data, mapping_data}
use Rattle.lost_writing.specs.Tokens.{then_token, then_value, then_member, then_member_if, then_members, then_values, then_begun, then_ended}
use Rattle.lost_writing.proofs.TokenLemmas.{object_written, list_written, member_if_written, values_joined}

-- an object with one member
pub one_written : (name : Text) (value : Data) (before : List Token) → then_token end_object (then_member name value (then_token begin_object before)) ≡ then_value (one_member name value) before
one_written name value before = object_written (member name value no_members) before

-- an object with one member that is an object of these members
pub inner_written : (name : Text) (members : Members) (before : List Token) → then_ended (then_members members (then_begun name before)) ≡ then_value (one_member name (object members)) before
inner_written name members before =
    ap (then_token end_object) (object_written members (then_token (key name) (then_token begin_object before))) ∙ one_written name (object members) before

-- an object with two members
pub two_written : (first : Text) (value : Data) (second : Text) (other : Data) (before : List Token)
    → then_token end_object (then_member second other (then_member first value (then_token begin_object before))) ≡ then_value (object (member first value (member second other no_members))) before
two_written first value second other before = object_written (member first value (member second other no_members)) before

-- an object with three members
pub three_written : (a : Text) (x : Data) (b : Text) (y : Data) (c : Text) (z : Data) (before : List Token)
    → then_token end_object (then_member c z (then_member b y (then_member a x (then_token begin_object before)))) ≡ then_value (object (member a x (member b y (member c z no_members)))) before
three_written a x b y c z before = object_written (member a x (member b y (member c z no_members))) before

-- the same, inside an object with one member
pub inner_one : (name a : Text) (x : Data) (before : List Token) → then_ended (then_member a x (then_begun name before)) ≡ then_value (one_member name (one_member a x)) before
inner_one name a x before = inner_written name (member a x no_members) before

pub inner_two : (name a : Text) (x : Data) (b : Text) (y : Data) (before : List Token)
    → then_ended (then_member b y (then_member a x (then_begun name before))) ≡ then_value (one_member name (object (member a x (member b y no_members)))) before
inner_two name a x b y before = inner_written name (member a x (member b y no_members)) before

pub inner_three : (name a : Text) (x : Data) (b : Text) (y : Data) (c : Text) (z : Data) (before : List Token)
    → then_ended (then_member c z (then_member b y (then_member a x (then_begun name before)))) ≡ then_value (one_member name (object (member a x (member b y (member c z no_members))))) before
inner_three name a x b y c z before = inner_written name (member a x (member b y (member c z no_members))) before

pub inner_four : (name a : Text) (x : Data) (b : Text) (y : Data) (c : Text) (z : Data) (d : Text) (w : Data) (before : List Token)
    → then_ended (then_member d w (then_member c z (then_member b y (then_member a x (then_begun name before))))) ≡ then_value (one_member name (object (member a x (member b y (member c z (member d w no_members)))))) before
inner_four name a x b y c z d w before = inner_written name (member a x (member b y (member c z (member d w no_members)))) before

-- one list after another
pub two_lists_written : (first second : List Data) (before : List Token)
    → then_token end_array (then_values second (then_values first (then_token begin_array before))) ≡ then_value (array (items_of (first ++ second))) before
two_lists_written first second before = ap (then_token end_array) (sym (values_joined first second (then_token begin_array before))) ∙ list_written (first ++ second) before

-- three lists, one after another
pub three_lists_written : (first second third : List Data) (before : List Token)
    → then_token end_array (then_values third (then_values second (then_values first (then_token begin_array before)))) ≡ then_value (array (items_of (first ++ (second ++ third)))) before
three_lists_written first second third before =
    ap (then_token end_array) (sym (values_joined second third (then_values first (then_token begin_array before)))) ∙ two_lists_written first (second ++ third) before

-- a list of what things stand for, and one more
pub longer_list_written : {Thing Seen : Type 0} (written : Seen → Data) (seen : Thing → Seen) (things : List Thing) (last : Seen) (before : List Token)
    → then_token end_array (then_value (written last) (then_values (map (λ thing. written (seen thing)) things) (then_token begin_array before))) ≡ then_value (list_data written (map seen things ++ last ∷ [])) before
longer_list_written written seen things last before =
    let trees = sym (map-append written (map seen things) (last ∷ []) ∙ ap (λ front. front ++ written last ∷ []) (map-map written seen things)) in
    two_lists_written (map (λ thing. written (seen thing)) things) (written last ∷ []) before ∙ ap (λ list. then_value (array (items_of list)) before) trees

pub position_written : (point : Point) (before : List Token)
    → then_token end_array (then_value (number (of_integer point.lon)) (then_value (number (of_integer point.lat)) (then_token begin_array before))) ≡ then_value (position_data point) before
position_written point before = list_written (number (of_integer point.lat) ∷ number (of_integer point.lon) ∷ []) before

-- the members of a mapping
pub mapping_written : (boundary : Boundary) (m : Mapping) (before : List Token)
    → then_token end_object (then_member (codes "uri") (texts_data m.uris) (then_member (codes "sourceId") (string m.source_id) (then_member (codes "source") (string m.source)
    (then_member_if (codes "serviceNumber") (option_map string m.number) (then_member_if (codes "serviceBoundaryReference") (reference_data boundary) (then_member_if (codes "serviceBoundary") (value_data boundary)
    (then_member (codes "service") (string (service_text m.service)) (then_member (codes "lastUpdated") (string m.stamp.text) (then_member (codes "expires") (string (expires_text m.expires))
    (then_member_if (codes "displayName") (display_names_data m.display_names) (then_token begin_object before)))))))))))
    ≡ then_value (mapping_data boundary m) before
mapping_written boundary m before =
    let last = member (codes "source") (string m.source) (member (codes "sourceId") (string m.source_id) (member (codes "uri") (texts_data m.uris) no_members)) in
    let dialled = member_if (codes "serviceNumber") (option_map string m.number) last in
    let referred = member_if (codes "serviceBoundaryReference") (reference_data boundary) dialled in
    let shown = member_if (codes "serviceBoundary") (value_data boundary) referred in
    let rest = member (codes "expires") (string (expires_text m.expires)) (member (codes "lastUpdated") (string m.stamp.text) (member (codes "service") (string (service_text m.service)) shown)) in
    let begun = then_token begin_object before in
    let named = then_member_if (codes "displayName") (display_names_data m.display_names) begun in
    let served = then_member (codes "service") (string (service_text m.service)) (then_member (codes "lastUpdated") (string m.stamp.text) (then_member (codes "expires") (string (expires_text m.expires)) named)) in
    let valued = then_member_if (codes "serviceBoundary") (value_data boundary) served in
    let bounded = then_member_if (codes "serviceBoundaryReference") (reference_data boundary) valued in
    let steps =
    member_if_written (codes "displayName") (display_names_data m.display_names) rest begun
    ∙ (member_if_written (codes "serviceBoundary") (value_data boundary) referred served
    ∙ (member_if_written (codes "serviceBoundaryReference") (reference_data boundary) dialled valued
    ∙ member_if_written (codes "serviceNumber") (option_map string m.number) last bounded)) in
    ap (then_token end_object) (sym steps) ∙ object_written (member_if (codes "displayName") (display_names_data m.display_names) rest) before

-- the members of a reply with mappings
pub found_written : (edition : ℕ) (location_used : Text) (judged : Option Data) (mappings : Data) (path : Data) (warnings : Option Data) (before : List Token)
    → then_ended (then_member_if (codes "warnings") warnings (then_member (codes "path") path (then_member (codes "mapping") mappings (then_member_if (codes "locationValidation") judged
    (then_member (codes "locationUsed") (string location_used) (then_member (codes "edition") (number (unsigned edition)) (then_begun (codes "findServiceResponse") before)))))))
    ≡ then_value (one_member (codes "findServiceResponse") (object
    (member (codes "edition") (number (unsigned edition)) (member (codes "locationUsed") (string location_used)
    (member_if (codes "locationValidation") judged (member (codes "mapping") mappings (member (codes "path") path (member_if (codes "warnings") warnings no_members)))))))) before
found_written edition location_used judged mappings path warnings before =
    let warned = member_if (codes "warnings") warnings no_members in
    let rest = member (codes "mapping") mappings (member (codes "path") path warned) in
    let located = then_member (codes "locationUsed") (string location_used) (then_member (codes "edition") (number (unsigned edition)) (then_begun (codes "findServiceResponse") before)) in
    let validated = then_member_if (codes "locationValidation") judged located in
    let shown = then_member (codes "path") path (then_member (codes "mapping") mappings validated) in
    let steps = member_if_written (codes "locationValidation") judged rest located ∙ member_if_written (codes "warnings") warnings no_members shown in
    let members = member (codes "edition") (number (unsigned edition)) (member (codes "locationUsed") (string location_used) (member_if (codes "locationValidation") judged rest)) in
    ap then_ended (sym steps) ∙ inner_written (codes "findServiceResponse") members before

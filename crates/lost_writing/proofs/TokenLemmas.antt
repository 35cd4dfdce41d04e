-- The tokens of objects and lists, part by part.
use Rattle.std.proofs.Common.{◌≡◌, ℕ, ◌+◌, ◌<◌, ℤ, pos, negsuc, List, [], ◌∷◌, ◌++◌, map, Option, None, Some, Result, OnOk, take, length, get_or, refl, sym, ap, ◌∙◌, append_assoc}
use Rattle.std.proofs.lemmas.List.{take_more, map-append}
use Rattle.std.proofs.lemmas.Result.{on_ok_weaker}
use Rattle.std.specs.Fmt.{signed_decimal}
use Rattle.json.specs.Token.{Token, begin_object, end_object, begin_array, end_array, key}
use Rattle.json.specs.Tree.{json_tokens, items_tokens, members_tokens}
use Rattle.json.specs.Print.{print}
use Rattle.serde_json.specs.Data.{Data, Members, no_members, member, object, array}
use Rattle.serde_json.specs.Find.{of_integer}
use Rattle.serde_json.specs.View.{items_of}
use Rattle.serde_json.specs.Written.{outline, items_outline, members_outline, compact_text, number_text}
use Rattle.serde_json.proofs.Texts.{print-outline}
use Rattle.lost_spec.specs.Text.{Text}
use Rattle.lost_writing.specs.Replies.{member_if}
use Rattle.lost_writing.specs.Tokens.{then_token, then_value, then_member, then_member_if, then_members, then_values}

joined : (before : List Token) (token : Token) (some rest : List Token) → ((before ++ token ∷ []) ++ some) ++ rest ≡ before ++ token ∷ (some ++ rest)
joined before token some rest = simp append_assoc

-- the members and the closing bracket
members_closed : (members : Members) (before : List Token) → then_token end_object (then_members members before) ≡ before ++ members_tokens (members_outline members)
unfolding then_token then_value
members_closed no_members before = refl
members_closed (member name value rest) before = members_closed rest (then_member name value before) ∙ joined before (key name) (json_tokens (outline value)) (members_tokens (members_outline rest))

-- an object: its opening bracket, its members, its closing bracket
pub object_written : (members : Members) (before : List Token) → then_token end_object (then_members members (then_token begin_object before)) ≡ then_value (object members) before
unfolding then_token then_value
object_written members before = members_closed members (then_token begin_object before) ∙ append_assoc before (begin_object ∷ []) (members_tokens (members_outline members))

-- the values and the closing bracket
values_closed : (values : List Data) (before : List Token) → then_token end_array (then_values values before) ≡ before ++ items_tokens (items_outline (items_of values))
unfolding then_token then_value
values_closed [] before = refl
values_closed (value ∷ rest) before = values_closed rest (then_value value before) ∙ append_assoc before (json_tokens (outline value)) (items_tokens (items_outline (items_of rest)))

-- a list: its opening bracket, its values, its closing bracket
pub list_written : (values : List Data) (before : List Token) → then_token end_array (then_values values (then_token begin_array before)) ≡ then_value (array (items_of values)) before
unfolding then_token then_value
list_written values before = values_closed values (then_token begin_array before) ∙ append_assoc before (begin_array ∷ []) (items_tokens (items_outline (items_of values)))

-- a member that may be there, before others
pub member_if_written : (name : Text) (value : Option Data) (rest : Members) (before : List Token) → then_members (member_if name value rest) before ≡ then_members rest (then_member_if name value before)
member_if_written name None rest before = refl
member_if_written name (Some value) rest before = refl

-- values after others
pub values_joined : (first second : List Data) (before : List Token) → then_values (first ++ second) before ≡ then_values second (then_values first before)
values_joined [] second before = refl
values_joined (value ∷ rest) second before = values_joined rest second (then_value value before)

-- a whole number of either sign
pub whole_text : (whole : ℤ) → signed_decimal whole ≡ number_text (of_integer whole)
whole_text (pos n) = refl
whole_text (negsuc n) = refl

-- what is printed for a tree alone is its compact text
pub value_printed : (value : Data) → print (then_value value []) ≡ compact_text value
unfolding then_value
value_printed value = print-outline value

-- one more thing is written after those up to a place
pub values_more : {Thing : Type 0} (written : Thing → Data) (things : List Thing) (i : ℕ) (thing : Thing) (before : List Token) → i < length things → thing ≡ get_or things i thing
    → then_values (map written (take (i + 1) things)) before ≡ then_value (written thing) (then_values (map written (take i things)) before)
values_more written things i thing before within is =
    ap (λ some. then_values (map written some) before) (take_more things i thing within ∙ ap (λ item. take i things ++ item ∷ []) (sym is))
    ∙ (ap (λ trees. then_values trees before) (map-append written (take i things) (thing ∷ [])) ∙ values_joined (map written (take i things)) (written thing ∷ []) before)

-- what follows from what the last step wrote
pub when_ok : {E P Q : Type 0} (result : Result (Unit {0}) E) → OnOk result P → (P → Q) → OnOk result Q
when_ok result last follows = on_ok_weaker result follows last

-- Which lists and members are of their kinds.
use Rattle.std.proofs.Common.{◌≡◌, ◌&&◌, true, List, [], ◌∷◌, map, Option, Some, None, is_some, option_map, option_and_then, refl, ap, ◌∙◌}
use Rattle.std.specs.List.{list_all}
use Rattle.serde_json.specs.Data.{Data}
use Rattle.serde_json.specs.View.{view, items_view}
use Rattle.serde_json.specs.declared.value.Value.{Value}
use Rattle.lost_reading.specs.Members.{each_of}

both_some : {First Rest Both : Type 0} (made : First → Rest → Both) (first : Option First) (rest : Option Rest)
    → (is_some first && is_some rest) ≡ is_some (option_and_then (λ x. option_map (made x) rest) first)
both_some made None rest = refl
both_some made (Some x) None = refl
both_some made (Some x) (Some y) = refl

-- a list is of a kind where each of its items is
pub list_all-fits : {Thing : Type 0} (kind : Data → Option Thing) (values : List Value)
    → list_all (λ value. is_some (kind (view value))) values ≡ is_some (each_of kind (items_view values))
list_all-fits kind [] = refl
list_all-fits kind (value ∷ values) =
    ap (λ rest. is_some (kind (view value)) && rest) (list_all-fits kind values)
    ∙ both_some (λ thing things. thing ∷ things) (kind (view value)) (each_of kind (items_view values))

told_first : {Thing : Type 0} (first : Option Thing) (rest : Option (List Thing)) (thing : Thing) (things : List Thing) → ((x : Thing) → first ≡ Some x → thing ≡ x)
    → (true ≡ is_some rest → Some things ≡ rest) → true ≡ is_some (option_and_then (λ x. option_map (λ xs. x ∷ xs) rest) first)
    → Some (thing ∷ things) ≡ option_and_then (λ x. option_map (λ xs. x ∷ xs) rest) first
told_first None rest thing things is_first are_rest h = absurd (cc)
told_first (Some x) None thing things is_first are_rest h = absurd (cc)
told_first (Some x) (Some xs) thing things is_first are_rest h =
    let one : thing ≡ x = is_first x refl in
    let more : Some things ≡ Some xs = are_rest refl in
    cc

-- what is told of a list whose items are of a kind
pub each_told : {Thing : Type 0} (kind : Data → Option Thing) (told : Data → Thing) → ((value : Data) (thing : Thing) → kind value ≡ Some thing → told value ≡ thing)
    → (values : List Value) → true ≡ is_some (each_of kind (items_view values)) → Some (map (λ value. told (view value)) values) ≡ each_of kind (items_view values)
each_told kind told is_told [] h = refl
each_told kind told is_told (value ∷ values) h =
    told_first (kind (view value)) (each_of kind (items_view values)) (told (view value)) (map (λ value. told (view value)) values) (is_told (view value)) (each_told kind told is_told values) h

-- The texts that are kept beside the pairs, a step of a loop at a time.
use Rattle.std.proofs.Common.{◌≡◌, ℕ, ◌+◌, ◌<◌, Bool, true, false, List, [], ◌∷◌, ◌++◌, map, length, get_or, take, drop, suc, add-one, drop-cons, Option, Some, option_map, cond, find, String, string_bytes, refl, sym, ◌∙◌, ap, arith}
use Rattle.std.specs.List.{list_all}
use Rattle.std.proofs.lemmas.Bool.{false≢true}
use Rattle.std.proofs.lemmas.List.{take_more, map-append, length-map, get_or-map}
use Rattle.std.proofs.lemmas.Slice.Eq.{bytes_eq-Decides}
use Rattle.std.proofs.lemmas.List.Folds.{list_all_at, list_all-map}
use Rattle.lost_spec.specs.Civic.{Pairs, names_of, is_known, value_of, comparison_text, has_value, matches}
use Rattle.lost_spec.specs.Text.{Text, same_text}
use Rattle.lost_civic.specs.declared.elements.Element.{Element}
use Rattle.lost_civic.specs.declared.elements.Element.TheVariants.{Country}
use Rattle.lost_civic.specs.Element.{element_index, element_name, all_elements}
use Rattle.lost_civic.specs.Pairs.{seen_pairs}
use Rattle.lost_civic.specs.Texts.{text_of, table_of, seen_table, compared_of, seen_one, seen_compared}
use Rattle.lost_civic.specs.declared.texts.Compared.{Compared}
use Rattle.lost_civic.proofs.ElementLemmas.{all_elements-element_index, names_differ}
use Rattle.lost_civic.proofs.PairLemmas.{list_all-names}

true-from_not_false : (b : Bool) → (b ≡ false → ⊥) → b ≡ true
true-from_not_false true h = refl
true-from_not_false false h = absurd (h refl)

-- of names that are all known, each is known
pub known_at : {A : Type 0} (pairs : List (String A × String A)) (i : ℕ) (pair : String A × String A) → i < length pairs → pair ≡ get_or pairs i pair → list_all is_known (names_of (seen_pairs pairs)) ≡ true → is_known (string_bytes pair.0) ≡ true
known_at {A} pairs i pair within is all =
    let knows : String A × String A → Bool = λ other. is_known (string_bytes other.0) in
    true-from_not_false (knows pair) (λ unknown. false≢true (sym (list_all_at knows pairs i pair within (ap knows (sym is) ∙ unknown)) ∙ (list_all-names is_known pairs ∙ all)))

-- one more text of the table
pub table_more : {A : Type 0} (pairs : Pairs) (texts : List (Option (String A))) (text : Option (String A)) (i : ℕ) → i < 31 → seen_table texts ≡ map (λ element. text_of element pairs) (take i all_elements) → option_map string_bytes text ≡ text_of (get_or all_elements i Country) pairs → seen_table (texts ++ text ∷ []) ≡ map (λ element. text_of element pairs) (take (i + 1) all_elements)
table_more pairs texts text i within before here =
    let text_at : Element → Option (List ℕ) = λ element. text_of element pairs in
    rw (map-append, take_more all_elements i Country within, map-append) (rw (before, here) refl)

-- the table has a text for each element
pub length-table : {A : Type 0} (texts : List (Option (String A))) (pairs : Pairs) → seen_table texts ≡ table_of pairs → length texts ≡ 31
length-table texts pairs kept = sym (length-map texts (option_map string_bytes)) ∙ ap length kept

-- the table has an element's text at its place
pub text_of-at : {A : Type 0} (texts : List (Option (String A))) (pairs : Pairs) (element : Element) (text : Option (String A)) → element_index element < 31 → seen_table texts ≡ table_of pairs → text ≡ get_or texts (element_index element) text → option_map string_bytes text ≡ text_of element pairs
text_of-at texts pairs element text within kept is =
    let place = element_index element in
    let seen = option_map string_bytes text in
    let text_at : Element → Option Text = λ other. text_of other pairs in
    let inside : place < length texts = omega (arith, length-table texts pairs kept) in
    ap (option_map string_bytes) is ∙ (sym (get_or-map (option_map string_bytes) texts place text seen inside) ∙ (ap (λ table. get_or table place seen) kept ∙ (get_or-map text_at all_elements place Country seen within ∙ ap text_at (all_elements-element_index element Country))))

compared_by : (test : Bool) (name value : Text) (found meant : Option (Text × Text)) → option_map (λ pair. pair.1) found ≡ option_map comparison_text (option_map (λ pair. pair.1) meant) → option_map (λ pair. pair.1) (cond test (Some (name, comparison_text value)) found) ≡ option_map comparison_text (option_map (λ pair. pair.1) (cond test (Some (name, value)) meant))
compared_by true name value found meant h = refl
compared_by false name value found meant h = h

-- the text that stands beside a name is the comparison text of the value that does
pub value_of-compared_of : (name : Text) (pairs : Pairs) → value_of name (compared_of pairs) ≡ option_map comparison_text (value_of name pairs)
value_of-compared_of name [] = refl
value_of-compared_of name (pair ∷ rest) =
    let has_name : Text × Text → Bool = λ other. same_text name other.0 in
    compared_by (has_name pair) pair.0 pair.1 (find has_name (compared_of rest)) (find has_name rest) (value_of-compared_of name rest)

-- the kept texts are compared as the definition compares the values
pub list_all-compared : (list : List Compared) (pattern address : Pairs) → seen_compared list ≡ compared_of pattern → list_all (λ compared. has_value address (element_name compared.element) (string_bytes compared.text)) list ≡ matches pattern address
list_all-compared list pattern address kept =
    let has : Text × Text → Bool = λ pair. has_value address pair.0 pair.1 in
    sym (list_all-map has seen_one list) ∙ (ap (list_all has) kept ∙ list_all-map has (λ (pair : Text × Text). (pair.0, comparison_text pair.1)) pattern)

drop-item : {X : Type 0} (xs : List X) (i : ℕ) (x : X) → i < length xs → x ≡ get_or xs i x → drop i xs ≡ x ∷ drop (i + 1) xs
drop-item xs i x within is = rw add-one (drop-cons xs i x within ∙ ap (λ y. y ∷ drop (suc i) xs) (sym is))

-- the text that is kept for the element at a place, and one of another element
pub value_of-at : (list : List Compared) (i : ℕ) (compared : Compared) (element : Element) → i < length list → compared ≡ get_or list i compared → compared.element ≡ element → value_of (element_name element) (seen_compared (drop i list)) ≡ Some (string_bytes compared.text)
value_of-at list i compared element within is same =
    let name = element_name element in
    let others = find (λ (pair : Text × Text). same_text name pair.0) (seen_compared (drop (i + 1) list)) in
    let named : same_text name (element_name compared.element) ≡ true = (bytes_eq-Decides name (element_name compared.element)).1 (ap element_name (sym same)) in
    ap (λ rest. value_of name (seen_compared rest)) (drop-item list i compared within is) ∙ ap (λ test. option_map (λ (pair : Text × Text). pair.1) (cond test (Some (seen_one compared)) others)) named

pub value_of-past : (list : List Compared) (i : ℕ) (compared : Compared) (element : Element) → i < length list → compared ≡ get_or list i compared → (compared.element ≡ element → ⊥) → value_of (element_name element) (seen_compared (drop i list)) ≡ value_of (element_name element) (seen_compared (drop (i + 1) list))
value_of-past list i compared element within is differ =
    let name = element_name element in
    let others = find (λ (pair : Text × Text). same_text name pair.0) (seen_compared (drop (i + 1) list)) in
    ap (λ rest. value_of name (seen_compared rest)) (drop-item list i compared within is) ∙ ap (λ test. option_map (λ (pair : Text × Text). pair.1) (cond test (Some (seen_one compared)) others)) (names_differ compared.element element differ)

-- The names of an address that are of no element, put into a set one by one.
use Rattle.std.proofs.Common.{◌≡◌, ◌↔◌, Bool, true, false, not, cond, List, [], ◌∷◌, ◌++◌, map, Option, IsNone, is_some, String, string_bytes, refl, sym, ap, ◌∙◌, append_assoc}
use Rattle.std.specs.List.{AllByRecursion}
use Rattle.std.specs.Ordering.{nat_cmp}
use Rattle.std.specs.BTreeSet.{insert_key}
use Rattle.std.specs.String.{string_cmp}
use Rattle.std.specs.Cmp.Lexicographic.{slice_cmp}
use Rattle.std.proofs.lemmas.List.{map-append}
use Rattle.lost_spec.specs.Text.{is_before, same_text, insert_by, ascending_by}
use Rattle.lost_spec.specs.Civic.{Pairs, is_known}
use Rattle.lost_spec.specs.Validation.{unknown_names}
use Rattle.lost_civic.specs.declared.elements.Element.{Element}
use Rattle.lost_civic.specs.Pairs.{seen_pair, seen_pairs}
use Rattle.lost_query.proofs.InsertLemmas.{insert_key-insert_by}

-- a name that is found to be of no element is not known
not_known : (found : Option Element) (known none : Bool) → (IsNone found ↔ (known ≡ false)) → is_some found ≡ not none → none ≡ true → known ≡ false
not_known found known none same is missing = same.0 (is ∙ ap not missing)

module _ {Z : Type 0} where
  -- what is before, seen by its bytes
  map-insert_by : (x : String Z) (xs : List (String Z)) → map string_bytes (insert_by string_bytes x xs) ≡ insert_by (λ name. name) (string_bytes x) (map string_bytes xs)
  map-insert_by x [] = refl
  map-insert_by x (y ∷ ys) =
      elim (is_before (string_bytes x) (string_bytes y)) as (λ b. map string_bytes (cond b (x ∷ y ∷ ys) (cond (same_text (string_bytes x) (string_bytes y)) (y ∷ ys) (y ∷ insert_by string_bytes x ys))) ≡ cond b (string_bytes x ∷ string_bytes y ∷ map string_bytes ys) (cond (same_text (string_bytes x) (string_bytes y)) (string_bytes y ∷ map string_bytes ys) (string_bytes y ∷ insert_by (λ name. name) (string_bytes x) (map string_bytes ys)))) [
        | true ↦ refl
        | false ↦ elim (same_text (string_bytes x) (string_bytes y)) as (λ b. map string_bytes (cond b (y ∷ ys) (y ∷ insert_by string_bytes x ys)) ≡ cond b (string_bytes y ∷ map string_bytes ys) (string_bytes y ∷ insert_by (λ name. name) (string_bytes x) (map string_bytes ys))) [
          | true ↦ refl
          | false ↦ ap (λ rest. string_bytes y ∷ rest) (map-insert_by x ys)
        ]
      ]

  by_bytes : (x : String Z) (xs : List (String Z)) → AllByRecursion (λ y. string_cmp x y ≡ slice_cmp nat_cmp (string_bytes x) (string_bytes y)) xs
  by_bytes x [] = tt
  by_bytes x (y ∷ ys) = (refl, by_bytes x ys)

  -- a name put into a set of names
  pub insert_key-names : (x : String Z) (xs : List (String Z)) → map string_bytes (insert_key string_cmp xs x) ≡ insert_by (λ name. name) (string_bytes x) (map string_bytes xs)
  insert_key-names x xs = ap (map string_bytes) (insert_key-insert_by string_bytes string_cmp x xs (by_bytes x xs)) ∙ map-insert_by x xs

-- one more pair, whose name is of no element
module _ {Y Z : Type 0} (rest front : List (String Y × String Y)) (pair : String Y × String Y) (done address : Pairs) (old new : List (String Z)) (key : String Z) (found : Option Element) (none : Bool) where
  pub unknown_names_more :
      rest ≡ front ++ pair ∷ []
      → seen_pairs rest ++ done ≡ address
      → map string_bytes old ≡ ascending_by (λ name. name) (unknown_names done)
      → (IsNone found ↔ (is_known (string_bytes pair.0) ≡ false)) → is_some found ≡ not none → none ≡ true
      → new ≡ insert_key string_cmp old key → string_bytes key ≡ string_bytes pair.0
      → (more : Pairs) × (seen_pairs front ++ more ≡ address) × (map string_bytes new ≡ ascending_by (λ name. name) (unknown_names more))
  unknown_names_more next is so_far same found_is missing keys copy =
      let unknown = not_known found (is_known (string_bytes pair.0)) none same found_is missing in
      let whole : seen_pairs front ++ (seen_pair pair ∷ done) ≡ address = sym (append_assoc (seen_pairs front) (seen_pair pair ∷ []) done) ∙ ap (λ ps. ps ++ done) (sym (map-append seen_pair front (pair ∷ []))) ∙ ap (λ ps. seen_pairs ps ++ done) (sym next) ∙ is in
      let put : map string_bytes new ≡ insert_by (λ name. name) (string_bytes pair.0) (ascending_by (λ name. name) (unknown_names done)) = ap (map string_bytes) keys ∙ insert_key-names key old ∙ ap (λ name. insert_by (λ n. n) name (map string_bytes old)) copy ∙ ap (insert_by (λ name. name) (string_bytes pair.0)) so_far in
      (seen_pair pair ∷ done, whole, put ∙ ap (λ b. ascending_by (λ name. name) (cond (not b) (string_bytes pair.0 ∷ unknown_names done) (unknown_names done))) (sym unknown))

-- What stands in a list of notes after one is put in, and where a number stands.
use Rattle.std.proofs.Common.{◌≡◌, ℕ, ◌<◌, ◌≤◌, Bool, true, false, List, ◌∷◌, insert, nat_eq, leb, leb-true, leb-false, ltb, ltb-true, ltb-false, sym, arith, ◌∙◌}
use Rattle.std.specs.List.{list_any}
use Rattle.std.specs.List.Sorted.{IsNonDecreasingBy, IsPartitionedBy, IsPartitionPoint}
use Rattle.std.proofs.lemmas.Bool.{and_from, or_right}
use Rattle.std.proofs.lemmas.Bool.Decides.{nat_tests}
use Rattle.std.proofs.lemmas.List.Sorted.{IsPermutation-insert, list_any-IsPermutation, IsPartitionedBy-leb, IsPartitionedBy-ltb}
use Rattle.lost_index.specs.declared.note.Note.{Note}
use Rattle.lost_index.specs.Notes.{number_of, is_note}

-- what stands in a list stands there with one element more
pub stands-insert : {X : Type 0} (test : X → Bool) (xs : List X) (i : ℕ) (x : X) → list_any test xs ≡ true → list_any test (insert xs i x) ≡ true
stands-insert test xs i x h =
    sym (list_any-IsPermutation test (x ∷ xs) (insert xs i x) (IsPermutation-insert xs i x)) ∙ or_right (test x) (list_any test xs) h

-- and what stands there then stood there, or is that one
pub stands-insert_back : {X : Type 0} (test : X → Bool) (xs : List X) (i : ℕ) (x : X) → list_any test (insert xs i x) ≡ true → list_any test (x ∷ xs) ≡ true
stands-insert_back test xs i x h = list_any-IsPermutation test (x ∷ xs) (insert xs i x) (IsPermutation-insert xs i x) ∙ h

same_itself : (n : ℕ) → nat_eq n n ≡ true
same_itself n = grind (arith, nat_tests)

-- a note is of its own number and outline
pub is_itself : {O : Type 0} (same : O → O → Bool) → ((o : O) → same o o ≡ true) → (note : Note O) → is_note same note.number note.outline note ≡ true
is_itself same refl_same note = and_from (nat_eq note.number note.number) (same note.outline note.outline) (same_itself note.number) (refl_same note.outline)

-- ---- where the notes of a number stand: the numbers rise, and a search finds a point between those that pass and the others
module _ {O : Type 0} (number : ℕ) (notes : List (Note O)) (i : ℕ) (rising : IsNonDecreasingBy number_of notes) where
  abbrev Parts : (Note O → Bool) → Type 0
  Parts p = IsPartitionedBy p notes → IsPartitionPoint (λ note. p note ≡ true) (λ note. p note ≡ false) notes i

  -- from the front to their start
  pub point_from : Parts (λ note. ltb (number_of note) number) → IsPartitionPoint (λ note. number_of note < number) (λ note. number ≤ number_of note) notes i
  point_from parts =
      let point = parts (IsPartitionedBy-ltb number_of notes number rising) in
      (λ k d low lt. ltb-true _ _ (point.0 k d low lt), λ k d low lt. ltb-false _ _ (point.1 k d low lt))

  -- and to their end
  pub point_above : Parts (λ note. leb (number_of note) number) → IsPartitionPoint (λ note. number_of note ≤ number) (λ note. number < number_of note) notes i
  point_above parts =
      let point = parts (IsPartitionedBy-leb number_of notes number rising) in
      (λ k d low lt. leb-true _ _ (point.0 k d low lt), λ k d low lt. leb-false _ _ (point.1 k d low lt))

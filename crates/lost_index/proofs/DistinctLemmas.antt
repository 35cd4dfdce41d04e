-- Notes no two of which are alike.
use Rattle.std.proofs.Common.{◌≡◌, ◌⊎◌, inl, inr, ℕ, ◌+◌, ◌-◌, ◌<◌, ◌≤◌, Bool, false, List, length, insert, slice_get, get_or, nat_eq, AllPairs, refl, sym, ap, arith, true≢false, ◌∙◌}
use Rattle.std.specs.Cmp.{nat_eq_equiv}
use Rattle.std.specs.List.{list_any, AllWithin}
use Rattle.std.specs.Option.{option_map_or}
use Rattle.std.proofs.lemmas.Bool.{cases_lt, cases_eq, false_from_ne_true, and_left}
use Rattle.std.proofs.lemmas.Bool.Decides.{nat_tests}
use Rattle.std.proofs.lemmas.List.Edits.{length-insert, get_or-insert_below, get_or-insert_at, get_or-insert_above}
use Rattle.std.proofs.lemmas.List.Folds.{list_any_none, list_any_at}
use Rattle.std.proofs.lemmas.Option.{slice_get-get_or}
use Rattle.lost_index.specs.declared.note.Note.{Note}
use Rattle.lost_index.specs.Notes.{number_of, is_note, has_note}

-- ---- pairs of a list with an element more
module _ {X : Type 0} (R : X → X → Type 0) (xs : List X) (i : ℕ) (y : X) (within : i ≤ length xs) (pairs : AllPairs R xs)
    (low : (k : ℕ) (d : X) → k < i → R (get_or xs k d) y) (high : (k : ℕ) (d : X) → i ≤ k → k < length xs → R y (get_or xs k d)) where
  behind : (b : ℕ) (d : X) → i < b → get_or (insert xs i y) b d ≡ get_or xs (b - 1) d
  behind b d past =
      let back : b - 1 + 1 ≡ b = omega (arith, past) in
      sym (ap (λ n. get_or (insert xs i y) n d) back) ∙ get_or-insert_above xs i y d (b - 1) (omega (arith, past)) within

  there : (b : ℕ) (d : X) → b ≡ i → get_or (insert xs i y) b d ≡ y
  there b d is = ap (λ n. get_or (insert xs i y) n d) is ∙ get_or-insert_at xs i y d within

  pub all_pairs_insert : AllPairs R (insert xs i y)
  all_pairs_insert a b d less last = which (cases_lt a i) (cases_lt b i) (cases_eq a i) (cases_eq b i)
    where
      which : (a < i) ⊎ (i ≤ a) → (b < i) ⊎ (i ≤ b) → (a ≡ i) ⊎ (a ≡ i → ⊥) → (b ≡ i) ⊎ (b ≡ i → ⊥) → R (get_or (insert xs i y) a d) (get_or (insert xs i y) b d)
      which (inl front) (inl front_too) at_a at_b =
          rw (get_or-insert_below xs i y d a front within, get_or-insert_below xs i y d b front_too within) (pairs a b d less (omega (arith, front_too, within)))
      which (inl front) (inr later) at_a (inl is) =
          rw (get_or-insert_below xs i y d a front within, there b d is) (low a d front)
      which (inl front) (inr later) at_a (inr other) =
          let past : i < b = omega (arith, later, other) in
          let long = length-insert xs i y within in
          rw (get_or-insert_below xs i y d a front within, behind b d past) (pairs a (b - 1) d (omega (arith, front, past)) (omega (arith, last, long, past)))
      which (inr later) (inl front) at_a at_b = absurd (omega (arith, later, front, less))
      which (inr later) (inr later_too) (inl is) at_b =
          let past : i < b = omega (arith, is, less) in
          let long = length-insert xs i y within in
          rw (there a d is, behind b d past) (high (b - 1) d (omega (arith, past)) (omega (arith, last, long, past)))
      which (inr later) (inr later_too) (inr other) at_b =
          let past : i < a = omega (arith, later, other) in
          let past_too : i < b = omega (arith, past, less) in
          let long = length-insert xs i y within in
          rw (behind a d past, behind b d past_too) (pairs (a - 1) (b - 1) d (omega (arith, past, less)) (omega (arith, last, long, past_too)))

-- ---- what no test finds
pub none_passes : {X : Type 0} (test : X → Bool) (xs : List X) → list_any test xs ≡ false → (k : ℕ) (d : X) → k < length xs → test (get_or xs k d) ≡ false
none_passes test xs none k d within =
    false_from_ne_true (test (get_or xs k d)) (λ yes. true≢false (sym (list_any_at test xs k d within yes) ∙ none))

-- what a test says of the element at a position
pub tested_at : {X : Type 0} (test : X → Bool) (xs : List X) (k : ℕ) (d : X) (b : Bool) → k < length xs
    → b ≡ option_map_or test (slice_get xs k) false → test (get_or xs k d) ≡ b
tested_at test xs k d b within is = sym (ap (λ o. option_map_or test o false) (slice_get-get_or xs k d within)) ∙ sym is

apart_below : (number k : ℕ) → k < number → nat_eq number k ≡ false
apart_below number k below = grind (arith, nat_tests)

apart_above : (number k : ℕ) → number < k → nat_eq number k ≡ false
apart_above number k above = grind (arith, nat_tests)

module _ {O : Type 0} (same : O → O → Bool) where
  -- two notes are alike either way round
  pub alike_either_way : ((o other : O) → same o other ≡ same other o) → (one other : Note O)
      → is_note same one.number one.outline other ≡ is_note same other.number other.outline one
  alike_either_way symm one other = rw (nat_eq_equiv.symm one.number other.number, symm one.outline other.outline) refl

  -- none stands where none does between those of lesser and those of greater numbers
  pub none_between : (number : ℕ) (outline : O) (notes : List (Note O)) (start end position : ℕ)
      → AllWithin (λ note. number_of note < number) notes 0 start → AllWithin (λ note. is_note same number outline note ≡ false) notes start position
      → end ≤ position → AllWithin (λ note. number < number_of note) notes end (length notes)
      → has_note same number outline notes ≡ false
  none_between number outline notes start end position below between done above =
      list_any_none (is_note same number outline) notes (λ k d within. which k d within (cases_lt k start) (cases_lt k position))
    where
      which : (k : ℕ) (d : Note O) → k < length notes → (k < start) ⊎ (start ≤ k) → (k < position) ⊎ (position ≤ k) → is_note same number outline (get_or notes k d) ≡ false
      which k d within (inl front) where_else =
          and_left (nat_eq number (get_or notes k d).number) (same outline (get_or notes k d).outline)
          (apart_below number (get_or notes k d).number (below k d (omega arith) front))
      which k d within (inr later) (inl before) = between k d later before
      which k d within (inr later) (inr past) =
          and_left (nat_eq number (get_or notes k d).number) (same outline (get_or notes k d).outline)
          (apart_above number (get_or notes k d).number (above k d (omega (arith, done, past)) within))

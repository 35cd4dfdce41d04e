-- The positions of what passes a test rise, and read back as what passes.
use Rattle.std.specs.Prelude.{◌≡◌, ℕ, suc, ◌<◌, ◌≤◌, Bool, true, false, cond, List, [], ◌∷◌, ◌++◌, map, filter, Some, slice_get, length}
use Rattle.std.specs.List.{AllByRecursion}
use Rattle.std.proofs.Common.{refl, arith, append_assoc, length-append}
use Rattle.lost_spec.specs.Mapping.{Mapping}
use Rattle.lost_spec.specs.Positions.{positions_from, positions}
use Rattle.lost_spec.specs.Laws.{EachWithLater}
use Rattle.lost_spec.specs.ListLaws.{AreThePositions}
use Rattle.lost_spec.proofs.ListLemmas.{AllByRecursion-weaker}

module _ {Thing : Type 0} where
  -- positions are not below the first
  positions_from-low : (test : Thing → Bool) (n : ℕ) (xs : List Thing) → AllByRecursion (λ i. n ≤ i) (positions_from test n xs)
  positions_from-low test n [] = tt
  positions_from-low test n (x ∷ xs) =
      let later = AllByRecursion-weaker (λ i. suc n ≤ i) (λ i. n ≤ i) (λ i h. omega arith) (positions_from test (suc n) xs) (positions_from-low test (suc n) xs) in
      elim (test x) as (λ b. AllByRecursion (λ i. n ≤ i) (cond b (n ∷ positions_from test (suc n) xs) (positions_from test (suc n) xs))) [
        | true ↦ (omega arith, later)
        | false ↦ later
      ]

  -- positions rise
  positions_from-rising : (test : Thing → Bool) (n : ℕ) (xs : List Thing) → EachWithLater (λ i j. i < j) (positions_from test n xs)
  positions_from-rising test n [] = tt
  positions_from-rising test n (x ∷ xs) =
      let later = positions_from-rising test (suc n) xs in
      elim (test x) as (λ b. EachWithLater (λ i j. i < j) (cond b (n ∷ positions_from test (suc n) xs) (positions_from test (suc n) xs))) [
        | true ↦ (positions_from-low test (suc n) xs, later)
        | false ↦ later
      ]

  -- the thing behind a front of a list stands at the front's length
  slice_get-front : (front : List Thing) (x : Thing) (xs : List Thing) → slice_get (front ++ x ∷ xs) (length front) ≡ Some x
  slice_get-front [] x xs = refl
  slice_get-front (y ∷ front) x xs = slice_get-front front x xs

  -- what stands at the positions of what follows a front is what passes there
  positions_from-read : (test : Thing → Bool) (front xs : List Thing) → map (slice_get (front ++ xs)) (positions_from test (length front) xs) ≡ map Some (filter test xs)
  positions_from-read test front [] = refl
  positions_from-read test front (x ∷ xs) =
      let here = slice_get-front front x xs in
      let longer = positions_from-read test (front ++ x ∷ []) xs in
      let same : (front ++ x ∷ []) ++ xs ≡ front ++ x ∷ xs = append_assoc front (x ∷ []) xs in
      let next : length (front ++ x ∷ []) ≡ suc (length front) = simp length-append (omega arith) in
      let later : map (slice_get (front ++ x ∷ xs)) (positions_from test (suc (length front)) xs) ≡ map Some (filter test xs) = rw (same, next) at longer in
      elim (test x) as (λ b. map (slice_get (front ++ x ∷ xs)) (cond b (length front ∷ positions_from test (suc (length front)) xs) (positions_from test (suc (length front)) xs)) ≡ map Some (cond b (x ∷ filter test xs) (filter test xs))) [
        | true ↦ cc
        | false ↦ later
      ]

pub positions_are_where_it_passes_lem : (test : Mapping → Bool) (ms : List Mapping) → AreThePositions test ms (positions test ms)
positions_are_where_it_passes_lem test ms = record { rising = positions_from-rising test 0 ms; mappings = positions_from-read test [] ms }

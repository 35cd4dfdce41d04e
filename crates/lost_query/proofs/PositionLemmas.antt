-- Positions of what passes a test: they are within the list, and what stands there is what passes.
use Rattle.std.proofs.Common.{◌≡◌, ℕ, suc, ◌+◌, ◌<◌, Bool, true, false, cond, List, map, [], ◌∷◌, ◌++◌, length, filter, filter_map, Option, Some, refl, sym, ap, subst, ◌∙◌, arith}
use Rattle.std.specs.List.{All, AllByRecursion, cons_option, slice_get}
use Rattle.std.proofs.lemmas.List.Elements.{All-nil, All-cons}
use Rattle.lost_spec.specs.Mapping.{Mapping}
use Rattle.lost_spec.specs.Positions.{positions_from, positions}
use Rattle.lost_spec.proofs.PositionLemmas.{positions_are_where_it_passes_lem}
use Rattle.lost_query.specs.Finding.{at_positions}

module _ {Thing : Type 0} (test : Thing → Bool) where
  positions_from-within : (n : ℕ) (xs : List Thing) (end : ℕ) → n + length xs ≡ end → All (λ i. i < end) (positions_from test n xs)
  positions_from-within n [] end e = All-nil (λ i. i < end)
  positions_from-within n (x ∷ xs) end e =
      let later = positions_from-within (suc n) xs end (omega arith) in
      elim (test x) as (λ b. All (λ i. i < end) (cond b (n ∷ positions_from test (suc n) xs) (positions_from test (suc n) xs))) [
        | true ↦ All-cons (λ i. i < end) n (positions_from test (suc n) xs) (omega arith) later
        | false ↦ later
      ]

  -- positions are within the list
  pub positions-within : (xs : List Thing) (places : List ℕ) → places ≡ positions test xs → All (λ i. i < length xs) places
  positions-within xs places are = subst (All (λ i. i < length xs)) (sym are) (positions_from-within 0 xs (length xs) (omega arith))

-- what options give is what their conversions give
filter_map-options : {A B : Type 0} (h : A → Option B) (xs : List A) → filter_map h xs ≡ filter_map (λ o. o) (map h xs)
filter_map-options h [] = refl
filter_map-options h (x ∷ xs) = ap (cons_option (h x)) (filter_map-options h xs)

filter_map-some : {A : Type 0} (xs : List A) → filter_map (λ o. o) (map Some xs) ≡ xs
filter_map-some [] = refl
filter_map-some (x ∷ xs) = ap (λ rest. x ∷ rest) (filter_map-some xs)

-- what stands where mappings pass is the mappings that pass
pub at_positions-positions : (test : Mapping → Bool) (ms : List Mapping) (places : List ℕ) → places ≡ positions test ms → at_positions ms places ≡ filter test ms
at_positions-positions test ms places are =
    ap (at_positions ms) are ∙ filter_map-options (slice_get ms) (positions test ms) ∙ ap (filter_map (λ o. o)) (positions_are_where_it_passes_lem test ms).mappings ∙ filter_map-some (filter test ms)

-- no position is past the end
positions_from-below : (test : Mapping → Bool) (n : ℕ) (ms : List Mapping) → AllByRecursion (λ i. i < n + length ms) (positions_from test n ms)
positions_from-below test n [] = tt
positions_from-below test n (m ∷ ms) =
    let next : suc n + length ms ≡ n + suc (length ms) = omega arith in
    let later = subst (λ k. AllByRecursion (λ i. i < k) (positions_from test (suc n) ms)) next (positions_from-below test (suc n) ms) in
    elim (test m) as (λ b. AllByRecursion (λ i. i < n + suc (length ms)) (cond b (n ∷ positions_from test (suc n) ms) (positions_from test (suc n) ms))) [
      | true ↦ (omega arith, later)
      | false ↦ later
    ]

-- what holds of each thing holds of one behind others
at_middle : {Thing : Type 0} (P : Thing → Type 0) (front : List Thing) (x : Thing) (done : List Thing) → AllByRecursion P ((front ++ x ∷ []) ++ done) → P x
at_middle P [] x done all = all.0
at_middle P (y ∷ front) x done all = at_middle P front x done all.1

-- the next position is one of the list
pub position-below : (test : Mapping → Bool) (ms : List Mapping) (rest front done : List ℕ) (i : ℕ) → rest ++ done ≡ positions test ms → rest ≡ front ++ i ∷ [] → i < length ms
position-below test ms rest front done i is next =
    let all : AllByRecursion (λ k. k < 0 + length ms) ((front ++ i ∷ []) ++ done) = subst (AllByRecursion (λ k. k < 0 + length ms)) (sym is ∙ ap (λ xs. xs ++ done) next) (positions_from-below test 0 ms) in
    let below : i < 0 + length ms = at_middle (λ k. k < 0 + length ms) front i done all in
    omega arith

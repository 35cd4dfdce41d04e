-- What the row's index holds after its steps.
use Rattle.std.proofs.Common.{◌≡◌, ℕ, ◌≤◌, List, [], ◌∷◌, ◌++◌, length, refl, arith, length-append}
use Rattle.std.proofs.lemmas.List.Elements.{All-nil, All-cons, All-contains}
use Rattle.std.specs.List.{slice_range}
use Rattle.lost_index.specs.Entries.{IsHeld, HasRegions, with_number}
use Rattle.test_index.specs.Rows.{HoldsTwo, HoldsOne}

module _ {R : Type 0} where
  -- ---- of two numbers

  pub both_put : (none one both : List (ℕ × List R)) (first second : List R)
      → none ≡ [] → one ≡ none ++ (1, first) ∷ [] → both ≡ one ++ (2, second) ∷ [] → length first ≡ 1 → HoldsTwo both
  both_put none one both first second empty put then single = (first, second, rw (then, put, empty) refl, single)

  pub first_held : (both : List (ℕ × List R)) → HoldsTwo both → IsHeld 1 both
  first_held both two = rw two.2 (0, omega arith, refl)

  -- the first is still held once it has one region more
  pub still_held : (both more : List (ℕ × List R)) (far : List R)
      → HoldsTwo both → more ≡ with_number 1 (λ held. held ++ far) both → IsHeld 1 more
  still_held both more far two added = rw (added, two.2) (0, omega arith, refl)

  two_of_first : (near twice far : List R) → length near ≡ 1 → length far ≡ 1 → HasRegions 2 1 ((1, near ++ far) ∷ (2, twice) ∷ [])
  two_of_first near twice far single further regions stands =
      let enough = λ (e : ℕ × List R). e.0 ≡ 1 → 2 ≤ length e.1 in
      let all = length-append near far in
      All-contains enough ((1, near ++ far) ∷ (2, twice) ∷ []) (1, regions)
      (All-cons enough (1, near ++ far) ((2, twice) ∷ []) (λ _. omega arith)
      (All-cons enough (2, twice) [] (λ other. omega arith) (All-nil enough)))
      stands refl

  -- and then it has two
  pub two_held : (both more : List (ℕ × List R)) (far : List R)
      → HoldsTwo both → more ≡ with_number 1 (λ held. held ++ far) both → length far ≡ 1 → HasRegions 2 1 more
  two_held both more far two added further = rw (added, two.2) (two_of_first two.0 two.1 far two.3 further)

  -- the second is still held once the first is cut
  pub second_held : (both more less : List (ℕ × List R)) (far : List R)
      → HoldsTwo both → more ≡ with_number 1 (λ held. held ++ far) both → less ≡ with_number 1 (λ held. slice_range held 1 2) more → IsHeld 2 less
  second_held both more less far two added cut = rw (cut, added, two.2) (1, omega arith, refl)

  -- ---- of one number

  pub one_put : (none one : List (ℕ × List R)) (regions : List R) → none ≡ [] → one ≡ none ++ (1, regions) ∷ [] → length regions ≡ 2 → HoldsOne one
  one_put none one regions empty put two = (regions, rw (put, empty) refl, two)

  pub one_held : (one : List (ℕ × List R)) → HoldsOne one → IsHeld 1 one
  one_held one is = rw is.1 (0, omega arith, refl)

  two_of_one : (regions : List R) → length regions ≡ 2 → HasRegions 2 1 ((1, regions) ∷ [])
  two_of_one regions two some stands =
      let enough = λ (e : ℕ × List R). e.0 ≡ 1 → 2 ≤ length e.1 in
      All-contains enough ((1, regions) ∷ []) (1, some) (All-cons enough (1, regions) [] (λ _. omega arith) (All-nil enough)) stands refl

  pub has_both : (one : List (ℕ × List R)) → HoldsOne one → HasRegions 2 1 one
  has_both one is = rw is.1 (two_of_one is.0 is.2)

  -- and it is held once it is cut
  pub cut_held : (one less : List (ℕ × List R)) (change : List R → List R) → HoldsOne one → less ≡ with_number 1 change one → IsHeld 1 less
  cut_held one less change is cut = rw (cut, is.1) (0, omega arith, refl)

-- What stands in a list of numbers after one is put in or taken out.
use Rattle.std.proofs.Common.{◌≡◌, ℕ, ◌<◌, Bool, true, false, List, length, ◌∷◌, get_or, insert, remove, slice_set, zero, suc, [], nat_eq, nat_cmp, ◌||◌, refl, sym, subst, arith, ◌∙◌}
use Rattle.std.specs.declared.cmp.Ordering.TheVariants.{Equal}
use Rattle.std.specs.List.{list_any, HoldsAt, dedup}
use Rattle.std.specs.Cmp.{nat_eq_equiv}
use Rattle.std.proofs.lemmas.Bool.Decides.{nat_tests}
use Rattle.std.proofs.lemmas.List.Kept.{Contains-dedup_nat}
use Rattle.std.proofs.lemmas.Map.Views.{Contains-from_any, list_any-from_Contains}
use Rattle.lost_tables.proofs.PickLemmas.{same_number}
use Rattle.std.proofs.lemmas.List.Folds.{list_any_at}
use Rattle.std.proofs.lemmas.List.Sorted.{IsPermutation-insert, IsPermutation-remove, list_any-IsPermutation}

or_right : (a b : Bool) → b ≡ true → (a || b) ≡ true
or_right true b h = refl
or_right false b h = h

right_of_or : (a b : Bool) → a ≡ false → (a || b) ≡ true → b ≡ true
right_of_or a b none h = subst (λ x. (x || b) ≡ true) none h

-- what stands in a list stands there with one element more
pub stands-insert : {X : Type 0} (test : X → Bool) (xs : List X) (i : ℕ) (x : X) → list_any test xs ≡ true → list_any test (insert xs i x) ≡ true
stands-insert test xs i x h =
    sym (list_any-IsPermutation test (x ∷ xs) (insert xs i x) (IsPermutation-insert xs i x)) ∙ or_right (test x) (list_any test xs) h

-- what stands in a list, and is not the element that is taken out, stands there then
pub stands-remove : {X : Type 0} (test : X → Bool) (xs : List X) (i : ℕ) (x : X) → i < length xs → x ≡ get_or xs i x → test x ≡ false
    → list_any test xs ≡ true → list_any test (remove xs i) ≡ true
stands-remove test xs i x within is apart h =
    right_of_or (test x) (list_any test (remove xs i)) apart
    (sym (list_any-IsPermutation test xs (x ∷ remove xs i) (IsPermutation-remove xs i x within is)) ∙ h)

equal_numbers : (a b : ℕ) → nat_cmp a b ≡ Equal → a ≡ b
equal_numbers a b h = search (arith, nat_tests)

-- a search that hits shows that the number stands there
pub stands_at : (n : ℕ) (xs : List ℕ) (i : ℕ) → i < length xs → HoldsAt (λ y. nat_cmp y n ≡ Equal) xs i → list_any (nat_eq n) xs ≡ true
stands_at n xs i within hit = list_any_at (nat_eq n) xs i n within (let same = equal_numbers (get_or xs i n) n (hit n) in grind (arith, nat_tests))

or_on : (a b c : Bool) → (b ≡ true → c ≡ true) → (a || b) ≡ true → (a || c) ≡ true
or_on true b c on h = refl
or_on false b c on h = on h

apart_from : (n other x : ℕ) → x ≡ n → nat_eq n other ≡ false → nat_eq other x ≡ false
apart_from n other x is apart = grind (arith, nat_tests)

-- the other numbers stand where another is written over one
pub others-set : (n other new : ℕ) (xs : List ℕ) (i : ℕ) → i < length xs → get_or xs i 0 ≡ n → nat_eq n other ≡ false
    → list_any (nat_eq other) xs ≡ true → list_any (nat_eq other) (slice_set xs i new) ≡ true
others-set n other new [] i within is apart h = absurd (omega (arith, within))
others-set n other new (x ∷ xs) zero within is apart h =
    or_right (nat_eq other new) (list_any (nat_eq other) xs)
    (right_of_or (nat_eq other x) (list_any (nat_eq other) xs) (apart_from n other x is apart) h)
others-set n other new (x ∷ xs) (suc i) within is apart h =
    or_on (nat_eq other x) (list_any (nat_eq other) xs) (list_any (nat_eq other) (slice_set xs i new))
    (others-set n other new xs i (omega (arith, within)) is apart) h

-- what stands in a list stands in it without repetitions
pub stands-dedup : (other : ℕ) (xs ys : List ℕ) → ys ≡ dedup nat_eq xs → list_any (nat_eq other) xs ≡ true → list_any (nat_eq other) ys ≡ true
stands-dedup other xs ys is stands =
    rw is (list_any-from_Contains nat_eq_equiv other (dedup nat_eq xs) (Contains-dedup_nat xs other (Contains-from_any (λ n k same. same_number n k same) other xs stands)))

-- the other numbers stand where a search took one out
pub others-remove : (n other : ℕ) (xs : List ℕ) (i : ℕ) → i < length xs → HoldsAt (λ y. nat_cmp y n ≡ Equal) xs i → nat_eq n other ≡ false
    → list_any (nat_eq other) xs ≡ true → list_any (nat_eq other) (remove xs i) ≡ true
others-remove n other xs i within hit apart =
    stands-remove (nat_eq other) xs i n within (sym (equal_numbers (get_or xs i n) n (hit n))) (grind (arith, nat_tests))

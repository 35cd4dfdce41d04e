-- Numbers that rise, and a number that does not stand among them.
use Rattle.std.proofs.Common.{◌≡◌, ℕ, ◌+◌, ◌-◌, ◌<◌, ◌≤◌, ◌⊎◌, suc, inl, inr, true, false, List, [], ◌∷◌, ◌++◌, length, get_or, take, insert, slice_set, nat_eq, nat_cmp, is_lt, refl, sym, ap, subst, arith, ◌∙◌}
use Rattle.std.specs.Cmp.{nat_eq_equiv}
use Rattle.std.specs.List.{list_any, dedup}
use Rattle.std.specs.List.Sorted.{IsNonDecreasing, IsBinarySearchResult}
use Rattle.std.specs.Prelude.{Err}
use Rattle.std.proofs.lemmas.Bool.{cases_lt, cases_eq, cases_Bool, eq-eqb, ne_eqb, or_from, or_left, false_from_ne_true, both_ways}
use Rattle.std.proofs.lemmas.Bool.Decides.{nat_tests}
use Rattle.std.proofs.lemmas.List.{length-set, length-take, get_or-set_same, get_or-set_other, get_or-take, get_or_default}
use Rattle.std.proofs.lemmas.List.Kept.{AllPairs-from_increasing, Contains-from_dedup}
use Rattle.std.proofs.lemmas.List.Sorted.{IsNonDecreasingBy-from_default, IsNonDecreasingBy-push, IsNonDecreasingBy-insert, IsPermutation-insert, list_any-IsPermutation, searched}
use Rattle.std.proofs.lemmas.Map.Keys.{IsStrictlyIncreasing-dedup}
use Rattle.std.proofs.lemmas.Map.Views.{Contains-from_any, list_any-from_Contains}
use Rattle.lost_tables.proofs.LookupLemmas.{stands-dedup}
use Rattle.lost_tables.proofs.PickLemmas.{same_number}

-- ---- where a number does not stand

lacks_where_apart : (n : ℕ) (xs : List ℕ) → ((k : ℕ) → k < length xs → get_or xs k 0 ≡ n → ⊥) → list_any (nat_eq n) xs ≡ false
lacks_where_apart n [] apart = refl
lacks_where_apart n (x ∷ xs) apart =
    or_from (nat_eq n x) (list_any (nat_eq n) xs) (ne_eqb n x (λ same. apart 0 (omega arith) (sym same)))
    (lacks_where_apart n xs (λ k within is. apart (suc k) (omega (arith, within)) is))

-- it stands nowhere where those in front of a position are below it, and those from there on above
pub lacks_between : (n i : ℕ) (xs : List ℕ) → ((k : ℕ) → k < i → get_or xs k 0 < n) → ((k : ℕ) → i ≤ k → k < length xs → n < get_or xs k 0)
    → list_any (nat_eq n) xs ≡ false
lacks_between n i xs below above = lacks_where_apart n xs (λ k within is. apart k within is (cases_lt k i))
  where
    apart : (k : ℕ) → k < length xs → get_or xs k 0 ≡ n → (k < i) ⊎ (i ≤ k) → ⊥
    apart k within is (inl lt) = omega (arith, below k lt, is)
    apart k within is (inr le) = omega (arith, above k le within, is)

-- and so where a search among rising numbers misses it
pub lacks-searched : (n i : ℕ) (xs : List ℕ) → IsNonDecreasing xs → IsBinarySearchResult (λ y. nat_cmp y n) xs (Err i) → list_any (nat_eq n) xs ≡ false
lacks-searched n i xs rising missed =
    let found = searched xs n (Err i) missed (λ a b le lt. rising a b 0 le lt) in
    lacks_between n i xs found.1 found.2

-- and so where the last of those in front, none of which is greater, is another
pub lacks_past : (n other start : ℕ) (xs : List ℕ) → IsNonDecreasing xs → start ≤ length xs → n < other → ((k : ℕ) → k < start → get_or xs k 0 ≤ n)
    → ((k : ℕ) → start ≤ k → k < length xs → other ≤ get_or xs k 0) → (0 < start → get_or xs (start - 1) 0 ≡ n → ⊥) → list_any (nat_eq n) xs ≡ false
lacks_past n other start xs rising within less below above apart =
    lacks_between n start xs (λ k lt. front k lt (cases_lt (get_or xs k 0) n)) (λ k le lt. let far = above k le lt in omega (arith, less, far))
  where
    front : (k : ℕ) → k < start → (get_or xs k 0 < n) ⊎ (n ≤ get_or xs k 0) → get_or xs k 0 < n
    front k lt (inl found) = found
    front k lt (inr le) =
        let up = rising k (start - 1) 0 (omega (arith, lt)) (omega (arith, lt, within)) in
        let top = below (start - 1) (omega (arith, lt)) in
        absurd (apart (omega (arith, lt)) (omega (arith, up, top, le)))

-- ---- what rises

-- none of the first ones is above the last of them
pub below_last : (n e : ℕ) (xs : List ℕ) → IsNonDecreasing xs → 0 < e → e ≤ length xs → get_or xs (e - 1) 0 ≡ n → (k : ℕ) → k < e → get_or xs k 0 ≤ n
below_last n e xs rising some within last k lt = subst (λ m. get_or xs k 0 ≤ m) last (rising k (e - 1) 0 (omega (arith, lt)) (omega (arith, some, within)))

-- none from a position on is below the one there
pub above_next : (e next : ℕ) (xs : List ℕ) → IsNonDecreasing xs → get_or xs e 0 ≡ next → (k : ℕ) → e ≤ k → k < length xs → next ≤ get_or xs k 0
above_next e next xs rising is k le within = subst (λ m. m ≤ get_or xs k 0) is (rising e k 0 le within)

-- the next one, where it is another, is above
pub less_next : (n e next : ℕ) (xs : List ℕ) → IsNonDecreasing xs → 0 < e → e < length xs → get_or xs (e - 1) 0 ≡ n → get_or xs e 0 ≡ next
    → (get_or xs e 0 ≡ n → ⊥) → n < next
less_next n e next xs rising some within last is apart = which (cases_lt n next)
  where
    which : (n < next) ⊎ (next ≤ n) → n < next
    which (inl less) = less
    which (inr le) = let up = rising (e - 1) e 0 (omega arith) within in absurd (apart (omega (arith, up, last, is, le)))

-- a number behind all
pub rising-push : (n : ℕ) (xs : List ℕ) → IsNonDecreasing xs → (0 < length xs → get_or xs (length xs - 1) 0 < n) → IsNonDecreasing (xs ++ n ∷ [])
rising-push n xs rising last =
    IsNonDecreasingBy-push (λ x. x) xs n rising
    (λ d some. omega (arith, last some, get_or_default xs (length xs - 1) d 0 (omega (arith, some))))

-- a number between those that are below it and those that are above
pub rising-insert : (n i : ℕ) (xs : List ℕ) → IsNonDecreasing xs → i ≤ length xs → ((k : ℕ) → k < i → get_or xs k 0 < n)
    → ((k : ℕ) → i ≤ k → k < length xs → n < get_or xs k 0) → IsNonDecreasing (insert xs i n)
rising-insert n i xs rising within below above =
    IsNonDecreasingBy-insert (λ x. x) xs i n rising within
    (λ k d lt. omega (arith, below k lt, get_or_default xs k d 0 (omega (arith, lt, within))))
    (λ k d le lt. omega (arith, above k le lt, get_or_default xs k d 0 lt))

-- a number where a search for it would put it
pub rising-searched : (n i : ℕ) (xs : List ℕ) → IsNonDecreasing xs → IsBinarySearchResult (λ y. nat_cmp y n) xs (Err i) → IsNonDecreasing (insert xs i n)
rising-searched n i xs rising missed =
    let found = searched xs n (Err i) missed (λ a b le lt. rising a b 0 le lt) in
    rising-insert n i xs rising found.0 found.1 found.2

-- it stands there then
pub stands-inserted : (n i : ℕ) (xs : List ℕ) → list_any (nat_eq n) (insert xs i n) ≡ true
stands-inserted n i xs =
    sym (list_any-IsPermutation (nat_eq n) (n ∷ xs) (insert xs i n) (IsPermutation-insert xs i n)) ∙ or_left (nat_eq n n) (list_any (nat_eq n) xs) (eq-eqb n n refl)

-- a number over one that stands between those that are not above it and those that are not below
pub rising-set : (other s : ℕ) (xs : List ℕ) → IsNonDecreasing xs → s < length xs → ((k : ℕ) → k < s → get_or xs k 0 ≤ other)
    → ((k : ℕ) → s < k → k < length xs → other ≤ get_or xs k 0) → IsNonDecreasing (slice_set xs s other)
rising-set other s xs rising within low high =
    IsNonDecreasingBy-from_default (λ x. x) (slice_set xs s other) 0
    (λ i j le lt. ordered i j le (omega (arith, lt, length-set xs s other)) (cases_eq i s) (cases_eq j s))
  where
    ordered : (i j : ℕ) → i ≤ j → j < length xs → (i ≡ s) ⊎ (i ≡ s → ⊥) → (j ≡ s) ⊎ (j ≡ s → ⊥)
        → get_or (slice_set xs s other) i 0 ≤ get_or (slice_set xs s other) j 0
    ordered i j le lt (inl i_is) (inl j_is) = let same = ap (λ k. get_or (slice_set xs s other) k 0) (i_is ∙ sym j_is) in omega (arith, same)
    ordered i j le lt (inl i_is) (inr j_not) =
        let here = ap (λ k. get_or (slice_set xs s other) k 0) i_is ∙ get_or-set_same xs s other 0 within in
        let there = get_or-set_other xs s j other 0 j_not in
        let past : s < j = omega (arith, le, i_is, j_not) in
        omega (arith, here, there, high j past lt)
    ordered i j le lt (inr i_not) (inl j_is) =
        let there = ap (λ k. get_or (slice_set xs s other) k 0) j_is ∙ get_or-set_same xs s other 0 within in
        let here = get_or-set_other xs s i other 0 i_not in
        let before : i < s = omega (arith, le, j_is, i_not) in
        omega (arith, here, there, low i before)
    ordered i j le lt (inr i_not) (inr j_not) =
        let here = get_or-set_other xs s i other 0 i_not in
        let there = get_or-set_other xs s j other 0 j_not in
        omega (arith, here, there, rising i j 0 le lt)

-- one step down of a number that is written over another
pub below-set : (n other start : ℕ) (xs : List ℕ) → ((k : ℕ) → k < start → get_or xs k 0 ≤ n) → (k : ℕ) → k < start - 1
    → get_or (slice_set xs (start - 1) other) k 0 ≤ n
below-set n other start xs below k lt =
    let apart : k ≡ start - 1 → ⊥ = λ is. omega (arith, lt, is) in
    let same = get_or-set_other xs (start - 1) k other 0 apart in
    omega (arith, same, below k (omega (arith, lt)))

pub above-set : (other start : ℕ) (xs : List ℕ) → 0 < start → start ≤ length xs → ((k : ℕ) → start ≤ k → k < length xs → other ≤ get_or xs k 0)
    → (k : ℕ) → start - 1 ≤ k → k < length (slice_set xs (start - 1) other) → other ≤ get_or (slice_set xs (start - 1) other) k 0
above-set other start xs some within above k le lt = which (cases_eq k (start - 1))
  where
    which : (k ≡ start - 1) ⊎ (k ≡ start - 1 → ⊥) → other ≤ get_or (slice_set xs (start - 1) other) k 0
    which (inl is) =
        let here = ap (λ i. get_or (slice_set xs (start - 1) other) i 0) is ∙ get_or-set_same xs (start - 1) other 0 (omega (arith, some, within)) in
        omega (arith, here)
    which (inr apart) =
        let same = get_or-set_other xs (start - 1) k other 0 apart in
        let long = length-set xs (start - 1) other in
        omega (arith, same, above k (omega (arith, le, apart)) (omega (arith, lt, long)))

-- the first ones
pub below-take : (n m : ℕ) (xs : List ℕ) → ((k : ℕ) → k < length xs → get_or xs k 0 ≤ n) → (k : ℕ) → k < length (take m xs) → get_or (take m xs) k 0 ≤ n
below-take n m xs below k lt =
    let short = length-take m xs in
    let first : k < m = omega (arith, lt, short) in
    let within : k < length xs = omega (arith, lt, short) in
    let same = get_or-take m xs k 0 first in
    omega (arith, same, below k within)

-- ---- without repetitions

not_less : (a b : ℕ) → b ≤ a → is_lt (nat_cmp a b) ≡ false
not_less a b le = grind (arith, nat_tests)

pub rising-dedup : (xs ys : List ℕ) → ys ≡ dedup nat_eq xs → IsNonDecreasing xs → IsNonDecreasing ys
rising-dedup xs ys is rising =
    subst IsNonDecreasing (sym is) (λ i j d le lt. ordered i j d le lt (cases_lt i j))
  where
    ordered : (i j : ℕ) (d : ℕ) → i ≤ j → j < length (dedup nat_eq xs) → (i < j) ⊎ (j ≤ i) → get_or (dedup nat_eq xs) i d ≤ get_or (dedup nat_eq xs) j d
    ordered i j d le lt (inl before) =
        let less = AllPairs-from_increasing (dedup nat_eq xs) (IsStrictlyIncreasing-dedup xs (λ k e low within. not_less (get_or xs (k + 1) e) (get_or xs k e) (rising k (k + 1) e (omega arith) within))) i j d before lt in
        omega (arith, less)
    ordered i j d le lt (inr back) = let same : i ≡ j = omega (arith, le, back) in omega (arith, ap (λ k. get_or (dedup nat_eq xs) k d) same)

pub same-dedup : (n : ℕ) (xs ys : List ℕ) → ys ≡ dedup nat_eq xs → list_any (nat_eq n) ys ≡ list_any (nat_eq n) xs
same-dedup n xs ys is = which (cases_Bool (list_any (nat_eq n) xs))
  where
    back : list_any (nat_eq n) ys ≡ true → list_any (nat_eq n) xs ≡ true
    back stands =
        list_any-from_Contains nat_eq_equiv n xs
        (Contains-from_dedup nat_eq xs n (Contains-from_any (λ a b same. same_number a b same) n (dedup nat_eq xs) (subst (λ l. list_any (nat_eq n) l ≡ true) is stands)))

    which : (list_any (nat_eq n) xs ≡ true) ⊎ (list_any (nat_eq n) xs ≡ false) → list_any (nat_eq n) ys ≡ list_any (nat_eq n) xs
    which (inl stands) = stands-dedup n xs ys is stands ∙ sym stands
    which (inr lacks) = false_from_ne_true (list_any (nat_eq n) ys) (λ stands. both_ways (list_any (nat_eq n) xs) lacks (back stands)) ∙ sym lacks

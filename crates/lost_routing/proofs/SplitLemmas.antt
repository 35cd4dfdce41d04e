-- Rows that are split at a position.
use Rattle.std.proofs.Common.{◌≡◌, ℕ, zero, suc, ◌<◌, false, List, [], ◌∷◌, ◌++◌, length, take, drop, slice_set, slice_index_or, nat_eq, nat_cmp, refl, sym, ap, subst, arith}
use Rattle.std.specs.declared.cmp.Ordering.TheVariants.{Less}
use Rattle.std.specs.Cmp.{nat_cmp_is}
use Rattle.std.specs.List.{AllByRecursion, zip}
use Rattle.std.specs.List.Sorted.{IsStrictlySortedBy}
use Rattle.std.proofs.lemmas.Bool.Decides.{nat_tests}
use Rattle.lost_spec.specs.Mapping.{Mapping}
use Rattle.lost_routing.specs.Invariants.{IsNew}

-- ---- a list at a position

pub get_split : {X : Type 0} (xs : List X) (i : ℕ) (x : X) → i < length xs → x ≡ slice_index_or xs i x → xs ≡ take i xs ++ x ∷ drop (suc i) xs
get_split [] i x within is = absurd (omega arith)
get_split (y ∷ xs) zero x within is = ap (λ z. z ∷ xs) (sym is)
get_split (y ∷ xs) (suc i) x within is = ap (λ l. y ∷ l) (get_split xs i x (omega arith) is)

pub set_split : {X : Type 0} (xs : List X) (i : ℕ) (x : X) → i < length xs → slice_set xs i x ≡ take i xs ++ x ∷ drop (suc i) xs
set_split [] i x within = absurd (omega arith)
set_split (y ∷ xs) zero x within = refl
set_split (y ∷ xs) (suc i) x within = ap (λ l. y ∷ l) (set_split xs i x (omega arith))

-- ---- what is true of all

module _ {X : Type 0} (P : X → Type 0) where
  pub all_front : (xs ys : List X) → AllByRecursion P (xs ++ ys) → AllByRecursion P xs
  all_front [] ys all = tt
  all_front (x ∷ xs) ys all = (all.0, all_front xs ys all.1)

  pub all_back : (xs ys : List X) → AllByRecursion P (xs ++ ys) → AllByRecursion P ys
  all_back [] ys all = all
  all_back (x ∷ xs) ys all = all_back xs ys all.1

  pub all_join : (xs ys : List X) → AllByRecursion P xs → AllByRecursion P ys → AllByRecursion P (xs ++ ys)
  all_join [] ys front back = back
  all_join (x ∷ xs) ys front back = (front.0, all_join xs ys front.1 back)

  pub all_map : (Q : X → Type 0) (xs : List X) → ((x : X) → P x → Q x) → AllByRecursion P xs → AllByRecursion Q xs
  all_map Q [] tells all = tt
  all_map Q (x ∷ xs) tells all = (tells x all.0, all_map Q xs tells all.1)

-- ---- rows

pub zip_split : (a b : List ℕ) (c d : List Mapping) (n : ℕ) (m : Mapping) → length a ≡ length c
    → zip (a ++ n ∷ b) (c ++ m ∷ d) ≡ zip a c ++ (n, m) ∷ zip b d
zip_split [] b [] d n m same = refl
zip_split [] b (y ∷ c) d n m same = absurd (omega arith)
zip_split (x ∷ a) b [] d n m same = absurd (omega arith)
zip_split (x ∷ a) b (y ∷ c) d n m same = ap (λ l. (x, y) ∷ l) (zip_split a b c d n m (omega arith))

pub zip_join : (a b : List ℕ) (c d : List Mapping) → length a ≡ length c → zip (a ++ b) (c ++ d) ≡ zip a c ++ zip b d
zip_join [] b [] d same = refl
zip_join [] b (y ∷ c) d same = absurd (omega arith)
zip_join (x ∷ a) b [] d same = absurd (omega arith)
zip_join (x ∷ a) b (y ∷ c) d same = ap (λ l. (x, y) ∷ l) (zip_join a b c d (omega arith))

pub rows_all : (P : ℕ → Type 0) (ns : List ℕ) (ms : List Mapping) → AllByRecursion P ns → AllByRecursion (λ e. P e.0) (zip ns ms)
rows_all P [] ms all = tt
rows_all P (n ∷ ns) [] all = tt
rows_all P (n ∷ ns) (m ∷ ms) all = (all.0, rows_all P ns ms all.1)

-- ---- rising numbers

less : (k n : ℕ) → k < n → nat_cmp k n ≡ Less
less k n below = sym (nat_cmp_is k n Less below)

apart_from_less : (k n : ℕ) → nat_cmp k n ≡ Less → (nat_eq n k ≡ false) × (nat_eq k n ≡ false)
apart_from_less k n h = (grind (arith, nat_tests), grind (arith, nat_tests))

pub apart_before : (a b : List ℕ) (n : ℕ) → IsStrictlySortedBy nat_cmp (a ++ n ∷ b) → AllByRecursion (λ k. nat_eq n k ≡ false) a
unfolding IsStrictlySortedBy
apart_before [] b n rising = tt
apart_before (x ∷ a) b n rising =
    ((apart_from_less x n (all_back (λ y. nat_cmp x y ≡ Less) a (n ∷ b) rising.0).0).0, apart_before a b n rising.1)

pub apart_behind : (a b : List ℕ) (n : ℕ) → IsStrictlySortedBy nat_cmp (a ++ n ∷ b) → AllByRecursion (λ k. nat_eq n k ≡ false) b
unfolding IsStrictlySortedBy
apart_behind [] b n rising = all_map (λ y. nat_cmp n y ≡ Less) (λ k. nat_eq n k ≡ false) b (λ k h. (apart_from_less n k h).1) rising.0
apart_behind (x ∷ a) b n rising = apart_behind a b n rising.1

pub rising_without : (a b : List ℕ) (n : ℕ) → IsStrictlySortedBy nat_cmp (a ++ n ∷ b) → IsStrictlySortedBy nat_cmp (a ++ b)
unfolding IsStrictlySortedBy
rising_without [] b n rising = rising.1
rising_without (x ∷ a) b n rising = (
  all_join (λ y. nat_cmp x y ≡ Less) a b (all_front (λ y. nat_cmp x y ≡ Less) a (n ∷ b) rising.0)
      (all_back (λ y. nat_cmp x y ≡ Less) a (n ∷ b) rising.0).1,
  rising_without a b n rising.1,
)

pub rising_put : (ns : List ℕ) (n : ℕ) → IsStrictlySortedBy nat_cmp ns → IsNew n ns → IsStrictlySortedBy nat_cmp (ns ++ n ∷ [])
unfolding IsStrictlySortedBy
rising_put [] n rising above = (tt, tt)
rising_put (x ∷ ns) n rising above =
    (all_join (λ y. nat_cmp x y ≡ Less) ns (n ∷ []) rising.0 (less x n above.0, tt), rising_put ns n rising.1 above.1)

above_apart : (n k : ℕ) → k < n → nat_eq n k ≡ false
above_apart n k below = search (arith, nat_tests)

pub new_apart : (n : ℕ) (ns : List ℕ) → IsNew n ns → AllByRecursion (λ k. nat_eq n k ≡ false) ns
new_apart n ns above = all_map (λ k. k < n) (λ k. nat_eq n k ≡ false) ns (above_apart n) above

below_from_less : (k n : ℕ) → nat_cmp k n ≡ Less → k < n
below_from_less k n h = grind (arith, nat_tests)

-- the numbers before one that rises are below it
pub new_before : (a b : List ℕ) (n : ℕ) → IsStrictlySortedBy nat_cmp (a ++ n ∷ b) → IsNew n a
unfolding IsStrictlySortedBy
new_before [] b n rising = tt
new_before (x ∷ a) b n rising =
    (below_from_less x n (all_back (λ y. nat_cmp x y ≡ Less) a (n ∷ b) rising.0).0, new_before a b n rising.1)

-- the numbers before a position are below the one that stands there
pub new_at : (ns : List ℕ) (i n : ℕ) → i < length ns → n ≡ slice_index_or ns i n → IsStrictlySortedBy nat_cmp ns → IsNew n (take i ns)
new_at ns i n within is rising =
    new_before (take i ns) (drop (suc i) ns) n (subst (IsStrictlySortedBy nat_cmp) (get_split ns i n within is) rising)

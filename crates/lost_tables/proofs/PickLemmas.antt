-- What is picked from candidates is what passes.
use Rattle.std.proofs.Common.{◌≡◌, ℕ, suc, zero, ◌+◌, ◌<◌, ◌≤◌, inl, inr, ◌⊎◌, Bool, true, false, ◌||◌, cond, Option, None, Some, is_some, List, [], ◌∷◌, ◌++◌, length, take, get_or, nat_eq, nat_lt, nat_cmp, refl, sym, subst, ap, arith, ◌∙◌}
use Rattle.std.specs.Prelude.{if◌then◌else◌, MatchOption, position, slice_get, filter_map}
use Rattle.std.specs.declared.cmp.Ordering.TheVariants.{Less}
use Rattle.std.specs.BTreeMap.{is_at}
use Rattle.std.specs.Cmp.{nat_eq_equiv}
use Rattle.std.specs.List.{list_any, dedup, position_or_len, cons_option, AllByRecursion}
use Rattle.std.specs.List.Sorted.{IsStrictlySortedBy, IsPermutation, IsSorted}
use Rattle.std.specs.Option.{option_and_then, option_map_or}
use Rattle.std.proofs.lemmas.Bool.{false≢true}
use Rattle.std.proofs.lemmas.Bool.Decides.{nat_tests}
use Rattle.std.proofs.lemmas.Cmp.{nat_cmp_total}
use Rattle.std.proofs.lemmas.List.{take_more, take_all, append-nil}
use Rattle.std.proofs.lemmas.List.Elements.{filter_map-append}
use Rattle.std.proofs.lemmas.List.Folds.{list_any-append}
use Rattle.std.proofs.lemmas.List.Kept.{Contains-dedup_nat, Contains-from_dedup}
use Rattle.std.proofs.lemmas.List.Quantifiers.{position-Some}
use Rattle.std.proofs.lemmas.List.Sorted.{Contains-permutation, IsPermutation-sym}
use Rattle.std.proofs.lemmas.List.Sums.{position_or_len_is}
use Rattle.std.proofs.lemmas.Map.Keys.{sorted_from_strictly_increasing, IsStrictlyIncreasing-dedup, below_from_sorted}
use Rattle.std.proofs.lemmas.Map.Lookups.{btree_set_from_contains, exact_unsigned}
use Rattle.std.proofs.lemmas.Map.Views.{Contains-from_any, list_any-from_Contains}
use Rattle.std.proofs.lemmas.Option.{slice_get_within, get_or_from_slice_get, slice_get-get_or}
use Rattle.lost_spec.specs.Positions.{positions_from, positions}
use Rattle.lost_tables.specs.Lists.{Stands}
use Rattle.lost_tables.specs.Picks.{Covers, AreBelow, AreAbove, if_passes, passing, lesser}

-- ---- numbers and tests

pub same_number : (n k : ℕ) → nat_eq n k ≡ true → n ≡ k
same_number n k same = search (arith, nat_tests)

same_itself : (n k : ℕ) → k ≡ n → nat_eq n k ≡ true
same_itself n k same = grind (arith, nat_tests)

apart_below : (n k x : ℕ) → k < x → x ≡ n → nat_eq n k ≡ false
apart_below n k x below is = grind (arith, nat_tests)

at_same : (n k : ℕ) → is_at (nat_cmp n) k ≡ nat_eq n k
at_same n k = grind (arith, nat_tests)

is_below : (n k : ℕ) → n < k → nat_lt n k ≡ true
is_below n k h = grind (arith, nat_tests)

fails_unless : (b : Bool) → (b ≡ true → ⊥) → b ≡ false
fails_unless true none = absurd (none refl)
fails_unless false none = refl

apart_unless : (a b : ℕ) → (a ≡ b → ⊥) → nat_eq b a ≡ false
apart_unless a b apart = fails_unless (nat_eq b a) (λ same. apart (sym (same_number b a same)))

less : (n k : ℕ) → n < k → nat_cmp n k ≡ Less
less n k h = grind (arith, nat_tests)

not_above : (k n : ℕ) → k < n → nat_eq k n ≡ false
not_above k n h = grind (arith, nat_tests)

is_less : (n k : ℕ) → nat_lt n k ≡ true → n < k
is_less n k h = grind (arith, nat_tests)

not_below : (l x : ℕ) → nat_lt l x ≡ false → x ≤ l
not_below l x h = grind (arith, nat_tests)

both_ways : (i j : ℕ) → i ≤ j → nat_lt i j ≡ false → i ≡ j
both_ways i j in_order h = let back = not_below i j h in omega (arith, in_order, back)

is_past : (n : ℕ) → nat_lt n n ≡ false
is_past n = grind (arith, nat_tests)

same_from_both : (a b : Bool) → (a ≡ true → b ≡ true) → (b ≡ true → a ≡ true) → a ≡ b
same_from_both true b there back = sym (there refl)
same_from_both false true there back = back refl
same_from_both false false there back = refl

or_right : (a b : Bool) → b ≡ true → (a || b) ≡ true
or_right true b h = refl
or_right false b h = h

or_left : (a b : Bool) → a ≡ true → (a || b) ≡ true
or_left true b h = refl
or_left false b h = absurd (false≢true h)

any-alike : {X : Type 0} (p q : X → Bool) → ((x : X) → p x ≡ q x) → (xs : List X) → list_any p xs ≡ list_any q xs
any-alike p q alike [] = refl
any-alike p q alike (x ∷ xs) = rw (alike x, any-alike p q alike xs) refl

-- two rising lists with the same members are one
same_rising : (xs ys : List ℕ) → IsStrictlySortedBy nat_cmp xs → IsStrictlySortedBy nat_cmp ys
    → ((n : ℕ) → list_any (nat_eq n) xs ≡ list_any (nat_eq n) ys) → xs ≡ ys
same_rising xs ys rising rising' same =
    btree_set_from_contains nat_cmp_total (record { keys = xs }) (record { keys = ys }) rising rising'
    (λ n. any-alike (is_at (nat_cmp n)) (nat_eq n) (at_same n) xs ∙ same n ∙ sym (any-alike (is_at (nat_cmp n)) (nat_eq n) (at_same n) ys))
    exact_unsigned

-- ---- what a map that may give nothing gives

some_same : (k n : ℕ) → Some k ≡ Some n → k ≡ n
some_same k n is = ap (λ o. option_map_or (λ x. x) o 0) is

none_some : (n : ℕ) → None ≡ Some n → ⊥
none_some n is = false≢true (ap (λ o. option_map_or (λ x. true) o false) is)

from_some : (h : ℕ → Option ℕ) (n c : ℕ) (rest : List ℕ) (k : ℕ) → h c ≡ Some k → (b : Bool) → nat_eq n k ≡ b
    → (b || list_any (nat_eq n) rest) ≡ true → (Stands n rest → (d : ℕ) × (h d ≡ Some n)) → (d : ℕ) × (h d ≡ Some n)
from_some h n c rest k is true same stands later = (c, is ∙ ap Some (sym (same_number n k same)))
from_some h n c rest k is false same stands later = later stands

from_next : (h : ℕ → Option ℕ) (n c : ℕ) (rest : List ℕ) (o : Option ℕ) → h c ≡ o → Stands n (cons_option o rest)
    → (Stands n rest → (d : ℕ) × (h d ≡ Some n)) → (d : ℕ) × (h d ≡ Some n)
from_next h n c rest None is stands later = later stands
from_next h n c rest (Some k) is stands later = from_some h n c rest k is (nat_eq n k) refl stands later

pub from_filter_map : (h : ℕ → Option ℕ) (n : ℕ) (cs : List ℕ) → Stands n (filter_map h cs) → (d : ℕ) × (h d ≡ Some n)
from_filter_map h n [] stands = absurd (false≢true stands)
from_filter_map h n (c ∷ cs) stands = from_next h n c (filter_map h cs) (h c) refl stands (from_filter_map h n cs)

stands_after : (n : ℕ) (rest : List ℕ) (o : Option ℕ) → Stands n rest → Stands n (cons_option o rest)
stands_after n rest None stands = stands
stands_after n rest (Some k) stands = or_right (nat_eq n k) (list_any (nat_eq n) rest) stands

stands_first : (n : ℕ) (rest : List ℕ) (o : Option ℕ) → o ≡ Some n → Stands n (cons_option o rest)
stands_first n rest None is = absurd (none_some n is)
stands_first n rest (Some k) is = or_left (nat_eq n k) (list_any (nat_eq n) rest) (same_itself n k (some_same k n is))

to_next : (h : ℕ → Option ℕ) (n m c : ℕ) (cs : List ℕ) (b : Bool) → nat_eq m c ≡ b → h m ≡ Some n → (b || list_any (nat_eq m) cs) ≡ true
    → (list_any (nat_eq m) cs ≡ true → Stands n (filter_map h cs)) → Stands n (cons_option (h c) (filter_map h cs))
to_next h n m c cs true same is stands later = stands_first n (filter_map h cs) (h c) (ap h (sym (same_number m c same)) ∙ is)
to_next h n m c cs false same is stands later = stands_after n (filter_map h cs) (h c) (later stands)

pub to_filter_map : (h : ℕ → Option ℕ) (n m : ℕ) (cs : List ℕ) → h m ≡ Some n → list_any (nat_eq m) cs ≡ true → Stands n (filter_map h cs)
to_filter_map h n m [] is stands = absurd (false≢true stands)
to_filter_map h n m (c ∷ cs) is stands = to_next h n m c cs (nat_eq m c) refl is stands (to_filter_map h n m cs is)

first_stands : (n : ℕ) (xs : List ℕ) → Some n ≡ slice_get xs 0 → Stands n xs
first_stands n [] is = absurd (none_some n (sym is))
first_stands n (x ∷ xs) is = or_left (nat_eq n x) (list_any (nat_eq n) xs) (same_itself n x (some_same x n (sym is)))

none_stands : (n : ℕ) (xs : List ℕ) → None ≡ slice_get xs 0 → Stands n xs → ⊥
none_stands n [] none stands = false≢true stands
none_stands n (x ∷ xs) none stands = none_some x none

-- what it gives up to the next one of a list
pub given_next : (h : ℕ → Option ℕ) (cs : List ℕ) (i d : ℕ) → i < length cs
    → filter_map h (take (i + 1) cs) ≡ filter_map h (take i cs) ++ cons_option (h (get_or cs i d)) []
given_next h cs i d within = ap (filter_map h) (take_more cs i d within) ∙ filter_map-append h (take i cs) (get_or cs i d ∷ [])

pub all_given : (h : ℕ → Option ℕ) (cs : List ℕ) (i : ℕ) → length cs ≤ i → filter_map h (take i cs) ≡ filter_map h cs
all_given h cs i past = ap (filter_map h) (take_all i cs past)

-- the next one's place behind the others
pub more_given : (h : ℕ → Option ℕ) (cs : List ℕ) (i : ℕ) (o : Option ℕ) (found : List ℕ) → i < length cs → o ≡ h (get_or cs i 0)
    → found ≡ filter_map h (take i cs) → found ++ cons_option o [] ≡ filter_map h (take (i + 1) cs)
more_given h cs i o found within is so_far =
    ap (λ l. l ++ cons_option o []) so_far ∙ ap (λ p. filter_map h (take i cs) ++ cons_option p []) is ∙ sym (given_next h cs i 0 within)

-- no place, and the others as they were
pub none_more : (h : ℕ → Option ℕ) (cs : List ℕ) (i : ℕ) (found : List ℕ) → i < length cs → None ≡ h (get_or cs i 0)
    → found ≡ filter_map h (take i cs) → found ≡ filter_map h (take (i + 1) cs)
none_more h cs i found within is so_far = sym (append-nil found) ∙ more_given h cs i None found within is so_far

none_of : (o : Option ℕ) → is_some o ≡ false → None ≡ o
none_of None h = refl
none_of (Some n) h = absurd (false≢true (sym h))

pub still_none : (h : ℕ → Option ℕ) (cs : List ℕ) (i : ℕ) (o : Option ℕ) → i < length cs → o ≡ h (get_or cs i 0) → is_some o ≡ false
    → filter_map h (take i cs) ≡ [] → filter_map h (take (i + 1) cs) ≡ []
still_none h cs i o within is none so_far = sym (none_more h cs i [] within (none_of o none ∙ is) (sym so_far))

some_of : (o : Option ℕ) → is_some o ≡ true → (n : ℕ) × (o ≡ Some n)
some_of None h = absurd (false≢true h)
some_of (Some n) h = (n, refl)

some_first : (n : ℕ) (o : Option ℕ) (rest : List ℕ) → o ≡ Some n → slice_get (cons_option o rest) 0 ≡ Some n
some_first n None rest is = absurd (none_some n is)
some_first n (Some k) rest is = is

none_first : (o : Option ℕ) (rest : List ℕ) → cons_option o rest ≡ [] → (o ≡ None) × (rest ≡ [])
none_first None rest none = (refl, none)
none_first (Some k) rest none = absurd (cc)

-- the first that is given, where none is before
first_given : (h : ℕ → Option ℕ) (cs : List ℕ) (i n : ℕ) → i < length cs → h (get_or cs i 0) ≡ Some n → filter_map h (take i cs) ≡ []
    → slice_get (filter_map h cs) 0 ≡ Some n
first_given h [] i n within is none = absurd (omega (arith, within))
first_given h (c ∷ cs) zero n within is none = some_first n (h c) (filter_map h cs) is
first_given h (c ∷ cs) (suc i) n within is none =
    let apart = none_first (h c) (filter_map h (take i cs)) none in
    ap (λ o. slice_get (cons_option o (filter_map h cs)) 0) apart.0 ∙ first_given h cs i n (omega (arith, within)) is apart.1

pub given_here : (h : ℕ → Option ℕ) (cs : List ℕ) (i : ℕ) (o : Option ℕ) → i < length cs → o ≡ h (get_or cs i 0) → is_some o ≡ true
    → filter_map h (take i cs) ≡ [] → o ≡ slice_get (filter_map h cs) 0
given_here h cs i o within is there none =
    let some = some_of o there in
    some.1 ∙ sym (first_given h cs i some.0 within (sym is ∙ some.1) none)

pub given_nowhere : (h : ℕ → Option ℕ) (cs : List ℕ) (i : ℕ) → length cs ≤ i → filter_map h (take i cs) ≡ [] → None ≡ slice_get (filter_map h cs) 0
given_nowhere h cs i past none = sym (ap (λ l. slice_get l 0) (sym (all_given h cs i past) ∙ none))

-- ---- the least of a list

-- the least of a list, where the list has any
abbrev pub IsLeast : Option ℕ → List ℕ → Type 0
IsLeast least xs = MatchOption least (xs ≡ []) (λ l. Stands l xs × ((k : ℕ) → Stands k xs → l ≤ k))

or_cases : (a b : Bool) → (a || b) ≡ true → (a ≡ true) ⊎ (b ≡ true)
or_cases true b h = inl refl
or_cases false b h = inr h

stands_left : (k x : ℕ) (xs : List ℕ) → Stands k xs → Stands k (xs ++ x ∷ [])
stands_left k x xs h = list_any-append (nat_eq k) xs (x ∷ []) ∙ or_left (list_any (nat_eq k) xs) (list_any (nat_eq k) (x ∷ [])) h

stands_last : (x : ℕ) (xs : List ℕ) → Stands x (xs ++ x ∷ [])
stands_last x xs =
    list_any-append (nat_eq x) xs (x ∷ [])
    ∙ or_right (list_any (nat_eq x) xs) (list_any (nat_eq x) (x ∷ [])) (or_left (nat_eq x x) false (same_itself x x refl))

only_one : (k x : ℕ) → Stands k (x ∷ []) → k ≡ x
only_one k x h =
    elim (or_cases (nat_eq k x) false h) [
      | inl same ↦ same_number k x same
      | inr never ↦ absurd (false≢true never)
    ]

left_or_last : (k x : ℕ) (xs : List ℕ) → Stands k (xs ++ x ∷ []) → Stands k xs ⊎ (k ≡ x)
left_or_last k x xs h =
    elim (or_cases (list_any (nat_eq k) xs) (list_any (nat_eq k) (x ∷ [])) (sym (list_any-append (nat_eq k) xs (x ∷ [])) ∙ h)) [
      | inl before ↦ inl before
      | inr last ↦ inr (only_one k x last)
    ]

below_is : (l x : ℕ) → nat_lt l x ≡ true → l ≤ x
below_is l x h = grind (arith, nat_tests)

above_both : (l x : ℕ) (xs : List ℕ) (m : ℕ) → m ≤ l → m ≤ x → ((k : ℕ) → Stands k xs → l ≤ k) → (k : ℕ) → Stands k (xs ++ x ∷ []) → m ≤ k
above_both l x xs m below below' least k stands =
    elim (left_or_last k x xs stands) [
      | inl before ↦ (let above = least k before in omega (arith, above, below))
      | inr same ↦ omega (arith, same, below')
    ]

lesser_of_two : (l x : ℕ) (xs : List ℕ) (b : Bool) → nat_lt l x ≡ b → Stands l xs → ((k : ℕ) → Stands k xs → l ≤ k)
    → IsLeast (Some (if b then l else x)) (xs ++ x ∷ [])
lesser_of_two l x xs true is stands least = (stands_left l x xs stands, above_both l x xs l (omega arith) (below_is l x is) least)
lesser_of_two l x xs false is stands least = (stands_last x xs, above_both l x xs x (not_below l x is) (omega arith) least)

first_one : (x : ℕ) (xs : List ℕ) → xs ≡ [] → IsLeast (Some x) (xs ++ x ∷ [])
first_one x xs none = (
  stands_last x xs,
  λ k stands.
      elim (left_or_last k x xs stands) [
        | inl before ↦ absurd (false≢true (ap (list_any (nat_eq k)) (sym none) ∙ before))
        | inr same ↦ omega (arith, same)
      ],
)

pub least_next : (least o : Option ℕ) (xs : List ℕ) → IsLeast least xs → IsLeast (lesser least o) (xs ++ cons_option o [])
least_next None None xs h = append-nil xs ∙ h
least_next None (Some x) xs h = first_one x xs h
least_next (Some l) None xs h = subst (IsLeast (Some l)) (sym (append-nil xs)) h
least_next (Some l) (Some x) xs h = lesser_of_two l x xs (nat_lt l x) refl h.0 h.1

pub least_more : (h : ℕ → Option ℕ) (cs : List ℕ) (i : ℕ) (least o next : Option ℕ) → i < length cs → o ≡ h (get_or cs i 0) → next ≡ lesser least o
    → IsLeast least (filter_map h (take i cs)) → IsLeast next (filter_map h (take (i + 1) cs))
least_more h cs i least o next within is next_is before =
    subst (IsLeast next) (more_given h cs i o (filter_map h (take i cs)) within is refl)
    (subst (λ l. IsLeast l (filter_map h (take i cs) ++ cons_option o [])) (sym next_is) (least_next least o (filter_map h (take i cs)) before))

-- ---- the first place that passes

position_is : {X : Type 0} (p : X → Bool) (xs : List X) (i : ℕ) → position_or_len p xs ≡ i → i < length xs → position p xs ≡ Some i
position_is p xs i is within =
    ap (λ k. cond (nat_lt k (length xs)) (Some k) None) is ∙ ap (λ b. cond b (Some i) None) (is_below i (length xs) within)

position_none : {X : Type 0} (p : X → Bool) (xs : List X) → position_or_len p xs ≡ length xs → position p xs ≡ None
position_none p xs is =
    ap (λ k. cond (nat_lt k (length xs)) (Some k) None) is ∙ ap (λ b. cond b (Some (length xs)) None) (is_past (length xs))

-- where a number stands among rising ones
pub position_at : (xs : List ℕ) (i m : ℕ) → IsStrictlySortedBy nat_cmp xs → slice_get xs i ≡ Some m → position (nat_eq m) xs ≡ Some i
position_at xs i m rising at =
    let within = slice_get_within xs i m at in
    let is = get_or_from_slice_get xs i m m at in
    position_is (nat_eq m) xs i
    (position_or_len_is (nat_eq m) xs i m (omega (arith, within))
    (λ k below. apart_below m (get_or xs k m) (get_or xs i m) (below_from_sorted xs k i m rising below within) is)
    (λ h. same_itself m (get_or xs i m) is))
    within

-- what a binary search finds
rises_by : (xs : List ℕ) → IsStrictlySortedBy nat_cmp xs → (i j : ℕ) → i ≤ j → j < length xs → (b : Bool) → nat_lt i j ≡ b → get_or xs i 0 ≤ get_or xs j 0
rises_by xs rising i j in_order within true h = let above = below_from_sorted xs i j 0 rising (is_less i j h) within in omega (arith, above)
rises_by xs rising i j in_order within false h = let same : i ≡ j = both_ways i j in_order h in rw same (omega arith)

rises : (xs : List ℕ) → IsStrictlySortedBy nat_cmp xs → (i j : ℕ) → i ≤ j → j < length xs → get_or xs i 0 ≤ get_or xs j 0
rises xs rising i j in_order within = rises_by xs rising i j in_order within (nat_lt i j) refl

apart_above : (n k : ℕ) → n < k → nat_eq n k ≡ false
apart_above n k above = grind (arith, nat_tests)

-- ---- halving rising numbers

module _ (n : ℕ) (xs : List ℕ) (rising : IsStrictlySortedBy nat_cmp xs) where
  -- in front of a position whose number is below n, and there, all are
  pub below_middle : (m there : ℕ) → Some there ≡ slice_get xs m → there < n → AreBelow n xs (m + 1)
  below_middle m there at less i before within =
      let is = get_or_from_slice_get xs m there 0 (sym at) in
      let up = rises xs rising i m (omega (arith, before)) (slice_get_within xs m there (sym at)) in
      omega (arith, is, up, less)

  -- from a position on whose number is not below n, none is
  pub above_middle : (m there : ℕ) → Some there ≡ slice_get xs m → n ≤ there → AreAbove n xs m
  above_middle m there at not_less i behind within =
      let is = get_or_from_slice_get xs m there 0 (sym at) in
      let up = rises xs rising m i behind within in
      omega (arith, is, up, not_less)

  pub none_below_start : AreBelow n xs 0
  none_below_start i before within = absurd (omega (arith, before))

  -- past the end nothing stands
  pub none_past : (m : ℕ) → None ≡ slice_get xs m → (i : ℕ) → m ≤ i → i < length xs → ⊥
  none_past m none i behind within =
      none_some (get_or xs m 0) (none ∙ slice_get-get_or xs m 0 (omega (arith, behind, within)))

  pub above_end : (m : ℕ) → None ≡ slice_get xs m → AreAbove n xs m
  above_end m none i behind within = absurd (none_past m none i behind within)

  pub above_length : AreAbove n xs (length xs)
  above_length i behind within = absurd (omega (arith, behind, within))

  apart_at : (m : ℕ) → AreBelow n xs m → AreAbove n xs m → (m < length xs → nat_eq n (get_or xs m 0) ≡ false)
      → (k : ℕ) → k < length xs → (b d : Bool) → nat_lt k m ≡ b → nat_lt m k ≡ d → nat_eq n (get_or xs k 0) ≡ false
  apart_at m below above apart k within true d h g = apart_below n (get_or xs k 0) n (below k (is_less k m h) within) refl
  apart_at m below above apart k within false true h g =
      let behind = is_less m k g in
      let least = above m (omega arith) (omega (arith, behind, within)) in
      let more = below_from_sorted xs m k 0 rising behind within in
      apart_above n (get_or xs k 0) (omega (arith, least, more))
  apart_at m below above apart k within false false h g =
      let same : k ≡ m = both_ways k m (not_below m k g) h in
      rw same (apart (subst (λ j. j < length xs) same within))

  -- a number that does not stand where the lower ones end stands nowhere
  stands_nowhere : (m : ℕ) → AreBelow n xs m → AreAbove n xs m → (m < length xs → nat_eq n (get_or xs m 0) ≡ false)
      → None ≡ position (nat_eq n) xs
  stands_nowhere m below above apart =
      sym (position_none (nat_eq n) xs
      (position_or_len_is (nat_eq n) xs (length xs) 0 (omega arith)
      (λ k within. apart_at m below above apart k within (nat_lt k m) (nat_lt m k) refl refl)
      (λ past. absurd (omega (arith, past)))))

  pub other_there : (m there : ℕ) → AreBelow n xs m → AreAbove n xs m → Some there ≡ slice_get xs m → (there ≡ n → ⊥)
      → None ≡ position (nat_eq n) xs
  other_there m there below above at other =
      stands_nowhere m below above
      (λ within. ap (nat_eq n) (get_or_from_slice_get xs m there 0 (sym at)) ∙ apart_unless there n other)

  pub none_there : (m : ℕ) → AreBelow n xs m → AreAbove n xs m → None ≡ slice_get xs m → None ≡ position (nat_eq n) xs
  none_there m below above none =
      stands_nowhere m below above (λ within. absurd (none_past m none m (omega arith) within))

  pub it_is_there : (m there : ℕ) → Some there ≡ slice_get xs m → there ≡ n → Some m ≡ position (nat_eq n) xs
  it_is_there m there at same = sym (position_at xs m n rising (sym at ∙ ap Some same))

module _ {Thing : Type 0} (test : Thing → Bool) where
  -- the thing at a place passes
  abbrev pub passes_at : List Thing → ℕ → Bool
  passes_at things n = option_map_or test (slice_get things n) false

  pub there_if : (o : Option Thing) → option_map_or test o false ≡ true → (x : Thing) × (o ≡ Some x) × (test x ≡ true)
  there_if None h = absurd (false≢true h)
  there_if (Some x) h = (x, refl, h)

  at_place : (things : List Thing) (k : ℕ) (d : Thing) → k < length things → passes_at things k ≡ test (get_or things k d)
  at_place things k d within = ap (λ o. option_map_or test o false) (slice_get-get_or things k d within)

  pub first_place : (things : List Thing) (l : ℕ) → passes_at things l ≡ true → ((k : ℕ) → k < l → passes_at things k ≡ false)
      → position test things ≡ Some l
  first_place things l passes none =
      let there = there_if (slice_get things l) passes in
      let within = slice_get_within things l there.0 there.1 in
      position_is test things l
      (position_or_len_is test things l there.0 (omega (arith, within))
      (λ k below. sym (at_place things k there.0 (omega (arith, within, below))) ∙ none k below)
      (λ h. sym (at_place things l there.0 within) ∙ passes))
      within

  pub no_place : (things : List Thing) → ((k : ℕ) → passes_at things k ≡ false) → position test things ≡ None
  no_place [] none = refl
  no_place (x ∷ xs) none =
      position_none test (x ∷ xs)
      (position_or_len_is test (x ∷ xs) (length (x ∷ xs)) x (omega arith)
      (λ k below. sym (at_place (x ∷ xs) k x below) ∙ none k)
      (λ past. absurd (omega (arith, past))))

  pub none_passes : (things : List Thing) → ((k : ℕ) → passes_at things k ≡ false) → list_any test things ≡ false
  none_passes [] none = refl
  none_passes (x ∷ xs) none = rw (none zero, none_passes xs (λ k. none (suc k))) refl

  pub some_passes : (things : List Thing) (n : ℕ) → passes_at things n ≡ true → list_any test things ≡ true
  some_passes [] n passes = absurd (false≢true passes)
  some_passes (x ∷ xs) zero passes = or_left (test x) (list_any test xs) passes
  some_passes (x ∷ xs) (suc n) passes = or_right (test x) (list_any test xs) (some_passes xs n passes)

  -- ---- positions

  low : (k n : ℕ) (xs : List Thing) → k < n → AllByRecursion (λ y. nat_cmp k y ≡ Less) (positions_from test n xs)
  low k n [] h = tt
  low k n (x ∷ xs) h =
      let later = low k (suc n) xs (omega (arith, h)) in
      elim (test x) as (λ b. AllByRecursion (λ y. nat_cmp k y ≡ Less) (cond b (n ∷ positions_from test (suc n) xs) (positions_from test (suc n) xs))) [
        | true ↦ (less k n h, later)
        | false ↦ later
      ]

  pub rising_from : (n : ℕ) (xs : List Thing) → IsStrictlySortedBy nat_cmp (positions_from test n xs)
  unfolding IsStrictlySortedBy
  rising_from n [] = tt
  rising_from n (x ∷ xs) =
      let later = rising_from (suc n) xs in
      elim (test x) as (λ b. IsStrictlySortedBy nat_cmp (cond b (n ∷ positions_from test (suc n) xs) (positions_from test (suc n) xs))) [
        | true ↦ (low n (suc n) xs (omega arith), later)
        | false ↦ later
      ]

  none_below : (k n : ℕ) (xs : List Thing) → k < n → list_any (nat_eq k) (positions_from test n xs) ≡ false
  none_below k n [] h = refl
  none_below k n (x ∷ xs) h =
      let later = none_below k (suc n) xs (omega (arith, h)) in
      elim (test x) as (λ b. list_any (nat_eq k) (cond b (n ∷ positions_from test (suc n) xs) (positions_from test (suc n) xs)) ≡ false) [
        | true ↦ rw (not_above k n h, later) refl
        | false ↦ later
      ]

  here : (k : ℕ) (b : Bool) (rest : List ℕ) → list_any (nat_eq k) rest ≡ false → list_any (nat_eq k) (cond b (k ∷ rest) rest) ≡ b
  here k true rest none = or_left (nat_eq k k) (list_any (nat_eq k) rest) (same_itself k k refl)
  here k false rest none = none

  later_on : (k n : ℕ) (b : Bool) (rest : List ℕ) → n < k → list_any (nat_eq k) (cond b (n ∷ rest) rest) ≡ list_any (nat_eq k) rest
  later_on k n true rest above = rw (apart_below k n k above refl) refl
  later_on k n false rest above = refl

  stands_from : (n k : ℕ) (xs : List Thing) → list_any (nat_eq (n + k)) (positions_from test n xs) ≡ passes_at xs k
  stands_from n k [] = refl
  stands_from n zero (x ∷ xs) =
      let same : n + zero ≡ n = omega arith in
      rw same (here n (test x) (positions_from test (suc n) xs) (none_below n (suc n) xs (omega arith)))
  stands_from n (suc k) (x ∷ xs) =
      let same : n + suc k ≡ suc n + k = omega arith in
      rw same (later_on (suc n + k) n (test x) (positions_from test (suc n) xs) (omega arith) ∙ stands_from (suc n) k xs)

  pub stands_there : (k : ℕ) (xs : List Thing) → list_any (nat_eq k) (positions test xs) ≡ passes_at xs k
  stands_there k xs =
      let same : 0 + k ≡ k = omega arith in
      sym (ap (λ n. list_any (nat_eq n) (positions test xs)) same) ∙ stands_from 0 k xs

  -- ---- what the candidates give

  if_some : (b : Bool) (k n : ℕ) → (if b then Some k else None) ≡ Some n → (b ≡ true) × (k ≡ n)
  if_some true k n is = (refl, some_same k n is)
  if_some false k n is = absurd (none_some n is)

  passing_from : (things : List Thing) (n : ℕ) (o : Option ℕ) → option_and_then (if_passes test things) o ≡ Some n → passes_at things n ≡ true
  passing_from things n None is = absurd (none_some n is)
  passing_from things n (Some k) is =
      let there = if_some (passes_at things k) k n is in
      ap (passes_at things) (sym there.1) ∙ there.0

  module _ (numbers : List ℕ) (things : List Thing) where
    -- a candidate that gives a place gives one that passes
    pub passing_passes : (m n : ℕ) → passing test numbers things m ≡ Some n → passes_at things n ≡ true
    passing_passes m n is = passing_from things n (position (nat_eq m) numbers) is

    -- the place that a number has, where its thing passes
    pub passing_is : (m place : ℕ) (x : Thing) (b : Bool) → length numbers ≡ length things → Some place ≡ position (nat_eq m) numbers
        → x ≡ get_or things place x → b ≡ test x → passing test numbers things m ≡ (if b then Some place else None)
    passing_is m place x b paired at is tested =
        let found = position-Some (nat_eq m) numbers place 0 (sym at) in
        let within : place < length things = omega (arith, found.0, paired) in
        ap (option_and_then (if_passes test things)) (sym at)
        ∙ ap (λ b. if b then Some place else None) (at_place things place x within ∙ ap test (sym is) ∙ sym tested)

    -- a candidate that gives a place shows that something passes
    pub some_given : (m : ℕ) (o : Option ℕ) → o ≡ passing test numbers things m → is_some o ≡ true → list_any test things ≡ true
    some_given m None is there = absurd (false≢true there)
    some_given m (Some n) is there = some_passes things n (passing_passes m n (sym is))

    module _ (rising : IsStrictlySortedBy nat_cmp numbers) (paired : length numbers ≡ length things) where
      -- what passes is given by a candidate
      given : (candidates : List ℕ) → Covers test numbers things candidates → (n : ℕ) → passes_at things n ≡ true
          → (m : ℕ) × (passing test numbers things m ≡ Some n) × (list_any (nat_eq m) candidates ≡ true)
      given candidates covers n passes =
          let there = there_if (slice_get things n) passes in
          let within = slice_get_within things n there.0 there.1 in
          let numbered = slice_get-get_or numbers n 0 (omega (arith, within, paired)) in
          let m = get_or numbers n 0 in (
            m,
            ap (option_and_then (if_passes test things)) (position_at numbers n m rising numbered) ∙ ap (λ b. if b then Some n else None) passes,
            covers n m there.0 there.1 numbered there.2,
          )

      pub sound : (candidates : List ℕ) (n : ℕ) → Stands n (filter_map (passing test numbers things) candidates) → passes_at things n ≡ true
      sound candidates n stands =
          let from = from_filter_map (passing test numbers things) n candidates stands in
          passing_passes from.0 n from.1

      pub complete : (candidates : List ℕ) → Covers test numbers things candidates → (n : ℕ) → passes_at things n ≡ true
          → Stands n (filter_map (passing test numbers things) candidates)
      complete candidates covers n passes =
          let by = given candidates covers n passes in
          to_filter_map (passing test numbers things) n by.0 candidates by.1 by.2

      fails : (candidates : List ℕ) → Covers test numbers things candidates → (n : ℕ)
          → (Stands n (filter_map (passing test numbers things) candidates) → ⊥) → passes_at things n ≡ false
      fails candidates covers n none = fails_unless (passes_at things n) (λ passes. none (complete candidates covers n passes))

      -- nothing given, nothing passes
      pub nothing_passes : (candidates : List ℕ) → Covers test numbers things candidates
          → filter_map (passing test numbers things) candidates ≡ [] → list_any test things ≡ false
      nothing_passes candidates covers none =
          none_passes things (λ n. fails candidates covers n (λ stands. false≢true (ap (list_any (nat_eq n)) (sym none) ∙ stands)))

      -- the least that is given is the first that passes
      pub least_is_first : (candidates : List ℕ) → Covers test numbers things candidates → (least : Option ℕ)
          → IsLeast least (filter_map (passing test numbers things) candidates) → least ≡ position test things
      least_is_first candidates covers None none =
          sym (no_place things (λ n. fails candidates covers n (λ stands. false≢true (ap (list_any (nat_eq n)) (sym none) ∙ stands))))
      least_is_first candidates covers (Some l) h =
          sym (first_place things l (sound candidates l h.0)
          (λ k below. fails candidates covers k (λ stands. let above = h.1 k stands in absurd (omega (arith, above, below)))))

      -- the first that is given passes
      pub first_passes : (candidates : List ℕ) (n : ℕ) → Some n ≡ slice_get (filter_map (passing test numbers things) candidates) 0
          → passes_at things n ≡ true
      first_passes candidates n is = sound candidates n (first_stands n (filter_map (passing test numbers things) candidates) is)

      -- where none is given, nothing passes that has its number among the candidates
      pub none_given : (candidates : List ℕ) → None ≡ slice_get (filter_map (passing test numbers things) candidates) 0
          → (n m : ℕ) → slice_get numbers n ≡ Some m → list_any (nat_eq m) candidates ≡ true → passes_at things n ≡ false
      none_given candidates none n m numbered among =
          fails_unless (passes_at things n)
          (λ passes. none_stands n (filter_map (passing test numbers things) candidates) none
          (to_filter_map (passing test numbers things) n m candidates
          (ap (option_and_then (if_passes test things)) (position_at numbers n m rising numbered) ∙ ap (λ b. if b then Some n else None) passes)
          among))

      -- what is given, sorted and each once, are the places of what passes
      pub given_are : (candidates : List ℕ) → Covers test numbers things candidates → (found sorted result : List ℕ)
          → found ≡ filter_map (passing test numbers things) candidates → IsPermutation found sorted → IsSorted nat_cmp sorted
          → result ≡ dedup nat_eq sorted → result ≡ positions test things
      given_are candidates covers found sorted result is moved rises once =
          once ∙ same_rising (dedup nat_eq sorted) (positions test things)
          (sorted_from_strictly_increasing (dedup nat_eq sorted) (IsStrictlyIncreasing-dedup sorted rises))
          (rising_from 0 things)
          (λ n. same_from_both (list_any (nat_eq n) (dedup nat_eq sorted)) (list_any (nat_eq n) (positions test things))
          (λ stands. stands_there n things ∙ sound candidates n (ap (list_any (nat_eq n)) (sym is)
          ∙ list_any-from_Contains nat_eq_equiv n found (Contains-permutation sorted found n (IsPermutation-sym found sorted moved)
          (Contains-from_dedup nat_eq sorted n (Contains-from_any same_number n (dedup nat_eq sorted) stands)))))
          (λ stands. list_any-from_Contains nat_eq_equiv n (dedup nat_eq sorted)
          (Contains-dedup_nat sorted n (Contains-permutation found sorted n moved
          (Contains-from_any same_number n found (ap (list_any (nat_eq n)) is
          ∙ complete candidates covers n (sym (stands_there n things) ∙ stands)))))))

-- Rows in rising order of their numbers: where a number stands, and what a change of its row does.
use Rattle.std.proofs.Common.{◌≡◌, ℕ, zero, suc, ◌<◌, ◌≤◌, ◌-◌, Vec, Bool, true, false, cond, nat_lt, nat_eq, nat_cmp, Some, None, is_some, List, [], ◌∷◌, ◌++◌, length, set, slice_get, get_or, remove, Contains, refl, sym, ap, subst, arith, ◌∙◌}
use Rattle.std.specs.Cmp.{nat_eq_equiv, nat_cmp_is}
use Rattle.std.specs.declared.cmp.Ordering.TheVariants.{Less}
use Rattle.std.specs.List.{AllByRecursion, AllWithin, IsDistinct}
use Rattle.std.specs.List.Sorted.{IsPartitionedBy, IsPartitionPoint, IsStrictlySortedBy}
use Rattle.std.specs.Map.{lookup}
use Rattle.std.specs.Vec.{vec_len}
use Rattle.std.proofs.lemmas.Bool.{false≢true}
use Rattle.std.proofs.lemmas.Bool.Decides.{nat_tests}
use Rattle.std.proofs.lemmas.List.{get_or_default, set-get_or}
use Rattle.std.proofs.lemmas.Option.{get_or_from_slice_get}
use Rattle.std.proofs.lemmas.Map.Views.{IsSome-lookup_from_Contains}
use Rattle.lost_index.specs.Chunks.{AreRising, HasRow, ends_below}
use Rattle.lost_index.specs.Entries.{numbers, IsHeld, IsAbove, without, with_number}

pub apart : (n k : ℕ) → (n ≡ k → ⊥) → nat_eq n k ≡ false
apart n k none = grind (arith, nat_tests)

pub equal_numbers : (a b : ℕ) → nat_eq a b ≡ true → a ≡ b
equal_numbers a b same = search (arith, nat_tests)

pub same_number : (n k : ℕ) → k ≡ n → nat_eq n k ≡ true
same_number n k same = grind (arith, nat_tests)

pub is_below : (k n : ℕ) → nat_lt k n ≡ true → k < n
is_below k n is = grind (arith, nat_tests)

pub is_not_below : (k n : ℕ) → nat_lt k n ≡ false → n ≤ k
is_not_below k n is = grind (arith, nat_tests)

module _ {T : Type 0} where
  -- no row is of the number
  abbrev pub Lacks : ℕ → List (ℕ × T) → Type 0
  Lacks n rows = AllByRecursion (λ row. nat_eq n row.0 ≡ false) rows

  -- all rows are of higher numbers
  abbrev pub AreAbove : ℕ → List (ℕ × T) → Type 0
  AreAbove n rows = AllByRecursion (λ later. n < later.0) rows

  above_weaker : (n m : ℕ) (rows : List (ℕ × T)) → n ≤ m → AreAbove m rows → AreAbove n rows
  above_weaker n m [] least above = tt
  above_weaker n m (r ∷ rows) least above = (let first = above.0 in omega (arith, first, least), above_weaker n m rows least above.1)

  pub lacks_above : (n : ℕ) (rows : List (ℕ × T)) → AreAbove n rows → Lacks n rows
  lacks_above n [] above = tt
  lacks_above n (r ∷ rows) above = (apart n r.0 (λ same. let first = above.0 in omega (arith, first, same)), lacks_above n rows above.1)

  pub above_append_left : (n : ℕ) (xs ys : List (ℕ × T)) → AreAbove n (xs ++ ys) → AreAbove n xs
  above_append_left n [] ys above = tt
  above_append_left n (x ∷ xs) ys above = (above.0, above_append_left n xs ys above.1)

  pub above_append_right : (n : ℕ) (xs ys : List (ℕ × T)) → AreAbove n (xs ++ ys) → AreAbove n ys
  above_append_right n [] ys above = above
  above_append_right n (x ∷ xs) ys above = above_append_right n xs ys above.1

  pub rising_left : (xs ys : List (ℕ × T)) → AreRising (xs ++ ys) → AreRising xs
  rising_left [] ys rising = tt
  rising_left (x ∷ xs) ys rising = (above_append_left x.0 xs ys rising.0, rising_left xs ys rising.1)

  pub rising_right : (xs ys : List (ℕ × T)) → AreRising (xs ++ ys) → AreRising ys
  rising_right [] ys rising = rising
  rising_right (x ∷ xs) ys rising = rising_right xs ys rising.1

  -- ---- rows without the number beside others
  pub lacks_append : (n : ℕ) (xs ys : List (ℕ × T)) → Lacks n xs → Lacks n ys → Lacks n (xs ++ ys)
  lacks_append n [] ys left right = right
  lacks_append n (x ∷ xs) ys left right = (left.0, lacks_append n xs ys left.1 right)

  pub lookup_lacking : (n : ℕ) (rows : List (ℕ × T)) → Lacks n rows → lookup (nat_eq n) rows ≡ None
  lookup_lacking n [] lacks = refl
  lookup_lacking n (r ∷ rows) lacks = rw lacks.0 (lookup_lacking n rows lacks.1)

  pub lookup_left : (n : ℕ) (xs ys : List (ℕ × T)) → Lacks n xs → lookup (nat_eq n) (xs ++ ys) ≡ lookup (nat_eq n) ys
  lookup_left n [] ys lacks = refl
  lookup_left n (x ∷ xs) ys lacks = rw lacks.0 (lookup_left n xs ys lacks.1)

  pub lookup_right : (n : ℕ) (xs ys : List (ℕ × T)) → Lacks n ys → lookup (nat_eq n) (xs ++ ys) ≡ lookup (nat_eq n) xs
  lookup_right n [] ys lacks = lookup_lacking n ys lacks
  lookup_right n (x ∷ xs) ys lacks = ap (λ o. cond (nat_eq n x.0) (Some x.1) o) (lookup_right n xs ys lacks)

  without_lacking : (n : ℕ) (rows : List (ℕ × T)) → Lacks n rows → without n rows ≡ rows
  without_lacking n [] lacks = refl
  without_lacking n (r ∷ rows) lacks = rw lacks.0 (ap (λ l. r ∷ l) (without_lacking n rows lacks.1))

  pub without_left : (n : ℕ) (xs ys : List (ℕ × T)) → Lacks n xs → without n (xs ++ ys) ≡ xs ++ without n ys
  without_left n [] ys lacks = refl
  without_left n (x ∷ xs) ys lacks = rw lacks.0 (ap (λ l. x ∷ l) (without_left n xs ys lacks.1))

  append_cond : (b : Bool) (us vs ys : List (ℕ × T)) → cond b (us ++ ys) (vs ++ ys) ≡ cond b us vs ++ ys
  append_cond true us vs ys = refl
  append_cond false us vs ys = refl

  pub without_right : (n : ℕ) (xs ys : List (ℕ × T)) → Lacks n ys → without n (xs ++ ys) ≡ without n xs ++ ys
  without_right n [] ys lacks = without_lacking n ys lacks
  without_right n (x ∷ xs) ys lacks =
      ap (λ l. cond (nat_eq n x.0) (xs ++ ys) (x ∷ l)) (without_right n xs ys lacks)
      ∙ append_cond (nat_eq n x.0) xs (x ∷ without n xs) ys

  -- ---- the last number
  pub ends_below_lacks : (n : ℕ) (rows : List (ℕ × T)) → AreRising rows → ends_below n rows ≡ true → AllByRecursion (λ row. row.0 < n) rows
  ends_below_lacks n [] rising is = tt
  ends_below_lacks n (r ∷ []) rising is = (is_below r.0 n is, tt)
  ends_below_lacks n (r ∷ d ∷ rows) rising is =
      let later = ends_below_lacks n (d ∷ rows) rising.1 is in
      (let next = rising.0.0 in let last = later.0 in omega (arith, next, last), later)

  lacks_below : (n : ℕ) (rows : List (ℕ × T)) → AllByRecursion (λ row. row.0 < n) rows → Lacks n rows
  lacks_below n [] below = tt
  lacks_below n (r ∷ rows) below = (apart n r.0 (λ same. let first = below.0 in omega (arith, first, same)), lacks_below n rows below.1)

  pub ended_lacks : (n : ℕ) (rows : List (ℕ × T)) → AreRising rows → ends_below n rows ≡ true → Lacks n rows
  ended_lacks n rows rising is = lacks_below n rows (ends_below_lacks n rows rising is)

  pub behind_above : (n : ℕ) (xs ys : List (ℕ × T)) → AreRising (xs ++ ys) → ends_below n xs ≡ false → AreAbove n ys
  behind_above n [] ys rising is = absurd (false≢true (sym is))
  behind_above n (x ∷ []) ys rising is = above_weaker n x.0 ys (is_not_below x.0 n is) rising.0
  behind_above n (x ∷ d ∷ xs) ys rising is = behind_above n (d ∷ xs) ys rising.1 is

  pub above_not_ended : (n : ℕ) (rows : List (ℕ × T)) → 0 < length rows → AreAbove n rows → ends_below n rows ≡ true → ⊥
  above_not_ended n [] some above is = omega (arith, some)
  above_not_ended n (r ∷ []) some above is = let first = above.0 in let less = is_below r.0 n is in omega (arith, first, less)
  above_not_ended n (r ∷ d ∷ rows) some above is = above_not_ended n (d ∷ rows) (omega arith) above.1 is

  pub last_is : (n : ℕ) (rows : List (ℕ × T)) (l : ℕ) (d : ℕ × T) → length rows ≡ suc l → ends_below n rows ≡ nat_lt (get_or rows l d).0 n
  last_is n [] l d long = absurd (omega (arith, long))
  last_is n (r ∷ []) zero d long = refl
  last_is n (r ∷ []) (suc l) d long = absurd (omega (arith, long))
  last_is n (r ∷ next ∷ rows) zero d long = absurd (omega (arith, long))
  last_is n (r ∷ next ∷ rows) (suc l) d long = last_is n (next ∷ rows) l d (omega (arith, long))

  pub last_read : (n : ℕ) (rows : List (ℕ × T)) (r : ℕ × T) → slice_get rows (length rows - 1) ≡ Some r → nat_lt r.0 n ≡ ends_below n rows
  last_read n [] r is = absurd (none_some r is)
    where
      none_some : (r : ℕ × T) → None ≡ Some r → ⊥
      none_some r h = cc
  last_read n (x ∷ rows) r is =
      ap (λ row. nat_lt row.0 n) (sym (get_or_from_slice_get (x ∷ rows) (length (x ∷ rows) - 1) r r is))
      ∙ sym (last_is n (x ∷ rows) (length (x ∷ rows) - 1) r (omega arith))

  -- ---- the place of a number
  rising_at : (rows : List (ℕ × T)) → AreRising rows → (i j : ℕ) (d : ℕ × T) → i ≤ j → j < length rows → (get_or rows i d).0 ≤ (get_or rows j d).0
  rising_at [] rising i j d before within = absurd (omega (arith, within))
  rising_at (r ∷ rows) rising zero zero d before within = omega arith
  rising_at (r ∷ rows) rising zero (suc j) d before within = let later = above_at r.0 rows rising.0 j d (omega (arith, within)) in omega (arith, later)
    where
      above_at : (n : ℕ) (rows : List (ℕ × T)) → AreAbove n rows → (j : ℕ) (d : ℕ × T) → j < length rows → n < (get_or rows j d).0
      above_at n [] above j d within = absurd (omega (arith, within))
      above_at n (r ∷ rows) above zero d within = above.0
      above_at n (r ∷ rows) above (suc j) d within = above_at n rows above.1 j d (omega (arith, within))
  rising_at (r ∷ rows) rising (suc i) zero d before within = absurd (omega (arith, before))
  rising_at (r ∷ rows) rising (suc i) (suc j) d before within = rising_at rows rising.1 i j d (omega (arith, before)) (omega (arith, within))

  pub parted : (n : ℕ) (rows : List (ℕ × T)) → AreRising rows → IsPartitionedBy (λ row. nat_lt row.0 n) rows
  parted n rows rising i j d before within is =
      lower (get_or rows i d).0 (get_or rows j d).0 (rising_at rows rising i j d before within) is
    where
      lower : (a b : ℕ) → a ≤ b → nat_lt b n ≡ true → nat_lt a n ≡ true
      lower a b most is = grind (arith, nat_tests)

  pub held_lacks : (n : ℕ) (rows : List (ℕ × T)) → IsHeld n rows → Lacks n rows → ⊥
  held_lacks n rows held lacks =
      false≢true (ap is_some (sym (lookup_lacking n rows lacks)) ∙ IsSome-lookup_from_Contains nat_eq_equiv n rows held)

  module _ (n : ℕ) where
    abbrev AreBelow : List (ℕ × T) → ℕ → Type 0
    AreBelow rows i = AllWithin (λ row. row.0 < n) rows 0 i

    below_later : (r : ℕ × T) (rows : List (ℕ × T)) (i : ℕ) → AreBelow (r ∷ rows) (suc i) → AreBelow rows i
    below_later r rows i below k d low within = below (suc k) d (omega arith) (omega (arith, within))

    below_first : (r : ℕ × T) (rows : List (ℕ × T)) (i : ℕ) → AreBelow (r ∷ rows) (suc i) → nat_eq n r.0 ≡ false
    below_first r rows i below = apart n r.0 (λ same. let first = below 0 r (omega arith) (omega arith) in omega (arith, first, same))

    pub found_at : (rows : List (ℕ × T)) (i : ℕ) (d : ℕ × T) → i < length rows → AreBelow rows i → (get_or rows i d).0 ≡ n
        → lookup (nat_eq n) rows ≡ Some (get_or rows i d).1
    found_at [] i d within below here = absurd (omega (arith, within))
    found_at (r ∷ rows) zero d within below here = rw (same_number n r.0 here) refl
    found_at (r ∷ rows) (suc i) d within below here =
        rw (below_first r rows i below) (found_at rows i d (omega (arith, within)) (below_later r rows i below) here)

    pub removed_at : (rows : List (ℕ × T)) (i : ℕ) (d : ℕ × T) → i < length rows → AreBelow rows i → (get_or rows i d).0 ≡ n
        → without n rows ≡ remove rows i
    removed_at [] i d within below here = absurd (omega (arith, within))
    removed_at (r ∷ rows) zero d within below here = rw (same_number n r.0 here) refl
    removed_at (r ∷ rows) (suc i) d within below here =
        rw (below_first r rows i below) (ap (λ l. r ∷ l) (removed_at rows i d (omega (arith, within)) (below_later r rows i below) here))

    pub lacks_past : (rows : List (ℕ × T)) (i : ℕ) → AreBelow rows i → length rows ≤ i → Lacks n rows
    lacks_past [] i below past = tt
    lacks_past (r ∷ rows) zero below past = absurd (omega (arith, past))
    lacks_past (r ∷ rows) (suc i) below past = (below_first r rows i below, lacks_past rows i (below_later r rows i below) (omega (arith, past)))

    pub lacks_beside : (rows : List (ℕ × T)) (i : ℕ) (d : ℕ × T) → AreRising rows → i < length rows → AreBelow rows i
        → n ≤ (get_or rows i d).0 → ((get_or rows i d).0 ≡ n → ⊥) → Lacks n rows
    lacks_beside [] i d rising within below least other = absurd (omega (arith, within))
    lacks_beside (r ∷ rows) zero d rising within below least other =
        (apart n r.0 (λ same. other (sym same)), lacks_above n rows (above_weaker n r.0 rows least rising.0))
    lacks_beside (r ∷ rows) (suc i) d rising within below least other =
        (below_first r rows i below, lacks_beside rows i d rising.1 (omega (arith, within)) (below_later r rows i below) least other)

  pub held_within : (n : ℕ) (rows : List (ℕ × T)) (i : ℕ) → IsHeld n rows → AllWithin (λ row. row.0 < n) rows 0 i → i < length rows
  held_within n rows i held below = by (nat_lt i (length rows)) refl
    where
      by : (t : Bool) → nat_lt i (length rows) ≡ t → i < length rows
      by true is = is_below i (length rows) is
      by false is = absurd (held_lacks n rows held (lacks_past n rows i below (is_not_below i (length rows) is)))

  pub held_there : (n : ℕ) (rows : List (ℕ × T)) (i : ℕ) (d : ℕ × T) → AreRising rows → IsHeld n rows
      → AllWithin (λ row. row.0 < n) rows 0 i → AllWithin (λ row. n ≤ row.0) rows i (length rows) → (get_or rows i d).0 ≡ n
  held_there n rows i d rising held below above = by (nat_eq (get_or rows i d).0 n) refl
    where
      within : i < length rows
      within = held_within n rows i held below

      by : (t : Bool) → nat_eq (get_or rows i d).0 n ≡ t → (get_or rows i d).0 ≡ n
      by true is = grind (arith, nat_tests)
      by false is = absurd (held_lacks n rows held
          (lacks_beside n rows i d rising within below (above i d (omega arith) within) (λ same. false≢true (sym is ∙ same_number (get_or rows i d).0 n (sym same)))))

  pub found_there : (n : ℕ) (rows : List (ℕ × T)) (i : ℕ) (r : ℕ × T) → AllWithin (λ row. row.0 < n) rows 0 i
      → i < length rows → r ≡ get_or rows i r → r.0 ≡ n → Some r.1 ≡ lookup (nat_eq n) rows
  found_there n rows i r below within is same =
      ap (λ row. Some row.1) is ∙ sym (found_at n rows i r within below (ap (λ row. row.0) (sym is) ∙ same))

  pub not_found_past : (n : ℕ) (rows : List (ℕ × T)) (i : ℕ) → AllWithin (λ row. row.0 < n) rows 0 i
      → false ≡ nat_lt i (length rows) → None ≡ lookup (nat_eq n) rows
  not_found_past n rows i below past = sym (lookup_lacking n rows (lacks_past n rows i below (is_not_below i (length rows) (sym past))))

  pub not_found_beside : (n : ℕ) (rows : List (ℕ × T)) (i : ℕ) (r : ℕ × T) → AreRising rows → AllWithin (λ row. row.0 < n) rows 0 i
      → AllWithin (λ row. n ≤ row.0) rows i (length rows) → i < length rows → r ≡ get_or rows i r → (r.0 ≡ n → ⊥) → None ≡ lookup (nat_eq n) rows
  not_found_beside n rows i r rising below above within is other =
      sym (lookup_lacking n rows (lacks_beside n rows i r rising within below (above i r (omega arith) within)
      (λ same. other (ap (λ row. row.0) is ∙ same))))

  -- ---- the row of a number that is held
  abbrev IsPlace : ℕ → List (ℕ × T) → ℕ → Type 0
  IsPlace n rows i = IsPartitionPoint (λ row. row.0 < n) (λ row. n ≤ row.0) rows i

  pub row_within : {A : Type 0} (n : ℕ) (chunk : Vec (ℕ × T) A) (rows : List (ℕ × T)) (i : ℕ) → rows ≡ chunk.items → HasRow n chunk.items → IsPlace n rows i
      → i < vec_len chunk
  row_within n chunk rows i same row place =
      subst (λ len. i < len) (sym chunk.ok.0) (held_within n chunk.items i row.held (subst (λ l. IsPlace n l i) same place).0)

  module _ (n : ℕ) (rows : List (ℕ × T)) (i : ℕ) (r : ℕ × T) (row : HasRow n rows) (place : IsPlace n rows i) (is : r ≡ get_or rows i r) where
    within : i < length rows
    within = held_within n rows i row.held place.0

    here : (get_or rows i r).0 ≡ n
    here = held_there n rows i r row.rising row.held place.0 place.1

    pub value_there : lookup (nat_eq n) rows ≡ Some r.1
    value_there = found_at n rows i r within place.0 here ∙ ap (λ row. Some row.1) (sym is)

    pub removed_there : remove rows i ≡ without n rows
    removed_there = sym (removed_at n rows i r within place.0 here)

    pub contained_there : Contains rows (n, r.1)
    contained_there = (i, within, get_or_default rows i (n, r.1) r within ∙ sym is ∙ ap (λ k. (k, r.1)) (ap (λ row. row.0) is ∙ here))

  pub unchanged_there : (rows : List (ℕ × T)) (i : ℕ) (r : ℕ × T) → r ≡ get_or rows i r → set rows i (r.0, r.1) ≡ rows
  unchanged_there rows i r is = ap (set rows i) is ∙ set-get_or rows i r

  -- ---- the rows still rise
  either : (P : List (ℕ × T) → Type 0) (b : Bool) (us vs : List (ℕ × T)) → P us → P vs → P (cond b us vs)
  either P true us vs p q = p
  either P false us vs p q = q

  above_without : (n m : ℕ) (rows : List (ℕ × T)) → AreAbove m rows → AreAbove m (without n rows)
  above_without n m [] above = tt
  above_without n m (r ∷ rows) above =
      either (AreAbove m) (nat_eq n r.0) rows (r ∷ without n rows) above.1 (above.0, above_without n m rows above.1)

  pub rising_without : (n : ℕ) (rows : List (ℕ × T)) → AreRising rows → AreRising (without n rows)
  rising_without n [] rising = tt
  rising_without n (r ∷ rows) rising =
      either AreRising (nat_eq n r.0) rows (r ∷ without n rows) rising.1 (above_without n r.0 rows rising.0, rising_without n rows rising.1)

  above_put : (m n : ℕ) (v : T) (rows : List (ℕ × T)) → AreAbove m rows → m < n → AreAbove m (rows ++ (n, v) ∷ [])
  above_put m n v [] above less = (less, tt)
  above_put m n v (r ∷ rows) above less = (above.0, above_put m n v rows above.1 less)

  pub rising_put : (n : ℕ) (v : T) (rows : List (ℕ × T)) → AreRising rows → IsAbove n rows → AreRising (rows ++ (n, v) ∷ [])
  rising_put n v [] rising highest = (tt, tt)
  rising_put n v (r ∷ rows) rising highest =
      (above_put r.0 n v rows rising.0 (highest 0 r (omega arith)), rising_put n v rows rising.1 (λ k d within. highest (suc k) d (omega (arith, within))))

  -- ---- in std's words
  later : (P : ℕ → Type 0) (n : ℕ) → ((k : ℕ) → n < k → P k) → (rows : List (ℕ × T)) → AreAbove n rows → AllByRecursion P (numbers rows)
  later P n from [] above = tt
  later P n from (r ∷ rows) above = (from r.0 above.0, later P n from rows above.1)

  pub rising_distinct : (rows : List (ℕ × T)) → AreRising rows → IsDistinct nat_eq (numbers rows)
  unfolding IsDistinct
  rising_distinct [] rising = tt
  rising_distinct (r ∷ rows) rising =
      (later (λ k. nat_eq r.0 k ≡ false) r.0 (λ k less. apart r.0 k (λ same. omega (arith, less, same))) rows rising.0, rising_distinct rows rising.1)

  pub rising_sorted : (rows : List (ℕ × T)) → AreRising rows → IsStrictlySortedBy nat_cmp (numbers rows)
  unfolding IsStrictlySortedBy
  rising_sorted [] rising = tt
  rising_sorted (r ∷ rows) rising = (later (λ k. nat_cmp r.0 k ≡ Less) r.0 (λ k less. sym (nat_cmp_is r.0 k Less less)) rows rising.0, rising_sorted rows rising.1)

-- ---- other regions of a number
module _ {R : Type 0} (n : ℕ) (change : List R → List R) where
  pub with_lacking : (rows : List (ℕ × List R)) → Lacks n rows → with_number n change rows ≡ rows
  with_lacking [] lacks = refl
  with_lacking (r ∷ rows) lacks = rw lacks.0 (ap (λ l. r ∷ l) (with_lacking rows lacks.1))

  pub with_left : (xs ys : List (ℕ × List R)) → Lacks n xs → with_number n change (xs ++ ys) ≡ xs ++ with_number n change ys
  with_left [] ys lacks = refl
  with_left (x ∷ xs) ys lacks = rw lacks.0 (ap (λ l. x ∷ l) (with_left xs ys lacks.1))

  pub with_right : (xs ys : List (ℕ × List R)) → Lacks n ys → with_number n change (xs ++ ys) ≡ with_number n change xs ++ ys
  with_right [] ys lacks = with_lacking ys lacks
  with_right (x ∷ xs) ys lacks =
      ap (λ l. cond (nat_eq n x.0) ((x.0, change x.1) ∷ (xs ++ ys)) (x ∷ l)) (with_right xs ys lacks)
      ∙ append_cond (nat_eq n x.0) ((x.0, change x.1) ∷ xs) (x ∷ with_number n change xs) ys

  pub changed_at : (rows : List (ℕ × List R)) (i : ℕ) (d : ℕ × List R) → i < length rows → AllWithin (λ row. row.0 < n) rows 0 i → (get_or rows i d).0 ≡ n
      → with_number n change rows ≡ set rows i ((get_or rows i d).0, change (get_or rows i d).1)
  changed_at [] i d within below here = absurd (omega (arith, within))
  changed_at (r ∷ rows) zero d within below here = rw (same_number n r.0 here) refl
  changed_at (r ∷ rows) (suc i) d within below here =
      rw (below_first n r rows i below) (ap (λ l. r ∷ l) (changed_at rows i d (omega (arith, within)) (below_later n r rows i below) here))

  above_with : (m : ℕ) (rows : List (ℕ × List R)) → AreAbove m rows → AreAbove m (with_number n change rows)
  above_with m [] above = tt
  above_with m (r ∷ rows) above =
      either (AreAbove m) (nat_eq n r.0) ((r.0, change r.1) ∷ rows) (r ∷ with_number n change rows) above (above.0, above_with m rows above.1)

  pub rising_with : (rows : List (ℕ × List R)) → AreRising rows → AreRising (with_number n change rows)
  rising_with [] rising = tt
  rising_with (r ∷ rows) rising =
      either AreRising (nat_eq n r.0) ((r.0, change r.1) ∷ rows) (r ∷ with_number n change rows) rising (above_with r.0 rows rising.0, rising_with rows rising.1)

  pub length_with : (rows : List (ℕ × List R)) → length (with_number n change rows) ≡ length rows
  length_with [] = refl
  length_with (r ∷ rows) =
      either (λ l. length l ≡ suc (length rows)) (nat_eq n r.0) ((r.0, change r.1) ∷ rows) (r ∷ with_number n change rows) refl (ap suc (length_with rows))

  pub changed_there : (rows : List (ℕ × List R)) (i : ℕ) (r : ℕ × List R) → HasRow n rows → IsPlace n rows i → r ≡ get_or rows i r
      → set rows i (r.0, change r.1) ≡ with_number n change rows
  changed_there rows i r row place is =
      ap (λ row. set rows i (row.0, change row.1)) is ∙ sym (changed_at rows i r (within n rows i r row place is) place.0 (here n rows i r row place is))

-- What a cell has after the notes of a number were taken out, from the last of them to the first.
use Rattle.std.proofs.Common.{◌≡◌, ℕ, ◌+◌, ◌<◌, ◌≤◌, ◌⊎◌, inl, inr, suc, Bool, true, false, cond, if◌then◌else◌, Some, IfSome, List, [], ◌∷◌, ◌++◌, length, take, drop, filter, remove, slice_get, get_or, nat_eq, All, refl, sym, ap, subst, arith, append_assoc, ◌∙◌}
use Rattle.std.specs.List.{AllWithin}
use Rattle.std.specs.List.Sorted.{IsNonDecreasingBy}
use Rattle.std.proofs.lemmas.Bool.{cases_lt}
use Rattle.std.proofs.lemmas.Bool.Decides.{nat_tests}
use Rattle.std.proofs.lemmas.List.{take_more, drop_more, take-append-drop, length-take, length-take-le, length-drop, get_or-take, get_or-drop}
use Rattle.std.proofs.lemmas.List.Edits.{length-remove, get_or-remove_below, get_or-remove_above}
use Rattle.std.proofs.lemmas.List.Elements.{filter-append}
use Rattle.std.proofs.lemmas.Option.{slice_get_read}
use Rattle.lost_index.specs.declared.note.Note.{Note}
use Rattle.lost_index.specs.Notes.{number_of, stays}

-- a filter keeps all where all pass
filter_all : {X : Type 0} (test : X → Bool) (xs : List X) → All (λ x. test x ≡ true) xs → filter test xs ≡ xs
filter_all test [] passing = refl
filter_all test (x ∷ xs) passing =
    rw (passing 0 x (omega arith)) (ap (λ l. x ∷ l) (filter_all test xs (λ k d within. passing (suc k) d (omega arith))))

-- ---- the element between two lists
at_middle : {X : Type 0} (front back : List X) (x : X) → slice_get (front ++ x ∷ back) (length front) ≡ Some x
at_middle [] back x = refl
at_middle (y ∷ front) back x = at_middle front back x

remove_middle : {X : Type 0} (front back : List X) (x : X) → remove (front ++ x ∷ back) (length front) ≡ front ++ back
remove_middle [] back x = refl
remove_middle (y ∷ front) back x = ap (λ l. y ∷ l) (remove_middle front back x)

middle_tested : {X : Type 0} (front back : List X) (x : X) (b : Bool)
    → cond b (front ++ x ∷ back) (remove (front ++ x ∷ back) (length front)) ≡ front ++ cond b (x ∷ back) back
middle_tested front back x true = refl
middle_tested front back x false = remove_middle front back x

tested_at : {X : Type 0} (test : X → Bool) (front back : List X) (x : X) (new : List X)
    → IfSome (slice_get (front ++ x ∷ back) (length front)) (λ y. new ≡ (if test y then front ++ x ∷ back else remove (front ++ x ∷ back) (length front)))
    → new ≡ front ++ cond (test x) (x ∷ back) back
tested_at test front back x new is =
    subst (λ o. IfSome o (λ y. new ≡ (if test y then front ++ x ∷ back else remove (front ++ x ∷ back) (length front)))) (at_middle front back x) is
    ∙ middle_tested front back x (test x)

-- the element at a position goes or stays as it is tested
pub tested_there : {X : Type 0} (test : X → Bool) (xs new : List X) (i : ℕ) (x : X) (b : Bool) → i < length xs → x ≡ get_or xs i x → test x ≡ b
    → new ≡ (if b then xs else remove xs i) → IfSome (slice_get xs i) (λ y. new ≡ (if test y then xs else remove xs i))
tested_there test xs new i x b within is tested made =
    subst (λ o. IfSome o (λ y. new ≡ (if test y then xs else remove xs i))) (sym (slice_get_read xs (length xs) i x refl within is))
    (subst (λ t. new ≡ (if t then xs else remove xs i)) (sym tested) made)

-- ---- from a position on a list is filtered
abbrev pub filtered_from : {X : Type 0} → (X → Bool) → ℕ → List X → List X
filtered_from test i xs = take i xs ++ filter test (drop i xs)

filtered_next : {X : Type 0} (test : X → Bool) (xs old new : List X) (i : ℕ) (d : X) → i < length xs
    → old ≡ filtered_from test (i + 1) xs
    → IfSome (slice_get old i) (λ x. new ≡ (if test x then old else remove old i)) → new ≡ filtered_from test i xs
filtered_next test xs old new i d within so_far step =
    let x = get_or xs i d in
    let front = take i xs in
    let back = filter test (drop (i + 1) xs) in
    let whole : old ≡ front ++ x ∷ back =
    so_far ∙ ap (λ l. l ++ back) (take_more xs i d within) ∙ append_assoc front (x ∷ []) back in
    let place : length front ≡ i = length-take-le i xs (omega arith) in
    let next : IfSome (slice_get (front ++ x ∷ back) (length front)) (λ y. new ≡ (if test y then front ++ x ∷ back else remove (front ++ x ∷ back) (length front))) =
    subst (λ k. IfSome (slice_get (front ++ x ∷ back) k) (λ y. new ≡ (if test y then front ++ x ∷ back else remove (front ++ x ∷ back) k))) (sym place)
    (subst (λ l. IfSome (slice_get l i) (λ y. new ≡ (if test y then l else remove l i))) whole step) in
    tested_at test front back x new next ∙ ap (λ l. front ++ filter test l) (sym (drop_more xs i d within))

-- so is it from the one before, where that is taken out if it fails
pub filtered_more : {X : Type 0} (test : X → Bool) (xs old new : List X) (i : ℕ) → i < length xs → old ≡ filtered_from test (i + 1) xs
    → IfSome (slice_get old i) (λ x. new ≡ (if test x then old else remove old i)) → new ≡ filtered_from test i xs
filtered_more test [] old new i within so_far step = absurd (omega (arith, within))
filtered_more test (x ∷ xs) old new i within so_far step = filtered_next test (x ∷ xs) old new i x within so_far step

-- from the end of those that may fail it is filtered as it is
pub filtered_from_end : {X : Type 0} (test : X → Bool) (i : ℕ) (xs : List X) → All (λ x. test x ≡ true) (drop i xs) → xs ≡ filtered_from test i xs
filtered_from_end test i xs passing =
    sym (take-append-drop i xs) ∙ ap (λ l. take i xs ++ l) (sym (filter_all test (drop i xs) passing))

-- and from their start it is filtered whole
pub filtered_from_start : {X : Type 0} (test : X → Bool) (i : ℕ) (xs : List X) → All (λ x. test x ≡ true) (take i xs) → filtered_from test i xs ≡ filter test xs
filtered_from_start test i xs passing =
    ap (λ l. l ++ filter test (drop i xs)) (sym (filter_all test (take i xs) passing))
    ∙ sym (filter-append test (take i xs) (drop i xs)) ∙ ap (filter test) (take-append-drop i xs)

-- ---- the notes of other numbers stay
apart_below : (number k : ℕ) → k < number → nat_eq number k ≡ false
apart_below number k below = grind (arith, nat_tests)

apart_above : (number k : ℕ) → number < k → nat_eq number k ≡ false
apart_above number k above = grind (arith, nat_tests)

module _ {R K O : Type 0} (eq : K → K → Bool) (same : O → O → Bool) (cover_of : R → List K) (outline_of : R → O)
    (number : ℕ) (regions : List R) (key : K) where
  abbrev test : Note O → Bool
  test note = stays eq same cover_of outline_of number regions key note

  stays_apart : (note : Note O) → nat_eq number note.number ≡ false → test note ≡ true
  stays_apart note apart = rw apart refl

  pub front_stays : (start i : ℕ) (notes : List (Note O)) → AllWithin (λ note. number_of note < number) notes 0 start → i ≤ start
      → All (λ note. test note ≡ true) (take i notes)
  front_stays start i notes below le k d within =
      let long = length-take i notes in
      rw (get_or-take i notes k d (omega arith))
      (stays_apart (get_or notes k d) (apart_below number (get_or notes k d).number (below k d (omega arith) (omega arith))))

  pub back_stays : (end : ℕ) (notes : List (Note O)) → AllWithin (λ note. number < number_of note) notes end (length notes)
      → All (λ note. test note ≡ true) (drop end notes)
  back_stays end notes above k d within =
      let long = length-drop end notes in
      rw (get_or-drop end notes k d)
      (stays_apart (get_or notes (end + k) d) (apart_above number (get_or notes (end + k) d).number (above (end + k) d (omega arith) (omega arith))))

-- ---- what rises does so without one
pub rising-remove : {X : Type 0} (n : X → ℕ) (xs : List X) (i : ℕ) → i < length xs → IsNonDecreasingBy n xs → IsNonDecreasingBy n (remove xs i)
rising-remove n xs i within rising j k d le lt = which (cases_lt j i) (cases_lt k i)
  where
    which : (j < i) ⊎ (i ≤ j) → (k < i) ⊎ (i ≤ k) → n (get_or (remove xs i) j d) ≤ n (get_or (remove xs i) k d)
    which (inl front) (inl front_too) =
        let long = length-remove xs i within in
        let low = ap n (get_or-remove_below xs i d j front within) in
        let high = ap n (get_or-remove_below xs i d k front_too within) in
        let up = rising j k d le (omega arith) in
        omega (arith, low, high, up)
    which (inl front) (inr behind) =
        let long = length-remove xs i within in
        let low = ap n (get_or-remove_below xs i d j front within) in
        let high = ap n (get_or-remove_above xs i d k behind within) in
        let up = rising j (k + 1) d (omega arith) (omega arith) in
        omega (arith, low, high, up)
    which (inr behind) (inl front) = absurd (omega (arith, behind, front, le))
    which (inr behind) (inr behind_too) =
        let long = length-remove xs i within in
        let low = ap n (get_or-remove_above xs i d j behind within) in
        let high = ap n (get_or-remove_above xs i d k behind_too within) in
        let up = rising (j + 1) (k + 1) d (omega arith) (omega arith) in
        omega (arith, low, high, up)

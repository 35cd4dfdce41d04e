-- The numbers that are found are held; all with a region that contains the location are among them, and a test keeps these.
use Rattle.std.proofs.Common.{◌≡◌, ℕ, Bool, true, false, ◌&&◌, ◌||◌, Option, None, Some, is_some, List, [], ◌∷◌, map, filter, All, Contains, get_or, nat_eq, nat_cmp, cond, refl, sym, ap, subst, suc, arith, ◌∙◌}
use Rattle.std.specs.BTreeMap.{is_at}
use Rattle.std.specs.Cmp.{nat_eq_equiv}
use Rattle.std.specs.HashMap.{HashMap, get}
use Rattle.std.specs.List.{list_any, flat_map, dedup}
use Rattle.std.specs.List.Sorted.{IsStrictlyIncreasing, IsPermutation}
use Rattle.std.specs.Option.{option_map_or}
use Rattle.std.proofs.lemmas.Cmp.{nat_cmp_total}
use Rattle.std.proofs.lemmas.List.Elements.{Contains-get_or}
use Rattle.std.proofs.lemmas.List.Kept.{Contains-dedup_nat, Contains-from_dedup, IsStrictlySortedBy-filter}
use Rattle.std.proofs.lemmas.List.Sorted.{Contains-permutation, IsPermutation-sym}
use Rattle.std.proofs.lemmas.Map.Keys.{sorted_from_strictly_increasing}
use Rattle.std.proofs.lemmas.Map.Lookups.{btree_set_from_contains, exact_unsigned}
use Rattle.std.proofs.lemmas.Bool.{false≢true}
use Rattle.std.proofs.lemmas.Bool.Decides.{nat_tests}
use Rattle.std.proofs.lemmas.List.Folds.{list_any-append, Any-from_list_any}
use Rattle.std.proofs.lemmas.Map.Views.{any-filter_same, Contains-from_any, list_any-from_Contains, Contains-keys_from_lookup, lookup-from_Contains}
use Rattle.lost_profile.specs.Keys.{SharesKey}
use Rattle.lost_index.specs.Chunks.{AreRising}
use Rattle.lost_index.specs.Entries.{numbers, regions_of, holders, is_holder, IsHeld}
use Rattle.lost_index.specs.declared.note.Note.{Note}
use Rattle.lost_index.specs.Notes.{notes_of, is_note, has_note, covers_with, numbers_near, IsIndexed}
use Rattle.lost_index.proofs.EntryLemmas.{at_same}
use Rattle.lost_index.proofs.RisingLemmas.{rising_distinct, rising_sorted}
use Rattle.lost_index.proofs.NoteChangeLemmas.{any-from_contained, any-alike}

same_number : (n k : ℕ) → nat_eq n k ≡ true → n ≡ k
same_number n k same = search (arith, nat_tests)

left_of_and : (a b : Bool) → (a && b) ≡ true → a ≡ true
left_of_and true b h = refl
left_of_and false b h = absurd (false≢true h)

both_and : (a b : Bool) → a ≡ true → b ≡ true → (a && b) ≡ true
both_and true b h k = k
both_and false b h k = absurd (false≢true h)

-- what stands in a `flat_map` stands in one of its lists
any-flat_map : {X A : Type 0} (test : A → Bool) (f : X → List A) (xs : List X) → list_any test (flat_map f xs) ≡ list_any (λ x. list_any test (f x)) xs
any-flat_map test f [] = refl
any-flat_map test f (x ∷ xs) = list_any-append test (f x) (flat_map f xs) ∙ ap (λ b. list_any test (f x) || b) (any-flat_map test f xs)

-- a number stands in a filter where it passes and stands in the list
pub stands-filter : (p : ℕ → Bool) (n : ℕ) (xs : List ℕ) → list_any (nat_eq n) (filter p xs) ≡ (p n && list_any (nat_eq n) xs)
stands-filter p n xs = any-filter_same (nat_eq n) p (p n) (λ k same. ap p (sym (same_number n k same))) xs

-- what stands in what a map or a filter gives, stands in the list
any-map : {X Y : Type 0} (test : Y → Bool) (f : X → Y) (xs : List X) → list_any test (map f xs) ≡ list_any (λ x. test (f x)) xs
any-map test f [] = refl
any-map test f (x ∷ xs) = ap (λ b. test (f x) || b) (any-map test f xs)

any-kept : (a b c : Bool) → (cond a (b || c) c) ≡ ((a && b) || c)
any-kept true b c = refl
any-kept false b c = refl

any-cond : {X : Type 0} (test : X → Bool) (b : Bool) (x : X) (xs : List X) → list_any test (cond b (x ∷ xs) xs) ≡ cond b (test x || list_any test xs) (list_any test xs)
any-cond test true x xs = refl
any-cond test false x xs = refl

any-filter : {X : Type 0} (test p : X → Bool) (xs : List X) → list_any test (filter p xs) ≡ list_any (λ x. p x && test x) xs
any-filter test p [] = refl
any-filter test p (x ∷ xs) =
    any-cond test (p x) x (filter p xs) ∙ any-kept (p x) (test x) (list_any test (filter p xs)) ∙ ap (λ b. (p x && test x) || b) (any-filter test p xs)

right_of_and : (a b : Bool) → (a && b) ≡ true → b ≡ true
right_of_and true b h = h
right_of_and false b h = absurd (false≢true h)

module _ {K O : Type 0} (near : O → Bool) (n : ℕ) (cell : K → List (Note O)) (keys : List K) where
  abbrev is_near_number : Note O → Bool
  is_near_number note = near note.outline && nat_eq n note.number

  any-numbers : (notes : List (Note O)) → list_any (nat_eq n) (numbers_near near notes) ≡ list_any is_near_number notes
  any-numbers notes =
      any-map (nat_eq n) (λ note. note.number) (filter (λ note. near note.outline) notes)
      ∙ any-filter (λ note. nat_eq n note.number) (λ note. near note.outline) notes

  -- a number that is found under the keys is noted under one of them
  pub found_noted : (same : O → O → Bool) → ((o : O) → same o o ≡ true)
      → list_any (nat_eq n) (flat_map (λ key. numbers_near near (cell key)) keys) ≡ true
      → (key : K) × (outline : O) × (has_note same n outline (cell key) ≡ true)
  found_noted same itself found =
      let any = Any-from_list_any (λ key. list_any (nat_eq n) (numbers_near near (cell key))) keys
      (sym (any-flat_map (nat_eq n) (λ key. numbers_near near (cell key)) keys) ∙ found) in
      let one = Any-from_list_any is_near_number (cell any.1) (sym (any-numbers (cell any.1)) ∙ any.4) in
      let note = one.1 in (
        any.1,
        note.outline,
        any-from_contained (is_note same n note.outline) (cell any.1) note (one.0, one.2, one.3)
            (both_and (nat_eq n note.number) (same note.outline note.outline)
            (right_of_and (near note.outline) (nat_eq n note.number) one.4) (itself note.outline)),
      )

  -- and one that is noted under one of the keys with an outline that passes is found
  pub noted_found : (same : O → O → Bool) (outline : O) (key : K) → ((o : O) → same outline o ≡ true → near o ≡ true)
      → Contains keys key → has_note same n outline (cell key) ≡ true
      → list_any (nat_eq n) (flat_map (λ key. numbers_near near (cell key)) keys) ≡ true
  noted_found same outline key alike stands noted =
      let one = Any-from_list_any (is_note same n outline) (cell key) noted in
      let note = one.1 in
      any-flat_map (nat_eq n) (λ key. numbers_near near (cell key)) keys
      ∙ any-from_contained (λ key. list_any (nat_eq n) (numbers_near near (cell key))) keys key stands
      (any-numbers (cell key)
      ∙ any-from_contained is_near_number (cell key) note (one.0, one.2, one.3)
      (both_and (near note.outline) (nat_eq n note.number)
      (alike note.outline (right_of_and (nat_eq n note.number) (same outline note.outline) one.4))
      (left_of_and (nat_eq n note.number) (same outline note.outline) one.4)))

next_number : {V : Type 0} (p : ℕ → Bool) (b : Bool) (e : ℕ × V) (kept : List (ℕ × V)) (keys : List ℕ) → map (λ e. e.0) kept ≡ filter p keys
    → map (λ e. e.0) (cond b (e ∷ kept) kept) ≡ cond b (e.0 ∷ filter p keys) (filter p keys)
next_number p true e kept keys rest = ap (λ l. e.0 ∷ l) rest
next_number p false e kept keys rest = rest

-- the numbers of the entries that pass are the numbers that do
pub numbers-filter : {V : Type 0} (p : ℕ → Bool) (test : ℕ × V → Bool) (es : List (ℕ × V)) → All (λ e. p e.0 ≡ test e) es
    → map (λ e. e.0) (filter test es) ≡ filter p (map (λ e. e.0) es)
numbers-filter p test [] alike = refl
numbers-filter p test (e ∷ es) alike =
    rw (alike 0 e (omega arith))
    (next_number p (test e) e (filter test es) (map (λ e. e.0) es) (numbers-filter p test es (λ k d within. alike (suc k) d (omega arith))))

-- what holds where the first does, holds beside it as any other that does
and_alike : (a b c : Bool) → (a ≡ true → b ≡ true) → (a ≡ true → c ≡ true) → (a && b) ≡ (a && c)
and_alike true b c one other = one refl ∙ sym (other refl)
and_alike false b c one other = refl

-- what passes is there
pub there_if : {X : Type 0} (f : X → Bool) (o : Option X) → option_map_or f o false ≡ true → (x : X) × (o ≡ Some x) × (f x ≡ true)
there_if f None h = absurd (false≢true h)
there_if f (Some x) h = (x, refl, h)

module _ {R L : Type 0} (holds : R → L → Bool) (location : L) (held : List (ℕ × List R)) where
  abbrev passes : ℕ → Bool
  passes = is_holder holds location held

  abbrev some_holds : List R → Bool
  some_holds regions = list_any (λ region. holds region location) regions

  -- a number that passes is held
  stands_held : (n : ℕ) → passes n ≡ true → list_any (nat_eq n) (numbers held) ≡ true
  stands_held n h =
      let there = there_if some_holds (regions_of held n) h in
      list_any-from_Contains nat_eq_equiv n (numbers held)
      (Contains-keys_from_lookup same_number n held (ap is_some there.1))

  module _ (ordered : AreRising held) where
    alike : All (λ e. passes e.0 ≡ some_holds e.1) held
    alike k d within =
        let e = get_or held k d in
        ap (λ o. option_map_or some_holds o false)
        (lookup-from_Contains nat_eq_equiv e.0 e.1 held (rising_distinct held ordered) (Contains-get_or held k d within))

    holders_filter : holders holds location held ≡ filter passes (numbers held)
    holders_filter = numbers-filter passes (λ e. some_holds e.1) held alike

    -- the holders are the numbers that pass
    pub holder_passes : (n : ℕ) → Contains (holders holds location held) n → passes n ≡ true
    holder_passes n stands =
        left_of_and (passes n) (list_any (nat_eq n) (numbers held))
        (sym (stands-filter passes n (numbers held)) ∙ ap (list_any (nat_eq n)) (sym holders_filter)
        ∙ list_any-from_Contains nat_eq_equiv n (holders holds location held) stands)

    passes_holder : (n : ℕ) → passes n ≡ true → Contains (holders holds location held) n
    passes_holder n h =
        Contains-from_any same_number n (holders holds location held)
        (ap (list_any (nat_eq n)) holders_filter ∙ stands-filter passes n (numbers held)
        ∙ both_and (passes n) (list_any (nat_eq n) (numbers held)) h (stands_held n h))

    -- of rising numbers among which all holders are, those that pass are the holders
    pub holding_is : (near result : List ℕ) → IsStrictlyIncreasing near
        → ((n : ℕ) → Contains (holders holds location held) n → Contains near n)
        → result ≡ filter passes near → result ≡ holders holds location held
    holding_is near result rising among kept =
        kept ∙ btree_set_from_contains nat_cmp_total (record { keys = filter passes near }) (record { keys = filter passes (numbers held) })
        (IsStrictlySortedBy-filter nat_cmp passes near (sorted_from_strictly_increasing near rising))
        (IsStrictlySortedBy-filter nat_cmp passes (numbers held) (rising_sorted held ordered))
        (λ n. any-alike (is_at (nat_cmp n)) (nat_eq n) (at_same n) (filter passes near) ∙ stands-filter passes n near
        ∙ and_alike (passes n) (list_any (nat_eq n) near) (list_any (nat_eq n) (numbers held))
        (λ h. list_any-from_Contains nat_eq_equiv n near (among n (passes_holder n h))) (stands_held n)
        ∙ sym (stands-filter passes n (numbers held)) ∙ sym (any-alike (is_at (nat_cmp n)) (nat_eq n) (at_same n) (filter passes (numbers held))))
        exact_unsigned ∙ sym holders_filter

module _ {R K O S : Type 0} (is_region : R → Type 0) (cover_of : R → List K) (outline_of : R → O) (eq : K → K → Bool) (same : O → O → Bool)
    (near : O → Bool) (probes : List K) (held : List (ℕ × List R)) (cells : HashMap K (List (Note O)) S)
    (indexed : IsIndexed is_region cover_of outline_of eq same held cells)
    (found sorted result : List ℕ)
    (is : found ≡ flat_map (λ key. numbers_near near (notes_of (get eq cells key))) probes)
    (moved : IsPermutation found sorted) (once : result ≡ dedup nat_eq sorted) where
  abbrev found_under : K → List ℕ
  found_under key = numbers_near near (notes_of (get eq cells key))

  -- ---- what is found is held
  noted_held : (same_itself : (o : O) → same o o ≡ true) (n : ℕ) → list_any (nat_eq n) (flat_map found_under probes) ≡ true → IsHeld n held
  noted_held same_itself n stands =
      let noted = found_noted near n (λ key. notes_of (get eq cells key)) probes same same_itself stands in
      let there = there_if (λ regions. covers_with eq same cover_of outline_of regions noted.0 noted.1) (regions_of held n)
      (indexed.only_notes noted.0 n noted.1 noted.2) in
      Contains-keys_from_lookup same_number n held (ap is_some there.1)

  pub near_held : ((o : O) → same o o ≡ true) → All (λ n. IsHeld n held) result
  near_held same_itself k d within =
      let n = get_or result k d in
      let there : Contains (dedup nat_eq sorted) n = subst (λ l. Contains l n) once (Contains-get_or result k d within) in
      noted_held same_itself n
      (ap (list_any (nat_eq n)) (sym is)
      ∙ list_any-from_Contains nat_eq_equiv n found
      (Contains-permutation sorted found n (IsPermutation-sym found sorted moved) (Contains-from_dedup nat_eq sorted n there)))

  -- ---- the holders are found
  module _ {L : Type 0} (holds : R → L → Bool) (location : L) (ordered : AreRising held)
      (meets : (region : R) → is_region region → holds region location ≡ true → SharesKey (cover_of region) probes)
      (is_near : (region : R) → is_region region → holds region location ≡ true → near (outline_of region) ≡ true)
      (alike_near : (o other : O) → same o other ≡ true → near o ≡ near other) where
    holder_found : (n : ℕ) → is_holder holds location held n ≡ true → list_any (nat_eq n) (flat_map found_under probes) ≡ true
    holder_found n h =
        let there = there_if (λ regions. list_any (λ region. holds region location) regions) (regions_of held n) h in
        let any = Any-from_list_any (λ region. holds region location) there.0 there.2 in
        let stands : Contains there.0 any.1 = (any.0, any.2, any.3) in
        let is_one = indexed.are_regions n there.0 there.1 any.1 stands in
        let shared = meets any.1 is_one any.4 in
        noted_found near n (λ key. notes_of (get eq cells key)) probes same (outline_of any.1) shared.key
        (λ o equal. sym (alike_near (outline_of any.1) o equal) ∙ is_near any.1 is_one any.4) shared.in_right
        (indexed.have_notes n there.0 there.1 shared.key (outline_of any.1)
        (record { region = any.1; stands = stands; covered = shared.in_left; outlined = refl }))

    pub near_has : (n : ℕ) → Contains (holders holds location held) n → Contains result n
    near_has n stands =
        subst (λ l. Contains l n) (sym once)
        (Contains-dedup_nat sorted n (Contains-permutation found sorted n moved
        (Contains-from_any same_number n found
        (ap (list_any (nat_eq n)) is ∙ holder_found n (holder_passes holds location held ordered n stands)))))

-- What a filter keeps, where its test decides a fact.
use Rattle.std.proofs.Common.{◌≡◌, Bool, true, false, cond, ◌||◌, List, [], ◌∷◌, Some, filter, find, Decides, sym, refl, ap, ◌∙◌, true≢false}
use Rattle.std.proofs.lemmas.Bool.{false_from_ne_true}
use Rattle.std.specs.List.{AllByRecursion, list_any}
use Rattle.lost_spec.specs.Laws.{Picks, PicksNone, PicksIt, PassesIt}

-- ---- picks

-- what is picked where P holds of nothing is nothing
pub nil_from_Picks : {Thing : Type 0} {P : Thing → Type 0} {xs ys : List Thing} → Picks P xs ys → AllByRecursion (λ x. ¬ P x) xs → ys ≡ []
nil_from_Picks PicksNone none = refl
nil_from_Picks (PicksIt p rest) none = absurd (none.0 p)
nil_from_Picks (PassesIt fails rest) none = nil_from_Picks rest none.1

module _ {Thing : Type 0} (test : Thing → Bool) where
  -- a filter drops a first thing that fails
  pub filter_drops : (x : Thing) (xs : List Thing) → test x ≡ false → filter test (x ∷ xs) ≡ filter test xs
  filter_drops x xs e = ap (λ b. cond b (x ∷ filter test xs) (filter test xs)) e

  -- some thing passes just where some thing that is kept passes
  pub list_any-filter : (xs : List Thing) → list_any test (filter test xs) ≡ list_any test xs
  list_any-filter [] = refl
  list_any-filter (x ∷ xs) = by (test x) refl (list_any-filter xs)
    where
      by : (b : Bool) → test x ≡ b → list_any test (filter test xs) ≡ list_any test xs → list_any test (cond b (x ∷ filter test xs) (filter test xs)) ≡ (b || list_any test xs)
      by true e h = ap (λ b. b || list_any test (filter test xs)) e
      by false e h = h

-- ---- a filter before a test that only what is kept passes

module _ {Thing : Type 0} (test kept : Thing → Bool) (only : (x : Thing) → test x ≡ true → kept x ≡ true) where
  -- what is not kept fails
  fails_unkept : (x : Thing) → kept x ≡ false → test x ≡ false
  fails_unkept x e = false_from_ne_true (test x) (λ p. true≢false (sym (only x p) ∙ e))

  pub filter-filter : (xs : List Thing) → filter test (filter kept xs) ≡ filter test xs
  filter-filter [] = refl
  filter-filter (x ∷ xs) = by (kept x) refl (filter-filter xs)
    where
      by : (b : Bool) → kept x ≡ b → filter test (filter kept xs) ≡ filter test xs → filter test (cond b (x ∷ filter kept xs) (filter kept xs)) ≡ filter test (x ∷ xs)
      by true e rest = ap (λ ys. cond (test x) (x ∷ ys) ys) rest
      by false e rest = rest ∙ sym (filter_drops test x xs (fails_unkept x e))

  pub list_any-kept : (xs : List Thing) → list_any test (filter kept xs) ≡ list_any test xs
  list_any-kept [] = refl
  list_any-kept (x ∷ xs) = by (kept x) refl (list_any-kept xs)
    where
      by : (b : Bool) → kept x ≡ b → list_any test (filter kept xs) ≡ list_any test xs → list_any test (cond b (x ∷ filter kept xs) (filter kept xs)) ≡ (test x || list_any test xs)
      by true e rest = ap (λ r. test x || r) rest
      by false e rest = rest ∙ sym (ap (λ t. t || list_any test xs) (fails_unkept x e))

  pub find-filter : (xs : List Thing) → find test (filter kept xs) ≡ find test xs
  find-filter [] = refl
  find-filter (x ∷ xs) = by (kept x) refl (find-filter xs)
    where
      by : (b : Bool) → kept x ≡ b → find test (filter kept xs) ≡ find test xs → find test (cond b (x ∷ filter kept xs) (filter kept xs)) ≡ cond (test x) (Some x) (find test xs)
      by true e rest = ap (λ o. cond (test x) (Some x) o) rest
      by false e rest = rest ∙ sym (ap (λ t. cond t (Some x) (find test xs)) (fails_unkept x e))

module _ {Thing : Type 0} (test : Thing → Bool) {P : Thing → Type 0} (decides : (x : Thing) → Decides (test x) (P x)) where
  -- where the test fails, P does not hold
  pub not_from_false : (x : Thing) → test x ≡ false → ¬ P x
  not_from_false x e p = true≢false (sym ((decides x).1 p) ∙ e)

  -- a filter picks what its test decides
  pub Picks-filter : (xs : List Thing) → Picks P xs (filter test xs)
  Picks-filter [] = PicksNone
  Picks-filter (x ∷ xs) = by (test x) refl (Picks-filter xs)
    where
      by : (b : Bool) → test x ≡ b → Picks P xs (filter test xs) → Picks P (x ∷ xs) (cond b (x ∷ filter test xs) (filter test xs))
      by true e rest = PicksIt ((decides x).0 e) rest
      by false e rest = PassesIt (not_from_false x e) rest

  -- where a filter keeps nothing, P holds of nothing
  pub none_from_filter : (xs : List Thing) → filter test xs ≡ [] → AllByRecursion (λ x. ¬ P x) xs
  none_from_filter [] h = tt
  none_from_filter (x ∷ xs) h = by (test x) refl (none_from_filter xs) h
    where
      by : (b : Bool) → test x ≡ b → (filter test xs ≡ [] → AllByRecursion (λ y. ¬ P y) xs) → cond b (x ∷ filter test xs) (filter test xs) ≡ [] → (¬ P x) × AllByRecursion (λ y. ¬ P y) xs
      by true e rest h = absurd (cc h)
      by false e rest h = (not_from_false x e, rest h)

  -- no test passes just where P holds of nothing
  pub none_from_list_any : (xs : List Thing) → list_any test xs ≡ false → AllByRecursion (λ x. ¬ P x) xs
  none_from_list_any [] h = tt
  none_from_list_any (x ∷ xs) h = by (test x) refl (none_from_list_any xs) h
    where
      by : (b : Bool) → test x ≡ b → (list_any test xs ≡ false → AllByRecursion (λ y. ¬ P y) xs) → (b || list_any test xs) ≡ false → (¬ P x) × AllByRecursion (λ y. ¬ P y) xs
      by true e rest h = absurd (true≢false h)
      by false e rest h = (not_from_false x e, rest h)

  pub list_any_from_none : (xs : List Thing) → AllByRecursion (λ x. ¬ P x) xs → list_any test xs ≡ false
  list_any_from_none [] none = refl
  list_any_from_none (x ∷ xs) none = by (test x) refl (list_any_from_none xs none.1)
    where
      by : (b : Bool) → test x ≡ b → list_any test xs ≡ false → (b || list_any test xs) ≡ false
      by true e h = absurd (none.0 ((decides x).0 e))
      by false e h = h

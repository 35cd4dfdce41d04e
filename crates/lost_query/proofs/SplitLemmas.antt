-- Lists that are sifted by tests.
use Rattle.std.proofs.Common.{◌≡◌, Bool, true, false, cond, ◌&&◌, ◌||◌, List, [], ◌∷◌, ◌++◌, map, filter, refl, sym, ap, ◌∙◌}
use Rattle.std.specs.List.{AllByRecursion, list_any, list_all}
use Rattle.std.proofs.lemmas.Bool.{false≢true}
use Rattle.std.proofs.lemmas.List.{append-nil}
use Rattle.std.proofs.lemmas.List.Elements.{filter-append}
use Rattle.lost_spec.specs.Text.{Text, same_text, is_among}
use Rattle.lost_spec.proofs.OrderLemmas.{same_text-same}

-- two tests that agree keep the same
pub filter_alike : {Thing : Type 0} (p q : Thing → Bool) → ((x : Thing) → p x ≡ q x) → (xs : List Thing) → filter p xs ≡ filter q xs
filter_alike p q same [] = refl
filter_alike p q same (x ∷ xs) =
    ap (λ b. cond b (x ∷ filter p xs) (filter p xs)) (same x) ∙ ap (λ rest. cond (q x) (x ∷ rest) rest) (filter_alike p q same xs)

-- a test of what f gives
pub filter-map : {X Y : Type 0} (p : Y → Bool) (f : X → Y) (xs : List X) → filter p (map f xs) ≡ map f (filter (λ x. p (f x)) xs)
filter-map p f [] = refl
filter-map p f (x ∷ xs) =
    let later = filter-map p f xs in
    elim (p (f x)) as (λ b. cond b (f x ∷ filter p (map f xs)) (filter p (map f xs)) ≡ map f (cond b (x ∷ filter (λ y. p (f y)) xs) (filter (λ y. p (f y)) xs))) [
      | true ↦ ap (λ rest. f x ∷ rest) later
      | false ↦ later
    ]

-- one test after another
pub filter-filter : {Thing : Type 0} (p q : Thing → Bool) (xs : List Thing) → filter q (filter p xs) ≡ filter (λ x. p x && q x) xs
filter-filter p q [] = refl
filter-filter p q (x ∷ xs) =
    let later = filter-filter p q xs in
    elim (p x) as (λ b. filter q (cond b (x ∷ filter p xs) (filter p xs)) ≡ cond (b && q x) (x ∷ filter (λ y. p y && q y) xs) (filter (λ y. p y && q y) xs)) [
      | true ↦ ap (λ rest. cond (q x) (x ∷ rest) rest) later
      | false ↦ later
    ]

-- some thing passes two tests where some that passes the one passes the other
pub list_any-filter_both : {Thing : Type 0} (p q : Thing → Bool) (xs : List Thing) → list_any (λ x. p x && q x) xs ≡ list_any q (filter p xs)
list_any-filter_both p q [] = refl
list_any-filter_both p q (x ∷ xs) =
    let later = list_any-filter_both p q xs in
    elim (p x) as (λ b. ((b && q x) || list_any (λ y. p y && q y) xs) ≡ list_any q (cond b (x ∷ filter p xs) (filter p xs))) [
      | true ↦ ap (λ found. q x || found) later
      | false ↦ later
    ]

-- a test that each passes, or each fails
pub filter_none : {Thing : Type 0} (p : Thing → Bool) (xs : List Thing) → AllByRecursion (λ x. p x ≡ false) xs → filter p xs ≡ []
filter_none p [] all = refl
filter_none p (x ∷ xs) all = ap (λ b. cond b (x ∷ filter p xs) (filter p xs)) all.0 ∙ filter_none p xs all.1

pub filter_whole : {Thing : Type 0} (p : Thing → Bool) (xs : List Thing) → AllByRecursion (λ x. p x ≡ true) xs → filter p xs ≡ xs
filter_whole p [] all = refl
filter_whole p (x ∷ xs) all = ap (λ b. cond b (x ∷ filter p xs) (filter p xs)) all.0 ∙ ap (λ rest. x ∷ rest) (filter_whole p xs all.1)

-- what a test keeps passes it
pub passes_filter : {Thing : Type 0} (p : Thing → Bool) (xs : List Thing) → AllByRecursion (λ x. p x ≡ true) (filter p xs)
passes_filter p [] = tt
passes_filter p (x ∷ xs) = by (p x) refl (passes_filter p xs)
  where
    by : (b : Bool) → p x ≡ b → AllByRecursion (λ y. p y ≡ true) (filter p xs) → AllByRecursion (λ y. p y ≡ true) (cond b (x ∷ filter p xs) (filter p xs))
    by true e rest = (e, rest)
    by false e rest = rest

-- where each thing of a list passes, none is one that fails
pub is_among-fails : (p : Text → Bool) (name : Text) (xs : List Text) → p name ≡ false → list_all p xs ≡ true → is_among name xs ≡ false
is_among-fails p name [] fails all = refl
is_among-fails p name (x ∷ xs) fails all = by (same_text name x) (p x) refl refl all (is_among-fails p name xs fails)
  where
    by : (s t : Bool) → same_text name x ≡ s → p x ≡ t → (t && list_all p xs) ≡ true → (list_all p xs ≡ true → is_among name xs ≡ false) → (s || is_among name xs) ≡ false
    by s false same test all rest = absurd (false≢true all)
    by true true same test all rest = absurd (false≢true (sym fails ∙ ap p (same_text-same name x same) ∙ test))
    by false true same test all rest = rest all

-- a list of two parts, of which one is what f gives of xs
module _ {X Y : Type 0} (p : Y → Bool) (q : X → Bool) (f : X → Y) (same : (x : X) → p (f x) ≡ q x) (xs : List X) (ys : List Y) where
  first_part : filter p (map f xs ++ ys) ≡ map f (filter q xs) ++ filter p ys
  first_part = filter-append p (map f xs) ys ∙ ap (λ zs. zs ++ filter p ys) (filter-map p f xs ∙ ap (map f) (filter_alike (λ x. p (f x)) q same xs))

  -- nothing of the second part passes, or all of it
  pub filter_first : AllByRecursion (λ y. p y ≡ false) ys → filter p (map f xs ++ ys) ≡ map f (filter q xs)
  filter_first none = first_part ∙ ap (λ zs. map f (filter q xs) ++ zs) (filter_none p ys none) ∙ append-nil (map f (filter q xs))

  pub filter_both : AllByRecursion (λ y. p y ≡ true) ys → filter p (map f xs ++ ys) ≡ map f (filter q xs) ++ ys
  filter_both all = first_part ∙ ap (λ zs. map f (filter q xs) ++ zs) (filter_whole p ys all)

-- Positions in a list of mappings: what stands at the position of an identity, and the positions of what passes a test.
use Rattle.std.specs.Prelude.{◌≡◌, ℕ, suc, ◌+◌, ◌≤◌, ◌<◌, Bool, true, false, not, cond, List, [], ◌∷◌, ◌++◌, length, take, drop, Option, Some, None, MatchOption, position, find, slice_set, slice_get, slice_index_or}
use Rattle.std.specs.List.{position_or_len, remove}
use Rattle.std.proofs.Common.{refl, sym, ap, ◌∙◌, arith}
use Rattle.std.proofs.lemmas.List.{set_past, take_all, take_more, append-nil, length-take-le}
use Rattle.std.proofs.Math.ListN.{drop_of_length-le}
use Rattle.std.proofs.lemmas.List.Folds.{find_at}
use Rattle.std.proofs.lemmas.Option.{slice_get_past}
use Rattle.lost_spec.specs.Mapping.{Mapping}
use Rattle.lost_spec.specs.Book.{Identity, identity_of, has_identity, replaced, without}
use Rattle.lost_spec.specs.Positions.{positions_from, positions}

-- ---- the position that a search gives

position_is : {Thing : Type 0} (p : Thing → Bool) (xs : List Thing) (i : ℕ) → Some i ≡ position p xs → position_or_len p xs ≡ i
position_is p xs i found = grind arith

no_position : {Thing : Type 0} (p : Thing → Bool) (xs : List Thing) → None ≡ position p xs → length xs ≤ position_or_len p xs
no_position p xs none = grind arith

-- ---- the position of an identity

abbrev position-of : Identity → List Mapping → ℕ
position-of id xs = position_or_len (λ m. has_identity m id) xs

-- a mapping put at the position of its identity; past the end it changes nothing
set-position : (m : Mapping) (xs : List Mapping) → slice_set xs (position-of (identity_of m) xs) m ≡ replaced m xs
set-position m [] = refl
set-position m (x ∷ xs) =
    let next : 1 + position-of (identity_of m) xs ≡ suc (position-of (identity_of m) xs) = omega arith in
    let later = ap (λ rest. x ∷ rest) (set-position m xs) in
    elim (has_identity x (identity_of m)) as (λ b. slice_set (x ∷ xs) (cond (not b) (1 + position-of (identity_of m) xs) 0) m ≡ cond b (m ∷ xs) (x ∷ replaced m xs)) [
      | true ↦ refl
      | false ↦ rw next later
    ]

-- what is left without the mapping at the position of an identity; past the end all is left
remove-position : (id : Identity) (xs : List Mapping) → remove xs (position-of id xs) ≡ without id xs
remove-position id [] = refl
remove-position id (x ∷ xs) =
    let next : 1 + position-of id xs ≡ suc (position-of id xs) = omega arith in
    let later = ap (λ rest. x ∷ rest) (remove-position id xs) in
    elim (has_identity x id) as (λ b. remove (x ∷ xs) (cond (not b) (1 + position-of id xs) 0) ≡ cond b xs (x ∷ without id xs)) [
      | true ↦ refl
      | false ↦ rw next later
    ]

-- nothing is removed past the end
remove_past : {Thing : Type 0} (xs : List Thing) (i : ℕ) → length xs ≤ i → remove xs i ≡ xs
remove_past xs i past =
    let front : take i xs ≡ xs = take_all i xs past in
    let later : length xs ≤ suc i = omega arith in
    let rest : drop (suc i) xs ≡ [] = drop_of_length-le xs later in
    rw (front, rest, append-nil) refl

-- a mapping put at the position that a search for its identity gives
pub replaced-at : (m : Mapping) (xs ys : List Mapping) (id : Identity) (i : ℕ) → ys ≡ xs → id ≡ identity_of m → Some i ≡ position (λ x. has_identity x id) ys → slice_set xs i m ≡ replaced m xs
replaced-at m xs ys id i same own found =
    let here : Some i ≡ position (λ x. has_identity x (identity_of m)) xs = rw (same, own) at found in
    rw (position_is (λ x. has_identity x (identity_of m)) xs i here) at (set-position m xs)

-- where the search gives none, there is nothing to replace
pub replaced-none : (m : Mapping) (xs ys : List Mapping) (id : Identity) → ys ≡ xs → id ≡ identity_of m → None ≡ position (λ x. has_identity x id) ys → xs ≡ replaced m xs
replaced-none m xs ys id same own none =
    let here : None ≡ position (λ x. has_identity x (identity_of m)) xs = rw (same, own) at none in
    sym (set_past xs (position-of (identity_of m) xs) m (no_position (λ x. has_identity x (identity_of m)) xs here)) ∙ set-position m xs

-- what is left without the mapping at the position that a search for an identity gives
pub without-at : (id : Identity) (xs ys : List Mapping) (i : ℕ) → ys ≡ xs → Some i ≡ position (λ x. has_identity x id) ys → remove xs i ≡ without id xs
without-at id xs ys i same found =
    let here : Some i ≡ position (λ x. has_identity x id) xs = rw same at found in
    rw (position_is (λ x. has_identity x id) xs i here) at (remove-position id xs)

-- where the search gives none, there is nothing to take out
pub without-none : (id : Identity) (xs ys : List Mapping) → ys ≡ xs → None ≡ position (λ x. has_identity x id) ys → xs ≡ without id xs
without-none id xs ys same none =
    let here : None ≡ position (λ x. has_identity x id) xs = rw same at none in
    sym (remove_past xs (position-of id xs) (no_position (λ x. has_identity x id) xs here)) ∙ remove-position id xs

-- ---- positions

-- the positions of what passes in a list and in one more: those in the list, and the position of that one where it passes
positions_from_push : {Thing : Type 0} (test : Thing → Bool) (n : ℕ) (xs : List Thing) (x : Thing) → positions_from test n (xs ++ x ∷ []) ≡ positions_from test n xs ++ cond (test x) ((n + length xs) ∷ []) []
positions_from_push test n [] x = let same : n + 0 ≡ n = omega arith in rw same refl
positions_from_push test n (y ∷ ys) x =
    let later = positions_from_push test (suc n) ys x in
    let same : suc n + length ys ≡ n + suc (length ys) = omega arith in
    let next : positions_from test (suc n) (ys ++ x ∷ []) ≡ positions_from test (suc n) ys ++ cond (test x) ((n + suc (length ys)) ∷ []) [] = rw same at later in
    elim (test y) as (λ b. cond b (n ∷ positions_from test (suc n) (ys ++ x ∷ [])) (positions_from test (suc n) (ys ++ x ∷ [])) ≡ cond b (n ∷ positions_from test (suc n) ys) (positions_from test (suc n) ys) ++ cond (test x) ((n + suc (length ys)) ∷ []) []) [
      | true ↦ ap (λ rest. n ∷ rest) next
      | false ↦ next
    ]

-- a scan that has come to i and has the positions before it, at a thing that passes and at one that fails
module _ {Thing : Type 0} (test : Thing → Bool) (xs : List Thing) (found : List ℕ) (i : ℕ) (x : Thing) (within : i < length xs) (at : x ≡ slice_index_or xs i x) (so_far : found ≡ positions test (take i xs)) where
  positions_more : positions test (take (i + 1) xs) ≡ found ++ cond (test x) (i ∷ []) []
  positions_more =
      let front : take (i + 1) xs ≡ take i xs ++ x ∷ [] = take_more xs i x within ∙ ap (λ y. take i xs ++ y ∷ []) (sym at) in
      let long : 0 + length (take i xs) ≡ i = omega (arith, length-take-le i xs (omega arith)) in
      let more : positions test (take i xs ++ x ∷ []) ≡ positions test (take i xs) ++ cond (test x) ((0 + length (take i xs)) ∷ []) [] = positions_from_push test 0 (take i xs) x in
      ap (positions test) front ∙ more ∙ ap (λ k. positions test (take i xs) ++ cond (test x) (k ∷ []) []) long
      ∙ ap (λ ps. ps ++ cond (test x) (i ∷ []) []) (sym so_far)

  pub positions_more_passes : test x ≡ true → found ++ i ∷ [] ≡ positions test (take (i + 1) xs)
  positions_more_passes passes = sym (positions_more ∙ ap (λ b. found ++ cond b (i ∷ []) []) passes)

  pub positions_more_fails : test x ≡ false → found ≡ positions test (take (i + 1) xs)
  positions_more_fails fails = sym (positions_more ∙ ap (λ b. found ++ cond b (i ∷ []) []) fails ∙ append-nil found)

-- a scan that has come to the end
pub positions_all : {Thing : Type 0} (test : Thing → Bool) (xs : List Thing) (found : List ℕ) (i : ℕ) → length xs ≤ i → found ≡ positions test (take i xs) → found ≡ positions test xs
positions_all test xs found i past so_far = so_far ∙ ap (positions test) (take_all i xs past)

-- ---- what a search gives

-- the first thing that passes stands at the first position that passes
pub find_at_position : {Thing : Type 0} (p : Thing → Bool) (xs : List Thing) (o : Option ℕ) → o ≡ position p xs → MatchOption o (find p xs ≡ None) (λ i. find p xs ≡ slice_get xs i)
find_at_position p xs None none = find_at p xs ∙ slice_get_past xs (position_or_len p xs) (no_position p xs none)
find_at_position p xs (Some i) found = find_at p xs ∙ ap (slice_get xs) (position_is p xs i found)

-- Patterns behind references, and those of a list that pass a test, a step of a loop at a time.
use Rattle.std.proofs.Common.{◌≡◌, ℕ, ◌+◌, ◌<◌, ◌≤◌, Bool, true, false, cond, ◌||◌, List, [], ◌∷◌, ◌++◌, map, filter, take, length, get_or, find, Option, Some, None, is_some, option_map, Bor, refl, sym, ap, ◌∙◌}
use Rattle.std.specs.Option.{option_copied}
use Rattle.std.proofs.lemmas.List.{take_all, append_assoc, append-nil, map_push}
use Rattle.std.proofs.lemmas.List.Elements.{filter_more}
use Rattle.lost_spec.specs.Text.{Text, same_text, is_among}
use Rattle.lost_spec.specs.Civic.{Pairs, names_of, value_of, comparison_text}

pub is_some-copied : {X : Type 0} (o : Option (Bor X)) → is_some o ≡ is_some (option_copied o)
is_some-copied None = refl
is_some-copied (Some x) = refl

-- ---- what stands behind references

-- what stands behind references, of which one more is pushed
pub seen_push : {X : Type 0} (old new : List (Bor X)) (x : Bor X) → new ≡ old ++ x ∷ [] → map (λ (y : Bor X). y.now) new ≡ map (λ (y : Bor X). y.now) old ++ x.now ∷ []
seen_push {X} old new x pushed = ap (map (λ (y : Bor X). y.now)) pushed ∙ map_push (λ (y : Bor X). y.now) old x

-- ---- the things of a list that pass

module _ {Thing : Type 0} (test : Thing → Bool) (before xs : List Thing) (i : ℕ) (x : Thing) (within : i < length xs) (at : x ≡ get_or xs i x) (old : List Thing) (so_far : old ≡ before ++ filter test (take i xs)) where
  one_more : before ++ filter test (take (i + 1) xs) ≡ old ++ cond (test x) (x ∷ []) []
  one_more =
      ap (λ ys. before ++ ys) (filter_more test xs i x within) ∙ ap (λ y. before ++ (filter test (take i xs) ++ cond (test y) (y ∷ []) [])) (sym at) ∙ sym (append_assoc before (filter test (take i xs)) (cond (test x) (x ∷ []) [])) ∙ ap (λ ys. ys ++ cond (test x) (x ∷ []) []) (sym so_far)

  -- one more thing passes, or fails
  pub filter_more_passes : (new : List Thing) → test x ≡ true → new ≡ old ++ x ∷ [] → new ≡ before ++ filter test (take (i + 1) xs)
  filter_more_passes new passes pushed = pushed ∙ sym (one_more ∙ ap (λ b. old ++ cond b (x ∷ []) []) passes)

  pub filter_more_fails : test x ≡ false → old ≡ before ++ filter test (take (i + 1) xs)
  filter_more_fails fails = sym (one_more ∙ ap (λ b. old ++ cond b (x ∷ []) []) fails ∙ append-nil old)

-- all things were tested
pub filter_all : {Thing : Type 0} (test : Thing → Bool) (before xs ys : List Thing) (i : ℕ) (old : List Thing) → length xs ≤ i → xs ≡ ys → old ≡ before ++ filter test (take i xs) → old ≡ before ++ filter test ys
filter_all test before xs ys i old past same so_far = so_far ∙ ap (λ zs. before ++ filter test zs) (take_all i xs past ∙ same)

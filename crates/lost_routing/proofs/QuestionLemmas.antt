-- What stands at a position; and a chain that is asked one service after the other, the longest first.
use Rattle.std.proofs.Common.{◌≡◌, ℕ, zero, suc, ◌+◌, ◌-◌, ◌<◌, ◌≤◌, Some, slice_get, slice_index_or, Bool, true, false, ◌&&◌, ◌||◌, List, [], ◌∷◌, length, take, refl, sym, ap, ◌∙◌, arith}
use Rattle.std.specs.List.{list_any}
use Rattle.lost_spec.specs.Service.{Service, same_service, cuts}
use Rattle.lost_spec.specs.Moment.{Instant}
use Rattle.lost_spec.specs.Mapping.{Mapping, is_live}
use Rattle.lost_spec.specs.Find.{serves}

-- ---- what stands at a position

pub seen_at : {X : Type 0} (xs : List X) (i : ℕ) (x : X) → i < length xs → x ≡ slice_index_or xs i x → slice_get xs i ≡ Some x
seen_at [] i x within is = absurd (omega arith)
seen_at (y ∷ xs) zero x within is = ap Some (sym is)
seen_at (y ∷ xs) (suc i) x within is = seen_at xs i x (omega arith) is

-- ---- chains

or_apart : (a b c d : Bool) → ((a || b) || (c || d)) ≡ ((a || c) || (b || d))
or_apart true b c d = refl
or_apart false true true d = refl
or_apart false true false d = refl
or_apart false false c d = refl

any_either : {X : Type 0} (p q : X → Bool) (xs : List X) → list_any (λ x. p x || q x) xs ≡ (list_any p xs || list_any q xs)
any_either p q [] = refl
any_either p q (x ∷ xs) =
    ap (λ b. (p x || q x) || b) (any_either p q xs) ∙ or_apart (p x) (q x) (list_any p xs) (list_any q xs)

and_either : (a b c : Bool) → (a && (b || c)) ≡ ((a && b) || (a && c))
and_either true b c = refl
and_either false b c = refl

and_false : (a : Bool) → (a && false) ≡ false
and_false true = refl
and_false false = refl

any_alike : {X : Type 0} (p q : X → Bool) → ((x : X) → p x ≡ q x) → (xs : List X) → list_any p xs ≡ list_any q xs
any_alike p q alike [] = refl
any_alike p q alike (x ∷ xs) = ap (λ b. b || list_any p xs) (alike x) ∙ ap (λ b. q x || b) (any_alike p q alike xs)

any_never : {X : Type 0} (p : X → Bool) → ((x : X) → p x ≡ false) → (xs : List X) → list_any p xs ≡ false
any_never p never [] = refl
any_never p never (x ∷ xs) = ap (λ b. b || list_any p xs) (never x) ∙ any_never p never xs

module _ (t : Instant) (s : Service) (ms : List Mapping) where
  -- a mapping is live and has the service of some number of first labels up to this one
  abbrev of_cut : ℕ → Mapping → Bool
  of_cut n m = is_live m t && list_any (λ u. same_service m.service u) (cuts n s)

  -- some mapping is
  abbrev pub some_cut : ℕ → Bool
  some_cut n = list_any (of_cut n) ms

  -- some mapping has the service of this number of first labels
  abbrev pub some_front : ℕ → Bool
  some_front n = list_any (λ m. serves m t (take n s)) ms

  one_more : (n : ℕ) → some_cut (suc n) ≡ (some_front (suc n) || some_cut n)
  one_more n =
      any_alike (of_cut (suc n)) (λ m. serves m t (take (suc n) s) || of_cut n m)
      (λ m. and_either (is_live m t) (same_service m.service (take (suc n) s)) (list_any (λ u. same_service m.service u) (cuts n s))) ms
      ∙ any_either (λ m. serves m t (take (suc n) s)) (of_cut n) ms

  -- where the longest is asked first
  cut_first : (left done : ℕ) → done < left → some_cut (left - done) ≡ (some_front (left - done) || some_cut (left - (done + 1)))
  cut_first left done more =
      let next : left - done ≡ suc (left - (done + 1)) = omega arith in
      ap some_cut next ∙ one_more (left - (done + 1)) ∙ ap (λ n. some_front n || some_cut (left - (done + 1))) (sym next)

  pub front_is_there : (left done : ℕ) → done < left → some_cut left ≡ some_cut (left - done) → some_front (left - done) ≡ true → some_cut left ≡ true
  front_is_there left done more so_far there =
      so_far ∙ cut_first left done more ∙ ap (λ b. b || some_cut (left - (done + 1))) there

  pub front_is_passed : (left done : ℕ) → done < left → some_cut left ≡ some_cut (left - done) → some_front (left - done) ≡ false
      → some_cut left ≡ some_cut (left - (done + 1))
  front_is_passed left done more so_far missing =
      so_far ∙ cut_first left done more ∙ ap (λ b. b || some_cut (left - (done + 1))) missing

  pub no_front : (left done : ℕ) → left ≤ done → some_cut left ≡ some_cut (left - done) → some_cut left ≡ false
  no_front left done past so_far =
      let all : left - done ≡ 0 = omega arith in
      so_far ∙ ap some_cut all ∙ any_never (of_cut 0) (λ m. and_false (is_live m t)) ms

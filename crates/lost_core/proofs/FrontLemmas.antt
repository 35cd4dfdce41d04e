-- Lemmas on lists that begin with others, and on functions that rise step by step.
use Rattle.std.proofs.Common.{◌≡◌, ℕ, zero, suc, ◌≤◌, ◌<◌, ◌⊎◌, List, [], ◌∷◌, ◌++◌, length, take, drop, refl, sym, ap, subst, ◌∙◌, ⊎_elim, inl, inr, append_assoc, arith}
use Rattle.std.specs.Prelude.{slice_get}
use Rattle.std.specs.Option.{option_to_list}
use Rattle.std.proofs.Math.Nat.{le_trans}
use Rattle.std.proofs.lemmas.Bool.{cases_lt}
use Rattle.std.proofs.lemmas.List.{append-nil, take-append-drop, take-append-le, take-take}
use Rattle.lost_spec.specs.Laws.{BeginsWith}

module _ {Thing : Type 0} where
  pub begins_self : (xs : List Thing) → BeginsWith xs xs
  begins_self xs = ([], sym (append-nil xs))

  pub begins_trans : (xs ys zs : List Thing) → BeginsWith ys xs → BeginsWith zs ys → BeginsWith zs xs
  begins_trans xs ys zs (more, first) (most, second) =
      (more ++ most, second ∙ ap (λ l. l ++ most) first ∙ append_assoc xs more most)

  -- a list begins with its first things
  pub begins_take : (n : ℕ) (xs : List Thing) → BeginsWith xs (take n xs)
  begins_take n xs = (drop n xs, sym (take-append-drop n xs))

  -- more of the first things begin with fewer
  pub begins_fewer : (m n : ℕ) (xs : List Thing) → m ≤ n → BeginsWith (take n xs) (take m xs)
  begins_fewer m n xs fewer = subst (λ l. BeginsWith (take n xs) l) (take-take m n xs fewer) (begins_take m (take n xs))

  -- the first things of a longer list, where they are in the shorter one
  pub take_of_front : (n : ℕ) (xs ys : List Thing) → BeginsWith ys xs → n ≤ length xs → take n ys ≡ take n xs
  take_of_front n xs ys (rest, whole) within = ap (take n) whole ∙ take-append-le n xs rest within

  -- of two numbers of first things, the one begins the other
  pub one_of_two : (m n : ℕ) (xs : List Thing) → BeginsWith (take m xs) (take n xs) ⊎ BeginsWith (take n xs) (take m xs)
  one_of_two m n xs =
      ⊎_elim
      (λ (less : m < n). inr (begins_fewer m n xs (omega arith)))
      (λ (more : n ≤ m). inl (begins_fewer n m xs more))
      (cases_lt m n)

  -- one more of the first things
  pub take_suc : (i : ℕ) (xs : List Thing) → take (suc i) xs ≡ take i xs ++ option_to_list (slice_get xs i)
  take_suc zero [] = refl
  take_suc (suc i) [] = refl
  take_suc zero (x ∷ xs) = refl
  take_suc (suc i) (x ∷ xs) = ap (λ l. x ∷ l) (take_suc i xs)

  -- lists that grow step by step
  pub grows : (f : ℕ → List Thing) → ((i : ℕ) → BeginsWith (f (suc i)) (f i)) → (i j : ℕ) → i ≤ j → BeginsWith (f j) (f i)
  grows f step i zero before =
      let same : zero ≡ i = omega arith in
      subst (λ k. BeginsWith (f zero) (f k)) same (begins_self (f zero))
  grows f step i (suc j) before =
      ⊎_elim
      (λ (past : j < i). let same : suc j ≡ i = omega arith in subst (λ k. BeginsWith (f (suc j)) (f k)) same (begins_self (f (suc j))))
      (λ (within : i ≤ j). begins_trans (f i) (f j) (f (suc j)) (grows f step i j within) (step j))
      (cases_lt j i)

-- numbers that rise step by step
pub rises : (f : ℕ → ℕ) → ((i : ℕ) → f i ≤ f (suc i)) → (i j : ℕ) → i ≤ j → f i ≤ f j
rises f step i zero before =
    let same : zero ≡ i = omega arith in
    subst (λ k. f k ≤ f zero) same (omega arith)
rises f step i (suc j) before =
    ⊎_elim
    (λ (past : j < i). let same : suc j ≡ i = omega arith in subst (λ k. f k ≤ f (suc j)) same (omega arith))
    (λ (within : i ≤ j). le_trans (rises f step i j within) (step j))
    (cases_lt j i)

-- Tests that are joined by `&&`.
use Rattle.std.proofs.Common.{◌≡◌, Bool, true, false, ◌&&◌, refl}

pub both_true : (a b : Bool) → (a && b) ≡ true → (a ≡ true) × (b ≡ true)
both_true true b h = (refl, h)
both_true false b h = absurd (cc)

pub not_true : (b : Bool) → (b ≡ true → ⊥) → false ≡ b
not_true true h = absurd (h refl)
not_true false h = refl

-- a test of four parts fails where one of them does
module _ (all a b c d : Bool) (is : all ≡ (a && b && c && d)) where
  pub first_fails : false ≡ a → false ≡ all
  first_fails h = rw (is, ← h) refl

  pub second_fails : false ≡ b → false ≡ all
  second_fails h = rw (is, ← h) (elim a as (λ v. false ≡ (v && false && c && d)) [ true ↦ refl | false ↦ refl ])

  pub third_fails : false ≡ c → false ≡ all
  third_fails h = rw (is, ← h) (by a b)
    where
      by : (x y : Bool) → false ≡ (x && y && false && d)
      by true true = refl
      by true false = refl
      by false y = refl

  pub fourth_fails : false ≡ d → false ≡ all
  fourth_fails h = rw (is, ← h) (by a b c)
    where
      by : (x y z : Bool) → false ≡ (x && y && z && false)
      by true true true = refl
      by true true false = refl
      by true false z = refl
      by false y z = refl

  pub all_hold : true ≡ a → true ≡ b → true ≡ c → true ≡ d → true ≡ all
  all_hold first second third fourth = rw (is, ← first, ← second, ← third, ← fourth) refl

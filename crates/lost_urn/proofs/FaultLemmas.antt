-- The first fault of labels, found by going over them from the left.
use Rattle.std.proofs.Common.{◌≡◌, ℕ, ◌<◌, zero, suc, Option, None, Some, List, [], ◌∷◌, ◌++◌, take, length, get_or, refl, arith}
use Rattle.std.specs.Option.{option_or}
use Rattle.lost_spec.specs.Text.{first_fault_of}

pub both_none : {E : Type 0} (a b : Option E) → option_or a b ≡ None → (a ≡ None) × (b ≡ None)
both_none None b h = (refl, h)
both_none (Some e) b h = absurd (cc)

module _ {X E : Type 0} (fault : X → Option E) where
  -- a thing whose fault is the first, since those before it have none
  pub first_fault_at : (xs : List X) (k : ℕ) (x : X) (e : E) → k < length xs → x ≡ get_or xs k x → first_fault_of fault (take k xs) ≡ None → fault x ≡ Some e → first_fault_of fault xs ≡ Some e
  first_fault_at [] k x e within is before here = absurd (omega arith)
  first_fault_at (y ∷ ys) zero x e within is before here = rw (← is, here)
  first_fault_at (y ∷ ys) (suc k) x e within is before here =
      let none = both_none (fault y) (first_fault_of fault (take k ys)) before in
      rw (none.0) (first_fault_at ys k x e (omega arith) is none.1 here)

  -- one more thing that has no fault
  pub no_fault_more : (xs : List X) (x : X) → first_fault_of fault xs ≡ None → fault x ≡ None → first_fault_of fault (xs ++ x ∷ []) ≡ None
  no_fault_more [] x before here = rw here
  no_fault_more (y ∷ ys) x before here =
      let none = both_none (fault y) (first_fault_of fault ys) before in
      rw (none.0) (no_fault_more ys x none.1 here)

  -- the first things of those that have no fault
  pub no_fault-take : (xs : List X) (n : ℕ) → first_fault_of fault xs ≡ None → first_fault_of fault (take n xs) ≡ None
  no_fault-take [] zero h = refl
  no_fault-take [] (suc n) h = refl
  no_fault-take (y ∷ ys) zero h = refl
  no_fault-take (y ∷ ys) (suc n) h =
      let none = both_none (fault y) (first_fault_of fault ys) h in
      rw (none.0) (no_fault-take ys n none.1)

-- None is above the number, and the last is another.
use Rattle.std.proofs.Common.{◌≡◌, ℕ, ◌+◌, ◌-◌, ◌<◌, ◌≤◌, Option, None, Some, false, List, length, get_or, nat_eq, refl, sym, subst, arith, ◌∙◌, Bor}
use Rattle.std.specs.List.{HoldsAt}
use Rattle.std.specs.Option.{MatchOption, option_eq}
use Rattle.std.proofs.lemmas.Bool.{eqb-false}
use Rattle.lost_tables.proofs.RisingLemmas.{lacks_past}
use Rattle.lost_tables.proofs.cell.pop_all.Goals as goal

other_last : (n : ℕ) (xs : List ℕ) (o : Option (Bor ℕ)) (b : Bor ℕ) → b.now ≡ n → option_eq (λ x y. nat_eq x.now y.now) o (Some b) ≡ false
    → MatchOption o (length xs ≤ 0) (λ x. (0 < length xs) × HoldsAt (λ y. x.now ≡ y) xs (length xs - 1)) → 0 < length xs
    → get_or xs (length xs - 1) 0 ≡ n → ⊥
other_last n xs None b is other item some last = omega (arith, item, some)
other_last n xs (Some x) b is other item some last = eqb-false x.now b.now other (item.1 0 ∙ last ∙ sym is)

pub returns-clause-gone : goal.returns-clause-gone
returns-clause-gone c =
    lacks_past c.args.number (c.args.number + 1) (length c.loop-number.numbers.items) c.loop-number.numbers.items c.loop-number.invariant.rising
    (omega arith) (omega arith) c.loop-number.invariant.below (λ k le lt. absurd (omega (arith, le, lt)))
    (λ some is. other_last c.args.number c.deref.result.now c.last.result _ refl (sym c.eq.ensures ∙ c.loop-number-test.false) c.last.ensures.item.3
    (subst (λ l. 0 < length l) (sym c.deref.ensures) some)
    (subst (λ l. get_or l (length l - 1) 0 ≡ c.args.number) (sym c.deref.ensures) is))

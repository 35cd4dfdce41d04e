use Rattle.std.proofs.Common.{◌≡◌, None, Some, subst, sym, arith}
use Rattle.std.specs.Prelude.{MatchOption}
use Rattle.serde_json.specs.Data.{put}
use Rattle.lost_tape.specs.Tapes.{data_of, HoldsMembers}
use Rattle.lost_tape.proofs.MemberLemmas.{named_held}
use Rattle.lost_tape.proofs.tree.Named.next.Goals as goal

pub returns-in_err-name-clause-value : goal.returns-in_err-name-clause-value
returns-in_err-name-clause-value c before all h =
    let gone : c.from_residual.result ≡ None = grind arith in
    let held = subst (λ ts. HoldsMembers ts before all) (sym c.self.view_is) h in
    subst (λ r. MatchOption r (before ≡ all) (λ found. HoldsMembers c.next.new.self (put found.0.now (data_of found.1) before) all)) (sym gone)
    (named_held _ c.next.new.self None before all held c.in_err-name.ensures.value).0

pub invariant_of-result : goal.invariant_of-result
invariant_of-result c =
    (named_held _ c.next.new.self (Some (c.in_ok-name.name.now, c.in_ok-name.element)) c.self.invariant.0 c.self.invariant.1 c.self.invariant.2 c.in_ok-name.ensures.value).1

pub invariant_of-self-2 : goal.invariant_of-self-2
invariant_of-self-2 c =
    let next = (named_held _ c.next.new.self (Some (c.in_ok-name.name.now, c.in_ok-name.element)) c.self.invariant.0 c.self.invariant.1 c.self.invariant.2 c.in_ok-name.ensures.value).0 in
    (put c.in_ok-name.name.now (data_of c.in_ok-name.element) c.self.invariant.0, c.self.invariant.1, next)

pub returns-clause-value : goal.returns-clause-value
returns-clause-value c before all h =
    let held = subst (λ ts. HoldsMembers ts before all) (sym c.self.view_is) h in
    (named_held _ c.next.new.self (Some (c.in_ok-name.name.now, c.in_ok-name.element)) before all held c.in_ok-name.ensures.value).0

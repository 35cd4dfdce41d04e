use Rattle.std.proofs.Common.{arith, ap, sym, ◌∙◌, ◌≡◌, ◌+◌}
use Rattle.std.proofs.lemmas.List.{take_all}
use Rattle.lost_urn.proofs.CutLemmas.{dots, joined_at_dot, joined_at_end}
use Rattle.lost_urn.proofs.urn.end_of_parts.Goals as goal

pub returns-then-left-eq0-clause-front : goal.returns-then-left-eq0-clause-front
returns-then-left-eq0-clause-front c = joined_at_dot c.args.text.now c.loop-at.at c.args.n c.loop-at-test.true c.if-byte-eq46.true (omega arith)

pub returns-clause-front : goal.returns-clause-front
returns-clause-front c =
    let all : dots c.args.text.now + c.loop-at.left ≡ c.args.n = ap (λ t. dots t + c.loop-at.left) (sym (take_all c.loop-at.at c.args.text.now c.loop-at-test.false)) ∙ c.loop-at.invariant.counted in
    joined_at_end c.args.text.now c.args.n (omega arith)

-- Numbers that rise are below one in front of a position, and are not from it on.
use Rattle.std.proofs.Common.{sym, ◌∙◌}
use Rattle.lost_tables.proofs.PickLemmas.{below_middle, above_middle, above_end}
use Rattle.lost_tables.proofs.picks.halved.Goals as goal

pub loop-low-preserved-then-there-number : goal.loop-low-preserved-then-there-number
loop-low-preserved-then-there-number c = (
  λ _. below_middle c.args.number c.args.rows.now.numbers c.requires.rising _ c.in-Some.there c.in-Some.ensures c.if-there-number.true,
  c.loop-low.invariant.1,
)

pub loop-low-preserved-in_default : goal.loop-low-preserved-in_default
loop-low-preserved-in_default c = (
  c.loop-low.invariant.0,
  λ _. above_middle c.args.number c.args.rows.now.numbers c.requires.rising _ c.in-Some.there c.in-Some.ensures c.if-there-number.false,
)

pub loop-low-preserved : goal.loop-low-preserved
loop-low-preserved c = (
  c.loop-low.invariant.0,
  λ _. above_end c.args.number c.args.rows.now.numbers c.requires.rising _ (sym c.in_default.is ∙ c.number.ensures),
)

-- The other numbers stand where another is written over one, and the numbers rise; in the end none is left in front.
use Rattle.std.proofs.Common.{◌-◌, arith}
use Rattle.std.proofs.lemmas.List.{length-set}
use Rattle.lost_tables.proofs.LookupLemmas.{others-set}
use Rattle.lost_tables.proofs.RisingLemmas.{lacks_past, rising-set, below-set, above-set}
use Rattle.lost_tables.proofs.cell.write_over.Goals as goal

pub loop-start-preserved : goal.loop-start-preserved
loop-start-preserved c = record {
  within = omega (arith, c.loop-start.invariant.within, length-set c.loop-start.numbers (c.loop-start.start - 1) c.args.other);
  others = λ other apart stands. others-set c.args.number other c.args.other c.loop-start.numbers (c.loop-start.start - 1) (omega (arith, c.loop-start.invariant.within, c.loop-start-test.true))
      c.if-numbers-start.true apart (c.loop-start.invariant.others other apart stands);
  rising = rising-set c.args.other (c.loop-start.start - 1) c.loop-start.numbers c.loop-start.invariant.rising (omega (arith, c.loop-start.invariant.within, c.loop-start-test.true))
      (λ k lt. omega (arith, c.requires.less, c.loop-start.invariant.below k (omega (arith, lt))))
      (λ k lt within. c.loop-start.invariant.above k (omega (arith, lt)) within);
  below = below-set c.args.number c.args.other c.loop-start.start c.loop-start.numbers c.loop-start.invariant.below;
  above = above-set c.args.other c.loop-start.start c.loop-start.numbers c.loop-start-test.true c.loop-start.invariant.within c.loop-start.invariant.above;
}

pub returns-else-numbers-start-clause-gone : goal.returns-else-numbers-start-clause-gone
returns-else-numbers-start-clause-gone c =
    lacks_past c.args.number c.args.other c.loop-start.start c.loop-start.numbers c.loop-start.invariant.rising c.loop-start.invariant.within c.requires.less
    c.loop-start.invariant.below c.loop-start.invariant.above (λ some is. c.if-numbers-start.false is)

pub returns-after-loop-start-clause-gone : goal.returns-after-loop-start-clause-gone
returns-after-loop-start-clause-gone c =
    lacks_past c.args.number c.args.other c.loop-start.start c.loop-start.numbers c.loop-start.invariant.rising c.loop-start.invariant.within c.requires.less
    c.loop-start.invariant.below c.loop-start.invariant.above (λ some is. omega (arith, some, c.loop-start-test.false))

use Rattle.lost_desk.specs.Sets.{AreRightFor}
use Rattle.test_desks.specs.Counting.{IsTheOne}
use Rattle.test_desks.proofs.cache.answer_lines.Given as goal

abbrev pub invariant-loop-line : goal.invariant-loop-line
invariant-loop-line g l = AreRightFor (IsTheOne l.sets.kept) l.reader.limits l.reader.seen

use Rattle.std.proofs.Common.{◌≡◌, ◌-◌, ◌≤◌, length, replicate}
use Rattle.left_right.specs.Sides.{view}
use Rattle.lost_desk.specs.Rule.{reader_of}
use Rattle.lost_desk.proofs.open.make_readers.Given as goal

abbrev pub invariant-loop-alloc : goal.invariant-loop-alloc
invariant-loop-alloc l =
    (l.readers.items ≡ replicate (length l.readers.items) (reader_of l.fn.writer.desk.shown.value)) × (l.each.value ≡ reader_of l.fn.writer.desk.shown.value)
    × (length l.readers.items ≤ l.fn.workers) × (l.writer.desk.shown ≡ l.fn.writer.desk.shown) × (l.writer.log ≡ l.fn.writer.log) × (l.writer.behind ≡ l.fn.writer.behind)
    × (view l.writer.desk.place ≡ view l.fn.writer.desk.place)

abbrev pub decreases-loop-alloc : goal.decreases-loop-alloc
decreases-loop-alloc l = l.fn.workers - length l.readers.items

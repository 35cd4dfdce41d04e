use Rattle.std.proofs.Common.{◌≡◌, length, map}
use Rattle.lost_spec.specs.Book.{after_all}
use Rattle.lost_mapping.specs.Edit.{edit_of}
use Rattle.lost_replay.proofs.pair.apply_all.Given as goal

abbrev pub invariant-loop-book : goal.invariant-loop-book
invariant-loop-book l = after_all l.book (map edit_of l.edits.items) ≡ after_all l.fn.book (map edit_of l.fn.edits.items)

abbrev pub decreases-loop-book : goal.decreases-loop-book
decreases-loop-book l = length l.edits.items

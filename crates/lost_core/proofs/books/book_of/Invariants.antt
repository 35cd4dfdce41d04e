use Rattle.std.proofs.Common.{◌≡◌, map, take}
use Rattle.lost_spec.specs.Book.{book_of}
use Rattle.lost_mapping.specs.Edit.{edit_of}
use Rattle.lost_core.proofs.books.book_of.Given as goal

abbrev pub invariant-loop-edit : goal.invariant-loop-edit
invariant-loop-edit l = l.book ≡ book_of l.fn.limits (map edit_of (take l.edit-index l.edits))

use Rattle.std.proofs.lemmas.List.{take-map}
use Rattle.lost_mapping.specs.Edit.{edit_of}
use Rattle.lost_core.proofs.books.book_of_first.Goals as goal

pub returns : goal.returns
returns c = rw (take-map edit_of c.args.count c.args.edits.now, ← c.front.ensures) c.book_of.ensures

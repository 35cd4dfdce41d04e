use Rattle.lost_spec.proofs.BookLemmas.{accepted_book}
use Rattle.lost_spec.proofs.laws.book.accepted_book_is_in_order.Goals as goal

pub returns : goal.returns
returns c = accepted_book

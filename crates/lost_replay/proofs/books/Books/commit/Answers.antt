use Rattle.lost_lines.specs.Answer.{reply_of}
use Rattle.lost_replay.proofs.BooksLemmas.{committed_step}
use Rattle.lost_replay.proofs.books.Books.commit.Goals as goal

pub returns-clause-answered : goal.returns-clause-answered
returns-clause-answered c = λ name t line is.
    committed_step name t line c.args.self.now c.commit.new.self (reply_of c.desk_answer.result) is (rw (← c.self.view_is) c.commit.ensures) (rw (c.edition-edition.ensures, c.published.ensures) at c.desk_answer.ensures)

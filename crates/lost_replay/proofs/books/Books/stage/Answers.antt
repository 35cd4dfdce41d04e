use Rattle.lost_mapping.specs.Edit.{edit_of}
use Rattle.lost_lines.specs.Answer.{reply_of}
use Rattle.lost_replay.proofs.BooksLemmas.{staged_step}
use Rattle.lost_replay.proofs.books.Books.stage.Goals as goal

pub returns-clause-answered : goal.returns-clause-answered
returns-clause-answered c = λ name t line is.
    rw (← c.self.view_is)
    (staged_step name t line c.self.inside.pair c.stage-staged.new.self (reply_of c.edit_answer.result.answer) (edit_of c.args.edit) is c.stage-staged.result
    c.stage-staged.ensures.accepted c.stage-staged.ensures.staged c.stage-staged.ensures.refused c.stage-staged.ensures.memory_last c.stage-staged.ensures.unchanged c.edit_answer.ensures.told)

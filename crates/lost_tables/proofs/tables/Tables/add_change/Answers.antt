-- What was noted of the old mapping stays through the notes of the new one, and through taking them back.
use Rattle.lost_tables.proofs.TableLemmas.{noted_kept}
use Rattle.lost_tables.proofs.tables.Tables.add_change.Goals as goal

pub returns-then-is_err-clause-remaining : goal.returns-then-is_err-clause-remaining
returns-then-is_err-clause-remaining c = λ noted.
    c.remove_change.ensures.remaining (noted_kept c.args.self.now c.list.new.self c.list.ensures.keeps c.args.old.now c.args.number noted)

pub returns-clause-remaining : goal.returns-clause-remaining
returns-clause-remaining c = λ noted. noted_kept c.args.self.now c.list.new.self c.list.ensures.keeps c.args.old.now c.args.number noted

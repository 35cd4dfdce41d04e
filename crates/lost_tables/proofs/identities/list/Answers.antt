-- What was listed stays, over both steps.
use Rattle.lost_tables.proofs.identities.list.Goals as goal

pub returns-in_err-insert-clause-keeps : goal.returns-in_err-insert-clause-keeps
returns-in_err-insert-clause-keeps c = λ identity number stands. c.insert.ensures.keeps identity number (c.add.ensures.keeps identity number stands)

pub returns-clause-keeps : goal.returns-clause-keeps
returns-clause-keeps c = λ identity number stands. c.insert.ensures.keeps identity number (c.add.ensures.keeps identity number stands)

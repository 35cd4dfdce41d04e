-- A line that is no desk line is refused, and nothing changes.
use Rattle.std.proofs.Common.{inl, refl}
use Rattle.lost_writing.specs.declared.desk_reply.DeskReply.TheVariants.{Refused}
use Rattle.lost_worker.specs.Desking.{lists_of, said}
use Rattle.lost_worker.proofs.JudgeLemmas.{no_desk_line_step}
use Rattle.lost_keeping.proofs.answering.judge.Goals as goal

pub returns-in-Ok-None-clause-answered : goal.returns-in-Ok-None-clause-answered
returns-in-Ok-None-clause-answered g c =
    rw (c.in-Ok-None.is, c.in-Ok-None.field-0-is)
    (inl (no_desk_line_step c.args.desk.now.limits c.args.line.now (said (Refused 1)) (lists_of c.args.desk.now) (lists_of c.args.desk.now) refl refl))

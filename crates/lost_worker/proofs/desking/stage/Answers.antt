use Rattle.std.proofs.Common.{Err, refl, ap, ◌∙◌}
use Rattle.lost_writing.specs.declared.desk_reply.DeskReply.TheVariants.{Refused}
use Rattle.lost_mapping.specs.Edit.{edit_of}
use Rattle.lost_worker.specs.Desking.{said}
use Rattle.lost_worker.proofs.StageLemmas.{staged_step, refused_step}
use Rattle.lost_worker.proofs.desking.stage.Goals as goal

pub returns-in-Ok-clause-judged : goal.returns-in-Ok-clause-judged
returns-in-Ok-clause-judged c line =
    staged_step line c.args.desk.now c.stage.new.self (edit_of c.args.edit) _ c.in-Ok.ensures.accepted c.in-Ok.ensures.staged c.in-Ok.pending c.in-Ok.ensures.pending refl

pub returns-in-Err-clause-judged : goal.returns-in-Err-clause-judged
returns-in-Err-clause-judged c line =
    refused_step line c.args.desk.now c.stage.new.self (edit_of c.args.edit) _ c.in-Err.error c.in-Err.ensures.refused (λ is. c.stage.ensures.memory_last (c.in-Err.is ∙ ap Err is)) c.in-Err.ensures.unchanged
    (ap (λ n. said (Refused n)) c.code.ensures)

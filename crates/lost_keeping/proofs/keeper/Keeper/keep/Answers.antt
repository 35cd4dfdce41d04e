use Rattle.std.proofs.Common.{◌≡◌, ◌≢◌, inl, inr, Err, ◌++◌, ◌∷◌, [], refl, sym, ◌∙◌, ap, subst}
use Rattle.lost_spec.specs.Text.{Text}
use Rattle.lost_mapping.specs.Edit.{edit_of}
use Rattle.lost_lines.specs.Cutting.{newline}
use Rattle.lost_writing.specs.declared.desk_reply.DeskReply.TheVariants.{Refused}
use Rattle.lost_desk.specs.Seen.{DeskSeen, with_staged}
use Rattle.lost_worker.specs.Desking.{said}
use Rattle.lost_worker.proofs.StageLemmas.{staged_step, refused_step}
use Rattle.lost_journal.specs.Seen.{body_of, pending_of}
use Rattle.lost_keeping.specs.Kept.{IsKeptFor}
use Rattle.lost_keeping.proofs.KeptLemmas.{edit_kept}
use Rattle.lost_keeping.proofs.keeper.Keeper.keep.Goals as goal

pub returns-in-Ok-clause-kept : goal.returns-in-Ok-clause-kept
returns-in-Ok-clause-kept g c = λ clean kept.
    let old = c.args.self.now in
    let e = edit_of c.args.edit in
    let d = c.args.desk.now in
    let a = c.in_default.ensures in
    let next = edit_kept (body_of old.journal) (pending_of old.journal) c.args.line.now old.owes d e kept (old.journal.settled clean).pending.whole a.unbroken c.requires.order c.in-Ok.ensures.accepted in
    subst (λ (s : DeskSeen). IsKeptFor (body_of c.append.new.self) (pending_of c.append.new.self) old.owes s) (sym c.in-Ok.ensures.staged)
    (subst (λ (b : Text). IsKeptFor b (pending_of c.append.new.self) old.owes (with_staged d e)) (sym (c.append.ensures.body clean))
    (subst (λ (w : Text). IsKeptFor (body_of old.journal) w old.owes (with_staged d e)) (sym (a.added clean)) next))

pub returns-in-Ok-clause-answered : goal.returns-in-Ok-clause-answered
returns-in-Ok-clause-answered g c = inl (λ line.
    staged_step line c.args.desk.now c.stage.new.self (edit_of c.args.edit) _ c.in-Ok.ensures.accepted c.in-Ok.ensures.staged c.in-Ok.pending c.in-Ok.ensures.pending refl)

pub returns-in-Err-stage-clause-answered : goal.returns-in-Err-stage-clause-answered
returns-in-Err-stage-clause-answered g c = inl (λ line.
    refused_step line c.args.desk.now c.stage.new.self (edit_of c.args.edit) _ c.in-Err-stage.error c.in-Err-stage.ensures.refused (λ is. c.stage.ensures.memory_last (c.in-Err-stage.is ∙ ap Err is)) c.in-Err-stage.ensures.unchanged
    (ap (λ n. said (Refused n)) c.code.ensures))

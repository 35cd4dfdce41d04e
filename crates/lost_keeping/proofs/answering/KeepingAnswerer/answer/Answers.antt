-- What was read of the line is what the line means.
use Rattle.std.proofs.Common.{◌≡◌, ◌⊎◌, inl, inr, ⊎_elim, refl, sym, ap, subst}
use Rattle.lost_reading.specs.Desk.{desk_line}
use Rattle.lost_lines.specs.Answer.{reply_of}
use Rattle.lost_lines.specs.Run.{Reply}
use Rattle.lost_worker.specs.Desking.{AnswersRead, desk_terms, lists_of, said}
use Rattle.lost_worker.proofs.JudgeLemmas.{read_step}
use Rattle.lost_keeping.proofs.answering.KeepingAnswerer.answer.Goals as goal

pub returns : goal.returns
returns g c =
    let old = c.args.self.now.desk.now in
    let new = c.judge-reply.new.desk in
    let read = c.read_order-read.result in
    let line = c.args.line.now in
    record {
      desk_stays = refl;
      keeper_stays = refl;
      witness_stays = refl;
      same = c.judge-reply.ensures.same;
      clean = c.judge-reply.ensures.clean;
      kept = c.judge-reply.ensures.kept;
      given = c.judge-reply.result;
      is_said = c.desk_answer.ensures;
      answered = ⊎_elim
          (λ answered. inl (read_step old.limits line (reply_of c.desk_answer.result) (lists_of old) (lists_of new) (desk_line line) read c.read_order-read.ensures
          (subst (λ (r : Reply). AnswersRead read (desk_terms old.limits) (lists_of old) line r (lists_of new)) (sym c.desk_answer.ensures) answered)))
          (λ refused. inr (refused.0, ap lists_of refused.1))
          c.judge-reply.ensures.answered;
      saw = c.saw.ensures;
    }

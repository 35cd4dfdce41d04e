-- What was read of the line is what the line means.
use Rattle.std.proofs.Common.{◌≡◌, refl, sym, subst}
use Rattle.lost_reading.specs.Desk.{desk_line}
use Rattle.lost_lines.specs.Answer.{reply_of}
use Rattle.lost_lines.specs.Run.{Reply}
use Rattle.lost_worker.specs.Desking.{AnswersRead, desk_terms, lists_of}
use Rattle.lost_worker.proofs.JudgeLemmas.{read_step}
use Rattle.lost_worker.proofs.desking.DeskingAnswerer.answer.Goals as goal

pub returns : goal.returns
returns g c =
    let old = c.args.self.now.desk.now in
    let answered : AnswersRead c.read_desk_by_tape-read.result (desk_terms old.limits) (lists_of old) c.args.line.now (reply_of c.desk_answer.result) (lists_of c.judge-reply.new.desk) =
    subst (λ (r : Reply). AnswersRead c.read_desk_by_tape-read.result (desk_terms old.limits) (lists_of old) c.args.line.now r (lists_of c.judge-reply.new.desk)) (sym c.desk_answer.ensures) (c.judge-reply.ensures.answered c.args.line.now) in
    record {
      desk_stays = refl;
      witness_stays = refl;
      same = c.judge-reply.ensures.same;
      watches = record {
        goes = read_step old.limits c.args.line.now (reply_of c.desk_answer.result) (lists_of old) (lists_of c.judge-reply.new.desk) (desk_line c.args.line.now)
            c.read_desk_by_tape-read.result c.read_desk_by_tape-read.ensures answered;
        given = c.judge-reply.result;
        is_said = c.desk_answer.ensures;
        in_table = c.judge-reply.ensures.in_table;
        saw = c.saw.ensures;
      };
    }

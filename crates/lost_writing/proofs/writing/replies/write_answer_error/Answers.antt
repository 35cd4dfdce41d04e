use Rattle.std.proofs.Common.{codes}
use Rattle.serde_json.specs.Data.{number, string, unsigned}
use Rattle.lost_writing.specs.Replies.{error_name}
use Rattle.lost_writing.proofs.ShapeLemmas.{inner_two}
use Rattle.lost_writing.proofs.TokenLemmas.{when_ok}
use Rattle.lost_writing.proofs.writing.replies.write_answer_error.Goals as goal

pub returns : goal.returns
returns c =
    let written = inner_two (codes "errors") (codes "edition") (number (unsigned c.args.edition)) (codes "error") (string (error_name c.args.error)) c.args.text.now in
    when_ok c.end.result c.end.ensures (λ ended. rw (ended, c.in_ok-text_member.ensures, c.in_ok-count_member.ensures, c.in_ok-begin.ensures, c.error_name.ensures) written)

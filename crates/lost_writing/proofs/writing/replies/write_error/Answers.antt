use Rattle.std.proofs.Common.{codes}
use Rattle.serde_json.specs.Data.{string}
use Rattle.lost_writing.proofs.ShapeLemmas.{inner_one}
use Rattle.lost_writing.proofs.TokenLemmas.{when_ok}
use Rattle.lost_writing.proofs.writing.replies.write_error.Goals as goal

pub returns : goal.returns
returns c =
    let written = inner_one (codes "errors") (codes "error") (string c.args.name.now) c.args.text.now in
    when_ok c.end.result c.end.ensures (λ ended. rw (ended, c.in_ok-text_member.ensures, c.in_ok-begin.ensures) written)

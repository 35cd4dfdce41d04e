use Rattle.std.proofs.Common.{refl}
use Rattle.lost_writing.proofs.TokenLemmas.{when_ok}
use Rattle.lost_writing.proofs.writing.mappings.updated_member.Goals as goal

pub returns : goal.returns
returns c =
    when_ok c.text_member.result c.text_member.ensures (λ ended. rw (ended, c.text.ensures.text, c.stamp.ensures) refl)

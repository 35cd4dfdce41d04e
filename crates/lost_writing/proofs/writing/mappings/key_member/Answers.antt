use Rattle.std.proofs.Common.{sym, refl}
use Rattle.lost_writing.proofs.TokenLemmas.{when_ok}
use Rattle.lost_writing.proofs.writing.mappings.key_member.Goals as goal

pub returns-in_ok-name-in-Some : goal.returns-in_ok-name-in-Some
returns-in_ok-name-in-Some c =
    when_ok c.write_key.result c.write_key.ensures (λ ended. rw (sym c.in-Some.ensures.key, ended, c.in_ok-name-in-Some.ensures, c.text.ensures.text, c.source.ensures.value, c.identity.ensures) refl)

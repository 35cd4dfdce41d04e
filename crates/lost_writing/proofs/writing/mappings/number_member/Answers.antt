use Rattle.std.proofs.Common.{sym}
use Rattle.lost_writing.proofs.writing.mappings.number_member.Goals as goal

pub returns-in-Some : goal.returns-in-Some
returns-in-Some c = rw (sym c.in-Some.ensures) c.text_member.ensures

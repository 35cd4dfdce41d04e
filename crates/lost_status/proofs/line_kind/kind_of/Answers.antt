use Rattle.std.proofs.Common.{ap, ◌∙◌}
use Rattle.lost_status.specs.LineKind.{told_kind}
use Rattle.lost_status.proofs.LineKindLemmas.{told_reply}
use Rattle.lost_status.proofs.line_kind.kind_of.Goals as goal

pub returns-clause-kind : goal.returns-clause-kind
returns-clause-kind c = λ reply is. c.told_kind.ensures ∙ (ap told_kind is ∙ told_reply reply)

use Rattle.std.proofs.Common.{◌∙◌}
use Rattle.lost_book.proofs.PositionLemmas.{without-at, without-none}
use Rattle.lost_book.proofs.changes.withdraw.Goals as goal

pub returns-in-Some : goal.returns-in-Some
returns-in-Some c = c.remove-withdrawn.ensures.items ∙ without-at c.args.identity.now c.args.mappings.now.items _ c.in-Some.position c.as_slice.ensures.value c.in-Some.ensures

pub returns-in_default : goal.returns-in_default
returns-in_default c = without-none c.args.identity.now c.args.mappings.now.items _ c.as_slice.ensures.value c.in_default.ensures

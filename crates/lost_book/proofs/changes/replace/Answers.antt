use Rattle.lost_book.proofs.PositionLemmas.{replaced-at, replaced-none}
use Rattle.lost_book.proofs.changes.replace.Goals as goal

pub returns-in-Some : goal.returns-in-Some
returns-in-Some c = replaced-at c.args.mapping c.args.mappings.now.items _ _ c.in-Some.position c.as_slice.ensures.value c.identity.ensures c.in-Some.ensures

pub returns-in_default : goal.returns-in_default
returns-in_default c = replaced-none c.args.mapping c.args.mappings.now.items _ _ c.as_slice.ensures.value c.identity.ensures c.in_default.ensures

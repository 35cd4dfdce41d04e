use Rattle.std.proofs.Common.{refl}
use Rattle.lost_book.proofs.PositionLemmas.{replaced-at, replaced-none}
use Rattle.lost_routing.proofs.ApplyLemmas.{ok_replaced}
use Rattle.lost_routing.proofs.store.Store.replace.Goals as goal

pub returns-in-Some-clause-replaced : goal.returns-in-Some-clause-replaced
returns-in-Some-clause-replaced c =
    ok_replaced c.change.result c.args.mapping c.args.self.now c.change.new.self c.in-Some.position
    (replaced-at c.args.mapping c.args.self.now.mappings c.args.self.now.mappings _ c.in-Some.position refl c.identity.ensures c.in-Some.ensures)
    c.change.ensures.changed

pub returns-in-None-clause-replaced : goal.returns-in-None-clause-replaced
returns-in-None-clause-replaced c =
    replaced-none c.args.mapping c.args.self.now.mappings c.args.self.now.mappings _ refl c.identity.ensures c.in-None.ensures

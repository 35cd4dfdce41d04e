-- Each mapping that passes is near, and its number tells a class of the chain, where no class of the chain is a stray one.
use Rattle.std.proofs.Common.{sym, subst}
use Rattle.lost_location.specs.Place.{place_of}
use Rattle.lost_tables.specs.Picks.{Covers}
use Rattle.lost_routing.proofs.ClassLemmas.{covers_below}
use Rattle.lost_routing.proofs.CoverLemmas.{covers_at}
use Rattle.lost_routing.proofs.store.Store.near_below.Goals as goal

pub returns : goal.returns
returns c = λ test tells.
    subst (λ k. Covers test k.numbers k.mappings c.keep.new.numbers.items) c.self.view_is
    (subst (λ l. Covers test c.self.inside.rows.numbers c.self.inside.rows.mappings l) (sym c.keep.ensures)
    (covers_below c.self.inside.rows.numbers c.self.inside.rows.mappings c.self.inside.tables c.self.inside.regions c.self.inside.strays c.self.invariant
    test c.args.service.now (place_of c.args.place.now) c.in_ok-candidates.candidates.items c.in-Some.classes tells c.in_ok-candidates.ensures.holders
    c.in-Some.ensures))

pub returns-in_default : goal.returns-in_default
returns-in_default c = λ test tells.
    subst (λ k. Covers test k.numbers k.mappings c.in_ok-candidates.candidates.items) c.self.view_is
    (covers_at c.self.inside.rows.numbers c.self.inside.rows.mappings c.self.inside.tables c.self.inside.regions c.self.invariant.store
    test (place_of c.args.place.now) c.in_ok-candidates.candidates.items (λ m h. (tells m h).holder) c.in_ok-candidates.ensures.holders)

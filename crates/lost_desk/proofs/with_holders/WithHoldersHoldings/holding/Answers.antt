-- Of the set of the place those are shown that are live and no defaults; an equal place is the same place.
use Rattle.std.proofs.Common.{◌≡◌, IfOk, sym, ap, subst, ◌∙◌}
use Rattle.lost_spec.specs.Positions.{positions}
use Rattle.lost_spec.specs.Services.{is_holding}
use Rattle.lost_location.specs.Place.{place_of}
use Rattle.lost_location.proofs.EqualPlaces.{equal_places}
use Rattle.lost_desk.proofs.SetLemmas.{shown_of_set, set_within}
use Rattle.lost_desk.proofs.with_holders.WithHoldersHoldings.holding.Goals as goal

pub living_among-requires : goal.living_among-requires
living_among-requires c =
    set_within c.args.self.now.book.now (place_of c.args.self.now.place.now) c.args.self.now.holders.now c.args.self.now.right

pub returns-then-eq : goal.returns-then-eq
returns-then-eq c =
    let same : place_of c.args.place.now ≡ place_of c.args.self.now.place.now = equal_places c.args.place.now c.args.self.now.place.now (sym c.eq.ensures ∙ c.if-eq.true) in
    subst (λ l. IfOk c.living_among.result (λ places. places.items ≡ l))
    (shown_of_set c.args.moment.now (place_of c.args.self.now.place.now) c.args.self.now.book.now.mappings c.args.self.now.holders.now c.args.self.now.right
    ∙ ap (λ p. positions (is_holding c.args.moment.now p) c.args.self.now.book.now.mappings) (sym same))
    c.living_among.ensures

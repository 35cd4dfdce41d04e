-- What is held in the index of the place's kind is held here.
use Rattle.std.proofs.Common.{All, Contains, IfOk, sym, ap, subst, ◌∙◌}
use Rattle.lost_location.specs.Place.{place_of}
use Rattle.lost_index.specs.Entries.{numbers}
use Rattle.lost_regions.specs.Regions.{numbers_at}
use Rattle.lost_regions.proofs.regions.Regions.near.Goals as goal

pub returns-in-Point-clause-held : goal.returns-in-Point-clause-held
returns-in-Point-clause-held c =
    subst (λ held. IfOk c.near.result (λ near. All (Contains held) near.items))
    (ap (λ r. numbers r.points) c.self.view_is ∙ ap (λ place. numbers_at (place_of place) c.args.self.now) (sym c.in-Point.is)) c.near.ensures.held

pub returns-in-Address-clause-held : goal.returns-in-Address-clause-held
returns-in-Address-clause-held c =
    subst (λ held. IfOk c.near-in-Address.result (λ near. All (Contains held) near.items))
    (ap (λ r. numbers r.addresses) c.self.view_is ∙ ap (λ place. numbers_at (place_of place) c.args.self.now) (sym c.in-Address.is)) c.near-in-Address.ensures.held

pub returns-in-Token-clause-held : goal.returns-in-Token-clause-held
returns-in-Token-clause-held c =
    subst (λ held. IfOk c.near-in-Token.result (λ near. All (Contains held) near.items))
    (ap (λ r. numbers r.tokens) c.self.view_is ∙ ap (λ place. numbers_at (place_of place) c.args.self.now) (sym c.in-Token.is)) c.near-in-Token.ensures.held

use Rattle.std.proofs.Common.{All, IfOk, ap, subst}
use Rattle.lost_index.specs.Entries.{IsHeld}
use Rattle.lost_regions.proofs.regions.Regions.near_required.Goals as goal

pub returns-clause-held : goal.returns-clause-held
returns-clause-held c =
    subst (λ l. IfOk c.near_required.result (λ near. All (λ number. IsHeld number l) near.items)) (ap (λ r. r.references) c.self.view_is) c.near_required.ensures.held

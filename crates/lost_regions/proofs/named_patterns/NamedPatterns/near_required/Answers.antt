use Rattle.std.proofs.Common.{All, IfOk, subst}
use Rattle.lost_index.specs.Entries.{IsHeld}
use Rattle.lost_regions.proofs.named_patterns.NamedPatterns.near_required.Goals as goal

pub returns-clause-held : goal.returns-clause-held
returns-clause-held c =
    subst (λ l. IfOk c.near.result (λ near. All (λ number. IsHeld number l) near.items)) c.self.view_is c.near.ensures.held

use Rattle.std.proofs.Common.{subst}
use Rattle.lost_civic.specs.Pairs.{seen_pairs}
use Rattle.lost_civic.specs.Texts.{HasElement}
use Rattle.lost_civic.proofs.Present.{HasElement-address}
use Rattle.lost_civic.proofs.addresses.CivicAddress.pairs.Goals as goal

pub returns-clause-some_element : goal.returns-clause-some_element
returns-clause-some_element c =
    subst HasElement c.self.view_is (HasElement-address (seen_pairs c.self.inside.pairs.items) c.self.invariant.0)

use Rattle.std.specs.Arc.{arc_value}
use Rattle.std.proofs.Common.{subst}
use Rattle.lost_civic.specs.Pairs.{seen_pairs}
use Rattle.lost_civic.specs.Texts.{HasElement}
use Rattle.lost_civic.proofs.Present.{HasElement-pattern}
use Rattle.lost_civic.proofs.patterns.CivicPattern.pairs.Goals as goal

pub returns-clause-some_element : goal.returns-clause-some_element
returns-clause-some_element c =
    subst HasElement c.self.view_is (HasElement-pattern (seen_pairs (arc_value c.self.inside.inner).pairs.items) c.self.invariant.0)

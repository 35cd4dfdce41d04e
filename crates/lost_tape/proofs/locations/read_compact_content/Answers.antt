use Rattle.std.proofs.Common.{IfSome, sym, subst}
use Rattle.lost_tape.specs.Compact.{before_lat, IsContentBefore}
use Rattle.lost_tape.proofs.locations.read_compact_content.Goals as goal

pub returns-in-Some : goal.returns-in-Some
unfolding before_lat
returns-in-Some c =
    subst (λ t. IfSome c.read_compact_pair.result (λ found. IsContentBefore t found.0 found.1.now)) (sym c.in-Some.ensures) c.read_compact_pair.ensures

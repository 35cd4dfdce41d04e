use Rattle.std.proofs.Common.{IfSome, sym, subst}
use Rattle.lost_tape.specs.Compact.{before_decimal, before_token, IsContentBefore}
use Rattle.lost_tape.proofs.locations.read_compact_text.Goals as goal

pub returns-in-Some : goal.returns-in-Some
unfolding before_decimal
returns-in-Some c =
    subst (λ t. IfSome c.read_compact_decimal.result (λ found. IsContentBefore t found.0 found.1.now)) (sym c.in-Some.ensures) c.read_compact_decimal.ensures

pub returns-in_ok-after-in-None : goal.returns-in_ok-after-in-None
unfolding before_token
returns-in_ok-after-in-None c =
    subst (λ t. IfSome c.read_compact_token.result (λ found. IsContentBefore t found.0 found.1.now)) (sym c.in_ok-after-in-None.ensures) c.read_compact_token.ensures

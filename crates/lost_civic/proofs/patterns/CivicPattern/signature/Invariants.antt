use Rattle.std.proofs.Common.{◌≡◌}
use Rattle.lost_civic.proofs.SignatureLemmas.{bits_before}
use Rattle.lost_civic.proofs.patterns.CivicPattern.signature.Given as goal

abbrev pub invariant-loop-element : goal.invariant-loop-element
invariant-loop-element l = l.bits ≡ bits_before l.self l.element-index

use Rattle.std.proofs.Common.{◌≡◌}
use Rattle.lost_spec.specs.Civic.{Pairs}
use Rattle.lost_civic.specs.Texts.{seen_table, table_of}
use Rattle.lost_civic.proofs.SignatureLemmas.{bits_before}
use Rattle.lost_civic.proofs.signatures.table_signature.Given as goal

abbrev pub invariant-loop-element : goal.invariant-loop-element
invariant-loop-element l =
    (pairs : Pairs) → seen_table l.texts ≡ table_of pairs → l.bits ≡ bits_before pairs l.element-index

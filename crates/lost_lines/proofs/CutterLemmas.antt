-- Lemmas on what a cutter has of the line that is being read.
use Rattle.std.proofs.Common.{◌≡◌, ◌+◌, ◌==◌, true, [], length, min, arith}
use Rattle.std.proofs.lemmas.Bool.{eqb-true}
use Rattle.std.proofs.lemmas.List.{nil_from_length}
use Rattle.lost_spec.specs.Text.{Text}
use Rattle.lost_lines.specs.Cutting.{line_limit}
use Rattle.lost_lines.specs.declared.cutter.Cutter.{Cutter}
use Rattle.lost_lines.specs.Cutter.{IsHolding, count_of}

-- no byte of the line was read
pub nil_from_empty : (c : Cutter) (piece : Text) → IsHolding c piece → (count_of c == 0) ≡ true → piece ≡ []
nil_from_empty c piece held is =
    let none : count_of c ≡ 0 = eqb-true (count_of c) 0 is in
    let counted : count_of c ≡ min (length piece) (line_limit + 1) = held.counted in
    nil_from_length piece (omega arith)

use Rattle.std.proofs.Common.{◌≡◌, drop, true, false, sym, ap, ◌∙◌, arith, take_all, length-drop}
use Rattle.fast_float.specs.Text.{scan}
use Rattle.serde_json.specs.Read.{number_from}
use Rattle.lost_reading.proofs.NumberLemmas.{number_below_zero, number_from_zero}
use Rattle.lost_reading.proofs.numbers.number.Goals as goal

pub returns-then-has_minus : goal.returns-then-has_minus
returns-then-has_minus c =
    let s = c.as_bytes-bytes.result.now in
    let parts : c.scan.result ≡ scan (drop 1 s) = c.scan.ensures.parts ∙ ap scan (take_all _ (drop 1 s) (omega (arith, length-drop 1 s))) in
    c.with_minus.ensures ∙ ap (number_from true) parts ∙ number_below_zero s _ (sym c.if-has_minus.ensures) c.as_bytes-bytes.ensures.value

pub returns-else-has_minus : goal.returns-else-has_minus
returns-else-has_minus c =
    c.without_minus.ensures ∙ ap (number_from false) c.scan-else-has_minus.ensures.parts ∙ number_from_zero c.as_bytes-bytes.result.now _ (sym c.if-has_minus.ensures) c.as_bytes-bytes.ensures.value

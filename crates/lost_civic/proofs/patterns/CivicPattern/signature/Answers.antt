use Rattle.std.proofs.Common.{ap, bit_or}
use Rattle.std.specs.Option.{option_copied}
use Rattle.lost_civic.proofs.SignatureLemmas.{bits_more}
use Rattle.lost_civic.proofs.patterns.CivicPattern.signature.Goals as goal

pub loop-element-preserved : goal.loop-element-preserved
loop-element-preserved c =
    let bits = c.loop-element.bits in
    bits_more c.args.self.now c.loop-element.element-index bits (bit_or bits c.element_bits-bits.result) (option_copied c.text.result) c.loop-element-test.true c.loop-element.invariant c.text.ensures (ap (bit_or bits) c.element_bits-bits.ensures)

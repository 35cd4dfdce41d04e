use Rattle.std.proofs.Common.{◌∙◌, ap, sym, get_or, bit_or, Some, option_map, string_bytes}
use Rattle.lost_civic.specs.declared.elements.Element.TheVariants.{Country}
use Rattle.lost_civic.specs.Element.{all_elements}
use Rattle.lost_civic.specs.Signatures.{bits_of}
use Rattle.lost_civic.proofs.SignatureLemmas.{bits_more, bits_kept, table_text}
use Rattle.lost_civic.proofs.signatures.table_signature.Goals as goal
use Rattle.lost_civic.proofs.signatures.table_signature.Goals.{in-Some, in-None}

pub loop-element-preserved : goal.loop-element-preserved
loop-element-preserved c =
    let place = c.loop-element.element-index in
    let texts = c.args.texts.now in
    let bits = c.loop-element.bits in
    let found = c.index-texts-index.result in
    let at_place = c.index-texts-index.is ∙ ap (λ i. get_or texts i found) c.index.ensures.position in
    let element = get_or all_elements place Country in
    λ pairs kept.
    let text = table_text texts pairs place found c.loop-element-test.true kept at_place in
    let before = c.loop-element.invariant pairs kept in
    elim c.match-texts-index.branch [ in-Some w ↦ bits_more pairs place bits c.match-texts-index.bits (Some (string_bytes w.in-Some.text)) c.loop-element-test.true before (ap (option_map string_bytes) (sym w.in-Some.is) ∙ text) (w.bits-is ∙ (ap (bit_or bits) w.element_bits-bits.ensures ∙ ap (λ own. bit_or bits (bits_of element (Some own))) w.as_str.ensures.value)) | in-None w ↦ w.bits-is ∙ bits_kept pairs place bits c.loop-element-test.true before (ap (option_map string_bytes) (sym w.in-None.is) ∙ text) ]

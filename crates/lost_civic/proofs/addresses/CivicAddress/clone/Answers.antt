use Rattle.std.proofs.Common.{◌≡◌, ◌∙◌, ap, sym, subst, None, option_map, string_bytes, rules}
use Rattle.lost_spec.specs.Civic.{Pairs, address_fault}
use Rattle.lost_civic.specs.Pairs.{seen_pair, seen_pairs}
use Rattle.lost_civic.specs.Signatures.{signature_of}
use Rattle.lost_civic.specs.Texts.{table_of, seen_table}
use Rattle.lost_civic.proofs.PairCopies.{map-from_all_zip, same_pair-copies}
use Rattle.lost_civic.proofs.addresses.CivicAddress.clone.Goals as goal

pub invariant_of-result : goal.invariant_of-result
invariant_of-result c =
    let own = c.self.inside.pairs.items in
    let copy = c.in_ok-clone.field-0.items in
    let texts = c.self.inside.texts.items in
    let text_copies = c.in_ok-clone-2.field-0.items in
    let same : seen_pairs copy ≡ seen_pairs own = map-from_all_zip _ seen_pair (λ x y h. same_pair-copies x y h.0 h.1) own copy c.in_ok-clone.ensures.cases.0 in
    let same_texts : seen_table text_copies ≡ seen_table texts = map-from_all_zip _ (option_map string_bytes) (λ x y h. search rules) texts text_copies c.in_ok-clone-2.ensures.cases.0 in
    let lawful : Pairs → Type 0 = λ pairs. address_fault pairs ≡ None in
    (subst lawful (sym same) c.self.invariant.0, same_texts ∙ (c.self.invariant.1 ∙ ap table_of (sym same)), c.self.invariant.2 ∙ ap signature_of (sym same))

pub returns : goal.returns
returns c =
    map-from_all_zip _ seen_pair (λ x y h. same_pair-copies x y h.0 h.1) c.self.inside.pairs.items c.in_ok-clone.field-0.items c.in_ok-clone.ensures.cases.0 ∙ c.self.view_is

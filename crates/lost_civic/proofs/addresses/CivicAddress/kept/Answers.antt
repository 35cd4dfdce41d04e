use Rattle.std.proofs.Common.{◌<◌, ◌∙◌, ap, get_or, arith}
use Rattle.lost_civic.specs.Pairs.{seen_pairs}
use Rattle.lost_civic.specs.Element.{element_index}
use Rattle.lost_civic.specs.Texts.{text_of}
use Rattle.lost_civic.proofs.TextLemmas.{length-table, text_of-at}
use Rattle.lost_civic.proofs.addresses.CivicAddress.kept.Goals as goal

pub index-requires-2 : goal.index-requires-2
index-requires-2 c =
    omega (arith, length-table c.self.inside.texts.items (seen_pairs c.self.inside.pairs.items) c.self.invariant.1, c.self.inside.texts.ok.0)

pub returns : goal.returns
returns c =
    let texts = c.self.inside.texts.items in
    let found = c.index-2.result.now in
    let within : element_index c.args.element < 31 = omega arith in
    text_of-at texts (seen_pairs c.self.inside.pairs.items) c.args.element found within c.self.invariant.1 (c.index-2.ensures ∙ ap (λ i. get_or texts i found) c.index.ensures.position)
    ∙ ap (text_of c.args.element) c.self.view_is

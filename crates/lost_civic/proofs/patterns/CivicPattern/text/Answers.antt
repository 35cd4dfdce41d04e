use Rattle.std.proofs.Common.{◌≡◌, ◌∙◌, ap}
use Rattle.std.specs.Arc.{arc_value}
use Rattle.lost_spec.specs.Civic.{value_of}
use Rattle.lost_civic.specs.declared.patterns.Fields.{Fields}
use Rattle.lost_civic.specs.Element.{element_name}
use Rattle.lost_civic.specs.Texts.{text_of, seen_compared}
use Rattle.lost_civic.specs.Pairs.{seen_pairs}
use Rattle.lost_civic.proofs.TextLemmas.{value_of-compared_of}
use Rattle.lost_civic.proofs.patterns.CivicPattern.text.Goals as goal

pub returns : goal.returns
returns c =
    let name = element_name c.args.element in
    let list : c.as_slice.result.now ≡ (arc_value c.self.inside.inner).compared.items = c.as_slice.ensures.value ∙ ap (λ (f : Fields). f.compared.items) c.deref.ensures in
    c.find_text.ensures ∙ (ap (λ compared. value_of name (seen_compared compared)) list ∙ (ap (value_of name) c.self.invariant.1 ∙ (value_of-compared_of name (seen_pairs (arc_value c.self.inside.inner).pairs.items) ∙ ap (text_of c.args.element) c.self.view_is)))

use Rattle.std.proofs.Common.{◌∙◌, ap, sym, refl, slice_index_or}
use Rattle.lost_spec.specs.Text.{same_text}
use Rattle.lost_civic.specs.declared.elements.Element.TheVariants.{Country}
use Rattle.lost_civic.specs.Element.{all_elements}
use Rattle.lost_civic.proofs.ElementLemmas.{named_by, none_named, none_named_more}
use Rattle.lost_civic.proofs.elements.Element.by_name.Goals as goal

pub returns-then-eq-clause-named : goal.returns-then-eq-clause-named
returns-then-eq-clause-named c =
    named_by c.args.name.now (slice_index_or all_elements c.loop-element.element-index Country)
    (sym (ap (same_text c.args.name.now) c.name.ensures.value) ∙ (sym c.eq.ensures ∙ c.if-eq.true))

pub loop-element-preserved : goal.loop-element-preserved
loop-element-preserved c =
    none_named_more c.args.name.now c.loop-element.element-index c.loop-element-test.true c.loop-element.invariant
    (sym (ap (same_text c.args.name.now) c.name.ensures.value) ∙ (sym c.eq.ensures ∙ c.if-eq.false))

pub returns-clause-named : goal.returns-clause-named
returns-clause-named c =
    let none = none_named c.args.name.now c.loop-element.element-index c.loop-element-test.false c.loop-element.invariant in
    λ element. (λ same. cc, λ named. absurd (none.1 element named))

pub returns-clause-unknown : goal.returns-clause-unknown
returns-clause-unknown c =
    (λ same. (none_named c.args.name.now c.loop-element.element-index c.loop-element-test.false c.loop-element.invariant).0, λ unknown. refl)

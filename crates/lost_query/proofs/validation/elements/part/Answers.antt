use Rattle.std.proofs.Common.{◌≡◌, ◌∙◌, ◌<◌, Bool, not, [], length, get_or, refl, sym, ap}
use Rattle.std.proofs.lemmas.Fn.{says_at}
use Rattle.std.proofs.lemmas.List.{get_or_default}
use Rattle.lost_civic.specs.declared.elements.Element.{Element}
use Rattle.lost_civic.specs.declared.elements.Element.TheVariants.{Country}
use Rattle.lost_query.proofs.PatternLemmas.{filter_more_passes, filter_more_fails, filter_all}
use Rattle.lost_query.proofs.validation.elements.part.Goals as goal
use Rattle.lost_query.proofs.validation.elements.part.Goals.{then-passes+in_ok-push, else-passes+in_ok-push-2}

pub loop-element-preserved : goal.loop-element-preserved
loop-element-preserved g c = λ test is.
    let fails : Element → Bool = λ e. not (test e) in
    let list = c.args.elements.now in
    let i = c.loop-element.element-index in
    let so_far = c.loop-element.invariant test is in
    let within : i < length list = c.loop-element-test.true in
    let x = get_or list i Country in
    let at : x ≡ get_or list i x = get_or_default list i Country x within in
    let passing = c.loop-element.passing.items in
    let failing = c.loop-element.failing.items in
    elim c.if-passes.branch [
      | then-passes+in_ok-push w ↦
          let tested : test x ≡ _ = sym (is _ _ (says_at g.F.Fn c.passes.ensures refl)) ∙ w.if-passes.true in
          rw (w.passing-is, w.failing-is) (filter_more_passes test [] list i x within at passing so_far.0 w.push.new.self.items tested w.in_ok-push.ensures.items, filter_more_fails fails [] list i x within at failing so_far.1 (ap not tested))
      | else-passes+in_ok-push-2 w ↦
          let tested : test x ≡ _ = sym (is _ _ (says_at g.F.Fn c.passes.ensures refl)) ∙ w.if-passes.false in
          rw (w.passing-is, w.failing-is) (filter_more_fails test [] list i x within at passing so_far.0 tested, filter_more_passes fails [] list i x within at failing so_far.1 w.push-else-passes.new.self.items (ap not tested) w.in_ok-push-2.ensures.items)
    ]

pub returns-clause-passing : goal.returns-clause-passing
returns-clause-passing g c = λ test is.
    filter_all test [] c.args.elements.now c.args.elements.now c.loop-element.element-index c.loop-element.passing.items c.loop-element-test.false refl (c.loop-element.invariant test is).0

pub returns-clause-failing : goal.returns-clause-failing
returns-clause-failing g c = λ test is.
    filter_all (λ (e : Element). not (test e)) [] c.args.elements.now c.args.elements.now c.loop-element.element-index c.loop-element.failing.items c.loop-element-test.false refl (c.loop-element.invariant test is).1

use Rattle.std.proofs.Common.{◌≡◌, Bool, not, filter, take}
use Rattle.std.specs.Fn.{FnReturnsAt}
use Rattle.lost_civic.specs.declared.elements.Element.{Element}
use Rattle.lost_query.proofs.validation.elements.part.Given as goal

abbrev pub invariant-loop-element : goal.invariant-loop-element
invariant-loop-element g l =
    (test : Element → Bool) → ((e : Element) (r : Bool) → FnReturnsAt g.F.Fn l.passes e r → r ≡ test e)
    → (l.passing.items ≡ filter test (take l.element-index l.elements)) × (l.failing.items ≡ filter (λ e. not (test e)) (take l.element-index l.elements))

use Rattle.std.proofs.Common.{◌≡◌, not, filter, take}
use Rattle.lost_query.specs.Reference.{is_contradicted_by}
use Rattle.lost_query.proofs.validation.part_invalid.Given as goal

abbrev pub invariant-loop-element : goal.invariant-loop-element
invariant-loop-element g l = record {
  invalid : l.invalid.items ≡ filter (is_contradicted_by (g.H.Holdings.book l.holdings) l.reference) (take l.element-index l.others);
  unchecked : l.unchecked.items ≡ filter (λ e. not (is_contradicted_by (g.H.Holdings.book l.holdings) l.reference e)) (take l.element-index l.others);
}

use Rattle.std.proofs.Common.{◌≡◌, ◌++◌, None, Bool, filter, map, take}
use Rattle.std.specs.List.{AllByRecursion}
use Rattle.std.specs.Fn.{FnReturnsAt}
use Rattle.lost_spec.specs.Civic.{Pairs, pattern_fault}
use Rattle.lost_query.proofs.validation.patterns.add_patterns.Given as goal

abbrev pub invariant-loop-pattern : goal.invariant-loop-pattern
invariant-loop-pattern g l =
    ((test : Pairs → Bool) → ((p : Pairs) (r : Bool) → FnReturnsAt g.F.Fn l.passes p r → r ≡ test p)
    → map (λ p. p.now) l.patterns.items ≡ map (λ p. p.now) l.fn.patterns.items ++ filter test (take l.pattern-index l.pattern-items))
    × (AllByRecursion (λ p. pattern_fault p ≡ None) (map (λ p. p.now) l.fn.patterns.items) → AllByRecursion (λ p. pattern_fault p ≡ None) (map (λ p. p.now) l.patterns.items))

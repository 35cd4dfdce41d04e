use Rattle.std.proofs.Common.{◌≡◌, ◌∷◌, None, filter, map, take}
use Rattle.std.specs.List.{AllByRecursion}
use Rattle.lost_spec.specs.Civic.{pattern_fault, matches}
use Rattle.lost_spec.specs.Validation.{patterns_in}
use Rattle.lost_query.proofs.validation.patterns.matching_patterns.Given as goal

abbrev pub invariant-loop-mapping : goal.invariant-loop-mapping
invariant-loop-mapping l = record {
  matching : map (λ p. p.now) l.patterns.items ≡ filter (λ p. matches p l.address) (patterns_in (l.found.first ∷ take l.mapping-index l.found.rest.items));
  lawful : AllByRecursion (λ p. pattern_fault p ≡ None) (map (λ p. p.now) l.patterns.items);
}

use Rattle.std.proofs.Common.{◌≡◌, ◌++◌, map, string_bytes}
use Rattle.std.specs.Iterator.Adapters.{rev_source}
use Rattle.std.specs.Slice.Iter.{iter_rest}
use Rattle.lost_spec.specs.Civic.{Pairs}
use Rattle.lost_spec.specs.Text.{ascending_by}
use Rattle.lost_spec.specs.Validation.{unknown_names}
use Rattle.lost_civic.specs.Pairs.{seen_pairs}
use Rattle.lost_query.proofs.validation.elements.unknown_names.Given as goal

abbrev pub invariant-loop-pair : goal.invariant-loop-pair
invariant-loop-pair l =
    (done : Pairs) × (seen_pairs (iter_rest (rev_source l.pair-iterator)) ++ done ≡ l.address)
    × (map string_bytes l.names.keys ≡ ascending_by (λ name. name) (unknown_names done))

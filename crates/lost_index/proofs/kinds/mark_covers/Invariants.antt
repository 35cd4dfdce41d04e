-- The kinds of the keys of the regions so far are marked.
use Rattle.std.proofs.Common.{take, All}
use Rattle.lost_index.specs.Kinds.{KeepsKinds, HasKindsOf}
use Rattle.lost_index.proofs.kinds.mark_covers.Given as goal

abbrev pub invariant-loop-one : goal.invariant-loop-one
invariant-loop-one g l = record {
  marked : All (λ region. HasKindsOf g.P.Profile.kind_of l.kinds (g.P.Profile.cover_of region)) (take l.one-index l.kept);
  keeps : KeepsKinds l.initial.kinds l.kinds;
}

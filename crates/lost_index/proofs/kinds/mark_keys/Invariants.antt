-- The kinds of the keys so far are marked.
use Rattle.std.proofs.Common.{take}
use Rattle.lost_index.specs.Kinds.{KeepsKinds, HasKindsOf}
use Rattle.lost_index.proofs.kinds.mark_keys.Given as goal

abbrev pub invariant-loop-position : goal.invariant-loop-position
invariant-loop-position g l = record {
  marked : HasKindsOf g.P.Profile.kind_of l.kinds (take l.position (g.P.Profile.cover_of l.one));
  keeps : KeepsKinds l.initial.kinds l.kinds;
}

-- The numbers rise, so those below one stand in front.
use Rattle.std.proofs.Common.{ltb, rules, sym, subst}
use Rattle.std.specs.List.Sorted.{IsNonDecreasingBy}
use Rattle.std.proofs.lemmas.List.Sorted.{IsPartitionPoint-from_clause}
use Rattle.lost_index.specs.Notes.{number_of}
use Rattle.lost_index.proofs.NoteLemmas.{point_from}
use Rattle.lost_index.proofs.cell.Cell.start_of.Goals as goal

pub returns : goal.returns
returns g c =
    rw (← c.self.view_is, ← c.deref.ensures.value)
    (point_from c.args.number c.deref.result.now c.partition_point.result (subst (IsNonDecreasingBy number_of) (sym c.deref.ensures.value) c.self.invariant.rising)
    (λ parted. IsPartitionPoint-from_clause (λ note. ltb (number_of note) c.args.number) _ _ c.partition_point.ensures.partitioned parted (λ a r q k. search rules)))

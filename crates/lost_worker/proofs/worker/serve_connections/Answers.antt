use Rattle.std.proofs.Common.{refl, rules}
use Rattle.lost_worker.specs.Sources.{ends_of}
use Rattle.lost_worker.proofs.ServingLemmas.{HasSeenMore-none, HasSeenMore-trans}
use Rattle.lost_worker.proofs.SumLemmas.{sums_none, sums_push, so_far_none, so_far_push}
use Rattle.lost_worker.proofs.worker.serve_connections.Goals as goal

pub loop-round-init : goal.loop-round-init
loop-round-init g c = record {
  seen = HasSeenMore-none _ _ refl;
  sum = sums_none _ _ _ _ _ refl (search rules);
  told = so_far_none _ _ _ _ _ _ _ _ refl refl (search rules);
}

pub loop-round-preserved : goal.loop-round-preserved
loop-round-preserved g c = record {
  seen = HasSeenMore-trans _ _ _ c.loop-round.invariant.seen c.serve_connection-counts.ensures.seen;
  sum = sums_push _ _ _ _ _ _ _ _ (record { unread = _; before = _ }) c.serve_connection-counts.ensures.counted
      c.plus-sum.ensures.lines c.plus-sum.ensures.long_lines c.plus-sum.ensures.memory c.plus-sum.ensures.faults c.loop-round.invariant.sum;
  told = so_far_push _ _ _ _ _ _ _ _ (ends_of g.I.Read.remaining g.O.Write.contents c.in-Some-next.connection) c.serve_connection-counts.ensures.counted
      c.plus-sum.ensures.lines c.plus-sum.ensures.long_lines c.plus-sum.ensures.memory c.plus-sum.ensures.faults
      (ends_of g.I.Read.remaining g.O.Write.contents) _ _ _ c.in-Some-next.connection refl c.in-Some-next.ensures c.loop-round.invariant.told;
}

use Rattle.std.proofs.Common.{refl}
use Rattle.lost_worker.proofs.ServingLemmas.{HasSeenMore-none, HasSeenMore-trans}
use Rattle.lost_loop.proofs.event_loop.EventLoop.run.Goals as goal

pub loop-round-init : goal.loop-round-init
loop-round-init g c = HasSeenMore-none _ _ refl

pub loop-round-preserved : goal.loop-round-preserved
loop-round-preserved g c = HasSeenMore-trans _ _ _ c.loop-round.invariant (HasSeenMore-trans _ _ _ c.serve_queued.ensures.seen (HasSeenMore-none _ _ c.rest.ensures))

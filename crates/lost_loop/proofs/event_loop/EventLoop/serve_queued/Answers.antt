use Rattle.std.proofs.Common.{refl}
use Rattle.lost_worker.proofs.ServingLemmas.{HasSeenMore-none, HasSeenMore-trans}
use Rattle.lost_loop.proofs.event_loop.EventLoop.serve_queued.Goals as goal

pub loop-burst-init : goal.loop-burst-init
loop-burst-init g c = HasSeenMore-none _ _ refl

pub loop-burst-preserved : goal.loop-burst-preserved
loop-burst-preserved g c = HasSeenMore-trans _ _ _ c.loop-burst.invariant c.serve_next.ensures.seen

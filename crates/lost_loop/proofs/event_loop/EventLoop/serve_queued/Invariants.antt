use Rattle.lost_worker.specs.Lines.{HasSeenMore}
use Rattle.lost_loop.proofs.event_loop.EventLoop.serve_queued.Given as goal

-- the replier has seen more than at the start
abbrev pub invariant-loop-burst : goal.invariant-loop-burst
invariant-loop-burst g l = HasSeenMore (g.P.Replier.reader l.initial.replier) (g.P.Replier.reader l.replier)

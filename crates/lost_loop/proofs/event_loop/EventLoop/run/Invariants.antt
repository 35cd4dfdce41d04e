use Rattle.lost_worker.specs.Lines.{HasSeenMore}
use Rattle.lost_loop.proofs.event_loop.EventLoop.run.Given as goal

-- the replier has seen more than at the start
abbrev pub invariant-loop-round : goal.invariant-loop-round
invariant-loop-round g l = HasSeenMore (g.P.Replier.reader l.initial.replier) (g.P.Replier.reader l.replier)

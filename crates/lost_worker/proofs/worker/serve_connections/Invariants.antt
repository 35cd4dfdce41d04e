use Rattle.lost_worker.specs.Lines.{Answers, HasSeenMore}
use Rattle.lost_worker.specs.Sources.{ends_of}
use Rattle.lost_worker.specs.Sum.{SumsConnections}
use Rattle.lost_worker.proofs.SumLemmas.{SumsSoFar}
use Rattle.lost_worker.proofs.worker.serve_connections.Given as goal

abbrev pub invariant-loop-round : goal.invariant-loop-round
invariant-loop-round g l = record {
  seen : HasSeenMore (g.P.Replier.reader l.initial.replier) (g.P.Replier.reader l.replier);
  sum : SumsConnections (g.G.Gate.says l.fn.gate) (Answers l.fn.name)
      (record { reader = g.P.Replier.reader l.initial.replier; moments = g.M.Moments.coming l.initial.moments })
      (record { reader = g.P.Replier.reader l.replier; moments = g.M.Moments.coming l.moments })
      l.sum;
  told : SumsSoFar (g.G.Gate.says l.fn.gate) (Answers l.fn.name)
      (record { reader = g.P.Replier.reader l.initial.replier; moments = g.M.Moments.coming l.initial.moments })
      (record { reader = g.P.Replier.reader l.replier; moments = g.M.Moments.coming l.moments })
      (ends_of g.I.Read.remaining g.O.Write.contents)
      (g.S.ConnectionSource.coming l.initial.source) (g.S.ConnectionSource.coming l.source) l.sum;
}

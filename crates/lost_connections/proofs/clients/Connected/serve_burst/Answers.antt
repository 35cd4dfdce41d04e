use Rattle.std.proofs.Common.{Ok, refl}
use Rattle.lost_connections.proofs.ConnectedLemmas.{broken_served}
use Rattle.lost_connections.proofs.clients.Connected.serve_burst.Goals as goal

pub returns-in_err-burst-clause-served : goal.returns-in_err-burst-clause-served
returns-in_err-burst-clause-served g c =
    broken_served _ _ _ _ _ _ _ _ _ c.from_residual.result _ c.from_residual.ensures.1 c.in_err-burst.ensures.broken c.in_err-burst.ensures.faults refl refl

pub returns-clause-served : goal.returns-clause-served
returns-clause-served g c = record {
  burst = Ok c.in_ok-burst.burst;
  bursts = c.in_ok-burst.ensures.steady;
  faults = record { read = c.in_ok-burst.ensures.faults.read; write = c.in_ok-burst.ensures.faults.write };
  times = (c.after-self.ensures, refl);
  progress = refl;
}

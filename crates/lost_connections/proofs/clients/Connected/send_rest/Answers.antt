use Rattle.std.proofs.Common.{Ok, refl}
use Rattle.lost_connections.proofs.ConnectedLemmas.{broken_sent}
use Rattle.lost_connections.proofs.clients.Connected.send_rest.Goals as goal

pub returns-in_err-burst : goal.returns-in_err-burst
returns-in_err-burst g c =
    broken_sent _ _ _ _ _ c.from_residual.result _ c.from_residual.ensures.1 c.in_err-burst.ensures.broken c.in_err-burst.ensures.faults refl refl

pub returns : goal.returns
returns g c = record {
  burst = Ok c.in_ok-burst.burst;
  rests = c.in_ok-burst.ensures.rest;
  faults = record { read = c.in_ok-burst.ensures.faults.read; write = c.in_ok-burst.ensures.faults.write };
  times = (c.after-self.ensures, refl);
  progress = refl;
}

-- Lemmas on the connections of one worker.
use Rattle.std.proofs.Common.{◌≡◌, ℕ, Bool, Option, Result, Ok, Err, IsErrAnd, sym, ap, subst}
use Rattle.std.specs.declared.time.Duration.{Duration}
use Rattle.lost_spec.specs.Text.{Text}
use Rattle.lost_worker.specs.Lines.{Worker}
use Rattle.lost_connections.specs.declared.burst.Burst.{Burst}
use Rattle.lost_connections.specs.declared.burst.Progress.{Progress}
use Rattle.lost_connections.specs.declared.clients.Connected.{Connected}
use Rattle.lost_connections.specs.declared.faults.ClientFault.{ClientFault}
use Rattle.lost_connections.specs.Bursts.{Connection}
use Rattle.lost_connections.specs.Client.{connection_of}
use Rattle.lost_connections.specs.Clients.{IsServed, IsSent}
use Rattle.lost_connections.specs.Steady.{Broken, SendsRest, TellsFaults}

-- the faults that a result tells are those of another with the same fault
tells_same : (a b : Connection) (f e : ClientFault) → f ≡ e → TellsFaults {T = Burst} a b (Err e) → TellsFaults {T = Progress} a b (Err f)
tells_same a b f e is told = subst (λ (x : ClientFault). TellsFaults {T = Progress} a b (Err x)) (sym is) (record { read = told.read; write = told.write })

module _ {I O T : Type 0} (remaining : I → Option Text) (contents : O → Option Text) where
  pub broken_served : (says : ℕ → Bool → Type 0) (name : Text) (old new : Worker) (now : Duration) (a b : Connected I O T) (r : Result Progress ClientFault) (e : ClientFault) → IsErrAnd r (λ f. f ≡ e)
      → Broken says name old new (connection_of remaining contents a.client) (connection_of remaining contents b.client) e
      → TellsFaults {T = Burst} (connection_of remaining contents a.client) (connection_of remaining contents b.client) (Err e)
      → b.times ≡ a.times → b.state ≡ a.state → IsServed remaining contents says name old new now a b r
  broken_served says name old new now a b (Ok p) e is broken told times state = absurd is
  broken_served says name old new now a b (Err f) e is broken told times state = record {
    burst = Err e;
    bursts = broken;
    faults = tells_same (connection_of remaining contents a.client) (connection_of remaining contents b.client) f e is told;
    times = (times, state);
    progress = ap (λ (x : ClientFault). Err x) is;
  }

  pub broken_sent : (now : Duration) (a b : Connected I O T) (r : Result Progress ClientFault) (e : ClientFault) → IsErrAnd r (λ f. f ≡ e)
      → SendsRest (connection_of remaining contents a.client) (connection_of remaining contents b.client)
      → TellsFaults {T = Burst} (connection_of remaining contents a.client) (connection_of remaining contents b.client) (Err e)
      → b.times ≡ a.times → b.state ≡ a.state → IsSent remaining contents now a b r
  broken_sent now a b (Ok p) e is rest told times state = absurd is
  broken_sent now a b (Err f) e is rest told times state = record {
    burst = Err e;
    rests = rest;
    faults = tells_same (connection_of remaining contents a.client) (connection_of remaining contents b.client) f e is told;
    times = (times, state);
    progress = ap (λ (x : ClientFault). Err x) is;
  }

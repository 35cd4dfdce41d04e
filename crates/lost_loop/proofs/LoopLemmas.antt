-- What a worker's loop does with its connections.
use Rattle.std.proofs.Common.{◌≡◌, ℕ, ◌⊎◌, inl, inr, Option, Result, Ok, Err, IfOk, OnErr, MatchOption, refl, sym, ap, ◌∙◌}
use Rattle.std.proofs.lemmas.Bool.{cases_eq}
use Rattle.std.specs.Result.{result_ok}
use Rattle.std.specs.declared.time.Duration.{Duration}
use Rattle.lost_spec.specs.Text.{Text}
use Rattle.lost_connections.specs.Client.{connection_of, fresh}
use Rattle.lost_connections.specs.Deadlines.{times_at}
use Rattle.lost_connections.specs.declared.client.Client.{Client}
use Rattle.lost_connections.specs.declared.clients.Clients.{Clients}
use Rattle.lost_connections.specs.declared.clients.Connected.{Connected}
use Rattle.lost_connections.specs.Clients.{connected_at, KeepsAll, TakesUnder, GivesUp}
use Rattle.lost_loop.specs.Loop.{IsTaken}

module _ {I O T : Type 0} (old mid new : Clients I O T) (key : ℕ) (connected : Connected I O T) (out : Option (Connected I O T)) where
  -- what was taken under a key, and then given away, is as if it never came
  pub given_back : TakesUnder old mid key connected → GivesUp mid new key out → KeepsAll old new
  given_back taken gives other = at (cases_eq other key)
    where
      at : (other ≡ key) ⊎ (other ≡ key → ⊥) → connected_at new other ≡ connected_at old other
      at (inl same) = ap (connected_at new) same ∙ gives.gone ∙ sym (ap (connected_at old) same ∙ taken.free)
      at (inr apart) = gives.others other apart ∙ taken.others other apart

module _ {I O T E : Type 0} (remaining : I → Option Text) (contents : O → Option Text) (most : ℕ) (now : Duration) (state : T) (client : Client I O) where
  -- a connection that begins now is held under a key, or closed
  pub held : (unread written : Option Text) (r : Result ℕ E) (o : Option ℕ) (old new : Clients I O T) → connection_of remaining contents client ≡ fresh unread written most → o ≡ result_ok r → IfOk r (λ key. TakesUnder old new key (record { client = client; times = times_at now; state = state })) → OnErr r (KeepsAll old new) → MatchOption o (KeepsAll old new) (λ key. IsTaken remaining contents most now state old new key)
  held unread written (Ok key) o old new is_fresh is taken kept = rw is (record {
    connected = record { client = client; times = times_at now; state = state };
    begins = record { client = (unread, written, is_fresh); times = refl; state_is = refl };
    taken = taken;
  })
  held unread written (Err e) o old new is_fresh is taken kept = rw is kept

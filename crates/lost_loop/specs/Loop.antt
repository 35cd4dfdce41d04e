-- What a worker's loop does with the connections that it watches. (Own.)
use Rattle.std.specs.Prelude.{◌≡◌, ◌+◌, ◌-◌, ◌^◌, ◌⊎◌, ℕ, Bool, true, false, min, Option, None, Some, Result}
use Rattle.std.specs.declared.time.Duration.{Duration}
use Rattle.lost_spec.specs.Text.{Text}
use Rattle.lost_lines.specs.declared.counts.Counts.{Counts}
use Rattle.lost_worker.specs.Lines.{Worker}
use Rattle.lost_connections.specs.declared.burst.Progress.{Progress}
use Rattle.lost_connections.specs.declared.faults.ClientFault.{ClientFault}
use Rattle.lost_connections.specs.declared.clients.Clients.{Clients}
use Rattle.lost_connections.specs.declared.clients.Connected.{Connected}
use Rattle.lost_connections.specs.Client.{connection_of, fresh}
use Rattle.lost_connections.specs.Clients.{connected_at, KeepsAll, KeepsOthers, TakesUnder, IsServedAt, IsSentAt}
use Rattle.lost_connections.specs.Deadlines.{times_at}
use Rattle.lost_loop.specs.declared.deciding.Next.{Next}
use Rattle.lost_loop.specs.declared.deciding.Next.TheVariants.{Waits, Goes, Rests, Ends}
use Rattle.lost_loop.specs.Next.{next_of}

-- a number stays at its greatest value, of 64 bits
abbrev pub capped : ℕ → ℕ
capped n = min n (2 ^ 64 - 1)

-- counts grow by others, number by number
pub record IsPlus (old more new : Counts) : Type 0 where
  pub lines : new.lines ≡ capped (old.lines + more.lines)
  pub long_lines : new.long_lines ≡ capped (old.long_lines + more.long_lines)
  pub memory : new.memory ≡ capped (old.memory + more.memory)
  pub faults : new.faults ≡ capped (old.faults + more.faults)

-- one fault, and nothing else
abbrev pub one_fault : Counts
one_fault = record { lines = 0; long_lines = 0; memory = 0; faults = 1 }

module _ {I O T : Type 0} (remaining : I → Option Text) (contents : O → Option Text) where
  -- the counts of a connection's lines
  abbrev pub counts_of : Connected I O T → Counts
  counts_of connected = (connection_of remaining contents connected.client).replied.counts

  -- what the end of a connection adds: one fault if it ended in one, and else its counts
  abbrev pub AddsEnd : Bool → Option (Connected I O T) → Counts → Counts → Type 0
  AddsEnd is_fault None old new = new ≡ old
  AddsEnd true (Some connected) old new = IsPlus old one_fault new
  AddsEnd false (Some connected) old new = IsPlus old (counts_of connected) new

  -- the connection under a key ended: it is gone, and counted
  pub record Leaves (is_fault : Bool) (old new : Clients I O T) (before after : Counts) (key : ℕ) : Type 0 where
    pub gone : connected_at new key ≡ None
    pub others : KeepsOthers old new key
    pub counted : AddsEnd is_fault (connected_at old key) before after

  -- nothing changed
  pub record Stays (old new : Clients I O T) (before after : Counts) : Type 0 where
    pub clients : new ≡ old
    pub counts : after ≡ before

  -- what is next was done; one whose replies are to be sent ends at once if there is no room to note that
  abbrev pub Follows : Next → Clients I O T → Clients I O T → Counts → Counts → ℕ → Type 0
  Follows Waits old new before after key = Stays old new before after
  Follows Goes old new before after key = Stays old new before after
  Follows Rests old new before after key = Stays old new before after ⊎ Leaves true old new before after key
  Follows (Ends None) old new before after key = Leaves false old new before after key
  Follows (Ends (Some fault)) old new before after key = Leaves true old new before after key

  -- the same after a burst, if there was one
  abbrev pub FollowsBurst : Bool → Option (Result Progress ClientFault) → Clients I O T → Clients I O T → Counts → Counts → ℕ → Type 0
  FollowsBurst is_spent None old new before after key = Stays old new before after
  FollowsBurst is_spent (Some result) old new before after key = Follows (next_of result is_spent) old new before after key

  module _ (says : ℕ → Bool → Type 0) (name : Text) where
    -- a burst of the connection under a key, if there is one; of one that has no line left, the rest of its replies
    abbrev pub Bursts : Bool → Worker → Worker → Duration → Option (Connected I O T) → Option (Connected I O T) → Option (Result Progress ClientFault) → Type 0
    Bursts true old new now a b result = IsSentAt remaining contents now a b result × (new ≡ old)
    Bursts false old new now a b result = IsServedAt remaining contents says name old new now a b result

    -- a turn of the connection under a key: a burst of it, and then what that asks for; nothing else is touched
    pub record IsTurn (is_spent : Bool) (worker later : Worker) (now : Duration) (old new : Clients I O T) (before after : Counts) (key : ℕ) : Type 0 where
      pub served : Clients I O T
      pub result : Option (Result Progress ClientFault)
      pub others : KeepsOthers old served key
      pub bursts : Bursts is_spent worker later now (connected_at old key) (connected_at served key) result
      pub follows : FollowsBurst is_spent result served new before after key

  -- a connection that begins now, with so many lines at most
  pub record Begins (most : ℕ) (now : Duration) (state : T) (connected : Connected I O T) : Type 0 where
    pub client : (unread : Option Text) × (written : Option Text) × (connection_of remaining contents connected.client ≡ fresh unread written most)
    pub times : connected.times ≡ times_at now
    pub state_is : connected.state ≡ state

  -- a connection that came begins, under a key that had none
  pub record IsTaken (most : ℕ) (now : Duration) (state : T) (old new : Clients I O T) (key : ℕ) : Type 0 where
    pub connected : Connected I O T
    pub begins : Begins most now state connected
    pub taken : TakesUnder old new key connected

  -- or it is closed, and counts as one fault
  pub record IsTurnedAway (old new : Clients I O T) (before after : Counts) : Type 0 where
    pub clients : KeepsAll old new
    pub counted : IsPlus before one_fault after

  abbrev pub TakesOrCloses : ℕ → Duration → T → Clients I O T → Clients I O T → Counts → Counts → Type 0
  TakesOrCloses most now state old new before after =
      ((key : ℕ) × IsTaken most now state old new key × (after ≡ before)) ⊎ IsTurnedAway old new before after

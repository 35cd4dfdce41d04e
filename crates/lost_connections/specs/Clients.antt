-- The connections of one worker, and what a burst of one of them does. (Own.)
use Rattle.std.specs.Prelude.{◌≡◌, ◌≢◌, ◌<◌, ◌≤◌, ℕ, Bool, Option, None, Some, Result, Ok, Err}
use Rattle.std.specs.declared.time.Duration.{Duration}
use Rattle.slab.specs.Slab.{Slab, get}
use Rattle.lost_spec.specs.Text.{Text}
use Rattle.lost_worker.specs.Lines.{Worker}
use Rattle.lost_connections.specs.declared.burst.Burst.{Burst}
use Rattle.lost_connections.specs.declared.burst.Progress.{Progress}
use Rattle.lost_connections.specs.declared.faults.ClientFault.{ClientFault}
use Rattle.lost_connections.specs.declared.clients.Clients.{Clients}
use Rattle.lost_connections.specs.declared.clients.Connected.{Connected}
use Rattle.lost_connections.specs.declared.deadlines.Passed.{Passed}
use Rattle.lost_connections.specs.declared.limits.TimeLimits.{TimeLimits}
use Rattle.lost_connections.specs.Client.{connection_of}
use Rattle.lost_connections.specs.Deadlines.{passed_of, times_after}
use Rattle.lost_connections.specs.Bursts.{Connection}
use Rattle.lost_connections.specs.Steady.{Serves, Broken, TellsFaults, SendsRest, SendsRestAs}

-- the connections of a worker, by their keys
abbrev pub slab_of : {I O T : Type 0} → Clients I O T → Slab (Connected I O T)
slab_of c = c.connected

-- the connection under a key
abbrev pub connected_at : {I O T : Type 0} → Clients I O T → ℕ → Option (Connected I O T)
connected_at c key = get c.connected key

-- all connections but that under one key are as they were
abbrev pub KeepsOthers : {I O T : Type 0} → Clients I O T → Clients I O T → ℕ → Type 0
KeepsOthers old new key = (other : ℕ) → other ≢ key → connected_at new other ≡ connected_at old other

-- all connections are as they were
abbrev pub KeepsAll : {I O T : Type 0} → Clients I O T → Clients I O T → Type 0
KeepsAll old new = (key : ℕ) → connected_at new key ≡ connected_at old key

-- a connection came under a key that had none
pub record TakesUnder {I O T : Type 0} (old new : Clients I O T) (key : ℕ) (connected : Connected I O T) : Type 0 where
  pub free : connected_at old key ≡ None
  pub taken : connected_at new key ≡ Some connected
  pub others : KeepsOthers old new key

-- the connection under a key, if there is one, is given away
pub record GivesUp {I O T : Type 0} (old new : Clients I O T) (key : ℕ) (out : Option (Connected I O T)) : Type 0 where
  pub given : out ≡ connected_at old key
  pub gone : connected_at new key ≡ None
  pub others : KeepsOthers old new key

-- the state stays, and after a burst the times are those by what it showed; after a fault they stay too
abbrev pub KeepsTimes : {I O T : Type 0} → Duration → Connected I O T → Connected I O T → Result Burst ClientFault → Type 0
KeepsTimes now a b (Ok burst) = (b.times ≡ times_after a.times burst.shown now) × (b.state ≡ a.state)
KeepsTimes now a b (Err fault) = (b.times ≡ a.times) × (b.state ≡ a.state)

-- the progress of a burst
abbrev pub progress_of : Result Burst ClientFault → Result Progress ClientFault
progress_of (Ok burst) = Ok burst.progress
progress_of (Err fault) = Err fault

-- what is said of a burst by its result
abbrev pub Bursts : (ℕ → Bool → Type 0) → Text → Worker → Worker → Connection → Connection → Result Burst ClientFault → Type 0
Bursts says name old new a b (Ok burst) = Serves says name old new a b burst
Bursts says name old new a b (Err fault) = Broken says name old new a b fault

-- a connection was served a burst, its times go by what that showed, and its progress is the result
pub record IsServed {I O T : Type 0} (remaining : I → Option Text) (contents : O → Option Text) (says : ℕ → Bool → Type 0) (name : Text) (old new : Worker) (now : Duration) (a b : Connected I O T) (result : Result Progress ClientFault) : Type 0 where
  pub burst : Result Burst ClientFault
  pub bursts : Bursts says name old new (connection_of remaining contents a.client) (connection_of remaining contents b.client) burst
  pub faults : TellsFaults (connection_of remaining contents a.client) (connection_of remaining contents b.client) result
  pub times : KeepsTimes now a b burst
  pub progress : result ≡ progress_of burst

-- the connection at a key, where one is, was served a burst; where none is nothing happened
abbrev pub IsServedAt : {I O T : Type 0} → (I → Option Text) → (O → Option Text) → (ℕ → Bool → Type 0) → Text → Worker → Worker → Duration → Option (Connected I O T) → Option (Connected I O T) → Option (Result Progress ClientFault) → Type 0
IsServedAt remaining contents says name old new now None after result = (result ≡ None) × (after ≡ None) × (new ≡ old)
IsServedAt remaining contents says name old new now (Some a) None result = ⊥
IsServedAt remaining contents says name old new now (Some a) (Some b) None = ⊥
IsServedAt remaining contents says name old new now (Some a) (Some b) (Some result) = IsServed remaining contents says name old new now a b result

-- the rest of a connection's replies was sent, or a front of it
abbrev pub Rests : Connection → Connection → Result Burst ClientFault → Type 0
Rests a b (Ok burst) = SendsRestAs a b burst
Rests a b (Err fault) = SendsRest a b

pub record IsSent {I O T : Type 0} (remaining : I → Option Text) (contents : O → Option Text) (now : Duration) (a b : Connected I O T) (result : Result Progress ClientFault) : Type 0 where
  pub burst : Result Burst ClientFault
  pub rests : Rests (connection_of remaining contents a.client) (connection_of remaining contents b.client) burst
  pub faults : TellsFaults (connection_of remaining contents a.client) (connection_of remaining contents b.client) result
  pub times : KeepsTimes now a b burst
  pub progress : result ≡ progress_of burst

abbrev pub IsSentAt : {I O T : Type 0} → (I → Option Text) → (O → Option Text) → Duration → Option (Connected I O T) → Option (Connected I O T) → Option (Result Progress ClientFault) → Type 0
IsSentAt remaining contents now None after result = (result ≡ None) × (after ≡ None)
IsSentAt remaining contents now (Some a) None result = ⊥
IsSentAt remaining contents now (Some a) (Some b) None = ⊥
IsSentAt remaining contents now (Some a) (Some b) (Some result) = IsSent remaining contents now a b result

-- the limit that a connection has passed at a moment, where there is one
abbrev pub passed_by : {I O T : Type 0} → TimeLimits → Duration → Option (Connected I O T) → Option Passed
passed_by limits now None = None
passed_by limits now (Some connected) = passed_of connected.times limits now

-- the limit that the connection under a key has passed at a moment
abbrev pub late_at : {I O T : Type 0} → Clients I O T → TimeLimits → Duration → ℕ → Option Passed
late_at c limits now key = passed_by limits now (connected_at c key)

-- the first connection from a key on that is late, and by which limit
abbrev pub IsFirstLate : {I O T : Type 0} → Clients I O T → ℕ → TimeLimits → Duration → Option (ℕ × Passed) → Type 0
IsFirstLate c from limits now None = (key : ℕ) → from ≤ key → late_at c limits now key ≡ None
IsFirstLate c from limits now (Some late) =
    (from ≤ late.0) × (late_at c limits now late.0 ≡ Some late.1) × ((key : ℕ) → from ≤ key → key < late.0 → late_at c limits now key ≡ None)

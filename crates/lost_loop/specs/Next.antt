-- What a worker decides, from values alone. (Own.)
use Rattle.std.specs.Prelude.{◌-◌, Bool, true, false, if◌then◌else◌, None, Some, Result, Ok, Err}
use Rattle.std.specs.Bool.{nat_le}
use Rattle.std.specs.Duration.{as_nanos}
use Rattle.std.specs.declared.time.Duration.{Duration}
use Rattle.lost_connections.specs.declared.burst.Progress.{Progress}
use Rattle.lost_connections.specs.declared.burst.Progress.TheVariants.{Waits as Waiting, More, Over}
use Rattle.lost_connections.specs.declared.faults.ClientFault.{ClientFault}
use Rattle.lost_connections.specs.declared.faults.ClientFault.TheVariants.{Read, Write, Memory, Spent}
use Rattle.lost_loop.specs.declared.deciding.Next.{Next}
use Rattle.lost_loop.specs.declared.deciding.Next.TheVariants.{Waits, Goes, Rests, Ends}
use Rattle.lost_loop.specs.declared.deciding.Patience.{Patience}
use Rattle.lost_loop.specs.declared.deciding.Patience.TheVariants.{Nothing, UntilSweep, UntilEvent}

-- what becomes of a connection after a burst: it ends only if it is over or ended in a fault; one without a line left has its replies sent first, and then that is its fault
abbrev pub next_of : Result Progress ClientFault → Bool → Next
next_of (Ok Waiting) is_spent = Waits
next_of (Ok More) is_spent = Goes
next_of (Ok Over) true = Ends (Some Spent)
next_of (Ok Over) false = Ends None
next_of (Err Read) is_spent = Ends (Some Read)
next_of (Err Write) is_spent = Ends (Some Write)
next_of (Err Memory) is_spent = Ends (Some Memory)
next_of (Err Spent) is_spent = Rests

-- for how long a worker waits for events: not at all where a connection is queued, for ever where none could pass a limit
abbrev pub patience_of : Bool → Bool → Patience
patience_of has_queued may_pass = if has_queued then Nothing else if may_pass then UntilSweep else UntilEvent

-- limits are checked where 250 milliseconds or more have passed since the last time
abbrev pub is_due : Duration → Duration → Bool
is_due swept now = nat_le 250_000_000 (as_nanos now - as_nanos swept)

-- What is counted of a query connection. (Own.)
use Rattle.std.specs.Prelude.{◌≡◌, ◌⊎◌, Bool, true, false, Option, Some, None}
use Rattle.lost_status.specs.declared.connection_event.ConnectionEvent.{ConnectionEvent}
use Rattle.lost_status.specs.declared.connection_event.ConnectionEvent.TheVariants.{Accepted, TurnedAway, Taken, Ended, Failed}
use Rattle.lost_status.specs.declared.connection_event.ConnectionFigures.{ConnectionFigures}
use Rattle.lost_status.specs.Figures.{connections_counted}

-- a connection that no worker takes: it no longer waits, and ends in a fault
abbrev pub lost_counted : ConnectionFigures → ConnectionFigures
lost_counted f = connections_counted (connections_counted f Taken) Failed

-- A connection that came was let in or turned away; if all is not well, it was let in and no worker took it.
abbrev pub IsLetIn : (old : ConnectionFigures) (is_well : Bool) (new : ConnectionFigures) → Type 0
IsLetIn old true new = (new ≡ connections_counted old Accepted) ⊎ (new ≡ connections_counted old TurnedAway)
IsLetIn old false new = new ≡ lost_counted (connections_counted old Accepted)

-- how a connection ended: in a fault if there is a cause
abbrev pub end_of : {Cause : Type 0} → Option Cause → ConnectionEvent
end_of None = Ended
end_of (Some cause) = Failed

-- the end of a connection, if there is one
abbrev pub end_counted : {Connection Cause : Type 0} → ConnectionFigures → Option Connection → Option Cause → ConnectionFigures
end_counted f None cause = f
end_counted f (Some connection) cause = connections_counted f (end_of cause)

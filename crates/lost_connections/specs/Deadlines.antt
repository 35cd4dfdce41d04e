-- Which limit of time a connection has passed. (Own.)
use Rattle.std.specs.Prelude.{◌-◌, Bool, true, false, Option, None, Some, if◌then◌else◌, ◌||◌, ◌&&◌, not, is_some}
use Rattle.std.specs.Bool.{nat_le}
use Rattle.std.specs.Duration.{as_nanos}
use Rattle.std.specs.declared.time.Duration.{Duration}
use Rattle.lost_connections.specs.declared.limits.TimeLimits.{TimeLimits}
use Rattle.lost_connections.specs.declared.deadlines.Times.{Times}
use Rattle.lost_connections.specs.declared.deadlines.Shown.{Shown}
use Rattle.lost_connections.specs.declared.deadlines.Passed.{Passed}
use Rattle.lost_connections.specs.declared.deadlines.Passed.TheVariants.{Reply, Line, Idle}

-- so much time or more has passed since a moment; never where either is not there
abbrev pub is_past : Option Duration → Option Duration → Duration → Bool
is_past (Some since) (Some limit) now = nat_le (as_nanos limit) (as_nanos now - as_nanos since)
is_past (Some since) None now = false
is_past None limit now = false

-- the limit that a connection has passed: that of the replies that wait comes first, and that of a line only counts while it is read
abbrev pub passed_of : Times → TimeLimits → Duration → Option Passed
passed_of t limits now =
    if is_past t.unsent limits.reply now then Some Reply
    else if not t.is_held && is_past t.begun limits.line now then Some Line
    else if not (is_some t.unsent) && is_past (Some t.quiet) limits.idle now then Some Idle
    else None

-- a connection that begins at a moment
abbrev pub times_at : Duration → Times
times_at now = record { quiet = now; begun = None; unsent = None; is_held = false }

-- since when something is so
abbrev pub since_when : Bool → Bool → Option Duration → Duration → Option Duration
since_when false begins before now = None
since_when true true before now = Some now
since_when true false None now = Some now
since_when true false (Some before) now = Some before

-- a connection after what a burst showed of it at a moment
abbrev pub times_after : Times → Shown → Duration → Times
times_after t shown now = record {
  quiet = if shown.has_moved then now else t.quiet;
  begun = since_when shown.has_begun (shown.has_ended_line || t.is_held) t.begun now;
  unsent = since_when shown.has_unsent shown.has_taken t.unsent now;
  is_held = shown.is_held;
}

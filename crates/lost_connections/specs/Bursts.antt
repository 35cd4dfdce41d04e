-- A connection, and what a burst shows of it. (Own.)
use Rattle.std.specs.Prelude.{ℕ, Bool, ◌&&◌, ◌||◌, not, if◌then◌else◌, List, length, nat_lt, nat_le, ◌==◌, Option}
use Rattle.lost_spec.specs.Text.{Text}
use Rattle.lost_connections.specs.declared.burst.Burst.{Burst}
use Rattle.lost_connections.specs.declared.burst.Progress.{Progress}
use Rattle.lost_connections.specs.declared.burst.Progress.TheVariants.{More, Waits, Over}
use Rattle.lost_connections.specs.declared.deadlines.Shown.{Shown}
use Rattle.lost_connections.specs.Replies.{Replied, most_unsent}

-- a connection: what is kept of the line that was begun, its replies, what is known to be left to read and to be written, whether its input has ended, and whether a read or a write has failed
pub record Connection : Type 0 where
  pub kept : Text
  pub replied : Replied
  pub unread : Option Text
  pub written : Option Text
  pub ended : Bool
  pub read_failed : Bool
  pub write_failed : Bool

-- so many replies wait that nothing is read
abbrev pub is_held : Connection → Bool
is_held c = nat_le most_unsent (length c.replied.unsent)

-- all replies were taken
abbrev pub is_answered : Connection → Bool
is_answered c = length c.replied.unsent == 0

-- what a burst showed of a connection, after it, by how many bytes came, how many were taken and how many lines were answered
abbrev pub shown_by : ℕ → ℕ → ℕ → Connection → Shown
shown_by came taken lines b = record {
  has_moved = nat_lt 0 came || nat_lt 0 taken;
  has_taken = nat_lt 0 taken;
  has_ended_line = nat_lt 0 lines;
  has_begun = not (length b.kept == 0);
  has_unsent = not (is_answered b);
  is_held = is_held b;
}

-- there may be more to read: bytes came, or it was not read since too many replies waited, and no longer do
abbrev pub may_have_more : Connection → Connection → ℕ → Bool
may_have_more a b came = (nat_lt 0 came || (not a.ended && is_held a)) && not (is_held b)

-- it is over once its input has ended and all replies are taken
abbrev pub progress_by : Connection → Connection → ℕ → Progress
progress_by a b came =
    if b.ended && is_answered b then Over
    else if may_have_more a b came then More
    else Waits

-- what a burst came to
abbrev pub burst_of : Connection → Connection → Text → Text → List Text → Burst
burst_of a b came taken lines = record {
  progress = progress_by a b (length came);
  shown = shown_by (length came) (length taken) (length lines) b;
}

-- a connection that is not read any more is over once all replies are taken
abbrev pub rest_progress : Connection → Progress
rest_progress b = if is_answered b then Over else Waits

-- what sending the rest came to
abbrev pub rest_of : Connection → Text → Burst
rest_of b taken = record {
  progress = rest_progress b;
  shown = shown_by 0 (length taken) 0 b;
}

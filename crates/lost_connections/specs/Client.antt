-- What a clause reads of a `Client`.
use Rattle.std.specs.Prelude.{◌≡◌, ◌≤◌, ◌<◌, ℕ, Bool, false, true, ◌&&◌, not, if◌then◌else◌, [], length, take, Option}
use Rattle.std.specs.Io.KnownBytes.{IsAtEnd}
use Rattle.lost_spec.specs.Text.{Text}
use Rattle.lost_connections.specs.declared.burst.Progress.{Progress}
use Rattle.lost_connections.specs.declared.burst.Progress.TheVariants.{More, Waits, Over}
use Rattle.lost_connections.specs.declared.client.Client.{Client}
use Rattle.lost_connections.specs.declared.client.Came.{Came}
use Rattle.lost_connections.specs.declared.client.Came.TheVariants.{Nothing, Held, Bytes, End}
use Rattle.lost_connections.specs.Noted.{inner_of, has_failed}
use Rattle.lost_connections.specs.Parts.{replied_of}
use Rattle.lost_connections.specs.Replies.{no_counts}
use Rattle.lost_connections.specs.Bursts.{Connection, is_held, is_answered}

-- the connection of a client, by what is known of its input and its output
abbrev pub connection_of : {I O : Type 0} → (I → Option Text) → (O → Option Text) → Client I O → Connection
connection_of remaining contents c = record {
  kept = c.begun.items;
  replied = replied_of c.replies;
  unread = remaining (inner_of c.input);
  written = contents (inner_of c.output);
  ended = c.has_ended;
  read_failed = has_failed c.input;
  write_failed = has_failed c.output;
}

-- a connection that begins: no line is begun, nothing waits, nothing is counted, its input has not ended and nothing failed
abbrev pub fresh : Option Text → Option Text → ℕ → Connection
fresh unread written most = record {
  kept = [];
  replied = record { unsent = []; counts = no_counts; most = most };
  unread = unread;
  written = written;
  ended = false;
  read_failed = false;
  write_failed = false;
}

-- the bytes that a read gave
abbrev pub came_bytes : Came → Text → Text
came_bytes Nothing chunk = []
came_bytes Held chunk = []
came_bytes (Bytes count) chunk = take count chunk
came_bytes End chunk = []

-- how many bytes a read gave
abbrev pub came_count : Came → ℕ
came_count Nothing = 0
came_count Held = 0
came_count (Bytes count) = count
came_count End = 0

-- what a read came to: bytes, at least one and no more than there was room for, or the end, of an input that has not ended and is read; the end only where nothing is left
abbrev pub IsBrought : Came → Bool → Bool → Option Text → Text → Type 0
IsBrought Nothing ended held unread chunk = (not ended && held) ≡ false
IsBrought Held ended held unread chunk = (ended ≡ false) × (held ≡ true)
IsBrought (Bytes count) ended held unread chunk = (ended ≡ false) × (0 < count) × (count ≤ length chunk) × (held ≡ false)
IsBrought End ended held unread chunk = (ended ≡ false) × IsAtEnd unread × (held ≡ false)

-- a read brought bytes, or was not made since too many replies wait
abbrev pub may_bring_more : Came → Bool
may_bring_more Nothing = false
may_bring_more Held = true
may_bring_more (Bytes count) = true
may_bring_more End = false

-- the state of a connection after a read that came to this
abbrev pub progress_after : Came → Connection → Progress
progress_after came b =
    if b.ended && is_answered b then Over
    else if may_bring_more came && not (is_held b) then More
    else Waits

-- all but the input is as it was
pub record KeepsRest {I O : Type 0} (old new : Client I O) : Type 0 where
  pub output : new.output ≡ old.output
  pub begun : new.begun.items ≡ old.begun.items
  pub replies : new.replies ≡ old.replies
  pub ended : new.has_ended ≡ old.has_ended

-- What a server's threads count, and what the counts are after an event. (Own.)
use Rattle.std.specs.Prelude.{◌≡◌, ℕ, ◌+◌, ◌-◌, ◌%◌, ◌^◌, ◌<◌, nat_le, ◌&&◌, true, false, List, replicate, slice_index, slice_set, if◌then◌else◌}
use Rattle.lost_status.specs.declared.connection_event.ConnectionEvent.{ConnectionEvent}
use Rattle.lost_status.specs.declared.connection_event.ConnectionEvent.TheVariants.{Accepted, TurnedAway, Taken, Ended, Failed, Busy, Idle}
use Rattle.lost_status.specs.declared.connection_event.ConnectionFigures.{ConnectionFigures}
use Rattle.lost_status.specs.declared.reply_counter.ReplyEvent.{ReplyEvent}
use Rattle.lost_status.specs.declared.reply_counter.ReplyEvent.TheVariants.{Given, Hits}
use Rattle.lost_status.specs.declared.reply_counter.ReplyFigures.{ReplyFigures}
use Rattle.lost_status.specs.declared.desk_event.DeskEvent.{DeskEvent}
use Rattle.lost_status.specs.declared.desk_event.DeskEvent.TheVariants.{Refused, Committed, Holds, Connected, Left, JournalFailed}
use Rattle.lost_status.specs.declared.desk_event.DeskFigures.{DeskFigures}
use Rattle.lost_status.specs.ReplyKind.{kind_place}

-- both counts together: one that reaches 2^64 begins at 0 again
abbrev pub plus : (count more : ℕ) → ℕ
plus count more = (count + more) % 2 ^ 64

-- one more
abbrev pub next : ℕ → ℕ
next count = plus count 1

-- one more at a place of a list of counts
abbrev pub counted_at : (counts : List ℕ) (place : ℕ) → List ℕ
counted_at counts place = slice_set counts place (next (slice_index counts place))

-- before the first event
abbrev pub no_connections : ConnectionFigures
no_connections = record { accepted = 0; turned_away = 0; taken = 0; ended = 0; faults = 0; busy = 0 }

-- An event of a connection adds one to one count, and a fault also to those that ended.
abbrev pub connections_counted : ConnectionFigures → ConnectionEvent → ConnectionFigures
connections_counted f Accepted = record f { accepted = next f.accepted }
connections_counted f TurnedAway = record f { turned_away = next f.turned_away }
connections_counted f Taken = record f { taken = next f.taken }
connections_counted f Ended = record f { ended = next f.ended }
connections_counted f Failed = record f { ended = next f.ended; faults = next f.faults }
connections_counted f Busy = record f { busy = 1 }
connections_counted f Idle = record f { busy = 0 }

-- what two threads have counted
abbrev pub connections_plus : (f more : ConnectionFigures) → ConnectionFigures
connections_plus f more = record {
  accepted = plus f.accepted more.accepted;
  turned_away = plus f.turned_away more.turned_away;
  taken = plus f.taken more.taken;
  ended = plus f.ended more.ended;
  faults = plus f.faults more.faults;
  busy = plus f.busy more.busy;
}

abbrev pub no_replies : ReplyFigures
no_replies = record { replies = replicate 13 0; cache_hits = 0 }

-- A reply adds one to the count of its kind alone.
abbrev pub replies_counted : ReplyFigures → ReplyEvent → ReplyFigures
replies_counted f (Given kind) = record f { replies = counted_at f.replies (kind_place kind) }
replies_counted f (Hits hits) = record f { cache_hits = hits }

-- what two workers have counted
pub record IsRepliesPlus (f more sum : ReplyFigures) : Type 0 where
  pub replies : (place : ℕ) → place < 13 → slice_index sum.replies place ≡ plus (slice_index f.replies place) (slice_index more.replies place)
  pub cache_hits : sum.cache_hits ≡ plus f.cache_hits more.cache_hits

abbrev pub no_desk : DeskFigures
no_desk = record { edition = 0; mappings = 0; pending = 0; digest = 0; last_commit = 0; is_open = false; journal_failed = false; refusals = replicate 23 0 }

-- A refused line adds one to the count of its code alone, which is one from 1 to 23.
abbrev pub refusal_counted : (counts : List ℕ) (code : ℕ) → List ℕ
refusal_counted counts code = if nat_le 1 code && nat_le code 23 then counted_at counts (code - 1) else counts

-- Any other event at the desk sets what it says.
abbrev pub desk_counted : DeskFigures → DeskEvent → DeskFigures
desk_counted f (Refused code) = record f { refusals = refusal_counted f.refusals code }
desk_counted f (Committed second) = record f { last_commit = second }
desk_counted f (Holds edition mappings pending digest) = record f { edition = edition; mappings = mappings; pending = pending; digest = digest }
desk_counted f Connected = record f { is_open = true }
desk_counted f Left = record f { is_open = false }
desk_counted f JournalFailed = record f { journal_failed = true }

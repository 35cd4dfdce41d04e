-- What is counted of a desk's lines. (Own.)
use Rattle.std.specs.Prelude.{◌≡◌, ℕ, ◌-◌, length, Option, Some, None}
use Rattle.lost_digest.specs.Digest.{map_digest}
use Rattle.lost_desk.specs.Seen.{DeskSeen, published_book, staged_book}
use Rattle.lost_writing.specs.declared.desk_reply.DeskReply.{DeskReply}
use Rattle.lost_writing.specs.declared.desk_reply.DeskReply.TheVariants as reply
use Rattle.lost_status.specs.declared.desk_event.DeskEvent.{DeskEvent}
use Rattle.lost_status.specs.declared.desk_event.DeskEvent.TheVariants.{Refused, Committed, Holds}
use Rattle.lost_status.specs.declared.desk_event.DeskFigures.{DeskFigures}
use Rattle.lost_status.specs.Figures.{desk_counted}

-- A refused line is counted once, under its own code, and a commit by its second, if the clock can be read.
abbrev pub reply_counted : DeskFigures → DeskReply → (second : Option ℕ) → DeskFigures
reply_counted f (reply.Staged pending) second = f
reply_counted f (reply.Committed edition) None = f
reply_counted f (reply.Committed edition) (Some second) = desk_counted f (Committed second)
reply_counted f (reply.Refused code) second = desk_counted f (Refused code)

-- what a desk holds: the edits published, the mappings that they leave, the edits pending, and the mappings' digest
abbrev pub held_by : DeskSeen → DeskEvent
held_by d =
    Holds (length d.published) (length (published_book d).mappings) ((staged_book d).edits - length d.published) (map_digest (published_book d).mappings)

-- a line's reply is counted, and then what the desk holds
pub record CountsWith (old : DeskFigures) (answer : DeskReply) (held : DeskEvent) (new : DeskFigures) : Type 0 where
  pub second : Option ℕ
  pub counted : new ≡ desk_counted (reply_counted old answer second) held

-- the same, whatever the desk holds
pub record CountsReply (old : DeskFigures) (answer : DeskReply) (new : DeskFigures) : Type 0 where
  pub edition : ℕ
  pub mappings : ℕ
  pub pending : ℕ
  pub digest : ℕ
  pub counts : CountsWith old answer (Holds edition mappings pending digest) new

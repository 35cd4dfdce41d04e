-- What answers the lines of a desk's connection. (Own.)
use Rattle.std.specs.Prelude.{◌≡◌, ◌≢◌, ℕ, Bool, true, false, ◌++◌, Option, Some, None, Result, Ok, Err}
use Rattle.lost_spec.specs.Text.{Text}
use Rattle.lost_spec.specs.Book.{Limits}
use Rattle.lost_desk.specs.Seen.{DeskSeen}
use Rattle.lost_reading.specs.declared.desk.DeskFault.{DeskFault}
use Rattle.lost_reading.specs.declared.desk.DeskLine.{DeskLine}
use Rattle.lost_reading.specs.Desk.{Order, desk_fault_code}
use Rattle.lost_reading.specs.DeskLines.{order_of}
use Rattle.lost_writing.specs.declared.desk_reply.DeskReply.{DeskReply}
use Rattle.lost_writing.specs.DeskReplies.{IsInTable, desk_text}
use Rattle.lost_lines.specs.Run.{Cut, Reply}
use Rattle.lost_json.specs.Stream.{Terms, Lists, ShortOfMemory, refused_text}
use Rattle.lost_json.specs.Step.{Step, IsAnswered}
use Rattle.lost_worker.specs.declared.desking.Desking.{Desking}

-- a desk's connection: want of memory is code 20, and a line that is over the limit or no desk line is code 1
abbrev pub desk_terms : Limits → Terms
desk_terms limits = record { limits = limits; short = refused_text 20; counts_short = false; long = refused_text 1; other = λ b text. refused_text 1 }

-- a reply of a desk, as a line
abbrev pub said : DeskReply → Reply
said reply = record { text = desk_text reply; is_internal_error = false }

-- the lists of a desk
abbrev pub lists_of : DeskSeen → Lists
lists_of d = record { accepted = d.published ++ d.pending; published = d.published }

-- the desk is the same, whatever its lists are
pub record IsSameDesk (old new : DeskSeen) : Type 0 where
  pub opening : new.opening ≡ old.opening
  pub limits : new.limits ≡ old.limits

-- a line that was read is answered by its order: it is not short of memory, so code 20 comes only at a commit, or at an edit that is not refused otherwise
pub record IsJudged (terms : Terms) (old : Lists) (text : Text) (order : Option (Result Order DeskFault)) (reply : Reply) (new : Lists) : Type 0 where
  pub step : IsAnswered terms old text order reply new
  pub was_read : step.mark ≢ ShortOfMemory

-- a line is answered by what was read of it: a fault, want of memory too, by its code, and the lists stay
abbrev pub AnswersRead : Result (Option DeskLine) DeskFault → Terms → Lists → Text → Reply → Lists → Type 0
AnswersRead (Ok None) terms old text reply new = IsJudged terms old text None reply new
AnswersRead (Ok (Some line)) terms old text reply new = IsJudged terms old text (Some (Ok (order_of line))) reply new
AnswersRead (Err fault) terms old text reply new = (reply ≡ record { text = refused_text (desk_fault_code fault); is_internal_error = false }) × (new ≡ old)

-- the gate that lets each line through
abbrev pub always_lets : ℕ → Bool → Type 0
always_lets line answer = answer ≡ true

-- what a desk's connection has come to: the lists of the desk, and what watches them
pub record Observed (V : Type 0) : Type 0 where
  pub lists : Lists
  pub witness : V

-- the step of a line: the lists go by theirs, and the witness by its own, for the reply that was given
pub record Watches {V : Type 0} (step : V → DeskReply → V → Type 0) (terms : Terms) (old : Observed V) (cut : Cut) (reply : Reply) (new : Observed V) : Type 0 where
  pub goes : Step terms old.lists cut reply new.lists
  pub given : DeskReply
  pub is_said : reply ≡ said given
  pub in_table : IsInTable given
  pub saw : step old.witness given new.witness

-- what the connection of a desk with a witness has come to
abbrev pub observed : {T V : Type 0} → Desking T V → Observed V
observed d = record { lists = lists_of d.desk.now; witness = d.witness.now }

-- the step of what answers lines: what it refers to stays, and its lists and its witness go by their step
pub record Desks {T V : Type 0} (step : V → DeskReply → V → Type 0) (old : Desking T V) (cut : Cut) (reply : Reply) (new : Desking T V) : Type 0 where
  pub desk_stays : new.desk.ghost_name ≡ old.desk.ghost_name
  pub witness_stays : new.witness.ghost_name ≡ old.witness.ghost_name
  pub same : IsSameDesk old.desk.now new.desk.now
  pub watches : Watches step (desk_terms old.desk.now.limits) (observed old) cut reply (observed new)

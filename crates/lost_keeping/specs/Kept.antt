-- What a journal says of a desk. (Own.)
use Rattle.std.specs.Prelude.{◌≡◌, Bool, false, List, [], ◌∷◌, ◌++◌, Some, Ok}
use Rattle.lost_spec.specs.Text.{Text}
use Rattle.lost_spec.specs.Book.{Limits, Edit}
use Rattle.lost_spec.specs.Laws.{BeginsWith}
use Rattle.lost_lines.specs.Cutting.{ended_lines, last_piece}
use Rattle.lost_reading.specs.Desk.{Commit, desk_line}
use Rattle.lost_json.specs.Stream.{Terms, Lists}
use Rattle.lost_json.specs.Step.{lists_after}
use Rattle.lost_desk.specs.Seen.{DeskSeen}
use Rattle.lost_worker.specs.Desking.{desk_terms}
use Rattle.lost_journal.specs.Format.{opened, closed, with_gate}

-- the lists after lines of a desk, each answered from the lists before it
abbrev pub lists_through : Terms → Lists → List Text → Lists
lists_through terms l [] = l
lists_through terms l (line ∷ lines) = lists_through terms (lists_after terms l (desk_line line)) lines

-- these edits, all of them published
abbrev pub all_published : List Edit → Lists
all_published edits = record { accepted = edits; published = edits }

-- what the whole lines of a text make, from nothing on
abbrev pub lists_of_text : Limits → Text → Lists
lists_of_text limits text = lists_through (desk_terms limits) (all_published []) (ended_lines text)

-- what a journal makes that keeps this body
abbrev pub lists_kept : Limits → Text → Lists
lists_kept limits body = lists_of_text limits (with_gate body closed)

-- a commit's line up to its gate orders a commit, whether the gate is open or closed
pub record OrdersCommit (line : Text) : Type 0 where
  pub with_open : desk_line (line ++ opened ∷ []) ≡ Some (Ok Commit)
  pub with_closed : desk_line (line ++ closed ∷ []) ≡ Some (Ok Commit)

-- a body is kept of a desk, and these edits' lines wait behind it: all that is kept was committed, and begins with what is published; with what waits it is all that the desk has; and unless a commit is
-- owed, just what is published is kept
pub record IsKeptFor (body waiting : Text) (owes : Bool) (d : DeskSeen) : Type 0 where
  pub edits : List Edit
  pub kept : lists_kept d.limits body ≡ all_published edits
  pub all : lists_through (desk_terms d.limits) (all_published edits) (ended_lines waiting) ≡ record { accepted = d.published ++ d.pending; published = edits }
  pub begins : BeginsWith edits d.published
  pub even : owes ≡ false → edits ≡ d.published
  pub commits : OrdersCommit (last_piece body)

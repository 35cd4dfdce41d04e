-- What a call of a desk or of a reader gives: the clauses of its contract, and no more. (Own.)
use Rattle.std.specs.Prelude.{◌≡◌, ℕ, ◌+◌, true, IsTrue, length, Some, None}
use Rattle.lost_spec.specs.declared.faults.EditError.{EditError}
use Rattle.lost_spec.specs.Text.{Text}
use Rattle.lost_spec.specs.Moment.{Instant}
use Rattle.lost_spec.specs.Book.{Edit, refusal, is_accepted}
use Rattle.lost_spec.specs.Laws.{BeginsWith}
use Rattle.lost_history.specs.History.{Beginning, beginning, longer}
use Rattle.lost_json.specs.Line.{line_reply}
use Rattle.lost_desk.specs.Seen.{DeskSeen, ReaderSeen, TellsBeginning, staged_book, seen_book, with_staged, with_committed, with_none_pending, with_seen}

-- `Desk::stage` takes an edit, and gives how many are pending
pub record StagesEdit (old new : DeskSeen) (edit : Edit) (count : ℕ) : Type 0 where
  pub accepted : refusal (staged_book old) edit ≡ None
  pub staged : new ≡ with_staged old edit
  pub pending : count ≡ length new.pending

-- `Desk::stage` refuses an edit
pub record LeavesEdit (old new : DeskSeen) (edit : Edit) (error : EditError) : Type 0 where
  pub refused : refusal (staged_book old) edit ≡ Some error
  pub unchanged : new ≡ old

-- `Desk::commit` gives the edition
pub record PublishesPending (old new : DeskSeen) (count : ℕ) : Type 0 where
  pub committed : new ≡ with_committed old
  pub edition : count ≡ length new.published

-- `Desk::drop_pending` drops what is pending
abbrev pub DropsPending : DeskSeen → DeskSeen → Type 0
DropsPending old new = new ≡ with_none_pending old

-- any of these three is refused memory
abbrev pub LeavesDesk : DeskSeen → DeskSeen → Type 0
LeavesDesk old new = new ≡ old

-- `Desk::tell` tells a list
pub record TellsPublished (old new : DeskSeen) (told : Beginning) : Type 0 where
  pub published : told ≡ beginning old.opening old.published
  pub same : new ≡ old

-- `Reader::learn` learns what was told
pub record LearnsTold (old new : ReaderSeen) (told : Beginning) : Type 0 where
  pub longer_list : new ≡ with_seen old (longer old.seen told.list)
  pub begins : BeginsWith new.seen old.seen
  pub has_told : BeginsWith new.seen told.list

-- `Reader::reply_line` or `reply_line_over` returns, with a reply or without, and `Desk::has_seen` says that all that the reader has then seen is published
pub record SeesPublished (desk : DeskSeen) (old new : ReaderSeen) : Type 0 where
  pub begins : BeginsWith new.seen old.seen
  pub same : (new.opening ≡ old.opening) × (new.limits ≡ old.limits)
  pub published : TellsBeginning true desk.published new.seen

-- the same with a reply, by the server of this name
pub record AnswersLine (name : Text) (desk : DeskSeen) (old new : ReaderSeen) (t : Instant) (line given : Text) : Type 0 where
  pub sees : SeesPublished desk old new
  pub reply : given ≡ line_reply (seen_book new) name t line
  pub entered : new.entries ≡ old.entries + 1
  pub entered_list : new.seen ≡ new.entered
  pub one_list : IsTrue (is_accepted new.limits new.seen)

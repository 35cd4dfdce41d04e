-- The world of steps: one publisher and some workers over one list of edits, counted afresh at each step. Steps are
-- numbered from 1: before the first and past the last there is none. (Own.)
use Rattle.std.specs.Prelude.{ℕ, zero, suc, ◌-◌, Bool, true, false, ◌&&◌, if◌then◌else◌, List, [], ◌∷◌, ◌++◌, length, take, filter_map, Option, Some, None, is_none, max, nat_lt, nat_le, ◌==◌, slice_get}
use Rattle.std.specs.Option.{option_and_then}
use Rattle.lost_spec.specs.declared.faults.EditError.{EditError}
use Rattle.lost_spec.specs.Text.{Text}
use Rattle.lost_spec.specs.Moment.{Instant}
use Rattle.lost_spec.specs.Book.{Limits, Book, Edit, refusal, book_of}

-- ---- steps and events

-- a step: the publisher stages an edit or publishes what it staged; a worker enters what is published, is told of so
-- many edits, or answers a line at an instant
pub data Step : Type 0 where
  Stage : (edit : Edit) → Step
  Publish : Step
  Enter : (worker : ℕ) → Step
  Tell : (worker : ℕ) (told : ℕ) → Step
  Answer : (worker : ℕ) (t : Instant) (line : Text) → Step

-- what a step gives
pub data Event : Type 0 where
  Staged : (pending : ℕ) → Event
  Refused : (error : EditError) → Event
  Published : (edition : ℕ) → Event
  Entered : (edition : ℕ) → Event
  Told : (edition : ℕ) → Event
  Replied : (line : Text) → Event
  NoWorker : Event

-- what a line is answered with over a book at an instant
abbrev pub Replying : Type 0
Replying = Book → Instant → Text → Text

-- a world: the limits of its books, how many workers it has, what lines are answered with, and its steps
pub record World : Type 0 where
  pub limits : Limits
  pub workers : ℕ
  pub reply : Replying
  pub steps : List Step

-- ---- the step of a number

-- a step of a worker that does not exist counts for nothing
abbrev pub if_worker : ℕ → ℕ → Step → Option Step
if_worker workers worker step = if nat_lt worker workers then Some step else None

abbrev pub counted : ℕ → Step → Option Step
counted workers (Stage edit) = Some (Stage edit)
counted workers Publish = Some Publish
counted workers (Enter worker) = if_worker workers worker (Enter worker)
counted workers (Tell worker told) = if_worker workers worker (Tell worker told)
counted workers (Answer worker t line) = if_worker workers worker (Answer worker t line)

-- the step of this number, where there is one that counts
abbrev pub step_at : World → ℕ → Option Step
step_at world zero = None
step_at world (suc i) = option_and_then (counted world.workers) (slice_get world.steps i)

-- ---- the edits

abbrev pub staged_edit : Step → Option Edit
staged_edit (Stage edit) = Some edit
staged_edit Publish = None
staged_edit (Enter worker) = None
staged_edit (Tell worker told) = None
staged_edit (Answer worker t line) = None

-- an edit is kept behind others unless the book of those refuses it
abbrev pub keep : Limits → List Edit → Edit → List Edit
keep limits kept edit = if is_none (refusal (book_of limits kept) edit) then kept ++ edit ∷ [] else kept

-- those kept before, and then the edits, in order, that are not refused in the book of those kept before
abbrev pub kept_of : Limits → List Edit → List Edit → List Edit
kept_of limits kept [] = kept
kept_of limits kept (edit ∷ edits) = kept_of limits (keep limits kept edit) edits

-- the edits accepted up to a step: those that were staged and not refused
abbrev pub accepted : World → ℕ → List Edit
accepted world i = kept_of world.limits [] (filter_map staged_edit (take i world.steps))

abbrev pub is_publish : Option Step → Bool
is_publish None = false
is_publish (Some (Stage edit)) = false
is_publish (Some Publish) = true
is_publish (Some (Enter worker)) = false
is_publish (Some (Tell worker told)) = false
is_publish (Some (Answer worker t line)) = false

-- the number of the last publish up to a step, or 0
abbrev pub last_publish : World → ℕ → ℕ
last_publish world zero = zero
last_publish world (suc i) = if is_publish (step_at world (suc i)) then suc i else last_publish world i

-- the edits published up to a step: those accepted up to the last publish
abbrev pub published : World → ℕ → List Edit
published world i = accepted world (last_publish world i)

-- ---- what a worker has seen

-- how many edits a worker meets by a step, where so many are published: all of them as it enters; those that it is
-- told of, where so many are published; else none
abbrev pub met_by : ℕ → ℕ → Option Step → ℕ
met_by edition worker None = 0
met_by edition worker (Some (Stage edit)) = 0
met_by edition worker (Some Publish) = 0
met_by edition worker (Some (Enter other)) = if other == worker then edition else 0
met_by edition worker (Some (Tell other told)) = if other == worker && nat_le told edition then told else 0
met_by edition worker (Some (Answer other t line)) = 0

abbrev pub met : World → ℕ → ℕ → ℕ
met world worker i = met_by (length (published world i)) worker (step_at world i)

-- the most that a worker met by any step up to this one
abbrev pub most_met : World → ℕ → ℕ → ℕ
most_met world worker zero = 0
most_met world worker (suc i) = max (most_met world worker i) (met world worker (suc i))

-- the edits that a worker has seen after a step
abbrev pub seen : World → ℕ → ℕ → List Edit
seen world worker i = take (most_met world worker i) (accepted world i)

-- ---- the events

-- what staging an edit gives: its refusal, or how many edits are accepted and not published
abbrev pub staging : Option EditError → ℕ → Event
staging None pending = Staged pending
staging (Some error) pending = Refused error

-- what the step with this number plus one gives
abbrev pub event_by : World → ℕ → Option Step → Event
event_by world i None = NoWorker
event_by world i (Some (Stage edit)) =
    staging (refusal (book_of world.limits (accepted world i)) edit) (length (accepted world (suc i)) - length (published world (suc i)))
event_by world i (Some Publish) = Published (length (published world (suc i)))
event_by world i (Some (Enter worker)) = Entered (length (seen world worker (suc i)))
event_by world i (Some (Tell worker told)) = Told (length (seen world worker (suc i)))
event_by world i (Some (Answer worker t line)) = Replied (world.reply (book_of world.limits (seen world worker (suc i))) t line)

-- the event of a step
abbrev pub event : World → ℕ → Event
event world zero = NoWorker
event world (suc i) = event_by world i (step_at world (suc i))

-- the events of the steps up to one, in order
abbrev pub events_to : World → ℕ → List Event
events_to world zero = []
events_to world (suc i) = events_to world i ++ event world (suc i) ∷ []

-- the events of all steps, one for each
abbrev pub events : World → List Event
events world = events_to world (length world.steps)

-- What a run of the world keeps from step to step, and what a step makes of it.
use Rattle.std.specs.Prelude.{ℕ, ◌-◌, if◌then◌else◌, List, [], length, take, replicate, max, nat_lt, nat_le, slice_index, slice_set}
use Rattle.lost_spec.specs.Book.{Limits, Edit, refusal, book_of}
use Rattle.lost_core.specs.World.{Replying, Step, Stage, Publish, Enter, Tell, Answer, Event, Published, Entered, Told, Replied, NoWorker, keep, staging}

-- the limits, the edits accepted, how many of them are published, and how many each worker has met
pub record State : Type 0 where
  pub limits : Limits
  pub accepted : List Edit
  pub published : ℕ
  pub met : List ℕ

abbrev pub start : Limits → ℕ → State
start limits workers = record { limits = limits; accepted = []; published = 0; met = replicate workers 0 }

-- a worker has met so many edits at least
abbrev pub meet : List ℕ → ℕ → ℕ → List ℕ
meet met worker count = slice_set met worker (max (slice_index met worker) count)

-- how many edits a worker meets that is told of so many
abbrev pub told_of : State → ℕ → ℕ
told_of state told = if nat_le told state.published then told else 0

abbrev pub state_after : State → Step → State
state_after state (Stage edit) = record state { accepted = keep state.limits state.accepted edit }
state_after state Publish = record state { published = length state.accepted }
state_after state (Enter worker) = record state { met = meet state.met worker state.published }
state_after state (Tell worker told) = record state { met = meet state.met worker (told_of state told) }
state_after state (Answer worker t line) = state

-- the event where the worker exists
abbrev pub of_worker : State → ℕ → Event → Event
of_worker state worker event = if nat_lt worker (length state.met) then event else NoWorker

-- the edits that a worker has seen
abbrev pub seen_by : State → ℕ → List Edit
seen_by state worker = take (slice_index state.met worker) state.accepted

-- what a step gives, where a line is answered so
abbrev pub state_event : Replying → State → Step → Event
state_event reply state (Stage edit) =
    staging (refusal (book_of state.limits state.accepted) edit) (length (keep state.limits state.accepted edit) - state.published)
state_event reply state Publish = Published (length state.accepted)
state_event reply state (Enter worker) = of_worker state worker (Entered (max (slice_index state.met worker) state.published))
state_event reply state (Tell worker told) = of_worker state worker (Told (max (slice_index state.met worker) (told_of state told)))
state_event reply state (Answer worker t line) = of_worker state worker (Replied (reply (book_of state.limits (seen_by state worker)) t line))

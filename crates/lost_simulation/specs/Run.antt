-- The run of the world that a history of calls is. (Own.)
use Rattle.std.specs.Prelude.{◌≡◌, ℕ, ◌<◌, if◌then◌else◌, List, [], ◌∷◌, ◌++◌, length, ◌==◌}
use Rattle.lost_core.specs.World.{Step, Stage, Publish, Enter, Tell, Answer, Event, Staged, Refused, Published, Entered, Told, Replied, World, step_at, accepted, published, seen, events}
use Rattle.lost_core.specs.Lawful.{Lawful}
use Rattle.lost_core.specs.Values.{replies_of}
use Rattle.lost_simulation.specs.Crew.{Setting, Crew, Call, TakesEdit, RefusesEdit, Commits, Drops, Fails, Tells, Learns, Replies, GivesNone, Turn}

-- a step of the world, and the event that it gives
abbrev pub RunStep : Type 0
RunStep = Step × Event

-- how a worker comes to have seen so many edits: it enters where so many are published, and else is told of them
abbrev pub arrival_at : ℕ → ℕ → ℕ → RunStep
arrival_at edition worker count = if count == edition then (Enter worker, Entered count) else (Tell worker count, Told count)

abbrev pub arrival : Crew → ℕ → RunStep
arrival crew worker = arrival_at (length crew.desk.published) worker (length (crew.reader worker).seen)

-- a run, the last of which stands first, without what was staged since the last publish
abbrev pub without_pending : List RunStep → List RunStep
without_pending [] = []
without_pending ((Stage edit, event) ∷ before) = without_pending before
without_pending ((Publish, event) ∷ before) = (Publish, event) ∷ before
without_pending ((Enter worker, event) ∷ before) = (Enter worker, event) ∷ without_pending before
without_pending ((Tell worker told, event) ∷ before) = (Tell worker told, event) ∷ without_pending before
without_pending ((Answer worker t line, event) ∷ before) = (Answer worker t line, event) ∷ without_pending before

-- a run with one more call, after which the crew is this one. The world drops no edit: what is dropped was never published, and is cut out
abbrev pub with_call : Call → Crew → List RunStep → List RunStep
with_call (TakesEdit edit pending) crew before = (Stage edit, Staged pending) ∷ before
with_call (RefusesEdit edit error) crew before = (Stage edit, Refused error) ∷ before
with_call (Commits edition) crew before = (Publish, Published edition) ∷ before
with_call Drops crew before = without_pending before
with_call Fails crew before = before
with_call (Tells told) crew before = before
with_call (Learns worker told) crew before = (Tell worker (length told.list), Told (length (crew.reader worker).seen)) ∷ before
with_call (Replies worker t line reply) crew before = (Answer worker t line, Replied reply) ∷ arrival crew worker ∷ before
with_call (GivesNone worker) crew before = arrival crew worker ∷ before

abbrev pub run_of : List Turn → List RunStep
run_of [] = []
run_of (turn ∷ before) = with_call turn.call turn.crew (run_of before)

-- the steps of a run, and its events, in order
abbrev pub steps_in : List RunStep → List Step
steps_in [] = []
steps_in (last ∷ before) = steps_in before ++ last.0 ∷ []

abbrev pub events_in : List RunStep → List Event
events_in [] = []
events_in (last ∷ before) = events_in before ++ last.1 ∷ []

-- the world with the steps of a run, whose lines the server answers
abbrev pub world_of_run : Setting → List RunStep → World
world_of_run setting run = record {
  limits = setting.limits;
  workers = setting.workers;
  reply = replies_of setting.name;
  steps = steps_in run;
}

-- a crew is where a world is after all its steps: the events are those of the run, the same edits are published and pending, each worker has seen the same, and the world is lawful
pub record IsRun (world : World) (run : List RunStep) (crew : Crew) : Type 0 where
  pub same_events : events_in run ≡ events world
  pub same_published : crew.desk.published ≡ published world (length world.steps)
  pub same_pending : crew.desk.published ++ crew.desk.pending ≡ accepted world (length world.steps)
  pub same_seen : (worker : ℕ) → worker < world.workers → (crew.reader worker).seen ≡ seen world worker (length world.steps)
  pub is_lawful : Lawful (step_at world) (published world) (seen world)

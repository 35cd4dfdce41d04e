-- The laws of the calls of a desk and its readers. (Own.)
use Rattle.std.specs.Prelude.{ℕ, suc, if◌then◌else◌, List, [], ◌∷◌, length, Option, Some, None, nat_lt, nat_le, ◌==◌}
use Rattle.lost_spec.specs.Book.{Edit}
use Rattle.lost_history.specs.History.{Opening}
use Rattle.lost_core.specs.World.{Step, Stage, Publish, Tell}
use Rattle.lost_core.specs.Lawful.{Lawful}
use Rattle.lost_simulation.specs.Crew.{Setting, Crew, Call, TakesEdit, RefusesEdit, Commits, Drops, Fails, Tells, Learns, Replies, GivesNone, Turn, crew_after, IsHistory, IsOpened}
use Rattle.lost_simulation.specs.Run.{arrival, run_of, world_of_run, IsRun}

-- whatever the calls of a desk and its readers give, in any order, is a run of the world
abbrev pub CallsAreARun : Type 0
CallsAreARun =
    (setting : Setting) (opening : Opening) (first : Crew) (turns : List Turn) → IsOpened setting opening first → IsHistory setting first turns
    → IsRun (world_of_run setting (run_of turns)) (run_of turns) (crew_after first turns)

-- ---- the history itself, with what was dropped

-- the crew after so many calls; past the end of the history, after all of them
abbrev pub crew_at : Crew → List Turn → ℕ → Crew
crew_at first [] i = first
crew_at first (turn ∷ before) i = if nat_le i (length before) then crew_at first before i else turn.crew

-- what a worker has seen; one that does not exist has seen nothing
abbrev pub seen_in : Setting → Crew → ℕ → List Edit
seen_in setting crew worker = if nat_lt worker setting.workers then (crew.reader worker).seen else []

-- the step of the world that a call is, after which the crew is this one
abbrev pub step_of_call : Call → Crew → Option Step
step_of_call (TakesEdit edit pending) crew = Some (Stage edit)
step_of_call (RefusesEdit edit error) crew = Some (Stage edit)
step_of_call (Commits edition) crew = Some Publish
step_of_call Drops crew = None
step_of_call Fails crew = None
step_of_call (Tells told) crew = None
step_of_call (Learns worker told) crew = Some (Tell worker (length told.list))
step_of_call (Replies worker t line reply) crew = Some (arrival crew worker).0
step_of_call (GivesNone worker) crew = Some (arrival crew worker).0

-- the step that the call with this number is, counted from 1
abbrev pub step_at_call : List Turn → ℕ → Option Step
step_at_call [] i = None
step_at_call (turn ∷ before) i =
    if nat_le i (length before) then step_at_call before i else if i == suc (length before) then step_of_call turn.call turn.crew else None

-- and what the desk has published and each reader has seen after any two calls is as lawful as in a world
abbrev pub CallsAreLawful : Type 0
CallsAreLawful =
    (setting : Setting) (opening : Opening) (first : Crew) (turns : List Turn) → IsOpened setting opening first → IsHistory setting first turns
    → Lawful (step_at_call turns) (λ i. (crew_at first turns i).desk.published) (λ worker i. seen_in setting (crew_at first turns i) worker)

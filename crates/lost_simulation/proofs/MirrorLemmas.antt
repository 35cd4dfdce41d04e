-- When the state of a run is that of a crew.
use Rattle.std.proofs.Common.{◌≡◌, ℕ, ◌<◌, List, ◌++◌, length}
use Rattle.std.specs.Prelude.{slice_index, Contains}
use Rattle.lost_spec.specs.Laws.{BeginsWith}
use Rattle.lost_history.specs.History.{Beginning}
use Rattle.lost_desk.specs.Seen.{DeskSeen, ReaderSeen}
use Rattle.lost_core.specs.State.{State, state_after}
use Rattle.lost_simulation.specs.Crew.{Setting, Crew}
use Rattle.lost_simulation.specs.Run.{RunStep}
use Rattle.lost_simulation.proofs.RunLemmas.{GivesEvent}

-- the state accepted and published what a desk did
pub record HasDesk (setting : Setting) (state : State) (desk : DeskSeen) : Type 0 where
  pub state_limits : state.limits ≡ setting.limits
  pub desk_limits : desk.limits ≡ setting.limits
  pub accepted : state.accepted ≡ desk.published ++ desk.pending
  pub published : state.published ≡ length desk.published

-- a worker met what its reader has seen, which is published
pub record HasReader (setting : Setting) (met : List ℕ) (desk : DeskSeen) (worker : ℕ) (reader : ReaderSeen) : Type 0 where
  pub limits : reader.limits ≡ setting.limits
  pub count : slice_index met worker ≡ length reader.seen
  pub published : BeginsWith desk.published reader.seen

-- all that was told is published
abbrev pub AreToldPublished : List Beginning → DeskSeen → Type 0
AreToldPublished told desk = (one : Beginning) → Contains told one → BeginsWith desk.published one.list

-- the state is that of a crew
pub record Mirrors (setting : Setting) (state : State) (crew : Crew) : Type 0 where
  pub desk : HasDesk setting state crew.desk
  pub workers : length state.met ≡ setting.workers
  pub readers : (worker : ℕ) → worker < setting.workers → HasReader setting state.met crew.desk worker (crew.reader worker)
  pub told : AreToldPublished crew.told crew.desk

-- a step gives its event, and makes the state that of a crew
pub record Leads (setting : Setting) (state : State) (crew : Crew) (last : RunStep) : Type 0 where
  pub gives : GivesEvent setting state last
  pub after : Mirrors setting (state_after state last.0) crew

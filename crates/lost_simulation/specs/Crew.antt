-- A desk with its readers, and the calls of both in any order. (Own.)
use Rattle.std.specs.Prelude.{◌≡◌, ◌≢◌, ℕ, ◌<◌, List, [], ◌∷◌, ◌++◌, Contains}
use Rattle.lost_spec.specs.declared.faults.EditError.{EditError}
use Rattle.lost_spec.specs.Text.{Text}
use Rattle.lost_spec.specs.Moment.{Instant}
use Rattle.lost_spec.specs.Book.{Limits, Edit}
use Rattle.lost_history.specs.History.{Opening, Beginning}
use Rattle.lost_desk.specs.Seen.{DeskSeen, ReaderSeen, ReadersSeen, new_desk, new_reader}
use Rattle.lost_simulation.specs.Clauses.{StagesEdit, LeavesEdit, PublishesPending, DropsPending, LeavesDesk, TellsPublished, LearnsTold, SeesPublished, AnswersLine}

-- what a desk is opened with, and the name of the server that answers
pub record Setting : Type 0 where
  pub limits : Limits
  pub workers : ℕ
  pub name : Text

-- what contracts see of a desk and of each worker's reader, and all that the desk has told
pub record Crew : Type 0 where
  pub desk : DeskSeen
  pub reader : ℕ → ReaderSeen
  pub told : List Beginning

-- a call, with what it was given and what it gave: the desk takes an edit or refuses it, commits, drops what is pending, is refused memory, or tells a list;
-- a worker's reader learns a list, or returns from a line with a reply or with none
pub data Call : Type 0 where
  TakesEdit : (edit : Edit) (pending : ℕ) → Call
  RefusesEdit : (edit : Edit) (error : EditError) → Call
  Commits : (edition : ℕ) → Call
  Drops : Call
  Fails : Call
  Tells : (told : Beginning) → Call
  Learns : (worker : ℕ) (told : Beginning) → Call
  Replies : (worker : ℕ) (t : Instant) (line reply : Text) → Call
  GivesNone : (worker : ℕ) → Call

-- a call of the desk changes no reader
abbrev pub KeepsReaders : Crew → Crew → Type 0
KeepsReaders old new = (worker : ℕ) → new.reader worker ≡ old.reader worker

-- a call that tells nothing and changes no reader
pub record IsOfDesk (old new : Crew) : Type 0 where
  pub readers : KeepsReaders old new
  pub same_told : new.told ≡ old.told

-- a call of one worker's reader changes nothing else
pub record IsOfReader (setting : Setting) (old new : Crew) (worker : ℕ) : Type 0 where
  pub exists : worker < setting.workers
  pub same_desk : new.desk ≡ old.desk
  pub same_told : new.told ≡ old.told
  pub others : (other : ℕ) → other ≢ worker → new.reader other ≡ old.reader other

-- what a call gives. A reader learns only what its desk told
abbrev pub Gives : Setting → Crew → Call → Crew → Type 0
Gives setting old (TakesEdit edit pending) new = IsOfDesk old new × StagesEdit old.desk new.desk edit pending
Gives setting old (RefusesEdit edit error) new = IsOfDesk old new × LeavesEdit old.desk new.desk edit error
Gives setting old (Commits edition) new = IsOfDesk old new × PublishesPending old.desk new.desk edition
Gives setting old Drops new = IsOfDesk old new × DropsPending old.desk new.desk
Gives setting old Fails new = IsOfDesk old new × LeavesDesk old.desk new.desk
Gives setting old (Tells told) new = KeepsReaders old new × TellsPublished old.desk new.desk told × (new.told ≡ old.told ++ told ∷ [])
Gives setting old (Learns worker told) new = IsOfReader setting old new worker × Contains old.told told × LearnsTold (old.reader worker) (new.reader worker) told
Gives setting old (Replies worker t line reply) new = IsOfReader setting old new worker × AnswersLine setting.name old.desk (old.reader worker) (new.reader worker) t line reply
Gives setting old (GivesNone worker) new = IsOfReader setting old new worker × SeesPublished old.desk (old.reader worker) (new.reader worker)

-- a call, and the crew after it
pub record Turn : Type 0 where
  pub call : Call
  pub crew : Crew

-- the crew after some turns, the last of which stands first
abbrev pub crew_after : Crew → List Turn → Crew
crew_after first [] = first
crew_after first (turn ∷ before) = turn.crew

-- any calls, in any order, each of which gives what its contract says
abbrev pub IsHistory : Setting → Crew → List Turn → Type 0
IsHistory setting first [] = Unit {0}
IsHistory setting first (turn ∷ before) = IsHistory setting first before × Gives setting (crew_after first before) turn.call turn.crew

-- a desk and its readers as `open_desk` gives them, before any call
pub record IsOpened (setting : Setting) (opening : Opening) (crew : Crew) : Type 0 where
  pub desk : crew.desk ≡ new_desk opening setting.limits
  pub readers : (worker : ℕ) → worker < setting.workers → crew.reader worker ≡ new_reader opening setting.limits
  pub none_told : crew.told ≡ []

abbrev pub setting_of : Limits → ℕ → Text → Setting
setting_of limits workers name = record { limits = limits; workers = workers; name = name }

-- the crew of a desk that has told nothing, each of whose workers has such a reader
abbrev pub crew_of : DeskSeen → ReadersSeen → Crew
crew_of desk readers = record { desk = desk; reader = λ worker. readers.each; told = [] }

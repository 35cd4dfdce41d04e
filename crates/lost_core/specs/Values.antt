-- What the steps and events of the code stand for, and the world that they make.
use Rattle.std.specs.Prelude.{ℕ, List, map}
use Rattle.lost_spec.specs.Text.{Text}
use Rattle.lost_spec.specs.Book.{Limits}
use Rattle.lost_mapping.specs.Edit.{edit_of}
use Rattle.lost_json.specs.Line.{line_reply}
use Rattle.lost_core.specs.declared.step.Step.{Step as KeptStep}
use Rattle.lost_core.specs.declared.step.Step.TheVariants.{Stage as KeptStage, Publish as KeptPublish, Enter as KeptEnter, Tell as KeptTell, Answer as KeptAnswer}
use Rattle.lost_core.specs.declared.event.Event.{Event as KeptEvent}
use Rattle.lost_core.specs.declared.event.Event.TheVariants.{Staged as KeptStaged, Refused as KeptRefused, Published as KeptPublished, Entered as KeptEntered, Told as KeptTold, Replied as KeptReplied, NoWorker as KeptNoWorker}
use Rattle.lost_core.specs.World.{Step, Stage, Publish, Enter, Tell, Answer, Event, Staged, Refused, Published, Entered, Told, Replied, NoWorker, Replying, World}

abbrev pub step_of : KeptStep → Step
step_of (KeptStage edit) = Stage (edit_of edit)
step_of KeptPublish = Publish
step_of (KeptEnter worker) = Enter worker
step_of (KeptTell worker told) = Tell worker told
step_of (KeptAnswer worker moment line) = Answer worker moment line.items

abbrev pub event_of : KeptEvent → Event
event_of (KeptStaged pending) = Staged pending
event_of (KeptRefused error) = Refused error
event_of (KeptPublished edition) = Published edition
event_of (KeptEntered edition) = Entered edition
event_of (KeptTold edition) = Told edition
event_of (KeptReplied line) = Replied line.items
event_of KeptNoWorker = NoWorker

-- lines are answered by the server of this name (RFC 5222; own format)
abbrev pub replies_of : Text → Replying
replies_of name book t line = line_reply book name t line

-- the world where lines are answered by the server of this name
abbrev pub world_of : Limits → ℕ → Text → List KeptStep → World
world_of limits workers name steps = record {
  limits = limits;
  workers = workers;
  reply = replies_of name;
  steps = map step_of steps;
}

-- What holds in each world of steps.
use Rattle.std.specs.Prelude.{◌≡◌, ◌≢◌, ◌⊎◌, ℕ, ◌≤◌, IsTrue, List, ◌++◌, length, Option, Some}
use Rattle.lost_spec.specs.declared.faults.EditError.TheVariants.{Memory}
use Rattle.lost_spec.specs.Book.{Edit, is_accepted}
use Rattle.lost_spec.specs.Laws.{BeginsWith}
use Rattle.lost_core.specs.World.{Step, Enter, Tell, Refused, World, step_at, published, seen, event}

-- the laws of what is published and what each worker has seen, up to each step, for any three functions that give the
-- step of a number, the edits published by then and the edits seen by a worker by then
pub record Lawful (step_at : ℕ → Option Step) (published : ℕ → List Edit) (seen : ℕ → ℕ → List Edit) : Type 0 where
  pub seen_is_published : (worker i : ℕ) → BeginsWith (published i) (seen worker i)
  pub seen_grows : (worker i j : ℕ) → i ≤ j → BeginsWith (seen worker j) (seen worker i)
  pub published_grows : (i j : ℕ) → i ≤ j → BeginsWith (published j) (published i)
  pub enters : (worker i : ℕ) → step_at i ≡ Some (Enter worker) → seen worker i ≡ published i
  pub learns : (worker told i : ℕ) → step_at i ≡ Some (Tell worker told) → told ≤ length (published i) → told ≤ length (seen worker i)
  pub one_list : (worker other i : ℕ) → BeginsWith (seen worker i) (seen other i) ⊎ BeginsWith (seen other i) (seen worker i)

-- each world is lawful
abbrev pub WorldsAreLawful : Type 0
WorldsAreLawful = (world : World) → Lawful (step_at world) (published world) (seen world)

-- what is published is a list that the book accepts
abbrev pub PublishedIsAccepted : Type 0
PublishedIsAccepted = (world : World) (i : ℕ) → IsTrue (is_accepted world.limits (published world i))

-- no edit is refused for want of memory
abbrev pub NoRefusalIsMemory : Type 0
NoRefusalIsMemory = (world : World) (i : ℕ) → event world i ≢ Refused Memory

-- the world with more steps behind its own
abbrev pub with_later : World → List Step → World
with_later world later = record world { steps = world.steps ++ later }

-- a step has the same event, and the same edits are published and seen by then
pub record IsCountedAlike (one two : World) (i : ℕ) : Type 0 where
  pub same_published : published two i ≡ published one i
  pub same_seen : (worker : ℕ) → seen two worker i ≡ seen one worker i
  pub same_event : event two i ≡ event one i

-- later steps change nothing of what was counted before
abbrev pub LaterStepsChangeNothing : Type 0
LaterStepsChangeNothing = (world : World) (later : List Step) (i : ℕ) → i ≤ length world.steps → IsCountedAlike world (with_later world later) i

-- A run whose events are those of its steps is a run of the world.
use Rattle.std.proofs.Common.{◌≡◌, ℕ, suc, List, [], ◌∷◌, ◌++◌, length, Some, refl, sym, ap, subst, ◌∙◌, append_assoc, append-nil, arith, length-append}
use Rattle.std.specs.Prelude.{slice_get}
use Rattle.lost_core.specs.World.{Step, World, events_to}
use Rattle.lost_core.specs.State.{State, start, state_after, state_event}
use Rattle.lost_core.specs.Values.{replies_of}
use Rattle.lost_core.proofs.RunLemmas.{IsAt, at_start, run_more}
use Rattle.lost_simulation.specs.Crew.{Setting}
use Rattle.lost_simulation.specs.Run.{RunStep, steps_in, events_in, world_of_run}

-- what a run makes of the state at the start
abbrev pub state_of : Setting → List RunStep → State
state_of setting [] = start setting.limits setting.workers
state_of setting (last ∷ before) = state_after (state_of setting before) last.0

-- a step gives this event in a state
abbrev pub GivesEvent : Setting → State → RunStep → Type 0
GivesEvent setting state last = last.1 ≡ state_event (replies_of setting.name) state last.0

-- each event of a run is that of its step
abbrev pub HasItsEvents : Setting → List RunStep → Type 0
HasItsEvents setting [] = Unit {0}
HasItsEvents setting (last ∷ before) = HasItsEvents setting before × GivesEvent setting (state_of setting before) last

-- what stands behind some things
at_length : {Thing : Type 0} (xs : List Thing) (y : Thing) (ys : List Thing) → slice_get (xs ++ y ∷ ys) (length xs) ≡ Some y
at_length [] y ys = refl
at_length (x ∷ xs) y ys = at_length xs y ys

-- a world has reached the end of a run
pub record IsReached (world : World) (setting : Setting) (run : List RunStep) : Type 0 where
  pub at : IsAt world (length (steps_in run)) (state_of setting run)
  pub events : events_in run ≡ events_to world (length (steps_in run))

-- the world with these steps
abbrev world_of_steps : Setting → List Step → World
world_of_steps setting steps = record {
  limits = setting.limits;
  workers = setting.workers;
  reply = replies_of setting.name;
  steps = steps;
}

-- a run reaches its end in each world whose steps begin with its own
reaches : (setting : Setting) (steps : List Step) (run : List RunStep) (rest : List Step) → HasItsEvents setting run → steps ≡ steps_in run ++ rest → IsReached (world_of_steps setting steps) setting run
reaches setting steps [] rest own begins = record { at = at_start (world_of_steps setting steps); events = refl }
reaches setting steps (last ∷ before) rest own begins =
    let world = world_of_steps setting steps in
    let n : ℕ = length (steps_in before) in
    let longer : steps ≡ steps_in before ++ last.0 ∷ rest = begins ∙ append_assoc (steps_in before) (last.0 ∷ []) rest in
    let earlier = reaches setting steps before (last.0 ∷ rest) own.0 longer in
    let next : slice_get steps n ≡ Some last.0 = ap (λ (l : List Step). slice_get l n) longer ∙ at_length (steps_in before) last.0 rest in
    let more = run_more world n last.0 (state_of setting before) (state_of setting (last ∷ before)) (events_in before) last.1 next earlier.at earlier.events own.1 refl in
    let one_more : suc n ≡ length (steps_in (last ∷ before)) = omega (arith, length-append (steps_in before) (last.0 ∷ [])) in
    record {
      at = subst (λ (k : ℕ). IsAt world k (state_of setting (last ∷ before))) one_more more.0;
      events = more.1 ∙ ap (events_to world) one_more;
    }

-- and in the world of its own steps
pub reaches_end : (setting : Setting) (run : List RunStep) → HasItsEvents setting run → IsReached (world_of_run setting run) setting run
reaches_end setting run own = reaches setting (steps_in run) run [] own (sym (append-nil (steps_in run)))

-- What a call over a stream of lines gives, whichever result it has. (Own.)
use Rattle.std.specs.Prelude.{◌≤◌, ◌⊎◌, ℕ, Bool, Option, Result, IfOk, OnErr, IsErrOf}
use Rattle.lost_spec.specs.Text.{Text}
use Rattle.lost_lines.specs.declared.counts.Counts.{Counts}
use Rattle.lost_lines.specs.declared.fault.ServeError.{ServeError}
use Rattle.lost_lines.specs.declared.fault.ServeError.TheVariants.{Read, TurnsSpent}
use Rattle.lost_lines.specs.declared.turns.Turns.{Turns}
use Rattle.lost_lines.specs.declared.watched.Watched.{Watched}
use Rattle.lost_lines.specs.Run.{Cut, Reply}
use Rattle.lost_lines.specs.Stream.{IsServed, IsCutOff, IsWholeSoFar, IsSpent, IsHeldBack}
use Rattle.lost_lines.specs.Watched.{inner_of, has_ended, reads_of}

-- what went through a call: what was left to read before it and after it, as far as that is known, what the output was known to hold, how many reads were made, and whether one met the end
pub record Passage : Type 0 where
  pub unread : Option Text
  pub left : Option Text
  pub before : Option Text
  pub after : Option Text
  pub reads : ℕ
  pub ended : Bool

-- what went through a call, by its input before and after and its output before and after
abbrev pub passage_of : {R W : Type 0} → (R → Option Text) → (W → Option Text) → Watched R → Watched R → Watched W → Watched W → Passage
passage_of remaining contents old_input new_input old_output new_output = record {
  unread = remaining (inner_of old_input);
  left = remaining (inner_of new_input);
  before = contents (inner_of old_output);
  after = contents (inner_of new_output);
  reads = reads_of new_input;
  ended = has_ended new_input;
}

-- what answers lines went by its steps over those of the input, from a state to a state, with this result: at Ok the whole stream was served, in at most as many lines as the turns allow; at each fault a front of it;
-- at `Read` and `TurnsSpent` all lines whose byte 10 was read, up to as many as the turns allow or before one that the gate refused
pub record IsOutcome {State : Type 0} (says : ℕ → Bool → Type 0) (step : State → Cut → Reply → State → Type 0) (old new : State) (turns : Turns) (p : Passage) (result : Result Counts ServeError) : Type 0 where
  pub served : IfOk result (λ counts. IsServed says step old new p.unread p.before p.after counts)
  pub within : IfOk result (λ counts. counts.lines ≤ turns.lines)
  pub cut_off : OnErr result (IsCutOff says step old new p.unread p.before p.after)
  pub whole : IsErrOf result Read → IsWholeSoFar says step old new turns.lines p.unread p.left p.before p.after
  pub spent : IsErrOf result TurnsSpent →
      IsSpent says step old new turns p.unread p.left p.before p.after p.reads p.ended ⊎ IsHeldBack says step old new turns.lines p.unread p.left p.before p.after p.ended

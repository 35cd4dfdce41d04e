-- What a call over a stream gives, by its result.
use Rattle.std.proofs.Common.{◌≡◌, ◌⊎◌, ◌≤◌, ℕ, Bool, Ok, Err}
use Rattle.lost_lines.specs.declared.counts.Counts.{Counts}
use Rattle.lost_lines.specs.declared.fault.ServeError.{ServeError}
use Rattle.lost_lines.specs.declared.fault.ServeError.TheVariants.{Read, Write, TurnsSpent}
use Rattle.lost_lines.specs.declared.turns.Turns.{Turns}
use Rattle.lost_lines.specs.Run.{Cut, Reply}
use Rattle.lost_lines.specs.Stream.{IsServed, IsCutOff, IsWholeSoFar, IsSpent, IsHeldBack}
use Rattle.lost_lines.specs.Outcome.{Passage, IsOutcome}

module _ {State : Type 0} (says : ℕ → Bool → Type 0) (step : State → Cut → Reply → State → Type 0) (old new : State) (turns : Turns) (p : Passage) where
  pub IsOutcome-at_end : (counts : Counts) → IsServed says step old new p.unread p.before p.after counts → counts.lines ≤ turns.lines → IsOutcome says step old new turns p (Ok counts)
  IsOutcome-at_end counts served within = record {
    served = served;
    within = within;
    cut_off = tt;
    whole = λ is. absurd (cc);
    spent = λ is. absurd (cc);
  }

  -- a fault came; what else is known of it depends on which
  IsOutcome-at_fault : (e : ServeError) → IsCutOff says step old new p.unread p.before p.after
      → (e ≡ Read → IsWholeSoFar says step old new turns.lines p.unread p.left p.before p.after)
      → (e ≡ TurnsSpent → IsSpent says step old new turns p.unread p.left p.before p.after p.reads p.ended ⊎ IsHeldBack says step old new turns.lines p.unread p.left p.before p.after p.ended)
      → IsOutcome says step old new turns p (Err e)
  IsOutcome-at_fault e cut_off whole spent = record { served = tt; within = tt; cut_off = cut_off; whole = λ is. whole (cc); spent = λ is. spent (cc) }

  pub IsOutcome-at_read : IsCutOff says step old new p.unread p.before p.after → IsWholeSoFar says step old new turns.lines p.unread p.left p.before p.after → IsOutcome says step old new turns p (Err Read)
  IsOutcome-at_read cut_off whole = IsOutcome-at_fault Read cut_off (λ is. whole) (λ is. absurd (cc))

  pub IsOutcome-at_write : (e : ServeError) → e ≡ Write → IsCutOff says step old new p.unread p.before p.after → IsOutcome says step old new turns p (Err e)
  IsOutcome-at_write e at_write cut_off = IsOutcome-at_fault e cut_off (λ is. absurd (cc)) (λ is. absurd (cc))

  pub IsOutcome-at_turns : IsCutOff says step old new p.unread p.before p.after
      → IsSpent says step old new turns p.unread p.left p.before p.after p.reads p.ended ⊎ IsHeldBack says step old new turns.lines p.unread p.left p.before p.after p.ended
      → IsOutcome says step old new turns p (Err TurnsSpent)
  IsOutcome-at_turns cut_off spent = IsOutcome-at_fault TurnsSpent cut_off (λ is. absurd (cc)) (λ is. spent)

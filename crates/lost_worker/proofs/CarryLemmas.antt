-- What answers lines goes by a step, and what is seen of it by another one: so does a whole stream.
use Rattle.std.proofs.Common.{◌⊎◌, inl, inr, ℕ, Bool, List, [], ◌∷◌, Option, Result, Ok, Err, sym, ap, subst}
use Rattle.std.proofs.lemmas.Result.{IfOk-weaker, on_err_weaker}
use Rattle.lost_spec.specs.Text.{Text}
use Rattle.lost_lines.specs.declared.counts.Counts.{Counts}
use Rattle.lost_lines.specs.declared.fault.ServeError.{ServeError}
use Rattle.lost_lines.specs.declared.turns.Turns.{Turns}
use Rattle.lost_lines.specs.Run.{Cut, Reply, Run}
use Rattle.lost_lines.specs.Stream.{IsServed, IsCutOff, IsWholeSoFar, IsSpent, IsHeldBack}
use Rattle.lost_lines.specs.Outcome.{Passage, IsOutcome}

module _ {A : Type 0} (step : A → Cut → Reply → A → Type 0) (Kept : A → Type 0) (keeps : (old new : A) (cut : Cut) (reply : Reply) → Kept old → step old cut reply new → Kept new) where
  -- what each step keeps is kept by a run
  pub kept_run : (old new : A) (lines : List Text) (replies : List Reply) → Kept old → Run step old lines replies new → Kept new
  kept_run old new [] [] kept run = subst Kept (sym run) kept
  kept_run old new [] (reply ∷ replies) kept run = absurd run
  kept_run old new (line ∷ lines) [] kept run = absurd run
  kept_run old new (line ∷ lines) (reply ∷ replies) kept (cut, next, is_cut, one, rest) = kept_run next new lines replies (keeps old next cut reply kept one) rest

  -- whatever the result is, a run was made
  pub kept_at : (says : ℕ → Bool → Type 0) (old new : A) → Kept old → (turns : Turns) (p : Passage) (result : Result Counts ServeError) → IsOutcome says step old new turns p result → Kept new
  kept_at says old new kept turns p (Ok counts) o = kept_run old new o.served.lines o.served.replies kept o.served.run
  kept_at says old new kept turns p (Err e) o = kept_run old new o.cut_off.lines o.cut_off.replies kept o.cut_off.run

  module _ {B : Type 0} (other : B → Cut → Reply → B → Type 0) (seen : A → B) (goes : (old new : A) (cut : Cut) (reply : Reply) → Kept old → step old cut reply new → other (seen old) cut reply (seen new)) where
    pub carried_run : (old new : A) (lines : List Text) (replies : List Reply) → Kept old → Run step old lines replies new → Run other (seen old) lines replies (seen new)
    carried_run old new [] [] kept run = ap seen run
    carried_run old new [] (reply ∷ replies) kept run = absurd run
    carried_run old new (line ∷ lines) [] kept run = absurd run
    carried_run old new (line ∷ lines) (reply ∷ replies) kept (cut, next, is_cut, one, rest) = (
      cut,
      seen next,
      is_cut,
      goes old next cut reply kept one,
      carried_run next new lines replies (keeps old next cut reply kept one) rest,
    )

    module _ (says : ℕ → Bool → Type 0) (old new : A) (kept : Kept old) where
      served : (unread before after : Option Text) (counts : Counts) → IsServed says step old new unread before after counts → IsServed says other (seen old) (seen new) unread before after counts
      served unread before after counts s = record {
        lines = s.lines;
        replies = s.replies;
        run = carried_run old new s.lines s.replies kept s.run;
        let_through = s.let_through;
        read = s.read;
        written = s.written;
        counted = s.counted;
      }

      cut_off : (unread before after : Option Text) → IsCutOff says step old new unread before after → IsCutOff says other (seen old) (seen new) unread before after
      cut_off unread before after s = record {
        lines = s.lines;
        replies = s.replies;
        run = carried_run old new s.lines s.replies kept s.run;
        let_through = s.let_through;
        read = s.read;
        written = s.written;
      }

      whole_so_far : (most : ℕ) (unread left before after : Option Text) → IsWholeSoFar says step old new most unread left before after → IsWholeSoFar says other (seen old) (seen new) most unread left before after
      whole_so_far most unread left before after s = record {
        lines = s.lines;
        replies = s.replies;
        consumed = s.consumed;
        run = carried_run old new s.lines s.replies kept s.run;
        let_through = s.let_through;
        read = s.read;
        ended = s.ended;
        written = s.written;
      }

      spent : (turns : Turns) (unread left before after : Option Text) (reads : ℕ) (has_ended : Bool)
          → IsSpent says step old new turns unread left before after reads has_ended ⊎ IsHeldBack says step old new turns.lines unread left before after has_ended
          → IsSpent says other (seen old) (seen new) turns unread left before after reads has_ended ⊎ IsHeldBack says other (seen old) (seen new) turns.lines unread left before after has_ended
      unfolding whole_so_far
      spent turns unread left before after reads has_ended (inl s) = inl (record { whole = whole_so_far turns.lines unread left before after s.whole; spent = s.spent })
      spent turns unread left before after reads has_ended (inr s) = inr (record {
        lines = s.lines;
        line = s.line;
        replies = s.replies;
        consumed = s.consumed;
        run = carried_run old new s.lines s.replies kept s.run;
        let_through = s.let_through;
        refused = s.refused;
        within = s.within;
        read = s.read;
        next = s.next;
        written = s.written;
      })

    pub carried : (says : ℕ → Bool → Type 0) (old new : A) → Kept old → (turns : Turns) (p : Passage) (result : Result Counts ServeError)
        → IsOutcome says step old new turns p result → IsOutcome says other (seen old) (seen new) turns p result
    carried says old new kept turns p result o = record {
      served = IfOk-weaker result _ _ (λ counts s. served says old new kept p.unread p.before p.after counts s) o.served;
      within = o.within;
      cut_off = on_err_weaker result (λ s. cut_off says old new kept p.unread p.before p.after s) o.cut_off;
      whole = λ is. whole_so_far says old new kept turns.lines p.unread p.left p.before p.after (o.whole is);
      spent = λ is. spent says old new kept turns p.unread p.left p.before p.after p.reads p.ended (o.spent is);
    }

-- A stream that is served by what refers to a desk and a witness is one by the desk's lists and the witness, and so one by
-- the desk's lists.
use Rattle.std.proofs.Common.{◌≡◌, ◌⊎◌, inl, inr, ℕ, ◌+◌, Bool, false, length, Option, Result, refl, ◌∙◌}
use Rattle.std.proofs.lemmas.Result.{IfOk-weaker, on_err_weaker}
use Rattle.lost_spec.specs.Text.{Text}
use Rattle.lost_writing.specs.declared.desk_reply.DeskReply.{DeskReply}
use Rattle.lost_lines.specs.declared.counts.Counts.{Counts}
use Rattle.lost_lines.specs.declared.fault.ServeError.{ServeError}
use Rattle.lost_lines.specs.declared.turns.Turns.{Turns}
use Rattle.lost_lines.specs.Run.{Cut, Reply}
use Rattle.lost_lines.specs.Stream.{IsServed, IsCutOff, IsWholeSoFar, IsSpent, IsHeldBack}
use Rattle.lost_lines.specs.Outcome.{Passage, IsOutcome}
use Rattle.lost_json.specs.Stream.{Terms, Lists}
use Rattle.lost_json.specs.Step.{Step}
use Rattle.lost_json.specs.Outcome.{IsStreamed, IsStreamedInPart, IsStreamedSoFar, IsStreamSpent, IsStreamOutcome}
use Rattle.lost_json.proofs.OutcomeLemmas.{streamed, streamed_in_part, streamed_so_far, stream_spent}
use Rattle.lost_worker.specs.declared.desking.Desking.{Desking}
use Rattle.lost_worker.specs.Desking.{IsSameDesk, Observed, Watches, Desks, desk_terms, observed}
use Rattle.lost_worker.proofs.CarryLemmas.{kept_at, carried}

-- ---- a run of the lists

module _ (says : ℕ → Bool → Type 0) (terms : Terms) (old new : Lists) where
  lists_served : (unread before after : Option Text) (counts : Counts) → IsServed says (Step terms) old new unread before after counts → IsStreamed terms old new unread before after counts
  lists_served unread before after counts s = streamed _ _ _ s.lines s.replies s.run unread before after counts s.read s.written s.counted

  lists_in_part : (unread before after : Option Text) → IsCutOff says (Step terms) old new unread before after → IsStreamedInPart terms old new unread before after
  lists_in_part unread before after s = streamed_in_part _ _ _ s.lines s.replies s.run unread before after s.read s.written

  lists_so_far : (most : ℕ) (unread left before after : Option Text) → IsWholeSoFar says (Step terms) old new most unread left before after → IsStreamedSoFar terms old new most unread left before after
  lists_so_far most unread left before after s = streamed_so_far _ _ _ s.lines s.replies s.run most unread left before after s.consumed s.read s.ended s.written

  lists_spent : ((line : ℕ) → says line false → ⊥) → (turns : Turns) (unread left before after : Option Text) (reads : ℕ) (has_ended : Bool)
      → IsSpent says (Step terms) old new turns unread left before after reads has_ended ⊎ IsHeldBack says (Step terms) old new turns.lines unread left before after has_ended
      → IsStreamSpent terms old new turns unread left before after reads has_ended
  lists_spent lets turns unread left before after reads has_ended (inl s) =
      let w = s.whole in
      stream_spent _ _ _ w.lines w.replies w.run turns unread left before after w.consumed reads has_ended w.read w.ended w.written s.spent
  lists_spent lets turns unread left before after reads has_ended (inr held) = absurd (lets (length held.lines + 1) held.refused)

  -- the gate refuses no line, so the turns are spent
  lists_outcome : ((line : ℕ) → says line false → ⊥) → (turns : Turns) (p : Passage) (result : Result Counts ServeError) → IsOutcome says (Step terms) old new turns p result → IsStreamOutcome terms old new turns p result
  lists_outcome lets turns p result o = record {
    served = IfOk-weaker result _ _ (λ counts s. lists_served p.unread p.before p.after counts s) o.served;
    within = o.within;
    in_part = on_err_weaker result (λ s. lists_in_part p.unread p.before p.after s) o.cut_off;
    so_far = λ is. lists_so_far turns.lines p.unread p.left p.before p.after (o.whole is);
    spent = λ is. lists_spent lets turns p.unread p.left p.before p.after p.reads p.ended (o.spent is);
  }

-- ---- a run of the lists and the witness

module _ {V : Type 0} (step : V → DeskReply → V → Type 0) where
  pub stream_outcome : (says : ℕ → Bool → Type 0) → ((line : ℕ) → says line false → ⊥) → (terms : Terms) (old new : Observed V) (turns : Turns) (p : Passage) (result : Result Counts ServeError)
      → IsOutcome says (Watches step terms) old new turns p result → IsStreamOutcome terms old.lists new.lists turns p result
  stream_outcome says lets terms old new turns p result o =
      lists_outcome says terms old.lists new.lists lets turns p result
      (carried (Watches step terms) (λ state. Unit {0}) (λ a b cut reply kept one. tt) (Step terms) (λ (o : Observed V). o.lists) (λ a b cut reply kept one. one.goes) says old new tt turns p result o)

-- what is referred to stays
pub record Stays {T V : Type 0} (old new : Desking T V) : Type 0 where
  pub desk : new.desk.ghost_name ≡ old.desk.ghost_name
  pub witness : new.witness.ghost_name ≡ old.witness.ghost_name
  pub same : IsSameDesk old.desk.now new.desk.now

module _ {T V : Type 0} (step : V → DeskReply → V → Type 0) where
  stays_none : (old : Desking T V) → Stays old old
  stays_none old = record { desk = refl; witness = refl; same = record { opening = refl; limits = refl } }

  stays_step : (first old new : Desking T V) (cut : Cut) (reply : Reply) → Stays first old → Desks step old cut reply new → Stays first new
  stays_step first old new cut reply kept one = record {
    desk = one.desk_stays ∙ kept.desk;
    witness = one.witness_stays ∙ kept.witness;
    same = record { opening = one.same.opening ∙ kept.same.opening; limits = one.same.limits ∙ kept.same.limits };
  }

  watched_step : (first old new : Desking T V) (cut : Cut) (reply : Reply) → Stays first old → Desks step old cut reply new → Watches step (desk_terms first.desk.now.limits) (observed old) cut reply (observed new)
  watched_step first old new cut reply kept one = rw kept.same.limits at one.watches

  module _ (says : ℕ → Bool → Type 0) (old new : Desking T V) (turns : Turns) (p : Passage) (result : Result Counts ServeError) (o : IsOutcome says (Desks step) old new turns p result) where
    pub stays_at : Stays old new
    stays_at = kept_at (Desks step) (Stays old) (stays_step old) says old new (stays_none old) turns p result o

    pub watched_outcome : IsOutcome says (Watches step (desk_terms old.desk.now.limits)) (observed old) (observed new) turns p result
    watched_outcome = carried (Desks step) (Stays old) (stays_step old) (Watches step (desk_terms old.desk.now.limits)) observed (watched_step old) says old new (stays_none old) turns p result o

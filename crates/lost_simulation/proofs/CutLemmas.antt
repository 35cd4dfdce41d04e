-- What was staged since the last publish may be cut out of a run: no worker sees it.
use Rattle.std.proofs.Common.{◌≡◌, ℕ, ◌≤◌, ◌<◌, Bool, true, false, cond, List, [], ◌∷◌, ◌++◌, length, take, refl, sym, ap, subst, ◌∙◌, arith}
use Rattle.std.specs.Prelude.{is_none, nat_lt, slice_index}
use Rattle.std.proofs.lemmas.Bool.{cond_both, ltb-true}
use Rattle.std.proofs.lemmas.List.{take_all, take-take, take-append-le}
use Rattle.lost_spec.specs.Text.{Text}
use Rattle.lost_spec.specs.Moment.{Instant}
use Rattle.lost_spec.specs.Book.{Limits, Edit, refusal, book_of}
use Rattle.lost_core.specs.World.{Stage, Publish, Enter, Tell, Answer, Replied, NoWorker, Replying, World, accepted, published, keep}
use Rattle.lost_core.specs.State.{State, state_after, state_event}
use Rattle.lost_core.specs.Values.{replies_of}
use Rattle.lost_core.proofs.WorldLemmas.{accepted_published, front_length, most_met-le}
use Rattle.lost_core.proofs.RunLemmas.{IsAt}
use Rattle.lost_simulation.specs.Crew.{Setting}
use Rattle.lost_simulation.specs.Run.{RunStep, steps_in, without_pending, world_of_run}
use Rattle.lost_simulation.proofs.RunLemmas.{state_of, HasItsEvents, GivesEvent, reaches_end}

-- the state without what is accepted and not published
abbrev pub dropped : State → State
dropped state = record state { accepted = take state.published state.accepted }

-- what is published was accepted, and what a worker has met was published
record IsInside (state : State) : Type 0 where
  published : state.published ≤ length state.accepted
  met : (worker : ℕ) → worker < length state.met → slice_index state.met worker ≤ state.published

at_inside : (world : World) (i : ℕ) (state : State) → IsAt world i state → IsInside state
at_inside world i state is_at = record {
  published = omega (arith, is_at.published, ap length is_at.accepted, front_length (published world i) (accepted world i) (accepted_published world i));
  met = λ worker within.
      let here : worker < world.workers = omega (arith, is_at.workers) in
      omega (arith, is_at.met worker here, is_at.published, most_met-le world worker i);
}

inside : (setting : Setting) (run : List RunStep) → HasItsEvents setting run → IsInside (state_of setting run)
inside setting run own = at_inside (world_of_run setting run) (length (steps_in run)) (state_of setting run) (reaches_end setting run own).at

-- one more edit leaves the first ones
first_kept : (limits : Limits) (n : ℕ) (kept : List Edit) (edit : Edit) → n ≤ length kept → take n kept ≡ take n (keep limits kept edit)
first_kept limits n kept edit within =
    cond_both (is_none (refusal (book_of limits kept) edit)) (kept ++ edit ∷ []) kept (λ l. take n kept ≡ take n l)
    (λ taken. sym (take-append-le n kept (edit ∷ []) within))
    (λ refused. refl)

same_if : {Thing : Type 0} (b : Bool) (x y z : Thing) → (b ≡ true → x ≡ y) → cond b x z ≡ cond b y z
same_if true x y z same = same refl
same_if false x y z same = refl

-- a worker is answered alike
same_answer : (reply : Replying) (state : State) (worker : ℕ) (t : Instant) (line : Text) → IsInside state → state_event reply (dropped state) (Answer worker t line) ≡ state_event reply state (Answer worker t line)
same_answer reply state worker t line is_inside =
    same_if (nat_lt worker (length state.met))
    (Replied (reply (book_of state.limits (take (slice_index state.met worker) (take state.published state.accepted))) t line))
    (Replied (reply (book_of state.limits (take (slice_index state.met worker) state.accepted)) t line))
    NoWorker
    (λ exists.
    ap (λ (es : List Edit). Replied (reply (book_of state.limits es) t line))
    (take-take (slice_index state.met worker) state.published state.accepted (is_inside.met worker (ltb-true worker (length state.met) exists))))

-- a run without what is pending
pub record IsCut (setting : Setting) (run : List RunStep) : Type 0 where
  pub own : HasItsEvents setting (without_pending run)
  pub state : state_of setting (without_pending run) ≡ dropped (state_of setting run)

pub cut_run : (setting : Setting) (run : List RunStep) → HasItsEvents setting run → IsCut setting run
cut_run setting [] own = record { own = tt; state = refl }
cut_run setting ((Stage edit, event) ∷ before) own =
    let cut = cut_run setting before own.0 in
    let s = state_of setting before in
    record {
      own = cut.own;
      state = cut.state ∙ ap (λ (es : List Edit). record s { accepted = es }) (first_kept s.limits s.published s.accepted edit (inside setting before own.0).published);
    }
cut_run setting ((Publish, event) ∷ before) own =
    let s = state_of setting before in
    record {
      own = own;
      state = ap (λ (es : List Edit). record s { accepted = es; published = length s.accepted }) (sym (take_all (length s.accepted) s.accepted (omega arith)));
    }
cut_run setting ((Enter worker, event) ∷ before) own =
    let cut = cut_run setting before own.0 in
    record {
      own = (cut.own, subst (λ (s : State). GivesEvent setting s (Enter worker, event)) (sym cut.state) own.1);
      state = ap (λ (s : State). state_after s (Enter worker)) cut.state;
    }
cut_run setting ((Tell worker told, event) ∷ before) own =
    let cut = cut_run setting before own.0 in
    record {
      own = (cut.own, subst (λ (s : State). GivesEvent setting s (Tell worker told, event)) (sym cut.state) own.1);
      state = ap (λ (s : State). state_after s (Tell worker told)) cut.state;
    }
cut_run setting ((Answer worker t line, event) ∷ before) own =
    let cut = cut_run setting before own.0 in
    let same = same_answer (replies_of setting.name) (state_of setting before) worker t line (inside setting before own.0) in
    record {
      own = (cut.own, subst (λ (s : State). GivesEvent setting s (Answer worker t line, event)) (sym cut.state) (own.1 ∙ sym same));
      state = cut.state;
    }

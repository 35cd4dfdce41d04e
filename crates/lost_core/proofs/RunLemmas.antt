-- What a run keeps is what is counted, step by step.
use Rattle.std.proofs.Common.{◌≡◌, ◌≢◌, ℕ, suc, ◌-◌, ◌<◌, Bool, true, false, cond, List, [], ◌∷◌, ◌++◌, length, take, max, Option, Some, None, refl, sym, ap, subst, ◌∙◌, ⊎_elim, eq-eqb, arith}
use Rattle.std.specs.Prelude.{◌&&◌, slice_get, slice_index, nat_lt, nat_le, ◌==◌}
use Rattle.std.specs.Option.{option_and_then}
use Rattle.std.proofs.lemmas.Bool.{cond_both, cond-true, cases_eq, lt-ltb, ltb-true, ne_eqb, true≢false}
use Rattle.std.proofs.lemmas.List.{length-set, length-replicate, get_or-replicate, get_or-set_same, get_or-set_other}
use Rattle.lost_spec.specs.Text.{Text}
use Rattle.lost_spec.specs.Moment.{Instant}
use Rattle.lost_spec.specs.Book.{Edit, refusal, book_of}
use Rattle.lost_core.specs.World.{Step, Stage, Publish, Enter, Tell, Answer, Event, Published, Entered, Told, Replied, NoWorker, World, if_worker, counted, step_at, staged_edit, keep, accepted, is_publish, last_publish, published, met_by, met, most_met, seen, staging, event_by, event, events_to}
use Rattle.lost_core.specs.State.{State, start, meet, told_of, state_after, of_worker, seen_by, state_event}
use Rattle.lost_core.proofs.WorldLemmas.{accepted_suc, keep_some, keep_step, length-seen}

-- what is kept after so many steps is what is counted by then
pub record IsAt (world : World) (i : ℕ) (state : State) : Type 0 where
  pub limits : state.limits ≡ world.limits
  pub accepted : state.accepted ≡ accepted world i
  pub published : state.published ≡ length (published world i)
  pub workers : length state.met ≡ world.workers
  pub met : (worker : ℕ) → worker < world.workers → slice_index state.met worker ≡ most_met world worker i

pub at_start : (world : World) → IsAt world 0 (start world.limits world.workers)
at_start world = record {
  limits = refl;
  accepted = refl;
  published = refl;
  workers = length-replicate world.workers 0;
  met = λ worker within. get_or-replicate world.workers worker 0 0 within;
}

-- ---- what one more step counts

module _ (world : World) (i : ℕ) where
  -- the step of the next number
  abbrev pub Next : Step → Type 0
  Next step = slice_get world.steps i ≡ Some step

  next_counted : (step : Step) → Next step → step_at world (suc i) ≡ counted world.workers step
  next_counted step next = ap (option_and_then (counted world.workers)) next

  next_accepted : (step : Step) → Next step → accepted world (suc i) ≡ keep_step world.limits (accepted world i) (Some step)
  next_accepted step next = accepted_suc world i ∙ ap (keep_step world.limits (accepted world i)) next

  -- no publish leaves what is published
  next_published : (o : Option Step) → step_at world (suc i) ≡ o → is_publish o ≡ false → published world (suc i) ≡ published world i
  next_published o is other =
      ap (accepted world) (ap (λ x. cond (is_publish x) (suc i) (last_publish world i)) is ∙ ap (λ b. cond b (suc i) (last_publish world i)) other)

  -- and no worker meets anything but by its own steps
  next_most : (worker : ℕ) (o : Option Step) → step_at world (suc i) ≡ o → met_by (length (published world (suc i))) worker o ≡ 0 → most_met world worker (suc i) ≡ most_met world worker i
  next_most worker o is none =
      let here : met world worker (suc i) ≡ 0 = ap (met_by (length (published world (suc i))) worker) is ∙ none in
      omega arith

  -- a step that publishes is the last that did
  next_publish : Next Publish → published world (suc i) ≡ accepted world (suc i)
  next_publish next = ap (accepted world) (ap (λ x. cond (is_publish x) (suc i) (last_publish world i)) (next_counted Publish next))

  next_event : (step : Step) → Next step → event world (suc i) ≡ event_by world i (counted world.workers step)
  next_event step next = ap (event_by world i) (next_counted step next)

-- ---- steps of workers

-- a step that is no publish is none where its worker does not exist
quiet : (workers worker : ℕ) (step : Step) → is_publish (Some step) ≡ false → is_publish (if_worker workers worker step) ≡ false
quiet workers worker step none = cond_both (nat_lt worker workers) (Some step) None (λ o. is_publish o ≡ false) (λ yes. none) (λ past. refl)

-- a step by which a worker meets nothing
meets_nothing : (edition other workers worker : ℕ) (step : Step) → met_by edition other (Some step) ≡ 0 → met_by edition other (if_worker workers worker step) ≡ 0
meets_nothing edition other workers worker step none =
    cond_both (nat_lt worker workers) (Some step) None (λ o. met_by edition other o ≡ 0) (λ yes. none) (λ past. refl)

-- the step of a worker that exists counts
exists : (workers worker : ℕ) (step : Step) → worker < workers → if_worker workers worker step ≡ Some step
exists workers worker step within = cond-true (nat_lt worker workers) (Some step) None (lt-ltb worker workers within)

other_than : (a b : Bool) (n : ℕ) → a ≡ false → cond (a && b) n 0 ≡ 0
other_than true b n is = absurd (true≢false is)
other_than false b n is = refl

max_nothing : (a b : ℕ) → b ≡ 0 → a ≡ max a b
max_nothing a b none = omega arith

-- what a step of a worker gives, by whether the worker exists
worker_event : (world : World) (i : ℕ) (b : Bool) (given : Event) (step : Step) → (b ≡ true → given ≡ event_by world i (Some step)) → cond b given NoWorker ≡ event_by world i (cond b (Some step) None)
worker_event world i true given step same = same refl
worker_event world i false given step same = refl

-- ---- one step

module _ (world : World) (i : ℕ) (state : State) (is_at : IsAt world i state) where
  -- a step that stages and publishes nothing
  stays : (met : List ℕ) (step : Step) → Next world i step → staged_edit step ≡ None → is_publish (counted world.workers step) ≡ false → length met ≡ world.workers →
      ((worker : ℕ) → worker < world.workers → slice_index met worker ≡ most_met world worker (suc i)) → IsAt world (suc i) (record state { met = met })
  stays met step next none other workers mets = record {
    limits = is_at.limits;
    accepted = is_at.accepted ∙ sym (next_accepted world i step next ∙ ap (keep_some world.limits (accepted world i)) none);
    published = is_at.published ∙ ap length (sym (next_published world i (counted world.workers step) (next_counted world i step next) other));
    workers = workers;
    met = mets;
  }

  module _ (step : Step) (worker count : ℕ) (next : Next world i step) (own : worker < world.workers → met world worker (suc i) ≡ count) where
    -- a worker that meets so many edits has then met the most
    met_own : worker < world.workers → slice_index (meet state.met worker count) worker ≡ most_met world worker (suc i)
    met_own within =
        let inside : worker < length state.met = omega (arith, is_at.workers) in
        get_or-set_same state.met worker (max (slice_index state.met worker) count) 0 inside
        ∙ ap (λ n. max n count) (is_at.met worker within)
        ∙ ap (max (most_met world worker i)) (sym (own within))

    -- and has seen so many
    seen_own : worker < world.workers → max (slice_index state.met worker) count ≡ length (seen world worker (suc i))
    seen_own within =
        ap (λ n. max n count) (is_at.met worker within) ∙ ap (max (most_met world worker i)) (sym (own within)) ∙ sym (length-seen world worker (suc i))

    -- where no other worker meets anything, the state is that of the step
    meets : staged_edit step ≡ None → is_publish (counted world.workers step) ≡ false → ((other : ℕ) → other ≢ worker → met world other (suc i) ≡ 0) → IsAt world (suc i) (record state { met = meet state.met worker count })
    meets none no_publish others =
        stays (meet state.met worker count) step next none no_publish (length-set state.met worker (max (slice_index state.met worker) count) ∙ is_at.workers)
        (λ other within.
        ⊎_elim
        (λ (same : other ≡ worker). subst (λ k. k < world.workers → slice_index (meet state.met worker count) k ≡ most_met world k (suc i)) (sym same) met_own within)
        (λ (differ : other ≢ worker). met_other other within differ (others other differ))
        (cases_eq other worker))
      where
        met_other : (other : ℕ) → other < world.workers → other ≢ worker → met world other (suc i) ≡ 0 → slice_index (meet state.met worker count) other ≡ most_met world other (suc i)
        met_other other within differ nothing =
            get_or-set_other state.met worker other (max (slice_index state.met worker) count) 0 differ
            ∙ is_at.met other within
            ∙ max_nothing (most_met world other i) (met world other (suc i)) nothing

  -- how many edits are published, where the step publishes nothing
  same_edition : (step : Step) → Next world i step → is_publish (counted world.workers step) ≡ false → length (published world (suc i)) ≡ state.published
  same_edition step next no_publish =
      ap length (next_published world i (counted world.workers step) (next_counted world i step next) no_publish) ∙ sym is_at.published

  -- what is kept after the step, and its event, are those that are counted
  abbrev pub IsCounted : Step → Type 0
  IsCounted step = IsAt world (suc i) (state_after state step) × (state_event world.reply state step ≡ event world (suc i))

  same_kept : (edit : Edit) → keep state.limits state.accepted edit ≡ keep world.limits (accepted world i) edit
  same_kept edit = ap (λ limits. keep limits state.accepted edit) is_at.limits ∙ ap (λ es. keep world.limits es edit) is_at.accepted

  one_stage : (edit : Edit) → Next world i (Stage edit) → IsCounted (Stage edit)
  one_stage edit next =
      let kept : keep state.limits state.accepted edit ≡ accepted world (suc i) = same_kept edit ∙ sym (next_accepted world i (Stage edit) next) in
      let edition : length (published world (suc i)) ≡ state.published = same_edition (Stage edit) next refl in (
        record {
          limits = is_at.limits;
          accepted = kept;
          published = sym edition;
          workers = is_at.workers;
          met = λ worker within. is_at.met worker within ∙ sym (next_most world i worker (Some (Stage edit)) (next_counted world i (Stage edit) next) refl);
        },
        ap (λ limits. staging (refusal (book_of limits state.accepted) edit) (length (keep state.limits state.accepted edit) - state.published)) is_at.limits
            ∙ ap (λ es. staging (refusal (book_of world.limits es) edit) (length (keep state.limits state.accepted edit) - state.published)) is_at.accepted
            ∙ ap (λ es. staging (refusal (book_of world.limits (accepted world i)) edit) (length es - state.published)) kept
            ∙ ap (λ n. staging (refusal (book_of world.limits (accepted world i)) edit) (length (accepted world (suc i)) - n)) (sym edition)
            ∙ sym (next_event world i (Stage edit) next),
      )

  one_publish : Next world i Publish → IsCounted Publish
  one_publish next =
      let same : state.accepted ≡ accepted world (suc i) = is_at.accepted ∙ sym (next_accepted world i Publish next) in
      let edition : length state.accepted ≡ length (published world (suc i)) = ap length (same ∙ sym (next_publish world i next)) in (
        record {
          limits = is_at.limits;
          accepted = same;
          published = edition;
          workers = is_at.workers;
          met = λ worker within. is_at.met worker within ∙ sym (next_most world i worker (Some Publish) (next_counted world i Publish next) refl);
        },
        ap Published edition ∙ sym (next_event world i Publish next),
      )

  -- what a step of a worker gives
  gives : (worker : ℕ) (step : Step) (given : Event) → (worker < world.workers → given ≡ event_by world i (Some step)) → of_worker state worker given ≡ event_by world i (if_worker world.workers worker step)
  gives worker step given same =
      ap (λ n. cond (nat_lt worker n) given NoWorker) is_at.workers
      ∙ worker_event world i (nat_lt worker world.workers) given step (λ within. same (ltb-true worker world.workers within))

  one_enter : (worker : ℕ) → Next world i (Enter worker) → IsCounted (Enter worker)
  one_enter worker next =
      let no_publish = quiet world.workers worker (Enter worker) refl in
      let edition : length (published world (suc i)) ≡ state.published = same_edition (Enter worker) next no_publish in
      let own : worker < world.workers → met world worker (suc i) ≡ state.published = λ within.
      ap (met_by (length (published world (suc i))) worker) (next_counted world i (Enter worker) next ∙ exists world.workers worker (Enter worker) within)
      ∙ ap (λ b. cond b (length (published world (suc i))) 0) (eq-eqb worker worker refl)
      ∙ edition in
      let others : (other : ℕ) → other ≢ worker → met world other (suc i) ≡ 0 = λ other differ.
      ap (met_by (length (published world (suc i))) other) (next_counted world i (Enter worker) next)
      ∙ meets_nothing (length (published world (suc i))) other world.workers worker (Enter worker) (ap (λ b. cond b (length (published world (suc i))) 0) (ne_eqb worker other (λ e. differ (sym e)))) in (
        meets (Enter worker) worker state.published next own refl no_publish others,
        gives worker (Enter worker) (Entered (max (slice_index state.met worker) state.published)) (λ within. ap Entered (seen_own (Enter worker) worker state.published next own within))
            ∙ sym (next_event world i (Enter worker) next),
      )

  one_tell : (worker told : ℕ) → Next world i (Tell worker told) → IsCounted (Tell worker told)
  one_tell worker told next =
      let no_publish = quiet world.workers worker (Tell worker told) refl in
      let edition : length (published world (suc i)) ≡ state.published = same_edition (Tell worker told) next no_publish in
      let own : worker < world.workers → met world worker (suc i) ≡ told_of state told = λ within.
      ap (met_by (length (published world (suc i))) worker) (next_counted world i (Tell worker told) next ∙ exists world.workers worker (Tell worker told) within)
      ∙ ap (λ b. cond (b && nat_le told (length (published world (suc i)))) told 0) (eq-eqb worker worker refl)
      ∙ ap (λ n. cond (nat_le told n) told 0) edition in
      let others : (other : ℕ) → other ≢ worker → met world other (suc i) ≡ 0 = λ other differ.
      ap (met_by (length (published world (suc i))) other) (next_counted world i (Tell worker told) next)
      ∙ meets_nothing (length (published world (suc i))) other world.workers worker (Tell worker told) (other_than (worker == other) (nat_le told (length (published world (suc i)))) told (ne_eqb worker other (λ e. differ (sym e)))) in (
        meets (Tell worker told) worker (told_of state told) next own refl no_publish others,
        gives worker (Tell worker told) (Told (max (slice_index state.met worker) (told_of state told))) (λ within. ap Told (seen_own (Tell worker told) worker (told_of state told) next own within))
            ∙ sym (next_event world i (Tell worker told) next),
      )

  one_answer : (worker : ℕ) (t : Instant) (line : Text) → Next world i (Answer worker t line) → IsCounted (Answer worker t line)
  one_answer worker t line next =
      let step = Answer worker t line in
      let mets : (other : ℕ) → other < world.workers → slice_index state.met other ≡ most_met world other (suc i) = λ other within.
      is_at.met other within
      ∙ sym (next_most world i other (counted world.workers step) (next_counted world i step next) (meets_nothing (length (published world (suc i))) other world.workers worker step refl)) in
      let after : IsAt world (suc i) state = stays state.met step next refl (quiet world.workers worker step refl) is_at.workers mets in (
        after,
        gives worker step (Replied (world.reply (book_of state.limits (seen_by state worker)) t line))
            (λ within.
            ap (λ limits. Replied (world.reply (book_of limits (seen_by state worker)) t line)) is_at.limits
            ∙ ap (λ n. Replied (world.reply (book_of world.limits (take n state.accepted)) t line)) (mets worker within)
            ∙ ap (λ es. Replied (world.reply (book_of world.limits (take (most_met world worker (suc i)) es)) t line)) after.accepted)
            ∙ sym (next_event world i step next),
      )

  pub one_step : (step : Step) → Next world i step → IsCounted step
  one_step (Stage edit) next = one_stage edit next
  one_step Publish next = one_publish next
  one_step (Enter worker) next = one_enter worker next
  one_step (Tell worker told) next = one_tell worker told next
  one_step (Answer worker t line) next = one_answer worker t line next

-- ---- one more turn of a run

pub run_more : (world : World) (i : ℕ) (step : Step) (old new : State) (events : List Event) (given : Event) → slice_get world.steps i ≡ Some step → IsAt world i old → events ≡ events_to world i →
    given ≡ state_event world.reply old step → new ≡ state_after old step → IsAt world (suc i) new × (events ++ given ∷ [] ≡ events_to world (suc i))
run_more world i step old new events given next is_at counted gives after =
    let one = one_step world i old is_at step next in (
      subst (λ state. IsAt world (suc i) state) (sym after) one.0,
      ap (λ l. l ++ given ∷ []) counted ∙ ap (λ e. events_to world i ++ e ∷ []) (gives ∙ one.1),
    )

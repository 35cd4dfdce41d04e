-- A stream that is served by what refers to a replier and to moments is one that a worker answers.
use Rattle.std.proofs.Common.{◌≡◌, ℕ, Bool, List, [], ◌++◌, Result, refl, sym, ap, ◌∙◌, append_assoc, append-nil}
use Rattle.lost_spec.specs.Text.{Text}
use Rattle.lost_spec.specs.Moment.{Instant}
use Rattle.lost_desk.specs.Seen.{ReaderSeen}
use Rattle.lost_lines.specs.declared.counts.Counts.{Counts}
use Rattle.lost_lines.specs.declared.fault.ServeError.{ServeError}
use Rattle.lost_lines.specs.declared.turns.Turns.{Turns}
use Rattle.lost_lines.specs.Run.{Cut, Whole, TooLong, Unread, Reply}
use Rattle.lost_lines.specs.Outcome.{Passage, IsOutcome}
use Rattle.lost_worker.specs.declared.serving.Serving.{Serving}
use Rattle.lost_worker.specs.Lines.{Worker, Answers, HasSeenMore}
use Rattle.lost_worker.specs.Serving.{worker_of, Serves}
use Rattle.lost_worker.proofs.CarryLemmas.{kept_at, carried}

pub HasSeenMore-none : (a b : ReaderSeen) → b ≡ a → HasSeenMore a b
HasSeenMore-none a b same = record { begins = ([], ap (λ (r : ReaderSeen). r.seen) same ∙ sym (append-nil a.seen)); opening = ap (λ (r : ReaderSeen). r.opening) same; limits = ap (λ (r : ReaderSeen). r.limits) same }

pub HasSeenMore-trans : (a b c : ReaderSeen) → HasSeenMore a b → HasSeenMore b c → HasSeenMore a c
HasSeenMore-trans a b c first second = record {
  begins = (first.begins.0 ++ second.begins.0, second.begins.1 ∙ ap (λ l. l ++ second.begins.0) first.begins.1 ∙ append_assoc a.seen first.begins.0 second.begins.0);
  opening = second.opening ∙ first.opening;
  limits = second.limits ∙ first.limits;
}

-- a line lets a worker see more
seen_by : (name : Text) (old new : Worker) (cut : Cut) (reply : Reply) → Answers name old cut reply new → HasSeenMore old.reader new.reader
seen_by name old new (Whole line) reply answers = record { begins = answers.begins; opening = answers.same.0; limits = answers.same.1 }
seen_by name old new TooLong reply answers = HasSeenMore-none old.reader new.reader (ap (λ (w : Worker). w.reader) answers.1)
seen_by name old new Unread reply answers = HasSeenMore-none old.reader new.reader (ap (λ (w : Worker). w.reader) answers.1)

-- what is referred to stays, and the reader sees more
pub record Stays {P M : Type 0} (reader : P → ReaderSeen) (old new : Serving P M) : Type 0 where
  pub name : new.name.now ≡ old.name.now
  pub replier : new.replier.ghost_name ≡ old.replier.ghost_name
  pub moments : new.moments.ghost_name ≡ old.moments.ghost_name
  pub seen : HasSeenMore (reader old.replier.now) (reader new.replier.now)

module _ {P M : Type 0} (reader : P → ReaderSeen) (coming : M → List Instant) where
  stays_none : (old : Serving P M) → Stays reader old old
  stays_none old = record { name = refl; replier = refl; moments = refl; seen = HasSeenMore-none _ _ refl }

  stays_step : (first old new : Serving P M) (cut : Cut) (reply : Reply) → Stays reader first old → Serves reader coming old cut reply new → Stays reader first new
  stays_step first old new cut reply kept one = record {
    name = one.name_stays ∙ kept.name;
    replier = one.replier_stays ∙ kept.replier;
    moments = one.moments_stay ∙ kept.moments;
    seen = HasSeenMore-trans _ _ _ kept.seen (seen_by old.name.now (worker_of reader coming old) (worker_of reader coming new) cut reply one.step);
  }

  answers_step : (first old new : Serving P M) (cut : Cut) (reply : Reply) → Stays reader first old → Serves reader coming old cut reply new → Answers first.name.now (worker_of reader coming old) cut reply (worker_of reader coming new)
  answers_step first old new cut reply kept one = rw kept.name at one.step

  module _ (says : ℕ → Bool → Type 0) (old new : Serving P M) (turns : Turns) (p : Passage) (result : Result Counts ServeError) (o : IsOutcome says (Serves reader coming) old new turns p result) where
    -- whatever the result is, a run was made
    pub stays_at : Stays reader old new
    stays_at = kept_at (Serves reader coming) (Stays reader old) (stays_step old) says old new (stays_none old) turns p result o

    pub outcome : IsOutcome says (Answers old.name.now) (worker_of reader coming old) (worker_of reader coming new) turns p result
    outcome = carried (Serves reader coming) (Stays reader old) (stays_step old) (Answers old.name.now) (worker_of reader coming) (answers_step old) says old new (stays_none old) turns p result o

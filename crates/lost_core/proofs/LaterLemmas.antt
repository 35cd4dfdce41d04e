-- Later steps change nothing of what was counted before.
use Rattle.std.proofs.Common.{◌≡◌, ℕ, zero, suc, ◌≤◌, ◌<◌, cond, List, [], ◌∷◌, ◌++◌, length, take, max, ◌-◌, filter_map, Option, Some, None, refl, ap, ◌∙◌, arith}
use Rattle.std.specs.Prelude.{slice_get}
use Rattle.std.specs.Option.{option_and_then}
use Rattle.std.proofs.Math.Nat.{le_trans}
use Rattle.std.proofs.lemmas.List.{take-append-le}
use Rattle.lost_spec.specs.Book.{refusal, book_of}
use Rattle.lost_core.specs.World.{Step, Stage, Publish, Enter, Tell, Answer, Published, Entered, Told, Replied, World, staging, counted, step_at, staged_edit, kept_of, accepted, is_publish, last_publish, published, met_by, met, most_met, seen, event_by, event}
use Rattle.lost_core.specs.Lawful.{with_later, LaterStepsChangeNothing}
use Rattle.lost_core.proofs.WorldLemmas.{last_publish-le}

slice_get_front : {Thing : Type 0} (xs ys : List Thing) (i : ℕ) → i < length xs → slice_get (xs ++ ys) i ≡ slice_get xs i
slice_get_front [] ys i within = absurd (omega arith)
slice_get_front (x ∷ xs) ys zero within = refl
slice_get_front (x ∷ xs) ys (suc i) within = slice_get_front xs ys i (omega arith)

module _ (world : World) (later : List Step) where
  same_step : (i : ℕ) → i ≤ length world.steps → step_at (with_later world later) i ≡ step_at world i
  same_step zero within = refl
  same_step (suc i) within = ap (option_and_then (counted world.workers)) (slice_get_front world.steps later i (omega arith))

  same_accepted : (i : ℕ) → i ≤ length world.steps → accepted (with_later world later) i ≡ accepted world i
  same_accepted i within = ap (λ l. kept_of world.limits [] (filter_map staged_edit l)) (take-append-le i world.steps later within)

  same_last : (i : ℕ) → i ≤ length world.steps → last_publish (with_later world later) i ≡ last_publish world i
  same_last zero within = refl
  same_last (suc i) within =
      ap (λ o. cond (is_publish o) (suc i) (last_publish (with_later world later) i)) (same_step (suc i) within)
      ∙ ap (λ n. cond (is_publish (step_at world (suc i))) (suc i) n) (same_last i (omega arith))

  same_published : (i : ℕ) → i ≤ length world.steps → published (with_later world later) i ≡ published world i
  same_published i within =
      ap (accepted (with_later world later)) (same_last i within) ∙ same_accepted (last_publish world i) (le_trans (last_publish-le world i) within)

  same_met : (worker i : ℕ) → i ≤ length world.steps → met (with_later world later) worker i ≡ met world worker i
  same_met worker i within =
      ap (λ es. met_by (length es) worker (step_at (with_later world later) i)) (same_published i within)
      ∙ ap (met_by (length (published world i)) worker) (same_step i within)

  same_most : (worker i : ℕ) → i ≤ length world.steps → most_met (with_later world later) worker i ≡ most_met world worker i
  same_most worker zero within = refl
  same_most worker (suc i) within =
      ap (λ n. max n (met (with_later world later) worker (suc i))) (same_most worker i (omega arith))
      ∙ ap (max (most_met world worker i)) (same_met worker (suc i) within)

  same_seen : (worker i : ℕ) → i ≤ length world.steps → seen (with_later world later) worker i ≡ seen world worker i
  same_seen worker i within =
      ap (λ n. take n (accepted (with_later world later) i)) (same_most worker i within) ∙ ap (take (most_met world worker i)) (same_accepted i within)

  same_event_by : (i : ℕ) → suc i ≤ length world.steps → (o : Option Step) → event_by (with_later world later) i o ≡ event_by world i o
  same_event_by i within None = refl
  same_event_by i within (Some (Stage edit)) =
      ap (λ es. staging (refusal (book_of world.limits es) edit) (length (accepted (with_later world later) (suc i)) - length (published (with_later world later) (suc i)))) (same_accepted i (omega arith))
      ∙ ap (λ es. staging (refusal (book_of world.limits (accepted world i)) edit) (length es - length (published (with_later world later) (suc i)))) (same_accepted (suc i) within)
      ∙ ap (λ es. staging (refusal (book_of world.limits (accepted world i)) edit) (length (accepted world (suc i)) - length es)) (same_published (suc i) within)
  same_event_by i within (Some Publish) = ap (λ es. Published (length es)) (same_published (suc i) within)
  same_event_by i within (Some (Enter worker)) = ap (λ es. Entered (length es)) (same_seen worker (suc i) within)
  same_event_by i within (Some (Tell worker told)) = ap (λ es. Told (length es)) (same_seen worker (suc i) within)
  same_event_by i within (Some (Answer worker t line)) = ap (λ es. Replied (world.reply (book_of world.limits es) t line)) (same_seen worker (suc i) within)

  same_event : (i : ℕ) → i ≤ length world.steps → event (with_later world later) i ≡ event world i
  same_event zero within = refl
  same_event (suc i) within =
      ap (event_by (with_later world later) i) (same_step (suc i) within) ∙ same_event_by i within (step_at world (suc i))

pub later_changes_nothing : LaterStepsChangeNothing
later_changes_nothing world later i within = record {
  same_published = same_published world later i within;
  same_seen = λ worker. same_seen world later worker i within;
  same_event = same_event world later i within;
}

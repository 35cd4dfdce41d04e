-- How what is accepted, published and seen goes on by one step.
use Rattle.std.proofs.Common.{◌≡◌, ℕ, zero, suc, ◌≤◌, ◌&&◌, List, [], ◌∷◌, ◌++◌, length, take, filter_map, Option, Some, None, is_none, refl, sym, ap, subst, ◌∙◌, arith}
use Rattle.std.specs.Prelude.{slice_get, nat_le, ◌==◌}
use Rattle.std.specs.Option.{option_to_list}
use Rattle.std.proofs.Math.Nat.{le_trans, max-le, le-max_left}
use Rattle.std.proofs.lemmas.Bool.{cond_both}
use Rattle.std.proofs.lemmas.Bool.Decides.{nat_tests}
use Rattle.std.proofs.lemmas.List.{length-append, length-take-le}
use Rattle.std.proofs.lemmas.List.Elements.{filter_map-append}
use Rattle.lost_spec.specs.Book.{Limits, Edit, refusal, book_of}
use Rattle.lost_spec.specs.Laws.{BeginsWith}
use Rattle.lost_core.specs.World.{Step, Stage, Publish, Enter, Tell, Answer, World, step_at, staged_edit, keep, kept_of, accepted, is_publish, last_publish, published, met_by, met, most_met, seen}
use Rattle.lost_core.proofs.FrontLemmas.{begins_self, take_of_front, take_suc, grows, rises}

-- ---- what is accepted

kept_of-append : (limits : Limits) (kept es fs : List Edit) → kept_of limits kept (es ++ fs) ≡ kept_of limits (kept_of limits kept es) fs
kept_of-append limits kept [] fs = refl
kept_of-append limits kept (e ∷ es) fs = kept_of-append limits (keep limits kept e) es fs

-- what is kept behind one more step, by its edit
abbrev pub keep_some : Limits → List Edit → Option Edit → List Edit
keep_some limits kept None = kept
keep_some limits kept (Some edit) = keep limits kept edit

abbrev pub keep_step : Limits → List Edit → Option Step → List Edit
keep_step limits kept None = kept
keep_step limits kept (Some step) = keep_some limits kept (staged_edit step)

step_kept : (limits : Limits) (kept : List Edit) (o : Option Step) → kept_of limits kept (filter_map staged_edit (option_to_list o)) ≡ keep_step limits kept o
step_kept limits kept None = refl
step_kept limits kept (Some (Stage edit)) = refl
step_kept limits kept (Some Publish) = refl
step_kept limits kept (Some (Enter worker)) = refl
step_kept limits kept (Some (Tell worker told)) = refl
step_kept limits kept (Some (Answer worker t line)) = refl

-- what is accepted by one more step
pub accepted_suc : (world : World) (i : ℕ) → accepted world (suc i) ≡ keep_step world.limits (accepted world i) (slice_get world.steps i)
accepted_suc world i =
    ap (λ l. kept_of world.limits [] (filter_map staged_edit l)) (take_suc i world.steps)
    ∙ ap (kept_of world.limits []) (filter_map-append staged_edit (take i world.steps) (option_to_list (slice_get world.steps i)))
    ∙ kept_of-append world.limits [] (filter_map staged_edit (take i world.steps)) (filter_map staged_edit (option_to_list (slice_get world.steps i)))
    ∙ step_kept world.limits (accepted world i) (slice_get world.steps i)

keep_begins : (limits : Limits) (kept : List Edit) (edit : Edit) → BeginsWith (keep limits kept edit) kept
keep_begins limits kept edit =
    cond_both (is_none (refusal (book_of limits kept) edit)) (kept ++ edit ∷ []) kept (λ l. BeginsWith l kept)
    (λ taken. (edit ∷ [], refl))
    (λ refused. begins_self kept)

keep_some_begins : (limits : Limits) (kept : List Edit) (o : Option Edit) → BeginsWith (keep_some limits kept o) kept
keep_some_begins limits kept None = begins_self kept
keep_some_begins limits kept (Some edit) = keep_begins limits kept edit

keep_step_begins : (limits : Limits) (kept : List Edit) (o : Option Step) → BeginsWith (keep_step limits kept o) kept
keep_step_begins limits kept None = begins_self kept
keep_step_begins limits kept (Some step) = keep_some_begins limits kept (staged_edit step)

accepted_step : (world : World) (i : ℕ) → BeginsWith (accepted world (suc i)) (accepted world i)
accepted_step world i =
    subst (λ l. BeginsWith l (accepted world i)) (sym (accepted_suc world i)) (keep_step_begins world.limits (accepted world i) (slice_get world.steps i))

pub accepted_grows : (world : World) (i j : ℕ) → i ≤ j → BeginsWith (accepted world j) (accepted world i)
accepted_grows world = grows (accepted world) (accepted_step world)

-- ---- what is published

pub last_publish-le : (world : World) (i : ℕ) → last_publish world i ≤ i
last_publish-le world zero = omega arith
last_publish-le world (suc i) =
    cond_both (is_publish (step_at world (suc i))) (suc i) (last_publish world i) (λ n. n ≤ suc i)
    (λ yes. omega arith)
    (λ no_publish. omega (arith, last_publish-le world i))

last_publish_step : (world : World) (i : ℕ) → last_publish world i ≤ last_publish world (suc i)
last_publish_step world i =
    cond_both (is_publish (step_at world (suc i))) (suc i) (last_publish world i) (λ n. last_publish world i ≤ n)
    (λ yes. omega (arith, last_publish-le world i))
    (λ no_publish. omega arith)

pub published_grows : (world : World) (i j : ℕ) → i ≤ j → BeginsWith (published world j) (published world i)
published_grows world i j before =
    accepted_grows world (last_publish world i) (last_publish world j) (rises (last_publish world) (last_publish_step world) i j before)

-- what is accepted begins with what is published
pub accepted_published : (world : World) (i : ℕ) → BeginsWith (accepted world i) (published world i)
accepted_published world i = accepted_grows world (last_publish world i) i (last_publish-le world i)

pub front_length : {Thing : Type 0} (xs ys : List Thing) → BeginsWith ys xs → length xs ≤ length ys
front_length xs ys (rest, whole) = omega (arith, ap length whole, length-append xs rest)

-- ---- what a worker has met

-- no step lets a worker meet more than is published
pub met_by-le : (edition worker : ℕ) (o : Option Step) → met_by edition worker o ≤ edition
met_by-le edition worker None = omega arith
met_by-le edition worker (Some (Stage edit)) = omega arith
met_by-le edition worker (Some Publish) = omega arith
met_by-le edition worker (Some (Enter other)) = cond_both (other == worker) edition 0 (λ n. n ≤ edition) (λ yes. omega arith) (λ other_one. omega arith)
met_by-le edition worker (Some (Tell other told)) =
    cond_both (other == worker && nat_le told edition) told 0 (λ n. n ≤ edition) (λ yes. grind (arith, nat_tests)) (λ other_one. omega arith)
met_by-le edition worker (Some (Answer other t line)) = omega arith

pub most_met-le : (world : World) (worker i : ℕ) → most_met world worker i ≤ length (published world i)
most_met-le world worker zero = omega arith
most_met-le world worker (suc i) =
    max-le
    (le_trans (most_met-le world worker i) (front_length (published world i) (published world (suc i)) (published_grows world i (suc i) (omega arith))))
    (met_by-le (length (published world (suc i))) worker (step_at world (suc i)))

pub most_met_rises : (world : World) (worker i j : ℕ) → i ≤ j → most_met world worker i ≤ most_met world worker j
most_met_rises world worker = rises (most_met world worker) (λ i. le-max_left (most_met world worker i) (met world worker (suc i)))

-- what a worker has seen is the first of what is published
pub seen_is : (world : World) (worker i : ℕ) → seen world worker i ≡ take (most_met world worker i) (published world i)
seen_is world worker i =
    take_of_front (most_met world worker i) (published world i) (accepted world i) (accepted_published world i) (most_met-le world worker i)

-- and has as many edits as the worker met
pub length-seen : (world : World) (worker i : ℕ) → length (seen world worker i) ≡ most_met world worker i
length-seen world worker i =
    ap length (seen_is world worker i) ∙ length-take-le (most_met world worker i) (published world i) (most_met-le world worker i)

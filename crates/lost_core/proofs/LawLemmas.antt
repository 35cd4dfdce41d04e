-- Each world of steps is lawful.
use Rattle.std.proofs.Common.{◌≡◌, ◌≢◌, ℕ, zero, suc, ◌≤◌, Bool, true, false, ◌&&◌, List, [], ◌∷◌, ◌++◌, length, take, filter_map, ◌-◌, not, Option, Some, None, is_none, refl, sym, ap, subst, ◌∙◌, eq-eqb, le-leb, arith}
use Rattle.std.specs.Prelude.{nat_le, ◌==◌, fold}
use Rattle.std.proofs.Math.Nat.{le-max_right, le_trans}
use Rattle.std.proofs.lemmas.Bool.{cond_both, cond-true, and_parts}
use Rattle.std.proofs.lemmas.List.{take_all}
use Rattle.std.proofs.lemmas.Option.{none-some}
use Rattle.lost_spec.specs.declared.faults.EditError.{EditError}
use Rattle.lost_spec.specs.declared.faults.EditError.TheVariants.{IdentityHeld, IdentityUnknown, NotNewer, KeyHeld, KeyUnchanged, Full, EditsSpent, Memory, Withdrawn, TracesFull}
use Rattle.lost_spec.specs.Text.{first_fault}
use Rattle.lost_spec.specs.Book.{Limits, Book, Edit, Publish as PublishEdit, Replace, Withdraw, identity_of, held, is_held, is_spent, is_full, is_key_held, is_not_newer, is_not_after, is_key_unchanged, has_most_traces, withdrawn, refusal, after, accepts, is_accepted, empty_book, book_of}
use Rattle.lost_spec.specs.Laws.{BeginsWith}
use Rattle.lost_core.specs.World.{Step, Stage, Publish, Enter, Tell, Answer, Refused, World, step_at, staged_edit, keep, kept_of, accepted, published, last_publish, met_by, met, most_met, seen, staging, event_by}
use Rattle.lost_core.specs.Lawful.{WorldsAreLawful, PublishedIsAccepted, NoRefusalIsMemory}
use Rattle.lost_core.proofs.FrontLemmas.{begins_take, begins_fewer, one_of_two, take_of_front}
use Rattle.lost_core.proofs.WorldLemmas.{accepted_grows, accepted_published, published_grows, front_length, most_met-le, most_met_rises, seen_is, length-seen}

-- ---- what is seen

seen_is_published : (world : World) (worker i : ℕ) → BeginsWith (published world i) (seen world worker i)
seen_is_published world worker i =
    subst (λ l. BeginsWith (published world i) l) (sym (seen_is world worker i)) (begins_take (most_met world worker i) (published world i))

-- the first of what is accepted sooner are the first of what is accepted later
seen_later : (world : World) (worker i j : ℕ) → i ≤ j → take (most_met world worker i) (accepted world j) ≡ seen world worker i
seen_later world worker i j before =
    take_of_front (most_met world worker i) (accepted world i) (accepted world j) (accepted_grows world i j before)
    (le_trans (most_met-le world worker i) (front_length (published world i) (accepted world i) (accepted_published world i)))

seen_grows : (world : World) (worker i j : ℕ) → i ≤ j → BeginsWith (seen world worker j) (seen world worker i)
seen_grows world worker i j before =
    subst (λ l. BeginsWith (seen world worker j) l) (seen_later world worker i j before)
    (begins_fewer (most_met world worker i) (most_met world worker j) (accepted world j) (most_met_rises world worker i j before))

-- ---- entering and learning

met_entering : (edition worker : ℕ) (o : Option Step) → o ≡ Some (Enter worker) → met_by edition worker o ≡ edition
met_entering edition worker o is = ap (met_by edition worker) is ∙ cond-true (worker == worker) edition 0 (eq-eqb worker worker refl)

enters : (world : World) (worker i : ℕ) → step_at world i ≡ Some (Enter worker) → seen world worker i ≡ published world i
enters world worker zero is = absurd (none-some (Enter worker) is)
enters world worker (suc i) is =
    let meets : met world worker (suc i) ≡ length (published world (suc i)) = met_entering (length (published world (suc i))) worker (step_at world (suc i)) is in
    let most : length (published world (suc i)) ≤ most_met world worker (suc i) = omega (arith, le-max_right (most_met world worker i) (met world worker (suc i))) in
    seen_is world worker (suc i) ∙ take_all (most_met world worker (suc i)) (published world (suc i)) most

and_true : (a b : Bool) → a ≡ true → b ≡ true → (a && b) ≡ true
and_true a b left right = rw (left, right) refl

met_learning : (edition worker told : ℕ) (o : Option Step) → o ≡ Some (Tell worker told) → told ≤ edition → met_by edition worker o ≡ told
met_learning edition worker told o is within =
    ap (met_by edition worker) is ∙ cond-true (worker == worker && nat_le told edition) told 0 (and_true (worker == worker) (nat_le told edition) (eq-eqb worker worker refl) (le-leb told edition within))

learns : (world : World) (worker told i : ℕ) → step_at world i ≡ Some (Tell worker told) → told ≤ length (published world i) → told ≤ length (seen world worker i)
learns world worker told zero is within = absurd (none-some (Tell worker told) is)
learns world worker told (suc i) is within =
    let meets : met world worker (suc i) ≡ told = met_learning (length (published world (suc i))) worker told (step_at world (suc i)) is within in
    let most : told ≤ most_met world worker (suc i) = omega (arith, le-max_right (most_met world worker i) (met world worker (suc i))) in
    omega (arith, length-seen world worker (suc i))

-- ---- the laws

pub lawful : WorldsAreLawful
lawful world = record {
  seen_is_published = seen_is_published world;
  seen_grows = seen_grows world;
  published_grows = published_grows world;
  enters = enters world;
  learns = learns world;
  one_list = λ worker other i. one_of_two (most_met world worker i) (most_met world other i) (accepted world i);
}

-- ---- what is published is accepted by the book

accepts_push : (b : Book) (es : List Edit) (e : Edit) → accepts b es ≡ true → is_none (refusal (fold after b es) e) ≡ true → accepts b (es ++ e ∷ []) ≡ true
accepts_push b [] e all here = and_true (is_none (refusal b e)) true here refl
accepts_push b (first ∷ es) e all here =
    let parts = and_parts (is_none (refusal b first)) (accepts (after b first) es) all in
    and_true (is_none (refusal b first)) (accepts (after b first) (es ++ e ∷ [])) parts.0 (accepts_push (after b first) es e parts.1 here)

keep_accepted : (limits : Limits) (kept : List Edit) (edit : Edit) → is_accepted limits kept ≡ true → is_accepted limits (keep limits kept edit) ≡ true
keep_accepted limits kept edit all =
    cond_both (is_none (refusal (book_of limits kept) edit)) (kept ++ edit ∷ []) kept (λ l. is_accepted limits l ≡ true)
    (λ taken. accepts_push (empty_book limits) kept edit all taken)
    (λ refused. all)

kept_accepted : (limits : Limits) (kept es : List Edit) → is_accepted limits kept ≡ true → is_accepted limits (kept_of limits kept es) ≡ true
kept_accepted limits kept [] all = all
kept_accepted limits kept (e ∷ es) all = kept_accepted limits (keep limits kept e) es (keep_accepted limits kept e all)

pub published_accepted : PublishedIsAccepted
published_accepted world i =
    kept_accepted world.limits [] (filter_map staged_edit (take (last_publish world i) world.steps)) refl

-- ---- no refusal is want of memory

-- no check has this fault
abbrev AreOther : {Fault : Type 0} → Fault → List (Bool × Fault) → Type 0
AreOther fault [] = Unit {0}
AreOther fault (check ∷ checks) = (check.1 ≢ fault) × AreOther fault checks

never_first : {Fault : Type 0} (fault : Fault) (checks : List (Bool × Fault)) → AreOther fault checks → first_fault checks ≢ Some fault
never_first fault [] other e = cc
never_first fault ((true, here) ∷ checks) other e = other.0 (cc)
never_first fault ((false, here) ∷ checks) other e = never_first fault checks other.1 e

refusal_clear : (b : Book) (edit : Edit) → refusal b edit ≢ Some Memory
refusal_clear b (PublishEdit m) =
    let old = is_not_after (withdrawn b (identity_of m)) m.stamp in
    never_first Memory ((is_spent b, EditsSpent) ∷ (is_held b (identity_of m), IdentityHeld) ∷ (old, Withdrawn) ∷ (is_full b, Full) ∷ (is_key_held b (identity_of m) m.key, KeyHeld) ∷ [])
    ((λ e. cc), ((λ e. cc), ((λ e. cc), ((λ e. cc), ((λ e. cc), tt)))))
refusal_clear b (Replace m) =
    let had = held b (identity_of m) in
    never_first Memory ((is_spent b, EditsSpent) ∷ (not (is_held b (identity_of m)), IdentityUnknown) ∷ (is_not_newer had m.stamp, NotNewer) ∷ (is_key_held b (identity_of m) m.key, KeyHeld) ∷ (is_key_unchanged had m, KeyUnchanged) ∷ [])
    ((λ e. cc), ((λ e. cc), ((λ e. cc), ((λ e. cc), ((λ e. cc), tt)))))
refusal_clear b (Withdraw id stamp) =
    never_first Memory ((is_spent b, EditsSpent) ∷ (not (is_held b id), IdentityUnknown) ∷ (is_not_newer (held b id) stamp, NotNewer) ∷ (has_most_traces b, TracesFull) ∷ [])
    ((λ e. cc), ((λ e. cc), ((λ e. cc), ((λ e. cc), tt))))

staging_clear : (o : Option EditError) (pending : ℕ) → o ≢ Some Memory → staging o pending ≢ Refused Memory
staging_clear None pending clear e = cc
staging_clear (Some error) pending clear e = clear cc

event_clear : (world : World) (i : ℕ) (o : Option Step) → event_by world i o ≢ Refused Memory
event_clear world i None e = cc
event_clear world i (Some (Stage edit)) e =
    staging_clear (refusal (book_of world.limits (accepted world i)) edit) (length (accepted world (suc i)) - length (published world (suc i)))
    (refusal_clear (book_of world.limits (accepted world i)) edit) e
event_clear world i (Some Publish) e = cc
event_clear world i (Some (Enter worker)) e = cc
event_clear world i (Some (Tell worker told)) e = cc
event_clear world i (Some (Answer worker t line)) e = cc

pub no_memory : NoRefusalIsMemory
no_memory world zero e = cc
no_memory world (suc i) e = event_clear world i (step_at world (suc i)) e

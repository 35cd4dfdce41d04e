-- The laws of traces.
use Rattle.std.specs.Prelude.{ℕ, ◌≡◌, ◌≢◌, Bool, true, false, cond, not, ◌||◌, if◌then◌else◌, List, [], ◌∷◌, length, Option, Some, None, is_none, find}
use Rattle.std.specs.List.{AllByRecursion, list_any}
use Rattle.std.proofs.Common.{refl, sym, ap, subst, ◌∙◌, arith}
use Rattle.std.proofs.lemmas.Bool.{true≢false, false_from_ne_true}
use Rattle.std.proofs.lemmas.Option.{none-some}
use Rattle.lost_spec.specs.declared.faults.EditError.{EditError}
use Rattle.lost_spec.specs.declared.faults.EditError.TheVariants.{IdentityHeld, IdentityUnknown, NotNewer, KeyHeld, KeyUnchanged, Full, EditsSpent, Withdrawn, TracesFull}
use Rattle.lost_spec.specs.Moment.{Stamp, is_earlier}
use Rattle.lost_spec.specs.Mapping.{Mapping}
use Rattle.lost_spec.specs.Book.{Limits, Trace, Book, Identity, Edit, Publish, Replace, Withdraw, identity_of, has_identity, same_identity, is_held, is_spent, is_full, is_key_held, is_not_newer, is_not_after, is_key_unchanged, has_most_traces, held, withdrawn, stamp_of_trace, without, traces_after, refusal, changed, after, after_all, book_of}
use Rattle.lost_spec.specs.Text.{first_fault}
use Rattle.lost_spec.specs.Laws.{EachWithLater}
use Rattle.lost_spec.specs.BookLaws.{HasOtherIdentity, IsOfOtherIdentity, edited, IsInOrder}
use Rattle.lost_spec.specs.TraceLaws.{OtherTracesStay, WithdrawalLeavesATrace, IsPublishOf, IsNeverPublished, WithdrawnStaysWithdrawn}
use Rattle.lost_spec.proofs.IdentityLemmas.{same_identity-Decides, two_identities, has_identity-Decides}
use Rattle.lost_spec.proofs.TraceLemmas.{with_trace-once, stamp-with_trace, stamp-with_trace-other, with_trace-new, without_trace-once, stamp-without_trace-other}
use Rattle.lost_spec.proofs.EditLemmas.{untouched_stay_lem}
use Rattle.lost_spec.proofs.BookLemmas.{accepted_book, without-others}

-- ---- the traces of other identities

stamp-traces_after : (ts : List Trace) → EachWithLater IsOfOtherIdentity ts → (e : Edit) (id : Identity) → id ≢ edited e → stamp_of_trace (traces_after ts e) id ≡ stamp_of_trace ts id
stamp-traces_after ts once (Publish m) id differ = stamp-without_trace-other (identity_of m) id differ ts once
stamp-traces_after ts once (Replace m) id differ = refl
stamp-traces_after ts once (Withdraw own stamp) id differ = stamp-with_trace-other own stamp id differ ts

pub other_traces_stay_lem : OtherTracesStay
other_traces_stay_lem b e once id differ = by (is_none (refusal b e))
  where
    by : (accepted : Bool) → withdrawn (if accepted then changed b e else b) id ≡ withdrawn b id
    by true = stamp-traces_after b.traces once e id differ
    by false = refl

-- ---- what is held, and what is not

-- what holds of each identity of a list of mappings holds of one that is held
of_held : (P : Identity → Type 0) (id : Identity) (ms : List Mapping) → list_any (λ m. has_identity m id) ms ≡ true → AllByRecursion (λ m. P (identity_of m)) ms → P id
of_held P id [] h all = absurd (true≢false (sym h))
of_held P id (m ∷ ms) h all = by (has_identity m id) refl (λ rest. of_held P id ms rest all.1) h
  where
    by : (b : Bool) → has_identity m id ≡ b → (list_any (λ m. has_identity m id) ms ≡ true → P id) → (b || list_any (λ m. has_identity m id) ms) ≡ true → P id
    by true e rest h = subst P ((has_identity-Decides m id).0 e) all.0
    by false e rest h = rest h

-- what is found is held, and where nothing is found nothing is
not_held : (id : Identity) (ms : List Mapping) → find (λ m. has_identity m id) ms ≡ None → list_any (λ m. has_identity m id) ms ≡ false
not_held id [] none = refl
not_held id (m ∷ ms) none = by (has_identity m id) (not_held id ms) none
  where
    by : (b : Bool) → (find (λ m. has_identity m id) ms ≡ None → list_any (λ m. has_identity m id) ms ≡ false) → cond b (Some m) (find (λ m. has_identity m id) ms) ≡ None
        → (b || list_any (λ m. has_identity m id) ms) ≡ false
    by true rest h = absurd (none-some m (sym h))
    by false rest h = rest h

-- nothing is held of an identity after it is withdrawn, where each is held once
held-without : (id : Identity) (ms : List Mapping) → EachWithLater HasOtherIdentity ms → find (λ m. has_identity m id) (without id ms) ≡ None
held-without id ms once = none_found (without id ms) (without-others id ms once)
  where
    none_found : (ns : List Mapping) → AllByRecursion (λ m. identity_of m ≢ id) ns → find (λ m. has_identity m id) ns ≡ None
    none_found [] all = refl
    none_found (n ∷ ns) all = ap (λ b. cond b (Some n) (find (λ m. has_identity m id) ns)) (false_from_ne_true (has_identity n id) (λ t. all.0 ((has_identity-Decides n id).0 t))) ∙ none_found ns all.1

-- ---- an accepted withdrawal

-- it is of an identity that is held
withdraw_of_held : (b : Book) (id : Identity) (stamp : Stamp) → refusal b (Withdraw id stamp) ≡ None → is_held b id ≡ true
withdraw_of_held b id stamp none = grind arith

accepted_is : (b : Book) (e : Edit) → refusal b e ≡ None → after b e ≡ changed b e
accepted_is b e none = ap (λ o. if is_none o then changed b e else b) none

refused_is : (b : Book) (e : Edit) → refusal b e ≢ None → after b e ≡ b
refused_is b e some = by (refusal b e) some
  where
    by : (o : Option EditError) → o ≢ None → (if is_none o then changed b e else b) ≡ b
    by None some = absurd (some refl)
    by (Some fault) some = refl

pub withdrawal_leaves_a_trace_lem : WithdrawalLeavesATrace
withdrawal_leaves_a_trace_lem limits es id stamp accepted none =
    let b = book_of limits es in
    let order = accepted_book limits es accepted in
    ap (λ (c : Book). c.traces) (accepted_is b (Withdraw id stamp) none)
    ∙ with_trace-new id stamp b.traces (of_held (λ i. withdrawn b i ≡ None) id b.mappings (withdraw_of_held b id stamp none) order.held_untraced)

-- ---- what was withdrawn stays withdrawn

-- the identity has the trace and is not held, and no identity has two traces
record IsGone (id : Identity) (stamp : Stamp) (b : Book) : Type 0 where
  pub traced : withdrawn b id ≡ Some stamp
  pub unheld : held b id ≡ None
  pub once : EachWithLater IsOfOtherIdentity b.traces

-- a replacement and a withdrawal of what is not held are refused
unknown_replaced : (b : Book) (m : Mapping) → is_held b (identity_of m) ≡ false → refusal b (Replace m) ≢ None
unknown_replaced b m none = by (is_spent b)
  where
    rest : Option EditError
    rest = first_fault ((is_not_newer (held b (identity_of m)) m.stamp, NotNewer) ∷ (is_key_held b (identity_of m) m.key, KeyHeld) ∷ (is_key_unchanged (held b (identity_of m)) m, KeyUnchanged) ∷ [])

    unknown : (if not (is_held b (identity_of m)) then Some IdentityUnknown else rest) ≡ Some IdentityUnknown
    unknown = ap (λ h. if not h then Some IdentityUnknown else rest) none

    by : (spent : Bool) → (if spent then Some EditsSpent else (if not (is_held b (identity_of m)) then Some IdentityUnknown else rest)) ≢ None
    by true h = absurd (none-some EditsSpent (sym h))
    by false h = absurd (none-some IdentityUnknown (sym h ∙ unknown))

unknown_withdrawn : (b : Book) (id : Identity) (stamp : Stamp) → is_held b id ≡ false → refusal b (Withdraw id stamp) ≢ None
unknown_withdrawn b id stamp none = by (is_spent b)
  where
    rest : Option EditError
    rest = first_fault ((is_not_newer (held b id) stamp, NotNewer) ∷ (has_most_traces b, TracesFull) ∷ [])

    unknown : (if not (is_held b id) then Some IdentityUnknown else rest) ≡ Some IdentityUnknown
    unknown = ap (λ h. if not h then Some IdentityUnknown else rest) none

    by : (spent : Bool) → (if spent then Some EditsSpent else (if not (is_held b id) then Some IdentityUnknown else rest)) ≢ None
    by true h = absurd (none-some EditsSpent (sym h))
    by false h = absurd (none-some IdentityUnknown (sym h ∙ unknown))

-- an edit of what is gone is refused, if it is no accepted publish
gone_refuses : (id : Identity) (stamp : Stamp) (b : Book) (e : Edit) → IsGone id stamp b → edited e ≡ id → (IsPublishOf id e → refusal b e ≢ None) → refusal b e ≢ None
gone_refuses id stamp b (Publish m) gone own never = never own
gone_refuses id stamp b (Replace m) gone own never = unknown_replaced b m (not_held (identity_of m) b.mappings (ap (held b) own ∙ gone.unheld))
gone_refuses id stamp b (Withdraw other later) gone own never = unknown_withdrawn b other later (not_held other b.mappings (ap (held b) own ∙ gone.unheld))

-- an edit keeps each trace once
once-traces_after : (ts : List Trace) → EachWithLater IsOfOtherIdentity ts → (e : Edit) → EachWithLater IsOfOtherIdentity (traces_after ts e)
once-traces_after ts once (Publish m) = without_trace-once (identity_of m) ts once
once-traces_after ts once (Replace m) = once
once-traces_after ts once (Withdraw id stamp) = with_trace-once id stamp ts once

once-after : (b : Book) (e : Edit) → EachWithLater IsOfOtherIdentity b.traces → EachWithLater IsOfOtherIdentity (after b e).traces
once-after b e once = by (is_none (refusal b e))
  where
    by : (accepted : Bool) → EachWithLater IsOfOtherIdentity (if accepted then changed b e else b).traces
    by true = once-traces_after b.traces once e
    by false = once

-- what is gone is gone after an edit that is no accepted publish of it
gone_after : (id : Identity) (stamp : Stamp) (b : Book) (e : Edit) → IsGone id stamp b → (IsPublishOf id e → refusal b e ≢ None) → IsGone id stamp (after b e)
gone_after id stamp b e gone never = by (same_identity (edited e) id) refl
  where
    by : (same : Bool) → same_identity (edited e) id ≡ same → IsGone id stamp (after b e)
    by true is =
        let own = (same_identity-Decides (edited e) id).0 is in
        subst (IsGone id stamp) (sym (refused_is b e (gone_refuses id stamp b e gone own never))) gone
    by false is =
        let differ : id ≢ edited e = λ h. two_identities (edited e) id is (sym h) in
        record {
          traced = other_traces_stay_lem b e gone.once id differ ∙ gone.traced;
          unheld = (untouched_stay_lem b e).held_stay id differ ∙ gone.unheld;
          once = once-after b e gone.once;
        }

gone_after_all : (id : Identity) (stamp : Stamp) (b : Book) (es : List Edit) → IsGone id stamp b → IsNeverPublished id b es → IsGone id stamp (after_all b es)
gone_after_all id stamp b [] gone never = gone
gone_after_all id stamp b (e ∷ es) gone never = gone_after_all id stamp (after b e) es (gone_after id stamp b e gone never.0) never.1

-- a publish of what is gone that is not stamped later is refused
gone_publish : (id : Identity) (stamp : Stamp) (b : Book) → IsGone id stamp b → (m : Mapping) → identity_of m ≡ id → is_earlier stamp.moment m.stamp.moment ≡ false → refusal b (Publish m) ≢ None
gone_publish id stamp b gone m own late = by (is_spent b) (is_held b (identity_of m))
  where
    rest : Option EditError
    rest = first_fault ((is_full b, Full) ∷ (is_key_held b (identity_of m) m.key, KeyHeld) ∷ [])

    traced : is_not_after (withdrawn b (identity_of m)) m.stamp ≡ true
    traced = ap (λ o. is_not_after o m.stamp) (ap (withdrawn b) own ∙ gone.traced) ∙ ap not late

    here : (if is_not_after (withdrawn b (identity_of m)) m.stamp then Some Withdrawn else rest) ≡ Some Withdrawn
    here = ap (λ t. if t then Some Withdrawn else rest) traced

    by : (spent is_there : Bool) → (if spent then Some EditsSpent else (if is_there then Some IdentityHeld else (if is_not_after (withdrawn b (identity_of m)) m.stamp then Some Withdrawn else rest))) ≢ None
    by true is_there h = absurd (none-some EditsSpent (sym h))
    by false true h = absurd (none-some IdentityHeld (sym h))
    by false false h = absurd (none-some Withdrawn (sym h ∙ here))

-- after an accepted withdrawal the identity is gone
gone_withdrawn : (limits : Limits) (n : ℕ) (b : Book) (id : Identity) (stamp : Stamp) → IsInOrder limits n b → refusal b (Withdraw id stamp) ≡ None → IsGone id stamp (after b (Withdraw id stamp))
gone_withdrawn limits n b id stamp order none =
    subst (IsGone id stamp) (sym (accepted_is b (Withdraw id stamp) none))
    (record {
      traced = stamp-with_trace id stamp b.traces;
      unheld = held-without id b.mappings order.identities_once;
      once = with_trace-once id stamp b.traces order.traces_once;
    })

pub withdrawn_stays_withdrawn_lem : WithdrawnStaysWithdrawn
withdrawn_stays_withdrawn_lem limits es id stamp accepted none later never =
    let b = book_of limits es in
    let gone = gone_after_all id stamp (after b (Withdraw id stamp)) later (gone_withdrawn limits (length es) b id stamp (accepted_book limits es accepted) none) never in
    record { remembered = gone.traced; refused = gone_publish id stamp (after_all (after b (Withdraw id stamp)) later) gone }

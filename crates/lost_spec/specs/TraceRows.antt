-- Rows of withdrawn identities, whose stamps a book remembers: the worked ones, and after them our own.
use Rattle.std.specs.Prelude.{◌≡◌, true, List, [], ◌∷◌, ◌++◌, Some, None, pos, codes}
use Rattle.lost_spec.specs.declared.faults.EditError.TheVariants.{IdentityHeld, IdentityUnknown, NotNewer, KeyHeld, Full, EditsSpent, Withdrawn, TracesFull}
use Rattle.lost_spec.specs.Moment.{Stamp}
use Rattle.lost_spec.specs.Mapping.{Mapping}
use Rattle.lost_spec.specs.Book.{Limits, Trace, Edit, Publish, Replace, Withdraw, limits_of, with_traces, withdrawn, refusal, book_of, is_accepted}
use Rattle.lost_spec.specs.Examples.{december, first_day, second_day, third_day, fourth_day, fifth_day, police, renewed, far_ring, mapping_a, mapping_b, mapping_c, usual_limits, ask, query, by_reference, found_reply}
use Rattle.lost_spec.specs.OwnRows.{called}

-- A as it is published again, with a later stamp
abbrev pub newer_a : Stamp → Mapping
newer_a stamp = record mapping_a { stamp = stamp }

-- A is published and withdrawn
abbrev pub gone_a : Stamp → List Edit
gone_a stamp = Publish mapping_a ∷ Withdraw (called (codes "A")) stamp ∷ []

-- a publish of an identity that was withdrawn is accepted only with a later stamp than the withdrawal's
abbrev pub PublishedAgain : Type 0
PublishedAgain =
    let gone = gone_a fourth_day in
    let again = gone ++ Publish (newer_a fifth_day) ∷ [] in
    (is_accepted usual_limits gone ≡ true)
    × (refusal (book_of usual_limits gone) (Publish mapping_a) ≡ Some Withdrawn)
    × (refusal (book_of usual_limits gone) (Publish (newer_a (december (codes "2025-12-04T00:00:00.0Z") (pos 20_426)))) ≡ Some Withdrawn)
    × (is_accepted usual_limits again ≡ true)
    × (ask again (query police (pos 5_000_000) (pos 5_000_000)) ≡ found_reply 3 (by_reference (codes "A-1") (newer_a fifth_day) ∷ []))

-- where as many traces as the limit are remembered, nothing more is withdrawn, until one of those identities is published
abbrev pub TracesLimit : Type 0
TracesLimit =
    let limits : Limits = record { mappings = 2; edits = 9; traces = 1 } in
    let one = Publish mapping_a ∷ Publish mapping_b ∷ Withdraw (called (codes "A")) second_day ∷ [] in
    let withdraw_b = Withdraw (called (codes "B")) second_day in
    (is_accepted limits one ≡ true)
    × (refusal (book_of limits one) withdraw_b ≡ Some TracesFull)
    × (is_accepted limits (one ++ Publish (newer_a third_day) ∷ withdraw_b ∷ []) ≡ true)

-- a stamp that is not later is refused before a want of room is
abbrev pub WithdrawnBeforeFull : Type 0
WithdrawnBeforeFull =
    let limits : Limits = record { mappings = 1; edits = 9; traces = 65_536 } in
    let full = gone_a second_day ++ Publish mapping_b ∷ [] in
    (limits_of 1 9 ≡ Some limits)
    × (is_accepted limits full ≡ true)
    × (refusal (book_of limits full) (Publish mapping_a) ≡ Some Withdrawn)
    × (refusal (book_of limits full) (Publish (newer_a third_day)) ≡ Some Full)

-- ---- our own

-- how many traces are allowed
abbrev pub AllowedTraces : Type 0
AllowedTraces =
    let limits : Limits = record { mappings = 2; edits = 9; traces = 65_536 } in
    (limits_of 2 9 ≡ Some limits)
    × (with_traces limits 1 ≡ Some (record { mappings = 2; edits = 9; traces = 1 }))
    × (with_traces limits 65_536 ≡ Some limits)
    × (with_traces limits 0 ≡ None)
    × (with_traces limits 65_537 ≡ None)

-- the new refusals among the others, in their order
abbrev pub TraceOrder : Type 0
TraceOrder =
    let limits : Limits = record { mappings = 9; edits = 4; traces = 1 } in
    let has_a1 : Mapping = record mapping_b { key = Some (codes "A-1") } in
    let key_taken = gone_a second_day ++ Publish has_a1 ∷ [] in
    let spent = key_taken ++ Publish mapping_c ∷ [] in
    (refusal (book_of limits key_taken) (Publish mapping_a) ≡ Some Withdrawn)
    × (refusal (book_of limits key_taken) (Publish (newer_a third_day)) ≡ Some KeyHeld)
    × (refusal (book_of limits key_taken) (Withdraw (called (codes "B")) first_day) ≡ Some NotNewer)
    × (refusal (book_of limits key_taken) (Withdraw (called (codes "B")) second_day) ≡ Some TracesFull)
    × (refusal (book_of limits key_taken) (Withdraw (called (codes "A")) third_day) ≡ Some IdentityUnknown)
    × (refusal (book_of limits key_taken) (Replace (newer_a third_day)) ≡ Some IdentityUnknown)
    × (refusal (book_of limits spent) (Publish mapping_a) ≡ Some EditsSpent)
    × (refusal (book_of limits spent) (Withdraw (called (codes "B")) second_day) ≡ Some EditsSpent)

-- a trace is of one identity: another source or another sourceId alone is another identity
abbrev pub OtherIdentities : Type 0
OtherIdentities =
    let book = book_of usual_limits (gone_a fourth_day) in
    (refusal book (Publish (record mapping_a { source = codes "other.example" })) ≡ None)
    × (refusal book (Publish (record mapping_a { source_id = codes "a" })) ≡ None)
    × (withdrawn book (record { source = codes "other.example"; source_id = codes "A" }) ≡ None)
    × (withdrawn book (called (codes "a")) ≡ None)
    × (withdrawn book (called (codes "A")) ≡ Some fourth_day)

-- what traces there are: a withdrawal adds one behind, a replacement changes none, and a publish takes its own away
abbrev pub WhichTraces : Type 0
WhichTraces =
    let three = Publish mapping_a ∷ Publish mapping_b ∷ Publish mapping_c ∷ [] in
    let two_gone = three ++ Withdraw (called (codes "A")) second_day ∷ Withdraw (called (codes "B")) third_day ∷ [] in
    let replaced = two_gone ++ Replace (renewed mapping_c second_day (codes "C-2") far_ring) ∷ [] in
    let a : Trace = (called (codes "A"), second_day) in
    let b : Trace = (called (codes "B"), third_day) in
    let c : Trace = (called (codes "C"), fourth_day) in
    let all_gone = replaced ++ Withdraw (called (codes "C")) fourth_day ∷ [] in
    ((book_of usual_limits three).traces ≡ [])
    × ((book_of usual_limits two_gone).traces ≡ a ∷ b ∷ [])
    × ((book_of usual_limits replaced).traces ≡ a ∷ b ∷ [])
    × ((book_of usual_limits all_gone).traces ≡ a ∷ b ∷ c ∷ [])
    × ((book_of usual_limits (all_gone ++ Publish (newer_a third_day) ∷ [])).traces ≡ c ∷ b ∷ [])
    × ((book_of usual_limits (all_gone ++ Publish (record mapping_c { stamp = fifth_day }) ∷ [])).traces ≡ a ∷ b ∷ [])
    × (refusal (book_of usual_limits all_gone) (Publish (record mapping_c { stamp = fourth_day })) ≡ Some Withdrawn)
    × (refusal (book_of usual_limits replaced) (Publish mapping_c) ≡ Some IdentityHeld)

-- A book with room accepts the two edits of a trace.
use Rattle.std.proofs.Common.{◌≡◌, ℕ, pos, ◌≤◌, ◌+◌, ◌-◌, Bool, true, false, not, ◌&&◌, ◌||◌, if◌then◌else◌, List, [], ◌∷◌, ◌++◌, length, Option, Some, None, nat_le, arith, refl, sym, ap, ◌∙◌, subst}
use Rattle.std.specs.Prelude.{find, is_none, ◌-ℤ◌}
use Rattle.std.specs.List.{list_any}
use Rattle.std.proofs.lemmas.Int.{ints}
use Rattle.lost_spec.specs.declared.faults.EditError.{EditError}
use Rattle.lost_spec.specs.declared.faults.EditError.TheVariants.{IdentityHeld, IdentityUnknown, NotNewer, KeyHeld, Full, EditsSpent, Withdrawn, TracesFull}
use Rattle.lost_spec.specs.Text.{Text, first_fault}
use Rattle.lost_spec.specs.Moment.{Instant, Stamp, is_earlier, number_at, days_of_years, days_of_months, moment_of}
use Rattle.lost_spec.specs.Mapping.{Mapping}
use Rattle.lost_spec.specs.Book.{Book, Identity, Publish, Withdraw, has_identity, identity_of, is_held, is_spent, is_full, is_key_held, is_not_after, is_not_newer, held, withdrawn, has_most_traces, changed, refusal, after, accepts, without_trace}
use Rattle.lost_spec.proofs.IdentityLemmas.{has_identity-Decides}
use Rattle.lost_export.specs.Traces.{earliest, placeholder_of, NoneIsEarlier, IsUnknown, HasRoom, TraceIsAccepted}
use Rattle.lost_export.proofs.PlaceholderLemmas.{identity_is, stamp_is, key_is, untraced}

-- ---- the earliest stamp

first_day : earliest.moment ≡ record { day = pos 0 -ℤ pos 719_162; nanosecond = 0 }
unfolding moment_of
first_day = refl

day_is : (text : Text) → (moment_of text).day ≡ pos (days_of_years (number_at text 0 4 - 1) + days_of_months (number_at text 0 4) (number_at text 5 7 - 1) + (number_at text 8 10 - 1)) -ℤ pos 719_162
unfolding moment_of
day_is text = refl

none_before : (at : Instant) (days since : ℕ) → at.day ≡ pos days -ℤ pos since → is_earlier at (record { day = pos 0 -ℤ pos since; nanosecond = 0 }) ≡ false
none_before at days since is = grind (arith, ints)

pub none_is_earlier : NoneIsEarlier
none_is_earlier text =
    ap (λ (first : Instant). is_earlier (moment_of text) first) first_day
    ∙ none_before (moment_of text) (days_of_years (number_at text 0 4 - 1) + days_of_months (number_at text 0 4) (number_at text 5 7 - 1) + (number_at text 8 10 - 1)) 719_162 (day_is text)

-- ---- the last mapping is held

either_none : (a b : Bool) → (a || b) ≡ false → (a ≡ false) × (b ≡ false)
either_none true b h = absurd (cc)
either_none false b h = (refl, h)

found_last : (identity : Identity) (m : Mapping) (ms : List Mapping) → list_any (λ n. has_identity n identity) ms ≡ false → has_identity m identity ≡ true → find (λ n. has_identity n identity) (ms ++ m ∷ []) ≡ Some m
found_last identity m [] none has = rw has refl
found_last identity m (old ∷ rest) none has =
    let parts = either_none (has_identity old identity) (list_any (λ n. has_identity n identity) rest) none in
    rw parts.0 (found_last identity m rest parts.1 has)

held_last : (identity : Identity) (m : Mapping) (ms : List Mapping) → has_identity m identity ≡ true → list_any (λ n. has_identity n identity) (ms ++ m ∷ []) ≡ true
held_last identity m [] has = rw has refl
held_last identity m (old ∷ rest) has = by (has_identity old identity) (held_last identity m rest has)
  where
    by : (b : Bool) → list_any (λ n. has_identity n identity) (rest ++ m ∷ []) ≡ true → (b || list_any (λ n. has_identity n identity) (rest ++ m ∷ [])) ≡ true
    by true later = refl
    by false later = later

-- ---- checks that all pass

free_publish : (spent there late full keyed : Bool) → spent ≡ false → there ≡ false → late ≡ false → full ≡ false → keyed ≡ false
    → first_fault ((spent, EditsSpent) ∷ (there, IdentityHeld) ∷ (late, Withdrawn) ∷ (full, Full) ∷ (keyed, KeyHeld) ∷ []) ≡ None
free_publish spent there late full keyed a b c d e = rw (a, b, c, d, e) refl

free_withdraw : (spent unknown late full : Bool) → spent ≡ false → unknown ≡ false → late ≡ false → full ≡ false
    → first_fault ((spent, EditsSpent) ∷ (unknown, IdentityUnknown) ∷ (late, NotNewer) ∷ (full, TracesFull) ∷ []) ≡ None
free_withdraw spent unknown late full a b c d = rw (a, b, c, d) refl

joined : (refused : Option EditError) (rest : Bool) → refused ≡ None → rest ≡ true → (is_none refused && rest) ≡ true
joined refused rest a b = rw (a, b) refl

not_spent : (edits limit : ℕ) → edits + 2 ≤ limit → nat_le limit edits ≡ false
not_spent edits limit h = grind arith

not_spent_then : (edits limit : ℕ) → edits + 2 ≤ limit → nat_le limit (edits + 1) ≡ false
not_spent_then edits limit h = grind arith

-- ---- the two edits

module _ (identity : Identity) (stamp : Stamp) (b : Book) (unknown : IsUnknown identity b.mappings b.traces) (room : HasRoom b) (later : is_earlier earliest.moment stamp.moment ≡ true) where
  first_free : refusal b (Publish (placeholder_of identity)) ≡ None
  first_free =
      let m = placeholder_of identity in
      let own = identity_is identity in
      free_publish (is_spent b) (is_held b (identity_of m)) (is_not_after (withdrawn b (identity_of m)) m.stamp) (is_full b) (is_key_held b (identity_of m) m.key)
      (not_spent b.edits b.limits.edits room.edits_left)
      (ap (is_held b) own ∙ unknown.not_held)
      (ap (λ trace. is_not_after trace m.stamp) (ap (withdrawn b) own ∙ unknown.no_trace))
      room.not_full
      (ap (is_key_held b (identity_of m)) (key_is identity))

  second_free : refusal (changed b (Publish (placeholder_of identity))) (Withdraw identity stamp) ≡ None
  second_free =
      let m = placeholder_of identity in
      let own = identity_is identity in
      let has = (has_identity-Decides m identity).1 own in
      let after_first = changed b (Publish m) in
      free_withdraw (is_spent after_first) (not (is_held after_first identity)) (is_not_newer (held after_first identity) stamp) (has_most_traces after_first)
      (not_spent_then b.edits b.limits.edits room.edits_left)
      (ap not (held_last identity m b.mappings has))
      (ap (λ old. is_not_newer old stamp) (found_last identity m b.mappings unknown.not_held has)
      ∙ (ap (λ (old : Stamp). not (is_earlier old.moment stamp.moment)) (stamp_is identity) ∙ ap not later))
      (ap (λ left. nat_le b.limits.traces (length left)) (ap (λ id. without_trace id b.traces) own ∙ untraced identity b.traces unknown.no_trace) ∙ room.traces_left)

  both_accepted : accepts b (Publish (placeholder_of identity) ∷ Withdraw identity stamp ∷ []) ≡ true
  both_accepted =
      let m = placeholder_of identity in
      let second_book : after b (Publish m) ≡ changed b (Publish m) = ap (λ refused. if is_none refused then changed b (Publish m) else b) first_free in
      joined (refusal b (Publish m)) (accepts (after b (Publish m)) (Withdraw identity stamp ∷ [])) first_free
      (subst (λ c. accepts c (Withdraw identity stamp ∷ []) ≡ true) (sym second_book) (joined (refusal (changed b (Publish m)) (Withdraw identity stamp)) true second_free refl))

pub trace_is_accepted : TraceIsAccepted
trace_is_accepted identity stamp b unknown room later = both_accepted identity stamp b unknown room later

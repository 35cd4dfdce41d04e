-- What the table of traces does, as the words of traces say it.
use Rattle.std.specs.Prelude.{◌≡◌, ℕ, zero, suc, ◌+◌, ◌-◌, Bool, true, false, cond, not, nat_lt, List, [], ◌∷◌, ◌++◌, length, take, drop, Some, None, slice_set, slice_get, slice_index_or, swap_remove}
use Rattle.std.specs.List.{AllByRecursion, position_or_len, IsDistinct}
use Rattle.std.specs.Option.{option_map_or}
use Rattle.std.specs.Map.{keys_of}
use Rattle.std.proofs.lemmas.Bool.{false_from_ne_true}
use Rattle.lost_spec.proofs.IdentityLemmas.{same_identity-Decides, two_identities}
use Rattle.std.proofs.Common.{refl, sym, ap, subst, ◌∙◌, arith}
use Rattle.std.proofs.lemmas.Option.{none-some, same_Some}
use Rattle.indexmap.specs.IndexMap.{insert_entry, swap_remove_entry}
use Rattle.lost_spec.specs.Moment.{Stamp}
use Rattle.lost_spec.specs.Book.{Identity, Trace, same_identity, with_trace, last_first, without_trace}

-- an insertion notes a trace
pub inserted : (id : Identity) (stamp : Stamp) (ts : List Trace) → insert_entry same_identity ts id stamp ≡ with_trace id stamp ts
inserted id stamp [] = refl
inserted id stamp (t ∷ ts) = ap (λ us. cond (same_identity id t.0) ((t.0, stamp) ∷ ts) (t ∷ us)) (inserted id stamp ts)

-- ---- a trace taken out, with the last in its place

-- the last of a list stands alone when all before it is dropped
last_alone : (d u : Trace) (us : List Trace) → drop (length us) (u ∷ us) ≡ slice_index_or (u ∷ us) (length us) d ∷ []
last_alone d u [] = refl
last_alone d u (v ∷ us) = last_alone d v us

-- what is given for a position past the end does not matter within the list
last_is : (d e u : Trace) (us : List Trace) → slice_index_or (u ∷ us) (length us) d ≡ slice_index_or (u ∷ us) (length us) e
last_is d e u [] = refl
last_is d e u (v ∷ us) = last_is d e v us

-- the first is taken out
swapped_first : (t : Trace) (ts : List Trace) → swap_remove (t ∷ ts) 0 t ≡ last_first ts
swapped_first t [] = refl
swapped_first t (u ∷ us) =
    let two : suc (suc (length us)) - 1 ≡ suc (length us) = omega arith in
    let one : suc (length us) - 1 ≡ length us = omega arith in
    rw (two, one) (sym (ap (λ l. l ++ take (length us) (u ∷ us)) (last_alone t u us)))

-- a later one is taken out
swapped_later : (t u : Trace) (us : List Trace) (i : ℕ) → swap_remove (t ∷ u ∷ us) (suc i) t ≡ t ∷ swap_remove (u ∷ us) i u
swapped_later t u us i =
    let two : suc (suc (length us)) - 1 ≡ suc (length us) = omega arith in
    let one : suc (length us) - 1 ≡ length us = omega arith in
    rw (two, one) (ap (λ l. t ∷ take (length us) (slice_set (u ∷ us) i l)) (last_is t u u us))

-- a position in a list and the next in a longer one
swapped_next : (t u : Trace) (us : List Trace) (there : Bool) (i : ℕ)
    → option_map_or (λ k. swap_remove (t ∷ u ∷ us) k t) (cond there (Some (suc i)) None) (t ∷ u ∷ us) ≡ t ∷ option_map_or (λ k. swap_remove (u ∷ us) k u) (cond there (Some i) None) (u ∷ us)
swapped_next t u us true i = swapped_later t u us i
swapped_next t u us false i = refl

first_below : (count : ℕ) → nat_lt 0 (suc count) ≡ true
first_below count = grind arith

below_next : (i count : ℕ) → nat_lt (suc i) (suc count) ≡ nat_lt i count
below_next i count = grind arith

-- the same as it is found, past a trace of another identity
swapped_past : (id : Identity) (t : Trace) (ts : List Trace) (i : ℕ) → i ≡ position_or_len (same_identity id) (keys_of ts)
    → option_map_or (λ k. swap_remove (t ∷ ts) k t) (cond (nat_lt (suc i) (suc (length (keys_of ts)))) (Some (suc i)) None) (t ∷ ts) ≡ t ∷ swap_remove_entry (same_identity id) ts
swapped_past id t [] i is = rw is refl
swapped_past id t (u ∷ us) i is =
    let count = length (keys_of (u ∷ us)) in
    ap (λ there. option_map_or (λ k. swap_remove (t ∷ u ∷ us) k t) (cond there (Some (suc i)) None) (t ∷ u ∷ us)) (below_next i count)
    ∙ swapped_next t u us (nat_lt i count) i
    ∙ ap (λ n. t ∷ option_map_or (λ k. swap_remove (u ∷ us) k u) (cond (nat_lt n count) (Some n) None) (u ∷ us)) is

-- a removal that puts the last in the place takes a trace out
pub swapped : (id : Identity) (ts : List Trace) → swap_remove_entry (same_identity id) ts ≡ without_trace id ts
swapped id [] = refl
swapped id (t ∷ ts) = by (same_identity id t.0) (swapped id ts)
  where
    at : ℕ
    at = position_or_len (same_identity id) (keys_of ts)

    next : 1 + at ≡ suc at
    next = omega arith

    by : (b : Bool) → swap_remove_entry (same_identity id) ts ≡ without_trace id ts
        → option_map_or (λ k. swap_remove (t ∷ ts) k t) (cond (nat_lt (cond (not b) (1 + at) 0) (suc (length (keys_of ts)))) (Some (cond (not b) (1 + at) 0)) None) (t ∷ ts)
        ≡ cond b (last_first ts) (t ∷ without_trace id ts)
    by true rest = ap (λ there. option_map_or (λ k. swap_remove (t ∷ ts) k t) (cond there (Some 0) None) (t ∷ ts)) (first_below (length (keys_of ts))) ∙ swapped_first t ts
    by false rest = ap (λ k. option_map_or (λ k. swap_remove (t ∷ ts) k t) (cond (nat_lt k (suc (length (keys_of ts)))) (Some k) None) (t ∷ ts)) next ∙ swapped_past id t ts at refl ∙ ap (λ us. t ∷ us) rest

-- ---- traces copied one by one

-- identities that are not the same in one order are not in the other
same_identity_sym : (a b : Identity) → same_identity a b ≡ false → same_identity b a ≡ false
same_identity_sym a b fails = false_from_ne_true (same_identity b a) (λ t. two_identities a b fails (sym ((same_identity-Decides b a).0 t)))

-- what holds of each identity holds of that of a trace among them
holds_at : (P : Identity → Type 0) (ts : List Trace) (i : ℕ) (t : Trace) → AllByRecursion P (keys_of ts) → slice_get ts i ≡ Some t → P t.0
holds_at P [] i t all at = absurd (none-some t at)
holds_at P (u ∷ ts) zero t all at = subst (λ (x : Trace). P x.0) (same_Some u t at) all.0
holds_at P (u ∷ ts) (suc i) t all at = holds_at P ts i t all.1 at

-- a trace is noted behind those in front of it
copied_next : (ts : List Trace) (i : ℕ) (t : Trace) → IsDistinct same_identity (keys_of ts) → slice_get ts i ≡ Some t → with_trace t.0 t.1 (take i ts) ≡ take (suc i) ts
unfolding IsDistinct
copied_next [] i t distinct at = absurd (none-some t at)
copied_next (u ∷ ts) zero t distinct at = ap (λ (x : Trace). x ∷ []) (sym (same_Some u t at))
copied_next (u ∷ ts) (suc i) t distinct at =
    let apart : same_identity t.0 u.0 ≡ false = same_identity_sym u.0 t.0 (holds_at (λ id. same_identity u.0 id ≡ false) ts i t distinct.0 at) in
    ap (λ b. cond b ((u.0, t.1) ∷ take i ts) (u ∷ with_trace t.0 t.1 (take i ts))) apart ∙ ap (λ us. u ∷ us) (copied_next ts i t distinct.1 at)

pub copied_more : (ts : List Trace) (i : ℕ) (t : Trace) → IsDistinct same_identity (keys_of ts) → slice_get ts i ≡ Some t → with_trace t.0 t.1 (take i ts) ≡ take (i + 1) ts
copied_more ts i t distinct at = let next : i + 1 ≡ suc i = omega arith in rw next (copied_next ts i t distinct at)

-- ---- the table as it is seen

-- what a removal from the table leaves, where it is seen as these traces
pub forgets : (id : Identity) (ts entries new : List Trace) → entries ≡ ts → new ≡ swap_remove_entry (same_identity id) entries → new ≡ without_trace id ts
forgets id ts entries new seen removed = removed ∙ swapped id entries ∙ ap (without_trace id) seen

-- what an insertion into the table leaves
pub remembers : (id : Identity) (stamp : Stamp) (ts entries new : List Trace) → entries ≡ ts → new ≡ insert_entry same_identity entries id stamp → new ≡ with_trace id stamp ts
remembers id stamp ts entries new seen put = put ∙ inserted id stamp entries ∙ ap (with_trace id stamp) seen

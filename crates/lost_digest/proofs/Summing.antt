-- Sums of digests, modulo their number.
use Rattle.std.proofs.Common.{◌≡◌, ℕ, ◌+◌, ◌-◌, ◌%◌, ◌<◌, ◌^◌, Bool, true, false, List, [], ◌∷◌, ◌++◌, Some, None, find, take, slice_get, refl, sym, ap, ◌∙◌, arith}
use Rattle.std.specs.List.{sum_by}
use Rattle.std.proofs.lemmas.List.Sums.{sum_by-cons, sum_by_push}
use Rattle.std.proofs.lemmas.List.{take_more}
use Rattle.std.proofs.lemmas.Option.{slice_get_within, get_or_from_slice_get}
use Rattle.std.proofs.Math.Nat.{add-mod_right, mod-add-mod}
use Rattle.md5.specs.Md5.{md5, digest_bytes}
use Rattle.lost_spec.specs.Book.{Identity, identity_of, has_identity, replaced, without}
use Rattle.lost_spec.specs.Mapping.{Mapping}
use Rattle.lost_digest.specs.Digest.{mapping_digest, map_digest, with_mapping, without_mapping, digests}

-- a digest has 128 bits
pub digest_fits : (m : Mapping) → mapping_digest m < 2 ^ 128
unfolding mapping_digest md5 digest_bytes
digest_fits m = omega arith

-- ---- numbers

-- one less, modulo n
pub one_less : (n sum part rest : ℕ) → part < n → sum ≡ rest + part → (sum % n + (n - part)) % n ≡ rest % n
one_less n sum part rest fits is =
    let whole : sum + (n - part) ≡ rest + n = omega (arith, is, fits) in
    mod-add-mod sum n (n - part) ∙ ap (λ k. k % n) whole ∙ add-mod_right rest n

-- one in the place of another, modulo n
pub one_for_one : (n sum part other rest : ℕ) → part < n → sum + other ≡ rest + part → ((sum % n + (n - part)) % n + other) % n ≡ rest % n
one_for_one n sum part other rest fits is =
    let whole : sum + (n - part) + other ≡ rest + n = omega (arith, is, fits) in
    ap (λ k. (k + other) % n) (mod-add-mod sum n (n - part)) ∙ mod-add-mod (sum + (n - part)) n other ∙ ap (λ k. k % n) whole ∙ add-mod_right rest n

-- ---- lists of mappings

module _ (value : Mapping → ℕ) where
  -- the sum without the mapping that has this identity
  abbrev IsWithout : Identity → Mapping → List Mapping → Type 0
  IsWithout id old held = find (λ m. has_identity m id) held ≡ Some old → sum_by value held ≡ sum_by value (without id held) + value old

  without_step : (id : Identity) (old m : Mapping) (rest : List Mapping) (b : Bool) → has_identity m id ≡ b → IsWithout id old rest → IsWithout id old (m ∷ rest)
  without_step id old m rest true is later found =
      let same : m ≡ old = cc (is, found) in
      let left : without id (m ∷ rest) ≡ rest = rw is refl in
      rw (left, sum_by-cons value m rest, same) (omega arith)
  without_step id old m rest false is later found =
      let there : find (λ m. has_identity m id) rest ≡ Some old = rw is at found in
      let left : without id (m ∷ rest) ≡ m ∷ without id rest = rw is refl in
      rw (left, sum_by-cons value m rest, sum_by-cons value m (without id rest)) (omega (arith, later there))

  pub sum_without : (id : Identity) (held : List Mapping) (old : Mapping) → find (λ m. has_identity m id) held ≡ Some old → sum_by value held ≡ sum_by value (without id held) + value old
  sum_without id [] old found = absurd (cc found)
  sum_without id (m ∷ rest) old found = without_step id old m rest (has_identity m id) refl (sum_without id rest old) found

  -- the sum with a mapping in the place of the one that has its identity
  abbrev IsReplaced : Mapping → Mapping → List Mapping → Type 0
  IsReplaced new old held = find (λ m. has_identity m (identity_of new)) held ≡ Some old → sum_by value held + value new ≡ sum_by value (replaced new held) + value old

  replaced_step : (new old m : Mapping) (rest : List Mapping) (b : Bool) → has_identity m (identity_of new) ≡ b → IsReplaced new old rest → IsReplaced new old (m ∷ rest)
  replaced_step new old m rest true is later found =
      let same : m ≡ old = cc (is, found) in
      let put : replaced new (m ∷ rest) ≡ new ∷ rest = rw is refl in
      rw (put, sum_by-cons value m rest, sum_by-cons value new rest, same) (omega arith)
  replaced_step new old m rest false is later found =
      let there : find (λ m. has_identity m (identity_of new)) rest ≡ Some old = rw is at found in
      let put : replaced new (m ∷ rest) ≡ m ∷ replaced new rest = rw is refl in
      rw (put, sum_by-cons value m rest, sum_by-cons value m (replaced new rest)) (omega (arith, later there))

  pub sum_replaced : (new : Mapping) (held : List Mapping) (old : Mapping) → find (λ m. has_identity m (identity_of new)) held ≡ Some old → sum_by value held + value new ≡ sum_by value (replaced new held) + value old
  sum_replaced new [] old found = absurd (cc found)
  sum_replaced new (m ∷ rest) old found = replaced_step new old m rest (has_identity m (identity_of new)) refl (sum_replaced new rest old) found

-- the digest of the mappings up to a place, with the one there
pub sum_more : (held : List Mapping) (i : ℕ) (m : Mapping) → slice_get held i ≡ Some m → map_digest (take (i + 1) held) ≡ with_mapping (map_digest (take i held)) m
sum_more held i m is =
    let more : take (i + 1) held ≡ take i held ++ m ∷ [] = take_more held i m (slice_get_within held i m is) ∙ ap (λ x. take i held ++ x ∷ []) (get_or_from_slice_get held i m m is) in
    ap map_digest more ∙ ap (λ sum. sum % digests) (sum_by_push mapping_digest (take i held) m) ∙ sym (mod-add-mod (sum_by mapping_digest (take i held)) digests (mapping_digest m))

-- ---- what an edit does

by_replaced : (new m : Mapping) (rest : List Mapping) (b : Bool) → has_identity m (identity_of new) ≡ b → find (λ m. has_identity m (identity_of new)) (m ∷ rest) ≡ None
    → (find (λ m. has_identity m (identity_of new)) rest ≡ None → replaced new rest ≡ rest) → replaced new (m ∷ rest) ≡ m ∷ rest
by_replaced new m rest true is none later = absurd (cc (is, none))
by_replaced new m rest false is none later = let there : find (λ m. has_identity m (identity_of new)) rest ≡ None = rw is at none in rw is (ap (λ l. m ∷ l) (later there))

by_without : (id : Identity) (m : Mapping) (rest : List Mapping) (b : Bool) → has_identity m id ≡ b → find (λ m. has_identity m id) (m ∷ rest) ≡ None
    → (find (λ m. has_identity m id) rest ≡ None → without id rest ≡ rest) → without id (m ∷ rest) ≡ m ∷ rest
by_without id m rest true is none later = absurd (cc (is, none))
by_without id m rest false is none later = let there : find (λ m. has_identity m id) rest ≡ None = rw is at none in rw is (ap (λ l. m ∷ l) (later there))

-- what is not there is not replaced, and not taken away
pub nothing_replaced : (new : Mapping) (held : List Mapping) → find (λ m. has_identity m (identity_of new)) held ≡ None → replaced new held ≡ held
nothing_replaced new [] none = refl
nothing_replaced new (m ∷ rest) none = by_replaced new m rest (has_identity m (identity_of new)) refl none (nothing_replaced new rest)

pub nothing_without : (id : Identity) (held : List Mapping) → find (λ m. has_identity m id) held ≡ None → without id held ≡ held
nothing_without id [] none = refl
nothing_without id (m ∷ rest) none = by_without id m rest (has_identity m id) refl none (nothing_without id rest)

pub digest_published : (held : List Mapping) (m : Mapping) → with_mapping (map_digest held) m ≡ map_digest (held ++ m ∷ [])
digest_published held m = mod-add-mod (sum_by mapping_digest held) digests (mapping_digest m) ∙ sym (ap (λ sum. sum % digests) (sum_by_push mapping_digest held m))

pub digest_replaced : (held : List Mapping) (new old : Mapping) → find (λ m. has_identity m (identity_of new)) held ≡ Some old
    → with_mapping (without_mapping (map_digest held) old) new ≡ map_digest (replaced new held)
digest_replaced held new old found =
    one_for_one digests (sum_by mapping_digest held) (mapping_digest old) (mapping_digest new) (sum_by mapping_digest (replaced new held)) (digest_fits old) (sum_replaced mapping_digest new held old found)

pub digest_withdrawn : (held : List Mapping) (id : Identity) (old : Mapping) → find (λ m. has_identity m id) held ≡ Some old → without_mapping (map_digest held) old ≡ map_digest (without id held)
digest_withdrawn held id old found =
    one_less digests (sum_by mapping_digest held) (mapping_digest old) (sum_by mapping_digest (without id held)) (digest_fits old) (sum_without mapping_digest id held old found)

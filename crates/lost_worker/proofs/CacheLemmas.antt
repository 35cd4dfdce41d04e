-- What a cache of places keeps after each of its calls.
use Rattle.std.proofs.Common.{◌≡◌, ℕ, Bool, true, false, ◌⊎◌, inl, inr, List, [], ◌∷◌, Option, Some, None, Contains, Result, Ok, Err, OnOk, OnErr, refl, sym, ap, subst, ◌∙◌, ⊎_elim}
use Rattle.std.specs.Map.{lookup, lookup_entry, remove_entry}
use Rattle.lru.specs.LruCache.{LruCache, lru_cache, promoted, put_entries}
use Rattle.lru.proofs.CallerLemmas.{IsPut, Contains-lookup, Contains-promoted, Contains-put_entries}
use Rattle.lru.proofs.Splits.{Contains-head, Contains-tail, Contains-cons, Contains-nil}
use Rattle.lost_spec.specs.Place.{Place as Seen}
use Rattle.lost_spec.specs.Holders.{Entry}
use Rattle.lost_location.specs.declared.place.Place.{Place}
use Rattle.lost_location.specs.contracts.place.PlacePartialEq.TheImpl.{ghosts}
use Rattle.lost_location.specs.Place.{place_of}
use Rattle.lost_location.proofs.EqualPlaces.{equal_places}
use Rattle.lost_desk.specs.Sets.{entry, KeepsTheSame}
use Rattle.lost_worker.specs.declared.place_cache.Kept.{Kept}
use Rattle.lost_worker.specs.Cached.{entry_of, IsKeptIn}

same_entry : (a b : ℕ) (p q : Seen) (s t : List ℕ) → a ≡ b → p ≡ q → s ≡ t → entry a p s ≡ entry b q t
same_entry a b p q s t one two three = cc (one, two, three)

-- what is found, of an edition and a place, is the entry of that edition and place
pub found_is_kept : (test : ℕ → Bool) (pairs : List (ℕ × Kept)) (place : Place) (kept : Kept) (edition : ℕ) (set : List ℕ)
    → lookup test pairs ≡ Some kept → kept.edition ≡ edition → ghosts.eq kept.place place ≡ true → set ≡ kept.set.items → IsKeptIn pairs (entry edition (place_of place) set)
found_is_kept test pairs place kept edition set found of at is =
    let there = Contains-lookup test pairs kept found in
    let same : place_of kept.place ≡ place_of place = equal_places kept.place place at in
    (there.0, kept, there.1, same_entry edition kept.edition (place_of place) (place_of kept.place) set kept.set.items (sym of) (sym same) is)

-- a pair is the first one whose key passes, or one of the others
first_or_other : (test : ℕ → Bool) (pairs : List (ℕ × Kept)) (first pair : ℕ × Kept) → lookup_entry test pairs ≡ Some first → Contains pairs pair
    → (first ≡ pair) ⊎ Contains (remove_entry test pairs) pair
first_or_other test [] first pair found there = absurd (Contains-nil pair there)
first_or_other test (p ∷ ps) first pair found there = by (test p.0) refl (Contains-cons p ps pair there) (λ found' later. first_or_other test ps first pair found' later)
  where
    by : (b : Bool) → test p.0 ≡ b → (p ≡ pair) ⊎ Contains ps pair
        → (lookup_entry test ps ≡ Some first → Contains ps pair → (first ≡ pair) ⊎ Contains (remove_entry test ps) pair)
        → (first ≡ pair) ⊎ Contains (remove_entry test (p ∷ ps)) pair
    by true passes (inl same) deeper = let found' = rw passes at found in let is : p ≡ first = cc in inl (sym is ∙ same)
    by true passes (inr later) deeper = rw passes (inr later)
    by false passes (inl same) deeper = rw passes (inr (subst (λ q. Contains (q ∷ remove_entry test ps) pair) (sym same) (Contains-head pair (remove_entry test ps))))
    by false passes (inr later) deeper = rw passes (elim (deeper (rw passes at found) later) [
      | inl same ↦ inl same
      | inr other ↦ inr (Contains-tail p (remove_entry test ps) pair other)
    ])

-- a pair is still there where one goes to the front
promoted_has : (test : ℕ → Bool) (pairs : List (ℕ × Kept)) (pair : ℕ × Kept) → Contains pairs pair → Contains (promoted test pairs) pair
promoted_has test pairs pair there = by (lookup_entry test pairs) refl
  where
    by : (found : Option (ℕ × Kept)) → lookup_entry test pairs ≡ found → Contains (promoted test pairs) pair
    by None found = rw found there
    by (Some first) found = rw found (elim (first_or_other test pairs first pair found there) [
      | inl same ↦ subst (λ q. Contains (q ∷ remove_entry test pairs) pair) (sym same) (Contains-head pair (remove_entry test pairs))
      | inr other ↦ Contains-tail first (remove_entry test pairs) pair other
    ])

-- where an entry goes to the front, the same are kept
pub promoted_keeps : (test : ℕ → Bool) (pairs : List (ℕ × Kept)) → KeepsTheSame (IsKeptIn pairs) (IsKeptIn (promoted test pairs))
promoted_keeps test pairs e = (
  λ k. (k.0, k.1, Contains-promoted test pairs (k.0, k.1) k.2, k.3),
  λ k. (k.0, k.1, promoted_has test pairs (k.0, k.1) k.2, k.3),
)

module _ (eq : ℕ → ℕ → Bool) (c : LruCache ℕ Kept) (hash : ℕ) (new : Kept) where
  -- each entry after a set is put was kept before, or is that of the set
  pub put_keeps : (e : Entry) → IsKeptIn (put_entries eq c hash new) e → IsKeptIn c.entries e ⊎ (e ≡ entry_of new)
  put_keeps e k =
      ⊎_elim (λ (was : Contains c.entries (k.0, k.1)). inl (k.0, k.1, was, k.3)) (λ (put : IsPut eq c hash new (k.0, k.1)). inr (k.3 ∙ ap entry_of put.0))
      (Contains-put_entries eq c hash new (k.0, k.1) k.2)

  -- and where memory is refused, nothing changed
  pub put_or_not : {X Y : Type 0} (r : Result X Y) (after : LruCache ℕ Kept) → OnOk r (after ≡ lru_cache (put_entries eq c hash new) c.cap) → OnErr r (after ≡ c)
      → (e : Entry) → IsKeptIn after.entries e → IsKeptIn c.entries e ⊎ (e ≡ entry_of new)
  put_or_not (Ok x) after ok err e k = put_keeps e (subst (λ l. IsKeptIn l.entries e) ok k)
  put_or_not (Err y) after ok err e k = inl (subst (λ l. IsKeptIn l.entries e) err k)

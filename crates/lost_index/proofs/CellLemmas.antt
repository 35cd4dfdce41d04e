-- What is noted where the cell of one key changes.
use Rattle.std.proofs.Common.{◌≡◌, ◌≢◌, ◌⊎◌, inl, inr, ℕ, Bool, true, false, cond, Option, None, Some, IfSome, List, [], ◌∷◌, nat_eq, ◌&&◌, ◌||◌, refl, sym, subst, ap, arith, ⊎_elim, ◌∙◌}
use Rattle.std.specs.Cmp.{IsEquivalence}
use Rattle.std.specs.HashMap.{HashMap, get}
use Rattle.std.specs.HashMap.Eq.{lookup_congr}
use Rattle.std.proofs.lemmas.Bool.{false≢true, and_parts, and_from}
use Rattle.std.proofs.lemmas.Bool.Decides.{nat_tests}
use Rattle.lost_index.specs.declared.note.Note.{Note}
use Rattle.lost_index.specs.Notes.{notes_of, is_note, has_note, HasNote, HasNoEmptyList, KeepsNotes, AddsAtMost, TakesBack, TakesOut}
use Rattle.lost_index.proofs.NoteLemmas.{is_itself}

-- a note is found by its own number and outline
pub first_noted : {O : Type 0} (same : O → O → Bool) → ((o : O) → same o o ≡ true) → (note : Note O) (notes : List (Note O))
    → has_note same note.number note.outline (note ∷ notes) ≡ true
first_noted same itself note notes = rw (is_itself same itself note) refl

-- so a cell that keeps what is noted has a note where it had one
pub some_kept : {O : Type 0} (same : O → O → Bool) → ((o : O) → same o o ≡ true) → (old new : List (Note O))
    → ((number : ℕ) (outline : O) → has_note same number outline old ≡ true → has_note same number outline new ≡ true) → old ≢ [] → new ≢ []
some_kept same itself [] new keeps some = λ none. some refl
some_kept same itself (note ∷ notes) new keeps some = λ none.
    false≢true (subst (λ l. has_note same note.number note.outline l ≡ true) none (keeps note.number note.outline (first_noted same itself note notes)))

if_same : {X : Type 0} (P : X → Type 0) (a b : Option X) → a ≡ b → IfSome a P → IfSome b P
if_same P a b same h = subst (λ o. IfSome o P) same h

-- what is listed first is there
some_first : {X : Type 0} (x : X) (xs : List X) → (x ∷ xs) ≡ [] → ⊥
some_first x xs h = cc

pub is_some_first : {X : Type 0} (x : X) (list xs : List X) → list ≡ x ∷ xs → list ≢ []
is_some_first x list xs is = λ none. some_first x xs (sym is ∙ none)

-- nothing is noted where nothing is
pub nothing_noted : {O : Type 0} (same : O → O → Bool) (n : ℕ) (o : O) (notes : List (Note O)) → notes ≡ [] → has_note same n o notes ≡ true → ⊥
nothing_noted same n o notes none h = false≢true (subst (λ l. has_note same n o l ≡ true) none h)

apart_number : (number other : ℕ) → nat_eq number other ≡ false → nat_eq other number ≡ true → ⊥
apart_number number other apart same = grind (arith, nat_tests)

module _ {K O S : Type 0} (eq : K → K → Bool) (congr : (x y z : K) → eq x y ≡ true → eq x z ≡ eq y z) (same : O → O → Bool)
    (old new : HashMap K (List (Note O)) S) (key : K) (cell : List (Note O)) (now : Option (List (Note O)))
    (found : notes_of (get eq old key) ≡ cell) (updates : (k : K) → get eq new k ≡ cond (eq key k) now (get eq old k)) where
  before_at : (k : K) → eq key k ≡ true → notes_of (get eq old k) ≡ cell
  before_at k here = ap notes_of (sym (lookup_congr eq congr old.entries key k here)) ∙ found

  now_at : (k : K) → eq key k ≡ true → get eq new k ≡ now
  now_at k here = updates k ∙ ap (λ b. cond b now (get eq old k)) here

  -- under other keys all is as it was
  pub elsewhere : (k : K) → eq key k ≡ false → get eq new k ≡ get eq old k
  elsewhere k apart = updates k ∙ ap (λ b. cond b now (get eq old k)) apart

  -- what is noted stays, where it stays in the cell
  pub noted_along : (k : K) (n : ℕ) (o : O) → (eq key k ≡ true → has_note same n o cell ≡ true → has_note same n o (notes_of now) ≡ true)
      → HasNote eq same old k n o → HasNote eq same new k n o
  noted_along k n o stays noted = by_key (eq key k) refl
    where
      by_key : (b : Bool) → eq key k ≡ b → HasNote eq same new k n o
      by_key true here = subst (λ c. has_note same n o (notes_of c) ≡ true) (sym (now_at k here))
          (stays here (subst (λ l. has_note same n o l ≡ true) (before_at k here) noted))
      by_key false apart = subst (λ c. has_note same n o (notes_of c) ≡ true) (sym (elsewhere k apart)) noted

  -- what is noted under the key now is in the cell
  pub noted_here : (k : K) (n : ℕ) (o : O) → eq key k ≡ true → HasNote eq same new k n o → has_note same n o (notes_of now) ≡ true
  noted_here k n o here noted = subst (λ c. has_note same n o (notes_of c) ≡ true) (now_at k here) noted

  -- and what is noted anywhere was, or is in the cell
  pub noted_back : (k : K) (n : ℕ) (o : O) → HasNote eq same new k n o
      → (HasNote eq same old k n o) ⊎ ((eq key k ≡ true) × (has_note same n o (notes_of now) ≡ true))
  noted_back k n o noted = by_key (eq key k) refl
    where
      by_key : (b : Bool) → eq key k ≡ b → (HasNote eq same old k n o) ⊎ ((eq key k ≡ true) × (has_note same n o (notes_of now) ≡ true))
      by_key true here = inr (here, noted_here k n o here noted)
      by_key false apart = inl (subst (λ c. has_note same n o (notes_of c) ≡ true) (elsewhere k apart) noted)

  -- what is in the cell was noted under the key
  pub noted_there : (k : K) (n : ℕ) (o : O) → eq key k ≡ true → has_note same n o cell ≡ true → HasNote eq same old k n o
  noted_there k n o here stands = subst (λ l. has_note same n o l ≡ true) (sym (before_at k here)) stands

  -- no list is empty, where the new one is not
  pub listed_along : IfSome now (λ notes. notes ≢ []) → HasNoEmptyList eq old → HasNoEmptyList eq new
  listed_along some listed k = by_key (eq key k) refl
    where
      by_key : (b : Bool) → eq key k ≡ b → IfSome (get eq new k) (λ notes. notes ≢ [])
      by_key true here = if_same (λ notes. notes ≢ []) now (get eq new k) (sym (now_at k here)) some
      by_key false apart = if_same (λ notes. notes ≢ []) (get eq old k) (get eq new k) (sym (elsewhere k apart)) (listed k)

module _ {K O S : Type 0} (eq : K → K → Bool) (equals : IsEquivalence eq) (same : O → O → Bool)
    (old new : HashMap K (List (Note O)) S) (key : K) (cell cell' : List (Note O)) (note : Note O)
    (found : notes_of (get eq old key) ≡ cell) (updates : (k : K) → get eq new k ≡ cond (eq key k) (Some cell') (get eq old k)) where
  -- a cell with a note more at most
  pub AddsAtMost-cell : (HasNoEmptyList eq old → cell' ≢ [])
      → ((n : ℕ) (o : O) → has_note same n o cell' ≡ true → has_note same n o (note ∷ cell) ≡ true)
      → AddsAtMost eq same note.number (λ k o. same o note.outline && eq k key) old new
  AddsAtMost-cell some only = record {
    own = λ k o noted. own_at k o (noted_back eq equals.congr same old new key cell (Some cell') found updates k note.number o noted);
    others = λ k n o apart noted. others_at k n o apart (noted_back eq equals.congr same old new key cell (Some cell') found updates k n o noted);
    no_empty = λ listed. listed_along eq equals.congr same old new key cell (Some cell') found updates (some listed) listed;
  }
    where
      new_or_old : (k : K) (n : ℕ) (o : O) → eq key k ≡ true → (b : Bool) → is_note same n o note ≡ b → (b || has_note same n o cell) ≡ true
          → (HasNote eq same old k n o) ⊎ (is_note same n o note ≡ true)
      new_or_old k n o here true is stands = inr is
      new_or_old k n o here false is stands = inl (noted_there eq equals.congr same old new key cell (Some cell') found updates k n o here stands)

      own_at : (k : K) (o : O) → (HasNote eq same old k note.number o) ⊎ ((eq key k ≡ true) × (has_note same note.number o cell' ≡ true))
          → (HasNote eq same old k note.number o) ⊎ ((same o note.outline && eq k key) ≡ true)
      own_at k o (inl was) = inl was
      own_at k o (inr at) = ⊎_elim inl
          (λ is. inr (and_from (same o note.outline) (eq k key) (and_parts (nat_eq note.number note.number) (same o note.outline) is).1 (equals.symm k key ∙ at.0)))
          (new_or_old k note.number o at.0 (is_note same note.number o note) refl (only note.number o at.1))

      others_at : (k : K) (n : ℕ) (o : O) → nat_eq note.number n ≡ false
          → (HasNote eq same old k n o) ⊎ ((eq key k ≡ true) × (has_note same n o cell' ≡ true)) → HasNote eq same old k n o
      others_at k n o apart (inl was) = was
      others_at k n o apart (inr at) = ⊎_elim (λ was. was)
          (λ is. absurd (apart_number note.number n apart (and_parts (nat_eq n note.number) (same o note.outline) is).0))
          (new_or_old k n o at.0 (is_note same n o note) refl (only n o at.1))

-- ---- where the notes of a key's cell were taken out
module _ {K O S : Type 0} (eq : K → K → Bool) (equals : IsEquivalence eq) (same : O → O → Bool) (old mid : HashMap K (List (Note O)) S) (key : K)
    (elsewhere : (k : K) → eq key k ≡ false → get eq mid k ≡ get eq old k) (noted : KeepsNotes eq same mid old) where
  -- the cell stays, if it has notes
  pub TakesBack-left : IfSome (get eq mid key) (λ notes. notes ≢ []) → TakesBack eq same old mid
  TakesBack-left some = record { noted = noted; no_empty = λ listed k. by_key listed k (eq key k) refl }
    where
      by_key : HasNoEmptyList eq old → (k : K) (b : Bool) → eq key k ≡ b → IfSome (get eq mid k) (λ notes. notes ≢ [])
      by_key listed k true here = if_same (λ notes. notes ≢ []) (get eq mid key) (get eq mid k) (lookup_congr eq equals.congr mid.entries key k here) some
      by_key listed k false apart = if_same (λ notes. notes ≢ []) (get eq old k) (get eq mid k) (sym (elsewhere k apart)) (listed k)

  -- and goes, if it has none
  module _ (new : HashMap K (List (Note O)) S) (empty : notes_of (get eq mid key) ≡ []) (updates : (k : K) → get eq new k ≡ cond (eq key k) None (get eq mid k)) where
    back : (k : K) (n : ℕ) (o : O) → HasNote eq same new k n o → HasNote eq same mid k n o
    back k n o stands =
        ⊎_elim (λ was. was) (λ at. absurd (nothing_noted same n o [] refl at.1)) (noted_back eq equals.congr same mid new key [] None empty updates k n o stands)

    along : (k : K) (n : ℕ) (o : O) → HasNote eq same mid k n o → HasNote eq same new k n o
    along k n o stands =
        noted_along eq equals.congr same mid new key [] None empty updates k n o (λ here none. absurd (nothing_noted same n o [] refl none)) stands

    pub TakesBack-emptied : TakesBack eq same old new
    TakesBack-emptied = record { noted = λ k n o stands. noted k n o (back k n o stands); no_empty = λ listed k. by_key listed k (eq key k) refl }
      where
        by_key : HasNoEmptyList eq old → (k : K) (b : Bool) → eq key k ≡ b → IfSome (get eq new k) (λ notes. notes ≢ [])
        by_key listed k true here = if_same (λ notes. notes ≢ []) None (get eq new k) (sym (updates k ∙ ap (λ b. cond b None (get eq mid k)) here)) tt
        by_key listed k false apart =
            if_same (λ notes. notes ≢ []) (get eq old k) (get eq new k) (sym (updates k ∙ ap (λ b. cond b None (get eq mid k)) apart ∙ elsewhere k apart)) (listed k)

    pub TakesOut-emptied : {R : Type 0} (cover_of : R → List K) (outline_of : R → O) (number : ℕ) (regions : List R) (at : K → Bool)
        → TakesOut eq same cover_of outline_of number regions at old mid → TakesOut eq same cover_of outline_of number regions at old new
    TakesOut-emptied cover_of outline_of number regions at taken = record {
      others = λ k n o apart stands. along k n o (taken.others k n o apart stands);
      remaining = λ k n o under stands. along k n o (taken.remaining k n o under stands);
      gone = λ k o here stands. taken.gone k o here (back k number o stands);
    }

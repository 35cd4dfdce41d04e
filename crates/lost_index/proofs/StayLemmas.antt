-- Which notes a cell has where those of a number were taken out, but for those of regions that have the cell's key.
use Rattle.std.proofs.Common.{◌≡◌, ⊎_elim, ℕ, Bool, true, false, not, ◌&&◌, cond, Some, List, filter, nat_eq, Contains, refl, sym, ap, subst, arith, ◌∙◌}
use Rattle.std.specs.Cmp.{IsEquivalence}
use Rattle.std.specs.HashMap.{HashMap, get}
use Rattle.std.specs.List.{list_any}
use Rattle.std.proofs.lemmas.Bool.{and_parts, and_from, or_right, eqb-true}
use Rattle.std.proofs.lemmas.Bool.Decides.{nat_tests}
use Rattle.std.proofs.lemmas.Map.Views.{any-filter_same}
use Rattle.lost_index.specs.declared.note.Note.{Note}
use Rattle.lost_index.specs.Notes.{notes_of, is_note, has_note, covers_with, stays, HasNote, IsUnder, KeepsNotes, KeepsOthers, KeepsUnder, IsNotedOnlyFor, TakesOut}
use Rattle.lost_index.proofs.CellLemmas.{noted_along, noted_back, noted_here, noted_there}
use Rattle.lost_index.proofs.NoteChangeLemmas.{any-from_contained, any-alike}

apart_from : (number other here : ℕ) → nat_eq number other ≡ false → nat_eq other here ≡ true → nat_eq number here ≡ false
apart_from number other here apart same = grind (arith, nat_tests)

module _ {R K O : Type 0} (eq : K → K → Bool) (same : O → O → Bool)
    (symm : (o other : O) → same o other ≡ same other o) (congr : (o other third : O) → same o other ≡ true → same o third ≡ same other third)
    (cover_of : R → List K) (outline_of : R → O) (number : ℕ) (regions : List R) (key : K) (notes : List (Note O)) where
  abbrev test : Note O → Bool
  test note = stays eq same cover_of outline_of number regions key note

  abbrev covered : O → Bool
  covered outline = covers_with eq same cover_of outline_of regions key outline

  -- those of another number
  pub others_stay : (other : ℕ) (outline : O) → nat_eq number other ≡ false
      → has_note same other outline (filter test notes) ≡ has_note same other outline notes
  others_stay other outline apart =
      any-filter_same (is_note same other outline) test true
      (λ note is. rw (apart_from number other note.number apart (and_parts (nat_eq other note.number) (same outline note.outline) is).0) refl) notes

  -- those of a region that stays
  pub regions_stay : (other : ℕ) (region : R) → Contains regions region → list_any (eq key) (cover_of region) ≡ true
      → has_note same other (outline_of region) (filter test notes) ≡ has_note same other (outline_of region) notes
  regions_stay other region stands has =
      any-filter_same (is_note same other (outline_of region)) test true
      (λ note is. or_right (not (nat_eq number note.number)) (covered note.outline)
      (any-from_contained (λ r. same note.outline (outline_of r) && list_any (eq key) (cover_of r)) regions region stands
      (and_from (same note.outline (outline_of region)) (list_any (eq key) (cover_of region))
      (symm note.outline (outline_of region) ∙ (and_parts (nat_eq other note.number) (same (outline_of region) note.outline) is).1) has))) notes

  -- those of the number, for such a region alone
  pub own_stay : (outline : O) → has_note same number outline (filter test notes) ≡ (covered outline && has_note same number outline notes)
  own_stay outline =
      any-filter_same (is_note same number outline) test (covered outline)
      (λ note is.
      let parts = and_parts (nat_eq number note.number) (same outline note.outline) is in
      rw parts.0
      (any-alike (λ r. same note.outline (outline_of r) && list_any (eq key) (cover_of r)) (λ r. same outline (outline_of r) && list_any (eq key) (cover_of r))
      (λ r. ap (λ b. b && list_any (eq key) (cover_of r)) (sym (congr outline note.outline (outline_of r) parts.1))) regions)) notes

  -- and no others
  pub were_noted : (other : ℕ) (outline : O) → has_note same other outline (filter test notes) ≡ true → has_note same other outline notes ≡ true
  were_noted other outline stands = by_number (nat_eq number other) refl
    where
      by_number : (b : Bool) → nat_eq number other ≡ b → has_note same other outline notes ≡ true
      by_number false apart = sym (others_stay other outline apart) ∙ stands
      by_number true here =
          let own : has_note same other outline (filter test notes) ≡ (covered outline && has_note same other outline notes) =
          subst (λ n. has_note same n outline (filter test notes) ≡ (covered outline && has_note same n outline notes)) (eqb-true number other here) (own_stay outline) in
          (and_parts (covered outline) (has_note same other outline notes) (sym own ∙ stands)).1

-- ---- and what is noted where the cell of one key became such a one
module _ {R K O S : Type 0} (eq : K → K → Bool) (equals : IsEquivalence eq) (same : O → O → Bool) (alike : IsEquivalence same)
    (cover_of : R → List K) (outline_of : R → O) (number : ℕ) (regions : List R)
    (old new : HashMap K (List (Note O)) S) (key : K) (cell cell' : List (Note O))
    (found : notes_of (get eq old key) ≡ cell) (updates : (k : K) → get eq new k ≡ cond (eq key k) (Some cell') (get eq old k))
    (is : cell' ≡ filter (stays eq same cover_of outline_of number regions key) cell) where
  abbrev along : (k : K) (n : ℕ) (o : O) → (eq key k ≡ true → has_note same n o cell ≡ true → has_note same n o cell' ≡ true)
      → HasNote eq same old k n o → HasNote eq same new k n o
  along k n o = noted_along eq equals.congr same old new key cell (Some cell') found updates k n o

  filtered : (n : ℕ) (o : O) → has_note same n o (filter (stays eq same cover_of outline_of number regions key) cell) ≡ true → has_note same n o cell' ≡ true
  filtered n o stands = subst (λ l. has_note same n o l ≡ true) (sym is) stands

  KeepsOthers-taken : KeepsOthers eq same number old new
  KeepsOthers-taken k n o apart noted =
      along k n o (λ here stands. filtered n o (others_stay eq same alike.symm alike.congr cover_of outline_of number regions key cell n o apart ∙ stands)) noted

  KeepsUnder-taken : KeepsUnder eq same (IsUnder cover_of outline_of regions) old new
  KeepsUnder-taken k n o under noted =
      along k n o (λ here stands.
      let has = any-from_contained (eq key) (cover_of under.region) k under.covered here in
      subst (λ outline. has_note same n outline cell' ≡ true) (sym under.outlined)
      (filtered n (outline_of under.region)
      (regions_stay eq same alike.symm alike.congr cover_of outline_of number regions key cell n under.region under.stands has
      ∙ subst (λ outline. has_note same n outline cell ≡ true) under.outlined stands))) noted

  pub KeepsNotes-taken : KeepsNotes eq same new old
  KeepsNotes-taken k n o noted =
      ⊎_elim (λ was. was)
      (λ at. noted_there eq equals.congr same old new key cell (Some cell') found updates k n o at.0
      (were_noted eq same alike.symm alike.congr cover_of outline_of number regions key cell n o (subst (λ l. has_note same n o l ≡ true) is at.1)))
      (noted_back eq equals.congr same old new key cell (Some cell') found updates k n o noted)

  IsNotedOnlyFor-taken : IsNotedOnlyFor eq same cover_of outline_of number regions (λ k. eq k key) new
  IsNotedOnlyFor-taken k o at noted =
      let here : eq key k ≡ true = equals.symm key k ∙ at in
      let stands = noted_here eq equals.congr same old new key cell (Some cell') found updates k number o here noted in
      let own : covers_with eq same cover_of outline_of regions key o ≡ true =
      (and_parts (covers_with eq same cover_of outline_of regions key o) (has_note same number o cell)
      (sym (own_stay eq same alike.symm alike.congr cover_of outline_of number regions key cell o) ∙ subst (λ l. has_note same number o l ≡ true) is stands)).0 in
      sym (any-alike (λ r. same o (outline_of r) && list_any (eq key) (cover_of r)) (λ r. same o (outline_of r) && list_any (eq k) (cover_of r))
      (λ r. ap (λ b. same o (outline_of r) && b) (any-alike (eq key) (eq k) (λ z. equals.congr key k z here) (cover_of r))) regions) ∙ own

  pub TakesOut-taken : TakesOut eq same cover_of outline_of number regions (λ k. eq k key) old new
  TakesOut-taken = record { others = KeepsOthers-taken; remaining = KeepsUnder-taken; gone = IsNotedOnlyFor-taken }

-- Which kinds of keys are marked, and that nothing is noted under keys of other kinds.
use Rattle.std.proofs.Common.{◌≡◌, ℕ, ◌+◌, ◌<◌, Bool, true, false, ◌&&◌, cond, List, [], ◌∷◌, ◌++◌, length, take, filter, get_or, All, Contains, refl, sym, ap, subst, ◌∙◌}
use Rattle.std.specs.HashMap.{HashMap, get}
use Rattle.std.specs.List.{list_any, flat_map}
use Rattle.std.proofs.lemmas.Bool.{false≢true, and_parts}
use Rattle.std.proofs.lemmas.List.{append-nil}
use Rattle.std.proofs.lemmas.List.Concat.{flat_map-append}
use Rattle.std.proofs.lemmas.List.Elements.{All-contains, All-more, filter_more}
use Rattle.std.proofs.lemmas.List.Folds.{Any-from_list_any}
use Rattle.lost_index.specs.declared.note.Note.{Note}
use Rattle.lost_index.specs.Entries.{regions_of}
use Rattle.lost_index.specs.Kinds.{has_kind, KeepsKinds, HasKindsOf, IsMarked}
use Rattle.lost_index.specs.Notes.{notes_of, has_note, HasNote, covers_with, numbers_near, IsIndexed}
use Rattle.lost_index.proofs.CellLemmas.{first_noted}
use Rattle.lost_index.proofs.HoldingLemmas.{there_if}

-- ---- what is marked

-- one element more of a list, where those before it keep what they have
pub All-more_kept : {X : Type 0} (P Q : X → Type 0) (xs : List X) (i : ℕ) (x : X) → i < length xs → x ≡ get_or xs i x
    → ((y : X) → P y → Q y) → All P (take i xs) → Q x → All Q (take (i + 1) xs)
All-more_kept P Q xs i x within is keeps before here =
    All-more Q xs i x within (λ k d at. keeps (get_or (take i xs) k d) (before k d at)) (subst Q is here)

module _ {R K : Type 0} (is_region : R → Type 0) (cover_of : R → List K) (kind_of : K → ℕ) where
  -- kinds of keys that were marked are
  pub HasKindsOf-kept : (old new : List Bool) (keys : List K) → KeepsKinds old new → HasKindsOf kind_of old keys → HasKindsOf kind_of new keys
  HasKindsOf-kept old new keys keeps before k d within = keeps (kind_of (get_or keys k d)) (before k d within)

  -- regions with such keys are marked
  pub are_marked : (kinds : List Bool) (regions : List R) → All is_region regions → All (λ region. HasKindsOf kind_of kinds (cover_of region)) regions
      → All (IsMarked is_region cover_of kind_of kinds) regions
  are_marked kinds regions lawful marked k d within = record { lawful = lawful k d within; marked = marked k d within }

  -- an index stays one where more is marked
  pub IsIndexed-marked : {O S : Type 0} (outline_of : R → O) (eq : K → K → Bool) (same : O → O → Bool) (held : List (ℕ × List R)) (cells : HashMap K (List (Note O)) S)
      (old new : List Bool) → KeepsKinds old new → IsIndexed (IsMarked is_region cover_of kind_of old) cover_of outline_of eq same held cells
      → IsIndexed (IsMarked is_region cover_of kind_of new) cover_of outline_of eq same held cells
  IsIndexed-marked outline_of eq same held cells old new keeps indexed = record {
    are_regions = λ number regions found region stands.
        let was = indexed.are_regions number regions found region stands in
        record { lawful = was.lawful; marked = HasKindsOf-kept old new (cover_of region) keeps was.marked };
    have_notes = indexed.have_notes;
    only_notes = indexed.only_notes;
    no_empty = indexed.no_empty;
  }

-- ---- what is found under the keys of marked kinds

-- those that fail add nothing
flat_map-filter : {X A : Type 0} (f : X → List A) (p : X → Bool) (xs : List X) → ((x : X) → p x ≡ false → f x ≡ []) → flat_map f (filter p xs) ≡ flat_map f xs
flat_map-filter f p [] none = refl
flat_map-filter f p (x ∷ xs) none = by_test (p x) refl (flat_map-filter f p xs none)
  where
    by_test : (b : Bool) → p x ≡ b → flat_map f (filter p xs) ≡ flat_map f xs → flat_map f (cond b (x ∷ filter p xs) (filter p xs)) ≡ f x ++ flat_map f xs
    by_test true passes rest = ap (λ l. f x ++ l) rest
    by_test false fails rest = rest ∙ ap (λ l. l ++ flat_map f xs) (sym (none x fails))

-- and one element more that passes adds what it gives
pub flat_map-filter_more : {X A : Type 0} (f : X → List A) (p : X → Bool) (xs : List X) (i : ℕ) (x : X) (old new : List A) → i < length xs → x ≡ get_or xs i x → p x ≡ true
    → old ≡ flat_map f (filter p (take i xs)) → new ≡ old ++ f x → new ≡ flat_map f (filter p (take (i + 1) xs))
flat_map-filter_more f p xs i x old new within is passes before added =
    added ∙ ap (λ l. l ++ f x) before ∙ ap (λ l. flat_map f (filter p (take i xs)) ++ l) (sym (append-nil (f x)))
    ∙ sym (flat_map-append f (filter p (take i xs)) (x ∷ []))
    ∙ sym (ap (flat_map f)
    (filter_more p xs i x within ∙ ap (λ y. filter p (take i xs) ++ cond (p y) (y ∷ []) []) (sym is) ∙ ap (λ b. filter p (take i xs) ++ cond b (x ∷ []) []) passes))

module _ {R K O S : Type 0} (is_region : R → Type 0) (cover_of : R → List K) (outline_of : R → O) (eq : K → K → Bool) (same : O → O → Bool)
    (kind_of : K → ℕ) (kinds : List Bool) (held : List (ℕ × List R)) (cells : HashMap K (List (Note O)) S)
    (indexed : IsIndexed (IsMarked is_region cover_of kind_of kinds) cover_of outline_of eq same held cells)
    (of_one_kind : (key other : K) → eq key other ≡ true → kind_of key ≡ kind_of other) (itself : (o : O) → same o o ≡ true) where
  -- the kind of a key with a note is marked
  noted_marked : (key : K) (n : ℕ) (o : O) → HasNote eq same cells key n o → has_kind kinds (kind_of key) ≡ true
  noted_marked key n o noted =
      let there = there_if (λ regions. covers_with eq same cover_of outline_of regions key o) (regions_of held n) (indexed.only_notes key n o noted) in
      let any = Any-from_list_any (λ region. same o (outline_of region) && list_any (eq key) (cover_of region)) there.0 there.2 in
      let stands : Contains there.0 any.1 = (any.0, any.2, any.3) in
      let at = Any-from_list_any (eq key) (cover_of any.1) (and_parts (same o (outline_of any.1)) (list_any (eq key) (cover_of any.1)) any.4).1 in
      let covered : Contains (cover_of any.1) at.1 = (at.0, at.2, at.3) in
      ap (has_kind kinds) (of_one_kind key at.1 at.4)
      ∙ All-contains (λ k. has_kind kinds (kind_of k) ≡ true) (cover_of any.1) at.1 (indexed.are_regions n there.0 there.1 any.1 stands).marked covered

  -- so a key of another kind has none
  none_by : (key : K) (notes : List (Note O)) → notes_of (get eq cells key) ≡ notes → has_kind kinds (kind_of key) ≡ false → notes_of (get eq cells key) ≡ []
  none_by key [] is unmarked = is
  none_by key (note ∷ notes) is unmarked =
      absurd (false≢true (sym unmarked
      ∙ noted_marked key note.number note.outline
      (subst (λ l. has_note same note.number note.outline l ≡ true) (sym is) (first_noted same itself note notes))))

  -- and nothing is missed where such keys are passed over
  pub found_all : (near : O → Bool) (probes : List K)
      → flat_map (λ key. numbers_near near (notes_of (get eq cells key))) (filter (λ key. has_kind kinds (kind_of key)) probes)
      ≡ flat_map (λ key. numbers_near near (notes_of (get eq cells key))) probes
  found_all near probes =
      flat_map-filter (λ key. numbers_near near (notes_of (get eq cells key))) (λ key. has_kind kinds (kind_of key)) probes
      (λ key unmarked. ap (numbers_near near) (none_by key (notes_of (get eq cells key)) refl unmarked))

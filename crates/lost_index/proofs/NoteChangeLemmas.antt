-- That notes are there, region by region, and key by key.
use Rattle.std.proofs.Common.{◌≡◌, ℕ, ◌+◌, ◌<◌, inl, inr, Bool, true, List, [], ◌∷◌, ◌++◌, length, take, get_or, All, Contains, refl, sym, subst, ap, ◌∙◌, arith}
use Rattle.std.specs.HashMap.{HashMap}
use Rattle.std.specs.List.{list_any}
use Rattle.std.proofs.lemmas.List.{take_more}
use Rattle.std.proofs.lemmas.List.Elements.{All-contains, Contains-push_cases}
use Rattle.std.proofs.lemmas.List.Folds.{list_any_at}
use Rattle.lost_index.specs.declared.note.Note.{Note}
use Rattle.lost_index.specs.Notes.{HasNote, KeepsNotes, HaveNotes}

-- what a list contains, and passes a test, is found by it
pub any-from_contained : {X : Type 0} (test : X → Bool) (xs : List X) (x : X) → Contains xs x → test x ≡ true → list_any test xs ≡ true
any-from_contained test xs x stands passes = list_any_at test xs stands.0 x stands.1 (ap test stands.2 ∙ passes)

-- tests that agree find the same
pub any-alike : {X : Type 0} (p q : X → Bool) → ((x : X) → p x ≡ q x) → (xs : List X) → list_any p xs ≡ list_any q xs
any-alike p q alike [] = refl
any-alike p q alike (x ∷ xs) = rw (alike x, any-alike p q alike xs) refl

-- the notes of no region are there
pub HaveNotes-none : {R K O S : Type 0} (eq : K → K → Bool) (same : O → O → Bool) (cover_of : R → List K) (outline_of : R → O) (number : ℕ) (cells : HashMap K (List (Note O)) S)
    → HaveNotes eq same cover_of outline_of number [] cells
HaveNotes-none eq same cover_of outline_of number cells key outline under = absurd (omega (arith, under.stands.1))

-- those of one region more
HaveNotes-push : {R K O S : Type 0} (eq : K → K → Bool) (same : O → O → Bool) (cover_of : R → List K) (outline_of : R → O) (number : ℕ) (regions : List R) (region : R)
    (old new : HashMap K (List (Note O)) S) → HaveNotes eq same cover_of outline_of number regions old → KeepsNotes eq same old new
    → All (λ key. HasNote eq same new key number (outline_of region)) (cover_of region) → HaveNotes eq same cover_of outline_of number (regions ++ region ∷ []) new
HaveNotes-push eq same cover_of outline_of number regions region old new before keeps last key outline under =
    elim (Contains-push_cases regions region under.region under.stands) [
      | inl stands ↦ keeps key number outline
          (before key outline (record { region = under.region; stands = stands; covered = under.covered; outlined = under.outlined }))
      | inr last_one ↦ subst (HasNote eq same new key number) (ap outline_of last_one ∙ sym under.outlined)
          (All-contains (λ key. HasNote eq same new key number (outline_of region)) (cover_of region) key last
          (subst (λ r. Contains (cover_of r) key) (sym last_one) under.covered))
    ]

-- and so up to the next one of a list
pub HaveNotes-more : {R K O S : Type 0} (eq : K → K → Bool) (same : O → O → Bool) (cover_of : R → List K) (outline_of : R → O) (number : ℕ) (regions : List R) (i : ℕ) (region : R)
    (old new : HashMap K (List (Note O)) S) → i < length regions → region ≡ get_or regions i region
    → HaveNotes eq same cover_of outline_of number (take i regions) old → KeepsNotes eq same old new
    → All (λ key. HasNote eq same new key number (outline_of region)) (cover_of region) → HaveNotes eq same cover_of outline_of number (take (i + 1) regions) new
HaveNotes-more eq same cover_of outline_of number regions i region old new within is before keeps last =
    subst (λ rs. HaveNotes eq same cover_of outline_of number rs new)
    (ap (λ r. take i regions ++ r ∷ []) is ∙ sym (take_more regions i region within))
    (HaveNotes-push eq same cover_of outline_of number (take i regions) region old new before keeps last)

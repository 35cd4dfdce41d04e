-- That what is held stays noted, and nothing else, change by change.
use Rattle.std.proofs.Common.{◌≡◌, ℕ, ◌⊎◌, inl, inr, ⊎_elim, Bool, true, false, cond, Option, None, Some, List, [], ◌++◌, All, Contains, nat_eq, ◌&&◌, ◌||◌, Result, Ok, Err, OnOk, OnErr, refl, sym, ap, subst, arith, ◌∙◌}
use Rattle.std.specs.HashMap.{HashMap}
use Rattle.std.specs.List.{list_any}
use Rattle.std.proofs.lemmas.Bool.{false≢true, or_left, or_right}
use Rattle.std.proofs.lemmas.Bool.Decides.{nat_tests}
use Rattle.std.proofs.lemmas.List.Elements.{All-contains, Contains-append_cases}
use Rattle.std.proofs.lemmas.List.Folds.{list_any-append}
use Rattle.lost_index.specs.Notes.{HasNote, IsUnder, KeepsOthers, KeepsUnder, HaveNotes, HasNoEmptyList, TakesBack, AddsAtMost, IsNotedOnlyFor, covers, covers_with, some_covers, IsIndexed}
use Rattle.std.specs.Map.{lookup}
use Rattle.lost_index.specs.declared.note.Note.{Note}
use Rattle.lost_index.specs.Entries.{regions_of, IsAbove}
use Rattle.lost_index.proofs.EntryLemmas.{absent_above}
use Rattle.lost_index.proofs.OnlyLemmas.{covers-from_with, AddsAtMost-taken_back}

same_number : (n k : ℕ) → nat_eq n k ≡ true → n ≡ k
same_number n k same = search (arith, nat_tests)

some_same : {X : Type 0} (x y : X) → Some x ≡ Some y → x ≡ y
some_same x y same = cc

none_some : {X : Type 0} (x : X) → None ≡ Some x → ⊥
none_some x h = cc

-- by whether memory was refused
pub by_refusal : {T E A B C D F Z : Type 0} (r : Result T E) → OnOk r A → OnOk r B → OnErr r C → OnErr r D → OnErr r F
    → (A → B → Z) → (C → D → F → Z) → Z
by_refusal (Ok value) a b c d f given refused = given a b
by_refusal (Err error) a b c d f given refused = refused c d f

-- by whether a number is the one that changed
module _ {X : Type 0} (P : ℕ → X → Type 0) (n : ℕ) where
  at_or_apart : (b : Bool) (k : ℕ) (v : X) (w old : Option X) → nat_eq n k ≡ b → cond b w old ≡ Some v
      → ((u : X) → w ≡ Some u → P n u) → (nat_eq n k ≡ false → old ≡ Some v → P k v) → P k v
  at_or_apart true k v w old here found now before = subst (λ j. P j v) (same_number n k here) (now v found)
  at_or_apart false k v w old here found now before = before here found

-- the facts of one number
pub record AreKept {R K O S : Type 0} (is_region : R → Type 0) (cover_of : R → List K) (outline_of : R → O) (eq : K → K → Bool) (same : O → O → Bool) (cells : HashMap K (List (Note O)) S)
    (number : ℕ) (regions : List R) : Type 0 where
  pub are_regions : (region : R) → Contains regions region → is_region region
  pub have_notes : HaveNotes eq same cover_of outline_of number regions cells

-- what holds of none where there is none, and of some regions where there are some
of_some : {R K O : Type 0} (eq : K → K → Bool) (same : O → O → Bool) (cover_of : R → List K) (outline_of : R → O) (w : Option (List R)) (regions : List R) (key : K) (outline : O)
    → w ≡ Some regions → some_covers eq same cover_of outline_of w key outline ≡ true → covers_with eq same cover_of outline_of regions key outline ≡ true
of_some eq same cover_of outline_of w regions key outline is h = sym (ap (λ o. some_covers eq same cover_of outline_of o key outline) is) ∙ h

module _ {R K O S : Type 0} (is_region : R → Type 0) (cover_of : R → List K) (outline_of : R → O) (eq : K → K → Bool) (same : O → O → Bool) where
  -- what is noted of a number is of one of these regions
  abbrev IsOf : HashMap K (List (Note O)) S → ℕ → Option (List R) → Type 0
  IsOf cells n w = (key : K) (outline : O) → HasNote eq same cells key n outline → some_covers eq same cover_of outline_of w key outline ≡ true

  kept_of : (held : List (ℕ × List R)) (cells : HashMap K (List (Note O)) S) → IsIndexed is_region cover_of outline_of eq same held cells
      → (k : ℕ) (rs : List R) → regions_of held k ≡ Some rs → AreKept is_region cover_of outline_of eq same cells k rs
  kept_of held cells indexed k rs found =
      record { are_regions = indexed.are_regions k rs found; have_notes = indexed.have_notes k rs found }

  indexed_of : (held : List (ℕ × List R)) (cells : HashMap K (List (Note O)) S)
      → ((k : ℕ) (rs : List R) → regions_of held k ≡ Some rs → AreKept is_region cover_of outline_of eq same cells k rs)
      → ((k : ℕ) → IsOf cells k (regions_of held k)) → HasNoEmptyList eq cells
      → IsIndexed is_region cover_of outline_of eq same held cells
  indexed_of held cells kept only listed = record {
    are_regions = λ k rs found. (kept k rs found).are_regions;
    have_notes = λ k rs found. (kept k rs found).have_notes;
    only_notes = λ key k outline noted. only k key outline noted;
    no_empty = listed;
  }

  kept_along : (old new : HashMap K (List (Note O)) S) (k : ℕ) (rs : List R)
      → ((key : K) (outline : O) → IsUnder cover_of outline_of rs key outline → HasNote eq same old key k outline → HasNote eq same new key k outline)
      → AreKept is_region cover_of outline_of eq same old k rs → AreKept is_region cover_of outline_of eq same new k rs
  kept_along old new k rs stays kept =
      record { are_regions = kept.are_regions; have_notes = λ key outline under. stays key outline under (kept.have_notes key outline under) }

  -- a number has other regions, or is new, and the notes of the others stay
  pub IsIndexed-update : (held held' : List (ℕ × List R)) (old new : HashMap K (List (Note O)) S) (n : ℕ) (w : Option (List R))
      → IsIndexed is_region cover_of outline_of eq same held old
      → ((k : ℕ) → regions_of held' k ≡ cond (nat_eq n k) w (regions_of held k))
      → KeepsOthers eq same n old new → KeepsOthers eq same n new old → (HasNoEmptyList eq old → HasNoEmptyList eq new)
      → ((rs : List R) → w ≡ Some rs → AreKept is_region cover_of outline_of eq same new n rs) → IsOf new n w
      → IsIndexed is_region cover_of outline_of eq same held' new
  IsIndexed-update held held' old new n w indexed updates others no_others listed now only =
      indexed_of held' new (λ k rs found.
      at_or_apart (AreKept is_region cover_of outline_of eq same new) n (nat_eq n k) k rs w (regions_of held k) refl
      (sym (found_at k (nat_eq n k) refl) ∙ found) now
      (λ apart before. kept_along old new k rs (λ key outline under. others key k outline apart) (kept_of held old indexed k rs before)))
      (λ k key outline noted. only_at k key outline noted (nat_eq n k) refl) (listed indexed.no_empty)
    where
      found_at : (k : ℕ) (b : Bool) → nat_eq n k ≡ b → regions_of held' k ≡ cond b w (regions_of held k)
      found_at k b is = updates k ∙ ap (λ b. cond b w (regions_of held k)) is

      only_at : (k : ℕ) (key : K) (outline : O) → HasNote eq same new key k outline → (b : Bool) → nat_eq n k ≡ b
          → some_covers eq same cover_of outline_of (regions_of held' k) key outline ≡ true
      only_at k key outline noted true here =
          ap (λ o. some_covers eq same cover_of outline_of o key outline) (found_at k true here)
          ∙ only key outline (subst (λ j. HasNote eq same new key j outline) (sym (same_number n k here)) noted)
      only_at k key outline noted false apart =
          ap (λ o. some_covers eq same cover_of outline_of o key outline) (found_at k false apart)
          ∙ indexed.only_notes key k outline (no_others key k outline apart noted)

  -- nothing that is held changed, and the notes under its keys stay
  pub IsIndexed-same : (held held' : List (ℕ × List R)) (old new : HashMap K (List (Note O)) S) (n : ℕ)
      → IsIndexed is_region cover_of outline_of eq same held old → held' ≡ held → KeepsOthers eq same n old new
      → KeepsOthers eq same n new old → (HasNoEmptyList eq old → HasNoEmptyList eq new)
      → ((rs : List R) → regions_of held n ≡ Some rs → KeepsUnder eq same (IsUnder cover_of outline_of rs) old new)
      → IsOf new n (regions_of held n)
      → IsIndexed is_region cover_of outline_of eq same held' new
  IsIndexed-same held held' old new n indexed unchanged others no_others listed remaining only =
      indexed_of held' new (λ k rs found. by_number (nat_eq n k) k rs refl (sym (same_at k) ∙ found))
      (λ k key outline noted. only_at k key outline noted (nat_eq n k) refl) (listed indexed.no_empty)
    where
      same_at : (k : ℕ) → regions_of held' k ≡ regions_of held k
      same_at k = ap (lookup (nat_eq k)) unchanged

      by_number : (b : Bool) (k : ℕ) (rs : List R) → nat_eq n k ≡ b → regions_of held k ≡ Some rs → AreKept is_region cover_of outline_of eq same new k rs
      by_number true k rs here found = kept_along old new k rs
          (λ key outline under. remaining rs (ap (regions_of held) (same_number n k here) ∙ found) key k outline under) (kept_of held old indexed k rs found)
      by_number false k rs here found = kept_along old new k rs (λ key outline under. others key k outline here) (kept_of held old indexed k rs found)

      only_at : (k : ℕ) (key : K) (outline : O) → HasNote eq same new key k outline → (b : Bool) → nat_eq n k ≡ b
          → some_covers eq same cover_of outline_of (regions_of held' k) key outline ≡ true
      only_at k key outline noted true here =
          ap (λ o. some_covers eq same cover_of outline_of o key outline) (same_at k ∙ ap (regions_of held) (sym (same_number n k here)))
          ∙ only key outline (subst (λ j. HasNote eq same new key j outline) (sym (same_number n k here)) noted)
      only_at k key outline noted false apart =
          ap (λ o. some_covers eq same cover_of outline_of o key outline) (same_at k)
          ∙ indexed.only_notes key k outline (no_others key k outline apart noted)

  -- what is noted of a number was of its regions, or is
  is_of : (held : List (ℕ × List R)) (old new : HashMap K (List (Note O)) S) (n : ℕ) (w : Option (List R)) (may : K → O → Bool)
      → IsIndexed is_region cover_of outline_of eq same held old → AddsAtMost eq same n may old new
      → ((key : K) (outline : O) → some_covers eq same cover_of outline_of (regions_of held n) key outline ≡ true → some_covers eq same cover_of outline_of w key outline ≡ true)
      → ((key : K) (outline : O) → may key outline ≡ true → some_covers eq same cover_of outline_of w key outline ≡ true) → IsOf new n w
  is_of held old new n w may indexed adds was is key outline noted =
      ⊎_elim (λ before. was key outline (indexed.only_notes key n outline before)) (is key outline) (adds.own key outline noted)

  -- so too where no such number is held
  pub IsIndexed-apart : (held held' : List (ℕ × List R)) (old new : HashMap K (List (Note O)) S) (n : ℕ)
      → IsIndexed is_region cover_of outline_of eq same held old → held' ≡ held → KeepsOthers eq same n old new
      → AddsAtMost eq same n (covers_with eq same cover_of outline_of []) old new → IsAbove n held
      → IsIndexed is_region cover_of outline_of eq same held' new
  IsIndexed-apart held held' old new n indexed unchanged others adds above =
      IsIndexed-same held held' old new n indexed unchanged others adds.others adds.no_empty (λ rs found. absurd (absent_above n held rs above found))
      (is_of held old new n (regions_of held n) (covers_with eq same cover_of outline_of []) indexed adds (λ key outline was. was)
      (λ key outline none. absurd (false≢true none)))

  -- a number has other regions, each of them noted, and no others
  pub IsIndexed-changed : (held held' : List (ℕ × List R)) (old new : HashMap K (List (Note O)) S) (n : ℕ) (regions : List R)
      → IsIndexed is_region cover_of outline_of eq same held old
      → ((k : ℕ) → regions_of held' k ≡ cond (nat_eq n k) (Some regions) (regions_of held k))
      → KeepsOthers eq same n old new → KeepsOthers eq same n new old → (HasNoEmptyList eq old → HasNoEmptyList eq new)
      → ((region : R) → Contains regions region → is_region region) → HaveNotes eq same cover_of outline_of n regions new → IsOf new n (Some regions)
      → IsIndexed is_region cover_of outline_of eq same held' new
  IsIndexed-changed held held' old new n regions indexed updates others no_others listed are_regions noted only =
      IsIndexed-update held held' old new n (Some regions) indexed updates others no_others listed
      (λ rs is. subst (AreKept is_region cover_of outline_of eq same new n) (some_same regions rs is) (record { are_regions = are_regions; have_notes = noted })) only

  -- a number above all is put behind
  pub IsIndexed-put : (held held' : List (ℕ × List R)) (old new : HashMap K (List (Note O)) S) (n : ℕ) (regions : List R)
      → IsIndexed is_region cover_of outline_of eq same held old → IsAbove n held
      → ((k : ℕ) → regions_of held' k ≡ cond (nat_eq n k) (Some regions) (regions_of held k))
      → KeepsOthers eq same n old new → AddsAtMost eq same n (covers_with eq same cover_of outline_of regions) old new
      → ((region : R) → Contains regions region → is_region region) → HaveNotes eq same cover_of outline_of n regions new
      → IsIndexed is_region cover_of outline_of eq same held' new
  IsIndexed-put held held' old new n regions indexed above updates others adds are_regions noted =
      IsIndexed-changed held held' old new n regions indexed updates others adds.others adds.no_empty are_regions noted
      (is_of held old new n (Some regions) (covers_with eq same cover_of outline_of regions) indexed adds
      (λ key outline was. absurd (was_not_held key outline (regions_of held n) refl was)) (λ key outline is. is))
    where
      was_not_held : (key : K) (outline : O) (o : Option (List R)) → regions_of held n ≡ o → some_covers eq same cover_of outline_of o key outline ≡ true → ⊥
      was_not_held key outline None found was = false≢true was
      was_not_held key outline (Some rs) found was = absent_above n held rs above found

  -- a number is taken out
  pub IsIndexed-taken : (held held' : List (ℕ × List R)) (old new : HashMap K (List (Note O)) S) (n : ℕ) (regions : List R)
      → IsIndexed is_region cover_of outline_of eq same held old → regions_of held n ≡ Some regions
      → ((k : ℕ) → regions_of held' k ≡ cond (nat_eq n k) None (regions_of held k))
      → KeepsOthers eq same n old new → TakesBack eq same old new
      → IsNotedOnlyFor eq same cover_of outline_of n [] (covers eq cover_of regions) new
      → IsIndexed is_region cover_of outline_of eq same held' new
  IsIndexed-taken held held' old new n regions indexed found updates others fewer gone =
      IsIndexed-update held held' old new n None indexed updates others (λ key k outline apart noted. fewer.noted key k outline noted) fewer.no_empty
      (λ rs none. absurd (none_some rs none))
      (λ key outline noted. gone key outline
      (covers-from_with eq same cover_of outline_of regions key outline
      (of_some eq same cover_of outline_of (regions_of held n) regions key outline found (indexed.only_notes key n outline (fewer.noted key n outline noted)))) noted)

  -- a number that is held has more regions
  pub IsIndexed-added : (held held' : List (ℕ × List R)) (old new : HashMap K (List (Note O)) S) (n : ℕ) (regions more : List R)
      → IsIndexed is_region cover_of outline_of eq same held old → regions_of held n ≡ Some regions
      → ((k : ℕ) → regions_of held' k ≡ cond (nat_eq n k) (Some (regions ++ more)) (regions_of held k))
      → KeepsOthers eq same n old new → KeepsUnder eq same (IsUnder cover_of outline_of regions) old new
      → AddsAtMost eq same n (covers_with eq same cover_of outline_of more) old new → All is_region more → HaveNotes eq same cover_of outline_of n more new
      → IsIndexed is_region cover_of outline_of eq same held' new
  IsIndexed-added held held' old new n regions more indexed found updates others remaining adds are_regions noted =
      IsIndexed-changed held held' old new n (regions ++ more) indexed updates others adds.others adds.no_empty
      (λ region stands. either_region region (Contains-append_cases regions more region stands))
      (λ key outline under. either_noted key outline under (Contains-append_cases regions more under.region under.stands))
      (is_of held old new n (Some (regions ++ more)) (covers_with eq same cover_of outline_of more) indexed adds
      (λ key outline was. append_covers key outline
      ∙ or_left (covers_with eq same cover_of outline_of regions key outline) (covers_with eq same cover_of outline_of more key outline) (of_some eq same cover_of outline_of (regions_of held n) regions key outline found was))
      (λ key outline is. append_covers key outline ∙ or_right (covers_with eq same cover_of outline_of regions key outline) (covers_with eq same cover_of outline_of more key outline) is))
    where
      append_covers : (key : K) (outline : O) → covers_with eq same cover_of outline_of (regions ++ more) key outline
          ≡ (covers_with eq same cover_of outline_of regions key outline || covers_with eq same cover_of outline_of more key outline)
      append_covers key outline = list_any-append (λ region. same outline (outline_of region) && list_any (eq key) (cover_of region)) regions more

      either_region : (region : R) → Contains regions region ⊎ Contains more region → is_region region
      either_region region (inl stands) = indexed.are_regions n regions found region stands
      either_region region (inr stands) = All-contains is_region more region are_regions stands

      either_noted : (key : K) (outline : O) (under : IsUnder cover_of outline_of (regions ++ more) key outline) → Contains regions under.region ⊎ Contains more under.region
          → HasNote eq same new key n outline
      either_noted key outline under (inl stands) =
          let before : IsUnder cover_of outline_of regions key outline = record { region = under.region; stands = stands; covered = under.covered; outlined = under.outlined } in
          remaining key n outline before (indexed.have_notes n regions found key outline before)
      either_noted key outline under (inr stands) = noted key outline (record { region = under.region; stands = stands; covered = under.covered; outlined = under.outlined })

  -- a number that is held keeps some of its regions
  pub IsIndexed-kept : (held held' : List (ℕ × List R)) (old new : HashMap K (List (Note O)) S) (n : ℕ) (regions part : List R)
      → IsIndexed is_region cover_of outline_of eq same held old → regions_of held n ≡ Some regions
      → ((region : R) → Contains part region → Contains regions region)
      → ((k : ℕ) → regions_of held' k ≡ cond (nat_eq n k) (Some part) (regions_of held k))
      → KeepsOthers eq same n old new → KeepsUnder eq same (IsUnder cover_of outline_of part) old new → TakesBack eq same old new
      → (IsNotedOnlyFor eq same cover_of outline_of n regions (λ key. true) old → IsNotedOnlyFor eq same cover_of outline_of n part (λ key. true) new)
      → IsIndexed is_region cover_of outline_of eq same held' new
  IsIndexed-kept held held' old new n regions part indexed found within updates others remaining fewer gone =
      IsIndexed-changed held held' old new n part indexed updates others (λ key k outline apart noted. fewer.noted key k outline noted) fewer.no_empty
      (λ region stands. indexed.are_regions n regions found region (within region stands))
      (λ key outline under. remaining key n outline under
      (indexed.have_notes n regions found key outline
      (record { region = under.region; stands = within under.region under.stands; covered = under.covered; outlined = under.outlined })))
      (λ key outline noted. gone
      (λ key outline any was. of_some eq same cover_of outline_of (regions_of held n) regions key outline found (indexed.only_notes key n outline was))
      key outline refl noted)

  -- nothing that is held changed, and of a number that is held nothing else is noted
  IsIndexed-noted : (held held' : List (ℕ × List R)) (old new : HashMap K (List (Note O)) S) (n : ℕ) (regions : List R)
      → IsIndexed is_region cover_of outline_of eq same held old → held' ≡ held → regions_of held n ≡ Some regions
      → KeepsOthers eq same n old new → KeepsUnder eq same (IsUnder cover_of outline_of regions) old new
      → AddsAtMost eq same n (covers_with eq same cover_of outline_of regions) old new
      → IsIndexed is_region cover_of outline_of eq same held' new
  IsIndexed-noted held held' old new n regions indexed unchanged found others remaining adds =
      IsIndexed-same held held' old new n indexed unchanged others adds.others adds.no_empty
      (λ rs again. subst (λ r. KeepsUnder eq same (IsUnder cover_of outline_of r) old new) (some_same regions rs (sym found ∙ again)) remaining)
      (is_of held old new n (regions_of held n) (covers_with eq same cover_of outline_of regions) indexed adds (λ key outline was. was)
      (λ key outline is. ap (λ o. some_covers eq same cover_of outline_of o key outline) found ∙ is))

  -- growth was refused while a number that is held was noted
  pub IsIndexed-unnoted : (held : List (ℕ × List R)) (old new : HashMap K (List (Note O)) S) (n : ℕ) (regions : List R)
      → IsIndexed is_region cover_of outline_of eq same held old → regions_of held n ≡ Some regions
      → KeepsOthers eq same n old new → KeepsUnder eq same (IsUnder cover_of outline_of regions) old new
      → AddsAtMost eq same n (covers_with eq same cover_of outline_of regions) old new
      → IsIndexed is_region cover_of outline_of eq same held new
  IsIndexed-unnoted held old new n regions indexed found others remaining adds = IsIndexed-noted held held old new n regions indexed refl found others remaining adds

  -- growth was refused after a number that is held was noted: what was noted is taken back
  pub IsIndexed-refused : (held held' : List (ℕ × List R)) (old mid new : HashMap K (List (Note O)) S) (n : ℕ) (regions regions' added : List R)
      → IsIndexed is_region cover_of outline_of eq same held old → held' ≡ held
      → regions_of held n ≡ Some regions → regions_of held' n ≡ Some regions'
      → KeepsOthers eq same n old mid → KeepsOthers eq same n mid new
      → KeepsUnder eq same (IsUnder cover_of outline_of regions) old mid → KeepsUnder eq same (IsUnder cover_of outline_of regions') mid new
      → AddsAtMost eq same n (covers_with eq same cover_of outline_of added) old mid → TakesBack eq same mid new
      → IsNotedOnlyFor eq same cover_of outline_of n regions' (covers eq cover_of added) new
      → IsIndexed is_region cover_of outline_of eq same held' new
  IsIndexed-refused held held' old mid new n regions regions' added indexed unchanged found found' others others' remaining remaining' adds fewer gone =
      let alike : regions' ≡ regions = some_same regions' regions (sym found' ∙ ap (lookup (nat_eq n)) unchanged ∙ found) in
      let after : KeepsUnder eq same (IsUnder cover_of outline_of regions) mid new = subst (λ r. KeepsUnder eq same (IsUnder cover_of outline_of r) mid new) alike remaining' in
      let left : IsNotedOnlyFor eq same cover_of outline_of n regions (covers eq cover_of added) new =
      subst (λ r. IsNotedOnlyFor eq same cover_of outline_of n r (covers eq cover_of added) new) alike gone in
      IsIndexed-noted held held' old new n regions indexed unchanged found
      (λ key number outline apart noted. others' key number outline apart (others key number outline apart noted))
      (λ key number outline under noted. after key number outline under (remaining key number outline under noted))
      (AddsAtMost-taken_back eq same old mid new cover_of outline_of n added regions adds fewer left)

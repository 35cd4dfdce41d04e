-- That nothing is noted but what may be, step by step.
use Rattle.std.proofs.Common.{◌≡◌, ◌⊎◌, inl, inr, ⊎_elim, ℕ, ◌+◌, ◌-◌, ◌<◌, ◌≤◌, Bool, true, ◌&&◌, List, [], ◌∷◌, length, take, drop, get_or, refl, sym, subst, ap, arith, ◌∙◌}
use Rattle.std.specs.HashMap.{HashMap}
use Rattle.std.specs.List.{list_any, slice_range}
use Rattle.std.proofs.lemmas.Bool.{and_parts, and_from, or_left, or_right, or_cases}
use Rattle.std.proofs.lemmas.List.{take-append-drop, drop-drop}
use Rattle.std.proofs.lemmas.List.Folds.{list_any-append, list_any_at, list_any_more}
use Rattle.lost_index.specs.declared.note.Note.{Note}
use Rattle.lost_index.specs.Notes.{HasNote, KeepsNotes, TakesBack, AddsAtMost, IsNotedOnlyFor, TakesOut, covers, covers_with}

-- what a list has, the first ones have or the others
pub any-at : {X : Type 0} (test : X → Bool) (xs : List X) (i : ℕ) → list_any test xs ≡ true
    → (list_any test (take i xs) ≡ true) ⊎ (list_any test (drop i xs) ≡ true)
any-at test xs i h =
    or_cases (list_any test (take i xs)) (list_any test (drop i xs))
    (sym (list_any-append test (take i xs) (drop i xs)) ∙ ap (list_any test) (take-append-drop i xs) ∙ h)

-- what the first ones with the next have, they have or that one
pub any-next : {X : Type 0} (test : X → Bool) (xs : List X) (i : ℕ) (x : X) → i < length xs → x ≡ get_or xs i x
    → list_any test (take (i + 1) xs) ≡ true → (list_any test (take i xs) ≡ true) ⊎ (test x ≡ true)
any-next test xs i x within is h =
    ⊎_elim inl (λ at. inr (ap test is ∙ at))
    (or_cases (list_any test (take i xs)) (test (get_or xs i x)) (sym (list_any_more test xs i x within) ∙ h))

-- beside a test that stays as it is
both_more : (a b c : Bool) → (b ≡ true → c ≡ true) → (a && b) ≡ true → (a && c) ≡ true
both_more a b c more h = and_from a c (and_parts a b h).0 (more (and_parts a b h).1)

-- what is covered with an outline is covered
pub covers-from_with : {R K O : Type 0} (eq : K → K → Bool) (same : O → O → Bool) (cover_of : R → List K) (outline_of : R → O) (regions : List R) (key : K) (outline : O)
    → covers_with eq same cover_of outline_of regions key outline ≡ true → covers eq cover_of regions key ≡ true
covers-from_with eq same cover_of outline_of [] key outline h = h
covers-from_with eq same cover_of outline_of (region ∷ regions) key outline h =
    ⊎_elim
    (λ here. or_left (list_any (eq key) (cover_of region)) (covers eq cover_of regions key)
    (and_parts (same outline (outline_of region)) (list_any (eq key) (cover_of region)) here).1)
    (λ later. or_right (list_any (eq key) (cover_of region)) (covers eq cover_of regions key)
    (covers-from_with eq same cover_of outline_of regions key outline later))
    (or_cases (same outline (outline_of region) && list_any (eq key) (cover_of region)) (covers_with eq same cover_of outline_of regions key outline) h)

module _ {K O S : Type 0} (eq : K → K → Bool) (same : O → O → Bool) (old mid new : HashMap K (List (Note O)) S) where
  -- ---- two steps that take back
  pub TakesBack-two : TakesBack eq same old mid → TakesBack eq same mid new → TakesBack eq same old new
  TakesBack-two first second = record {
    noted = λ key number outline noted. first.noted key number outline (second.noted key number outline noted);
    no_empty = λ listed. second.no_empty (first.no_empty listed);
  }

  -- ---- a step that adds, where that may be
  AddsAtMost-more : (number : ℕ) (may one : K → O → Bool) → AddsAtMost eq same number may old mid → AddsAtMost eq same number one mid new
      → ((key : K) (outline : O) → one key outline ≡ true → may key outline ≡ true) → AddsAtMost eq same number may old new
  AddsAtMost-more number may one first second within = record {
    own = λ key outline noted. ⊎_elim (first.own key outline) (λ added. inr (within key outline added)) (second.own key outline noted);
    others = λ key n outline apart noted. first.others key n outline apart (second.others key n outline apart noted);
    no_empty = λ listed. second.no_empty (first.no_empty listed);
  }

  -- under a key of a cover
  pub AddsAtMost-key : (number : ℕ) (own : O) (cover : List K) (i : ℕ) (key : K) → (i < length cover) × (key ≡ get_or cover i key)
      → AddsAtMost eq same number (λ k outline. same outline own && list_any (eq k) cover) old mid
      → AddsAtMost eq same number (λ k outline. same outline own && eq k key) mid new
      → AddsAtMost eq same number (λ k outline. same outline own && list_any (eq k) cover) old new
  AddsAtMost-key number own cover i key found first second =
      AddsAtMost-more number (λ k outline. same outline own && list_any (eq k) cover) (λ k outline. same outline own && eq k key) first second
      (λ k outline. both_more (same outline own) (eq k key) (list_any (eq k) cover)
      (λ here. list_any_at (eq k) cover i key found.0 (ap (eq k) (sym found.1) ∙ here)))

  -- under the keys of a region, with its outline
  pub AddsAtMost-region : {R : Type 0} (cover_of : R → List K) (outline_of : R → O) (number : ℕ) (regions : List R) (i : ℕ) (region : R) (own : O) → i < length regions
      → region ≡ get_or regions i region → own ≡ outline_of region → AddsAtMost eq same number (covers_with eq same cover_of outline_of regions) old mid
      → AddsAtMost eq same number (λ k outline. same outline own && list_any (eq k) (cover_of region)) mid new
      → AddsAtMost eq same number (covers_with eq same cover_of outline_of regions) old new
  AddsAtMost-region cover_of outline_of number regions i region own within is is_own first second =
      AddsAtMost-more number (covers_with eq same cover_of outline_of regions) (λ k outline. same outline own && list_any (eq k) (cover_of region)) first second
      (λ k outline here. list_any_at (λ r. same outline (outline_of r) && list_any (eq k) (cover_of r)) regions i region within
      (ap (λ r. same outline (outline_of r) && list_any (eq k) (cover_of r)) (sym is)
      ∙ subst (λ o. (same outline o && list_any (eq k) (cover_of region)) ≡ true) is_own here))

  -- ---- what is noted under some keys, where that is so of one part before, and of the other now
  pub only-two : {R : Type 0} (cover_of : R → List K) (outline_of : R → O) (number : ℕ) (regions : List R) (one two both : K → Bool)
      → IsNotedOnlyFor eq same cover_of outline_of number regions one mid → KeepsNotes eq same new mid
      → IsNotedOnlyFor eq same cover_of outline_of number regions two new
      → ((key : K) → both key ≡ true → (one key ≡ true) ⊎ (two key ≡ true)) → IsNotedOnlyFor eq same cover_of outline_of number regions both new
  only-two cover_of outline_of number regions one two both before fewer now either key outline at noted =
      ⊎_elim (λ at_one. before key outline at_one (fewer key number outline noted)) (λ at_two. now key outline at_two noted) (either key at)

  -- ---- so is it where notes are taken out twice
  pub TakesOut-two : {R : Type 0} (cover_of : R → List K) (outline_of : R → O) (number : ℕ) (regions : List R) (one two both : K → Bool)
      → TakesOut eq same cover_of outline_of number regions one old mid → TakesOut eq same cover_of outline_of number regions two mid new → KeepsNotes eq same new mid
      → ((key : K) → both key ≡ true → (one key ≡ true) ⊎ (two key ≡ true)) → TakesOut eq same cover_of outline_of number regions both old new
  TakesOut-two cover_of outline_of number regions one two both first second fewer either = record {
    others = λ key n outline apart noted. second.others key n outline apart (first.others key n outline apart noted);
    remaining = λ key n outline under noted. second.remaining key n outline under (first.remaining key n outline under noted);
    gone = only-two cover_of outline_of number regions one two both first.gone fewer second.gone either;
  }

  -- ---- what was added is taken back, but for the regions that remain
  pub AddsAtMost-taken_back : {R : Type 0} (cover_of : R → List K) (outline_of : R → O) (number : ℕ) (added remaining : List R)
      → AddsAtMost eq same number (covers_with eq same cover_of outline_of added) old mid → TakesBack eq same mid new
      → IsNotedOnlyFor eq same cover_of outline_of number remaining (covers eq cover_of added) new
      → AddsAtMost eq same number (covers_with eq same cover_of outline_of remaining) old new
  AddsAtMost-taken_back cover_of outline_of number added remaining first second only = record {
    own = λ key outline noted.
        ⊎_elim inl (λ covered. inr (only key outline (covers-from_with eq same cover_of outline_of added key outline covered) noted))
        (first.own key outline (second.noted key number outline noted));
    others = λ key n outline apart noted. first.others key n outline apart (second.noted key n outline noted);
    no_empty = λ listed. second.no_empty (first.no_empty listed);
  }

-- where nothing is noted nothing is taken out
pub TakesOut-none : {R K O S : Type 0} (eq : K → K → Bool) (same : O → O → Bool) (cells : HashMap K (List (Note O)) S) (cover_of : R → List K) (outline_of : R → O)
    (number : ℕ) (regions : List R) (at : K → Bool) → ((key : K) (outline : O) → at key ≡ true → HasNote eq same cells key number outline → ⊥)
    → TakesOut eq same cover_of outline_of number regions at cells cells
TakesOut-none eq same cells cover_of outline_of number regions at none = record {
  others = λ key n outline apart noted. noted;
  remaining = λ key n outline under noted. noted;
  gone = λ key outline here noted. absurd (none key outline here noted);
}

-- of the regions of a number those in front of a part and behind it are taken back
module _ {R K O S : Type 0} (eq : K → K → Bool) (same : O → O → Bool) (cover_of : R → List K) (outline_of : R → O)
    (old mid new : HashMap K (List (Note O)) S) (number : ℕ) (kept : List R) (from to : ℕ) where
  abbrev covered : List R → K → O → Bool
  covered regions key outline = covers_with eq same cover_of outline_of regions key outline

  abbrev part : List R
  part = slice_range kept from to

  in_part : (key : K) (outline : O) → from ≤ to → (covered (take from kept) key outline ≡ true → covered part key outline ≡ true)
      → (covered (drop to kept) key outline ≡ true → covered part key outline ≡ true) → covered kept key outline ≡ true → covered part key outline ≡ true
  in_part key outline in_order front back h =
      let test : R → Bool = λ region. same outline (outline_of region) && list_any (eq key) (cover_of region) in
      let sum : from + (to - from) ≡ to = omega arith in
      ⊎_elim front
      (λ behind. ⊎_elim (λ inside. inside)
      (λ rest. back (subst (λ l. list_any test l ≡ true) (drop-drop (to - from) from kept ∙ ap (λ n. drop n kept) sum) rest))
      (any-at test (drop from kept) (to - from) behind))
      (any-at test kept from h)

  pub only-rest : from ≤ to → IsNotedOnlyFor eq same cover_of outline_of number part (covers eq cover_of (take from kept)) mid → TakesBack eq same old mid
      → IsNotedOnlyFor eq same cover_of outline_of number part (covers eq cover_of (drop to kept)) new → TakesBack eq same mid new
      → IsNotedOnlyFor eq same cover_of outline_of number kept (λ key. true) old → IsNotedOnlyFor eq same cover_of outline_of number part (λ key. true) new
  only-rest in_order front first back second before key outline any noted =
      let halfway = second.noted key number outline noted in
      in_part key outline in_order
      (λ at. front key outline (covers-from_with eq same cover_of outline_of (take from kept) key outline at) halfway)
      (λ at. back key outline (covers-from_with eq same cover_of outline_of (drop to kept) key outline at) noted)
      (before key outline refl (first.noted key number outline halfway))

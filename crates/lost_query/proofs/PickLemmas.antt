-- What stands at the positions of what passes a test, and how far a walk over positions has come.
use Rattle.std.specs.Prelude.{◌≡◌, ℕ, ◌+◌, ◌<◌, Bool, true, false, cond, List, [], ◌∷◌, ◌++◌, length, take, filter, Some, slice_get}
use Rattle.std.proofs.Common.{get_or, sym, ap, ◌∙◌}
use Rattle.std.proofs.lemmas.List.{take_more, append-nil}
use Rattle.std.proofs.lemmas.List.Elements.{filter_map-append, filter-append}
use Rattle.lost_query.specs.Finding.{at_positions}

-- one position more
module _ {Thing : Type 0} (xs : List Thing) (places : List ℕ) (i d : ℕ) (x : Thing) (within : i < length places) (there : slice_get xs (get_or places i d) ≡ Some x) where
  pub at_positions_more : at_positions xs (take (i + 1) places) ≡ at_positions xs (take i places) ++ x ∷ []
  at_positions_more =
      let front : take (i + 1) places ≡ take i places ++ get_or places i d ∷ [] = take_more places i d within in
      let one : at_positions xs (get_or places i d ∷ []) ≡ x ∷ [] = rw there in
      ap (at_positions xs) front ∙ filter_map-append (slice_get xs) (take i places) (get_or places i d ∷ []) ∙ ap (λ ys. at_positions xs (take i places) ++ ys) one

  -- a walk that keeps each thing has one more
  pub keeps_more : (kept longer : List Thing) (copy : Thing) → kept ≡ at_positions xs (take i places) → longer ≡ kept ++ copy ∷ [] → copy ≡ x → longer ≡ at_positions xs (take (i + 1) places)
  keeps_more kept longer copy so_far pushed same =
      pushed ∙ ap (λ y. kept ++ y ∷ []) same ∙ ap (λ ys. ys ++ x ∷ []) so_far ∙ sym at_positions_more

  -- a walk that keeps what passes has one more where that passes, and else what it had
  module _ (test : Thing → Bool) (kept : List Thing) (so_far : kept ≡ filter test (at_positions xs (take i places))) where
    filter_more : filter test (at_positions xs (take (i + 1) places)) ≡ kept ++ filter test (x ∷ [])
    filter_more =
        ap (filter test) at_positions_more ∙ filter-append test (at_positions xs (take i places)) (x ∷ []) ∙ ap (λ ys. ys ++ filter test (x ∷ [])) (sym so_far)

    pub picks_more : (longer : List Thing) (copy : Thing) → longer ≡ kept ++ copy ∷ [] → copy ≡ x → test x ≡ true → longer ≡ filter test (at_positions xs (take (i + 1) places))
    picks_more longer copy pushed same passes =
        pushed ∙ ap (λ y. kept ++ y ∷ []) same ∙ sym (filter_more ∙ ap (λ b. kept ++ cond b (x ∷ []) []) passes)

    pub picks_no_more : test x ≡ false → kept ≡ filter test (at_positions xs (take (i + 1) places))
    picks_no_more fails = sym (filter_more ∙ ap (λ b. kept ++ cond b (x ∷ []) []) fails ∙ append-nil kept)

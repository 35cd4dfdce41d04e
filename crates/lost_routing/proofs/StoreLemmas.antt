-- That what is held stays kept, edit by edit.
use Rattle.std.proofs.Common.{◌≡◌, ℕ, suc, ◌<◌, Bool, false, List, [], ◌∷◌, ◌++◌, Option, None, Some, IfSome, length, take, drop, slice_set, slice_index_or, nat_eq, refl, sym, ap, subst, arith, ◌∙◌}
use Rattle.std.specs.List.{zip, remove}
use Rattle.std.specs.List.Sorted.{IsStrictlySortedBy}
use Rattle.std.proofs.lemmas.List.{length-append, length-take-le}
use Rattle.lost_spec.specs.Text.{Text}
use Rattle.lost_spec.specs.Mapping.{Mapping}
use Rattle.lost_tables.specs.declared.tables.Tables.{Tables}
use Rattle.lost_tables.specs.Lookup.{ByIdentity, ByKey, ByService, ByDefault, IsListed, IsFullyListed, KeepsOthers}
use Rattle.lost_regions.specs.Regions.{Regions, no_regions, regions_of, with_mapping, with_other, without_number, HasAll, AreHeld, IsAboveAll}
use Rattle.lost_regions.proofs.RowLemmas.{Rows, HasNo, regions-put, regions-above, regions-held, regions-are_held, regions-changed, regions-removed}
use Rattle.lost_routing.specs.Invariants.{IsStore, IsClassed, IsNew, AreFullyListed}
use Rattle.lost_routing.proofs.SplitLemmas.{get_split, set_split, all_front, all_back, all_join, zip_split, zip_join, rows_all, apart_before, apart_behind, rising_without, rising_put, new_apart}

-- nothing is a store, whatever the tables have
pub nothing_classed : (t : Tables) (strays : List Bool) → IsClassed [] [] t no_regions strays
unfolding IsStrictlySortedBy
nothing_classed t strays = record {
  store = record { paired = refl; rising = tt; listed = tt; indexed = refl };
  told = tt;
}

-- ---- notes

key_kept : (t t' : Tables) (n k : ℕ) (own : Option Text) → KeepsOthers n t t' → nat_eq n k ≡ false
    → IfSome own (λ x. IsListed t (ByKey x) k) → IfSome own (λ x. IsListed t' (ByKey x) k)
key_kept t t' n k None others apart listed = tt
key_kept t t' n k (Some own) others apart listed = others (ByKey own) k apart listed

note_kept : (t t' : Tables) (n k : ℕ) (m : Mapping) → KeepsOthers n t t' → nat_eq n k ≡ false → IsFullyListed t m k → IsFullyListed t' m k
note_kept t t' n k m others apart noted = record {
  by_identity = others (ByIdentity _) k apart noted.by_identity;
  by_key = key_kept t t' n k m.key others apart noted.by_key;
  by_service = others (ByService m.service) k apart noted.by_service;
  by_default = λ is_default. others (ByDefault m.service) k apart (noted.by_default is_default);
  well_formed = noted.well_formed;
}

notes_kept : (t t' : Tables) (n : ℕ) (rows : Rows) → KeepsOthers n t t' → HasNo n rows → AreFullyListed t rows → AreFullyListed t' rows
notes_kept t t' n [] others none noted = tt
notes_kept t t' n (e ∷ rows) others none noted =
    (note_kept t t' n e.0 e.1 others none.0 noted.0, notes_kept t t' n rows others none.1 noted.1)

-- ---- one more, behind all

module _ (ns : List ℕ) (ms : List Mapping) (t t' : Tables) (r r' : Regions) (n : ℕ) (m : Mapping) (kept : IsStore ns ms t r) (new : IsNew n ns) where
  none_has : HasNo n (zip ns ms)
  none_has = rows_all (λ k. nat_eq n k ≡ false) ns ms (new_apart n ns new)

  pub put_above : IsAboveAll n r
  put_above = subst (IsAboveAll n) (sym kept.indexed) (regions-above n (zip ns ms) (rows_all (λ k. k < n) ns ms new))

  pub put_kept : IsFullyListed t' m n → KeepsOthers n t t' → r' ≡ with_mapping n m r → IsStore (ns ++ n ∷ []) (ms ++ m ∷ []) t' r'
  put_kept noted others put = record {
    paired = omega (arith, length-append ns (n ∷ []), length-append ms (m ∷ []), kept.paired);
    rising = rising_put ns n kept.rising new;
    listed = subst (AreFullyListed t') (sym zipped)
        (all_join (λ e. IsFullyListed t' e.1 e.0) (zip ns ms) ((n, m) ∷ []) (notes_kept t t' n (zip ns ms) others none_has kept.listed) (noted, tt));
    indexed = put ∙ ap (with_mapping n m) kept.indexed ∙ regions-put n m (zip ns ms) ∙ ap regions_of (sym zipped);
  }
    where
      zipped : zip (ns ++ n ∷ []) (ms ++ m ∷ []) ≡ zip ns ms ++ (n, m) ∷ []
      zipped = zip_split ns [] ms [] n m kept.paired

  pub put_refused : KeepsOthers n t t' → r' ≡ r → IsStore ns ms t' r'
  put_refused others same = record {
    paired = kept.paired;
    rising = kept.rising;
    listed = notes_kept t t' n (zip ns ms) others none_has kept.listed;
    indexed = same ∙ kept.indexed;
  }

-- ---- at a split

module _ (a b : List ℕ) (c d : List Mapping) (n : ℕ) (o : Mapping) (t : Tables) (r : Regions)
    (kept : IsStore (a ++ n ∷ b) (c ++ o ∷ d) t r) (even : length a ≡ length c) where
  not_before : HasNo n (zip a c)
  not_before = rows_all (λ k. nat_eq n k ≡ false) a c (apart_before a b n kept.rising)

  not_behind : HasNo n (zip b d)
  not_behind = rows_all (λ k. nat_eq n k ≡ false) b d (apart_behind a b n kept.rising)

  zipped : (x : Mapping) → zip (a ++ n ∷ b) (c ++ x ∷ d) ≡ zip a c ++ (n, x) ∷ zip b d
  zipped x = zip_split a b c d n x even

  noted_rows : AreFullyListed t (zip a c ++ (n, o) ∷ zip b d)
  noted_rows = subst (AreFullyListed t) (zipped o) kept.listed

  noted_front : (t' : Tables) → KeepsOthers n t t' → AreFullyListed t' (zip a c)
  noted_front t' others = notes_kept t t' n (zip a c) others not_before (all_front (λ e. IsFullyListed t e.1 e.0) (zip a c) ((n, o) ∷ zip b d) noted_rows)

  noted_here : IsFullyListed t o n × AreFullyListed t (zip b d)
  noted_here = all_back (λ e. IsFullyListed t e.1 e.0) (zip a c) ((n, o) ∷ zip b d) noted_rows

  noted_back : (t' : Tables) → KeepsOthers n t t' → AreFullyListed t' (zip b d)
  noted_back t' others = notes_kept t t' n (zip b d) others not_behind noted_here.1

  indexed_rows : r ≡ regions_of (zip a c ++ (n, o) ∷ zip b d)
  indexed_rows = kept.indexed ∙ ap regions_of (zipped o)

  split_has : HasAll n o.regions r
  split_has = subst (HasAll n o.regions) (sym indexed_rows) (regions-held n o (zip a c) (zip b d) not_before not_behind)

  split_held : AreHeld n r
  split_held = subst (AreHeld n) (sym indexed_rows) (regions-are_held n o (zip a c) (zip b d) not_before not_behind)

  even_with : (x : Mapping) → length (a ++ n ∷ b) ≡ length (c ++ x ∷ d)
  even_with x = omega (arith, length-append a (n ∷ b), length-append c (o ∷ d), length-append c (x ∷ d), kept.paired)

  split_changed : (m : Mapping) (t' : Tables) (r' : Regions) → IsFullyListed t' m n → KeepsOthers n t t' → r' ≡ with_other n m r
      → IsStore (a ++ n ∷ b) (c ++ m ∷ d) t' r'
  split_changed m t' r' noted others changed = record {
    paired = even_with m;
    rising = kept.rising;
    listed = subst (AreFullyListed t') (sym (zipped m))
        (all_join (λ e. IsFullyListed t' e.1 e.0) (zip a c) ((n, m) ∷ zip b d) (noted_front t' others) (noted, noted_back t' others));
    indexed = changed ∙ ap (with_other n m) indexed_rows ∙ regions-changed n o (zip a c) (zip b d) not_before not_behind m
        ∙ ap regions_of (sym (zipped m));
  }

  split_unchanged : (t' : Tables) (r' : Regions) → (IsFullyListed t o n → IsFullyListed t' o n) → KeepsOthers n t t' → r' ≡ r
      → IsStore (a ++ n ∷ b) (c ++ o ∷ d) t' r'
  split_unchanged t' r' still others same = record {
    paired = kept.paired;
    rising = kept.rising;
    listed = subst (AreFullyListed t') (sym (zipped o))
        (all_join (λ e. IsFullyListed t' e.1 e.0) (zip a c) ((n, o) ∷ zip b d) (noted_front t' others) (still noted_here.0, noted_back t' others));
    indexed = same ∙ kept.indexed;
  }

  split_taken : (t' : Tables) (r' : Regions) → KeepsOthers n t t' → r' ≡ without_number n r → IsStore (a ++ b) (c ++ d) t' r'
  split_taken t' r' others taken = record {
    paired = omega (arith, length-append a b, length-append c d, length-append a (n ∷ b), length-append c (o ∷ d), kept.paired, even);
    rising = rising_without a b n kept.rising;
    listed = subst (AreFullyListed t') (sym (zip_join a b c d even))
        (all_join (λ e. IsFullyListed t' e.1 e.0) (zip a c) (zip b d) (noted_front t' others) (noted_back t' others));
    indexed = taken ∙ ap (without_number n) indexed_rows ∙ regions-removed n o (zip a c) (zip b d) not_before not_behind
        ∙ ap regions_of (sym (zip_join a b c d even));
  }

-- ---- at a position

module _ (ns : List ℕ) (ms : List Mapping) (t : Tables) (r : Regions) (kept : IsStore ns ms t r)
    (i n : ℕ) (o : Mapping) (within : i < length ms) (number_at : n ≡ slice_index_or ns i n) (mapping_at : o ≡ slice_index_or ms i o) where
  pub within_numbers : i < length ns
  within_numbers = omega (arith, kept.paired, within)

  numbers_split : ns ≡ take i ns ++ n ∷ drop (suc i) ns
  numbers_split = get_split ns i n within_numbers number_at

  mappings_split : ms ≡ take i ms ++ o ∷ drop (suc i) ms
  mappings_split = get_split ms i o within mapping_at

  kept_split : IsStore (take i ns ++ n ∷ drop (suc i) ns) (take i ms ++ o ∷ drop (suc i) ms) t r
  kept_split = subst (λ l. IsStore l (take i ms ++ o ∷ drop (suc i) ms) t r) numbers_split (subst (λ l. IsStore ns l t r) mappings_split kept)

  even_fronts : length (take i ns) ≡ length (take i ms)
  even_fronts =
      let one : length (take i ns) ≡ i = length-take-le i ns (omega (arith, within_numbers)) in
      let other : length (take i ms) ≡ i = length-take-le i ms (omega (arith, within)) in
      one ∙ sym other

  pub at_has : HasAll n o.regions r
  at_has = split_has (take i ns) (drop (suc i) ns) (take i ms) (drop (suc i) ms) n o t r kept_split even_fronts

  pub at_held : AreHeld n r
  at_held = split_held (take i ns) (drop (suc i) ns) (take i ms) (drop (suc i) ms) n o t r kept_split even_fronts

  pub at_changed : (m : Mapping) (t' : Tables) (r' : Regions) → IsFullyListed t' m n → KeepsOthers n t t' → r' ≡ with_other n m r
      → IsStore ns (slice_set ms i m) t' r'
  at_changed m t' r' noted others changed =
      subst (λ l. IsStore l (slice_set ms i m) t' r') (sym numbers_split)
      (subst (λ l. IsStore (take i ns ++ n ∷ drop (suc i) ns) l t' r') (sym (set_split ms i m within))
      (split_changed (take i ns) (drop (suc i) ns) (take i ms) (drop (suc i) ms) n o t r kept_split even_fronts m t' r' noted others changed))

  pub at_unchanged : (t' : Tables) (r' : Regions) → (IsFullyListed t o n → IsFullyListed t' o n) → KeepsOthers n t t' → r' ≡ r → IsStore ns ms t' r'
  at_unchanged t' r' still others same =
      subst (λ l. IsStore l ms t' r') (sym numbers_split)
      (subst (λ l. IsStore (take i ns ++ n ∷ drop (suc i) ns) l t' r') (sym mappings_split)
      (split_unchanged (take i ns) (drop (suc i) ns) (take i ms) (drop (suc i) ms) n o t r kept_split even_fronts t' r' still others same))

  pub at_taken : (t' : Tables) (r' : Regions) → KeepsOthers n t t' → r' ≡ without_number n r → IsStore (remove ns i) (remove ms i) t' r'
  at_taken t' r' others taken =
      split_taken (take i ns) (drop (suc i) ns) (take i ms) (drop (suc i) ms) n o t r kept_split even_fronts t' r' others taken

-- ---- what is put behind all, and taken away again

pub last_there : {X : Type 0} (xs : List X) (x d : X) → slice_index_or (xs ++ x ∷ []) (length xs) d ≡ x
last_there [] x d = refl
last_there (y ∷ xs) x d = last_there xs x d

last_gone : {X : Type 0} (xs : List X) (x : X) → remove (xs ++ x ∷ []) (length xs) ≡ xs
last_gone [] x = refl
last_gone (y ∷ xs) x = ap (λ l. y ∷ l) (last_gone xs x)

-- what was put last is taken away again
pub taken_back : {X : Type 0} (xs more rest : List X) (x : X) (i : ℕ) → more ≡ xs ++ x ∷ [] → rest ≡ remove more i → i ≡ length xs → rest ≡ xs
taken_back xs more rest x i put gone at = gone ∙ ap (λ l. remove l i) put ∙ ap (remove (xs ++ x ∷ [])) at ∙ last_gone xs x

-- The regions of mappings under numbers, where one mapping is put behind all, replaced or taken out.
use Rattle.std.proofs.Common.{◌≡◌, ℕ, ◌<◌, false, List, [], ◌∷◌, ◌++◌, All, map, nat_eq, sym, arith, ◌∙◌, zero, suc}
use Rattle.std.specs.List.{AllByRecursion}
use Rattle.std.proofs.lemmas.List.{map-append}
use Rattle.std.proofs.lemmas.List.Elements.{All-nil}
use Rattle.lost_spec.specs.Text.{Text}
use Rattle.lost_spec.specs.Ring.{Point}
use Rattle.lost_spec.specs.Civic.{Pairs}
use Rattle.lost_spec.specs.Mapping.{Mapping}
use Rattle.lost_index.specs.Entries.{IsAbove, with_number, without}
use Rattle.lost_regions.specs.UnderNumber.{IsAbsent, IsHeldWith}
use Rattle.lost_regions.specs.Regions.{regions_of, with_mapping, with_other, without_number, HasAll, AreHeld, IsAboveAll}
use Rattle.lost_regions.proofs.UnderNumberLemmas.{is_held, changed, removed}
use Rattle.lost_regions.proofs.RegionLemmas.{same_lists}

-- mappings beside their numbers
abbrev pub Rows : Type 0
Rows = List (ℕ × Mapping)

-- no row has this number, and all have one below it
abbrev pub HasNo : ℕ → Rows → Type 0
HasNo number rows = AllByRecursion (λ e. nat_eq number e.0 ≡ false) rows

abbrev pub AreBelow : ℕ → Rows → Type 0
AreBelow number rows = AllByRecursion (λ e. e.0 < number) rows

all_cons : {X : Type 0} (P : X → Type 0) (x : X) (xs : List X) → P x → All P xs → All P (x ∷ xs)
all_cons P x xs here later zero d within = here
all_cons P x xs here later (suc k) d within = later k d (omega arith)

-- ---- one kind of region
module _ {R : Type 0} (of : Mapping → List R) where
  abbrev entries : Rows → List (ℕ × List R)
  entries rows = map (λ e. (e.0, of e.1)) rows

  entries-absent : (n : ℕ) (rows : Rows) → HasNo n rows → IsAbsent n (entries rows)
  entries-absent n [] none = tt
  entries-absent n (e ∷ rows) none = (none.0, entries-absent n rows none.1)

  entries-above : (n : ℕ) (rows : Rows) → AreBelow n rows → IsAbove n (entries rows)
  entries-above n [] below = All-nil (λ e. e.0 < n)
  entries-above n (e ∷ rows) below = all_cons (λ e. e.0 < n) (e.0, of e.1) (entries rows) below.0 (entries-above n rows below.1)

  entries-split : (before behind : Rows) (row : ℕ × Mapping)
      → entries (before ++ row ∷ behind) ≡ entries before ++ (row.0, of row.1) ∷ entries behind
  entries-split before behind row = map-append (λ e. (e.0, of e.1)) before (row ∷ behind)

  entries-held : (n : ℕ) (m : Mapping) (before behind : Rows) → HasNo n before → HasNo n behind
      → IsHeldWith n (of m) (entries (before ++ (n, m) ∷ behind))
  entries-held n m before behind not_before not_behind = record {
    before = entries before;
    behind = entries behind;
    split = entries-split before behind (n, m);
    not_before = entries-absent n before not_before;
    not_behind = entries-absent n behind not_behind;
  }

  entries-changed : (n : ℕ) (m other : Mapping) (before behind : Rows) → HasNo n before → HasNo n behind
      → with_number n (λ _. of other) (entries (before ++ (n, m) ∷ behind)) ≡ entries (before ++ (n, other) ∷ behind)
  unfolding entries-held
  entries-changed n m other before behind not_before not_behind =
      changed n (λ _. of other) (of m) (entries (before ++ (n, m) ∷ behind)) (entries-held n m before behind not_before not_behind)
      ∙ sym (entries-split before behind (n, other))

  entries-removed : (n : ℕ) (m : Mapping) (before behind : Rows) → HasNo n before → HasNo n behind
      → without n (entries (before ++ (n, m) ∷ behind)) ≡ entries (before ++ behind)
  unfolding entries-held
  entries-removed n m before behind not_before not_behind =
      removed n (of m) (entries (before ++ (n, m) ∷ behind)) (entries-held n m before behind not_before not_behind)
      ∙ sym (map-append (λ e. (e.0, of e.1)) before behind)

-- ---- all four

abbrev polygons_in : Mapping → List (List Point)
polygons_in m = m.regions.polygons

abbrev patterns_in : Mapping → List Pairs
patterns_in m = m.regions.patterns

abbrev token_sets_in : Mapping → List (List Text)
token_sets_in m = m.regions.token_sets

pub regions-put : (n : ℕ) (m : Mapping) (rows : Rows) → with_mapping n m (regions_of rows) ≡ regions_of (rows ++ (n, m) ∷ [])
regions-put n m rows = sym (same_lists _ _ _ _ _ _ _ _ (entries-split polygons_in rows [] (n, m)) (entries-split patterns_in rows [] (n, m)) (entries-split patterns_in rows [] (n, m)) (entries-split token_sets_in rows [] (n, m)))

pub regions-above : (n : ℕ) (rows : Rows) → AreBelow n rows → IsAboveAll n (regions_of rows)
regions-above n rows below = record {
  points = entries-above polygons_in n rows below;
  addresses = entries-above patterns_in n rows below;
  references = entries-above patterns_in n rows below;
  tokens = entries-above token_sets_in n rows below;
}

module _ (n : ℕ) (m : Mapping) (before behind : Rows) (not_before : HasNo n before) (not_behind : HasNo n behind) where
  pub regions-held : HasAll n m.regions (regions_of (before ++ (n, m) ∷ behind))
  regions-held = record {
    points = entries-held polygons_in n m before behind not_before not_behind;
    addresses = entries-held patterns_in n m before behind not_before not_behind;
    references = entries-held patterns_in n m before behind not_before not_behind;
    tokens = entries-held token_sets_in n m before behind not_before not_behind;
  }

  pub regions-are_held : AreHeld n (regions_of (before ++ (n, m) ∷ behind))
  regions-are_held = record {
    points = is_held n m.regions.polygons _ (entries-held polygons_in n m before behind not_before not_behind);
    addresses = is_held n m.regions.patterns _ (entries-held patterns_in n m before behind not_before not_behind);
    references = is_held n m.regions.patterns _ (entries-held patterns_in n m before behind not_before not_behind);
    tokens = is_held n m.regions.token_sets _ (entries-held token_sets_in n m before behind not_before not_behind);
  }

  pub regions-changed : (other : Mapping) → with_other n other (regions_of (before ++ (n, m) ∷ behind)) ≡ regions_of (before ++ (n, other) ∷ behind)
  regions-changed other = same_lists _ _ _ _ _ _ _ _
      (entries-changed polygons_in n m other before behind not_before not_behind)
      (entries-changed patterns_in n m other before behind not_before not_behind)
      (entries-changed patterns_in n m other before behind not_before not_behind)
      (entries-changed token_sets_in n m other before behind not_before not_behind)

  pub regions-removed : without_number n (regions_of (before ++ (n, m) ∷ behind)) ≡ regions_of (before ++ behind)
  regions-removed = same_lists _ _ _ _ _ _ _ _
      (entries-removed polygons_in n m before behind not_before not_behind)
      (entries-removed patterns_in n m before behind not_before not_behind)
      (entries-removed patterns_in n m before behind not_before not_behind)
      (entries-removed token_sets_in n m before behind not_before not_behind)

-- The four lists together.
use Rattle.std.proofs.Common.{◌≡◌, ℕ, List, ◌++◌, sym, ap, subst, ◌∙◌}
use Rattle.lost_spec.specs.Text.{Text}
use Rattle.lost_spec.specs.Ring.{Point}
use Rattle.lost_spec.specs.Civic.{Pairs}
use Rattle.lost_spec.specs.Place as spec
use Rattle.lost_spec.specs.Mapping.{Mapping}
use Rattle.lost_regions.specs.Regions.{Regions, HasAll, joined, with_more, with_other}
use Rattle.lost_regions.proofs.UnderNumberLemmas.{held_changed, last_change}

-- equal lists make equal regions
pub same_lists : (p p' : List (ℕ × List (List Point))) (a a' r r' : List (ℕ × List Pairs)) (t t' : List (ℕ × List (List Text))) → p ≡ p' → a ≡ a' → r ≡ r' → t ≡ t'
    → ◌≡◌ {A = Regions} (record { points = p; addresses = a; references = r; tokens = t }) (record { points = p'; addresses = a'; references = r'; tokens = t' })
same_lists p p' a a' r r' t t' points addresses references tokens = cc

-- a number that got more regions
pub has_more : (n : ℕ) (m : Mapping) (regions : spec.Regions) (r now : Regions) → HasAll n regions r
    → now ≡ with_more n m r → HasAll n (joined regions m.regions) now
has_more n m regions r now h is = subst (HasAll n (joined regions m.regions)) (sym is) (record {
  points = held_changed n (λ l. l ++ m.regions.polygons) regions.polygons r.points h.points;
  addresses = held_changed n (λ l. l ++ m.regions.patterns) regions.patterns r.addresses h.addresses;
  references = held_changed n (λ l. l ++ m.regions.patterns) regions.patterns r.references h.references;
  tokens = held_changed n (λ l. l ++ m.regions.token_sets) regions.token_sets r.tokens h.tokens;
})

-- and then only the last ones
pub other_after_more : (n : ℕ) (m : Mapping) (regions : spec.Regions) (r now : Regions) → HasAll n regions r
    → now ≡ with_more n m r → with_other n m now ≡ with_other n m r
other_after_more n m regions r now h is =
    ap (with_other n m) is
    ∙ same_lists _ _ _ _ _ _ _ _ (last_change n (λ l. l ++ m.regions.polygons) m.regions.polygons regions.polygons r.points h.points)
    (last_change n (λ l. l ++ m.regions.patterns) m.regions.patterns regions.patterns r.addresses h.addresses)
    (last_change n (λ l. l ++ m.regions.patterns) m.regions.patterns regions.patterns r.references h.references)
    (last_change n (λ l. l ++ m.regions.token_sets) m.regions.token_sets regions.token_sets r.tokens h.tokens)

-- What is found, sorted and each once, has the holders among it, and is held.
use Rattle.std.proofs.Common.{All, Contains, nat_eq, sym, subst, ◌∙◌}
use Rattle.std.proofs.lemmas.List.Filters.{dedup_is}
use Rattle.std.proofs.lemmas.Map.Keys.{IsStrictlyIncreasing-dedup}
use Rattle.lost_index.specs.Entries.{holders, IsHeld}
use Rattle.lost_index.specs.Kinds.{IsMarked}
use Rattle.lost_index.proofs.KindLemmas.{found_all}
use Rattle.lost_index.proofs.HoldingLemmas.{near_has, near_held}
use Rattle.lost_index.proofs.index.Index.near.Goals as goal

pub returns-clause-holders : goal.returns-clause-holders
returns-clause-holders g c = λ number stands.
    let location = c.args.location.now in
    let is_location = c.in_ok-near.ensures.is_location in
    near_has (IsMarked g.P.Profile.is_region g.P.Profile.cover_of g.P.Profile.kind_of c.self.inside.kinds) g.P.Profile.cover_of g.P.Profile.outline_of g.P.Key.PartialEq.eq g.P.Outline.PartialEq.eq
    (λ outline. g.P.Profile.may_hold outline location) (g.P.Profile.probes_of location) c.self.inside.held c.self.inside.cells c.self.invariant
    c.in_ok-near.near.items c.sort_unstable.new.self.items c.dedup.new.self.items
    (c.in_ok-near.ensures.found ∙ found_all g.P.Profile.is_region g.P.Profile.cover_of g.P.Profile.outline_of g.P.Key.PartialEq.eq g.P.Outline.PartialEq.eq g.P.Profile.kind_of
    c.self.inside.kinds c.self.inside.held c.self.inside.cells c.self.invariant g.met.P.Profile.equal_keys_are_of_one_kind g.met.P.Outline.Eq.laws.refl _ _)
    c.sort_unstable.ensures.permutation (dedup_is nat_eq c.sort_unstable.new.self.items c.dedup.new.self.items c.dedup.ensures.filtered)
    g.P.Profile.holds location c.numbers_rise.ensures
    (λ region is_region holds. g.met.P.Profile.cover_meets_probes region location is_region.lawful is_location holds)
    (λ region is_region holds. g.met.P.Profile.holder_is_near region location is_region.lawful is_location holds)
    (λ outline other equal. g.met.P.Profile.equal_outlines_agree outline other location equal)
    number (subst (λ l. Contains (holders g.P.Profile.holds location l) number) (sym c.self.view_is) stands)

pub returns-clause-held : goal.returns-clause-held
returns-clause-held g c =
    let location = c.args.location.now in
    subst (λ l. All (λ number. IsHeld number l) c.dedup.new.self.items) c.self.view_is
    (near_held (IsMarked g.P.Profile.is_region g.P.Profile.cover_of g.P.Profile.kind_of c.self.inside.kinds) g.P.Profile.cover_of g.P.Profile.outline_of g.P.Key.PartialEq.eq g.P.Outline.PartialEq.eq
    (λ outline. g.P.Profile.may_hold outline location) (g.P.Profile.probes_of location) c.self.inside.held c.self.inside.cells c.self.invariant
    c.in_ok-near.near.items c.sort_unstable.new.self.items c.dedup.new.self.items
    (c.in_ok-near.ensures.found ∙ found_all g.P.Profile.is_region g.P.Profile.cover_of g.P.Profile.outline_of g.P.Key.PartialEq.eq g.P.Outline.PartialEq.eq g.P.Profile.kind_of
    c.self.inside.kinds c.self.inside.held c.self.inside.cells c.self.invariant g.met.P.Profile.equal_keys_are_of_one_kind g.met.P.Outline.Eq.laws.refl _ _)
    c.sort_unstable.ensures.permutation (dedup_is nat_eq c.sort_unstable.new.self.items c.dedup.new.self.items c.dedup.ensures.filtered)
    g.met.P.Outline.Eq.laws.refl)

pub returns-clause-rising : goal.returns-clause-rising
returns-clause-rising g c =
    rw (dedup_is nat_eq c.sort_unstable.new.self.items c.dedup.new.self.items c.dedup.ensures.filtered)
    (IsStrictlyIncreasing-dedup c.sort_unstable.new.self.items c.sort_unstable.ensures.sorted)

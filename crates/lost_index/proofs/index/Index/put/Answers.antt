-- The notes of the other numbers stay, none was noted of the new number, and none is where it is refused.
use Rattle.std.proofs.Common.{◌++◌, ◌∷◌, [], ap, refl, sym, subst, ◌∙◌}
use Rattle.std.proofs.lemmas.List.Elements.{All-contains}
use Rattle.std.proofs.lemmas.Result.{on_ok_weaker}
use Rattle.lost_index.specs.Kinds.{IsMarked}
use Rattle.lost_index.specs.Entries.{regions_of, IsAbove}
use Rattle.lost_index.specs.Notes.{covers_with, AddsAtMost, IsIndexed}
use Rattle.lost_index.proofs.KindLemmas.{are_marked, IsIndexed-marked}
use Rattle.lost_index.proofs.EntryLemmas.{lookup_put}
use Rattle.lost_index.proofs.IndexLemmas.{by_refusal, IsIndexed-apart, IsIndexed-put}
use Rattle.lost_index.proofs.OnlyLemmas.{AddsAtMost-taken_back}
use Rattle.lost_index.proofs.index.Index.put.Goals as goal

pub invariant_of-self : goal.invariant_of-self
invariant_of-self g c =
    IsIndexed-apart (IsMarked g.P.Profile.is_region g.P.Profile.cover_of g.P.Profile.kind_of c.self.inside.kinds) g.P.Profile.cover_of g.P.Profile.outline_of g.P.Key.PartialEq.eq g.P.Outline.PartialEq.eq c.self.inside.held c.self.inside.held
    c.self.inside.cells c.add_notes.new.cells c.args.number c.self.invariant refl c.add_notes.ensures.others
    (subst (λ regions. AddsAtMost g.P.Key.PartialEq.eq g.P.Outline.PartialEq.eq c.args.number
    (covers_with g.P.Key.PartialEq.eq g.P.Outline.PartialEq.eq g.P.Profile.cover_of g.P.Profile.outline_of regions) c.self.inside.cells c.add_notes.new.cells)
    c.none.ensures c.in_err-add_notes.ensures.refused)
    (subst (IsAbove c.args.number) (sym c.self.view_is) c.requires)

pub invariant_of-self-2 : goal.invariant_of-self-2
invariant_of-self-2 g c =
    let is_region = IsMarked g.P.Profile.is_region g.P.Profile.cover_of g.P.Profile.kind_of c.mark_covers.new.kinds in
    let before = IsIndexed-marked g.P.Profile.is_region g.P.Profile.cover_of g.P.Profile.kind_of g.P.Profile.outline_of g.P.Key.PartialEq.eq g.P.Outline.PartialEq.eq c.self.inside.held c.self.inside.cells c.self.inside.kinds c.mark_covers.new.kinds c.mark_covers.ensures.keeps c.self.invariant in
    let above = subst (IsAbove c.args.number) (sym c.self.view_is) c.requires in
    by_refusal c.hold.result c.hold.ensures.put c.hold.ensures.noted c.hold.ensures.refused c.hold.ensures.taken c.hold.ensures.fewer
    (λ put noted. subst (λ cells. IsIndexed is_region g.P.Profile.cover_of g.P.Profile.outline_of g.P.Key.PartialEq.eq g.P.Outline.PartialEq.eq c.hold.new.held cells) (sym noted)
    (IsIndexed-put is_region g.P.Profile.cover_of g.P.Profile.outline_of g.P.Key.PartialEq.eq g.P.Outline.PartialEq.eq c.self.inside.held c.hold.new.held
    c.self.inside.cells c.add_notes.new.cells c.args.number c.in_ok-entry.entry before above
    (λ k. ap (λ held. regions_of held k) put ∙ lookup_put c.args.number c.in_ok-entry.entry c.self.inside.held above k)
    c.add_notes.ensures.others (rw (← c.kept.ensures) c.in_ok-add_notes.ensures.only)
    (λ region. All-contains is_region c.in_ok-entry.entry region
    (are_marked g.P.Profile.is_region g.P.Profile.cover_of g.P.Profile.kind_of c.mark_covers.new.kinds c.in_ok-entry.entry c.in_ok-entry.ensures.are_regions
    (rw (← c.kept-3.ensures) c.mark_covers.ensures.marked)))
    (rw (← c.kept.ensures) c.in_ok-add_notes.ensures.added)))
    (λ refused taken fewer. IsIndexed-apart is_region g.P.Profile.cover_of g.P.Profile.outline_of g.P.Key.PartialEq.eq g.P.Outline.PartialEq.eq c.self.inside.held c.hold.new.held
    c.self.inside.cells c.hold.new.cells c.args.number before refused
    (λ key number outline apart noted. taken.others key number outline apart (c.add_notes.ensures.others key number outline apart noted))
    (AddsAtMost-taken_back g.P.Key.PartialEq.eq g.P.Outline.PartialEq.eq c.self.inside.cells c.add_notes.new.cells c.hold.new.cells
    g.P.Profile.cover_of g.P.Profile.outline_of c.args.number c.in_ok-entry.entry [] (rw (← c.kept.ensures) c.in_ok-add_notes.ensures.only) fewer taken.gone)
    above)

pub returns-clause-put : goal.returns-clause-put
returns-clause-put g c =
    on_ok_weaker c.hold.result
    (λ put. put ∙ ap (λ regions. c.self.inside.held ++ (c.args.number, regions) ∷ []) c.in_ok-entry.ensures.regions
    ∙ ap (λ held. held ++ (c.args.number, c.args.regions.items) ∷ []) c.self.view_is)
    c.hold.ensures.put

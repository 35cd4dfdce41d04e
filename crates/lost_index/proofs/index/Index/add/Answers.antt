-- The notes of what was held stay, and the new regions are noted, and nothing else.
use Rattle.std.proofs.Common.{◌++◌, ap, sym, subst, ◌∙◌}
use Rattle.lost_index.specs.Entries.{regions_of}
use Rattle.lost_index.specs.Kinds.{IsMarked}
use Rattle.lost_index.specs.Notes.{covers, IsNotedOnlyFor}
use Rattle.lost_index.proofs.KindLemmas.{are_marked, IsIndexed-marked}
use Rattle.lost_index.proofs.EntryLemmas.{lookup_with}
use Rattle.lost_index.proofs.IndexLemmas.{IsIndexed-unnoted, IsIndexed-refused, IsIndexed-added}
use Rattle.lost_index.proofs.index.Index.add.Goals as goal

pub invariant_of-self : goal.invariant_of-self
invariant_of-self g c =
    IsIndexed-unnoted (IsMarked g.P.Profile.is_region g.P.Profile.cover_of g.P.Profile.kind_of c.self.inside.kinds) g.P.Profile.cover_of g.P.Profile.outline_of g.P.Key.PartialEq.eq g.P.Outline.PartialEq.eq c.self.inside.held c.self.inside.cells c.add_notes.new.cells
    c.args.number c.kept_of-remaining.result.now c.self.invariant c.kept_of-remaining.ensures c.add_notes.ensures.others c.add_notes.ensures.remaining
    c.in_err-add_notes.ensures.refused

pub invariant_of-self-in-Err : goal.invariant_of-self-in-Err
invariant_of-self-in-Err g c =
    let is_region = IsMarked g.P.Profile.is_region g.P.Profile.cover_of g.P.Profile.kind_of c.mark_covers.new.kinds in
    let before = IsIndexed-marked g.P.Profile.is_region g.P.Profile.cover_of g.P.Profile.kind_of g.P.Profile.outline_of g.P.Key.PartialEq.eq g.P.Outline.PartialEq.eq c.self.inside.held c.self.inside.cells c.self.inside.kinds c.mark_covers.new.kinds c.mark_covers.ensures.keeps c.self.invariant in
    IsIndexed-refused is_region g.P.Profile.cover_of g.P.Profile.outline_of g.P.Key.PartialEq.eq g.P.Outline.PartialEq.eq c.self.inside.held c.append.new.self
    c.self.inside.cells c.add_notes.new.cells c.remove_notes.new.cells c.args.number c.kept_of-remaining.result.now c.kept_of-remaining-in-Err.result.now c.kept.result.now
    before c.in-Err.ensures.refused c.kept_of-remaining.ensures c.kept_of-remaining-in-Err.ensures c.add_notes.ensures.others
    c.remove_notes.ensures.taken.others c.add_notes.ensures.remaining c.remove_notes.ensures.taken.remaining c.in_ok-add_notes.ensures.only c.remove_notes.ensures.fewer
    (subst (λ regions. IsNotedOnlyFor g.P.Key.PartialEq.eq g.P.Outline.PartialEq.eq g.P.Profile.cover_of g.P.Profile.outline_of c.args.number c.kept_of-remaining-in-Err.result.now
    (covers g.P.Key.PartialEq.eq g.P.Profile.cover_of regions) c.remove_notes.new.cells)
    (c.kept-in-Err.ensures ∙ c.in-Err.ensures.given_back ∙ sym c.kept.ensures) c.remove_notes.ensures.taken.gone)

pub invariant_of-self-in_default : goal.invariant_of-self-in_default
invariant_of-self-in_default g c =
    let is_region = IsMarked g.P.Profile.is_region g.P.Profile.cover_of g.P.Profile.kind_of c.mark_covers.new.kinds in
    let before = IsIndexed-marked g.P.Profile.is_region g.P.Profile.cover_of g.P.Profile.kind_of g.P.Profile.outline_of g.P.Key.PartialEq.eq g.P.Outline.PartialEq.eq c.self.inside.held c.self.inside.cells c.self.inside.kinds c.mark_covers.new.kinds c.mark_covers.ensures.keeps c.self.invariant in
    IsIndexed-added is_region g.P.Profile.cover_of g.P.Profile.outline_of g.P.Key.PartialEq.eq g.P.Outline.PartialEq.eq c.self.inside.held c.append.new.self
    c.self.inside.cells c.add_notes.new.cells c.args.number c.kept_of-remaining.result.now c.in_ok-entry.entry before
    c.kept_of-remaining.ensures
    (λ k. ap (λ held. regions_of held k) c.in_default.ensures.appended
    ∙ lookup_with c.args.number k (λ regions. regions ++ c.in_ok-entry.entry) c.kept_of-remaining.result.now c.self.inside.held c.kept_of-remaining.ensures)
    c.add_notes.ensures.others
    c.add_notes.ensures.remaining (rw (← c.kept.ensures) c.in_ok-add_notes.ensures.only)
    (are_marked g.P.Profile.is_region g.P.Profile.cover_of g.P.Profile.kind_of c.mark_covers.new.kinds c.in_ok-entry.entry c.in_ok-entry.ensures.are_regions
    (rw (← c.kept-2.ensures) c.mark_covers.ensures.marked))
    (rw (← c.kept.ensures) c.in_ok-add_notes.ensures.added)

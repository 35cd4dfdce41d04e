-- The notes of the other numbers stay, and those of the number go.
use Rattle.std.proofs.Common.{ap, subst, ◌∙◌}
use Rattle.lost_index.specs.Kinds.{IsMarked}
use Rattle.lost_index.specs.Entries.{regions_of}
use Rattle.lost_index.specs.Notes.{covers, IsNotedOnlyFor}
use Rattle.lost_index.proofs.EntryLemmas.{lookup_without}
use Rattle.lost_index.proofs.IndexLemmas.{IsIndexed-taken}
use Rattle.lost_index.proofs.index.Index.take.Goals as goal

pub invariant_of-self : goal.invariant_of-self
invariant_of-self g c =
    IsIndexed-taken (IsMarked g.P.Profile.is_region g.P.Profile.cover_of g.P.Profile.kind_of c.self.inside.kinds) g.P.Profile.cover_of g.P.Profile.outline_of g.P.Key.PartialEq.eq g.P.Outline.PartialEq.eq c.self.inside.held c.remove-entry.new.self
    c.self.inside.cells c.remove_notes.new.cells c.args.number c.remove-entry.result c.self.invariant
    c.remove-entry.ensures.entry
    (λ k. ap (λ held. regions_of held k) c.remove-entry.ensures.rest ∙ lookup_without c.args.number k c.self.inside.held c.remove-entry.ensures.rising)
    c.remove_notes.ensures.taken.others c.remove_notes.ensures.fewer
    (subst (λ remaining. IsNotedOnlyFor g.P.Key.PartialEq.eq g.P.Outline.PartialEq.eq g.P.Profile.cover_of g.P.Profile.outline_of c.args.number remaining
    (covers g.P.Key.PartialEq.eq g.P.Profile.cover_of c.remove-entry.result) c.remove_notes.new.cells) c.none.ensures
    (subst (λ regions. IsNotedOnlyFor g.P.Key.PartialEq.eq g.P.Outline.PartialEq.eq g.P.Profile.cover_of g.P.Profile.outline_of c.args.number c.none.result.now
    (covers g.P.Key.PartialEq.eq g.P.Profile.cover_of regions) c.remove_notes.new.cells) c.kept.ensures c.remove_notes.ensures.taken.gone))

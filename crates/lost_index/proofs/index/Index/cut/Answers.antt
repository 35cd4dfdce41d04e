-- The notes of the other numbers, and of the regions that stay, stay.
use Rattle.std.proofs.Common.{Contains, ap, subst, ◌∙◌}
use Rattle.std.specs.List.{slice_range}
use Rattle.lost_index.specs.Entries.{regions_of}
use Rattle.lost_index.specs.Kinds.{IsMarked}
use Rattle.lost_index.proofs.CutLemmas.{Contains-slice_range}
use Rattle.lost_index.proofs.EntryLemmas.{contains_found, lookup_with}
use Rattle.lost_index.proofs.IndexLemmas.{IsIndexed-kept}
use Rattle.lost_index.proofs.index.Index.cut.Goals as goal

pub invariant_of-self : goal.invariant_of-self
invariant_of-self g c =
    let regions = c.kept_of-kept.result.now in
    IsIndexed-kept (IsMarked g.P.Profile.is_region g.P.Profile.cover_of g.P.Profile.kind_of c.self.inside.kinds) g.P.Profile.cover_of g.P.Profile.outline_of g.P.Key.PartialEq.eq g.P.Outline.PartialEq.eq c.self.inside.held c.cut.new.self
    c.self.inside.cells c.remove_rest_notes.new.cells c.args.number regions (slice_range regions c.args.from c.args.to) c.self.invariant
    c.kept_of-kept.ensures (Contains-slice_range regions c.args.from c.args.to)
    (λ k. ap (λ held. regions_of held k) c.cut.ensures
    ∙ lookup_with c.args.number k (λ regions. slice_range regions c.args.from c.args.to) regions c.self.inside.held c.kept_of-kept.ensures)
    c.remove_rest_notes.ensures.others c.remove_rest_notes.ensures.remaining c.remove_rest_notes.ensures.fewer c.remove_rest_notes.ensures.gone

pub remove_rest_notes-requires-clause-within : goal.remove_rest_notes-requires-clause-within
remove_rest_notes-requires-clause-within g c =
    let regions = c.kept_of-kept.result.now in
    c.requires.within regions
    (subst (λ held. Contains held (c.args.number, regions)) c.self.view_is
    (contains_found c.args.number regions c.self.inside.held c.kept_of-kept.ensures))

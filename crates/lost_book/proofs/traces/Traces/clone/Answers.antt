-- The next trace is noted behind those in front of it.
use Rattle.std.proofs.Common.{◌≡◌, ◌+◌, List, Some, slice_get, take, ap, subst, sym, ◌∙◌}
use Rattle.lost_spec.specs.Book.{Trace, with_trace}
use Rattle.lost_book.proofs.TraceLemmas.{copied_more}
use Rattle.lost_book.proofs.traces.Traces.clone.Goals as goal

pub loop-position-preserved : goal.loop-position-preserved
loop-position-preserved c =
    let entries = c.self.inside.stamps.entries in
    let i = c.loop-position.position in
    let id = c.in-Some.identity.now in
    let stamp = c.in-Some.stamp.now in
    let at : slice_get entries i ≡ Some (id, stamp) = sym c.in-Some.ensures.entry in
    c.in_ok-remember-in-Some.ensures.remembered ∙ ap (with_trace id stamp) c.loop-position.invariant
    ∙ subst (λ (ts : List Trace). with_trace id stamp (take i ts) ≡ take (i + 1) ts) c.self.view_is (copied_more entries i (id, stamp) c.len-position-end.ensures.unique at)

use Rattle.std.proofs.Common.{◌-◌, ap, ◌∙◌}
use Rattle.lost_lines.specs.declared.counts.Counts.{Counts}
use Rattle.lost_connections.specs.Client.{connection_of}
use Rattle.lost_connections.proofs.FaultLemmas.{exits_at}
use Rattle.lost_connections.proofs.TakeLemmas.{steady_after, served, broken_sending, broken_taking}
use Rattle.lost_connections.proofs.client.Client.serve_burst.Goals as goal

pub returns-in_err-came-clause-broken : goal.returns-in_err-came-clause-broken
returns-in_err-came-clause-broken g c =
    exits_at c.from_residual.result _ _ c.from_residual.ensures.1 (λ piece begun. broken_taking _ _ _ _ _ _ piece _ (c.in_err-came.ensures.broken piece begun))

pub returns-in_err-taken-clause-broken : goal.returns-in_err-taken-clause-broken
returns-in_err-taken-clause-broken g c =
    exits_at c.from_residual-in_err-taken.result _ _ c.from_residual-in_err-taken.ensures.1
    (λ piece begun. broken_sending _ _ _ _ _ _ piece _ c.in_err-taken.ensures.only
    (steady_after _ _ _ _ _ (connection_of g.I.Read.remaining g.O.Write.contents c.take_in.new.self) _ piece _ (c.in_ok-came.ensures.taken piece begun) c.in_err-taken.ensures.rest))

pub returns-clause-steady : goal.returns-clause-steady
returns-clause-steady g c piece begun =
    let lines = c.saturating_sub.ensures ∙ ap (λ (x : Counts). x.lines - c.counts-lines.result.lines) c.counts.ensures.counts
    ∙ ap (λ (x : Counts). c.send.new.self.replies.counts.lines - x.lines) c.counts-lines.ensures.counts in
    served _ _ _ _ _ (connection_of g.I.Read.remaining g.O.Write.contents c.take_in.new.self) _ piece _ _ c.in_ok-came.came
    c.count.result c.in_ok-taken.taken c.saturating_sub.result c.progress.result c.shown.result
    (c.in_ok-came.ensures.taken piece begun) c.in_ok-taken.ensures.rest c.in_ok-came.ensures.brought c.progress.ensures c.shown.ensures
    c.count.ensures c.in_ok-taken.ensures.count lines

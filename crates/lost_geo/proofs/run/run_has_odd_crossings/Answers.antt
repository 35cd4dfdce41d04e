-- No edge crosses where the run does not span the place or is to its left; where it is to its right, its edges that span the place do.
use Rattle.std.proofs.Common.{◌+◌, List, sym, ap, ◌∙◌, take, drop}
use Rattle.lost_spec.specs.Ring.{Point, edges, spans}
use Rattle.lost_geo.specs.Runs.{edges_of_a_run}
use Rattle.lost_geo.proofs.Parity.{odd_count}
use Rattle.lost_geo.proofs.Runs.{none_where_not_spanned, none_where_left, spanned_where_right}
use Rattle.lost_geo.proofs.run.run_has_odd_crossings.Goals as goal

pub returns-then-not-spans : goal.returns-then-not-spans
returns-then-not-spans c =
    sym (none_where_not_spanned c.args.run.now (take (edges_of_a_run + 1) (drop c.args.begin c.args.positions.now)) c.args.place.now c.requires.run (sym c.spans.ensures ∙ c.if-not-spans.true))

pub returns-then-is_left : goal.returns-then-is_left
returns-then-is_left c =
    sym (none_where_left c.args.run.now (take (edges_of_a_run + 1) (drop c.args.begin c.args.positions.now)) c.args.place.now c.requires.run (sym c.is_left.ensures ∙ c.if-is_left.true))

pub returns-then-is_right : goal.returns-then-is_right
returns-then-is_right c =
    c.is_spanned_oddly.ensures
    ∙ ap (λ (ps : List Point). odd_count (λ e. spans e c.args.place.now) (edges ps)) c.run_at-positions.ensures.value
    ∙ sym (spanned_where_right c.args.run.now (take (edges_of_a_run + 1) (drop c.args.begin c.args.positions.now)) c.args.place.now c.requires.run (sym c.is_right.ensures ∙ c.if-is_right.true))

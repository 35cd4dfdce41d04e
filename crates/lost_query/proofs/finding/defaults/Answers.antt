use Rattle.std.proofs.Common.{◌≡◌, ◌∙◌, subst, IfOk}
use Rattle.lost_spec.specs.Find.{is_standby}
use Rattle.lost_query.specs.Finding.{all_found}
use Rattle.lost_query.proofs.PositionLemmas.{positions-within, at_positions-positions}
use Rattle.lost_query.proofs.finding.defaults.Goals as goal

pub standing_at-requires : goal.standing_at-requires
standing_at-requires g c = positions-within (is_standby c.args.moment.now c.args.service.now) (g.H.Holdings.book c.args.holdings.now).mappings _ (c.deref.ensures ∙ c.in_ok-positions.ensures)

pub returns : goal.returns
returns g c =
    subst (λ ms. IfOk c.standing_at.result (λ found. all_found found ≡ ms))
    (at_positions-positions (is_standby c.args.moment.now c.args.service.now) (g.H.Holdings.book c.args.holdings.now).mappings _ (c.deref.ensures ∙ c.in_ok-positions.ensures)) c.standing_at.ensures

use Rattle.std.proofs.Common.{◌∙◌, refl, ap, sym}
use Rattle.lost_spec.specs.Answer.{boundary_reply}
use Rattle.lost_mapping.specs.Path.{shown_path}
use Rattle.lost_query.proofs.BoundaryLemmas.{by_key-none, by_key-some, boundary_reply-some}
use Rattle.lost_query.proofs.boundaries.get_boundary.Goals as goal

pub returns-in_default : goal.returns-in_default
returns-in_default g c =
    let b = g.H.Holdings.book c.args.holdings.now in
    let none = by_key-none b c.args.moment.now c.args.key.now c.by_key.result c.by_key.ensures c.in_default.is in
    c.refusal.ensures ∙ sym (ap (boundary_reply b.edits (shown_path c.args.path.now)) none)

pub returns : goal.returns
returns g c =
    let b = g.H.Holdings.book c.args.holdings.now in
    let some = by_key-some b c.args.moment.now c.args.key.now c.by_key.result c.by_key.ensures c.in-Some.position c.mapping.result.now c.in-Some.is c.mapping.ensures in
    boundary_reply-some b.edits c.edition.result (shown_path c.args.path.now) _ c.mapping.result.now c.in_ok-clone.field-0 _ c.edition.ensures refl c.in_ok-clone.ensures some

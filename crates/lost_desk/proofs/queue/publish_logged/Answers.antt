use Rattle.std.proofs.Common.{◌∙◌, ap}
use Rattle.lost_desk.specs.declared.version.Operation.TheVariants.{Mark}
use Rattle.lost_desk.specs.States.{with_waiting}
use Rattle.lost_desk.proofs.DeskLemmas.{may_follow, published_by}
use Rattle.lost_desk.proofs.queue.publish_logged.Goals as goal

pub publish-requires : goal.publish-requires
publish-requires g c = rw (c.in-Ok.ensures, c.again.ensures) (may_follow c.args.copies.now c.args.front.now c.requires)

pub returns : goal.returns
returns g c =
    published_by c.publish.result c.args.copies.now c.mark.new.self c.publish.new.self c.args.front.now c.requires (c.in-Ok.ensures ∙ ap (λ f. with_waiting c.args.copies.now (Mark f)) c.again.ensures) c.publish.ensures

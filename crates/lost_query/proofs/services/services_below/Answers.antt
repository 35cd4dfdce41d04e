use Rattle.std.proofs.Common.{◌≡◌, ◌∙◌, sym, arith, rules}
use Rattle.std.specs.Option.{option_copied}
use Rattle.lost_spec.specs.Mapping.{Mapping, is_live}
use Rattle.lost_spec.specs.Services.{all_services}
use Rattle.lost_query.proofs.HasChildren.{HasChildren-passes, HasChildren-fails, all_services-HasChildren}
use Rattle.lost_query.proofs.services.services_below.Goals as goal

pub loop-position-preserved-then-not-is_live : goal.loop-position-preserved-then-not-is_live
loop-position-preserved-then-not-is_live c =
    let t = c.args.moment.now in
    HasChildren-fails (λ (m : Mapping). is_live m t) (option_copied c.args.above) c.args.book.now.mappings c.loop-position.position c.mapping-mapping.result.now (omega arith) c.mapping-mapping.ensures c.loop-position.children c.loop-position.invariant (sym c.is_live.ensures ∙ c.if-not-is_live.true)

pub loop-position-preserved : goal.loop-position-preserved
loop-position-preserved c =
    let t = c.args.moment.now in
    HasChildren-passes (λ (m : Mapping). is_live m t) (option_copied c.args.above) c.args.book.now.mappings c.loop-position.position c.mapping-mapping.result.now (omega arith) c.mapping-mapping.ensures c.loop-position.children c.loop-position.invariant (sym c.is_live.ensures ∙ c.if-not-is_live.false) c.service.result.now c.add.new.self c.service.ensures c.in_ok-add.ensures.child

pub returns : goal.returns
returns c =
    let above = option_copied c.args.above in
    let all : c.loop-position.children.found ≡ all_services c.args.book.now c.args.moment.now above = all_services-HasChildren c.args.book.now c.args.moment.now above c.loop-position.position c.loop-position.children c.loop-position-test.false c.loop-position.invariant in
    search rules

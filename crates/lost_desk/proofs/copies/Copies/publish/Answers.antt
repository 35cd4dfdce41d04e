use Rattle.std.proofs.Common.{drop, sym, subst}
use Rattle.lost_desk.specs.Copies.{taken_all}
use Rattle.lost_desk.specs.States.{MayFollow}
use Rattle.lost_desk.proofs.StepLemmas.{publishes}
use Rattle.lost_desk.proofs.copies.Copies.publish.Goals as goal

pub publish_as-writer-requires : goal.publish_as-writer-requires
publish_as-writer-requires g c =
    let writer = c.take_out-writer.result in
    let follows : MayFollow writer.desk.shown.value (taken_all writer.desk.shown.value (drop writer.behind writer.log.items)) = rw (← c.self.view_is, c.take_out-writer.ensures.taken) at c.requires in
    λ next is. publishes writer.desk.place.id writer.desk.place.me.0.client writer.desk.shown.value next (subst (λ v. MayFollow writer.desk.shown.value v) (sym is) follows)

use Rattle.std.proofs.Common.{sym, ◌∙◌, ap, subst}
use Rattle.left_right.specs.Register.{TurnsAt}
use Rattle.lost_desk.specs.Copies.{taken_all}
use Rattle.lost_desk.specs.Rule.{IsOneList, names}
use Rattle.lost_desk.proofs.StepLemmas.{opening_names}
use Rattle.lost_desk.proofs.open.open_writer.Goals as goal

pub publish_as-writer-requires : goal.publish_as-writer-requires
publish_as-writer-requires g c =
    let place = c.in_ok-writer.writer.desk.place in
    let shown = c.in_ok-writer.writer.desk.shown.value in
    λ next is. subst (λ n. TurnsAt IsOneList place.id place.me.0.client shown n names) (sym (is ∙ ap (taken_all shown) c.in_ok-writer.ensures.waiting)) (opening_names place.id place.me.0.client shown)

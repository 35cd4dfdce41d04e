use Rattle.lost_desks.proofs.KeptLemmas.{stays_again}
use Rattle.lost_desks.proofs.serving.DeskService.serve.Goals as goal

pub returns-clause-kept : goal.returns-clause-kept
returns-clause-kept g c =
    let before = c.args.desk.now in
    let turned = c.serve_turn.new.desk in
    stays_again c.args.keeper.now c.tell_of_keeper.new.keeper c.drop_pending-left.new.keeper before turned c.drop_pending-left.new.desk
    (stays_again c.args.keeper.now c.serve_turn.new.keeper c.tell_of_keeper.new.keeper before turned turned c.serve_turn.ensures.kept (c.tell_of_keeper.ensures turned))
    c.drop_pending-left.ensures.kept

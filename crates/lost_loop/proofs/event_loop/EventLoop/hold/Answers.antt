use Rattle.lost_loop.proofs.LoopLemmas.{held}
use Rattle.lost_loop.proofs.event_loop.EventLoop.hold.Goals as goal

pub returns-clause-held : goal.returns-clause-held
returns-clause-held c =
    held _ _ c.args.most_lines c.args.self.now.now c.args.state c.new-client.result _ _ c.insert.result c.ok-2.result _ _ c.new-client.ensures c.ok-2.ensures.value c.insert.ensures.taken c.insert.ensures.err

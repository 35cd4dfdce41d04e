-- A service of the chain is held where it is found, and none is where all were asked.
use Rattle.std.proofs.Common.{rules, length, sym}
use Rattle.lost_routing.proofs.QuestionLemmas.{front_is_there, front_is_passed, no_front}
use Rattle.lost_routing.proofs.store.Store.implemented.Goals as goal

pub returns-then-is_served : goal.returns-then-is_served
returns-then-is_served c =
    sym (front_is_there c.args.moment.now c.args.service.now c.args.self.now.mappings (length c.args.service.now) c.loop-cut.cut
    (search rules) c.loop-cut.invariant (search rules))

pub loop-cut-preserved : goal.loop-cut-preserved
loop-cut-preserved c =
    front_is_passed c.args.moment.now c.args.service.now c.args.self.now.mappings (length c.args.service.now) c.loop-cut.cut
    (search rules) c.loop-cut.invariant (search rules)

pub returns : goal.returns
returns c =
    sym (no_front c.args.moment.now c.args.service.now c.args.self.now.mappings (length c.args.service.now) c.loop-cut.cut
    (search rules) c.loop-cut.invariant)

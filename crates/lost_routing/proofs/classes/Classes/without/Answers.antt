-- Each step marks the class of one service more, and in the end that of each.
use Rattle.std.proofs.Common.{rules, arith}
use Rattle.lost_routing.proofs.ClassLemmas.{chain_more}
use Rattle.lost_routing.proofs.classes.Classes.without.Goals as goal

pub loop-cut-preserved : goal.loop-cut-preserved
loop-cut-preserved c =
    chain_more c.args.service.now c.args.self.now c.loop-cut.classes c.mark.new.self c.loop-cut.cut c.class_of-class.result c.loop-cut.invariant c.mark.ensures.keeps
    (search rules) c.mark.ensures.marked (search rules)

pub returns : goal.returns
returns c = λ k within. c.loop-cut.invariant k (omega arith)

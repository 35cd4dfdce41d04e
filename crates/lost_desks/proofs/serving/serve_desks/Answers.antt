use Rattle.std.proofs.Common.{◌≡◌, ◌∙◌, refl, rules}
use Rattle.lost_desks.proofs.KeptLemmas.{stays_again, stays_as_is}
use Rattle.lost_desks.proofs.serving.serve_desks.Goals as goal

pub loop-turn-init : goal.loop-turn-init
loop-turn-init g c = record { kept = stays_as_is c.args.keeper.now c.args.desk.now; same = record { opening = refl; limits = refl } }

pub loop-turn-preserved : goal.loop-turn-preserved
loop-turn-preserved g c = record {
  kept = stays_again c.args.keeper.now c.loop-turn.keeper c.serve-left.new.keeper c.args.desk.now c.loop-turn.desk c.serve-left.new.desk c.loop-turn.invariant.kept c.serve-left.ensures.kept;
  same = record { opening = c.serve-left.ensures.same.opening ∙ c.loop-turn.invariant.same.opening; limits = c.serve-left.ensures.same.limits ∙ c.loop-turn.invariant.same.limits };
}

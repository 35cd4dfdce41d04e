use Rattle.lost_durability.proofs.SurvivalLemmas.{survives}
use Rattle.lost_durability.proofs.survival.published_survives.Goals as goal

pub returns : goal.returns
returns g c = λ clean kept after. survives c.args._keeper.now c.args._desk.now clean kept after

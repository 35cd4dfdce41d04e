use Rattle.std.proofs.Common.{◌∙◌}
use Rattle.lost_regions.proofs.RegionLemmas.{has_more, other_after_more}
use Rattle.lost_regions.proofs.regions.Regions.change.Goals as goal

pub shed-requires : goal.shed-requires
shed-requires c =
    has_more c.args.number c.args.new.now c.args.old.now.regions c.args.self.now c.grow.new.self c.requires
    c.in_ok-grow.ensures.grown

pub returns-clause-changed : goal.returns-clause-changed
returns-clause-changed c =
    c.shed.ensures
    ∙ other_after_more c.args.number c.args.new.now c.args.old.now.regions c.args.self.now c.grow.new.self c.requires
    c.in_ok-grow.ensures.grown

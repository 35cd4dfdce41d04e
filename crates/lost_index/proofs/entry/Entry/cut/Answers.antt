-- The three steps leave the part.
use Rattle.lost_index.proofs.CutLemmas.{slice_range-turned}
use Rattle.lost_index.proofs.entry.Entry.cut.Goals as goal

pub returns : goal.returns
returns g c =
    rw (c.shrink_to_fit.ensures.items, c.truncate-2.ensures.items, c.rotate_left.ensures.items, c.truncate.ensures.items, c.self.view_is)
    (slice_range-turned c.args.self.now c.args.from c.args.to c.requires.in_order c.requires.within)

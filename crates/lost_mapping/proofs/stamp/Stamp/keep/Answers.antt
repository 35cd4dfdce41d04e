use Rattle.lost_mapping.proofs.AsciiLemmas.{ascii_stamp}
use Rattle.lost_mapping.proofs.stamp.Stamp.keep.Goals as goal

pub to_text-requires : goal.to_text-requires
to_text-requires c = ascii_stamp c.args.text.now c.requires.well_formed

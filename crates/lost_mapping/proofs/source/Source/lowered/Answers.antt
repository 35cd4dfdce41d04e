use Rattle.std.proofs.Common.{rules}
use Rattle.lost_mapping.proofs.SourceLemmas.{ascii_source, kept_lowered}
use Rattle.lost_mapping.proofs.source.Source.lowered.Goals as goal

pub to_lowercase-requires : goal.to_lowercase-requires
to_lowercase-requires c = ascii_source c.args.text.now c.requires

pub invariant_of-result : goal.invariant_of-result
invariant_of-result c = kept_lowered c.args.text.now _ (search rules) c.requires

use Rattle.std.proofs.Common.{◌-◌, take, drop, length}
use Rattle.std.proofs.lemmas.List.{take_rest}
use Rattle.lost_urn.proofs.CutLemmas.{cut_written}
use Rattle.lost_urn.proofs.urn.end_of_labels.Goals as goal

pub returns-clause-front : goal.returns-clause-front
returns-clause-front c = λ s h is.
    cut_written s c.args.n c.end_of_parts.result c.args.text.now (take (length c.args.text.now - 12) (drop 12 c.args.text.now)) h is (take_rest c.args.text.now 12) c.end_of_parts.ensures.front

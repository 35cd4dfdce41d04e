use Rattle.lost_civic.specs.Pairs.{seen_pair}
use Rattle.lost_civic.proofs.PairCopies.{map-from_all_zip, same_pair-copies}
use Rattle.lost_location.proofs.body.copied_pairs.Goals as goal

pub returns : goal.returns
returns c = map-from_all_zip _ seen_pair (λ x y h. same_pair-copies x y h.0 h.1) c.args.pairs.now.items c.in_ok-clone.field-0.items c.in_ok-clone.ensures.cases.0

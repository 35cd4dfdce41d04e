use Rattle.std.proofs.Common.{◌∙◌, ap}
use Rattle.std.specs.List.{fold}
use Rattle.lost_civic.specs.Pairs.{hashed_pairs}
use Rattle.lost_civic.proofs.PairCopies.{hashed-seen}
use Rattle.lost_civic.proofs.addresses.CivicAddressHash.hash.Goals as goal

pub returns : goal.returns
returns g c =
    c.hash.ensures ∙ ap (fold g.H.Hasher.write c.args.state.now) (hashed-seen c.self.inside.pairs.items ∙ ap hashed_pairs c.self.view_is)

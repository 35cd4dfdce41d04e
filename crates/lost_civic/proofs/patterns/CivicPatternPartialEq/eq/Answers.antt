use Rattle.std.proofs.Common.{◌≡◌, ◌∙◌, ap}
use Rattle.lost_civic.specs.declared.patterns.Fields.{Fields}
use Rattle.lost_civic.specs.Pairs.{seen_pairs, same_pairs}
use Rattle.lost_civic.proofs.PairCopies.{pointwise-seen}
use Rattle.lost_civic.proofs.patterns.CivicPatternPartialEq.eq.Goals as goal

pub returns : goal.returns
returns c =
    let own = c.deref.result.now.pairs.items in
    let others = c.deref-2.result.now.pairs.items in
    let own_is : seen_pairs own ≡ c.args.self.now = ap (λ (f : Fields). seen_pairs f.pairs.items) c.deref.ensures ∙ c.self.view_is in
    let others_are : seen_pairs others ≡ c.args.other.now = ap (λ (f : Fields). seen_pairs f.pairs.items) c.deref-2.ensures ∙ c.other.view_is in
    c.eq.ensures ∙ (pointwise-seen own others ∙ (ap (λ pairs. same_pairs pairs (seen_pairs others)) own_is ∙ ap (same_pairs c.args.self.now) others_are))

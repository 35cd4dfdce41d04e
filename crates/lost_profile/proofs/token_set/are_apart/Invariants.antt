use Rattle.std.proofs.Common.{◌≡◌, length, map}
use Rattle.lost_profile.proofs.TokenLemmas.{are_apart}
use Rattle.lost_profile.proofs.token_set.are_apart.Given as goal

abbrev pub invariant-loop-item : goal.invariant-loop-item
invariant-loop-item g l = are_apart (map g.T.TokenTexts.text_of l.items) ≡ are_apart (map g.T.TokenTexts.text_of l.rest)

abbrev pub decreases-loop-item : goal.decreases-loop-item
decreases-loop-item g l = length l.rest

use Rattle.std.proofs.Common.{◌≡◌, ◌∙◌, ◌||◌, nat_lt, length, string_bytes, rules, tests}
use Rattle.std.specs.List.{list_any}
use Rattle.std.proofs.lemmas.Iterator.{YieldsList-from_slice}
use Rattle.std.proofs.lemmas.Iterator.Search.{any_from_yields_List}
use Rattle.lost_civic.proofs.PairLemmas.{is_too_long-few}
use Rattle.lost_civic.proofs.refusals.exceeds_limits.Goals as goal

pub returns-else-pairs-gt-MAX_PAIRS : goal.returns-else-pairs-gt-MAX_PAIRS
returns-else-pairs-gt-MAX_PAIRS c =
    let direct : c.any.result ≡ list_any (λ pair. nat_lt 512 (length (string_bytes pair.0)) || nat_lt 512 (length (string_bytes pair.1))) c.args.pairs.now = any_from_yields_List (λ pair. nat_lt 512 (length (string_bytes pair.0)) || nat_lt 512 (length (string_bytes pair.1))) _ _ c.any.result c.any.ensures.ran (YieldsList-from_slice c.args.pairs.now (cc)) (λ x b q k. search (rules, tests)) in
    direct ∙ is_too_long-few c.args.pairs.now c.if-pairs-gt-MAX_PAIRS.false

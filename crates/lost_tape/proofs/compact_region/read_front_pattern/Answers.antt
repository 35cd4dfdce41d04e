use Rattle.lost_civic.specs.Pairs.{seen_pairs}
use Rattle.lost_writing.specs.Named.{named_members}
use Rattle.lost_tape.specs.Values.{before_pattern, after_pattern}
use Rattle.lost_tape.proofs.ValueLemmas.{pattern_part}
use Rattle.lost_tape.proofs.compact_region.read_front_pattern.Goals as goal

pub returns : goal.returns
unfolding before_pattern after_pattern
returns c =
    pattern_part c.args.text.now c.in_ok-rest.rest.now c.in_ok-named.rest.now c.in_ok-rest-2.rest.now (named_members c.in_ok-named.named.entries) (seen_pairs c.in_ok-pairs.pairs.items)
    c.in_ok-rest.ensures c.in_ok-named.ensures c.in_ok-rest-2.ensures c.in_ok-pairs.ensures

use Rattle.std.proofs.Common.{rules}
use Rattle.lost_urn.proofs.PrefixLemmas.{lowercase_prefix_found}
use Rattle.lost_urn.proofs.spelling.strip_lowercase_prefix.Goals as goal

pub returns-then-eq : goal.returns-then-eq
returns-then-eq c = lowercase_prefix_found c.args.text.now c.in_ok-front.front.now c.in_ok-front.labels.now (search rules) (search rules) (search rules)

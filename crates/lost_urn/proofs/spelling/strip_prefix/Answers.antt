use Rattle.std.proofs.Common.{rules}
use Rattle.lost_urn.proofs.PrefixLemmas.{prefix_found, prefix_there}
use Rattle.lost_urn.proofs.spelling.strip_prefix.Goals as goal

pub returns-then-eq_ignore_ascii_case-clause-found : goal.returns-then-eq_ignore_ascii_case-clause-found
returns-then-eq_ignore_ascii_case-clause-found c = prefix_found c.args.text.now c.in_ok-front.front.now c.in_ok-front.labels.now (search rules) (search rules) (search rules)

pub returns-else-eq_ignore_ascii_case-clause-missing : goal.returns-else-eq_ignore_ascii_case-clause-missing
returns-else-eq_ignore_ascii_case-clause-missing c = λ rest begins. let there = prefix_there c.args.text.now c.in_ok-front.front.now rest (search rules) begins in search rules

use Rattle.std.proofs.Common.{arith}
use Rattle.std.proofs.lemmas.Bool.Decides.{nat_tests}
use Rattle.lost_mapping.proofs.SourceLemmas.{is_source-labels}
use Rattle.lost_mapping.proofs.labels.is_source.Goals as goal

pub returns-then-text-le-MAX_SOURCE_BYTES : goal.returns-then-text-le-MAX_SOURCE_BYTES
returns-then-text-le-MAX_SOURCE_BYTES c = rw (is_source-labels c.args.text.now) (grind (arith, nat_tests))

pub returns-else-text-le-MAX_SOURCE_BYTES : goal.returns-else-text-le-MAX_SOURCE_BYTES
returns-else-text-le-MAX_SOURCE_BYTES c = rw (is_source-labels c.args.text.now) (grind (arith, nat_tests))

use Rattle.lost_urn.proofs.PlainLemmas.{plain_lowercase, plain_read}
use Rattle.lost_urn.proofs.spelling.count_plain.Goals as goal

pub returns-clause-read : goal.returns-clause-read
returns-clause-read c = plain_read c.args.text.now c.in_ok-strip_lowercase_prefix.field-0.now c.in_ok-strip_lowercase_prefix.ensures c.count_plain_labels.result c.count_plain_labels.ensures

pub returns-clause-lowercase : goal.returns-clause-lowercase
returns-clause-lowercase c = plain_lowercase c.args.text.now c.in_ok-strip_lowercase_prefix.field-0.now c.in_ok-strip_lowercase_prefix.ensures c.count_plain_labels.result c.count_plain_labels.ensures

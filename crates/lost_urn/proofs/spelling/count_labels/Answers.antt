use Rattle.lost_urn.proofs.ReadLemmas.{read_no_prefix, read_counted, read_refused}
use Rattle.lost_urn.proofs.spelling.count_labels.Goals as goal

pub returns-in_default-clause-err : goal.returns-in_default-clause-err
returns-in_default-clause-err c = read_no_prefix c.args.text.now c.in_default.ensures.missing

pub returns-clause-ok : goal.returns-clause-ok
returns-clause-ok c = read_counted c.args.text.now c.in-Some.labels.now c.check_labels.result c.in-Some.ensures.found c.check_labels.ensures.refusal c.check_labels.ensures.counted

pub returns-clause-err : goal.returns-clause-err
returns-clause-err c = read_refused c.args.text.now c.in-Some.labels.now c.check_labels.result c.in-Some.ensures.found c.check_labels.ensures.refusal

use Rattle.std.proofs.Common.{ap, ◌∙◌}
use Rattle.std.proofs.lemmas.List.{take_rest}
use Rattle.lost_spec.specs.Moment.{read_end}
use Rattle.lost_mapping.specs.StampText.{end_of}
use Rattle.lost_mapping.proofs.stamp_text.fraction_in.Goals as goal

pub returns-clause-value : goal.returns-clause-value
unfolding end_of
returns-clause-value c = c.read_end.ensures.value ∙ ap read_end (take_rest c.args.text.now 19)

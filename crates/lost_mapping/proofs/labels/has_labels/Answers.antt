use Rattle.std.proofs.Common.{◌==◌, rules}
use Rattle.std.specs.Option.{is_none}
use Rattle.std.proofs.lemmas.Iterator.Search.{all_from_yields_List}
use Rattle.std.proofs.lemmas.Iterator.Splits.{YieldsList-from_slice_split}
use borrow.Author.Tests.{tests}
use Rattle.lost_spec.specs.Text.{lowered}
use Rattle.lost_spec.specs.Service.{label_fault}
use Rattle.lost_mapping.proofs.labels.has_labels.Goals as goal

pub returns : goal.returns
returns c =
    all_from_yields_List (λ label. is_none (label_fault (lowered label))) _ _ _ c.all.ensures.ran
    (YieldsList-from_slice_split _ (λ b. b == 46) c.args.text.now c.split.ensures.rest c.split.ensures.done c.split.ensures.closure (λ x r q k. search (rules, tests)))
    (λ x b q k. search (rules, tests))

use Rattle.std.proofs.Common.{◌∙◌}
use Rattle.lost_book.proofs.ChainLemmas.{is_in_chain}
use Rattle.lost_book.proofs.places.is_in_chain.Goals as goal

pub returns : goal.returns
returns c = c.is_at_or_below.ensures ∙ is_in_chain c.args.above.now c.args.service.now c.text-text.ensures.well_formed

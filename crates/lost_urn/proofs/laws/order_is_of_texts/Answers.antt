use Rattle.std.proofs.Common.{sym}
use Rattle.lost_urn.proofs.OrderLemmas.{service_cmp_by_text}
use Rattle.lost_urn.proofs.laws.order_is_of_texts.Goals as goal

pub returns : goal.returns
returns c = λ s u hs hu. sym (service_cmp_by_text s u hs hu)

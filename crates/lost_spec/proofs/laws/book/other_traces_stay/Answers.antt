use Rattle.lost_spec.proofs.TraceLawLemmas.{other_traces_stay_lem}
use Rattle.lost_spec.proofs.laws.book.other_traces_stay.Goals as goal

pub returns : goal.returns
returns c = other_traces_stay_lem

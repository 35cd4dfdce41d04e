use Rattle.lost_desk.proofs.StepLemmas.{admits}
use Rattle.lost_desk.proofs.open.make_reader.Goals as goal

pub reader-requires : goal.reader-requires
reader-requires c = admits

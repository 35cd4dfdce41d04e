use Rattle.lost_reading.proofs.ServiceLemmas.{refused_otherwise}
use Rattle.lost_reading.proofs.kinds.read_service.Goals as goal

pub returns-in-Err-Memory-clause-refused : goal.returns-in-Err-Memory-clause-refused
returns-in-Err-Memory-clause-refused c none =
    absurd (refused_otherwise c.args.text.now _ _ c.as_bytes.ensures.value c.in-Err-Memory.field-0-is c.in-Err-Memory.ensures.refused none)

-- A refusal is no want of memory.
use Rattle.std.proofs.Common.{◌≡◌, Err, rules}
use Rattle.lost_spec.specs.declared.faults.EditError.TheVariants.{Memory}
use Rattle.lost_mapping.specs.Edit.{edit_of}
use Rattle.lost_routing.proofs.RefusalLemmas.{memory_after_none}
use Rattle.lost_replay.proofs.pair.Pair.stage.Goals as goal

pub returns-in_err-check-clause-memory_last : goal.returns-in_err-check-clause-memory_last
returns-in_err-check-clause-memory_last c = λ memory.
    let refused : c.check.result ≡ Err Memory = search rules in
    memory_after_none c.args.self.now.staged (edit_of c.args.edit) c.check.result c.check.ensures refused

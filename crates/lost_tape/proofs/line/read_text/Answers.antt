use Rattle.lost_tape.proofs.TreeLemmas.{is_tape_of}
use Rattle.lost_tape.proofs.line.read_text.Goals as goal

pub returns-in-Ok : goal.returns-in-Ok
returns-in-Ok c = c.read_tape.ensures c.args.text.now (is_tape_of c.args.text.now _ c.in-Ok.ensures.ok c.in-Ok.ensures.value)

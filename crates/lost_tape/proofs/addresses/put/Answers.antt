use Rattle.lost_writing.proofs.NamedLemmas.{named_members-insert_entry}
use Rattle.lost_tape.proofs.addresses.put.Goals as goal

pub returns-in-Ok : goal.returns-in-Ok
returns-in-Ok c = let inserted = named_members-insert_entry c.args.named.now.entries c.args.name c.args.text in cc (inserted, c.in-Ok.ensures.entries)

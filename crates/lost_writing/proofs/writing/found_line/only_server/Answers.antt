use Rattle.std.proofs.Common.{rules}
use Rattle.lost_writing.proofs.FoundLemmas.{no_items_in, only_server_is}
use Rattle.lost_writing.proofs.PlainLemmas.{source_plain}
use Rattle.lost_writing.proofs.writing.found_line.only_server.Goals as goal

pub returns : goal.returns
returns c = rw (c.as_bytes.ensures.value, c.text.ensures.text) (only_server_is c.args.path.now (no_items_in _ (search rules)) (source_plain c.args.path.now.server.now c.text.ensures.well_formed))

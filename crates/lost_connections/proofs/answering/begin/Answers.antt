use Rattle.std.proofs.Common.{◌≡◌, ◌++◌, take, rules}
use Rattle.lost_connections.proofs.BurstLemmas.{begun_more}
use Rattle.lost_connections.proofs.answering.begin.Goals as goal

pub returns-clause-begun : goal.returns-clause-begun
returns-clause-begun c piece begun =
    let grown : c.extend_from_slice.new.self.items ≡ c.args.begun.now.items ++ take c.min-count.result c.args.bytes.now = search rules in
    rw grown (begun_more c.args.begun.now.items piece c.args.bytes.now c.min-count.result c.saturating_sub-room.result begun c.requires.unbroken (search rules) (search rules))

use Rattle.std.proofs.Common.{SFits, w64, to_z-of_z, rules}
use Rattle.lost_tape.specs.Tapes.{data_of}
use Rattle.lost_tape.proofs.PartLemmas.{pair_held}
use Rattle.lost_tape.proofs.part.read_pair.Goals as goal

pub returns-in-None : goal.returns-in-None
returns-in-None c =
    let all = c.in_ok-items.ensures in
    let one = c.in_ok-first.ensures.value all.0 all.2 in
    let two = c.in_ok-second.ensures.value one.0 one.2 in
    let ended = c.in-None.ensures.value two.0 two.2 in
    let lat : SFits w64 c.in_ok-lat.lat = search rules in
    let lon : SFits w64 c.in_ok-lon.lon = search rules in
    rw (to_z-of_z lat, to_z-of_z lon)
    (pair_held (data_of c.args.tree.now) all.0 one.0 two.0 (data_of c.in_ok-first.first) (data_of c.in_ok-second.second) _ _ all.1 one.1 two.1 ended c.in_ok-lat.ensures c.in_ok-lon.ensures)

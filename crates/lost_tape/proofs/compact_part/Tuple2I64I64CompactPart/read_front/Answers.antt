use Rattle.std.proofs.Common.{SFits, w64, to_z-of_z, rules}
use Rattle.lost_tape.proofs.ValueLemmas.{position_part}
use Rattle.lost_tape.proofs.compact_part.Tuple2I64I64CompactPart.read_front.Goals as goal

pub returns : goal.returns
returns c =
    let lat_fits : SFits w64 c.in_ok-lat.lat = search rules in
    let lon_fits : SFits w64 c.in_ok-lon.lon = search rules in
    rw (to_z-of_z lat_fits, to_z-of_z lon_fits)
    (position_part c.args.text.now c.in_ok-rest.rest.now c.in_ok-lat.rest.now c.in_ok-rest-2.rest.now c.in_ok-lon.rest.now c.in_ok-rest-3.rest.now c.in_ok-lat.lat c.in_ok-lon.lon
    c.in_ok-rest.ensures c.in_ok-lat.ensures c.in_ok-rest-2.ensures c.in_ok-lon.ensures c.in_ok-rest-3.ensures)

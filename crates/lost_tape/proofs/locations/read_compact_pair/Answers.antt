use Rattle.std.proofs.Common.{SFits, w64, to_z-of_z, rules}
use Rattle.lost_tape.specs.Compact.{before_lon, after_lon}
use Rattle.lost_tape.proofs.CompactParts.{pair_of_parts}
use Rattle.lost_tape.proofs.locations.read_compact_pair.Goals as goal

pub returns : goal.returns
unfolding before_lon after_lon
returns c =
    let lat_fits : SFits w64 c.in_ok-lat.lat = search rules in
    let lon_fits : SFits w64 c.in_ok-lon.lon = search rules in
    rw (to_z-of_z lat_fits, to_z-of_z lon_fits)
    (record {
      begins = pair_of_parts c.args.text.now c.in_ok-lat.rest.now c.in_ok-rest.rest.now c.in_ok-lon.rest.now c.in_ok-rest-2.rest.now c.in_ok-lat.lat c.in_ok-lon.lon
          c.in_ok-lat.ensures.begins c.in_ok-rest.ensures c.in_ok-lon.ensures.begins c.in_ok-rest-2.ensures;
      sound = (c.in_ok-lat.ensures.small, c.in_ok-lon.ensures.small);
    })

use Rattle.std.proofs.Common.{w64, FitsSigned, rules}
use Rattle.std.proofs.lemmas.Int.{to_z-of_z}
use Rattle.lost_writing.proofs.ShapeLemmas.{position_written}
use Rattle.lost_writing.proofs.TokenLemmas.{when_ok}
use Rattle.lost_writing.proofs.writing.regions.GeoPointWritten.write.Goals as goal

pub returns : goal.returns
returns c =
    let point = c.args.self.now in
    let fits_lat : FitsSigned w64 point.lat = search rules in
    let fits_lon : FitsSigned w64 point.lon = search rules in
    let written = position_written point c.args.text.now in
    when_ok c.end_list.result c.end_list.ensures (λ ended. rw (ended, c.in_ok-whole-2.ensures, c.in_ok-whole.ensures, c.in_ok-begin_list.ensures, c.lat.ensures.lat, c.lon.ensures.lon, to_z-of_z w64 point.lat fits_lat, to_z-of_z w64 point.lon fits_lon) written)

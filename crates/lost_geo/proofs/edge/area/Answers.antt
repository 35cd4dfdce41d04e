-- The product fits 64 bits, so nothing is lost.
use Rattle.std.proofs.Common.{◌*ℤ◌, w64, FitsSigned, lit<}
use Rattle.std.proofs.lemmas.Int.{to_z-of_z, fits_signed_mul}
use Rattle.lost_geo.proofs.Differences.{unsigned_abs-east, unsigned_abs-north}
use Rattle.lost_geo.proofs.edge.area.Goals as goal

pub returns : goal.returns
returns c =
    let east : FitsSigned w64 c.args.east = c.ranges.east in
    let north : FitsSigned w64 c.args.north = c.ranges.north in
    let fits : FitsSigned w64 (c.args.east *ℤ c.args.north) =
    fits_signed_mul w64 c.args.east c.args.north 3_600_000_000 1_800_000_000
    (unsigned_abs-east c.args.east c.requires.east) (unsigned_abs-north c.args.north c.requires.north) (lit< tt) in
    simp to_z-of_z

use Rattle.std.proofs.Common.{Some, None, SFits, w64, to_z-of_z, sym, ap, ◌∙◌, rules}
use Rattle.lost_spec.specs.Decimal.{is_space, behind, read_number}
use Rattle.lost_geo.proofs.DecimalLemmas.{no_lat, both}
use Rattle.lost_geo.proofs.point.GeoPoint.decimal.Goals as goal

pub returns-in_err-lat : goal.returns-in_err-lat
returns-in_err-lat c =
    let lat = ap read_number (sym c.split_word.ensures.word) ∙ sym c.read_number.ensures ∙ c.in_err-lat.was in
    c.from_residual.ensures ∙ sym (no_lat c.args.text.now lat)

pub returns-in_err-lon : goal.returns-in_err-lon
returns-in_err-lon c =
    let lat = ap read_number (sym c.split_word.ensures.word) ∙ sym c.read_number.ensures ∙ c.in_ok-lat.was in
    let lon = ap (λ t. read_number (behind is_space t)) (sym c.split_word.ensures.rest) ∙ ap read_number (sym c.after_spaces.ensures) ∙ sym c.read_number-2.ensures ∙ c.in_err-lon.was in
    c.from_residual-in_err-lon.ensures ∙ sym (both c.args.text.now c.in_ok-lat.lat None lat lon)

pub returns : goal.returns
returns c =
    let lat = ap read_number (sym c.split_word.ensures.word) ∙ sym c.read_number.ensures ∙ c.in_ok-lat.was in
    let lon = ap (λ t. read_number (behind is_space t)) (sym c.split_word.ensures.rest) ∙ ap read_number (sym c.after_spaces.ensures) ∙ sym c.read_number-2.ensures ∙ c.in_ok-lon.was in
    let lat_fits : SFits w64 c.in_ok-lat.lat = search rules in
    let lon_fits : SFits w64 c.in_ok-lon.lon = search rules in
    rw (to_z-of_z lat_fits, to_z-of_z lon_fits) (sym (both c.args.text.now c.in_ok-lat.lat (Some c.in_ok-lon.lon) lat lon))

use Rattle.std.proofs.Common.{Some, sym, ap, ◌∙◌}
use Rattle.lost_location.specs.Body.{body_of}
use Rattle.lost_tape.specs.Compact.{content_profile, place_request}
use Rattle.lost_tape.proofs.CompactLemmas.{line_is_read}
use Rattle.lost_tape.proofs.compact.read_compact.Goals as goal

pub returns-clause-request : goal.returns-clause-request
returns-clause-request c =
    let place = c.in_ok-place.place in
    let body = body_of c.in_ok-body.body in
    let service = c.in_ok-service.service in
    let request = (line_is_read c.args.line.now place body service c.in_ok-place.ensures c.in_ok-id.ensures.1 c.in_ok-body.ensures c.in_ok-service.ensures).0 in
    request
    ∙ ap Some (ap (λ id. place_request id (content_profile place.content) body service) (sym c.in_ok-id.ensures.0)
    ∙ ap (λ profile. place_request c.in_ok-id.id.now profile body service) (sym c.compact_profile.ensures)
    ∙ sym c.request_at.ensures)

pub returns-clause-no_desk_line : goal.returns-clause-no_desk_line
returns-clause-no_desk_line c =
    (line_is_read c.args.line.now c.in_ok-place.place (body_of c.in_ok-body.body) c.in_ok-service.service c.in_ok-place.ensures c.in_ok-id.ensures.1 c.in_ok-body.ensures c.in_ok-service.ensures).1

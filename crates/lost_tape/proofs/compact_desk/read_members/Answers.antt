use Rattle.std.proofs.Common.{rules, ◌≡◌, IfSome, map, string_bytes, subst}
use Rattle.std.specs.Prelude.{codes}
use Rattle.lost_location.specs.Region.{region_of}
use Rattle.lost_tape.specs.Values.{compact_parts, IsMappingOf, IsMappingText}
use Rattle.lost_tape.proofs.ValueLemmas.{if_some, mapping_text}
use Rattle.lost_tape.proofs.compact_desk.read_members.Goals as goal

pub returns : goal.returns
returns c =
    let text = c.args.text.now in
    let head = c.in_ok-head.head in
    let tail = c.in_ok-tail.tail in
    let areas = map region_of c.in_ok-regions.regions.items in
    let texts = map string_bytes c.in_ok-uris.uris.items in
    let end : c.in_ok-uris.rest.now ≡ codes "}}" = search rules in
    if_some (IsMappingOf (compact_parts head areas tail texts)) (IsMappingText text) c.build.result
    (λ mapping is. mapping_text head tail areas texts mapping text c.in_ok-head.rest.now c.in_ok-rest.rest.now c.in_ok-regions.rest.now c.in_ok-tail.rest.now c.in_ok-rest-2.rest.now c.in_ok-uris.rest.now
    c.in_ok-head.ensures c.in_ok-rest.ensures c.in_ok-regions.ensures c.in_ok-tail.ensures c.in_ok-rest-2.ensures c.in_ok-uris.ensures end is)
    (subst (λ parts. IfSome c.build.result (IsMappingOf parts)) c.in_ok-parts.ensures c.build.ensures)

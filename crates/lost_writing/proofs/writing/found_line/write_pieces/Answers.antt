use Rattle.std.proofs.Common.{◌∙◌}
use Rattle.lost_writing.specs.FoundLine.{before_edition, before_id, before_mapping, before_server, after_server}
use Rattle.lost_writing.proofs.FoundLemmas.{pieces_joined}
use Rattle.lost_writing.proofs.writing.found_line.write_pieces.Goals as goal

pub returns : goal.returns
unfolding before_edition before_id before_mapping before_server after_server
returns c =
    pieces_joined c.args.pieces.now c.as_bytes.result.now _ _ _ _ _ _ _ _ _ _ (c.as_bytes.ensures.value ∙ c.format.ensures.text) c.in_ok-line.ensures.items
    c.in_ok-extend_from_slice.ensures.items c.in_ok-extend_from_slice-2.ensures.items c.in_ok-extend_from_slice-3.ensures.items c.in_ok-extend_from_slice-4.ensures.items c.in_ok-extend_from_slice-5.ensures.items
    c.in_ok-extend_from_slice-6.ensures.items c.in_ok-extend_from_slice-7.ensures.items c.in_ok-extend_from_slice-8.ensures.items c.in_ok-extend_from_slice-9.ensures.items

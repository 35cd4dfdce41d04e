use Rattle.lost_mapping.specs.Reply.{shown_with}
use Rattle.lost_writing.proofs.ShapeLemmas.{mapping_written}
use Rattle.lost_writing.proofs.TokenLemmas.{when_ok}
use Rattle.lost_writing.proofs.writing.mappings.write_mapping.Goals as goal

pub returns : goal.returns
returns c =
    let written = mapping_written (shown_with c.args.boundary c.args.mapping.now).boundary c.args.mapping.now c.args.text.now in
    when_ok c.end_object.result c.end_object.ensures (λ ended. rw (ended, c.in_ok-uris_member.ensures, c.in_ok-source_id_member.ensures, c.in_ok-source_member.ensures, c.in_ok-number_member.ensures, c.in_ok-shown_members.ensures, c.in_ok-service_member.ensures, c.in_ok-updated_member.ensures, c.in_ok-expires_member.ensures, c.in_ok-names_member.ensures, c.in_ok-begin_object.ensures) written)

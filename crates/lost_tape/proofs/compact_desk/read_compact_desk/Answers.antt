use Rattle.std.proofs.Common.{◌≡◌, ◌++◌, sym, ap, ◌∙◌}
use Rattle.std.specs.Prelude.{codes}
use Rattle.lost_tape.proofs.ValueLemmas.{publish_line, replace_line}
use Rattle.lost_tape.proofs.compact_desk.read_compact_desk.Goals as goal

pub returns-in_ok-read_members-in-Some : goal.returns-in_ok-read_members-in-Some
returns-in_ok-read_members-in-Some c =
    let line : c.args.line.now ≡ codes "{\"publish\":{" ++ c.in-Some.rest.now = sym c.in_ok-utf8_of.ensures.0 ∙ sym c.as_bytes-text.ensures.value ∙ c.in-Some.ensures in
    publish_line c.args.line.now c.in-Some.rest.now c.in_ok-read_members-in-Some.field-0 c.in_ok-read_members-in-Some.ensures line c.in_ok-utf8_of.ensures.1

pub returns-in_ok-read_members-in-None : goal.returns-in_ok-read_members-in-None
returns-in_ok-read_members-in-None c =
    let line : c.args.line.now ≡ codes "{\"replace\":{" ++ c.in_ok-rest-in-None.rest.now = sym c.in_ok-utf8_of.ensures.0 ∙ sym c.as_bytes-text.ensures.value ∙ c.in_ok-rest-in-None.ensures in
    replace_line c.args.line.now c.in_ok-rest-in-None.rest.now c.in_ok-read_members-in-None.field-0 c.in_ok-read_members-in-None.ensures line c.in_ok-utf8_of.ensures.1

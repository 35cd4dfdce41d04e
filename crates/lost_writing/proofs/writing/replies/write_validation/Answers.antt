use Rattle.std.proofs.Common.{codes}
use Rattle.lost_mapping.specs.Reply.{validation_of}
use Rattle.lost_writing.specs.Replies.{texts_data}
use Rattle.lost_writing.proofs.ShapeLemmas.{three_written}
use Rattle.lost_writing.proofs.TokenLemmas.{when_ok}
use Rattle.lost_writing.proofs.writing.replies.write_validation.Goals as goal

pub returns : goal.returns
returns c =
    let written = let judged = validation_of c.args.judged.now in three_written (codes "invalid") (texts_data judged.invalid) (codes "unchecked") (texts_data judged.unchecked) (codes "valid") (texts_data judged.valid) c.args.text.now in
    when_ok c.end_object.result c.end_object.ensures (λ ended. rw (ended, c.in_ok-texts_member-3.ensures, c.in_ok-texts_member-2.ensures, c.in_ok-texts_member.ensures, c.in_ok-begin_object.ensures, c.deref.ensures.value, c.deref-2.ensures.value, c.deref-3.ensures.value) written)

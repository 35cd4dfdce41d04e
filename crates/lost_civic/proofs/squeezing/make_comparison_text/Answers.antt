use Rattle.std.proofs.Common.{string_bytes, string_len, ◌==◌, not}
use Rattle.std.specs.Str.Iter.{chars_rest}
use Rattle.lost_civic.proofs.SqueezedLemmas.{at_start, past_space, past_character}
use Rattle.lost_civic.proofs.squeezing.make_comparison_text.Goals as goal

pub loop-character-init : goal.loop-character-init
loop-character-init c =
    at_start c.args.value.now (string_bytes c.in_ok-text.text) (chars_rest c.into_iter-character-iterator.result) (string_len c.in_ok-text.text) c.in_ok-text.ensures.bytes c.in_ok-text.ensures.len cc

pub loop-character-preserved-then-is_white_space :
    goal.loop-character-preserved-then-is_white_space
loop-character-preserved-then-is_white_space c =
    let text = c.loop-character.text in
    past_space c.args.value.now (string_bytes text) (chars_rest c.loop-character.character-iterator) (chars_rest c.next.new.self) (not (string_len text == 0)) c.loop-character.after_white c.in-Some.character (cc) c.in-Some.ensures.steps.0 c.loop-character.invariant

pub loop-character-preserved : goal.loop-character-preserved
loop-character-preserved c =
    let text = c.loop-character.text in
    let longer = c.push_character.new.text in
    past_character c.args.value.now (string_bytes text) (string_bytes longer) (chars_rest c.loop-character.character-iterator) (chars_rest c.next.new.self) (string_len text) (string_len longer) c.loop-character.after_white c.in-Some.character (cc) c.in-Some.ensures.steps.0 c.in_ok-push_character.ensures.written c.in_ok-push_character.ensures.started c.loop-character.invariant

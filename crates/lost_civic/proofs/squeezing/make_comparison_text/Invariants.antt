use Rattle.std.proofs.Common.{◌≡◌, ◌++◌, ◌==◌, not, string_bytes, string_len}
use Rattle.std.specs.Str.Iter.{chars_rest}
use Rattle.lost_spec.specs.Civic.{comparison_text}
use Rattle.lost_civic.proofs.SqueezedLemmas.{squeezed}
use Rattle.lost_civic.proofs.squeezing.make_comparison_text.Given as goal

abbrev pub invariant-loop-character : goal.invariant-loop-character
invariant-loop-character l =
    comparison_text l.value ≡ string_bytes l.text ++ squeezed (not (string_len l.text == 0)) l.after_white (chars_rest l.character-iterator)

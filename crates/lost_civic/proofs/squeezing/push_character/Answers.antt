use Rattle.std.proofs.Common.{string_len, length, encode_utf8}
use Rattle.lost_civic.proofs.SqueezedLemmas.{OnOk-longer, length-character}
use Rattle.lost_civic.proofs.squeezing.push_character.Goals as goal

pub returns-clause-started : goal.returns-clause-started
returns-clause-started c =
    OnOk-longer c.push-2.result (string_len c.if-after_white.text) (length (encode_utf8 c.to_ascii_lowercase.result)) (string_len c.push-2.new.self) (length-character c.to_ascii_lowercase.result) c.push-2.ensures.len

use Rattle.std.proofs.Common.{rules}
use Rattle.std.proofs.lemmas.Str.{IsUtf8-from_ascii}
use Rattle.lost_urn.proofs.service_text.read_ascii.Goals as goal

pub unwrap-requires : goal.unwrap-requires
unwrap-requires c = let utf8 = IsUtf8-from_ascii c.args.text.now c.requires in search rules

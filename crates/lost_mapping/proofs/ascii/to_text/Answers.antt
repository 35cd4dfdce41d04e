use Rattle.std.proofs.Common.{rules}
use Rattle.std.proofs.lemmas.Str.{IsUtf8-from_ascii}
use Rattle.lost_mapping.proofs.ascii.to_text.Goals as goal

pub unwrap-requires : goal.unwrap-requires
unwrap-requires c = let utf8 = IsUtf8-from_ascii c.args.bytes.now c.requires in search rules

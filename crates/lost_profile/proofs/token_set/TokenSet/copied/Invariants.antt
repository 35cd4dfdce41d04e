use Rattle.std.proofs.Common.{◌≡◌, map, take, string_bytes}
use Rattle.lost_profile.proofs.token_set.TokenSet.copied.Given as goal

abbrev pub invariant-loop-text : goal.invariant-loop-text
invariant-loop-text l = l.tokens.items ≡ map string_bytes (take l.text-index l.texts)

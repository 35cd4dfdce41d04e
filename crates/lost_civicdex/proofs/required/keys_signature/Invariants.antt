use Rattle.std.proofs.Common.{◌≡◌, take}
use Rattle.lost_civic.specs.Signatures.{signature_of_keys}
use Rattle.lost_civicdex.proofs.required.keys_signature.Given as goal

abbrev pub invariant-loop-key : goal.invariant-loop-key
invariant-loop-key l = l.signature.bits ≡ signature_of_keys (take l.key-index l.keys)

use Rattle.std.proofs.Common.{IfOk, ◌≡◌, ◌∙◌, ap, subst}
use Rattle.std.specs.Prelude.{string_bytes}
use Rattle.std.specs.Int.{w128, to_be_bytes}
use Rattle.hex.specs.Hex.{encode_lower}
use Rattle.lost_digest.proofs.of_map.MapDigest.text.Goals as goal

pub returns : goal.returns
returns c =
    subst (λ bytes. IfOk c.encode.result (λ text. string_bytes text ≡ encode_lower bytes)) (c.to_be_bytes.ensures ∙ ap (to_be_bytes w128) c.self.view_is) c.encode.ensures

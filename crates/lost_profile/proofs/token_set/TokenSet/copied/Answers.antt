use Rattle.std.proofs.Common.{◌≡◌, ◌<◌, map, get_or, string_bytes, length, sym, ap, ◌∙◌, arith}
use Rattle.std.proofs.lemmas.List.{length-map}
use Rattle.std.proofs.Math.ListN.{get_or-map}
use Rattle.lost_spec.specs.Token.{is_token}
use Rattle.lost_profile.proofs.TokenLemmas.{token_at}
use Rattle.lost_profile.proofs.token_set.TokenSet.copied.Goals as goal

pub of-requires : goal.of-requires
of-requires c =
    let texts = c.args.texts.now in
    let at = c.loop-text.text-index in
    let text = c.text-item.result in
    let within : at < length (map string_bytes texts) = omega (arith, length-map texts string_bytes, c.loop-text-test.true) in
    let token = token_at (map string_bytes texts) at (string_bytes text) c.requires within in
    let same : string_bytes text ≡ get_or (map string_bytes texts) at (string_bytes text) = ap string_bytes c.text-item.is ∙ sym (get_or-map string_bytes texts at text) in
    ap is_token (c.as_str.ensures.value ∙ same) ∙ token

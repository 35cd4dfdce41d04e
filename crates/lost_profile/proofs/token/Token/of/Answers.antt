use Rattle.std.proofs.Common.{rules, arith}
use Rattle.lost_profile.proofs.TokenLemmas.{token_fits}
use Rattle.lost_profile.proofs.token.Token.of.Goals as goal

-- src/token.rt:65:9
pub push_str-requires : goal.push_str-requires
push_str-requires c =
    let fits = token_fits c.args.text.now c.requires in
    search (rules, arith, fits)

use Rattle.std.proofs.Common.{length, ap, arith, lit<}
use Rattle.std.proofs.lemmas.Fmt.{length-decimal-le}
use Rattle.lost_spec.proofs.desk_text.DeskText.push_number.Goals as goal

pub returns-clause-two : goal.returns-clause-two
returns-clause-two c = λ small.
    let few = length-decimal-le 2 c.args.number (lit< tt) small (omega arith) in
    omega (arith, few, ap length c.as_bytes.ensures.value, ap length c.format.ensures.text)

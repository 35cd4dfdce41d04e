use Rattle.std.proofs.Common.{◌≡◌, Err, refl, arith, rules}
use Rattle.lost_lines.specs.declared.fault.ServeError.TheVariants.{TurnsSpent}
use Rattle.lost_connections.proofs.ServedLemmas.{are_few, front_from_spent_of, front_from_cut_off_of}
use Rattle.lost_connections.proofs.replies.Replies.answer_text.Goals as goal

pub count-requires-clause-few_unread : goal.count-requires-clause-few_unread
count-requires-clause-few_unread g c = (are_few _ _ _ _ _ _ _ c.in-Ok.counts c.in-Ok.ensures.outcome.served).memory

pub returns-in-Err-TurnsSpent-clause-front : goal.returns-in-Err-TurnsSpent-clause-front
returns-in-Err-TurnsSpent-clause-front g c =
    let is : c.serve_lines-served.result ≡ Err TurnsSpent = first_of (search rules, cc, grind arith) in
    front_from_spent_of (g.G.Gate.says c.args.gate.now) _ _ _ c.args.text.now _ _ _ _ _ _ _ _ _
    (c.serve_lines-served.ensures.outcome.spent is)
    (search rules) (search rules) (search rules) (omega (arith, c.args.self.now.within)) (omega (arith, c.reads.ensures)) refl refl

pub returns-in-Err-clause-front : goal.returns-in-Err-clause-front
returns-in-Err-clause-front g c =
    front_from_cut_off_of (g.G.Gate.says c.args.gate.now) _ _ _ c.args.text.now _ _ _ _ _ c.in-Err.ensures.outcome.cut_off (search rules) (search rules) (search rules) refl refl

pub returns-in-Err-2-clause-front : goal.returns-in-Err-2-clause-front
returns-in-Err-2-clause-front g c =
    front_from_cut_off_of (g.G.Gate.says c.args.gate.now) _ _ _ c.args.text.now _ _ _ _ _ c.in-Err.ensures.outcome.cut_off (search rules) (search rules) (search rules) refl refl

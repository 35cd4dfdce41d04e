use Rattle.std.proofs.Common.{sym, ap, arith}
use Rattle.serde_json.specs.Find.{get_member}
use Rattle.serde_json.specs.View.{members_view}
use Rattle.lost_reading.proofs.TurnLemmas.{members_begun, members_more_read, members_stopped, keys_stopped, members_done}
use Rattle.lost_reading.proofs.known_members.read_known.Goals as goal

pub members-init : goal.members-init
members-init c = members_begun c.args.depth c.args.reader.now (λ name known. ap (λ es. get_member name (members_view es)) (sym c.new-found.ensures.empty))

pub returns-in_err-name-clause-err : goal.returns-in_err-name-clause-err
returns-in_err-name-clause-err c refused = keys_stopped _ _ _ c.members.invariant c.in_err-name.ensures.value

pub returns-in_err-keep_known-clause-err : goal.returns-in_err-keep_known-clause-err
returns-in_err-keep_known-clause-err c refused = members_stopped _ _ _ c.members.invariant c.in-Some.name.now c.next_key.new.self (grind arith) (c.keep_known.ensures.err (grind arith))

pub members-preserved : goal.members-preserved
members-preserved c =
    let done = c.in_ok-keep_known.ensures in
    members_more_read _ _ _ c.members.invariant c.in-Some.name.now c.next_key.new.self _ done.ok.0 (grind arith) done.ok.1 done.shorter done.ok.2

pub returns-clause-ok : goal.returns-clause-ok
returns-clause-ok c = members_done _ _ _ c.members.invariant c.next_key.new.self (grind arith)

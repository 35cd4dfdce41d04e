use Rattle.std.proofs.Common.{sym, subst, arith}
use Rattle.serde_json.specs.Data.{no_members}
use Rattle.serde_json.specs.View.{members_view}
use Rattle.lost_reading.specs.KnownMembers.{HaveSameNames}
use Rattle.lost_reading.proofs.TurnLemmas.{members_begun, members_more_read, members_stopped, keys_stopped, members_done}
use Rattle.lost_reading.proofs.known_members.read_named.Goals as goal

pub members-init : goal.members-init
members-init c = members_begun c.args.depth c.args.reader.now (subst (λ es. HaveSameNames no_members (members_view es)) (sym c.new-found.ensures.empty) tt)

pub returns-in_err-name-clause-err : goal.returns-in_err-name-clause-err
returns-in_err-name-clause-err c refused = keys_stopped _ _ _ c.members.invariant c.in_err-name.ensures.value

pub returns-in_err-keep_object-clause-err : goal.returns-in_err-keep_object-clause-err
returns-in_err-keep_object-clause-err c refused = members_stopped _ _ _ c.members.invariant c.in-Some.name.now c.next_key.new.self (grind arith) (c.keep_object.ensures.err (grind arith))

pub members-preserved : goal.members-preserved
members-preserved c =
    let done = c.in_ok-keep_object.ensures in
    members_more_read _ _ _ c.members.invariant c.in-Some.name.now c.next_key.new.self _ done.ok.0 (grind arith) done.ok.1 done.shorter done.ok.2

pub returns-clause-ok : goal.returns-clause-ok
returns-clause-ok c = members_done _ _ _ c.members.invariant c.next_key.new.self (grind arith)

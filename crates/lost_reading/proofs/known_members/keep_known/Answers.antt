use Rattle.std.proofs.Common.{◌≡◌, false, sym}
use Rattle.json.specs.Json.{value}
use Rattle.serde_json.specs.View.{members_view}
use Rattle.lost_reading.specs.KnownMembers.{is_known}
use Rattle.lost_reading.proofs.KnownMembersLemmas.{kept_member, unknown_put}
use Rattle.lost_reading.proofs.WalkLemmas.{some_passed, none_passed}
use Rattle.lost_reading.proofs.known_members.keep_known.Goals as goal

pub returns-then-is_known-clause-ok : goal.returns-then-is_known-clause-ok
returns-then-is_known-clause-ok c = kept_member c.keep.result c.args.name.now (value c.args.depth c.args.reader.now) c.keep.new.reader (members_view c.args.found.now.entries) (members_view c.keep.new.found.entries) c.keep.ensures.ok

pub returns-in_ok-walk-clause-ok : goal.returns-in_ok-walk-clause-ok
returns-in_ok-walk-clause-ok c =
    let unknown : is_known c.args.name.now ≡ false = sym c.if-is_known.ensures in
    let d = some_passed (value c.args.depth c.args.reader.now) c.walk.new.reader c.in_ok-walk.ensures.value in
    (d.0, d.1, λ all same. unknown_put c.args.name.now d.0 all (members_view c.args.found.now.entries) unknown same)

pub returns-in_err-walk-clause-err : goal.returns-in_err-walk-clause-err
returns-in_err-walk-clause-err c refused = none_passed (value c.args.depth c.args.reader.now) c.in_err-walk.ensures.value

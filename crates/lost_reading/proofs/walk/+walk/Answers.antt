use Rattle.std.proofs.Common.{◌≡◌, ◌-◌, [], ◌∷◌, length, None, refl, ap, ap₂, ◌∙◌, arith}
use Rattle.json.specs.Token.{Token}
use Rattle.json.specs.Json.{after_end_array, items, members, value}
use Rattle.json.specs.Reads.{token_of}
use Rattle.json.proofs.Grammar.{left, value_is, value-begin_array, value-begin_object}
use Rattle.serde_json.specs.Read.{of_json, of_items}
use Rattle.lost_reading.specs.KnownMembers.{passed}
use Rattle.lost_reading.proofs.TurnLemmas.{items_begun, items_more_read, items_stopped, items_done, members_begun, members_more_read, members_stopped, keys_stopped, members_done}
use Rattle.lost_reading.proofs.WalkLemmas.{passed_members, passed-array, passed-object, some_passed, none_passed}
use Rattle.lost_reading.proofs.walk.+walk.Goals as goal

pub walk_items-items-init : goal.walk_items-items-init
walk_items-items-init t c = items_begun c.args.depth c.args.reader.now tt

pub walk_items-items-preserved : goal.walk_items-items-preserved
walk_items-items-preserved t c =
    let going : (after_end_array c.items.reader ≡ None) × (c.take_end_array.new.self ≡ c.items.reader) = grind arith in
    let item = some_passed (value c.args.depth c.items.reader) c.walk.new.reader (rw (← going.1) c.in_ok-walk.ensures.value) in
    items_more_read _ _ _ c.items.invariant c.walk.new.reader item.0 going.0 item.1 (rw (← going.1) c.in_ok-walk.ensures.shorter) (λ before is. tt)

pub walk_items-returns-in_err-walk-clause-value : goal.walk_items-returns-in_err-walk-clause-value
walk_items-returns-in_err-walk-clause-value t c =
    let going : (after_end_array c.items.reader ≡ None) × (c.take_end_array.new.self ≡ c.items.reader) = grind arith in
    let none = ap left (items_stopped _ _ _ c.items.invariant going.0 (none_passed (value c.args.depth c.items.reader) (rw (← going.1) c.in_err-walk.ensures.value))) in
    grind (arith, none)

pub walk_items-returns-clause-value : goal.walk_items-returns-clause-value
walk_items-returns-clause-value t c = ap left (items_done _ _ _ c.items.invariant c.take_end_array.new.self (grind arith))

pub walk_members-members-init : goal.walk_members-members-init
walk_members-members-init t c = members_begun c.args.depth c.args.reader.now tt

pub walk_members-returns-in_err-next_key-clause-value : goal.walk_members-returns-in_err-next_key-clause-value
walk_members-returns-in_err-next_key-clause-value t c =
    let none = ap left (keys_stopped _ _ _ c.members.invariant c.in_err-next_key.ensures.value) in
    grind (arith, none)

pub walk_members-members-preserved : goal.walk_members-members-preserved
walk_members-members-preserved t c =
    let s = c.next_key.new.self in
    let member = some_passed (value c.args.depth s) c.walk.new.reader c.in_ok-walk.ensures.value in
    members_more_read _ _ _ c.members.invariant c.in-Some.field-0.now s c.walk.new.reader member.0 (grind arith) member.1 c.in_ok-walk.ensures.shorter (λ all is. tt)

pub walk_members-returns-in_err-walk-clause-value : goal.walk_members-returns-in_err-walk-clause-value
walk_members-returns-in_err-walk-clause-value t c =
    let none = ap left (members_stopped _ _ _ c.members.invariant c.in-Some.field-0.now c.next_key.new.self (grind arith) (none_passed (value c.args.depth c.next_key.new.self) c.in_err-walk.ensures.value)) in
    grind (arith, none)

pub walk_members-returns-clause-value : goal.walk_members-returns-clause-value
walk_members-returns-clause-value t c = ap left (members_done _ _ _ c.members.invariant c.next_key.new.self (grind arith)).1

pub walk-returns-in_err-token-clause-value : goal.walk-returns-in_err-token-clause-value
walk-returns-in_err-token-clause-value t c =
    let empty : c.args.reader.now ≡ [] = grind arith in
    let none : passed of_json (value c.args.depth c.args.reader.now) ≡ None = ap (λ ts. passed of_json (value c.args.depth ts)) empty ∙ ap (passed of_json) (value_is c.args.depth []) in
    grind (arith, none)

pub walk-returns-clause-value : goal.walk-returns-clause-value
walk-returns-clause-value t c =
    let first : c.args.reader.now ≡ token_of c.in_ok-token.token ∷ c.next.new.self = grind arith in
    rw first c.walk_from.ensures.value

pub walk_from-returns-in-String-clause-value : goal.walk_from-returns-in-String-clause-value
walk_from-returns-in-String-clause-value t c = rw (value_is c.args.depth (token_of c.args.token ∷ c.args.reader.now)) (grind arith)

pub walk_from-returns-in-EndObject-clause-value : goal.walk_from-returns-in-EndObject-clause-value
walk_from-returns-in-EndObject-clause-value t c = rw (value_is c.args.depth (token_of c.args.token ∷ c.args.reader.now)) (grind arith)

pub walk_from-returns-in-Some-clause-value : goal.walk_from-returns-in-Some-clause-value
walk_from-returns-in-Some-clause-value t c =
    let is : token_of c.args.token ≡ Token.number c.in-Number.text.now = grind arith in
    ap (passed of_json) (ap (λ k. value c.args.depth (k ∷ c.args.reader.now)) is ∙ value_is c.args.depth _) ∙ rw (← c.in-Some.ensures) refl

pub walk_from-returns-in-None-clause-value : goal.walk_from-returns-in-None-clause-value
walk_from-returns-in-None-clause-value t c =
    let is : token_of c.args.token ≡ Token.number c.in-Number.text.now = grind arith in
    ap (passed of_json) (ap (λ k. value c.args.depth (k ∷ c.args.reader.now)) is ∙ value_is c.args.depth _) ∙ rw (← c.in-None.ensures) refl

pub walk_from-returns-then-depth-eq0-clause-value : goal.walk_from-returns-then-depth-eq0-clause-value
unfolding value
walk_from-returns-then-depth-eq0-clause-value t c =
    let none : c.args.depth ≡ 0 = omega arith in
    ap (passed of_json) (ap₂ value none (ap (λ k. token_of k ∷ c.args.reader.now) c.in-BeginArray.is))

pub walk_from-returns-else-depth-eq0-clause-value : goal.walk_from-returns-else-depth-eq0-clause-value
walk_from-returns-else-depth-eq0-clause-value t c =
    let ts = c.args.reader.now in
    let opened : token_of c.args.token ∷ ts ≡ Token.begin_array ∷ ts = ap (λ k. token_of k ∷ ts) c.in-BeginArray.is in
    let same : passed of_json (value c.args.depth (token_of c.args.token ∷ ts)) ≡ passed of_items (items (value (c.args.depth - 1)) (length ts) ts) =
    ap (passed of_json) (ap (value c.args.depth) opened ∙ value-begin_array c.args.depth ts (omega arith)) ∙ passed-array (items (value (c.args.depth - 1)) (length ts) ts) in
    rw same c.walk_items.ensures.value

pub walk_from-returns-then-depth-eq0-2-clause-value : goal.walk_from-returns-then-depth-eq0-2-clause-value
unfolding value
walk_from-returns-then-depth-eq0-2-clause-value t c =
    let none : c.args.depth ≡ 0 = omega arith in
    ap (passed of_json) (ap₂ value none (ap (λ k. token_of k ∷ c.args.reader.now) c.in-BeginObject.is))

pub walk_from-returns-else-depth-eq0-2-clause-value : goal.walk_from-returns-else-depth-eq0-2-clause-value
walk_from-returns-else-depth-eq0-2-clause-value t c =
    let ts = c.args.reader.now in
    let opened : token_of c.args.token ∷ ts ≡ Token.begin_object ∷ ts = ap (λ k. token_of k ∷ ts) c.in-BeginObject.is in
    let same : passed of_json (value c.args.depth (token_of c.args.token ∷ ts)) ≡ passed_members (members (value (c.args.depth - 1)) (length ts) ts) =
    ap (passed of_json) (ap (value c.args.depth) opened ∙ value-begin_object c.args.depth ts (omega arith)) ∙ passed-object (members (value (c.args.depth - 1)) (length ts) ts) in
    rw same c.walk_members.ensures.value

use Rattle.std.proofs.Common.{◌≡◌, ◌-◌, [], ◌∷◌, length, Some, sym, ap, ap₂, ◌∙◌, subst, arith, rules}
use Rattle.json.specs.Token.{Token}
use Rattle.json.specs.Json.{parse_map, members, value}
use Rattle.json.specs.Reads.{token_of}
use Rattle.json.proofs.Grammar.{value_is, value-begin_object}
use Rattle.serde_json.specs.Data.{null, object}
use Rattle.serde_json.specs.Find.{as_object}
use Rattle.serde_json.specs.Read.{of_json, converted}
use Rattle.serde_json.specs.View.{view}
use Rattle.serde_json.specs.declared.value.Value.{Null, the_lemmas}
use Rattle.serde_json.proofs.Views.{view-Object}
use Rattle.lost_reading.specs.KnownMembers.{AreObjects, HaveSameKnown}
use Rattle.lost_reading.proofs.KnownMembersLemmas.{no_objects}
use Rattle.lost_reading.proofs.TurnLemmas.{converted-object, no_object, no_begin}
use Rattle.lost_reading.proofs.WalkLemmas.{some_passed, none_passed}
use Rattle.lost_reading.proofs.known_members.read_object.Goals as goal

pub returns-in_err-token-clause-err : goal.returns-in_err-token-clause-err
returns-in_err-token-clause-err c refused =
    let empty : c.args.reader.now ≡ [] = grind arith in
    ap (converted of_json) (ap (value c.args.depth) empty ∙ value_is c.args.depth [])

pub returns-then-depth-eq0-clause-err : goal.returns-then-depth-eq0-clause-err
unfolding value
returns-then-depth-eq0-clause-err c never =
    let first : c.args.reader.now ≡ token_of c.in_ok-token.token ∷ c.next.new.self = grind arith in
    let none : c.args.depth ≡ 0 = omega arith in
    ap (converted of_json) (ap₂ value none (first ∙ ap (λ k. token_of k ∷ c.next.new.self) c.in-BeginObject.is))

pub returns-in_err-read_known-clause-err : goal.returns-in_err-read_known-clause-err
returns-in_err-read_known-clause-err c refused =
    let first : c.args.reader.now ≡ token_of c.in_ok-token.token ∷ c.next.new.self = grind arith in
    let opened = ap (converted of_json) (ap (value c.args.depth) (first ∙ ap (λ k. token_of k ∷ c.next.new.self) c.in-BeginObject.is) ∙ value-begin_object c.args.depth c.next.new.self (omega arith)) ∙ converted-object (members (value (c.args.depth - 1)) (length c.next.new.self) c.next.new.self) in
    opened ∙ ap (parse_map object) (c.read_known.ensures.err (grind arith))

pub returns-in-BeginObject-clause-ok : goal.returns-in-BeginObject-clause-ok
returns-in-BeginObject-clause-ok c =
    let first : c.args.reader.now ≡ token_of c.in_ok-token.token ∷ c.next.new.self = grind arith in
    let opened = ap (converted of_json) (ap (value c.args.depth) (first ∙ ap (λ k. token_of k ∷ c.next.new.self) c.in-BeginObject.is) ∙ value-begin_object c.args.depth c.next.new.self (omega arith)) ∙ converted-object (members (value (c.args.depth - 1)) (length c.next.new.self) c.next.new.self) in
    let found = c.in_ok-read_known.ensures.ok in (
      object found.0,
      opened ∙ ap (parse_map object) found.1,
      subst (λ o. AreObjects HaveSameKnown (Some found.0) o) (sym (ap as_object (view-Object c.in_ok-read_known.field-0))) found.2,
    )

pub returns-in_err-walk_from-clause-err : goal.returns-in_err-walk_from-clause-err
returns-in_err-walk_from-clause-err c refused =
    let first : c.args.reader.now ≡ token_of c.in_ok-token.token ∷ c.next.new.self = grind arith in
    ap (λ ts. converted of_json (value c.args.depth ts)) first ∙ none_passed (value c.args.depth (token_of c.in_ok-token.token ∷ c.next.new.self)) c.in_err-walk_from.ensures.value

pub returns-clause-ok : goal.returns-clause-ok
returns-clause-ok c =
    let first : c.args.reader.now ≡ token_of c.in_ok-token.token ∷ c.next.new.self = grind arith in
    let d = some_passed (value c.args.depth (token_of c.in_ok-token.token ∷ c.next.new.self)) c.walk_from.new.reader c.in_ok-walk_from.ensures.value in
    let other : token_of c.in_ok-token.token ≡ Token.begin_object → ⊥ = no_begin c.in_ok-token.token c.in_default.not-BeginObject in
    let seen : view Null ≡ null = search (rules, the_lemmas) in
    let none = no_object c.args.depth (token_of c.in_ok-token.token) c.next.new.self d.0 c.walk_from.new.reader other d.1 in
    (d.0, ap (λ ts. converted of_json (value c.args.depth ts)) first ∙ d.1, subst (λ o. AreObjects HaveSameKnown (as_object d.0) o) (sym (ap as_object seen)) (no_objects (as_object d.0) none))

use Rattle.std.proofs.Common.{◌≡◌, [], ◌∷◌, None, IfSome, sym, ap, ◌∙◌, subst, arith}
use Rattle.json.specs.Reads.{token_of}
use Rattle.serde_json.specs.Find.{as_object}
use Rattle.lost_reading.specs.KnownMembers.{of_tokens}
use Rattle.lost_reading.proofs.TurnLemmas.{no_line, no_line_object, line_object, line_and_more, line_refused, no_begin}
use Rattle.lost_reading.proofs.known_members.read_whole.Goals as goal

pub returns-in_err-token-clause-err : goal.returns-in_err-token-clause-err
returns-in_err-token-clause-err c refused =
    let empty : c.args.reader.now ≡ [] = grind arith in
    subst (λ o. IfSome o (λ d. as_object d ≡ None)) (sym (ap of_tokens empty ∙ no_line)) tt

pub returns-in_default-clause-err : goal.returns-in_default-clause-err
returns-in_default-clause-err c refused =
    let first : c.args.reader.now ≡ token_of c.in_ok-token.token ∷ c.next.new.self = grind arith in
    subst (λ o. IfSome o (λ d. as_object d ≡ None)) (sym (ap of_tokens first))
    (no_line_object (token_of c.in_ok-token.token) c.next.new.self (no_begin c.in_ok-token.token c.in_default.not-BeginObject))

pub returns-in_err-found-clause-err : goal.returns-in_err-found-clause-err
returns-in_err-found-clause-err c refused =
    let first : c.args.reader.now ≡ token_of c.in_ok-token.token ∷ c.next.new.self = grind arith in
    let opened = first ∙ ap (λ k. token_of k ∷ c.next.new.self) c.in-BeginObject.is in
    subst (λ o. IfSome o (λ d. as_object d ≡ None)) (sym (ap of_tokens opened ∙ line_refused c.next.new.self (c.read_named.ensures.err (grind arith)))) tt

pub returns-then-is_some-clause-err : goal.returns-then-is_some-clause-err
returns-then-is_some-clause-err c refused =
    let first : c.args.reader.now ≡ token_of c.in_ok-token.token ∷ c.next.new.self = grind arith in
    let opened = first ∙ ap (λ k. token_of k ∷ c.next.new.self) c.in-BeginObject.is in
    let found = c.in_ok-found.ensures.ok in
    let more : c.read_named.new.reader ≡ [] → ⊥ = λ over. grind (arith, over) in
    subst (λ o. IfSome o (λ d. as_object d ≡ None)) (sym (ap of_tokens opened ∙ line_and_more c.next.new.self c.read_named.new.reader found.0 more found.1)) tt

pub returns-else-is_some-clause-ok : goal.returns-else-is_some-clause-ok
returns-else-is_some-clause-ok c =
    let first : c.args.reader.now ≡ token_of c.in_ok-token.token ∷ c.next.new.self = grind arith in
    let opened = first ∙ ap (λ k. token_of k ∷ c.next.new.self) c.in-BeginObject.is in
    let found = c.in_ok-found.ensures.ok in
    let over : c.read_named.new.reader ≡ [] = grind arith in
    (found.0, ap of_tokens opened ∙ line_object c.next.new.self c.read_named.new.reader found.0 over found.1, found.2)

-- What each kind of edit keeps of a book that is in order, and so what an accepted list of edits does.
use Rattle.std.specs.Prelude.{◌≡◌, ◌≢◌, ℕ, suc, ◌+◌, ◌≤◌, ◌<◌, Bool, true, false, not, ◌&&◌, List, [], ◌∷◌, ◌++◌, length, Option, Some, None, is_none}
use Rattle.std.specs.List.{AllByRecursion, list_any}
use Rattle.std.specs.Cmp.Lexicographic.{bytes_decides}
use Rattle.std.proofs.Common.{refl, sym, ap, ◌∙◌, arith}
use Rattle.std.proofs.lemmas.Bool.{leb-false, or_parts, and_parts, cond_both, true≢false, false_from_ne_true}
use Rattle.std.proofs.lemmas.List.{length-append}
use Rattle.std.proofs.lemmas.Option.{none-some, same_Some}
use Rattle.lost_spec.proofs.ListLemmas.{AllByRecursion-weaker}
use Rattle.lost_spec.proofs.IdentityLemmas.{has_identity-Decides, other_identity}
use Rattle.lost_spec.proofs.TraceLemmas.{with_trace-once, length-with_trace, stamp-with_trace-other, without_trace-once, length-without_trace, stamp-without_trace, stamp-without_trace-other}
use Rattle.lost_spec.specs.declared.faults.EditError.{EditError}
use Rattle.lost_spec.specs.Text.{Text}
use Rattle.lost_spec.specs.Moment.{Stamp}
use Rattle.lost_spec.specs.Mapping.{Mapping}
use Rattle.lost_spec.specs.Book.{Limits, Trace, Book, Identity, Edit, Publish, Replace, Withdraw, identity_of, has_identity, has_key, is_key, is_key_held, is_held, is_full, has_most_traces, stamp_of_trace, with_trace, without_trace, publish_refusal, replace_refusal, withdraw_refusal, refusal, replaced, without, changed, after, after_all, empty_book, accepts}
use Rattle.lost_spec.specs.Laws.{EachWithLater}
use Rattle.lost_spec.specs.BookLaws.{HasOtherIdentity, HasOtherKey, IsOfOtherIdentity, IsInOrder, AcceptedBookIsInOrder}

-- ---- lists

module _ {Thing : Type 0} where
  -- what holds of each of a list, and of one more, holds of each of the longer list
  pub AllByRecursion_push : (P : Thing → Type 0) (xs : List Thing) (x : Thing) → AllByRecursion P xs → P x → AllByRecursion P (xs ++ x ∷ [])
  AllByRecursion_push P [] x all here = (here, tt)
  AllByRecursion_push P (y ∷ ys) x all here = (all.0, AllByRecursion_push P ys x all.1 here)

  -- where P holds of each, so does what each has only if P holds of it
  pub AllByRecursion_apply : (P Q : Thing → Type 0) (xs : List Thing) → AllByRecursion (λ x. P x → Q x) xs → AllByRecursion P xs → AllByRecursion Q xs
  AllByRecursion_apply P Q [] step all = tt
  AllByRecursion_apply P Q (x ∷ xs) step all = (step.0 all.0, AllByRecursion_apply P Q xs step.1 all.1)

  -- what holds of anything holds of each
  pub AllByRecursion_always : (P : Thing → Type 0) → ((x : Thing) → P x) → (xs : List Thing) → AllByRecursion P xs
  AllByRecursion_always P always [] = tt
  AllByRecursion_always P always (x ∷ xs) = (always x, AllByRecursion_always P always xs)

  -- where a list has nothing that passes a test, each fails it
  pub AllByRecursion_from_list_any : (test : Thing → Bool) (xs : List Thing) → list_any test xs ≡ false → AllByRecursion (λ x. test x ≡ false) xs
  AllByRecursion_from_list_any test [] none = tt
  AllByRecursion_from_list_any test (x ∷ xs) none =
      let parts = or_parts (test x) (list_any test xs) none in
      (parts.0, AllByRecursion_from_list_any test xs parts.1)

  -- a relation between each and each later one goes on, if each has it to the one that is put behind
  pub EachWithLater_push : (R : Thing → Thing → Type 0) (xs : List Thing) (x : Thing) → EachWithLater R xs → AllByRecursion (λ y. R y x) xs → EachWithLater R (xs ++ x ∷ [])
  EachWithLater_push R [] x each all = (tt, tt)
  EachWithLater_push R (y ∷ ys) x each all = (AllByRecursion_push (R y) ys x each.0 all.0, EachWithLater_push R ys x each.1 all.1)

-- ---- identities and keys

-- the test of a key that is there passes
is_key_at : (own : Option Text) (key : Text) → own ≡ Some key → is_key own key ≡ true
is_key_at None key is = absurd (none-some key is)
is_key_at (Some own) key is = (bytes_decides own key).1 (same_Some own key is)

-- both relations hold of two mappings in either order
HasOtherIdentity_sym : (m n : Mapping) → HasOtherIdentity m n → HasOtherIdentity n m
HasOtherIdentity_sym m n other same = other (sym same)

HasOtherKey_sym : (m n : Mapping) → HasOtherKey m n → HasOtherKey n m
HasOtherKey_sym m n other key here there = other key there here

-- R holds of x and m, if they have two identities
abbrev pub IfOther : (Mapping → Mapping → Type 0) → Mapping → Mapping → Type 0
IfOther R m x = HasOtherIdentity x m → R x m

-- a mapping that fails the test of `is_key_held` has another key than m, if it has another identity
other_key : (m x : Mapping) (key : Text) → m.key ≡ Some key → (not (has_identity x (identity_of m)) && has_key x key) ≡ false → IfOther HasOtherKey m x
other_key m x key is fails other own here there =
    let same : own ≡ key = same_Some own key (sym there ∙ is) in
    let unlike : has_identity x (identity_of m) ≡ false = false_from_ne_true _ (λ t. other ((has_identity-Decides x (identity_of m)).0 t)) in
    let its : has_key x key ≡ true = is_key_at x.key key (here ∙ ap Some same) in
    true≢false (rw (unlike, its) at fails)

-- where no mapping has m's identity, each has another one
other_identities : (b : Book) (m : Mapping) → is_held b (identity_of m) ≡ false → AllByRecursion (λ x. HasOtherIdentity x m) b.mappings
other_identities b m free =
    AllByRecursion-weaker (λ x. has_identity x (identity_of m) ≡ false) (λ x. HasOtherIdentity x m) (λ x. other_identity x (identity_of m)) b.mappings
    (AllByRecursion_from_list_any (λ x. has_identity x (identity_of m)) b.mappings free)

-- where no other mapping has m's key, each mapping of another identity has another key
other_keys : (b : Book) (m : Mapping) (key : Option Text) → m.key ≡ key → is_key_held b (identity_of m) key ≡ false → AllByRecursion (IfOther HasOtherKey m) b.mappings
other_keys b m None is free = AllByRecursion_always (IfOther HasOtherKey m) (λ x other own here there. none-some own (sym is ∙ there)) b.mappings
other_keys b m (Some key) is free =
    AllByRecursion-weaker (λ x. (not (has_identity x (identity_of m)) && has_key x key) ≡ false) (IfOther HasOtherKey m) (λ x. other_key m x key is) b.mappings
    (AllByRecursion_from_list_any (λ x. not (has_identity x (identity_of m)) && has_key x key) b.mappings free)

-- ---- a mapping put in the place of another

-- what holds of each mapping, and of m, holds of each after m is put in
pub AllByRecursion-replaced : (P : Mapping → Type 0) (m : Mapping) (xs : List Mapping) → P m → AllByRecursion P xs → AllByRecursion P (replaced m xs)
AllByRecursion-replaced P m [] here all = tt
AllByRecursion-replaced P m (old ∷ rest) here all =
    cond_both (has_identity old (identity_of m)) (m ∷ rest) (old ∷ replaced m rest) (AllByRecursion P)
    (λ same. (here, all.1))
    (λ differ. (all.0, AllByRecursion-replaced P m rest here all.1))

-- a replacement leaves as many mappings as there were
pub length-replaced : (m : Mapping) (xs : List Mapping) → length (replaced m xs) ≡ length xs
length-replaced m [] = refl
length-replaced m (old ∷ rest) =
    cond_both (has_identity old (identity_of m)) (m ∷ rest) (old ∷ replaced m rest) (λ xs. length xs ≡ length (old ∷ rest))
    (λ same. refl)
    (λ differ. ap suc (length-replaced m rest))

module _ (R : Mapping → Mapping → Type 0) (symmetric : (x y : Mapping) → R x y → R y x) (m : Mapping) where
  -- m has the relation to those behind a mapping of its identity
  later_than_replaced : (old : Mapping) (rest : List Mapping) → identity_of old ≡ identity_of m → AllByRecursion (HasOtherIdentity old) rest → AllByRecursion (IfOther R m) rest → AllByRecursion (R m) rest
  later_than_replaced old rest same once other =
      AllByRecursion_apply (HasOtherIdentity old) (R m) rest
      (AllByRecursion-weaker (IfOther R m) (λ x. HasOtherIdentity old x → R m x) (λ x there differ. symmetric x m (there (λ e. differ (same ∙ sym e)))) rest other)
      once

  -- a relation between each mapping and each later one goes on, if m has it to each mapping of another identity
  pub EachWithLater-replaced : (xs : List Mapping) → EachWithLater HasOtherIdentity xs → AllByRecursion (IfOther R m) xs → EachWithLater R xs → EachWithLater R (replaced m xs)
  EachWithLater-replaced [] once other each = tt
  EachWithLater-replaced (old ∷ rest) once other each =
      cond_both (has_identity old (identity_of m)) (m ∷ rest) (old ∷ replaced m rest) (EachWithLater R)
      (λ same. (later_than_replaced old rest ((has_identity-Decides old (identity_of m)).0 same) once.0 other.1, each.1))
      (λ differ. (AllByRecursion-replaced (R old) m rest (other.0 (other_identity old (identity_of m) differ)) each.0, EachWithLater-replaced rest once.1 other.1 each.1))

-- ---- a list without one mapping

-- what holds of each mapping holds of each that is left
pub AllByRecursion-without : (P : Mapping → Type 0) (id : Identity) (xs : List Mapping) → AllByRecursion P xs → AllByRecursion P (without id xs)
AllByRecursion-without P id [] all = tt
AllByRecursion-without P id (old ∷ rest) all =
    cond_both (has_identity old id) rest (old ∷ without id rest) (AllByRecursion P)
    (λ same. all.1)
    (λ differ. (all.0, AllByRecursion-without P id rest all.1))

-- a relation between each mapping and each later one goes on among those that are left
pub EachWithLater-without : (R : Mapping → Mapping → Type 0) (id : Identity) (xs : List Mapping) → EachWithLater R xs → EachWithLater R (without id xs)
EachWithLater-without R id [] each = tt
EachWithLater-without R id (old ∷ rest) each =
    cond_both (has_identity old id) rest (old ∷ without id rest) (EachWithLater R)
    (λ same. each.1)
    (λ differ. (AllByRecursion-without (R old) id rest each.0, EachWithLater-without R id rest each.1))

-- a withdrawal leaves no more mappings than there were
pub length-without : (id : Identity) (xs : List Mapping) → length (without id xs) ≤ length xs
length-without id [] = omega arith
length-without id (old ∷ rest) =
    cond_both (has_identity old id) rest (old ∷ without id rest) (λ xs. length xs ≤ length (old ∷ rest))
    (λ same. omega arith)
    (λ differ. omega (arith, length-without id rest))

-- ---- mappings whose identities have no traces

-- the identity has no trace among these
abbrev pub IsUntraced : List Trace → Mapping → Type 0
IsUntraced ts m = stamp_of_trace ts (identity_of m) ≡ None

-- those left without an identity are of others, where each identity is held once
pub without-others : (id : Identity) (ms : List Mapping) → EachWithLater HasOtherIdentity ms → AllByRecursion (λ m. identity_of m ≢ id) (without id ms)
without-others id [] once = tt
without-others id (old ∷ rest) once =
    cond_both (has_identity old id) rest (old ∷ without id rest) (AllByRecursion (λ m. identity_of m ≢ id))
    (λ same. AllByRecursion-weaker (HasOtherIdentity old) (λ m. identity_of m ≢ id) (λ m other h. other ((has_identity-Decides old id).0 same ∙ sym h)) rest once.0)
    (λ differ. (other_identity old id differ, without-others id rest once.1))

-- a replacement has the identity of what it replaces
replaced-untraced : (ts : List Trace) (m : Mapping) (ms : List Mapping) → AllByRecursion (IsUntraced ts) ms → AllByRecursion (IsUntraced ts) (replaced m ms)
replaced-untraced ts m [] all = tt
replaced-untraced ts m (old ∷ rest) all =
    cond_both (has_identity old (identity_of m)) (m ∷ rest) (old ∷ replaced m rest) (AllByRecursion (IsUntraced ts))
    (λ same. (ap (stamp_of_trace ts) (sym ((has_identity-Decides old (identity_of m)).0 same)) ∙ all.0, all.1))
    (λ differ. (all.0, replaced-untraced ts m rest all.1))

-- a mapping that is put behind others of other identities, when the trace of its identity is taken away
pushed-untraced : (ts : List Trace) → EachWithLater IsOfOtherIdentity ts → (m : Mapping) (ms : List Mapping) → AllByRecursion (λ x. HasOtherIdentity x m) ms → AllByRecursion (IsUntraced ts) ms
    → AllByRecursion (IsUntraced (without_trace (identity_of m) ts)) (ms ++ m ∷ [])
pushed-untraced ts once m ms others all =
    AllByRecursion_push (IsUntraced (without_trace (identity_of m) ts)) ms m
    (AllByRecursion_apply (IsUntraced ts) (IsUntraced (without_trace (identity_of m) ts)) ms
    (AllByRecursion-weaker (λ x. HasOtherIdentity x m) (λ x. IsUntraced ts x → IsUntraced (without_trace (identity_of m) ts) x)
    (λ x other none. stamp-without_trace-other (identity_of m) (identity_of x) other ts once ∙ none) ms others) all)
    (stamp-without_trace (identity_of m) ts once)

-- those that are left when an identity is withdrawn, and its trace noted
left-untraced : (ts : List Trace) (id : Identity) (stamp : Stamp) (ms : List Mapping) → EachWithLater HasOtherIdentity ms → AllByRecursion (IsUntraced ts) ms
    → AllByRecursion (IsUntraced (with_trace id stamp ts)) (without id ms)
left-untraced ts id stamp ms once all =
    AllByRecursion_apply (IsUntraced ts) (IsUntraced (with_trace id stamp ts)) (without id ms)
    (AllByRecursion-weaker (λ m. identity_of m ≢ id) (λ m. IsUntraced ts m → IsUntraced (with_trace id stamp ts) m)
    (λ m other none. stamp-with_trace-other id stamp (identity_of m) other ts ∙ none) (without id ms) (without-others id ms once))
    (AllByRecursion-without (IsUntraced ts) id ms all)

-- ---- checks

-- where a publish is not refused, its identity is not held, the book is not full and its key is not held
publish_clear : (b : Book) (m : Mapping) → publish_refusal b m ≡ None → (is_held b (identity_of m) ≡ false) × (is_full b ≡ false) × (is_key_held b (identity_of m) m.key ≡ false)
publish_clear b m none = grind arith

-- where a replacement is not refused, no other mapping has its key
replace_clear : (b : Book) (m : Mapping) → replace_refusal b m ≡ None → is_key_held b (identity_of m) m.key ≡ false
replace_clear b m none = grind arith

-- where a withdrawal is not refused, there is room for its trace
withdraw_clear : (b : Book) (id : Identity) (stamp : Stamp) → withdraw_refusal b id stamp ≡ None → has_most_traces b ≡ false
withdraw_clear b id stamp none = grind arith

-- the test of `None` passes only there
none_from_is_none : (o : Option EditError) → is_none o ≡ true → o ≡ None
none_from_is_none None is = refl
none_from_is_none (Some fault) is = absurd (true≢false (sym is))

-- ---- edits

module _ (limits : Limits) (n : ℕ) (b : Book) (order : IsInOrder limits n b) where
  -- a publish that is not refused keeps a book in order
  publish_keeps : (m : Mapping) → publish_refusal b m ≡ None → IsInOrder limits (n + 1) (changed b (Publish m))
  publish_keeps m none =
      let clear = publish_clear b m none in
      let space : length b.mappings < b.limits.mappings = leb-false b.limits.mappings (length b.mappings) clear.1 in
      let limit : b.limits.mappings ≡ limits.mappings = ap (λ (l : Limits). l.mappings) order.same_limits in
      let others = other_identities b m clear.0 in
      record {
        same_limits = order.same_limits;
        identities_once = EachWithLater_push HasOtherIdentity b.mappings m order.identities_once others;
        keys_once =
            EachWithLater_push HasOtherKey b.mappings m order.keys_once
            (AllByRecursion_apply (λ x. HasOtherIdentity x m) (λ x. HasOtherKey x m) b.mappings (other_keys b m m.key refl clear.2) others);
        within_limit = rw length-append (omega arith);
        traces_once = without_trace-once (identity_of m) b.traces order.traces_once;
        held_untraced = pushed-untraced b.traces order.traces_once m b.mappings others order.held_untraced;
        traces_within = omega (arith, length-without_trace (identity_of m) b.traces, order.traces_within);
        counted = ap (λ k. k + 1) order.counted;
      }

  -- a replacement that is not refused keeps it in order
  replace_keeps : (m : Mapping) → replace_refusal b m ≡ None → IsInOrder limits (n + 1) (changed b (Replace m))
  replace_keeps m none =
      record {
        same_limits = order.same_limits;
        identities_once =
            EachWithLater-replaced HasOtherIdentity HasOtherIdentity_sym m b.mappings order.identities_once
            (AllByRecursion_always (IfOther HasOtherIdentity m) (λ x other. other) b.mappings) order.identities_once;
        keys_once = EachWithLater-replaced HasOtherKey HasOtherKey_sym m b.mappings order.identities_once (other_keys b m m.key refl (replace_clear b m none)) order.keys_once;
        within_limit = rw length-replaced order.within_limit;
        traces_once = order.traces_once;
        held_untraced = replaced-untraced b.traces m b.mappings order.held_untraced;
        traces_within = order.traces_within;
        counted = ap (λ k. k + 1) order.counted;
      }

  -- a withdrawal that is not refused keeps it in order
  withdraw_keeps : (id : Identity) (stamp : Stamp) → withdraw_refusal b id stamp ≡ None → IsInOrder limits (n + 1) (changed b (Withdraw id stamp))
  withdraw_keeps id stamp none =
      let fewer = length-without id b.mappings in
      let room : length b.traces < b.limits.traces = leb-false b.limits.traces (length b.traces) (withdraw_clear b id stamp none) in
      let limit : b.limits.traces ≡ limits.traces = ap (λ (l : Limits). l.traces) order.same_limits in
      let one_more = length-with_trace id stamp b.traces in
      record {
        same_limits = order.same_limits;
        identities_once = EachWithLater-without HasOtherIdentity id b.mappings order.identities_once;
        keys_once = EachWithLater-without HasOtherKey id b.mappings order.keys_once;
        within_limit = omega arith;
        traces_once = with_trace-once id stamp b.traces order.traces_once;
        held_untraced = left-untraced b.traces id stamp b.mappings order.identities_once order.held_untraced;
        traces_within = omega arith;
        counted = ap (λ k. k + 1) order.counted;
      }

  -- each edit that is not refused keeps it in order
  pub changed_keeps : (e : Edit) → refusal b e ≡ None → IsInOrder limits (n + 1) (changed b e)
  changed_keeps (Publish m) none = publish_keeps m none
  changed_keeps (Replace m) none = replace_keeps m none
  changed_keeps (Withdraw id stamp) none = withdraw_keeps id stamp none

-- ---- lists of edits

-- the book after an edit that is not refused is in order
pub after_keeps : (limits : Limits) (n : ℕ) (b : Book) (e : Edit) → IsInOrder limits n b → is_none (refusal b e) ≡ true → IsInOrder limits (n + 1) (after b e)
after_keeps limits n b e order free = rw free (changed_keeps limits n b order e (none_from_is_none (refusal b e) free))

-- the book after an accepted list, from any book that is in order, is in order
pub after_all_keeps : (limits : Limits) (n : ℕ) (b : Book) (es : List Edit) → IsInOrder limits n b → accepts b es ≡ true → IsInOrder limits (n + length es) (after_all b es)
after_all_keeps limits n b [] order free =
    let none : n + 0 ≡ n = omega arith in
    rw none order
after_all_keeps limits n b (e ∷ es) order free =
    let parts = and_parts (is_none (refusal b e)) (accepts (after b e) es) free in
    let rest : IsInOrder limits (n + 1 + length es) (after_all (after b e) es) = after_all_keeps limits (n + 1) (after b e) es (after_keeps limits n b e order parts.0) parts.1 in
    let one_more : n + length (e ∷ es) ≡ n + 1 + length es = omega arith in
    rw one_more rest

-- the empty book is in order
pub empty_in_order : (limits : Limits) → IsInOrder limits 0 (empty_book limits)
empty_in_order limits = record { same_limits = refl; identities_once = tt; keys_once = tt; within_limit = omega arith; traces_once = tt; held_untraced = tt; traces_within = omega arith; counted = refl }

-- and so is the book of an accepted list, from the empty book
pub accepted_book : AcceptedBookIsInOrder
accepted_book limits es free =
    let none : 0 + length es ≡ length es = omega arith in
    rw none at (after_all_keeps limits 0 (empty_book limits) es (empty_in_order limits) free)

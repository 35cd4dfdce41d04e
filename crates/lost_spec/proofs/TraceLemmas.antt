-- What a withdrawal and a publish do to the list of traces.
use Rattle.std.specs.Prelude.{◌≡◌, ◌≢◌, ◌+◌, ◌-◌, ◌≤◌, Bool, true, false, if◌then◌else◌, List, [], ◌∷◌, ◌++◌, length, take, drop, Option, Some, None}
use Rattle.std.specs.List.{AllByRecursion}
use Rattle.std.specs.Option.{option_or}
use Rattle.std.proofs.Common.{refl, sym, ap, subst, ◌∙◌, arith}
use Rattle.std.proofs.lemmas.Bool.{cond_both, false_from_ne_true}
use Rattle.std.proofs.lemmas.List.{length-append, take-append-drop}
use Rattle.std.proofs.lemmas.Option.{none-some}
use Rattle.lost_spec.specs.Moment.{Stamp}
use Rattle.lost_spec.specs.Book.{Identity, Trace, same_identity, stamp_of_trace, with_trace, last_first, without_trace}
use Rattle.lost_spec.specs.Laws.{EachWithLater}
use Rattle.lost_spec.specs.BookLaws.{IsOfOtherIdentity}
use Rattle.lost_spec.proofs.ListLemmas.{AllByRecursion-weaker, AllByRecursion-append, AllByRecursion-front, AllByRecursion-back}
use Rattle.lost_spec.proofs.IdentityLemmas.{same_identity-Decides, two_identities}

-- ---- the stamp of an identity

-- the test of two identities that differ fails
fails_apart : (a b : Identity) → a ≢ b → same_identity a b ≡ false
fails_apart a b differ = false_from_ne_true (same_identity a b) (λ t. differ ((same_identity-Decides a b).0 t))

passes_same : (a : Identity) → same_identity a a ≡ true
passes_same a = (same_identity-Decides a a).1 refl

-- a trace of another identity is passed over
passed_over : (id : Identity) (t : Trace) (ts : List Trace) → id ≢ t.0 → stamp_of_trace (t ∷ ts) id ≡ stamp_of_trace ts id
passed_over id t ts differ = ap (λ b. if b then Some t.1 else stamp_of_trace ts id) (fails_apart id t.0 differ)

-- where no trace is of an identity, it has no stamp, and where it has none, none is
pub no_stamp : (id : Identity) (ts : List Trace) → AllByRecursion (λ t. id ≢ t.0) ts → stamp_of_trace ts id ≡ None
no_stamp id [] none = refl
no_stamp id (t ∷ ts) none = passed_over id t ts none.0 ∙ no_stamp id ts none.1

pub no_trace : (id : Identity) (ts : List Trace) → stamp_of_trace ts id ≡ None → AllByRecursion (λ t. id ≢ t.0) ts
no_trace id [] none = tt
no_trace id (t ∷ ts) none = by (same_identity id t.0) refl (no_trace id ts) none
  where
    by : (b : Bool) → same_identity id t.0 ≡ b → (stamp_of_trace ts id ≡ None → AllByRecursion (λ t. id ≢ t.0) ts) → (if b then Some t.1 else stamp_of_trace ts id) ≡ None
        → AllByRecursion (λ t. id ≢ t.0) (t ∷ ts)
    by true e rest h = absurd (none-some t.1 (sym h))
    by false e rest h = (two_identities id t.0 e, rest h)

-- the stamp in two lists, one after the other, is that in the first, or else that in the second
stamp-append : (id : Identity) (ts us : List Trace) → stamp_of_trace (ts ++ us) id ≡ option_or (stamp_of_trace ts id) (stamp_of_trace us id)
stamp-append id [] us = refl
stamp-append id (t ∷ ts) us = by (same_identity id t.0) (stamp-append id ts us)
  where
    by : (b : Bool) → stamp_of_trace (ts ++ us) id ≡ option_or (stamp_of_trace ts id) (stamp_of_trace us id)
        → (if b then Some t.1 else stamp_of_trace (ts ++ us) id) ≡ option_or (if b then Some t.1 else stamp_of_trace ts id) (stamp_of_trace us id)
    by true h = refl
    by false h = h

-- ---- a trace more

module _ (id : Identity) (stamp : Stamp) where
  -- what holds of each identity holds of each of one more list, if it holds of the new one
  with_trace-all : (P : Identity → Type 0) (ts : List Trace) → P id → AllByRecursion (λ t. P t.0) ts → AllByRecursion (λ t. P t.0) (with_trace id stamp ts)
  with_trace-all P [] here all = (here, tt)
  with_trace-all P (t ∷ ts) here all =
      cond_both (same_identity id t.0) ((t.0, stamp) ∷ ts) (t ∷ with_trace id stamp ts) (AllByRecursion (λ u. P u.0))
      (λ same. (all.0, all.1))
      (λ differ. (all.0, with_trace-all P ts here all.1))

  -- each identity still has one trace at most
  pub with_trace-once : (ts : List Trace) → EachWithLater IsOfOtherIdentity ts → EachWithLater IsOfOtherIdentity (with_trace id stamp ts)
  with_trace-once [] once = (tt, tt)
  with_trace-once (t ∷ ts) once =
      cond_both (same_identity id t.0) ((t.0, stamp) ∷ ts) (t ∷ with_trace id stamp ts) (EachWithLater IsOfOtherIdentity)
      (λ same. (once.0, once.1))
      (λ differ. (with_trace-all (λ i. t.0 ≢ i) ts (λ e. two_identities id t.0 differ (sym e)) once.0, with_trace-once ts once.1))

  -- there is one more at most
  pub length-with_trace : (ts : List Trace) → length (with_trace id stamp ts) ≤ length ts + 1
  length-with_trace [] = omega arith
  length-with_trace (t ∷ ts) =
      cond_both (same_identity id t.0) ((t.0, stamp) ∷ ts) (t ∷ with_trace id stamp ts) (λ us. length us ≤ length (t ∷ ts) + 1)
      (λ same. omega arith)
      (λ differ. omega (arith, length-with_trace ts))

  -- the identity has the stamp then
  pub stamp-with_trace : (ts : List Trace) → stamp_of_trace (with_trace id stamp ts) id ≡ Some stamp
  stamp-with_trace [] = ap (λ b. if b then Some stamp else None) (passes_same id)
  stamp-with_trace (t ∷ ts) = by (same_identity id t.0) refl (stamp-with_trace ts)
    where
      by : (b : Bool) → same_identity id t.0 ≡ b → stamp_of_trace (with_trace id stamp ts) id ≡ Some stamp
          → stamp_of_trace (if b then (t.0, stamp) ∷ ts else t ∷ with_trace id stamp ts) id ≡ Some stamp
      by true e rest = ap (λ b. if b then Some stamp else stamp_of_trace ts id) e
      by false e rest = ap (λ b. if b then Some t.1 else stamp_of_trace (with_trace id stamp ts) id) e ∙ rest

  -- all other identities have the stamps that they had
  pub stamp-with_trace-other : (other : Identity) → other ≢ id → (ts : List Trace) → stamp_of_trace (with_trace id stamp ts) other ≡ stamp_of_trace ts other
  stamp-with_trace-other other differ [] = passed_over other (id, stamp) [] differ
  stamp-with_trace-other other differ (t ∷ ts) = by (same_identity id t.0) refl (stamp-with_trace-other other differ ts)
    where
      by : (b : Bool) → same_identity id t.0 ≡ b → stamp_of_trace (with_trace id stamp ts) other ≡ stamp_of_trace ts other
          → stamp_of_trace (if b then (t.0, stamp) ∷ ts else t ∷ with_trace id stamp ts) other ≡ stamp_of_trace (t ∷ ts) other
      by true e rest =
          let apart : other ≢ t.0 = λ same. differ (same ∙ sym ((same_identity-Decides id t.0).0 e)) in
          passed_over other (t.0, stamp) ts apart ∙ sym (passed_over other t ts apart)
      by false e rest = ap (λ o. if same_identity other t.0 then Some t.1 else o) rest

  -- a trace of an identity that has none goes behind all
  pub with_trace-new : (ts : List Trace) → stamp_of_trace ts id ≡ None → with_trace id stamp ts ≡ ts ++ (id, stamp) ∷ []
  with_trace-new [] none = refl
  with_trace-new (t ∷ ts) none =
      let apart = no_trace id (t ∷ ts) none in
      ap (λ b. if b then (t.0, stamp) ∷ ts else t ∷ with_trace id stamp ts) (fails_apart id t.0 apart.0)
      ∙ ap (λ us. t ∷ us) (with_trace-new ts (no_stamp id ts apart.1))

-- ---- a list turned, its last in front

module _ {Thing : Type 0} (R : Thing → Thing → Type 0) where
  -- a relation between each and each later one of two lists, one after the other, holds within each and between them
  each_front : (xs ys : List Thing) → EachWithLater R (xs ++ ys) → EachWithLater R xs
  each_front [] ys each = tt
  each_front (x ∷ xs) ys each = (AllByRecursion-front (R x) xs ys each.0, each_front xs ys each.1)

  each_back : (xs ys : List Thing) → EachWithLater R (xs ++ ys) → EachWithLater R ys
  each_back [] ys each = each
  each_back (x ∷ xs) ys each = each_back xs ys each.1

  each_between : (xs ys : List Thing) → EachWithLater R (xs ++ ys) → AllByRecursion (λ x. AllByRecursion (R x) ys) xs
  each_between [] ys each = tt
  each_between (x ∷ xs) ys each = (AllByRecursion-back (R x) xs ys each.0, each_between xs ys each.1)

  -- and the other way round
  each_joined : (xs ys : List Thing) → EachWithLater R xs → EachWithLater R ys → AllByRecursion (λ x. AllByRecursion (R x) ys) xs → EachWithLater R (xs ++ ys)
  each_joined [] ys front back between = back
  each_joined (x ∷ xs) ys front back between = (AllByRecursion-append (R x) xs ys front.0 between.0, each_joined xs ys front.1 back between.1)

  -- between the lists it holds in either order, if it is symmetric
  turned_between : ((x y : Thing) → R x y → R y x) → (xs ys : List Thing) → AllByRecursion (λ x. AllByRecursion (R x) ys) xs → AllByRecursion (λ y. AllByRecursion (R y) xs) ys
  turned_between symmetric xs [] between = tt
  turned_between symmetric xs (y ∷ ys) between = (
    AllByRecursion-weaker (λ x. AllByRecursion (R x) (y ∷ ys)) (R y) (λ x all. symmetric x y all.0) xs between,
    turned_between symmetric xs ys (AllByRecursion-weaker (λ x. AllByRecursion (R x) (y ∷ ys)) (λ x. AllByRecursion (R x) ys) (λ x all. all.1) xs between),
  )

  -- so it holds of two lists in either order
  pub each_turned : ((x y : Thing) → R x y → R y x) → (xs ys : List Thing) → EachWithLater R (xs ++ ys) → EachWithLater R (ys ++ xs)
  each_turned symmetric xs ys each =
      each_joined ys xs (each_back xs ys each) (each_front xs ys each) (turned_between symmetric xs ys (each_between xs ys each))

IsOfOtherIdentity_sym : (t u : Trace) → IsOfOtherIdentity t u → IsOfOtherIdentity u t
IsOfOtherIdentity_sym t u other same = other (sym same)

-- a list is what is in front of its last and its last
front_and_last : (ts : List Trace) → take (length ts - 1) ts ++ drop (length ts - 1) ts ≡ ts
front_and_last ts = take-append-drop (length ts - 1) ts

last_first-all : (P : Trace → Type 0) (ts : List Trace) → AllByRecursion P ts → AllByRecursion P (last_first ts)
last_first-all P ts all =
    let front = take (length ts - 1) ts in
    let last = drop (length ts - 1) ts in
    let parts : AllByRecursion P (front ++ last) = subst (AllByRecursion P) (sym (front_and_last ts)) all in
    AllByRecursion-append P last front (AllByRecursion-back P front last parts) (AllByRecursion-front P front last parts)

last_first-once : (ts : List Trace) → EachWithLater IsOfOtherIdentity ts → EachWithLater IsOfOtherIdentity (last_first ts)
last_first-once ts once =
    each_turned IsOfOtherIdentity IsOfOtherIdentity_sym (take (length ts - 1) ts) (drop (length ts - 1) ts)
    (subst (EachWithLater IsOfOtherIdentity) (sym (front_and_last ts)) once)

length-last_first : (ts : List Trace) → length (last_first ts) ≡ length ts
length-last_first ts =
    let front = take (length ts - 1) ts in
    let last = drop (length ts - 1) ts in
    let turned : length (last ++ front) ≡ length last + length front = length-append last front in
    let parts : length (front ++ last) ≡ length front + length last = length-append front last in
    let whole : length (front ++ last) ≡ length ts = ap length (front_and_last ts) in
    omega arith

-- of two lists with no identity in common, the order does not matter
stamp-turned : (id : Identity) (ts us : List Trace) → AllByRecursion (λ t. AllByRecursion (IsOfOtherIdentity t) us) ts → stamp_of_trace (us ++ ts) id ≡ stamp_of_trace (ts ++ us) id
stamp-turned id [] us apart = stamp-append id us [] ∙ by (stamp_of_trace us id)
  where
    by : (o : Option Stamp) → option_or o None ≡ o
    by None = refl
    by (Some s) = refl
stamp-turned id (t ∷ ts) us apart = by (same_identity id t.0) refl (stamp-turned id ts us apart.1)
  where
    by : (b : Bool) → same_identity id t.0 ≡ b → stamp_of_trace (us ++ ts) id ≡ stamp_of_trace (ts ++ us) id
        → stamp_of_trace (us ++ t ∷ ts) id ≡ (if b then Some t.1 else stamp_of_trace (ts ++ us) id)
    by true e rest =
        let same : id ≡ t.0 = (same_identity-Decides id t.0).0 e in
        let none : stamp_of_trace us id ≡ None = no_stamp id us (AllByRecursion-weaker (IsOfOtherIdentity t) (λ u. id ≢ u.0) (λ u other h. other (sym same ∙ h)) us apart.0) in
        stamp-append id us (t ∷ ts) ∙ ap (λ o. option_or o (stamp_of_trace (t ∷ ts) id)) none ∙ ap (λ b. if b then Some t.1 else stamp_of_trace ts id) e
    by false e rest =
        stamp-append id us (t ∷ ts) ∙ ap (λ b. option_or (stamp_of_trace us id) (if b then Some t.1 else stamp_of_trace ts id)) e
        ∙ sym (stamp-append id us ts) ∙ rest

stamp-last_first : (id : Identity) (ts : List Trace) → EachWithLater IsOfOtherIdentity ts → stamp_of_trace (last_first ts) id ≡ stamp_of_trace ts id
stamp-last_first id ts once =
    let front = take (length ts - 1) ts in
    let last = drop (length ts - 1) ts in
    stamp-turned id front last (each_between IsOfOtherIdentity front last (subst (EachWithLater IsOfOtherIdentity) (sym (front_and_last ts)) once))
    ∙ ap (λ us. stamp_of_trace us id) (front_and_last ts)

-- ---- a trace less

module _ (id : Identity) where
  -- what holds of each trace holds of each that is left
  pub without_trace-all : (P : Trace → Type 0) (ts : List Trace) → AllByRecursion P ts → AllByRecursion P (without_trace id ts)
  without_trace-all P [] all = tt
  without_trace-all P (t ∷ ts) all =
      cond_both (same_identity id t.0) (last_first ts) (t ∷ without_trace id ts) (AllByRecursion P)
      (λ same. last_first-all P ts all.1)
      (λ differ. (all.0, without_trace-all P ts all.1))

  pub without_trace-once : (ts : List Trace) → EachWithLater IsOfOtherIdentity ts → EachWithLater IsOfOtherIdentity (without_trace id ts)
  without_trace-once [] once = tt
  without_trace-once (t ∷ ts) once =
      cond_both (same_identity id t.0) (last_first ts) (t ∷ without_trace id ts) (EachWithLater IsOfOtherIdentity)
      (λ same. last_first-once ts once.1)
      (λ differ. (without_trace-all (IsOfOtherIdentity t) ts once.0, without_trace-once ts once.1))

  pub length-without_trace : (ts : List Trace) → length (without_trace id ts) ≤ length ts
  length-without_trace [] = omega arith
  length-without_trace (t ∷ ts) =
      let turned : length (last_first ts) ≡ length ts = length-last_first ts in
      cond_both (same_identity id t.0) (last_first ts) (t ∷ without_trace id ts) (λ us. length us ≤ length (t ∷ ts))
      (λ same. omega arith)
      (λ differ. omega (arith, length-without_trace ts))

  -- the identity has none then
  pub stamp-without_trace : (ts : List Trace) → EachWithLater IsOfOtherIdentity ts → stamp_of_trace (without_trace id ts) id ≡ None
  stamp-without_trace [] once = refl
  stamp-without_trace (t ∷ ts) once = by (same_identity id t.0) refl (stamp-without_trace ts once.1)
    where
      by : (b : Bool) → same_identity id t.0 ≡ b → stamp_of_trace (without_trace id ts) id ≡ None → stamp_of_trace (if b then last_first ts else t ∷ without_trace id ts) id ≡ None
      by true e rest =
          let same : id ≡ t.0 = (same_identity-Decides id t.0).0 e in
          stamp-last_first id ts once.1 ∙ no_stamp id ts (AllByRecursion-weaker (IsOfOtherIdentity t) (λ u. id ≢ u.0) (λ u other h. other (sym same ∙ h)) ts once.0)
      by false e rest = ap (λ b. if b then Some t.1 else stamp_of_trace (without_trace id ts) id) e ∙ rest

  -- all other identities have the stamps that they had
  pub stamp-without_trace-other : (other : Identity) → other ≢ id → (ts : List Trace) → EachWithLater IsOfOtherIdentity ts → stamp_of_trace (without_trace id ts) other ≡ stamp_of_trace ts other
  stamp-without_trace-other other differ [] once = refl
  stamp-without_trace-other other differ (t ∷ ts) once = by (same_identity id t.0) refl (stamp-without_trace-other other differ ts once.1)
    where
      by : (b : Bool) → same_identity id t.0 ≡ b → stamp_of_trace (without_trace id ts) other ≡ stamp_of_trace ts other
          → stamp_of_trace (if b then last_first ts else t ∷ without_trace id ts) other ≡ stamp_of_trace (t ∷ ts) other
      by true e rest =
          stamp-last_first other ts once.1 ∙ sym (passed_over other t ts (λ same. differ (same ∙ sym ((same_identity-Decides id t.0).0 e))))
      by false e rest = ap (λ o. if same_identity other t.0 then Some t.1 else o) rest

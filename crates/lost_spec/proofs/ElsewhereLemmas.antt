-- An edit of mappings with no service of a chain changes nothing that is asked of the chain.
use Rattle.std.proofs.Common.{◌≡◌, Bool, true, false, cond, not, ◌&&◌, List, [], ◌∷◌, ◌++◌, filter, find, IfSome, Some, sym, refl, ap, subst, ◌∙◌, length, is_none, if◌then◌else◌, arith}
use Rattle.std.specs.List.{AllByRecursion, list_any}
use Rattle.std.proofs.lemmas.Bool.{and_parts, false_from_ne_true}
use Rattle.lost_spec.specs.Place.{Place}
use Rattle.lost_spec.specs.Service.{Service, same_service, chain}
use Rattle.lost_spec.specs.Civic.{Pairs}
use Rattle.lost_spec.specs.Moment.{Instant}
use Rattle.lost_spec.specs.Mapping.{Mapping, is_live}
use Rattle.lost_spec.specs.Book.{Book, Edit, Publish, Replace, Withdraw, Identity, identity_of, has_identity, replaced, without, mappings_after, refusal, changed, after}
use Rattle.lost_spec.specs.Find.{holds, serves, at, defaults, unless_empty, first_with, finding, found, is_implemented}
use Rattle.lost_spec.specs.Validation.{of_service, validation}
use Rattle.lost_spec.specs.FindLaws.{IsOfChain, IsElsewhere}
use Rattle.lost_spec.proofs.FilterLemmas.{list_any-filter, filter_drops}
use Rattle.lost_spec.proofs.ChainLemmas.{same_service-Decides, cuts_are_of_chain}
use Rattle.lost_spec.proofs.FindLemmas.{HoldsHere-Decides, StandsBy-Decides, IsHere-Decides}

-- a test passes only mappings with a service of the chain of s
abbrev pub AsksTheChain : Service → (Mapping → Bool) → Type 0
AsksTheChain s test = (m : Mapping) → test m ≡ true → IsOfChain m.service s

-- two lists have the same mappings of the chain of s: each test that asks the chain keeps the same of both
abbrev pub SameOfChain : Service → List Mapping → List Mapping → Type 0
SameOfChain s ms ns = (test : Mapping → Bool) → AsksTheChain s test → filter test ns ≡ filter test ms

-- ---- the mappings after an edit elsewhere

-- a mapping that is not of the chain fails
fails_elsewhere : (s : Service) (test : Mapping → Bool) → AsksTheChain s test → (m : Mapping) → ¬ IsOfChain m.service s → test m ≡ false
fails_elsewhere s test asks m elsewhere = false_from_ne_true (test m) (λ e. elsewhere (asks m e))

-- a mapping elsewhere is appended
SameOfChain-append : (s : Service) (m : Mapping) → ¬ IsOfChain m.service s → (ms : List Mapping) → SameOfChain s ms (ms ++ m ∷ [])
SameOfChain-append s m elsewhere [] test asks = filter_drops test m [] (fails_elsewhere s test asks m elsewhere)
SameOfChain-append s m elsewhere (x ∷ ms) test asks = ap (λ rest. cond (test x) (x ∷ rest) rest) (SameOfChain-append s m elsewhere ms test asks)

-- a mapping elsewhere is replaced by one elsewhere
SameOfChain-replaced : (s : Service) (m : Mapping) → ¬ IsOfChain m.service s → (ms : List Mapping)
    → IfSome (find (λ n. has_identity n (identity_of m)) ms) (λ old. ¬ IsOfChain old.service s) → SameOfChain s ms (replaced m ms)
SameOfChain-replaced s m elsewhere [] old_elsewhere test asks = refl
SameOfChain-replaced s m elsewhere (x ∷ ms) old_elsewhere test asks = by (has_identity x (identity_of m)) (λ h. SameOfChain-replaced s m elsewhere ms h test asks) old_elsewhere
  where
    by : (b : Bool) → (IfSome (find (λ n. has_identity n (identity_of m)) ms) (λ old. ¬ IsOfChain old.service s) → filter test (replaced m ms) ≡ filter test ms)
        → IfSome (cond b (Some x) (find (λ n. has_identity n (identity_of m)) ms)) (λ old. ¬ IsOfChain old.service s)
        → filter test (if b then m ∷ ms else x ∷ replaced m ms) ≡ filter test (x ∷ ms)
    by true rest h = filter_drops test m ms (fails_elsewhere s test asks m elsewhere) ∙ sym (filter_drops test x ms (fails_elsewhere s test asks x h))
    by false rest h = ap (λ kept. cond (test x) (x ∷ kept) kept) (rest h)

-- a mapping elsewhere is withdrawn
SameOfChain-without : (s : Service) (id : Identity) (ms : List Mapping) → IfSome (find (λ n. has_identity n id) ms) (λ old. ¬ IsOfChain old.service s) → SameOfChain s ms (without id ms)
SameOfChain-without s id [] old_elsewhere test asks = refl
SameOfChain-without s id (x ∷ ms) old_elsewhere test asks = by (has_identity x id) (λ h. SameOfChain-without s id ms h test asks) old_elsewhere
  where
    by : (b : Bool) → (IfSome (find (λ n. has_identity n id) ms) (λ old. ¬ IsOfChain old.service s) → filter test (without id ms) ≡ filter test ms)
        → IfSome (cond b (Some x) (find (λ n. has_identity n id) ms)) (λ old. ¬ IsOfChain old.service s)
        → filter test (if b then ms else x ∷ without id ms) ≡ filter test (x ∷ ms)
    by true rest h = sym (filter_drops test x ms (fails_elsewhere s test asks x h))
    by false rest h = ap (λ kept. cond (test x) (x ∷ kept) kept) (rest h)

-- any edit elsewhere
SameOfChain-mappings_after : (s : Service) (b : Book) (e : Edit) → IsElsewhere s b e → SameOfChain s b.mappings (mappings_after b.mappings e)
SameOfChain-mappings_after s b (Publish m) elsewhere = SameOfChain-append s m elsewhere b.mappings
SameOfChain-mappings_after s b (Replace m) elsewhere = SameOfChain-replaced s m elsewhere.0 b.mappings elsewhere.1
SameOfChain-mappings_after s b (Withdraw id stamp) elsewhere = SameOfChain-without s id b.mappings elsewhere

-- an edit elsewhere, refused or not, leaves the same mappings of the chain
pub SameOfChain-after : (s : Service) (b : Book) (e : Edit) → IsElsewhere s b e → SameOfChain s b.mappings (after b e).mappings
SameOfChain-after s b e elsewhere = by (is_none (refusal b e))
  where
    by : (accepted : Bool) → SameOfChain s b.mappings (if accepted then changed b e else b).mappings
    by true = SameOfChain-mappings_after s b e elsewhere
    by false = λ test asks. refl

-- ---- what is asked of two books with the same mappings of the chain

module _ (s : Service) (b c : Book) (same : SameOfChain s b.mappings c.mappings) where
  -- at a service of the chain: the holders, the defaults, and all live mappings
  at_same : (t : Instant) (l : Place) (u : Service) → IsOfChain u s → at c t l u ≡ at b t l u
  at_same t l u of_chain = same (λ m. serves m t u && (not m.is_default && holds m l)) (λ m e. subst (λ v. IsOfChain v s) (sym ((HoldsHere-Decides t l u m).0 e).service) of_chain)

  defaults_same : (t : Instant) (u : Service) → IsOfChain u s → defaults c t u ≡ defaults b t u
  defaults_same t u of_chain = same (λ m. serves m t u && m.is_default) (λ m e. subst (λ v. IsOfChain v s) (sym ((StandsBy-Decides t u m).0 e).service) of_chain)

  of_service_same : (t : Instant) (u : Service) → IsOfChain u s → of_service c t u ≡ of_service b t u
  of_service_same t u of_chain =
      same (λ m. serves m t u)
      (λ m e. subst (λ v. IsOfChain v s) (sym ((same_service-Decides m.service u).0 (and_parts (is_live m t) (same_service m.service u) e).1)) of_chain)

  -- the first service with mappings, where the same is asked at each
  first_with_same : (ask other : Service → List Mapping) → ((u : Service) → IsOfChain u s → other u ≡ ask u) → (us : List Service) → AllByRecursion (λ u. IsOfChain u s) us → first_with other us ≡ first_with ask us
  first_with_same ask other alike [] of_chain = refl
  first_with_same ask other alike (u ∷ us) of_chain = λ i. unless_empty u (alike u of_chain.0 i) (first_with_same ask other alike us of_chain.1 i)

  -- the same is found
  pub found_same : (t : Instant) (l : Place) → found c t l s ≡ found b t l s
  unfolding found
  found_same t l =
      let of_chain = cuts_are_of_chain (length s) s (omega arith) in
      λ i. finding (first_with_same (at b t l) (at c t l) (at_same t l) (chain s) of_chain i) (first_with_same (defaults b t) (defaults c t) (defaults_same t) (chain s) of_chain i)

  -- the service is implemented in both or in none
  pub is_implemented_same : (t : Instant) → is_implemented c t s ≡ is_implemented b t s
  unfolding is_implemented
  is_implemented_same t =
      let test = λ (m : Mapping). is_live m t && list_any (λ u. same_service m.service u) (chain s) in
      sym (list_any-filter test c.mappings) ∙ ap (list_any test) (same test (λ m e. ((IsHere-Decides t s m).0 e).of_chain)) ∙ list_any-filter test b.mappings

  -- a validation for a service of the chain is the same
  pub validation_same : (t : Instant) (u : Service) → IsOfChain u s → (ms : List Mapping) (address : Pairs) → validation c t u ms address ≡ validation b t u ms address
  unfolding validation
  validation_same t u of_chain ms address = rw (of_service_same t u of_chain) refl

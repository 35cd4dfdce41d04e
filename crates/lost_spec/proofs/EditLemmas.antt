-- What an edit leaves as it is: the mappings of other identities, and where it replaces one, the list of identities.
use Rattle.std.specs.Prelude.{◌≡◌, ◌≢◌, Bool, true, false, not, if◌then◌else◌, List, [], ◌∷◌, ◌++◌, map, find, is_none}
use Rattle.std.proofs.Common.{refl, sym, ap, ◌∙◌}
use Rattle.std.proofs.lemmas.Bool.{false_from_ne_true}
use Rattle.lost_spec.specs.Mapping.{Mapping}
use Rattle.lost_spec.specs.Book.{Book, Identity, Edit, Publish, Replace, Withdraw, identity_of, has_identity, replaced, without, mappings_after, refusal, changed, after}
use Rattle.lost_spec.specs.BookLaws.{edited, others, UntouchedStay, ReplacementKeepsIdentities}
use Rattle.lost_spec.proofs.FilterLemmas.{filter_drops, find-filter}
use Rattle.lost_spec.proofs.IdentityLemmas.{has_identity-Decides}

-- a mapping of an identity is not among the others
is_no_other : (m : Mapping) (id : Identity) → has_identity m id ≡ true → not (has_identity m id) ≡ false
is_no_other m id same = ap not same

own_identity : (m : Mapping) → has_identity m (identity_of m) ≡ true
own_identity m = (has_identity-Decides m (identity_of m)).1 refl

-- ---- the others after each kind of edit

others-publish : (m : Mapping) (ms : List Mapping) → others (identity_of m) (ms ++ m ∷ []) ≡ others (identity_of m) ms
others-publish m [] = filter_drops (λ n. not (has_identity n (identity_of m))) m [] (is_no_other m (identity_of m) (own_identity m))
others-publish m (x ∷ ms) = ap (λ rest. if not (has_identity x (identity_of m)) then x ∷ rest else rest) (others-publish m ms)

others-replaced : (m : Mapping) (ms : List Mapping) → others (identity_of m) (replaced m ms) ≡ others (identity_of m) ms
others-replaced m [] = refl
others-replaced m (x ∷ ms) = by (has_identity x (identity_of m)) refl (others-replaced m ms)
  where
    by : (b : Bool) → has_identity x (identity_of m) ≡ b → others (identity_of m) (replaced m ms) ≡ others (identity_of m) ms
        → others (identity_of m) (if b then m ∷ ms else x ∷ replaced m ms) ≡ others (identity_of m) (x ∷ ms)
    by true e rest =
        filter_drops (λ n. not (has_identity n (identity_of m))) m ms (is_no_other m (identity_of m) (own_identity m))
        ∙ sym (filter_drops (λ n. not (has_identity n (identity_of m))) x ms (is_no_other x (identity_of m) e))
    by false e rest = ap (λ kept. if not (has_identity x (identity_of m)) then x ∷ kept else kept) rest

others-without : (id : Identity) (ms : List Mapping) → others id (without id ms) ≡ others id ms
others-without id [] = refl
others-without id (x ∷ ms) = by (has_identity x id) refl (others-without id ms)
  where
    by : (b : Bool) → has_identity x id ≡ b → others id (without id ms) ≡ others id ms → others id (if b then ms else x ∷ without id ms) ≡ others id (x ∷ ms)
    by true e rest = sym (filter_drops (λ n. not (has_identity n id)) x ms (is_no_other x id e))
    by false e rest = ap (λ kept. if not (has_identity x id) then x ∷ kept else kept) rest

others-mappings_after : (ms : List Mapping) (e : Edit) → others (edited e) (mappings_after ms e) ≡ others (edited e) ms
others-mappings_after ms (Publish m) = others-publish m ms
others-mappings_after ms (Replace m) = others-replaced m ms
others-mappings_after ms (Withdraw id stamp) = others-without id ms

others-after : (b : Book) (e : Edit) → others (edited e) (after b e).mappings ≡ others (edited e) b.mappings
others-after b e = by (is_none (refusal b e))
  where
    by : (accepted : Bool) → others (edited e) (if accepted then changed b e else b).mappings ≡ others (edited e) b.mappings
    by true = others-mappings_after b.mappings e
    by false = refl

-- what has one identity is among the others of another one
is_other : (id own : Identity) → id ≢ own → (m : Mapping) → has_identity m id ≡ true → not (has_identity m own) ≡ true
is_other id own differ m same =
    let its : identity_of m ≡ id = (has_identity-Decides m id).0 same in
    ap not (false_from_ne_true (has_identity m own) (λ t. differ (sym its ∙ (has_identity-Decides m own).0 t)))

-- the law `UntouchedStay`
pub untouched_stay_lem : UntouchedStay
untouched_stay_lem b e = record {
  others_stay = others-after b e;
  held_stay = λ id differ.
      let among = is_other id (edited e) differ in
      sym (find-filter (λ m. has_identity m id) (λ m. not (has_identity m (edited e))) among (after b e).mappings)
      ∙ ap (find (λ m. has_identity m id)) (others-after b e)
      ∙ find-filter (λ m. has_identity m id) (λ m. not (has_identity m (edited e))) among b.mappings;
}

-- ---- the identities after a replacement

identities-replaced : (m : Mapping) (ms : List Mapping) → map identity_of (replaced m ms) ≡ map identity_of ms
identities-replaced m [] = refl
identities-replaced m (x ∷ ms) = by (has_identity x (identity_of m)) refl (identities-replaced m ms)
  where
    by : (b : Bool) → has_identity x (identity_of m) ≡ b → map identity_of (replaced m ms) ≡ map identity_of ms
        → map identity_of (if b then m ∷ ms else x ∷ replaced m ms) ≡ map identity_of (x ∷ ms)
    by true e rest = ap (λ id. id ∷ map identity_of ms) (sym ((has_identity-Decides x (identity_of m)).0 e))
    by false e rest = ap (λ ids. identity_of x ∷ ids) rest

-- the law `ReplacementKeepsIdentities`
pub replacement_keeps_identities_lem : ReplacementKeepsIdentities
replacement_keeps_identities_lem b m = by (is_none (refusal b (Replace m)))
  where
    by : (accepted : Bool) → map identity_of (if accepted then changed b (Replace m) else b).mappings ≡ map identity_of b.mappings
    by true = identities-replaced m b.mappings
    by false = refl

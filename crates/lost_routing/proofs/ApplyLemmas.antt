-- That numbers stay below the edition, edit by edit.
use Rattle.std.proofs.Common.{◌≡◌, ℕ, zero, suc, ◌+◌, ◌*◌, ◌<◌, ◌≤◌, List, [], ◌∷◌, ◌++◌, take, drop, Bool, true, false, cond, Option, None, Some, Result, Ok, Err, OnOk, nat_le, slice_set, refl, sym, ap, subst, ◌^◌, ◌∙◌, arith}
use Rattle.std.specs.List.{AllByRecursion, remove}
use Rattle.std.specs.declared.alloc.AllocError.{AllocError}
use Rattle.lost_spec.specs.declared.faults.EditError.TheVariants.{EditsSpent}
use Rattle.lost_spec.specs.Moment.{Stamp}
use Rattle.lost_spec.specs.Book.{Book, Limits, Trace, Identity, replaced, is_spent, publish_refusal, replace_refusal, withdraw_refusal}
use Rattle.lost_routing.specs.Store.{Stored, with_mapping_at}
use Rattle.std.proofs.lemmas.Bool.Decides.{nat_tests}
use Rattle.lost_spec.specs.Mapping.{Mapping}
use Rattle.lost_routing.specs.Invariants.{IsNew, IsOfEdit, IsRouted}
use Rattle.lost_routing.proofs.SplitLemmas.{all_join, all_map}

one_more : (e k : ℕ) → k < e * 64 → k < (e + 1) * 64
one_more e k below = omega arith

pub new_next : (e : ℕ) (ns : List ℕ) → IsNew (e * 64) ns → IsNew ((e + 1) * 64) ns
new_next e ns new = all_map (λ k. k < e * 64) (λ k. k < (e + 1) * 64) ns (one_more e) new

pub new_put : (e n : ℕ) (ns : List ℕ) → IsOfEdit n e → IsNew (e * 64) ns → IsNew ((e + 1) * 64) (ns ++ n ∷ [])
new_put e n ns of new = all_join (λ k. k < (e + 1) * 64) ns (n ∷ []) (new_next e ns new) (of.high, tt)

at_least : (e n k : ℕ) → e * 64 ≤ n → k < e * 64 → k < n
at_least e n k low below = omega arith

-- a number of the next edit is above all
pub new_of_edit : (e n : ℕ) (ns : List ℕ) → IsOfEdit n e → IsNew (e * 64) ns → IsNew n ns
new_of_edit e n ns of new = all_map (λ k. k < e * 64) (λ k. k < n) ns (λ k. at_least e n k of.low) new

all_take : (P : ℕ → Type 0) (ns : List ℕ) (i : ℕ) → AllByRecursion P ns → AllByRecursion P (take i ns)
all_take P ns zero all = tt
all_take P [] (suc i) all = tt
all_take P (n ∷ ns) (suc i) all = (all.0, all_take P ns i all.1)

all_drop : (P : ℕ → Type 0) (ns : List ℕ) (i : ℕ) → AllByRecursion P ns → AllByRecursion P (drop i ns)
all_drop P ns zero all = all
all_drop P [] (suc i) all = tt
all_drop P (n ∷ ns) (suc i) all = all_drop P ns i all.1

pub new_removed : (e i : ℕ) (ns : List ℕ) → IsNew e ns → IsNew e (remove ns i)
new_removed e i ns new =
    all_join (λ k. k < e) (take i ns) (drop (suc i) ns)
    (all_take (λ k. k < e) ns i new) (all_drop (λ k. k < e) ns (suc i) new)

-- a book after one more edit, whose number is of the edits before it, or which keeps the numbers below
pub routed_put : (limits : Limits) (ms : List Mapping) (ts : List Trace) (e n : ℕ) (ns now : List ℕ) → e < limits.edits → limits.edits < 2 ^ 32 → IsOfEdit n e
    → IsNew (e * 64) ns → now ≡ ns ++ n ∷ [] → IsRouted (record { limits = limits; mappings = ms; traces = ts; edits = e + 1 }) now
routed_put limits ms ts e n ns now within bound of new put = record {
  counted = record { edits = omega arith; limit = bound };
  below = subst (IsNew ((e + 1) * 64)) (sym put) (new_put e n ns of new);
}

pub routed_next : (limits : Limits) (ms : List Mapping) (ts : List Trace) (e : ℕ) (now : List ℕ) → e < limits.edits → limits.edits < 2 ^ 32 → IsNew (e * 64) now
    → IsRouted (record { limits = limits; mappings = ms; traces = ts; edits = e + 1 }) now
routed_next limits ms ts e now within bound new = record {
  counted = record { edits = omega arith; limit = bound };
  below = new_next e now new;
}

-- ---- an edit that is not refused is within the limit

none_some : {F : Type 0} (e : F) → None ≡ Some e → ⊥
none_some e h = cc

unspent : {F : Type 0} (spent : Bool) (e : F) (rest : Option F) → None ≡ cond spent (Some e) rest → spent ≡ false
unspent true e rest h = absurd (none_some e h)
unspent false e rest h = refl

not_at : (limit edits : ℕ) → nat_le limit edits ≡ false → edits < limit
not_at limit edits h = search (arith, nat_tests)

pub within_publish : (b : Book) (m : Mapping) → None ≡ publish_refusal b m → b.edits < b.limits.edits
within_publish b m h = not_at b.limits.edits b.edits (unspent (is_spent b) EditsSpent _ h)

pub within_replace : (b : Book) (m : Mapping) → None ≡ replace_refusal b m → b.edits < b.limits.edits
within_replace b m h = not_at b.limits.edits b.edits (unspent (is_spent b) EditsSpent _ h)

pub within_withdraw : (b : Book) (id : Identity) (stamp : Stamp) → None ≡ withdraw_refusal b id stamp → b.edits < b.limits.edits
within_withdraw b id stamp h = not_at b.limits.edits b.edits (unspent (is_spent b) EditsSpent _ h)

-- ---- the mapping of an identity

pub ok_replaced : (result : Result (Unit {0}) AllocError) (m : Mapping) (old new : Stored) (i : ℕ) → slice_set old.mappings i m ≡ replaced m old.mappings
    → OnOk result (new ≡ with_mapping_at i m old) → OnOk result (new.mappings ≡ replaced m old.mappings)
ok_replaced (Ok x) m old new i same changed = ap (λ k. k.mappings) changed ∙ same
ok_replaced (Err x) m old new i same changed = tt

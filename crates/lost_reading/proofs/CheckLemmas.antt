-- A refusal that is found before memory is taken, and the order that it refuses.
use Rattle.std.proofs.Common.{◌≡◌, Bool, true, false, if◌then◌else◌, Some, None, Result, Ok, Err, IfErr, subst}
use Rattle.std.specs.Result.{result_err}

pub Err-from_refusal : {Made Fault : Type 0} (meant : Result Made Fault) (fault : Fault) → Some fault ≡ result_err meant → meant ≡ Err fault
Err-from_refusal (Ok made) fault is = cc
Err-from_refusal (Err other) fault is = cc

pub IfErr-from_refusal : {Made Other Fault : Type 0} (meant : Result Made Fault) (answer : Result Other Fault) (fault : Fault) → answer ≡ Err fault → Some fault ≡ result_err meant → IfErr meant (λ e. answer ≡ Err e)
IfErr-from_refusal (Ok made) answer fault refused is = tt
IfErr-from_refusal (Err other) answer fault refused is = cc

pub IfErr-accepted : {Made Fault : Type 0} (meant : Result Made Fault) (P : Fault → Type 0) → None ≡ result_err meant → IfErr meant P
IfErr-accepted (Ok made) P is = tt
IfErr-accepted (Err fault) P is = absurd (cc)

-- a call that passes a refusal on
pub passed_on : {Made Line Order Fault : Type 0} (meant : Result Order Fault) (found : Result Made Fault) (answer : Result Line Fault)
    → ((fault : Fault) → found ≡ Err fault → answer ≡ Err fault) → IfErr meant (λ fault. found ≡ Err fault) → IfErr meant (λ fault. answer ≡ Err fault)
passed_on (Ok order) found answer passes h = tt
passed_on (Err fault) found answer passes h = passes fault h

-- the refusal of the order that a test chose
pub IfErr-then : {Order Fault : Type 0} (test : Bool) (first other : Result Order Fault) (P : Fault → Type 0) → true ≡ test → IfErr first P → IfErr (if test then first else other) P
IfErr-then test first other P is h = subst (λ b. IfErr (if b then first else other) P) is h

pub IfErr-else : {Order Fault : Type 0} (test : Bool) (first other : Result Order Fault) (P : Fault → Type 0) → false ≡ test → IfErr other P → IfErr (if test then first else other) P
IfErr-else test first other P is h = subst (λ b. IfErr (if b then first else other) P) is h

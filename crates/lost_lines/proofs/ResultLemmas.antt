-- Lemmas on clauses of results.
use Rattle.std.proofs.Common.{Result, Ok, Err, OnOk}

-- two facts on `Ok` give a third
pub on_ok_both : {T E P Q R : Type 0} (r : Result T E) → (P → Q → R) → OnOk r P → OnOk r Q → OnOk r R
on_ok_both (Ok x) f p q = f p q
on_ok_both (Err e) f p q = tt

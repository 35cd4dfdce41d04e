use Rattle.std.proofs.Common.{◌≡◌, ◌<◌, ◌+◌, rules, arith}
use Rattle.lost_server.specs.declared.order.OnRefusal.TheVariants.{Stop}
use Rattle.lost_server.proofs.MapLemmas.{whole_map}
use Rattle.lost_server.proofs.map.load_map.Goals as goal
use Rattle.lost_server.proofs.map.load_map.Goals.{else-eq-via-then-eq+else-pending-gt0, else-eq-via-else-eq, then-found-gt0, else-found-gt0}

pub returns-then-pending-gt0-clause-faults : goal.returns-then-pending-gt0-clause-faults
returns-then-pending-gt0-clause-faults g c =
    let stop : c.args.on_refusal ≡ Stop = search rules in
    let some : 0 < c.in_ok-found.found.refused + c.pending-pending.result = elim c.if-found-gt0.branch [ then-found-gt0 w ↦ omega arith | else-found-gt0 w ↦ omega arith ] in
    (stop, record { lines = c.in_ok-found.found.lines; answered = c.in_ok-found.ensures.answered; pending_are = c.pending-pending.ensures; is_some = some })

pub returns-in-Ok-clause-whole : goal.returns-in-Ok-clause-whole
returns-in-Ok-clause-whole g c = λ stop.
    let none : (c.in_ok-found.found.refused ≡ 0) × (c.pending-pending.result ≡ 0) = elim c.else-eq.branch [
      | else-eq-via-then-eq+else-pending-gt0 w ↦ elim w.if-found-gt0.branch [ then-found-gt0 v ↦ absurd (omega arith) | else-found-gt0 v ↦ (omega arith, omega arith) ]
      | else-eq-via-else-eq w ↦ absurd (search rules)
    ] in
    whole_map _ _ c.read_map.new.desk _ c.in_ok-found.found c.in_ok-found.ensures.answered none.0 c.pending-pending.result c.pending-pending.ensures none.1 c.in-Ok.ensures.dropped

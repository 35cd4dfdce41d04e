use Rattle.std.proofs.Common.{Option, None, Some}
use Rattle.std.specs.Prelude.{OnSome}
use Rattle.lost_tape.proofs.PartLemmas.{not_desk_find, not_desk_services_at}
use Rattle.lost_tape.proofs.requests.read_named.Goals as goal

on_some : {A P : Type 0} (o : Option A) → P → OnSome o P
on_some None p = tt
on_some (Some a) p = p

pub returns-then-eq-clause-no_desk_name : goal.returns-then-eq-clause-no_desk_name
returns-then-eq-clause-no_desk_name c = on_some c.read_find_service.result (not_desk_find c.args.name.now (cc))

pub returns-then-eq-2-clause-no_desk_name : goal.returns-then-eq-2-clause-no_desk_name
returns-then-eq-2-clause-no_desk_name c = on_some c.read_services_at.result (not_desk_services_at c.args.name.now (cc))

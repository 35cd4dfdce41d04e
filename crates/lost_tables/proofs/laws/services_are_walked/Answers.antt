-- A list that a look-up finds is that of a row.
use Rattle.std.specs.Prelude.{string_bytes}
use Rattle.lost_spec.specs.Service.{service_text}
use Rattle.lost_tables.proofs.WalkLemmas.{found_in_rows}
use Rattle.lost_tables.proofs.laws.services_are_walked.Goals as goal

pub returns : goal.returns
returns c = record {
  walked = λ tables service number listed. found_in_rows (λ k. string_bytes k) (service_text service) number tables.services.entries listed;
}

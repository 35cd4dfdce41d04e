use Rattle.std.proofs.Common.{refl}
use Rattle.lost_writing.proofs.TokenLemmas.{when_ok}
use Rattle.lost_writing.proofs.writing.mappings.boundary_member.Goals as goal

pub returns-in_ok-name-in-ByValue : goal.returns-in_ok-name-in-ByValue
returns-in_ok-name-in-ByValue c =
    when_ok c.write_regions_of.result c.write_regions_of.ensures (λ ended. rw (c.in-ByValue.is, ended, c.in_ok-name-in-ByValue.ensures, c.regions.ensures.regions) refl)

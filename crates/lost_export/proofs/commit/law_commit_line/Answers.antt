use Rattle.std.proofs.Common.{refl}
use Rattle.std.specs.Str.{is_utf8, chars}
use Rattle.serde_json.proofs.OnLiterals.{serde_json_on_literals}
use Rattle.lost_reading.specs.Members.{tree_of}
use Rattle.lost_reading.specs.Desk.{desk_line}
use Rattle.lost_export.proofs.commit.law_commit_line.Goals as goal

pub returns-clause-reads_back : goal.returns-clause-reads_back
unfolding desk_line tree_of is_utf8 chars serde_json_on_literals
returns-clause-reads_back c = refl

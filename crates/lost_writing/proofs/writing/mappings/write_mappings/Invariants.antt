use Rattle.std.proofs.Common.{◌≡◌, map, take}
use Rattle.lost_mapping.specs.Reply.{shown_with}
use Rattle.lost_writing.specs.Replies.{shown_data}
use Rattle.lost_writing.specs.Tokens.{then_values}
use Rattle.lost_writing.proofs.writing.mappings.write_mappings.Given as goal

abbrev pub invariant-loop-mapping : goal.invariant-loop-mapping
invariant-loop-mapping l = l.text ≡ then_values (map (λ m. shown_data (shown_with l.boundary m)) (take l.mapping-index l.mappings)) l.initial.text

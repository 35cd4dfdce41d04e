use Rattle.std.proofs.Common.{◌≡◌, length, map}
use Rattle.lost_spec.specs.Text.{has_repeat}
use Rattle.lost_mapping.specs.Texts.{schemes_of}
use Rattle.lost_mapping.proofs.uris.repeats_scheme.Given as goal

abbrev pub invariant-loop-uri : goal.invariant-loop-uri
invariant-loop-uri g l = has_repeat (schemes_of (map g.T.PartItems.uri_of l.uris)) ≡ has_repeat (schemes_of (map g.T.PartItems.uri_of l.rest))

abbrev pub decreases-loop-uri : goal.decreases-loop-uri
decreases-loop-uri g l = length l.rest

-- What the test keeps are the numbers that tell a marked class.
use Rattle.std.proofs.Common.{◌%◌, rules}
use Rattle.std.proofs.lemmas.Fn.{filter_same}
use Rattle.lost_routing.specs.Classes.{has_class}
use Rattle.lost_routing.proofs.classes.Classes.keep.Goals as goal

pub returns : goal.returns
returns c = filter_same _ (λ number. has_class c.args.self.now (number % 64)) _ (λ x b f' k. search rules) _ _ c.retain.ensures.filtered

use Rattle.std.proofs.Common.{◌≡◌, ◌∙◌, rules, tests}
use Rattle.std.specs.Cow.{cow_str_bytes}
use Rattle.std.specs.List.{list_any}
use Rattle.std.proofs.lemmas.Iterator.{YieldsList-from_slice}
use Rattle.std.proofs.lemmas.Iterator.Search.{any_from_yields_List}
use Rattle.lost_spec.specs.Text.{same_ignoring_case}
use Rattle.lost_mapping.proofs.FoldLemmas.{list_any-map}
use Rattle.lost_mapping.proofs.path.Path.is_loop.Goals as goal

pub returns : goal.returns
returns c =
    let direct : c.any.result ≡ list_any (λ text. same_ignoring_case c.args.self.now.server.now (cow_str_bytes text)) c.args.self.now.names.now = any_from_yields_List (λ text. same_ignoring_case c.args.self.now.server.now (cow_str_bytes text)) _ _ c.any.result c.any.ensures.ran (YieldsList-from_slice c.args.self.now.names.now (cc)) (λ x b q k. search (rules, tests)) in
    direct ∙ list_any-map cow_str_bytes (same_ignoring_case c.args.self.now.server.now) c.args.self.now.names.now

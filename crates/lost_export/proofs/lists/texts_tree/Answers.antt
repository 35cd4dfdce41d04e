use Rattle.std.proofs.Common.{◌≡◌, IfOk, string_bytes, subst}
use Rattle.serde_json.specs.Data.{string}
use Rattle.serde_json.specs.View.{view}
use Rattle.lost_writing.proofs.ListLemmas.{list_data-map}
use Rattle.lost_export.proofs.lists.texts_tree.Goals as goal

pub returns : goal.returns
returns c = subst (λ list. IfOk c.list_tree.result (λ tree. view tree ≡ list)) (list_data-map string string_bytes c.args.texts.now) c.list_tree.ensures

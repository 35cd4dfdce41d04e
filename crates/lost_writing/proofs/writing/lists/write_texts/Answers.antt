use Rattle.std.proofs.Common.{◌≡◌, OnOk, string_bytes, subst}
use Rattle.serde_json.specs.Data.{string}
use Rattle.lost_writing.specs.Tokens.{then_value}
use Rattle.lost_writing.proofs.ListLemmas.{list_data-map}
use Rattle.lost_writing.proofs.writing.lists.write_texts.Goals as goal

pub returns : goal.returns
returns c =
    subst (λ list. OnOk c.write_list.result (c.write_list.new.text ≡ then_value list c.args.text.now)) (list_data-map string string_bytes c.args.texts.now) c.write_list.ensures

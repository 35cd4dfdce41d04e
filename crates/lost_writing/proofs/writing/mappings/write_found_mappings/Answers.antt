use Rattle.std.proofs.Common.{◌∷◌, ◌∙◌, map, ap}
use Rattle.lost_spec.specs.Mapping.{Mapping}
use Rattle.lost_mapping.specs.Reply.{shown_with}
use Rattle.lost_writing.specs.Replies.{shown_data}
use Rattle.lost_writing.specs.Tokens.{then_value}
use Rattle.lost_writing.proofs.ListLemmas.{list_data-map}
use Rattle.lost_writing.proofs.TokenLemmas.{list_written, when_ok}
use Rattle.lost_writing.proofs.writing.mappings.write_found_mappings.Goals as goal

pub returns : goal.returns
returns c =
    let found = c.args.found.now in
    let mappings = found.first ∷ found.rest.items in
    let before = c.args.text.now in
    let written = list_written (map (λ (m : Mapping). shown_data (shown_with found.boundary m)) mappings) before ∙ ap (λ list. then_value list before) (list_data-map shown_data (shown_with found.boundary) mappings) in
    when_ok c.end_list.result c.end_list.ensures (λ ended. rw (ended, c.in_ok-write_mappings.ensures, c.in_ok-write_mapping.ensures, c.in_ok-begin_list.ensures, c.deref.ensures.value) written)

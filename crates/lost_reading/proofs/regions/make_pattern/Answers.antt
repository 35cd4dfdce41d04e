use Rattle.std.proofs.Common.{◌≡◌, ◌∙◌, ◌&&◌, true, false, length, sym, ap, ℕ}
use Rattle.std.specs.List.{list_all}
use Rattle.lost_spec.specs.Text.{is_between}
use Rattle.lost_reading.specs.TreeParts.{is_pattern_entry}
use Rattle.lost_reading.proofs.PatternLemmas.{is_region-entries}
use Rattle.lost_reading.proofs.regions.make_pattern.Goals as goal

pub returns-then-is_pattern_count : goal.returns-then-is_pattern_count
returns-then-is_pattern_count c =
    let entries = c.args.pairs.now.entries in
    let counted : true ≡ is_between 1 128 (length entries) = c.if-is_pattern_count.ensures ∙ ap (λ (n : ℕ). is_between 1 128 n) c.len.ensures.len in
    c.each_is_taken.ensures ∙ (ap (λ right. right && list_all is_pattern_entry entries) counted ∙ sym (is_region-entries entries c.len.ensures.ordered))

pub returns-else-is_pattern_count : goal.returns-else-is_pattern_count
returns-else-is_pattern_count c =
    let entries = c.args.pairs.now.entries in
    let counted : false ≡ is_between 1 128 (length entries) = c.if-is_pattern_count.ensures ∙ ap (λ (n : ℕ). is_between 1 128 n) c.len.ensures.len in
    c.if-is_pattern_count.false ∙ (ap (λ right. right && list_all is_pattern_entry entries) counted ∙ sym (is_region-entries entries c.len.ensures.ordered))

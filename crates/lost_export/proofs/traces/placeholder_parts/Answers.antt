use Rattle.std.proofs.Common.{◌∷◌, [], string_bytes, sym, ap, ◌∙◌}
use Rattle.lost_spec.specs.Text.{lowered}
use Rattle.lost_spec.specs.Mapping.{parts_fault, mapping_of}
use Rattle.lost_location.specs.Region.{regions_of}
use Rattle.lost_mapping.specs.Texts.{texts_of}
use Rattle.lost_mapping.specs.Parts.{display_names_of}
use Rattle.lost_export.proofs.PlaceholderLemmas.{parts_are, placeholder_accepted, placeholder_made}
use Rattle.lost_export.proofs.traces.placeholder_parts.Goals as goal

pub returns : goal.returns
returns c =
    let identity = c.args.identity.now in
    let source = c.text-source.ensures.text ∙ c.source.ensures.value in
    let parts =
    parts_are identity (string_bytes c.in_ok-from_str.field-0) (string_bytes c.in_ok-from_str-2.field-0) (string_bytes c.in_ok-from_str-3.field-0) (string_bytes c.in_ok-from_str-4.field-0) (string_bytes c.in_ok-from_str-5.field-0)
    (texts_of c.in_ok-vec.field-0.items) (regions_of c.new.result.items) (display_names_of c.new-2.result.items)
    (c.in_ok-from_str.ensures.ok ∙ source)
    (c.in_ok-from_str-2.ensures.ok ∙ c.source_id-source_id.ensures.text)
    c.in_ok-from_str-3.ensures.ok c.in_ok-from_str-4.ensures.ok c.in_ok-from_str-5.ensures.ok
    (ap texts_of c.in_ok-vec.ensures.items ∙ ap (λ text. text ∷ []) c.in_ok-from_str-6.ensures.ok)
    (ap regions_of c.new.ensures.items)
    (ap display_names_of c.new-2.ensures.items) in
    record {
      accepted = ap parts_fault parts ∙ placeholder_accepted identity c.source.ensures.well_formed c.source_id-source_id.ensures.well_formed;
      mapping = ap mapping_of parts ∙ placeholder_made identity (ap lowered (sym c.source.ensures.value) ∙ c.text-source.ensures.lower ∙ c.source.ensures.value);
    }

-- What a `Reply` of the code stands for.
use Rattle.std.specs.Prelude.{if◌then◌else◌, List, ◌∷◌, map, option_map}
use Rattle.lost_spec.specs.Place.{of_kind}
use Rattle.lost_spec.specs.Mapping.{Mapping}
use Rattle.lost_spec.specs.Request as spec
use Rattle.lost_spec.specs.Answer.{reference_of}
use Rattle.lost_spec.specs.Validation as judged
use Rattle.lost_mapping.specs.Texts.{texts_of}
use Rattle.lost_mapping.specs.declared.reply.Boundary.{Boundary}
use Rattle.lost_mapping.specs.declared.reply.Boundary.TheVariants.{ByReference, ByValue}
use Rattle.lost_mapping.specs.declared.reply.Reply.{Reply}
use Rattle.lost_mapping.specs.declared.reply.Reply.TheVariants.{FindServiceResponse, ListServicesByLocationResponse, ListServicesResponse, GetServiceBoundaryResponse, Errors, BadRequest, InternalError}
use Rattle.lost_mapping.specs.declared.reply.FoundMappings.{FoundMappings}
use Rattle.lost_mapping.specs.declared.reply.Validation.{Validation}
use Rattle.lost_mapping.specs.Path.{shown_path}

-- the boundary of a kind that a mapping is shown with (RFC 5222, sections 5.5 and 5.6)
abbrev pub boundary_of : Boundary → Mapping → spec.Boundary
boundary_of ByReference m = reference_of m.key m.source
boundary_of (ByValue kind) m = spec.ByValue (of_kind kind m.regions)

-- a mapping as a reply shows it, with the boundary of a kind, and with none where it is a default (RFC 5222, section 8.4.1)
abbrev pub shown_with : Boundary → Mapping → spec.ShownMapping
shown_with boundary m = record { mapping = m; boundary = if m.is_default then spec.NoBoundary else boundary_of boundary m }

abbrev pub all_shown_of : FoundMappings → List spec.ShownMapping
all_shown_of found = map (shown_with found.boundary) (found.first ∷ found.rest.items)

-- names of an address's elements (RFC 5222, section 8.4.2)
abbrev pub validation_of : Validation → judged.Validation
validation_of validation = record {
  invalid = texts_of validation.invalid.items;
  unchecked = texts_of validation.unchecked.items;
  valid = texts_of validation.valid.items;
}

-- the replies (RFC 5222, sections 8.4, 9 to 11 and 13.1)
abbrev pub reply_of : Reply → spec.Reply
reply_of (FindServiceResponse edition location_used validation mappings path warnings) =
    spec.FindServiceResponse edition location_used.now (option_map validation_of validation) (all_shown_of mappings) (shown_path path) warnings.items
reply_of (ListServicesByLocationResponse edition location_used path services) =
    spec.ListServicesByLocationResponse edition location_used.now (shown_path path) services.items
reply_of (ListServicesResponse edition path services) = spec.ListServicesResponse edition (shown_path path) services.items
reply_of (GetServiceBoundaryResponse edition path mapping) = spec.GetServiceBoundaryResponse edition (shown_path path) mapping.regions
reply_of (Errors edition error) = spec.Errors edition error
reply_of BadRequest = spec.BadRequest
reply_of InternalError = spec.InternalError

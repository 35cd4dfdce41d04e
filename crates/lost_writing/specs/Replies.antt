-- Reply lines: the tree that each reply is written as. (RFC 5222, sections 8.4, 9 to 11 and 13; own format.)
use Rattle.std.specs.Prelude.{List, [], ◌∷◌, ◌++◌, Option, Some, None, option_map, codes}
use Rattle.serde_json.specs.Data.{Data, number, string, object, unsigned, no_members, member}
use Rattle.serde_json.specs.Written.{compact_text}
use Rattle.lost_spec.specs.declared.answers.AnswerError.{AnswerError}
use Rattle.lost_spec.specs.declared.answers.AnswerError.TheVariants.{Loop, LocationProfileUnrecognized, SrsInvalid, LocationInvalid, NotFound, ServiceNotImplemented}
use Rattle.lost_spec.specs.declared.answers.Warning.{Warning}
use Rattle.lost_spec.specs.declared.answers.Warning.TheVariants.{ServiceSubstitution, DefaultMappingReturned, LocationValidationUnavailable}
use Rattle.lost_spec.specs.Text.{Text}
use Rattle.lost_spec.specs.Service.{Service, service_text}
use Rattle.lost_spec.specs.Validation.{Validation}
use Rattle.lost_spec.specs.Request.{Reply, FindServiceResponse, ListServicesByLocationResponse, ListServicesResponse, GetServiceBoundaryResponse, Errors, BadRequest, InternalError}
pub use Rattle.lost_mapping.specs.Shown.{list_data, texts_data, member_if, position_data, polygon_data, put_pairs, pattern_data, token_set_data, regions_data, expires_text, display_name_data, display_names_data, value_data, reference_data, mapping_data, shown_data}

-- ---- pieces

-- an object with one member
abbrev pub one_member : Text → Data → Data
one_member name value = object (member name value no_members)

-- ---- names (RFC 5222, sections 13.1 and 13.2)

abbrev pub error_name : AnswerError → Text
error_name Loop = codes "loop"
error_name LocationProfileUnrecognized = codes "locationProfileUnrecognized"
error_name SrsInvalid = codes "SRSInvalid"
error_name LocationInvalid = codes "locationInvalid"
error_name NotFound = codes "notFound"
error_name ServiceNotImplemented = codes "serviceNotImplemented"

abbrev pub warning_name : Warning → Text
warning_name ServiceSubstitution = codes "serviceSubstitution"
warning_name DefaultMappingReturned = codes "defaultMappingReturned"
warning_name LocationValidationUnavailable = codes "locationValidationUnavailable"

-- warnings, left out where there are none
abbrev pub warnings_data : List Warning → Option Data
warnings_data [] = None
warnings_data (warning ∷ warnings) = Some (list_data (λ w. string (warning_name w)) (warning ∷ warnings))

-- ---- replies

-- the names of an address's elements (RFC 5222, section 8.4.2)
abbrev pub validation_data : Validation → Data
validation_data judged =
    object (member (codes "invalid") (texts_data judged.invalid)
    (member (codes "unchecked") (texts_data judged.unchecked)
    (member (codes "valid") (texts_data judged.valid) no_members)))

abbrev pub services_data : List Service → Data
services_data services = list_data (λ s. string (service_text s)) services

abbrev pub error_data : Text → Data
error_data name = one_member (codes "errors") (one_member (codes "error") (string name))

abbrev pub reply_data : Reply → Data
reply_data (FindServiceResponse edition location_used judged mappings path warnings) =
    one_member (codes "findServiceResponse") (object
    (member (codes "edition") (number (unsigned edition))
    (member (codes "locationUsed") (string location_used)
    (member_if (codes "locationValidation") (option_map validation_data judged)
    (member (codes "mapping") (list_data shown_data mappings)
    (member (codes "path") (texts_data path)
    (member_if (codes "warnings") (warnings_data warnings) no_members)))))))
reply_data (ListServicesByLocationResponse edition location_used path services) =
    one_member (codes "listServicesByLocationResponse") (object
    (member (codes "edition") (number (unsigned edition))
    (member (codes "locationUsed") (string location_used)
    (member (codes "path") (texts_data path)
    (member (codes "serviceList") (services_data services) no_members)))))
reply_data (ListServicesResponse edition path services) =
    one_member (codes "listServicesResponse") (object
    (member (codes "edition") (number (unsigned edition))
    (member (codes "path") (texts_data path)
    (member (codes "serviceList") (services_data services) no_members))))
reply_data (GetServiceBoundaryResponse edition path regions) =
    one_member (codes "getServiceBoundaryResponse") (object
    (member (codes "edition") (number (unsigned edition))
    (member (codes "path") (texts_data path)
    (member (codes "serviceBoundary") (regions_data regions) no_members))))
reply_data (Errors edition error) =
    one_member (codes "errors") (object
    (member (codes "edition") (number (unsigned edition))
    (member (codes "error") (string (error_name error)) no_members)))
reply_data BadRequest = error_data (codes "badRequest")
reply_data InternalError = error_data (codes "internalError")

-- the line of a tree: its compact text, and byte 10
abbrev pub line_of : Data → Text
line_of value = compact_text value ++ 10 ∷ []

-- the line of a reply
unfoldable pub reply_text : Reply → Text
reply_text reply = line_of (reply_data reply)

-- The kinds of replies, by which they are counted. (RFC 5222, sections 8.4, 9 to 11 and 13.1; the counting is own.)
use Rattle.std.specs.Prelude.{ℕ, codes}
use Rattle.lost_spec.specs.Text.{Text}
use Rattle.lost_spec.specs.Request as spec
use Rattle.lost_spec.specs.declared.answers.AnswerError.{AnswerError}
use Rattle.lost_spec.specs.declared.answers.AnswerError.TheVariants as error
use Rattle.lost_writing.specs.Replies.{error_name}
use Rattle.lost_status.specs.declared.reply_kind.ReplyKind.{ReplyKind}
use Rattle.lost_status.specs.declared.reply_kind.ReplyKind.TheVariants.{FindServiceResponse, ListServicesByLocationResponse, ListServicesResponse, GetServiceBoundaryResponse, Loop, LocationProfileUnrecognized, SrsInvalid, LocationInvalid, NotFound, ServiceNotImplemented, BadRequest, InternalError, Other}

-- the kind of an error
abbrev pub kind_of_error : AnswerError → ReplyKind
kind_of_error error.Loop = Loop
kind_of_error error.LocationProfileUnrecognized = LocationProfileUnrecognized
kind_of_error error.SrsInvalid = SrsInvalid
kind_of_error error.LocationInvalid = LocationInvalid
kind_of_error error.NotFound = NotFound
kind_of_error error.ServiceNotImplemented = ServiceNotImplemented

-- the kind of a reply
abbrev pub kind_of_reply : spec.Reply → ReplyKind
kind_of_reply (spec.FindServiceResponse edition location_used validation mappings path warnings) = FindServiceResponse
kind_of_reply (spec.ListServicesByLocationResponse edition location_used path services) = ListServicesByLocationResponse
kind_of_reply (spec.ListServicesResponse edition path services) = ListServicesResponse
kind_of_reply (spec.GetServiceBoundaryResponse edition path regions) = GetServiceBoundaryResponse
kind_of_reply (spec.Errors edition e) = kind_of_error e
kind_of_reply spec.BadRequest = BadRequest
kind_of_reply spec.InternalError = InternalError

-- the name of a kind: that of the reply's one member, or that of its error
abbrev pub kind_name : ReplyKind → Text
kind_name FindServiceResponse = codes "findServiceResponse"
kind_name ListServicesByLocationResponse = codes "listServicesByLocationResponse"
kind_name ListServicesResponse = codes "listServicesResponse"
kind_name GetServiceBoundaryResponse = codes "getServiceBoundaryResponse"
kind_name Loop = error_name error.Loop
kind_name LocationProfileUnrecognized = error_name error.LocationProfileUnrecognized
kind_name SrsInvalid = error_name error.SrsInvalid
kind_name LocationInvalid = error_name error.LocationInvalid
kind_name NotFound = error_name error.NotFound
kind_name ServiceNotImplemented = error_name error.ServiceNotImplemented
kind_name BadRequest = codes "badRequest"
kind_name InternalError = codes "internalError"
kind_name Other = codes "other"

-- the place of a kind among all kinds, in the order in which they are shown
abbrev pub kind_place : ReplyKind → ℕ
kind_place FindServiceResponse = 0
kind_place ListServicesByLocationResponse = 1
kind_place ListServicesResponse = 2
kind_place GetServiceBoundaryResponse = 3
kind_place Loop = 4
kind_place LocationProfileUnrecognized = 5
kind_place SrsInvalid = 6
kind_place LocationInvalid = 7
kind_place NotFound = 8
kind_place ServiceNotImplemented = 9
kind_place BadRequest = 10
kind_place InternalError = 11
kind_place Other = 12

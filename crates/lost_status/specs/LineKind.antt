-- How the kind of a line is told by a few of its bytes. (Own.)
use Rattle.std.specs.Prelude.{ℕ, ◌-◌, length, slice_index, ◌==◌, if◌then◌else◌}
use Rattle.lost_spec.specs.Text.{Text}
use Rattle.lost_status.specs.declared.reply_kind.ReplyKind.{ReplyKind}
use Rattle.lost_status.specs.declared.reply_kind.ReplyKind.TheVariants.{FindServiceResponse, ListServicesByLocationResponse, ListServicesResponse, GetServiceBoundaryResponse, Loop, LocationProfileUnrecognized, SrsInvalid, LocationInvalid, NotFound, ServiceNotImplemented, BadRequest, InternalError, Other}

-- the byte so many places before the end
abbrev pub byte_from_end : Text → ℕ → ℕ
byte_from_end line places = slice_index line (length line - places)

-- The error of a line: the names of the errors differ in their fifth letter from the end, and two of them in their eighth.
abbrev pub told_error : Text → ReplyKind
told_error line =
    if byte_from_end line 9 == 70 then NotFound
    else (if byte_from_end line 9 == 101 then ServiceNotImplemented
    else (if byte_from_end line 9 == 113 then BadRequest
    else (if byte_from_end line 9 == 110 then LocationProfileUnrecognized
    else (if byte_from_end line 9 == 69 then InternalError
    else (if byte_from_end line 9 == 34 then Loop
    else (if byte_from_end line 9 == 118 then (if byte_from_end line 12 == 83 then SrsInvalid else LocationInvalid)
    else Other))))))

-- The kind of a line: the first letter of its name tells it, and where two begin alike the letter at which they part.
abbrev pub told_kind : Text → ReplyKind
told_kind line =
    if slice_index line 2 == 102 then FindServiceResponse
    else (if slice_index line 2 == 101 then told_error line
    else (if slice_index line 2 == 103 then GetServiceBoundaryResponse
    else (if slice_index line 2 == 108 then (if slice_index line 14 == 66 then ListServicesByLocationResponse else ListServicesResponse)
    else Other)))

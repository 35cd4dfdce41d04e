-- What a few bytes tell of the line of a reply.
use Rattle.std.proofs.Common.{◌≡◌, ℕ, ◌+◌, ◌-◌, ◌≤◌, [], ◌∷◌, ◌++◌, length, get_or, codes, decimal, ◌==◌, if◌then◌else◌, refl, ap, sym, ◌∙◌, append_assoc, arith, length-append}
use Rattle.std.proofs.lemmas.List.{get_or-append-add}
use Rattle.serde_json.proofs.OnLiterals.{serde_json_on_literals}
use Rattle.lost_spec.specs.Text.{Text}
use Rattle.lost_spec.specs.Request.{Reply, FindServiceResponse, ListServicesByLocationResponse, ListServicesResponse, GetServiceBoundaryResponse, Errors, BadRequest, InternalError}
use Rattle.lost_spec.specs.declared.answers.AnswerError.{AnswerError}
use Rattle.lost_spec.specs.declared.answers.AnswerError.TheVariants.{Loop, LocationProfileUnrecognized, SrsInvalid, LocationInvalid, NotFound, ServiceNotImplemented}
use Rattle.lost_writing.specs.Replies.{error_name, reply_text}
use Rattle.lost_status.specs.declared.reply_kind.ReplyKind.{ReplyKind}
use Rattle.lost_status.specs.declared.reply_kind.ReplyKind.TheVariants as kind
use Rattle.lost_status.specs.ReplyKind.{kind_of_error, kind_of_reply}
use Rattle.lost_status.specs.LineKind.{byte_from_end, told_error, told_kind}

-- a byte near the end is that of the last part
byte_from_end-append : (front tail : Text) (places : ℕ) → places ≤ length tail → byte_from_end (front ++ tail) places ≡ byte_from_end tail places
byte_from_end-append front tail places within =
    let place : length (front ++ tail) - places ≡ length front + (length tail - places) = omega (arith, length-append front tail, within) in
    ap (λ k. get_or (front ++ tail) k 0) place ∙ get_or-append-add front tail (length tail - places) 0

-- how the line of an error ends
ending : AnswerError → Text
ending e = codes ",\"error\":\"" ++ (error_name e ++ codes "\"}}" ++ 10 ∷ [])

-- what an error's line begins with
opening : ℕ → Text
opening edition = codes "{\"errors\":{\"edition\":" ++ decimal edition

-- the line of an error is its opening and its ending
error_line : (edition : ℕ) (e : AnswerError) → reply_text (Errors edition e) ≡ opening edition ++ ending e
unfolding reply_text serde_json_on_literals opening ending
error_line edition Loop = simp append_assoc
error_line edition LocationProfileUnrecognized = simp append_assoc
error_line edition SrsInvalid = simp append_assoc
error_line edition LocationInvalid = simp append_assoc
error_line edition NotFound = simp append_assoc
error_line edition ServiceNotImplemented = simp append_assoc

-- the error that two bytes tell
told_by : ℕ → ℕ → ReplyKind
told_by fifth eighth =
    if fifth == 70 then kind.NotFound
    else (if fifth == 101 then kind.ServiceNotImplemented
    else (if fifth == 113 then kind.BadRequest
    else (if fifth == 110 then kind.LocationProfileUnrecognized
    else (if fifth == 69 then kind.InternalError
    else (if fifth == 34 then kind.Loop
    else (if fifth == 118 then (if eighth == 83 then kind.SrsInvalid else kind.LocationInvalid)
    else kind.Other))))))

told_by_bytes : (line : Text) → told_error line ≡ told_by (byte_from_end line 9) (byte_from_end line 12)
unfolding told_by
told_by_bytes line = refl

-- each ending has these bytes
long_enough : (e : AnswerError) → 12 ≤ length (ending e)
unfolding ending
long_enough Loop = omega arith
long_enough LocationProfileUnrecognized = omega arith
long_enough SrsInvalid = omega arith
long_enough LocationInvalid = omega arith
long_enough NotFound = omega arith
long_enough ServiceNotImplemented = omega arith

told_alone : (e : AnswerError) → told_error (ending e) ≡ kind_of_error e
unfolding ending
told_alone Loop = refl
told_alone LocationProfileUnrecognized = refl
told_alone SrsInvalid = refl
told_alone LocationInvalid = refl
told_alone NotFound = refl
told_alone ServiceNotImplemented = refl

-- how a line ends tells its error
told_ending : (front : Text) (e : AnswerError) → told_error (front ++ ending e) ≡ kind_of_error e
told_ending front e =
    let fifth = byte_from_end-append front (ending e) 9 (omega (arith, long_enough e)) in
    let eighth = byte_from_end-append front (ending e) 12 (long_enough e) in
    told_by_bytes (front ++ ending e)
    ∙ (ap (λ b. told_by b (byte_from_end (front ++ ending e) 12)) fifth
    ∙ (ap (told_by (byte_from_end (ending e) 9)) eighth
    ∙ (sym (told_by_bytes (ending e)) ∙ told_alone e)))

told_error_line : (edition : ℕ) (e : AnswerError) → told_kind (reply_text (Errors edition e)) ≡ kind_of_error e
unfolding opening
told_error_line edition e = ap told_kind (error_line edition e) ∙ told_ending (opening edition) e

-- the bytes tell the kind of each reply
pub told_reply : (reply : Reply) → told_kind (reply_text reply) ≡ kind_of_reply reply
unfolding reply_text serde_json_on_literals
told_reply (FindServiceResponse edition location_used validation mappings path warnings) = refl
told_reply (ListServicesByLocationResponse edition location_used path services) = refl
told_reply (ListServicesResponse edition path services) = refl
told_reply (GetServiceBoundaryResponse edition path regions) = refl
told_reply (Errors edition e) = told_error_line edition e
told_reply BadRequest = refl
told_reply InternalError = refl

-- Requests and replies, as data.
use Rattle.std.specs.Prelude.{ℕ, Bool, List, Option}
use Rattle.lost_spec.specs.declared.answers.AnswerError.{AnswerError}
use Rattle.lost_spec.specs.declared.answers.Warning.{Warning}
use Rattle.lost_spec.specs.Text.{Text}
use Rattle.lost_spec.specs.Service.{Service}
use Rattle.lost_spec.specs.Place.{Body, Regions}
use Rattle.lost_spec.specs.Mapping.{Mapping}
use Rattle.lost_spec.specs.Validation.{Validation}

-- ---- requests

-- a location of a request (RFC 5222, section 8.3.1); srs_known says that its reference system is known
pub record Location : Type 0 where
  pub id : Text
  pub profile : Text
  pub srs_known : Bool
  pub body : Body

-- the four requests (RFC 5222, sections 8 to 11)
pub data Request : Type 0 where
  FindService : (service : Service) (locations : List Location) (validate by_value : Bool) (path : List Text) → Request
  ListServicesByLocation : (service : Option Service) (locations : List Location) (path : List Text) → Request
  ListServices : (service : Option Service) (path : List Text) → Request
  GetServiceBoundary : (key : Text) (path : List Text) → Request

-- ---- replies

-- the boundary that a mapping is shown with: a key and its source, or regions, or none (RFC 5222, sections 5.5 and 5.6)
pub data Boundary : Type 0 where
  ByReference : (key source : Text) → Boundary
  ByValue : (regions : Regions) → Boundary
  NoBoundary : Boundary

-- a mapping as a reply shows it (RFC 5222, section 8.4.1)
pub record ShownMapping : Type 0 where
  pub mapping : Mapping
  pub boundary : Boundary

-- the replies (RFC 5222, sections 8.4, 9 to 11 and 13.1); each but the last two carries the number of edits that it is for
pub data Reply : Type 0 where
  FindServiceResponse : (edition : ℕ) (location_used : Text) (validation : Option Validation) (mappings : List ShownMapping) (path : List Text) (warnings : List Warning) → Reply
  ListServicesByLocationResponse : (edition : ℕ) (location_used : Text) (path : List Text) (services : List Service) → Reply
  ListServicesResponse : (edition : ℕ) (path : List Text) (services : List Service) → Reply
  GetServiceBoundaryResponse : (edition : ℕ) (path : List Text) (regions : Regions) → Reply
  Errors : (edition : ℕ) (error : AnswerError) → Reply
  BadRequest : Reply
  InternalError : Reply

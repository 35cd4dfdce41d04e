-- What a `Request` of the code stands for.
use Rattle.std.specs.Prelude.{List, ◌∷◌, map}
use Rattle.std.specs.Cow.{cow_str_bytes}
use Rattle.std.specs.declared.borrow.CowStr.{CowStr}
use Rattle.lost_spec.specs.Request as spec
use Rattle.lost_spec.specs.Text.{Text}
use Rattle.lost_location.specs.Body.{body_of}
use Rattle.lost_mapping.specs.declared.request.Location.{Location}
use Rattle.lost_mapping.specs.declared.request.Locations.{Locations}
use Rattle.lost_mapping.specs.declared.request.Request.{Request}
use Rattle.lost_mapping.specs.declared.request.Request.TheVariants.{FindService, ListServicesByLocation, ListServices, GetServiceBoundary}

-- a location of a request (RFC 5222, section 8.3.1)
abbrev pub location_of : Location → spec.Location
location_of location = record {
  id = cow_str_bytes location.id;
  profile = cow_str_bytes location.profile;
  srs_known = location.srs_known;
  body = body_of location.body;
}

-- the locations of a request, in their order (RFC 5222, section 8.3.1)
abbrev pub locations_of : Locations → List spec.Location
locations_of locations = location_of locations.first ∷ map location_of locations.rest.items

-- the names of a path, in their order (RFC 5222, section 6)
abbrev pub path_names : {A : Type 0} → List (CowStr A) → List Text
path_names names = map cow_str_bytes names

-- the four requests (RFC 5222, sections 8 to 11)
abbrev pub request_of : Request → spec.Request
request_of (FindService service locations validate by_value path) = spec.FindService service (locations_of locations) validate by_value (path_names path.items)
request_of (ListServicesByLocation service locations path) = spec.ListServicesByLocation service (locations_of locations) (path_names path.items)
request_of (ListServices service path) = spec.ListServices service (path_names path.items)
request_of (GetServiceBoundary key path) = spec.GetServiceBoundary (cow_str_bytes key) (path_names path.items)

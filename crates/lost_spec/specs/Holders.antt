-- The place of a request, the set of a place (which mappings hold it, live or not), and what is kept of it.
use Rattle.std.specs.Prelude.{◌≡◌, ℕ, ◌≤◌, not, ◌&&◌, if◌then◌else◌, List, [], length, take, Option, None, Some}
use Rattle.lost_spec.specs.Text.{Text}
use Rattle.lost_spec.specs.Positions.{positions}
use Rattle.lost_spec.specs.Place.{Place, kind_of, has_system, place_in}
use Rattle.lost_spec.specs.Find.{holds}
use Rattle.lost_spec.specs.Book.{Limits, Book, Edit, book_of}
use Rattle.lost_spec.specs.Request.{Location, Request, FindService, ListServicesByLocation, ListServices, GetServiceBoundary}
use Rattle.lost_spec.specs.Answer.{location_used, path_of, is_loop}

-- the locations of a request; two kinds have none (RFC 5222, sections 8 to 11)
abbrev pub locations_in : Request → List Location
locations_in (FindService service locations validate by_value path) = locations
locations_in (ListServicesByLocation service locations path) = locations
locations_in (ListServices service path) = []
locations_in (GetServiceBoundary key path) = []

-- the place of a location, unless its reference system is not known or its body is no place of its profile (RFC 5222, section 12)
abbrev pub place_at : Option Location → Option Place
place_at None = None
place_at (Some location) =
    if has_system (kind_of location.profile) && not location.srs_known then None
    else place_in (kind_of location.profile) location.body

-- the place of the location used by the server of this name; none for a loop, and none where the locations are refused (RFC 5222; order own)
abbrev pub place_used : Text → Request → Option Place
place_used name request = if is_loop name (path_of request) then None else place_at (location_used (locations_in request))

-- the rising positions of the mappings that hold a place, live or not (own)
abbrev pub holders_of : Book → Place → List ℕ
holders_of b l = positions (λ m. holds m l) b.mappings

-- what is kept of a place: an edition, and the set of the place (own)
pub record Entry : Type 0 where
  pub edition : ℕ
  pub place : Place
  pub set : List ℕ

-- an entry is right for a book: if it is of the book's edition, its set is that of the book
abbrev pub IsRightIn : Book → Entry → Type 0
IsRightIn b e = e.edition ≡ b.edits → e.set ≡ holders_of b e.place

-- an entry is right for a list of edits: the edition is within the list, and the set is that of the book of its first so many edits (own)
pub record IsRightFor (limits : Limits) (es : List Edit) (e : Entry) : Type 0 where
  pub within : e.edition ≤ length es
  pub set : e.set ≡ holders_of (book_of limits (take e.edition es)) e.place

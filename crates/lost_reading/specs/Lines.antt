-- What the reader of whole lines gives: an order of the desk, a request, or neither. (Own.)
use Rattle.std.specs.Prelude.{◌≡◌, ◌≢◌, Option, Some, None, Result, Ok, Err}
use Rattle.lost_spec.specs.declared.faults.MappingError.TheVariants.{Memory as WantOfMemory}
use Rattle.lost_spec.specs.Request as spec
use Rattle.lost_mapping.specs.Request.{request_of}
use Rattle.lost_reading.specs.declared.desk.DeskFault.{DeskFault}
use Rattle.lost_reading.specs.declared.desk.DeskFault.TheVariants.{Mapping as MappingFault}
use Rattle.lost_reading.specs.declared.line.Line.{Line}
use Rattle.lost_reading.specs.declared.line.Line.TheVariants.{Desk, Request, Neither}
use Rattle.lost_reading.specs.Desk.{Order}
use Rattle.lost_reading.specs.DeskLines.{order_of}

-- a line with this order or its refusal, where it is a desk line, and this request, where it is one; want of memory says nothing
abbrev pub GivesWhole : Result Line DeskFault → Option (Result Order DeskFault) → Option spec.Request → Type 0
GivesWhole (Ok (Desk line)) order request = order ≡ Some (Ok (order_of line))
GivesWhole (Ok (Request asked)) order request = (order ≡ None) × (request ≡ Some (request_of asked))
GivesWhole (Ok Neither) order request = (order ≡ None) × (request ≡ None)
GivesWhole (Err fault) order request = fault ≢ MappingFault WantOfMemory → order ≡ Some (Err fault)

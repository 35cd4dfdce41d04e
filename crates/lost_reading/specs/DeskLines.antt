-- What a `DeskLine` of the code stands for, and what the readers of desk lines give.
use Rattle.std.specs.Prelude.{◌≡◌, ◌≢◌, Option, Some, None, Result, Ok, Err}
use Rattle.lost_spec.specs.declared.faults.MappingError.TheVariants.{Memory as WantOfMemory}
use Rattle.lost_mapping.specs.Edit.{edit_of}
use Rattle.lost_reading.specs.declared.desk.DeskFault.{DeskFault}
use Rattle.lost_reading.specs.declared.desk.DeskFault.TheVariants.{BadLine, Mapping as MappingFault}
use Rattle.lost_reading.specs.declared.desk.DeskLine.{DeskLine}
use Rattle.lost_reading.specs.declared.desk.DeskLine.TheVariants.{Edit as KeptEdit, Commit as KeptCommit}
use Rattle.lost_reading.specs.declared.request.ReadError.{ReadError}
use Rattle.lost_reading.specs.declared.request.ReadError.TheVariants.{BadRequest, Memory}
use Rattle.lost_reading.specs.Desk.{Order, Stage, Commit}

-- what a desk line orders
abbrev pub order_of : DeskLine → Order
order_of (KeptEdit edit) = Stage (edit_of edit)
order_of KeptCommit = Commit

-- a member that is missing or of another kind makes a bad line
abbrev pub fault_of : ReadError → DeskFault
fault_of BadRequest = BadLine
fault_of Memory = MappingFault WantOfMemory

-- what was read is what is meant, an order or its refusal; want of memory says nothing
abbrev pub GivesOrder : Result DeskLine DeskFault → Result Order DeskFault → Type 0
GivesOrder (Ok line) meant = meant ≡ Ok (order_of line)
GivesOrder (Err fault) meant = fault ≢ MappingFault WantOfMemory → meant ≡ Err fault

-- the same, where a line may be no desk line
abbrev pub GivesLine : Result (Option DeskLine) DeskFault → Option (Result Order DeskFault) → Type 0
GivesLine (Ok None) meant = meant ≡ None
GivesLine (Ok (Some line)) meant = meant ≡ Some (Ok (order_of line))
GivesLine (Err fault) meant = fault ≢ MappingFault WantOfMemory → meant ≡ Some (Err fault)

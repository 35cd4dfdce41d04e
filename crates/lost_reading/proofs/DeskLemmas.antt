-- What a desk line orders, by what its tree orders.
use Rattle.std.proofs.Common.{◌≡◌, ◌≢◌, Option, Some, None, Result, Ok, Err, IfOk, IfErr, IfSome, ◌∙◌}
use Rattle.lost_spec.specs.declared.faults.MappingError.TheVariants.{Memory}
use Rattle.lost_reading.specs.Desk.{Order}
use Rattle.lost_reading.specs.DeskLines.{order_of, GivesLine}
use Rattle.lost_reading.specs.declared.desk.DeskFault.{DeskFault}
use Rattle.lost_reading.specs.declared.desk.DeskFault.TheVariants.{Mapping}
use Rattle.lost_reading.specs.declared.desk.DeskLine.{DeskLine}

pub other-from_line : (found : Result (Option DeskLine) DeskFault) (meant given : Option (Result Order DeskFault)) → given ≡ meant → GivesLine found meant
    → found ≡ Ok None → given ≡ None
other-from_line (Ok None) meant given same h e = same ∙ h
other-from_line (Ok (Some line)) meant given same h e = cc
other-from_line (Err fault) meant given same h e = cc

pub order-from_line : (found : Result (Option DeskLine) DeskFault) (meant given : Option (Result Order DeskFault)) → given ≡ meant → GivesLine found meant
    → IfOk found (λ line. IfSome line (λ order. given ≡ Some (Ok (order_of order))))
order-from_line (Ok None) meant given same h = tt
order-from_line (Ok (Some line)) meant given same h = same ∙ h
order-from_line (Err fault) meant given same h = tt

pub refused-from_line : (found : Result (Option DeskLine) DeskFault) (meant given : Option (Result Order DeskFault)) → given ≡ meant → GivesLine found meant
    → IfErr found (λ fault. fault ≢ Mapping Memory → given ≡ Some (Err fault))
refused-from_line (Ok None) meant given same h = tt
refused-from_line (Ok (Some line)) meant given same h = tt
refused-from_line (Err fault) meant given same h = λ other. same ∙ h other

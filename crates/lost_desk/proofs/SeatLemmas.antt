-- A reader's seat goes with the list that the reader has seen, also once that list is longer.
use Rattle.std.proofs.Common.{◌≡◌, Option, None, Some, sym, ◌∙◌}
use Rattle.lost_spec.specs.Laws.{BeginsWith}
use Rattle.lost_history.specs.History.{Beginning}
use Rattle.lost_history.proofs.Beginnings.{begins_trans}
use Rattle.lost_desk.specs.declared.view.View.{View}
use Rattle.lost_desk.specs.States.{IsReader}

pub still_reader : {Seat : Type 0} (at : Seat → View) (seat : Option Seat) (old new : Beginning) → new.opening ≡ old.opening → BeginsWith new.list old.list → IsReader at seat old → IsReader at seat new
still_reader at None old new same longer is = absurd is
still_reader at (Some seat) old new same longer is = record {
  known = is.known;
  opening = is.opening ∙ sym same;
  begins = begins_trans (at seat).front.list old.list new.list longer is.begins;
}

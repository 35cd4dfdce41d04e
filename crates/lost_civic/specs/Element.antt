-- The civic elements: where each stands in the table of names, and its name.
use Rattle.std.specs.Prelude.{ℕ, List, [], ◌∷◌, slice_index_or}
use Rattle.lost_spec.specs.Text.{Text}
use Rattle.lost_spec.specs.Civic.{element_names}
use Rattle.lost_civic.specs.declared.elements.Element.{Element}
use Rattle.lost_civic.specs.declared.elements.Element.TheVariants.{Country, A1, A2, A3, A4, A5, A6, Prm, Prd, Rd, Sts, Pod, Pom, RdSec, RdBr, RdSubBr, Hno, Hns, Lmk, Loc, Flr, Nam, Pc, Bld, UnitNumber, Room, Seat, Plc, Pcn, PoBox, AddCode}

-- the place of an element in the table of names, from 0
abbrev pub element_index : Element → ℕ
element_index Country = 0
element_index A1 = 1
element_index A2 = 2
element_index A3 = 3
element_index A4 = 4
element_index A5 = 5
element_index A6 = 6
element_index Prm = 7
element_index Prd = 8
element_index Rd = 9
element_index Sts = 10
element_index Pod = 11
element_index Pom = 12
element_index RdSec = 13
element_index RdBr = 14
element_index RdSubBr = 15
element_index Hno = 16
element_index Hns = 17
element_index Lmk = 18
element_index Loc = 19
element_index Flr = 20
element_index Nam = 21
element_index Pc = 22
element_index Bld = 23
element_index UnitNumber = 24
element_index Room = 25
element_index Seat = 26
element_index Plc = 27
element_index Pcn = 28
element_index PoBox = 29
element_index AddCode = 30

-- the name of an element, which the table has at its place
unfoldable pub element_name : Element → Text
element_name element = slice_index_or element_names (element_index element) []

-- the elements in the order of the table
abbrev pub all_elements : List Element
all_elements =
    Country ∷ A1 ∷ A2 ∷ A3 ∷ A4 ∷ A5 ∷ A6
    ∷ Prm ∷ Prd ∷ Rd ∷ Sts ∷ Pod ∷ Pom ∷ RdSec ∷ RdBr ∷ RdSubBr
    ∷ Hno ∷ Hns ∷ Lmk ∷ Loc ∷ Flr
    ∷ Nam ∷ Pc ∷ Bld ∷ UnitNumber ∷ Room ∷ Seat ∷ Plc ∷ Pcn ∷ PoBox ∷ AddCode ∷ []

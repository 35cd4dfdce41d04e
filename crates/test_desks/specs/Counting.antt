-- What a counting keeper keeps. (Own.)
use Rattle.std.specs.Prelude.{◌≡◌, Option, None, Some}
use Rattle.lost_spec.specs.Holders.{Entry}
use Rattle.lost_location.specs.Place.{place_of}
use Rattle.lost_desk.specs.Sets.{entry}
use Rattle.test_desks.specs.declared.counting.Kept.{Kept}

-- an entry is the one that is kept
abbrev pub IsTheOne : Option Kept → Entry → Type 0
IsTheOne None e = ⊥
IsTheOne (Some kept) e = e ≡ entry kept.edition (place_of kept.place) kept.set.items

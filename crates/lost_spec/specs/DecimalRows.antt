-- Positions as decimal text, row by row. (Own.)
use Rattle.std.specs.Prelude.{◌≡◌, Some, None, [], ◌∷◌, ◌++◌, pos, negsuc, codes}
use Rattle.lost_spec.specs.Decimal.{decimal}

-- signs, digits behind the point that are filled up to seven, spaces, and numbers that are in no range
abbrev pub DecimalTexts : Type 0
DecimalTexts =
    (decimal (codes "0.5 0.5") ≡ Some (pos 5_000_000, pos 5_000_000))
    × (decimal (codes "0.5 -0.0000001") ≡ Some (pos 5_000_000, negsuc 0))
    × (decimal (codes "-0.5 0") ≡ Some (negsuc 4_999_999, pos 0))
    × (decimal (codes "-90 180") ≡ Some (negsuc 899_999_999, pos 1_800_000_000))
    × (decimal (codes "-0 0") ≡ Some (pos 0, pos 0))
    × (decimal (codes "0  180.0000000") ≡ Some (pos 0, pos 1_800_000_000))
    × (decimal (codes "90.0000001 0") ≡ Some (pos 900_000_001, pos 0))
    × (decimal (codes "007.25 -999.9999999") ≡ Some (pos 72_500_000, negsuc 9_999_999_998))

-- what spells no position
abbrev pub NoDecimals : Type 0
NoDecimals =
    (decimal [] ≡ None)
    × (decimal (codes "0") ≡ None)
    × (decimal (codes "0 ") ≡ None)
    × (decimal (codes " 0 0") ≡ None)
    × (decimal (codes "0 0 ") ≡ None)
    × (decimal (codes "0 0 0") ≡ None)
    × (decimal (codes "0" ++ 9 ∷ codes "0") ≡ None)
    × (decimal (codes "- 0") ≡ None)
    × (decimal (codes "--1 0") ≡ None)
    × (decimal (codes "+1 0") ≡ None)
    × (decimal (codes ".5 0") ≡ None)
    × (decimal (codes "-.5 0") ≡ None)
    × (decimal (codes "1. 0") ≡ None)
    × (decimal (codes "1e1 0") ≡ None)
    × (decimal (codes "0001 0") ≡ None)
    × (decimal (codes "0.50000000 0") ≡ None)
    × (decimal (codes "0.5.5 0") ≡ None)
    × (decimal (codes "0,5 0") ≡ None)

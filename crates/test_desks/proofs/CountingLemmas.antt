-- What keeps nothing keeps what is right.
use Rattle.std.proofs.Common.{◌≡◌, Option, None, List}
use Rattle.lost_spec.specs.Book.{Limits, Edit}
use Rattle.lost_desk.specs.Sets.{AreRightFor}
use Rattle.test_desks.specs.declared.counting.Kept.{Kept}
use Rattle.test_desks.specs.Counting.{IsTheOne}

pub nothing_is_right : (limits : Limits) (es : List Edit) (kept : Option Kept) → kept ≡ None → AreRightFor (IsTheOne kept) limits es
nothing_is_right limits es kept none = λ e k. absurd (rw none at k)

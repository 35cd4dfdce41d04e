-- What a reader of the code gives, by what a definition says. (Own.)
use Rattle.std.specs.Prelude.{◌≡◌, ℕ, Option, Some, None, Result, Ok, Err}
use Rattle.lost_reading.specs.declared.request.ReadError.{ReadError}
use Rattle.lost_reading.specs.declared.request.ReadError.TheVariants.{BadRequest, Memory}

-- the numbers of the refusals
abbrev pub read_code : ReadError → ℕ
read_code BadRequest = 1
read_code Memory = 2

-- a refusal says that there is nothing; want of memory says nothing
abbrev pub Refuses : {Thing : Type 0} → ReadError → Option Thing → Type 0
Refuses BadRequest meant = meant ≡ None
Refuses Memory meant = Unit {0}

-- what was read, as it is seen, is what is meant
abbrev pub Gives : {Kept Seen : Type 0} → (Kept → Seen) → Result Kept ReadError → Option Seen → Type 0
Gives seen (Ok kept) meant = meant ≡ Some (seen kept)
Gives seen (Err error) meant = Refuses error meant

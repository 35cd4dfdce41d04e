-- The numbers of the refusals, as the desk's lines and the tables show them. (Own.)
use Rattle.std.specs.Prelude.{ℕ}
use Rattle.lost_spec.specs.declared.faults.UrnError.{UrnError}
use Rattle.lost_spec.specs.declared.faults.UrnError.TheVariants.{Prefix, EmptyLabel, BadCharacter, HyphenAtEnd, LabelTooLong, TooManyLabels, Memory as UrnMemory}
use Rattle.lost_spec.specs.declared.faults.GeoError.{GeoError}
use Rattle.lost_spec.specs.declared.faults.GeoError.TheVariants.{Latitude, Longitude}
use Rattle.lost_spec.specs.declared.faults.RingError.{RingError}
use Rattle.lost_spec.specs.declared.faults.RingError.TheVariants.{TooShort, NotClosed, TooLong}
use Rattle.lost_spec.specs.declared.faults.CivicError.{CivicError}
use Rattle.lost_spec.specs.declared.faults.CivicError.TheVariants.{NoKnownElement, Repeated, TooLong as CivicTooLong, Memory as CivicMemory, UnknownElement}
use Rattle.lost_spec.specs.declared.faults.SourceError.{SourceError}
use Rattle.lost_spec.specs.declared.faults.SourceError.TheVariants.{Bad as SourceBad, Memory as SourceMemory}
use Rattle.lost_spec.specs.declared.faults.StampError.{StampError}
use Rattle.lost_spec.specs.declared.faults.StampError.TheVariants.{Bad as StampBad, Memory as StampMemory}
use Rattle.lost_spec.specs.declared.faults.TokenError.{TokenError}
use Rattle.lost_spec.specs.declared.faults.TokenError.TheVariants.{Bad as TokenBad, Memory as TokenMemory}
use Rattle.lost_spec.specs.declared.faults.MappingError.{MappingError}
use Rattle.lost_spec.specs.declared.faults.MappingError.TheVariants.{BadSource, BadSourceId, BadStamp, BadExpires, BadService, BadUri, BadNumber, BadRegion, RegionMissing, TooLarge, BadKey, Memory as MappingMemory}
use Rattle.lost_spec.specs.declared.faults.EditError.{EditError}
use Rattle.lost_spec.specs.declared.faults.EditError.TheVariants.{IdentityHeld, IdentityUnknown, NotNewer, KeyHeld, KeyUnchanged, Full, EditsSpent, Memory as EditMemory, Withdrawn, TracesFull}

-- why a text is no service URN
abbrev pub urn_code : UrnError → ℕ
urn_code Prefix = 1
urn_code EmptyLabel = 2
urn_code BadCharacter = 3
urn_code HyphenAtEnd = 4
urn_code LabelTooLong = 5
urn_code TooManyLabels = 6
urn_code UrnMemory = 7

-- why two numbers are no point
abbrev pub geo_code : GeoError → ℕ
geo_code Latitude = 1
geo_code Longitude = 2

-- why a list of points is no ring
abbrev pub ring_code : RingError → ℕ
ring_code TooShort = 1
ring_code NotClosed = 2
ring_code TooLong = 3

-- why a list of pairs is no address or no pattern
abbrev pub civic_code : CivicError → ℕ
civic_code NoKnownElement = 1
civic_code Repeated = 2
civic_code CivicTooLong = 3
civic_code CivicMemory = 4
civic_code UnknownElement = 5

-- why a text is no source
abbrev pub source_code : SourceError → ℕ
source_code SourceBad = 1
source_code SourceMemory = 2

-- why a text is no stamp
abbrev pub stamp_code : StampError → ℕ
stamp_code StampBad = 1
stamp_code StampMemory = 2

-- why a text is no token, or a list of tokens no token set
abbrev pub token_code : TokenError → ℕ
token_code TokenBad = 1
token_code TokenMemory = 2

-- why parts are no mapping
abbrev pub mapping_code : MappingError → ℕ
mapping_code BadSource = 2
mapping_code BadSourceId = 3
mapping_code BadStamp = 4
mapping_code BadExpires = 5
mapping_code BadService = 6
mapping_code BadUri = 7
mapping_code BadNumber = 8
mapping_code BadRegion = 9
mapping_code RegionMissing = 10
mapping_code TooLarge = 11
mapping_code BadKey = 12
mapping_code MappingMemory = 20

-- why a book refuses an edit
abbrev pub edit_code : EditError → ℕ
edit_code IdentityHeld = 13
edit_code IdentityUnknown = 14
edit_code NotNewer = 15
edit_code KeyHeld = 16
edit_code KeyUnchanged = 17
edit_code Full = 18
edit_code EditsSpent = 19
edit_code EditMemory = 20
edit_code Withdrawn = 21
edit_code TracesFull = 22

-- What an `Expires` of the code stands for.
use Rattle.lost_mapping.specs.declared.expires.Expires.{Expires as Kept}
use Rattle.lost_mapping.specs.declared.expires.Expires.TheVariants.{NoCache as KeptNoCache, NoExpiration as KeptNoExpiration, At as KeptAt}
use Rattle.lost_spec.specs.Mapping.{Expires, NoCache, NoExpiration, At}

-- when a mapping ceases to be live (RFC 5222, section 5.2)
abbrev pub expires_seen : Kept → Expires
expires_seen KeptNoCache = NoCache
expires_seen KeptNoExpiration = NoExpiration
expires_seen (KeptAt stamp) = At stamp

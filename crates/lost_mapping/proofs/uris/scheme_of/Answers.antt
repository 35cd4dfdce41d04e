use Rattle.lost_mapping.proofs.UriLemmas.{scheme_of_found, scheme_of_unfound}
use Rattle.lost_mapping.proofs.uris.scheme_of.Goals as goal

pub returns-in-Some : goal.returns-in-Some
returns-in-Some c = scheme_of_found c.args.uri.now c.in-Some.end c.in-Some.ensures

pub returns-in-None : goal.returns-in-None
returns-in-None c = scheme_of_unfound c.args.uri.now c.in-None.ensures

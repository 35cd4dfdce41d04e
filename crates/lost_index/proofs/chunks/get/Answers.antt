-- The number stands in its chunk or nowhere.
use Rattle.std.proofs.Common.{◌<◌, length, nat_eq, ap, sym, subst, arith, rules, ◌∙◌}
use Rattle.std.specs.Map.{lookup}
use Rattle.lost_index.specs.Chunks.{AreRising}
use Rattle.lost_index.proofs.ChunkLemmas.{rising_in, lookup_here, not_found_in_all}
use Rattle.lost_index.proofs.chunks.get.Goals as goal

pub get_in-requires : goal.get_in-requires
get_in-requires g c =
    let within : c.chunk_of.result < length c.args.chunks.now = search (rules, arith) in
    subst AreRising (ap (λ chunk. chunk.items) (sym c.in-Some.ensures.lookup.1) ∙ sym c.deref.ensures.value)
    (rising_in c.args.chunks.now c.chunk_of.result c.in-Some.chunk.now within c.requires.rising)

pub returns-in-Some : goal.returns-in-Some
returns-in-Some g c =
    let within : c.chunk_of.result < length c.args.chunks.now = search (rules, arith) in
    c.get_in.ensures ∙ ap (lookup (nat_eq c.args.number)) (c.deref.ensures.value ∙ ap (λ chunk. chunk.items) c.in-Some.ensures.lookup.1)
    ∙ sym (lookup_here c.args.number c.args.chunks.now c.chunk_of.result c.in-Some.chunk.now c.requires.rising c.chunk_of.ensures within)

pub returns-in-None : goal.returns-in-None
returns-in-None g c = not_found_in_all c.args.number c.args.chunks.now c.chunk_of.result c.requires.rising c.chunk_of.ensures c.in-None.ensures.lookup.0

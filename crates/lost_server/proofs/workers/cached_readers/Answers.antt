use Rattle.std.proofs.Common.{rules, ◌≡◌, [], ◌∷◌, ◌++◌, ◌∙◌}
use Rattle.std.proofs.lemmas.List.Elements.{All-push}
use Rattle.lost_spec.specs.Laws.{BeginsWith}
use Rattle.lost_server.proofs.workers.cached_readers.Goals as goal

pub loop-number-preserved : goal.loop-number-preserved
loop-number-preserved g c =
    let grown : c.push.new.self.items ≡ c.loop-number.cached.items ++ c.in-Ok-with_hasher.reader ∷ [] = search rules in
    let told : BeginsWith c.in-Ok-with_hasher.reader.seen c.args.desk.now.published = search rules in (
      c.told_reader.ensures.readers ∙ c.loop-number.invariant.0,
      c.told_reader.ensures.desk ∙ c.loop-number.invariant.1,
      rw grown (All-push (λ reader. BeginsWith reader.seen c.args.desk.now.published) c.loop-number.cached.items c.in-Ok-with_hasher.reader c.loop-number.invariant.2 told),
    )

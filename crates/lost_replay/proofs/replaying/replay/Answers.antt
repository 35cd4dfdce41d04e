use Rattle.std.proofs.Common.{◌≡◌, ℕ, Bool, true, false}
use Rattle.lost_replay.proofs.ReplayLemmas.{replay_outcome}
use Rattle.lost_replay.proofs.replaying.replay.Goals as goal

-- what `NoGate` says: each line is let through
abbrev always : ℕ → Bool → Type 0
always line answer = answer ≡ true

-- so it refuses none
always_lets : (line : ℕ) → always line false → ⊥
always_lets line refused = absurd (cc)

pub returns-clause-outcome : goal.returns-clause-outcome
returns-clause-outcome g c =
    replay_outcome c.args.name.now c.args.moment.now always _ c.run_lines.new.answerer c.in-Ok.ensures.name_is c.in-Ok.ensures.moment_is c.in-Ok.ensures.books_are always_lets _ _ c.run_lines.result c.run_lines.ensures.outcome

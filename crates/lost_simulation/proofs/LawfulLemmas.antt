-- The lists of a history are lawful.
use Rattle.std.proofs.Common.{◌≡◌, ◌≢◌, ℕ, suc, ◌≤◌, ◌<◌, ◌⊎◌, Bool, true, false, cond, List, [], ◌∷◌, length, take, Option, Some, None, refl, sym, ap, subst, ◌∙◌, ⊎_elim, arith}
use Rattle.std.specs.Prelude.{nat_lt, nat_le, ◌==◌}
use Rattle.std.proofs.lemmas.Bool.{cond_both, cond-true, cond-false, cases_eq, cases_lt, ltb-true, lt-ltb, le-leb, lt-leb, eqb-true}
use Rattle.std.proofs.lemmas.Option.{none-some}
use Rattle.lost_spec.specs.Book.{Edit}
use Rattle.lost_spec.specs.Laws.{BeginsWith}
use Rattle.lost_desk.specs.Seen.{DeskSeen, ReaderSeen}
use Rattle.lost_core.specs.World.{Step, Enter, Tell, Entered, Told}
use Rattle.lost_core.proofs.FrontLemmas.{begins_self, grows, one_of_two}
use Rattle.lost_core.proofs.WorldLemmas.{front_length}
use Rattle.lost_simulation.specs.Crew.{Setting, Crew, Call, TakesEdit, RefusesEdit, Commits, Drops, Fails, Tells, Learns, Replies, GivesNone, IsOfReader, Gives, Turn, crew_after, IsHistory}
use Rattle.lost_simulation.specs.Run.{RunStep, arrival, arrival_at}
use Rattle.lost_simulation.specs.Law.{crew_at, seen_in, step_of_call, step_at_call, CallsAreLawful}
use Rattle.lost_simulation.proofs.DeskLemmas.{front_taken}
use Rattle.lost_simulation.proofs.LawLemmas.{opened, all_calls, same_begins}

-- ---- one call

-- a crew follows another: what is published and what each worker has seen only grow
record Follows (old new : Crew) : Type 0 where
  published : BeginsWith new.desk.published old.desk.published
  seen : (worker : ℕ) → BeginsWith (new.reader worker).seen (old.reader worker).seen

same_begin : (xs ys : List Edit) → ys ≡ xs → BeginsWith ys xs
same_begin xs ys same = subst (λ (l : List Edit). BeginsWith l xs) (sym same) (begins_self xs)

by_desk : (old new : Crew) → ((worker : ℕ) → new.reader worker ≡ old.reader worker) → BeginsWith new.desk.published old.desk.published → Follows old new
by_desk old new readers published = record {
  published = published;
  seen = λ worker. same_begin (old.reader worker).seen (new.reader worker).seen (ap (λ (r : ReaderSeen). r.seen) (readers worker));
}

same_desk : (old new : Crew) → ((worker : ℕ) → new.reader worker ≡ old.reader worker) → new.desk ≡ old.desk → Follows old new
same_desk old new readers same = by_desk old new readers (same_begin old.desk.published new.desk.published (ap (λ (d : DeskSeen). d.published) same))

by_reader : (setting : Setting) (old new : Crew) (worker : ℕ) → IsOfReader setting old new worker → BeginsWith (new.reader worker).seen (old.reader worker).seen → Follows old new
by_reader setting old new worker own begins = record {
  published = same_begin old.desk.published new.desk.published (ap (λ (d : DeskSeen). d.published) own.same_desk);
  seen = λ other.
      ⊎_elim
      (λ (same : other ≡ worker). subst (λ (k : ℕ). BeginsWith (new.reader k).seen (old.reader k).seen) (sym same) begins)
      (λ (differ : other ≢ worker). same_begin (old.reader other).seen (new.reader other).seen (ap (λ (r : ReaderSeen). r.seen) (own.others other differ)))
      (cases_eq other worker);
}

follows : (setting : Setting) (old new : Crew) (call : Call) → Gives setting old call new → Follows old new
follows setting old new (TakesEdit edit pending) given =
    by_desk old new given.0.readers (same_begin old.desk.published new.desk.published (ap (λ (d : DeskSeen). d.published) given.1.staged))
follows setting old new (RefusesEdit edit error) given = same_desk old new given.0.readers given.1.unchanged
follows setting old new (Commits edition) given = by_desk old new given.0.readers (old.desk.pending, ap (λ (d : DeskSeen). d.published) given.1.committed)
follows setting old new Drops given = by_desk old new given.0.readers (same_begin old.desk.published new.desk.published (ap (λ (d : DeskSeen). d.published) given.1))
follows setting old new Fails given = same_desk old new given.0.readers given.1
follows setting old new (Tells told) given = same_desk old new given.0 given.1.same
follows setting old new (Learns worker told) given = by_reader setting old new worker given.0 given.2.begins
follows setting old new (Replies worker t line reply) given = by_reader setting old new worker given.0 given.1.sees.begins
follows setting old new (GivesNone worker) given = by_reader setting old new worker given.0 given.1.begins

-- ---- the crew after so many calls

module _ (setting : Setting) (first : Crew) where
  -- a fact of a crew holds after so many calls, where it holds after each
  each_crew : (P : Crew → Type 0) → ((turns : List Turn) → IsHistory setting first turns → P (crew_after first turns)) → (turns : List Turn) (i : ℕ) → IsHistory setting first turns → P (crew_at first turns i)
  each_crew P all [] i history = all [] history
  each_crew P all (turn ∷ before) i history =
      cond_both (nat_le i (length before)) (crew_at first before i) turn.crew P
      (λ sooner. each_crew P all before i history.0)
      (λ last. all (turn ∷ before) history)

  at_end : (turns : List Turn) (i : ℕ) → length turns ≤ i → crew_at first turns i ≡ crew_after first turns
  at_end [] i past = refl
  at_end (turn ∷ before) i past = cond-false (nat_le i (length before)) (crew_at first before i) turn.crew (lt-leb i (length before) (omega arith))

  sooner : (turn : Turn) (before : List Turn) (i : ℕ) → i ≤ length before → crew_at first (turn ∷ before) i ≡ crew_at first before i
  sooner turn before i within = cond-true (nat_le i (length before)) (crew_at first before i) turn.crew (le-leb i (length before) within)

  -- each crew follows the one before it
  next_follows : (turns : List Turn) (i : ℕ) → IsHistory setting first turns → Follows (crew_at first turns i) (crew_at first turns (suc i))
  next_follows [] i history = same_desk first first (λ worker. refl) refl
  next_follows (turn ∷ before) i history =
      ⊎_elim
      (λ (within : i < length before).
      subst (λ (old : Crew). Follows old (crew_at first (turn ∷ before) (suc i))) (sym (sooner turn before i (omega arith)))
      (subst (λ (new : Crew). Follows (crew_at first before i) new) (sym (sooner turn before (suc i) (omega arith))) (next_follows before i history.0)))
      (λ (past : length before ≤ i).
      subst (λ (new : Crew). Follows (crew_at first (turn ∷ before) i) new) (sym (at_end (turn ∷ before) (suc i) (omega arith)))
      (cond_both (nat_le i (length before)) (crew_at first before i) turn.crew (λ (old : Crew). Follows old turn.crew)
      (λ within. subst (λ (old : Crew). Follows old turn.crew) (sym (at_end before i past)) (follows setting (crew_after first before) turn.crew turn.call history.1))
      (λ last. same_desk turn.crew turn.crew (λ worker. refl) refl)))
      (cases_lt i (length before))

seen_follows : (b : Bool) (old new : List Edit) → BeginsWith new old → BeginsWith (cond b new []) (cond b old [])
seen_follows true old new begins = begins
seen_follows false old new begins = begins_self []

-- ---- steps of workers

-- a worker that enters has seen all that is published
arrival_enters : (edition other count worker : ℕ) → Some (arrival_at edition other count).0 ≡ Some (Enter worker) → (other ≡ worker) × (count ≡ edition)
arrival_enters edition other count worker =
    cond_both (count == edition) (Enter other, Entered count) (Tell other count, Told count) (λ (last : RunStep). Some last.0 ≡ Some (Enter worker) → (other ≡ worker) × (count ≡ edition))
    (λ all is. ((cc), eqb-true count edition all))
    (λ fewer is. absurd (cc))

arrival_told : (edition other count worker told : ℕ) → Some (arrival_at edition other count).0 ≡ Some (Tell worker told) → (other ≡ worker) × (told ≡ count)
arrival_told edition other count worker told =
    cond_both (count == edition) (Enter other, Entered count) (Tell other count, Told count) (λ (last : RunStep). Some last.0 ≡ Some (Tell worker told) → (other ≡ worker) × (told ≡ count))
    (λ all is. absurd (cc))
    (λ fewer is. ((cc), (cc)))

module _ (setting : Setting) where
  -- each worker has seen a beginning of what is published
  abbrev IsSound : Crew → Type 0
  IsSound crew = (worker : ℕ) → worker < setting.workers → BeginsWith crew.desk.published (crew.reader worker).seen

  -- what a worker that exists has seen
  seen_there : (crew : Crew) (worker : ℕ) → worker < setting.workers → (crew.reader worker).seen ≡ seen_in setting crew worker
  seen_there crew worker exists = sym (cond-true (nat_lt worker setting.workers) (crew.reader worker).seen [] (lt-ltb worker setting.workers exists))

  abbrev EnteredAll : ℕ → Crew → Type 0
  EnteredAll worker crew = seen_in setting crew worker ≡ crew.desk.published

  abbrev LearnedAll : ℕ → ℕ → Crew → Type 0
  LearnedAll worker told crew = told ≤ length (seen_in setting crew worker)

  arrived_all : (old new : Crew) (other worker : ℕ) → IsOfReader setting old new other → IsSound new → Some (arrival new other).0 ≡ Some (Enter worker) → EnteredAll worker new
  arrived_all old new other worker own sound is =
      let enters = arrival_enters (length new.desk.published) other (length (new.reader other).seen) worker is in
      subst (λ (k : ℕ). EnteredAll k new) enters.0
      (sym (seen_there new other own.exists)
      ∙ same_begins new.desk.published (new.reader other).seen new.desk.published (sound other own.exists) (begins_self new.desk.published) enters.1)

  entered_all : (old new : Crew) (call : Call) (worker : ℕ) → Gives setting old call new → IsSound new → step_of_call call new ≡ Some (Enter worker) → EnteredAll worker new
  entered_all old new (TakesEdit edit pending) worker given sound is = absurd (cc)
  entered_all old new (RefusesEdit edit error) worker given sound is = absurd (cc)
  entered_all old new (Commits edition) worker given sound is = absurd (cc)
  entered_all old new Drops worker given sound is = absurd (none-some (Enter worker) is)
  entered_all old new Fails worker given sound is = absurd (none-some (Enter worker) is)
  entered_all old new (Tells told) worker given sound is = absurd (none-some (Enter worker) is)
  entered_all old new (Learns other told) worker given sound is = absurd (cc)
  entered_all old new (Replies other t line reply) worker given sound is = arrived_all old new other worker given.0 sound is
  entered_all old new (GivesNone other) worker given sound is = arrived_all old new other worker given.0 sound is

  seen_at_least : (old new : Crew) (other worker count told : ℕ) → IsOfReader setting old new other → count ≤ length (new.reader other).seen → other ≡ worker → told ≡ count → LearnedAll worker told new
  seen_at_least old new other worker count told own least same is =
      subst (λ (k : ℕ). LearnedAll k told new) same
      (subst (λ (es : List Edit). told ≤ length es) (seen_there new other own.exists) (omega arith))

  arrived_told : (old new : Crew) (other worker told : ℕ) → IsOfReader setting old new other → Some (arrival new other).0 ≡ Some (Tell worker told) → LearnedAll worker told new
  arrived_told old new other worker told own is =
      let tells = arrival_told (length new.desk.published) other (length (new.reader other).seen) worker told is in
      seen_at_least old new other worker (length (new.reader other).seen) told own (omega arith) tells.0 tells.1

  learned_all : (old new : Crew) (call : Call) (worker told : ℕ) → Gives setting old call new → step_of_call call new ≡ Some (Tell worker told) → LearnedAll worker told new
  learned_all old new (TakesEdit edit pending) worker told given is = absurd (cc)
  learned_all old new (RefusesEdit edit error) worker told given is = absurd (cc)
  learned_all old new (Commits edition) worker told given is = absurd (cc)
  learned_all old new Drops worker told given is = absurd (none-some (Tell worker told) is)
  learned_all old new Fails worker told given is = absurd (none-some (Tell worker told) is)
  learned_all old new (Tells list) worker told given is = absurd (none-some (Tell worker told) is)
  learned_all old new (Learns other list) worker told given is =
      seen_at_least old new other worker (length list.list) told given.0 (front_length list.list (new.reader other).seen given.2.has_told) (cc) (cc)
  learned_all old new (Replies other t line reply) worker told given is = arrived_told old new other worker told given.0 is
  learned_all old new (GivesNone other) worker told given is = arrived_told old new other worker told given.0 is

  -- a fact of a crew holds after a call with this step, where it holds after each such call
  each_step : (first : Crew) (step : Step) (P : Crew → Type 0) → ((before : List Turn) (turn : Turn) → IsHistory setting first (turn ∷ before) → step_of_call turn.call turn.crew ≡ Some step → P turn.crew)
      → (turns : List Turn) (i : ℕ) → IsHistory setting first turns → step_at_call turns i ≡ Some step → P (crew_at first turns i)
  each_step first step P one [] i history is = absurd (none-some step is)
  each_step first step P one (turn ∷ before) i history is =
      ⊎_elim
      (λ (past : length before < i).
      subst P (sym (cond-false (nat_le i (length before)) (crew_at first before i) turn.crew (lt-leb i (length before) past)))
      (cond_both (i == suc (length before)) (step_of_call turn.call turn.crew) None (λ (o : Option Step). o ≡ Some step → P turn.crew)
      (λ here that. one before turn history that)
      (λ later that. absurd (none-some step that))
      (sym (cond-false (nat_le i (length before)) (step_at_call before i) (cond (i == suc (length before)) (step_of_call turn.call turn.crew) None) (lt-leb i (length before) past)) ∙ is)))
      (λ (within : i ≤ length before).
      subst P (sym (sooner setting first turn before i within))
      (each_step first step P one before i history.0
      (sym (cond-true (nat_le i (length before)) (step_at_call before i) (cond (i == suc (length before)) (step_of_call turn.call turn.crew) None) (le-leb i (length before) within)) ∙ is)))
      (cases_lt (length before) i)

-- ---- the laws

either_begins : (whole xs ys : List Edit) → BeginsWith whole xs → BeginsWith whole ys → BeginsWith xs ys ⊎ BeginsWith ys xs
either_begins whole xs ys (more, first) (most, second) =
    subst (λ (l : List Edit). BeginsWith l ys ⊎ BeginsWith ys l) (ap (take (length xs)) first ∙ front_taken xs more)
    (subst (λ (l : List Edit). BeginsWith (take (length xs) whole) l ⊎ BeginsWith l (take (length xs) whole)) (ap (take (length ys)) second ∙ front_taken ys most)
    (one_of_two (length xs) (length ys) whole))

pub calls_are_lawful : CallsAreLawful
calls_are_lawful setting opening first turns is_open history =
    let sound : (turns : List Turn) → IsHistory setting first turns → IsSound setting (crew_after first turns) =
    λ some so_far. λ worker exists. ((all_calls setting first some (opened setting opening first is_open) so_far).state.readers worker exists).published in
    let sound_at : (i : ℕ) → IsSound setting (crew_at first turns i) = λ i. each_crew setting first (IsSound setting) sound turns i history in
    let seen : ℕ → ℕ → List Edit = λ worker i. seen_in setting (crew_at first turns i) worker in
    let begins : (worker i : ℕ) → BeginsWith (crew_at first turns i).desk.published (seen worker i) = λ worker i.
    cond_both (nat_lt worker setting.workers) ((crew_at first turns i).reader worker).seen [] (λ (es : List Edit). BeginsWith (crew_at first turns i).desk.published es)
    (λ exists. sound_at i worker (ltb-true worker setting.workers exists))
    (λ none. ((crew_at first turns i).desk.published, refl)) in
    record {
      seen_is_published = begins;
      seen_grows = λ worker. grows (seen worker) (λ i.
          seen_follows (nat_lt worker setting.workers) ((crew_at first turns i).reader worker).seen ((crew_at first turns (suc i)).reader worker).seen ((next_follows setting first turns i history).seen worker));
      published_grows = grows (λ i. (crew_at first turns i).desk.published) (λ i. (next_follows setting first turns i history).published);
      enters = λ worker i is.
          each_step setting first (Enter worker) (EnteredAll setting worker)
          (λ before turn so_far here. entered_all setting (crew_after first before) turn.crew turn.call worker so_far.1 (sound (turn ∷ before) so_far) here)
          turns i history is;
      learns = λ worker told i is within.
          each_step setting first (Tell worker told) (LearnedAll setting worker told)
          (λ before turn so_far here. learned_all setting (crew_after first before) turn.crew turn.call worker told so_far.1 here)
          turns i history is;
      one_list = λ worker other i. either_begins (crew_at first turns i).desk.published (seen worker i) (seen other i) (begins worker i) (begins other i);
    }

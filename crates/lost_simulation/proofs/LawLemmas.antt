-- Whatever the calls give is a run of the world.
use Rattle.std.proofs.Common.{◌≡◌, ℕ, List, [], ◌∷◌, ◌++◌, length, take, refl, sym, ap, subst, ◌∙◌, arith}
use Rattle.std.proofs.lemmas.List.{length-replicate, get_or-replicate}
use Rattle.lost_spec.specs.Book.{Edit}
use Rattle.lost_spec.specs.Laws.{BeginsWith}
use Rattle.lost_history.specs.History.{Opening, Beginning}
use Rattle.lost_desk.specs.Seen.{DeskSeen, ReaderSeen}
use Rattle.lost_core.specs.World.{accepted, published}
use Rattle.lost_core.proofs.LawLemmas.{lawful}
use Rattle.lost_core.proofs.WorldLemmas.{accepted_published}
use Rattle.lost_simulation.specs.Crew.{Setting, Crew, Call, TakesEdit, RefusesEdit, Commits, Drops, Fails, Tells, Learns, Replies, GivesNone, Gives, Turn, crew_after, IsHistory, IsOpened}
use Rattle.lost_simulation.specs.Run.{RunStep, with_call, run_of, steps_in, world_of_run, arrival, IsRun}
use Rattle.lost_simulation.specs.Law.{CallsAreARun}
use Rattle.lost_simulation.proofs.RunLemmas.{state_of, HasItsEvents, reaches_end}
use Rattle.lost_simulation.proofs.CutLemmas.{cut_run}
use Rattle.lost_simulation.proofs.MirrorLemmas.{AreToldPublished, Mirrors, Leads}
use Rattle.lost_simulation.proofs.DeskLemmas.{front_taken, takes_edit, refuses_edit, commits, drops, fails, tells}
use Rattle.lost_simulation.proofs.ReaderLemmas.{begin_taken, learns, arrives, answers}

-- the events of a run are those of its steps, which lead to a crew
pub record IsMirrored (setting : Setting) (run : List RunStep) (crew : Crew) : Type 0 where
  pub own : HasItsEvents setting run
  pub state : Mirrors setting (state_of setting run) crew

-- ---- the opening

none_told : (desk : DeskSeen) → AreToldPublished [] desk
none_told desk one (k, past, is) = absurd (omega arith)

pub opened : (setting : Setting) (opening : Opening) (first : Crew) → IsOpened setting opening first → IsMirrored setting [] first
opened setting opening first is_open = record {
  own = tt;
  state = record {
    desk = record {
      state_limits = refl;
      desk_limits = ap (λ (d : DeskSeen). d.limits) is_open.desk;
      accepted = ap (λ (d : DeskSeen). d.published ++ d.pending) (sym is_open.desk);
      published = ap (λ (d : DeskSeen). length d.published) (sym is_open.desk);
    };
    workers = length-replicate setting.workers 0;
    readers = λ worker exists.
        let new = is_open.readers worker exists in
        record {
          limits = ap (λ (r : ReaderSeen). r.limits) new;
          count = get_or-replicate setting.workers worker 0 0 exists ∙ ap (λ (r : ReaderSeen). length r.seen) (sym new);
          published = subst (λ (r : ReaderSeen). BeginsWith first.desk.published r.seen) (sym new) (first.desk.published, refl);
        };
    told = subst (λ (l : List Beginning). AreToldPublished l first.desk) (sym is_open.none_told) (none_told first.desk);
  };
}

-- ---- one call

leads : (setting : Setting) (before : List RunStep) (last : RunStep) (crew : Crew) → HasItsEvents setting before → Leads setting (state_of setting before) crew last → IsMirrored setting (last ∷ before) crew
leads setting before last crew own leading = record { own = (own, leading.gives); state = leading.after }

one_call : (setting : Setting) (before : List RunStep) (old new : Crew) (call : Call) → IsMirrored setting before old → Gives setting old call new → IsMirrored setting (with_call call new before) new
one_call setting before old new (TakesEdit edit pending) was given =
    leads setting before _ new was.own (takes_edit setting (state_of setting before) old new was.state edit pending given.0 given.1)
one_call setting before old new (RefusesEdit edit error) was given =
    leads setting before _ new was.own (refuses_edit setting (state_of setting before) old new was.state edit error given.0 given.1)
one_call setting before old new (Commits edition) was given =
    leads setting before _ new was.own (commits setting (state_of setting before) old new was.state edition given.0 given.1)
one_call setting before old new Drops was given =
    let cut = cut_run setting before was.own in
    record {
      own = cut.own;
      state = subst (λ s. Mirrors setting s new) (sym cut.state) (drops setting (state_of setting before) old new was.state given.0 given.1);
    }
one_call setting before old new Fails was given =
    record { own = was.own; state = fails setting (state_of setting before) old new was.state given.0 given.1 }
one_call setting before old new (Tells told) was given =
    record { own = was.own; state = tells setting (state_of setting before) old new was.state told given.0 given.1 given.2 }
one_call setting before old new (Learns worker told) was given =
    leads setting before _ new was.own (learns setting (state_of setting before) old new worker was.state given.0 told given.1 given.2)
one_call setting before old new (Replies worker t line reply) was given =
    let came = leads setting before (arrival new worker) new was.own (arrives setting (state_of setting before) old new worker was.state given.0 given.1.sees) in
    leads setting (arrival new worker ∷ before) _ new came.own
    (answers setting (state_of setting (arrival new worker ∷ before)) old.desk (old.reader worker) new worker came.state given.0.exists t line reply given.1)
one_call setting before old new (GivesNone worker) was given =
    leads setting before (arrival new worker) new was.own (arrives setting (state_of setting before) old new worker was.state given.0 given.1)

pub all_calls : (setting : Setting) (first : Crew) (turns : List Turn) → IsMirrored setting [] first → IsHistory setting first turns → IsMirrored setting (run_of turns) (crew_after first turns)
all_calls setting first [] is_open history = is_open
all_calls setting first (turn ∷ before) is_open history =
    one_call setting (run_of before) (crew_after first before) turn.crew turn.call (all_calls setting first before is_open history.0) history.1

-- ---- the law

-- of two lists that begin one list, and are equally long
pub same_begins : (whole xs ys : List Edit) → BeginsWith whole xs → BeginsWith whole ys → length xs ≡ length ys → xs ≡ ys
same_begins whole xs ys (more, first) (most, second) same =
    sym (front_taken xs more) ∙ ap (take (length xs)) (sym first) ∙ ap (λ (n : ℕ). take n whole) same ∙ ap (take (length ys)) second ∙ front_taken ys most

is_run : (setting : Setting) (run : List RunStep) (crew : Crew) → IsMirrored setting run crew → IsRun (world_of_run setting run) run crew
is_run setting run crew mirrored =
    let world = world_of_run setting run in
    let n : ℕ = length (steps_in run) in
    let reached = reaches_end setting run mirrored.own in
    let state = mirrored.state in
    let all : crew.desk.published ++ crew.desk.pending ≡ accepted world n = sym state.desk.accepted ∙ reached.at.accepted in
    record {
      same_events = reached.events;
      same_published = same_begins (accepted world n) crew.desk.published (published world n) (crew.desk.pending, sym all) (accepted_published world n) (sym state.desk.published ∙ reached.at.published);
      same_pending = all;
      same_seen = λ worker exists.
          let has = state.readers worker exists in
          sym (begin_taken crew.desk.published (crew.reader worker).seen crew.desk.pending has.published)
          ∙ ap (take (length (crew.reader worker).seen)) all
          ∙ ap (λ (k : ℕ). take k (accepted world n)) (sym has.count ∙ reached.at.met worker exists);
      is_lawful = lawful world;
    }

pub calls_are_a_run : CallsAreARun
calls_are_a_run setting opening first turns is_open history =
    is_run setting (run_of turns) (crew_after first turns) (all_calls setting first turns (opened setting opening first is_open) history)

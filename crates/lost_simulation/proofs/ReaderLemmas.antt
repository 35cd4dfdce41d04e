-- Each call of a reader makes of a crew what its steps make of the world.
use Rattle.std.proofs.Common.{◌≡◌, ◌≢◌, ℕ, ◌≤◌, ◌<◌, List, ◌++◌, length, take, max, sym, ap, subst, ◌∙◌, ⊎_elim, arith}
use Rattle.std.specs.Prelude.{nat_lt, nat_le, slice_index, ◌==◌, Contains}
use Rattle.std.proofs.lemmas.Bool.{cond_both, cond-true, cases_eq, lt-ltb, le-leb, leb-true, leb-false, eqb-true}
use Rattle.std.proofs.lemmas.List.{length-set, get_or-set_same, get_or-set_other, take-append-le, take_all}
use Rattle.lost_spec.specs.Text.{Text}
use Rattle.lost_spec.specs.Moment.{Instant}
use Rattle.lost_spec.specs.Book.{Limits, Edit, book_of}
use Rattle.lost_spec.specs.Laws.{BeginsWith}
use Rattle.lost_history.specs.History.{Beginning, longer}
use Rattle.lost_json.specs.Line.{line_reply}
use Rattle.lost_desk.specs.Seen.{DeskSeen, ReaderSeen}
use Rattle.lost_core.specs.World.{Enter, Tell, Answer, Event, Entered, Told, Replied, NoWorker}
use Rattle.lost_core.specs.State.{State, meet, told_of, of_worker}
use Rattle.lost_core.proofs.FrontLemmas.{take_of_front}
use Rattle.lost_core.proofs.WorldLemmas.{front_length}
use Rattle.lost_simulation.specs.Clauses.{LearnsTold, SeesPublished, AnswersLine}
use Rattle.lost_simulation.specs.Crew.{Setting, Crew, IsOfReader}
use Rattle.lost_simulation.specs.Run.{RunStep, arrival}
use Rattle.lost_simulation.proofs.MirrorLemmas.{HasDesk, HasReader, AreToldPublished, Mirrors, Leads}

-- the longer of two beginnings of a list begins it
longer_begins : (whole xs ys : List Edit) → BeginsWith whole xs → BeginsWith whole ys → BeginsWith whole (longer xs ys)
longer_begins whole xs ys first second =
    cond_both (nat_le (length ys) (length xs)) xs ys (λ l. BeginsWith whole l) (λ less. first) (λ more. second)

length-longer : (xs ys : List Edit) → max (length xs) (length ys) ≡ length (longer xs ys)
length-longer xs ys =
    cond_both (nat_le (length ys) (length xs)) xs ys (λ l. max (length xs) (length ys) ≡ length l)
    (λ less. omega (arith, leb-true (length ys) (length xs) less))
    (λ more. omega (arith, leb-false (length ys) (length xs) more))

-- a beginning of a list is its first things, whatever comes behind the list
pub begin_taken : (whole begin more : List Edit) → BeginsWith whole begin → take (length begin) (whole ++ more) ≡ begin
begin_taken whole begin more begins =
    take-append-le (length begin) whole more (front_length begin whole begins)
    ∙ take_of_front (length begin) begin whole begins (omega arith)
    ∙ take_all (length begin) begin (omega arith)

module _ (setting : Setting) (state : State) (old new : Crew) (worker : ℕ) (mirrors : Mirrors setting state old) (own : IsOfReader setting old new worker) where
  had : HasReader setting state.met old.desk worker (old.reader worker)
  had = mirrors.readers worker own.exists

  -- the worker exists in the world
  inside : worker < length state.met
  inside = omega (arith, own.exists, mirrors.workers)

  -- it met so many edits as its reader has then seen
  meets : (count : ℕ) → max (length (old.reader worker).seen) count ≡ length (new.reader worker).seen → (new.reader worker).limits ≡ setting.limits → BeginsWith old.desk.published (new.reader worker).seen →
      Mirrors setting (record state { met = meet state.met worker count }) new
  meets count most limits published = record {
    desk = subst (λ (d : DeskSeen). HasDesk setting (record state { met = meet state.met worker count }) d) (sym own.same_desk)
        (record {
          state_limits = mirrors.desk.state_limits;
          desk_limits = mirrors.desk.desk_limits;
          accepted = mirrors.desk.accepted;
          published = mirrors.desk.published;
        });
    workers = length-set state.met worker (max (slice_index state.met worker) count) ∙ mirrors.workers;
    readers = λ other exists.
        subst (λ (d : DeskSeen). HasReader setting (meet state.met worker count) d other (new.reader other)) (sym own.same_desk)
        (⊎_elim
        (λ (same : other ≡ worker). subst (λ (k : ℕ). HasReader setting (meet state.met worker count) old.desk k (new.reader k)) (sym same) this)
        (λ (differ : other ≢ worker). that other exists differ)
        (cases_eq other worker));
    told = subst (λ (d : DeskSeen). AreToldPublished new.told d) (sym own.same_desk) (subst (λ (l : List Beginning). AreToldPublished l old.desk) (sym own.same_told) mirrors.told);
  }
    where
      this : HasReader setting (meet state.met worker count) old.desk worker (new.reader worker)
      this = record {
        limits = limits;
        count =
            get_or-set_same state.met worker (max (slice_index state.met worker) count) 0 inside
            ∙ ap (λ (n : ℕ). max n count) had.count
            ∙ most;
        published = published;
      }

      that : (other : ℕ) → other < setting.workers → other ≢ worker → HasReader setting (meet state.met worker count) old.desk other (new.reader other)
      that other exists differ =
          let kept = mirrors.readers other exists in
          subst (λ (r : ReaderSeen). HasReader setting (meet state.met worker count) old.desk other r) (sym (own.others other differ))
          (record {
            limits = kept.limits;
            count = get_or-set_other state.met worker other (max (slice_index state.met worker) count) 0 differ ∙ kept.count;
            published = kept.published;
          })

  -- what its step gives
  worker_event : (event : Event) → of_worker state worker event ≡ event
  worker_event event = cond-true (nat_lt worker (length state.met)) event NoWorker (lt-ltb worker (length state.met) inside)

  -- it is told of edits that are published
  met_told : (count : ℕ) → count ≤ length old.desk.published → told_of state count ≡ count
  met_told count within = cond-true (nat_le count state.published) count 0 (le-leb count state.published (omega (arith, mirrors.desk.published)))

  told_leads : (count : ℕ) → count ≤ length old.desk.published → max (length (old.reader worker).seen) count ≡ length (new.reader worker).seen → (new.reader worker).limits ≡ setting.limits →
      BeginsWith old.desk.published (new.reader worker).seen → Leads setting state new (Tell worker count, Told (length (new.reader worker).seen))
  told_leads count within most limits published = record {
    gives =
        ap Told (sym most ∙ ap (λ (n : ℕ). max n count) (sym had.count) ∙ ap (max (slice_index state.met worker)) (sym (met_told count within)))
        ∙ sym (worker_event (Told (max (slice_index state.met worker) (told_of state count))));
    after = subst (λ (n : ℕ). Mirrors setting (record state { met = meet state.met worker n }) new) (sym (met_told count within)) (meets count most limits published);
  }

  entered_leads : state.published ≡ length (new.reader worker).seen → max (length (old.reader worker).seen) (length (new.reader worker).seen) ≡ length (new.reader worker).seen → (new.reader worker).limits ≡ setting.limits →
      BeginsWith old.desk.published (new.reader worker).seen → Leads setting state new (Enter worker, Entered (length (new.reader worker).seen))
  entered_leads all most limits published = record {
    gives =
        ap Entered (sym most ∙ ap (λ (n : ℕ). max n (length (new.reader worker).seen)) (sym had.count) ∙ ap (max (slice_index state.met worker)) (sym all))
        ∙ sym (worker_event (Entered (max (slice_index state.met worker) state.published)));
    after = subst (λ (n : ℕ). Mirrors setting (record state { met = meet state.met worker n }) new) (sym all) (meets (length (new.reader worker).seen) most limits published);
  }

  pub learns : (told : Beginning) → Contains old.told told → LearnsTold (old.reader worker) (new.reader worker) told → Leads setting state new (Tell worker (length told.list), Told (length (new.reader worker).seen))
  learns told has list =
      let begins = mirrors.told told has in
      let seen : (new.reader worker).seen ≡ longer (old.reader worker).seen told.list = ap (λ (r : ReaderSeen). r.seen) list.longer_list in
      told_leads (length told.list) (front_length told.list old.desk.published begins)
      (length-longer (old.reader worker).seen told.list ∙ ap length (sym seen))
      (ap (λ (r : ReaderSeen). r.limits) list.longer_list ∙ had.limits)
      (subst (λ (l : List Edit). BeginsWith old.desk.published l) (sym seen) (longer_begins old.desk.published (old.reader worker).seen told.list had.published begins))

  pub arrives : SeesPublished old.desk (old.reader worker) (new.reader worker) → Leads setting state new (arrival new worker)
  arrives sees =
      let count : ℕ = length (new.reader worker).seen in
      let most : max (length (old.reader worker).seen) count ≡ count = omega (arith, front_length (old.reader worker).seen (new.reader worker).seen sees.begins) in
      let within : count ≤ length old.desk.published = front_length (new.reader worker).seen old.desk.published sees.published in
      let limits : (new.reader worker).limits ≡ setting.limits = sees.same.1 ∙ had.limits in
      let edition : length new.desk.published ≡ state.published = ap (λ (d : DeskSeen). length d.published) own.same_desk ∙ sym mirrors.desk.published in
      cond_both (count == length new.desk.published) (Enter worker, Entered count) (Tell worker count, Told count) (λ (last : RunStep). Leads setting state new last)
      (λ all. entered_leads (sym (eqb-true count (length new.desk.published) all ∙ edition)) most limits sees.published)
      (λ fewer. told_leads count within most limits sees.published)

-- a line is answered from what the reader has seen
pub answers : (setting : Setting) (state : State) (desk : DeskSeen) (old : ReaderSeen) (crew : Crew) (worker : ℕ) → Mirrors setting state crew → worker < setting.workers →
    (t : Instant) (line given : Text) → AnswersLine setting.name desk old (crew.reader worker) t line given → Leads setting state crew (Answer worker t line, Replied given)
answers setting state desk old crew worker mirrors exists t line given answer =
    let reader = crew.reader worker in
    let has = mirrors.readers worker exists in
    let inside : worker < length state.met = omega (arith, exists, mirrors.workers) in
    let seen : take (slice_index state.met worker) state.accepted ≡ reader.seen =
    ap (λ (n : ℕ). take n state.accepted) has.count ∙ ap (take (length reader.seen)) mirrors.desk.accepted ∙ begin_taken crew.desk.published reader.seen crew.desk.pending has.published in
    let limits : reader.limits ≡ state.limits = has.limits ∙ sym mirrors.desk.state_limits in
    record {
      gives =
          ap Replied
          (answer.reply
          ∙ ap (λ (l : Limits). line_reply (book_of l reader.seen) setting.name t line) limits
          ∙ ap (λ (es : List Edit). line_reply (book_of state.limits es) setting.name t line) (sym seen))
          ∙ sym (cond-true (nat_lt worker (length state.met)) (Replied (line_reply (book_of state.limits (take (slice_index state.met worker) state.accepted)) setting.name t line)) NoWorker (lt-ltb worker (length state.met) inside));
      after = mirrors;
    }

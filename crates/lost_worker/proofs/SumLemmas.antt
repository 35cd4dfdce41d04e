-- The counts of connections that were served one after another, and their sum.
use Rattle.std.proofs.Common.{◌≡◌, ℕ, ◌+◌, Bool, List, [], ◌∷◌, ◌++◌, map, Option, None, Some, IfSome, sum_by, refl, sym, ap, ◌∙◌, append_assoc, append-nil, arith}
use Rattle.std.proofs.lemmas.List.{map-append}
use Rattle.std.proofs.lemmas.List.Sums.{sum_by_push}
use Rattle.lost_lines.specs.declared.counts.Counts.{Counts}
use Rattle.lost_lines.specs.Run.{Cut, Reply}
use Rattle.lost_worker.specs.Lines.{Worker, CountsConnection}
use Rattle.lost_worker.specs.Sources.{Ends, HandsOver}
use Rattle.lost_worker.specs.Sum.{CountsConnections, capped, SumsOver, SumsConnections}

-- a sum that is capped on the way is one that is capped at its end
capped_twice : (a b : ℕ) → capped (capped a + b) ≡ capped (a + b)
capped_twice a b = omega arith

one_more : (part : Counts → ℕ) (all : List Counts) (counts : Counts) (old : ℕ) → old ≡ capped (sum_by part all) → capped (old + part counts) ≡ capped (sum_by part (all ++ counts ∷ []))
one_more part all counts old is =
    ap (λ n. capped (n + part counts)) is
    ∙ capped_twice (sum_by part all) (part counts)
    ∙ ap capped (sym (sum_by_push part all counts))

-- what was served so far, if the connections were told at first: a front of them, and the others are still coming
abbrev pub SumsSoFar : {C : Type 0} → (ℕ → Bool → Type 0) → (Worker → Cut → Reply → Worker → Type 0) → Worker → Worker → (C → Ends) → Option (List C) → Option (List C) → Counts → Type 0
SumsSoFar says step old new ends None now total = Unit {0}
SumsSoFar {C} says step old new ends (Some all) now total = (served : List C) × (left : List C) × (now ≡ Some left) × (all ≡ served ++ left) × SumsOver says step old new (map ends served) total

module _ (says : ℕ → Bool → Type 0) (step : Worker → Cut → Reply → Worker → Type 0) where
  -- one connection more was served
  connections_push : (old mid new : Worker) (ends : List Ends) (each : List Counts) (last : Ends) (counts : Counts)
      → CountsConnections says step old ends each mid → CountsConnection says step mid new last.unread last.before counts → CountsConnections says step old (ends ++ last ∷ []) (each ++ counts ∷ []) new
  connections_push old mid new [] [] last counts same one = (new, rw same at one, refl)
  connections_push old mid new [] (first ∷ each) last counts served one = absurd served
  connections_push old mid new (first ∷ ends) [] last counts served one = absurd served
  connections_push old mid new (first ∷ ends) (of ∷ each) last counts (next, is_first, more) one = (next, is_first, connections_push next mid new ends each last counts more one)

  over_none : (old new : Worker) (total : Counts) → new ≡ old → total ≡ record { lines = 0; long_lines = 0; memory = 0; faults = 0 } → SumsOver says step old new [] total
  over_none old new total same none = record {
    each = [];
    served = same;
    is_sum = rw none (record { lines = refl; long_lines = refl; memory = refl; faults = refl });
  }

  pub sums_none : (old new : Worker) (total : Counts) → new ≡ old → total ≡ record { lines = 0; long_lines = 0; memory = 0; faults = 0 } → SumsConnections says step old new total
  sums_none old new total same none = record { connections = []; sums = over_none old new total same none }

  module _ (old mid new : Worker) (total counts then : Counts) (last : Ends) (one : CountsConnection says step mid new last.unread last.before counts)
      (lines : then.lines ≡ capped (total.lines + counts.lines)) (long_lines : then.long_lines ≡ capped (total.long_lines + counts.long_lines))
      (memory : then.memory ≡ capped (total.memory + counts.memory)) (faults : then.faults ≡ capped (total.faults + counts.faults)) where
    over_push : (ends : List Ends) → SumsOver says step old mid ends total → SumsOver says step old new (ends ++ last ∷ []) then
    over_push ends s = record {
      each = s.each ++ counts ∷ [];
      served = connections_push old mid new ends s.each last counts s.served one;
      is_sum = record {
        lines = lines ∙ one_more (λ (c : Counts). c.lines) s.each counts total.lines s.is_sum.lines;
        long_lines = long_lines ∙ one_more (λ (c : Counts). c.long_lines) s.each counts total.long_lines s.is_sum.long_lines;
        memory = memory ∙ one_more (λ (c : Counts). c.memory) s.each counts total.memory s.is_sum.memory;
        faults = faults ∙ one_more (λ (c : Counts). c.faults) s.each counts total.faults s.is_sum.faults;
      };
    }

    pub sums_push : SumsConnections says step old mid total → SumsConnections says step old new then
    sums_push s = record { connections = s.connections ++ last ∷ []; sums = over_push s.connections s.sums }

    -- if the connections were told, the one that was served is the first of those that were still coming
    module _ {C : Type 0} (ends : C → Ends) where
      pub so_far_push : (first now later : Option (List C)) (connection : C) → last ≡ ends connection → HandsOver now (Some connection) later → SumsSoFar says step old mid ends first now total → SumsSoFar says step old new ends first later then
      so_far_push None now later connection is hands so_far = tt
      so_far_push (Some all) None later connection is hands (served, left, coming, whole, sums) = absurd (cc)
      so_far_push (Some all) (Some []) later connection is hands so_far = absurd (cc (hands.0))
      so_far_push (Some all) (Some (next ∷ others)) later connection is hands (served, left, coming, whole, sums) =
          let same : next ≡ connection = cc (hands.0) in
          let rest : left ≡ next ∷ others = cc (coming) in (
            served ++ connection ∷ [],
            others,
            hands.1,
            whole ∙ ap (λ l. served ++ l) rest ∙ ap (λ c. served ++ c ∷ others) same ∙ sym (append_assoc served (connection ∷ []) others),
            rw map-append (rw (← is) (over_push (map ends served) sums)),
          )

  module _ {C : Type 0} (ends : C → Ends) where
    pub so_far_none : (old new : Worker) (first now : Option (List C)) (total : Counts) → new ≡ old → now ≡ first → total ≡ record { lines = 0; long_lines = 0; memory = 0; faults = 0 } → SumsSoFar says step old new ends first now total
    so_far_none old new None now total same coming none = tt
    so_far_none old new (Some all) now total same coming none = ([], all, coming, refl, over_none old new total same none)

    -- nothing more comes, so all that were told were served
    pub all_served : (old new : Worker) (first now later : Option (List C)) (total : Counts) → HandsOver now None later → SumsSoFar says step old new ends first now total → IfSome first (λ all. SumsOver says step old new (map ends all) total)
    all_served old new None now later total hands so_far = tt
    all_served old new (Some all) None later total hands (served, left, coming, whole, sums) = absurd (cc)
    all_served old new (Some all) (Some (next ∷ others)) later total hands so_far = absurd (cc (hands.0))
    all_served old new (Some all) (Some []) later total hands (served, left, coming, whole, sums) =
        let rest : left ≡ [] = cc (coming) in
        let same : all ≡ served = whole ∙ ap (λ l. served ++ l) rest ∙ append-nil served in
        rw same sums

-- What the calls of a disk leave of the front of a file.
use Rattle.std.proofs.Common.{◌≡◌, ℕ, zero, suc, ◌+◌, ◌-◌, ◌<◌, ◌≤◌, min, List, [], ◌∷◌, ◌++◌, length, take, drop, get_or, sym, refl, ◌∙◌, ap, subst, arith, append_assoc, take-append-drop, ext_get_or, get_or-take, get_or-drop}
use Rattle.std.proofs.lemmas.List.{take_all, drop_more, drop-take, length-take, length-take-le, length-drop, length-append}
use Rattle.std.proofs.Math.Seq.{take-append-add, take-append_seam, drop-append-add}
use Rattle.sqlite_disk.specs.Disk.{Holds, Torn, Cut}
use Rattle.lost_journal.specs.Format.{HasGate}
use Rattle.lost_journal.specs.State.{body_in, behind_in, pending_in}

-- a write leaves the bytes below it
pub front_of_torn : (at n m : ℕ) (old new : List ℕ) → Torn at n old new → m ≤ at → m ≤ length old → take m new ≡ take m old
front_of_torn at n m old new torn low within =
    let longer = torn.no_shorter in
    let a : length (take m new) ≡ m = length-take-le m new (omega arith) in
    let b : length (take m old) ≡ m = length-take-le m old within in
    ext_get_or 0 (take m new) (take m old) (a ∙ sym b) λ i h.
    let less : i < m = omega arith in
    get_or-take m new i 0 less ∙ torn.below i (omega arith) (omega arith) ∙ sym (get_or-take m old i 0 less)

-- a change of the length leaves the bytes below it
pub front_of_cut : (n m : ℕ) (old new : List ℕ) → Cut n old new → m ≤ n → m ≤ length old → take m new ≡ take m old
front_of_cut n m old new cut low within =
    let longer = cut.no_shorter in
    let a : length (take m new) ≡ m = length-take-le m new (omega arith) in
    let b : length (take m old) ≡ m = length-take-le m old within in
    ext_get_or 0 (take m new) (take m old) (a ∙ sym b) λ i h.
    let less : i < m = omega arith in
    get_or-take m new i 0 less ∙ cut.below i (omega arith) (omega arith) ∙ sym (get_or-take m old i 0 less)

pub take_take : (m n : ℕ) (l : List ℕ) → m ≤ n → take m (take n l) ≡ take m l
take_take zero n l le = refl
take_take (suc m) zero l le = absurd (omega arith)
take_take (suc m) (suc n) [] le = refl
take_take (suc m) (suc n) (x ∷ l) le = ap (λ (r : List ℕ). x ∷ r) (take_take m n l (omega arith))

-- where the fronts of two files agree, so do shorter ones
pub shorter_front : (m n : ℕ) (a b : List ℕ) → m ≤ n → take n a ≡ take n b → take m a ≡ take m b
shorter_front m n a b le same = sym (take_take m n a le) ∙ ap (take m) same ∙ take_take m n b le

-- and so do the edits in them
pub same_pending : (kept end : ℕ) (a b : List ℕ) → kept ≤ end → take end a ≡ take end b → pending_in a kept end ≡ pending_in b kept end
same_pending kept end a b le same =
    let whole : kept + (end - kept) ≡ end = omega arith in
    sym (drop-take kept (end - kept) a)
    ∙ ap (λ (n : ℕ). drop kept (take n a)) whole
    ∙ ap (drop kept) same
    ∙ ap (λ (n : ℕ). drop kept (take n b)) (sym whole)
    ∙ drop-take kept (end - kept) b

-- the first bytes up to a gate and the byte 10 behind it
pub front_to_gate : (body rest : List ℕ) (g kept : ℕ) → length body + 2 ≡ kept → take kept (body ++ g ∷ 10 ∷ rest) ≡ body ++ g ∷ 10 ∷ []
front_to_gate body rest g kept is =
    ap (λ (n : ℕ). take n (body ++ g ∷ 10 ∷ rest)) (sym is) ∙ take-append-add body (g ∷ 10 ∷ rest) 2

-- a file with this front
pub with_front : (c body : List ℕ) (g kept : ℕ) → take kept c ≡ body ++ g ∷ 10 ∷ [] → c ≡ body ++ g ∷ 10 ∷ drop kept c
with_front c body g kept is =
    sym (take-append-drop kept c) ∙ ap (λ (l : List ℕ). l ++ drop kept c) is ∙ append_assoc body (g ∷ 10 ∷ []) (drop kept c)

-- a file whose front ends in a gate is as long
pub longer_than_gate : (g : ℕ) (d body : List ℕ) → HasGate g d body → length body + 2 ≤ length d
longer_than_gate g d body has =
    let long : length (take (length body + 2) d) ≡ length (body ++ g ∷ 10 ∷ []) = ap length has in
    let part : length (body ++ g ∷ 10 ∷ []) ≡ length body + 2 = length-append body (g ∷ 10 ∷ []) in
    let least : length (take (length body + 2) d) ≡ min (length body + 2) (length d) = length-take (length body + 2) d in
    omega arith

-- the byte that a torn write of one leaves
pub torn_byte : (body rest c : List ℕ) (x : ℕ) → Torn (length body) 1 (body ++ x ∷ rest) c → (y : ℕ) × (c ≡ body ++ y ∷ rest)
torn_byte body rest c x torn =
    let old = body ++ x ∷ rest in
    let long : length old ≡ length body + length (x ∷ rest) = length-append body (x ∷ rest) in
    let shorter = torn.no_shorter in
    let longer = torn.no_longer in
    let same_length : length c ≡ length old = omega arith in
    let front : take (length body) c ≡ body = front_of_torn (length body) 1 (length body) old c torn (omega arith) (omega arith) ∙ front_alone body (x ∷ rest) in
    let behind : drop (length body + 1) c ≡ rest = same_behind (length body + 1) c old same_length torn.above ∙ drop-append-add body (x ∷ rest) 1 in
    let k = length body in
    (get_or c k 0, sym (take-append-drop k c) ∙ ap (λ (l : List ℕ). l ++ drop k c) front ∙ ap (λ (l : List ℕ). body ++ l) (drop_more c k 0 (omega arith) ∙ ap (λ (l : List ℕ). get_or c k 0 ∷ l) behind))
  where
    front_alone : (a b : List ℕ) → take (length a) (a ++ b) ≡ a
    front_alone a b = take-append_seam a b

    same_behind : (k : ℕ) (a b : List ℕ) → length a ≡ length b → ((i : ℕ) → i < length b → k ≤ i → get_or a i 0 ≡ get_or b i 0) → drop k a ≡ drop k b
    same_behind k a b len each =
        let la : length (drop k a) ≡ length a - k = length-drop k a in
        let lb : length (drop k b) ≡ length b - k = length-drop k b in
        ext_get_or 0 (drop k a) (drop k b) (omega arith) λ i h.
        get_or-drop k a i 0 ∙ each (k + i) (omega arith) (omega arith) ∙ sym (get_or-drop k b i 0)

-- How a file is read line by line.
use Rattle.std.proofs.Common.{◌≡◌, ◌≢◌, ℕ, zero, suc, ◌+◌, ◌-◌, ◌<◌, ◌≤◌, List, [], ◌∷◌, ◌++◌, length, take, drop, get_or, All, refl, sym, ◌∙◌, ap, subst, arith, ext_get_or, get_or-take, get_or-drop}
use Rattle.std.proofs.lemmas.List.{drop-take, take_rest, length-append, length-drop, length-take-le}
use Rattle.std.proofs.Math.Seq.{take-add, take-append_seam}
use Rattle.lost_spec.specs.Text.{Text}
use Rattle.lost_lines.specs.Cutting.{newline}
use Rattle.sqlite_disk.specs.Disk.{Holds}
use Rattle.lost_journal.proofs.FrontLemmas.{take_take}

drop_nothing : (n : ℕ) → ◌≡◌ {A = Text} (drop n []) []
drop_nothing zero = refl
drop_nothing (suc n) = refl

pub drop_drop : (a b : ℕ) (l : Text) → drop a (drop b l) ≡ drop (a + b) l
drop_drop a zero l =
    let same : a ≡ a + 0 = omega arith in
    ap (λ (n : ℕ). drop n l) same
drop_drop a (suc b) [] = drop_nothing a ∙ sym (drop_nothing (a + suc b))
drop_drop a (suc b) (x ∷ l) =
    let same : suc (a + b) ≡ a + suc b = omega arith in
    drop_drop a b l ∙ ap (λ (n : ℕ). drop n (x ∷ l)) same

-- what a buffer has from a place on
pub buffered_part : (seen buffer : Text) (start next m : ℕ) → take (length buffer) (drop start seen) ≡ buffer → next + m ≡ length buffer → take m (drop (start + next) seen) ≡ drop next buffer
buffered_part seen buffer start next m holds whole =
    let place : start + next ≡ next + start = omega arith in
    ap (λ (n : ℕ). take m (drop n seen)) place
    ∙ ap (take m) (sym (drop_drop next start seen))
    ∙ sym (drop-take next m (drop start seen))
    ∙ ap (λ (n : ℕ). drop next (take n (drop start seen))) whole
    ∙ ap (drop next) holds

-- a line that is whole in the buffer is read
pub line_found : (seen buffer : Text) (start next count : ℕ) → take (length buffer) (drop start seen) ≡ buffer → next ≤ length buffer
    → drop next buffer ≡ (take count (drop next buffer) ++ newline ∷ []) ++ drop (count + 1) (drop next buffer) → count < length (drop next buffer)
    → take (start + (next + count + 1)) seen ≡ take (start + next) seen ++ (take (next + count - next) (drop next buffer) ++ newline ∷ [])
line_found seen buffer start next count holds inside split below =
    let long : length (drop next buffer) ≡ length buffer - next = length-drop next buffer in
    let rest = drop next buffer in
    let m = length buffer - next in
    let whole : next + m ≡ length buffer = omega arith in
    let place : start + (next + count + 1) ≡ start + next + (count + 1) = omega arith in
    let same : next + count - next ≡ count = omega arith in
    let part : take (count + 1) (drop (start + next) seen) ≡ take (count + 1) rest =
    sym (take_take (count + 1) m (drop (start + next) seen) (omega arith)) ∙ ap (take (count + 1)) (buffered_part seen buffer start next m holds whole) in
    let front : length (take count rest ++ newline ∷ []) ≡ count + 1 = length-append (take count rest) (newline ∷ []) ∙ ap (λ (n : ℕ). n + 1) (length-take-le count rest (omega arith)) in
    let line : take (count + 1) rest ≡ take count rest ++ newline ∷ [] =
    ap (take (count + 1)) split ∙ ap (λ (n : ℕ). take n ((take count rest ++ newline ∷ []) ++ drop (count + 1) rest)) (sym front) ∙ take-append_seam (take count rest ++ newline ∷ []) (drop (count + 1) rest) in
    ap (λ (n : ℕ). take n seen) place
    ∙ take-add (start + next) (count + 1) seen
    ∙ ap (λ (l : Text). take (start + next) seen ++ l) (part ∙ line ∙ ap (λ (n : ℕ). take n rest ++ newline ∷ []) (sym same))

-- a piece more of the file stands in the buffer
pub piece_joined : (seen buffer piece joined : Text) (start next : ℕ) → take (length buffer) (drop start seen) ≡ buffer → next ≤ length buffer → Holds seen (start + length buffer) piece
    → joined ≡ drop next buffer ++ piece → take (length joined) (drop (start + next) seen) ≡ joined
piece_joined seen buffer piece joined start next holds inside there is =
    let m = length buffer - next in
    let long : length (drop next buffer) ≡ m = length-drop next buffer in
    let whole : next + m ≡ length buffer = omega arith in
    let y = drop (start + next) seen in
    let count = length piece in
    let all : length joined ≡ m + count = ap length is ∙ length-append (drop next buffer) piece ∙ ap (λ (n : ℕ). n + count) long in
    let within = there.within in
    let inner : length (drop m y) ≡ length y - m = length-drop m y in
    let outer : length y ≡ length seen - (start + next) = length-drop (start + next) seen in
    let size : length (take count (drop m y)) ≡ count = length-take-le count (drop m y) (omega arith) in
    let back : take count (drop m y) ≡ piece = ext_get_or 0 (take count (drop m y)) piece size (λ i h.
    let low : i < count = omega arith in
    let place : start + next + (m + i) ≡ start + length buffer + i = omega arith in
    get_or-take count (drop m y) i 0 low ∙ get_or-drop m y i 0 ∙ get_or-drop (start + next) seen (m + i) 0 ∙ ap (λ (k : ℕ). get_or seen k 0) place ∙ there.each i low) in
    ap (λ (n : ℕ). take n y) all
    ∙ take-add m count y
    ∙ ap (λ (l : Text). l ++ take count (drop m y)) (buffered_part seen buffer start next m holds whole)
    ∙ ap (λ (l : Text). drop next buffer ++ l) back
    ∙ sym is

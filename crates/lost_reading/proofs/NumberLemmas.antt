-- A number's text, by its sign.
use Rattle.std.proofs.Common.{◌≡◌, ◌==◌, true, false, List, ℕ, drop, get_or, ap, ◌∙◌}
use Rattle.fast_float.specs.Text.{scan}
use Rattle.serde_json.specs.Read.{number_of, number_from}

pub number_below_zero : (bytes text : List ℕ) → (get_or bytes 0 0 == 45) ≡ true → bytes ≡ text → number_from true (scan (drop 1 bytes)) ≡ number_of text
unfolding number_of
number_below_zero bytes text signed same = let read : number_from true (scan (drop 1 bytes)) ≡ number_of bytes = rw signed in read ∙ ap number_of same

pub number_from_zero : (bytes text : List ℕ) → (get_or bytes 0 0 == 45) ≡ false → bytes ≡ text → number_from false (scan bytes) ≡ number_of text
unfolding number_of
number_from_zero bytes text unsigned same = let read : number_from false (scan bytes) ≡ number_of bytes = rw unsigned in read ∙ ap number_of same

-- Texts that are written at once, not measured before: where the space has room for the widest text that a name of that length can have.
use Rattle.std.specs.Prelude.{◌≡◌, List, ℕ, ◌-◌, ◌*◌, ◌/◌, ◌<◌}
use Rattle.name.specs.Answer.{answer, Fills}
use Rattle.text.specs.WriteText.{write_text_of}

-- the most characters that the text of a name of n octets has, if it is not the root: a label of k octets, at most 63, has with its dot at
-- most 4 k + 1 characters, and 64 (4 k + 1) is at most 253 (k + 1)
abbrev pub widest : ℕ → ℕ
widest n = (n - 1) * 253 / 64

-- where n is not 0, the text of the name s has been written, and has n characters; where it is 0, nothing is written
pub record AtOnce (s before : List ℕ) (n : ℕ) (after : List ℕ) : Type 0 where
  pub text : 0 < n → Fills (write_text_of s) before (answer n) after
  pub none : n ≡ 0 → after ≡ before

-- What is said of words that are made of digits: of one, and of those of a command whose digits are found in a text. Assumes nothing.
use Rattle.std.specs.Prelude.{ℕ, ◌+◌, ◌<◌, List, ◌≡◌, drop}
use Rattle.text.specs.Hex.{hex_bytes}
use Rattle.text.specs.Found.{Found}
use Rattle.command.specs.Command.{command_size}
use Rattle.rows.specs.Words.{words_at}
use Rattle.rows.specs.declared.Words.{Words}
use Rattle.digits.specs.Digits.{in_digits, digits_size}

-- r is the word whose digits x are. (Of other numbers x nothing is said.)
abbrev pub IsWordOf : ℕ → ℕ → Type 0
IsWordOf x r = (w : ℕ) → w < 4_294_967_296 → x ≡ in_digits 4 w → r ≡ w

-- The digits of a command's bytes stand in s from a place on, and r are its words.
pub record FoundWords (s : List ℕ) (at : ℕ) (r : Words) : Type 0 where
  pub bytes : List ℕ
  pub found : Found s (hex_bytes command_size (drop at s)) bytes (at + digits_size)
  pub words_are : r ≡ words_at 0 bytes

-- The line of a field: one law for each answer of the code, whose premises are what its calls tell. Assumes nothing.
use Prim.Native.Nat.{ℕ}
use mathlib.Core.List.{List}
use mathlib.Core.Path.{◌≡◌, ◌∙◌}
use lib.ListN.{drop}
use Rattle.std.specs.Prelude.{Result, Ok, Err}
use Rattle.text.specs.Range.{line_in, number_in}
use Rattle.text.specs.Reader.{literal}
use Rattle.text.specs.declared.Number.{Number}
use Rattle.text.proofs.ReaderLaws.{onward_got, onward_lost}
use Rattle.begins.specs.Seek.{seek_literal}
use Rattle.begins.specs.Digits.{seek_number}
use Rattle.begins.specs.Lines.{seek_line}
use Rattle.begins.proofs.AgreeLaws.{rest_lost, rest_got}
use Rattle.begins.proofs.Seeks.{seeks_literal}
use Rattle.seek.specs.Spotted.{ReadNumber, ReadText}
use Rattle.seek.specs.declared.Wrong.{Wrong}
use Rattle.seek.proofs.SoughtLaws.{ends_same, text_read, text_missed}

module _
    (s : List ℕ) (at : ℕ) (key : List ℕ) (lo hi : ℕ) (r : Result ℕ Wrong)
    (found : ReadText s (literal key (drop at s)) (seek_literal key (drop at s)) r)
  where
    -- Another key stands there: its first wrong byte is that of the line.
    pub line_no_key
        : {w : Wrong}
        → r ≡ Err w
        → {x : Result Number Wrong}
        → x ≡ Err w
        → ReadNumber s (line_in key lo hi (drop at s)) (seek_line key lo hi (drop at s)) x
    unfolding line_in seek_line
    line_no_key e is =
        let missed = text_missed s _ _ r found e in
        rw is (record {
          refused = onward_lost _ missed.refused;
          ends = ends_same (rest_lost (literal key) (seek_literal key) (seeks_literal key) (λ a. seek_number lo hi 10) (drop at s) missed.refused) missed.ends;
        })

    -- The key is there, and the number decides.
    pub line_read
        : {q : ℕ}
        → r ≡ Ok q
        → (x : Result Number Wrong)
        → ReadNumber s (number_in lo hi 10 (drop q s)) (seek_number lo hi 10 (drop q s)) x
        → ReadNumber s (line_in key lo hi (drop at s)) (seek_line key lo hi (drop at s)) x
    unfolding line_in seek_line
    line_read e (Ok v) number =
        let there = text_read s _ _ r found e in
        record { inside = number.inside; read = onward_got (λ a. number_in lo hi 10) there.read ∙ number.read }
    line_read e (Err w) number =
        let there = text_read s _ _ r found e in
        record {
          refused = onward_got (λ a. number_in lo hi 10) there.read ∙ number.refused;
          ends =
              ends_same
              (rest_got (literal key) (seek_literal key) (seeks_literal key) (λ a. seek_number lo hi 10) (drop at s) there.read)
              number.ends;
        }

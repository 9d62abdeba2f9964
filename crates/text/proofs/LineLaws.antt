-- A line is read exactly where its one text stands. Assumes nothing.
use Prim.Native.Nat.{ℕ, ◌+◌, ◌≤◌}
use mathlib.Core.List.{List, [], ◌∷◌, ◌++◌, append_assoc}
use mathlib.Core.Bool.{false}
use mathlib.Core.Path.{◌≡◌, refl, ap, ap₂, sym, ◌∙◌}
use native.Mathlib.Omega.{arith}
use lib.ListN.{length, length-append}
use Rattle.text.specs.Decimal.{is_digit, decimal, number}
use Rattle.text.specs.Line.{LF, line_text, line}
use Rattle.text.specs.Reader.{got, Reader, onward, ◌>>=◌, ◌>>◌, pure, literal}
use Rattle.kinds.proofs.BetweenLaws.{between_below}
use Rattle.text.proofs.DecimalLaws.{number_written, number_sound, decimal_ten}
use Rattle.text.proofs.ReaderLaws.{got_value, got_rest, onward_got, onward_sound, Reads, Reads-then, behind, literal_written, literal_sound}

-- ---- a number and the byte that ends it, in readers of more than a line

module _ {B : Type 0} (end : ℕ) (f : ℕ → Reader B) where
  -- A number, a byte that is no digit, and what f reads behind them.
  pub ended-written
      : (x : ℕ) (t : List ℕ) {b : B}
      → is_digit end ≡ false
      → Reads (f x) t b
      → Reads (◌>>=◌ number (λ y. ◌>>◌ (literal (end ∷ [])) (f y))) (decimal x ++ (end ∷ t)) b
  ended-written x t e h rest =
      ap (λ (s : List ℕ). onward (number s) (λ y. ◌>>◌ (literal (end ∷ [])) (f y))) (append_assoc (decimal x) (end ∷ t) rest)
      ∙ onward_got (λ y. ◌>>◌ (literal (end ∷ [])) (f y)) (number_written x (end ∷ (t ++ rest)) e)
      ∙ onward_got (λ a. f x) (literal_written (end ∷ []) (t ++ rest))
      ∙ h rest

  -- The number x was found, then the byte, and f read on from what was left.
  pub record Ended (s : List ℕ) (b : B) (rest : List ℕ) : Type 0 where
    pub x : ℕ
    pub left : List ℕ
    pub split : s ≡ decimal x ++ (end ∷ left)
    pub next : f x left ≡ got b rest

  -- What was read is a number's text, the byte, and what f read.
  pub ended-sound
      : (s : List ℕ) {b : B} {rest : List ℕ}
      → ◌>>=◌ number (λ y. ◌>>◌ (literal (end ∷ [])) (f y)) s ≡ got b rest
      → Ended s b rest
  ended-sound s e =
      let n = onward_sound e in
      let l = onward_sound n.next in
      record {
        x = n.value;
        left = l.left;
        split = number_sound s n.first ∙ ap (λ (q : List ℕ). decimal n.value ++ q) (literal_sound (end ∷ []) n.left l.first);
        next = l.next;
      }

-- ---- a line

-- What was written is read back.
pub line_written : (key : List ℕ) (x : ℕ) → Reads (line key) (line_text key x) x
unfolding line line_text
line_written key x =
    Reads-then (literal key) (λ a. ◌>>=◌ number (λ y. ◌>>◌ (literal LF) (pure y))) key (decimal x ++ LF) (literal_written key)
    (ended-written 10 pure x [] (between_below 48 57 10 (omega arith)) (λ rest. refl))

-- What is read is the one text of the line.
pub line_sound : (key s : List ℕ) {x : ℕ} {rest : List ℕ} → line key s ≡ got x rest → s ≡ line_text key x ++ rest
unfolding line line_text
line_sound key s {x} {rest} e =
    let k = onward_sound e in
    let n = ended-sound 10 pure k.left k.next in
    behind key (decimal x ++ LF) rest (literal_sound key s k.first)
    (n.split
    ∙ ap₂ (λ (y : ℕ) (q : List ℕ). decimal y ++ (10 ∷ q)) (got_value n.next) (got_rest n.next)
    ∙ sym (append_assoc (decimal x) LF rest))

-- How long a line is.
pub line_length : (key : List ℕ) (x : ℕ) → length (line_text key x) ≡ length key + (length (decimal x) + 1)
unfolding line_text
line_length key x = simp length-append

-- A line of a number of 32 bits.
pub line_most : (key : List ℕ) (x : ℕ) → x ≤ 4_294_967_295 → length (line_text key x) ≤ length key + 11
line_most key x h = omega (arith, line_length key x, decimal_ten x h)

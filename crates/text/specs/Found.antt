-- What the code's answers say of what a reader finds in a text s: the value, and the place up to which it was read; or that it finds nothing.
-- A value and a place fix one another: no second answer says the same of one find. Assumes nothing.
use Rattle.std.specs.Prelude.{ℕ, ◌+◌, ◌*◌, ◌≤◌, ◌<◌, List, ◌≡◌, length, drop, get_or, Option, Some, None}
use Rattle.text.specs.Reader.{Got, got, lost}
use Rattle.text.specs.declared.Number.{Number}

-- The reader found a, and left what stands in s from the place n on.
pub record Found {A : Type 0} (s : List ℕ) (g : Got A) (a : A) (n : ℕ) : Type 0 where
  pub inside : n ≤ length s
  pub read : g ≡ got a (drop n s)

-- A text that has no value of its own: the place past it.
abbrev pub FoundNext : List ℕ → Got (Unit {0}) → Option ℕ → Type 0
FoundNext s g (Some n) = Found s g tt n
FoundNext s g None = g ≡ lost

-- A number.
abbrev pub FoundNumber : List ℕ → Got ℕ → Option Number → Type 0
FoundNumber s g (Some x) = Found s g x.value x.next
FoundNumber s g None = g ≡ lost

-- The four bytes of s from a place on as one number, the first the lowest. They are bytes, so the number tells each of them.
pub record IsFour (s : List ℕ) (at r : ℕ) : Type 0 where
  pub number : r ≡ get_or s at 0 + get_or s (at + 1) 0 * 256 + get_or s (at + 2) 0 * 65_536 + get_or s (at + 3) 0 * 16_777_216
  pub bytes : (get_or s at 0 < 256) × (get_or s (at + 1) 0 < 256) × (get_or s (at + 2) 0 < 256) × (get_or s (at + 3) 0 < 256)

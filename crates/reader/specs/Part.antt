-- A part of a lent slice, handed back where it lies. Assumes nothing.
use Rattle.std.specs.Prelude.{ℕ, ◌+◌, ◌-◌, min, List, ◌≡◌, length, take, drop}
use Rattle.std.specs.Borrow.{Bor}

-- r is the part of s from a to e itself, and no copy: it starts a bytes behind the start of s, in the same block.
pub record IsPart (s : Bor (List ℕ)) (a e : ℕ) (r : Bor (List ℕ)) : Type 0 where
  pub bytes : r.now ≡ take (e - a) (drop a s.now)
  pub block : r.ref_ptr.0 ≡ s.ref_ptr.0
  pub place : r.ref_ptr.1 ≡ s.ref_ptr.1 + a

-- r is the rest of s from a place on, and no copy: the empty part at the end, if the place lies beyond it.
abbrev pub IsRest : Bor (List ℕ) → ℕ → Bor (List ℕ) → Type 0
IsRest s at r = IsPart s (min at (length s.now)) (length s.now) r

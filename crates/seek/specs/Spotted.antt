-- What the code's answers say of what a seeker finds in a text s: the value and the place past it, or the place of the first wrong byte. The same of a
-- reader whose seeker is asked only if the reader finds nothing. Assumes nothing.
use Rattle.std.specs.Prelude.{ℕ, ◌+◌, ◌≤◌, cond, ◌&&◌, List, ◌≡◌, eqb, length, drop, Result, Ok, Err}
use Rattle.std.specs.List.{prefix_len, zip}
use Rattle.kinds.specs.Sizes.{between}
use Rattle.text.specs.Found.{Found}
use Rattle.text.specs.Reader.{Got, lost}
use Rattle.begins.specs.Seek.{Sought, found, wrong, rest_of}
use Rattle.text.specs.declared.Number.{Number}
use Rattle.seek.specs.declared.Wrong.{Wrong}

-- The seeker's answer is made of what stands in s from n on.
pub record At {A : Type 0} (s : List ℕ) (g : Sought A) (make : List ℕ → Sought A) (n : ℕ) : Type 0 where
  pub inside : n ≤ length s
  pub is : g ≡ make (drop n s)

-- A text that has no value of its own.
abbrev pub SpottedText : List ℕ → Sought (Unit {0}) → Result ℕ Wrong → Type 0
SpottedText s g (Ok n) = At s g (found tt) n
SpottedText s g (Err w) = At s g wrong w.place

-- A number.
abbrev pub SpottedNumber : List ℕ → Sought ℕ → Result Number Wrong → Type 0
SpottedNumber s g (Ok x) = At s g (found x.value) x.next
SpottedNumber s g (Err w) = At s g wrong w.place

-- n is the place past what was found, or that of the first wrong byte.
pub record Ends {A : Type 0} (s : List ℕ) (g : Sought A) (n : ℕ) : Type 0 where
  pub inside : n ≤ length s
  pub is : rest_of g ≡ drop n s

-- ---- what is read, and sought only if it can't be

-- The reader finds nothing, and p is the place where what is sought is wrong.
pub record Missed {A B : Type 0} (s : List ℕ) (g : Got A) (o : Sought B) (p : ℕ) : Type 0 where
  pub refused : g ≡ lost
  pub ends : Ends s o p

-- A text that has no value of its own.
abbrev pub ReadText : {A : Type 0} → List ℕ → Got (Unit {0}) → Sought A → Result ℕ Wrong → Type 0
ReadText s g o (Ok n) = Found s g tt n
ReadText s g o (Err w) = Missed s g o w.place

-- A number.
abbrev pub ReadNumber : {A : Type 0} → List ℕ → Got ℕ → Sought A → Result Number Wrong → Type 0
ReadNumber s g o (Ok x) = Found s g x.value x.next
ReadNumber s g o (Err w) = Missed s g o w.place

-- ---- a literal's bytes

-- How many bytes of the key the text begins with.
abbrev pub same_bytes : List ℕ → List ℕ → ℕ
same_bytes key s = prefix_len (λ p. eqb p.0 p.1) (zip key s)

-- ---- a number's end

-- What is found at the byte c at i, which is no digit, behind the digits of v.
unfoldable pub ended_at : ℕ → ℕ → ℕ → ℕ → ℕ → ℕ → Result Number Wrong
ended_at c i lo hi end v = cond (eqb c end && between lo hi v) (Ok (record { value = v; next = i + 1 })) (Err (record { place = i }))

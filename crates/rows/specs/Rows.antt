-- A row of 20 bytes: four of a number, big-endian, and the 16 of a command. An entry of a log or of a message has its term as the number, a gathered
-- pair its ballot. Any 20 bytes are read as a row; whether it is legal is a test apart. Assumes nothing.
use Rattle.std.specs.Prelude.{ℕ, zero, suc, Bool, true, cond, ◌&&◌, List, [], ◌∷◌, ◌++◌, drop}
use Rattle.kinds.specs.Sizes.{between, row_size}
use Rattle.command.specs.Words.{word, part, word_at}
use Rattle.command.specs.Command.{Command, command_size, legal_command, command_bytes, command_of}
use Rattle.command.specs.Entry.{Entry}

-- A number and a command.
pub record Row : Type 0 where
  pub number : ℕ
  pub command : Command

abbrev pub row_of : ℕ → Command → Row
row_of n c = record { number = n; command = c }

-- The row of an entry, and the entry of a row's parts.
abbrev pub entry_row : Entry → Row
entry_row e = record { number = e.term; command = e.command }

abbrev pub entry_of : ℕ → Command → Entry
entry_of n c = record { term = n; command = c }

-- ---- a row's bytes

-- The bytes of a list's members, one after the other.
unfoldable pub bytes_of : {A : Type 0} → (A → List ℕ) → List A → List ℕ
bytes_of f [] = []
bytes_of f (x ∷ xs) = f x ++ bytes_of f xs

-- Four bytes of number, and the command's.
unfoldable pub row : ℕ → Command → List ℕ
row n c = word 4 n ++ command_bytes c

abbrev pub row_bytes : Row → List ℕ
row_bytes r = row r.number r.command

-- ---- and the rows of bytes

-- What the first n rows make, each of its number and its command.
unfoldable pub rows_in : {A : Type 0} → (ℕ → Command → A) → ℕ → List ℕ → List A
rows_in make zero l = []
rows_in make (suc n) l = make (word_at 0 4 l) (command_of (part 4 command_size l)) ∷ rows_in make n (drop row_size l)

-- ---- legal rows

-- Numbers from low to high, and commands legal; where they have to rise, no number is below the one before.
unfoldable pub legal_rows : Bool → ℕ → ℕ → List Row → Bool
legal_rows rising low high [] = true
legal_rows rising low high (r ∷ rs) =
    between low high r.number && (legal_command r.command && legal_rows rising (cond rising r.number low) high rs)

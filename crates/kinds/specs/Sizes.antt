-- The sizes a home may have (rules R1 to R5 of docs/RULES.md): the group, its hubs and majority, terms, the log's limit, the sizes of texts.
-- Every number of those rules stands here and nowhere else. Assumes nothing.
use Rattle.std.specs.Prelude.{ℕ, ◌+◌, ◌/◌, Bool, ◌&&◌, ◌||◌, leb, eqb}

-- x lies in lo..hi, both ends included.
unfoldable pub between : ℕ → ℕ → ℕ → Bool
between lo hi x = leb lo x && leb x hi

-- Who is called: the group size N, and the hub's own number. They come with every call.
pub record Who : Type 0 where
  pub size : ℕ
  pub own : ℕ

-- Group size N: 3, 5 or 7.
unfoldable pub is_size : ℕ → Bool
is_size n = eqb n 3 || (eqb n 5 || eqb n 7)

-- A group: the hubs that keep one log together. N is the same for all of them.
pub record Group : Type 0 where
  pub size : ℕ

-- A group that may be.
abbrev pub is_group : Group → Bool
is_group g = is_size g.size

-- Hub h of the group.
abbrev pub hub_of : Group → ℕ → Who
hub_of g h = record { size = g.size; own = h }

-- Hubs are 1..N.
unfoldable pub is_hub : ℕ → ℕ → Bool
is_hub n h = between 1 n h

-- The hub numbers that any group may have: 1..7.
abbrev pub hubs_most : ℕ
hubs_most = 7

-- A majority is floor(N/2)+1.
abbrev pub majority : ℕ → ℕ
majority n = n / 2 + 1

-- Terms and ballots: 0..4,294,967,295.
abbrev pub term_most : ℕ
term_most = 4_294_967_295

-- Log: places 1..1,024. One name for the limit: nothing else knows the number.
unfoldable pub limit : ℕ
limit = 1_024

-- Output buffer: at least 65,536 bytes. Input message: at most 65,536 bytes.
unfoldable pub text_room : ℕ
text_room = 65_536

-- An entry takes a row of 20 bytes: four of its number, 16 of its command.
abbrev pub row_size : ℕ
row_size = 20

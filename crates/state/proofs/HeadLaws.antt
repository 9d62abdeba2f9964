-- Laws of the head: a head that fits is read back from its bytes; the head that bytes hold has those bytes; the head of a state. Assumes nothing.
use Prim.Native.Nat.{ℕ, zero, suc, ◌+◌, ◌*◌, ◌^◌, ◌≤◌, ◌<◌}
use native.Mathlib.Omega.{arith}
use native.Mathlib.Nat.{add-zero, add_assoc, zero-add}
use mathlib.Core.Path.{◌≡◌, refl, sym, ◌∙◌}
use mathlib.Core.Bool.{Bool, true, false, cond}
use mathlib.Core.List.{List, [], ◌∷◌, ◌++◌, map, append_assoc}
use borrow.Author.Tests.{leb-true, le-leb}
use lib.Dec.{eqb, leb}
use lib.ListN.{length, take, drop, get_or, set, length-append, length-drop, length-map}
use lib.Seq.{drop-drop, sets, take-add}
use Rattle.kinds.specs.declared.Place.{Place}
use Rattle.kinds.specs.Of.{place, term}
use Rattle.kinds.specs.Sizes.{hubs_most, term_most}
use Rattle.command.specs.Words.{word, value, part, word_at}
use Rattle.command.proofs.WordsLaws.{Bytes, word_length, word_at_word, word_word_at}
use Rattle.state.specs.declared.Head.{Head}
use Rattle.state.specs.State.{Kept, Lost}
use Rattle.state.specs.Legal.{all}
use Rattle.rows.specs.Rows.{bytes_of}
use Rattle.state.specs.Image.{head_size, confirmed_of, flags, words_in, head_bytes}
use Rattle.state.specs.Head.{head_in, is_flag, place_bytes, bytes_of_head, number_bytes, head_of}
use Rattle.kinds.proofs.BoolLaws.{and_first, and_second}
use Rattle.rows.proofs.ListLaws.{sets_then, bytes_of_length, bytes_of_map}
use Rattle.rows.proofs.PartLaws.{word_at_drop, part_front, part_behind, part_split, byte_part, word_at_behind, drop_behind, drop_bytes}

-- ---- voters

-- A byte for each voter.
pub flags_length : (bs : List Bool) → length (flags bs) ≡ length bs
unfolding flags
flags_length bs = length-map bs (λ b. cond b 1 0)

-- Voters are read back from their bytes.
pub flags_read : (bs : List Bool) → map (λ b. eqb b 1) (flags bs) ≡ bs
unfolding flags
flags_read [] = refl
flags_read (true ∷ bs) = rw (flags_read bs)
flags_read (false ∷ bs) = rw (flags_read bs)

-- The byte of each voter, one after the other.
abbrev pub flag_bytes : Bool → List ℕ
flag_bytes b = cond b 1 0 ∷ []

-- Voters' bytes are theirs one after the other.
pub flags_bytes_of : (bs : List Bool) → flags bs ≡ bytes_of flag_bytes bs
unfolding flags bytes_of
flags_bytes_of [] = refl
flags_bytes_of (b ∷ bs) = rw (flags_bytes_of bs)

flag_byte : (b : ℕ) → b ≤ 1 → cond (eqb b 1) 1 0 ≡ b
flag_byte zero h = refl
flag_byte (suc zero) h = refl
flag_byte (suc (suc b)) h = absurd (omega arith)

-- Bytes that are 0 or 1 are those of the voters read from them.
pub flags_bytes : (bs : List ℕ) → all is_flag bs ≡ true → flags (map (λ b. eqb b 1) bs) ≡ bs
unfolding flags all is_flag
flags_bytes [] h = refl
flags_bytes (b ∷ bs) h =
    let low = leb-true b 1 (and_first (is_flag b) (all is_flag bs) h) in
    let more = flags_bytes bs (and_second (is_flag b) (all is_flag bs) h) in
    rw (flag_byte b low, more)

-- Voters have bytes of 0 and 1.
pub flags_are : (bs : List Bool) → all is_flag (flags bs) ≡ true
unfolding flags all is_flag
flags_are [] = refl
flags_are (true ∷ bs) = flags_are bs
flags_are (false ∷ bs) = flags_are bs

-- ---- confirmed lengths

-- A place that four bytes hold.
abbrev pub place_fits : Place → Bool
place_fits p = leb p.0 term_most

-- A place has four bytes.
pub place_bytes_length : (p : Place) → length (place_bytes p) ≡ 4
place_bytes_length p = word_length 4 p.0

-- Places are read back from their bytes.
pub places_read : (ps : List Place) (rest : List ℕ) → all place_fits ps ≡ true → map place (words_in (length ps) (bytes_of place_bytes ps ++ rest)) ≡ ps
unfolding bytes_of words_in all
places_read [] rest h = refl
places_read (p ∷ ps) rest h =
    let fits = leb-true p.0 term_most (and_first (place_fits p) (all place_fits ps) h) in
    let more = places_read ps rest (and_second (place_fits p) (all place_fits ps) h) in
    rw (
      append_assoc (place_bytes p) (bytes_of place_bytes ps) rest,
      word_at_word 4 p.0 (bytes_of place_bytes ps ++ rest) (omega arith),
      drop_behind 4 0 (place_bytes p) (bytes_of place_bytes ps ++ rest) (place_bytes_length p),
      more,
    )

-- The places that bytes hold have those bytes.
pub places_bytes : (n : ℕ) (l : List ℕ) → Bytes l → n * 4 ≤ length l → bytes_of place_bytes (map place (words_in n l)) ≡ take (n * 4) l
unfolding bytes_of words_in part
places_bytes zero l o h = refl
places_bytes (suc n) l o h =
    let e : suc n * 4 ≡ 4 + n * 4 = omega arith in
    let d = length-drop 4 l in
    rw (e, take-add 4 (n * 4) l, word_word_at 0 4 l (omega arith) o, places_bytes n (drop 4 l) (drop_bytes 4 l o) (omega arith))

-- Seven numbers of four bytes, as code reads them.
pub words_seven : (l : List ℕ) (at : ℕ) →
    words_in 7 (drop at l)
    ≡ word_at at 4 l ∷ word_at (at + 4) 4 l ∷ word_at (at + 8) 4 l ∷ word_at (at + 12) 4 l ∷ word_at (at + 16) 4 l ∷ word_at (at + 20) 4 l ∷ word_at (at + 24) 4 l ∷ []
unfolding words_in
words_seven l at = simp (drop-drop, word_at_drop, add_assoc, add-zero)

-- ---- the whole head

-- A head whose numbers fit their bytes, with a voter and a length for each of seven hubs.
pub record Fits (h : Head) : Type 0 where
  pub term : h.term.0 < 256 ^ 4
  pub ballot : h.ballot.0 < 256 ^ 4
  pub chosen : h.chosen.0 < 256 ^ 4
  pub length : h.length.0 < 256 ^ 4
  pub gathered : h.gathered.0 < 256 ^ 4
  pub voters : lib.ListN.length h.voters ≡ hubs_most
  pub confirmed : lib.ListN.length h.confirmed ≡ hubs_most
  pub places : all place_fits h.confirmed ≡ true

-- Heads of seven voters and seven lengths have 56 bytes.
pub bytes_of_head_length : (h : Head) → length h.voters ≡ hubs_most → length h.confirmed ≡ hubs_most → length (bytes_of_head h) ≡ head_size
unfolding bytes_of_head
bytes_of_head_length h v c = simp (length-append, word_length, flags_length, bytes_of_length place_bytes 4 place_bytes_length, v, c)

-- A number that four bytes hold.
abbrev pub number_fits : ℕ → Bool
number_fits n = leb n term_most

-- Number i of numbers that stand in a row.
number_read : (ws : List ℕ) (i : ℕ) (rest : List ℕ) →
    i < length ws →
    all number_fits ws ≡ true →
    word_at (i * 4) 4 (bytes_of (word 4) ws ++ rest) ≡ get_or ws i 0
unfolding bytes_of all
number_read [] i rest h f = absurd (omega arith)
number_read (x ∷ ws) zero rest h f =
    let fits = leb-true x term_most (and_first (number_fits x) (all number_fits ws) f) in
    rw (append_assoc (word 4 x) (bytes_of (word 4) ws) rest) (word_at_word 4 x (bytes_of (word 4) ws ++ rest) (omega arith))
number_read (x ∷ ws) (suc i) rest h f =
    let e : suc i * 4 ≡ 4 + i * 4 = omega arith in
    rw (e, append_assoc (word 4 x) (bytes_of (word 4) ws) rest)
    (word_at_behind 4 (i * 4) 4 (word 4 x) (bytes_of (word 4) ws ++ rest) (word_length 4 x)
    ∙ number_read ws i rest (omega arith) (and_second (number_fits x) (all number_fits ws) f))

module _ (h : Head) (f : Fits h) (rest : List ℕ) where
  numbers : List ℕ
  numbers = h.term.0 ∷ h.ballot.0 ∷ h.chosen.0 ∷ h.length.0 ∷ h.gathered.0 ∷ []

  voter_bytes : List ℕ
  voter_bytes = flags h.voters ++ (bytes_of place_bytes h.confirmed ++ rest)

  in_order : bytes_of_head h ++ rest ≡ bytes_of (word 4) numbers ++ (h.role ∷ voter_bytes)
  unfolding bytes_of_head bytes_of numbers voter_bytes
  in_order = simp append_assoc

  numbers_fit : all number_fits numbers ≡ true
  unfolding all numbers
  numbers_fit =
      rw (
        le-leb h.term.0 term_most (omega (arith, f.term)),
        le-leb h.ballot.0 term_most (omega (arith, f.ballot)),
        le-leb h.chosen.0 term_most (omega (arith, f.chosen)),
        le-leb h.length.0 term_most (omega (arith, f.length)),
        le-leb h.gathered.0 term_most (omega (arith, f.gathered)),
      )

  numbers_long : length (bytes_of (word 4) numbers) ≡ 20
  unfolding numbers
  numbers_long = bytes_of_length (word 4) 4 (word_length 4) numbers

  number : (i : ℕ) → i < 5 → word_at (i * 4) 4 (bytes_of_head h ++ rest) ≡ get_or numbers i 0
  unfolding numbers
  number i l = rw in_order (number_read numbers i (h.role ∷ voter_bytes) l numbers_fit)

  role_read : word_at 20 1 (bytes_of_head h ++ rest) ≡ h.role
  unfolding word_at part value
  role_read =
      rw in_order
      (word_at_behind 20 0 1 (bytes_of (word 4) numbers) (h.role ∷ voter_bytes) numbers_long ∙ zero-add h.role)

  -- The voters' bytes are flags.
  pub voter_part : part 21 hubs_most (bytes_of_head h ++ rest) ≡ flags h.voters
  unfolding part voter_bytes
  voter_part =
      rw (in_order, part_behind 20 1 hubs_most (bytes_of (word 4) numbers) (h.role ∷ voter_bytes) numbers_long)
      (part_front (flags h.voters) (bytes_of place_bytes h.confirmed ++ rest) hubs_most (flags_length h.voters ∙ f.voters))

  voters_read : map (λ b. eqb b 1) (part 21 hubs_most (bytes_of_head h ++ rest)) ≡ h.voters
  voters_read = rw voter_part (flags_read h.voters)

  confirmed_read : map place (words_in hubs_most (drop 28 (bytes_of_head h ++ rest))) ≡ h.confirmed
  unfolding voter_bytes
  confirmed_read =
      let e = sym f.confirmed in
      rw (
        in_order,
        drop_behind 20 8 (bytes_of (word 4) numbers) (h.role ∷ voter_bytes) numbers_long,
        drop_behind hubs_most 0 (flags h.voters) (bytes_of place_bytes h.confirmed ++ rest) (flags_length h.voters ∙ f.voters),
        e,
      )
      (places_read h.confirmed rest f.places)

  -- A head that fits is read back from its bytes, whatever stands behind them.
  pub head_in_bytes : head_in (bytes_of_head h ++ rest) ≡ h
  unfolding head_in numbers
  head_in_bytes i =
      record {
        term = term (number 0 (omega arith) i);
        ballot = term (number 1 (omega arith) i);
        chosen = place (number 2 (omega arith) i);
        length = place (number 3 (omega arith) i);
        gathered = place (number 4 (omega arith) i);
        role = role_read i;
        voters = voters_read i;
        confirmed = confirmed_read i;
      }

module _ (l : List ℕ) (o : Bytes l) (long : head_size ≤ length l) (v : all is_flag (part 21 hubs_most l) ≡ true) where
  number_part : (at : ℕ) → at + 4 ≤ head_size → word 4 (word_at at 4 l) ≡ part at 4 l
  number_part at h = word_word_at at 4 l (omega arith) o

  split :
      part 0 head_size l
      ≡ part 0 4 l ++ (part 4 4 l ++ (part 8 4 l ++ (part 12 4 l ++ (part 16 4 l ++ (part 20 1 l ++ (part 21 7 l ++ part 28 28 l))))))
  split =
      rw (
        part_split l 0 4 52,
        part_split l 4 4 48,
        part_split l 8 4 44,
        part_split l 12 4 40,
        part_split l 16 4 36,
        part_split l 20 1 35,
        part_split l 21 7 28,
      )

  -- The head that bytes hold has those bytes, if the voters' are 0 and 1.
  pub bytes_head_in : bytes_of_head (head_in l) ≡ take head_size l
  unfolding bytes_of_head head_in part
  bytes_head_in =
      rw (
        number_part 0 (omega arith),
        number_part 4 (omega arith),
        number_part 8 (omega arith),
        number_part 12 (omega arith),
        number_part 16 (omega arith),
        flags_bytes (part 21 hubs_most l) v,
        places_bytes hubs_most (drop 28 l) (drop_bytes 28 l o) (omega (arith, length-drop 28 l)),
      )
      (rw (byte_part l 20 (omega arith)) at (sym split))

-- The bytes of a state's head are those of the struct.
pub head_bytes_is : (k : Kept) (l : Lost) → head_bytes k l ≡ bytes_of_head (head_of k l)
unfolding head_bytes bytes_of_head head_of
head_bytes_is k l = rw (bytes_of_map place_bytes place (confirmed_of l))

-- ---- writing a head, part by part

-- The numbers, the role, and what is held for each hub, each behind the one before.
pub head_written : (h : Head) (l : List ℕ) {a b c : List ℕ} →
    a ≡ sets l 0 (number_bytes h) →
    b ≡ set a 20 h.role →
    c ≡ sets b 21 (flags h.voters ++ bytes_of place_bytes h.confirmed) →
    c ≡ sets l 0 (bytes_of_head h)
unfolding bytes_of_head number_bytes
head_written h l ea eb ec =
    let numbers = number_bytes h in
    let role : List ℕ = h.role ∷ [] in
    let hubs = flags h.voters ++ bytes_of place_bytes h.confirmed in
    let n : length numbers ≡ 20 = simp (length-append, word_length) in
    rw (ec, eb, ea, sets_then l 0 20 numbers role (omega arith), sets_then l 0 21 (numbers ++ role) hubs (omega (arith, length-append numbers role)))
    (simp append_assoc)

-- The numbers, one behind the other.
pub numbers_written : (h : Head) (l : List ℕ) {a b c d e : List ℕ} →
    a ≡ sets l 0 (word 4 h.term.0) →
    b ≡ sets a 4 (word 4 h.ballot.0) →
    c ≡ sets b 8 (word 4 h.chosen.0) →
    d ≡ sets c 12 (word 4 h.length.0) →
    e ≡ sets d 16 (word 4 h.gathered.0) →
    e ≡ sets l 0 (number_bytes h)
unfolding number_bytes
numbers_written h l ea eb ec ed ee =
    let then : (at x : ℕ) (m ys : List ℕ) → sets (sets m at (word 4 x)) (at + 4) ys ≡ sets m at (word 4 x ++ ys) =
    λ at x m ys. sets_then m at (at + 4) (word 4 x) ys (omega (arith, word_length 4 x)) in
    rw (ee, ed, ec, eb, ea, then 12, then 8, then 4, then 0)

-- Laws of what reading and writing a command answer: one for each way through the code; and that an answer is the only one. Assumes nothing.
use Prim.Native.Nat.{ℕ, ◌+◌, ◌*◌, ◌/◌, ◌%◌, ◌≤◌, ◌<◌}
use native.Mathlib.Omega.{arith}
use native.Mathlib.Nat.{add-zero}
use mathlib.Core.Path.{◌≡◌, refl, sym, ◌∙◌, ap}
use mathlib.Core.Logic.{⊎_elim}
use mathlib.Core.Bool.{Bool, true, false, ◌&&◌, ◌||◌, and-false}
use mathlib.Core.List.{List, [], ◌++◌, append_assoc, append-nil}
use borrow.Author.Tests.{leb-true, ltb-true, eqb-true, eq-eqb, ne_eqb, lt-ltb, le-ltb}
use lib.Dec.{leb, eqb}
use Rattle.std.specs.Prelude.{Ok, Err}
use lib.IntN.{ℤ, pos, negsuc}
use lib.ListN.{length, drop}
use lib.Seq.{sets, sets-eq}
use lib.Signed.{lt_z}
use mir.Syntax.{w32}
use mir.Val.{SFits, to_z, of_z}
use Rattle.kinds.specs.Sizes.{between}
use Rattle.command.specs.Words.{word, part, word_at, signed, unsigned}
use Rattle.command.specs.Command.{
  Command,
  is_gain,
  is_duration,
  is_zero,
  is_stop,
  is_buzz,
  is_ramp,
  legal_command,
  command_size,
  command_bytes,
  command_of,
}
use Rattle.command.specs.Case.{kind_of, a_of, b_of, command_is, motion_of}
use Rattle.command.specs.declared.Case.{Case}
use Rattle.command.specs.declared.Motion.{Motion}
use Rattle.kinds.specs.Outcome.{done, short_output, bad_command}
use Rattle.kinds.specs.Refusal.{number_of}
use Rattle.kinds.specs.declared.Refusal.{Refusal}
use Rattle.kinds.specs.declared.Refusal.TheVariants.{BadCommand}
use Rattle.kinds.proofs.Clash.{clash}
use Rattle.command.specs.Answers.{
  command_with,
  of_numbers,
  of_words,
  numbers_at,
  is_command,
  numbers_in,
  motion_read,
  judged_outcome,
  ReadsCommand,
  command_numbers,
  list_of,
  as_numbers,
  numbers_read,
  CallResult,
  command_written,
  IsResult,
}
use Rattle.command.specs.declared.Numbers.{Numbers}
use Rattle.command.proofs.Tests.{by_test, both}
use Rattle.command.proofs.WordsLaws.{Bytes, word_join, word_at_halves, word_at_below, word_at_part, part_last, word_then, unsigned_signed, signed_cast}
use Rattle.command.proofs.CommandLaws.{is_duration_signed, is_zero_signed, legal_fields, legal_ranged, command_bytes_length, command_bytes_of, command_of_bytes}
use Rattle.command.proofs.CaseLaws.{Floats, command_is_motion, motion_of_command}

-- ---- the numbers of a command

-- The numbers from a place on are those of the command of the 16 bytes there.
pub of_numbers_at : (at : ℕ) (l : List ℕ) → of_numbers (numbers_at at l) ≡ command_of (part at command_size l)
unfolding of_numbers numbers_at command_of
of_numbers_at at l =
    let inside : (i w : ℕ) → i + w ≤ 16 → word_at (at + i) w l ≡ word_at i w (part at command_size l) =
    λ i w f. sym (word_at_part at 16 i w l f) in
    let first : word_at at 2 l ≡ word_at 0 2 (part at command_size l) = rw add-zero at (inside 0 2 (omega arith)) in
    λ i. record {
      motor = first i;
      kind = inside 2 2 (omega arith) i;
      duration = signed (inside 4 4 (omega arith) i);
      a = inside 8 4 (omega arith) i;
      b = inside 12 4 (omega arith) i;
    }

-- The four words of 16 bytes, joined from bytes, are those of the command of these bytes.
pub of_words_of : (l : List ℕ) → length l ≡ command_size → Bytes l →
    of_words (word_at 0 4 l) (word_at 4 4 l) (word_at 8 4 l) (word_at 12 4 l) ≡ command_of l
unfolding of_words command_of
of_words_of l n bytes =
    let e : word_at 0 4 l ≡ word_at 0 2 l * 65_536 + word_at 2 2 l = word_at_halves 0 l (omega arith) in
    let low : word_at 2 2 l < 65_536 = word_at_below 2 2 l (omega arith) bytes in
    let m : word_at 0 4 l / 65_536 ≡ word_at 0 2 l = omega arith in
    let k : word_at 0 4 l % 65_536 ≡ word_at 2 2 l = omega arith in
    λ i. record { motor = m i; kind = k i; duration = signed (word_at 4 4 l); a = word_at 8 4 l; b = word_at 12 4 l }

-- Legal, as the code tests it: the duration by its bits.
pub legal_numbers : (motor kind x a b : ℕ) →
    legal_command (command_with motor kind (signed x) a b)
    ≡ ((leb 1 motor && leb motor 64)
    && ((eqb kind 0 && (eqb x 0 && (eqb a 0 && eqb b 0)))
    || ((eqb kind 1 && ((leb 1 x && leb x 600_000) && (leb a 0x3f80_0000 && eqb b 0)))
    || (eqb kind 2 && ((leb 1 x && leb x 600_000) && (leb a 0x3f80_0000 && leb b 0x3f80_0000))))))
unfolding legal_command is_stop is_buzz is_ramp is_gain between
legal_numbers motor kind x a b = rw (is_zero_signed x, is_duration_signed x)

-- The numbers of a legal command are small.
pub record Small (n : Numbers) : Type 0 where
  pub motor_most : n.motor ≤ 64
  pub kind_most : n.kind ≤ 2
  pub duration_most : n.duration ≤ 600_000
  pub a_most : n.a ≤ 0x3f80_0000
  pub b_most : n.b ≤ 0x3f80_0000

timed : (x : ℕ) → is_duration (signed x) ≡ true → x ≤ 600_000
unfolding between
timed x h = leb-true x 600_000 (both (leb 1 x) (leb x 600_000) (sym (is_duration_signed x) ∙ h)).1

untimed : (x : ℕ) → signed x ≡ pos 0 → x ≤ 600_000
unfolding is_zero
untimed x h =
    let e : x ≡ 0 = eqb-true x 0 (sym (is_zero_signed x) ∙ ap is_zero h) in
    omega arith

pub legal_small : (n : Numbers) → legal_command (of_numbers n) ≡ true → Small n
unfolding of_numbers
legal_small n h =
    let l = legal_fields (of_numbers n) h in
    let most = l.motor_most in
    ⊎_elim
    (λ s. record { motor_most = most; kind_most = omega (arith, s.kind_is); duration_most = untimed n.duration s.duration_is; a_most = omega (arith, s.a_is); b_most = omega (arith, s.b_is) })
    (⊎_elim
    (λ b. record { motor_most = most; kind_most = omega (arith, b.kind_is); duration_most = timed n.duration b.duration_in; a_most = b.a_in; b_most = omega (arith, b.b_is) })
    (λ r. record { motor_most = most; kind_most = omega (arith, r.kind_is); duration_most = timed n.duration r.duration_in; a_most = r.a_in; b_most = r.b_in }))
    l.kinds

-- A command whose duration is below zero is not legal.
pub negative_illegal : (motor kind a b : ℕ) (d : ℤ) → lt_z d (pos 0) ≡ true → legal_command (command_with motor kind d a b) ≡ false
unfolding legal_command is_stop is_buzz is_ramp is_zero is_duration
negative_illegal motor kind a b (pos n) h = absurd (omega (arith, ltb-true n 0 h))
negative_illegal motor kind a b (negsuc n) h = simp and-false

-- Numbers whose duration is given by the bits of d are those of a command of duration d.
pub of_numbers_with : (motor kind x a b : ℕ) (d : ℤ) → SFits w32 d → x ≡ of_z w32 (to_z w32 (of_z w32 d)) →
    of_numbers (record { motor = motor; kind = kind; duration = x; a = a; b = b }) ≡ command_with motor kind d a b
unfolding of_numbers
of_numbers_with motor kind x a b d fits e = ap (λ (t : ℤ). command_with motor kind t a b) (signed_cast d x fits e)

-- The kind of a case and its two values.
abbrev pub values : Case → ℕ × ℕ × ℕ
values case = (kind_of case, a_of case, b_of case)

-- The numbers of a motion are those of its command.
pub of_numbers_from : (m : Motion) (motor x : ℕ) (t : ℕ × ℕ × ℕ) → SFits w32 m.duration → motor ≡ m.motor → t ≡ values m.case → x ≡ of_z w32 (to_z w32 (of_z w32 m.duration)) →
    of_numbers (record { motor = motor; kind = t.0; duration = x; a = t.1; b = t.2 }) ≡ command_is m
unfolding of_numbers command_is
of_numbers_from m motor x t fits e f g =
    let d = signed_cast m.duration x fits g in
    λ i. record { motor = e i; kind = (f i).0; duration = d i; a = (f i).1; b = (f i).2 }

-- ---- reading

module _ (l : List ℕ) where
  pub is_command_size : (length l ≡ 16 → ⊥) → is_command l ≡ false
  unfolding is_command
  is_command_size h = simp (ne_eqb (length l) 16 h)

  pub is_command_whole : length l ≡ 16 → is_command l ≡ legal_command (command_of (part 0 command_size l))
  unfolding is_command
  is_command_whole h = simp (eq-eqb (length l) 16 h, part_last 0 16 l (omega arith))

  pub is_command_length : is_command l ≡ true → length l ≡ 16
  unfolding is_command
  is_command_length h = eqb-true _ _ (both _ _ h).0

  pub is_command_legal : is_command l ≡ true → legal_command (command_of l) ≡ true
  unfolding is_command
  is_command_legal h = (both (eqb (length l) 16) (legal_command (command_of l)) h).1

  -- The numbers of a command's 16 bytes.
  pub of_numbers_whole : length l ≡ 16 → of_numbers (numbers_at 0 l) ≡ command_of l
  of_numbers_whole h = of_numbers_at 0 l ∙ ap command_of (part_last 0 16 l (omega arith))

  motion_read_legal : is_command l ≡ true → motion_read l ≡ Ok (motion_of (command_of l))
  unfolding motion_read
  motion_read_legal h = rw h

  motion_read_illegal : is_command l ≡ false → motion_read l ≡ Err BadCommand
  unfolding motion_read
  motion_read_illegal h = rw h

  -- Bytes that are not 16 are refused.
  pub numbers_in_size : (length l ≡ 16 → ⊥) → Err BadCommand ≡ numbers_in l
  unfolding numbers_in
  numbers_in_size h = rw (is_command_size h)

  -- Of 16 bytes, by their numbers and the test of these: those of no legal command too.
  module _ (n : Numbers) (b : Bool) (h : length l ≡ 16) (n_is : n ≡ numbers_at 0 l) (b_is : b ≡ legal_command (of_numbers n)) where
    judged : is_command l ≡ b
    unfolding is_command
    judged = rw (eq-eqb (length l) 16 h) (sym (b_is ∙ ap legal_command (ap of_numbers n_is ∙ of_numbers_whole h)))

    pub numbers_in_illegal : b ≡ false → Err BadCommand ≡ numbers_in l
    unfolding numbers_in
    numbers_in_illegal t = rw (judged ∙ t)

    pub numbers_in_legal : b ≡ true → Ok n ≡ numbers_in l
    unfolding numbers_in
    numbers_in_legal t = rw (judged ∙ t) (ap Ok n_is)

  -- What is refused is no command, with outcome 10,
  module _ (r : Refusal) (e : Err r ≡ numbers_in l) where
    pub refused_illegal : (is_command l ≡ false) × (r ≡ BadCommand)
    unfolding numbers_in
    refused_illegal =
        by_test (is_command l) (λ t. let f : Err r ≡ Ok (numbers_at 0 l) = rw t at e in clash cc)
        (λ t. (t, let f : Err r ≡ Err BadCommand = rw t at e in cc))

    pub reads_illegal : ReadsCommand l (Err r)
    unfolding judged_outcome
    reads_illegal =
        let no = refused_illegal.0 in
        record { answer = ap Err refused_illegal.1 ∙ sym (motion_read_illegal no); outcome = rw (no, refused_illegal.1) }

  -- and the numbers are those of a legal command, whose motion is answered, with outcome 0.
  module _ (n : Numbers) (e : Ok n ≡ numbers_in l) where
    pub numbers_legal : (is_command l ≡ true) × (n ≡ numbers_at 0 l)
    unfolding numbers_in
    numbers_legal =
        by_test (is_command l) (λ t. (t, let f : Ok n ≡ Ok (numbers_at 0 l) = rw t at e in cc))
        (λ t. let f : Ok n ≡ Err BadCommand = rw t at e in clash cc)

    of_numbers_read : of_numbers n ≡ command_of l
    of_numbers_read = ap of_numbers numbers_legal.1 ∙ of_numbers_whole (is_command_length numbers_legal.0)

    pub numbers_in_are_legal : legal_command (of_numbers n) ≡ true
    numbers_in_are_legal = ap legal_command of_numbers_read ∙ is_command_legal numbers_legal.0

    pub reads_legal : (m : Motion) → m ≡ motion_of (of_numbers n) → ReadsCommand l (Ok m)
    unfolding judged_outcome
    reads_legal m m_is =
        record { answer = ap Ok (m_is ∙ ap motion_of of_numbers_read) ∙ sym (motion_read_legal numbers_legal.0); outcome = rw numbers_legal.0 }

-- A motion whose command is legal is read back from that command's bytes.
pub motion_read_written : (m : Motion) → Floats m.case → legal_command (command_is m) ≡ true → motion_read (command_bytes (command_is m)) ≡ Ok m
unfolding is_command
motion_read_written m floats legal =
    let l = command_bytes (command_is m) in
    let same : command_of l ≡ command_is m =
    rw append-nil at (command_of_bytes (command_is m) [] (legal_ranged (command_is m) legal)) in
    let sized : eqb (length l) command_size ≡ true = eq-eqb (length l) 16 (command_bytes_length (command_is m)) in
    let is : is_command l ≡ true = rw (sized, same, legal) in
    motion_read_legal l is ∙ ap Ok (ap motion_of same ∙ motion_of_command m floats)

-- What is read as a motion is that motion's command's bytes, and legal.
pub motion_read_sound : (l : List ℕ) (m : Motion) → Bytes l → motion_read l ≡ Ok m →
    (command_bytes (command_is m) ≡ l) × (legal_command (command_is m) ≡ true)
motion_read_sound l m bytes h =
    by_test (is_command l)
    (λ is.
    let legal = is_command_legal l is in
    let e : m ≡ motion_of (command_of l) = (let f : Ok m ≡ Ok (motion_of (command_of l)) = sym h ∙ motion_read_legal l is in cc) in
    let same : command_is m ≡ command_of l = ap command_is e ∙ command_is_motion (command_of l) legal in
    (ap command_bytes same ∙ command_bytes_of l (is_command_length l is) bytes, ap legal_command same ∙ legal))
    (λ is-not. let f : Ok m ≡ Err BadCommand = sym h ∙ motion_read_illegal l is-not in clash cc)

-- ---- writing

module _ (c : Command) (out : List ℕ) where
  pub command_written_short : length out < 16 → IsResult (command_written c out) short_output out
  unfolding command_written
  command_written_short h = rw (lt-ltb (length out) 16 h) (record { outcome_is = refl; out_is = refl })

  pub command_written_illegal : 16 ≤ length out → legal_command c ≡ false → IsResult (command_written c out) bad_command out
  unfolding command_written
  command_written_illegal h no-legal = rw (le-ltb (length out) 16 h, no-legal) (record { outcome_is = refl; out_is = refl })

  pub command_written_done : {out' : List ℕ} → 16 ≤ length out → legal_command c ≡ true → out' ≡ sets out 0 (command_bytes c) →
      IsResult (command_written c out) done out'
  unfolding command_written
  command_written_done h legal wrote =
      let e : sets out 0 (command_bytes c) ≡ command_bytes c ++ drop 16 out =
      rw command_bytes_length at (sets-eq (command_bytes c) out 0 (rw command_bytes_length (omega arith))) in
      rw (le-ltb (length out) 16 h, legal) (record { outcome_is = refl; out_is = wrote ∙ e })

-- The four words of a command, one write after another.
pub four_writes : (motor kind : ℕ) (duration : ℤ) (a b : ℕ) (out : List ℕ) → kind < 65_536 →
    sets (sets (sets (sets out 0 (word 4 (motor * 65_536 + kind))) 4 (word 4 (unsigned duration))) 8 (word 4 a)) 12 (word 4 b)
    ≡ sets out 0 (command_bytes (command_with motor kind duration a b))
unfolding command_bytes
four_writes motor kind duration a b out h =
    rw (
      word_then _ 8 12 4 a (word 4 b) refl,
      word_then _ 4 8 4 (unsigned duration) (word 4 a ++ word 4 b) refl,
      word_then out 0 4 4 (motor * 65_536 + kind) (word 4 (unsigned duration) ++ (word 4 a ++ word 4 b)) refl,
      word_join 2 2 motor kind h,
      append_assoc,
    )

-- The same, of a legal command's numbers.
pub numbers_written : (n : Numbers) (out : List ℕ) → legal_command (of_numbers n) ≡ true →
    sets (sets (sets (sets out 0 (word 4 (n.motor * 65_536 + n.kind))) 4 (word 4 n.duration)) 8 (word 4 n.a)) 12 (word 4 n.b)
    ≡ sets out 0 (command_bytes (of_numbers n))
unfolding of_numbers
numbers_written n out h =
    let small = legal_small n h in
    rw (unsigned_signed n.duration (omega arith)) at (four_writes n.motor n.kind (signed n.duration) n.a n.b out (omega arith))

-- ---- reading into lent numbers

-- The numbers of 16 bytes below 256 are those of their command.
pub numbers_listed : (l : List ℕ) → length l ≡ command_size → Bytes l → list_of (numbers_at 0 l) ≡ as_numbers (command_of l)
unfolding numbers_at command_of
numbers_listed l n bytes =
    let fits : word_at 4 4 l ≤ 4_294_967_295 = omega (arith, word_at_below 4 4 l (omega arith) bytes) in
    rw (unsigned_signed (word_at 4 4 l) fits)

module _ (l numbers : List ℕ) where
  pub numbers_read_short : length numbers < 5 → IsResult (numbers_read l numbers) short_output numbers
  unfolding numbers_read
  numbers_read_short h = rw (lt-ltb (length numbers) 5 h) (record { outcome_is = refl; out_is = refl })

  pub numbers_read_illegal : (r : Refusal) → 5 ≤ length numbers → Err r ≡ numbers_in l → IsResult (numbers_read l numbers) (number_of r) numbers
  unfolding numbers_read
  numbers_read_illegal r h e =
      let no = refused_illegal l r e in
      rw (le-ltb (length numbers) 5 h, no.0) (record { outcome_is = ap number_of no.1; out_is = refl })

  pub numbers_read_done : (n : Numbers) (five : List ℕ) → 5 ≤ length numbers → Bytes l → Ok n ≡ numbers_in l → five ≡ list_of n →
      IsResult (numbers_read l numbers) done (five ++ drop command_numbers numbers)
  unfolding numbers_read
  numbers_read_done n five h bytes e f =
      let legal = numbers_legal l n e in
      let same = f ∙ ap list_of legal.1 ∙ numbers_listed l (is_command_length l legal.0) bytes in
      rw (le-ltb (length numbers) 5 h, legal.0) (record { outcome_is = refl; out_is = ap (λ (ns : List ℕ). ns ++ drop command_numbers numbers) same })

-- Two answers that meet a promise are the same.
pub result_unique : {w : CallResult} {r r' : ℕ} {out out' : List ℕ} → IsResult w r out → IsResult w r' out' → (r ≡ r') × (out ≡ out')
result_unique p q = (p.outcome_is ∙ sym q.outcome_is, p.out_is ∙ sym q.out_is)

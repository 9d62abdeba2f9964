-- Laws of commands: which fields a legal one has, and that a command and its 16 bytes give each other back. Assumes nothing.
use Prim.Native.Nat.{ℕ, zero, suc, ◌+◌, ◌≤◌, ◌<◌}
use native.Mathlib.Omega.{arith}
use mathlib.Core.Path.{◌≡◌, refl, ◌∙◌, ap}
use mathlib.Core.Logic.{◌⊎◌, inl, inr, ⊎_elim}
use mathlib.Core.Bool.{true, false, false≢true, ◌&&◌, and-false}
use mathlib.Core.List.{List, ◌++◌, append_assoc}
use borrow.Author.Tests.{leb-true, eqb-true, lt-leb, ltb-true, ltb-false, ne_eqb}
use lib.Dec.{leb, ltb, eqb}
use lib.IntN.{ℤ, pos, negsuc}
use lib.Signed.{mag}
use lib.ListN.{length, drop, length-append}
use Rattle.kinds.specs.Sizes.{between}
use Rattle.command.specs.Words.{word, part, word_at, signed, unsigned}
use Rattle.command.specs.Command.{Command, is_gain, is_duration, is_zero, is_stop, is_buzz, is_ramp, legal_command, command_size, command_bytes, command_of}
use Rattle.command.proofs.Tests.{by_test, both, either}
use Rattle.command.proofs.WordsLaws.{Bytes, word_bytes, word_then_bytes, word_length, word_at_word, word_at_past, word_word_at, word_at_below, part_then, part_last, signed_low, signed_high, signed_unsigned, unsigned_signed}

-- ---- durations

-- The bits of a duration are legal exactly if they are 1..600,000: never as a large number for one below zero.
pub is_duration_signed : (x : ℕ) → is_duration (signed x) ≡ between 1 600_000 x
unfolding is_duration between
is_duration_signed x =
    by_test (ltb x 2_147_483_648) (λ low. rw (signed_low x (ltb-true _ _ low)))
    (λ high.
    let h : 2_147_483_648 ≤ x = ltb-false _ _ high in
    let out : leb x 600_000 ≡ false = lt-leb x 600_000 (omega arith) in
    rw (signed_high x h, out, and-false))

at_most_zero : (x : ℕ) → (leb 0 x && leb x 0) ≡ eqb x 0
at_most_zero zero = refl
at_most_zero (suc x) = simp (lt-leb (suc x) 0 (omega arith), ne_eqb (suc x) 0 (λ e. omega arith), and-false)

pub is_zero_signed : (x : ℕ) → is_zero (signed x) ≡ eqb x 0
unfolding is_zero
is_zero_signed x =
    by_test (ltb x 2_147_483_648) (λ low. rw (signed_low x (ltb-true _ _ low)) (at_most_zero x))
    (λ high.
    let h : 2_147_483_648 ≤ x = ltb-false _ _ high in
    let out : eqb x 0 ≡ false = ne_eqb x 0 (λ e. omega arith) in
    rw (signed_high x h, out))

-- ---- legal commands

-- The kinds of command that are legal, field by field.
pub record AStop (c : Command) : Type 0 where
  pub kind_is : c.kind ≡ 0
  pub duration_is : c.duration ≡ pos 0
  pub a_is : c.a ≡ 0
  pub b_is : c.b ≡ 0

pub record ABuzz (c : Command) : Type 0 where
  pub kind_is : c.kind ≡ 1
  pub duration_in : is_duration c.duration ≡ true
  pub a_in : c.a ≤ 0x3f80_0000
  pub b_is : c.b ≡ 0

pub record ARamp (c : Command) : Type 0 where
  pub kind_is : c.kind ≡ 2
  pub duration_in : is_duration c.duration ≡ true
  pub a_in : c.a ≤ 0x3f80_0000
  pub b_in : c.b ≤ 0x3f80_0000

-- A legal command's motor, and its kind with the fields that go with it.
pub record Legal (c : Command) : Type 0 where
  pub motor_least : 1 ≤ c.motor
  pub motor_most : c.motor ≤ 64
  pub kinds : AStop c ⊎ (ABuzz c ⊎ ARamp c)

zero_is : (d : ℤ) → is_zero d ≡ true → d ≡ pos 0
unfolding is_zero
zero_is (pos n) h =
    let e : n ≡ 0 = omega (arith, leb-true n 0 (both (leb 0 n) (leb n 0) h).1) in
    ap pos e
zero_is (negsuc n) h = absurd (false≢true h)

module _ (c : Command) where
  a_stop_lem : is_stop c ≡ true → AStop c
  unfolding is_stop
  a_stop_lem h =
      let t = both _ _ h in
      let u = both _ _ t.1 in
      let v = both _ _ u.1 in
      record { kind_is = eqb-true _ _ t.0; duration_is = zero_is _ u.0; a_is = eqb-true _ _ v.0; b_is = eqb-true _ _ v.1 }

  a_buzz : is_buzz c ≡ true → ABuzz c
  unfolding is_buzz is_gain
  a_buzz h =
      let t = both _ _ h in
      let u = both _ _ t.1 in
      let v = both _ _ u.1 in
      record { kind_is = eqb-true _ _ t.0; duration_in = u.0; a_in = leb-true _ _ v.0; b_is = eqb-true _ _ v.1 }

  a_ramp : is_ramp c ≡ true → ARamp c
  unfolding is_ramp is_gain
  a_ramp h =
      let t = both _ _ h in
      let u = both _ _ t.1 in
      let v = both _ _ u.1 in
      record { kind_is = eqb-true _ _ t.0; duration_in = u.0; a_in = leb-true _ _ v.0; b_in = leb-true _ _ v.1 }

  pub legal_fields : legal_command c ≡ true → Legal c
  unfolding legal_command between
  legal_fields h =
      let t = both _ _ h in
      let m = both _ _ t.0 in
      record {
        motor_least = leb-true _ _ m.0;
        motor_most = leb-true _ _ m.1;
        kinds = ⊎_elim (λ s. inl (a_stop_lem s)) (λ s. inr (⊎_elim (λ b. inl (a_buzz b)) (λ r. inr (a_ramp r)) (either _ _ s))) (either _ _ t.1);
      }

-- The field of each number that a command's bytes can hold.
pub record Ranged (c : Command) : Type 0 where
  pub motor_fits : c.motor < 65_536
  pub kind_fits : c.kind < 65_536
  pub duration_fits : mag c.duration < 2_147_483_648
  pub a_fits : c.a < 4_294_967_296
  pub b_fits : c.b < 4_294_967_296

duration_range_lem : (d : ℤ) → is_duration d ≡ true → mag d ≤ 600_000
unfolding is_duration
duration_range_lem (pos n) h = leb-true n 600_000 (both (leb 1 n) (leb n 600_000) h).1
duration_range_lem (negsuc n) h = absurd (false≢true h)

-- A legal command's fields fit its bytes.
pub legal_ranged : (c : Command) → legal_command c ≡ true → Ranged c
legal_ranged c h =
    let l = legal_fields c h in
    ⊎_elim
    (λ s.
    let e : mag c.duration ≡ 0 = ap mag s.duration_is in
    record { motor_fits = omega arith; kind_fits = omega arith; duration_fits = omega arith; a_fits = omega arith; b_fits = omega arith })
    (⊎_elim
    (λ b.
    let e : mag c.duration ≤ 600_000 = duration_range_lem c.duration b.duration_in in
    record { motor_fits = omega arith; kind_fits = omega arith; duration_fits = omega arith; a_fits = omega arith; b_fits = omega arith })
    (λ r.
    let e : mag c.duration ≤ 600_000 = duration_range_lem c.duration r.duration_in in
    record { motor_fits = omega arith; kind_fits = omega arith; duration_fits = omega arith; a_fits = omega arith; b_fits = omega arith }))
    l.kinds

-- ---- its bytes

-- A command has 16 bytes.
pub command_bytes_length : (c : Command) → length (command_bytes c) ≡ command_size
unfolding command_bytes
command_bytes_length c = simp (length-append, word_length)

-- Every byte of a command is one.
pub command_bytes_bytes : (c : Command) → Bytes (command_bytes c)
unfolding command_bytes
command_bytes_bytes c =
    let at_b = word 4 c.b in
    let at_a = word 4 c.a ++ at_b in
    let at-d = word 4 (unsigned c.duration) ++ at_a in
    word_then_bytes 2 c.motor (word 2 c.kind ++ at-d)
    (word_then_bytes 2 c.kind at-d
    (word_then_bytes 4 (unsigned c.duration) at_a (word_then_bytes 4 c.a at_b (word_bytes 4 c.b))))

unsigned_below : (d : ℤ) → mag d < 2_147_483_648 → unsigned d < 4_294_967_296
unfolding unsigned
unsigned_below (pos n) h = omega arith
unsigned_below (negsuc n) h = omega arith

-- The command of a command's bytes, whatever follows them.
pub command_of_bytes : (c : Command) (rest : List ℕ) → Ranged c → command_of (command_bytes c ++ rest) ≡ c
unfolding command_bytes command_of
command_of_bytes c rest r =
    let d = unsigned c.duration in
    let at_b = word 4 c.b ++ rest in
    let at_a = word 4 c.a ++ at_b in
    let at-d = word 4 d ++ at_a in
    let at-k = word 2 c.kind ++ at-d in
    let e : command_bytes c ++ rest ≡ word 2 c.motor ++ at-k = simp append_assoc in
    let past_m : (at w : ℕ) → word_at (2 + at) w (word 2 c.motor ++ at-k) ≡ word_at at w at-k = λ at w. word_at_past 2 c.motor at w at-k in
    let past_k : (at w : ℕ) → word_at (2 + at) w at-k ≡ word_at at w at-d = λ at w. word_at_past 2 c.kind at w at-d in
    let past_d : (at w : ℕ) → word_at (4 + at) w at-d ≡ word_at at w at_a = λ at w. word_at_past 4 d at w at_a in
    let past_a : word_at 4 4 at_a ≡ word_at 0 4 at_b = word_at_past 4 c.a 0 4 at_b in
    let m_is : word_at 0 2 (word 2 c.motor ++ at-k) ≡ c.motor = word_at_word 2 c.motor at-k r.motor_fits in
    let k_is : word_at 0 2 at-k ≡ c.kind = word_at_word 2 c.kind at-d r.kind_fits in
    let d_is : word_at 0 4 at-d ≡ d = word_at_word 4 d at_a (unsigned_below c.duration r.duration_fits) in
    let a_is : word_at 0 4 at_a ≡ c.a = word_at_word 4 c.a at_b r.a_fits in
    let b_is : word_at 0 4 at_b ≡ c.b = word_at_word 4 c.b rest r.b_fits in
    rw e
    (λ i. record {
      motor = m_is i;
      kind = (past_m 0 2 ∙ k_is) i;
      duration = (ap signed (past_m 2 4 ∙ past_k 0 4 ∙ d_is) ∙ signed_unsigned c.duration r.duration_fits) i;
      a = (past_m 6 4 ∙ past_k 4 4 ∙ past_d 0 4 ∙ a_is) i;
      b = (past_m 10 4 ∙ past_k 8 4 ∙ past_d 4 4 ∙ past_a ∙ b_is) i;
    })

-- The bytes of the command of 16 bytes.
pub command_bytes_of : (l : List ℕ) → length l ≡ command_size → Bytes l → command_bytes (command_of l) ≡ l
unfolding command_bytes command_of
command_bytes_of l n h =
    let fits : word_at 4 4 l ≤ 4_294_967_295 = omega (arith, word_at_below 4 4 l (omega arith) h) in
    let end : part 12 4 l ≡ drop 12 l = part_last 12 4 l (omega arith) in
    rw (
      unsigned_signed (word_at 4 4 l) fits,
      word_word_at 0 2 l (omega arith) h,
      word_word_at 2 2 l (omega arith) h,
      word_word_at 4 4 l (omega arith) h,
      word_word_at 8 4 l (omega arith) h,
      word_word_at 12 4 l (omega arith) h,
      end,
      part_then 8 4 l,
      part_then 4 4 l,
      part_then 2 2 l,
      part_then 0 2 l,
    )

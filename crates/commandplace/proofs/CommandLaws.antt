-- A command and the end of its line: one law for each answer of the code, whose premises are what its calls tell. Assumes nothing.
use Rattle.std.specs.Prelude.{Result, Ok, Err}
use Rattle.std.specs.Result.{IsErrAnd}
use Prim.Native.Nat.{ℕ}
use mathlib.Core.List.{List}
use mathlib.Core.Path.{◌≡◌, ◌∙◌, ap, subst}
use lib.ListN.{drop}
use Rattle.text.specs.Line.{LF}
use Rattle.text.specs.declared.Number.{Number}
use Rattle.message.specs.Range.{Range}
use Rattle.begins.specs.Seek.{Sought, found, wrong, on, rest_of, seek_literal}
use Rattle.begins.specs.Commands.{seek_hex, motor_range, kind_range, duration_range, a_range, b_range, made}
use Rattle.begins.specs.Entries.{seek_rest, seek_command}
use Rattle.seek.specs.Spotted.{At, SpottedNumber, Ends}
use Rattle.seek.specs.declared.Wrong.{Wrong}
use Rattle.commandplace.specs.Passed.{Past, Passed, seek_tail}
use Rattle.seek.proofs.SoughtLaws.{number_is, number_wrong, wrong_first, found_first, ends_wrong, ends_same}

-- Something whose value is not told.
module _ {A : Type 0} (s : List ℕ) (g : Sought A) (x : Result ℕ Wrong) (h : Passed s g x) where
  -- It was found.
  pub passed_is : {n : ℕ} → x ≡ Ok n → Past s g n
  passed_is e = subst (λ (y : Result ℕ Wrong). Passed s g y) e h

  -- It is wrong.
  pub passed_wrong : {w : Wrong} → x ≡ Err w → At s g wrong w.place
  passed_wrong e = subst (λ (y : Result ℕ Wrong). Passed s g y) e h

-- An error, as `?` passes it on.
pub passed_err : {A : Type 0} (s : List ℕ) (g : Sought A) (w : Wrong) (x : Result ℕ Wrong) → IsErrAnd x (λ e. e ≡ w) → At s g wrong w.place → Passed s g x
passed_err s g w (Ok n) h a = absurd h
passed_err s g w (Err e) h a = rw h a

-- ---- the numbers of a command behind its motor and kind

module _
    (s : List ℕ) (at kind : ℕ) {d : Range} (l : d ≡ duration_range kind)
    (x : Result Number Wrong) (duration : SpottedNumber s (seek_hex 8 d (drop at s)) x)
  where
    first : SpottedNumber s (seek_hex 8 (duration_range kind) (drop at s)) x
    first = rw l at duration

    -- The duration is wrong.
    pub rest_no_duration : {w : Wrong} → x ≡ Err w → (motor : ℕ) → At s (seek_rest motor kind (drop at s)) wrong w.place
    unfolding seek_rest
    rest_no_duration e motor = wrong_first _ (number_wrong s _ x first e)

    module _
        {p : Number} (e : x ≡ Ok p) {r : Range} (m : r ≡ a_range kind)
        (y : Result Number Wrong) (a : SpottedNumber s (seek_hex 8 r (drop p.next s)) y)
      where
        second : SpottedNumber s (seek_hex 8 (a_range kind) (drop p.next s)) y
        second = rw m at a

        past-duration
            : (motor : ℕ)
            → seek_rest motor kind (drop at s)
            ≡ on (seek_hex 8 (a_range kind) (drop p.next s)) (λ v r. on (seek_hex 8 (b_range kind) r) (λ w. found (made motor kind p.value v w)))
        unfolding seek_rest
        past-duration motor = found_first _ (number_is s _ x first e)

        -- The number a is wrong.
        pub rest_no_a : {w : Wrong} → y ≡ Err w → (motor : ℕ) → At s (seek_rest motor kind (drop at s)) wrong w.place
        rest_no_a f motor = rw (past-duration motor) (wrong_first _ (number_wrong s _ y second f))

        module _
            {q : Number} (f : y ≡ Ok q) {o : Range} (n : o ≡ b_range kind)
            (z : Result Number Wrong) (b : SpottedNumber s (seek_hex 8 o (drop q.next s)) z)
          where
            third : SpottedNumber s (seek_hex 8 (b_range kind) (drop q.next s)) z
            third = rw n at b

            past_a
                : (motor : ℕ)
                → seek_rest motor kind (drop at s) ≡ on (seek_hex 8 (b_range kind) (drop q.next s)) (λ w. found (made motor kind p.value q.value w))
            past_a motor = past-duration motor ∙ found_first _ (number_is s _ y second f)

            -- The number b is wrong.
            pub rest_no_b : {w : Wrong} → z ≡ Err w → (motor : ℕ) → At s (seek_rest motor kind (drop at s)) wrong w.place
            rest_no_b g motor = rw (past_a motor) (wrong_first _ (number_wrong s _ z third g))

            -- All three were found.
            pub rest_all : {r : Number} → z ≡ Ok r → (motor : ℕ) → Past s (seek_rest motor kind (drop at s)) r.next
            rest_all {r} g motor =
                let last = number_is s _ z third g in
                record { value = made motor kind p.value q.value r.value; at = record { inside = last.inside; is = past_a motor ∙ found_first _ last } }

-- ---- a command

module _ (s : List ℕ) (at : ℕ) (x : Result Number Wrong) (motor : SpottedNumber s (seek_hex 4 motor_range (drop at s)) x) where
  -- The motor is wrong.
  pub command_no_motor : {w : Wrong} → x ≡ Err w → At s (seek_command (drop at s)) wrong w.place
  unfolding seek_command
  command_no_motor e = wrong_first _ (number_wrong s _ x motor e)

  module _ {m : Number} (e : x ≡ Ok m) (y : Result Number Wrong) (kind : SpottedNumber s (seek_hex 4 kind_range (drop m.next s)) y) where
    past_motor : seek_command (drop at s) ≡ on (seek_hex 4 kind_range (drop m.next s)) (seek_rest m.value)
    unfolding seek_command
    past_motor = found_first (λ n r. on (seek_hex 4 kind_range r) (seek_rest n)) (number_is s _ x motor e)

    -- The kind is wrong.
    pub command_no_kind : {w : Wrong} → y ≡ Err w → At s (seek_command (drop at s)) wrong w.place
    command_no_kind f = rw past_motor (wrong_first _ (number_wrong s _ y kind f))

    -- The rest decides.
    pub command-rest
        : {k : Number}
        → y ≡ Ok k
        → (r : Result ℕ Wrong)
        → ((n : ℕ) → Passed s (seek_rest n k.value (drop k.next s)) r)
        → Passed s (seek_command (drop at s)) r
    command-rest f r h = rw (past_motor ∙ found_first (seek_rest m.value) (number_is s _ y kind f)) (h m.value)

-- ---- a command and the end of its line

module _ (s : List ℕ) (at : ℕ) (x : Result ℕ Wrong) (command : Passed s (seek_command (drop at s)) x) where
  -- The command is wrong.
  pub tail_no_command : {w : Wrong} → x ≡ Err w → Ends s (seek_tail (drop at s)) w.place
  tail_no_command e = ends_wrong (wrong_first _ (passed_wrong s _ x command e))

  -- The line's end decides.
  pub tail_end : {n r : ℕ} → x ≡ Ok n → Ends s (seek_literal LF (drop n s)) r → Ends s (seek_tail (drop at s)) r
  tail_end e = ends_same (ap rest_of (found_first (λ c. seek_literal LF) (passed_is s _ x command e).at))

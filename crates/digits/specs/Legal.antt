-- What is told of a command by the digits of its numbers. Assumes nothing.
use Rattle.std.specs.Prelude.{ℕ, ◌<◌, Bool, ◌≡◌}
use Rattle.command.specs.Words.{signed}
use Rattle.command.specs.Command.{legal_command}
use Rattle.command.specs.Answers.{command_with}
use Rattle.digits.specs.Digits.{in_digits}

-- r tells of the command whose numbers have these digits whether it is legal.
abbrev pub Tells : ℕ → ℕ → ℕ → ℕ → ℕ → Bool → Type 0
Tells motor kind duration a b r =
    (m k d x y : ℕ)
    → m < 65_536
    → k < 65_536
    → d < 4_294_967_296
    → x < 4_294_967_296
    → y < 4_294_967_296
    → motor ≡ in_digits 2 m
    → kind ≡ in_digits 2 k
    → duration ≡ in_digits 4 d
    → a ≡ in_digits 4 x
    → b ≡ in_digits 4 y
    → r ≡ legal_command (command_with m k (signed d) x y)

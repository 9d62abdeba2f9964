-- What a whole number's conversion to a binary32 rests on: its binary digits, moved up until there are 24 of them. Assumes nothing.
use Rattle.std.specs.Prelude.{ℕ, ◌-◌, ◌*◌, ◌%◌, ◌^◌, ◌≤◌, ◌<◌, ◌≡◌}

-- Of the z zeros in front of n's 32 binary digits all but 8 are moved behind them.
pub record Moved (n z : ℕ) : Type 0 where
  pub least : 12 ≤ z
  pub most : z ≤ 31
  pub kept : n * 2 ^ (z - 8) % 2 ^ 32 ≡ n * 2 ^ (z - 8)  -- no digit is lost
  pub leading : 0x80_0000 ≤ n * 2 ^ (z - 8)  -- the first of the 24 is a 1
  pub few : n * 2 ^ (z - 8) < 0x100_0000
  pub worth : n * 2 ^ (z - 8) * 2 ^ (157 - z) ≡ n * 2 ^ 149  -- by how much the exponent makes up for it

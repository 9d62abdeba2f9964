-- Laws of legal entries: the first of them, and other bounds. Assumes nothing.
use Prim.Native.Nat.{ℕ, ◌≤◌}
use native.Mathlib.Omega.{arith}
use mathlib.Core.Path.{◌≡◌, refl}
use mathlib.Core.Bool.{true, ◌&&◌}
use mathlib.Core.List.{List, [], ◌∷◌}
use Rattle.kinds.specs.Sizes.{between}
use Rattle.kinds.proofs.BetweenLaws.{between_in, between_true}
use Rattle.command.specs.Command.{legal_command}
use Rattle.command.specs.Entry.{Entry, legal_entries}
use Rattle.command.proofs.Tests.{both}

-- ---- one entry after another

-- What legal entries say of the first.
pub record First (low high : ℕ) (e : Entry) (es : List Entry) : Type 0 where
  pub from : low ≤ e.term
  pub to : e.term ≤ high
  pub command : legal_command e.command ≡ true
  pub rest : legal_entries e.term high es ≡ true

pub legal_entries_first : (low high : ℕ) (e : Entry) (es : List Entry) → legal_entries low high (e ∷ es) ≡ true → First low high e es
unfolding legal_entries
legal_entries_first low high e es h =
    let here = between low high e.term in
    let legal = legal_command e.command in
    let rest = legal_entries e.term high es in
    let first = both here (legal && rest) h in
    let range = between_true low high e.term first.0 in
    let more = both legal rest first.1 in
    record { from = range.0; to = range.1; command = more.0; rest = more.1 }

pub first_legal_entries : (low high : ℕ) (e : Entry) (es : List Entry) → First low high e es → legal_entries low high (e ∷ es) ≡ true
unfolding legal_entries
first_legal_entries low high e es f =
    rw (between_in low high e.term f.from f.to, f.command, f.rest)

-- ---- other bounds

-- Legal within bounds, legal within wider ones.
pub legal_entries_wider :
    (low low' high high' : ℕ) (es : List Entry) → low' ≤ low → high ≤ high'
    → legal_entries low high es ≡ true → legal_entries low' high' es ≡ true
unfolding legal_entries
legal_entries_wider low low' high high' [] p q h = refl
legal_entries_wider low low' high high' (e ∷ es) p q h =
    let f = legal_entries_first low high e es h in
    first_legal_entries low' high' e es
    (record {
      from = omega (arith, f.from);
      to = omega (arith, f.to);
      command = f.command;
      rest = legal_entries_wider e.term e.term high high' es (omega arith) q f.rest;
    })

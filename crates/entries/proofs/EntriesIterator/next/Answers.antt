-- `entries::Entries::next` meets its contract: a line stands there, its entry is given, and the lines behind it are left. Assumes nothing.
use mathlib.Core.Path.{sym, ◌∙◌, ap}
use mathlib.Core.List.{List, ◌∷◌}
use Prim.Native.Nat.{ℕ, ◌-◌}
use Rattle.std.proofs.Common.{rules}
use Rattle.std.proofs.lemmas.List.{take_rest}
use Rattle.message.specs.Walk.{entries_from}
use Rattle.entries.specs.Found.{entry_of}
use Rattle.entries.proofs.WalkLaws.{lie_there, lie_next}
use Rattle.entries.proofs.EntriesIterator.next.Goals as goal

-- A line stands there.
pub next_entry-next-requires : goal.next_entry-next-requires
next_entry-next-requires c = lie_there _ _ c.self.invariant (search rules)

-- One line less stands behind it.
pub invariant_of-self : goal.invariant_of-self
invariant_of-self c =
    rw (take_rest c.self.inside.lines.now c.next_entry-next.result.1)
    (lie_next _ _ c.self.invariant (search rules) c.next_entry-next.ensures).lie

-- Its entry is the first of those that were left.
pub returns-clause-steps : goal.returns-clause-steps
returns-clause-steps c =
    sym c.self.view_is
    ∙ (lie_next _ _ c.self.invariant (search rules) c.next_entry-next.ensures).entries_are
    ∙ ap (λ (s : List ℕ). entry_of c.next_entry-next.result.0 ∷ entries_from (c.self.inside.left - 1) s)
    (sym (take_rest c.self.inside.lines.now c.next_entry-next.result.1))

-- So one entry less is left.
pub returns-clause-goes : goal.returns-clause-goes
returns-clause-goes c =
    let steps = returns-clause-steps c in
    record { on = λ f. search rules; keeps = search rules; rests = search rules }

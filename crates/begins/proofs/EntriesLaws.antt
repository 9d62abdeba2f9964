-- Entry lines are sought exactly: one whose term lies in a range that is not empty, and so many of them. Assumes nothing.
use Prim.Native.Nat.{ℕ, zero, suc, ◌≤◌, ◌<◌}
use native.Mathlib.Omega.{arith}
use mathlib.Core.Path.{◌≡◌, sym, ◌∙◌}
use mathlib.Core.Bool.{true}
use mathlib.Core.List.{List, [], ◌∷◌}
use Rattle.kinds.proofs.BetweenLaws.{between_above}
use Rattle.text.specs.Line.{LF}
use Rattle.text.specs.Reader.{got, Reader, onward, pure, literal, ◌>>=◌, ◌>>◌}
use Rattle.text.specs.Hex.{hex_bytes}
use Rattle.text.specs.Range.{number_in}
use Rattle.text.proofs.ReaderLaws.{got_same, onward_never, onward_same, onward_sound}
use Rattle.command.specs.Command.{Command, command_of, command_size, legal_command}
use Rattle.command.specs.Entry.{Entry}
use Rattle.message.specs.Text.{entry=}
use Rattle.message.specs.Range.{legal_only, entry_in, entries_in}
use Rattle.begins.specs.Seek.{found, seek_literal}
use Rattle.begins.specs.Digits.{seek_number}
use Rattle.begins.specs.Commands.{command_in}
use Rattle.begins.specs.Entries.{seek_command, seek_entry, seek_entries}
use Rattle.begins.proofs.Seeks.{Seeks, seeks_then, seeks_pure, seeks_literal, seeks_same}
use Rattle.begins.proofs.NumberLaws.{seeks_number, number_range}
use Rattle.begins.proofs.CommandsLaws.{seeks_command, command_then}

-- ---- an entry

abbrev entry_of : ℕ → Command → Entry
entry_of term c = record { term = term; command = c }

-- What is read behind an entry's command.
abbrev ended : ℕ → Command → Reader Entry
ended term c = ◌>>◌ (literal LF) (pure (entry_of term c))

-- What is read behind an entry's term and its colon.
abbrev after : ℕ → Reader Entry
after term = ◌>>=◌ command_in (ended term)

-- An entry, its command by ranges.
abbrev entry_by : ℕ → ℕ → Reader Entry
entry_by low high = ◌>>◌ (literal entry=) (◌>>=◌ (number_in low high 58) after)

legal_only_legal : (e : Entry) (s : List ℕ) → legal_command e.command ≡ true → legal_only e s ≡ got e s
unfolding legal_only
legal_only_legal e s h = rw (h, legal_only)

after_is : (term : ℕ) (s : List ℕ) →
    after term s ≡ onward (hex_bytes command_size s) (λ bs. ◌>>◌ (literal LF) (legal_only (entry_of term (command_of bs))))
unfolding legal_only
after_is term s =
    sym (command_then (λ c. ◌>>◌ (literal LF) (legal_only (entry_of term c))) (ended term)
    (λ c e r. onward_same (literal LF r) (λ a q. legal_only_legal (entry_of term c) q e))
    (λ c e r. onward_never (literal LF r) (λ a. legal_only (entry_of term c)) (λ a q. rw (e, legal_only))) s)

-- A command by ranges is 16 bytes that are a legal command.
entry_in_by : (low high : ℕ) (s : List ℕ) → entry_by low high s ≡ entry_in low high s
unfolding entry_in
entry_in_by low high s = onward_same (literal entry= s) (λ a r. onward_same (number_in low high 58 r) (λ x q. after_is x q))

-- An entry whose term lies in a range that is not empty.
pub seeks_entry : (low high : ℕ) → low ≤ high → Seeks (entry_in low high) (seek_entry low high)
unfolding seek_entry
seeks_entry low high h =
    seeks_same (entry_by low high) (entry_in low high) (seek_entry low high) (entry_in_by low high)
    (seeks_then (literal entry=) (λ a. ◌>>=◌ (number_in low high 58) after) (seek_literal entry=) _ (seeks_literal entry=)
    (λ a t e. seeks_then (number_in low high 58) after (seek_number low high 58) _ (seeks_number low high 58 h (between_above 48 57 58 (omega arith)))
    (λ x t e. seeks_then command_in (ended x) seek_command _ seeks_command
    (λ c t e. seeks_then (literal LF) (λ a. pure (entry_of x c)) (seek_literal LF) (λ a. found (entry_of x c)) (seeks_literal LF)
    (λ a t e. seeks_pure (entry_of x c))))))

-- The term that is read lies there.
pub entry_term : (low high : ℕ) (s : List ℕ) {e : Entry} {rest : List ℕ} → entry_in low high s ≡ got e rest → (low ≤ e.term) × (e.term ≤ high)
entry_term low high s h =
    let k = onward_sound (entry_in_by low high s ∙ h) in
    let n = onward_sound k.next in
    let c = onward_sound n.next in
    let l = onward_sound c.next in
    got_same (λ y r. (low ≤ y.term) × (y.term ≤ high)) l.next (number_range low high 58 k.left n.first)

-- ---- entries

-- So many entries, their range not empty if there are any.
pub seeks_entries : (n low high : ℕ) → (0 < n → low ≤ high) → Seeks (entries_in n low high) (seek_entries n low high)
unfolding entries_in seek_entries
seeks_entries zero low high h = seeks_pure []
seeks_entries (suc n) low high h =
    seeks_then (entry_in low high) _ (seek_entry low high) _ (seeks_entry low high (h (omega arith)))
    (λ e t r.
    let w = entry_term low high t r in
    seeks_then (entries_in n e.term high) (λ es. pure (e ∷ es)) (seek_entries n e.term high) (λ es. found (e ∷ es))
    (seeks_entries n e.term high (λ p. w.1)) (λ es u q. seeks_pure (e ∷ es)))

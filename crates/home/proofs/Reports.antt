-- What a hub reports, by its bytes, by its view, and to C. Assumes nothing.
use Prim.Native.Nat.{ℕ, zero, suc, ◌≤◌}
use native.Mathlib.Omega.{arith}
use mathlib.Core.Path.{◌≡◌, refl, sym, ◌∙◌, ap}
use mathlib.Core.Logic.{◌↔◌}
use mathlib.Core.Bool.{Bool, true, false}
use mathlib.Core.List.{List}
use mathlib.Core.Option.{Option, none, some}
use borrow.Author.Tests.{ltb-true, ltb-false}
use lib.Dec.{ltb}
use lib.ListN.{length, take, length-map}
use lib.Seq.{length-take-le}
use Rattle.command.specs.Command.{Command, command_size}
use Rattle.command.specs.Entry.{Entry}
use Rattle.state.specs.State.{Kept, reported_by, reported_at}
use Rattle.state.specs.Image.{read_kept, reported_in}
use Rattle.state.proofs.ImageLaws.{read_kept_sound}
use Rattle.state.proofs.ReportLaws.{reported_at_entry}
use Rattle.rules.specs.Outcome.{done, bad_state, short_output, out_of_range}
use Rattle.rules.specs.Report.{told, reporting, report_of, counting}
use Rattle.state.proofs.LegalLaws.{legal_kept_is}
use Rattle.paxos.specs.Paxos.{at}
use Rattle.paxos.proofs.Member.{clash}
use Rattle.views.specs.Hall.{blank, Says}
use Rattle.kinds.proofs.AtLaws.{at_in, at_lt, at_take, at_map}
use Rattle.home.specs.View.{view_of, view_in}
use Rattle.home.specs.Safe.{Hands, HandedIsReported, CountedIsReported}
use Rattle.home.proofs.ViewLaws.{holds_is, holds_entry, said_lt, lt_said}
use Rattle.kinds.specs.Packed.{packed}

-- ---- by bytes and by view

-- What is reported the view says.
reported_says : (k : Kept) (p : ℕ) (c : Command) → reported_at k p ≡ some c → Says (view_of k) p c
unfolding reported_at reported_by
reported_says k zero c q = clash (cc)
reported_says k (suc i) c q =
    let (e, taken, is) = at_map (λ (x : Entry). x.command) (take k.chosen k.log) i c q in
    let (lt, held) = at_take k.chosen k.log i e taken in
    record { ballot = k.ballot; says = lt_said k.chosen i lt; holds = holds_entry k.ballot k.log i e held ∙ ap (at k.ballot) (sym is) }

-- And the other way round.
says_reported : (k : Kept) (p : ℕ) (c : Command) → Says (view_of k) p c → reported_at k p ≡ some c
says_reported k p c r =
    let (i, place, lt) = said_lt k.chosen p r.says in
    let x = holds_is k.ballot k.log p r.ballot c r.holds in
    ap (reported_at k) x.place ∙ reported_at_entry k x.index x.entry (omega (arith, x.place)) x.is ∙ ap some (sym x.command)

-- Whatever the bytes.
pub bytes_say : (l : List ℕ) (p : ℕ) (c : Command) → (reported_in l p ≡ some c) ↔ Says (view_in l) p c
unfolding reported_in view_in
bytes_say l p c = by (read_kept l)
  where
    by :
        (x : Option Kept)
        → (elim x [ none ↦ none | some k ↦ reported_at k p ] ≡ some c) ↔ Says (elim x [ none ↦ blank | some k ↦ view_of k ]) p c
    by none = (λ q. clash (cc), λ r. clash (let said = r.says in cc))
    by (some k) = (reported_says k p c, says_reported k p c)

-- ---- to C

-- What is reported, once the kept parts are read.
reported_by_lem : (l : List ℕ) (p : ℕ) (x : Option Kept) → read_kept l ≡ x → reported_in l p ≡ elim x [ none ↦ none | some k ↦ reported_at k p ]
unfolding reported_in
reported_by_lem l p x e = ap (λ (y : Option Kept). elim y [ none ↦ none | some k ↦ reported_at k p ]) e

-- What is handed over is reported.
pub handed_is_reported : HandedIsReported
unfolding reporting told
handed_is_reported l p out = by (read_kept l) refl
  where
    at :
        (k : Kept) → read_kept l ≡ some k → (short : Bool) → ltb (length out) command_size ≡ short → (y : Option Command) → reported_at k p ≡ y
        → ((report_of l p out).outcome ≡ done) ↔ ((c : Command) × Hands l p out c)
    at k e true f y g = (
      λ h. clash (let z : short_output ≡ done = sym (rw (e, f) refl) ∙ h in cc),
      λ (c, x). absurd (omega (arith, x.room, ltb-true (length out) command_size f)),
    )
    at k e false f none g = (
      λ h. clash (let z : out_of_range ≡ done = sym (rw (e, f, g) refl) ∙ h in cc),
      λ (c, x). clash (let q = x.reports in let r = reported_by_lem l p (some k) e ∙ g in cc),
    )
    at k e false f (some c) g = (
      λ h.
          (c, record { reports = reported_by_lem l p (some k) e ∙ g; room = ltb-false (length out) command_size f; bytes = rw (e, f, g) refl }),
      λ x. rw (e, f, g) refl,
    )

    by : (x : Option Kept) → read_kept l ≡ x → ((report_of l p out).outcome ≡ done) ↔ ((c : Command) × Hands l p out c)
    by none e = (
      λ h. clash (let z : bad_state ≡ done = sym (rw e refl) ∙ h in cc),
      λ (c, x). clash (let q = x.reports in let r = reported_by_lem l p none e in cc),
    )
    by (some k) e = at k e (ltb (length out) command_size) refl (reported_at k p) refl

-- As many as are chosen.
reported_length : (k : Kept) → k.chosen ≤ length k.log → length (reported_by k) ≡ k.chosen
unfolding reported_by
reported_length k le = length-map (take k.chosen k.log) (λ (e : Entry). e.command) ∙ length-take-le k.chosen k.log le

-- What is counted is reported.
pub counted_is_reported : CountedIsReported
unfolding counting reported_at
counted_is_reported l n p h = by (read_kept l) refl
  where
    places : (k : Kept) → k.chosen ≤ length k.log → (p : ℕ) → ((1 ≤ p) × (p ≤ k.chosen)) ↔ ((c : Command) × (reported_at k p ≡ some c))
    places k le zero = (λ (a, b). absurd (omega arith), λ (c, q). clash (cc))
    places k le (suc i) = (
      λ (a, b). at_in (reported_by k) i (omega (arith, reported_length k le)),
      λ (c, q). (omega arith, omega (arith, reported_length k le, at_lt (reported_by k) i c q)),
    )

    by : (x : Option Kept) → read_kept l ≡ x → ((1 ≤ p) × (p ≤ n)) ↔ ((c : Command) × (reported_in l p ≡ some c))
    by none e = absurd (let z : bad_state ≡ packed done n = sym (rw e refl) ∙ h in omega arith)
    by (some k) e =
        let z : packed done k.chosen ≡ packed done n = sym (rw e refl) ∙ h in
        let same : k.chosen ≡ n = omega arith in
        let (there, back) = places k (legal_kept_is k (read_kept_sound l k e).1).chosen p in (
          λ (a, b). let (c, q) = there (a, omega arith) in (c, reported_by_lem l p (some k) e ∙ q),
          λ (c, q). let (a, b) = back (c, sym (reported_by_lem l p (some k) e) ∙ q) in (a, omega arith),
        )

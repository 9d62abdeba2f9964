-- Several entry lines that are checked one after the other. Assumes nothing.
use Prim.Native.Nat.{◌+◌, ◌-◌, ◌<◌, ◌≤◌, zero, suc, ℕ}
use lib.ListN.{drop, length}
use mathlib.Core.List.{List, [], ◌∷◌, ◌++◌}
use mathlib.Core.Path.{◌∙◌, ◌≡◌, ap, ap₂, refl, sym}
use native.Mathlib.Omega.{arith}
use Rattle.command.specs.Entry.{Entry}
use Rattle.text.proofs.ReaderLaws.{got_rest, got_value, lost_never, onward-assoc, onward_got, onward_lost, onward_pure, onward_same, onward_sound}
use Rattle.text.specs.Reader.{Got, got, lost, onward, pure}
use Rattle.message.specs.Range.{entries_in, entry_in, least_after}
use Rattle.begins.specs.Seek.{rest_of}
use Rattle.begins.specs.Entries.{seek_entry, seek_entries}
use Rattle.begins.proofs.AgreeLaws.{entries_wrong, least_open}
use Rattle.seek.specs.Spotted.{ReadNumber}
use Rattle.seek.specs.declared.Wrong.{Wrong}
use Rattle.text.specs.declared.Number.{Number}
use Rattle.std.specs.Prelude.{Result, Ok, Err}
use Rattle.seek.proofs.SoughtLaws.{read_is, read_wrong, ends_same}
use Rattle.entries.specs.Found.{FoundEntries, term_of}

-- What is read behind entries: so many more, their terms from where those ended.
entriesIn-more
    : (n k low high : ℕ) (s : List ℕ) {es : List Entry} {rest : List ℕ}
    → entries_in n low high s ≡ got es rest
    → entries_in (n + k) low high s ≡ onward (entries_in k (least_after low es) high rest) (λ fs. pure (es ++ fs))
unfolding entries_in least_after onward
entriesIn-more zero k low high s {es} {rest} h =
    let none : [] ≡ es = got_value h in
    let here : s ≡ rest = got_rest h in
    let same : 0 + k ≡ k = omega arith in
    rw (same, ← none, ← here) (sym (onward_same (entries_in k low high s) (λ fs t. refl) ∙ onward_pure (entries_in k low high s)))
entriesIn-more (suc n) k low high s {es} {rest} h =
    let w = onward_sound {g = entry_in low high s} {f = λ e t. onward (entries_in n e.term high t) (λ fs. pure (e ∷ fs))} h in
    let e = w.value in
    let v = onward_sound {g = entries_in n e.term high w.left} {f = λ fs. pure (e ∷ fs)} w.next in
    let are : e ∷ v.value ≡ es = got_value v.next in
    let here : v.left ≡ rest = got_rest v.next in
    let more = entriesIn-more n k e.term high w.left v.first in
    let same : suc n + k ≡ suc (n + k) = omega arith in
    ap (λ (m : ℕ). entries_in m low high s) same
    ∙ onward_got _ w.first
    ∙ ap (λ (g : Got (List Entry)). onward g (λ fs. pure (e ∷ fs))) more
    ∙ onward-assoc (entries_in k (least_after e.term v.value) high v.left) _ _
    ∙ ap₂ (λ (l : List Entry) (r : List ℕ). onward (entries_in k (least_after low l) high r) (λ fs. pure (l ++ fs))) are here

-- Behind the last entry its term is the least.
least_last : (low : ℕ) (es : List Entry) (e : Entry) → least_after low (es ++ (e ∷ [])) ≡ e.term
unfolding least_after
least_last low [] e = refl
least_last low (x ∷ es) e = least_last x.term es e

-- Where no term is found there is no entry.
term_of_lost : (g : Got Entry) → term_of g ≡ lost → g ≡ lost
unfolding onward
term_of_lost lost e = refl
term_of_lost (got x rest) e = absurd (lost_never (sym e))

-- So many of count lines were read, up to the place `next`; the next term is at least `least`.
pub record Walking (s : List ℕ) (at count low high next read least : ℕ) : Type 0 where
  pub inside : next ≤ length s
  pub most : read ≤ count
  pub before : List Entry
  pub so_far : entries_in read low high (drop at s) ≡ got before (drop next s)
  pub least_is : least ≡ least_after low before

-- At first none was.
pub walking_none : (s : List ℕ) (at count low high : ℕ) → at ≤ length s → Walking s at count low high at 0 low
unfolding entries_in least_after
walking_none s at count low high h = record { inside = h; most = omega arith; before = []; so_far = refl; least_is = refl }

module _ {s : List ℕ} {at count low high next read least : ℕ} (h : Walking s at count low high next read least) where
  -- No line is left.
  pub walking_done : count ≤ read → FoundEntries s at count low high (Ok next)
  walking_done done =
      let all : read ≡ count = omega (arith, h.most, done) in
      record { entries = h.before; found = record { inside = h.inside; read = ap (λ (n : ℕ). entries_in n low high (drop at s)) (sym all) ∙ h.so_far } }

  -- The next line may have some term.
  pub walking_open : low ≤ high → least ≤ high
  walking_open open-range = rw h.least_is (least_open read low high (drop at s) open-range h.so_far)

  module _
      (more : read < count) (open-range : low ≤ high) (r : Result Number Wrong)
      (found : ReadNumber s (term_of (entry_in least high (drop next s))) (seek_entry least high (drop next s)) r)
    where
      -- The next line is none: its first wrong byte is that of all lines.
      pub walking_stuck : {w : Wrong} → r ≡ Err w → {x : Result ℕ Wrong} → x ≡ Err w → FoundEntries s at count low high x
      unfolding entries_in
      walking_stuck e is =
          let missed = read_wrong s _ _ r found e in
          let none : entry_in (least_after low h.before) high (drop next s) ≡ lost = rw (← h.least_is) (term_of_lost _ missed.refused) in
          let left : count ≡ read + suc (count - read - 1) = omega arith in
          let sought : rest_of (seek_entries count low high (drop at s)) ≡ rest_of (seek_entry least high (drop next s)) =
          rw h.least_is (entries_wrong read count low high (drop at s) open-range more h.so_far none) in
          rw is (record {
            refused = rw left (entriesIn-more read (suc (count - read - 1)) low high (drop at s) h.so_far ∙ onward_lost _ (onward_lost _ none));
            ends = ends_same sought missed.ends;
          })

      -- The next line was read.
      pub walking_again : {x : Number} → r ≡ Ok x → Walking s at count low high x.next (read + 1) x.value
      unfolding entries_in least_after
      walking_again {x} e =
          let f = read_is s _ _ r found e in
          let w = onward_sound f.read in
          let is : entry_in least high (drop next s) ≡ got w.value (drop x.next s) = w.first ∙ ap (got w.value) (got_rest w.next) in
          let one : entries_in 1 (least_after low h.before) high (drop next s) ≡ got (w.value ∷ []) (drop x.next s) =
          rw (← h.least_is) (onward_got _ is ∙ onward_got _ refl) in
          record {
            inside = f.inside;
            most = omega arith;
            before = h.before ++ (w.value ∷ []);
            so_far = entriesIn-more read 1 low high (drop at s) h.so_far ∙ onward_got _ one;
            least_is = sym (got_value w.next) ∙ sym (least_last low h.before w.value);
          }

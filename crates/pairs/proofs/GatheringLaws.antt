-- Laws of gathering, as the walk over the entries goes: what one row becomes, and what is left to gather. Assumes nothing.
use Prim.Native.Nat.{ℕ, zero, suc, ◌+◌, ◌-◌, ◌<◌, ◌≤◌}
use native.Mathlib.Omega.{arith}
use mathlib.Core.Path.{◌≡◌, refl, sym, ◌∙◌, ap}
use mathlib.Core.Bool.{Bool, true, false, cond, not, ◌&&◌}
use mathlib.Core.List.{List, [], ◌∷◌}
use borrow.Author.Tests.{ltb-true, ltb-false, lt-ltb, le-ltb}
use lib.Dec.{ltb}
use lib.ListN.{length}
use lib.Seq.{sets, length-sets}
use Rattle.kinds.specs.Sizes.{row_size}
use Rattle.command.specs.Words.{word_at}
use Rattle.command.specs.Entry.{Entry}
use Rattle.entries.specs.Found.{entry_of}
use Rattle.entries.specs.declared.Entry.{Entry as Entry-as-told}
use Rattle.rows.specs.Rows.{row}
use Rattle.rows.specs.Words.{row_words}
use Rattle.rows.proofs.WordsLaws.{row_words_lem}
use Rattle.pairs.specs.Gather.{row_gathered, gathered_into}

-- ---- one row

module _ (l : List ℕ) (at : ℕ) (held : Bool) (ballot : ℕ) (new : List ℕ) where
  -- A held pair stays whose ballot is not lower.
  pub row_stays : held ≡ true → ballot ≤ word_at at 4 l → l ≡ row_gathered l at held ballot new
  unfolding row_gathered
  row_stays h e = rw (h, le-ltb _ _ e)

  -- One whose ballot is lower is replaced.
  pub row_raised : word_at at 4 l < ballot → sets l at new ≡ row_gathered l at held ballot new
  unfolding row_gathered
  row_raised e = go held
    where
      go : (b : Bool) → sets l at new ≡ cond (b && not (ltb (word_at at 4 l) ballot)) l (sets l at new)
      go true = rw (lt-ltb _ _ e)
      go false = refl

  -- Where none is held, one comes.
  pub row_free : held ≡ false → sets l at new ≡ row_gathered l at held ballot new
  unfolding row_gathered
  row_free h = rw h

-- A row keeps its bytes' places, whatever it becomes.
pub row_length : (l : List ℕ) (at : ℕ) (held : Bool) (ballot : ℕ) (new : List ℕ) → length (row_gathered l at held ballot new) ≡ length l
unfolding row_gathered
row_length l at held ballot new = go (held && not (ltb (word_at at 4 l) ballot))
  where
    go : (b : Bool) → length (cond b l (sets l at new)) ≡ length l
    go true = refl
    go false = length-sets l at new

-- ---- one row after the other

either : (b : Bool) (x y : List ℕ) → cond b x y ≡ cond (not b) y x
either true x y = refl
either false x y = refl

-- The first of the entries comes to its row; the others follow.
gathered_first :
    (l : List ℕ) (at held ballot : ℕ) (e : Entry) (es : List Entry) (b : Bool) → ltb 0 held ≡ b
    → gathered_into l at held ballot (e ∷ es) ≡ gathered_into (row_gathered l at b ballot (row ballot e.command)) (at + row_size) (held - 1) ballot es
unfolding gathered_into row_gathered
gathered_first l at zero ballot e es b h = rw (sym h ∙ le-ltb 0 0 (omega arith))
gathered_first l at (suc held) ballot e es b h =
    let less : suc held - 1 ≡ held = omega arith in
    rw (sym h ∙ lt-ltb 0 (suc held) (omega arith), less)
    (ap (λ (x : List ℕ). gathered_into x (at + row_size) held ballot es) (either (ltb (word_at at 4 l) ballot) (sets l at (row ballot e.command)) l))

-- Whether held rows are left after n rows.
still_held : (n held : ℕ) (b : Bool) → ltb n held ≡ b → ltb 0 (held - n) ≡ b
still_held n held true h = lt-ltb 0 (held - n) (omega (arith, ltb-true n held h))
still_held n held false h = le-ltb 0 (held - n) (omega (arith, ltb-false n held h))

-- ---- the walk

-- No entry is left.
pub gathering_ends : (l : List ℕ) (at held ballot : ℕ) {left : List Entry} → left ≡ [] → gathered_into l at held ballot left ≡ l
unfolding gathered_into
gathering_ends l at held ballot e = rw e

-- The n-th entry came to its row; the others follow.
pub gathering_next :
    (l : List ℕ) (at held ballot n : ℕ) (e : Entry-as-told) (others : List Entry) {left : List Entry} {b : Bool} {l' : List ℕ} → left ≡ entry_of e ∷ others
    → b ≡ ltb n held → e.command.duration ≤ 4_294_967_295 → l' ≡ row_gathered l at b ballot (row_words ballot e.command)
    → gathered_into l at (held - n) ballot left ≡ gathered_into l' (at + row_size) (held - (n + 1)) ballot others
gathering_next l at held ballot n e others {b = b} {l'} are test small wrote =
    let new : row ballot (entry_of e).command ≡ row_words ballot e.command = row_words_lem ballot e.command small in
    let fewer : held - n - 1 ≡ held - (n + 1) = omega arith in
    ap (gathered_into l at (held - n) ballot) are
    ∙ gathered_first l at (held - n) ballot (entry_of e) others b (still_held n held b (sym test))
    ∙ ap (λ (x : List ℕ). gathered_into (row_gathered l at b ballot x) (at + row_size) (held - n - 1) ballot others) new
    ∙ ap (λ (x : List ℕ). gathered_into x (at + row_size) (held - n - 1) ballot others) (sym wrote)
    ∙ ap (λ (m : ℕ). gathered_into l' (at + row_size) m ballot others) fewer

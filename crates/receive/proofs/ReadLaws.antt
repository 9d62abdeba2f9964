-- Laws of a text that was read: which message the code's fields and the entry lines stand for. Assumes nothing.
use Prim.Native.Nat.{ℕ}
use mathlib.Core.Path.{◌≡◌, refl, sym, ◌∙◌, ap, subst}
use mathlib.Core.Bool.{true}
use mathlib.Core.List.{List}
use mathlib.Core.Option.{Option, none, some}
use denote.Ref.{Bor}
use lib.ListN.{drop}
use Rattle.message.specs.Message.{Message}
use Rattle.message.specs.Legal.{legal_message}
use Rattle.message.specs.Text.{read, part_from}
use Rattle.message.specs.Walk.{entries_from, Lie}
use Rattle.message.specs.Answer.{many_in, message_by, fields_of}
use Rattle.message.specs.declared.Fields.{Fields}
use Rattle.message.proofs.AnswerLaws.{many_in_entries, message_back}
use Rattle.message.proofs.ReadLaws.{read_sound}
use Rattle.entries.proofs.WalkLaws.{part_follow}
use Rattle.reader.specs.Answer.{read_as, Reads}
use Rattle.reader.specs.Part.{IsRest}
use Rattle.seek.specs.declared.Wrong.{Wrong}
use Rattle.std.specs.Prelude.{Result, Ok}
use Rattle.reader.specs.declared.Read.{Read}
use Rattle.reader.proofs.AnswerLaws.{part_within, refused_never}
use Rattle.reader.proofs.PartLaws.{rest_bytes}
use Rattle.refuse.specs.Received.{message_heard}

-- A text whose fields and entry lines were found: they stand for its message, which is legal.
pub record Stands (input : List ℕ) (f : Fields) (lines : List ℕ) : Type 0 where
  pub read_is : read input ≡ some (message_heard f lines)
  pub lie : Lie (many_in f.body) lines
  pub legal : legal_message (message_heard f lines) ≡ true

-- The message of a text: the code's fields of it, and the lines of its entries.
message_stands : (input : List ℕ) (m : Message) → read input ≡ some m → Stands input (fields_of m) (drop (part_from input (some m)) input)
unfolding fields_of
message_stands input m h =
    let lines = drop (part_from input (some m)) input in
    let follow = part_follow input m h in
    let many = many_in_entries m.body in
    let back : message_heard (fields_of m) lines ≡ m =
    ap (λ (n : ℕ). message_by (fields_of m) (entries_from n lines)) many ∙ ap (message_by (fields_of m)) follow.entries_are ∙ message_back m in
    record {
      read_is = h ∙ ap some (sym back);
      lie = subst (λ (n : ℕ). Lie n lines) (sym many) follow.lie;
      legal = ap legal_message back ∙ (read_sound input m h).legal;
    }

-- The reader found fields, and where the entry lines begin.
fields_stand :
    (input : List ℕ) (p : ℕ) {found : Read} → read_as input p (read input) ≡ Ok found → {lines : List ℕ} → lines ≡ drop found.entries input
    → Stands input found.fields lines
unfolding read_as
fields_stand input p {found} e {lines} is = by (read input) refl e
  where
    by : (o : Option Message) → read input ≡ o → read_as input p o ≡ Ok found → Stands input found.fields lines
    by none q e = absurd (refused_never e)
    by (some m) q e =
        let f= : fields_of m ≡ found.fields = cc in
        let at= : part_from input (some m) ≡ found.entries = cc in
        subst (λ (x : Fields). Stands input x lines) f=
        (subst (Stands input (fields_of m)) (ap (λ (n : ℕ). drop n input) at= ∙ sym is) (message_stands input m q))

-- The reader's part from there on holds the entry lines.
pub lines_stand :
    (s r : Bor (List ℕ)) {a : Result Read Wrong} {found : Read} → Reads s.now a → a ≡ Ok found → IsRest s found.entries r → Stands s.now found.fields r.now
lines_stand s r {a} {found} told is rest =
    fields_stand s.now told.place (sym told.answer ∙ is)
    (rest_bytes s r found.entries (part_within s.now told.place (read s.now) a told.answer is) rest)

-- Laws of vote-yes: what the rule says by what the code tests, and what a vote that is counted makes of the bytes. Assumes nothing.
use Prim.Native.Nat.{ℕ, ◌+◌, ◌-◌, ◌*◌, ◌≤◌, max}
use native.Mathlib.Omega.{arith}
use mathlib.Core.Path.{◌≡◌, refl, sym, ◌∙◌, ap}
use mathlib.Core.Bool.{Bool, true, false, not}
use mathlib.Core.List.{List, ◌++◌, map}
use mathlib.Core.Option.{none}
use borrow.Author.Tests.{eqb-true, not-false}
use lib.Dec.{ltb, eqb}
use lib.ListN.{length, get_or, set, length-map, length-set}
use Rattle.kinds.specs.Role.{as_candidate}
use Rattle.kinds.specs.Sizes.{Who, hubs_most, limit, row_size}
use Rattle.command.specs.Entry.{Entry}
use Rattle.message.specs.Message.{vote_yes}
use Rattle.state.specs.declared.Head.{Head}
use Rattle.state.specs.State.{Kept, Lost, follower, candidate, leader, State}
use Rattle.state.specs.Legal.{legal_lost, legal_state}
use Rattle.rows.specs.Rows.{Row, entry_row}
use Rattle.state.specs.Image.{head_size, role_of, voters_of, gathered_of, confirmed_of, image, state_in}
use Rattle.state.specs.Head.{head_in, bytes_of_head, head_of}
use Rattle.state.specs.Table.{pair_row, rows_of, table}
use Rattle.state.proofs.HeadLaws.{bytes_of_head_length}
use Rattle.state.proofs.ImageLaws.{image_is}
use Rattle.state.proofs.TableLaws.{pairs_fit}
use Rattle.rules.specs.Events.{is_candidate}
use Rattle.rules.specs.Receive.{idle, effect, gather, counted, heard_yes, contradicts}
use Rattle.kinds.proofs.BoolLaws.{or_first}
use Rattle.state.proofs.LegalLaws.{legal_candidate_is, legal_state_kept, legal_state_lost}
use Rattle.message.proofs.LegalLaws.{IsYes, yes_is}
use Rattle.rules.proofs.GatherLaws.{gather_length}
use Rattle.promise.specs.Promise.{Ready, Ruled}
use Rattle.pairs.specs.Gather.{gathered_into}
use Rattle.promise.proofs.PromiseLaws.{ready_image, ready_legal, ready_size, ready_head, ready_role, ready_length, ready_gathered, ready_who}
use Rattle.promise.proofs.LostLaws.{rows_within}
use Rattle.promise.proofs.PromiseLaws.{idle_ruled, effect_ruled}
use Rattle.pairs.proofs.GatherLaws.{gathered_table}
use Rattle.gather.specs.Yes.{Hears, Counts, with_voter, counted_into}
use Rattle.gather.proofs.CountedLaws.{counted_written, voter_head}

-- ---- the rule

module _ (w : Who) (k : Kept) (from ballot : ℕ) (entries : List Entry) where
  -- At another role.
  yes_other : (l : Lost) → (role_of l ≡ as_candidate → ⊥) → heard_yes w (record { kept = k; lost = l }) from ballot entries ≡ idle
  unfolding heard_yes role_of
  yes_other follower h = refl
  yes_other (candidate voters gathered) h = absurd (h refl)
  yes_other (leader confirmed) h = refl

  -- From a voter seen before.
  yes_seen :
      (l : Lost) → role_of l ≡ as_candidate → get_or (voters_of l) (from - 1) false ≡ true
      → heard_yes w (record { kept = k; lost = l }) from ballot entries ≡ idle
  unfolding heard_yes role_of voters_of
  yes_seen follower h e = refl
  yes_seen (candidate voters gathered) h e = rw e
  yes_seen (leader confirmed) h e = refl

  -- From a new voter.
  yes_new :
      (l : Lost) → role_of l ≡ as_candidate → get_or (voters_of l) (from - 1) false ≡ false
      → heard_yes w (record { kept = k; lost = l }) from ballot entries
      ≡ effect (counted w k (set (voters_of l) (from - 1) true) (gather (gathered_of l) ballot entries)) none
  unfolding heard_yes role_of voters_of gathered_of
  yes_new follower h e = absurd (omega arith)
  yes_new (candidate voters gathered) h e = rw e
  yes_new (leader confirmed) h e = absurd (omega arith)

-- ---- what is gathered

-- At a candidate, a legal vote-yes that does not contradict has a place behind the log for each entry.
yes_room :
    (k : Kept) (l : Lost) (last ballot : ℕ) (es : List Entry) → role_of l ≡ as_candidate → IsYes k.term last ballot es
    → contradicts (record { kept = k; lost = l }) (vote_yes last ballot es) ≡ false → length k.log + length es ≤ limit
unfolding role_of contradicts is_candidate
yes_room k follower last ballot es role fields agrees = absurd (omega arith)
yes_room k (leader confirmed) last ballot es role fields agrees = absurd (omega arith)
yes_room k (candidate voters gathered) last ballot es role fields agrees =
    let n = length k.log in
    let same = eqb-true last n (not-false (eqb last n) (or_first (not (eqb last n)) (ltb k.ballot ballot) agrees)) in
    omega (arith, fields.within)

-- The entries are gathered, and the vote is counted.
yes_written :
    (w : Who) (k : Kept) (l : Lost) (from ballot : ℕ) (es : List Entry) → role_of l ≡ as_candidate → legal_state w (record { kept = k; lost = l }) ≡ true
    → length k.log + length es ≤ limit
    → counted_into w (with_voter (head_of k l) from (max (length (gathered_of l)) (length es)))
    (gathered_into (image (record { kept = k; lost = l })) (head_size + length k.log * row_size) (length (gathered_of l)) ballot es)
    ≡ image (counted w k (set (voters_of l) (from - 1) true) (gather (gathered_of l) ballot es))
unfolding role_of voters_of gathered_of confirmed_of head_of rows_of legal_lost
yes_written w k follower from ballot es role legal room = absurd (omega arith)
yes_written w k (leader confirmed) from ballot es role legal room = absurd (omega arith)
yes_written w k (candidate voters gathered) from ballot es role legal room =
    let s : State = record { kept = k; lost = candidate voters gathered } in
    let c = legal_candidate_is w k voters gathered (legal_state_lost w s legal) in
    let before = head_of k (candidate voters gathered) in
    let head = bytes_of_head before in
    let long = bytes_of_head_length before c.seven refl in
    let entries : List Row = map entry_row k.log in
    let n = length-map k.log entry_row in
    let at : head_size + length k.log * row_size ≡ head_size + length entries * row_size = omega arith in
    let more = gather gathered ballot es in
    let size = gather_length gathered ballot es in
    let fit = pairs_fit k.term gathered c.pairs (legal_state_kept w s legal).term in
    let after = with_voter before from (max (length gathered) (length es)) in
    ap (λ (x : List ℕ). counted_into w after (gathered_into x (head_size + length k.log * row_size) (length gathered) ballot es)) (image_is s)
    ∙ ap (λ (a : ℕ). counted_into w after (gathered_into (head ++ table (entries ++ map pair_row gathered)) a (length gathered) ballot es)) at
    ∙ ap (counted_into w after) (gathered_table head long ballot entries gathered es fit (omega (arith, c.room)) (omega arith))
    ∙ ap (λ (m : ℕ). counted_into w (with_voter before from m) (head ++ table (entries ++ map pair_row more))) (sym size)
    ∙ ap (λ (x : Head). counted_into w x (head ++ table (entries ++ map pair_row more))) (voter_head k voters gathered more from)
    ∙ counted_written w k (set voters (from - 1) true) (length-set voters (from - 1) true ∙ c.seven) more (omega (arith, c.room)) head long

-- ---- the bytes

-- The sender is one of seven.
pub heard_from : {w : Who} {l : List ℕ} {from ballot : ℕ} {es : List Entry} → Hears w l from ballot es → (1 ≤ from) × (from ≤ hubs_most)
heard_from {w} {l} hears = (hears.yes.first, omega (arith, hears.yes.within, (ready_who w l hears.yes.ready).most))

module _ (w : Who) (l : List ℕ) (from ballot : ℕ) (es : List Entry) (hears : Hears w l from ballot es) {h : Head} (e : h ≡ head_in l) where
  ready : Ready w l
  ready = hears.yes.ready

  all_of : h ≡ head_of (state_in l).kept (state_in l).lost
  all_of = e ∙ ready_head w l ready

  role_is : h.role ≡ role_of (state_in l).lost
  role_is = ap (λ (x : Head). x.role) e ∙ ready_role w l ready

  voters_are : h.voters ≡ voters_of (state_in l).lost
  unfolding head_of
  voters_are = ap (λ (x : Head). x.voters) all_of

  length_is : h.length.0 ≡ length (state_in l).kept.log
  length_is = ap (λ (x : Head). x.length.0) e ∙ ready_length w l ready

  gathered_is : h.gathered.0 ≡ length (gathered_of (state_in l).lost)
  gathered_is = ap (λ (x : Head). x.gathered.0) e ∙ ready_gathered w l ready

  -- Another role.
  pub heard_other : (h.role ≡ as_candidate → ⊥) → Ruled (heard_yes w (state_in l) from ballot es) l false l
  heard_other role = idle_ruled l (yes_other w (state_in l).kept from ballot es (state_in l).lost (λ f. role (role_is ∙ f)))

  -- A voter seen before.
  pub heard_seen : h.role ≡ as_candidate → get_or h.voters (from - 1) false ≡ true → Ruled (heard_yes w (state_in l) from ballot es) l false l
  heard_seen role seen =
      idle_ruled l
      (yes_seen w (state_in l).kept from ballot es (state_in l).lost (sym role_is ∙ role)
      (ap (λ (vs : List Bool). get_or vs (from - 1) false) (sym voters_are) ∙ seen))

  module _ (role : h.role ≡ as_candidate) where
    stands : role_of (state_in l).lost ≡ as_candidate
    stands = sym role_is ∙ role

    room : length (state_in l).kept.log + length es ≤ limit
    room =
        let k = (state_in l).kept in
        yes_room k (state_in l).lost hears.last ballot es stands (yes_is k.term hears.last ballot es hears.yes.legal)
        hears.yes.agrees

    -- The entries have a place behind the log.
    pub heard_room : h.length.0 + length es ≤ limit
    heard_room = omega (arith, length_is, room)

    -- The votes may be counted.
    pub heard_counts : {f : Head} {l1 : List ℕ} → f ≡ with_voter h from (max h.gathered.0 (length es)) → length l1 ≡ length l → Counts w f l1
    unfolding with_voter
    heard_counts ef same =
        let who = ready_who w l ready in
        record {
          own_first = who.first;
          own_last = omega (arith, who.last, who.most);
          room =
              omega (
                arith,
                heard_room,
                rows_within w l ready,
                ap (λ (x : Head). x.length.0) e,
                ap (λ (x : Head). x.gathered.0) e,
                ap (λ (x : Head). x.length.0) ef,
                ap (λ (x : Head). x.gathered.0) ef,
              );
          long = same ∙ ready_size w l ready;
        }

    written :
        counted_into w (with_voter h from (max h.gathered.0 (length es))) (gathered_into l (head_size + h.length.0 * row_size) h.gathered.0 ballot es)
        ≡ image
        (counted w (state_in l).kept (set (voters_of (state_in l).lost) (from - 1) true) (gather (gathered_of (state_in l).lost) ballot es))
    unfolding head_of
    written =
        rw (gathered_is, length_is, all_of)
        (rw (ready_image w l ready) at
        (yes_written w (state_in l).kept (state_in l).lost from ballot es stands (ready_legal w l ready) room))

    -- A new voter.
    pub heard_new :
        get_or h.voters (from - 1) false ≡ false → {first : ℕ} {f : Head} {l1 l2 : List ℕ} → first ≡ head_size + h.length.0 * row_size
        → l1 ≡ gathered_into l first h.gathered.0 ballot es → f ≡ with_voter h from (max h.gathered.0 (length es))
        → l2 ≡ counted_into w f l1 → Ruled (heard_yes w (state_in l) from ballot es) l true l2
    heard_new new efirst e1 ef e2 =
        let told = yes_new w (state_in l).kept from ballot es (state_in l).lost stands
        (ap (λ (vs : List Bool). get_or vs (from - 1) false) (sym voters_are) ∙ new) in
        effect_ruled _ l _ told (rw (e2, ef, e1, efirst) written)

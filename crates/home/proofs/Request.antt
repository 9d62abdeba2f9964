-- A vote-request of a higher term: the hub raises its term; with a yes it gives its report to the asker, as the message carries it. Assumes nothing.
use Prim.Native.Nat.{ℕ, ◌<◌}
use native.Mathlib.Omega.{arith}
use mathlib.Core.Path.{sym, ap}
use mathlib.Core.List.{List}
use mathlib.Core.Option.{some}
use lib.ListN.{length, drop}
use Rattle.command.specs.Command.{Command}
use Rattle.command.specs.Entry.{Entry}
use Rattle.message.specs.Message.{Body}
use Rattle.state.specs.State.{State}
use Rattle.rules.specs.Events.{says, with_term}
use Rattle.rules.specs.Receive.{ballot_told, vote, follower_at}
use Rattle.rules.proofs.LegalLaws.{IsWho}
use Rattle.rules.proofs.VoteLaws.{vote_either}
use Rattle.paxos.specs.Paxos.{◌∈◌}
use Rattle.views.specs.Hall.{gave, Hall}
use Rattle.views.specs.Moves.{Move}
use Rattle.views.proofs.Moves.{reach, answer}
use Rattle.kinds.specs.Sizes.{Group, hub_of}
use Rattle.home.specs.View.{machine, entry_counts, holds_of, view_of}
use Rattle.home.specs.Stands.{Logs, Ground, Yields, Rooted}
use Rattle.kinds.proofs.AtLaws.{at_drop}
use Rattle.home.proofs.ViewLaws.{holds_is, holds_told}
use Rattle.home.proofs.Frame.{Goes, goes}
use Rattle.home.proofs.Start.{is_hub_lem}

-- The report of a hub, as a vote-yes carries it, at the ballot told.
yields :
    {H : Hall Command} (h t to last b : ℕ) (log : List Entry) → gave h t to (holds_of b log) ∈ H.gifts
    → Yields H h t to last (ballot_told (length log) b) (drop last log)
unfolding holds_of
yields h t to last b log given =
    let told = ballot_told (length log) b in
    record {
      seen = holds_of told log;
      given = rw (holds_told b log) at given;
      low = λ p k c e. let x = holds_is told log p k c e in omega (arith, x.ballot);
      beyond = λ i. ap (entry_counts told) (sym (at_drop last log i));
    }

module _ {G : Group} {H : Hall Command} {made : Logs} (ok : Ground G H made) {h : ℕ} (w : IsWho (hub_of G h)) {s : State} (f : Rooted G H made h s)
    (t : ℕ) (higher : s.kept.term < t) where
  -- The hub raises its term.
  pub raised_move : Move (machine G) H h (view_of (follower_at s t).kept)
  unfolding follower_at with_term
  raised_move = reach (is_hub_lem w) f.view t (omega arith)

  -- It answers yes or no.
  pub request_goes :
      (from last ballot : ℕ) → Goes G H made h (follower_at s t) (some (says (hub_of G h) (follower_at s t) from (vote (follower_at s t).kept last ballot)))
  unfolding follower_at with_term says
  request_goes from last ballot =
      vote_either (follower_at s t).kept last
      (λ (body : Body). Goes G H made h (follower_at s t) (some (record { term = t; from = h; to = from; body = body }))) ballot
      (λ low.
      let (x, given) = answer ok.faithful (is_hub_lem w) f.view t from higher in
      goes ok x f.prefix tt (yields h t from last s.kept.ballot s.kept.log given))
      (λ high. goes ok (reach (is_hub_lem w) f.view t (omega arith)) f.prefix tt tt)

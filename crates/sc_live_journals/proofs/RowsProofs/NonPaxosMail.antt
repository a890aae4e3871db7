-- A replica that does not run stays where it is by mail that is no part of the agreement, and sends nothing of its group.
use Rattle.std.proofs.Common.{◌≡◌, ℕ, suc, ◌&&◌, Bool, true, false, cond, List, [], Some, refl, sym, ap, subst, arith}
use Rattle.sc_base.specs.Definitions.{Drawer}
use Rattle.sc_node_table.specs.Values.{Ballot, Draw, Command, OrderLine, Mail, MailBody, Request, Answer, Nack, TxPrepare, TxVote, TxOutcome, TxElsewhere, TxWatch, TxWatched, Told}
use Rattle.sc_words.specs.paxos.PaxosDefinitions.{below}
use Rattle.sc_node_table.specs.NodeDefinitions.{stopped, saw, ordered_row, ReplicaState, Place, next, mailed, nack_row}
use Rattle.sc_law_walks.specs.WalkDefinitions.{GoesOn}
use Rattle.sc_law_walks.proofs.WalkLemmas.{Talk}
use Rattle.sc_live_steps.specs.following.FollowingDefinitions.{IsAside}
use Rattle.sc_live_journals.specs.rows.RowDefinitions.{IsUnmoved, AsidesStayStill}
use Rattle.sc_live_journals.proofs.RowsProofs.StillReplicas as beside
use Rattle.sc_live_journals.proofs.RowsProofs.MailWithoutMarks.{quiet_marks}
use Rattle.sc_live_journals.proofs.RowsProofs.SilentMail.{AreQuiet, quiet_talk}

module _ (r : ReplicaState) (other : Draw) where
  -- one that does not run, is where it was, and has sent no mail of agreement
  record Keeps (place : Place) : Type 0 where
    next_is : next place.0 ≡ next r
    promise_is : place.0.acceptor.promised ≡ r.acceptor.promised
    off : place.0.running ≡ false
    hint_is : place.0.hint ≡ r.hint
    quiet : AreQuiet other place.1

  -- what is kept stays so with other queues, or another ballot seen
  with_queues : (q : ReplicaState) (mails : List Mail) (acts backlog : List Command) (top : Ballot) → Keeps (q, mails) → Keeps (record q { acts = acts; backlog = backlog; top = top }, mails)
  with_queues q mails acts backlog top k = record { next_is = k.next_is; promise_is = k.promise_is; off = k.off; hint_is = k.hint_is; quiet = k.quiet }

  with_mails : (q : ReplicaState) (mails more : List Mail) → Keeps (q, mails) → AreQuiet other more → Keeps (q, more)
  with_mails q mails more k quiet = record { next_is = k.next_is; promise_is = k.promise_is; off = k.off; hint_is = k.hint_is; quiet = quiet }

  with_talk : (q : ReplicaState) → Talk q.me (λ mails. Keeps (q, mails))
  with_talk q = record {
    tells = λ number result mails k. with_mails q mails _ k ((quiet_talk other q.me).tells number result mails k.quiet);
    answers = λ client group seq answer mails k. with_mails q mails _ k ((quiet_talk other q.me).answers client group seq answer mails k.quiet);
    offers = λ to tx offer mails own k. with_mails q mails _ k ((quiet_talk other q.me).offers to tx offer mails own k.quiet);
    watches = λ to tx watch mails own k. with_mails q mails _ k ((quiet_talk other q.me).watches to tx watch mails own k.quiet);
    casts = λ to tx coord part vote mails k. with_mails q mails _ k ((quiet_talk other q.me).casts to tx coord part vote mails k.quiet);
    sees = λ to tx coord part vote mails k. with_mails q mails _ k ((quiet_talk other q.me).sees to tx coord part vote mails k.quiet);
    ends = λ to tx part outcome mails k. with_mails q mails _ k ((quiet_talk other q.me).ends to tx part outcome mails k.quiet);
    sends_on = λ to tx coord hint mails k. with_mails q mails _ k ((quiet_talk other q.me).sends_on to tx coord hint mails k.quiet);
  }

  beside_keeps : (from : ℕ) (body : MailBody) (place : Place) → beside.IsBeside body → Keeps place → Keeps (mailed from body place).0
  beside_keeps from body place a k = beside.beside_keeps Keeps (beside.still_pumps Keeps (λ p kept. kept.off) (λ q mails acts backlog kept. with_queues q mails acts backlog q.top kept)) with_talk from body place a k

  order_leaves : (drawer : Drawer) (line : OrderLine) → Keeps (r, []) → Keeps (ordered_row drawer line (r, []))
  order_leaves drawer line k = beside.order_keeps Keeps (beside.still_pumps Keeps (λ p kept. kept.off) (λ q mails acts backlog kept. with_queues q mails acts backlog q.top kept)) with_talk drawer line (r, []) k

  -- ---- Nack

  nack_keeps : (ballot : Ballot) (q : ReplicaState) (mails : List Mail) → GoesOn ballot q → Keeps (q, mails) → Keeps (nack_row ballot (q, mails))
  unfolding nack_row saw
  nack_keeps ballot q mails goes k = by (below q.top ballot)
    where
      by : (b : Bool) → Keeps (cond {A = Place} (q.running && below q.leader.ballot ballot) (stopped (Some ballot.node) (cond b (record q { top = ballot }) q, mails)) (cond b (record q { top = ballot }) q, mails))
      by true = subst (λ c. Keeps (cond {A = Place} c (stopped (Some ballot.node) (record q { top = ballot }, mails)) (record q { top = ballot }, mails))) (sym goes) (with_queues q mails q.acts q.backlog ballot k)
      by false = subst (λ c. Keeps (cond {A = Place} c (stopped (Some ballot.node) (q, mails)) (q, mails))) (sym goes) k

  aside_keeps : (from : ℕ) (body : MailBody) → IsAside r body → Keeps (r, []) → Keeps (mailed from body (r, [])).0
  unfolding mailed
  aside_keeps from (Request group client seq op) a k = beside_keeps from (Request group client seq op) (r, []) tt k
  aside_keeps from (Answer group seq answer) a k = k
  aside_keeps from (TxPrepare tx offer) a k = beside_keeps from (TxPrepare tx offer) (r, []) tt k
  aside_keeps from (TxVote tx coord part vote) a k = beside_keeps from (TxVote tx coord part vote) (r, []) tt k
  aside_keeps from (TxOutcome tx part outcome) a k = beside_keeps from (TxOutcome tx part outcome) (r, []) tt k
  aside_keeps from (TxElsewhere tx coord hint) a k = beside_keeps from (TxElsewhere tx coord hint) (r, []) tt k
  aside_keeps from (TxWatch tx watch) a k = beside_keeps from (TxWatch tx watch) (r, []) tt k
  aside_keeps from (TxWatched tx coord part vote) a k = beside_keeps from (TxWatched tx coord part vote) (r, []) tt k
  aside_keeps from (Told order result) a k = k
  aside_keeps from (Nack group promised) a k = nack_keeps promised r [] a k
  aside_keeps from _ a k = absurd a

-- another name than this
abbrev away : Draw → Draw
away name = record { node = suc name.node; count = name.count }

away_is : (name : Draw) → away name ≡ name → ⊥
away_is name e = (let n : suc name.node ≡ name.node = ap (λ (d : Draw). d.node) e in omega (arith, n))

still : (r : ReplicaState) (after : Place) (name : Draw) → Keeps r (away name) after → IsUnmoved name r after
still r after name k = record { next_is = k.next_is; promise_is = k.promise_is; off = k.off; hint_is = k.hint_is; silent = λ who. quiet_marks (away name) name who after.1 (away_is name) k.quiet }

begins : (r : ReplicaState) (other : Draw) → r.running ≡ false → Keeps r other (r, [])
begins r other off = record { next_is = refl; promise_is = refl; off = off; hint_is = refl; quiet = tt }

-- A replica that does not run stays where it is by mail that is no part of the agreement, and by an order, takes the same one for the leader, and sends nothing of its group.
pub asides_still : AsidesStayStill
asides_still = record {
  mailed = λ from body r off aside name. still r (mailed from body (r, [])).0 name (aside_keeps r (away name) from body aside (begins r (away name) off));
  ordered = λ drawer line r off name. still r (ordered_row drawer line (r, [])) name (order_leaves r (away name) drawer line (begins r (away name) off));
}

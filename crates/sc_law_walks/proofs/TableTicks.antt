-- What holds of any replica with its mails is kept by the replica's tick.
use Rattle.std.proofs.Common.{◌≡◌, ℕ, ◌+◌, ◌-◌, ◌||◌, not, nat_le, Bool, true, false, List, [], ◌∷◌, ◌++◌, Option, Some, None, refl}
use Rattle.std.specs.Prelude.{is_some}
use Rattle.std.proofs.lemmas.Bool.{cond_both, and_parts}
use Rattle.sc_base.specs.Definitions.{Drawer, next_name, is_member}
use Rattle.sc_node_table.specs.Values.{Command, GiveUp, Lock, Free, Coordinating, Promised, Watching, OrderLine, OrderRefusal, Mail, Accept, Learn}
use Rattle.sc_words.specs.paxos.PaxosDefinitions.{entry_at}
use Rattle.sc_node_table.specs.NodeDefinitions.{with_act, has_act, elected, sent_all, ordered_command, untaken, wished_line, with_command, with_line, wishing, pumped, one_tick_more, patience, waited_in, reminders, reminded, ReplicaState, Place, name_of, next, members, settled, may_offer, first_set, flying, is_idle, asked_again, last_entry_sent, uncounted, tick_row}
use Rattle.sc_law_walks.specs.WalkDefinitions.{IsOrder}
use Rattle.sc_law_walks.proofs.Ways.{either_way}
use Rattle.sc_law_walks.proofs.TableWalks.{TableWalk, TableAgains, TableTicks}
use Rattle.sc_law_walks.proofs.Talks.{all_sent, others_sent}
use Rattle.sc_law_walks.proofs.TableParts.{Before, After, pumps, self_election}
use Rattle.sc_law_walks.proofs.TableRows.{order_asked}

not_so : (b : Bool) → not b ≡ false → b ≡ true
not_so true e = refl
not_so false e = cc

module _ (w : TableWalk) (a : TableAgains w.facts) where
  abbrev pub Runs : Place → Type 0
  Runs place = After w place × (place.0.running ≡ true)

  -- ---- what a policy wishes waits like an order

  commanded : (o : Option OrderRefusal) (command : Command) (r : ReplicaState) (mails : List Mail) → IsOrder command → (o ≡ None → w.facts.Orders command) → Runs (r, mails) → After w (with_command o command r, mails)
  commanded (Some why) command r mails q may k = k.0
  commanded None command r mails q may k = w.states.ordered command r mails k.1 q (may refl) k.0

  wished : (o : Option OrderLine) (drawer : Drawer) (r : ReplicaState) (mails : List Mail) → ((line : OrderLine) → o ≡ Some line → untaken drawer line r ≡ None → w.facts.Orders (ordered_command (next_name drawer) line.number line.order)) → Runs (r, mails) → After w (with_line drawer o r, mails)
  wished None drawer r mails may k = k.0
  wished (Some line) drawer r mails may k = commanded (untaken drawer line r) (ordered_command (next_name drawer) line.number line.order) r mails (order_asked (next_name drawer) line.number line.order) (λ e. may line refl e) k

  -- ---- what is said again

  last_said : (o : Option Command) (r : ReplicaState) (mails : List Mail) → entry_at (next r - 1) r.log ≡ o → Runs (r, mails) → Runs (r, last_entry_sent o r mails)
  unfolding last_entry_sent
  last_said None r mails e k = k
  last_said (Some command) r mails e k = (others_sent r.me (λ ms. After w (r, ms)) (Learn (name_of r) (next r - 1) command) (λ to ms q. a.relearns to command r ms e q) (members r) mails k.0, k.1)

  again_by : (r : ReplicaState) (slot : ℕ) (set : List ℕ) (sets : List (List ℕ)) (mails : List Mail) (o : Option Command) → flying r slot ≡ o → Runs (r, mails)
      → ((more : List Mail) → Runs (r, more) → Runs (r, asked_again r (slot + 1) sets more))
      → Runs (r, elim o [ None ↦ asked_again r (slot + 1) sets mails | Some command ↦ asked_again r (slot + 1) sets (sent_all r.me (uncounted r slot set) (Accept (name_of r) r.leader.ballot slot command) mails) ])
  again_by r slot set sets mails None e k more = more mails k
  again_by r slot set sets mails (Some command) e k more =
      more (sent_all r.me (uncounted r slot set) (Accept (name_of r) r.leader.ballot slot command) mails)
      (all_sent r.me (λ ms. After w (r, ms)) (Accept (name_of r) r.leader.ballot slot command) (λ to ms q. a.reasks to slot command r ms k.1 e q) (uncounted r slot set) mails k.0, k.1)

  again_said : (r : ReplicaState) (slot : ℕ) (sets : List (List ℕ)) (mails : List Mail) → Runs (r, mails) → Runs (r, asked_again r slot sets mails)
  unfolding asked_again
  again_said r slot [] mails k = k
  again_said r slot (set ∷ sets) mails k = again_by r slot set sets mails (flying r slot) refl k (λ more q. again_said r (slot + 1) sets more q)

  -- ---- the whole

  -- what a policy, if it is on, orders at a tick may be queued, where it is taken
  abbrev pub MayWish : Bool → Drawer → ReplicaState → Type 0
  MayWish on drawer r = (line : OrderLine) → wished_line on (waited_in r.group.core.lock r) ≡ Some line → untaken drawer line (waited_in r.group.core.lock r) ≡ None → w.facts.Orders (ordered_command (next_name drawer) line.number line.order)

  -- a coordinator that waits one tick longer keeps it
  abbrev pub MayWait : ReplicaState → Type 0
  MayWait r = (more : List Mail) → Runs (r, more) → Runs (waited_in r.group.core.lock r, more)

  settled_ticks : (on : Bool) (drawer : Drawer) (r : ReplicaState) (mails : List Mail) → MayWish on drawer r → MayWait r → Runs (r, mails) → After w (pumped (wishing on drawer (reminded (r, mails))))
  unfolding wishing reminded
  settled_ticks on drawer r mails may waits k =
      let reported : List Mail = reminders r.group.core.lock r.me r.group mails in
      let longer : ReplicaState = waited_in r.group.core.lock r in
      pumps w (with_line drawer (wished_line on longer) longer, reported) (wished (wished_line on longer) drawer longer reported may (waits reported (a.reminds r mails k.1 k.0, k.1)))

  -- the tick of one replica, where its waiting keeps the invariant
  pub ticks_where : (on : Bool) (drawer : Drawer) (r : ReplicaState) (mails : List Mail)
      → ((is_some r.group.core.gone || not (is_member (members r) r.me)) ≡ false → not (settled r) ≡ false → MayWish on drawer r) → (settled r ≡ true → MayWait r) → Before w (r, mails) → After w (tick_row on drawer (r, mails))
  unfolding tick_row
  ticks_where on drawer r mails may waits k =
      let l : After w (r, mails) = w.states.late (r, mails) k in
      cond_both (is_some r.group.core.gone || not (is_member (members r) r.me)) (r, mails) _ (After w) (λ _. l)
      (λ here. cond_both (not (settled r)) (elected (r, mails)) _ (After w) (λ _. self_election w (r, mails) k)
      (λ f. (
      let leads : settled r ≡ true = not_so (settled r) f in
      let runs : Runs (r, mails) = (l, (and_parts r.running (may_offer r (first_set r.sets)) leads).0) in
      either_way (After w) (is_idle r) _ _ (settled_ticks on drawer r (last_entry_sent (entry_at (next r - 1) r.log) r mails) (may here f) (waits leads) (last_said (entry_at (next r - 1) r.log) r mails refl runs))
      (settled_ticks on drawer r (asked_again r (next r) r.sets mails) (may here f) (waits leads) (again_said r (next r) r.sets mails runs)))))

module _ (w : TableWalk) (t : TableTicks w.facts) where
  waits_on : (lock : Lock) (r : ReplicaState) (mails : List Mail) → r.group.core.lock ≡ lock → Runs w t.agains (r, mails) → Runs w t.agains (waited_in lock r, mails)
  waits_on Free r mails e k = k
  waits_on (Coordinating tx body order heard) r mails e k =
      let longer : ReplicaState = record r { waits = one_tick_more r.waits } in
      let waits : After w (longer, mails) = t.waited (one_tick_more r.waits) r mails k.0 in
      either_way (λ (x : ReplicaState). Runs w t.agains (x, mails)) (nat_le patience (one_tick_more r.waits)) (with_act (GiveUp tx) longer) longer
      (cond_both (has_act (GiveUp tx) longer) longer (record longer { acts = longer.acts ++ GiveUp tx ∷ [] }) (λ (x : ReplicaState). After w (x, mails)) (λ _. waits) (λ f. t.gives_up tx body order heard longer mails e k.1 f waits), either_way (λ (x : ReplicaState). x.running ≡ true) (has_act (GiveUp tx) longer) longer (record longer { acts = longer.acts ++ GiveUp tx ∷ [] }) k.1 k.1) (waits, k.1)
  waits_on (Promised tx offer) r mails e k = k
  waits_on (Watching tx watch) r mails e k = k

  pub ticks : (on : Bool) (drawer : Drawer) (place : Place)
      → ((is_some place.0.group.core.gone || not (is_member (members place.0) place.0.me)) ≡ false → not (settled place.0) ≡ false → MayWish w t.agains on drawer place.0) → Before w place → After w (tick_row on drawer place)
  ticks on drawer (r, mails) may k = ticks_where w t.agains on drawer r mails may (λ leads more runs. waits_on r.group.core.lock r more refl runs) k

-- An invariant of a replica of a group that is not reshaped is kept by the replica's tick, where its node has no policy.
use Rattle.std.proofs.Common.{◌≡◌, ℕ, ◌+◌, ◌-◌, ◌^◌, ◌||◌, not, eqb, refl, Bool, true, false, List, [], ◌∷◌, Option, Some, None, sym, ◌∙◌, ap, subst}
use Rattle.std.specs.Prelude.{is_some}
use Rattle.std.proofs.lemmas.Bool.{cond_both, and_parts}
use Rattle.sc_base.specs.Definitions.{Each, Drawer, is_member}
use Rattle.sc_words.proofs.PaxosProofs.PaxosLemmas.{Each-filter}
use Rattle.sc_node_table.specs.Values.{Command, Base, Core, Lock, Free, Coordinating, Promised, Watching, Mail, Accept, Learn}
use Rattle.sc_group_table.specs.machine.MachineDefinitions.{Group}
use Rattle.sc_words.specs.paxos.PaxosDefinitions.{entry_at, has_counted}
use Rattle.sc_node_table.specs.NodeDefinitions.{elected, sent_all, pumped, wishing, reminded, reminders, waited_in, ReplicaState, Place, name_of, next, members, settled, is_idle, may_offer, first_set, tick_row, asked_again, uncounted, last_entry_sent, flying}
use Rattle.sc_law_walks.proofs.WalkLemmas.{either_way, elected_place}
use Rattle.sc_law_walks.proofs.Talks.{each_sent, each_other_sent}
use Rattle.sc_live_healed.proofs.FixedWalks.{FixedWalk, FixedAskParts, FixedTickParts, IsMember}
use Rattle.sc_live_healed.proofs.FixedPumps.{OfMembers, open_members, pumps, set_members}

not_so : (b : Bool) → not b ≡ false → b ≡ true
not_so true e = refl
not_so false e = cc

so_not : (b : Bool) → not b ≡ true → b ≡ false
so_not false e = refl
so_not true e = cc

-- nothing is reminded and nothing wished
waits_none : (lock : Lock) (r : ReplicaState) → lock ≡ Free → waited_in lock r ≡ r
waits_none Free r e = refl
waits_none (Coordinating tx body order heard) r e = absurd (cc)
waits_none (Promised tx offer) r e = absurd (cc)
waits_none (Watching tx watch) r e = absurd (cc)

reminds_none : (lock : Lock) (me : ℕ) (group : Group) (mails : List Mail) → lock ≡ Free → reminders lock me group mails ≡ mails
reminds_none Free me group mails e = refl
reminds_none (Coordinating tx body order heard) me group mails e = absurd (cc)
reminds_none (Promised tx offer) me group mails e = absurd (cc)
reminds_none (Watching tx watch) me group mails e = absurd (cc)

pub tick_alone : (drawer : Drawer) (place : Place) → place.0.group.core.lock ≡ Free → wishing false drawer (reminded place) ≡ place
unfolding wishing reminded
tick_alone drawer (r, mails) e =
    ap (λ (ms : List Mail). (waited_in r.group.core.lock r, ms)) (reminds_none r.group.core.lock r.me r.group mails e) ∙ ap (λ (x : ReplicaState). (x, mails)) (waits_none r.group.core.lock r e)

module _ (base : Base) (me : ℕ) (w : FixedWalk base me) (t : FixedAskParts base me w.P) where
  abbrev P : Place → Type 0
  P place = w.P place

  last_said : (o : Option Command) (r : ReplicaState) (mails : List Mail) → settled r ≡ true → entry_at (next r - 1) r.log ≡ o → P (r, mails) → P (r, last_entry_sent o r mails)
  unfolding last_entry_sent
  last_said None r mails on e k = k
  last_said (Some command) r mails on e k =
      let of : Each (IsMember base) (members r) = subst (λ (core : Core). Each (IsMember base) core.members) (sym (w.frame (r, mails) k).fixed.group) (set_members base me w) in
      each_other_sent r.me (IsMember base) (λ ms. P (r, ms)) (Learn (name_of r) (next r - 1) command) (λ to ms m q. t.relearns to command r ms m on e q) (members r) mails of k

  again_by : (r : ReplicaState) (slot : ℕ) (set : List ℕ) (sets : List (List ℕ)) (mails : List Mail) (o : Option Command) → r.running ≡ true → Each (IsMember base) set → flying r slot ≡ o → P (r, mails)
      → ((more : List Mail) → P (r, more) → P (r, asked_again r (slot + 1) sets more))
      → P (r, elim o [ None ↦ asked_again r (slot + 1) sets mails | Some command ↦ asked_again r (slot + 1) sets (sent_all r.me (uncounted r slot set) (Accept (name_of r) r.leader.ballot slot command) mails) ])
  again_by r slot set sets mails None on of e k more = more mails k
  again_by r slot set sets mails (Some command) on of e k more =
      more (sent_all r.me (uncounted r slot set) (Accept (name_of r) r.leader.ballot slot command) mails)
      (each_sent r.me (IsMember base) (λ ms. P (r, ms)) (Accept (name_of r) r.leader.ballot slot command) (λ to ms m q. t.reasks to slot command r ms m on e q) (uncounted r slot set) mails (Each-filter (IsMember base) (λ node. not (has_counted slot node r.leader)) set of) k)

  again_said : (r : ReplicaState) (slot : ℕ) (sets : List (List ℕ)) (mails : List Mail) → r.running ≡ true → OfMembers base me w sets → P (r, mails) → P (r, asked_again r slot sets mails)
  unfolding asked_again
  again_said r slot [] mails on of k = k
  again_said r slot (set ∷ sets) mails on of k = again_by r slot set sets mails (flying r slot) on of.0 refl k (λ more q. again_said r (slot + 1) sets more on of.1 q)

  pumps_then : (drawer : Drawer) (place : Place) → P place → P (pumped (wishing false drawer (reminded place)))
  pumps_then drawer place k =
      let free = ap (λ (core : Core). core.lock) (w.frame place k).fixed.group ∙ w.fresh.free in
      pumps base me w (wishing false drawer (reminded place)) (subst P (sym (tick_alone drawer place free)) k)

  -- a tick elects the replica once, or asks again
  pub ticks_once : (Q : Place → Type 0) → ((place : Place) → P place → Q place) → ((r : ReplicaState) (mails : List Mail) → settled r ≡ false → P (r, mails) → Q (elected_place (r, mails))) → (drawer : Drawer) (place : Place) → P place → Q (tick_row false drawer place)
  unfolding tick_row elected
  ticks_once Q stays elects drawer (r, mails) k =
      either_way Q (is_some r.group.core.gone || not (is_member (members r) r.me)) (r, mails) _ (stays (r, mails) k)
      (cond_both (not (settled r)) (elected (r, mails)) _ Q
      (λ off. either_way Q (eqb r.top.round (2 ^ 32 - 1)) (r, mails) (elected_place (r, mails)) (stays (r, mails) k) (elects r mails (so_not (settled r) off) k))
      (λ f. (let on = not_so (settled r) f in
      either_way Q (is_idle r) _ _ (stays _ (pumps_then drawer (r, last_entry_sent (entry_at (next r - 1) r.log) r mails) (last_said (entry_at (next r - 1) r.log) r mails on refl k)))
      (stays _ (pumps_then drawer (r, asked_again r (next r) r.sets mails) (again_said r (next r) r.sets mails (and_parts r.running (may_offer r (first_set r.sets)) on).0 (open_members base me w (r, mails) k) k))))))

module _ (base : Base) (me : ℕ) (w : FixedWalk base me) (t : FixedTickParts base me w.P) where
  pub ticks : (drawer : Drawer) (place : Place) → w.P place → w.P (tick_row false drawer place)
  ticks drawer place k = ticks_once base me w t.asks w.P (λ other q. q) t.elected drawer place k

-- What holds of a kept replica with its mails is kept by the replica's tick.
use Rattle.std.proofs.Common.{◌≡◌, ◌++◌, nat_le, Bool, true, List, [], ◌∷◌}
use Rattle.std.proofs.lemmas.Bool.{cond_both, and_parts}
use Rattle.sc_base.specs.Definitions.{Drawer}
use Rattle.sc_node_table.specs.Values.{Draw, GiveUp, Lock, Free, Coordinating, Promised, Watching, Mail}
use Rattle.sc_node_table.specs.NodeDefinitions.{with_act, has_act, one_tick_more, patience, waited_in, ReplicaState, Place, settled, may_offer, first_set, tick_row}
use Rattle.sc_law_walks.specs.WalkDefinitions.{IsKept}
use Rattle.sc_law_walks.proofs.Ways.{either_way}
use Rattle.sc_law_walks.proofs.Queues.{waiting, one_filed}
use Rattle.sc_law_walks.proofs.PlaceWalks.{PlaceWalk, PlaceAgains, PlaceTicks, Before, After, parties}
use Rattle.sc_law_walks.proofs.Talks.{all_reminded}
use Rattle.sc_law_walks.proofs.KeptPlaces.{kept_facts, kept_walk}
use Rattle.sc_law_walks.proofs.TableWalks.{TableAgains}
use Rattle.sc_law_walks.proofs.TableTicks as tables

module _ (w : PlaceWalk) (a : PlaceAgains w.facts) where
  -- what a tick says again is said of a kept replica
  kept_agains : TableAgains (kept_facts w)
  kept_agains = record {
    reminds = λ r mails on k. (k.0, all_reminded r.me (λ ms. w.facts.Late (r, ms)) (parties r.me (λ ms. w.facts.Late (r, ms)) (w.says.late r k.0.0)) r.group.core.lock r.group mails k.1);
    reasks = λ to slot command r mails on e k. (k.0, a.reasks to slot command r mails k.0.0 on e k.1);
    relearns = λ to command r mails e k. (k.0, a.relearns to command r mails k.0.0 e k.1);
  }

  -- ---- a coordinator waits one tick longer, and gives up in the end

  gives_up_kept : (tx : Draw) (r : ReplicaState) → IsKept w.facts.me r → r.running ≡ true → IsKept w.facts.me (with_act (GiveUp tx) r)
  gives_up_kept tx r kept on = either_way (IsKept w.facts.me) (has_act (GiveUp tx) r) r (record r { acts = r.acts ++ GiveUp tx ∷ [] }) kept (waiting w.facts.me r (r.acts ++ GiveUp tx ∷ []) r.backlog on (one_filed r.acts (GiveUp tx) tt kept.2.1) kept.2.2 kept)

  waiting_kept : (lock : Lock) (r : ReplicaState) → IsKept w.facts.me r → r.running ≡ true → IsKept w.facts.me (waited_in lock r)
  waiting_kept Free r kept on = kept
  waiting_kept (Coordinating tx body order heard) r kept on =
      let longer : ReplicaState = record r { waits = one_tick_more r.waits } in
      either_way (IsKept w.facts.me) (nat_le patience (one_tick_more r.waits)) (with_act (GiveUp tx) longer) longer (gives_up_kept tx longer kept on) kept
  waiting_kept (Promised tx offer) r kept on = kept
  waiting_kept (Watching tx watch) r kept on = kept

  waiting_runs : (lock : Lock) (r : ReplicaState) → r.running ≡ true → (waited_in lock r).running ≡ true
  waiting_runs Free r on = on
  waiting_runs (Coordinating tx body order heard) r on =
      let longer : ReplicaState = record r { waits = one_tick_more r.waits } in
      either_way (λ (x : ReplicaState). x.running ≡ true) (nat_le patience (one_tick_more r.waits)) (with_act (GiveUp tx) longer) longer
      (either_way (λ (x : ReplicaState). x.running ≡ true) (has_act (GiveUp tx) longer) longer (record longer { acts = longer.acts ++ GiveUp tx ∷ [] }) on on) on
  waiting_runs (Promised tx offer) r on = on
  waiting_runs (Watching tx watch) r on = on

  -- the tick of one replica, where its waiting keeps the invariant
  pub ticks_where : (on : Bool) (drawer : Drawer) (r : ReplicaState) (mails : List Mail) → (settled r ≡ true → (more : List Mail) → w.facts.Late (r, more) → w.facts.Late (waited_in r.group.core.lock r, more)) → Before w.facts (r, mails) → After w.facts (tick_row on drawer (r, mails))
  ticks_where on drawer r mails waits k =
      tables.ticks_where (kept_walk w) kept_agains on drawer r mails (λ here f line e taken. tt)
      (λ leads more runs. ((waiting_kept r.group.core.lock r runs.0.0 runs.1, waits leads more runs.0.1), waiting_runs r.group.core.lock r runs.1)) k

module _ (w : PlaceWalk) (t : PlaceTicks w.facts) where
  waits_on : (lock : Lock) (r : ReplicaState) (mails : List Mail) → r.running ≡ true → w.facts.Late (r, mails) → w.facts.Late (waited_in lock r, mails)
  waits_on Free r mails on k = k
  waits_on (Coordinating tx body order heard) r mails on k =
      let longer : ReplicaState = record r { waits = one_tick_more r.waits } in
      let waits : w.facts.Late (longer, mails) = t.waited (one_tick_more r.waits) r mails k in
      either_way (λ (x : ReplicaState). w.facts.Late (x, mails)) (nat_le patience (one_tick_more r.waits)) (with_act (GiveUp tx) longer) longer
      (cond_both (has_act (GiveUp tx) longer) longer (record longer { acts = longer.acts ++ GiveUp tx ∷ [] }) (λ (x : ReplicaState). w.facts.Late (x, mails)) (λ _. waits) (λ f. t.gives_up tx longer mails on f waits)) waits
  waits_on (Promised tx offer) r mails on k = k
  waits_on (Watching tx watch) r mails on k = k

  pub ticks : (on : Bool) (drawer : Drawer) (place : Place) → Before w.facts place → After w.facts (tick_row on drawer place)
  ticks on drawer (r, mails) k = ticks_where w t.agains on drawer r mails (λ leads more l. waits_on r.group.core.lock r more (and_parts r.running (may_offer r (first_set r.sets)) leads).0 l) k

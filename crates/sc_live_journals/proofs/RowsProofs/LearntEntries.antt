-- A replica with nothing ready that learns the next entry has the state after it, and nothing ready.
use Rattle.std.proofs.Common.{◌≡◌, ℕ, ◌-◌, ◌^◌, ◌≤◌, ◌&&◌, nat_lt, eqb, false, cond, List, [], Option, Some, None, refl, sym, ◌∙◌, ap, subst}
use Rattle.std.proofs.lemmas.Bool.{cond-true, cond-false, eq-eqb, le-ltb}
use Rattle.sc_node_table.specs.Values.{Command, Noop, Effect, AnswerBody, Mail, Ask, Learn}
use Rattle.sc_group_table.specs.machine.MachineDefinitions.{applied}
use Rattle.sc_node_table.specs.NodeDefinitions.{elected, ended, entered, announced, learnt_to, welcomed, landed, left, executed_one, has_room, next_ready, executed, sent, offered, pumped, put_back, ReplicaState, Place, Executed, childless, name_of, next, members, last_slot, forgotten, learn_row, mailed, at_slot, without_slot, before_of, spoken}
use Rattle.sc_law_walks.proofs.WalkLemmas.{executed_place, landed_place, either_way}
use Rattle.sc_live_steps.proofs.ExecutionParts.{entry_reported, leaving_kept, looking_kept}
use Rattle.sc_live_journals.specs.rows.RowDefinitions.{IsPast, LearntEntriesAreExecuted}
use Rattle.sc_law_walks.proofs.WalkLemmas.{pumped_freely}

module _ (command : Command) (r : ReplicaState) where
  abbrev Past : Place → Type 0
  Past place = IsPast command r place.0

  -- ---- what goes back

  back_past : (other : Command) (q : ReplicaState) → IsPast command r q → IsPast command r (put_back other q)
  unfolding put_back
  back_past Noop q k = k
  back_past _ q k = record { group_is = k.group_is; sets_are = k.sets_are; me_is = k.me_is; ready_is = k.ready_is }

  -- ---- the pump

  offered_past : (slot : ℕ) (set : List ℕ) (other : Command) (place : Place) → Past place → Past (offered slot set other place)
  unfolding offered
  offered_past slot set other (q, mails) k = record { group_is = k.group_is; sets_are = k.sets_are; me_is = k.me_is; ready_is = k.ready_is }

  pumped_past : (place : Place) → Past place → Past (pumped place)
  pumped_past place k = pumped_freely Past (λ q mails more acts backlog p. record { group_is = p.group_is; sets_are = p.sets_are; me_is = p.me_is; ready_is = p.ready_is }) offered_past place k

  -- ---- the parts of an entry

  queues_past : (q : ReplicaState) (acts backlog : List Command) → IsPast command r q → IsPast command r (record q { acts = acts; backlog = backlog })
  queues_past q acts backlog k = record { group_is = k.group_is; sets_are = k.sets_are; me_is = k.me_is; ready_is = k.ready_is }

  landed_past : (slot : ℕ) (place : Place) → Past place → Past (landed false slot command place)
  landed_past slot place k =
      landed_place Past (λ _. Unit {0}) (λ other p o q. back_past other p.0 q) false slot command place tt
      (record { group_is = k.group_is; sets_are = k.sets_are; me_is = k.me_is; ready_is = ap (λ es. without_slot es slot) k.ready_is })

  ended_past : (hint : Option ℕ) (answer : AnswerBody) (place : Place) → Past place → Past (ended hint answer place)
  unfolding ended
  ended_past hint answer (q, mails) k = record { group_is = k.group_is; sets_are = k.sets_are; me_is = k.me_is; ready_is = refl }

  elected_past : (place : Place) → Past place → Past (elected place)
  unfolding elected
  elected_past (q, mails) k = either_way Past (eqb q.top.round (2 ^ 32 - 1)) _ _ k (record { group_is = k.group_is; sets_are = k.sets_are; me_is = k.me_is; ready_is = refl })

  hinted_past : (hint : Option ℕ) (q : ReplicaState) (mails : List Mail) → Past (q, mails) → Past (record q { hint = hint }, mails)
  hinted_past hint q mails k = record { group_is = k.group_is; sets_are = k.sets_are; me_is = k.me_is; ready_is = k.ready_is }

  entered_past : r.ready ≡ [] → IsPast command r (entered command r)
  unfolding entered forgotten
  entered_past none = record { group_is = refl; sets_are = refl; me_is = refl; ready_is = none }

  one_past : r.ready ≡ [] → Past (executed_one false command (r, []))
  unfolding executed_one
  one_past none =
      let effect : Effect = (applied r.group command).1 in
      let place0 : Place = (entered command r, []) in
      let place4 : Place = welcomed false (members r) (learnt_to false (members r) (next r) command (spoken false (before_of r.group.core) effect command (announced false effect command place0))) in
      let k4 : Past place4 = entry_reported (IsPast command r) queues_past false (before_of r.group.core) effect (members r) (next r) command place0 (entered_past none) in
      let place5 : Place = landed false (next r) command place4 in
      looking_kept Past elected_past hinted_past (left place5) (leaving_kept Past ended_past place5 (landed_past (next r) place4 k4))

  none_ready : (place : Place) → Past place → next_ready place.0 ≡ None
  none_ready place k = either_way (λ (o : Option Command). o ≡ None) (place.0.running && has_room place.0) (at_slot place.0.ready (next place.0)) None (ap (λ es. at_slot es (next place.0)) k.ready_is) refl

  never : (other : Command) → Some other ≡ None → ⊥
  never other e = cc

  executed_past : r.ready ≡ [] → Past (executed false command (r, [])).0
  executed_past none = executed_place Past (λ o. o ≡ None) none_ready (λ other p e q. absurd (never other e)) pumped_past false command (r, []) (one_past none)

  learn_past : (from slot : ℕ) → slot ≡ next r → slot ≤ last_slot → r.ready ≡ [] → IsPast command r (mailed from (Learn (name_of r) slot command) (r, [])).0.0
  unfolding mailed learn_row
  learn_past from slot at low none =
      subst (λ (p : Executed). IsPast command r p.0.0)
      (sym (cond-false (nat_lt last_slot slot) (childless (r, [])) (cond {A = Executed} (eqb slot (next r)) (executed false command (r, [])) (cond {A = Executed} (nat_lt (next r) slot) (childless (r, sent r.me from (Ask (name_of r) (next r)) [])) (childless (r, [])))) (le-ltb last_slot slot low)
      ∙ cond-true (eqb slot (next r)) (executed false command (r, [])) (cond {A = Executed} (nat_lt (next r) slot) (childless (r, sent r.me from (Ask (name_of r) (next r)) [])) (childless (r, []))) (eq-eqb slot (next r) at)))
      (executed_past none)

-- A replica with nothing ready that learns the next entry has the state after it.
pub learnt_entries_executed : LearntEntriesAreExecuted
learnt_entries_executed from slot command r at low none = learn_past command r from slot at low none

-- A result that an executed entry reports stays among the mail of its row.
use Rattle.std.proofs.Common.{◌≡◌, ◌⊎◌, ℕ, ◌+◌, ◌-◌, ◌^◌, eqb, Bool, true, cond, List, [], ◌∷◌, ◌++◌, Option, Some, None, inl, inr, refl, sym, subst}
use Rattle.std.proofs.lemmas.Bool.{cond-true}
use Rattle.sc_node_table.specs.Values.{Command, Noop, Call, Effect, OrderResult, AnswerBody, Mail, Told, Prepare, Accept, Learn}
use Rattle.sc_paxos_law.proofs.Lemmas.{Among-left, Among-right}
use Rattle.sc_group_table.specs.policy.PolicyDefinitions.{is_reported}
use Rattle.sc_group_table.specs.machine.MachineDefinitions.{Group, applied}
use Rattle.sc_node_table.specs.NodeDefinitions.{elected, ended, open_nodes, entered, answer_of, answered_or_put_back, order_result, effect_reported, announced, learnt_to, welcomed, landed, left, looked, executed_one, executed, install_to, asked_to_promise, welcomed_all, answered_all, sent_others, order_number, result_sent, order_reported, offered, pumped, ReplicaState, Place, name_of, next, members, under_way, before_of, begun_result, spoken_number, result_reported, begun_reported, spoken_mails, spoken}
use Rattle.sc_node_table.specs.declared.Before.{Before}
use Rattle.sc_law_walks.proofs.WalkLemmas.{either_way, executed_place, welcomed_place, TableOffers, pump_keeps, Talk, parties, grows}
use Rattle.sc_law_walks.proofs.Talks.{all_sent, others_sent, client_reported, desk_reported, one_answered, all_answered, all_dismissed, went_said, spoken_said}
use Rattle.sc_live_steps.proofs.ExecutionParts.{leaving_kept, looking_kept}
use Rattle.sc_live_answers.specs.AnswerDefinitions.{IsTold}

-- more mail reports it too
pub told_more : (n : ℕ) (result : OrderResult) (mails more : List Mail) → IsTold mails n result → IsTold (mails ++ more) n result
told_more n result mails more k = record { mail = k.mail; among = Among-left k.mail mails more k.among; body = k.body }

pub told_behind : (n : ℕ) (result : OrderResult) (mails more : List Mail) → IsTold more n result → IsTold (mails ++ more) n result
told_behind n result mails more k = record { mail = k.mail; among = Among-right k.mail mails more k.among; body = k.body }

-- a report to the desk
pub desk_reports : (me n : ℕ) (result : OrderResult) (mails : List Mail) → IsTold (result_sent me n result mails) n result
desk_reports me n result mails =
    told_behind n result mails (record { from = me; to = 0; body = Told n result } ∷ []) (record { mail = record { from = me; to = 0; body = Told n result }; among = inl refl; body = refl })

module _ (n : ℕ) (result : OrderResult) where
  abbrev Q : List Mail → Type 0
  Q mails = IsTold mails n result

  more_said : (mails : List Mail) (mail : Mail) → Q mails → Q (mails ++ mail ∷ [])
  more_said mails mail k = told_more n result mails (mail ∷ []) k

  talk : (me : ℕ) → Talk me Q
  talk me = grows me Q more_said

  abbrev H : Place → Type 0
  H place = Q place.1

  order_reports : (me : ℕ) (mails : List Mail) → is_reported n ≡ true → Q (order_reported me n result mails)
  unfolding order_reported
  order_reports me mails told = subst Q (sym (cond-true (is_reported n) (result_sent me n result mails) mails told)) (desk_reports me n result mails)

  -- ---- the pump

  offers : (slot : ℕ) (set : List ℕ) (command : Command) (r : ReplicaState) (mails : List Mail) → Q mails → Q (offered slot set command (r, mails)).1
  unfolding offered
  offers slot set command r mails m = all_sent r.me Q (Accept (name_of r) r.leader.ballot slot command) (λ to ms q. more_said ms _ q) set mails m

  offers_kept : TableOffers H
  offers_kept = record {
    turned = λ command answer backlog r mails on e no m. one_answered r.me Q (talk r.me) r.group.core.id answer command mails m;
    offers_value = λ slot set command r mails on at free e m. offers slot set command r mails m;
    offers_noop = λ slot set r mails on at free gap m. offers slot set Noop r mails m;
    offers_act = λ slot set act acts r mails on at free e m. offers slot set act (record r { acts = acts }) mails m;
    offers_call = λ slot set command backlog r mails on at free e m. offers slot set command (record r { backlog = backlog }) mails m;
  }

  pumps : (place : Place) → H place → H (pumped place)
  pumps place m = (pump_keeps H offers_kept place m).0

  -- ---- leaders

  elects : (place : Place) → H place → H (elected place)
  unfolding elected
  elects (r, mails) m = either_way H (eqb r.top.round (2 ^ 32 - 1)) _ _ m (all_sent r.me Q (Prepare (name_of r) (record { round = r.top.round + 1; node = r.me }) (next r)) (λ to ms q. more_said ms _ q) (open_nodes r.sets) mails m)

  ends : (hint : Option ℕ) (answer : AnswerBody) (place : Place) → H place → H (ended hint answer place)
  unfolding ended
  ends hint answer (r, mails) m = all_dismissed r.me Q (talk r.me) (name_of r) hint answer r.backlog (answered_all r.me (name_of r) answer (under_way r) mails) (all_answered r.me Q (talk r.me) (name_of r) answer (under_way r) mails m)

  leaves : (place : Place) → H place → H (left place)
  leaves place m = leaving_kept H ends place m

  looks : (place : Place) → H place → H (looked place)
  looks place m = looking_kept H elects (λ hint r mails q. q) place m

  -- ---- entries

  calls_told : (answer : Option AnswerBody) (command : Command) (place : Place) → H place → H (answered_or_put_back answer command place)
  unfolding answered_or_put_back
  calls_told (Some answer) (Call client seq op) (r, mails) m = client_reported r.me Q (parties r.me Q (talk r.me)) client (name_of r) seq answer mails m
  calls_told None (Call client seq op) (r, mails) m = m
  calls_told (Some answer) _ place m = m
  calls_told None _ place m = m

  effects_told : (o : Option OrderResult) (command : Command) (place : Place) → H place → H (effect_reported o command place)
  unfolding effect_reported
  effects_told None command place m = m
  effects_told (Some other) command (r, mails) m = desk_reported r.me Q (talk r.me) (order_number command) other mails m

  announces : (counted : Bool) (effect : Effect) (command : Command) (place : Place) → H place → H (announced counted effect command place)
  unfolding announced
  announces counted effect command place m =
      effects_told (order_result command effect) command (cond counted (answered_or_put_back (answer_of effect) command place) place) (either_way H counted (answered_or_put_back (answer_of effect) command place) place (calls_told (answer_of effect) command place m) m)

  speaks : (counted : Bool) (before : Before) (effect : Effect) (command : Command) (place : Place) → H place → H (spoken counted before effect command place)
  unfolding spoken
  speaks counted before effect command (r, mails) m = spoken_said r.me Q (talk r.me) counted r.group before effect command mails m

  teaches : (counted : Bool) (nodes : List ℕ) (slot : ℕ) (command : Command) (place : Place) → H place → H (learnt_to counted nodes slot command place)
  unfolding learnt_to
  teaches counted nodes slot command (r, mails) m = either_way H counted (r, sent_others r.me nodes (Learn (name_of r) slot command) mails) (r, mails) (others_sent r.me Q (Learn (name_of r) slot command) (λ to ms q. more_said ms _ q) nodes mails m) m

  welcomes_one : (node : ℕ) (place : Place) → H place → H (asked_to_promise node (install_to node place))
  unfolding install_to
  welcomes_one node (r, mails) m =
      let state = more_said mails _ m in
      either_way H r.leader.is_first _ _ state (more_said _ _ state)

  welcomes_all : (nodes : List ℕ) (place : Place) → H place → H (welcomed_all nodes place)
  unfolding welcomed_all
  welcomes_all [] place m = m
  welcomes_all (node ∷ nodes) place m = welcomes_all nodes (asked_to_promise node (install_to node place)) (welcomes_one node place m)

  lands : (counted : Bool) (slot : ℕ) (command : Command) (place : Place) → H place → H (landed counted slot command place)
  unfolding landed
  lands counted slot command (r, mails) m = m

  -- what follows once the entry is spoken of, and once it is announced
  after_spoken : (command : Command) (r : ReplicaState) (place : Place) → H place → H (looked (left (landed true (next r) command (welcomed true (members r) (learnt_to true (members r) (next r) command place)))))
  after_spoken command r place m =
      let place3 : Place = learnt_to true (members r) (next r) command place in
      let place4 : Place = welcomed true (members r) place3 in
      let place5 : Place = landed true (next r) command place4 in
      let m3 = teaches true (members r) (next r) command place m in
      let m4 = welcomed_place H welcomes_all true (members r) place3 m3 in
      looks (left place5) (leaves place5 (lands true (next r) command place4 m4))

  after_announced : (command : Command) (r : ReplicaState) (place : Place) → H place
      → H (looked (left (landed true (next r) command (welcomed true (members r) (learnt_to true (members r) (next r) command (spoken true (before_of r.group.core) (applied r.group command).1 command place))))))
  after_announced command r place m = after_spoken command r (spoken true (before_of r.group.core) (applied r.group command).1 command place) (speaks true (before_of r.group.core) (applied r.group command).1 command place m)

  one_goes : (command : Command) (place : Place) → H place → H (executed_one true command place)
  unfolding executed_one
  one_goes command (r, mails) m = after_announced command r (announced true (applied r.group command).1 command (entered command r, mails)) (announces true (applied r.group command).1 command (entered command r, mails) m)

  -- ---- an entry that ends the order

  -- the entry ends the order with this number by this result: a join or a leave by what it does; a split, or an entry of a transaction, by what it decides
  abbrev pub Ends : Command → Group → Type 0
  Ends command group =
      ((order_number command ≡ n) × (order_result command (applied group command).1 ≡ Some result))
      ⊎ ((spoken_number (before_of group.core).order command ≡ n) × (begun_result (before_of group.core).alone (applied group command).1 command ≡ Some result))

  -- a report of this number and result
  own_reports : (me number : ℕ) (other : OrderResult) (mails : List Mail) → is_reported n ≡ true → number ≡ n → other ≡ result → Q (order_reported me number other mails)
  own_reports me number other mails told same fact = subst (λ (k : ℕ). Q (order_reported me k other mails)) (sym same) (subst (λ (x : OrderResult). Q (order_reported me n x mails)) (sym fact) (order_reports me mails told))

  some_own : (other : OrderResult) → Some other ≡ Some result → other ≡ result
  some_own other e = cc

  effect_reports : (command : Command) (o : Option OrderResult) (place : Place) → is_reported n ≡ true → order_number command ≡ n → o ≡ Some result → H (effect_reported o command place)
  unfolding effect_reported
  effect_reports command None place told number e = absurd cc
  effect_reports command (Some other) (r, mails) told number e = own_reports r.me (order_number command) other mails told number (some_own other e)

  announced_reports : (effect : Effect) (command : Command) (place : Place) → is_reported n ≡ true → order_number command ≡ n → order_result command effect ≡ Some result → H (announced true effect command place)
  unfolding announced
  announced_reports effect command place told number e = effect_reports command (order_result command effect) (answered_or_put_back (answer_of effect) command place) told number e

  begun_reports : (me number : ℕ) (o : Option OrderResult) (mails : List Mail) → is_reported n ≡ true → number ≡ n → o ≡ Some result → Q (result_reported me o number mails)
  begun_reports me number None mails told same e = absurd cc
  begun_reports me number (Some other) mails told same e = own_reports me number other mails told same (some_own other e)

  -- how a transaction goes on comes behind the report
  spoken_reports : (before : Before) (effect : Effect) (command : Command) (place : Place) → is_reported n ≡ true → spoken_number before.order command ≡ n → begun_result before.alone effect command ≡ Some result → H (spoken true before effect command place)
  unfolding spoken spoken_mails begun_reported
  spoken_reports before effect command (r, mails) told number e =
      went_said r.me Q (parties r.me Q (talk r.me)) r.group before effect command (result_reported r.me (begun_result before.alone effect command) (spoken_number before.order command) mails)
      (begun_reports r.me (spoken_number before.order command) (begun_result before.alone effect command) mails told number e)

  one_ends : (command : Command) (r : ReplicaState) (mails : List Mail) → is_reported n ≡ true → Ends command r.group → H (executed_one true command (r, mails))
  unfolding executed_one
  one_ends command r mails told (inl k) =
      after_announced command r (announced true (applied r.group command).1 command (entered command r, mails)) (announced_reports (applied r.group command).1 command (entered command r, mails) told k.0 k.1)
  one_ends command r mails told (inr k) =
      after_spoken command r (spoken true (before_of r.group.core) (applied r.group command).1 command (announced true (applied r.group command).1 command (entered command r, mails)))
      (spoken_reports (before_of r.group.core) (applied r.group command).1 command (announced true (applied r.group command).1 command (entered command r, mails)) told k.0 k.1)

  -- the leader that counted the entry reports the result
  pub entry_reports : (command : Command) (r : ReplicaState) (mails : List Mail) → is_reported n ≡ true → Ends command r.group → IsTold (executed true command (r, mails)).0.1 n result
  entry_reports command r mails told k = executed_place H (λ o. Unit {0}) (λ place m. tt) (λ other place o m. one_goes other place m) pumps true command (r, mails) (one_ends command r mails told k)

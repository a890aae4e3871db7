-- What holds of a replica with its mails is kept by an entry, with all that is told of it, where each part of the entry keeps it.
use Rattle.std.proofs.Common.{◌≡◌, ℕ, ◌-◌, not, Bool, true, cond, List, [], ◌∷◌, filter, Option, Some, None, refl}
use Rattle.std.proofs.lemmas.Bool.{cond_both}
use Rattle.sc_base.specs.Definitions.{Among, Each, is_member}
use Rattle.sc_words.proofs.PaxosProofs.PaxosLemmas.{Each-from}
use Rattle.sc_node_table.specs.Values.{Op, Command, Call, Effect, OrderResult, AnswerBody, Mail, Prepare, Learn, Install}
use Rattle.sc_group_table.specs.machine.MachineDefinitions.{base_of, applied}
use Rattle.sc_node_table.specs.NodeDefinitions.{entered, answer_of, answered_or_put_back, order_result, effect_reported, announced, learnt_to, welcomed, landed, install_to, welcomed_all, sent, answer_to, order_reported, order_number, put_back, ReplicaState, Place, name_of, members, next, flying, before_of, spoken, spoken_mails}
use Rattle.sc_law_walks.proofs.Ways.{either_way}
use Rattle.sc_law_walks.proofs.Places.{cleared, landed_place}
use Rattle.sc_law_walks.proofs.PlaceWalks.{entered_place}
use Rattle.sc_law_walks.proofs.Talks.{each_other_sent}

-- the members of a replica that were none at the start
abbrev pub joined : ReplicaState → ReplicaState → List ℕ
joined start r = filter (λ node. not (is_member (members start) node)) (members r)

-- That each part of an entry, counted or learnt, of this replica keeps P, and from the entry itself on Q: what is told of it, what the members learn, what new members are sent, and what lost its slot and goes back.
pub record TableEntry (counted : Bool) (command : Command) (start : ReplicaState) (P Q : Place → Type 0) : Type 1 where
  pub Lost : Command → Type 0
  pub entered : (mails : List Mail) → P (start, mails) → Q (entered command start, mails)
  pub answers : (client seq : ℕ) (op : Op) (answer : AnswerBody) (r : ReplicaState) (mails : List Mail) → counted ≡ true → command ≡ Call client seq op → answer_of (applied start.group command).1 ≡ Some answer → Q (r, mails) → Q (r, answer_to r.me (name_of r) client seq answer mails)
  pub returned : (r : ReplicaState) (mails : List Mail) → counted ≡ true → Q (r, mails) → Q (put_back command r, mails)
  pub reports : (result : OrderResult) (r : ReplicaState) (mails : List Mail) → order_result command (applied start.group command).1 ≡ Some result → Q (r, mails) → Q (r, order_reported r.me (order_number command) result mails)
  pub speaks : (r : ReplicaState) (mails : List Mail) → Q (r, mails) → Q (r, spoken_mails counted r.me r.group (before_of start.group.core) (applied start.group command).1 command mails)
  pub teaches : (to : ℕ) (r : ReplicaState) (mails : List Mail) → counted ≡ true → Among to (members start) → Q (r, mails) → Q (r, sent r.me to (Learn (name_of r) (next start) command) mails)
  pub installs : (to : ℕ) (r : ReplicaState) (mails : List Mail) → counted ≡ true → Among to (joined start r) → Q (r, mails) → Q (r, sent r.me to (Install (name_of r) (next r - 1) (base_of r.group) r.sets) mails)
  pub repolls : (to : ℕ) (r : ReplicaState) (mails : List Mail) → counted ≡ true → Among to (joined start r) → Q (r, mails) → Q (r, sent r.me to (Prepare (name_of r) r.leader.ballot (next r)) mails)
  pub flies : (other : Command) (r : ReplicaState) (mails : List Mail) → flying r (next start) ≡ Some other → Q (r, mails) → Lost other
  pub landed : (place : Place) → Q place → Q (cleared (next start) place)
  pub back : (other : Command) (r : ReplicaState) (mails : List Mail) → Lost other → Q (r, mails) → Q (put_back other r, mails)

module _ (counted : Bool) (command : Command) (start : ReplicaState) (P Q : Place → Type 0) (p : TableEntry counted command start P Q) where
  abbrev effect : Effect
  effect = (applied start.group command).1

  call_kept : (o : Option AnswerBody) (c : Command) (place : Place) → answer_of effect ≡ o → command ≡ c → counted ≡ true → Q (put_back command place.0, place.1) → Q place → Q (answered_or_put_back o c place)
  unfolding answered_or_put_back
  call_kept (Some answer) (Call client seq op) (r, mails) e same t back k = p.answers client seq op answer r mails t same e k
  call_kept None (Call client seq op) (r, mails) e same t back k = rw same at back
  call_kept (Some answer) _ place e same t back k = k
  call_kept None _ place e same t back k = k

  effect_kept : (o : Option OrderResult) (place : Place) → order_result command effect ≡ o → Q place → Q (effect_reported o command place)
  unfolding effect_reported
  effect_kept None place e k = k
  effect_kept (Some result) (r, mails) e k = p.reports result r mails e k

  announced_kept : (place : Place) → Q place → Q (announced counted effect command place)
  unfolding announced
  announced_kept place k =
      effect_kept (order_result command effect) (cond counted (answered_or_put_back (answer_of effect) command place) place) refl
      (cond_both counted (answered_or_put_back (answer_of effect) command place) place Q (λ t. call_kept (answer_of effect) command place refl refl t (p.returned place.0 place.1 t k) k) (λ _. k))

  spoken_kept : (place : Place) → Q place → Q (spoken counted (before_of start.group.core) effect command place)
  unfolding spoken
  spoken_kept (r, mails) k = p.speaks r mails k

  learnt_kept : (place : Place) → Q place → Q (learnt_to counted (members start) (next start) command place)
  unfolding learnt_to
  learnt_kept (r, mails) k =
      cond_both counted (r, _) (r, mails) Q
      (λ t. each_other_sent r.me (λ node. Among node (members start)) (λ ms. Q (r, ms)) (Learn (name_of r) (next start) command) (λ to ms m q. p.teaches to r ms t m q) (members start) mails
      (Each-from (λ node. Among node (members start)) (members start) (λ node a. a)) k) (λ _. k)

  all_welcomed : (nodes : List ℕ) (r : ReplicaState) (mails : List Mail) → counted ≡ true → Each (λ node. Among node (joined start r)) nodes → Q (r, mails) → Q (welcomed_all nodes (r, mails))
  unfolding welcomed_all install_to
  all_welcomed [] r mails t new k = k
  all_welcomed (node ∷ nodes) r mails t new k =
      let reported : List Mail = sent r.me node (Install (name_of r) (next r - 1) (base_of r.group) r.sets) mails in
      let asked : List Mail = sent r.me node (Prepare (name_of r) r.leader.ballot (next r)) reported in
      let q : Q (r, reported) = p.installs node r mails t new.0 k in
      either_way (λ (place : Place). Q (welcomed_all nodes place)) r.leader.is_first (r, reported) (r, asked) (all_welcomed nodes r reported t new.1 q) (all_welcomed nodes r asked t new.1 (p.repolls node r reported t new.0 q))

  welcomed_kept : (place : Place) → Q place → Q (welcomed counted (members start) place)
  unfolding welcomed
  welcomed_kept (r, mails) k =
      cond_both counted (welcomed_all (joined start r) (r, mails)) (r, mails) Q (λ t. all_welcomed (joined start r) r mails t (Each-from (λ node. Among node (joined start r)) (joined start r) (λ node a. a)) k) (λ _. k)

  abbrev Flies : Option Command → Type 0
  Flies None = Unit {0}
  Flies (Some other) = p.Lost other

  flies_by : (o : Option Command) (place : Place) → flying place.0 (next start) ≡ o → Q place → Flies o
  flies_by None place e k = tt
  flies_by (Some other) (r, mails) e k = p.flies other r mails e k

  landed_kept : (place : Place) → Q place → Q (landed counted (next start) command place)
  landed_kept place k = landed_place Q Flies (λ other q l m. p.back other q.0 q.1 l m) counted (next start) command place (flies_by (flying place.0 (next start)) place refl k) (p.landed place k)

  -- the whole entry
  pub entry_holds : (mails : List Mail) → P (start, mails) → Q (entered_place counted command (start, mails))
  entry_holds mails k =
      let place0 : Place = (entered command start, mails) in
      let place1 : Place = announced counted effect command place0 in
      let place2 : Place = spoken counted (before_of start.group.core) effect command place1 in
      let place3 : Place = learnt_to counted (members start) (next start) command place2 in
      landed_kept (welcomed counted (members start) place3) (welcomed_kept place3 (learnt_kept place2 (spoken_kept place1 (announced_kept place0 (p.entered mails k)))))

-- What one entry makes of a replica that runs, where its group is not reshaped: the next slot is taken no more, and the others stay.
use Rattle.std.proofs.Common.{◌≡◌, ℕ, ◌+◌, ◌-◌, ◌≤◌, ◌||◌, eqb, nat_lt, Bool, true, false, cond, List, [], ◌∷◌, ◌++◌, Option, Some, None, inl, inr, refl, sym, ◌∙◌, ap, subst, arith}
use Rattle.std.specs.FinMap.{get}
use Rattle.std.specs.Option.{option_map}
use Rattle.std.proofs.lemmas.Bool.{cond-true, cases_lt, cases_eq, ne_eqb}
use Rattle.sc_base.specs.Definitions.{Each, is_member, least_of}
use Rattle.sc_node_table.specs.Values.{Ballot, Noted, Op, Base, Command, Noop, Call, Core, Lock, Free, Effect, Route, AnswerBody, Mail, Learn, Flight}
use Rattle.sc_words.specs.ideal.IdealDefinitions.{key_of, holds_key}
use Rattle.sc_words.specs.declared.commands.effects.Effect.TheVariants as Was
use Rattle.sc_words.specs.paxos.PaxosDefinitions.{flight_at, without_flight}
use Rattle.sc_words.proofs.PaxosProofs.PaxosLemmas.{Each-among, find_found}
use Rattle.sc_group_table.specs.machine.MachineDefinitions.{Group, served_by_note, called, applied}
use Rattle.sc_node_table.specs.declared.Before.{Before}
use Rattle.sc_node_table.specs.NodeDefinitions.{stopped, entered, answer_of, answered_or_put_back, effect_reported, announced, learnt_to, welcomed, slot_lost, landed, left_gone, left, looked_for, looked, executed_one, welcomed_all, answer_to, sent_others, put_back, queued_number, request_before, is_request_of, without_request, same_command, ReplicaState, Place, name_of, next, members, flying, forgotten, rest_of, without_slot, before_of, spoken, spoken_mails, begun_reported, went_on}
use Rattle.sc_law_walks.proofs.WalkLemmas.{either_way, cleared, entered_next}
use Rattle.sc_live_plain.specs.PlainDefinitions.{takers}
use Rattle.sc_live_plain.proofs.PlainLemmas.{one_if_most, entries_at, out_none, out_here, out_other, standing, range_before, range_less, flights_at, among_push, others_kept, in_range, range_behind, one_if, one_no, out_each}
use Rattle.sc_live_plain.proofs.PlainLemmas.{none_new}
use Rattle.sc_live_healed.specs.HealedDefinitions.{IsFixedCommand, IsFixedRequest}
use Rattle.sc_live_healed.proofs.ServingReplicas.{Grows, IsServing, IsUnderWay, grown}
use Rattle.sc_live_healed.proofs.OfferedQueues.{requeued}

-- ---- the group after a request

note_core : (o : Option Noted) (group : Group) (client seq : ℕ) (op : Op) → ((served_by_note o group client seq op).0.core ≡ group.core) × ((answer : AnswerBody) × (answer_of (served_by_note o group client seq op).1 ≡ Some answer))
note_core None group client seq op = (refl, (_, refl))
note_core (Some noted) group client seq op =
    either_way (λ (p : Group × Effect). (p.0.core ≡ group.core) × ((answer : AnswerBody) × (answer_of p.1 ≡ Some answer))) (nat_lt noted.seq seq) _ _ (refl, (_, refl))
    (either_way (λ (p : Group × Effect). (p.0.core ≡ group.core) × ((answer : AnswerBody) × (answer_of p.1 ≡ Some answer))) (eqb noted.seq seq) _ _ (refl, (_, refl)) (refl, (_, refl)))

called_core : (gone : Option Route) (lock : Lock) (group : Group) (client seq : ℕ) (op : Op) → gone ≡ None → lock ≡ Free → holds_key group.core.arc (key_of op) ≡ true
    → ((called gone lock group client seq op).0.core ≡ group.core) × ((answer : AnswerBody) × (answer_of (called gone lock group client seq op).1 ≡ Some answer))
called_core None Free group client seq op g f h =
    subst (λ (p : Group × Effect). (p.0.core ≡ group.core) × ((answer : AnswerBody) × (answer_of p.1 ≡ Some answer)))
    (sym (cond-true (holds_key group.core.arc (key_of op)) (served_by_note (get group.clients client) group client seq op) (group, Was.NotMine group.core.arc group.core.succ) h)) (note_core (get group.clients client) group client seq op)
called_core None _ group client seq op g f h = cc
called_core (Some into) lock group client seq op g f h = cc

-- ---- what is told of an entry

-- a place with more mails
abbrev Says : ReplicaState → List Mail → Place → Type 0
Says r mails place = (more : List Mail) × (place ≡ (r, more)) × Grows mails more

says_then : (r : ReplicaState) (mails : List Mail) (f : Place → Place) (place : Place) → Says r mails place → ((more : List Mail) → Says r more (f (r, more))) → Says r mails (f place)
says_then r mails f place said next_ =
    let then_ = next_ said.0 in
    (then_.0, ap f said.1 ∙ then_.1, λ mail a. then_.2 mail (said.2 mail a))

announced_call : (counted : Bool) (client seq : ℕ) (op : Op) (effect : Effect) (answer : AnswerBody) (r : ReplicaState) (mails : List Mail) → answer_of effect ≡ Some answer → Says r mails (announced counted effect (Call client seq op) (r, mails))
unfolding announced answered_or_put_back effect_reported
announced_call false client seq op effect answer r mails e = (mails, refl, λ mail a. a)
announced_call true client seq op effect answer r mails e =
    (answer_to r.me (name_of r) client seq answer mails, ap (λ (o : Option AnswerBody). answered_or_put_back o (Call client seq op) (r, mails)) e, λ mail a. among_push mails _ mail a)

announced_noop : (counted : Bool) (effect : Effect) (r : ReplicaState) (mails : List Mail) → Says r mails (announced counted effect Noop (r, mails))
unfolding announced answered_or_put_back effect_reported
announced_noop false effect r mails = (mails, refl, λ mail a. a)
announced_noop true effect r mails = (mails, by (answer_of effect), λ mail a. a)
  where
    by : (o : Option AnswerBody) → answered_or_put_back o Noop (r, mails) ≡ (r, mails)
    by None = refl
    by (Some answer) = refl

spoken_call : (counted : Bool) (before : Before) (client seq : ℕ) (op : Op) (effect : Effect) (r : ReplicaState) (mails : List Mail) → Says r mails (spoken counted before effect (Call client seq op) (r, mails))
unfolding spoken spoken_mails begun_reported went_on
spoken_call true before client seq op effect r mails = (mails, refl, λ mail a. a)
spoken_call false before client seq op effect r mails = (mails, refl, λ mail a. a)

spoken_noop : (counted : Bool) (before : Before) (effect : Effect) (r : ReplicaState) (mails : List Mail) → Says r mails (spoken counted before effect Noop (r, mails))
unfolding spoken spoken_mails begun_reported went_on
spoken_noop true before effect r mails = (mails, refl, λ mail a. a)
spoken_noop false before effect r mails = (mails, refl, λ mail a. a)

learnt_says : (counted : Bool) (before : List ℕ) (slot : ℕ) (command : Command) (r : ReplicaState) (mails : List Mail) → Says r mails (learnt_to counted before slot command (r, mails))
unfolding learnt_to
learnt_says true before slot command r mails = (sent_others r.me before (Learn (name_of r) slot command) mails, refl, λ mail a. others_kept r.me (Learn (name_of r) slot command) before mails mail a)
learnt_says false before slot command r mails = (mails, refl, λ mail a. a)

welcomed_says : (counted : Bool) (before : List ℕ) (r : ReplicaState) (mails : List Mail) → members r ≡ before → Says r mails (welcomed counted before (r, mails))
unfolding welcomed welcomed_all
welcomed_says true before r mails e = (mails, ap (λ nodes. welcomed_all nodes (r, mails)) (none_new before (members r) e), λ mail a. a)
welcomed_says false before r mails e = (mails, refl, λ mail a. a)

-- ---- a replica that runs goes on

stays_by : (P : Place → Type 0) (gone : Option Route) (r : ReplicaState) (mails : List Mail) → gone ≡ None → is_member (members r) r.me ≡ true → P (r, mails) → P (left_gone gone (r, mails))
stays_by P None r mails g m p = subst P (sym (cond-true (is_member (members r) r.me) (r, mails) (stopped (Some (least_of (members r))) (r, mails)) m)) p
stays_by P (Some into) r mails g m p = cc

goes_on : (P : Place → Type 0) (r : ReplicaState) (mails : List Mail) → r.running ≡ true → r.group.core.gone ≡ None → is_member (members r) r.me ≡ true → P (r, mails) → P (looked (left (r, mails)))
unfolding left looked
goes_on P r mails t g m p =
    subst (λ (place : Place). P (looked place)) (sym (cond-true r.running (left_gone r.group.core.gone (r, mails)) (r, mails) t))
    (stays_by (λ (place : Place). P (looked place)) r.group.core.gone r mails g m (subst P (sym (cond-true r.running (r, mails) (looked_for r.group.core.gone (r, mails)) t)) p))

-- ---- one taken out

-- where one stands at most, none is left
none_left : {X : Type 0} (key : X → ℕ) (out : ℕ → List X → List X) (none : (slot : ℕ) → out slot [] ≡ []) (some : (slot : ℕ) (x : X) (xs : List X) → out slot (x ∷ xs) ≡ cond (eqb (key x) slot) xs (x ∷ out slot xs))
    (slot : ℕ) (xs : List X) → standing key out none some slot xs ≤ 1 → standing key out none some slot (out slot xs) ≡ 0
none_left key out none some slot xs most = elim (cases_lt 0 (standing key out none some slot xs)) [
  | inl up ↦ (let less = out_here key out none some slot xs (omega (arith, up)) in omega (arith, less, most))
  | inr no_ ↦ (let same = ap (standing key out none some slot) (out_none key out none some slot xs (omega (arith, no_))) in omega (arith, same, no_))
]

-- no slot is one of none
pub range_none : (from slot : ℕ) → one_if (in_range from 0 slot) ≡ 0
range_none from slot = elim (cases_lt slot from) [
  | inl low ↦ one_no (in_range from 0 slot) (range_before from 0 slot low)
  | inr high ↦ one_no (in_range from 0 slot) (range_behind from 0 slot (omega (arith, high)))
]

-- the slots behind the next one are taken as before
range_rest : (from taken slot : ℕ) → (from ≡ slot → ⊥) → one_if (in_range (from + 1) (taken - 1) slot) ≡ one_if (in_range from taken slot)
range_rest from taken slot past = elim (cases_lt 0 taken) [
  | inl up ↦ (
      let more : taken ≡ (taken - 1) + 1 = omega (arith, up) in
      let less = range_less from (taken - 1) slot in
      let no_ = one_no (eqb from slot) (ne_eqb from slot past) in
      let same : one_if (in_range from taken slot) ≡ one_if (in_range from ((taken - 1) + 1) slot) = ap (λ t. one_if (in_range from t slot)) more in
      omega (arith, less, no_, same))
  | inr none ↦ (
      let zero_ : taken ≡ 0 = omega (arith, none) in
      let less : taken - 1 ≡ 0 = omega (arith, none) in
      let a : one_if (in_range (from + 1) (taken - 1) slot) ≡ 0 = ap (λ t. one_if (in_range (from + 1) t slot)) less ∙ range_none (from + 1) slot in
      let b : one_if (in_range from taken slot) ≡ 0 = ap (λ t. one_if (in_range from t slot)) zero_ ∙ range_none from slot in
      a ∙ sym b)
]

module _ (base : Base) (me : ℕ) (ballot : Ballot) (Held : Flight Command → Type 0) (free : base.core.lock ≡ Free) (stands : base.core.gone ≡ None) (member : is_member base.core.members me ≡ true) where
  abbrev S : ℕ → Place → Type 0
  S taken place = IsServing base me ballot Held taken place

  -- what an entry of a replica that has taken this number of slots leaves
  pub record IsEntered (taken : ℕ) (before : ReplicaState) (place : Place) : Type 0 where
    pub serves : S (taken - 1) place
    pub same_next : next place.0 ≡ next before + 1
    pub same_ready : place.0.ready ≡ without_slot before.ready (next before)

  -- the group keeps its record
  pub core_after : (command : Command) (group : Group) → IsFixedCommand base command → group.core ≡ base.core → (applied group command).0.core ≡ base.core
  core_after (Call client seq op) group (inl held) e =
      (called_core group.core.gone group.core.lock group client seq op (ap (λ (core : Core). core.gone) e ∙ stands) (ap (λ (core : Core). core.lock) e ∙ free) (ap (λ (core : Core). holds_key core.arc (key_of op)) e ∙ held)).0 ∙ e
  core_after Noop group fixed e = e
  core_after _ group (inl held) e = absurd held
  core_after _ group (inr same) e = cc

  -- what goes back waits first
  pub without_fixed : (backlog : List Command) (client : ℕ) → Each (IsFixedRequest base) backlog → Each (IsFixedRequest base) (without_request backlog client)
  without_fixed [] client k = tt
  without_fixed (command ∷ backlog) client k = either_way (Each (IsFixedRequest base)) (is_request_of client command) backlog (command ∷ without_request backlog client) k.1 (k.0, without_fixed backlog client k.1)

  before_fixed : (o : Option ℕ) (client seq : ℕ) (command : Command) (backlog : List Command) → IsFixedRequest base command → Each (IsFixedRequest base) backlog → Each (IsFixedRequest base) (request_before o client seq command backlog)
  before_fixed None client seq command backlog q k = (q, k)
  before_fixed (Some other) client seq command backlog q k = either_way (Each (IsFixedRequest base)) (nat_lt other seq) (command ∷ without_request backlog client) backlog (q, without_fixed backlog client k) k

  back_entered : (taken : ℕ) (before : ReplicaState) (other : Command) (r : ReplicaState) (mails : List Mail) → IsFixedCommand base other → IsEntered taken before (r, mails) → IsEntered taken before (put_back other r, mails)
  unfolding put_back
  back_entered taken before (Call client seq op) r mails (inl held) k = record {
    serves = requeued base me ballot Held free stands (taken - 1) r mails (request_before (queued_number r.backlog client) client seq (Call client seq op) r.backlog)
        (before_fixed (queued_number r.backlog client) client seq (Call client seq op) r.backlog held k.serves.backlog) k.serves;
    same_next = k.same_next;
    same_ready = k.same_ready;
  }
  back_entered taken before Noop r mails fixed k = k
  back_entered taken before _ r mails (inl held) k = absurd held
  back_entered taken before _ r mails (inr same) k = cc

  -- where there is a command, it is one of a group that is not reshaped
  abbrev Fixes : Option Command → Type 0
  Fixes None = Unit {0}
  Fixes (Some command) = IsFixedCommand base command

  flies_fixed : (mails : List Mail) (slot : ℕ) (flights : List (Flight Command)) (o : Option (Flight Command)) → flight_at slot flights ≡ o → Each (IsUnderWay base me ballot Held mails) flights → Fixes (option_map (λ (flight : Flight Command). flight.value) o)
  flies_fixed mails slot flights None e k = tt
  flies_fixed mails slot flights (Some flight) e k =
      let found = find_found (λ (x : Flight Command). eqb x.slot slot) flights flight e in
      (Each-among (IsUnderWay base me ballot Held mails) flights flight k found.0).value

  lost_entered : (taken : ℕ) (before : ReplicaState) (counted : Bool) (command : Command) (o : Option Command) (r : ReplicaState) (mails : List Mail) → Fixes o → IsEntered taken before (r, mails) → IsEntered taken before (slot_lost counted command o r, mails)
  lost_entered taken before counted command None r mails f k = k
  lost_entered taken before counted command (Some other) r mails f k =
      either_way (λ (x : ReplicaState). IsEntered taken before (x, mails)) (counted || same_command other command) r (put_back other r) k (back_entered taken before other r mails f k)

  module _ (taken : ℕ) (command : Command) (r : ReplicaState) (mails more : List Mail) (fixed : IsFixedCommand base command) (grow : Grows mails more) (k : S taken (r, mails)) where
    abbrev after : ReplicaState
    after = (cleared (next r) (entered command r, more)).0

    next_after : next after ≡ next r + 1
    next_after = entered_next command r

    once_after : (s : ℕ) → takers after s ≡ one_if (in_range (next after) (taken - 1) s)
    unfolding entered forgotten
    once_after s =
        let range : one_if (in_range (next after) (taken - 1) s) ≡ one_if (in_range (next r + 1) (taken - 1) s) = ap (λ m. one_if (in_range m (taken - 1) s)) next_after in
        let before = k.slots.once s in
        elim (cases_eq (next r) s) [
          | inl here ↦ (
              let at = k.slots.once (next r) in
              let most = one_if_most (in_range (next r) taken (next r)) in
              let flights = none_left (λ (f : Flight Command). f.slot) (λ m fs. without_flight m fs) (λ m. refl) (λ m f fs. refl) (next r) r.leader.flights (omega (arith, at, most)) in
              let entries = none_left (λ (entry : ℕ × Command). entry.0) (λ m es. without_slot es m) (λ m. refl) (λ m x es. refl) (next r) r.ready (omega (arith, at, most)) in
              let none = one_no (in_range (next r + 1) (taken - 1) (next r)) (range_before (next r + 1) (taken - 1) (next r) (omega arith)) in
              let gone_ : flights_at (next r) (without_flight (next r) r.leader.flights) + entries_at (next r) (without_slot r.ready (next r)) ≡ one_if (in_range (next r + 1) (taken - 1) (next r)) = omega (arith, flights, entries, none) in
              subst (λ m. flights_at m (without_flight (next r) r.leader.flights) + entries_at m (without_slot r.ready (next r)) ≡ one_if (in_range (next r + 1) (taken - 1) m)) here gone_ ∙ sym range)
          | inr past ↦ (
              let flights = out_other (λ (f : Flight Command). f.slot) (λ m fs. without_flight m fs) (λ m. refl) (λ m f fs. refl) (next r) s r.leader.flights past in
              let entries = out_other (λ (entry : ℕ × Command). entry.0) (λ m es. without_slot es m) (λ m. refl) (λ m x es. refl) (next r) s r.ready past in
              let rest = range_rest (next r) taken s past in
              omega (arith, flights, entries, rest, range, before))
        ]

    cleared_entered : IsEntered taken r (after, more)
    unfolding entered forgotten
    cleared_entered =
        let most = k.slots.most in
        let up = next_after in
        let old = grown base me ballot Held taken r mails more grow k in
        let core : (applied r.group command).0.core ≡ base.core = core_after command r.group fixed k.core in
        record {
          serves = record {
            running = k.running;
            me_is = k.me_is;
            ballot_is = k.ballot_is;
            core = core;
            sets = ap (λ (sets : List (List ℕ)). rest_of sets ++ (applied r.group command).0.core.members ∷ []) k.sets
                ∙ ap (λ (c : Core). base.core.members ∷ base.core.members ∷ base.core.members ∷ c.members ∷ []) core;
            acts = k.acts;
            backlog = k.backlog;
            flights = out_each (λ (f : Flight Command). f.slot) (λ s fs. without_flight s fs) (λ s. refl) (λ s f fs. refl) (IsUnderWay base me ballot Held more) (next r) r.leader.flights old.flights;
            ready = out_each (λ (entry : ℕ × Command). entry.0) (λ s es. without_slot es s) (λ s. refl) (λ s x es. refl) (λ (entry : ℕ × Command). IsFixedCommand base entry.1) (next r) r.ready k.ready;
            reports = k.reports;
            slots = record { most = omega (arith, most); once = once_after };
            room = elim (k.room) [
              | inl none ↦ inl (omega (arith, none))
              | inr low ↦ elim (cases_lt 0 taken) [ inl some ↦ inr (omega (arith, low, some, up)) | inr none ↦ inl (omega (arith, none)) ]
            ];
          };
          same_next = next_after;
          same_ready = refl;
        }

    landed_entered : (counted : Bool) → IsEntered taken r (landed counted (next r) command (entered command r, more))
    unfolding landed entered forgotten
    landed_entered counted =
        lost_entered taken r counted command (flying r (next r)) (cleared (next r) (entered command r, more)).0 more (flies_fixed mails (next r) r.leader.flights (flight_at (next r) r.leader.flights) refl k.flights) cleared_entered

  -- what is told of an entry
  same_members : (command : Command) (r : ReplicaState) → IsFixedCommand base command → r.group.core ≡ base.core → members (entered command r) ≡ members r
  unfolding entered forgotten
  same_members command r fixed e = ap (λ (core : Core). core.members) (core_after command r.group fixed e ∙ sym e)

  reported : (counted : Bool) (r : ReplicaState) (mails : List Mail) → r.group.core ≡ base.core → (c : Command) → IsFixedCommand base c
      → Says (entered c r) mails (spoken counted (before_of r.group.core) (applied r.group c).1 c (announced counted (applied r.group c).1 c (entered c r, mails)))
  reported counted r mails e (Call client seq op) (inl held) =
      let answer = (called_core r.group.core.gone r.group.core.lock r.group client seq op (ap (λ (core : Core). core.gone) e ∙ stands) (ap (λ (core : Core). core.lock) e ∙ free) (ap (λ (core : Core). holds_key core.arc (key_of op)) e ∙ held)).1 in
      says_then (entered (Call client seq op) r) mails (λ place. spoken counted (before_of r.group.core) (applied r.group (Call client seq op)).1 (Call client seq op) place) (announced counted (applied r.group (Call client seq op)).1 (Call client seq op) (entered (Call client seq op) r, mails))
      (announced_call counted client seq op (applied r.group (Call client seq op)).1 answer.0 (entered (Call client seq op) r) mails answer.1)
      (λ more. spoken_call counted (before_of r.group.core) client seq op (applied r.group (Call client seq op)).1 (entered (Call client seq op) r) more)
  reported counted r mails e Noop f =
      says_then (entered Noop r) mails (λ place. spoken counted (before_of r.group.core) (applied r.group Noop).1 Noop place) (announced counted (applied r.group Noop).1 Noop (entered Noop r, mails))
      (announced_noop counted (applied r.group Noop).1 (entered Noop r) mails)
      (λ more. spoken_noop counted (before_of r.group.core) (applied r.group Noop).1 (entered Noop r) more)
  reported counted r mails e _ (inl held) = absurd held
  reported counted r mails e _ (inr same) = cc

  pub entry_says : (counted : Bool) (command : Command) (r : ReplicaState) (mails : List Mail) → IsFixedCommand base command → r.group.core ≡ base.core
      → Says (entered command r) mails (welcomed counted (members r) (learnt_to counted (members r) (next r) command (spoken counted (before_of r.group.core) (applied r.group command).1 command (announced counted (applied r.group command).1 command (entered command r, mails)))))
  entry_says counted command r mails fixed e =
      let spoke : Place = spoken counted (before_of r.group.core) (applied r.group command).1 command (announced counted (applied r.group command).1 command (entered command r, mails)) in
      says_then (entered command r) mails (λ place. welcomed counted (members r) place) (learnt_to counted (members r) (next r) command spoke)
      (says_then (entered command r) mails (λ place. learnt_to counted (members r) (next r) command place) spoke
      (reported counted r mails e command fixed) (λ more. learnt_says counted (members r) (next r) command (entered command r) more))
      (λ more. welcomed_says counted (members r) (entered command r) more (same_members command r fixed e))

  -- the whole entry
  pub one_entered : (taken : ℕ) (counted : Bool) (command : Command) (r : ReplicaState) (mails : List Mail) → IsFixedCommand base command → S taken (r, mails) → IsEntered taken r (executed_one counted command (r, mails))
  unfolding executed_one
  one_entered taken counted command r mails fixed k =
      let said = entry_says counted command r mails fixed k.core in
      let q : IsEntered taken r (landed counted (next r) command (entered command r, said.0)) = landed_entered taken command r mails said.0 fixed said.2 k counted in
      let place : Place = landed counted (next r) command (entered command r, said.0) in
      subst (λ (p : Place). IsEntered taken r (looked (left (landed counted (next r) command p)))) (sym said.1)
      (goes_on (IsEntered taken r) place.0 place.1 q.serves.running (ap (λ (core : Core). core.gone) q.serves.core ∙ stands)
      (ap (λ (core : Core). is_member core.members place.0.me) q.serves.core ∙ ap (is_member base.core.members) q.serves.me_is ∙ member) q)

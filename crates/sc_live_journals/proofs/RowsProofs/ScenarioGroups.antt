-- How the groups of a scenario begin, over its players.
use Rattle.std.proofs.Common.{◌≡◌, ℕ, zero, suc, ◌+◌, ◌<◌, ◌≤◌, ◌||◌, not, nat_lt, eqb, true, false, cond, List, [], ◌∷◌, ◌++◌, length, map, find, replicate, Option, Some, None, inl, inr, refl, sym, ◌∙◌, ap, subst, arith}
use Rattle.std.specs.List.{filter}
use Rattle.std.specs.Option.{option_map}
use Rattle.std.specs.Prelude.{is_some}
use Rattle.std.proofs.lemmas.Bool.{cases_Bool, cases_eq, cond_both, cond-true, cond-false, eq-eqb, eqb-true, both_ways}
use Rattle.sc_base.specs.Definitions.{Among, same_draw, IsRoster, is_member}
use Rattle.sc_node_table.specs.Values.{Draw, Base, Command, Flight}
use Rattle.sc_base.proofs.Lemmas.{draw_is, same_name}
use Rattle.sc_words.specs.paxos.PaxosDefinitions.{flight_at, kept_voters}
use Rattle.sc_words.proofs.PaxosProofs.PaxosLemmas.{Each-among, Each-from_All}
use Rattle.sc_node_table.specs.NodeDefinitions.{born_replicas, replica_of, ReplicaState, next, first_ballot, born_replica, slots_ahead, numbers_from, at_slot}
use Rattle.sc_scenario.specs.scenario.Definitions.{base_at, group_at, IsBounded, IsBoundedGroup, IsUpTo}
use Rattle.sc_scenario.specs.declared.scenario.scenarios.Asks.{Asks}
use Rattle.sc_scenario.specs.declared.scenario.scenarios.Scenario.{Scenario}
use Rattle.sc_meaning.specs.sound.SoundDefinitions.{node_seat, client_seat, client_seats, route_of, births, as_nodes}
use Rattle.sc_live_steps.specs.following.FollowingDefinitions.{IsLed, Sets, Course, Progress, begun, voters_of, IsLeadOf, AreAt}
use Rattle.sc_live_steps.proofs.FollowingProofs.FollowingLemmas.{least_in}
use Rattle.sc_live_journals.specs.rows.RowDefinitions.{replica_in, view_at, next_in, promise_in, progress_at, begun_course}
use Rattle.sc_paxos_law.proofs.Among.{member-among as among_member}
use Rattle.sc_law_groups.proofs.WholeProofs.WholeLemmas.{group_place}

-- ---- the first member at its birth

pub none_some : {X : Type 0} {x : X} → None ≡ Some x → ⊥
none_some e = cc

pub none_flies : (r : ReplicaState) → r.leader.flights ≡ [] → (slot : ℕ) → voters_of r slot ≡ None
none_flies r e slot =
    cond_both (not r.running || (nat_lt slot (next r) || is_some (at_slot r.ready slot))) None (option_map (λ (flight : Flight Command). kept_voters flight.voters) (flight_at slot r.leader.flights)) (λ o. o ≡ None)
    (λ _. refl) (λ _. ap (λ (fs : List (Flight Command)). option_map (λ (flight : Flight Command). kept_voters flight.voters) (flight_at slot fs)) e)

sets_at : (at : Sets) (members : List ℕ) (count from : ℕ) → ((slot : ℕ) → slot < from + count → at slot ≡ members) → AreAt at from (replicate count members)
sets_at at members zero from same = tt
sets_at at members (suc count) from same = (same from (omega arith), sets_at at members count (from + 1) (λ slot low. same slot (omega (arith, low))))

-- it leads as the course of the birth says
pub born_leads : (at : Sets) (base : Base) (now : Progress) → ((slot : ℕ) → slot < 1 + slots_ahead → at slot ≡ base.core.members) → IsRoster base.core.members → is_member base.core.members base.core.first ≡ true → base.core.gone ≡ None
    → now.course ≡ begun_course base → now.next base.core.first ≡ 1 → now.promise base.core.first ≡ first_ballot base.core → IsLeadOf at now (born_replica slots_ahead base.core.first base)
born_leads at base now same roster first stands course executed promise =
    let r : ReplicaState = born_replica slots_ahead base.core.first base in
    record {
      led = subst (λ (c : Course). IsLed at c r) (sym course) (record {
        running = eq-eqb base.core.first base.core.first refl;
        stands = stands;
        first = refl;
        mine = refl;
        member = first;
        was = same 4 (omega arith);
        ahead = refl;
        roster = roster;
        may = record { ballot = refl; sets = sets_at at base.core.members slots_ahead 1 same; low = omega arith; high = omega arith; taken = λ slot low high. absurd (omega (arith, low, high)); free = λ slot low. refl };
      });
      newest = ap (λ (c : Course). c.newest) course;
      runs = ap (λ (c : Course). c.running) course;
      stands = ap (λ (c : Course). c.gone) course;
      executed = executed;
      promise = promise;
      voters = λ slot. ap (λ (c : Course). c.voters slot) course ∙ sym (none_flies r refl slot);
      polled = λ slot voters e. absurd (none_some (sym (none_flies r refl slot) ∙ e));
      counted = λ node. ap (λ (c : Course). c.counted node) course;
    }

-- ---- the groups of a bounded scenario

-- what is known of a group at its birth
record IsBorn (nodes : ℕ) (base : Base) : Type 0 where
  roster : IsRoster base.core.members
  first : is_member base.core.members base.core.first ≡ true
  stands : base.core.gone ≡ None
  within : (node : ℕ) → is_member base.core.members node ≡ true → (1 ≤ node) × (node ≤ nodes)

module _ (scenario : Scenario) (bounded : IsBounded scenario) where
  line_bounded : (k : ℕ) → k < length bounded.starts → IsBoundedGroup scenario.nodes (group_at bounded.starts k)
  line_bounded k low = bounded.each k (record { lo = 0; members = [] }) low

  born_at : (k : ℕ) → k < length bounded.starts → IsBorn scenario.nodes (base_at bounded.starts k)
  born_at k low =
      let line = line_bounded k low in
      let members = (group_at bounded.starts k).members in
      record {
        roster = line.roster;
        first = least_in members line.roster.some;
        stands = refl;
        within = λ node m. Each-among (IsUpTo scenario.nodes) members node (Each-from_All (IsUpTo scenario.nodes) members line.members_in) (among_member members node m);
      }

  born_is : (base : Base) → Among base scenario.groups → IsBorn scenario.nodes base
  born_is base a = (let p = group_place scenario bounded base a in subst (IsBorn scenario.nodes) p.2 (born_at p.0 p.1))

  pub named_once : (one other : Base) → Among one scenario.groups → Among other scenario.groups → one.core.id ≡ other.core.id → one ≡ other
  named_once one other a b same =
      let x = group_place scenario bounded one a in
      let y = group_place scenario bounded other b in
      let names : x.0 + 1 ≡ y.0 + 1 = ap (λ (f : Base). f.core.id.count) x.2 ∙ (ap (λ (d : Draw). d.count) same ∙ sym (ap (λ (f : Base). f.core.id.count) y.2)) in
      let k : x.0 ≡ y.0 = omega (arith, names) in
      sym x.2 ∙ (ap (λ n. base_at bounded.starts n) k ∙ y.2)

-- ---- the replicas of a node

module _ (me : ℕ) (base : Base) where
  -- the node's replica of the group, if it is a member
  abbrev pub own_replica : Option ReplicaState
  own_replica = cond (is_member base.core.members me) (Some (born_replica slots_ahead me base)) None

  -- a list of groups in which only this one has its name
  abbrev HasOnce : List Base → Type 0
  HasOnce groups = (other : Base) → Among other groups → other.core.id ≡ base.core.id → other ≡ base

  one_less : (b : Base) (groups : List Base) → HasOnce (b ∷ groups) → HasOnce groups
  one_less b groups once = λ other a e. once other (inr a) e

  -- with one more group at the head, the node's replica of it comes first, if it is a member
  in_prefix : (P : Option ReplicaState → Type 0) (b : Base) (groups : List Base)
      → (is_member b.core.members me ≡ true → P (cond (same_draw b.core.id base.core.id) (Some (born_replica slots_ahead me b)) (replica_of base.core.id (born_replicas slots_ahead me groups))))
      → (is_member b.core.members me ≡ false → P (replica_of base.core.id (born_replicas slots_ahead me groups))) → P (replica_of base.core.id (born_replicas slots_ahead me (b ∷ groups)))
  in_prefix P b groups mine away =
      cond_both (is_member b.core.members me) (b ∷ filter (λ x. is_member x.core.members me) groups) (filter (λ x. is_member x.core.members me) groups)
      (λ l. P (replica_of base.core.id (map (λ y. born_replica slots_ahead me y) l))) mine away

  none_there : (groups : List Base) → HasOnce groups → is_member base.core.members me ≡ false → replica_of base.core.id (born_replicas slots_ahead me groups) ≡ None
  none_there [] once away = refl
  none_there (b ∷ groups) once away =
      in_prefix (λ o. o ≡ None) b groups
      (λ mine. elim (cases_Bool (same_draw b.core.id base.core.id)) [
        | inl t ↦ absurd (both_ways (is_member base.core.members me) away (ap (λ (x : Base). is_member x.core.members me) (sym (once b (inl refl) (draw_is b.core.id base.core.id t))) ∙ mine))
        | inr f ↦ cond-false (same_draw b.core.id base.core.id) (Some (born_replica slots_ahead me b)) (replica_of base.core.id (born_replicas slots_ahead me groups)) f ∙ none_there groups (one_less b groups once) away
      ])
      (λ _. none_there groups (one_less b groups once) away)

  one_there : (groups : List Base) → HasOnce groups → Among base groups → is_member base.core.members me ≡ true → replica_of base.core.id (born_replicas slots_ahead me groups) ≡ Some (born_replica slots_ahead me base)
  one_there [] once a mine = absurd a
  one_there (b ∷ groups) once a mine =
      elim (cases_Bool (same_draw b.core.id base.core.id)) [
        | inl t ↦ (let same : b ≡ base = once b (inl refl) (draw_is b.core.id base.core.id t) in
            in_prefix (λ o. o ≡ Some (born_replica slots_ahead me base)) b groups
            (λ _. cond-true (same_draw b.core.id base.core.id) (Some (born_replica slots_ahead me b)) (replica_of base.core.id (born_replicas slots_ahead me groups)) t ∙ ap (λ x. Some (born_replica slots_ahead me x)) same)
            (λ away. absurd (both_ways (is_member b.core.members me) away (ap (λ (x : Base). is_member x.core.members me) same ∙ mine))))
        | inr f ↦ (let rest = one_there groups (one_less b groups once) (behind a f) mine in
            in_prefix (λ o. o ≡ Some (born_replica slots_ahead me base)) b groups
            (λ _. cond-false (same_draw b.core.id base.core.id) (Some (born_replica slots_ahead me b)) (replica_of base.core.id (born_replicas slots_ahead me groups)) f ∙ rest) (λ _. rest))
      ]
    where
      behind : Among base (b ∷ groups) → same_draw b.core.id base.core.id ≡ false → Among base groups
      behind (inl e) f = absurd (both_ways (same_draw b.core.id base.core.id) f (same_name b.core.id base.core.id (ap (λ (x : Base). x.core.id) e)))
      behind (inr c) f = c

  own_is : (groups : List Base) → HasOnce groups → Among base groups → replica_of base.core.id (born_replicas slots_ahead me groups) ≡ own_replica
  own_is groups once a = elim (cases_Bool (is_member base.core.members me)) [
    | inl mine ↦ one_there groups once a mine ∙ sym (cond-true (is_member base.core.members me) (Some (born_replica slots_ahead me base)) None mine)
    | inr away ↦ none_there groups once away ∙ sym (cond-false (is_member base.core.members me) (Some (born_replica slots_ahead me base)) None away)
  ]

-- ---- the seats

client_none : (name : Draw) (who : ℕ) (groups : List Base) (clients : List Asks) → replica_in name [] (find (λ other. eqb other.who who) (client_seats groups clients)) ≡ None
client_none name who [] clients = refl
client_none name who (b ∷ groups) clients = by clients
  where
    by : (cs : List Asks) → replica_in name [] (find (λ other. eqb other.who who) (map (client_seat (route_of b)) cs)) ≡ None
    by [] = refl
    by (c ∷ cs) = cond_both (eqb (client_seat (route_of b) c).who who) (Some (client_seat (route_of b) c)) (find (λ other. eqb other.who who) (map (client_seat (route_of b)) cs)) (λ o. replica_in name [] o ≡ None) (λ _. refl) (λ _. by cs)

module _ (scenario : Scenario) (bounded : IsBounded scenario) (base : Base) (a : Among base scenario.groups) where
  seated : (count from who : ℕ) → (is_member base.core.members who ≡ true → (from ≤ who) × (who < from + count))
      → replica_in base.core.id [] (find (λ other. eqb other.who who) (map (node_seat as_nodes scenario.groups scenario.policy) (numbers_from from count) ++ client_seats scenario.groups scenario.clients)) ≡ own_replica who base
  seated zero from who within =
      client_none base.core.id who scenario.groups scenario.clients
      ∙ sym (cond-false (is_member base.core.members who) (Some (born_replica slots_ahead who base)) None (elim (cases_Bool (is_member base.core.members who)) [
        | inl t ↦ (let w = within t in let low = w.0 in let high = w.1 in absurd (omega (arith, low, high)))
        | inr f ↦ f
      ]))
  seated (suc count) from who within =
      cond_both (eqb from who) (Some (node_seat as_nodes scenario.groups scenario.policy from))
      (find (λ other. eqb other.who who) (map (node_seat as_nodes scenario.groups scenario.policy) (numbers_from (from + 1) count) ++ client_seats scenario.groups scenario.clients)) (λ o. replica_in base.core.id [] o ≡ own_replica who base)
      (λ t. own_is from base scenario.groups (λ other b e. named_once scenario bounded other base b a e) a ∙ ap (λ n. own_replica n base) (eqb-true from who t))
      (λ f. seated count (from + 1) who (λ m.
      let w = within m in
      let low = w.0 in
      let high = w.1 in (
        elim (cases_eq from who) [ inl e ↦ absurd (both_ways (eqb from who) f (eq-eqb from who e)) | inr ne ↦ above from who low ne ],
        omega (arith, high),
      )))
    where
      above : (x y : ℕ) → x ≤ y → (x ≡ y → ⊥) → x + 1 ≤ y
      above x y le ne = elim (cases_Bool (eqb x y)) [ inl t ↦ absurd (ne (eqb-true x y t)) | inr f2 ↦ strictly x y le ne ]
        where
          strictly : (x y : ℕ) → x ≤ y → (x ≡ y → ⊥) → x + 1 ≤ y
          strictly x y le ne = omega (arith, le, ne)

  pub view_born : (who : ℕ) → view_at (births as_nodes scenario) [] base.core.id who ≡ own_replica who base
  view_born who = seated scenario.nodes 1 who (λ m. (let w = (born_is scenario bounded base a).within who m in let low = w.0 in let high = w.1 in (low, omega (arith, high))))

  -- ---- the group

  abbrev sets : Sets
  sets = λ slot. base.core.members

  abbrev start : Progress
  start = begun base.core.members (first_ballot base.core)

  pub next_born : (who : ℕ) → next_in base who (view_at (births as_nodes scenario) [] base.core.id who) ≡ start.next who
  next_born who = ap (next_in base who) (view_born who) ∙ cond_both (is_member base.core.members who) (Some (born_replica slots_ahead who base)) None (λ o. next_in base who o ≡ start.next who)
      (λ t. sym (cond-true (is_member base.core.members who) 1 0 t)) (λ _. refl)

  pub promise_born : (who : ℕ) → promise_in base (view_at (births as_nodes scenario) [] base.core.id who) ≡ first_ballot base.core
  promise_born who = ap (promise_in base) (view_born who) ∙ cond_both (is_member base.core.members who) (Some (born_replica slots_ahead who base)) None (λ o. promise_in base o ≡ first_ballot base.core) (λ _. refl) (λ _. refl)

  abbrev now : Progress
  now = progress_at (births as_nodes scenario) [] base (begun_course base)

-- what a group of a scenario begins with
pub born_facts : (scenario : Scenario) → IsBounded scenario → (base : Base) → Among base scenario.groups → IsRoster base.core.members × (is_member base.core.members base.core.first ≡ true) × (base.core.gone ≡ None)
born_facts scenario bounded base a = (let born = born_is scenario bounded base a in (born.roster, born.first, born.stands))

-- ---- where all are as at the birth

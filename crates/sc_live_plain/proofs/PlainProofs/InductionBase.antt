-- The induction over plain journals: how it begins, and what is owed at birth.
use Rattle.std.proofs.Common.{◌≡◌, ℕ, zero, suc, ◌+◌, ◌-◌, ◌*◌, ◌<◌, ◌≤◌, ◌&&◌, not, ltb, true, false, cond, List, [], ◌∷◌, ◌++◌, length, map, filter, get_or, Some, None, inl, inr, refl, sym, ◌∙◌, ap, subst, arith}
use Rattle.std.specs.List.{sum_by, All, AllPairs}
use Rattle.std.specs.Ordering.{nat_cmp}
use Rattle.std.specs.Cmp.Lexicographic.{slice_cmp}
use Rattle.std.specs.FinMap.{get, get-empty}
use Rattle.std.proofs.lemmas.Bool.{cond_both, cond-true, cond-false, cases_Bool, cases_eq, cases_lt, both_ways, eqb-true, eq-eqb, ne_eqb}
use Rattle.std.proofs.lemmas.List.{length-map, length_push}
use Rattle.std.proofs.lemmas.List.Sums.{sum_by-cons, sum_by-append}
use Rattle.std.proofs.Math.Nat.{suc-mul, mul-le-mul_left, mul-le-mul_right}
use Rattle.sc_base.specs.Definitions.{Among, Each, most_clients, most_requests, same_draw, is_member, least_of}
use Rattle.sc_node_table.specs.Values.{Draw, Base, Seat}
use Rattle.sc_base.proofs.Lemmas.{draw_is, same_name}
use Rattle.sc_words.proofs.PaxosProofs.PaxosLemmas.{at_least_itself, Each-among, Each-from_All, find_found}
use Rattle.sc_group_table.specs.machine.MachineDefinitions.{group_of}
use Rattle.sc_node_table.specs.NodeDefinitions.{born_replicas, born_node, replica_of, is_node, ReplicaState, name_of, first_ballot, born_replica, slots_ahead, numbers_from}
use Rattle.sc_scenario.specs.scenario.Definitions.{base_at, bases_up_to, IsBounded, IsBoundedClient}
use Rattle.sc_scenario.specs.declared.scenario.drafts.GroupLine.{GroupLine}
use Rattle.sc_scenario.specs.declared.scenario.scenarios.Asks.{Asks}
use Rattle.sc_scenario.specs.declared.scenario.scenarios.Scenario.{Scenario}
use Rattle.sc_meaning.specs.sound.SoundDefinitions.{Player, node_seat, client_seat, route_of, system_of, as_nodes}
use Rattle.sc_client_table.specs.table.TableDefinitions.{born_client}
use Rattle.sc_client_table.specs.lookup.LookupDefinitions.{new_way}
use Rattle.sc_live_orderly.specs.OrderlyDefinitions.{owed_at_birth}
use Rattle.sc_paxos_law.proofs.Lemmas.{from_map}
use Rattle.sc_live_steps.specs.calm.CalmDefinitions.{replica_owes}
use Rattle.sc_live_plain.specs.PlainDefinitions.{requests_of, budget_of, IsCalmClient, IsHome, IsNearer, KnowsBetter, IsCalmNode, Frame, frame_of, player_owes, IsBegun, Requests, AreTaken, IsPlainReplica, IsSettled, IsPlainAt, IsPlainNode, replica_at, next_in, votes_in, IsGroupAt}
use Rattle.sc_live_plain.proofs.PlainProofs.PlainBeginnings.{frames_of, stage}
use Rattle.sc_law_groups.proofs.WholeProofs.WholeLemmas.{group_place}
use Rattle.sc_live_plain.proofs.PlainRowsProofs.Sums.{shares, sum_mapped, none_together}
use Rattle.sc_live_plain.proofs.PlainProofs.PlainInduction.{owing_of, IsPlainJournal}
use Rattle.sc_live_plain.proofs.PlainProofs.PlainSetting.{plain_setting, home_leads, is_setting}
use Rattle.sc_live_plain.proofs.PlainProofs.GroupCircle.{least_leads}
use Rattle.sc_live_plain.proofs.LeadersProofs.LeadingReplicas.{in_range, range_before, range_behind}
use Rattle.sc_live_plain.proofs.PlainRowsProofs.SlotCounts.{one_if, one_no}
use Rattle.sc_live_plain.proofs.PlainRowsProofs.Lists.{map_among}

-- ---- a replica at birth

none_in_range : (slot : ℕ) → one_if (in_range 1 0 slot) ≡ 0
none_in_range slot = elim (cases_lt slot 1) [
  | inl low ↦ one_no (in_range 1 0 slot) (range_before 1 0 slot low)
  | inr high ↦ one_no (in_range 1 0 slot) (range_behind 1 0 slot (omega (arith, high)))
]

-- at birth no slot is taken
pub born_taken : (me : ℕ) (base : Base) → AreTaken (born_replica slots_ahead me base) 0
born_taken me base = record {
  most = omega arith;
  once = λ slot. sym (none_in_range slot);
}

-- a group without pairs and notes has a plain replica at each node
pub born_plain : (begun : Requests) (me : ℕ) (base : Base) → base.pairs ≡ [] → base.clients ≡ [] → IsPlainReplica begun (frame_of base) me (born_replica slots_ahead me base)
born_plain begun me base no_pairs no_notes = record {
  me_is = refl;
  group = record {
    core_is = refl;
    noted = λ client note e. (let none : get (group_of base).clients client ≡ None = ap (λ notes. get (group_of (record base { clients = notes })).clients client) no_notes ∙ get-empty nat_cmp client in cc);
    replied = λ client note e value v. (let none : get (group_of base).clients client ≡ None = ap (λ notes. get (group_of (record base { clients = notes })).clients client) no_notes ∙ get-empty nat_cmp client in cc);
    stored = λ key value e. (let none : get (group_of base).pairs key ≡ None = ap (λ pairs. get (group_of (record base { pairs = pairs })).pairs key) no_pairs ∙ get-empty (slice_cmp nat_cmp) key in cc);
  };
  hint_is = refl;
  top_low = at_least_itself (first_ballot base.core);
  promised_low = at_least_itself (first_ballot base.core);
  floor_low = omega arith;
  begins = omega arith;
  sets_are = refl;
  acts = refl;
  waits = refl;
}

-- it leads where it is the first member, and else keeps nothing
pub born_settled : (begun : Requests) (me : ℕ) (base : Base) → IsSettled begun (frame_of base) me (born_replica slots_ahead me base)
born_settled begun me base =
    elim (cases_eq me base.core.first) [
      | inl e ↦ inl (
        e,
        record {
          taken = 0;
          leader = record {
            running = eq-eqb base.core.first me (sym e);
            ballot_is = refl;
            may = λ slot. ap (λ b. not b && true) (at_least_itself (record { round = 1; node = base.core.first }));
            open_ = λ slot low. refl;
            backlog = tt;
            flights = tt;
            ready = tt;
            slots = born_taken me base;
          };
          done = record { executed = refl; offered = inl refl };
        },
      )
      | inr ne ↦ inr (ne, record { stopped = ne_eqb base.core.first me (λ e. ne (sym e)); backlog = refl; flights = refl; ready = refl })
    ]

-- ---- a node at birth

-- its replica of a group in which it votes
pub born_found : (me : ℕ) (groups : List Base) (base : Base) → Among base groups → is_member base.core.members me ≡ true → (b : Base) × (replica_of base.core.id (born_replicas slots_ahead me groups) ≡ Some (born_replica slots_ahead me b))
born_found me [] base a m = absurd a
born_found me (b ∷ groups) base a m =
    cond_both (is_member b.core.members me) (b ∷ filter (λ x. is_member x.core.members me) groups) (filter (λ x. is_member x.core.members me) groups)
    (λ l. (x : Base) × (replica_of base.core.id (map (λ y. born_replica slots_ahead me y) l) ≡ Some (born_replica slots_ahead me x)))
    (λ t. elim (cases_Bool (same_draw b.core.id base.core.id)) [
      | inl same ↦ (b, cond-true (same_draw b.core.id base.core.id) (Some (born_replica slots_ahead me b)) (replica_of base.core.id (born_replicas slots_ahead me groups)) same)
      | inr other ↦ (
          let rest = born_found me groups base (elim a [ inl e ↦ absurd (both_ways (same_draw b.core.id base.core.id) other (same_name b.core.id base.core.id (ap (λ (x : Base). x.core.id) e))) | inr c ↦ c ]) m in
          (rest.0, cond-false (same_draw b.core.id base.core.id) (Some (born_replica slots_ahead me b)) (replica_of base.core.id (born_replicas slots_ahead me groups)) other ∙ rest.1))
    ])
    (λ f. born_found me groups base (elim a [ inl e ↦ absurd (both_ways (is_member b.core.members me) f (ap (λ (x : Base). is_member x.core.members me) e ∙ m)) | inr c ↦ c ]) m)

-- the replicas of a node are those of the groups of which it is a member
born_members : (P : ReplicaState → Type 0) (me : ℕ) (groups : List Base) → ((base : Base) → Among base groups → is_member base.core.members me ≡ true → P (born_replica slots_ahead me base)) → Each P (born_replicas slots_ahead me groups)
born_members P me [] f = tt
born_members P me (b ∷ groups) f =
    cond_both (is_member b.core.members me) (b ∷ filter (λ x. is_member x.core.members me) groups) (filter (λ x. is_member x.core.members me) groups) (λ l. Each P (map (λ y. born_replica slots_ahead me y) l))
    (λ t. (f b (inl refl) t, born_members P me groups (λ x a. f x (inr a)))) (λ _. born_members P me groups (λ x a. f x (inr a)))

-- what a replica at birth is
pub record IsBornOf (groups : List Base) (group : Draw) (node : ℕ) (r : ReplicaState) : Type 0 where
  pub base : Base
  pub among : Among base groups
  pub member : is_member base.core.members node ≡ true
  pub named : base.core.id ≡ group
  pub fact : r ≡ born_replica slots_ahead node base

pub born_is : (groups : List Base) (group : Draw) (node : ℕ) (r : ReplicaState) → replica_of group (born_replicas slots_ahead node groups) ≡ Some r → IsBornOf groups group node r
born_is groups group node r e =
    let f = find_found (λ (x : ReplicaState). same_draw (name_of x) group) (born_replicas slots_ahead node groups) r e in
    let P : ReplicaState → Type 0 = λ x. (base : Base) × Among base groups × (is_member base.core.members node ≡ true) × (x ≡ born_replica slots_ahead node base) in
    let b = Each-among P (born_replicas slots_ahead node groups) r (born_members P node groups (λ base a m. (base, a, m, refl))) f.0 in
    record { base = b.0; among = b.1; member = b.2; named = sym (ap name_of b.3) ∙ draw_is (name_of r) group f.1; fact = b.3 }

-- none owes anything
born_owes : (me : ℕ) (base : Base) → replica_owes 0 (born_replica slots_ahead me base) ≡ 0
born_owes me base = refl

none_owed : (me : ℕ) (groups : List Base) → sum_by (replica_owes 0) (born_replicas slots_ahead me groups) ≡ 0
none_owed me [] = refl
none_owed me (b ∷ groups) =
    cond_both (is_member b.core.members me) (b ∷ filter (λ x. is_member x.core.members me) groups) (filter (λ x. is_member x.core.members me) groups) (λ l. sum_by (replica_owes 0) (map (λ y. born_replica slots_ahead me y) l) ≡ 0)
    (λ _. (let one = born_owes me b in let rest = none_owed me groups in let sum = sum_by-cons (replica_owes 0) (born_replica slots_ahead me b) (born_replicas slots_ahead me groups) in omega (arith, one, rest, sum)))
    (λ _. none_owed me groups)

-- ---- what is owed at birth

-- so much for each request
times_low : (n m : ℕ) → n * 32 ≤ n * (32 + m)
times_low zero m = omega arith
times_low (suc n) m = (let a = suc-mul n 32 in let b = suc-mul n (32 + m) in let rest = times_low n m in omega (arith, a, b, rest))

client_share : (groups requests : ℕ) → 1 ≤ groups → 28 * (requests - (0 + 0)) + cond (ltb 0 requests) ((groups - 1) * (2 + 2 * 0) + 2 * 0) 0 ≤ requests * (32 + 4 * groups)
client_share groups zero some = omega arith
client_share groups (suc requests) some =
    let product = suc-mul requests (32 + 4 * groups) in
    let thirty = times_low requests (4 * groups) in
    let most = cond_both (ltb 0 (suc requests)) ((groups - 1) * (2 + 2 * 0) + 2 * 0) 0 (λ x. x ≤ 2 * (groups - 1)) (λ _. omega arith) (λ _. omega arith) in
    omega (arith, product, thirty, most, some)

-- ---- few groups and clients

count_bases : (lines : List GroupLine) (n : ℕ) → length (bases_up_to lines n) ≡ n
count_bases lines zero = refl
count_bases lines (suc n) = (let rest = count_bases lines n in let push = length_push (bases_up_to lines n) (base_at lines n) in omega (arith, rest, push))

-- numbers that rise from one on are no fewer than their places
rising_low : (clients : List Asks) (d : Asks) → All IsBoundedClient clients → AllPairs (λ (one other : Asks). one.client < other.client) clients → (k : ℕ) → k < length clients → k + 1 ≤ (get_or clients k d).client
rising_low clients d all rise zero low = (all 0 d low).0.0
rising_low clients d all rise (suc k) low =
    let before = rising_low clients d all rise k (omega (arith, low)) in
    let up = rise k (suc k) d (omega arith) low in
    omega (arith, before, up)

pub few_clients : (clients : List Asks) → All IsBoundedClient clients → AllPairs (λ (one other : Asks). one.client < other.client) clients → length clients ≤ most_clients
few_clients clients all rise =
    elim (cases_lt 0 (length clients)) [
      | inr none ↦ omega (arith, none)
      | inl some ↦ (
          let d : Asks = record { client = 0; ops = [] } in
          let last : length clients - 1 < length clients = omega (arith, some) in
          let low = rising_low clients d all rise (length clients - 1) last in
          let high = (all (length clients - 1) d last).0.1 in
          omega (arith, some, low, high))
    ]

few_requests : (clients : List Asks) → ((asks : Asks) → Among asks clients → length asks.ops ≤ most_requests) → sum_by (λ (asks : Asks). length asks.ops) clients ≤ length clients * most_requests
few_requests [] few = omega arith
few_requests (asks ∷ clients) few =
    let a = sum_by-cons (λ (x : Asks). length x.ops) asks clients in
    let here = few asks (inl refl) in
    let rest = few_requests clients (λ x b. few x (inr b)) in
    let product = suc-mul (length clients) most_requests in
    omega (arith, a, here, rest, product)

module _ (scenario : Scenario) (bounded : IsBounded scenario) where
  -- each group begins with no pairs and no notes
  fresh : (base : Base) → Among base scenario.groups → (base.pairs ≡ []) × (base.clients ≡ [])
  fresh base a = (let k = group_place scenario bounded base a in (ap (λ (b : Base). b.pairs) (sym k.2) ∙ refl, ap (λ (b : Base). b.clients) (sym k.2) ∙ refl))

  -- a replica that is found is one of its group, and plain
  born_at : (begun : Requests) (me : ℕ) (frame : Frame) (r : ReplicaState) → Among frame (frames_of scenario) → replica_of frame.core.id (born_replicas slots_ahead me scenario.groups) ≡ Some r → IsPlainAt begun frame me r
  born_at begun me frame r a e =
      let born = born_is scenario.groups frame.core.id me r e in
      let f = fresh born.base born.among in
      let same : frame_of born.base ≡ frame = (stage scenario bounded).apart (frame_of born.base) frame (map_among frame_of scenario.groups born.base born.among) a born.named in
      subst (λ (x : ReplicaState). IsPlainAt begun frame me x) (sym born.fact) (subst (λ (g : Frame). IsPlainAt begun g me (born_replica slots_ahead me born.base)) same (inl (born_plain begun me born.base f.0 f.1, born_settled begun me born.base)))

  -- a node is plain
  plain_at_birth : (begun : Requests) (me : ℕ) → IsPlainNode begun (frames_of scenario) (born_node slots_ahead me scenario.groups scenario.policy)
  plain_at_birth begun me = record {
    replicas = λ frame r a e. born_at begun me frame r a e;
    has = λ frame slot a m. (let b = from_map frame_of scenario.groups frame a in
        let found = born_found me scenario.groups b.0 b.1 (ap (λ (f : Frame). is_member (f.at slot) me) b.2 ∙ m) in
        (born_replica slots_ahead me found.0, ap (λ (f : Frame). replica_of f.core.id (born_replicas slots_ahead me scenario.groups)) (sym b.2) ∙ found.1));
  }

  -- and calm: its replicas that do not run name the leader
  node_at_birth : (begun : Requests) (me : ℕ) → IsCalmNode begun (plain_setting scenario) (born_node slots_ahead me scenario.groups scenario.policy)
  node_at_birth begun me = record {
    plain = plain_at_birth begun me;
    own = λ group r e. ap (λ (x : ReplicaState). x.me) (born_is scenario.groups group me r e).fact;
    has = λ group h. (let l = home_leads scenario group me h in
        let b = from_map frame_of scenario.groups l.0 l.1 in
        let leads : is_member b.0.core.members me ≡ true = ap (λ (f : Frame). is_member f.core.members me) b.2 ∙ (ap (is_member l.0.core.members) (sym l.3) ∙ ((stage scenario bounded).are l.0 l.1).leads) in
        let found = born_found me scenario.groups b.0 b.1 leads in
        (born_replica slots_ahead me found.0, ap (λ d. replica_of d (born_replicas slots_ahead me scenario.groups)) (sym (ap (λ (f : Frame). f.core.id) b.2 ∙ l.2)) ∙ found.1));
    runs = λ group r e runs. (let b = born_is scenario.groups group me r e in
        let first : b.base.core.first ≡ me = eqb-true b.base.core.first me (ap (λ (x : ReplicaState). x.running) (sym b.fact) ∙ runs) in
        (frame_of b.base, map_among frame_of scenario.groups b.base b.among, b.named, sym first));
    stops = λ group r e stops. (let b = born_is scenario.groups group me r e in
        let a = map_among frame_of scenario.groups b.base b.among in
        let not_first : me ≡ b.base.core.first → ⊥ = λ same. both_ways r.running stops (ap (λ (x : ReplicaState). x.running) b.fact ∙ eq-eqb b.base.core.first me (sym same)) in
        let set = is_setting scenario (stage scenario bounded) in
        let near : IsNearer (plain_setting scenario) b.base.core.id me b.base.core.first = record { has = set.leads (frame_of b.base) a; near = set.nearer (frame_of b.base) me a not_first } in
        subst (λ d. KnowsBetter (plain_setting scenario) d r r.group.core.gone) b.named
        (subst (λ (x : ReplicaState). KnowsBetter (plain_setting scenario) b.base.core.id x x.group.core.gone) (sym b.fact)
        (subst (KnowsBetter (plain_setting scenario) b.base.core.id (born_replica slots_ahead me b.base)) (sym ((stage scenario bounded).are (frame_of b.base) a).stands) (b.base.core.first, refl, near))));
  }

  -- a client is calm, and has not gone
  client_at_birth : (asks : Asks) → IsCalmClient (plain_setting scenario) asks false (born_client asks.client asks.ops (route_of (stage scenario bounded).first))
  client_at_birth asks =
      let first = (stage scenario bounded).first in
      let among : Among (frame_of first) (frames_of scenario) = subst (Among (frame_of first)) (sym (ap (map frame_of) (stage scenario bounded).groups_are)) (inl refl) in
      let home : IsHome (plain_setting scenario) first.core.id (least_of first.core.members) =
      subst (IsHome (plain_setting scenario) first.core.id) (least_leads scenario bounded (frame_of first) among) ((is_setting scenario (stage scenario bounded)).leads (frame_of first) among) in
      record {
        me_is = refl;
        requests_are = refl;
        knows = λ few. inl (first.core.id, new_way first.core.arc.lo first.core.members, refl);
        targets = λ few. (home, tt);
        state = inl (record { waits = refl; replies = inl (refl, refl) });
      }

  abbrev groups : ℕ
  groups = length (frames_of scenario)

  some_groups : 1 ≤ groups
  some_groups = (let count = ap (λ l. length (map frame_of l)) (stage scenario bounded).groups_are in omega (arith, count))

  -- what is owed at birth is within the budget
  pub birth_within : (words : ℕ → ℕ → ℕ × ℕ) → owed_at_birth (system_of as_nodes words scenario) (owing_of scenario) ≤ budget_of scenario
  birth_within words =
      let s = stage scenario bounded in
      let owes : Seat Player → ℕ = λ seat. player_owes (frames_of scenario) seat.actor in
      let nodes = map (node_seat as_nodes scenario.groups scenario.policy) (numbers_from 1 scenario.nodes) in
      let clients = map (client_seat (route_of s.first)) scenario.clients in
      let all : owed_at_birth (system_of as_nodes words scenario) (owing_of scenario) ≡ sum_by owes (nodes ++ clients) = ap (sum_by owes) s.seats in
      let split = sum_by-append owes nodes clients in
      let none : sum_by owes nodes ≡ 0 = sum_mapped owes (node_seat as_nodes scenario.groups scenario.policy) (numbers_from 1 scenario.nodes) ∙ none_together (λ me. owes (node_seat as_nodes scenario.groups scenario.policy me)) (numbers_from 1 scenario.nodes) (λ me. none_owed me scenario.groups) in
      let some = sum_mapped owes (client_seat (route_of s.first)) scenario.clients in
      let share = shares (λ asks. owes (client_seat (route_of s.first) asks)) (λ asks. length asks.ops) (32 + 4 * groups) scenario.clients (λ asks a. client_share groups (length asks.ops) some_groups) in
      let same : requests_of scenario * (32 + 4 * groups) ≡ budget_of scenario = ap (λ n. requests_of scenario * (32 + 4 * n)) (length-map scenario.groups frame_of) in
      omega (arith, all, split, none, some, share, same)

  -- and far from the last slot
  pub birth_few : (words : ℕ → ℕ → ℕ × ℕ) → owed_at_birth (system_of as_nodes words scenario) (owing_of scenario) ≤ 6144000
  birth_few words =
      let within = birth_within words in
      let clients = few_clients scenario.clients bounded.clients bounded.ascending in
      let requests = few_requests scenario.clients (λ asks a. (Each-among IsBoundedClient scenario.clients asks (Each-from_All IsBoundedClient scenario.clients bounded.clients) a).1) in
      let few = bounded.few in
      let sixteen : length scenario.groups ≤ 16 = (let count = ap length bounded.groups in let all = count_bases bounded.starts (length bounded.starts) in omega (arith, count, all, few)) in
      let most : requests_of scenario ≤ 64000 = (let product = mul-le-mul_right most_requests clients in omega (arith, requests, product)) in
      let product = mul-le-mul_left (requests_of scenario) (let low : 32 + 4 * length scenario.groups ≤ 96 = omega (arith, sixteen) in low) in
      omega (arith, within, product, most)

  -- ---- what stands in a group

  -- the replica of a node that votes in the group
  first_found : (frame : Frame) → Among frame (frames_of scenario) → (slot me : ℕ) → is_member (frame.at slot) me ≡ true → (b : Base) × (replica_at scenario [] frame.core.id me ≡ Some (born_replica slots_ahead me b))
  first_found frame a slot me m =
      let b = from_map frame_of scenario.groups frame a in
      let found = born_found me scenario.groups b.0 b.1 (ap (λ (f : Frame). is_member (f.at slot) me) b.2 ∙ m) in
      let fact = (stage scenario bounded).are frame a in (
        found.0,
        cond-true (is_node me) (replica_of frame.core.id (born_replicas slots_ahead me scenario.groups)) None (fact.nodes slot me m)
            ∙ ap (λ (f : Frame). replica_of f.core.id (born_replicas slots_ahead me scenario.groups)) (sym b.2) ∙ found.1,
      )

  -- a replica that is there is at its first slot
  next_low : (groups_ : List Base) (name : Draw) (me : ℕ) → next_in (replica_of name (born_replicas slots_ahead me groups_)) ≤ 1
  next_low [] name me = omega arith
  next_low (b ∷ groups_) name me =
      cond_both (is_member b.core.members me) (b ∷ filter (λ x. is_member x.core.members me) groups_) (filter (λ x. is_member x.core.members me) groups_) (λ l. next_in (replica_of name (map (λ y. born_replica slots_ahead me y) l)) ≤ 1)
      (λ _. cond_both (same_draw b.core.id name) (Some (born_replica slots_ahead me b)) (replica_of name (born_replicas slots_ahead me groups_)) (λ o. next_in o ≤ 1) (λ _. omega arith) (λ _. next_low groups_ name me))
      (λ _. next_low groups_ name me)

  at_low : (name : Draw) (me : ℕ) → next_in (replica_at scenario [] name me) ≤ 1
  at_low name me = cond_both (is_node me) (replica_of name (born_replicas slots_ahead me scenario.groups)) None (λ o. next_in o ≤ 1) (λ _. next_low scenario.groups name me) (λ _. omega arith)

  pub group_at_birth : (words : ℕ → ℕ → ℕ × ℕ) (frame : Frame) → Among frame (frames_of scenario) → IsGroupAt words scenario [] frame
  group_at_birth words frame a =
      let fact = (stage scenario bounded).are frame a in
      let slot = frame.from + slots_ahead in
      let members : frame.at slot ≡ frame.core.members = fact.later slot (omega arith) in
      let lead = first_found frame a slot frame.lead (ap (λ ms. is_member ms frame.lead) members ∙ fact.leads) in
      let lead_next : next_in (replica_at scenario [] frame.core.id frame.lead) ≡ 1 = ap next_in lead.1 in
      record {
        taken = 0;
        r = born_replica slots_ahead frame.lead lead.0;
        there = lead.1;
        slots = born_taken frame.lead lead.0;
        between = record {
          learners = λ node m ne. (let found = first_found frame a slot node (ap (λ ms. is_member ms node) members ∙ m) in
              let here : next_in (replica_at scenario [] frame.core.id node) ≡ 1 = ap next_in found.1 in
              record { left = 0; reaches = omega (arith, here, lead_next); tells = refl });
          order = λ node. tt;
          below = λ node. tt;
          low = λ node. (let le = at_low frame.core.id node in omega (arith, le, lead_next));
          undone = λ s e. absurd e;
          flying = λ s voters e. (let none : None ≡ Some voters = sym (ap (λ o. votes_in o s) lead.1) ∙ e in cc);
          votes = λ s voters e. (let none : None ≡ Some voters = sym (ap (λ o. votes_in o s) lead.1) ∙ e in cc);
        };
      }

  -- ---- all together

  pub journal_at_birth : (words : ℕ → ℕ → ℕ × ℕ) → IsPlainJournal words scenario (stage scenario bounded) []
  journal_at_birth words = record {
    asking = record {
      nodes = λ me one most. record { node = born_node slots_ahead me scenario.groups scenario.policy; fact = refl; me_is = refl; calm = node_at_birth (IsBegun scenario []) me };
      clients = λ asks a. record { client = born_client asks.client asks.ops (route_of (stage scenario bounded).first); fact = refl; calm = client_at_birth asks };
      left = λ who born. tt;
      groups = group_at_birth words;
    };
    sent = tt;
    slots = λ frame a. (let low = at_low frame.core.id frame.lead in omega (arith, low));
    owes = omega arith;
  }

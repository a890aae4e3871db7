-- What of a journal's groups the laws of journals prove, after each of its first rows.
use Rattle.sc_client_table.specs.table.TableDefinitions.{Client as ClientState}
use Rattle.std.proofs.Common.{◌≡◌, Some, ℕ, ◌≤◌, eqb, List, [], ◌∷◌, ◌++◌, length, map, take, inl, inr, refl, sym, ◌∙◌, ap, subst, arith, append_assoc, append-nil}
use Rattle.sc_base.specs.Definitions.{Among, Each, same_draw, IsRoster}
use Rattle.sc_node_table.specs.Values.{MailBody, Ballot, Draw, Command, Base, Route, OrderLine, Mail, Node, Client, Seat, Row, Flight}
use Rattle.sc_base.proofs.Lemmas.{draw_is}
use Rattle.sc_actor.specs.Definitions.{numbered, mails, value}
use Rattle.sc_actor.proofs.Lemmas.{mails-append, lawful-prefix}
use Rattle.sc_words.specs.paxos.PaxosDefinitions.{kept_voters}
use Rattle.sc_words.proofs.PaxosProofs.PaxosLemmas.{Each-among, Each-weaker, find_found}
use Rattle.sc_paxos_law.proofs.Lemmas.{Among-left, Among-right, Among-either, from_map, later_logs}
use Rattle.sc_paxos_law.specs.PaxosLawDefinitions.{members_of, IsLog}
use Rattle.sc_scenario.specs.declared.scenario.scenarios.Scenario.{Scenario}
use Rattle.sc_node_table.specs.NodeDefinitions.{NodeState, ReplicaState, name_of, next, numbers_from, slots_ahead}
use Rattle.sc_meaning.specs.sound.SoundDefinitions.{groups_at, decided_log, Ahead, Player, Lawful, births, node_seat, client_seat, player_table, system_of, schedule, accepts_at}
use Rattle.sc_law_entries.specs.ring.RingDefinitions.{Sources}
use Rattle.sc_law_entries.specs.logs.LogDefinitions.{Rows, AreFound, StayRecorded, DecideInTurn}
use Rattle.sc_law_entries.proofs.LogsProofs.LogLemmas.{groups_are_found, deciding_rows_stay}
use Rattle.sc_law_groups.specs.group.GroupDefinitions.{proposer_steps, asked_in, promises_at, steps}
use Rattle.sc_law_groups.proofs.GroupProofs.GroupLemmas.{number_among, IsTrue, h_of, Part, grown_learnt, IsLearnt, Holds as Held, held, Steps, rule, IsFlying, IsReplica, AreSets, next_after, IsOneOf, steps-push, prefix_is, among_numbers}
use Rattle.sc_law_groups.specs.whole.WholeDefinitions.{BeginsWell, OrdersAreAllowed, MayQueue, IsHeardAt}
use Rattle.sc_law_groups.proofs.WholeProofs.WholeLemmas.{holds, Holds, fewer_orders}
use Rattle.sc_live_steps.specs.following.FollowingDefinitions.{AreAt}
use Rattle.sc_live_journals.specs.logs.LogDefinitions.{HasReplica}
use Rattle.sc_live_journals.proofs.LogsProofs.ReplicasAlongLogs.{IsAlong, are_at}

-- ---- the steps of more rows

asked_more : (group : Draw) (sent : List Mail) (older : Steps) → asked_in group sent older ≡ asked_in group sent [] ++ older
asked_more group [] older = refl
asked_more group (mail ∷ sent) older =
    let new = proposer_steps group mail.body in
    asked_more group sent (new ++ older) ∙ sym (append_assoc (asked_in group sent []) new older)
    ∙ ap (λ x. x ++ older) (ap (λ x. asked_in group sent [] ++ x) (sym (append-nil new)) ∙ sym (asked_more group sent (new ++ [])))

-- those of one row more come before the others
row_steps : (group : Draw) (rows : Rows) (row : Row Mail OrderLine) → (newer : Steps) × (steps group (rows ++ row ∷ []) ≡ newer ++ steps group rows)
row_steps group rows row =
    let promised = promises_at group (mails rows) row row.event in
    let accepted = accepts_at group (mails rows) row row.event in
    let asked = asked_in group row.sent [] in (
      (promised ++ accepted) ++ asked,
      steps-push group rows row ∙ ap (λ (x : Steps). (promised ++ accepted) ++ x) (asked_more group row.sent (steps group rows)) ∙ sym (append_assoc (promised ++ accepted) asked (steps group rows)),
    )

pub more_steps : (group : Draw) (rows more : Rows) → (newer : Steps) × (steps group (rows ++ more) ≡ newer ++ steps group rows)
more_steps group rows [] = ([], ap (steps group) (append-nil rows))
more_steps group rows (row ∷ more) =
    let later = more_steps group (rows ++ row ∷ []) more in
    let one = row_steps group rows row in (
      later.0 ++ one.0,
      ap (steps group) (sym (append_assoc rows (row ∷ []) more)) ∙ later.1 ∙ ap (λ x. later.0 ++ x) one.1 ∙ sym (append_assoc later.0 one.0 (steps group rows)),
    )

-- what is in flight is so after more steps
pub grown_flying : (ahead : Ahead) (base : Base) (newer h : Steps) (ballot : Ballot) (flights : List (Flight Command)) → Each (IsFlying ahead base h ballot) flights → Each (IsFlying ahead base (newer ++ h) ballot) flights
grown_flying ahead base newer h ballot flights all =
    Each-weaker (IsFlying ahead base h ballot) (IsFlying ahead base (newer ++ h) ballot) (λ f p. (Among-right _ newer h p.0, Each-weaker _ _ (λ n a. Among-right _ newer h a) (kept_voters f.voters) p.1)) flights all

-- a player is one thing
pub no_client : (client : ClientState) (node : NodeState) → ◌≡◌ {A = Player} (Client client) (Node node) → ⊥
no_client client node e = cc

pub one_node : (one other : NodeState) → ◌≡◌ {A = Player} (Node one) (Node other) → one ≡ other
one_node one other e = cc

-- each log of a group's steps is a prefix of its decided log
abbrev pub ArePrefixes : Ahead → Base → Rows → Type 0
ArePrefixes ahead base journal = (log : List Command) → IsLog (rule ahead base) (h_of journal base) log → (length log ≤ length (decided_log ahead base journal)) × (take (length log) (decided_log ahead base journal) ≡ log)

module _ (sources : Sources) (ahead : Ahead) (words : ℕ → ℕ → ℕ × ℕ) (scenario : Scenario) (route : Route) (b : BeginsWell sources ahead scenario route) (journal : Rows) (orders : OrdersAreAllowed sources ahead scenario journal) (lawful : Lawful ahead words scenario journal) where
  abbrev bases : Rows → List Base
  bases rows = groups_at ahead scenario.groups rows

  abbrev All : Rows → Type 0
  All rows = Holds sources ahead words scenario route b.place b.seats b.asks rows

  -- all holds of the journal
  pub whole : All journal
  whole = holds sources ahead words scenario route b.place b.seats b.asks b.apart b.fresh journal orders lawful

  pub found : AreFound ahead scenario.groups journal
  found = groups_are_found sources ahead scenario.groups b.place journal whole.turn

  -- all holds of each prefix of the journal
  pub prefix : (rows more : Rows) → journal ≡ rows ++ more → All rows
  prefix rows more e =
      holds sources ahead words scenario route b.place b.seats b.asks b.apart b.fresh rows (fewer_orders sources ahead scenario rows more (subst (OrdersAreAllowed sources ahead scenario) e orders))
      (lawful-prefix (system_of ahead words scenario) (schedule scenario) rows more (subst (Lawful ahead words scenario) e lawful))

  pub stay : (rows more : Rows) → journal ≡ rows ++ more → StayRecorded ahead scenario.groups rows more
  stay rows more e = deciding_rows_stay sources ahead scenario.groups b.place rows more (subst (DecideInTurn sources ahead scenario.groups []) e whole.turn)

  module _ (base : Base) (stands : Among base (bases journal)) where
    pub part : Part ahead scenario scenario.groups (bases journal) route (MayQueue sources ahead scenario) (IsHeardAt sources ahead scenario) journal base
    part = whole.kept.parts base stands

    -- its first members
    pub roster : IsRoster base.core.members
    roster = (whole.fresh base stands).roster

    -- each log of its steps is a prefix of its log
    pub prefixes : ArePrefixes ahead base journal
    prefixes = prefix_is ahead base journal part.lawful

    -- mail of first rows is mail of the journal
    pub sent_in : (rows more : Rows) → journal ≡ rows ++ more → (mail : Mail) → Among mail (mails rows) → Among mail (mails journal)
    sent_in rows more e mail a = subst (λ xs. Among mail (mails xs)) (sym e) (subst (Among mail) (sym (mails-append rows more)) (Among-left mail (mails rows) (mails more) a))

    -- what a mail of first rows says is true of the journal's steps
    pub said_in : (rows more : Rows) → journal ≡ rows ++ more → (number : ℕ) (mail : Mail) (body : MailBody) → numbered (mails rows) number ≡ Some mail → mail.body ≡ body
        → IsTrue ahead base (MayQueue sources ahead scenario journal base) (IsHeardAt sources ahead scenario journal) (h_of journal base) mail body
    said_in rows more e number mail body sent fact =
        subst (IsTrue ahead base (MayQueue sources ahead scenario journal base) (IsHeardAt sources ahead scenario journal) (h_of journal base) mail) fact (part.true_mail mail (sent_in rows more e mail (number_among (mails rows) number mail sent)))

    -- ---- a replica

    module _ (rows : Rows) (seat : Seat Player) (node : NodeState) (r : ReplicaState) (has : HasReplica ahead scenario journal base rows seat node r) where
      abbrev then_ : All rows
      then_ = prefix rows has.more has.prefix

      -- the node's number
      number : (n : ℕ) × (1 ≤ n) × (n ≤ scenario.nodes) × (value player_table (node_seat ahead scenario.groups scenario.policy n) rows ≡ Node node)
      number =
          elim (Among-either seat (map (node_seat ahead scenario.groups scenario.policy) (numbers_from 1 scenario.nodes)) (map (client_seat route) scenario.clients)
          (subst (Among seat) b.seats.seats (find_found (λ (other : Seat Player). eqb other.who seat.who) (births ahead scenario) seat has.seated).0)) [
            | inl a ↦ (
                let at = from_map (node_seat ahead scenario.groups scenario.policy) (numbers_from 1 scenario.nodes) seat a in
                let bounds = among_numbers 1 scenario.nodes at.0 at.1 in
                let most = bounds.1 in
                (at.0, bounds.0, omega (arith, most), subst (λ (s : Seat Player). value player_table s rows ≡ Node node) (sym at.2) has.fact))
            | inr a ↦ (
                let at = from_map (client_seat route) scenario.clients seat a in
                let client = then_.kept.clients at.0 at.1 in
                absurd (no_client client.client node (sym client.value_is ∙ ap (λ (s : Seat Player). value player_table s rows) at.2 ∙ has.fact)))
          ]

      -- the group was there
      there : Among base (bases rows)
      there =
          let in_list = find_found (λ (s : ReplicaState). same_draw (name_of s) base.core.id) node.replicas r has.here in
          let at = then_.kept.nodes number.0 number.1 number.2 in
          let same : at.node ≡ node = one_node at.node node (sym at.value_is ∙ number.3) in
          let known = Each-among (λ s. IsOneOf (bases rows) (name_of s)) node.replicas r (subst (λ (x : NodeState). Each (λ s. IsOneOf (bases rows) (name_of s)) x.replicas) same at.fact.known) in_list.0 in
          let later = subst (λ xs. Among known.0 (bases xs)) (sym has.prefix) ((stay rows has.more has.prefix).groups known.0 known.1) in
          subst (λ x. Among x (bases rows)) (found.apart known.0 base later stands (sym known.2 ∙ draw_is (name_of r) base.core.id in_list.1)) known.1

      -- the replica as the steps of these rows say
      replica : IsReplica ahead base (MayQueue sources ahead scenario rows base) (h_of rows base) number.0 r
      replica =
          let in_list = find_found (λ (s : ReplicaState). same_draw (name_of s) base.core.id) node.replicas r has.here in
          let at = then_.kept.nodes number.0 number.1 number.2 in
          let same : at.node ≡ node = one_node at.node node (sym at.value_is ∙ number.3) in
          held ahead base (MayQueue sources ahead scenario rows base) number.0 (h_of rows base) node.replicas
          (subst (λ (x : NodeState). Held ahead base (MayQueue sources ahead scenario rows base) number.0 (h_of rows base) x.replicas) same (at.fact.holds base there)) r in_list.0 (draw_is (name_of r) base.core.id in_list.1)

      -- the steps of the later rows
      later_steps : (newer : Steps) × (h_of journal base ≡ newer ++ h_of rows base)
      later_steps = (let more = more_steps base.core.id rows has.more in (more.0, ap (steps base.core.id) has.prefix ∙ more.1))

      -- it is along the group's log
      pub along : (open_slots : ahead.slots ≡ slots_ahead) → IsAlong ahead open_slots base roster (h_of journal base) part.lawful (decided_log ahead base journal) prefixes r
      along open_slots =
          let later = later_steps in
          record {
            whole = replica.whole;
            is_log = subst (λ (h : Steps). IsLog (rule ahead base) h replica.whole) (sym later.1) (later_logs (rule ahead base) later.0 (h_of rows base) replica.whole replica.log_is.is_log);
            next_is = next_after ahead base (MayQueue sources ahead scenario rows base) (h_of rows base) number.0 r replica;
            group_is = replica.log_is.group_is;
            ready = Each-weaker _ _ (λ e t. subst (λ (h : Steps). IsLearnt (rule ahead base) h e.0 e.1) (sym later.1) (grown_learnt (rule ahead base) later.0 (h_of rows base) e.0 e.1 t)) r.ready replica.ready;
          }

      -- the members of its open slots are those of the slots
      pub opens : (open_slots : ahead.slots ≡ slots_ahead) → AreAt (λ slot. members_of (rule ahead base) (decided_log ahead base journal) slot) (next r) r.sets
      unfolding along
      opens open_slots =
          let k = along open_slots in
          are_at ahead open_slots base roster (h_of journal base) part.lawful (decided_log ahead base journal) prefixes k.whole k.is_log (next r) r.sets
          (subst (λ n. AreSets ahead base replica.whole n r.sets) (sym k.next_is) replica.sets)

      -- as many as are open
      pub many : ahead.slots ≡ slots_ahead → length r.sets ≡ slots_ahead
      many open_slots = replica.count ∙ open_slots

      -- what it has in flight was offered and accepted
      pub flying : Each (IsFlying ahead base (h_of journal base) r.leader.ballot) r.leader.flights
      flying =
          let later = later_steps in
          subst (λ (h : Steps). Each (IsFlying ahead base h r.leader.ballot) r.leader.flights) (sym later.1) (grown_flying ahead base later.0 (h_of rows base) r.leader.ballot r.leader.flights replica.flights)

-- Polls end: in the quiet prefix after the turn of a node that was elected in it, the node's replica is settled or does not run, where more than half of the members may get mail.
use Rattle.std.proofs.Common.{◌≡◌, ℕ, zero, suc, ◌*◌, ◌<◌, ◌≤◌, eqb, Bool, true, cond, List, [], ◌∷◌, ◌++◌, count_by, length, filter, find, Option, Some, None, ◌⊎◌, inl, inr, refl, sym, ◌∙◌, ap, subst, append_assoc, append-nil}
use Rattle.sc_base.specs.Definitions.{Among, Each, same_draw}
use Rattle.sc_base.proofs.Lemmas.{draw_is}
use Rattle.sc_words.proofs.PaxosProofs.PaxosLemmas.{Each-among, find_found}
use Rattle.sc_paxos_law.proofs.Lemmas.{place_among}
use Rattle.sc_node_table.specs.Values.{Ballot, Draw, Seat, Row, Event, Deliver, Base, OrderLine, Mail, MailBody, Install, Node, Client}
use Rattle.sc_actor.specs.Definitions.{mails, numbered, numbers_of, is_crash, lowest, value}
use Rattle.sc_actor.proofs.Lemmas.{find-who}
use Rattle.sc_node_table.specs.NodeDefinitions.{ReplicaState, Place, name_of, last_slot, mailed, next}
use Rattle.sc_scenario.specs.declared.scenario.scenarios.Scenario.{Scenario}
use Rattle.sc_scenario.specs.scenario.Definitions.{IsBounded}
use Rattle.sc_meaning.specs.sound.SoundDefinitions.{Player, as_nodes, births, player_table}
use Rattle.sc_live_orderly.specs.Turns.{pending_mail, AreDelivered, TakesLowest}
use Rattle.sc_live_orderly.proofs.PendingMail.{gets_same, takes_lowest, none_pending}
use Rattle.sc_live_healed.proofs.FixedWalks.{IsMember, IsFixedPlace}
use Rattle.sc_live_healed.proofs.FixedNodes.{AreFresh, IsOne, into, name_one}
use Rattle.sc_live_healed.proofs.FixedBirths.{groups_fresh}
use Rattle.sc_live_healed.proofs.FixedJournals.{Rows, IsFixedPlayer, IsFixedJournal}
use Rattle.sc_live_healed.proofs.PollAnswers.{mail_keeps_settled}
use Rattle.sc_live_healed.proofs.PollTurns.{Replicas, IsTaken, IsDelivered, FirstRound, SecondRound, is_or_not, one_replica, floored_after, moves, first_step, second_begins, second_step, polls_end_settled}
use Rattle.sc_live_healed.proofs.DeliveredViews.{s, view, seat_view, player_view, alive, delivered_view}
use Rattle.sc_live_healed.specs.HealedDefinitions.{IsSettledOrStopped}

-- a state that is sent is not beyond the last slot
abbrev pub FitsSlots : MailBody → Type 0
FitsSlots (Install group slot base sets) = slot ≤ last_slot
FitsSlots _ = Unit {0}

fits : (body : MailBody) → FitsSlots body → (group : Draw) (slot : ℕ) (state : Base) (sets : List (List ℕ)) → body ≡ Install group slot state sets → slot ≤ last_slot
fits body f group slot state sets e = subst FitsSlots e f

module _ (words : ℕ → ℕ → ℕ × ℕ) (scenario : Scenario) (bounded : IsBounded scenario) (base : Base) (among : Among base scenario.groups) where
  fresh : AreFresh scenario.groups
  fresh = groups_fresh scenario bounded

  abbrev seen_at : Rows → Replicas
  seen_at rows = view words scenario bounded base among rows

  -- the replica that stands at a node is one of the group
  view_fixed : (rows : Rows) → IsFixedJournal scenario rows → (who : ℕ) (r : ReplicaState) → seen_at rows who ≡ Some r → IsFixedPlace base who (r, []) × IsMember base who
  view_fixed rows now who r e = by (find (λ (other : Seat Player). eqb other.who who) (births as_nodes scenario)) refl e
    where
      at_node : (seat : Seat Player) → seat.who ≡ who → (p : Player) → IsFixedPlayer scenario.groups seat.who p → player_view words scenario bounded base among p ≡ Some r → IsFixedPlace base who (r, []) × IsMember base who
      at_node seat fact (Client client) k q = absurd (cc)
      at_node seat fact (Node node) k q =
          let found = find_found (λ (x : ReplicaState). same_draw (name_of x) base.core.id) node.replicas r q in
          let one : IsOne scenario.groups fresh node.me r = Each-among (IsOne scenario.groups fresh node.me) node.replicas r k.2.replicas found.0 in
          let same : one.0 ≡ base = fresh.apart one.0 base one.1 among (sym (name_one scenario.groups fresh node.me r one) ∙ draw_is (name_of r) base.core.id found.1) in
          let me : node.me ≡ who = k.0 ∙ fact in (
            subst (λ (n : ℕ). IsFixedPlace base n (r, [])) me (subst (λ (b : Base). IsFixedPlace b node.me (r, [])) same (into scenario.groups fresh node.me r one)),
            subst (IsMember base) me (subst (λ (b : Base). IsMember b node.me) same one.2),
          )

      by : (o : Option (Seat Player)) → find (λ (other : Seat Player). eqb other.who who) (births as_nodes scenario) ≡ o → seat_view words scenario bounded base among rows o ≡ Some r → IsFixedPlace base who (r, []) × IsMember base who
      by None f q = absurd (cc)
      by (Some seat) f q =
          let fact : seat.who ≡ who = find-who (births as_nodes scenario) who seat f in
          at_node seat fact (value player_table seat rows) (now.players seat (ap (λ (n : ℕ). find (λ (other : Seat Player). eqb other.who n) (births as_nodes scenario)) fact ∙ f)) q

  module _ (a0 : ℕ → Bool) (n : ℕ) (n_alive : a0 n ≡ true) (ballot : Ballot) (from_slot : ℕ) (most : length base.core.members < 2 * count_by a0 base.core.members) where
    abbrev First : Rows → List Mail → List Mail → Type 0
    First rows first second = FirstRound base a0 n n_alive ballot from_slot (seen_at rows) first second

    abbrev Second : Rows → List Mail → Type 0
    Second rows second = SecondRound base a0 n n_alive ballot from_slot (seen_at rows) second

    abbrev IsSettled : Rows → Type 0
    IsSettled rows = (r : ReplicaState) → seen_at rows n ≡ Some r → IsSettledOrStopped r

    -- how far the poll is, with this mail pending
    abbrev pub Progress : Rows → List Mail → Type 0
    Progress rows pending = ((first : List Mail) × (second : List Mail) × (pending ≡ first ++ second) × First rows first second) ⊎ (((second : List Mail) × (later : List Mail) × (pending ≡ second ++ later) × Second rows second) ⊎ IsSettled rows)

    -- what holds while the poll goes on: acceptors have forgotten executed slots alone, and the node runs in no other ballot
    pub record Course (rows : Rows) : Type 0 where
      pub floored : (who : ℕ) (r : ReplicaState) → seen_at rows who ≡ Some r → r.acceptor.floor < next r
      pub owned : (r : ReplicaState) → seen_at rows n ≡ Some r → r.running ≡ true → r.leader.ballot ≡ ballot

    -- the poll is over where no answer is pending
    over : (rows : Rows) → IsFixedJournal scenario rows → Course rows → Second rows [] → IsSettled rows
    over rows now course k r e on =
        let f = view_fixed rows now n r e in
        polls_end_settled base a0 n n_alive ballot from_slot (seen_at rows) r (fresh.each base among n f.1) k e f.0 (course.owned r e on) most on

    module _ (rows : Rows) (row : Row Mail OrderLine) (now : IsFixedJournal scenario rows) (mail : Mail) (new : List Mail) (d : IsDelivered base a0 (seen_at rows) mail (seen_at (rows ++ row ∷ [])) new) (course : Course rows) where
      abbrev after : Replicas
      after = seen_at (rows ++ row ∷ [])

      -- the replica that takes the mail, as it stands after it
      owned_taken : IsTaken base a0 (seen_at rows) mail after new → (r : ReplicaState) → after n ≡ Some r → r.running ≡ true → r.leader.ballot ≡ ballot
      owned_taken t r e on = elim (is_or_not base a0 n n_alive ballot from_slot n mail.to) [
        | inl same ↦ (let place : Place = (mailed mail.from mail.body (t.replica, [])).0 in
            let fact : place.0 ≡ r = one_replica base a0 n n_alive ballot from_slot after mail.to place.0 r t.fact (ap after (sym same) ∙ e) in
            let m = moves base a0 n n_alive ballot from_slot (seen_at rows) mail after new t course.floored in
            elim (m.1.leads (ap (λ (x : ReplicaState). x.running) fact ∙ on)) [
              | inl never ↦ absurd never
              | inr l ↦ sym (ap (λ (x : ReplicaState). x.leader.ballot) fact) ∙ (l.1 ∙ course.owned t.replica (ap (seen_at rows) same ∙ t.was) l.0)
            ])
        | inr other ↦ course.owned r (sym (t.others n other) ∙ e) on
      ]

      -- and it stays settled where it was
      settled_taken : IsTaken base a0 (seen_at rows) mail after new → IsSettled rows → IsSettled (rows ++ row ∷ [])
      settled_taken t k r e = elim (is_or_not base a0 n n_alive ballot from_slot n mail.to) [
        | inl same ↦ (let place : Place = (mailed mail.from mail.body (t.replica, [])).0 in
            let fact : place.0 ≡ r = one_replica base a0 n n_alive ballot from_slot after mail.to place.0 r t.fact (ap after (sym same) ∙ e) in
            subst IsSettledOrStopped fact (mail_keeps_settled base mail.to t.fresh mail.from mail.body t.replica (course.floored mail.to t.replica t.was) t.heard t.fixed (k t.replica (ap (seen_at rows) same ∙ t.was))))
        | inr other ↦ k r (sym (t.others n other) ∙ e)
      ]

      course_by : IsDelivered base a0 (seen_at rows) mail after new → Course (rows ++ row ∷ [])
      course_by (inl t) = record { floored = floored_after base a0 n n_alive ballot from_slot (seen_at rows) mail after new t course.floored; owned = owned_taken t }
      course_by (inr p) = record { floored = λ who r e. course.floored who r (sym (p.same who) ∙ e); owned = λ r e on. course.owned r (sym (p.same n) ∙ e) on }

      settled_by : IsDelivered base a0 (seen_at rows) mail after new → IsSettled rows → IsSettled (rows ++ row ∷ [])
      settled_by (inl t) k = settled_taken t k
      settled_by (inr p) k = λ r e. k r (sym (p.same n) ∙ e)

      course_after : Course (rows ++ row ∷ [])
      course_after = course_by d

      module _ (pending others : List Mail) (head : pending ≡ mail ∷ others) where
        -- a delivery in the second round, and behind it
        second_after : (second later : List Mail) → pending ≡ second ++ later → Second rows second → Progress (rows ++ row ∷ []) (others ++ new)
        second_after [] later e k = inr (inr (settled_by d (over rows now course k)))
        second_after (x ∷ second) later e k =
            let same : x ≡ mail = (let q : mail ∷ others ≡ x ∷ (second ++ later) = sym head ∙ e in cc) in
            let rest : others ≡ second ++ later = (let q : mail ∷ others ≡ x ∷ (second ++ later) = sym head ∙ e in cc) in
            inr (inl (second, later ++ new, ap (λ (ms : List Mail). ms ++ new) rest ∙ append_assoc second later new, second_step base a0 n n_alive ballot from_slot (seen_at rows) mail second after new (subst (λ (m : Mail). Second rows (m ∷ second)) same k) d))

        first_after : (first second : List Mail) → pending ≡ first ++ second → First rows first second → Progress (rows ++ row ∷ []) (others ++ new)
        first_after [] second e k = second_after second [] (e ∙ sym (append-nil second)) (second_begins base a0 n n_alive ballot from_slot (seen_at rows) second k)
        first_after (x ∷ first) second e k =
            let same : x ≡ mail = (let q : mail ∷ others ≡ x ∷ (first ++ second) = sym head ∙ e in cc) in
            let rest : others ≡ first ++ second = (let q : mail ∷ others ≡ x ∷ (first ++ second) = sym head ∙ e in cc) in
            inl (first, second ++ new, ap (λ (ms : List Mail). ms ++ new) rest ∙ append_assoc first second new, first_step base a0 n n_alive ballot from_slot (seen_at rows) mail first second after new (subst (λ (m : Mail). First rows (m ∷ first) second) same k) d)

        progress_after : Progress rows pending → Progress (rows ++ row ∷ []) (others ++ new)
        progress_after (inl k) = first_after k.0 k.1 k.2 k.3
        progress_after (inr (inl k)) = second_after k.0 k.1 k.2 k.3
        progress_after (inr (inr k)) = inr (inr (settled_by d k))

    -- ---- all deliveries

    -- what a delivery does to the group, by those that could get mail when the turn began
    abbrev Delivers : Rows → Row Mail OrderLine → Mail → List Mail → Type 0
    Delivers rows row mail others =
        (pending_mail (s words scenario bounded base among) rows ≡ mail ∷ others) × ((new : List Mail) × (pending_mail (s words scenario bounded base among) (rows ++ row ∷ []) ≡ others ++ new) × IsDelivered base a0 (seen_at rows) mail (seen_at (rows ++ row ∷ [])) new)

    -- the end of the deliveries
    ends : (rows : Rows) → IsFixedJournal scenario rows → Course rows → (pending : List Mail) → pending ≡ [] → Progress rows pending → IsSettled rows
    ends rows now course pending none (inl ([], [], e, k)) = over rows now course (second_begins base a0 n n_alive ballot from_slot (seen_at rows) [] k)
    ends rows now course pending none (inl (x ∷ first, second, e, k)) = absurd (cc)
    ends rows now course pending none (inl ([], x ∷ second, e, k)) = absurd (cc)
    ends rows now course pending none (inr (inl ([], later, e, k))) = over rows now course k
    ends rows now course pending none (inr (inl (x ∷ second, later, e, k))) = absurd (cc)
    ends rows now course pending none (inr (inr k)) = k

    -- ---- a delivery of the lowest number

    filters_agree : (a b : ℕ → Bool) → ((who : ℕ) → a who ≡ b who) → (sent : List Mail) → filter (λ (m : Mail). a m.to) sent ≡ filter (λ (m : Mail). b m.to) sent
    filters_agree a b same [] = refl
    filters_agree a b same (m ∷ sent) =
        ap (λ (x : Bool). cond x (m ∷ filter (λ (y : Mail). a y.to) sent) (filter (λ (y : Mail). a y.to) sent)) (same m.to) ∙ ap (λ (xs : List Mail). cond (b m.to) (m ∷ xs) xs) (filters_agree a b same sent)

    as_begun : (a : ℕ → Bool) → ((who : ℕ) → a who ≡ a0 who) → (c : Replicas) (mail : Mail) (after : Replicas) (new : List Mail) → IsDelivered base a c mail after new → IsDelivered base a0 c mail after new
    as_begun a same c mail next_view new (inl t) =
        inl record { of_group = t.of_group; fresh = t.fresh; replica = t.replica; was = t.was; fixed = t.fixed; heard = t.heard; room = t.room; fact = t.fact; others = t.others; sent = t.sent ∙ filters_agree a a0 same (mailed mail.from mail.body (t.replica, [])).0.1 }
    as_begun a same c mail next_view new (inr p) = inr record { other = p.other; same = p.same; sent = p.sent }

    given : (sent : List Mail) (number : ℕ) (mail : Mail) → Each (λ (m : Mail). FitsSlots m.body) sent → numbered sent number ≡ Some mail → FitsSlots mail.body
    given sent zero mail f e = absurd (cc)
    given sent (suc place) mail f e = Each-among (λ (m : Mail). FitsSlots m.body) sent mail f (place_among sent place mail e)

    abbrev lives_in : Rows → ℕ → Bool
    lives_in rows who = alive words scenario bounded base among rows who

    -- nobody crashes in a delivery
    lives_on : (rows : Rows) (row : Row Mail OrderLine) (number : ℕ) → row.event ≡ Deliver number → (who : ℕ) → lives_in (rows ++ row ∷ []) who ≡ lives_in rows who
    lives_on rows row number event who = gets_same (numbers_of (s words scenario bounded base among).births) rows row (ap (λ (e : Event OrderLine). is_crash e) event) who

    delivers_at : (rows : Rows) (row : Row Mail OrderLine) → IsFixedJournal scenario rows → ((who : ℕ) → lives_in rows who ≡ a0 who) → Each (λ (m : Mail). FitsSlots m.body) (mails rows) → lowest (s words scenario bounded base among) rows ≡ Some row
        → (mail : Mail) × (others : List Mail) × Delivers rows row mail others × ((who : ℕ) → lives_in (rows ++ row ∷ []) who ≡ a0 who)
    delivers_at rows row now lives room low =
        let t : TakesLowest (s words scenario bounded base among) rows row = takes_lowest (s words scenario bounded base among) rows row low in
        let event : row.event ≡ Deliver t.number = ap (λ (r : Row Mail OrderLine). r.event) t.row_is in
        let new : List Mail = filter (λ (m : Mail). lives_in rows m.to) row.sent in
        let d : IsDelivered base (alive words scenario bounded base among rows) (seen_at rows) t.mail (seen_at (rows ++ row ∷ [])) new = delivered_view words scenario bounded base among rows row now t (fits t.mail.body (given (mails rows) t.number t.mail room t.sent)) in
        (t.mail, t.others, (t.first, (new, t.then_, as_begun (alive words scenario bounded base among rows) lives (seen_at rows) t.mail (seen_at (rows ++ row ∷ [])) new d)), λ who. lives_on rows row t.number event who ∙ lives who)

    module _ (full : Rows) (journals : (xs ys : Rows) → full ≡ xs ++ ys → IsFixedJournal scenario xs × Each (λ (m : Mail). FitsSlots m.body) (mails xs)) where
      -- Polls end: where the poll has begun, and mail is delivered until none is pending, the node's replica is settled or does not run.
      pub polls_end : (deliveries rows : Rows) → full ≡ rows ++ deliveries → AreDelivered (s words scenario bounded base among) rows deliveries → ((who : ℕ) → lives_in rows who ≡ a0 who) → Course rows → Progress rows (pending_mail (s words scenario bounded base among) rows) → IsSettled full
      polls_end [] rows e quiet lives course k =
          let same : full ≡ rows = e ∙ append-nil rows in
          subst IsSettled (sym same) (ends rows (journals rows [] e).0 course (pending_mail (s words scenario bounded base among) rows) (none_pending (s words scenario bounded base among) rows quiet) k)
      polls_end (row ∷ deliveries) rows e go lives course k =
          let longer : full ≡ (rows ++ row ∷ []) ++ deliveries = e ∙ sym (append_assoc rows (row ∷ []) deliveries) in
          let now = (journals rows (row ∷ deliveries) e).0 in
          let d = delivers_at rows row now lives (journals rows (row ∷ deliveries) e).1 go.0 in
          let course1 = course_after rows row now d.0 d.2.1.0 d.2.1.2 course in
          let k1 = progress_after rows row now d.0 d.2.1.0 d.2.1.2 course (pending_mail (s words scenario bounded base among) rows) d.1 d.2.0 k in
          polls_end deliveries (rows ++ row ∷ []) longer go.1 d.3 course1 (subst (Progress (rows ++ row ∷ [])) (sym d.2.1.1) k1)

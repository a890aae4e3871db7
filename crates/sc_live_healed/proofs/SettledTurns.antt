-- After the turn of a node, which is its tick with the deliveries behind it, each replica of the node is settled or does not run; and it stays so in the turns that follow.
use Rattle.std.proofs.Common.{◌≡◌, ℕ, ◌+◌, ◌*◌, ◌-◌, ◌^◌, ◌<◌, ◌≤◌, not, eqb, Bool, true, false, true≢false, List, [], ◌∷◌, ◌++◌, count_by, length, length-append, filter, Option, Some, None, ◌⊎◌, inl, inr, refl, sym, ◌∙◌, ap, subst, arith, append_assoc, append-nil}
use Rattle.std.specs.Option.{option_map}
use Rattle.std.specs.List.{list_any}
use Rattle.std.proofs.lemmas.Bool.{cond_both, cond-false, cases_Bool, eqb-true, eq-eqb, and_parts}
use Rattle.sc_base.specs.Definitions.{Among, Each}
use Rattle.sc_words.proofs.PaxosProofs.PaxosLemmas.{Each-among, Each-append, Each-filter, Each-weaker, find_found, Among-filter}
use Rattle.sc_paxos_law.proofs.Lemmas.{Among-left, Among-right}
use Rattle.sc_node_table.specs.Values.{Ballot, Draw, Seat, Row, Event, Base, Core, OrderLine, Mail, MailBody, Prepare, Install, Node, Client}
use Rattle.sc_actor.specs.declared.rows.Event.TheVariants.{Tick as TickEvent, Go as GoEvent}
use Rattle.sc_actor.specs.declared.rows.Input.TheVariants.{Go}
use Rattle.sc_actor.specs.Definitions.{mails, acts, acted, input_of, value, has_crashed, has_started, numbers_of, row_of, is_quiet, line_row, place_after, System}
use Rattle.sc_actor.proofs.Lemmas.{lawful-prefix, lawful-last, MayAdd-step, value-snoc}
use Rattle.sc_node_table.specs.NodeDefinitions.{ReplicaState, Place, name_of, group_of_mail, tick_row, is_node, last_slot, next, settled, open_nodes}
use Rattle.sc_law_walks.proofs.Talks.{all_sent}
use Rattle.sc_law_walks.proofs.WalkLemmas.{elected_place}
use Rattle.sc_scenario.specs.declared.scenario.scenarios.Scenario.{Scenario}
use Rattle.sc_scenario.specs.scenario.Definitions.{IsBounded}
use Rattle.sc_meaning.specs.sound.SoundDefinitions.{Lawful, Player, as_nodes, player_table, schedule, system_of}
use Rattle.sc_live_orderly.specs.OrderlyDefinitions.{Kick, Ticks, Starts, Turn, kick_line, pending_mail, AreDelivered, IsTurn, HasTurns}
use Rattle.sc_live_orderly.specs.Turns.{as_list}
use Rattle.sc_paxos_law.proofs.Leading.{counts_within}
use Rattle.sc_live_healed.proofs.FixedWalks.{IsFresh, IsMember}
use Rattle.sc_live_healed.proofs.FixedNodes.{AreFresh}
use Rattle.sc_live_healed.proofs.FixedBirths.{groups_fresh}
use Rattle.sc_live_healed.proofs.FixedJournals.{Rows, IsOf, IsFixedJournal, AreWithoutOrders, untold_prefix}
use Rattle.sc_live_healed.proofs.LivingActors.{acts_row, seats_stay_nodes, turns_get, turns_kind}
use Rattle.sc_live_healed.proofs.NearSlots.{NamesNear, StaysNear}
use Rattle.sc_live_healed.proofs.NearJournals.{IsNearJournal, PlayerNear, journal_near}
use Rattle.sc_live_healed.proofs.NearRounds.{rounds_grow}
use Rattle.sc_live_healed.proofs.GrowingJournals.{PlayerGrown, journal_grown}
use Rattle.sc_live_healed.proofs.FreshBallots.{HasFreshBallots, ballots_fresh, promised_before, seat_seen, seen_at}
use Rattle.sc_live_healed.proofs.OwnTicks.{OwnTick, own_tick, pending_ticked}
use Rattle.sc_live_healed.proofs.DeliveredViews.{view, alive, player_view}
use Rattle.sc_live_healed.proofs.PollBegins.{next_ballot, elected_at_tick, members_are_asked}
use Rattle.sc_live_healed.proofs.PollTurns.{FirstRound, first_begins}
use Rattle.sc_live_healed.proofs.PollsEnd.{FitsSlots, Progress, polls_end}
use Rattle.sc_live_healed.proofs.SettledTicks.{tick_keeps_settled}
use Rattle.sc_live_healed.specs.HealedDefinitions.{LivingMajority, IsSettledOrStopped}

-- mail that is near a slot fits
fits_near : (bound : ℕ) (body : MailBody) → bound ≤ last_slot → NamesNear bound body → FitsSlots body
fits_near bound (Install group slot base sets) low n = omega (arith, low, n)
fits_near bound _ low n = tt

module _ (words : ℕ → ℕ → ℕ × ℕ) (scenario : Scenario) (bounded : IsBounded scenario) (off : scenario.policy ≡ false) (whole : Rows) (is_lawful : Lawful as_nodes words scenario whole) (is_untold : AreWithoutOrders words scenario bounded off whole) (are_few : 1 + 4 * length whole ≤ last_slot) where
  abbrev s : System Player Mail OrderLine
  s = system_of as_nodes words scenario

  -- ---- what holds after each prefix of the journal

  -- What holds after these rows.
  record Stands (rows : Rows) : Type 0 where
    lawful : Lawful as_nodes words scenario rows
    without_orders : AreWithoutOrders words scenario bounded off rows
    few : 1 + 4 * length rows ≤ last_slot
    near : IsNearJournal scenario (1 + 4 * length rows) rows

  stands : (xs ys : Rows) → whole ≡ xs ++ ys → Stands xs
  stands xs ys e =
      let first = lawful-prefix s (schedule scenario) xs ys (subst (Lawful as_nodes words scenario) e is_lawful) in
      let plain = untold_prefix words scenario bounded off xs ys (subst (AreWithoutOrders words scenario bounded off) e is_untold) in
      let parts : length whole ≡ length xs + length ys = ap length e ∙ length-append xs ys in
      record { lawful = first; without_orders = plain; few = omega (arith, are_few, parts); near = journal_near words scenario bounded off xs plain first }

  fitting : (xs ys : Rows) → whole ≡ xs ++ ys → IsFixedJournal scenario xs × Each (λ (m : Mail). FitsSlots m.body) (mails xs)
  fitting xs ys e =
      let k = stands xs ys e in
      let low = k.few in
      (k.near.fixed, Each-weaker (λ (m : Mail). NamesNear (1 + 4 * length xs) m.body) (λ (m : Mail). FitsSlots m.body) (λ m n. fits_near (1 + 4 * length xs) m.body low n) (mails xs) k.near.sent)

  module _ (base : Base) (among : Among base scenario.groups) where
    abbrev seen : Rows → ℕ → Option ReplicaState
    seen rows who = view words scenario bounded base among rows who

    abbrev pub gets : Rows → ℕ → Bool
    gets rows who = alive words scenario bounded base among rows who

    fresh : AreFresh scenario.groups
    fresh = groups_fresh scenario bounded

    -- acceptors have forgotten executed slots alone
    floored : (rows : Rows) → Stands rows → (who : ℕ) (r : ReplicaState) → seen rows who ≡ Some r → r.acceptor.floor < next r
    floored rows k who r e = (let x = seat_seen words scenario bounded off base among rows who r e in at (value player_table x.0 rows) x.3 (k.near.players x.0 x.1))
      where
        at : (p : Player) → player_view words scenario bounded base among p ≡ Some r → PlayerNear (1 + 4 * length rows) p → r.acceptor.floor < next r
        at (Node node) q n = (Each-among (λ (x : ReplicaState). StaysNear (1 + 4 * length rows) (x, [])) node.replicas r n (find_found _ node.replicas r q).0).floored
        at (Client client) q n = absurd (cc)

    -- a round is left
    room : (rows : Rows) → Stands rows → (who : ℕ) (r : ReplicaState) → seen rows who ≡ Some r → eqb r.top.round (2 ^ 32 - 1) ≡ false
    room rows k who r e = (let x = seat_seen words scenario bounded off base among rows who r e in at (value player_table x.0 rows) x.3 ((journal_grown rounds_grow words scenario bounded off rows k.without_orders k.lawful).players x.0 x.1))
      where
        at : (p : Player) → player_view words scenario bounded base among p ≡ Some r → PlayerGrown rounds_grow (1 + length rows) p → eqb r.top.round (2 ^ 32 - 1) ≡ false
        at (Node node) q n =
            let low : r.top.round ≤ 1 + length rows = Each-among (λ (x : ReplicaState). x.top.round ≤ 1 + length rows) node.replicas r n (find_found _ node.replicas r q).0 in
            let short = k.few in
            elim (cases_Bool (eqb r.top.round (2 ^ 32 - 1))) [ inl t ↦ absurd (let same = eqb-true r.top.round (2 ^ 32 - 1) t in omega (arith, low, short, same)) | inr f ↦ f ]
        at (Client client) q n = absurd (cc)

    module _ (lives : ℕ → Bool) (most : LivingMajority lives base.core.members) (seat : Seat Player) (is_of : IsOf scenario seat) (node_is : is_node seat.who ≡ true) where
      abbrev pub IsSettledAfter : Rows → Type 0
      IsSettledAfter rows = (r : ReplicaState) → seen rows seat.who ≡ Some r → IsSettledOrStopped r

      -- who lives may get mail
      abbrev pub MayGet : Rows → Type 0
      MayGet rows = (who : ℕ) → lives who ≡ true → gets rows who ≡ true

      enough : (rows : Rows) → MayGet rows → length base.core.members < 2 * count_by (gets rows) base.core.members
      enough rows may = (let more = counts_within lives (gets rows) base.core.members (λ x a l. may x l) in omega (arith, more, most))

      -- ---- the deliveries of a turn

      module _ (rows deliveries later : Rows) (e : whole ≡ (rows ++ deliveries) ++ later) (delivered : AreDelivered s rows deliveries) (may : MayGet rows) (mine : gets rows seat.who ≡ true) where
        here : Stands rows
        here = stands rows (deliveries ++ later) (e ∙ append_assoc rows deliveries later)

        journals : (xs ys : Rows) → rows ++ deliveries ≡ xs ++ ys → IsFixedJournal scenario xs × Each (λ (m : Mail). FitsSlots m.body) (mails xs)
        journals xs ys f = fitting xs (ys ++ later) (e ∙ (ap (λ (rs : Rows). rs ++ later) f ∙ append_assoc xs ys later))

        ends : (ballot : Ballot) (from_slot : ℕ) → ((r : ReplicaState) → seen rows seat.who ≡ Some r → r.running ≡ true → r.leader.ballot ≡ ballot)
            → Progress words scenario bounded base among (gets rows) seat.who mine ballot from_slot (enough rows may) rows (pending_mail s rows) → IsSettledAfter (rows ++ deliveries)
        ends ballot from_slot owned progress =
            polls_end words scenario bounded base among (gets rows) seat.who mine ballot from_slot (enough rows may) (rows ++ deliveries) journals deliveries rows refl delivered (λ who. refl) (record { floored = floored rows here; owned = owned }) progress

        stays_settled : IsSettledAfter rows → IsSettledAfter (rows ++ deliveries)
        stays_settled k = by (seen rows seat.who) refl
          where
            by : (o : Option ReplicaState) → seen rows seat.who ≡ o → IsSettledAfter (rows ++ deliveries)
            by None f = ends (record { round = 0; node = 0 }) 0 (λ r g. absurd (let bad = sym g ∙ f in cc)) (inr (inr k))
            by (Some x) f = ends x.leader.ballot 0 (λ r g on. (let same : x ≡ r = (let q : Some x ≡ Some r = sym f ∙ g in cc) in ap (λ (y : ReplicaState). y.leader.ballot) (sym same))) (inr (inr k))

      -- ---- the node's own tick

      module _ (rows : Rows) (k : Stands rows) (k1 : Stands (rows ++ row_of player_table seat rows TickEvent ∷ [])) (quiet : is_quiet s rows ≡ true) (t : OwnTick words scenario bounded off base among seat is_of node_is rows) where
        abbrev row : Row Mail OrderLine
        row = row_of player_table seat rows TickEvent

        abbrev rows1 : Rows
        rows1 = rows ++ row ∷ []

        abbrev r0 : ReplicaState
        r0 = t.replica

        born : IsFresh base seat.who
        born = fresh.each base among seat.who t.member

        -- who was settled is
        was_settled : settled r0 ≡ true → IsSettledAfter rows1
        was_settled on r e running =
            let same : (tick_row false t.drawer (r0, [])).0 ≡ r = (let q = sym t.fact ∙ e in cc) in
            let free = ap (λ (core : Core). core.lock) t.fixed.fixed.group ∙ born.free in
            ap settled (sym same) ∙ tick_keeps_settled t.drawer r0 [] free on

        module _ (off_ : settled r0 ≡ false) (mine : gets rows1 seat.who ≡ true) where
          ballot : Ballot
          ballot = next_ballot r0

          from_slot : ℕ
          from_slot = next r0

          elects : tick_row false t.drawer (r0, []) ≡ elected_place (r0, [])
          elects = elected_at_tick base seat.who born t.drawer r0 [] t.fixed off_ (room rows k seat.who r0 t.was)

          is_elected : (r : ReplicaState) → seen rows1 seat.who ≡ Some r → (elected_place (r0, [])).0 ≡ r
          is_elected r e = (let same : (tick_row false t.drawer (r0, [])).0 ≡ r = (let q = sym t.fact ∙ e in cc) in ap (λ (p : Place). p.0) (sym elects) ∙ same)

          abbrev AsksIf : Mail → Type 0
          AsksIf m = group_of_mail m.body ≡ Some base.core.id → (m.from ≡ seat.who) × (m.body ≡ Prepare base.core.id (next_ballot r0) (next r0))

          others_ask : (ms : List Mail) → Each (λ (m : Mail). group_of_mail m.body ≡ Some base.core.id → ⊥) ms → Each AsksIf ms
          others_ask ms none = Each-weaker (λ (m : Mail). group_of_mail m.body ≡ Some base.core.id → ⊥) AsksIf (λ m other of. absurd (other of)) ms none

          name : name_of r0 ≡ base.core.id
          name = ap (λ (core : Core). core.id) t.fixed.fixed.group

          asks_own : Each AsksIf (elected_place (r0, [])).1
          asks_own =
              let body : MailBody = Prepare (name_of r0) (next_ballot r0) (next r0) in
              all_sent r0.me (λ (ms : List Mail). Each AsksIf ms) body (λ to ms m. Each-append AsksIf ms (record { from = r0.me; to = to; body = body } ∷ []) m ((λ of. (t.fixed.me_is, ap (λ (d : Draw). Prepare d (next_ballot r0) (next r0)) name)), tt)) (open_nodes r0.sets) [] tt

          sent_is : row.sent ≡ t.before ++ ((elected_place (r0, [])).1 ++ t.after)
          sent_is = t.sent ∙ ap (λ (p : Place). t.before ++ (p.1 ++ t.after)) elects

          asks_sent : Each AsksIf row.sent
          asks_sent =
              subst (Each AsksIf) (sym sent_is)
              (Each-append AsksIf t.before ((elected_place (r0, [])).1 ++ t.after) (others_ask t.before t.others_before) (Each-append AsksIf (elected_place (r0, [])).1 t.after asks_own (others_ask t.after t.others_after)))

          pending_is : pending_mail s rows1 ≡ filter (λ (m : Mail). gets rows1 m.to) row.sent
          pending_is = pending_ticked words scenario bounded off base among rows seat quiet

          asked : (m : ℕ) → IsMember base m → gets rows1 m ≡ true → Among (record { from = seat.who; to = m; body = Prepare base.core.id (next_ballot r0) (next r0) }) (pending_mail s rows1)
          asked m member may =
              let told = members_are_asked base seat.who r0 [] t.fixed m member (fresh.within base among m member) in
              let named = subst (λ (d : Draw). Among (record { from = r0.me; to = m; body = Prepare d (next_ballot r0) (next r0) }) (elected_place (r0, [])).1) name told in
              let mail : Mail = record { from = seat.who; to = m; body = Prepare base.core.id (next_ballot r0) (next r0) } in
              let own : Among mail (elected_place (r0, [])).1 = subst (λ (n : ℕ). Among (record { from = n; to = m; body = Prepare base.core.id (next_ballot r0) (next r0) }) (elected_place (r0, [])).1) t.fixed.me_is named in
              subst (Among mail) (sym pending_is)
              (Among-filter (λ (x : Mail). gets rows1 x.to) row.sent mail (subst (Among mail) (sym sent_is) (Among-right mail t.before ((elected_place (r0, [])).1 ++ t.after) (Among-left mail (elected_place (r0, [])).1 t.after own))) may)

          unpromised : (m : ℕ) (x : ReplicaState) → seen rows1 m ≡ Some x → x.acceptor.promised ≡ next_ballot r0 → ⊥
          unpromised m x e same =
              let ballots : HasFreshBallots words scenario bounded off base among rows = ballots_fresh words scenario bounded off base among rows k.without_orders k.lawful in
              let step = MayAdd-step s rows (place_after s (schedule scenario) rows).tasks row (lawful-last s (schedule scenario) rows row k1.lawful) in
              let low = promised_before words scenario bounded off base among rows row refl (1 + 4 * length rows) k.near ballots step seat.who m r0 x t.was e (ap (λ (b : Ballot). b.node) same ∙ t.fixed.me_is) in
              let round = ap (λ (b : Ballot). b.round) same in omega (arith, low, round)

          begins : FirstRound base (gets rows1) seat.who mine (next_ballot r0) (next r0) (seen rows1) (pending_mail s rows1) []
          begins =
              first_begins base (gets rows1) seat.who mine (next_ballot r0) (next r0) (seen rows1) (pending_mail s rows1)
              (subst (Each AsksIf) (sym pending_is) (Each-filter AsksIf (λ (m : Mail). gets rows1 m.to) row.sent asks_sent)) (floored rows1 k1) (λ r e p. ap next (sym (is_elected r e))) asked unpromised

          owned : (r : ReplicaState) → seen rows1 seat.who ≡ Some r → r.running ≡ true → r.leader.ballot ≡ next_ballot r0
          owned r e on = ap (λ (x : ReplicaState). x.leader.ballot) (sym (is_elected r e))

      -- after its own turn the node is settled
      own_turn : (rows deliveries later : Rows) → whole ≡ ((rows ++ row_of player_table seat rows TickEvent ∷ []) ++ deliveries) ++ later → is_quiet s rows ≡ true → AreDelivered s (rows ++ row_of player_table seat rows TickEvent ∷ []) deliveries
          → MayGet (rows ++ row_of player_table seat rows TickEvent ∷ []) → gets (rows ++ row_of player_table seat rows TickEvent ∷ []) seat.who ≡ true → IsSettledAfter ((rows ++ row_of player_table seat rows TickEvent ∷ []) ++ deliveries)
      own_turn rows deliveries later e quiet delivered may mine =
          let row : Row Mail OrderLine = row_of player_table seat rows TickEvent in
          let rows1 : Rows = rows ++ row ∷ [] in
          let k1 : Stands rows1 = stands rows1 (deliveries ++ later) (e ∙ append_assoc rows1 deliveries later) in
          let k : Stands rows = stands rows (row ∷ (deliveries ++ later)) (e ∙ (append_assoc rows1 deliveries later ∙ append_assoc rows (row ∷ []) (deliveries ++ later))) in
          let ballots : HasFreshBallots words scenario bounded off base among rows = ballots_fresh words scenario bounded off base among rows k.without_orders k.lawful in
          elim (own_tick words scenario bounded off base among seat is_of node_is rows k.near.fixed ballots) [
            | inl none ↦ stays_settled rows1 deliveries later e delivered may mine (λ r f. absurd (let bad = sym f ∙ none in cc))
            | inr t ↦ elim (cases_Bool (settled t.replica)) [
              | inl leads_ ↦ stays_settled rows1 deliveries later e delivered may mine (was_settled rows k k1 quiet t leads_)
              | inr off_ ↦ ends rows1 deliveries later e delivered may mine (next_ballot t.replica) (next t.replica) (owned rows k k1 quiet t off_ mine) (inl (pending_mail s rows1, [], sym (append-nil (pending_mail s rows1)), begins rows k k1 quiet t off_ mine))
            ]
          ]

      -- ---- what begins a turn elsewhere

      -- a row that leaves the node's replica as it is
      same_seen : (rows : Rows) (row : Row Mail OrderLine) → (row.who ≡ seat.who → (acted player_table (value player_table seat rows) (input_of (mails rows) row.event)).0 ≡ value player_table seat rows) → seen (rows ++ row ∷ []) seat.who ≡ seen rows seat.who
      same_seen rows row same =
          seen_at words scenario bounded off base among (rows ++ row ∷ []) seat is_of
          ∙ (ap (λ (p : Player). player_view words scenario bounded base among p) (value-snoc player_table seat rows row
          ∙ cond_both (eqb row.who seat.who) (acted player_table (value player_table seat rows) (input_of (mails rows) row.event)).0 (value player_table seat rows) (λ (p : Player). p ≡ value player_table seat rows) (λ t. same (eqb-true row.who seat.who t)) (λ _. refl))
          ∙ sym (seen_at words scenario bounded off base among rows seat is_of))

      left_alone : (rows : Rows) (row : Row Mail OrderLine) → (row.who ≡ seat.who → (acted player_table (value player_table seat rows) (input_of (mails rows) row.event)).0 ≡ value player_table seat rows) → IsSettledAfter rows → IsSettledAfter (rows ++ row ∷ [])
      left_alone rows row same k r e = k r (sym (same_seen rows row same) ∙ e)

      start_same : (rows : Rows) → (acted player_table (value player_table seat rows) (Some Go)).0 ≡ value player_table seat rows
      start_same rows = (let was = seats_stay_nodes scenario bounded seat is_of node_is rows in ap (λ (p : Player). (acted player_table p (Some Go)).0) was.1 ∙ sym was.1)

      elsewhere : (rows : Rows) (kick : Kick) (who : ℕ) (first : Option (Row Mail OrderLine)) → line_row s rows (kick_line kick who) ≡ first → (kick ≡ Ticks → who ≡ seat.who → ⊥) → IsSettledAfter rows → IsSettledAfter (rows ++ as_list first)
      elsewhere rows kick who None e other k = subst IsSettledAfter (sym (append-nil rows)) k
      elsewhere rows Ticks who (Some row) e other k =
          let a = acts_row s rows who TickEvent row (cond_both (has_crashed rows who) None (acts s rows who TickEvent) (λ (o : Option (Row Mail OrderLine)). o ≡ Some row → acts s rows who TickEvent ≡ Some row) (λ _ q. cc) (λ _ q. q) e) in
          left_alone rows row (λ same. absurd (other refl (sym a.0 ∙ same))) k
      elsewhere rows Starts who (Some row) e other k =
          let a = acts_row s rows who GoEvent row (cond_both (has_started rows who) None (acts s rows who GoEvent) (λ (o : Option (Row Mail OrderLine)). o ≡ Some row → acts s rows who GoEvent ≡ Some row) (λ _ q. cc) (λ _ q. q) e) in
          left_alone rows row (λ same. ap (λ (event : Event OrderLine). (acted player_table (value player_table seat rows) (input_of (mails rows) event)).0) a.1 ∙ start_same rows) k

      -- ---- turns

      module _ (living : lives seat.who ≡ true) where
        -- the node's tick is a row of its own
        tick_row_is : (rows : Rows) → MayGet rows → line_row s rows (kick_line Ticks seat.who) ≡ Some (row_of player_table seat rows TickEvent)
        tick_row_is rows may =
            cond-false (has_crashed rows seat.who) None (acts s rows seat.who TickEvent) (by (has_crashed rows seat.who) (and_parts (list_any (λ actor. eqb actor seat.who) (numbers_of s.births)) (not (has_crashed rows seat.who)) (may seat.who living)).1)
            ∙ ap (λ (o : Option (Seat Player)). option_map (λ (other : Seat Player). row_of player_table other rows TickEvent) o) is_of
          where
            by : (b : Bool) → not b ≡ true → b ≡ false
            by false e = refl
            by true e = cc

        pub turn_settles : (rows : Rows) (turn : Turn) (after later : Rows) → whole ≡ after ++ later → IsTurn s rows turn after → ((more rest : Rows) → after ≡ (rows ++ more) ++ rest → MayGet (rows ++ more)) → MayGet rows
            → IsSettledAfter rows ⊎ ((turn.kick ≡ Ticks) × (turn.who ≡ seat.who)) → IsSettledAfter after
        turn_settles rows turn after later e t gets_in may k =
            subst IsSettledAfter (sym t.after_is) (by k)
          where
            begun : Rows
            begun = rows ++ as_list t.first

            is_whole : whole ≡ (begun ++ t.deliveries) ++ later
            is_whole = e ∙ ap (λ (rs : Rows). rs ++ later) t.after_is

            may_begun : MayGet begun
            may_begun = gets_in (as_list t.first) t.deliveries t.after_is

            own : turn.kick ≡ Ticks → turn.who ≡ seat.who → IsSettledAfter (begun ++ t.deliveries)
            own kick who =
                let first : t.first ≡ Some (row_of player_table seat rows TickEvent) = sym t.first_is ∙ (ap (λ (x : Kick). line_row s rows (kick_line x turn.who)) kick ∙ (ap (λ (w : ℕ). line_row s rows (kick_line Ticks w)) who ∙ tick_row_is rows may)) in
                let Goal : Option (Row Mail OrderLine) → Type 0 = λ (o : Option (Row Mail OrderLine)). whole ≡ ((rows ++ as_list o) ++ t.deliveries) ++ later → AreDelivered s (rows ++ as_list o) t.deliveries → MayGet (rows ++ as_list o) → IsSettledAfter ((rows ++ as_list o) ++ t.deliveries) in
                subst Goal (sym first) (λ w d m. own_turn rows t.deliveries later w t.quiet d m (m seat.who living)) is_whole t.delivered may_begun

            goes_on : IsSettledAfter begun → IsSettledAfter (begun ++ t.deliveries)
            goes_on q = stays_settled begun t.deliveries later is_whole t.delivered may_begun (may_begun seat.who living) q

            kicked : (kick : Kick) → turn.kick ≡ kick → (b : Bool) → eqb turn.who seat.who ≡ b → IsSettledAfter rows → IsSettledAfter (begun ++ t.deliveries)
            kicked Ticks x true f q = own x (eqb-true turn.who seat.who f)
            kicked Ticks x false f q = goes_on (elsewhere rows turn.kick turn.who t.first t.first_is (λ _ same. true≢false (sym (eq-eqb turn.who seat.who same) ∙ f)) q)
            kicked Starts x b f q = goes_on (elsewhere rows turn.kick turn.who t.first t.first_is (λ ticks _. (let other : Starts ≡ Ticks = sym x ∙ ticks in cc)) q)

            by : IsSettledAfter rows ⊎ ((turn.kick ≡ Ticks) × (turn.who ≡ seat.who)) → IsSettledAfter (begun ++ t.deliveries)
            by (inr mine) = own mine.0 mine.1
            by (inl q) = kicked turn.kick refl (eqb turn.who seat.who) refl q

        -- one of the turns is the node's tick
        abbrev pub HasTicked : List Turn → Type 0
        HasTicked [] = ⊥
        HasTicked (turn ∷ turns) = ((turn.kick ≡ Ticks) × (turn.who ≡ seat.who)) ⊎ HasTicked turns

        -- Behind turns of which one is the node's tick, the node's replica of the group is settled or does not run.
        pub turns_settle : (rows : Rows) (turns : List Turn) (after later : Rows) → whole ≡ after ++ later → HasTurns s rows turns after → MayGet rows → IsSettledAfter rows ⊎ HasTicked turns → IsSettledAfter after
        turns_settle rows [] after later e t may (inl k) = subst IsSettledAfter t.1 k
        turns_settle rows [] after later e t may (inr none) = absurd none
        turns_settle rows (turn ∷ turns) after later e t may k =
            let rest = turns_kind s t.0 turns after t.2 in
            let more : Rows = as_list t.1.first ++ t.1.deliveries in
            let middle : t.0 ≡ rows ++ more = t.1.after_is ∙ append_assoc rows (as_list t.1.first) t.1.deliveries in
            let gets_in : (xs ys : Rows) → t.0 ≡ (rows ++ xs) ++ ys → MayGet (rows ++ xs) =
            λ xs ys f who l. turns_get s who rows (turn ∷ turns) after xs (ys ++ rest.0) t (rest.1 ∙ (ap (λ (rs : Rows). rs ++ rest.0) f ∙ append_assoc (rows ++ xs) ys rest.0)) (may who l) in
            let may_middle : MayGet t.0 = subst MayGet (sym middle) (gets_in more [] (middle ∙ sym (append-nil (rows ++ more)))) in
            let is_whole : whole ≡ t.0 ++ (rest.0 ++ later) = e ∙ (ap (λ (rs : Rows). rs ++ later) rest.1 ∙ append_assoc t.0 rest.0 later) in
            turns_settle t.0 turns after later e t.2 may_middle (by k (turn_settles rows turn t.0 (rest.0 ++ later) is_whole t.1 gets_in may))
          where
            by : {V W : Type 0} → W ⊎ HasTicked (turn ∷ turns) → (W ⊎ ((turn.kick ≡ Ticks) × (turn.who ≡ seat.who)) → V) → V ⊎ HasTicked turns
            by (inl k) now = inl (now (inl k))
            by (inr (inl mine)) now = inl (now (inr mine))
            by (inr (inr later)) now = inr later

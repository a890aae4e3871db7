-- After the turn of a node the votes for what it has in flight are counted or under way, and stay so turn by turn; so where no mail is pending its settled replicas are idle.
use Rattle.std.proofs.Common.{◌≡◌, ℕ, not, eqb, Bool, true, false, true≢false, List, [], ◌∷◌, ◌++◌, filter, Option, Some, None, ◌⊎◌, inl, inr, refl, sym, ◌∙◌, ap, subst, append-nil, append_assoc}
use Rattle.std.specs.Option.{option_map}
use Rattle.std.specs.List.{list_any}
use Rattle.std.proofs.lemmas.Bool.{cond_both, cond-true, cond-false, eqb-true, eq-eqb, and_parts}
use Rattle.sc_base.specs.Definitions.{Among}
use Rattle.sc_node_table.specs.Values.{Seat, Row, Event, OrderLine, Mail, Node}
use Rattle.sc_actor.specs.declared.rows.Event.TheVariants.{Tick as TickEvent, Go as GoEvent}
use Rattle.sc_actor.specs.declared.rows.Input.TheVariants.{Tick, Go}
use Rattle.sc_actor.specs.Definitions.{mails, copies, counts_at, acted, input_of, value, may_get, has_crashed, has_started, numbers_of, row_of, acts, is_quiet, line_row, System}
use Rattle.sc_actor.proofs.Lemmas.{value-snoc}
use Rattle.sc_node_table.specs.NodeDefinitions.{NodeState, is_node, on_tick}
use Rattle.sc_words.proofs.PaxosProofs.PaxosLemmas.{Among-filter}
use Rattle.sc_paxos_law.proofs.Lemmas.{Among-right}
use Rattle.sc_scenario.specs.declared.scenario.scenarios.Scenario.{Scenario}
use Rattle.sc_scenario.specs.scenario.Definitions.{IsBounded}
use Rattle.sc_meaning.specs.sound.SoundDefinitions.{Player, player_table}
use Rattle.sc_live_orderly.specs.OrderlyDefinitions.{Kick, Ticks, Starts, Turn, kick_line, mail_with, pending_mail, IsTurn, HasTurns}
use Rattle.sc_live_orderly.specs.Turns.{as_list}
use Rattle.sc_live_orderly.proofs.PendingMail.{none_pending}
use Rattle.sc_live_orderly.proofs.RemainingMail.{after-row}
use Rattle.sc_live_healed.specs.HealedDefinitions.{VotesAreUnderWay}
use Rattle.sc_live_healed.proofs.LivingActors.{acts_row}
use Rattle.sc_live_healed.proofs.FixedJournals.{Rows, IsOf, fresh}
use Rattle.sc_live_healed.proofs.TakenJournals.{groups_rosters}
use Rattle.sc_live_healed.proofs.VotesBesides.{votes_with_more, votes_after_tick}
use Rattle.sc_live_healed.proofs.VotesInTurns.{S, LetsVote, VotesAt, node_fixed, node_takes, node_is, votes_all_delivered}

module _ (words : ℕ → ℕ → ℕ × ℕ) (scenario : Scenario) (bounded : IsBounded scenario) (off : scenario.policy ≡ false) (alive : ℕ → Type 0) (are_nodes : (who : ℕ) → alive who → is_node who ≡ true) (seat : Seat Player) (is_of : IsOf scenario seat) (living : alive seat.who) where
  abbrev Lets : Rows → Type 0
  Lets rows = LetsVote words scenario bounded off alive rows

  abbrev Votes : Rows → Type 0
  Votes rows = VotesAt words scenario bounded off alive seat rows

  abbrev System_ : System Player Mail OrderLine
  System_ = S words scenario bounded off alive

  -- ---- the node's own tick

  module _ (rows : Rows) (l : Lets rows) (later : Lets (rows ++ row_of player_table seat rows TickEvent ∷ [])) where
    abbrev row : Row Mail OrderLine
    row = row_of player_table seat rows TickEvent

    own_tick : Votes (rows ++ row_of player_table seat rows TickEvent ∷ [])
    own_tick node e =
        let was = l.nodes seat is_of living in
        let k = node_fixed words scenario bounded off alive rows l seat is_of was.0 was.1 in
        let now : value player_table seat (rows ++ row ∷ []) ≡ Node (on_tick was.0).0 =
        value-snoc player_table seat rows row
        ∙ (cond-true (eqb seat.who seat.who) (acted player_table (value player_table seat rows) (Some Tick)).0 (value player_table seat rows) (eq-eqb seat.who seat.who refl)
        ∙ ap (λ (p : Player). (acted player_table p (Some Tick)).0) was.1) in
        let sent : row.sent ≡ (on_tick was.0).1 = ap (λ (p : Player). (acted player_table p (Some Tick)).1) was.1 in
        let more : List Mail = pending_mail System_ (rows ++ row ∷ []) in
        let test : Mail → Bool = λ (m : Mail). may_get (numbers_of System_.births) (rows ++ row ∷ []) m.to in
        let fact : (on_tick was.0).0 ≡ node = node_is (sym now ∙ e) in
        subst (λ (n : NodeState). VotesAreUnderWay scenario.groups alive more n) fact
        (votes_after_tick scenario.groups (fresh words scenario bounded off) (groups_rosters scenario bounded) alive was.0 k.2 (node_takes words scenario bounded off alive rows l seat is_of was.0 was.1) (l.rounds seat is_of was.0 was.1) k.1 more
        (λ x a lives. subst (Among x) (sym (after-row System_ test rows row))
        (Among-right x (mail_with test (mails rows) (counts_at (copies rows) row.event)) (filter test row.sent) (Among-filter test row.sent x (subst (Among x) (sym sent) a) (later.gets x.to lives)))))

  -- ---- what begins a turn elsewhere

  -- a row that leaves the node as it is, where no mail was pending
  left_alone : (rows : Rows) (row : Row Mail OrderLine) → is_quiet System_ rows ≡ true → (row.who ≡ seat.who → (acted player_table (value player_table seat rows) (input_of (mails rows) row.event)).0 ≡ value player_table seat rows) → Votes rows → Votes (rows ++ row ∷ [])
  left_alone rows row quiet same votes node e =
      let now : value player_table seat rows ≡ value player_table seat (rows ++ row ∷ []) = sym (value-snoc player_table seat rows row
      ∙ cond_both (eqb row.who seat.who) (acted player_table (value player_table seat rows) (input_of (mails rows) row.event)).0 (value player_table seat rows) (λ (p : Player). p ≡ value player_table seat rows) (λ t. same (eqb-true row.who seat.who t)) (λ _. refl)) in
      let none = none_pending System_ rows quiet in
      votes_with_more scenario.groups alive [] (pending_mail System_ (rows ++ row ∷ [])) node (λ mail a. absurd a)
      (subst (λ (ms : List Mail). VotesAreUnderWay scenario.groups alive ms node) none (votes node (now ∙ e)))

  -- a start leaves a node as it is
  start_same : (rows : Rows) → Lets rows → (acted player_table (value player_table seat rows) (Some Go)).0 ≡ value player_table seat rows
  start_same rows l = (let was = l.nodes seat is_of living in ap (λ (p : Player). (acted player_table p (Some Go)).0) was.1 ∙ sym was.1)

  not_crashed : (rows : Rows) → Lets rows → has_crashed rows seat.who ≡ false
  not_crashed rows l = by (has_crashed rows seat.who) (and_parts (list_any (λ actor. eqb actor seat.who) (numbers_of System_.births)) (not (has_crashed rows seat.who)) (l.gets seat.who living)).1
    where
      by : (b : Bool) → not b ≡ true → b ≡ false
      by false e = refl
      by true e = cc

  -- the node's tick is a row of its own
  tick_row_is : (rows : Rows) → Lets rows → line_row System_ rows (kick_line Ticks seat.who) ≡ Some (row_of player_table seat rows TickEvent)
  tick_row_is rows l =
      cond-false (has_crashed rows seat.who) None (acts System_ rows seat.who TickEvent) (not_crashed rows l)
      ∙ ap (λ (o : Option (Seat Player)). option_map (λ (other : Seat Player). row_of player_table other rows TickEvent) o) is_of

  -- ---- a turn

  -- what holds of the votes before a turn: they are under way, or the turn is the node's own
  abbrev Turns : Rows → Turn → Type 0
  Turns rows turn = Votes rows ⊎ ((turn.kick ≡ Ticks) × (turn.who ≡ seat.who))

  -- the row that another turn begins with
  elsewhere : (rows : Rows) (kick : Kick) (who : ℕ) (first : Option (Row Mail OrderLine)) → Lets rows → is_quiet System_ rows ≡ true → line_row System_ rows (kick_line kick who) ≡ first → (kick ≡ Ticks → who ≡ seat.who → ⊥) → Votes rows → Votes (rows ++ as_list first)
  elsewhere rows kick who None l quiet e other votes = subst Votes (sym (append-nil rows)) votes
  elsewhere rows Ticks who (Some row) l quiet e other votes =
      let a = acts_row System_ rows who TickEvent row (cond_both (has_crashed rows who) None (acts System_ rows who TickEvent) (λ (o : Option (Row Mail OrderLine)). o ≡ Some row → acts System_ rows who TickEvent ≡ Some row) (λ _ k. cc) (λ _ k. k) e) in
      left_alone rows row quiet (λ same. absurd (other refl (sym a.0 ∙ same))) votes
  elsewhere rows Starts who (Some row) l quiet e other votes =
      let a = acts_row System_ rows who GoEvent row (cond_both (has_started rows who) None (acts System_ rows who GoEvent) (λ (o : Option (Row Mail OrderLine)). o ≡ Some row → acts System_ rows who GoEvent ≡ Some row) (λ _ k. cc) (λ _ k. k) e) in
      left_alone rows row quiet (λ same. ap (λ (event : Event OrderLine). (acted player_table (value player_table seat rows) (input_of (mails rows) event)).0) a.1 ∙ start_same rows l) votes

  module _ (rows : Rows) (turn : Turn) (after : Rows) (t : IsTurn System_ rows turn after) (lets : (more later : Rows) → after ≡ (rows ++ more) ++ later → Lets (rows ++ more)) where
    here : Lets rows
    here = subst Lets (append-nil rows) (lets [] (as_list t.first ++ t.deliveries) (t.after_is ∙ append_assoc rows (as_list t.first) t.deliveries ∙ ap (λ (rs : Rows). rs ++ (as_list t.first ++ t.deliveries)) (sym (append-nil rows))))

    own : turn.kick ≡ Ticks → turn.who ≡ seat.who → Votes (rows ++ as_list t.first)
    own kick who =
        let first : t.first ≡ Some (row_of player_table seat rows TickEvent) = sym t.first_is ∙ (ap (λ (k : Kick). line_row System_ rows (kick_line k turn.who)) kick ∙ (ap (λ (w : ℕ). line_row System_ rows (kick_line Ticks w)) who ∙ tick_row_is rows here)) in
        let later : Lets (rows ++ row_of player_table seat rows TickEvent ∷ []) = subst (λ (o : Option (Row Mail OrderLine)). Lets (rows ++ as_list o)) first (lets (as_list t.first) t.deliveries t.after_is) in
        subst (λ (o : Option (Row Mail OrderLine)). Votes (rows ++ as_list o)) (sym first) (own_tick rows here later)

    begins : Turns rows turn → Votes (rows ++ as_list t.first)
    begins (inr mine) = own mine.0 mine.1
    begins (inl votes) = by turn.kick refl (eqb turn.who seat.who) refl
      where
        by : (kick : Kick) → turn.kick ≡ kick → (b : Bool) → eqb turn.who seat.who ≡ b → Votes (rows ++ as_list t.first)
        by Ticks k true e = own k (eqb-true turn.who seat.who e)
        by Ticks k false e = elsewhere rows turn.kick turn.who t.first here t.quiet t.first_is (λ _ same. true≢false (sym (eq-eqb turn.who seat.who same) ∙ e)) votes
        by Starts k b e = elsewhere rows turn.kick turn.who t.first here t.quiet t.first_is (λ ticks _. (let other : Starts ≡ Ticks = sym k ∙ ticks in cc)) votes

    turn_votes : Turns rows turn → Votes after
    turn_votes v =
        subst Votes (sym t.after_is)
        (votes_all_delivered words scenario bounded off alive are_nodes seat is_of living (rows ++ as_list t.first) t.deliveries
        (λ first later e. subst Lets (sym (append_assoc rows (as_list t.first) first)) (lets (as_list t.first ++ first) later (t.after_is ∙ ap (λ (rs : Rows). (rows ++ as_list t.first) ++ rs) e ∙ sym (append_assoc (rows ++ as_list t.first) first later) ∙ ap (λ (rs : Rows). rs ++ later) (append_assoc rows (as_list t.first) first))))
        t.delivered (begins v))

  -- ---- all turns

  -- one of the turns is the node's tick
  abbrev pub IsTicked : List Turn → Type 0
  IsTicked [] = ⊥
  IsTicked (turn ∷ turns) = ((turn.kick ≡ Ticks) × (turn.who ≡ seat.who)) ⊎ IsTicked turns

  -- turns put rows behind
  grows : (rows : Rows) (turns : List Turn) (after : Rows) → HasTurns System_ rows turns after → (more : Rows) × (after ≡ rows ++ more)
  grows rows [] after t = ([], sym t.1 ∙ sym (append-nil rows))
  grows rows (turn ∷ turns) after t =
      let rest = grows t.0 turns after t.2 in
      (as_list t.1.first ++ (t.1.deliveries ++ rest.0), rest.1 ∙ (ap (λ (rs : Rows). rs ++ rest.0) t.1.after_is ∙ (append_assoc (rows ++ as_list t.1.first) t.1.deliveries rest.0 ∙ append_assoc rows (as_list t.1.first) (t.1.deliveries ++ rest.0))))

  pub turns_votes : (rows : Rows) (turns : List Turn) (after : Rows) → HasTurns System_ rows turns after → ((more later : Rows) → after ≡ (rows ++ more) ++ later → Lets (rows ++ more)) → Votes rows ⊎ IsTicked turns → Votes after
  turns_votes rows [] after t lets (inl votes) = subst Votes t.1 votes
  turns_votes rows [] after t lets (inr none) = absurd none
  turns_votes rows (turn ∷ turns) after t lets v =
      let rest = grows t.0 turns after t.2 in
      let one = grows rows (turn ∷ []) t.0 (t.0, t.1, (turns_quiet t.0 turns after t.2, refl)) in
      let now : Votes rows ⊎ ((turn.kick ≡ Ticks) × (turn.who ≡ seat.who)) → Votes t.0 =
      turn_votes rows turn t.0 t.1 (λ more later e. lets more (later ++ rest.0) (rest.1 ∙ ap (λ (rs : Rows). rs ++ rest.0) e ∙ append_assoc (rows ++ more) later rest.0)) in
      let lets_then : (more later : Rows) → after ≡ (t.0 ++ more) ++ later → Lets (t.0 ++ more) =
      λ more later e. subst Lets (sym (ap (λ (rs : Rows). rs ++ more) one.1 ∙ append_assoc rows one.0 more)) (lets (one.0 ++ more) later (e ∙ ap (λ (rs : Rows). rs ++ later) (ap (λ (rs : Rows). rs ++ more) one.1 ∙ append_assoc rows one.0 more))) in
      turns_votes t.0 turns after t.2 lets_then (by v now)
    where
      turns_quiet : (rs : Rows) (ts : List Turn) (after : Rows) → HasTurns System_ rs ts after → is_quiet System_ rs ≡ true
      turns_quiet rs [] after t = t.0
      turns_quiet rs (x ∷ ts) after t = t.1.quiet

      by : {V : Type 0} → Votes rows ⊎ IsTicked (turn ∷ turns) → (Votes rows ⊎ ((turn.kick ≡ Ticks) × (turn.who ≡ seat.who)) → V) → V ⊎ IsTicked turns
      by (inl votes) now = inl (now (inl votes))
      by (inr (inl mine)) now = inl (now (inr mine))
      by (inr (inr later)) now = inr later

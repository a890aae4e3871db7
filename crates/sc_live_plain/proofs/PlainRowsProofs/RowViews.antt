-- What one row makes of the marks that are under way, and of the view of a group.
use Rattle.sc_live_plain.proofs.PlainRowsProofs.Lists.{at_zero}
use Rattle.sc_client_table.specs.table.TableDefinitions.{Client as ClientState}
use Rattle.std.proofs.Common.{inr, inl, ◌≡◌, ℕ, ◌&&◌, true, false, cond, List, [], ◌∷◌, ◌++◌, map, drop, None, refl, sym, ◌∙◌, ap}
use Rattle.std.proofs.lemmas.Bool.{cases_eq, cond-true, cond-false, ne_eqb, eq-eqb}
use Rattle.std.proofs.lemmas.List.{map-append, drop-map}
use Rattle.sc_node_table.specs.Values.{Event, Seat, Client, Draw, OrderLine, Mail, Row}
use Rattle.sc_actor.specs.Definitions.{row_of, mails, is_delivery, value, acted, input_of}
use Rattle.sc_actor.proofs.Lemmas.{value-snoc}
use Rattle.sc_node_table.specs.NodeDefinitions.{replica_of, is_node, next}
use Rattle.sc_scenario.specs.declared.scenario.scenarios.Scenario.{Scenario}
use Rattle.sc_meaning.specs.sound.SoundDefinitions.{Player, player_table, node_seat, system_of, as_nodes}
use Rattle.sc_live_orderly.specs.OrderlyDefinitions.{rest, mail_for, taken}
use Rattle.sc_live_plain.specs.PlainDefinitions.{Frame, Mark, mark, IsBetween, marks_for, replicas_of, replica_at, view_at, marks_at, Moves, IsTaken}
use Rattle.sc_live_plain.proofs.PlainRowsProofs.LeaderMailRows.{between-row}

-- rows of the system
abbrev pub Journal : Type 0
Journal = List (Row Mail OrderLine)

-- the value of who acts
pub value_own : (rows : Journal) (seat : Seat Player) (event : Event OrderLine) → value player_table seat (rows ++ row_of player_table seat rows event ∷ []) ≡ (acted player_table (value player_table seat rows) (input_of (mails rows) event)).0
value_own rows seat event =
    value-snoc player_table seat rows (row_of player_table seat rows event)
    ∙ ap (λ b. cond b (acted player_table (value player_table seat rows) (input_of (mails rows) event)).0 (value player_table seat rows)) (eq-eqb seat.who seat.who refl)

module _ (words : ℕ → ℕ → ℕ × ℕ) (scenario : Scenario) where
  -- ---- marks

  module _ (rows : Journal) (row : Row Mail OrderLine) (after : (who : ℕ) → rest (system_of as_nodes words scenario) (rows ++ row ∷ []) who ≡ drop (taken who row) (rest (system_of as_nodes words scenario) rows who) ++ mail_for (system_of as_nodes words scenario) who row.sent) where
    marks_after : (name : Draw) (who : ℕ) → marks_at words scenario (rows ++ row ∷ []) name who ≡ drop (taken who row) (marks_at words scenario rows name who) ++ marks_for name who row.sent
    marks_after name who =
        ap (map (mark name)) (after who)
        ∙ (map-append (mark name) (drop (taken who row) (rest (system_of as_nodes words scenario) rows who)) (mail_for (system_of as_nodes words scenario) who row.sent)
        ∙ ap (λ l. l ++ marks_for name who row.sent) (sym (drop-map (mark name) (taken who row) (rest (system_of as_nodes words scenario) rows who))))

    -- the marks of who does not act
    pub marks_others : (name : Draw) (who : ℕ) → (who ≡ row.who → ⊥) → marks_at words scenario (rows ++ row ∷ []) name who ≡ marks_at words scenario rows name who ++ marks_for name who row.sent
    marks_others name who ne =
        marks_after name who
        ∙ ap (λ l. l ++ marks_for name who row.sent)
        (ap (λ b. drop (cond (b && is_delivery row.event) 1 0) (marks_at words scenario rows name who)) (ne_eqb row.who who (λ e. ne (sym e))) ∙ at_zero (marks_at words scenario rows name who))

    -- the marks of who acts
    pub marks_own : (name : Draw) → marks_at words scenario (rows ++ row ∷ []) name row.who ≡ drop (cond (is_delivery row.event) 1 0) (marks_at words scenario rows name row.who) ++ marks_for name row.who row.sent
    marks_own name =
        marks_after name row.who
        ∙ ap (λ b. drop (cond (b && is_delivery row.event) 1 0) (marks_at words scenario rows name row.who) ++ marks_for name row.who row.sent) (eq-eqb row.who row.who refl)

    -- what stands between is kept by a row, by what it does in the group
    pub between_after : (frame : Frame) (now next : ℕ) (taken_mark : Mark) → IsTaken taken_mark (marks_at words scenario rows frame.core.id row.who) (drop (cond (is_delivery row.event) 1 0) (marks_at words scenario rows frame.core.id row.who))
        → IsBetween frame (view_at scenario rows frame now) (marks_at words scenario rows frame.core.id)
        → Moves frame (view_at scenario rows frame now) (view_at scenario (rows ++ row ∷ []) frame next) row.who taken_mark (λ who. marks_for frame.core.id who row.sent)
        → IsBetween frame (view_at scenario (rows ++ row ∷ []) frame next) (marks_at words scenario (rows ++ row ∷ []) frame.core.id)
    between_after frame now next taken_mark takes was moves =
        between-row frame (view_at scenario rows frame now) (view_at scenario (rows ++ row ∷ []) frame next) row.who taken_mark (λ who. marks_for frame.core.id who row.sent) (marks_at words scenario rows frame.core.id) (marks_at words scenario (rows ++ row ∷ []) frame.core.id)
        (drop (cond (is_delivery row.event) 1 0) (marks_at words scenario rows frame.core.id row.who)) was takes (marks_own frame.core.id) (λ who ne. marks_others frame.core.id who ne) moves

  -- ---- replicas

  -- the replicas of a node that does not act stay
  pub replica_others : (rows : Journal) (row : Row Mail OrderLine) (name : Draw) (node : ℕ) → (node ≡ row.who → ⊥) → replica_at scenario (rows ++ row ∷ []) name node ≡ replica_at scenario rows name node
  replica_others rows row name node ne =
      ap (λ (p : Player). cond (is_node node) (replica_of name (replicas_of p)) None)
      (value-snoc player_table (node_seat as_nodes scenario.groups scenario.policy node) rows row
      ∙ ap (λ b. cond b (acted player_table (value player_table (node_seat as_nodes scenario.groups scenario.policy node) rows) (input_of (mails rows) row.event)).0 (value player_table (node_seat as_nodes scenario.groups scenario.policy node) rows)) (ne_eqb row.who node (λ e. ne (sym e))))

  -- who is no node has none
  pub replica_none : (rows : Journal) (name : Draw) (who : ℕ) → is_node who ≡ false → replica_at scenario rows name who ≡ None
  replica_none rows name who e = cond-false (is_node who) (replica_of name (replicas_of (value player_table (node_seat as_nodes scenario.groups scenario.policy who) rows))) None e

  -- the replica of a node is that of its value
  pub replica_is : (rows : Journal) (name : Draw) (node : ℕ) (player : Player) → is_node node ≡ true → value player_table (node_seat as_nodes scenario.groups scenario.policy node) rows ≡ player → replica_at scenario rows name node ≡ replica_of name (replicas_of player)
  replica_is rows name node player e v =
      cond-true (is_node node) (replica_of name (replicas_of (value player_table (node_seat as_nodes scenario.groups scenario.policy node) rows))) None e ∙ ap (λ (p : Player). replica_of name (replicas_of p)) v

  -- where the node that acts is the same, so are all replicas
  pub same_replicas : (rows : Journal) (me : ℕ) (event : Event OrderLine) (player : Player) → is_node me ≡ true → value player_table (node_seat as_nodes scenario.groups scenario.policy me) rows ≡ player
      → value player_table (node_seat as_nodes scenario.groups scenario.policy me) (rows ++ row_of player_table (node_seat as_nodes scenario.groups scenario.policy me) rows event ∷ []) ≡ player → (name : Draw) (node : ℕ)
      → replica_at scenario (rows ++ row_of player_table (node_seat as_nodes scenario.groups scenario.policy me) rows event ∷ []) name node ≡ replica_at scenario rows name node
  same_replicas rows me event player number_is was same name node =
      let r = row_of player_table (node_seat as_nodes scenario.groups scenario.policy me) rows event in
      elim (cases_eq node me) [
        | inl here ↦ ap (replica_at scenario (rows ++ r ∷ []) name) here
            ∙ (replica_is (rows ++ r ∷ []) name me player number_is same ∙ (sym (replica_is rows name me player number_is was) ∙ ap (replica_at scenario rows name) (sym here)))
        | inr ne ↦ replica_others rows r name node ne
      ]

-- a player is one client
pub client_is : {x y : ClientState} → ◌≡◌ {A = Player} (Client x) (Client y) → x ≡ y
client_is e = cc

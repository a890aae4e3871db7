-- The names that a node has drawn, by its counter.
use Rattle.std.specs.List.{AllPairs}
use Rattle.std.proofs.Common.{◌≡◌, ℕ, ◌≤◌, nat_le, Bool, List, [], ◌∷◌, ◌++◌, false, eqb, length, Option, Some, None, inl, inr, refl, sym, ◌∙◌, ap, subst, append_assoc, append-nil, arith}
use Rattle.std.specs.Prelude.{is_some, nat_lt, ◌||◌, not}
use Rattle.std.specs.Option.{option_map}
use Rattle.std.proofs.lemmas.Bool.{cases_Bool, cond-true, cond-false, cond_both, eqb-true, eqb-false, eq-eqb, leb-true, le-leb, and_from, and_parts, cases_lt}
use Rattle.sc_base.specs.Definitions.{Among, Drawer}
use Rattle.sc_node_table.specs.Values.{Draw, Base, OrderLine, Mail, MailBody, Install, Seat, Row, Event, Deliver, Tick, Got, Node as ANode}
use Rattle.sc_actor.specs.declared.rows.Event.TheVariants.{Told}
use Rattle.sc_actor.specs.Definitions.{mails, numbered, value, acted, input_of}
use Rattle.sc_actor.proofs.Lemmas.{value-snoc}
use Rattle.sc_node_table.specs.NodeDefinitions.{NodeState, replica_of, with_replica, with_new, group_of_mail, with_made, unknown, may_come, with_born, with_children, taken_by, routed, on_mail, group_of_order, ordered_of, on_order, on_tick, names_after_ticks, born_node, names_after_tick, ReplicaState, born_replica, last_slot, either, made_by, mailed, slots_ahead}
use Rattle.sc_meaning.specs.sound.SoundDefinitions.{Ahead, node_seat, player_table, Player}
use Rattle.sc_scenario.specs.declared.scenario.scenarios.Scenario.{Scenario}
use Rattle.sc_law_entries.specs.names.NameDefinitions.{Rows, Owned, owned_by, drawn_for, waited, wished_at, drawn_wishing, drawn_ticking, names_drawn, is_node_of, drawn_at, owner_by, owner_in, HasNames, NodesHaveNames, DrawnNamesAreOwned, RowsDrawOnce, OwnedNamesAreOfNodes, OtherNamesAreFree}
use Rattle.sc_law_entries.proofs.NamesProofs.Drawn.{Draws, Differ, draws_both, draws_up, drawn_between, drawn_not_past, drawn_from, drawn_once, line_draws, tick_draws}
use Rattle.sc_law_entries.proofs.NamesProofs.Owned.{owner_was_drawn, owner-push, owned_later, drawn_in}

-- ---- mail draws nothing

born_draws : (child : Base) (node : NodeState) → (with_born child node).draws ≡ node.draws
born_draws child node =
    cond_both (is_some (replica_of child.core.id node.replicas)) node (record node { replicas = with_new (born_replica slots_ahead node.me child) node.replicas }) (λ (x : NodeState). x.draws ≡ node.draws) (λ _. refl) (λ _. refl)

children_draws : (children : List Base) (node : NodeState) → (with_children children node).draws ≡ node.draws
unfolding with_children
children_draws [] node = refl
children_draws (child ∷ children) node = children_draws children (with_born child node) ∙ born_draws child node

unknown_draws : (from : ℕ) (body : MailBody) (node : NodeState) → (unknown from body node).0.draws ≡ node.draws
unknown_draws from (Install group slot base sets) node =
    cond_both (not (eqb (length sets) slots_ahead) || nat_lt last_slot slot) (node, []) (with_made (made_by node.me from group slot base sets) node) (λ (x : NodeState × List Mail). x.0.draws ≡ node.draws) (λ _. refl) (λ _. refl)
unknown_draws from _ node = refl

taken_draws : (o : Option ReplicaState) (group : Draw) (from : ℕ) (body : MailBody) (node : NodeState) → (taken_by o group from body node).0.draws ≡ node.draws
taken_draws None group from body node = unknown_draws from body node
taken_draws (Some r) group from body node =
    children_draws (mailed from body (r, [])).1 (record node { replicas = with_replica group (mailed from body (r, [])).0.0 node.replicas })

routed_draws : (o : Option Draw) (from : ℕ) (body : MailBody) (node : NodeState) → (routed o from body node).0.draws ≡ node.draws
routed_draws None from body node = refl
routed_draws (Some group) from body node = taken_draws (replica_of group node.replicas) group from body node

mail_draws : (from : ℕ) (body : MailBody) (node : NodeState) → (on_mail from body node).0.draws ≡ node.draws
mail_draws from body node =
    cond_both (may_come from body) (routed (group_of_mail body) from body node) (node, []) (λ (x : NodeState × List Mail). x.0.draws ≡ node.draws) (λ _. routed_draws (group_of_mail body) from body node) (λ _. refl)

-- ---- an event draws the next names

-- the replicas' names are drawn one after another
ticks_draw : (on : Bool) (drawer : Drawer) (replicas : List ReplicaState) → Draws drawer (names_after_ticks on drawer replicas) (drawn_ticking on drawer replicas)
unfolding names_after_ticks
ticks_draw on drawer [] = refl
ticks_draw on drawer (r ∷ replicas) =
    draws_both drawer (names_after_tick on drawer r) (names_after_ticks on (names_after_tick on drawer r) replicas) (drawn_wishing drawer (wished_at on r) (waited r)) (drawn_ticking on (names_after_tick on drawer r) replicas)
    (tick_draws on drawer r) (ticks_draw on (names_after_tick on drawer r) replicas)

order_draws : (line : OrderLine) (node : NodeState) (o : Option ReplicaState) → Draws node.draws (ordered_of o line node).0.draws (drawn_for node.draws line o)
order_draws line node None = refl
order_draws line node (Some r) = line_draws node.draws line r

-- a node after an event of its own, and what it drew
pub record Acts (sent : List Mail) (event : Event OrderLine) (old : NodeState) : Type 0 where
  pub node : NodeState
  pub value_is : (acted player_table (ANode old) (input_of sent event)).0 ≡ ANode node
  pub draws : Draws old.draws node.draws (names_drawn (ANode old) event)

got : (sent : List Mail) (number : ℕ) (old : NodeState) (o : Option Mail) → numbered sent number ≡ o → Acts sent (Deliver number) old
got sent number old None e = record { node = old; value_is = ap (λ p. (acted player_table (ANode old) (option_map Got p)).0) e; draws = refl }
got sent number old (Some mail) e = record {
  node = (on_mail mail.from mail.body old).0;
  value_is = ap (λ p. (acted player_table (ANode old) (option_map Got p)).0) e;
  draws = mail_draws mail.from mail.body old;
}

pub acts : (sent : List Mail) (event : Event OrderLine) (old : NodeState) → Acts sent event old
acts sent (Deliver number) old = got sent number old (numbered sent number) refl
acts sent Tick old = record { node = (on_tick old).0; value_is = refl; draws = ticks_draw old.policy old.draws old.replicas }
acts sent (Told line) old = record { node = (on_order line old).0; value_is = refl; draws = order_draws line old (replica_of (group_of_order line.order) old.replicas) }
acts sent _ old = record { node = old; value_is = refl; draws = refl }

-- ---- all rows

module _ (ahead : Ahead) (scenario : Scenario) where
  abbrev nseat : ℕ → Seat Player
  nseat n = node_seat ahead scenario.groups scenario.policy n

  abbrev owner : Rows → Draw → Option Draw
  owner rows name = owner_in ahead scenario rows name

  -- a node of the scenario, whose names are drawn so far
  pub record Stands (rows : Rows) (n : ℕ) : Type 0 where
    pub node : NodeState
    pub value_is : value player_table (nseat n) rows ≡ ANode node
    pub names : HasNames ahead scenario rows n node

  first_stands : (n : ℕ) → Stands [] n
  first_stands n = record {
    node = born_node ahead.slots n scenario.groups scenario.policy;
    value_is = refl;
    names = record { number = refl; drawn = λ name of some below. absurd (omega (arith, some, below)); left = λ name of above. refl };
  }

  module _ (rows : Rows) (row : Row Mail OrderLine) (all : (n : ℕ) → 1 ≤ n → n ≤ scenario.nodes → Stands rows n) where
    abbrev next : Rows
    next = rows ++ row ∷ []

    abbrev drawn : List Owned
    drawn = drawn_at ahead scenario rows row

    -- who owns a name that had no owner
    one_more : (name : Draw) (o : Option Draw) → owner_by drawn name ≡ o → owner rows name ≡ None → owner next name ≡ o
    one_more name o here old = owner-push ahead scenario rows row name ∙ ap (λ (p : Option Draw). either p (owner_by drawn name)) old ∙ here

    some_more : (name group : Draw) → owner rows name ≡ Some group → owner next name ≡ Some group
    some_more name group old = owned_later ahead scenario rows (row ∷ []) name group old

    -- what a node of the scenario has after this row
    module _ (n : ℕ) (low : 1 ≤ n) (high : n ≤ scenario.nodes) (who_is : row.who ≡ n) where
      abbrev st : Stands rows n
      st = all n low high

      abbrev act : Acts (mails rows) row.event st.node
      act = acts (mails rows) row.event st.node

      pub drawn_is : drawn ≡ names_drawn (ANode st.node) row.event
      drawn_is =
          cond-true (is_node_of scenario row.who) (names_drawn (value player_table (nseat row.who) rows) row.event) []
          (and_from (nat_le 1 row.who) (nat_le row.who scenario.nodes) (le-leb 1 row.who (omega (arith, low, who_is))) (le-leb row.who scenario.nodes (omega (arith, high, who_is))))
          ∙ ap (λ (p : Player). names_drawn p row.event) (ap (λ (w : ℕ). value player_table (nseat w) rows) who_is ∙ st.value_is)

      act_value : value player_table (nseat n) next ≡ ANode act.node
      act_value =
          value-snoc player_table (nseat n) rows row
          ∙ cond-true (eqb row.who n) (acted player_table (value player_table (nseat n) rows) (input_of (mails rows) row.event)).0 (value player_table (nseat n) rows) (eq-eqb row.who n who_is)
          ∙ ap (λ p. (acted player_table p (input_of (mails rows) row.event)).0) st.value_is ∙ act.value_is

      draws : Draws st.node.draws act.node.draws drawn
      draws = subst (Draws st.node.draws act.node.draws) (sym drawn_is) act.draws

      stands_own : Stands next n
      stands_own =
          let up = draws_up st.node.draws act.node.draws drawn draws in
          let names = st.names in
          record {
            node = act.node;
            value_is = act_value;
            names = record {
              number = sym up.0 ∙ names.number;
              drawn = λ name of some below. elim (cases_lt name.count st.node.draws.next) [
                | inl less ↦ (let o = names.drawn name of some less in (o.0, some_more name o.0 o.1))
                | inr more ↦ (let o = drawn_between st.node.draws act.node.draws drawn draws name (of ∙ sym names.number) more below in (o.0, one_more name (Some o.0) o.1 (names.left name of more)))
              ];
              left = λ name of above. one_more name None (drawn_not_past st.node.draws act.node.draws drawn draws name above) (names.left name of (omega (arith, above, up.1)));
            };
          }

    -- what a row draws is a name of its own node, which had no owner
    pub record DrawsFresh (owned : Owned) : Type 0 where
      pub low : 1 ≤ row.who
      pub high : row.who ≤ scenario.nodes
      pub of : owned.name.node ≡ row.who
      pub fresh : owner rows owned.name ≡ None
      pub own : owner_by drawn owned.name ≡ Some owned.group

    drawn_fresh_of : (owned : Owned) → Among owned drawn → 1 ≤ row.who → row.who ≤ scenario.nodes → DrawsFresh owned
    drawn_fresh_of owned a low high =
        let here : Stands rows row.who = st row.who low high refl in
        let one = drawn_from here.node.draws (act row.who low high refl).node.draws drawn (draws row.who low high refl) owned a in
        let of_it : owned.name.node ≡ row.who = one.of ∙ here.names.number in
        record { low = low; high = high; of = of_it; fresh = here.names.left owned.name of_it one.from; own = one.own }

    pub drawn_fresh : (owned : Owned) → Among owned drawn → DrawsFresh owned
    drawn_fresh owned a = elim (cases_Bool (is_node_of scenario row.who)) [
      | inl t ↦ (let parts = and_parts (nat_le 1 row.who) (nat_le row.who scenario.nodes) t in
          drawn_fresh_of owned a (leb-true 1 row.who parts.0) (leb-true row.who scenario.nodes parts.1))
      | inr f ↦ absurd (subst (Among owned) (cond-false (is_node_of scenario row.who) (names_drawn (value player_table (nseat row.who) rows) row.event) [] f) a)
    ]

    -- a row of another leaves a node's names as they are
    other_draws : (n : ℕ) → (row.who ≡ n → ⊥) → (name : Draw) → name.node ≡ n → (o : Option Draw) → owner_by drawn name ≡ o → o ≡ None
    other_draws n apart name of None e = refl
    other_draws n apart name of (Some group) e = (let fresh = drawn_fresh (owned_by name group) (owner_was_drawn drawn name group e) in absurd (apart (sym fresh.of ∙ of)))

    no_draws : (n : ℕ) → (row.who ≡ n → ⊥) → (name : Draw) → name.node ≡ n → owner_by drawn name ≡ None
    no_draws n apart name of = other_draws n apart name of (owner_by drawn name) refl

    stands_other : (n : ℕ) → (low : 1 ≤ n) → (high : n ≤ scenario.nodes) → eqb row.who n ≡ false → Stands next n
    stands_other n low high f =
        let here : Stands rows n = all n low high in
        record {
          node = here.node;
          value_is = value-snoc player_table (nseat n) rows row
              ∙ cond-false (eqb row.who n) (acted player_table (value player_table (nseat n) rows) (input_of (mails rows) row.event)).0 (value player_table (nseat n) rows) f ∙ here.value_is;
          names = record {
            number = here.names.number;
            drawn = λ name of some below. (let o = here.names.drawn name of some below in (o.0, some_more name o.0 o.1));
            left = λ name of above. one_more name None (no_draws n (eqb-false row.who n f) name of) (here.names.left name of above);
          };
        }

    pub stands_push : (n : ℕ) → 1 ≤ n → n ≤ scenario.nodes → Stands next n
    stands_push n low high = elim (cases_Bool (eqb row.who n)) [ inl t ↦ stands_own n low high (eqb-true row.who n t) | inr f ↦ stands_other n low high f ]

  from_stands : (before rows : Rows) → ((n : ℕ) → 1 ≤ n → n ≤ scenario.nodes → Stands before n) → (n : ℕ) → 1 ≤ n → n ≤ scenario.nodes → Stands (before ++ rows) n
  from_stands before [] all n low high = subst (λ (xs : Rows). Stands xs n) (sym (append-nil before)) (all n low high)
  from_stands before (row ∷ rows) all n low high =
      subst (λ (xs : Rows). Stands xs n) (append_assoc before (row ∷ []) rows) (from_stands (before ++ row ∷ []) rows (stands_push before row all) n low high)

  -- each node of the scenario, after any rows
  pub all_stand : (rows : Rows) (n : ℕ) → 1 ≤ n → n ≤ scenario.nodes → Stands rows n
  all_stand rows n low high = from_stands [] rows (λ m a b. first_stands m) n low high

  -- what a row draws is fresh
  pub fresh_at : (before : Rows) (row : Row Mail OrderLine) (owned : Owned) → Among owned (drawn_at ahead scenario before row) → DrawsFresh before row (all_stand before) owned
  fresh_at before row owned e = drawn_fresh before row (all_stand before) owned e

-- ---- the laws

same_node : (a b : NodeState) → (let p : Player = ANode a in p) ≡ ANode b → a ≡ b
same_node a b e = cc

pub nodes_have_names : NodesHaveNames
nodes_have_names ahead scenario rows n low high node e =
    let here = all_stand ahead scenario rows n low high in
    subst (λ (x : NodeState). HasNames ahead scenario rows n x) (same_node here.node node (sym here.value_is ∙ e)) here.names

pub drawn_are_owned : DrawnNamesAreOwned
drawn_are_owned ahead scenario before row later owned e =
    let fresh = fresh_at ahead scenario before row owned e in
    let now : owner_in ahead scenario (before ++ row ∷ []) owned.name ≡ Some owned.group =
    owner-push ahead scenario before row owned.name ∙ ap (λ (o : Option Draw). either o (owner_by (drawn_at ahead scenario before row) owned.name)) fresh.fresh
    ∙ fresh.own in
    (fresh.fresh, subst (λ (xs : Rows). owner_in ahead scenario xs owned.name ≡ Some owned.group) (append_assoc before (row ∷ []) later) (owned_later ahead scenario (before ++ row ∷ []) later owned.name owned.group now))

pub owned_are_of_nodes : OwnedNamesAreOfNodes
owned_are_of_nodes ahead scenario rows name group e =
    let drawn = drawn_in ahead scenario [] rows name group e in
    let fresh = fresh_at ahead scenario drawn.before drawn.row (owned_by name group) drawn.drawn in
    let of : name.node ≡ drawn.row.who = fresh.of in
    (omega (arith, of, fresh.low), omega (arith, of, fresh.high))

free_by : (ahead : Ahead) (scenario : Scenario) (rows : Rows) (name : Draw) → name.node ≡ 0 → (o : Option Draw) → owner_in ahead scenario rows name ≡ o → o ≡ None
free_by ahead scenario rows name none None e = refl
free_by ahead scenario rows name none (Some group) e = (let of = owned_are_of_nodes ahead scenario rows name group e in let low = of.0 in absurd (omega (arith, none, low)))

pub others_are_free : OtherNamesAreFree
others_are_free ahead scenario rows name none = free_by ahead scenario rows name none (owner_in ahead scenario rows name) refl

pub rows_draw_once : RowsDrawOnce
rows_draw_once ahead scenario before row = elim (cases_Bool (is_node_of scenario row.who)) [
  | inl t ↦ (let parts = and_parts (nat_le 1 row.who) (nat_le row.who scenario.nodes) t in
      let low : 1 ≤ row.who = leb-true 1 row.who parts.0 in
      let high : row.who ≤ scenario.nodes = leb-true row.who scenario.nodes parts.1 in
      let all = all_stand ahead scenario before in
      drawn_once (all row.who low high).node.draws (act ahead scenario before row all row.who low high refl).node.draws (drawn_at ahead scenario before row) (draws ahead scenario before row all row.who low high refl))
  | inr f ↦ subst (AllPairs Differ) (sym (cond-false (is_node_of scenario row.who) (names_drawn (value player_table (node_seat ahead scenario.groups scenario.policy row.who) before) row.event) [] f)) (λ i j d lt within. absurd (omega (arith, within)))
]

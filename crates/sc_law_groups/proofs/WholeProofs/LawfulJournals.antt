-- Every lawful journal decides in turn, row by row, whatever its groups order; and one value per slot, executed prefixes, issued calls and decided replies hold beside.
use Rattle.std.proofs.Common.{◌≡◌, ℕ, ◌+◌, ◌≤◌, ◌||◌, not, Bool, cond, List, [], ◌∷◌, ◌++◌, length, Some, None, refl, sym, ◌∙◌, subst, append_assoc, append-nil}
use Rattle.std.specs.Prelude.{is_some, slice_get}
use Rattle.std.proofs.lemmas.Bool.{cond-false}
use Rattle.sc_base.specs.Definitions.{Among, Drawer, next_name, is_member}
use Rattle.sc_node_table.specs.Values.{Draw, Op, Reply, Call, Base, Route, Order, OrderLine, Mail, Event, Tick, Row, Node as ANode}
use Rattle.sc_words.specs.declared.commands.orders.Order.TheVariants as An
use Rattle.sc_actor.specs.declared.rows.Event.TheVariants.{Told}
use Rattle.sc_actor.specs.Definitions.{IsStep, value, place_after}
use Rattle.sc_actor.proofs.Lemmas.{MayAdd-step, lawful-induction, lawful-prefix, lawful-last}
use Rattle.sc_node_table.specs.NodeDefinitions.{NodeState, names_after_ticks, ordered_command, wished_line, names_after_tick, ReplicaState, name_of, members, settled}
use Rattle.sc_words.proofs.PaxosProofs.PaxosLemmas.{Each-among}
use Rattle.sc_meaning.specs.sound.SoundDefinitions.{Ahead, Lawful, node_seat, player_table, system_of, schedule, AreNamedApart, groups_at, kept_replies, HasRun, AllHaveRun}
use Rattle.sc_scenario.specs.declared.scenario.scenarios.Asks.{Asks}
use Rattle.sc_scenario.specs.declared.scenario.scenarios.Scenario.{Scenario}
use Rattle.sc_law_entries.specs.ring.RingDefinitions.{Sources, IsAllowed, BeginInPlace}
use Rattle.sc_law_entries.specs.logs.LogDefinitions.{HasOneValue, IsIssuedIn, IsDecidedBefore, HoldsBeside, Rows, added_by}
use Rattle.sc_law_entries.specs.names.NameDefinitions.{waited, wished_at}
use Rattle.sc_law_groups.proofs.GroupProofs.GroupLemmas.{at_start, h_of, held, IsOneOf, IsNode, one_value, is_log, longest, executed_is, MayGiveOrder, MayTick}
use Rattle.sc_law_groups.specs.whole.WholeDefinitions.{OrdersAreAllowed, stories_at, IsIssuedCall, MayQueue, IsHeardAt, IsFresh, HasSeats, AsksAre}
use Rattle.sc_law_groups.proofs.WholeProofs.Replies.{decided_before, replies_are_decided}
use Rattle.sc_law_groups.proofs.WholeProofs.JournalsInTurn.{Holds, players, issued_now, told_now, holds_next}

-- each step of the system that may come next keeps what holds of a journal
abbrev pub StepsKeep : Ahead → (ℕ → ℕ → ℕ × ℕ) → Scenario → (Rows → Type 0) → Type 0
StepsKeep ahead words scenario P = (rows : Rows) (row : Row Mail OrderLine) → P rows → IsStep (system_of ahead words scenario) rows row → P (rows ++ row ∷ [])

-- what an order queues is no call
no_call : (scenario : Scenario) (rows : Rows) (name : Draw) (number : ℕ) (order : Order) → IsIssuedCall scenario rows (ordered_command name number order)
no_call scenario rows name number (An.Join node group) = tt
no_call scenario rows name number _ = tt

-- the names that are left after one replica more
names_push : (on : Bool) (drawer : Drawer) (older : List ReplicaState) (r : ReplicaState) → names_after_ticks on drawer (older ++ r ∷ []) ≡ names_after_tick on (names_after_ticks on drawer older) r
unfolding names_after_ticks
names_push on drawer [] r = refl
names_push on drawer (s ∷ older) r = names_push on (names_after_tick on drawer s) older r

module _ (sources : Sources) (ahead : Ahead) (words : ℕ → ℕ → ℕ × ℕ) (scenario : Scenario) (route : Route) (start : BeginInPlace sources scenario.groups) (seats : HasSeats ahead scenario route) (asks_are : AsksAre sources scenario)
    (names : AreNamedApart scenario.groups) (fresh : (b : Base) → Among b scenario.groups → IsFresh b) where
  abbrev All : Rows → Type 0
  All rows = Holds sources ahead words scenario route start seats asks_are rows

  abbrev bases : Rows → List Base
  bases rows = groups_at ahead scenario.groups rows

  -- before any row
  pub holds_first : All []
  holds_first = record { kept = at_start ahead scenario scenario.groups route (MayQueue sources ahead scenario) (IsHeardAt sources ahead scenario) names; turn = tt; fresh = fresh }

  -- what policies may queue at a tick
  may_tick : (all before : Rows) (row : Row Mail OrderLine) (later : Rows) → all ≡ before ++ row ∷ later → OrdersAreAllowed sources ahead scenario all → row.event ≡ Tick → 1 ≤ row.who → row.who ≤ scenario.nodes
      → (node : NodeState) → value player_table (node_seat ahead scenario.groups scenario.policy row.who) before ≡ ANode node → (older rs : List ReplicaState) → node.replicas ≡ older ++ rs
      → MayTick (bases before) (MayQueue sources ahead scenario before) node.policy (names_after_ticks node.policy node.draws older) rs
  may_tick all before row later are orders e low high node fact older [] all_are = tt
  may_tick all before row later are orders e low high node fact older (r ∷ rs) all_are = (
    λ b a into here leads line wished taken. (
        let name = next_name (names_after_ticks node.policy node.draws older) in
        let orders_it : wished_at node.policy r ≡ Some line = cond-false (is_some r.group.core.gone || not (is_member (members r) r.me)) None (cond (not (settled r)) None (wished_line node.policy (waited r))) here
        ∙ cond-false (not (settled r)) None (wished_line node.policy (waited r)) leads ∙ wished in (
          subst (λ n. IsAllowed sources (stories_at ahead scenario.groups before) n (ordered_command name line.number line.order)) into
              (orders.wished before row later are e low high node fact older rs r all_are line orders_it taken (stories_at ahead scenario.groups before)),
          no_call scenario before name line.number line.order,
        )),
    subst (λ (d : Drawer). MayTick (bases before) (MayQueue sources ahead scenario before) node.policy d rs) (names_push node.policy node.draws older r)
        (may_tick all before row later are orders e low high node fact (older ++ r ∷ []) rs (all_are ∙ sym (append_assoc older (r ∷ []) rs))),
  )

  -- what an order may queue
  may_tell : (all before : Rows) (row : Row Mail OrderLine) (later : Rows) → all ≡ before ++ row ∷ later → OrdersAreAllowed sources ahead scenario all → (h : All before) → (event : Event OrderLine) → row.event ≡ event
      → MayGiveOrder ahead words scenario scenario.groups (bases before) route (MayQueue sources ahead scenario) (IsHeardAt sources ahead scenario) (players sources ahead words scenario route start seats asks_are before h) before row.who event
  unfolding names_after_ticks
  may_tell all before row later are orders h (Told line) e = λ low high node fact b a into r found taken. (
    subst (λ n. IsAllowed sources (stories_at ahead scenario.groups before) n (ordered_command (next_name node.draws) line.number line.order)) into
        (orders.told before row later are line e low high node fact r found taken (stories_at ahead scenario.groups before)),
    no_call scenario before (next_name node.draws) line.number line.order,
  )
  may_tell all before row later are orders h Tick e = λ low high node fact. may_tick all before row later are orders e low high node fact [] node.replicas refl
  may_tell all before row later are orders h _ e = tt

  -- ---- beside, where all holds

  module _ (rows : Rows) (h : All rows) where
    -- a node's replicas have executed prefixes
    node_has_run : (n : ℕ) (node : NodeState) → IsNode ahead (bases rows) (MayQueue sources ahead scenario rows) (h_of rows) n node → (r : ReplicaState) → Among r node.replicas
        → (b : Base) × Among b (bases rows) × (b.core.id ≡ name_of r) × HasRun ahead b rows r
    node_has_run n node at r a =
        let (b, among, named) = Each-among (λ s. IsOneOf (bases rows) (name_of s)) node.replicas r at.known a in
        let replica = held ahead b (MayQueue sources ahead scenario rows b) n (h_of rows b) node.replicas (at.holds b among) r a named in
        (b, among, sym named, executed_is ahead b rows (h.kept.parts b among).lawful (MayQueue sources ahead scenario rows b) n r replica)

    -- so have those of all nodes
    have_run : AllHaveRun ahead scenario rows
    have_run n low high node fact r a =
        let at = h.kept.nodes n low high in
        let found : ANode at.node ≡ ANode node = sym at.value_is ∙ fact in
        let same : at.node ≡ node = cc in
        node_has_run n node (subst (IsNode ahead (bases rows) (MayQueue sources ahead scenario rows) (h_of rows) n) same at.fact) r a

    -- each slot of a group has one value
    values : (b : Base) → Among b (bases rows) → HasOneValue ahead b rows
    values b a = (let lawful = (h.kept.parts b a).lawful in record { one_value = one_value ahead b rows lawful; is_log = is_log ahead b rows lawful; longest = longest ahead b rows lawful })

  -- ---- row by row

  module _ (all : Rows) (orders : OrdersAreAllowed sources ahead scenario all) where
    -- what holds of each prefix of the journal
    abbrev P : Rows → Type 0
    P rows = (more : Rows) → all ≡ rows ++ more → All rows

    -- one row more keeps it
    keeps : StepsKeep ahead words scenario P
    keeps rows row p step more e =
        let are : all ≡ rows ++ row ∷ more = e ∙ append_assoc rows (row ∷ []) more in
        let h = p (row ∷ more) are in
        holds_next sources ahead words scenario route start seats asks_are rows h row (may_tell all rows row more are orders h row.event refl) step

    module _ (lawful : Lawful ahead words scenario all) where
      -- its prefixes are lawful
      first_lawful : (rows more : Rows) → all ≡ rows ++ more → Lawful ahead words scenario rows
      first_lawful rows more e = lawful-prefix (system_of ahead words scenario) (schedule scenario) rows more (subst (Lawful ahead words scenario) e lawful)

      -- so all holds of each
      holds_at : (rows more : Rows) → all ≡ rows ++ more → All rows
      holds_at rows more e = lawful-induction (system_of ahead words scenario) P keeps (schedule scenario) rows (λ rest fact. holds_first) (first_lawful rows more e) more e

      -- and of the whole
      pub holds : All all
      holds = holds_at all [] (sym (append-nil all))

      module _ (before : Rows) (row : Row Mail OrderLine) (later : Rows) (are : all ≡ before ++ row ∷ later) where
        -- all holds before a row
        here : All before
        here = holds_at before (row ∷ later) are

        -- the row is a step
        step : IsStep (system_of ahead words scenario) before row
        step =
            let first = first_lawful (before ++ row ∷ []) later (are ∙ sym (append_assoc before (row ∷ []) later)) in
            MayAdd-step (system_of ahead words scenario) before (place_after (system_of ahead words scenario) (schedule scenario) before).tasks row
            (lawful-last (system_of ahead words scenario) (schedule scenario) before row first)

        -- each call that it decides was issued
        issued_here : (b : Base) → Among b (bases before) → (client seq : ℕ) (op : Op) → Among (Call client seq op) (added_by ahead before row b) → IsIssuedIn scenario before client seq op
        issued_here =
            issued_now sources ahead words scenario route start seats asks_are before here row (may_tell all before row later are orders here row.event refl) step

        -- each reply that a client keeps after it was decided
        told_here : (asks : Asks) → Among asks scenario.clients → (place : ℕ) (reply : Reply) → slice_get (kept_replies route asks (before ++ row ∷ [])) place ≡ Some reply
            → IsDecidedBefore ahead scenario.groups all asks.client (place + 1) reply (length before + 1)
        told_here asks stands place reply at =
            decided_before ahead scenario all before row later are (λ b a. (here.kept.parts b a).lawful) asks.client (place + 1) reply
            (told_now sources ahead words scenario route start seats asks_are before here row (may_tell all before row later are orders here row.event refl) step asks stands place reply at)

      -- what makes the journal sound beside its groups and entries
      pub beside : HoldsBeside ahead scenario all
      beside = record {
        values = values all holds;
        have_run = have_run all holds;
        issued = issued_here;
        replies = replies_are_decided ahead scenario route all seats told_here;
      }

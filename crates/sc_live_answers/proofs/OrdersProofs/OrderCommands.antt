-- An order given in quiet becomes the one command that stands at its group.
use Rattle.std.proofs.Common.{◌≡◌, ℕ, ◌+◌, ◌≤◌, ◌||◌, not, nat_le, eqb, Bool, true, false, cond, List, [], ◌∷◌, ◌++◌, length, Option, Some, None, refl, sym, ◌∙◌, ap, subst}
use Rattle.std.specs.Prelude.{is_some}
use Rattle.std.specs.List.{list_any}
use Rattle.std.proofs.lemmas.Bool.{le-leb, and_from, and_parts}
use Rattle.sc_base.specs.Definitions.{Each, Drawer, next_name}
use Rattle.sc_node_table.specs.Values.{Draw, Command, Core, Free, Order, OrderLine, OrderRefusal, Refused, AnswerBody, Mail, Told, Must}
use Rattle.sc_words.specs.declared.commands.orders.Order.TheVariants as An
use Rattle.sc_words.specs.declared.commands.orders.OrderRefusal.TheVariants.{NotLeader}
use Rattle.sc_node_table.specs.NodeDefinitions.{answered, group_of_order, ordered_command, untaken, queued_or_refused, ordered_row, Found, is_act, waits, turned_down, next_queued, from_backlog, from_acts, from_queues, found_by, found_for, offered, pumped_from, pumped, ReplicaState, Place, name_of, next, settled, may_offer, first_set, taken_at, under_way, is_idle, open_slots, last_slot, slots_ahead}
use Rattle.sc_live_steps.specs.calm.CalmDefinitions.{IsAtRest}
use Rattle.sc_live_answers.specs.AnswerDefinitions.{is_split}
use Rattle.sc_live_answers.proofs.WorkProofs.Affairs.{Affair, BeginsFree}
use Rattle.sc_live_answers.proofs.WorkProofs.WorkMail.{one_sent}
use Rattle.sc_live_answers.proofs.WorkProofs.AffairParts.{Held, Fine, must_open, slot_offered, from_pumps}
use Rattle.sc_live_answers.proofs.WorkProofs.OrderTasks.{affair_of, begins_free}
use Rattle.sc_live_steps.proofs.PumpProofs.PumpLemmas.{none_at as free_at, none_from as none_taken}

-- its command stands at its group
pub order_does : (name : Draw) (number : ℕ) (order : Order) → (affair_of number (is_split order) (group_of_order order) name).Does (group_of_order order) (ordered_command name number order)
order_does name number (An.Split group at) = ((refl, refl), refl)
order_does name number _ = (tt, refl)

-- it waits for nothing where nothing is under way, and is not turned down
order_goes : (name : Draw) (number : ℕ) (order : Order) (core : Core) → (waits true Free (ordered_command name number order) ≡ false) × (turned_down core (ordered_command name number order) ≡ None)
order_goes name number (An.Split group at) core = (refl, refl)
order_goes name number _ core = (refl, refl)

-- an order is taken by one that is settled
pub settled_by : (gone offer : Bool) (why : OrderRefusal) (other : Option OrderRefusal) → cond (gone || not offer) (Some why) other ≡ None → offer ≡ true
settled_by gone true why other e = refl
settled_by true false why other e = cc
settled_by false false why other e = cc

-- the first of what waits is found, if it waits for nothing and is not turned down
one_found : (me : ℕ) (idle : Bool) (core : Core) (command : Command) (mails : List Mail) (N : Option Command × List Command × List Mail → Type 0) → waits idle core.lock command ≡ false → turned_down core command ≡ None → N (Some command, [], mails)
    → N (next_queued me idle core (command ∷ []) mails)
unfolding next_queued
one_found me idle core command mails N w t n =
    subst (λ b. N (cond b (None, command ∷ [], mails) (elim (turned_down core command) [ None ↦ (Some command, [], mails) | Some answer ↦ next_queued me idle core [] (answered me core.id answer command mails) ]))) (sym w)
    (subst (λ (o : Option AnswerBody). N (elim o [ None ↦ (Some command, [], mails) | Some answer ↦ next_queued me idle core [] (answered me core.id answer command mails) ])) (sym t) n)

module _ (a : Affair) (begins : BeginsFree a) (g : Draw) (r : ReplicaState) (rest : IsAtRest r) (named : name_of r ≡ g) (plain : r.running ≡ true → r.leader.reports ≡ []) (low : next r ≤ last_slot) (many : length r.sets ≡ slots_ahead) (command : Command) (response : a.Does g command)
    (goes : (waits true Free command ≡ false) × (turned_down r.group.core command ≡ None)) where
  held : Held a g r
  held = (
    named,
    rest.backlog,
    subst (Each (a.Does g)) (sym rest.acts) tt,
    subst (Each (λ flight. a.Does g flight.value)) (sym rest.flights) tt,
    subst (Each (λ (entry : ℕ × Command). a.Does g entry.1)) (sym rest.ready) tt,
    begins.free g r.group.core rest.free,
    plain,
  )

  -- with the command that waits
  abbrev asked : ReplicaState
  asked = record r { backlog = r.backlog ++ command ∷ [] }

  none_under : under_way asked ≡ []
  none_under = none_taken asked (open_slots asked) rest.flights rest.ready

  idle : is_idle asked ≡ true
  idle = ap (λ (cs : List Command). eqb (length cs) 0) none_under

  waiting : waits (is_idle asked) r.group.core.lock command ≡ false
  waiting = ap (λ b. waits b r.group.core.lock command) idle ∙ (ap (λ l. waits true l command) rest.free ∙ goes.0)

  -- the command that waits is found
  abbrev rested : Place
  rested = (record r { backlog = [] }, [])

  calls_of : (P : Found → Type 0) → P (Some command, rested) → P (from_backlog (asked, []))
  unfolding from_backlog
  calls_of P p =
      subst (λ (cs : List Command). (let found = next_queued r.me (is_idle asked) r.group.core (cs ++ command ∷ []) [] in P (found.0, (record asked { backlog = found.1 }, found.2)))) (sym rest.backlog)
      (one_found r.me (is_idle asked) r.group.core command [] (λ found. P (found.0, (record asked { backlog = found.1 }, found.2))) waiting goes.1 p)

  acts_of : (P : Found → Type 0) → P (Some command, rested) → P (from_acts r.acts (asked, []))
  acts_of P p = subst (λ (acts : List Command). P (from_acts acts (asked, []))) (sym rest.acts) (calls_of P p)

  queues_of : (P : Found → Type 0) → P (Some command, rested) → P (from_queues (asked, []))
  unfolding from_queues
  queues_of P p = subst (λ (cs : List Command). P (cond (list_any is_act cs) (None, (asked, [])) (from_acts r.acts (asked, [])))) (sym none_under) (acts_of P p)

  without_calls : Held a g (record r { backlog = [] })
  without_calls = (held.0, refl, held.2, held.3, held.4, held.5, held.6)

  free_slot : (slot : ℕ) → taken_at asked slot ≡ None
  free_slot slot = free_at asked slot rest.flights rest.ready

  module _ (on : settled r ≡ true) where
    running : r.running ≡ true
    running = (and_parts r.running (may_offer r (first_set r.sets)) on).0

    slot_of : (slot : ℕ) (P : Found → Type 0) → P (Some command, rested) → P (found_for slot (asked, []))
    unfolding found_for
    slot_of slot P p = subst (λ (m : Must Command). P (found_by m (asked, []))) (sym (must_open a g slot r.leader (plain running))) (queues_of P p)

    abbrev then_ : List ℕ → List (List ℕ) → Found → Place
    then_ set sets found = elim (found.0) [ None ↦ found.1 | Some c ↦ pumped_from (next r + 1) sets (offered (next r) set c found.1) ]

    first_offers : (sets : List (List ℕ)) → length sets ≡ slots_ahead → may_offer r (first_set sets) ≡ true → Fine a g (pumped_from (next r) sets (asked, []))
    unfolding pumped_from
    first_offers [] many may = cc
    first_offers (set ∷ sets) many may =
        subst (λ (o : Option Command). Fine a g (cond (is_some o) (pumped_from (next r + 1) sets (asked, [])) (cond (may_offer r set) (then_ set sets (found_for (next r) (asked, []))) (asked, [])))) (sym (free_slot (next r)))
        (subst (λ b. Fine a g (cond b (then_ set sets (found_for (next r) (asked, []))) (asked, []))) (sym may)
        (slot_of (next r) (λ found. Fine a g (then_ set sets found))
        (from_pumps a g (next r + 1) sets (offered (next r) set command rested) (slot_offered a g (next r) set command rested response ((without_calls, tt), plain running))).0))

    pump_offers : Fine a g (pumped (asked, []))
    unfolding pumped
    pump_offers =
        subst (λ b. Fine a g (cond b (pumped_from (next r) r.sets (asked, [])) (asked, []))) (sym (and_from (settled r) (nat_le (next r) last_slot) on (le-leb (next r) last_slot low)))
        (first_offers r.sets many (and_parts r.running (may_offer r (first_set r.sets)) on).1)

-- so an order given to one at rest is refused, or its command is in flight
pub order_fine : (drawer : Drawer) (line : OrderLine) (r : ReplicaState) → IsAtRest r → name_of r ≡ group_of_order line.order → (r.running ≡ true → r.leader.reports ≡ []) → next r ≤ last_slot → length r.sets ≡ slots_ahead
    → Fine (affair_of line.number (is_split line.order) (group_of_order line.order) (next_name drawer)) (group_of_order line.order) (ordered_row drawer line (r, []))
unfolding ordered_row
order_fine drawer line r rest named plain low many = by (untaken drawer line r) refl
  where
    a : Affair
    a = affair_of line.number (is_split line.order) (group_of_order line.order) (next_name drawer)

    command : Command
    command = ordered_command (next_name drawer) line.number line.order

    by : (o : Option OrderRefusal) → untaken drawer line r ≡ o → Fine (affair_of line.number (is_split line.order) (group_of_order line.order) (next_name drawer)) (group_of_order line.order) (queued_or_refused o line.number (ordered_command (next_name drawer) line.number line.order) (r, []))
    by (Some why) e = (
      held (affair_of line.number (is_split line.order) (group_of_order line.order) (next_name drawer)) (begins_free line.number (is_split line.order) (group_of_order line.order) (next_name drawer)) (group_of_order line.order) r rest named plain low many (ordered_command (next_name drawer) line.number line.order) (order_does (next_name drawer) line.number line.order)
          (order_goes (next_name drawer) line.number line.order r.group.core),
      one_sent (affair_of line.number (is_split line.order) (group_of_order line.order) (next_name drawer)) r.me 0 (Told line.number (Refused why)) [] tt tt,
    )
    by None e =
        pump_offers (affair_of line.number (is_split line.order) (group_of_order line.order) (next_name drawer)) (begins_free line.number (is_split line.order) (group_of_order line.order) (next_name drawer)) (group_of_order line.order) r rest named plain low many (ordered_command (next_name drawer) line.number line.order) (order_does (next_name drawer) line.number line.order)
        (order_goes (next_name drawer) line.number line.order r.group.core) (settled_by (is_some r.group.core.gone) (settled r) (NotLeader r.hint) _ e)

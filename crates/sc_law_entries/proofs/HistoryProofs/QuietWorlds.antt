-- The world of several groups, where no entry divides a group or is of a transaction.
use Rattle.std.proofs.Common.{◌≡◌, ℕ, List, [], ◌∷◌, ◌++◌, map, Option, Some, None, inl, inr, refl, sym, ap, ◌∙◌, subst, append-nil, append_assoc}
use Rattle.std.specs.Option.{option_map, option_and_then}
use Rattle.sc_base.specs.Definitions.{Each, Arc}
use Rattle.sc_base.specs.declared.names.Draw.{Draw}
use Rattle.sc_base.specs.declared.ops.Op.{Op}
use Rattle.sc_words.specs.declared.commands.commands.Command.{Command}
use Rattle.sc_words.specs.declared.commands.commands.Command.TheVariants.{Noop, Call, Join, Leave}
use Rattle.sc_words.specs.declared.commands.cores.Base.{Base}
use Rattle.sc_words.specs.declared.commands.cores.Core.{Core}
use Rattle.sc_words.specs.declared.commands.cores.Lock.{Lock}
use Rattle.sc_words.specs.declared.commands.cores.Lock.TheVariants.{Free}
use Rattle.sc_words.specs.declared.commands.effects.Effect.{Effect}
use Rattle.sc_words.specs.ideal.IdealDefinitions.{ClientTable, HasEntry}
use Rattle.sc_words.specs.declared.ideal.Entry.{Entry}
use Rattle.sc_group_table.specs.machine.MachineDefinitions.{Group, entry_of, applied, done, ordered, refusal_of, with_node, without_node}
use Rattle.sc_meaning.specs.declared.entries.LogEntry.{LogEntry}
use Rattle.sc_meaning.specs.entries.EntryDefinitions.{effective, effective_by, arc_in, first_cut, birth_of, StoreWorld, after_command, named_group, recorded, with_result, world_after}
use Rattle.sc_law_entries.proofs.HistoryProofs.Elsewhere.{own_group, here, there}
use Rattle.sc_law_entries.specs.history.HistoryDefinitions.{LeavesWhole, Holding, RequestOf, MayServe, MatchesHoldings, HasNotes, ServedBy, entries_by, holding_of, holdings_after, request_entry, with_request, holdings_in, IsAskedCall, IsQuiet}
use Rattle.sc_law_entries.proofs.HistoryProofs.Disjoint.{holding_here, holding_there}
use Rattle.sc_law_entries.proofs.HistoryProofs.Logs.{OnlyMembers, ordered_either}
use Rattle.sc_law_entries.proofs.HistoryProofs.MovesKept.{move_kept, same_reported}
use Rattle.sc_law_entries.proofs.HistoryProofs.Quiet.{no_birth, same_transactions, same_ring}
use Rattle.sc_law_entries.proofs.HistoryProofs.Requests.{TakesEffect, request_cases}
use Rattle.sc_law_entries.proofs.HistoryProofs.StoreAdditions.{entry_later}
use Rattle.sc_meaning.proofs.EntriesProofs.EntryLemmas.{draw_cases}

-- ---- without transactions the effective record is the group's own

by_lock : (lock : Lock) (group : Group) → effective_by lock [] group ≡ group
by_lock Free group = refl
by_lock _ group = refl

maps_same : (f : Group → Group) (o : Option Group) → ((group : Group) → f group ≡ group) → option_map f o ≡ o
maps_same f None same = refl
maps_same f (Some group) same = ap Some (same group)

pub effective_is : (world : StoreWorld) → world.transactions ≡ [] → (name : Draw) → effective world name ≡ named_group name world.groups
effective_is world none name =
    ap (λ transactions. option_map (λ group. effective_by group.core.lock transactions group) (named_group name world.groups)) none
    ∙ maps_same (λ group. effective_by group.core.lock [] group) (named_group name world.groups) (λ group. by_lock group.core.lock group)

-- each group that is found has a cut with its arc
abbrev pub HaveCuts : StoreWorld → Type 0
HaveCuts world = (name : Draw) (group : Group) → named_group name world.groups ≡ Some group → arc_in name world.ring ≡ Some group.core.arc

and_then_none : (o : Option Arc) → (let none : Option Holding = None in option_and_then (λ arc. none) o ≡ none)
and_then_none None = refl
and_then_none (Some arc) = refl

by_found : (cut : Option Arc) (found : Option Group) → ((group : Group) → found ≡ Some group → cut ≡ Some group.core.arc) → option_and_then (λ arc. option_map holding_of found) cut ≡ option_map holding_of found
by_found cut None cuts = and_then_none cut
by_found cut (Some group) cuts = ap (λ o. option_and_then (λ arc. Some (holding_of group)) o) (cuts group refl)

-- what a group holds is what its own log makes it hold
pub holdings_are : (world : StoreWorld) → world.transactions ≡ [] → HaveCuts world → (name : Draw) → holdings_in world name ≡ option_map holding_of (named_group name world.groups)
holdings_are world none cuts name =
    ap (λ o. option_and_then (λ arc. option_map holding_of o) (arc_in name world.ring)) (effective_is world none name)
    ∙ by_found (arc_in name world.ring) (named_group name world.groups) (cuts name)

-- ---- one entry

-- what holds of the world after each quiet entry
pub record IsQuietWorld (request : RequestOf) (bases : List Base) (world : StoreWorld) : Type 0 where
  pub transactions : world.transactions ≡ []
  pub ring : world.ring ≡ map first_cut bases
  pub cuts : HaveCuts world
  pub recorded : MatchesHoldings request world.history (holdings_in world)

module _ (request : RequestOf) (bases : List Base) (world : StoreWorld) (quiet : IsQuietWorld request bases world) (name : Draw) (group : Group) (found : named_group name world.groups ≡ Some group)
    (c : Command) (keeps : LeavesWhole c) (result : Group × Effect) (only : OnlyMembers group.core result.0.core) where
  abbrev after : StoreWorld
  after = with_result world group c result

  id_is : result.0.core.id ≡ group.core.id
  id_is = ap (λ (core : Core). core.id) only

  unborn : birth_of group c result.1 ≡ None
  unborn = no_birth group c result.1 keeps

  transactions_are : after.transactions ≡ []
  transactions_are = same_transactions group.core c result.1 world.transactions keeps ∙ quiet.transactions

  ring_is : after.ring ≡ world.ring
  ring_is = same_ring group.core c result.1 world.ring keeps

  cuts_are : HaveCuts after
  cuts_are other now fact =
      ap (arc_in other) ring_is
      ∙ elim (draw_cases other group.core.id) as (λ _. arc_in other world.ring ≡ Some now.core.arc) [
        | inl e ↦ (
            let same : Some result.0 ≡ Some now = sym (here world name group found c result id_is unborn other e) ∙ fact in
            let it : result.0 ≡ now = cc in
            quiet.cuts other group (ap (λ n. named_group n world.groups) e ∙ own_group world name group found c result id_is unborn)
            ∙ ap Some (sym (ap (λ (core : Core). core.arc) only) ∙ ap (λ (g : Group). g.core.arc) it))
        | inr ne ↦ quiet.cuts other now (sym (there world name group found c result id_is unborn other ne) ∙ fact)
      ]

  before_is : (other : Draw) → holdings_in world other ≡ option_map holding_of (named_group other world.groups)
  before_is = holdings_are world quiet.transactions quiet.cuts

  after_is : (other : Draw) → holdings_in after other ≡ option_map holding_of (named_group other after.groups)
  after_is = holdings_are after transactions_are cuts_are

  held_here : (other : Draw) → other ≡ group.core.id → holdings_in after other ≡ Some (holding_of result.0)
  held_here other e = after_is other ∙ ap (option_map holding_of) (here world name group found c result id_is unborn other e)

  held_there : (other : Draw) → (other ≡ group.core.id → ⊥) → holdings_in after other ≡ holdings_in world other
  held_there other ne = after_is other ∙ ap (option_map holding_of) (there world name group found c result id_is unborn other ne) ∙ sym (before_is other)

  own_holding : holdings_in world group.core.id ≡ Some (holding_of group)
  own_holding = before_is group.core.id ∙ ap (option_map holding_of) (own_group world name group found c result id_is unborn)

  -- with what the history says of it
  quiet_with : MatchesHoldings request after.history (holdings_in after) → IsQuietWorld request bases after
  quiet_with recorded = record { transactions = transactions_are; ring = ring_is ∙ quiet.ring; cuts = cuts_are; recorded = recorded }

  -- an entry that leaves what is held
  idle : holding_of result.0 ≡ holding_of group → entry_of c result.1 ≡ [] → IsQuietWorld request bases after
  idle same none = quiet_with (subst (λ es. MatchesHoldings request (world.history ++ es) (holdings_in after)) (sym none)
      (subst (λ es. MatchesHoldings request es (holdings_in after)) (sym (append-nil world.history))
      (same_reported request world.history (holdings_in world) (holdings_in after) as_before quiet.recorded)))
    where
      as_before : (other : Draw) → holdings_in after other ≡ holdings_in world other
      as_before other = elim (draw_cases other group.core.id) [
        | inl e ↦ held_here other e ∙ ap Some same ∙ sym own_holding ∙ ap (holdings_in world) (sym e)
        | inr ne ↦ held_there other ne
      ]

  -- a request that takes effect
  serving : (client seq : ℕ) (op : Op) → TakesEffect group client seq op → op ≡ request client seq → holding_of result.0 ≡ with_request client seq op (holding_of group)
      → entry_of c result.1 ≡ request_entry (Some (holding_of group)) client seq op → IsQuietWorld request bases after
  serving client seq op takes asked holds entry =
      let move = ServedBy group.core.id client seq op in
      let may : MayServe request (holdings_in world) group.core.id client seq op =
      record { holding = holding_of group; fact = own_holding; its = takes.its; above = takes.above; asked = asked } in
      quiet_with (subst (λ es. MatchesHoldings request (world.history ++ es) (holdings_in after)) (ap (λ o. request_entry o client seq op) own_holding ∙ sym entry)
      (same_reported request (world.history ++ entries_by move (holdings_in world)) (holdings_after move (holdings_in world)) (holdings_in after) as_moved
      (move_kept request world.history (holdings_in world) move quiet.recorded may)))
    where
      mine : option_map (with_request client seq op) (holdings_in world group.core.id) ≡ Some (with_request client seq op (holding_of group))
      mine = ap (option_map (with_request client seq op)) own_holding

      as_moved : (other : Draw) → holdings_in after other ≡ holdings_after (ServedBy group.core.id client seq op) (holdings_in world) other
      as_moved other = elim (draw_cases other group.core.id) [
        | inl e ↦ held_here other e ∙ ap Some holds ∙ sym mine ∙ sym (holding_here group.core.id _ (holdings_in world) other e)
        | inr ne ↦ held_there other ne ∙ sym (holding_there group.core.id _ (holdings_in world) other ne)
      ]

module _ (request : RequestOf) (bases : List Base) (world : StoreWorld) (quiet : IsQuietWorld request bases world) (name : Draw) (group : Group) (found : named_group name world.groups ≡ Some group) where
  -- an order leaves what is held
  ordered_kept : (c : Command) → LeavesWhole c → (after : Group) → OnlyMembers group.core after.core → holding_of after ≡ holding_of group → ((effect : Effect) → entry_of c effect ≡ [])
      → IsQuietWorld request bases (with_result world group c (ordered group.core.gone (refusal_of group.core c) after group))
  ordered_kept c keeps after only same none =
      let result = ordered group.core.gone (refusal_of group.core c) after group in
      idle request bases world quiet name group found c keeps result
      (ordered_either (λ g. OnlyMembers group.core g.core) group.core.gone (refusal_of group.core c) after group only refl)
      (ordered_either (λ g. holding_of g ≡ holding_of group) group.core.gone (refusal_of group.core c) after group same refl)
      (none result.1)

  quiet_after : (c : Command) → LeavesWhole c → IsAskedCall request c → IsQuietWorld request bases (with_result world group c (applied group c))
  quiet_after (Call client seq op) keeps asked =
      request_cases group client seq op (λ result. IsQuietWorld request bases (with_result world group (Call client seq op) result))
      (λ effect none. idle request bases world quiet name group found (Call client seq op) keeps (group, effect) refl refl none)
      (λ takes. serving request bases world quiet name group found (Call client seq op) keeps (done group client seq op) refl client seq op takes asked refl refl)
  quiet_after Noop keeps asked = idle request bases world quiet name group found Noop keeps (applied group Noop) refl refl refl
  quiet_after (Join node order) keeps asked = ordered_kept (Join node order) keeps (with_node group node) refl refl (λ effect. refl)
  quiet_after (Leave node order) keeps asked = ordered_kept (Leave node order) keeps (without_node group node) refl refl (λ effect. refl)
  quiet_after _ keeps asked = absurd keeps

by_group : (request : RequestOf) (bases : List Base) (world : StoreWorld) → IsQuietWorld request bases world → (name : Draw) (c : Command) → LeavesWhole c → IsAskedCall request c → (o : Option Group) → named_group name world.groups ≡ o
    → IsQuietWorld request bases (after_command world o c)
by_group request bases world quiet name c keeps asked None e = quiet
by_group request bases world quiet name c keeps asked (Some group) e = quiet_after request bases world quiet name group e c keeps asked

-- one quiet entry more
pub quiet_recorded : (request : RequestOf) (bases : List Base) (world : StoreWorld) (entry : LogEntry) → IsQuietWorld request bases world → IsQuiet request entry → IsQuietWorld request bases (recorded world entry)
quiet_recorded request bases world entry quiet fact = by_group request bases world quiet entry.group entry.command fact.whole fact.asked (named_group entry.group world.groups) refl

-- all of them
pub quiet_all : (request : RequestOf) (bases : List Base) (world : StoreWorld) (entries : List LogEntry) → IsQuietWorld request bases world → Each (IsQuiet request) entries → IsQuietWorld request bases (world_after world entries)
quiet_all request bases world [] quiet each = quiet
quiet_all request bases world (entry ∷ entries) quiet each = quiet_all request bases (recorded world entry) entries (quiet_recorded request bases world entry quiet each.0) each.1

-- ---- the history only grows

by_result : (world : StoreWorld) (o : Option Group) (c : Command) → (more : List Entry) × ((after_command world o c).history ≡ world.history ++ more)
by_result world None c = ([], sym (append-nil world.history))
by_result world (Some group) c = (entry_of c (applied group c).1, refl)

-- the history of more entries goes on as it was
pub history_grows : (world : StoreWorld) (entries : List LogEntry) → (more : List Entry) × ((world_after world entries).history ≡ world.history ++ more)
history_grows world [] = ([], sym (append-nil world.history))
history_grows world (entry ∷ entries) =
    let first = by_result world (named_group entry.group world.groups) entry.command in
    let rest = history_grows (recorded world entry) entries in
    (first.0 ++ rest.0, rest.1 ∙ ap (λ es. es ++ rest.0) first.1 ∙ append_assoc world.history first.0 rest.0)

-- what was noted stays in the history
pub tables_grow : (world : StoreWorld) (entries : List LogEntry) (clients : ClientTable) → HasNotes world.history clients → HasNotes (world_after world entries).history clients
tables_grow world entries clients notes client n e =
    let grown = history_grows world entries in
    subst (λ es. HasEntry es client n.seq n.reply) (sym grown.1) (entry_later world.history grown.0 client n.seq n.reply (notes client n e))

pub notes_grow : (world : StoreWorld) (entries : List LogEntry) (group : Group) → HasNotes world.history group.clients → HasNotes (world_after world entries).history group.clients
notes_grow world entries group = tables_grow world entries group.clients

-- the notes of a group by its own log
pub own_notes : (request : RequestOf) (bases : List Base) (world : StoreWorld) → IsQuietWorld request bases world → (name : Draw) (group : Group) → named_group name world.groups ≡ Some group → HasNotes world.history group.clients
own_notes request bases world quiet name group found =
    (quiet.recorded.recorded name (holding_of group) (holdings_are world quiet.transactions quiet.cuts name ∙ ap (option_map holding_of) found)).notes

-- A coordinator that commits with its participant: a merge, a boundary that moves, a member that moves on.
use Rattle.std.specs.Prelude.{is_some}
use Rattle.std.proofs.Common.{◌≡◌, ℕ, ◌<◌, ◌^◌, true, not, List, [], ◌++◌, Option, Some, None, inl, inr, refl, sym, ap, ◌∙◌}
use Rattle.std.specs.List.{filter}
use Rattle.std.specs.Option.{option_map}
use Rattle.sc_base.specs.Definitions.{Arc, CanCut, CanJoin, before, from, joined}
use Rattle.sc_base.specs.declared.names.Draw.{Draw}
use Rattle.sc_words.specs.declared.commands.commands.Command.{Command}
use Rattle.sc_words.specs.declared.commands.effects.Effect.{Effect}
use Rattle.sc_words.specs.declared.commands.effects.Effect.TheVariants.{Decided}
use Rattle.sc_words.specs.declared.commands.links.Route.{Route}
use Rattle.sc_words.specs.declared.commands.votes.Frozen.{Frozen}
use Rattle.sc_words.specs.declared.commands.votes.Gift.{Gift}
use Rattle.sc_words.specs.declared.commands.votes.Outcome.{Outcome}
use Rattle.sc_words.specs.declared.commands.votes.Outcome.TheVariants.{Merged, Moved, Migrated}
use Rattle.sc_group_table.specs.machine.MachineDefinitions.{Group, entry_of, decided}
use Rattle.sc_meaning.specs.entries.EntryDefinitions.{birth_of, concluded, after_outcome, arc_in, both_arcs, is_cut_of, recut, ring_decided, ring_merged, ring_moved, StoreWorld, named_group, with_result}
use Rattle.sc_meaning.specs.declared.entries.Cut.{Cut}
use Rattle.sc_law_entries.specs.history.HistoryDefinitions.{GivenFrom, JoinedTo, RequestOf, TakenUpTo, Unmoved, both_holdings, holding_of, part_before, part_from, with_next, with_previous, IsItsOwn, IsParty, HasKnownTable, holdings_in}
use Rattle.sc_law_entries.proofs.HistoryProofs.Disjoint.{first_here, neither_here, second_here}
use Rattle.sc_law_entries.proofs.HistoryProofs.Elsewhere.{elsewhere, held_by, held_none, held_some, here, own_group, tables_from, there, holds_own}
use Rattle.sc_law_entries.proofs.HistoryProofs.Parties.{next_after, next_before, others_after}
use Rattle.sc_law_entries.proofs.HistoryProofs.Recuts.{arc_of, gone_cut, has_arc, has_recut, is_none_of, taken_out}
use Rattle.sc_law_entries.proofs.HistoryProofs.Shares.{both_are}
use Rattle.sc_law_entries.proofs.HistoryProofs.Staying.{Goes}
use Rattle.sc_meaning.proofs.EntriesProofs.EntryLemmas.{draw_cases}

has_some : (name : Draw) (ring : List Cut) (arc : Arc) → arc_in name ring ≡ Some arc → has_arc name ring ≡ true
has_some name ring arc e = ap is_some e

module _ (request : RequestOf) (world : StoreWorld) (name : Draw) (group : Group) (found : named_group name world.groups ≡ Some group) (c : Command) (tx : Draw) (outcome : Outcome) (planned : Group) (frozen : Frozen)
    (id_is : planned.core.id ≡ group.core.id) (unborn : birth_of group c (Decided outcome) ≡ None)
    (transactions_are : (with_result world group c (decided planned tx outcome)).transactions ≡ concluded (Some outcome) tx group.core.id world.transactions)
    (ring_are : (with_result world group c (decided planned tx outcome)).ring ≡ ring_decided (Some outcome) group.core.id group.core.succ.group world.ring)
    (no_entry : entry_of c (Decided outcome) ≡ []) (own : IsItsOwn world group tx) (party : IsParty world group tx frozen) (coordinates : held_by world.transactions group ≡ holding_of group) where
  abbrev result : Group × Effect
  result = decided planned tx outcome

  abbrev after : StoreWorld
  after = with_result world group c result

  abbrev mine : Draw
  mine = group.core.id

  abbrev theirs : Draw
  theirs = group.core.succ.group

  own_is : named_group mine world.groups ≡ Some group
  own_is = own_group world name group found c result id_is unborn

  mine_before : holdings_in world mine ≡ Some (holding_of group)
  mine_before = holds_own world mine group party.own_cut own_is coordinates

  theirs_before : holdings_in world theirs ≡ Some (holding_of party.next)
  theirs_before = next_before world group tx frozen own party

  -- the coordinator is free afterwards
  mine_after : has_arc mine after.ring ≡ has_arc mine world.ring → holdings_in after mine ≡ Some (holding_of planned)
  mine_after has = held_some after mine result.0 (arc_of mine after.ring (has ∙ has_some mine world.ring party.own_cut.0 party.own_cut.1)) (here world name group found c result id_is unborn mine refl)

  theirs_after : has_arc theirs after.ring ≡ has_arc theirs world.ring → holdings_in after theirs ≡ Some (holding_of (after_outcome (Some outcome) tx party.next))
  theirs_after has =
      held_some after theirs party.next (arc_of theirs after.ring (has ∙ has_some theirs world.ring party.next_cut.0 party.next_cut.1)) (there world name group found c result id_is unborn theirs (λ e. party.apart (sym e)) ∙ party.found)
      ∙ ap Some (ap (λ ts. held_by ts party.next) transactions_are ∙ next_after world group tx frozen own party outcome)

  others : (other : Draw) → (other ≡ mine → ⊥) → (other ≡ theirs → ⊥) → has_arc other after.ring ≡ has_arc other world.ring → holdings_in after other ≡ holdings_in world other
  others other ne not has = elsewhere world name group found c result id_is unborn other ne has
      (λ g fact. ap (λ ts. held_by ts g) transactions_are ∙ others_after world group tx frozen own party outcome other g not fact)

  tables : HasKnownTable world after mine result.0 → (other : Draw) (g : Group) → named_group other after.groups ≡ Some g → HasKnownTable world after other g
  tables = tables_from world name group found c result id_is unborn

  both_cuts : both_arcs (arc_in mine world.ring) (arc_in theirs world.ring) ≡ Some (joined party.own_cut.0 party.next_cut.0)
  both_cuts = ap (λ o. both_arcs o (arc_in theirs world.ring)) party.own_cut.1 ∙ ap (both_arcs (Some party.own_cut.0)) party.next_cut.1

  -- ---- a merge

  module _ (into : Route) (fact : outcome ≡ Merged into) (holds_both : holding_of planned ≡ with_next (holding_of group) (holding_of party.next)) where
    abbrev others_ring : List Cut
    others_ring = filter (λ cut. not (is_cut_of theirs cut)) world.ring

    merged_ring : after.ring ≡ recut mine (joined party.own_cut.0 party.next_cut.0) others_ring
    merged_ring = ring_are ∙ ap (λ o. ring_decided (Some o) mine theirs world.ring) fact ∙ ap (λ o. ring_merged o mine theirs world.ring) both_cuts

    merged_has : (other : Draw) → (other ≡ theirs → ⊥) → has_arc other after.ring ≡ has_arc other world.ring
    merged_has other ne = ap (has_arc other) merged_ring ∙ has_recut other mine (joined party.own_cut.0 party.next_cut.0) others_ring ∙ taken_out other theirs world.ring ne

    theirs_gone : arc_in theirs after.ring ≡ None
    theirs_gone = is_none_of (arc_in theirs after.ring) (ap (has_arc theirs) merged_ring ∙ has_recut theirs mine (joined party.own_cut.0 party.next_cut.0) others_ring ∙ ap is_some (gone_cut theirs world.ring))

    together : both_holdings with_next (holdings_in world mine) (holdings_in world theirs) ≡ Some (with_next (holding_of group) (holding_of party.next))
    together = both_are with_next (holdings_in world mine) (holdings_in world theirs) (holding_of group) (holding_of party.next) mine_before theirs_before

    pub merge_goes : Goes request world name group found c (decided planned tx outcome)
    merge_goes = record {
      move = JoinedTo mine theirs;
      may = record { holding = holding_of group; fact = mine_before; other = holding_of party.next; next_is = theirs_before; apart = party.apart; fits = party.meet };
      holds = λ other. elim (draw_cases other theirs) [
        | inl e ↦ ap (holdings_in after) e ∙ held_none after theirs theirs_gone ∙ sym (second_here mine theirs (both_holdings with_next (holdings_in world mine) (holdings_in world theirs)) (None) (holdings_in world) other e)
        | inr not ↦ elim (draw_cases other mine) [
          | inl e ↦ ap (holdings_in after) e ∙ mine_after (merged_has mine party.apart) ∙ ap Some holds_both ∙ sym together ∙ sym (first_here mine theirs (both_holdings with_next (holdings_in world mine) (holdings_in world theirs)) (None) (holdings_in world) other not e)
          | inr ne ↦ others other ne not (merged_has other not) ∙ sym (neither_here mine theirs (both_holdings with_next (holdings_in world mine) (holdings_in world theirs)) (None) (holdings_in world) other not ne)
        ]
      ];
      adds = ap (λ es. world.history ++ es) no_entry;
      tables = tables (inr (inr (holding_of planned, mine_after (merged_has mine party.apart), refl)));
    }

  -- ---- a boundary that moves

  module _ (at : ℕ) (gift : Option Gift) (fact : outcome ≡ Moved at gift) where
    moved_ring : after.ring ≡ recut mine (before (joined party.own_cut.0 party.next_cut.0) at) (recut theirs (from (joined party.own_cut.0 party.next_cut.0) at) world.ring)
    moved_ring = ring_are ∙ ap (λ o. ring_decided (Some o) mine theirs world.ring) fact ∙ ap (λ o. ring_moved at o mine theirs world.ring) both_cuts

    moved_has : (other : Draw) → has_arc other after.ring ≡ has_arc other world.ring
    moved_has other =
        ap (has_arc other) moved_ring
        ∙ has_recut other mine (before (joined party.own_cut.0 party.next_cut.0) at) (recut theirs (from (joined party.own_cut.0 party.next_cut.0) at) world.ring)
        ∙ has_recut other theirs (from (joined party.own_cut.0 party.next_cut.0) at) world.ring

    moved_theirs : holdings_in after theirs ≡ Some (holding_of (after_outcome (Some outcome) tx party.next))
    moved_theirs = theirs_after (moved_has theirs)

    pub give_goes : holding_of planned ≡ part_before at (holding_of group) → holding_of (after_outcome (Some outcome) tx party.next) ≡ with_previous (holding_of party.next) (part_from at (holding_of group))
        → at < 2 ^ 32 → CanCut group.core.arc at → CanJoin (from group.core.arc at) party.next.core.arc → Goes request world name group found c (decided planned tx outcome)
    give_goes keeps gains fits cut meet =
        let rest : option_map (part_from at) (holdings_in world mine) ≡ Some (part_from at (holding_of group)) = ap (option_map (part_from at)) mine_before in
        record {
          move = GivenFrom mine at theirs;
          may = record { holding = holding_of group; fact = mine_before; other = holding_of party.next; next_is = theirs_before; apart = party.apart; fits = (fits, cut, meet) };
          holds = λ other. elim (draw_cases other theirs) [
            | inl e ↦ ap (holdings_in after) e ∙ moved_theirs ∙ ap Some gains
                ∙ sym (both_are with_previous (holdings_in world theirs) (option_map (part_from at) (holdings_in world mine)) (holding_of party.next) (part_from at (holding_of group)) theirs_before rest)
                ∙ sym (second_here mine theirs (option_map (part_before at) (holdings_in world mine)) (both_holdings with_previous (holdings_in world theirs) (option_map (part_from at) (holdings_in world mine))) (holdings_in world) other e)
            | inr not ↦ elim (draw_cases other mine) [
              | inl e ↦ ap (holdings_in after) e ∙ mine_after (moved_has mine) ∙ ap Some keeps ∙ sym (ap (option_map (part_before at)) mine_before) ∙ sym (first_here mine theirs (option_map (part_before at) (holdings_in world mine)) (both_holdings with_previous (holdings_in world theirs) (option_map (part_from at) (holdings_in world mine))) (holdings_in world) other not e)
              | inr ne ↦ others other ne not (moved_has other) ∙ sym (neither_here mine theirs (option_map (part_before at) (holdings_in world mine)) (both_holdings with_previous (holdings_in world theirs) (option_map (part_from at) (holdings_in world mine))) (holdings_in world) other not ne)
            ]
          ];
          adds = ap (λ es. world.history ++ es) no_entry;
          tables = tables (inr (inr (holding_of planned, mine_after (moved_has mine), refl)));
        }

    pub take_goes : holding_of planned ≡ with_next (holding_of group) (part_before at (holding_of party.next)) → holding_of (after_outcome (Some outcome) tx party.next) ≡ part_from at (holding_of party.next)
        → at < 2 ^ 32 → CanCut party.next.core.arc at → CanJoin group.core.arc (before party.next.core.arc at) → Goes request world name group found c (decided planned tx outcome)
    take_goes gains keeps fits cut meet =
        let part : option_map (part_before at) (holdings_in world theirs) ≡ Some (part_before at (holding_of party.next)) = ap (option_map (part_before at)) theirs_before in
        record {
          move = TakenUpTo mine at theirs;
          may = record { holding = holding_of group; fact = mine_before; other = holding_of party.next; next_is = theirs_before; apart = party.apart; fits = (fits, cut, meet) };
          holds = λ other. elim (draw_cases other theirs) [
            | inl e ↦ ap (holdings_in after) e ∙ moved_theirs ∙ ap Some keeps ∙ sym (ap (option_map (part_from at)) theirs_before) ∙ sym (second_here mine theirs (both_holdings with_next (holdings_in world mine) (option_map (part_before at) (holdings_in world theirs))) (option_map (part_from at) (holdings_in world theirs)) (holdings_in world) other e)
            | inr not ↦ elim (draw_cases other mine) [
              | inl e ↦ ap (holdings_in after) e ∙ mine_after (moved_has mine) ∙ ap Some gains
                  ∙ sym (both_are with_next (holdings_in world mine) (option_map (part_before at) (holdings_in world theirs)) (holding_of group) (part_before at (holding_of party.next)) mine_before part)
                  ∙ sym (first_here mine theirs (both_holdings with_next (holdings_in world mine) (option_map (part_before at) (holdings_in world theirs))) (option_map (part_from at) (holdings_in world theirs)) (holdings_in world) other not e)
              | inr ne ↦ others other ne not (moved_has other) ∙ sym (neither_here mine theirs (both_holdings with_next (holdings_in world mine) (option_map (part_before at) (holdings_in world theirs))) (option_map (part_from at) (holdings_in world theirs)) (holdings_in world) other not ne)
            ]
          ];
          adds = ap (λ es. world.history ++ es) no_entry;
          tables = tables (inr (inr (holding_of planned, mine_after (moved_has mine), refl)));
        }

  -- ---- a member that moves on

  pub migrate_goes : (node : ℕ) → outcome ≡ Migrated node → holding_of planned ≡ holding_of group → holding_of (after_outcome (Some outcome) tx party.next) ≡ holding_of party.next → Goes request world name group found c (decided planned tx outcome)
  migrate_goes node fact keeps stays =
      let ring : after.ring ≡ world.ring = ring_are ∙ ap (λ o. ring_decided (Some o) mine theirs world.ring) fact in
      let now : holdings_in after mine ≡ Some (holding_of planned) = mine_after (ap (has_arc mine) ring) in
      record {
        move = Unmoved;
        may = tt;
        holds = λ other. elim (draw_cases other theirs) [
          | inl e ↦ ap (holdings_in after) e ∙ theirs_after (ap (has_arc theirs) ring) ∙ ap Some stays ∙ sym theirs_before ∙ sym (ap (holdings_in world) e)
          | inr not ↦ elim (draw_cases other mine) [
            | inl e ↦ ap (holdings_in after) e ∙ now ∙ ap Some keeps ∙ sym mine_before ∙ sym (ap (holdings_in world) e)
            | inr ne ↦ others other ne not (ap (has_arc other) ring)
          ]
        ];
        adds = ap (λ es. world.history ++ es) no_entry;
        tables = tables (inr (inr (holding_of planned, now, refl)));
      }

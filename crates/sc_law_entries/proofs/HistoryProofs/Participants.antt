-- What a participant holds after a commit, where its plan can be made.
use Rattle.std.specs.Prelude.{is_some, not, nat_le, length}
use Rattle.std.proofs.Common.{◌≡◌, ℕ, ◌+◌, ◌<◌, ◌^◌, Bool, true, false, cond, eqb, ◌&&◌, ◌||◌, List, [], ◌∷◌, map, Option, Some, None, refl, sym, ap, ◌∙◌, arith}
use Rattle.std.specs.List.{list_any}
use Rattle.std.specs.Cmp.{eq_by_cmp_equiv}
use Rattle.std.specs.Cmp.Lexicographic.{slice_cmp, nat_list_cmp_total}
use Rattle.std.specs.FinMap.{entries, get, get-entries}
use Rattle.std.specs.FinMap.Entries.{is_some-find}
use Rattle.std.specs.Ordering.{nat_cmp, eq_by_cmp}
use Rattle.std.proofs.lemmas.Bool.{and_parts, eq-eqb, eqb-false, eqb-true, le-leb, leb-true, ltb-true, not-true, or_right}
use Rattle.sc_base.specs.Definitions.{Arc, CanCut, CanJoin, IsArc, before, end_of, from, holds, offset, pos_of, united}
use Rattle.sc_base.specs.declared.names.Draw.{Draw}
use Rattle.sc_base.proofs.Lemmas.{cuts_join, joins_hold, same_name}
use Rattle.sc_words.specs.declared.commands.bodies.Offer.{Offer}
use Rattle.sc_words.specs.declared.commands.cores.Lock.TheVariants.{Promised}
use Rattle.sc_words.specs.declared.commands.effects.Effect.TheVariants.{NoEffect}
use Rattle.sc_words.specs.declared.commands.votes.Outcome.{Outcome}
use Rattle.sc_words.specs.declared.commands.votes.Outcome.TheVariants.{Moved, Migrated}
use Rattle.sc_words.specs.ideal.IdealDefinitions.{Contents, holds_key, part_of}
use Rattle.sc_words.proofs.IdealProofs.IdealLemmas.{get-part}
use Rattle.sc_group_table.specs.machine.MachineDefinitions.{can_gain, finished, gained_group, lost_group, participant_after, settled_in, welcomed_group, Group, can_cut, can_join, has_key_of, part_gift}
use Rattle.sc_meaning.specs.entries.EntryDefinitions.{after_outcome}
use Rattle.sc_law_entries.specs.history.HistoryDefinitions.{holding_of, part_from, with_previous}
use Rattle.sc_law_entries.proofs.HistoryProofs.PlanHoldings.{plans_move}

-- ---- tests of arcs

-- an arc that passes the test can be cut
pub cut_is : (arc : Arc) (at : ℕ) → can_cut arc at ≡ true → CanCut arc at
cut_is arc at e =
    let parts = and_parts (holds arc at) (not (eqb at arc.lo)) e in
    (parts.0, eqb-false at arc.lo (not-true (eqb at arc.lo) parts.1))

-- arcs that pass the test can be joined, and the other way round
pub join_is : (arc next : Arc) → can_join arc next ≡ true → CanJoin arc next
join_is arc next e =
    let parts = and_parts (eqb next.lo (end_of arc)) (nat_le (arc.len + next.len) (2 ^ 32)) e in
    (eqb-true next.lo (end_of arc) parts.0, leb-true (arc.len + next.len) (2 ^ 32) parts.1)

pub is_join : (arc next : Arc) → CanJoin arc next → can_join arc next ≡ true
is_join arc next can = ap (λ b. b && nat_le (arc.len + next.len) (2 ^ 32)) (eq-eqb next.lo (end_of arc) can.0) ∙ le-leb (arc.len + next.len) (2 ^ 32) can.1

-- what is cut off the end of an arc meets what the arc meets
pub rest_meets : (arc next : Arc) (at : ℕ) → IsArc arc → arc.lo < 2 ^ 32 → at < 2 ^ 32 → CanCut arc at → CanJoin arc next → CanJoin (from arc at) next
rest_meets arc next at fact fits at_fits cut can =
    let parts = cuts_join arc at fits at_fits fact cut in
    let inside : offset arc at < arc.len = ltb-true _ _ cut.0 in
    (can.0 ∙ ap end_of (sym parts.same) ∙ (joins_hold (before arc at) (from arc at) fits parts.first parts.second parts.can).end, (let sum = can.1 in omega (arith, sum, inside)))

-- ---- keys of a gift

none_passes : (contents : Contents) (pairs : List (List ℕ × List ℕ)) → ((pair : List ℕ × List ℕ) → list_any (eq_by_cmp (slice_cmp nat_cmp) pair.0) (map (λ e. e.0) pairs) ≡ true → is_some (get contents pair.0) ≡ false) → has_key_of contents pairs ≡ false
none_passes contents [] none = refl
none_passes contents (pair ∷ pairs) none =
    ap (λ b. b || has_key_of contents pairs) (none pair (ap (λ b. b || list_any (eq_by_cmp (slice_cmp nat_cmp) pair.0) (map (λ e. e.0) pairs)) ((eq_by_cmp_equiv nat_list_cmp_total).refl pair.0)))
    ∙ none_passes contents pairs (λ other among. none other (or_right (eq_by_cmp (slice_cmp nat_cmp) other.0 pair.0) _ among))

some_part : (b : Bool) (o : Option (List ℕ)) → is_some (cond b o None) ≡ true → b ≡ true
some_part true o e = refl
some_part false o e = (let no_way : false ≡ true = e in absurd (cc))

not_some : (b : Bool) (o : Option (List ℕ)) → (b ≡ true → ⊥) → is_some (cond b o None) ≡ false
not_some true o no_way = absurd (no_way refl)
not_some false o no_way = refl

-- parts of maps on arcs that share nothing share no key
pub no_common_key : (arc next : Arc) (pairs whole : Contents) → ((p : ℕ) → holds arc p ≡ true → holds next p ≡ true → ⊥) → has_key_of (part_of next whole) (entries (part_of arc pairs)) ≡ false
no_common_key arc next pairs whole apart = none_passes (part_of next whole) (entries (part_of arc pairs)) (λ pair among.
    (let key = pair.0 in
    let there : is_some (get (part_of arc pairs) key) ≡ true = ap is_some (get-entries (part_of arc pairs) key) ∙ is_some-find (slice_cmp nat_cmp) key (entries (part_of arc pairs)) ∙ among in
    let in_arc : holds_key arc key ≡ true = some_part (holds_key arc key) (get pairs key) (sym (ap is_some (get-part pairs (holds_key arc) key)) ∙ there) in
    ap is_some (get-part whole (holds_key next) key) ∙ not_some (holds_key next key) (get whole key) (λ in_next. apart (pos_of key) in_arc in_next)))

-- ---- what a participant holds

-- a participant ends as its plan says
pub ended : (next : Group) (tx : Draw) (offer : Offer) (outcome : Outcome) → next.core.lock ≡ Promised tx offer
    → (finished next.core.lock next tx outcome).0 ≡ (settled_in (participant_after outcome next offer) next tx outcome).0
ended next tx offer outcome e =
    ap (λ l. (finished l next tx outcome).0) e
    ∙ ap (λ b. (cond b (settled_in (participant_after outcome next offer) next tx outcome) (next, NoEffect tx)).0) (same_name tx tx refl)

-- it gains what it is given
pub gains : (group next : Group) (tx : Draw) (offer : Offer) (at : ℕ) → next.core.lock ≡ Promised tx offer → offer.arc ≡ group.core.arc → holds group.core.arc at ≡ true → can_cut group.core.arc at ≡ true
    → CanJoin (from group.core.arc at) next.core.arc → has_key_of next.pairs (part_gift group at).pairs ≡ false
    → holding_of (after_outcome (Some (Moved at (Some (part_gift group at)))) tx next) ≡ with_previous (holding_of next) (part_from at (holding_of group))
gains group next tx offer at lock offered here cut meet none =
    let outcome = Moved at (Some (part_gift group at)) in
    let can : can_gain next.core offer at ≡ true =
    ap (λ a. can_cut a at && can_join (from a at) next.core.arc) offered ∙ ap (λ b. b && can_join (from group.core.arc at) next.core.arc) cut ∙ is_join (from group.core.arc at) next.core.arc meet in
    ap holding_of (ended next tx offer outcome lock)
    ∙ ap (λ b. holding_of (settled_in (cond (b && not (has_key_of next.pairs (part_gift group at).pairs)) (Some (gained_group next offer at (part_gift group at))) None) next tx outcome).0) can
    ∙ ap (λ b. holding_of (settled_in (cond (not b) (Some (gained_group next offer at (part_gift group at))) None) next tx outcome).0) none
    ∙ (plans_move.gives group next offer at offered here).gained

-- it loses what is taken
pub loses : (next : Group) (tx : Draw) (offer : Offer) (at : ℕ) → next.core.lock ≡ Promised tx offer → can_cut next.core.arc at ≡ true → holding_of (after_outcome (Some (Moved at None)) tx next) ≡ holding_of (lost_group next at)
loses next tx offer at lock cut =
    ap holding_of (ended next tx offer (Moved at None) lock)
    ∙ ap (λ b. holding_of (settled_in (cond b (Some (lost_group next at)) None) next tx (Moved at None)).0) cut

-- a member that comes changes nothing that is held
pub welcomes : (next : Group) (tx : Draw) (offer : Offer) (node : ℕ) → next.core.lock ≡ Promised tx offer → holding_of (after_outcome (Some (Migrated node)) tx next) ≡ holding_of next
welcomes next tx offer node lock =
    ap holding_of (ended next tx offer (Migrated node) lock)
    ∙ elim (nat_le (length (united next.core.members (node ∷ []))) 9) as (λ b. holding_of (settled_in (cond b (Some (welcomed_group next node)) None) next tx (Migrated node)).0 ≡ holding_of next) [ true ↦ refl | false ↦ refl ]

-- What a call makes of what is said of the groups of the ring.
use Rattle.std.proofs.Common.{◌≡◌, ◌⊎◌, ℕ, Bool, true, false, ap₂, true≢false, List, [], ◌∷◌, ◌++◌, length, map, Option, Some, None, inl, inr, refl, sym, ◌∙◌, ap, subst, append-nil}
use Rattle.std.specs.Prelude.{if◌then◌else◌}
use Rattle.std.specs.FinMap.{entries}
use Rattle.std.specs.List.{flat_map}
use Rattle.std.specs.Option.{option_map, option_to_list}
use Rattle.std.proofs.lemmas.Bool.{cond-true, cond-false}
use Rattle.std.proofs.lemmas.List.{map-append}
use Rattle.std.proofs.lemmas.Option.{none-some, same_Some}
use Rattle.sc_base.proofs.NameLemmas.{same_name}
use Rattle.sc_base.specs.Same.{same_draw}
use Rattle.sc_base.specs.declared.names.Draw.{Draw}
use Rattle.sc_base.specs.declared.ops.Op.{Op}
use Rattle.sc_base.specs.declared.ops.Reply.{Reply}
use Rattle.sc_words.specs.declared.commands.bodies.Watch.{Watch}
use Rattle.sc_words.specs.declared.commands.commands.Command.TheVariants.{Call}
use Rattle.sc_words.specs.declared.commands.cores.Lock.{Lock}
use Rattle.sc_words.specs.declared.commands.cores.Lock.TheVariants.{Free, Coordinating, Promised, Watching}
use Rattle.sc_words.specs.declared.commands.effects.Effect.{Effect}
use Rattle.sc_words.specs.declared.commands.effects.Effect.TheVariants.{Done, NoEffect}
use Rattle.sc_words.specs.declared.commands.votes.Outcome.{Outcome}
use Rattle.sc_explain.specs.facts.Facts.{ring_group_of}
use Rattle.sc_explain.specs.declared.facts.facts.RingGroup.{RingGroup}
use Rattle.sc_law_entries.proofs.HistoryProofs.Found.{found_now, found_still}
use Rattle.sc_words.specs.ideal.IdealStore.{reply_of}
use Rattle.sc_meaning.specs.declared.entries.Cut.{Cut}
use Rattle.sc_meaning.specs.declared.entries.LogEntry.{LogEntry}
use Rattle.sc_meaning.specs.declared.entries.Transaction.{Transaction}
use Rattle.sc_meaning.specs.entries.Decisions.{decision}
use Rattle.sc_meaning.specs.entries.Effective.{after_outcome, effective, effective_by, is_commit, is_open}
use Rattle.sc_meaning.specs.entries.Worlds.{StoreWorld, after_command, named_group, recorded, with_group, with_result}
use Rattle.sc_meaning.proofs.EntriesProofs.Names.{draw_cases, found_name, other_name}
use Rattle.sc_group_table.specs.machine.Finishes.{finished, watch_ended}
use Rattle.sc_group_table.specs.machine.Group.{Group}
use Rattle.sc_group_table.specs.machine.Machine.{applied, done}
use Rattle.sc_world_groups.specs.Effects.{effect_in}
use Rattle.sc_explain.specs.rows.Counts.{count_after, recounted}
use Rattle.sc_explain.specs.rows.Explained.{ring_group_in, ring_groups_in}
use Rattle.sc_explain.proofs.RowsProofs.Calls.{Stays, call_is}
use Rattle.sc_explain.proofs.RowsProofs.Counted.{count_is}

-- what is said of a group that serves, after an operation that was done: another number of pairs
counted : (name : Draw) (group : Group) (client seq : ℕ) (op : Op) → ring_group_of name (done group client seq op).0 ≡ record (ring_group_of name group) { pairs = count_after op (reply_of op group.pairs).old (length (entries group.pairs)) }
counted name group client seq op = ap (λ n. record (ring_group_of name group) { pairs = n }) (count_is op group.pairs)

-- ... of a watcher that hears what was decided, if it is of its transaction
heard : (name : Draw) (outcome : Outcome) (group : Group) (client seq : ℕ) (op : Op) (tx : Draw) (watch : Watch) (b : Bool)
    → ring_group_of name (if b then watch_ended outcome (done group client seq op).0 tx watch else ((done group client seq op).0, NoEffect tx)).0
    ≡ record (ring_group_of name (if b then watch_ended outcome group tx watch else (group, NoEffect tx)).0) {
      pairs = count_after op (reply_of op group.pairs).old (ring_group_of name (if b then watch_ended outcome group tx watch else (group, NoEffect tx)).0).pairs;
    }
heard name outcome group client seq op tx watch true = ap (λ n. record (ring_group_of name (watch_ended outcome group tx watch).0) { pairs = n }) (count_is op group.pairs)
heard name outcome group client seq op tx watch false = counted name group client seq op

-- what is said where this is made of the group, and where that is made of it
abbrev Counts : Draw → Group → Op → Group → Group → Type 0
Counts name group op made before =
    ring_group_of name made ≡ record (ring_group_of name before) { pairs = count_after op (reply_of op group.pairs).old (ring_group_of name before).pairs }

finishing : (name : Draw) (outcome : Outcome) (group : Group) (client seq : ℕ) (op : Op) (tx : Draw) (watch : Watch) → group.core.lock ≡ Watching tx watch
    → Counts name group op (finished group.core.lock (done group client seq op).0 tx outcome).0 (finished group.core.lock group tx outcome).0
finishing name outcome group client seq op tx watch is =
    subst (λ (lock : Lock). Counts name group op (finished lock (done group client seq op).0 tx outcome).0 (finished lock group tx outcome).0) (sym is)
    (heard name outcome group client seq op tx watch (same_draw tx tx))

-- ... and after what was decided elsewhere, which changes no pairs of a group that serves
counted_by : (name : Draw) (lock : Lock) (transactions : List Transaction) (group : Group) (client seq : ℕ) (op : Op) → is_open lock ≡ true → group.core.lock ≡ lock
    → Counts name group op (effective_by lock transactions (done group client seq op).0) (effective_by lock transactions group)
counted_by name Free transactions group client seq op opens is = counted name group client seq op
counted_by name (Watching tx watch) transactions group client seq op opens is = by (decision tx transactions)
  where
    commits : (outcome : Outcome) (b : Bool)
        → Counts name group op (if b then (finished group.core.lock (done group client seq op).0 tx outcome).0 else (done group client seq op).0) (if b then (finished group.core.lock group tx outcome).0 else group)
    commits outcome true = finishing name outcome group client seq op tx watch is
    commits outcome false = counted name group client seq op

    by : (o : Option Outcome) → Counts name group op (after_outcome o tx (done group client seq op).0) (after_outcome o tx group)
    by None = counted name group client seq op
    by (Some outcome) = commits outcome (is_commit outcome)
counted_by name (Coordinating tx body order heard_vote) transactions group client seq op opens is = absurd (true≢false (sym opens))
counted_by name (Promised tx offer) transactions group client seq op opens is = absurd (true≢false (sym opens))

-- ---- the groups of a ring

same_groups : (world later : StoreWorld) (ring : List Cut) → ((name : Draw) → effective later name ≡ effective world name) → flat_map (ring_group_in later) ring ≡ flat_map (ring_group_in world) ring
same_groups world later [] same = refl
same_groups world later (cut ∷ ring) same =
    ap₂ (λ (a b : List RingGroup). a ++ b) (ap (λ o. option_to_list (option_map (ring_group_of cut.group) o)) (same cut.group)) (same_groups world later ring same)

mapped_groups : (world later : StoreWorld) (f : RingGroup → RingGroup) (ring : List Cut) → ((cut : Cut) → ring_group_in later cut ≡ map f (ring_group_in world cut))
    → flat_map (ring_group_in later) ring ≡ map f (flat_map (ring_group_in world) ring)
mapped_groups world later f [] each = refl
mapped_groups world later f (cut ∷ ring) each =
    ap₂ (λ (a b : List RingGroup). a ++ b) (each cut) (mapped_groups world later f ring each)
    ∙ sym (map-append f (ring_group_in world cut) (flat_map (ring_group_in world) ring))

-- ---- a call

-- the old value of a reply that says that an operation was done
abbrev old_of : Effect → Option (List ℕ)
old_of (Done reply) = reply.old
old_of _ = None

module _ (world : StoreWorld) (name : Draw) (client seq : ℕ) (op : Op) (group : Group) (found : named_group name world.groups ≡ Some group) where
  -- the world after the call
  abbrev called_world : Group × Effect → StoreWorld
  called_world made = with_result world group (Call client seq op) made

  named : group.core.id ≡ name
  named = found_name name world.groups group found

  groups_are : (made : Group × Effect) (other : Draw) → named_group other (called_world made).groups ≡ named_group other (with_group group.core.id made.0 world.groups)
  groups_are made other = ap (named_group other) (append-nil (with_group group.core.id made.0 world.groups))

  -- the group itself
  found_here : (made : Group × Effect) → made.0.core.id ≡ group.core.id → (other : Draw) → other ≡ name → named_group other (called_world made).groups ≡ Some made.0
  found_here made same other is =
      groups_are made other
      ∙ ap (λ n. named_group n (with_group group.core.id made.0 world.groups)) (is ∙ sym named)
      ∙ found_now group.core.id made.0 world.groups group same (ap (λ n. named_group n world.groups) named ∙ found)

  -- another group
  found_there : (made : Group × Effect) → made.0.core.id ≡ group.core.id → (other : Draw) → (other ≡ name → ⊥) → named_group other (called_world made).groups ≡ named_group other world.groups
  found_there made same other differs = groups_are made other ∙ found_still group.core.id other made.0 world.groups same (λ e. differs (e ∙ named))

  effective_there : (made : Group × Effect) → made.0.core.id ≡ group.core.id → (other : Draw) → (other ≡ name → ⊥) → effective (called_world made) other ≡ effective world other
  effective_there made same other differs = ap (option_map (λ (g : Group). effective_by g.core.lock world.transactions g)) (found_there made same other differs)

  -- a group that stays is said to be as it was
  stays : (made : Group × Effect) → made.0 ≡ group → ring_groups_in (called_world made) ≡ ring_groups_in world
  stays made is = same_groups world (called_world made) world.ring (λ other. elim (draw_cases other name) [
    | inl e ↦
        ap (option_map (λ (g : Group). effective_by g.core.lock world.transactions g))
        (found_here made (ap (λ (g : Group). g.core.id) is) other e ∙ ap (λ (g : Group). Some g) is ∙ sym (ap (λ n. named_group n world.groups) e ∙ found))
    | inr differs ↦ effective_there made (ap (λ (g : Group). g.core.id) is) other differs
  ])

  -- a group whose operation was done has another number of pairs
  counts : is_open group.core.lock ≡ true → (cut : Cut)
      → ring_group_in (called_world (done group client seq op)) cut ≡ map (recounted name op (reply_of op group.pairs).old) (ring_group_in world cut)
  counts opens cut = elim (draw_cases cut.group name) [
    | inl e ↦
        let before : RingGroup = ring_group_of cut.group (effective_by group.core.lock world.transactions group) in
        let was : effective world cut.group ≡ Some (effective_by group.core.lock world.transactions group) =
        ap (option_map (λ (g : Group). effective_by g.core.lock world.transactions g)) (ap (λ n. named_group n world.groups) e ∙ found) in
        let is : effective (called_world (done group client seq op)) cut.group ≡ Some (effective_by group.core.lock world.transactions (done group client seq op).0) =
        ap (option_map (λ (g : Group). effective_by g.core.lock world.transactions g)) (found_here (done group client seq op) refl cut.group e) in
        ap (λ o. option_to_list (option_map (ring_group_of cut.group) o)) is
        ∙ ap (λ (g : RingGroup). g ∷ [])
        (counted_by cut.group group.core.lock world.transactions group client seq op opens refl
        ∙ sym (cond-true (same_draw cut.group name) (record before { pairs = count_after op (reply_of op group.pairs).old before.pairs }) before (same_name cut.group name e)))
        ∙ sym (ap (λ o. map (recounted name op (reply_of op group.pairs).old) (option_to_list (option_map (ring_group_of cut.group) o))) was)
    | inr differs ↦
        ap (λ o. option_to_list (option_map (ring_group_of cut.group) o)) (effective_there (done group client seq op) refl cut.group differs)
        ∙ others (effective world cut.group) cut.group (other_name cut.group name differs)
  ]
    where
      others : (o : Option Group) (other : Draw) → same_draw other name ≡ false
          → option_to_list (option_map (ring_group_of other) o) ≡ map (recounted name op (reply_of op group.pairs).old) (option_to_list (option_map (ring_group_of other) o))
      others None other differs = refl
      others (Some g) other differs =
          let said : RingGroup = ring_group_of other g in
          ap (λ (x : RingGroup). x ∷ []) (sym (cond-false (same_draw other name) (record said { pairs = count_after op (reply_of op group.pairs).old said.pairs }) said differs))

  does : is_open group.core.lock ≡ true → ring_groups_in (called_world (done group client seq op)) ≡ map (recounted name op (reply_of op group.pairs).old) (ring_groups_in world)
  does opens = mapped_groups world (called_world (done group client seq op)) (recounted name op (reply_of op group.pairs).old) world.ring (counts opens)

  -- by what the call made
  some_done : (made : Group × Effect) → ((is_open group.core.lock ≡ true) × (made ≡ done group client seq op)) ⊎ Stays group made → (reply : Reply) → made.1 ≡ Done reply
      → ring_groups_in (called_world made) ≡ map (recounted name op reply.old) (ring_groups_in world)
  some_done made (inl did) reply is =
      ap (λ m. ring_groups_in (called_world m)) did.1 ∙ does did.0
      ∙ ap (λ old. map (recounted name op old) (ring_groups_in world)) (sym (ap (λ (m : Group × Effect). old_of m.1) did.1) ∙ ap old_of is)
  some_done made (inr stayed) reply is = absurd (stayed.1 reply is)

  none_done : (made : Group × Effect) → ((is_open group.core.lock ≡ true) × (made ≡ done group client seq op)) ⊎ Stays group made → ((reply : Reply) → made.1 ≡ Done reply → ⊥)
      → ring_groups_in (called_world made) ≡ ring_groups_in world
  none_done made (inl did) nothing = absurd (nothing (reply_of op group.pairs) (ap (λ (m : Group × Effect). m.1) did.1))
  none_done made (inr stayed) nothing = stays made stayed.0

-- ---- a call of a group that may not be born

module _ (world : StoreWorld) (name : Draw) (client seq : ℕ) (op : Op) where
  done_by : (o : Option Group) → named_group name world.groups ≡ o → (reply : Reply) → Some (Done reply) ≡ option_map (λ (g : Group). (applied g (Call client seq op)).1) o
      → ring_groups_in (after_command world o (Call client seq op)) ≡ map (recounted name op reply.old) (ring_groups_in world)
  done_by None found reply is = absurd (none-some (Done reply) (sym is))
  done_by (Some group) found reply is =
      some_done world name client seq op group found (applied group (Call client seq op)) (call_is group.core.gone group.core.lock group client seq op) reply
      (sym (same_Some (Done reply) (applied group (Call client seq op)).1 is))

  not_done_by : (o : Option Group) → named_group name world.groups ≡ o → ((reply : Reply) → option_map (λ (g : Group). (applied g (Call client seq op)).1) o ≡ Some (Done reply) → ⊥)
      → ring_groups_in (after_command world o (Call client seq op)) ≡ ring_groups_in world
  not_done_by None found nothing = refl
  not_done_by (Some group) found nothing =
      none_done world name client seq op group found (applied group (Call client seq op)) (call_is group.core.gone group.core.lock group client seq op)
      (λ reply e. nothing reply (ap (λ (effect : Effect). Some effect) e))

-- after a call that was done, pairs are counted
pub follows_done : (world : StoreWorld) (entry : LogEntry) (client seq : ℕ) (op : Op) (reply : Reply) → entry.command ≡ Call client seq op → Some (Done reply) ≡ effect_in world entry
    → ring_groups_in (recorded world entry) ≡ map (recounted entry.group op reply.old) (ring_groups_in world)
follows_done world entry client seq op reply call is =
    let found : Option Group = named_group entry.group world.groups in
    ap (λ command. ring_groups_in (after_command world found command)) call
    ∙ done_by world entry.group client seq op found refl reply (is ∙ ap (λ command. option_map (λ (g : Group). (applied g command).1) found) call)

-- after another, nothing changes of what is said of the ring
pub follows_not : (world : StoreWorld) (entry : LogEntry) (client seq : ℕ) (op : Op) → entry.command ≡ Call client seq op → ((reply : Reply) → effect_in world entry ≡ Some (Done reply) → ⊥)
    → ring_groups_in (recorded world entry) ≡ ring_groups_in world
follows_not world entry client seq op call nothing =
    let found : Option Group = named_group entry.group world.groups in
    ap (λ command. ring_groups_in (after_command world found command)) call
    ∙ not_done_by world entry.group client seq op found refl (λ reply e. nothing reply (ap (λ command. option_map (λ (g : Group). (applied g command).1) found) call ∙ e))

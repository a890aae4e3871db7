-- Entries of a coordinator: what it hears of its participant and its watcher, and a split.
use Rattle.std.specs.Prelude.{is_some, not, nat_le, length}
use Rattle.std.proofs.Common.{◌≡◌, ℕ, ◌<◌, ◌^◌, Bool, true, false, cond, eqb, ◌&&◌, ◌||◌, [], ◌∷◌, ◌++◌, Option, Some, None, inl, inr, refl, sym, ap, ◌∙◌, subst}
use Rattle.std.specs.Option.{option_map}
use Rattle.std.specs.FinMap.{empty}
use Rattle.std.proofs.lemmas.Bool.{and_parts, cases_Bool, cond-true, cond-false, cond_both, eqb-false}
use Rattle.sc_base.specs.Definitions.{CanCut, before, from, holds}
use Rattle.sc_base.specs.declared.names.Draw.{Draw}
use Rattle.sc_base.proofs.Lemmas.{same_name}
use Rattle.sc_law_walks.proofs.WalkLemmas.{vote_step, watch_step}
use Rattle.sc_words.specs.declared.commands.bodies.Body.{Body}
use Rattle.sc_words.specs.declared.commands.bodies.Body.TheVariants as At
use Rattle.sc_words.specs.declared.commands.commands.Command.TheVariants.{RecordVote, RecordWatch, Split}
use Rattle.sc_words.specs.declared.commands.cores.Core.{Core}
use Rattle.sc_words.specs.declared.commands.cores.Lock.{Lock}
use Rattle.sc_words.specs.declared.commands.cores.Lock.TheVariants.{Free, Coordinating, Promised, Watching}
use Rattle.sc_words.specs.declared.commands.effects.Effect.{Effect}
use Rattle.sc_words.specs.declared.commands.effects.Effect.TheVariants as Was
use Rattle.sc_words.specs.declared.commands.orders.OrderRefusal.{OrderRefusal}
use Rattle.sc_words.specs.declared.commands.orders.OrderRefusal.TheVariants.{BadBoundary}
use Rattle.sc_words.specs.declared.commands.votes.Frozen.{Frozen}
use Rattle.sc_words.specs.declared.commands.votes.Heard.{Heard}
use Rattle.sc_words.specs.declared.commands.votes.Outcome.TheVariants.{Merged, Moved, Migrated, Divided}
use Rattle.sc_words.specs.declared.commands.votes.Past.{Past}
use Rattle.sc_words.specs.declared.commands.votes.Past.TheVariants as Cast
use Rattle.sc_words.specs.declared.commands.votes.Vote.{Vote}
use Rattle.sc_words.specs.declared.commands.votes.Vote.TheVariants as Says
use Rattle.sc_words.specs.commands.CommandDefinitions.{is_alone}
use Rattle.sc_words.specs.ideal.IdealDefinitions.{contents_after}
use Rattle.sc_group_table.specs.machine.MachineDefinitions.{Group, applied, split_group, locked_in, refusal_of, refused_in, can_cut, can_join, can_repart, can_split, closing_group, giving_group, has_key_of, merged_group, merged_route, migrated_group, part_gift, taken, taking_group, child_of, has_named, left_group, aborted, begun_group, decided, heard_group, is_coordinating}
use Rattle.sc_meaning.specs.entries.EntryDefinitions.{division_in, begun_split, decision, named_watcher, arc_in, ring_divided, StoreWorld, named_group}
use Rattle.sc_meaning.specs.declared.entries.Division.{Division}
use Rattle.sc_law_entries.specs.history.HistoryDefinitions.{RequestOf, MatchesHoldings, holding_of, IsItsOwn, IsParty, MayHear, MayHearWatcher, MaySplit, holdings_in}
use Rattle.sc_law_entries.proofs.HistoryProofs.Commits.{give_goes, merge_goes, migrate_goes, take_goes}
use Rattle.sc_law_entries.proofs.HistoryProofs.Divisions.{division_goes}
use Rattle.sc_law_entries.proofs.HistoryProofs.Elsewhere.{held_by, own_group, holds_own}
use Rattle.sc_law_entries.proofs.HistoryProofs.Finishing.{coordinator_held, free_held}
use Rattle.sc_law_entries.proofs.HistoryProofs.Holdings.{from_arc}
use Rattle.sc_law_entries.proofs.HistoryProofs.Outcomes.{abort_concluded, commit_in, one_begun, watcher_known}
use Rattle.sc_law_entries.proofs.HistoryProofs.Participants.{cut_is, gains, join_is, loses, no_common_key, rest_meets, welcomes}
use Rattle.sc_law_entries.proofs.HistoryProofs.Parties.{next_before, others_held}
use Rattle.sc_law_entries.proofs.HistoryProofs.PlanHoldings.{plans_move}
use Rattle.sc_law_entries.proofs.HistoryProofs.Staying.{Goes, free_by, idles, none_committed, order_cases, stays}

-- who coordinates a transaction
it_is : (group : Group) (tx : Draw) (body : Body) (order : ℕ) (heard : Option Heard) → group.core.lock ≡ Coordinating tx body order heard → is_coordinating group.core.lock tx ≡ true
it_is group tx body order heard lock = ap (λ l. is_coordinating l tx) lock ∙ same_name tx tx refl

-- ---- a participant's vote

module _ (request : RequestOf) (world : StoreWorld) (name : Draw) (group : Group) (found : named_group name world.groups ≡ Some group) (tx : Draw) (vote : Vote) (by : ℕ)
    (recorded : MatchesHoldings request world.history (holdings_in world)) (may : MayHear world group tx vote) where
  abbrev Hears : Group × Effect → Type 0
  Hears = Goes request world name group found (RecordVote tx vote by)

  quiet : Hears (group, Was.NoEffect tx)
  quiet = idles request world name group found (RecordVote tx vote by) (Was.NoEffect tx) refl refl refl refl

  module _ (fact : is_coordinating group.core.lock tx ≡ true) where
    coordinates : held_by world.transactions group ≡ holding_of group
    coordinates = coordinator_held world.transactions group tx group.core.lock refl fact

    aborts : Hears (aborted group tx)
    aborts = stays request world name group found (RecordVote tx vote by) (aborted group tx) refl refl (λ other. refl)
        (λ t. abort_concluded world.transactions tx group.core.id t (none_committed world tx (may.own fact).uncommitted)) (sym coordinates) refl refl

    module _ (frozen : Frozen) (yes_is : vote ≡ Says.Yes frozen) where
      abbrev own : IsItsOwn world group tx
      own = may.own fact

      abbrev party : IsParty world group tx frozen
      party = may.party fact frozen yes_is

      abbrev next : Group
      next = party.next

      closes : Hears (decided (closing_group group frozen) tx (Merged (merged_route group.core frozen)))
      closes =
          merge_goes request world name group found (RecordVote tx vote by) tx (Merged (merged_route group.core frozen)) (closing_group group frozen) frozen refl refl refl refl refl own party coordinates
          (merged_route group.core frozen) refl (ap (λ f. holding_of (closing_group group f)) party.handed ∙ (plans_move.joins group next).closing)

      hears : (order : ℕ) → Hears (heard_group group tx At.Merge order (record { frozen = frozen; by = by }), Was.Changed)
      hears order =
          stays request world name group found (RecordVote tx vote by) (heard_group group tx At.Merge order (record { frozen = frozen; by = by }), Was.Changed) refl refl (λ other. refl)
          (λ t. ap commit_in (watcher_known world.transactions tx group.core.id t (named_watcher vote))) (sym coordinates) refl refl

      gives : (at : ℕ) → at < 2 ^ 32 → holds group.core.arc at ≡ true → can_repart group.core at frozen ≡ true → Hears (decided (giving_group group at frozen) tx (Moved at (Some (part_gift group at))))
      gives at fits within can =
          let tested : can_cut group.core.arc at ≡ true = sym (cond-true (holds group.core.arc at) (can_cut group.core.arc at) (can_cut frozen.arc at && can_join group.core.arc (before frozen.arc at)) within) ∙ can in
          let cut = cut_is group.core.arc at tested in
          let own_is = own_group world name group found (RecordVote tx vote by) (group, Was.NoEffect tx) refl refl in
          let mine = holds_own world group.core.id group party.own_cut own_is coordinates in
          let theirs = next_before world group tx frozen own party in
          let arc = recorded.disjoint.arcs group.core.id (holding_of group) mine in
          let meet = rest_meets group.core.arc next.core.arc at arc.0 arc.1 fits cut party.meet in
          let whole = contents_after empty world.history in
          let none : has_key_of next.pairs (part_gift group at).pairs ≡ false =
          ap (λ m. has_key_of m (part_gift group at).pairs) (recorded.recorded group.core.succ.group (holding_of next) theirs).pairs
          ∙ no_common_key (from group.core.arc at) next.core.arc group.pairs whole
          (λ p h k. party.apart (recorded.disjoint.only p group.core.id group.core.succ.group (holding_of group) (holding_of next) mine theirs ((from_arc group.core.arc at arc fits cut).1 p h) k)) in
          give_goes request world name group found (RecordVote tx vote by) tx (Moved at (Some (part_gift group at))) (giving_group group at frozen) frozen refl refl refl refl refl own party coordinates
          at (Some (part_gift group at)) refl
          (ap (λ f. holding_of (giving_group group at f)) party.handed ∙ (plans_move.gives group next party.offer at party.offered within).own)
          (gains group next tx party.offer at party.lock party.offered within tested meet none)
          fits cut meet

      takes : (at : ℕ) → at < 2 ^ 32 → holds group.core.arc at ≡ false → (can_repart group.core at frozen && not (has_key_of group.pairs (taken at frozen).pairs)) ≡ true → Hears (decided (taking_group group at frozen) tx (Moved at None))
      takes at fits out can =
          let tested : (can_cut frozen.arc at && can_join group.core.arc (before frozen.arc at)) ≡ true =
          sym (cond-false (holds group.core.arc at) (can_cut group.core.arc at) (can_cut frozen.arc at && can_join group.core.arc (before frozen.arc at)) out)
          ∙ (and_parts (can_repart group.core at frozen) (not (has_key_of group.pairs (taken at frozen).pairs)) can).0 in
          let parts = and_parts (can_cut frozen.arc at) (can_join group.core.arc (before frozen.arc at)) tested in
          let their_arc : frozen.arc ≡ next.core.arc = ap (λ (f : Frozen). f.arc) party.handed in
          let cuts : can_cut next.core.arc at ≡ true = subst (λ a. can_cut a at ≡ true) their_arc parts.0 in
          let meets : can_join group.core.arc (before next.core.arc at) ≡ true = subst (λ a. can_join group.core.arc (before a at) ≡ true) their_arc parts.1 in
          take_goes request world name group found (RecordVote tx vote by) tx (Moved at None) (taking_group group at frozen) frozen refl refl refl refl refl own party coordinates
          at None refl
          (ap (λ f. holding_of (taking_group group at f)) party.handed ∙ (plans_move.takes group next at out).own)
          (loses next tx party.offer at party.lock cuts ∙ (plans_move.takes group next at out).lost)
          fits (cut_is next.core.arc at cuts) (join_is group.core.arc (before next.core.arc at) meets)

      migrates : (node : ℕ) → Hears (decided (migrated_group group node frozen) tx (Migrated node))
      migrates node =
          migrate_goes request world name group found (RecordVote tx vote by) tx (Migrated node) (migrated_group group node frozen) frozen refl refl refl refl refl own party coordinates
          node refl refl (welcomes next tx party.offer node party.lock)

  pub vote_goes : Goes request world name group found (RecordVote tx vote by) (applied group (RecordVote tx vote by))
  vote_goes =
      vote_step group tx vote by Hears (record {
        quiet = quiet;
        hears = λ order lock frozen votes other. hears (it_is group tx At.Merge order None lock) frozen votes order;
        aborts = λ body order lock why votes. aborts (it_is group tx body order None lock);
        closes = λ order lock frozen votes two can. closes (it_is group tx At.Merge order None lock) frozen votes;
        gives = λ at order lock frozen votes within can. gives (it_is group tx (At.Repart at) order None lock) frozen votes at (may.fits at order None lock) within can;
        takes = λ at order lock frozen votes out can. takes (it_is group tx (At.Repart at) order None lock) frozen votes at (may.fits at order None lock) out can;
        migrates = λ node order lock frozen votes can. migrates (it_is group tx (At.Migrate node) order None lock) frozen votes node;
      })

-- ---- a watcher's vote

module _ (request : RequestOf) (world : StoreWorld) (name : Draw) (group : Group) (found : named_group name world.groups ≡ Some group) (tx : Draw) (vote : Past) (by : ℕ) (may : MayHearWatcher world group tx vote) where
  abbrev HearsWatch : Group × Effect → Type 0
  HearsWatch = Goes request world name group found (RecordWatch tx vote by)

  still : HearsWatch (group, Was.NoEffect tx)
  still = idles request world name group found (RecordWatch tx vote by) (Was.NoEffect tx) refl refl refl refl

  watch_aborts : is_coordinating group.core.lock tx ≡ true → HearsWatch (aborted group tx)
  watch_aborts fact = stays request world name group found (RecordWatch tx vote by) (aborted group tx) refl refl (λ other. refl)
      (λ t. abort_concluded world.transactions tx group.core.id t (none_committed world tx (may.own fact).uncommitted)) (sym (coordinator_held world.transactions group tx group.core.lock refl fact)) refl refl

  watched_merge : is_coordinating group.core.lock tx ≡ true → (order : ℕ) (heard : Heard) → group.core.lock ≡ Coordinating tx At.Merge order (Some heard) → vote ≡ Cast.Yes → HearsWatch (decided (merged_group group heard.frozen) tx (Merged (merged_route group.core heard.frozen)))
  watched_merge fact order heard lock cast =
      let frozen = heard.frozen in
      let party = may.party order heard lock cast in
      merge_goes request world name group found (RecordWatch tx vote by) tx (Merged (merged_route group.core frozen)) (merged_group group frozen) frozen refl refl refl refl refl (may.own fact) party
      (coordinator_held world.transactions group tx group.core.lock refl fact)
      (merged_route group.core frozen) refl (ap (λ f. holding_of (merged_group group f)) party.handed ∙ (plans_move.joins group party.next).merged)

  watched_split : is_coordinating group.core.lock tx ≡ true → (at : ℕ) (child : Draw) (order : ℕ) (heard : Option Heard) → group.core.lock ≡ Coordinating tx (At.Split at child) order heard → vote ≡ Cast.Yes
      → can_split group.core at ≡ true → HearsWatch (decided (left_group group at child) tx Divided)
  watched_split fact at child order heard lock cast can =
      let facts = may.division at child order heard lock cast in
      division_goes request world name group found (RecordWatch tx vote by) (decided (left_group group at child) tx Divided) at child refl
      (ap (λ l. option_map (λ (d : Division). child_of group d.at d.child) (division_in l)) lock) facts.1
      (ap (λ l. ring_divided (division_in l) group.core.id world.ring) lock)
      refl (coordinator_held world.transactions group tx group.core.lock refl fact) refl
      (λ other g there. others_held world.transactions tx group.core.id Divided g g.core.lock refl (λ offer e. facts.2 other g offer there e))
      refl refl facts.0 (cut_is group.core.arc at (and_parts (can_cut group.core.arc at) (nat_le 2 (length group.core.members)) can).0)

  pub watch_goes : Goes request world name group found (RecordWatch tx vote by) (applied group (RecordWatch tx vote by))
  watch_goes =
      watch_step group tx vote HearsWatch (record {
        quiet = still;
        aborts = λ body order got lock no_yes. watch_aborts (it_is group tx body order got lock);
        divides = λ at child order got lock votes can. watched_split (it_is group tx (At.Split at child) order got lock) at child order got lock votes can;
        merges = λ order heard lock votes can. watched_merge (it_is group tx At.Merge order (Some heard) lock) order heard lock votes;
      })

-- ---- a split

either_test : (a b : Bool) → (a || not b) ≡ false → (a ≡ false) × (b ≡ true)
either_test true b e = (let no_way : true ≡ false = e in absurd (cc))
either_test false true e = (refl, refl)
either_test false false e = (let no_way : true ≡ false = e in absurd (cc))

some_refusal : (b : Bool) (why : OrderRefusal) (rest : Option OrderRefusal) → cond b (Some why) rest ≡ None → b ≡ false
some_refusal true why rest e = cc
some_refusal false why rest e = refl

-- a split that is not refused cuts the arc
split_cut : (lock : Lock) (core : Core) (at : ℕ) (child : Draw) (order : ℕ) → refused_in (locked_in lock) core (Split at child order) ≡ None → CanCut core.arc at
split_cut Free core at child order e =
    let parts = either_test (eqb at core.arc.lo) (holds core.arc at) (some_refusal ((eqb at core.arc.lo) || not (holds core.arc at)) BadBoundary _ e) in
    (parts.1, eqb-false at core.arc.lo parts.0)
split_cut (Coordinating tx body begun heard) core at child order e = cc
split_cut (Promised tx offer) core at child order e = cc
split_cut (Watching tx watch) core at child order e = cc

module _ (request : RequestOf) (world : StoreWorld) (name : Draw) (group : Group) (found : named_group name world.groups ≡ Some group) (at : ℕ) (child : Draw) (order : ℕ) (may : MaySplit world group at child) where
  abbrev Splits : Group × Effect → Type 0
  Splits = Goes request world name group found (Split at child order)

  module _ (named : has_named group.core child ≡ false) (here : group.core.gone ≡ None) (why : refusal_of group.core (Split at child order) ≡ None) where
    free : group.core.lock ≡ Free
    free = free_by group.core.lock group.core (Split at child order) why

    begins : is_alone group.core ≡ false → Splits (begun_group group child (At.Split at child) order, Was.Changed)
    begins alone =
        stays request world name group found (Split at child order) (begun_group group child (At.Split at child) order, Was.Changed) refl
        (ap (λ b. option_map (λ (d : Division). child_of group d.at d.child) (cond b (Some (record { at = at; child = child })) None)) alone)
        (λ other. ap (λ b. is_some (arc_in other (ring_divided (cond b (Some (record { at = at; child = child })) None) group.core.id world.ring))) alone)
        (λ t. ap (λ b. commit_in (decision t (cond (not b) (world.transactions ++ begun_split group.core at child ∷ []) world.transactions))) alone ∙ ap commit_in (one_begun world.transactions (begun_split group.core at child) t refl))
        (sym (free_held world.transactions group free)) refl refl

    divides : is_alone group.core ≡ true → Splits (left_group group at child, Was.Changed)
    divides alone =
        division_goes request world name group found (Split at child order) (left_group group at child, Was.Changed) at child refl
        (ap (λ b. option_map (λ (d : Division). child_of group d.at d.child) (cond b (Some (record { at = at; child = child })) None)) alone)
        (may.fresh alone here (ap locked_in free) named)
        (ap (λ b. ring_divided (cond b (Some (record { at = at; child = child })) None) group.core.id world.ring) alone)
        refl (free_held world.transactions group free) (free_held _ (left_group group at child) free)
        (λ other g there. ap (λ b. held_by (cond (not b) (world.transactions ++ begun_split group.core at child ∷ []) world.transactions) g) alone)
        refl refl may.fits (split_cut group.core.lock group.core at child order why)

    either : Splits (split_group group at child order, Was.Changed)
    either = elim (cases_Bool (is_alone group.core)) [
      | inl alone ↦ subst (λ g. Splits (g, Was.Changed)) (sym (cond-true (is_alone group.core) (left_group group at child) (begun_group group child (At.Split at child) order) alone)) (divides alone)
      | inr not_alone ↦ subst (λ g. Splits (g, Was.Changed)) (sym (cond-false (is_alone group.core) (left_group group at child) (begun_group group child (At.Split at child) order) not_alone)) (begins not_alone)
    ]

  pub split_goes : Goes request world name group found (Split at child order) (applied group (Split at child order))
  split_goes =
      cond_both (has_named group.core child) _ _ Splits
      (λ _. idles request world name group found (Split at child order) (Was.NoEffect child) refl refl refl refl)
      (λ named. order_cases Splits group.core.gone (refusal_of group.core (Split at child order)) (split_group group at child order) group
      (λ refusal. idles request world name group found (Split at child order) (Was.Refused refusal) refl refl refl refl)
      (λ here why. either named here why))

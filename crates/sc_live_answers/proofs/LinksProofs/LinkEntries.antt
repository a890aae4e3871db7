-- Links and routes name nodes that were members, after every list of allowed entries; and where no group is bound at the end, none of these is yet to come.
use Rattle.std.proofs.Common.{◌≡◌, ℕ, ◌⊎◌, List, [], ◌∷◌, ◌++◌, Option, Some, None, inl, inr, refl, sym, ◌∙◌, ap, subst, append_assoc, append-nil}
use Rattle.std.specs.Prelude.{map}
use Rattle.std.specs.Option.{option_map}
use Rattle.std.proofs.lemmas.Bool.{cond_both}
use Rattle.std.proofs.lemmas.Option.{none-some, same_Some}
use Rattle.sc_base.specs.Definitions.{Among, same_draw, is_member}
use Rattle.sc_node_table.specs.Values.{Draw, Body, Offer, Command, RecordVote, Finish, Base, Lock, Free, Coordinating, Promised, Watching, Effect, Heard, Outcome, Abort, Migrated, Vote}
use Rattle.sc_words.specs.declared.commands.bodies.Body.TheVariants as At
use Rattle.sc_words.specs.declared.commands.effects.Effect.TheVariants as Was
use Rattle.sc_words.specs.declared.commands.votes.Vote.TheVariants as Ballot
use Rattle.sc_group_table.specs.machine.MachineDefinitions.{Group, group_of, state_after, applied, child_of, participant_answered, asks_watcher, vote_recorded, participant_after}
use Rattle.sc_meaning.specs.entries.EntryDefinitions.{division_of, birth_of, StoreWorld, is_named, named_group, after_command, world_of}
use Rattle.sc_meaning.specs.declared.entries.Division.{Division}
use Rattle.sc_meaning.specs.declared.entries.LogEntry.{LogEntry}
use Rattle.sc_meaning.proofs.EntriesProofs.EntryLemmas.{draw_cases, found_name}
use Rattle.sc_law_entries.proofs.HistoryProofs.HistoryLemmas.{own_first, other_first, logs_make_states, applied_same}
use Rattle.sc_law_entries.specs.ring.RingDefinitions.{Sources, IsVoteCast, IsAllowed, AreAllowed, StoryWorld, first_recorded, recorded_stories, recorded_next, recorded_after, Groups, Facts, BeginInPlace, stories_of, Story, Stories, put, unsigned, offer_for, stories_after}
use Rattle.sc_law_entries.proofs.RingProofs.RingLemmas.{at-same, at-other, from_at, arcs_in, own_story, same_lock, some_none, allowed_entries_stay_allowed, store_after, at_start, groups_in, with_child, groups_are, KeptWorld, kept_after, fits}
use Rattle.sc_words.proofs.PaxosProofs.PaxosLemmas.{find_found}
use Rattle.sc_paxos_law.proofs.Lemmas.{from_map}
use Rattle.sc_law_entries.proofs.LogsProofs.LogLemmas.{allowed_parts, allows, groups_allow_others, recorded_append}
use Rattle.sc_law_entries.specs.logs.LogDefinitions.{MakesAllowed}
use Rattle.sc_live_answers.proofs.LinksProofs.LinkOutcomes.{Good, IsLinkedSo, GivesAllowedOrder}
use Rattle.sc_live_answers.proofs.LinksProofs.LinkEffects.{Lands, lands}
use Rattle.sc_live_answers.proofs.RestProofs.BoundGroups.{stays_or_ends, takes_node}

-- ---- all entries

module _ (sources : Sources) (bases : List Base) (start : BeginInPlace sources bases) (entries : List LogEntry) (all_allowed : AreAllowed sources (first_recorded bases) entries) where
  abbrev pub at_prefix : List LogEntry → StoryWorld
  at_prefix prefix = recorded_after (first_recorded bases) prefix

  abbrev pub groups_then : List LogEntry → Groups
  groups_then prefix = groups_in (at_prefix prefix).store.groups

  kept : (prefix more : List LogEntry) → entries ≡ prefix ++ more → KeptWorld sources.owner (at_prefix prefix)
  kept prefix more are = kept_after sources (first_recorded bases) prefix (at_start sources bases start) (allowed_parts sources (first_recorded bases) prefix more (subst (AreAllowed sources (first_recorded bases)) are all_allowed)).0

  next_allowed : (prefix : List LogEntry) (e : LogEntry) (more : List LogEntry) → entries ≡ prefix ++ e ∷ more → IsAllowed sources (at_prefix prefix).stories e.group e.command
  next_allowed prefix e more are = (allowed_parts sources (first_recorded bases) prefix (e ∷ more) (subst (AreAllowed sources (first_recorded bases)) are all_allowed)).1.0

  -- what is allowed stays so to the end
  to_end : (prefix more : List LogEntry) → entries ≡ prefix ++ more → (name : Draw) (command : Command) → IsAllowed sources (at_prefix prefix).stories name command → IsAllowed sources (stories_of bases entries) name command
  to_end prefix more are name command a =
      let parts = allowed_parts sources (first_recorded bases) prefix more (subst (AreAllowed sources (first_recorded bases)) are all_allowed) in
      subst (λ (w : StoryWorld). IsAllowed sources w.stories name command) (sym (ap (recorded_after (first_recorded bases)) are ∙ recorded_append (first_recorded bases) prefix more))
      (allowed_entries_stay_allowed sources bases prefix more start parts.0 parts.1 name command a)

  longer : (prefix : List LogEntry) (e : LogEntry) (more : List LogEntry) → entries ≡ prefix ++ e ∷ more → entries ≡ (prefix ++ e ∷ []) ++ more
  longer prefix e more are = are ∙ sym (append_assoc prefix (e ∷ []) more)

  next_world : (prefix : List LogEntry) (e : LogEntry) → at_prefix (prefix ++ e ∷ []) ≡ recorded_next (at_prefix prefix) e
  next_world prefix e = recorded_append (first_recorded bases) prefix (e ∷ [])

  -- a group that an entry names, and every other one
  own_then : (prefix : List LogEntry) (e : LogEntry) (s : Group) → groups_then prefix e.group ≡ Some s → groups_then (prefix ++ e ∷ []) e.group ≡ Some (applied s e.command).0
  own_then prefix e s found =
      ap (λ (w : StoryWorld). named_group e.group w.store.groups) (next_world prefix e) ∙ logs_make_states (at_prefix prefix).store e.group s found (e ∷ []) ∙ ap (λ cs. Some (state_after s cs)) (own_first e.group e [] refl)

  other_then : (prefix : List LogEntry) (e : LogEntry) (name : Draw) (p : Group) → (e.group ≡ name → ⊥) → groups_then prefix name ≡ Some p → groups_then (prefix ++ e ∷ []) name ≡ Some p
  other_then prefix e name p ne found =
      ap (λ (w : StoryWorld). named_group name w.store.groups) (next_world prefix e) ∙ logs_make_states (at_prefix prefix).store name p found (e ∷ []) ∙ ap (λ cs. Some (state_after p cs)) (other_first name e [] ne)

  module _ (Were : Draw → ℕ → Type 0) (were : (prefix more : List LogEntry) → entries ≡ prefix ++ more → (name : Draw) (u : Group) → groups_then prefix name ≡ Some u → Good Were name u.core.members) where
    -- a node moves to a group that has promised, and the story says so
    pub record Moves (name : Draw) (node : ℕ) : Type 0 where
      pub tx : Draw
      pub offer : Offer
      pub part : offer.part ≡ name
      pub prefix : List LogEntry
      pub more : List LogEntry
      pub are : entries ≡ prefix ++ more
      pub group : Group
      pub fact : groups_then prefix name ≡ Some group
      pub lock : group.core.lock ≡ Promised tx offer
      pub told : IsAllowed sources (stories_of bases entries) name (Finish tx (Migrated node))

    abbrev pub Come : Draw → ℕ → Type 0
    Come name node = Were name node ⊎ Moves name node

    -- ---- where none is bound at the end, it has come

    module _ (name : Draw) (free : (u : Group) → groups_then entries name ≡ Some u → u.core.lock ≡ Free) (node : ℕ) (tx : Draw) (offer : Offer) (told : IsAllowed sources (stories_of bases entries) name (Finish tx (Migrated node))) where
      free_promised : (l : Lock) → l ≡ Free → l ≡ Promised tx offer → ⊥
      free_promised l e f = cc

      same_outcome : (o : Outcome) → IsAllowed sources (stories_of bases entries) name (Finish tx o) → o ≡ Migrated node
      same_outcome o a = (let same : a.0 ≡ told.0 = same_Some a.0 told.0 (sym a.1 ∙ told.1) in same_Some o (Migrated node) (sym a.2 ∙ (ap (λ (y : Story). y.outcome) same ∙ told.2)))

      walk : (more prefix : List LogEntry) → entries ≡ prefix ++ more → (p : Group) → groups_then prefix name ≡ Some p → p.core.lock ≡ Promised tx offer → Were name node
      walk [] prefix are p fact lock = absurd (free_promised p.core.lock (free p (ap (λ es. groups_then es name) (are ∙ append-nil prefix) ∙ fact)) lock)
      walk (e ∷ more) prefix are p fact lock = elim (draw_cases e.group name) [
        | inr ne ↦ walk more (prefix ++ e ∷ []) (longer prefix e more are) p (other_then prefix e name p ne fact) lock
        | inl same ↦ (
            let now : groups_then (prefix ++ e ∷ []) name ≡ Some (applied p e.command).0 = ap (groups_then (prefix ++ e ∷ [])) (sym same) ∙ own_then prefix e p (ap (groups_then prefix) same ∙ fact) in
            elim (stays_or_ends p tx offer lock e.command) [
              | inl stays ↦ walk more (prefix ++ e ∷ []) (longer prefix e more are) (applied p e.command).0 now stays
              | inr end ↦ (
                  let may = subst (λ n. IsAllowed sources (at_prefix prefix).stories n e.command) same (next_allowed prefix e more are) in
                  let last = to_end prefix (e ∷ more) are name (Finish tx end.outcome) (subst (IsAllowed sources (at_prefix prefix).stories name) end.by may) in
                  let takes = ap (λ o. participant_after o p offer) (sym (same_outcome end.outcome last)) ∙ end.takes in
                  (were (prefix ++ e ∷ []) more (longer prefix e more are) name (applied p e.command).0 now).1 node
                  (ap (λ (g : Group). is_member g.core.members node) end.fact ∙ takes_node p tx offer lock node end.left takes))
            ])
      ]

    pub moved : (name : Draw) → ((u : Group) → groups_then entries name ≡ Some u → u.core.lock ≡ Free) → (node : ℕ) → Come name node → Were name node
    moved name free node (inl was) = was
    moved name free node (inr m) = walk name free node m.tx m.offer m.told m.more m.prefix m.are m.group m.fact m.lock

    -- ---- one more entry

    abbrev come : (name : Draw) (node : ℕ) → Were name node → Come name node
    come name node w = inl w

    -- what holds of groups and of stories
    abbrev pub AreLinkedSo : Groups → Stories → Type 0
    AreLinkedSo gs ys = ((name : Draw) (u : Group) → gs name ≡ Some u → IsLinkedSo Were Come come u.core) × ((tx : Draw) (y : Story) → ys tx ≡ Some y → GivesAllowedOrder Were Come come y)

    module _ (prefix : List LogEntry) (e : LogEntry) (more : List LogEntry) (are : entries ≡ prefix ++ e ∷ more) (s : Group) (found : groups_then prefix e.group ≡ Some s) where
      abbrev gs : Groups
      gs = groups_then prefix

      abbrev ys : Stories
      ys = (at_prefix prefix).stories

      abbrev r : Group × Effect
      r = applied s e.command

      abbrev division : Option Division
      division = division_of s.core e.command r.1

      k : KeptWorld sources.owner (at_prefix prefix)
      k = kept prefix (e ∷ more) are

      may : IsAllowed sources ys e.group e.command
      may = next_allowed prefix e more are

      facts : Facts sources.owner gs ys
      facts = k.kept.0

      named : s.core.id ≡ e.group
      named = found_name e.group (at_prefix prefix).store.groups s found

      here : gs s.core.id ≡ Some s
      here = ap gs named ∙ found

      new_child : (d : Division) → division ≡ Some d → gs d.child ≡ None
      new_child d fact = (fits sources (arcs_in (at_prefix prefix).store.ring) gs ys e.group s k.kept found e.command may).births d fact

      new_base : (o : Option Division) → ((d : Division) → o ≡ Some d → gs d.child ≡ None) → (base : Base) → option_map (λ (d : Division). child_of s d.at d.child) o ≡ Some base → put gs s.core.id (Some r.0) base.core.id ≡ None
      new_base None fresh base q = absurd (none-some base q)
      new_base (Some d) fresh base q =
          let id : d.child ≡ base.core.id = ap (λ (b : Base). b.core.id) (same_Some (child_of s d.at d.child) base q) in
          at-other gs s.core.id (Some r.0) base.core.id (λ w. some_none s (sym here ∙ (ap gs (sym w) ∙ (ap gs (sym id) ∙ fresh d refl)))) ∙ (ap gs (sym id) ∙ fresh d refl)

      names_now : (h : Draw) → groups_then (prefix ++ e ∷ []) h ≡ with_child (put gs s.core.id (Some r.0)) (birth_of s e.command r.1) h
      names_now h =
          ap (λ (w : StoryWorld). named_group h w.store.groups) (next_world prefix e)
          ∙ (ap (λ o. named_group h (after_command (at_prefix prefix).store o e.command).groups) found
          ∙ groups_are s r.0 (birth_of s e.command r.1) (at_prefix prefix).store.groups (applied_same s e.command).0 here (new_base division new_child) h)

      child_now : (d : Division) → division ≡ Some d → groups_then (prefix ++ e ∷ []) d.child ≡ Some (group_of (child_of s d.at d.child))
      child_now d fact =
          names_now d.child ∙ (ap (λ o. with_child (put gs s.core.id (Some r.0)) (option_map (λ (x : Division). child_of s x.at x.child) o) d.child) fact
          ∙ at-same (put gs s.core.id (Some r.0)) d.child (Some (group_of (child_of s d.at d.child))))

      -- who is there
      abbrev IsOneOf : Draw → Group → Type 0
      IsOneOf h u = (u ≡ r.0) ⊎ ((gs h ≡ Some u) ⊎ ((d : Division) × (division ≡ Some d) × (group_of (child_of s d.at d.child) ≡ u)))

      put_is : (h : Draw) (u : Group) → put gs s.core.id (Some r.0) h ≡ Some u → IsOneOf h u
      put_is h u w = elim (from_at gs s.core.id (Some r.0) h (Some u) w) [ inl m ↦ inl (sym (same_Some r.0 u m.1)) | inr m ↦ inr (inl m.1) ]

      who_now : (o : Option Division) → division ≡ o → (h : Draw) (u : Group) → with_child (put gs s.core.id (Some r.0)) (option_map (λ (d : Division). child_of s d.at d.child) o) h ≡ Some u → IsOneOf h u
      who_now None fact h u w = put_is h u w
      who_now (Some d) fact h u w = elim (from_at (put gs s.core.id (Some r.0)) d.child (Some (group_of (child_of s d.at d.child))) h (Some u) w) [
        | inl m ↦ inr (inr (d, fact, same_Some (group_of (child_of s d.at d.child)) u m.1))
        | inr m ↦ put_is h u m.1
      ]

      -- ---- a node that moves

      none_decided : (node : ℕ) (t : Draw) → Was.NoEffect t ≡ Was.Decided (Migrated node) → ⊥
      none_decided node t w = cc

      no_abort : (node : ℕ) → Was.Decided Abort ≡ Was.Decided (Migrated node) → ⊥
      no_abort node w = cc

      -- who is asked has promised
      record HasPromised (tx : Draw) : Type 0 where
        offer : Offer
        part : offer.part ≡ s.core.succ.group
        group : Group
        fact : gs offer.part ≡ Some group
        lock : group.core.lock ≡ Promised tx offer

      offer_part : (body : Body) (o : Offer) → offer_for s.core body ≡ Some o → o.part ≡ s.core.succ.group
      offer_part At.Merge o w = ap (λ (x : Offer). x.part) (sym (same_Some _ o w))
      offer_part (At.Repart at) o w = ap (λ (x : Offer). x.part) (sym (same_Some _ o w))
      offer_part (At.Migrate node) o w = ap (λ (x : Offer). x.part) (sym (same_Some _ o w))
      offer_part (At.Split at child) o w = absurd (none-some o w)

      module _ (tx : Draw) (by node : ℕ) where
        by_vote : (body : Body) (order : ℕ) (h : Option Heard) → s.core.lock ≡ Coordinating tx body order h → (vote : Vote) → IsVoteCast ys tx vote → (participant_answered vote body s tx order by).1 ≡ Was.Decided (Migrated node) → HasPromised tx
        by_vote body order h lock (Ballot.No why) cast w = absurd (no_abort node w)
        by_vote body order h lock (Ballot.Yes f) cast w =
            let own = own_story gs ys sources.owner e.group s tx body order h facts found lock in
            let y_is : cast.0 ≡ own.story = same_Some cast.0 own.story (sym cast.1 ∙ own.fact) in
            let frozen = (facts.story tx own.story own.fact).frozen own.undecided f (ap (λ (y : Story). y.vote) (sym y_is) ∙ cast.2) in
            record { offer = frozen.offer; part = offer_part body (unsigned frozen.offer) (sym own.offer ∙ frozen.offered); group = frozen.group; fact = frozen.fact; lock = frozen.lock }

        has_promised : (vote : Vote) → IsVoteCast ys tx vote → (l : Lock) → s.core.lock ≡ l → (vote_recorded l s tx vote by).1 ≡ Was.Decided (Migrated node) → HasPromised tx
        has_promised vote cast Free lock w = absurd (none_decided node tx w)
        has_promised vote cast (Promised t offer) lock w = absurd (none_decided node tx w)
        has_promised vote cast (Watching t watch) lock w = absurd (none_decided node tx w)
        has_promised vote cast (Coordinating t body order h) lock w =
            cond_both (same_draw t tx) _ _ (λ (x : Group × Effect). x.1 ≡ Was.Decided (Migrated node) → HasPromised tx)
            (λ q. cond_both (asks_watcher body h) _ _ (λ (x : Group × Effect). x.1 ≡ Was.Decided (Migrated node) → HasPromised tx) (λ _ v. absurd (none_decided node tx v))
            (λ _ v. by_vote body order h (same_lock s.core.lock t tx body order h lock q) vote cast v))
            (λ _ v. absurd (none_decided node tx v)) w

      moves_there : (tx : Draw) (vote : Vote) (by node : ℕ) → e.command ≡ RecordVote tx vote by → r.1 ≡ Was.Decided (Migrated node) → Come s.core.succ.group node
      moves_there tx vote by node fact w =
          let decided : (applied s (RecordVote tx vote by)).1 ≡ Was.Decided (Migrated node) = ap (λ c. (applied s c).1) (sym fact) ∙ w in
          let has = has_promised tx by node vote (subst (IsAllowed sources ys e.group) fact may) s.core.lock refl decided in
          let there : named_group e.group (world_of bases prefix).groups ≡ Some s = ap (λ (x : StoreWorld). named_group e.group x.groups) (sym (store_after (first_recorded bases) prefix)) ∙ found in
          let makes = (groups_allow_others sources e.group s).votes tx vote by (Migrated node) decided s.core.succ.group in
          inr (record {
            tx = tx;
            offer = has.offer;
            part = has.part;
            prefix = prefix;
            more = e ∷ more;
            are = are;
            group = has.group;
            fact = ap gs (sym has.part) ∙ has.fact;
            lock = has.lock;
            told = subst (λ es. IsAllowed sources (stories_of bases es) s.core.succ.group (Finish tx (Migrated node))) (sym are)
                (allows sources bases start prefix e s there s.core.succ.group (Finish tx (Migrated node)) (subst (λ c. MakesAllowed sources e.group s c s.core.succ.group (Finish tx (Migrated node))) (sym fact) makes) more (subst (AreAllowed sources (first_recorded bases)) are all_allowed));
          })

      module _ (linked : AreLinkedSo gs ys) where
        landed : Lands Were Come come sources gs ys e.group s facts found (linked.0 e.group s found) linked.1 (were prefix (e ∷ more) are e.group s found) e.command r
        landed =
            lands Were Come come sources gs ys e.group s facts found (linked.0 e.group s found) linked.1 (were prefix (e ∷ more) are e.group s found) e.command may
            (were (prefix ++ e ∷ []) more (longer prefix e more are) e.group r.0 (own_then prefix e s found))
            (λ d fact. were (prefix ++ e ∷ []) more (longer prefix e more are) d.child (group_of (child_of s d.at d.child)) (child_now d fact)) moves_there

        linked_group : (h : Draw) (u : Group) → IsOneOf h u → IsLinkedSo Were Come come u.core
        linked_group h u (inl fact) = subst (λ (g : Group). IsLinkedSo Were Come come g.core) (sym fact) landed.core
        linked_group h u (inr (inl was)) = linked.0 h u was
        linked_group h u (inr (inr c)) = subst (λ (g : Group). IsLinkedSo Were Come come g.core) c.2 (landed.born c.0 c.1)

        stories_now : (at_prefix (prefix ++ e ∷ [])).stories ≡ stories_after s e.command r.1 ys
        stories_now = ap (λ (w : StoryWorld). w.stories) (next_world prefix e) ∙ ap (λ o. recorded_stories ys o e.command) found

        linked_next : AreLinkedSo (groups_then (prefix ++ e ∷ [])) (at_prefix (prefix ++ e ∷ [])).stories
        linked_next = (
          λ h u w. linked_group h u (who_now division refl h u (sym (names_now h) ∙ w)),
          λ tx y w. landed.told tx y (ap (λ (z : Stories). z tx) (sym stories_now) ∙ w),
        )

    -- ---- after each prefix

    linked_on : (prefix : List LogEntry) (e : LogEntry) (more : List LogEntry) → entries ≡ prefix ++ e ∷ more → (o : Option Group) → groups_then prefix e.group ≡ o → AreLinkedSo (groups_then prefix) (at_prefix prefix).stories
        → AreLinkedSo (groups_then (prefix ++ e ∷ [])) (at_prefix (prefix ++ e ∷ [])).stories
    linked_on prefix e more are (Some s) found k = linked_next prefix e more are s found k
    linked_on prefix e more are None found k =
        let same : at_prefix (prefix ++ e ∷ []) ≡ at_prefix prefix = next_world prefix e ∙ ap (λ o. record { store = after_command (at_prefix prefix).store o e.command; stories = recorded_stories (at_prefix prefix).stories o e.command }) found in
        subst (λ (w : StoryWorld). AreLinkedSo (groups_in w.store.groups) w.stories) (sym same) k

    linked_from : (more prefix : List LogEntry) → entries ≡ prefix ++ more → AreLinkedSo (groups_then prefix) (at_prefix prefix).stories → AreLinkedSo (groups_then entries) (at_prefix entries).stories
    linked_from [] prefix are k = subst (λ es. AreLinkedSo (groups_then es) (at_prefix es).stories) (sym (are ∙ append-nil prefix)) k
    linked_from (e ∷ more) prefix are k = linked_from more (prefix ++ e ∷ []) (longer prefix e more are) (linked_on prefix e more are (groups_then prefix e.group) refl k)

    pub all_linked : ((base : Base) → Among base bases → Good Were base.core.succ.group base.core.succ.members) → AreLinkedSo (groups_then entries) (at_prefix entries).stories
    all_linked begin = linked_from entries [] refl (
      λ name u w. (
          let b = from_map group_of bases u (find_found (is_named name) (map group_of bases) u w).0 in
          subst (λ (g : Group). IsLinkedSo Were Come come g.core) b.2 (record {
            succ = (let g = begin b.0 b.1 in (g.0, λ node m. inl (g.1 node m)));
            gone = λ into q. absurd (none-some into (sym (start.first b.0 b.1).here ∙ q));
          })),
      λ tx y w. absurd (none-some y w),
    )

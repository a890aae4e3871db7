-- Where the participant of a merge has voted Yes, both groups have at most nine members together.
use Rattle.std.proofs.Common.{◌≡◌, ℕ, ◌≤◌, nat_lt, eqb, List, [], ◌∷◌, length, map, Option, Some, None, inl, inr, refl, sym, ◌∙◌, ap, subst, option_to_list, arith}
use Rattle.std.proofs.lemmas.Bool.{ltb-false, cond_both}
use Rattle.std.proofs.lemmas.Option.{same_Some}
use Rattle.sc_base.specs.Definitions.{Among, Each, end_of, IsRoster, united}
use Rattle.sc_node_table.specs.Values.{Draw, Body, Offer, Command, Prepared, RecordVote, GiveUp, RecordWatch, Base, Core, Effect, Route, Frozen, No, Outcome, Past, Vote}
use Rattle.sc_words.specs.declared.commands.bodies.Body.TheVariants as At
use Rattle.sc_words.specs.declared.commands.votes.No.TheVariants as Why
use Rattle.sc_words.specs.declared.commands.votes.Past.TheVariants as Cast
use Rattle.sc_words.specs.declared.commands.votes.Vote.TheVariants as Vows
use Rattle.sc_words.specs.commands.CommandDefinitions.{is_changed, decided_in}
use Rattle.sc_group_table.specs.machine.MachineDefinitions.{Group, group_of, applied, locked_in, frozen_of, has_voted, size_no, body_no, offer_no, no_of, vote_of, past_of}
use Rattle.sc_meaning.specs.entries.EntryDefinitions.{birth_of, is_named, named_group, with_group, groups_after, after_command}
use Rattle.sc_meaning.specs.declared.entries.LogEntry.{LogEntry}
use Rattle.sc_meaning.proofs.EntriesProofs.EntryLemmas.{births_are_children}
use Rattle.sc_words.proofs.PaxosProofs.PaxosLemmas.{Each-among, Each-append, find_found}
use Rattle.sc_law_entries.specs.ring.RingDefinitions.{Sources, IsAllowed, AreAllowed, StoryWorld, first_recorded, recorded_next, recorded_after, recorded_stories, stories_of, Story, Stories, unsigned, new_story, vote_by, vote_in, with_vote, with_watch_vote, with_decision, with_asked, stories_after}
use Rattle.sc_law_groups.specs.whole.WholeDefinitions.{IsFresh, MergesFit}
use Rattle.sc_law_groups.proofs.WholeProofs.StoryWalks.{stories_keep}
use Rattle.sc_law_groups.proofs.WholeProofs.FreshChildren.{fresh_child}
use Rattle.sc_law_groups.proofs.WholeProofs.Members.{members_after}
use Rattle.sc_law_groups.proofs.WholeProofs.Unions.{either_way}

-- ---- stories

-- what a story says of its offer
abbrev FitsStory : Story → Type 0
FitsStory y =
    ((offer : Offer) → y.offer ≡ Some offer → IsRoster offer.members)
    × ((offer : Offer) → y.offer ≡ Some offer → offer.body ≡ At.Merge → (frozen : Frozen) → y.vote ≡ Some (Vows.Yes frozen) → length (united offer.members frozen.members) ≤ 9)

-- so does each
abbrev AllFit : Stories → Type 0
AllFit ys = (tx : Draw) (y : Story) → ys tx ≡ Some y → FitsStory y

-- none is no vote
pub no_vote : (frozen : Frozen) → None ≡ Some (Vows.Yes frozen) → ⊥
no_vote frozen e = cc

-- the members in an offer are a roster
offer_roster : (s : Group) → IsRoster s.core.members → (body : Body) (offer : Offer) → (new_story s body).offer ≡ Some offer → IsRoster offer.members
offer_roster s roster At.Merge offer e = subst (λ (o : Offer). IsRoster o.members) (same_Some _ offer e) roster
offer_roster s roster (At.Repart at) offer e = subst (λ (o : Offer). IsRoster o.members) (same_Some _ offer e) roster
offer_roster s roster (At.Migrate node) offer e = subst (λ (o : Offer). IsRoster o.members) (same_Some _ offer e) roster
offer_roster s roster (At.Split at child) offer e = (let no_way : None ≡ Some offer = e in absurd (cc))

-- a story that begins fits
fit_new : (s : Group) → IsRoster s.core.members → (body : Body) → FitsStory (new_story s body)
fit_new s roster body = (offer_roster s roster body, λ offer e merge frozen v. absurd (no_vote frozen v))

-- what a watcher votes leaves the offer
watched_fit : (o : Option Past) (y : Story) → FitsStory y → FitsStory (with_watch_vote o y)
watched_fit None y k = k
watched_fit (Some past) y k = k

-- so does what is decided
decided_fit : (o : Option Outcome) (y : Story) → FitsStory y → FitsStory (with_decision o y)
decided_fit None y k = k
decided_fit (Some outcome) y k = k

-- so does what a watcher is asked
asked_fit : (core : Core) (vote : Vote) (y : Story) → FitsStory y → FitsStory (with_asked core vote y)
asked_fit core (Vows.Yes frozen) y k = k
asked_fit core (Vows.No why) y k = k

-- ---- a vote

-- a size that is not refused is at most nine
few : (n : ℕ) → size_no n ≡ None → n ≤ 9
few n = cond_both (nat_lt 9 n) _ None (λ o. o ≡ None → n ≤ 9) (λ _ e. cc) (λ f e. ltb-false 9 n f)

-- where nothing refuses there is no reason to
open_why : (gone : Option Route) (tx : Option Draw) (why : Option No) → no_of gone tx why ≡ None → why ≡ None
open_why (Some into) tx why e = cc
open_why None (Some t) why e = cc
open_why None None why e = e

-- a merge that is voted for has few enough members
merge_few : (core : Core) (offer : Offer) → offer.body ≡ At.Merge → vote_of core offer ≡ None → length (united core.members offer.members) ≤ 9
merge_few core offer merge e =
    let why = open_why core.gone (locked_in core.lock) (offer_no core offer) e in
    cond_both (eqb core.arc.lo (end_of offer.arc)) (body_no offer.body core offer) (Some Why.Apart) (λ o. o ≡ None → length (united core.members offer.members) ≤ 9)
    (λ _ k. few (length (united core.members offer.members)) (ap (λ b. body_no b core offer) (sym merge) ∙ k)) (λ _ k. cc) why

-- a vote that has no reason against is Yes
past_yes : (why : Option No) → past_of why ≡ Cast.Yes → why ≡ None
past_yes None e = refl
past_yes (Some reason) e = cc

-- a Yes was cast as one, and freezes the group as it is
voted_few : (s : Group) (past : Past) (frozen : Frozen) → vote_by s past ≡ Some (Vows.Yes frozen) → (past ≡ Cast.Yes) × (frozen_of s ≡ frozen)
voted_few s Cast.Yes frozen e = (refl, cc)
voted_few s (Cast.No why) frozen e = cc
voted_few s Cast.Ended frozen e = cc

-- a Yes on a merge
yes_few : (s : Group) (tx : Draw) (offer : Offer) (frozen : Frozen) → vote_in s (applied s (Prepared tx offer)).1 ≡ Some (Vows.Yes frozen) → (vote_of s.core offer ≡ None) × (frozen_of s ≡ frozen)
yes_few s tx offer frozen =
    cond_both (has_voted s.core tx) _ _ (λ (x : Group × Effect). vote_in s x.1 ≡ Some (Vows.Yes frozen) → (vote_of s.core offer ≡ None) × (frozen_of s ≡ frozen)) (λ _ e. cc)
    (λ _ e. (let k = voted_few s (past_of (vote_of s.core offer)) frozen e in (past_yes (vote_of s.core offer) k.0, k.1)))

-- so a story with the vote of its participant fits
prepared_fit : (s : Group) → IsRoster s.core.members → (tx : Draw) (offer : Offer) (y : Story) → y.offer ≡ Some (unsigned offer) → FitsStory y → FitsStory (with_vote (vote_in s (applied s (Prepared tx offer)).1) y)
prepared_fit s roster tx offer y offered k = by (vote_in s (applied s (Prepared tx offer)).1) refl
  where
    by : (o : Option Vote) → vote_in s (applied s (Prepared tx offer)).1 ≡ o → FitsStory (with_vote o y)
    by None e = k
    by (Some vote) e = (
      k.0,
      λ it fact merge frozen v. (
          let vote_is : vote ≡ Vows.Yes frozen = cc in
          let voted = yes_few s tx offer frozen (e ∙ ap (λ x. Some x) vote_is) in
          let same : unsigned offer ≡ it = (let pair : Some (unsigned offer) ≡ Some it = sym offered ∙ fact in cc) in
          let body : offer.body ≡ At.Merge = ap (λ (o : Offer). o.body) same ∙ merge in
          let nine = merge_few s.core offer body voted.0 in
          let its : IsRoster offer.members = subst (λ (o : Offer). IsRoster o.members) (sym same) (k.0 it fact) in
          let turn = either_way offer.members s.core.members its roster in
          let fits : length (united offer.members s.core.members) ≤ 9 = omega (arith, nine, turn) in
          subst (λ (o : Offer). length (united o.members frozen.members) ≤ 9) same (subst (λ (f : Frozen). length (united offer.members f.members) ≤ 9) voted.1 fits)),
    )

-- ---- entries

-- stories fit with one command more
entry_fit : (sources : Sources) (ys : Stories) (g : Draw) (s : Group) → IsRoster s.core.members → (c : Command) → IsAllowed sources ys g c → AllFit ys → AllFit (stories_after s c (applied s c).1 ys)
entry_fit sources ys g s roster c a old = stories_keep sources ys g s (λ t y. FitsStory y) (record {
  splits = λ at child order may. fit_new s roster (At.Split at child);
  begins = λ tx body order may changed. fit_new s roster body;
  votes = λ tx offer may y e k. (let same = same_Some may.0 y (sym may.1 ∙ e) in prepared_fit s roster tx offer y (ap (λ (z : Story). z.offer) (sym same) ∙ may.2) k);
  watches = λ o tx y k. watched_fit o y k;
  answers = λ tx vote by may y e k. (
      let effect = (applied s (RecordVote tx vote by)).1 in
      cond_both (is_changed effect) (with_asked s.core vote y) (with_decision (decided_in effect) y) FitsStory (λ _. asked_fit s.core vote y k) (λ _. decided_fit (decided_in effect) y k));
  releases = λ tx vote by y e k. decided_fit (decided_in (applied s (RecordWatch tx vote by)).1) y k;
  gives_up = λ tx y e k. decided_fit (decided_in (applied s (GiveUp tx)).1) y k;
}) old c a

-- the groups of a world have rosters
abbrev HaveRosters : List Group → Type 0
HaveRosters groups = Each (λ (group : Group). IsRoster group.core.members) groups

-- where one group is replaced they stay so
replaced : (name : Draw) (after : Group) (groups : List Group) → IsRoster after.core.members → HaveRosters groups → HaveRosters (with_group name after groups)
replaced name after [] roster all = tt
replaced name after (group ∷ groups) roster all = (
  cond_both (is_named name group) after group (λ (g : Group). IsRoster g.core.members) (λ _. roster) (λ _. all.0),
  replaced name after groups roster all.1,
)

-- a group that is created is so
kids : (o : Option Base) → ((kid : Base) → o ≡ Some kid → IsFresh kid) → HaveRosters (map group_of (option_to_list o))
kids None f = tt
kids (Some kid) f = ((f kid refl).roster, tt)

-- and all groups after a command
rosters_after : (s : Group) (c : Command) (groups : List Group) → IsRoster s.core.members → HaveRosters groups → HaveRosters (groups_after s (applied s c).0 (birth_of s c (applied s c).1) groups)
rosters_after s c groups roster all =
    Each-append (λ (group : Group). IsRoster group.core.members) (with_group s.core.id (applied s c).0 groups) (map group_of (option_to_list (birth_of s c (applied s c).1)))
    (replaced s.core.id (applied s c).0 groups (members_after s c roster) all)
    (kids (birth_of s c (applied s c).1) (λ kid e. fresh_child s c roster kid (births_are_children s c ∙ e)))

-- with one entry more
pub record Fit (w : StoryWorld) : Type 0 where
  pub rosters : HaveRosters w.store.groups
  pub stories : AllFit w.stories

-- groups and stories with one entry more
reported_fit : (sources : Sources) (w : StoryWorld) (e : LogEntry) → IsAllowed sources w.stories e.group e.command → Fit w → Fit (recorded_next w e)
reported_fit sources w e a k = by (named_group e.group w.store.groups) refl
  where
    by : (o : Option Group) → named_group e.group w.store.groups ≡ o → Fit (record { store = after_command w.store o e.command; stories = recorded_stories w.stories o e.command })
    by None fact = k
    by (Some s) fact =
        let there = find_found (is_named e.group) w.store.groups s fact in
        let roster = Each-among (λ (group : Group). IsRoster group.core.members) w.store.groups s k.rosters there.0 in
        record { rosters = rosters_after s e.command w.store.groups roster k.rosters; stories = entry_fit sources w.stories e.group s roster e.command a k.stories }

-- with all entries
all_fit : (sources : Sources) (w : StoryWorld) (entries : List LogEntry) → AreAllowed sources w entries → Fit w → Fit (recorded_after w entries)
all_fit sources w [] a k = k
all_fit sources w (e ∷ entries) a k = all_fit sources (recorded_next w e) entries a.1 (reported_fit sources w e a.0 k)

-- the groups at the start have rosters
first_rosters : (bases : List Base) → ((base : Base) → Among base bases → IsFresh base) → HaveRosters (map group_of bases)
first_rosters [] fresh = tt
first_rosters (base ∷ bases) fresh = ((fresh base (inl refl)).roster, first_rosters bases (λ b a. fresh b (inr a)))

-- after allowed entries
pub merges_fit : (sources : Sources) (bases : List Base) → ((base : Base) → Among base bases → IsFresh base) → (entries : List LogEntry) → AreAllowed sources (first_recorded bases) entries → MergesFit (stories_of bases entries)
merges_fit sources bases fresh entries allowed tx story e offer offered merge frozen vote =
    let k = all_fit sources (first_recorded bases) entries allowed (record { rosters = first_rosters bases fresh; stories = λ t y fact. cc }) in
    (k.stories tx story e).1 offer offered merge frozen vote

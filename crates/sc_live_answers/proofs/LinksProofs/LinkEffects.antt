-- What each entry leaves of the links and routes of its group, and of the stories: they name nodes that were members of the group that is named, or come to it.
use Rattle.std.proofs.Common.{◌≡◌, ℕ, false, cond, ◌&&◌, not, Option, Some, None, inl, inr, refl, sym, ◌∙◌, ap, subst}
use Rattle.std.specs.Option.{option_map}
use Rattle.std.proofs.lemmas.Bool.{cond_both, cond-true, cond-false}
use Rattle.std.proofs.lemmas.Option.{none-some, same_Some}
use Rattle.sc_base.specs.Definitions.{same_draw, united}
use Rattle.sc_node_table.specs.Values.{Draw, Body, Offer, Command, Call, Join, Leave, Split, Begin, Prepared, RecordVote, GiveUp, Finish, Watched, RecordWatch, Core, Coordinating, Effect, Link, Route, Frozen, Gift, No, Outcome, Abort, Merged, Moved, Migrated, Divided, Past, Vote}
use Rattle.sc_words.specs.commands.CommandDefinitions.{is_alone, is_changed, decided_in, is_divided}
use Rattle.sc_words.specs.declared.commands.bodies.Body.TheVariants as At
use Rattle.sc_words.specs.declared.commands.effects.Effect.TheVariants as Was
use Rattle.sc_words.specs.declared.commands.votes.Vote.TheVariants as Ballot
use Rattle.sc_group_table.specs.machine.MachineDefinitions.{Group, decided, applied, splits_at_once, left_link, left_members, right_members, right_core, left_group, frozen_of, merged_link, merged_succ, merged_route, closing_group, giving_group, taking_group, part_gift, succ_with, migrated_group, past_of, vote_of, watch_vote_of}
use Rattle.sc_meaning.specs.entries.EntryDefinitions.{division_in, division_of}
use Rattle.sc_meaning.specs.declared.entries.Division.{Division}
use Rattle.sc_law_entries.specs.ring.RingDefinitions.{vote_in, watch_vote_in, with_answer, Sources, IsVoteCast, IsAllowed, Groups, IsCoordinating, Facts, Story, Stories, put, with_story, unsigned, offer_for, new_story, vote_by, with_vote, with_watch_vote, with_decision, with_asked, stories_after}
use Rattle.sc_law_entries.proofs.RingProofs.RingLemmas.{from_at, own_story}
use Rattle.sc_law_entries.proofs.RingProofs.Rings.{no_division as no_child}
use Rattle.sc_law_walks.proofs.WalkLemmas.{MachineWalk, machine_step, EndsIt, ChangesNothing}
use Rattle.sc_live_answers.proofs.ChildrenProofs.ChildDivisions.{undivided}
use Rattle.sc_live_answers.proofs.LinksProofs.LinkOutcomes.{Good, IsLinkedSo, GivesAllowedOrder, good_come, more_good, kept_links}

-- ---- what is said of nodes

module _ (Were Come : Draw → ℕ → Type 0) (come : (name : Draw) (node : ℕ) → Were name node → Come name node) where
  abbrev LinkedSo : Core → Type 0
  LinkedSo = IsLinkedSo Were Come come

  abbrev StorySo : Story → Type 0
  StorySo = GivesAllowedOrder Were Come come

  module _ (sources : Sources) (gs : Groups) (ys : Stories) (g : Draw) (s : Group) (facts : Facts sources.owner gs ys) (fact : gs g ≡ Some s) (linked : LinkedSo s.core) (all_reported : (tx : Draw) (y : Story) → ys tx ≡ Some y → StorySo y) (now : Good Were g s.core.members) where
    named : s.core.id ≡ g
    named = (facts.group g s fact).named

    -- what holds after an entry
    pub record Lands (command : Command) (r : Group × Effect) : Type 0 where
      pub core : LinkedSo r.0.core
      pub told : (tx : Draw) (y : Story) → stories_after s command r.1 ys tx ≡ Some y → StorySo y
      pub born : (d : Division) → division_of s.core command r.1 ≡ Some d → LinkedSo (right_core s.core d.at d.child)

    -- where the group's members, and those of a child, were so, and a node that moves comes
    abbrev pub Claim : Command → Group × Effect → Type 0
    Claim command r =
        Good Were g r.0.core.members → ((d : Division) → division_of s.core command r.1 ≡ Some d → Good Were d.child (right_members s.core.members))
        → ((tx : Draw) (vote : Vote) (by node : ℕ) → command ≡ RecordVote tx vote by → r.1 ≡ Was.Decided (Migrated node) → Come s.core.succ.group node) → Lands command r

    same_links : (c : Core) → c.succ ≡ s.core.succ → c.gone ≡ s.core.gone → LinkedSo c
    same_links = kept_links Were Come come sources ys g s linked all_reported

    -- one more story, or one that goes on
    reported_put : (tx : Draw) (y : Story) → StorySo y → (t : Draw) (z : Story) → put ys tx (Some y) t ≡ Some z → StorySo z
    reported_put tx y k t z e = elim (from_at ys tx (Some y) t (Some z) e) [ inl m ↦ subst StorySo (same_Some y z m.1) k | inr m ↦ all_reported t z m.1 ]

    recorded_next : (tx : Draw) (f : Story → Story) → ((y : Story) → ys tx ≡ Some y → StorySo y → StorySo (f y)) → (t : Draw) (z : Story) → with_story ys tx f t ≡ Some z → StorySo z
    recorded_next tx f k t z e = elim (from_at ys tx (option_map f (ys tx)) t (Some z) e) [ inl m ↦ by (ys tx) refl m.1 | inr m ↦ all_reported t z m.1 ]
      where
        by : (o : Option Story) → ys tx ≡ o → option_map f o ≡ Some z → StorySo z
        by None q w = absurd (none-some z w)
        by (Some y) q w = subst StorySo (same_Some (f y) z w) (k y q (all_reported tx y q))

    new_reported : (body : Body) → StorySo (new_story s body)
    new_reported body = record { voted = λ f e. absurd (none-some (Ballot.Yes f) e); ended = λ into e. absurd (none-some (Merged into) e) }

    not_abort : (into : Route) → Some Abort ≡ Some (Merged into) → ⊥
    not_abort into e = cc

    not_moved : (at : ℕ) (gift : Option Gift) (into : Route) → Some (Moved at gift) ≡ Some (Merged into) → ⊥
    not_moved at gift into e = cc

    not_migrated : (node : ℕ) (into : Route) → Some (Migrated node) ≡ Some (Merged into) → ⊥
    not_migrated node into e = cc

    not_divided : (into : Route) → Some Divided ≡ Some (Merged into) → ⊥
    not_divided into e = cc

    same_into : (one other : Route) → Some (Merged one) ≡ Some (Merged other) → one ≡ other
    same_into one other e = cc

    no_yes : (why : No) (f : Frozen) → Some (Ballot.No why) ≡ Some (Ballot.Yes f) → ⊥
    no_yes why f e = cc

    same_yes : (one other : Frozen) → Some (Ballot.Yes one) ≡ Some (Ballot.Yes other) → one ≡ other
    same_yes one other e = cc

    -- ---- what changes no link

    stays : (command : Command) (r : Group × Effect) → r.0.core.succ ≡ s.core.succ → r.0.core.gone ≡ s.core.gone → ((tx : Draw) (y : Story) → stories_after s command r.1 ys tx ≡ Some y → StorySo y) → division_of s.core command r.1 ≡ None → Claim command r
    stays command r succ gone tell none after births moves = record { core = same_links r.0.core succ gone; told = tell; born = λ d e. no_child d (sym none ∙ e) }

    -- an effect that adds nothing to a story
    abbrev AddsNothing : Effect → Type 0
    AddsNothing effect = (is_changed effect ≡ false) × (vote_in s effect ≡ None) × (watch_vote_in effect ≡ None) × (decided_in effect ≡ None) × (is_divided effect ≡ false)

    adds_nothing : (c : Command) (effect : Effect) → ChangesNothing s c effect → AddsNothing effect
    adds_nothing c Was.Changed none = absurd none
    adds_nothing c (Was.Voted vote) none = absurd none
    adds_nothing c (Was.Decided outcome) none = absurd none
    adds_nothing c _ none = (refl, refl, refl, refl, refl)

    same_reported : (c : Command) (effect : Effect) → AddsNothing effect → (t : Draw) (z : Story) → stories_after s c effect ys t ≡ Some z → StorySo z
    same_reported (Split at child order) effect q t z e =
        all_reported t z (subst (λ b. cond (b && not (is_alone s.core)) (put ys child (Some (new_story s (At.Split at child)))) ys t ≡ Some z) q.0 e)
    same_reported (Begin tx body order) effect q t z e = all_reported t z (subst (λ b. cond b (put ys tx (Some (new_story s body))) ys t ≡ Some z) q.0 e)
    same_reported (Prepared tx offer) effect q t z e = recorded_next tx (with_vote (vote_in s effect)) (λ y w k. subst (λ v. StorySo (with_vote v y)) (sym q.1) k) t z e
    same_reported (Watched tx watch) effect q t z e = recorded_next tx (with_watch_vote (watch_vote_in effect)) (λ y w k. subst (λ v. StorySo (with_watch_vote v y)) (sym q.2) k) t z e
    same_reported (RecordVote tx vote by) effect q t z e =
        recorded_next tx (with_answer s.core vote effect) (λ y w k. subst (λ b. StorySo (cond b (with_asked s.core vote y) (with_decision (decided_in effect) y))) (sym q.0) (subst (λ o. StorySo (with_decision o y)) (sym q.3) k)) t z e
    same_reported (RecordWatch tx vote by) effect q t z e = recorded_next tx (with_decision (decided_in effect)) (λ y w k. subst (λ o. StorySo (with_decision o y)) (sym q.3) k) t z e
    same_reported (GiveUp tx) effect q t z e = recorded_next tx (with_decision (decided_in effect)) (λ y w k. subst (λ o. StorySo (with_decision o y)) (sym q.3) k) t z e
    same_reported _ effect q t z e = all_reported t z e

    same_births : (c : Command) (effect : Effect) → AddsNothing effect → division_of s.core c effect ≡ None
    same_births c effect q = undivided s c effect q.0 q.4

    -- ---- a split

    splits_links : (at : ℕ) (child : Draw) → Good Were g (left_members s.core.members) → Good Were child (right_members s.core.members) → LinkedSo (left_group s at child).core × LinkedSo (right_core s.core at child)
    splits_links at child left right = (
      record { succ = good_come Were Come come child (right_members s.core.members) right; gone = linked.gone },
      record {
        succ = cond_both (splits_at_once s.core) (left_link s.core) s.core.succ (λ (l : Link). Good Come l.group l.members) (λ _. good_come Were Come come s.core.id (left_members s.core.members) (subst (λ n. Good Were n (left_members s.core.members)) (sym named) left)) (λ _. linked.succ);
        gone = λ into f. absurd (none-some into f);
      },
    )

    -- where a child is born, it is the one that is named
    child_links : (at : ℕ) (child : Draw) → LinkedSo (right_core s.core at child) → (o : Option Division) → o ≡ Some (record { at = at; child = child }) → (d : Division) → o ≡ Some d → LinkedSo (right_core s.core d.at d.child)
    child_links at child k o fact d e = subst (λ (x : Division). LinkedSo (right_core s.core x.at x.child)) (same_Some (record { at = at; child = child }) d (sym fact ∙ e)) k

    -- ---- votes

    vote_reported : (tx : Draw) (offer : Offer) → IsAllowed sources ys g (Prepared tx offer) → (why : Option No) (y : Story) → ys tx ≡ Some y → StorySo y → StorySo (with_vote (vote_by s (past_of why)) y)
    vote_reported tx offer a (Some why) y e k = record { voted = λ f q. absurd (no_yes why f q); ended = k.ended }
    vote_reported tx offer a None y e k = record {
      voted = λ f q. (
          let same = same_yes (frozen_of s) f q in
          subst (λ (x : Frozen). Good Come x.succ.group x.succ.members × ((o : Offer) → y.offer ≡ Some o → Good Were o.part x.members)) same (
            linked.succ,
            λ o w. (
                let y_is = same_Some y a.0 (sym e ∙ a.1) in
                let o_is : unsigned offer ≡ o = same_Some (unsigned offer) o (sym a.2 ∙ ap (λ (z : Story). z.offer) (sym y_is) ∙ w) in
                let part : o.part ≡ g = ap (λ (z : Offer). z.part) (sym o_is) ∙ a.3 in
                subst (λ n. Good Were n s.core.members) (sym part) now),
          ));
      ended = k.ended;
    }

    watched_reported : (past : Past) (y : Story) → StorySo y → StorySo (with_watch_vote (Some past) y)
    watched_reported past y k = record { voted = k.voted; ended = k.ended }

    -- ---- what a coordinator decides

    ends_reported : (o : Outcome) → ((into : Route) → Some o ≡ Some (Merged into) → Good Were into.group into.members) → (y : Story) → StorySo y → StorySo (with_decision (Some o) y)
    ends_reported o good y k = record { voted = k.voted; ended = good }

    aborted_reported : (y : Story) → StorySo y → StorySo (with_decision (Some Abort) y)
    aborted_reported = ends_reported Abort (λ into e. absurd (not_abort into e))

    module _ (f : Frozen) (come_behind : Good Come f.succ.group f.succ.members) where
      merged_good : Good Were g (united s.core.members f.members) → Good Come (merged_succ s.core f).group (merged_succ s.core f).members
      merged_good after = cond_both (same_draw f.succ.group s.core.id) (merged_link s.core f) f.succ (λ (l : Link). Good Come l.group l.members)
          (λ _. good_come Were Come come s.core.id (united s.core.members f.members) (subst (λ n. Good Were n (united s.core.members f.members)) (sym named) after)) (λ _. come_behind)

      route_good : Good Were g (united s.core.members f.members) → (into : Route) → Some (Merged (merged_route s.core f)) ≡ Some (Merged into) → Good Were into.group into.members
      route_good after into e = subst (λ (r : Route). Good Were r.group r.members) (same_into (merged_route s.core f) into e) (subst (λ n. Good Were n (united s.core.members f.members)) (sym named) after)

    -- it aborts
    ended_by : (c : Command) (tx : Draw) → EndsIt tx c → Claim c (decided s tx Abort)
    ended_by (RecordVote t vote by) tx e = stays (RecordVote t vote by) (decided s tx Abort) refl refl (recorded_next t (with_decision (Some Abort)) (λ y w k. aborted_reported y k)) refl
    ended_by (RecordWatch t vote by) tx e = stays (RecordWatch t vote by) (decided s tx Abort) refl refl (recorded_next t (with_decision (Some Abort)) (λ y w k. aborted_reported y k)) refl
    ended_by (GiveUp t) tx e = stays (GiveUp t) (decided s tx Abort) refl refl (recorded_next t (with_decision (Some Abort)) (λ y w k. aborted_reported y k)) refl
    ended_by _ tx e = absurd e

    -- it carries out what its participant voted for
    module _ (tx : Draw) (body : Body) (order : ℕ) (lock : s.core.lock ≡ Coordinating tx body order None) (f : Frozen) (cast : IsVoteCast ys tx (Ballot.Yes f)) where
      abbrev own : IsCoordinating ys g s tx body None
      own = own_story gs ys sources.owner g s tx body order None facts fact lock

      heard : Good Come f.succ.group f.succ.members × ((offer : Offer) → own.story.offer ≡ Some offer → Good Were offer.part f.members)
      heard = (all_reported tx own.story own.fact).voted f (ap (λ (z : Story). z.vote) (same_Some own.story cast.0 (sym own.fact ∙ cast.1)) ∙ cast.2)

      part_good : (offer : Offer) → offer_for s.core body ≡ Some offer → Good Were offer.part f.members
      part_good offer e = heard.1 offer (own.offer ∙ e)

      decides : (by : ℕ) (after : Group) (o : Outcome) → (Good Were g after.core.members → ((node : ℕ) → o ≡ Migrated node → Come s.core.succ.group node) → LinkedSo after.core) → (Good Were g after.core.members → (into : Route) → Some o ≡ Some (Merged into) → Good Were into.group into.members)
          → Claim (RecordVote tx (Ballot.Yes f) by) (decided after tx o)
      decides by after o core good members births moves = record {
        core = (let k = core members (λ node e. moves tx (Ballot.Yes f) by node refl (ap Was.Decided e)) in record { succ = k.succ; gone = k.gone });
        told = recorded_next tx (with_decision (Some o)) (λ y e k. ends_reported o (good members) y k);
        born = λ d e. no_child d e;
      }

    -- an arc moves
    moves_arc : (tx : Draw) (at order : ℕ) → s.core.lock ≡ Coordinating tx (At.Repart at) order None → (f : Frozen) → IsVoteCast ys tx (Ballot.Yes f) → (by : ℕ) (after : Group) (gift : Option Gift) → after.core.succ ≡ succ_with s.core f.members → after.core.gone ≡ s.core.gone
        → Claim (RecordVote tx (Ballot.Yes f) by) (decided after tx (Moved at gift))
    moves_arc tx at order lock f cast by after gift succ gone =
        let part = part_good tx (At.Repart at) order lock f cast _ refl in
        decides tx (At.Repart at) order lock f cast by after (Moved at gift)
        (λ _ _. record { succ = subst (λ (l : Link). Good Come l.group l.members) (sym succ) (good_come Were Come come s.core.succ.group f.members part); gone = λ into e. linked.gone into (sym gone ∙ e) }) (λ _ into e. absurd (not_moved at gift into e))

    -- ---- each entry

    abbrev MayLand : Command → Group × Effect → Type 0
    MayLand command r = IsAllowed sources ys g command → Claim command r

    ended_links : (tx : Draw) (o : Outcome) (r : Group × Effect) → LinkedSo r.0.core → MayLand (Finish tx o) r
    ended_links tx o r k a after births moves = record { core = k; told = λ t y e. all_reported t y e; born = λ d e. no_child d e }

    lands_walk : MachineWalk s MayLand
    lands_walk = record {
      same = λ c effect none a. stays c (s, effect) refl refl (same_reported c effect (adds_nothing c effect none)) (same_births c effect (adds_nothing c effect none));
      serves = λ client seq op a. stays (Call client seq op) _ refl refl (λ t y e. all_reported t y e) refl;
      joins = λ node order may a. stays (Join node order) _ refl refl (λ t y e. all_reported t y e) refl;
      leaves = λ node order may a. stays (Leave node order) _ refl refl (λ t y e. all_reported t y e) refl;
      splits = λ at child order may new alone a after births moves. (
          let div : Division = record { at = at; child = child } in
          let born : cond (is_alone s.core) (Some div) None ≡ Some div = cond-true (is_alone s.core) (Some div) None alone in
          let k = splits_links at child after (births div born) in record {
            core = k.0;
            told = λ t y e. all_reported t y (subst (λ b. cond (not b) (put ys child (Some (new_story s (At.Split at child)))) ys t ≡ Some y) alone e);
            born = child_links at child k.1 (cond (is_alone s.core) (Some div) None) born;
          });
      begins_split = λ at child order may new others a. stays (Split at child order) _ refl refl
          (λ t y e. reported_put child (new_story s (At.Split at child)) (new_reported (At.Split at child)) t y (subst (λ b. cond (not b) (put ys child (Some (new_story s (At.Split at child)))) ys t ≡ Some y) others e))
          (cond-false (is_alone s.core) (Some (record { at = at; child = child })) None others);
      begins = λ tx body order may new a. stays (Begin tx body order) _ refl refl (λ t y e. reported_put tx (new_story s body) (new_reported body) t y e) refl;
      offers = λ tx offer new a. stays (Prepared tx offer) _ refl refl (recorded_next tx (with_vote (vote_by s (past_of (vote_of s.core offer)))) (vote_reported tx offer a (vote_of s.core offer))) refl;
      watches = λ tx watch new a. stays (Watched tx watch) _ refl refl (recorded_next tx (with_watch_vote (Some (past_of (watch_vote_of s.core watch)))) (λ y e k. watched_reported (past_of (watch_vote_of s.core watch)) y k)) refl;
      hears = λ tx order lock f by other a. stays (RecordVote tx (Ballot.Yes f) by) _ refl refl (recorded_next tx (with_asked s.core (Ballot.Yes f)) (λ y e k. record { voted = k.voted; ended = k.ended })) refl;
      aborts = λ c tx ends body order got lock a. ended_by c tx ends;
      divides = λ tx at child order got lock by can a after births moves. (
          let born : division_in s.core.lock ≡ Some (record { at = at; child = child }) = ap division_in lock in
          let k = splits_links at child after (births (record { at = at; child = child }) born) in record {
            core = (let c = k.0 in record { succ = c.succ; gone = c.gone });
            told = recorded_next tx (with_decision (Some Divided)) (λ y e t. ends_reported Divided (λ into q. absurd (not_divided into q)) y t);
            born = child_links at child k.1 (division_in s.core.lock) born;
          });
      merges = λ tx order h lock by may a after births moves. (
          let own = own_story gs ys sources.owner g s tx At.Merge order (Some h) facts fact lock in
          let behind = ((all_reported tx own.story own.fact).voted h.frozen (own.heard_vote h refl).0).0 in record {
            core = record { succ = merged_good h.frozen behind after; gone = linked.gone };
            told = recorded_next tx (with_decision (Some (Merged (merged_route s.core h.frozen)))) (λ y e t. ends_reported (Merged (merged_route s.core h.frozen)) (route_good h.frozen behind after) y t);
            born = λ d e. no_child d e;
          });
      closes = λ tx order lock f by two may a.
          (let behind = (heard tx At.Merge order lock f a).0 in
          decides tx At.Merge order lock f a by (closing_group s f) (Merged (merged_route s.core f)) (λ after _. record { succ = merged_good f behind after; gone = linked.gone }) (λ after. route_good f behind after));
      gives = λ tx at order lock f by here can a. moves_arc tx at order lock f a by (giving_group s at f) (Some (part_gift s at)) refl refl;
      takes = λ tx at order lock f by there can a. moves_arc tx at order lock f a by (taking_group s at f) None refl refl;
      migrates = λ tx node order lock f by can a. decides tx (At.Migrate node) order lock f a by (migrated_group s node f) (Migrated node)
          (λ _ moves. record { succ = more_good Were Come come s.core.succ.group f.members node (good_come Were Come come s.core.succ.group f.members (part_good tx (At.Migrate node) order lock f a _ refl)) (moves node refl); gone = linked.gone })
          (λ _ into e. absurd (not_migrated node into e));
      stays = λ tx offer lock. ended_links tx Abort _ (same_links _ refl refl);
      goes = λ tx offer lock route a. ended_links tx (Merged route) _ (record { succ = linked.succ; gone = λ into e. subst (λ (x : Route). Good Were x.group x.members) (same_Some route into e) ((all_reported tx a.0 a.1).ended route a.2) }) a;
      gains = λ tx offer lock at gift can. ended_links tx (Moved at (Some gift)) _ (same_links _ refl refl);
      loses = λ tx offer lock at can. ended_links tx (Moved at None) _ (same_links _ refl refl);
      welcomes = λ tx offer lock node few. ended_links tx (Migrated node) _ (same_links _ refl refl);
      sees_end = λ tx watch lock outcome. ended_links tx outcome _ (same_links _ refl refl);
    }

    pub lands : (command : Command) → IsAllowed sources ys g command → Claim command (applied s command)
    lands = machine_step s MayLand lands_walk

-- What a group that has executed a prefix of its log says to the parties of transactions is true, by the stories of all logs.
use Rattle.std.proofs.Common.{◌≡◌, ℕ, true, cond, nat_le, List, [], ◌∷◌, ◌++◌, length, Option, Some, None, refl, sym, ◌∙◌, ap, subst}
use Rattle.std.proofs.lemmas.Bool.{le-leb, cond-true, cond_both}
use Rattle.std.proofs.lemmas.Option.{same_Some}
use Rattle.sc_base.specs.Definitions.{same_draw, united}
use Rattle.sc_node_table.specs.Values.{Draw, Body, Offer, Watch, Command, Split, Begin, Prepared, RecordVote, GiveUp, Finish, Watched, RecordWatch, Core, Lock, Free, Coordinating, Promised, Watching, Effect, Link, Heard, No, Outcome, Past, Vote, Mail, MailBody, TxVote, TxOutcome, TxWatched}
use Rattle.sc_words.specs.declared.commands.bodies.Body.TheVariants as By
use Rattle.sc_words.specs.declared.commands.effects.Effect.TheVariants as Was
use Rattle.sc_words.specs.declared.commands.votes.Outcome.TheVariants as Is
use Rattle.sc_words.specs.declared.commands.votes.Past.TheVariants as Cast
use Rattle.sc_words.specs.declared.commands.votes.Vote.TheVariants as Vows
use Rattle.sc_words.specs.commands.CommandDefinitions.{decided_in, cast_in}
use Rattle.sc_group_table.specs.machine.MachineDefinitions.{Group, applied, frozen_of, can_split, merged_link, right_link, begun_group, decided_group, aborted, is_coordinating, asks_watcher, watch_recorded, vote_of, watch_vote_of, past_of}
use Rattle.sc_node_table.specs.declared.Before.{Before}
use Rattle.sc_node_table.specs.NodeDefinitions.{sent_all, offer_of, question, asked_first, both_link, split_watch, child_link, union_watch, reminders, voted_to, watched_to, asked_on, begun_asks, vote_sent, watch_sent, aborted_to, aborted_watcher, given_up_by, vote_answered, released_to, watch_answered_by, went_on}
use Rattle.sc_law_entries.specs.ring.RingDefinitions.{Sources, IsAllowed, IsShared, Groups, Facts, LockOk, Story, Stories, unsigned, watch_with}
use Rattle.sc_law_entries.specs.logs.LogDefinitions.{AllowsAsItStands, MakesAllowed, GroupAllows}
use Rattle.sc_law_groups.proofs.GroupProofs.GroupLemmas.{IsSaid, AreSaid}
use Rattle.sc_law_groups.specs.whole.WholeDefinitions.{IsHeard, MergesFit}
use Rattle.sc_law_groups.proofs.WholeProofs.Asking.{BeginsShared}
use Rattle.sc_law_groups.proofs.WholeProofs.Coming.{IsDull, comes}
use Rattle.sc_law_walks.proofs.WalkLemmas.{EndsIt, voting_group}

-- ---- what a lock says beside what it makes allowed

module _ (sources : Sources) (by : Draw) (group : Group) where
  -- what a lock says
  lock_is : (groups : Groups) (stories : Stories) → Facts sources.owner groups stories → groups by ≡ Some group → (lock : Lock) → group.core.lock ≡ lock → LockOk stories by group lock
  lock_is groups stories facts fact lock e = subst (LockOk stories by group) e (facts.group by group fact).lock_ok

  -- who watches was asked to
  pub stands_watch : (tx : Draw) (watch : Watch) → group.core.lock ≡ Watching tx watch → AllowsAsItStands sources by group by (Watched tx watch)
  stands_watch tx watch lock groups stories facts fact = (let own = lock_is groups stories facts fact (Watching tx watch) lock in (own.story, own.fact, own.asked, own.part))

  -- who has promised was asked to
  pub stands_offer : (tx : Draw) (offer : Offer) → group.core.lock ≡ Promised tx offer → AllowsAsItStands sources by group by (Prepared tx offer)
  stands_offer tx offer lock groups stories facts fact = (let own = lock_is groups stories facts fact (Promised tx offer) lock in (own.story, own.fact, own.offered, own.part))

  -- what a coordinator has heard was voted
  pub stands_heard : (tx : Draw) (body : Body) (order : ℕ) (heard : Heard) → group.core.lock ≡ Coordinating tx body order (Some heard) → (name : Draw) (node : ℕ) → AllowsAsItStands sources by group name (RecordVote tx (Vows.Yes heard.frozen) node)
  stands_heard tx body order heard lock name node groups stories facts fact = (
      let own = lock_is groups stories facts fact (Coordinating tx body order (Some heard)) lock in
      (own.story, own.fact, (own.heard_vote heard refl).0))

-- ---- what is said

-- a group as it stands after a prefix of its log, by what is true of it and allowed
module _ (sources : Sources) (stories : Stories) (fit : MergesFit stories) (name : Draw) where
  -- each of these mails is heard
  abbrev Said : List Mail → Type 0
  Said = AreSaid (IsHeard sources stories)

  -- what a group makes allowed as it stands is allowed, its body is a merge where its participant was heard, and it can be split where it is to be
  pub record Stands (group : Group) : Type 0 where
    pub allows : (other : Draw) (c : Command) → AllowsAsItStands sources name group other c → IsAllowed sources stories other c
    pub merges : (tx : Draw) (body : Body) (order : ℕ) (heard : Heard) → group.core.lock ≡ Coordinating tx body order (Some heard) → body ≡ By.Merge
    pub splits : (tx : Draw) (at : ℕ) (child : Draw) (order : ℕ) (got : Option Heard) → group.core.lock ≡ Coordinating tx (By.Split at child) order got → can_split group.core at ≡ true

  module _ (al : (group : Group) → GroupAllows sources name group) where
    -- what a coordinator asks
    pub said_question : (group : Group) → Stands group → (me : ℕ) (tx : Draw) (body : Body) (order : ℕ) (got : Option Heard) → group.core.lock ≡ Coordinating tx body order got → IsSaid (IsHeard sources stories) (question me group.core tx body got)
    said_question group s me tx By.Merge order None lock = s.allows group.core.succ.group (Prepared tx (offer_of me group.core By.Merge)) ((al group).offers tx By.Merge order None lock (offer_of me group.core By.Merge) refl)
    said_question group s me tx By.Merge order (Some heard) lock =
        let offer = offer_of me group.core By.Merge in
        let o = s.allows group.core.succ.group (Prepared tx offer) ((al group).offers tx By.Merge order (Some heard) lock offer refl) in
        let v = s.allows name (RecordVote tx (Vows.Yes heard.frozen) 0) (stands_heard sources name group tx By.Merge order heard lock name 0) in
        let one = same_Some v.0 o.0 (sym v.1 ∙ o.1) in
        let nine = fit tx o.0 o.1 (unsigned offer) o.2 refl heard.frozen (ap (λ (y : Story). y.vote) (sym one) ∙ v.2) in
        let link : both_link group.core heard.frozen ≡ merged_link group.core heard.frozen = cond-true (nat_le (length (united group.core.members heard.frozen.members)) 9) _ _ (le-leb _ 9 nine) in
        s.allows heard.frozen.succ.group (Watched tx (union_watch me group.core heard))
        ((al group).asks tx By.Merge order (Some heard) lock (union_watch me group.core heard) (ap (λ l. Some (watch_with group.core heard.frozen.succ.group group.core.succ.group l)) (sym link)))
    said_question group s me tx (By.Repart at) order None lock =
        s.allows group.core.succ.group (Prepared tx (offer_of me group.core (By.Repart at))) ((al group).offers tx (By.Repart at) order None lock (offer_of me group.core (By.Repart at)) refl)
    said_question group s me tx (By.Repart at) order (Some heard) lock = (let no_way = s.merges tx (By.Repart at) order heard lock in absurd (cc))
    said_question group s me tx (By.Migrate node) order None lock =
        s.allows group.core.succ.group (Prepared tx (offer_of me group.core (By.Migrate node))) ((al group).offers tx (By.Migrate node) order None lock (offer_of me group.core (By.Migrate node)) refl)
    said_question group s me tx (By.Migrate node) order (Some heard) lock = (let no_way = s.merges tx (By.Migrate node) order heard lock in absurd (cc))
    said_question group s me tx (By.Split at child) order got lock =
        let link : child_link group.core at child ≡ right_link group.core child = cond-true (can_split group.core at) _ _ (s.splits tx at child order got lock) in
        s.allows group.core.succ.group (Watched tx (split_watch me group.core at child))
        ((al group).asks tx (By.Split at child) order got lock (split_watch me group.core at child) (ap (λ l. Some (watch_with group.core group.core.succ.group group.core.id l)) (sym link)))

    -- what a group asks first is heard
    said_first : (group : Group) → Stands group → (me : ℕ) (lock : Lock) → group.core.lock ≡ lock → Said (asked_first lock me group.core [])
    said_first group s me Free e = tt
    said_first group s me (Coordinating tx body order got) e = (said_question group s me tx body order got e, tt)
    said_first group s me (Promised tx offer) e = tt
    said_first group s me (Watching tx watch) e = tt

    -- so is what it sends to several nodes
    said_to_all : (me : ℕ) (nodes : List ℕ) (body : MailBody) (before : List Mail) → IsSaid (IsHeard sources stories) body → Said before → Said (sent_all me nodes body before)
    unfolding sent_all
    said_to_all me [] body before t e = e
    said_to_all me (node ∷ nodes) body before t e = said_to_all me nodes body (before ++ record { from = me; to = node; body = body } ∷ []) t (one_more before e)
      where
        one_more : (ms : List Mail) → Said ms → Said (ms ++ record { from = me; to = node; body = body } ∷ [])
        one_more [] e = (t, tt)
        one_more (m ∷ ms) e = (e.0, one_more ms e.1)

    -- ---- reminders

    -- what a locked group reminds the parties of
    pub said_reminders : (group : Group) → Stands group → ((tx : Draw) (watch : Watch) → group.core.lock ≡ Watching tx watch → IsAllowed sources stories name (RecordWatch tx Cast.Yes 0)) → (me : ℕ) (lock : Lock) → group.core.lock ≡ lock
        → Said (reminders lock me group [])
    said_reminders group s watched me Free e = tt
    said_reminders group s watched me (Coordinating tx body order got) e = said_to_all me _ (question me group.core tx body got) [] (said_question group s me tx body order got e) tt
    said_reminders group s watched me (Promised tx offer) e =
        said_to_all me offer.members (TxVote tx offer.coord offer.part (Vows.Yes (frozen_of group))) [] (s.allows name (RecordVote tx (Vows.Yes (frozen_of group)) 0) ((al group).promises tx offer e name 0)) tt
    said_reminders group s watched me (Watching tx watch) e = said_to_all me watch.members (TxWatched tx watch.coord watch.part Cast.Yes) [] (watched tx watch e) tt

    -- ---- what an entry says

    -- where nothing changes nothing is asked
    dull_asks : (effect : Effect) → IsDull effect → (me : ℕ) (core : Core) → asked_on effect me core [] ≡ []
    dull_asks Was.Changed d me core = absurd d
    dull_asks _ d me core = refl

    -- nor where nothing begins
    dull_begins : (effect : Effect) → IsDull effect → (me : ℕ) (core : Core) (tx : Draw) (body : Body) → begun_asks effect me core tx body [] ≡ []
    dull_begins Was.Changed d me core tx body = absurd d
    dull_begins _ d me core tx body = refl

    -- and nothing is decided
    dull_decides : (effect : Effect) → IsDull effect → decided_in effect ≡ None
    dull_decides (Was.Decided outcome) d = absurd d
    dull_decides _ d = refl

    -- where nothing changes nothing is said
    dull_said : (me : ℕ) (group : Group) (was : Before) (effect : Effect) → IsDull effect → (c : Command) → Said (went_on me group was effect c [])
    unfolding went_on
    dull_said me group was effect d (Split at child order) = subst Said (sym (dull_asks effect d me group.core)) tt
    dull_said me group was effect d (Begin tx body order) = subst Said (sym (dull_begins effect d me group.core tx body)) tt
    dull_said me group was effect d (Prepared tx offer) = dull_vote me group tx offer effect d
      where
        dull_vote : (me : ℕ) (group : Group) (tx : Draw) (offer : Offer) (effect : Effect) → IsDull effect → Said (vote_sent (cast_in effect) me group tx offer [])
        dull_vote me group tx offer (Was.Voted vote) d = absurd d
        dull_vote me group tx offer _ d = tt
    dull_said me group was effect d (Watched tx watch) = dull_watch me tx watch effect d
      where
        dull_watch : (me : ℕ) (tx : Draw) (watch : Watch) (effect : Effect) → IsDull effect → Said (watch_sent (cast_in effect) me tx watch [])
        dull_watch me tx watch (Was.Voted vote) d = absurd d
        dull_watch me tx watch _ d = tt
    dull_said me group was effect d (RecordVote tx vote by) =
        subst (λ o. Said (vote_answered o vote me was tx by (asked_on effect me group.core []))) (sym (dull_decides effect d)) (subst Said (sym (dull_asks effect d me group.core)) tt)
    dull_said me group was effect d (GiveUp tx) = subst (λ o. Said (given_up_by o me was tx [])) (sym (dull_decides effect d)) tt
    dull_said me group was effect d (RecordWatch tx vote by) = subst (λ o. Said (watch_answered_by o vote me was tx by [])) (sym (dull_decides effect d)) tt
    dull_said me group was effect d _ = tt

    -- an end that is sent
    abbrev IsSentEnd : Draw → Outcome → Type 0
    IsSentEnd tx outcome = (part : Draw) → IsAllowed sources stories part (Finish tx outcome)

    -- giving up aborts
    giving_aborts : (group : Group) (tx : Draw) (outcome : Outcome) → (applied group (GiveUp tx)).1 ≡ Was.Decided outcome → outcome ≡ Is.Abort
    giving_aborts group tx outcome =
        cond_both (is_coordinating group.core.lock tx) (aborted group tx) (group, Was.NoEffect tx) (λ x. x.1 ≡ Was.Decided outcome → outcome ≡ Is.Abort) (λ _ e. (let same : Is.Abort ≡ outcome = cc in sym same)) (λ _ e. cc)

    -- what has no effect decides nothing
    nothing_aborts : (tx : Draw) (outcome : Outcome) → Was.NoEffect tx ≡ Was.Decided outcome → outcome ≡ Is.Abort
    nothing_aborts tx outcome e = cc

    -- an abort is what was decided
    decided_aborts : (outcome : Outcome) → Was.Decided Is.Abort ≡ Was.Decided outcome → outcome ≡ Is.Abort
    decided_aborts outcome e = (let same : Is.Abort ≡ outcome = cc in sym same)

    -- a No of a watcher aborts
    no_aborts : (lock : Lock) (group : Group) (tx : Draw) (why : No) (outcome : Outcome) → (watch_recorded lock group tx (Cast.No why)).1 ≡ Was.Decided outcome → outcome ≡ Is.Abort
    no_aborts Free group tx why outcome e = nothing_aborts tx outcome e
    no_aborts (Promised t offer) group tx why outcome e = nothing_aborts tx outcome e
    no_aborts (Watching t watch) group tx why outcome e = nothing_aborts tx outcome e
    no_aborts (Coordinating t body order got) group tx why outcome e =
        cond_both (same_draw t tx) (cond (asks_watcher body got) (aborted group tx) (group, Was.NoEffect tx)) (group, Was.NoEffect tx) (λ (x : Group × Effect). x.1 ≡ Was.Decided outcome → outcome ≡ Is.Abort)
        (λ _. cond_both (asks_watcher body got) (aborted group tx) (group, Was.NoEffect tx) (λ (x : Group × Effect). x.1 ≡ Was.Decided outcome → outcome ≡ Is.Abort) (λ _. decided_aborts outcome) (λ _. nothing_aborts tx outcome))
        (λ _. nothing_aborts tx outcome) e

    -- an abort is true for the group that learns it
    aborted_said : (me : ℕ) (tx : Draw) (link : Link) (before : List Mail) → IsSentEnd tx Is.Abort → Said before → Said (aborted_to me tx link before)
    aborted_said me tx link before told e = said_to_all me link.members (TxOutcome tx link.group Is.Abort) before (told link.group) e

    -- so it is by a watcher
    watcher_said : (me : ℕ) (tx : Draw) (o : Option (ℕ × Link)) (before : List Mail) → IsSentEnd tx Is.Abort → Said before → Said (aborted_watcher me tx o before)
    watcher_said me tx None before told e = e
    watcher_said me tx (Some heard) before told e = aborted_said me tx heard.1 before told e

    -- an end is heard by those whom it releases
    released_said : (o : Option (ℕ × Link)) (me : ℕ) (succ : Link) (tx : Draw) (by : ℕ) (outcome : Outcome) → IsSentEnd tx outcome → Said (released_to o me succ tx by outcome [])
    released_said None me succ tx by outcome told = (told succ.group, tt)
    released_said (Some heard) me succ tx by outcome told = (told succ.group, (told heard.1.group, tt))

    -- so is the end that a watcher's vote brings
    watch_said : (vote : Past) (me : ℕ) (was : Before) (tx : Draw) (by : ℕ) (outcome : Outcome) → IsSentEnd tx outcome → ((why : No) → vote ≡ Cast.No why → outcome ≡ Is.Abort) → Said (watch_answered_by (Some outcome) vote me was tx by [])
    watch_said Cast.Yes me was tx by outcome told aborts = released_said was.heard me was.succ tx by outcome told
    watch_said (Cast.No why) me was tx by outcome told aborts =
        cond_both was.merges (aborted_to me tx was.succ []) [] Said (λ _. aborted_said me tx was.succ [] (subst (IsSentEnd tx) (aborts why refl) told) tt) (λ _. tt)
    watch_said Cast.Ended me was tx by outcome told aborts = tt

    -- and the one that a participant's vote brings
    vote_said : (vote : Vote) (me : ℕ) (was : Before) (tx : Draw) (by : ℕ) (outcome : Outcome) → IsSentEnd tx outcome → Said (vote_answered (Some outcome) vote me was tx by [])
    vote_said (Vows.Yes frozen) me was tx by outcome told = (told was.succ.group, tt)
    vote_said (Vows.No why) me was tx by outcome told = tt

    -- an entry that decides
    ended_said : (group : Group) (was : Before) (me : ℕ) (after : Group) (c : Command) (tx : Draw) (outcome : Outcome) → EndsIt tx c → (applied group c).1 ≡ Was.Decided outcome → IsSentEnd tx outcome → Said (went_on me after was (Was.Decided outcome) c [])
    unfolding went_on
    ended_said group was me after (RecordVote t vote by) tx outcome ends e told = vote_said vote me was t by outcome (subst (λ d. IsSentEnd d outcome) (sym ends) told)
    ended_said group was me after (GiveUp t) tx outcome ends e told =
        let abort = subst (λ o. IsSentEnd t o) (giving_aborts group t outcome e) (subst (λ d. IsSentEnd d outcome) (sym ends) told) in
        watcher_said me t was.heard (aborted_to me t was.succ []) abort (aborted_said me t was.succ [] abort tt)
    ended_said group was me after (RecordWatch t vote by) tx outcome ends e told =
        watch_said vote me was t by outcome (subst (λ d. IsSentEnd d outcome) (sym ends) told) (λ why fact. no_aborts group.core.lock group t why outcome (subst (λ v. (watch_recorded group.core.lock group t v).1 ≡ Was.Decided outcome) fact e))
    ended_said group was me after _ tx outcome ends e told = absurd ends

    -- what an entry makes allowed is allowed
    abbrev EntryAllows : Group → Command → Type 0
    EntryAllows group c = (other : Draw) (d : Command) → MakesAllowed sources name group c other d → IsAllowed sources stories other d

    -- who learns of the end learns what was decided
    pub told_by : (group : Group) (c : Command) (tx : Draw) (outcome : Outcome) → EntryAllows group c → EndsIt tx c → (applied group c).1 ≡ Was.Decided outcome → IsSentEnd tx outcome
    told_by group (RecordVote t vote by) tx outcome may ends e part = subst (λ d. IsAllowed sources stories part (Finish d outcome)) ends (may part (Finish t outcome) ((al group).votes t vote by outcome e part))
    told_by group (GiveUp t) tx outcome may ends e part = subst (λ d. IsAllowed sources stories part (Finish d outcome)) ends (may part (Finish t outcome) ((al group).gives_up t outcome e part))
    told_by group (RecordWatch t vote by) tx outcome may ends e part = subst (λ d. IsAllowed sources stories part (Finish d outcome)) ends (may part (Finish t outcome) ((al group).watch_votes t vote by outcome e part))
    told_by group _ tx outcome may ends e part = absurd ends

    -- ---- each entry

    module _ (group : Group) (was : Before) (me : ℕ) (c : Command) (may : EntryAllows group c) (shared : BeginsShared c) (next : Stands (applied group c).0) where
      -- what is said of what came of a command is heard
      abbrev Goes : Command → Group × Effect → Type 0
      Goes d x = d ≡ c → x ≡ applied group c → Said (went_on me x.0 was x.1 d [])

      -- the group after it
      stands_next : (after : Group) (effect : Effect) → (after, effect) ≡ applied group c → Stands after
      stands_next after effect e = subst Stands (ap (λ (x : Group × Effect). x.0) (sym e)) next

      -- what is begun has a participant, which hears what it is asked
      begun_said : (tx : Draw) (body : Body) (order : ℕ) → IsShared body → Stands (begun_group group tx body order) → Said (begun_asks Was.Changed me (begun_group group tx body order).core tx body [])
      begun_said tx By.Merge order h s = (said_question (begun_group group tx By.Merge order) s me tx By.Merge order None refl, tt)
      begun_said tx (By.Repart at) order h s = (said_question (begun_group group tx (By.Repart at) order) s me tx (By.Repart at) order None refl, tt)
      begun_said tx (By.Migrate node) order h s = (said_question (begun_group group tx (By.Migrate node) order) s me tx (By.Migrate node) order None refl, tt)
      begun_said tx (By.Split at child) order h s = absurd h

      -- a participant's vote is heard
      offered_said : (tx : Draw) (offer : Offer) (why : Option No) → Stands (voting_group group tx why (Promised tx offer)) → Said (voted_to me (voting_group group tx why (Promised tx offer)) offer.by tx offer (past_of why) [])
      offered_said tx offer None s =
          let g = voting_group group tx None (Promised tx offer) in
          (s.allows name (RecordVote tx (Vows.Yes (frozen_of g)) 0) ((al g).promises tx offer refl name 0), tt)
      offered_said tx offer (Some reason) s = (tt, tt)

      -- so is a watcher's
      asked_said : (tx : Draw) (watch : Watch) (why : Option No) → (past_of why ≡ Cast.Yes → IsAllowed sources stories name (RecordWatch tx Cast.Yes 0)) → Said (watched_to me watch.by tx watch (past_of why) [])
      asked_said tx watch None voted = (voted refl, tt)
      asked_said tx watch (Some reason) voted = (tt, tt)

      -- what it says is heard
      pub goes_on : Said (went_on me (applied group c).0 was (applied group c).1 c [])
      unfolding went_on
      goes_on =
          comes group Goes
          (record {
            same = λ d effect dull _ _. dull_said me group was effect dull d;
            served = λ client seq op after effect core _ _. tt;
            joined = λ node order _ _. tt;
            left = λ node order _ _. tt;
            parted = λ at child order free fact e. said_first _ (stands_next _ _ e) me _ refl;
            split = λ at child order free fact e. said_first _ (stands_next _ _ e) me _ refl;
            begun = λ tx body order free fact e. begun_said tx body order (shared tx body order (sym fact)) (stands_next _ _ e);
            offered = λ tx offer new fact e. offered_said tx offer (vote_of group.core offer) (stands_next _ _ e);
            asked = λ tx watch new fact e. asked_said tx watch (watch_vote_of group.core watch)
                (λ voted. may name (RecordWatch tx Cast.Yes 0) (subst (λ d. MakesAllowed sources name group d name (RecordWatch tx Cast.Yes 0)) fact
                ((al group).watches tx watch (ap (λ (x : Group × Effect). x.1) (ap (applied group) fact ∙ sym e) ∙ ap (λ p. Was.Voted p) voted) name 0)));
            heard = λ tx order got lock frozen by fact e. said_first _ (stands_next _ _ e) me _ refl;
            ended = λ d tx ends free after outcome r fact e. (
                let effect = ap (λ (x : Group × Effect). x.1) (ap (applied group) fact ∙ sym e) in
                ended_said group was me (decided_group after tx outcome) d tx outcome ends effect (told_by group d tx outcome (subst (EntryAllows group) (sym fact) may) ends effect));
            finished = λ tx binds after outcome r fact e. tt;
          }) c refl refl

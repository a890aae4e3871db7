-- What the replicas of a group of a journal say of transactions is true, and what they hear they may queue: the one link between a replica's mail and the entries of all logs.
use Rattle.std.proofs.Common.{◌≡◌, ℕ, Bool, List, [], ◌∷◌, ◌++◌, length, drop, Option, Some, None, refl, sym, ◌∙◌, ap, subst, append_assoc, find, option_map}
use Rattle.std.proofs.lemmas.Bool.{cond_both}
use Rattle.std.proofs.lemmas.Option.{same_Some}
use Rattle.sc_base.specs.Definitions.{Among, Each, same_draw}
use Rattle.sc_node_table.specs.Values.{Draw, Offer, Watch, Command, Prepared, RecordVote, Finish, Watched, RecordWatch, Base, Lock, Free, Coordinating, Promised, Watching, Route, Outcome, Past, MailBody, TxPrepare, TxVote, TxOutcome, TxElsewhere, TxWatch, TxWatched}
use Rattle.sc_base.proofs.Lemmas.{draw_is}
use Rattle.sc_words.specs.declared.commands.votes.Past.TheVariants as Cast
use Rattle.sc_words.specs.declared.commands.votes.Vote.TheVariants as Vows
use Rattle.sc_group_table.specs.machine.MachineDefinitions.{Group, group_of, state_after, applied, frozen_of}
use Rattle.sc_group_table.proofs.MachineProofs.Lemmas.{state_push}
use Rattle.sc_node_table.specs.NodeDefinitions.{group_of_mail, before_of, standing_by, standing_vote, noted_outcome, voted_to, watched_to, asked_next}
use Rattle.sc_words.proofs.PaxosProofs.PaxosLemmas.{Each-append, Each-weaker, find_found}
use Rattle.sc_paxos_law.specs.PaxosLawDefinitions.{IsLog, IsLawfulHistory}
use Rattle.sc_meaning.specs.sound.SoundDefinitions.{Ahead, groups_at, decided_log}
use Rattle.sc_scenario.specs.declared.scenario.scenarios.Scenario.{Scenario}
use Rattle.sc_law_entries.specs.ring.RingDefinitions.{Sources, IsAllowed, BeginInPlace, Story, Stories, unsigned, unsigned_watch}
use Rattle.sc_law_entries.specs.logs.LogDefinitions.{AllowsAsItStands, MakesAllowed, GroupAllows, Rows, DecideInTurn}
use Rattle.sc_law_entries.proofs.LogsProofs.LogLemmas.{prefixes_allow, states_allow, groups_allow_others}
use Rattle.sc_law_groups.proofs.GroupProofs.GroupLemmas.{h_of, rule, first, AreSaid, Meets, Speaks}
use Rattle.sc_law_groups.specs.whole.WholeDefinitions.{stories_at, MayQueue, IsHeardAt, IsFresh, PartiesAreApart, MergesFit}
use Rattle.sc_law_groups.proofs.WholeProofs.Coming.{Binds}
use Rattle.sc_law_groups.proofs.WholeProofs.Locks.{Ever, WatchesIt, watching_since, DecidesIt, decided_since, yes_binds}
use Rattle.sc_law_groups.proofs.WholeProofs.Asking.{hears_merges, BeginsShared, splits_fit, none_split}
use Rattle.sc_law_groups.proofs.WholeProofs.WholePrefixes.{goes_on_from}
use Rattle.sc_law_groups.proofs.WholeProofs.Speaking.{stands_watch, stands_offer, Stands, said_question, said_reminders, told_by, goes_on}

-- only a Yes that is noted stands
standing_yes : (o : Option Past) (locked : Bool) (into : Option Route) → standing_by o locked into ≡ Some Cast.Yes → o ≡ Some Cast.Yes
standing_yes None locked None e = cc
standing_yes None locked (Some into) e = cc
standing_yes (Some (Cast.No why)) locked into e = cc
standing_yes (Some Cast.Ended) locked into e = cc
standing_yes (Some Cast.Yes) locked into e = refl

-- an outcome that is found in the notes
noted_found : (tx : Draw) (outcome : Outcome) (o : Option (Draw × Outcome)) → option_map (λ (noted : Draw × Outcome). noted.1) o ≡ Some outcome → (noted : Draw × Outcome) × (o ≡ Some noted) × (noted.1 ≡ outcome)
noted_found tx outcome None e = cc
noted_found tx outcome (Some noted) e = (noted, refl, cc)

module _ (sources : Sources) (ahead : Ahead) (scenario : Scenario) (start : BeginInPlace sources scenario.groups) (rows : Rows) (turn : DecideInTurn sources ahead scenario.groups [] rows)
    (apart : PartiesAreApart (stories_at ahead scenario.groups rows)) (fit : MergesFit (stories_at ahead scenario.groups rows))
    (base : Base) (among : Among base (groups_at ahead scenario.groups rows)) (lawful : IsLawfulHistory (rule ahead base) (first ahead base) (h_of rows base)) (fresh : IsFresh base) where
  -- the stories of all logs
  abbrev told : Stories
  told = stories_at ahead scenario.groups rows

  -- the group's name
  abbrev name : Draw
  name = base.core.id

  -- the group after a log
  abbrev after : List Command → Group
  after log = state_after (group_of base) log

  -- what its replicas may queue
  abbrev Queues : Command → Type 0
  Queues c = MayQueue sources ahead scenario rows base c

  -- a log of its steps
  abbrev Log : List Command → Type 0
  Log log = IsLog (rule ahead base) (h_of rows base) log

  -- its decided log
  abbrev decided : List Command
  decided = decided_log ahead base rows

  -- what the group makes allowed for others
  al : (group : Group) → GroupAllows sources name group
  al group = groups_allow_others sources name group

  -- the decided log goes on from each log of the steps
  on : (log : List Command) → Log log → decided ≡ log ++ drop (length log) decided
  on log fact = goes_on_from ahead base rows lawful log fact

  -- what the group makes allowed as it stands after a log
  state_allows : (log : List Command) → Log log → (other : Draw) (c : Command) → AllowsAsItStands sources name (after log) other c → IsAllowed sources told other c
  state_allows log fact other c stands = states_allow sources ahead scenario.groups start rows turn base among log (drop (length log) decided) (on log fact) other c stands

  -- what an entry of its log makes allowed
  prefix_allows : (prefix : List Command) (entry : Command) (later : List Command) → decided ≡ prefix ++ entry ∷ later → (other : Draw) (c : Command) → MakesAllowed sources name (after prefix) entry other c → IsAllowed sources told other c
  prefix_allows prefix entry later e other c makes = prefixes_allow sources ahead scenario.groups start rows turn base among prefix entry later e other c makes

  -- what the last entry of a log makes allowed
  entry_allows : (log : List Command) (c : Command) → Log (log ++ c ∷ []) → (other : Draw) (d : Command) → MakesAllowed sources name (after log) c other d → IsAllowed sources told other d
  entry_allows log c fact other d makes =
      prefix_allows log c (drop (length (log ++ c ∷ [])) decided) (on (log ++ c ∷ []) fact ∙ append_assoc log (c ∷ []) (drop (length (log ++ c ∷ [])) decided)) other d makes

  -- what an earlier entry of a log makes allowed
  ever_allows : (log : List Command) → Log log → (Did : Group → Command → Type 0) (since : Ever Did (group_of base) log) → (other : Draw) (c : Command) → MakesAllowed sources name (after since.prefix) since.entry other c → IsAllowed sources told other c
  ever_allows log fact Did since other c makes =
      let rest = drop (length log) decided in
      prefix_allows since.prefix since.entry (since.later ++ rest)
      (on log fact ∙ ap (λ l. l ++ rest) since.fact ∙ append_assoc since.prefix (since.entry ∷ since.later) rest) other c makes

  -- what is begun has a participant
  shared : (c : Command) → Queues c → BeginsShared c
  shared c m tx body order fact = (subst Queues fact m).0.1

  -- so the group after a log acts by what the stories record
  stands : (log : List Command) → Log log → Each Queues log → Stands sources told fit name (after log)
  stands log fact all = record {
    allows = state_allows log fact;
    merges = hears_merges (group_of base) log fresh.free;
    splits = splits_fit (group_of base) log (Each-weaker Queues BeginsShared shared log all) fresh.roster (none_split (group_of base) fresh.free);
  }

  -- a watcher's Yes
  watched : (log : List Command) → Log log → (tx : Draw) (watch : Watch) → (after log).core.lock ≡ Watching tx watch → IsAllowed sources told name (RecordWatch tx Cast.Yes 0)
  watched log fact tx watch e =
      let since = watching_since tx watch (group_of base) log fresh.free e in
      let did = since.did in
      ever_allows log fact (WatchesIt tx watch) since name (RecordWatch tx Cast.Yes 0)
      (subst (λ d. MakesAllowed sources name (after since.prefix) d name (RecordWatch tx Cast.Yes 0)) (sym did.command)
      ((al (after since.prefix)).watches tx watch (ap (λ d. (applied (after since.prefix) d).1) (sym did.command) ∙ did.effect) name 0))

  -- a decision that is noted
  ended : (log : List Command) → Log log → (tx : Draw) (outcome : Outcome) → noted_outcome (after log).core tx ≡ Some outcome → (part : Draw) → IsAllowed sources told part (Finish tx outcome)
  ended log fact tx outcome e part =
      let got = noted_found tx outcome (find (λ (noted : Draw × Outcome). same_draw noted.0 tx) (after log).core.decided) e in
      let there = find_found (λ (noted : Draw × Outcome). same_draw noted.0 tx) (after log).core.decided got.0 got.1 in
      let pair : got.0 ≡ (tx, outcome) = pair_is got.0 (draw_is got.0.0 tx there.1) got.2 in
      let since = decided_since tx outcome (group_of base) log fresh.decided (subst (λ p. Among p (after log).core.decided) pair there.0) in
      let did = since.did in
      told_by sources told fit name al (after since.prefix) since.entry tx outcome (ever_allows log fact (DecidesIt tx outcome) since) did.ends did.effect part
    where
      pair_is : (p : Draw × Outcome) → p.0 ≡ tx → p.1 ≡ outcome → p ≡ (tx, outcome)
      pair_is p one other = ap (λ d. (let q : Draw × Outcome = (d, p.1) in q)) one ∙ ap (λ o. (let q : Draw × Outcome = (tx, o) in q)) other

  -- ---- a vote that stands

  -- who watches is no participant of it
  no_both : (tx : Draw) (offer : Offer) (watch : Watch) → IsAllowed sources told name (Prepared tx offer) → IsAllowed sources told name (Watched tx watch) → ⊥
  no_both tx offer watch o w =
      let same = same_Some w.0 o.0 (sym w.1 ∙ o.1) in
      apart tx o.0 o.1 (unsigned offer) (unsigned_watch watch) o.2 (ap (λ (y : Story). y.watch) (sym same) ∙ w.2) (o.3 ∙ sym w.3)

  -- the Yes of a participant that is bound may be recorded
  participant_yes : (log : List Command) → Log log → (tx : Draw) (offer : Offer) → IsAllowed sources told name (Prepared tx offer) → (lock : Lock) → (after log).core.lock ≡ lock → Binds lock tx → IsAllowed sources told name (RecordVote tx (Vows.Yes (frozen_of (after log))) 0)
  participant_yes log fact tx offer a (Promised t o) e binds =
      subst (λ d. IsAllowed sources told name (RecordVote d (Vows.Yes (frozen_of (after log))) 0)) binds
      (state_allows log fact name (RecordVote t (Vows.Yes (frozen_of (after log))) 0) ((al (after log)).promises t o e name 0))
  participant_yes log fact tx offer a (Watching t w) e binds =
      absurd (no_both tx offer w a (subst (λ d. IsAllowed sources told name (Watched d w)) binds (state_allows log fact name (Watched t w) (stands_watch sources name (after log) t w e))))
  participant_yes log fact tx offer a Free e binds = absurd binds
  participant_yes log fact tx offer a (Coordinating t body order got) e binds = absurd binds

  -- so may that of a watcher
  watcher_yes : (log : List Command) → Log log → (tx : Draw) (watch : Watch) → IsAllowed sources told name (Watched tx watch) → (lock : Lock) → (after log).core.lock ≡ lock → Binds lock tx → IsAllowed sources told name (RecordWatch tx Cast.Yes 0)
  watcher_yes log fact tx watch a (Watching t w) e binds = subst (λ d. IsAllowed sources told name (RecordWatch d Cast.Yes 0)) binds (watched log fact t w e)
  watcher_yes log fact tx watch a (Promised t o) e binds =
      absurd (no_both tx o watch (subst (λ d. IsAllowed sources told name (Prepared d o)) binds (state_allows log fact name (Prepared t o) (stands_offer sources name (after log) t o e))) a)
  watcher_yes log fact tx watch a Free e binds = absurd binds
  watcher_yes log fact tx watch a (Coordinating t body order got) e binds = absurd binds

  -- a group whose Yes stands is bound
  binds_it : (log : List Command) (tx : Draw) → standing_vote (after log).core tx ≡ Some Cast.Yes → Binds (after log).core.lock tx
  binds_it log tx e = yes_binds tx (group_of base) log fresh.unvoted (standing_yes _ _ _ e)

  -- what a participant says of a vote that stands is heard
  said_vote : (log : List Command) → Log log → (tx : Draw) (offer : Offer) → IsAllowed sources told name (Prepared tx offer) → (vote : Past) → standing_vote (after log).core tx ≡ Some vote → (me node : ℕ)
      → AreSaid (IsHeardAt sources ahead scenario rows) (voted_to me (after log) node tx offer vote [])
  said_vote log fact tx offer a Cast.Yes e me node = (participant_yes log fact tx offer a (after log).core.lock refl (binds_it log tx e), tt)
  said_vote log fact tx offer a (Cast.No why) e me node = (tt, tt)
  said_vote log fact tx offer a Cast.Ended e me node = tt

  -- so is what a watcher says
  said_watch : (log : List Command) → Log log → (tx : Draw) (watch : Watch) → IsAllowed sources told name (Watched tx watch) → (vote : Past) → standing_vote (after log).core tx ≡ Some vote → (me node : ℕ)
      → AreSaid (IsHeardAt sources ahead scenario rows) (watched_to me node tx watch vote [])
  said_watch log fact tx watch a Cast.Yes e me node = (watcher_yes log fact tx watch a (after log).core.lock refl (binds_it log tx e), tt)
  said_watch log fact tx watch a (Cast.No why) e me node = (tt, tt)
  said_watch log fact tx watch a Cast.Ended e me node = tt

  -- so is what a coordinator asks another node
  said_next : (log : List Command) → Log log → Each Queues log → (me from : ℕ) (tx : Draw) (hint : Option ℕ) (lock : Lock) → (after log).core.lock ≡ lock
      → AreSaid (IsHeardAt sources ahead scenario rows) (asked_next lock me (after log).core from tx hint [])
  said_next log fact all me from tx hint Free e = tt
  said_next log fact all me from tx hint (Promised t o) e = tt
  said_next log fact all me from tx hint (Watching t w) e = tt
  said_next log fact all me from tx hint (Coordinating t body order got) e =
      cond_both (same_draw t tx) _ [] (AreSaid (IsHeardAt sources ahead scenario rows))
      (λ same. (said_question sources told fit name al (after log) (stands log fact all) me tx body order got (e ∙ ap (λ d. Coordinating d body order got) (draw_is t tx same)), tt)) (λ _. tt)

  -- ---- all together

  -- what comes of a mail
  met : (log : List Command) → Log log → Each Queues log → (body : MailBody) → IsHeardAt sources ahead scenario rows body → group_of_mail body ≡ Some name → Meets Queues (IsHeardAt sources ahead scenario rows) (after log) body
  met log fact all (TxPrepare tx offer) h named =
      let a = subst (λ n. IsAllowed sources told n (Prepared tx offer)) (same_Some offer.part name named) h in
      ((a, tt), said_vote log fact tx offer a)
  met log fact all (TxWatch tx watch) h named =
      let a = subst (λ n. IsAllowed sources told n (Watched tx watch)) (same_Some watch.part name named) h in
      ((a, tt), said_watch log fact tx watch a)
  met log fact all (TxVote tx coord part vote) h named = ((λ from. (h, tt)), (λ outcome e. ended log fact tx outcome e part))
  met log fact all (TxWatched tx coord part vote) h named = ((λ from. (h, tt)), (λ outcome e. ended log fact tx outcome e part))
  met log fact all (TxOutcome tx part outcome) h named = (h, tt)
  met log fact all (TxElsewhere tx coord hint) h named = λ me from. said_next log fact all me from tx hint (after log).core.lock refl
  met log fact all _ h named = tt

  -- the group's replicas say and queue what is true and allowed
  pub speaks : Speaks ahead base Queues (IsHeardAt sources ahead scenario rows) (h_of rows base)
  speaks = record {
    noop = (tt, tt);
    elsewhere = λ body h tx coord hint. tt;
    goes_on = λ log c fact all m me. goes_on sources told fit name al (after log) (before_of (after log).core) me c (entry_allows log c fact) (shared c m)
        (subst (Stands sources told fit name) (state_push (group_of base) log c) (stands (log ++ c ∷ []) fact (Each-append Queues log (c ∷ []) all (m, tt))));
    reminds = λ log fact all me. said_reminders sources told fit name al (after log) (stands log fact all) (watched log fact) me (after log).core.lock refl;
    gives_up = λ log fact all tx body order got e. (tt, tt);
    meets = met;
  }

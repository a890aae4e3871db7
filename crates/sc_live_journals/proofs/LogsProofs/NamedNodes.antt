-- What a group says in transactions names such nodes, where its members are such.
use Rattle.std.proofs.Common.{◌≡◌, ℕ, List, [], ◌∷◌, ◌++◌, Option, Some, None, refl, subst}
use Rattle.std.specs.List.{find}
use Rattle.std.specs.Option.{option_map}
use Rattle.std.proofs.lemmas.Bool.{cond_both}
use Rattle.sc_base.specs.Definitions.{Each, same_draw}
use Rattle.sc_node_table.specs.Values.{Draw, Body, Offer, Watch, Command, Split, Begin, Prepared, RecordVote, GiveUp, Watched, RecordWatch, Base, Core, Lock, Free, Coordinating, Promised, Watching, Effect, Link, Heard, Outcome, Abort, Past, Vote, Mail, MailBody, TxPrepare, TxVote, TxOutcome, TxElsewhere, TxWatch, TxWatched}
use Rattle.sc_words.specs.declared.commands.bodies.Body.TheVariants as At
use Rattle.sc_words.specs.declared.commands.votes.Past.TheVariants as Cast
use Rattle.sc_words.specs.declared.commands.votes.Vote.TheVariants as Says
use Rattle.sc_words.specs.commands.CommandDefinitions.{is_changed, decided_in, cast_in}
use Rattle.sc_group_table.specs.machine.MachineDefinitions.{Group, group_of, state_after, applied, frozen_of}
use Rattle.sc_node_table.specs.declared.Before.{Before}
use Rattle.sc_node_table.specs.NodeDefinitions.{sent_all, question, asked_first, asked_link, asked_node, reminders, before_of, asked_on, vote_sent, watch_sent, aborted_to, aborted_watcher, given_up_by, vote_answered, released_to, watch_answered_by, went_on, noted_outcome, voted_to, watched_to, next_asked, asked_next}
use Rattle.sc_words.proofs.PaxosProofs.PaxosLemmas.{Each-among, Each-append, find_found}
use Rattle.sc_meaning.specs.sound.SoundDefinitions.{Ahead}
use Rattle.sc_law_groups.proofs.GroupProofs.GroupLemmas.{Steps, birth, IsSaid, AreSaid, Meets, Speaks}
use Rattle.sc_live_journals.proofs.LogsProofs.NodesInGroups.{AreNodes, MovesNode, BringsNodes, HasNodes, SaysNodes, IfMoves, nodes_stay_nodes, decision_moves, log_nodes}

module _ (Home : ℕ → Type 0) where
  abbrev Said : List Mail → Type 0
  Said = AreSaid (SaysNodes Home)

  -- one mail more
  one_said : (me to : ℕ) (body : MailBody) (mails : List Mail) → IsSaid (SaysNodes Home) body → Said mails → Said (mails ++ record { from = me; to = to; body = body } ∷ [])
  one_said me to body mails t e = Each-append (λ (mail : Mail). IsSaid (SaysNodes Home) mail.body) mails (record { from = me; to = to; body = body } ∷ []) e (t, tt)

  all_said : (me : ℕ) (nodes : List ℕ) (body : MailBody) (mails : List Mail) → IsSaid (SaysNodes Home) body → Said mails → Said (sent_all me nodes body mails)
  unfolding sent_all
  all_said me [] body mails t e = e
  all_said me (node ∷ nodes) body mails t e = all_said me nodes body (mails ++ record { from = me; to = node; body = body } ∷ []) t (one_said me node body mails t e)

  question_said : (me : ℕ) (core : Core) (tx : Draw) (body : Body) (got : Option Heard) → IsSaid (SaysNodes Home) (question me core tx body got)
  question_said me core tx At.Merge None = tt
  question_said me core tx At.Merge (Some heard) = tt
  question_said me core tx (At.Repart at) None = tt
  question_said me core tx (At.Repart at) (Some heard) = tt
  question_said me core tx (At.Migrate node) None = tt
  question_said me core tx (At.Migrate node) (Some heard) = tt
  question_said me core tx (At.Split at child) got = tt

  first_said : (lock : Lock) (me : ℕ) (core : Core) → Said (asked_first lock me core [])
  first_said Free me core = tt
  first_said (Coordinating tx body order got) me core = (question_said me core tx body got, tt)
  first_said (Promised tx offer) me core = tt
  first_said (Watching tx watch) me core = tt

  on_said : (effect : Effect) (me : ℕ) (core : Core) → Said (asked_on effect me core [])
  on_said effect me core = cond_both (is_changed effect) (asked_first core.lock me core []) [] Said (λ _. first_said core.lock me core) (λ _. tt)

  vote_said : (vote : Past) (me : ℕ) (group : Group) (node : ℕ) (tx : Draw) (offer : Offer) → (AreNodes Home) group.core.members → Said (voted_to me group node tx offer vote [])
  vote_said Cast.Yes me group node tx offer all = (all, tt)
  vote_said (Cast.No why) me group node tx offer all = (tt, tt)
  vote_said Cast.Ended me group node tx offer all = tt

  sent_said : (o : Option Past) (me : ℕ) (group : Group) (tx : Draw) (offer : Offer) → (AreNodes Home) group.core.members → Said (vote_sent o me group tx offer [])
  sent_said None me group tx offer all = tt
  sent_said (Some vote) me group tx offer all = vote_said vote me group offer.by tx offer all

  watched_said : (vote : Past) (me node : ℕ) (tx : Draw) (watch : Watch) → Said (watched_to me node tx watch vote [])
  watched_said Cast.Yes me node tx watch = (tt, tt)
  watched_said (Cast.No why) me node tx watch = (tt, tt)
  watched_said Cast.Ended me node tx watch = tt

  watch_said : (o : Option Past) (me : ℕ) (tx : Draw) (watch : Watch) → Said (watch_sent o me tx watch [])
  watch_said None me tx watch = tt
  watch_said (Some vote) me tx watch = watched_said vote me watch.by tx watch

  aborted_said : (me : ℕ) (tx : Draw) (link : Link) (mails : List Mail) → Said mails → Said (aborted_to me tx link mails)
  aborted_said me tx link mails e = all_said me link.members (TxOutcome tx link.group Abort) mails tt e

  watcher_said : (me : ℕ) (tx : Draw) (o : Option (ℕ × Link)) (mails : List Mail) → Said mails → Said (aborted_watcher me tx o mails)
  watcher_said me tx None mails e = e
  watcher_said me tx (Some heard) mails e = aborted_said me tx heard.1 mails e

  given_said : (o : Option Outcome) (me : ℕ) (was : Before) (tx : Draw) → Said (given_up_by o me was tx [])
  given_said None me was tx = tt
  given_said (Some outcome) me was tx = watcher_said me tx was.heard (aborted_to me tx was.succ []) (aborted_said me tx was.succ [] tt)

  answered_said : (o : Option Outcome) (vote : Vote) (me : ℕ) (was : Before) (tx : Draw) (by : ℕ) (mails : List Mail) → (IfMoves Home) o → Said mails → Said (vote_answered o vote me was tx by mails)
  answered_said None vote me was tx by mails m e = e
  answered_said (Some outcome) (Says.Yes frozen) me was tx by mails m e = one_said me by (TxOutcome tx was.succ.group outcome) mails m e
  answered_said (Some outcome) (Says.No why) me was tx by mails m e = e

  released_said : (o : Option (ℕ × Link)) (me : ℕ) (succ : Link) (tx : Draw) (by : ℕ) (outcome : Outcome) → (MovesNode Home) outcome → Said (released_to o me succ tx by outcome [])
  released_said None me succ tx by outcome m = (m, tt)
  released_said (Some heard) me succ tx by outcome m = (m, (m, tt))

  recorded_said : (o : Option Outcome) (vote : Past) (me : ℕ) (was : Before) (tx : Draw) (by : ℕ) → (IfMoves Home) o → Said (watch_answered_by o vote me was tx by [])
  recorded_said None vote me was tx by m = tt
  recorded_said (Some outcome) Cast.Yes me was tx by m = released_said was.heard me was.succ tx by outcome m
  recorded_said (Some outcome) (Cast.No why) me was tx by m = cond_both was.merges (aborted_to me tx was.succ []) [] Said (λ _. aborted_said me tx was.succ [] tt) (λ _. tt)
  recorded_said (Some outcome) Cast.Ended me was tx by m = tt

  -- what an entry says
  went_said : (me : ℕ) (group : Group) (was : Before) (c : Command) → (BringsNodes Home) c → (HasNodes Home) group.core → Said (went_on me (applied group c).0 was (applied group c).1 c [])
  unfolding went_on
  went_said me group was (Split at child order) b has = on_said (applied group (Split at child order)).1 me (applied group (Split at child order)).0.core
  went_said me group was (Begin tx body order) b has = cond_both (is_changed (applied group (Begin tx body order)).1) _ [] Said (λ _. (tt, tt)) (λ _. tt)
  went_said me group was (Prepared tx offer) b has =
      sent_said (cast_in (applied group (Prepared tx offer)).1) me (applied group (Prepared tx offer)).0 tx offer (nodes_stay_nodes Home group (Prepared tx offer) tt has).0
  went_said me group was (RecordVote tx vote by) b has =
      answered_said (decided_in (applied group (RecordVote tx vote by)).1) vote me was tx by (asked_on (applied group (RecordVote tx vote by)).1 me (applied group (RecordVote tx vote by)).0.core [])
      (decision_moves Home group (RecordVote tx vote by) b has) (on_said (applied group (RecordVote tx vote by)).1 me (applied group (RecordVote tx vote by)).0.core)
  went_said me group was (GiveUp tx) b has = given_said (decided_in (applied group (GiveUp tx)).1) me was tx
  went_said me group was (Watched tx watch) b has = watch_said (cast_in (applied group (Watched tx watch)).1) me tx watch
  went_said me group was (RecordWatch tx vote by) b has = recorded_said (decided_in (applied group (RecordWatch tx vote by)).1) vote me was tx by (decision_moves Home group (RecordWatch tx vote by) tt has)
  went_said me group was _ b has = tt

  reminds_said : (lock : Lock) (me : ℕ) (group : Group) → (AreNodes Home) group.core.members → Said (reminders lock me group [])
  reminds_said Free me group all = tt
  reminds_said (Coordinating tx body order got) me group all = all_said me (asked_link group.core body got).members (question me group.core tx body got) [] (question_said me group.core tx body got) tt
  reminds_said (Promised tx offer) me group all = all_said me offer.members (TxVote tx offer.coord offer.part (Says.Yes (frozen_of group))) [] all tt
  reminds_said (Watching tx watch) me group all = all_said me watch.members (TxWatched tx watch.coord watch.part Cast.Yes) [] tt tt

  next_said : (lock : Lock) (me : ℕ) (core : Core) (from : ℕ) (tx : Draw) (hint : Option ℕ) → Said (asked_next lock me core from tx hint [])
  next_said Free me core from tx hint = tt
  next_said (Promised locked offer) me core from tx hint = tt
  next_said (Watching locked watch) me core from tx hint = tt
  next_said (Coordinating locked body order got) me core from tx hint =
      cond_both (same_draw locked tx) (asked_node me core tx body got (next_asked hint (asked_link core body got).members from) []) [] Said (λ _. (question_said me core tx body got, tt)) (λ _. tt)

  -- what was decided moves a node
  noted_moves : (core : Core) (tx : Draw) (outcome : Outcome) → (HasNodes Home) core → noted_outcome core tx ≡ Some outcome → (MovesNode Home) outcome
  noted_moves core tx outcome has e = by (find (λ (noted : Draw × Outcome). same_draw noted.0 tx) core.decided) refl e
    where
      by : (o : Option (Draw × Outcome)) → find (λ (noted : Draw × Outcome). same_draw noted.0 tx) core.decided ≡ o → option_map (λ (noted : Draw × Outcome). noted.1) o ≡ Some outcome → (MovesNode Home) outcome
      by None found fact = absurd (cc)
      by (Some noted) found fact = (
          let same : noted.1 ≡ outcome = cc in
          subst (MovesNode Home) same (Each-among (λ (d : Draw × Outcome). (MovesNode Home) d.1) core.decided noted has.2 (find_found (λ (n : Draw × Outcome). same_draw n.0 tx) core.decided noted found).0))

  -- a group that begins with nodes says and queues what brings nodes
  module _ (ahead : Ahead) (base : Base) (begins : (HasNodes Home) base.core) (h : Steps) where
    stands : (log : List Command) → Each (BringsNodes Home) log → (HasNodes Home) (state_after (birth ahead base) log).core
    stands log all = log_nodes Home (group_of base) log begins all

    met : (log : List Command) → Each (BringsNodes Home) log → (body : MailBody) → (SaysNodes Home) body → Meets (BringsNodes Home) (SaysNodes Home) (state_after (birth ahead base) log) body
    met log all (TxPrepare tx offer) s = (tt, λ vote e me node. vote_said vote me (state_after (birth ahead base) log) node tx offer (stands log all).0)
    met log all (TxVote tx coord part vote) s = (λ from. s, λ outcome e. noted_moves (state_after (birth ahead base) log).core tx outcome (stands log all) e)
    met log all (TxOutcome tx part outcome) s = s
    met log all (TxElsewhere tx coord hint) s = λ me from. next_said (state_after (birth ahead base) log).core.lock me (state_after (birth ahead base) log).core from tx hint
    met log all (TxWatch tx watch) s = (tt, λ vote e me node. watched_said vote me node tx watch)
    met log all (TxWatched tx coord part vote) s = (λ from. tt, λ outcome e. noted_moves (state_after (birth ahead base) log).core tx outcome (stands log all) e)
    met log all _ s = tt

    pub says_nodes : Speaks ahead base (BringsNodes Home) (SaysNodes Home) h
    says_nodes = record {
      noop = tt;
      elsewhere = λ body s tx coord hint. tt;
      goes_on = λ log c fact all b me. went_said me (state_after (birth ahead base) log) (before_of (state_after (birth ahead base) log).core) c b (stands log all);
      reminds = λ log fact all me. reminds_said (state_after (birth ahead base) log).core.lock me (state_after (birth ahead base) log) (stands log all).0;
      gives_up = λ log fact all tx body order got e. tt;
      meets = λ log fact all body s named. met log all body s;
    }

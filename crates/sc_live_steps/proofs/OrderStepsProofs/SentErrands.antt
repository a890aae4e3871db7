-- The errands by which a transaction goes on come behind those that were sent.
use Rattle.std.proofs.Common.{◌≡◌, ℕ, Bool, true, false, cond, List, [], ◌∷◌, ◌++◌, Option, Some, None, sym, ◌∙◌, ap, append-nil}
use Rattle.std.proofs.lemmas.List.{append_assoc}
use Rattle.sc_node_table.specs.Values.{Draw, Offer, Watch, Command, Split, Begin, Prepared, RecordVote, GiveUp, Watched, RecordWatch, Core, Lock, Free, Coordinating, Promised, Watching, Effect, Link, Outcome, Abort, Past, Vote, Mail, MailBody, TxOutcome}
use Rattle.sc_words.specs.commands.CommandDefinitions.{is_changed, decided_in, cast_in}
use Rattle.sc_words.specs.declared.commands.votes.Past.TheVariants as Cast
use Rattle.sc_words.specs.declared.commands.votes.Vote.TheVariants as Says
use Rattle.sc_group_table.specs.machine.MachineDefinitions.{Group}
use Rattle.sc_node_table.specs.NodeDefinitions.{sent, sent_all, asked_first, asked_on, vote_sent, watch_sent, aborted_to, aborted_watcher, given_up_by, vote_answered, released_to, watch_answered_by, went_on}
use Rattle.sc_node_table.specs.declared.Before.{Before}
use Rattle.sc_live_steps.specs.orders.OrderDefinitions.{errand_by, errand_for, errands_for}
use Rattle.sc_live_steps.proofs.OrderStepsProofs.Errands.{errands-push}

module _ (name : Draw) where
  -- what is done to mail puts errands last
  abbrev pub Adds : (List Mail → List Mail) → Type 0
  Adds f = (mails : List Mail) → errands_for name (f mails) ≡ errands_for name mails ++ errands_for name (f [])

  same_adds : Adds (λ mails. mails)
  same_adds mails = sym (append-nil (errands_for name mails))

  sent_adds : (me to : ℕ) (body : MailBody) → Adds (sent me to body)
  sent_adds me to body mails =
      errands-push name mails (record { from = me; to = to; body = body }) ∙ ap (λ l. errands_for name mails ++ l) (sym (append-nil (errand_for name (errand_by me to body))))

  both_add : (f g : List Mail → List Mail) → Adds f → Adds g → Adds (λ mails. g (f mails))
  both_add f g af ag mails =
      ag (f mails) ∙ (ap (λ l. l ++ errands_for name (g [])) (af mails)
      ∙ (append_assoc (errands_for name mails) (errands_for name (f [])) (errands_for name (g [])) ∙ ap (λ l. errands_for name mails ++ l) (sym (ag (f [])))))

  all_add : (me : ℕ) (nodes : List ℕ) (body : MailBody) → Adds (sent_all me nodes body)
  unfolding sent_all
  all_add me [] body = same_adds
  all_add me (node ∷ nodes) body = both_add (sent me node body) (sent_all me nodes body) (sent_adds me node body) (all_add me nodes body)

  either_adds : (b : Bool) (f g : List Mail → List Mail) → Adds f → Adds g → Adds (λ mails. cond b (f mails) (g mails))
  either_adds true f g af ag = af
  either_adds false f g af ag = ag

  first_adds : (lock : Lock) (me : ℕ) (core : Core) → Adds (asked_first lock me core)
  first_adds Free me core = same_adds
  first_adds (Coordinating tx body order heard) me core = sent_adds me _ _
  first_adds (Promised tx offer) me core = same_adds
  first_adds (Watching tx watch) me core = same_adds

  on_adds : (effect : Effect) (me : ℕ) (core : Core) → Adds (asked_on effect me core)
  on_adds effect me core = either_adds (is_changed effect) (asked_first core.lock me core) (λ mails. mails) (first_adds core.lock me core) same_adds

  vote_adds : (vote : Option Past) (me : ℕ) (group : Group) (tx : Draw) (offer : Offer) → Adds (vote_sent vote me group tx offer)
  vote_adds None me group tx offer = same_adds
  vote_adds (Some Cast.Yes) me group tx offer = sent_adds me _ _
  vote_adds (Some (Cast.No why)) me group tx offer = sent_adds me _ _
  vote_adds (Some Cast.Ended) me group tx offer = same_adds

  watch_adds : (vote : Option Past) (me : ℕ) (tx : Draw) (watch : Watch) → Adds (watch_sent vote me tx watch)
  watch_adds None me tx watch = same_adds
  watch_adds (Some Cast.Yes) me tx watch = sent_adds me _ _
  watch_adds (Some (Cast.No why)) me tx watch = sent_adds me _ _
  watch_adds (Some Cast.Ended) me tx watch = same_adds

  aborted_adds : (me : ℕ) (tx : Draw) (link : Link) → Adds (aborted_to me tx link)
  aborted_adds me tx link = all_add me link.members (TxOutcome tx link.group Abort)

  watcher_adds : (me : ℕ) (tx : Draw) (heard : Option (ℕ × Link)) → Adds (aborted_watcher me tx heard)
  watcher_adds me tx None = same_adds
  watcher_adds me tx (Some heard) = aborted_adds me tx heard.1

  given_adds : (outcome : Option Outcome) (me : ℕ) (before : Before) (tx : Draw) → Adds (given_up_by outcome me before tx)
  given_adds None me before tx = same_adds
  given_adds (Some outcome) me before tx = both_add (aborted_to me tx before.succ) (aborted_watcher me tx before.heard) (aborted_adds me tx before.succ) (watcher_adds me tx before.heard)

  answered_adds : (outcome : Option Outcome) (vote : Vote) (me : ℕ) (before : Before) (tx : Draw) (by : ℕ) → Adds (vote_answered outcome vote me before tx by)
  answered_adds None vote me before tx by = same_adds
  answered_adds (Some outcome) (Says.Yes frozen) me before tx by = sent_adds me by (TxOutcome tx before.succ.group outcome)
  answered_adds (Some outcome) (Says.No why) me before tx by = same_adds

  released_adds : (heard : Option (ℕ × Link)) (me : ℕ) (succ : Link) (tx : Draw) (by : ℕ) (outcome : Outcome) → Adds (released_to heard me succ tx by outcome)
  released_adds None me succ tx by outcome = sent_adds me by (TxOutcome tx succ.group outcome)
  released_adds (Some heard) me succ tx by outcome =
      both_add (sent me heard.0 (TxOutcome tx succ.group outcome)) (sent me by (TxOutcome tx heard.1.group outcome)) (sent_adds me heard.0 (TxOutcome tx succ.group outcome)) (sent_adds me by (TxOutcome tx heard.1.group outcome))

  watch_answered_adds : (outcome : Option Outcome) (vote : Past) (me : ℕ) (before : Before) (tx : Draw) (by : ℕ) → Adds (watch_answered_by outcome vote me before tx by)
  watch_answered_adds None vote me before tx by = same_adds
  watch_answered_adds (Some outcome) Cast.Yes me before tx by = released_adds before.heard me before.succ tx by outcome
  watch_answered_adds (Some outcome) (Cast.No why) me before tx by = either_adds before.merges (aborted_to me tx before.succ) (λ mails. mails) (aborted_adds me tx before.succ) same_adds
  watch_answered_adds (Some outcome) Cast.Ended me before tx by = same_adds

  pub went-adds : (me : ℕ) (group : Group) (before : Before) (effect : Effect) (command : Command) → Adds (went_on me group before effect command)
  unfolding went_on
  went-adds me group before effect (Split at child order) = on_adds effect me group.core
  went-adds me group before effect (Begin tx body order) = either_adds (is_changed effect) (sent me _ _) (λ mails. mails) (sent_adds me _ _) same_adds
  went-adds me group before effect (Prepared tx offer) = vote_adds (cast_in effect) me group tx offer
  went-adds me group before effect (RecordVote tx vote by) = both_add (asked_on effect me group.core) (vote_answered (decided_in effect) vote me before tx by) (on_adds effect me group.core) (answered_adds (decided_in effect) vote me before tx by)
  went-adds me group before effect (GiveUp tx) = given_adds (decided_in effect) me before tx
  went-adds me group before effect (Watched tx watch) = watch_adds (cast_in effect) me tx watch
  went-adds me group before effect (RecordWatch tx vote by) = watch_answered_adds (decided_in effect) vote me before tx by
  went-adds me group before effect _ = same_adds

-- What is said to the parties of transactions is put behind what was said before.
use Rattle.std.proofs.Common.{◌≡◌, ℕ, Bool, true, false, if◌then◌else◌, List, [], ◌∷◌, ◌++◌, Option, Some, None, refl, sym, ◌∙◌, ap, append_assoc, append-nil}
use Rattle.sc_node_table.specs.Values.{Draw, Body, Offer, Watch, Command, Split, Begin, Prepared, RecordVote, GiveUp, Watched, RecordWatch, Core, Lock, Free, Coordinating, Promised, Watching, Effect, Link, Outcome, Past, Vote, Mail, MailBody, TxOutcome}
use Rattle.sc_words.specs.declared.commands.effects.Effect.TheVariants as Was
use Rattle.sc_words.specs.declared.commands.votes.Outcome.TheVariants as Is
use Rattle.sc_words.specs.declared.commands.votes.Past.TheVariants as Cast
use Rattle.sc_words.specs.declared.commands.votes.Vote.TheVariants as Vows
use Rattle.sc_words.specs.commands.CommandDefinitions.{decided_in, cast_in}
use Rattle.sc_group_table.specs.machine.MachineDefinitions.{Group}
use Rattle.sc_node_table.specs.NodeDefinitions.{sent_all, asked_first, asked_node, asked_link, reminders, asked_on, begun_asks, vote_sent, watch_sent, aborted_to, aborted_watcher, given_up_by, vote_answered, released_to, watch_answered_by, went_on, voted_to, watched_to, outcome_sent, next_asked, asked_next}
use Rattle.sc_node_table.specs.declared.Before.{Before}
use Rattle.sc_base.specs.Definitions.{same_draw}

-- mails are put behind those that are there
abbrev pub Puts : (List Mail → List Mail) → Type 0
Puts f = (mails : List Mail) → f mails ≡ mails ++ f []

puts_after : (f g : List Mail → List Mail) → Puts f → Puts g → Puts (λ mails. g (f mails))
puts_after f g p q mails = q (f mails) ∙ ap (λ ms. ms ++ g []) (p mails) ∙ append_assoc mails (f []) (g []) ∙ ap (λ ms. mails ++ ms) (sym (q (f [])))

puts_if : (b : Bool) (f : List Mail → List Mail) → Puts f → Puts (λ mails. if b then f mails else mails)
puts_if true f p mails = p mails
puts_if false f p mails = sym (append-nil mails)

puts_all : (me : ℕ) (nodes : List ℕ) (body : MailBody) → Puts (sent_all me nodes body)
unfolding sent_all
puts_all me [] body mails = sym (append-nil mails)
puts_all me (node ∷ nodes) body mails =
    let one : Mail = record { from = me; to = node; body = body } in
    puts_all me nodes body (mails ++ one ∷ []) ∙ append_assoc mails (one ∷ []) (sent_all me nodes body []) ∙ ap (λ ms. mails ++ ms) (sym (puts_all me nodes body (one ∷ [])))

puts_first : (lock : Lock) (me : ℕ) (core : Core) → Puts (asked_first lock me core)
puts_first (Coordinating tx body order heard) me core mails = refl
puts_first _ me core mails = sym (append-nil mails)

puts_on : (effect : Effect) (me : ℕ) (core : Core) → Puts (asked_on effect me core)
puts_on Was.Changed me core mails = puts_first core.lock me core mails
puts_on _ me core mails = sym (append-nil mails)

puts_begun : (effect : Effect) (me : ℕ) (core : Core) (tx : Draw) (body : Body) → Puts (begun_asks effect me core tx body)
puts_begun Was.Changed me core tx body mails = refl
puts_begun _ me core tx body mails = sym (append-nil mails)

-- a vote
pub puts_vote : (me : ℕ) (group : Group) (node : ℕ) (tx : Draw) (offer : Offer) (vote : Past) → Puts (voted_to me group node tx offer vote)
puts_vote me group node tx offer Cast.Yes mails = refl
puts_vote me group node tx offer (Cast.No why) mails = refl
puts_vote me group node tx offer Cast.Ended mails = sym (append-nil mails)

-- a watcher's vote
pub puts_watch : (me node : ℕ) (tx : Draw) (watch : Watch) (vote : Past) → Puts (watched_to me node tx watch vote)
puts_watch me node tx watch Cast.Yes mails = refl
puts_watch me node tx watch (Cast.No why) mails = refl
puts_watch me node tx watch Cast.Ended mails = sym (append-nil mails)

puts_cast : (o : Option Past) (me : ℕ) (group : Group) (tx : Draw) (offer : Offer) → Puts (vote_sent o me group tx offer)
puts_cast None me group tx offer mails = sym (append-nil mails)
puts_cast (Some vote) me group tx offer mails = puts_vote me group offer.by tx offer vote mails

puts_watch_cast : (o : Option Past) (me : ℕ) (tx : Draw) (watch : Watch) → Puts (watch_sent o me tx watch)
puts_watch_cast None me tx watch mails = sym (append-nil mails)
puts_watch_cast (Some vote) me tx watch mails = puts_watch me watch.by tx watch vote mails

puts_aborted : (me : ℕ) (tx : Draw) (link : Link) → Puts (aborted_to me tx link)
puts_aborted me tx link mails = puts_all me link.members (TxOutcome tx link.group Is.Abort) mails

puts_aborted_watcher : (me : ℕ) (tx : Draw) (o : Option (ℕ × Link)) → Puts (aborted_watcher me tx o)
puts_aborted_watcher me tx None mails = sym (append-nil mails)
puts_aborted_watcher me tx (Some heard) mails = puts_aborted me tx heard.1 mails

puts_given_up : (o : Option Outcome) (me : ℕ) (was : Before) (tx : Draw) → Puts (given_up_by o me was tx)
puts_given_up None me was tx mails = sym (append-nil mails)
puts_given_up (Some outcome) me was tx mails =
    puts_after (aborted_to me tx was.succ) (aborted_watcher me tx was.heard) (puts_aborted me tx was.succ) (puts_aborted_watcher me tx was.heard) mails

puts_answered : (o : Option Outcome) (vote : Vote) (me : ℕ) (was : Before) (tx : Draw) (by : ℕ) → Puts (vote_answered o vote me was tx by)
puts_answered None vote me was tx by mails = sym (append-nil mails)
puts_answered (Some outcome) (Vows.Yes frozen) me was tx by mails = refl
puts_answered (Some outcome) (Vows.No why) me was tx by mails = sym (append-nil mails)

puts_released : (o : Option (ℕ × Link)) (me : ℕ) (succ : Link) (tx : Draw) (by : ℕ) (outcome : Outcome) → Puts (released_to o me succ tx by outcome)
puts_released None me succ tx by outcome mails = refl
puts_released (Some heard) me succ tx by outcome mails =
    puts_after (outcome_sent me heard.0 tx succ.group outcome) (outcome_sent me by tx heard.1.group outcome) (λ ms. refl) (λ ms. refl) mails

puts_watch_answered : (o : Option Outcome) (vote : Past) (me : ℕ) (was : Before) (tx : Draw) (by : ℕ) → Puts (watch_answered_by o vote me was tx by)
puts_watch_answered None vote me was tx by mails = sym (append-nil mails)
puts_watch_answered (Some outcome) Cast.Yes me was tx by mails = puts_released was.heard me was.succ tx by outcome mails
puts_watch_answered (Some outcome) (Cast.No why) me was tx by mails = puts_if was.merges (aborted_to me tx was.succ) (puts_aborted me tx was.succ) mails
puts_watch_answered (Some outcome) Cast.Ended me was tx by mails = sym (append-nil mails)

-- what goes on in a transaction
pub puts_went_on : (me : ℕ) (group : Group) (was : Before) (effect : Effect) (c : Command) → Puts (went_on me group was effect c)
unfolding went_on
puts_went_on me group was effect (Split at child order) mails = puts_on effect me group.core mails
puts_went_on me group was effect (Begin tx body order) mails = puts_begun effect me group.core tx body mails
puts_went_on me group was effect (Prepared tx offer) mails = puts_cast (cast_in effect) me group tx offer mails
puts_went_on me group was effect (RecordVote tx vote by) mails =
    puts_after (asked_on effect me group.core) (vote_answered (decided_in effect) vote me was tx by) (puts_on effect me group.core) (puts_answered (decided_in effect) vote me was tx by) mails
puts_went_on me group was effect (GiveUp tx) mails = puts_given_up (decided_in effect) me was tx mails
puts_went_on me group was effect (Watched tx watch) mails = puts_watch_cast (cast_in effect) me tx watch mails
puts_went_on me group was effect (RecordWatch tx vote by) mails = puts_watch_answered (decided_in effect) vote me was tx by mails
puts_went_on me group was effect _ mails = sym (append-nil mails)

-- what parties are reminded of
pub puts_reminders : (lock : Lock) (me : ℕ) (group : Group) → Puts (reminders lock me group)
puts_reminders Free me group mails = sym (append-nil mails)
puts_reminders (Coordinating tx body order heard) me group mails = puts_all me _ _ mails
puts_reminders (Promised tx offer) me group mails = puts_all me _ _ mails
puts_reminders (Watching tx watch) me group mails = puts_all me _ _ mails

-- what is asked next
pub puts_next : (lock : Lock) (me : ℕ) (core : Core) (from : ℕ) (tx : Draw) (hint : Option ℕ) → Puts (asked_next lock me core from tx hint)
puts_next (Coordinating locked body order heard) me core from tx hint mails =
    puts_if (same_draw locked tx) (asked_node me core tx body heard (next_asked hint (asked_link core body heard).members from)) (λ ms. refl) mails
puts_next _ me core from tx hint mails = sym (append-nil mails)

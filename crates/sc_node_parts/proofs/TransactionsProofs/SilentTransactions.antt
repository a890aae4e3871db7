-- Where a transaction makes no mail.
use Rattle.std.proofs.Common.{◌≡◌, ℕ, Bool, true, false, List, [], Option, Some, None, is_some, refl, sym, ap, ◌∙◌, if◌then◌else◌}
use Rattle.std.specs.Bool.{MatchBool}
use Rattle.sc_base.specs.declared.names.Draw.{Draw}
use Rattle.sc_words.specs.declared.commands.bodies.Offer.{Offer}
use Rattle.sc_words.specs.declared.commands.bodies.Watch.{Watch}
use Rattle.sc_words.specs.declared.commands.commands.Command.{Command}
use Rattle.sc_words.specs.declared.commands.commands.Command.TheVariants.{Noop, Call, Join, Leave, Split, Begin, Prepared, RecordVote, GiveUp, Finish, Watched, RecordWatch}
use Rattle.sc_words.specs.declared.commands.cores.Core.{Core}
use Rattle.sc_words.specs.declared.commands.cores.Lock.{Lock}
use Rattle.sc_words.specs.declared.commands.cores.Lock.TheVariants.{Free, Coordinating, Promised, Watching}
use Rattle.sc_words.specs.declared.commands.effects.Effect.{Effect}
use Rattle.sc_words.specs.declared.commands.links.Link.{Link}
use Rattle.sc_words.specs.commands.Effects.{decided_in, cast_in, is_changed}
use Rattle.sc_words.specs.declared.commands.votes.Past.{Past}
use Rattle.sc_words.specs.declared.commands.votes.Past.TheVariants as Cast
use Rattle.sc_words.specs.declared.commands.orders.OrderResult.{OrderResult}
use Rattle.sc_words.specs.declared.commands.votes.Outcome.{Outcome}
use Rattle.sc_words.specs.declared.commands.votes.Vote.{Vote}
use Rattle.sc_words.specs.declared.commands.votes.Vote.TheVariants as Says
use Rattle.sc_mail.specs.declared.bodies.Mail.{Mail}
use Rattle.sc_node_table.specs.declared.Before.{Before}
use Rattle.sc_node_table.specs.Questions.{asked_first}
use Rattle.sc_group_table.specs.machine.Group.{Group}
use Rattle.sc_node_table.specs.Reminders.{reminders}
use Rattle.sc_node_table.specs.Spoken.{result_reported, begun_reported, asked_on, vote_sent, watch_sent, aborted_to, aborted_watcher, given_up_by, vote_answered, released_to, watch_answered_by, went_on, spoken_mails}
use Rattle.sc_node_table.specs.Transactions.{voted_to, watched_to}
use Rattle.sc_node_parts.specs.transactions.Quiet.{coordinates}
use Rattle.sc_node_parts.proofs.ReplicaProofs.AppendedMail.{one_more, if_one, order_reported-unreported, sent_all-before, sent_all-none}

-- one that coordinates asks
pub unasked : (lock : Lock) (me : ℕ) (core : Core) → asked_first lock me core [] ≡ [] → coordinates lock ≡ false
unasked Free me core e = refl
unasked (Coordinating tx body order heard) me core e = absurd (cc)
unasked (Promised tx offer) me core e = refl
unasked (Watching tx watch) me core e = refl

-- mails are only appended
asked_first-before : (lock : Lock) (me : ℕ) (core : Core) (mails : List Mail) → asked_first lock me core mails ≡ [] → mails ≡ []
asked_first-before Free me core mails e = e
asked_first-before (Coordinating tx body order heard) me core mails e = absurd (one_more mails _ e)
asked_first-before (Promised tx offer) me core mails e = e
asked_first-before (Watching tx watch) me core mails e = e

if-before : (b : Bool) (more mails : List Mail) → (more ≡ [] → mails ≡ []) → (if b then more else mails) ≡ [] → mails ≡ []
if-before true more mails rest e = rest e
if-before false more mails rest e = e

asked_on-before : (effect : Effect) (me : ℕ) (core : Core) (mails : List Mail) → asked_on effect me core mails ≡ [] → mails ≡ []
asked_on-before effect me core mails e = if-before (is_changed effect) _ mails (asked_first-before core.lock me core mails) e

voted-before : (vote : Past) (me : ℕ) (group : Group) (node : ℕ) (tx : Draw) (offer : Offer) (mails : List Mail) → voted_to me group node tx offer vote mails ≡ [] → mails ≡ []
voted-before Cast.Yes me group node tx offer mails e = absurd (one_more mails _ e)
voted-before (Cast.No why) me group node tx offer mails e = absurd (one_more mails _ e)
voted-before Cast.Ended me group node tx offer mails e = e

vote_sent-before : (vote : Option Past) (me : ℕ) (group : Group) (tx : Draw) (offer : Offer) (mails : List Mail) → vote_sent vote me group tx offer mails ≡ [] → mails ≡ []
vote_sent-before None me group tx offer mails e = e
vote_sent-before (Some vote) me group tx offer mails e = voted-before vote me group offer.by tx offer mails e

watched-before : (vote : Past) (me node : ℕ) (tx : Draw) (watch : Watch) (mails : List Mail) → watched_to me node tx watch vote mails ≡ [] → mails ≡ []
watched-before Cast.Yes me node tx watch mails e = absurd (one_more mails _ e)
watched-before (Cast.No why) me node tx watch mails e = absurd (one_more mails _ e)
watched-before Cast.Ended me node tx watch mails e = e

watch_sent-before : (vote : Option Past) (me : ℕ) (tx : Draw) (watch : Watch) (mails : List Mail) → watch_sent vote me tx watch mails ≡ [] → mails ≡ []
watch_sent-before None me tx watch mails e = e
watch_sent-before (Some vote) me tx watch mails e = watched-before vote me watch.by tx watch mails e

watcher-before : (me : ℕ) (tx : Draw) (heard : Option (ℕ × Link)) (mails : List Mail) → aborted_watcher me tx heard mails ≡ [] → mails ≡ []
watcher-before me tx None mails e = e
watcher-before me tx (Some heard) mails e = sent_all-before me heard.1.members _ mails e

given-before : (decided : Option Outcome) (me : ℕ) (before : Before) (tx : Draw) (mails : List Mail) → given_up_by decided me before tx mails ≡ [] → mails ≡ []
given-before None me before tx mails e = e
given-before (Some outcome) me before tx mails e = sent_all-before me before.succ.members _ mails (watcher-before me tx before.heard _ e)

answered-before : (decided : Option Outcome) (vote : Vote) (me : ℕ) (before : Before) (tx : Draw) (by : ℕ) (mails : List Mail) → vote_answered decided vote me before tx by mails ≡ [] → mails ≡ []
answered-before None vote me before tx by mails e = e
answered-before (Some outcome) (Says.Yes frozen) me before tx by mails e = absurd (one_more mails _ e)
answered-before (Some outcome) (Says.No why) me before tx by mails e = e

released-before : (heard : Option (ℕ × Link)) (me : ℕ) (succ : Link) (tx : Draw) (by : ℕ) (outcome : Outcome) (mails : List Mail) → released_to heard me succ tx by outcome mails ≡ [] → mails ≡ []
released-before None me succ tx by outcome mails e = absurd (one_more mails _ e)
released-before (Some heard) me succ tx by outcome mails e = absurd (one_more _ _ e)

watch_answered-before : (decided : Option Outcome) (vote : Past) (me : ℕ) (before : Before) (tx : Draw) (by : ℕ) (mails : List Mail) → watch_answered_by decided vote me before tx by mails ≡ [] → mails ≡ []
watch_answered-before None vote me before tx by mails e = e
watch_answered-before (Some outcome) Cast.Yes me before tx by mails e = released-before before.heard me before.succ tx by outcome mails e
watch_answered-before (Some outcome) (Cast.No why) me before tx by mails e = if-before before.merges _ mails (sent_all-before me before.succ.members _ mails) e
watch_answered-before (Some outcome) Cast.Ended me before tx by mails e = e

went_on-before : (me : ℕ) (group : Group) (before : Before) (effect : Effect) (command : Command) (mails : List Mail) → went_on me group before effect command mails ≡ [] → mails ≡ []
unfolding went_on
went_on-before me group before effect (Split at child order) mails e = asked_on-before effect me group.core mails e
went_on-before me group before effect (Begin tx body order) mails e = if_one (is_changed effect) mails _ e
went_on-before me group before effect (Prepared tx offer) mails e = vote_sent-before (cast_in effect) me group tx offer mails e
went_on-before me group before effect (RecordVote tx vote by) mails e = asked_on-before effect me group.core mails (answered-before (decided_in effect) vote me before tx by _ e)
went_on-before me group before effect (GiveUp tx) mails e = given-before (decided_in effect) me before tx mails e
went_on-before me group before effect (Watched tx watch) mails e = watch_sent-before (cast_in effect) me tx watch mails e
went_on-before me group before effect (RecordWatch tx vote by) mails e = watch_answered-before (decided_in effect) vote me before tx by mails e
went_on-before me group before effect (Finish tx outcome) mails e = e
went_on-before me group before effect Noop mails e = e
went_on-before me group before effect (Call client seq op) mails e = e
went_on-before me group before effect (Join node order) mails e = e
went_on-before me group before effect (Leave node order) mails e = e

-- what is told has a number
pub reported-unreported : (me : ℕ) (reported : Option OrderResult) (number : ℕ) (result : OrderResult) → reported ≡ Some result → result_reported me reported number [] ≡ [] → number ≡ 0
reported-unreported me reported number result is e = order_reported-unreported me number result [] (ap (λ t. result_reported me t number []) (sym is) ∙ e)

pub is_decided : (b : Bool) (decided : Option Outcome) → MatchBool b ((outcome : Outcome) × (decided ≡ Some outcome)) (decided ≡ None) → b ≡ true → is_some decided ≡ true
is_decided true decided h e = ap is_some h.1
is_decided false decided h e = absurd (cc)

-- one that is given up
pub given-none : (decided : Option Outcome) (me : ℕ) (before : Before) (tx : Draw) → is_some decided ≡ true → given_up_by decided me before tx [] ≡ []
    → (aborted_to me tx before.succ [] ≡ []) × (aborted_watcher me tx before.heard [] ≡ [])
given-none None me before tx some e = absurd (cc)
given-none (Some outcome) me before tx some e =
    let n : aborted_to me tx before.succ [] ≡ [] = watcher-before me tx before.heard _ e in
    (n, ap (aborted_watcher me tx before.heard) (sym n) ∙ e)

-- reminders
pub promised-none : (lock : Lock) (me : ℕ) (group : Group) (tx : Draw) (offer : Offer) → lock ≡ Promised tx offer → reminders lock me group [] ≡ [] → offer.members ≡ []
promised-none lock me group tx offer is e =
    sent_all-none me offer.members _ [] (ap (λ l. reminders l me group []) (sym is) ∙ e)

pub watching-none : (lock : Lock) (me : ℕ) (group : Group) (tx : Draw) (watch : Watch) → lock ≡ Watching tx watch → reminders lock me group [] ≡ [] → watch.members ≡ []
watching-none lock me group tx watch is e =
    sent_all-none me watch.members _ [] (ap (λ l. reminders l me group []) (sym is) ∙ e)

-- what is told at each replica, and what is said by the one that counted
spoken_by : (counted : Bool) (me : ℕ) (group : Group) (before : Before) (effect : Effect) (command : Command) (reported : List Mail)
    → (if counted then went_on me group before effect command reported else reported) ≡ [] → (reported ≡ []) × (counted ≡ true → went_on me group before effect command [] ≡ [])
spoken_by true me group before effect command reported e =
    let n : reported ≡ [] = went_on-before me group before effect command reported e in
    (n, λ c. ap (went_on me group before effect command) (sym n) ∙ e)
spoken_by false me group before effect command reported e = (e, λ c. absurd (cc))

pub spoken-none : (counted : Bool) (me : ℕ) (group : Group) (before : Before) (effect : Effect) (command : Command)
    → spoken_mails counted me group before effect command [] ≡ [] → (begun_reported me before effect command [] ≡ []) × (counted ≡ true → went_on me group before effect command [] ≡ [])
unfolding spoken_mails
spoken-none counted me group before effect command e = spoken_by counted me group before effect command (begun_reported me before effect command []) e

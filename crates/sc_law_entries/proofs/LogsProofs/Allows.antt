-- What a lock makes allowed at other groups, and what an entry that votes or decides does.
use Rattle.std.proofs.Common.{◌≡◌, ℕ, cond, Option, Some, inl, inr, refl, sym, ◌∙◌, ap, subst}
use Rattle.std.specs.Option.{option_map}
use Rattle.std.proofs.lemmas.Bool.{cases_Bool, cond-false}
use Rattle.sc_base.specs.Definitions.{same_draw}
use Rattle.sc_base.specs.declared.names.Draw.{Draw}
use Rattle.sc_base.proofs.Lemmas.{draw_is}
use Rattle.sc_words.specs.declared.commands.bodies.Body.{Body}
use Rattle.sc_words.specs.declared.commands.bodies.Offer.{Offer}
use Rattle.sc_words.specs.declared.commands.commands.Command.TheVariants.{RecordVote, GiveUp, Watched, RecordWatch}
use Rattle.sc_words.specs.declared.commands.cores.Lock.{Lock}
use Rattle.sc_words.specs.declared.commands.cores.Lock.TheVariants.{Free, Coordinating, Promised, Watching}
use Rattle.sc_words.specs.declared.commands.effects.Effect.{Effect}
use Rattle.sc_words.specs.declared.commands.effects.Effect.TheVariants.{Decided, NoEffect}
use Rattle.sc_words.specs.declared.commands.votes.Heard.{Heard}
use Rattle.sc_words.specs.declared.commands.votes.Outcome.{Outcome}
use Rattle.sc_words.specs.declared.commands.votes.Past.{Past}
use Rattle.sc_words.specs.declared.commands.votes.Vote.{Vote}
use Rattle.sc_words.specs.commands.CommandDefinitions.{decided_in}
use Rattle.sc_group_table.specs.machine.MachineDefinitions.{Group, applied, asks_watcher, participant_answered, vote_recorded, watch_answered, watch_recorded, is_coordinating, aborted}
use Rattle.sc_law_entries.specs.ring.RingDefinitions.{Sources, Groups, Facts, IsCoordinating, IsPromised, LockOk, Story, Stories, with_story, with_answer, with_decision, with_watch_vote, watch_vote_in}
use Rattle.sc_law_entries.proofs.RingProofs.RingLemmas.{at-same}
use Rattle.sc_law_entries.specs.logs.LogDefinitions.{GroupAllows, EndsBy, GroupsAllowOthers}

-- who decides a transaction coordinates it
abbrev Coordinates : Lock → Draw → Type 0
Coordinates lock tx = (body : Body) × (order : ℕ) × (heard : Option Heard) × (lock ≡ Coordinating tx body order heard)

no_decision : (tx : Draw) (outcome : Outcome) → NoEffect tx ≡ Decided outcome → ⊥
no_decision tx outcome e = cc

by_name : (t tx : Draw) (body : Body) (order : ℕ) (heard : Option Heard) (group : Group) (answered : Group × Effect) (outcome : Outcome)
    → (cond (same_draw t tx) answered (group, NoEffect tx)).1 ≡ Decided outcome → Coordinates (Coordinating t body order heard) tx
by_name t tx body order heard group answered outcome e = elim (cases_Bool (same_draw t tx)) [
  | inl same ↦ (body, order, heard, ap (λ n. Coordinating n body order heard) (draw_is t tx same))
  | inr f ↦ absurd (no_decision tx outcome (sym (ap (λ (r : Group × Effect). r.1) (cond-false (same_draw t tx) answered (group, NoEffect tx) f)) ∙ e))
]

by_vote : (lock : Lock) (group : Group) (tx : Draw) (vote : Vote) (node : ℕ) (outcome : Outcome) → (vote_recorded lock group tx vote node).1 ≡ Decided outcome → Coordinates lock tx
by_vote Free group tx vote node outcome e = absurd (no_decision tx outcome e)
by_vote (Promised t offer) group tx vote node outcome e = absurd (no_decision tx outcome e)
by_vote (Watching t watch) group tx vote node outcome e = absurd (no_decision tx outcome e)
by_vote (Coordinating t body order heard) group tx vote node outcome e =
    by_name t tx body order heard group (cond (asks_watcher body heard) (group, NoEffect tx) (participant_answered vote body group tx order node)) outcome e

by_watch : (lock : Lock) (group : Group) (tx : Draw) (vote : Past) (outcome : Outcome) → (watch_recorded lock group tx vote).1 ≡ Decided outcome → Coordinates lock tx
by_watch Free group tx vote outcome e = absurd (no_decision tx outcome e)
by_watch (Promised t offer) group tx vote outcome e = absurd (no_decision tx outcome e)
by_watch (Watching t watch) group tx vote outcome e = absurd (no_decision tx outcome e)
by_watch (Coordinating t body order heard) group tx vote outcome e =
    by_name t tx body order heard group (cond (asks_watcher body heard) (watch_answered vote body heard group tx) (group, NoEffect tx)) outcome e

by_giving : (lock : Lock) (group : Group) (tx : Draw) (outcome : Outcome) → (cond (is_coordinating lock tx) (aborted group tx) (group, NoEffect tx)).1 ≡ Decided outcome → Coordinates lock tx
by_giving Free group tx outcome e = absurd (no_decision tx outcome e)
by_giving (Promised t offer) group tx outcome e = absurd (no_decision tx outcome e)
by_giving (Watching t watch) group tx outcome e = absurd (no_decision tx outcome e)
by_giving (Coordinating t body order heard) group tx outcome e = by_name t tx body order heard group (aborted group tx) outcome e

-- a story that goes on
recorded_next_is : (stories : Stories) (tx : Draw) (change : Story → Story) (story : Story) → stories tx ≡ Some story → with_story stories tx change tx ≡ Some (change story)
recorded_next_is stories tx change story fact = at-same stories tx (option_map change (stories tx)) ∙ ap (option_map change) fact

module _ (sources : Sources) (by : Draw) (group : Group) where
  module _ (groups : Groups) (stories : Stories) (facts : Facts sources.owner groups stories) (fact : groups by ≡ Some group) where
    coordinator : (tx : Draw) (body : Body) (order : ℕ) (heard : Option Heard) → group.core.lock ≡ Coordinating tx body order heard → IsCoordinating stories by group tx body heard
    coordinator tx body order heard lock = subst (LockOk stories by group) lock (facts.group by group fact).lock_ok

    participant : (tx : Draw) (offer : Offer) → group.core.lock ≡ Promised tx offer → IsPromised stories by group tx offer
    participant tx offer lock = subst (LockOk stories by group) lock (facts.group by group fact).lock_ok

    -- the story of who decides, with the outcome
    ended : (tx : Draw) (change : Effect → Story → Story) (effect : Effect) (outcome : Outcome) → effect ≡ Decided outcome → ((story : Story) → (change (Decided outcome) story).outcome ≡ Some outcome)
        → Coordinates group.core.lock tx → (story : Story) × (with_story stories tx (change effect) tx ≡ Some story) × (story.outcome ≡ Some outcome)
    ended tx change effect outcome e ends (body, order, heard, lock) =
        let own = coordinator tx body order heard lock in
        (change effect own.story, recorded_next_is stories tx (change effect) own.story own.fact, ap (λ x. (change x own.story).outcome) e ∙ ends own.story)

  ends_by_vote : (tx : Draw) (vote : Vote) (node : ℕ) → EndsBy sources by group tx (RecordVote tx vote node)
  ends_by_vote tx vote node outcome e name groups stories facts fact may =
      ended groups stories facts fact tx (with_answer group.core vote) (applied group (RecordVote tx vote node)).1 outcome e (λ story. refl) (by_vote group.core.lock group tx vote node outcome e)

  ends_by_watch : (tx : Draw) (vote : Past) (node : ℕ) → EndsBy sources by group tx (RecordWatch tx vote node)
  ends_by_watch tx vote node outcome e name groups stories facts fact may =
      ended groups stories facts fact tx (λ effect. with_decision (decided_in effect)) (applied group (RecordWatch tx vote node)).1 outcome e (λ story. refl) (by_watch group.core.lock group tx vote outcome e)

  ends_by_giving : (tx : Draw) → EndsBy sources by group tx (GiveUp tx)
  ends_by_giving tx outcome e name groups stories facts fact may =
      ended groups stories facts fact tx (λ effect. with_decision (decided_in effect)) (applied group (GiveUp tx)).1 outcome e (λ story. refl) (by_giving group.core.lock group tx outcome e)

  pub group_allows : GroupAllows sources by group
  group_allows = record {
    offers = λ tx body order heard lock offer offered groups stories facts fact. (
        let own = coordinator groups stories facts fact tx body order heard lock in
        (own.story, own.fact, own.offer ∙ offered, refl));
    asks = λ tx body order heard lock watch asked groups stories facts fact. (
        let own = coordinator groups stories facts fact tx body order heard lock in
        (own.story, own.fact, own.watch ∙ asked, refl));
    promises = λ tx offer lock name node groups stories facts fact. (
        let own = participant groups stories facts fact tx offer lock in
        (own.story, own.fact, own.vote));
    watches = λ tx watch e name node groups stories facts fact may. (
        let effect = (applied group (Watched tx watch)).1 in
        let change = λ (x : Effect). with_watch_vote (watch_vote_in x) in
        (change effect may.0, recorded_next_is stories tx (change effect) may.0 may.1, ap (λ x. (change x may.0).watch_vote) e));
    votes = ends_by_vote;
    watch_votes = ends_by_watch;
    gives_up = ends_by_giving;
  }

pub groups_allow_others : GroupsAllowOthers
groups_allow_others sources by group = group_allows sources by group

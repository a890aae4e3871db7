-- What allows an entry only grows.
use Rattle.std.specs.Prelude.{not, ◌&&◌}
use Rattle.std.proofs.Common.{◌≡◌, ℕ, true, false, cond, List, [], ◌∷◌, inl, inr, Option, Some, None, refl, sym, ◌∙◌, ap, subst}
use Rattle.std.proofs.lemmas.Bool.{cond_both}
use Rattle.std.specs.Option.{option_map}
use Rattle.std.proofs.lemmas.Option.{same_Some}
use Rattle.sc_base.specs.Definitions.{same_draw}
use Rattle.sc_base.specs.declared.names.Draw.{Draw}
use Rattle.sc_words.specs.declared.commands.bodies.Body.{Body}
use Rattle.sc_words.specs.declared.commands.bodies.Body.TheVariants as At
use Rattle.sc_words.specs.declared.commands.bodies.Offer.{Offer}
use Rattle.sc_words.specs.declared.commands.bodies.Watch.{Watch}
use Rattle.sc_words.specs.declared.commands.commands.Command.{Command}
use Rattle.sc_words.specs.declared.commands.commands.Command.TheVariants.{Call, Split, Begin, Prepared, RecordVote, GiveUp, Finish, Watched, RecordWatch}
use Rattle.sc_words.specs.declared.commands.cores.Lock.{Lock}
use Rattle.sc_words.specs.declared.commands.cores.Lock.TheVariants.{Free, Coordinating, Promised, Watching}
use Rattle.sc_words.specs.declared.commands.effects.Effect.{Effect}
use Rattle.sc_words.specs.declared.commands.effects.Effect.TheVariants as Was
use Rattle.sc_words.specs.declared.commands.votes.Frozen.{Frozen}
use Rattle.sc_words.specs.declared.commands.votes.Heard.{Heard}
use Rattle.sc_words.specs.declared.commands.votes.Outcome.{Outcome}
use Rattle.sc_words.specs.declared.commands.votes.Past.{Past}
use Rattle.sc_words.specs.declared.commands.votes.Past.TheVariants as Cast
use Rattle.sc_words.specs.declared.commands.votes.Vote.{Vote}
use Rattle.sc_words.specs.declared.commands.votes.Vote.TheVariants as Ballot
use Rattle.sc_words.specs.commands.CommandDefinitions.{decided_in, is_alone}
use Rattle.sc_group_table.specs.machine.MachineDefinitions.{Group, applied, split_group, begun_group, vote_recorded, watch_recorded, is_coordinating, aborted, has_voted, vote_of, watch_vote_of, past_of}
use Rattle.sc_meaning.specs.entries.EntryDefinitions.{named_group}
use Rattle.sc_meaning.specs.declared.entries.LogEntry.{LogEntry}
use Rattle.sc_words.specs.declared.commands.votes.Outcome.TheVariants as Is
use Rattle.sc_law_walks.proofs.WalkLemmas.{vote_step, decided_walk, watch_step}
use Rattle.sc_law_entries.specs.ring.RingDefinitions.{Sources, IsVoteCast, IsWatchVoteCast, IsAllowed, AreAllowed, StoryWorld, first_recorded, recorded_stories, recorded_next, recorded_after, Story, Stories, put, with_story, new_story, unsigned, unsigned_watch, watch_for, vote_in, watch_vote_in, with_vote, with_watch_vote, with_decision, with_asked, with_answer, stories_after, Groups, AllowedEntriesStayAllowed}
use Rattle.sc_meaning.proofs.EntriesProofs.EntryLemmas.{draw_cases}
use Rattle.sc_law_entries.proofs.RingProofs.View.{Ring}
use Rattle.sc_law_entries.proofs.RingProofs.Cover.{at-is, at-other}
use Rattle.sc_law_entries.proofs.RingProofs.EntryKinds.{unheard, not_passed}
use Rattle.sc_law_entries.proofs.RingProofs.Ends.{draw_new, own_story, same_lock}
use Rattle.sc_law_entries.proofs.RingProofs.RequestsAndOrders.{Kept, named_cases}
use Rattle.sc_law_entries.proofs.RingProofs.CutLookups.{arcs_in}
use Rattle.sc_law_entries.proofs.RingProofs.GroupsInLists.{groups_in}
use Rattle.sc_law_entries.proofs.RingProofs.Start.{at_start}
use Rattle.sc_law_entries.proofs.RingProofs.Worlds.{KeptWorld, kept_on, kept_after}
use Rattle.sc_law_entries.proofs.RingProofs.Finds.{some_none}

-- a story records all that another recorded
pub record RecordsOn (y z : Story) : Type 0 where
  pub offer : z.offer ≡ y.offer
  pub vote : (f : Frozen) → y.vote ≡ Some (Ballot.Yes f) → z.vote ≡ Some (Ballot.Yes f)
  pub watch : (w : Watch) → y.watch ≡ Some w → z.watch ≡ Some w
  pub watch_vote : y.watch_vote ≡ Some Cast.Yes → z.watch_vote ≡ Some Cast.Yes
  pub outcome : (o : Outcome) → y.outcome ≡ Some o → z.outcome ≡ Some o

-- each story goes on recording what it recorded
abbrev pub Grows : Stories → Stories → Type 0
Grows ys zs = (tx : Draw) (y : Story) → ys tx ≡ Some y → (z : Story) × (zs tx ≡ Some z) × RecordsOn y z

tells_same : (y : Story) → RecordsOn y y
tells_same y = record { offer = refl; vote = λ f e. e; watch = λ w e. e; watch_vote = λ e. e; outcome = λ o e. e }

pub grows_same : (ys : Stories) → Grows ys ys
grows_same ys tx y e = (y, e, tells_same y)

grows_then : (xs ys zs : Stories) → Grows xs ys → Grows ys zs → Grows xs zs
grows_then xs ys zs a b tx x e =
    let p = a tx x e in
    let q = b tx p.0 p.1 in
    let s = p.2 in
    let t = q.2 in (
      q.0,
      q.1,
      record {
        offer = t.offer ∙ s.offer;
        vote = λ f v. t.vote f (s.vote f v);
        watch = λ w v. t.watch w (s.watch w v);
        watch_vote = λ v. t.watch_vote (s.watch_vote v);
        outcome = λ o v. t.outcome o (s.outcome o v);
      },
    )

grows_new : (ys : Stories) (tx : Draw) (y : Story) → ys tx ≡ None → Grows ys (put ys tx (Some y))
grows_new ys tx y none t z e = (z, at-other ys tx (Some y) t (λ q. some_none z (sym e ∙ ap ys q ∙ none)) ∙ e, tells_same z)

grows_reported : (ys : Stories) (tx : Draw) (f : Story → Story) → ((y : Story) → ys tx ≡ Some y → RecordsOn y (f y)) → Grows ys (with_story ys tx f)
grows_reported ys tx f k t y e =
    elim (draw_cases t tx) [
      | inl q ↦ (f y, at-is ys tx (option_map f (ys tx)) t q ∙ ap (option_map f) (ap ys (sym q) ∙ e), k y (ap ys (sym q) ∙ e))
      | inr ne ↦ (y, at-other ys tx (option_map f (ys tx)) t ne ∙ e, tells_same y)
    ]

module _ (sources : Sources) (ring : Ring) (gs : Groups) (ys : Stories) (g : Draw) (s : Group) (k : Kept sources.owner ring gs ys) (fact : gs g ≡ Some s) where
  split_grows : (at : ℕ) (child : Draw) (order : ℕ) → sources.owner child ≡ Some g → Grows ys (stories_after s (Split at child order) (applied s (Split at child order)).1 ys)
  split_grows at child order mine =
      let story = new_story s (At.Split at child) in
      named_cases (λ r. Grows ys (stories_after s (Split at child order) r.1 ys)) s (split_group s at child order) child (Split at child order)
      (λ e q. subst (λ b. Grows ys (cond (b && not (is_alone s.core)) (put ys child (Some story)) ys)) (sym q) (grows_same ys))
      (λ o n. elim (not (is_alone s.core)) as (λ b. Grows ys (cond b (put ys child (Some story)) ys)) [
        | true ↦ grows_new ys child story (draw_new gs ys sources.owner g child s k.0 mine fact o.free n.undecided (ys child) refl)
        | false ↦ grows_same ys
      ])

  begin_grows : (tx : Draw) (body : Body) (order : ℕ) → sources.owner tx ≡ Some g → Grows ys (stories_after s (Begin tx body order) (applied s (Begin tx body order)).1 ys)
  begin_grows tx body order mine =
      let story = new_story s body in
      named_cases (λ r. Grows ys (stories_after s (Begin tx body order) r.1 ys)) s (begun_group s tx body order) tx (Begin tx body order)
      (λ e q. subst (λ b. Grows ys (cond b (put ys tx (Some story)) ys)) (sym q) (grows_same ys))
      (λ o n. grows_new ys tx story (draw_new gs ys sources.owner g tx s k.0 mine fact o.free n.undecided (ys tx) refl))

  vote_first : (y : Story) (v : Option Vote) → y.vote ≡ None → RecordsOn y (with_vote v y)
  vote_first y None none = tells_same y
  vote_first y (Some v) none = record { offer = refl; vote = λ f e. absurd (some_none (Ballot.Yes f) (sym e ∙ none)); watch = λ w e. e; watch_vote = λ e. e; outcome = λ o e. e }

  prepared_grows : (tx : Draw) (offer : Offer) (y : Story) → ys tx ≡ Some y → y.offer ≡ Some (unsigned offer) → offer.part ≡ g → Grows ys (stories_after s (Prepared tx offer) (applied s (Prepared tx offer)).1 ys)
  prepared_grows tx offer y there offered part =
      cond_both (has_voted s.core tx) _ _ (λ (r : Group × Effect). Grows ys (with_story ys tx (with_vote (vote_in s r.1))))
      (λ e. grows_reported ys tx (with_vote None) (λ z w. tells_same z))
      (λ e. grows_reported ys tx (with_vote (vote_in s (Was.Voted (past_of (vote_of s.core offer))))) (λ z w. (
      let same = same_Some y z (sym there ∙ w) in
      let none = unheard gs sources.owner tx y offer s (k.0.story tx y there) offered (ap gs part ∙ fact) e y.vote refl in
      vote_first z (vote_in s (Was.Voted (past_of (vote_of s.core offer)))) (ap (λ (x : Story). x.vote) (sym same) ∙ none))))

  watch_first : (y : Story) (v : Option Past) → (y.watch_vote ≡ Some Cast.Yes → ⊥) → RecordsOn y (with_watch_vote v y)
  watch_first y None none = tells_same y
  watch_first y (Some v) none = record { offer = refl; vote = λ f e. e; watch = λ w e. e; watch_vote = λ e. absurd (none e); outcome = λ o e. e }

  watched_grows : (tx : Draw) (watch : Watch) (y : Story) → ys tx ≡ Some y → y.watch ≡ Some (unsigned_watch watch) → watch.part ≡ g → Grows ys (stories_after s (Watched tx watch) (applied s (Watched tx watch)).1 ys)
  watched_grows tx watch y there asked part =
      cond_both (has_voted s.core tx) _ _ (λ (r : Group × Effect). Grows ys (with_story ys tx (with_watch_vote (watch_vote_in r.1))))
      (λ e. grows_reported ys tx (with_watch_vote None) (λ z w. tells_same z))
      (λ e. grows_reported ys tx (with_watch_vote (Some (past_of (watch_vote_of s.core watch)))) (λ z w. (
      let same = same_Some y z (sym there ∙ w) in
      watch_first z (Some (past_of (watch_vote_of s.core watch)))
      (λ v. not_passed gs g s tx y watch fact e asked part ((k.0.story tx y there).watcher Cast.Yes (ap (λ (x : Story). x.watch_vote) same ∙ v))))))

  undecided : (tx : Draw) (body : Body) (order : ℕ) (heard : Option Heard) → s.core.lock ≡ Coordinating tx body order heard → (y : Story) → ys tx ≡ Some y → (y.outcome ≡ None) × (y.watch ≡ watch_for s.core body heard)
  undecided tx body order heard lock y there =
      let own = own_story gs ys sources.owner g s tx body order heard k.0 fact lock in
      let same = same_Some y own.story (sym there ∙ own.fact) in
      (ap (λ (z : Story). z.outcome) same ∙ own.undecided, ap (λ (z : Story). z.watch) same ∙ own.watch)

  outcome_first : (y : Story) (o : Option Outcome) → y.outcome ≡ None → RecordsOn y (with_decision o y)
  outcome_first y None none = tells_same y
  outcome_first y (Some o) none = record { offer = refl; vote = λ f e. e; watch = λ w e. e; watch_vote = λ e. e; outcome = λ p e. absurd (some_none p (sym e ∙ none)) }

  asked_first : (y : Story) (v : Vote) → y.watch ≡ None → RecordsOn y (with_asked s.core v y)
  asked_first y (Ballot.Yes f) none = record { offer = refl; vote = λ f e. e; watch = λ w e. absurd (some_none w (sym e ∙ none)); watch_vote = λ e. e; outcome = λ o e. e }
  asked_first y (Ballot.No why) none = tells_same y

  -- a decision is told of a story that has none
  decision_grows : (tx : Draw) (body : Body) (order : ℕ) (heard : Option Heard) → s.core.lock ≡ Coordinating tx body order heard → (outcome : Outcome) → Grows ys (with_story ys tx (with_decision (Some outcome)))
  decision_grows tx body order heard lock outcome = grows_reported ys tx (with_decision (Some outcome)) (λ y w. outcome_first y (Some outcome) (undecided tx body order heard lock y w).0)

  vote_quiet : (tx : Draw) (vote : Vote) → Grows ys (with_story ys tx (with_answer s.core vote (Was.NoEffect tx)))
  vote_quiet tx vote = grows_reported ys tx (with_answer s.core vote (Was.NoEffect tx)) (λ y w. tells_same y)

  vote_grows : (tx : Draw) (vote : Vote) (by : ℕ) → Grows ys (with_story ys tx (with_answer s.core vote (vote_recorded s.core.lock s tx vote by).1))
  vote_grows tx vote by =
      vote_step s tx vote by (λ r. Grows ys (with_story ys tx (with_answer s.core vote r.1))) (decided_walk s tx vote by (λ r. Grows ys (with_story ys tx (with_answer s.core vote r.1))) (vote_quiet tx vote)
      (λ order lock frozen votes. grows_reported ys tx (with_answer s.core vote Was.Changed) (λ y w. asked_first y vote (undecided tx At.Merge order None lock y w).1))
      (λ body order lock after outcome stands. decision_grows tx body order None lock outcome))

  outcome_quiet : (tx : Draw) → Grows ys (with_story ys tx (with_decision None))
  outcome_quiet tx = grows_reported ys tx (with_decision None) (λ y w. tells_same y)

  watch_grows : (tx : Draw) (past : Past) → Grows ys (with_story ys tx (with_decision (decided_in (watch_recorded s.core.lock s tx past).1)))
  watch_grows tx past =
      watch_step s tx past (λ r. Grows ys (with_story ys tx (with_decision (decided_in r.1)))) (record {
        quiet = outcome_quiet tx;
        aborts = λ body order got lock none. decision_grows tx body order got lock Is.Abort;
        divides = λ at child order got lock votes can. decision_grows tx (At.Split at child) order got lock Is.Divided;
        merges = λ order heard lock votes may. decision_grows tx At.Merge order (Some heard) lock _;
      })

  give_up_grows : (tx : Draw) (l : Lock) → s.core.lock ≡ l → Grows ys (with_story ys tx (with_decision (decided_in (cond (is_coordinating l tx) (aborted s tx) (s, Was.NoEffect tx)).1)))
  give_up_grows tx Free e = outcome_quiet tx
  give_up_grows tx (Coordinating t body order heard) e =
      cond_both (same_draw t tx) (aborted s tx) (s, Was.NoEffect tx) (λ (r : Group × Effect). Grows ys (with_story ys tx (with_decision (decided_in r.1))))
      (λ q. decision_grows tx body order heard (same_lock s.core.lock t tx body order heard e q) Is.Abort)
      (λ q. outcome_quiet tx)
  give_up_grows tx (Promised t offer) e = outcome_quiet tx
  give_up_grows tx (Watching t watch) e = outcome_quiet tx

  pub grows : (command : Command) → IsAllowed sources ys g command → Grows ys (stories_after s command (applied s command).1 ys)
  grows (Split at child order) a = split_grows at child order a.0
  grows (Begin tx body order) a = begin_grows tx body order a.0
  grows (Prepared tx offer) a = prepared_grows tx offer a.0 a.1 a.2 a.3
  grows (RecordVote tx vote by) a = vote_grows tx vote by
  grows (Watched tx watch) a = watched_grows tx watch a.0 a.1 a.2 a.3
  grows (RecordWatch tx vote by) a = watch_grows tx vote
  grows (GiveUp tx) a = give_up_grows tx s.core.lock refl
  grows _ a = grows_same ys

-- ---- what is allowed stays allowed

vote_stays : (ys zs : Stories) → Grows ys zs → (tx : Draw) (vote : Vote) → IsVoteCast ys tx vote → IsVoteCast zs tx vote
vote_stays ys zs k tx (Ballot.Yes f) a = (let r = k tx a.0 a.1 in (r.0, r.1, r.2.vote f a.2))
vote_stays ys zs k tx (Ballot.No why) a = tt

watch_stays : (ys zs : Stories) → Grows ys zs → (tx : Draw) (past : Past) → IsWatchVoteCast ys tx past → IsWatchVoteCast zs tx past
watch_stays ys zs k tx Cast.Yes a = (let r = k tx a.0 a.1 in (r.0, r.1, r.2.watch_vote a.2))
watch_stays ys zs k tx (Cast.No why) a = tt
watch_stays ys zs k tx Cast.Ended a = tt

stays : (sources : Sources) (ys zs : Stories) → Grows ys zs → (g : Draw) (command : Command) → IsAllowed sources ys g command → IsAllowed sources zs g command
stays sources ys zs k g (Call client seq op) a = a
stays sources ys zs k g (Split at child order) a = a
stays sources ys zs k g (Begin tx body order) a = a
stays sources ys zs k g (Prepared tx offer) a = (let r = k tx a.0 a.1 in (r.0, r.1, r.2.offer ∙ a.2, a.3))
stays sources ys zs k g (RecordVote tx vote by) a = vote_stays ys zs k tx vote a
stays sources ys zs k g (Watched tx watch) a = (let r = k tx a.0 a.1 in (r.0, r.1, r.2.watch (unsigned_watch watch) a.2, a.3))
stays sources ys zs k g (RecordWatch tx vote by) a = watch_stays ys zs k tx vote a
stays sources ys zs k g (Finish tx outcome) a = (let r = k tx a.0 a.1 in (r.0, r.1, r.2.outcome outcome a.2))
stays sources ys zs k g _ a = tt

step_grows : (sources : Sources) (w : StoryWorld) (g : Draw) (command : Command) → KeptWorld sources.owner w → IsAllowed sources w.stories g command → (o : Option Group) → named_group g w.store.groups ≡ o → Grows w.stories (recorded_stories w.stories o command)
step_grows sources w g command k a None e = grows_same w.stories
step_grows sources w g command k a (Some s) e = grows sources (arcs_in w.store.ring) (groups_in w.store.groups) w.stories g s k.kept e command a

all_grow : (sources : Sources) (w : StoryWorld) (entries : List LogEntry) → KeptWorld sources.owner w → AreAllowed sources w entries → Grows w.stories (recorded_after w entries).stories
all_grow sources w [] k a = grows_same w.stories
all_grow sources w (e ∷ es) k a =
    grows_then w.stories (recorded_next w e).stories (recorded_after (recorded_next w e) es).stories
    (step_grows sources w e.group e.command k a.0 (named_group e.group w.store.groups) refl)
    (all_grow sources (recorded_next w e) es (kept_on sources w e k a.0) a.1)

pub allowed_entries_stay_allowed : AllowedEntriesStayAllowed
allowed_entries_stay_allowed sources bases entries more start allowed further name command a =
    let w = recorded_after (first_recorded bases) entries in
    stays sources w.stories (recorded_after w more).stories (all_grow sources w more (kept_after sources (first_recorded bases) entries (at_start sources bases start) allowed) further) name command a

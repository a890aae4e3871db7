-- Each allowed entry keeps the facts, the ring and the lists of a world.
use Rattle.std.specs.Prelude.{not, ◌&&◌, ◌++◌}
use Rattle.std.specs.Option.{option_map}
use Rattle.std.proofs.Common.{◌≡◌, ℕ, true, false, cond, List, [], ◌∷◌, inl, inr, Option, Some, None, refl, sym, ◌∙◌, ap, subst}
use Rattle.std.proofs.lemmas.Bool.{cases_Bool, cond_both}
use Rattle.std.proofs.lemmas.Option.{same_Some}
use Rattle.sc_base.specs.Definitions.{same_draw}
use Rattle.sc_base.specs.declared.names.Draw.{Draw}
use Rattle.sc_words.specs.declared.commands.bodies.Body.{Body}
use Rattle.sc_words.specs.declared.commands.bodies.Body.TheVariants as At
use Rattle.sc_words.specs.declared.commands.commands.Command.{Command}
use Rattle.sc_words.specs.declared.commands.commands.Command.TheVariants.{Noop, Call, Join, Leave, Split, Begin, Prepared, RecordVote, GiveUp, Finish, Watched, RecordWatch}
use Rattle.sc_words.specs.declared.commands.cores.Base.{Base}
use Rattle.sc_words.specs.declared.commands.cores.Lock.{Lock}
use Rattle.sc_words.specs.declared.commands.cores.Lock.TheVariants.{Free, Coordinating, Promised, Watching}
use Rattle.sc_words.specs.declared.commands.effects.Effect.{Effect}
use Rattle.sc_words.specs.declared.commands.effects.Effect.TheVariants as Was
use Rattle.sc_words.specs.declared.commands.votes.Heard.{Heard}
use Rattle.sc_words.specs.declared.commands.votes.Outcome.{Outcome}
use Rattle.sc_words.specs.declared.commands.votes.Past.{Past}
use Rattle.sc_words.specs.declared.commands.votes.Vote.{Vote}
use Rattle.sc_words.specs.declared.commands.votes.Vote.TheVariants as Ballot
use Rattle.sc_words.specs.commands.CommandDefinitions.{is_changed, decided_in, is_alone}
use Rattle.sc_group_table.specs.machine.MachineDefinitions.{Group, group_of, applied, split_group, child_of, begun_group, vote_recorded, watch_recorded, is_coordinating, aborted}
use Rattle.sc_meaning.specs.entries.EntryDefinitions.{division_by, division_in, division_of, birth_of, begun_transaction, begun_split, named_watcher, with_watcher, amended, concluded, transactions_after, decided_by, arc_in, named_group, groups_after, after_command}
use Rattle.sc_meaning.specs.declared.entries.Division.{Division}
use Rattle.sc_meaning.specs.declared.entries.LogEntry.{LogEntry}
use Rattle.sc_meaning.specs.declared.entries.Transaction.{Transaction}
use Rattle.sc_words.specs.declared.commands.votes.Outcome.TheVariants as Is
use Rattle.sc_law_walks.proofs.WalkLemmas.{vote_step, decided_walk, watch_step}
use Rattle.sc_law_entries.specs.ring.RingDefinitions.{Sources, IsAllowed, AreAllowed, StoryWorld, recorded_stories, recorded_next, recorded_after, Story, Stories, put, with_story, new_story, vote_in, watch_vote_in, with_vote, with_watch_vote, with_decision, with_asked, with_answer, stories_after, Groups}
use Rattle.sc_law_entries.proofs.RingProofs.View.{Ring}
use Rattle.sc_law_entries.proofs.RingProofs.Cover.{at-same, at-other}
use Rattle.sc_law_entries.proofs.RingProofs.Ends.{draw_new, group_none, own_story, same_lock}
use Rattle.sc_law_entries.proofs.RingProofs.Effects.{decisions, eff, arc_of}
use Rattle.sc_law_entries.proofs.RingProofs.RequestsAndOrders.{Kept, same_fun, idle, call_kept, join_kept, leave_kept, begin_kept, named_cases}
use Rattle.sc_law_entries.proofs.RingProofs.VotesOfParties.{prepared_kept, watched_kept}
use Rattle.sc_law_entries.proofs.RingProofs.CutLookups.{arcs_in}
use Rattle.sc_meaning.proofs.EntriesProofs.EntryLemmas.{found_name}
use Rattle.sc_law_entries.proofs.RingProofs.GroupsInLists.{groups_in, with_child, groups_are, AreFound, found_after, Agree, story_brief, agree_begun, agree_with_story, agree_watcher, agree_concluded}
use Rattle.sc_law_entries.proofs.RingProofs.CommittedViews.{ring_reported}
use Rattle.sc_law_entries.proofs.RingProofs.Decisions.{born_too, record_kept, give_up_kept, watch_record_kept}
use Rattle.sc_law_entries.proofs.RingProofs.SplitsAndEnds.{split_kept, finish_kept}
use Rattle.sc_law_entries.proofs.RingProofs.Rings.{AreApart, no_division, ring_is, ring_apart}
use Rattle.sc_law_entries.proofs.RingProofs.Finds.{some_none}

-- what an entry makes of the facts and of the view
abbrev pub Landed : (Draw → Option Draw) → Ring → Groups → Stories → Draw → Group → Command → Group × Effect → Type 0
Landed owner ring gs ys g s command r = Kept owner (ring_reported s.core command r.1 ring) (born_too s (put gs g (Some r.0)) (division_of s.core command r.1)) (stories_after s command r.1 ys)

-- what the lists need to know of an entry
pub record Fits (gs : Groups) (ys : Stories) (s : Group) (command : Command) (effect : Effect) : Type 0 where
  -- a child is new
  pub births : (d : Division) → division_of s.core command effect ≡ Some d → gs d.child ≡ None
  -- the transactions and the stories go on saying the same
  pub recorded : (ts : List Transaction) → Agree ts ys → Agree (transactions_after s.core command effect ts) (stories_after s command effect ys)
  -- who decides with a participant is not alone
  pub apart : (x : Outcome) → decided_by command effect ≡ Some x → s.core.id ≡ s.core.succ.group → ⊥

none_decided : {X : Type 0} (x : Outcome) → None ≡ Some x → X
none_decided x e = absurd (let f : None ≡ Some x = e in cc)

vote_brief : (v : Option Vote) (y : Story) → story_brief (with_vote v y) ≡ story_brief y
vote_brief None y = refl
vote_brief (Some v) y = refl

watch_brief : (v : Option Past) (y : Story) → story_brief (with_watch_vote v y) ≡ story_brief y
watch_brief None y = refl
watch_brief (Some v) y = refl

asked_brief : (s : Group) (v : Vote) (y : Story) → story_brief (with_asked s.core v y) ≡ story_brief y
asked_brief s (Ballot.Yes f) y = refl
asked_brief s (Ballot.No why) y = refl

module _ (sources : Sources) (ring : Ring) (gs : Groups) (ys : Stories) (g : Draw) (s : Group) (k : Kept sources.owner ring gs ys) (fact : gs g ≡ Some s) where
  pub landed : (command : Command) → IsAllowed sources ys g command → Landed sources.owner ring gs ys g s command (applied s command)
  landed Noop a = idle sources.owner ring gs ys g s k fact
  landed (Call client seq op) a = call_kept sources.owner ring gs ys g s k fact client seq op s.core.gone refl s.core.lock refl
  landed (Join node order) a = join_kept sources.owner ring gs ys g s k fact node order
  landed (Leave node order) a = leave_kept sources.owner ring gs ys g s k fact node order
  landed (Split at child order) a = split_kept sources.owner ring gs ys g s k fact at child order a.0 a.1
  landed (Begin tx body order) a = begin_kept sources.owner ring gs ys g s k fact tx body order a.0 a.1
  landed (Prepared tx offer) a = prepared_kept sources.owner ring gs ys g s k fact tx offer a.0 a.1 a.2 a.3
  landed (RecordVote tx vote by) a = record_kept sources.owner ring gs ys g s k fact tx vote by a
  landed (Watched tx watch) a = watched_kept sources.owner ring gs ys g s k fact tx watch a.0 a.1 a.2 a.3
  landed (RecordWatch tx vote by) a = watch_record_kept sources.owner ring gs ys g s k fact tx vote a
  landed (GiveUp tx) a = give_up_kept sources.owner ring gs ys g s k fact tx s.core.lock refl
  landed (Finish tx outcome) a = finish_kept sources.owner ring gs ys g s k fact tx outcome a.0 a.1 a.2 s.core.lock refl

  -- ---- the lists

  named : s.core.id ≡ g
  named = (k.0.group g s fact).named

  split_fits : (at : ℕ) (child : Draw) (order : ℕ) → sources.owner child ≡ Some g → Fits gs ys s (Split at child order) (applied s (Split at child order)).1
  split_fits at child order mine =
      let div : Division = record { at = at; child = child } in
      let story = new_story s (At.Split at child) in
      let begun = begun_split s.core at child in
      named_cases (λ r. Fits gs ys s (Split at child order) r.1) s (split_group s at child order) child (Split at child order)
      (λ e q. record {
        births = λ d w. no_division d (sym (ap (λ b. cond (b && is_alone s.core) (Some div) None) q) ∙ w);
        recorded = λ ts a. subst (λ b. Agree (cond (b && not (is_alone s.core)) (ts ++ begun ∷ []) ts) (cond (b && not (is_alone s.core)) (put ys child (Some story)) ys)) (sym q) a;
        apart = λ x w. none_decided x w;
      })
      (λ o n. (
      let none = group_none gs ys sources.owner g child s k.0 mine fact n.unborn (gs child) refl in
      let fresh = draw_new gs ys sources.owner g child s k.0 mine fact o.free n.undecided (ys child) refl in
      record {
        births = λ d w. cond_both (is_alone s.core) (Some div) None (λ (x : Option Division). x ≡ Some d → gs d.child ≡ None)
            (λ t e. ap (λ (z : Division). gs z.child) (sym (same_Some div d e)) ∙ none) (λ t e. no_division d e) w;
        recorded = λ ts a. elim (cases_Bool (not (is_alone s.core))) [
          | inl t ↦ subst (λ b. Agree (cond b (ts ++ begun ∷ []) ts) (cond b (put ys child (Some story)) ys)) (sym t) (agree_begun ts ys begun story a fresh refl)
          | inr t ↦ subst (λ b. Agree (cond b (ts ++ begun ∷ []) ts) (cond b (put ys child (Some story)) ys)) (sym t) a
        ];
        apart = λ x w. none_decided x w;
      }))

  begin_fits : (tx : Draw) (body : Body) (order : ℕ) → sources.owner tx ≡ Some g → Fits gs ys s (Begin tx body order) (applied s (Begin tx body order)).1
  begin_fits tx body order mine =
      let story = new_story s body in
      let begun = begun_transaction s.core tx body in
      named_cases (λ r. Fits gs ys s (Begin tx body order) r.1) s (begun_group s tx body order) tx (Begin tx body order)
      (λ e q. record {
        births = λ d w. no_division d w;
        recorded = λ ts a. subst (λ b. Agree (cond b (ts ++ begun ∷ []) ts) (cond b (put ys tx (Some story)) ys)) (sym q) a;
        apart = λ x w. none_decided x w;
      })
      (λ o n. record {
        births = λ d w. no_division d w;
        recorded = λ ts a. agree_begun ts ys begun story a (draw_new gs ys sources.owner g tx s k.0 mine fact o.free n.undecided (ys tx) refl) refl;
        apart = λ x w. none_decided x w;
      })

  -- who coordinates a transaction that it decides
  own_coordinator : (tx : Draw) (body : Body) (order : ℕ) (heard : Option Heard) → s.core.lock ≡ Coordinating tx body order heard → (y : Story) → ys tx ≡ Some y → y.coordinator ≡ s.core.id
  own_coordinator tx body order heard lock y there =
      let own = own_story gs ys sources.owner g s tx body order heard k.0 fact lock in
      ap (λ (z : Story). z.coordinator) (same_Some y own.story (sym there ∙ own.fact)) ∙ own.coordinator ∙ sym named

  own_apart : (tx : Draw) (body : Body) (order : ℕ) (heard : Option Heard) → s.core.lock ≡ Coordinating tx body order heard → s.core.id ≡ s.core.succ.group → ⊥
  own_apart tx body order heard lock q = (own_story gs ys sources.owner g s tx body order heard k.0 fact lock).apart (sym q ∙ named)

  vote_reported : (tx : Draw) (vote : Vote) (effect : Effect) → ((y : Story) → ys tx ≡ Some y → y.coordinator ≡ s.core.id) → (ts : List Transaction) → Agree ts ys
      → Agree (cond (is_changed effect) (amended tx s.core.id (with_watcher (named_watcher vote)) ts) (concluded (decided_in effect) tx s.core.id ts)) (with_story ys tx (with_answer s.core vote effect))
  vote_reported tx vote effect coord ts a =
      elim (is_changed effect)
      as (λ b. Agree (cond b (amended tx s.core.id (with_watcher (named_watcher vote)) ts) (concluded (decided_in effect) tx s.core.id ts)) (with_story ys tx (λ y. cond b (with_asked s.core vote y) (with_decision (decided_in effect) y)))) [
        | true ↦ agree_watcher ts ys tx s.core.id (named_watcher vote) (with_asked s.core vote) a (asked_brief s vote)
        | false ↦ agree_concluded ts ys tx s.core.id (decided_in effect) a (λ x e. coord)
      ]

  vote_quiet : (tx : Draw) (vote : Vote) (by : ℕ) → Fits gs ys s (RecordVote tx vote by) (Was.NoEffect tx)
  vote_quiet tx vote by = record { births = λ d w. no_division d w; recorded = λ ts a. agree_with_story ts ys tx (with_answer s.core vote (Was.NoEffect tx)) a (λ y. refl); apart = λ x w. none_decided x w }

  vote_fits : (tx : Draw) (vote : Vote) (by : ℕ) → Fits gs ys s (RecordVote tx vote by) (vote_recorded s.core.lock s tx vote by).1
  vote_fits tx vote by =
      vote_step s tx vote by (λ r. Fits gs ys s (RecordVote tx vote by) r.1) (decided_walk s tx vote by (λ r. Fits gs ys s (RecordVote tx vote by) r.1) (vote_quiet tx vote by)
      (λ order lock frozen votes. counted At.Merge order lock Was.Changed) (λ body order lock after outcome stands. counted body order lock (Was.Decided outcome)))
    where
      counted : (body : Body) (order : ℕ) → s.core.lock ≡ Coordinating tx body order None → (effect : Effect) → Fits gs ys s (RecordVote tx vote by) effect
      counted body order lock effect = record { births = λ d w. no_division d w; recorded = vote_reported tx vote effect (own_coordinator tx body order None lock); apart = λ x w. own_apart tx body order None lock }

  give_up_quiet : (tx : Draw) → Fits gs ys s (GiveUp tx) (Was.NoEffect tx)
  give_up_quiet tx = record { births = λ d w. no_division d w; recorded = λ ts a. agree_with_story ts ys tx (with_decision None) a (λ y. refl); apart = λ x w. none_decided x w }

  give_up_fits : (tx : Draw) (l : Lock) → s.core.lock ≡ l → Fits gs ys s (GiveUp tx) (cond (is_coordinating l tx) (aborted s tx) (s, Was.NoEffect tx)).1
  give_up_fits tx Free e = give_up_quiet tx
  give_up_fits tx (Coordinating t body order heard) e =
      cond_both (same_draw t tx) (aborted s tx) (s, Was.NoEffect tx) (λ (r : Group × Effect). Fits gs ys s (GiveUp tx) r.1)
      (λ q. record {
        births = λ d w. no_division d w;
        recorded = λ ts a. agree_concluded ts ys tx s.core.id (decided_in (aborted s tx).1) a (λ x w. own_coordinator tx body order heard (same_lock s.core.lock t tx body order heard e q));
        apart = λ x w. none_decided x w;
      })
      (λ q. give_up_quiet tx)
  give_up_fits tx (Promised t offer) e = give_up_quiet tx
  give_up_fits tx (Watching t watch) e = give_up_quiet tx

  -- a division that is coordinated makes a new child
  body_new : (t : Draw) (body : Body) (order : ℕ) (heard : Option Heard) → s.core.lock ≡ Coordinating t body order heard → (d : Division) → division_by body ≡ Some d → gs d.child ≡ None
  body_new t At.Merge order heard lock d e = no_division d e
  body_new t (At.Repart at) order heard lock d e = no_division d e
  body_new t (At.Migrate node) order heard lock d e = no_division d e
  body_new t (At.Split at child) order heard lock d e =
      let own = own_story gs ys sources.owner g s t (At.Split at child) order heard k.0 fact lock in
      ap (λ (z : Division). gs z.child) (sym (same_Some (record { at = at; child = child }) d e)) ∙ ap gs own.own.1 ∙ (k.0.story t own.story own.fact).unborn at child own.same_body own.undecided

  lock_new : (l : Lock) → s.core.lock ≡ l → (d : Division) → division_in l ≡ Some d → gs d.child ≡ None
  lock_new Free lock d e = no_division d e
  lock_new (Coordinating t body order heard) lock d e = body_new t body order heard lock d e
  lock_new (Promised t offer) lock d e = no_division d e
  lock_new (Watching t watch) lock d e = no_division d e

  watch_quiet : (tx : Draw) (vote : Past) (by : ℕ) → Fits gs ys s (RecordWatch tx vote by) (Was.NoEffect tx)
  watch_quiet tx vote by = record { births = λ d w. no_division d w; recorded = λ ts a. agree_with_story ts ys tx (with_decision None) a (λ y. refl); apart = λ x w. none_decided x w }

  watch_fits : (tx : Draw) (vote : Past) (by : ℕ) → Fits gs ys s (RecordWatch tx vote by) (watch_recorded s.core.lock s tx vote).1
  watch_fits tx vote by =
      watch_step s tx vote (λ r. Fits gs ys s (RecordWatch tx vote by) r.1) (record {
        quiet = watch_quiet tx vote by;
        aborts = λ body order got lock none. decides body order got lock Is.Abort (λ d w. no_division d w);
        divides = λ at child order got lock votes can. decides (At.Split at child) order got lock Is.Divided (λ d w. lock_new s.core.lock refl d w);
        merges = λ order heard lock votes may. decides At.Merge order (Some heard) lock _ (λ d w. no_division d w);
      })
    where
      decides : (body : Body) (order : ℕ) (heard : Option Heard) → s.core.lock ≡ Coordinating tx body order heard → (outcome : Outcome) → ((d : Division) → division_of s.core (RecordWatch tx vote by) (Was.Decided outcome) ≡ Some d → gs d.child ≡ None)
          → Fits gs ys s (RecordWatch tx vote by) (Was.Decided outcome)
      decides body order heard lock outcome births = record { births = births; recorded = λ ts a. agree_concluded ts ys tx s.core.id (Some outcome) a (λ x w. own_coordinator tx body order heard lock); apart = λ x w. own_apart tx body order heard lock }

  plain_fits : (command : Command) (effect : Effect) → division_of s.core command effect ≡ None → decided_by command effect ≡ None → ((ts : List Transaction) → Agree ts ys → Agree (transactions_after s.core command effect ts) (stories_after s command effect ys)) → Fits gs ys s command effect
  plain_fits command effect quiet still recorded = record { births = λ d w. no_division d (sym quiet ∙ w); recorded = recorded; apart = λ x w. none_decided x (sym still ∙ w) }

  pub fits : (command : Command) → IsAllowed sources ys g command → Fits gs ys s command (applied s command).1
  fits Noop a = plain_fits Noop (applied s Noop).1 refl refl (λ ts w. w)
  fits (Call client seq op) a = plain_fits (Call client seq op) (applied s (Call client seq op)).1 refl refl (λ ts w. w)
  fits (Join node order) a = plain_fits (Join node order) (applied s (Join node order)).1 refl refl (λ ts w. w)
  fits (Leave node order) a = plain_fits (Leave node order) (applied s (Leave node order)).1 refl refl (λ ts w. w)
  fits (Split at child order) a = split_fits at child order a.0
  fits (Begin tx body order) a = begin_fits tx body order a.0
  fits (Prepared tx offer) a =
      let e = (applied s (Prepared tx offer)).1 in plain_fits (Prepared tx offer) e refl refl (λ ts w. agree_with_story ts ys tx (with_vote (vote_in s e)) w (vote_brief (vote_in s e)))
  fits (RecordVote tx vote by) a = vote_fits tx vote by
  fits (Watched tx watch) a =
      let e = (applied s (Watched tx watch)).1 in plain_fits (Watched tx watch) e refl refl (λ ts w. agree_with_story ts ys tx (with_watch_vote (watch_vote_in e)) w (watch_brief (watch_vote_in e)))
  fits (RecordWatch tx vote by) a = watch_fits tx vote by
  fits (GiveUp tx) a = give_up_fits tx s.core.lock refl
  fits (Finish tx outcome) a = plain_fits (Finish tx outcome) (applied s (Finish tx outcome)).1 refl refl (λ ts w. w)

-- ---- worlds

-- what holds of a world
pub record KeptWorld (owner : Draw → Option Draw) (w : StoryWorld) : Type 0 where
  pub kept : Kept owner (arcs_in w.store.ring) (groups_in w.store.groups) w.stories
  pub found : AreFound w.store.groups
  pub apart : AreApart w.store.ring
  pub recorded : Agree w.store.transactions w.stories

-- the group is found after its entry
still_there : (gs : Groups) (g : Draw) (s after : Group) → gs g ≡ Some s → (o : Option Division) → ((d : Division) → o ≡ Some d → gs d.child ≡ None) → born_too s (put gs g (Some after)) o g ≡ Some after
still_there gs g s after fact None fresh = at-same gs g (Some after)
still_there gs g s after fact (Some d) fresh =
    at-other (put gs g (Some after)) d.child (Some (group_of (child_of s d.at d.child))) g (λ q. some_none s (sym fact ∙ ap gs q ∙ fresh d refl)) ∙ at-same gs g (Some after)

born_is : (s : Group) (f : Groups) (o : Option Division) (h : Draw) → with_child f (option_map (λ (d : Division). child_of s d.at d.child) o) h ≡ born_too s f o h
born_is s f None h = refl
born_is s f (Some d) h = refl

birth_new : (gs : Groups) (g : Draw) (s after : Group) → gs g ≡ Some s → (o : Option Division) → ((d : Division) → o ≡ Some d → gs d.child ≡ None)
    → (base : Base) → option_map (λ (d : Division). child_of s d.at d.child) o ≡ Some base → put gs g (Some after) base.core.id ≡ None
birth_new gs g s after fact None fresh base e = absurd (let f : None ≡ Some base = e in cc)
birth_new gs g s after fact (Some d) fresh base e =
    let id : d.child ≡ base.core.id = ap (λ (b : Base). b.core.id) (same_Some (child_of s d.at d.child) base e) in
    at-other gs g (Some after) base.core.id (λ q. some_none s (sym fact ∙ ap gs (sym q) ∙ ap gs (sym id) ∙ fresh d refl)) ∙ ap gs (sym id) ∙ fresh d refl

step_kept : (sources : Sources) (w : StoryWorld) (g : Draw) (command : Command) → KeptWorld sources.owner w → IsAllowed sources w.stories g command → (o : Option Group) → named_group g w.store.groups ≡ o
    → KeptWorld sources.owner (record { store = after_command w.store o command; stories = recorded_stories w.stories o command })
step_kept sources w g command k a None e = k
step_kept sources w g command k a (Some s) e =
    let gs = groups_in w.store.groups in
    let ring = arcs_in w.store.ring in
    let r = applied s command in
    let land = landed sources ring gs w.stories g s k.kept e command a in
    let fit = fits sources ring gs w.stories g s k.kept e command a in
    let named = found_name g w.store.groups s e in
    let division = division_of s.core command r.1 in
    let next = born_too s (put gs g (Some r.0)) division in
    let id : r.0.core.id ≡ s.core.id = (land.0.group g r.0 (still_there gs g s r.0 e division fit.births)).named ∙ sym named in
    let here : named_group s.core.id w.store.groups ≡ Some s = ap gs named ∙ e in
    let new : (base : Base) → birth_of s command r.1 ≡ Some base → put gs s.core.id (Some r.0) base.core.id ≡ None = birth_new gs s.core.id s r.0 here division fit.births in
    let groups : groups_in (groups_after s r.0 (birth_of s command r.1) w.store.groups) ≡ next = same_fun _ next (λ h.
    groups_are s r.0 (birth_of s command r.1) w.store.groups id here new h
    ∙ born_is s (put gs s.core.id (Some r.0)) division h
    ∙ ap (λ n. born_too s (put gs n (Some r.0)) division h) named) in
    let fresh : (d : Division) → division ≡ Some d → (s.core.id ≡ d.child → ⊥) × (arc_in d.child w.store.ring ≡ None) =
    λ d q. ((λ z. some_none s (sym here ∙ ap gs z ∙ fit.births d q)), k.kept.1.2 d.child ∙ ap (λ x. arc_of (eff (decisions w.stories) x)) (fit.births d q)) in
    let cuts = ring_is s.core command r.1 w.store.ring fit.apart fresh in
    record {
      kept = subst (λ x. Kept sources.owner x (groups_in (groups_after s r.0 (birth_of s command r.1) w.store.groups)) (stories_after s command r.1 w.stories)) (sym cuts)
          (subst (λ x. Kept sources.owner (ring_reported s.core command r.1 ring) x (stories_after s command r.1 w.stories)) (sym groups) land);
      found = found_after s r.0 (birth_of s command r.1) w.store.groups id here new k.found;
      apart = ring_apart s.core command r.1 w.store.ring fit.apart fresh k.apart;
      recorded = fit.recorded w.store.transactions k.recorded;
    }

pub kept_on : (sources : Sources) (w : StoryWorld) (entry : LogEntry) → KeptWorld sources.owner w → IsAllowed sources w.stories entry.group entry.command → KeptWorld sources.owner (recorded_next w entry)
kept_on sources w entry k a = step_kept sources w entry.group entry.command k a (named_group entry.group w.store.groups) refl

pub kept_after : (sources : Sources) (w : StoryWorld) (entries : List LogEntry) → KeptWorld sources.owner w → AreAllowed sources w entries → KeptWorld sources.owner (recorded_after w entries)
kept_after sources w [] k a = k
kept_after sources w (e ∷ es) k a = kept_after sources (recorded_next w e) es (kept_on sources w e k a.0) a.1

-- The participant of a merge is not its watcher: a participant that stands behind another group is not its own successor.
use Rattle.std.proofs.Common.{◌≡◌, ℕ, true, List, Option, Some, None, refl, sym, ◌∙◌, ap, subst}
use Rattle.std.proofs.lemmas.Bool.{cond_both}
use Rattle.std.proofs.lemmas.Option.{same_Some}
use Rattle.sc_node_table.specs.Values.{Draw, Body, Offer, Watch, Prepared, RecordVote, GiveUp, RecordWatch, Base, Coordinating, Effect, Frozen, Heard, Outcome, Past, Vote}
use Rattle.sc_words.specs.declared.commands.bodies.Body.TheVariants as At
use Rattle.sc_words.specs.declared.commands.effects.Effect.TheVariants as Was
use Rattle.sc_words.specs.declared.commands.votes.Vote.TheVariants as Vows
use Rattle.sc_words.specs.commands.CommandDefinitions.{is_changed, decided_in}
use Rattle.sc_group_table.specs.machine.MachineDefinitions.{Group, applied}
use Rattle.sc_meaning.specs.entries.EntryDefinitions.{after_outcome}
use Rattle.sc_meaning.specs.declared.entries.LogEntry.{LogEntry}
use Rattle.sc_law_entries.specs.ring.RingDefinitions.{Sources, IsVoteCast, AreAllowed, first_recorded, Groups, LockOk, IsCoordinating, IsPromised, BeginInPlace, stories_of, Story, Stories, unsigned, new_story, vote_in, with_vote, with_watch_vote, with_decision, with_asked}
use Rattle.sc_law_entries.proofs.RingProofs.RingLemmas.{Decisions, decisions, outcome_of, settle_by, living, living_by, eff, view_of, arc_of, succ_of, Old, IsPair, not_back, Kept, Ring}
use Rattle.sc_law_groups.specs.whole.WholeDefinitions.{PartiesAreApart}
use Rattle.sc_law_groups.proofs.WholeProofs.Coming.{IsDull, comes}
use Rattle.sc_law_groups.proofs.WholeProofs.StoryWalks.{StoryParts, stories_hold}

-- a story of which the participant is not the watcher
abbrev IsApartStory : Story → Type 0
IsApartStory y = (offer : Offer) (watch : Watch) → y.offer ≡ Some offer → y.watch ≡ Some watch → offer.part ≡ watch.part → ⊥

-- a transaction that begins has no watcher, or no participant
apart_new : (s : Group) (body : Body) → IsApartStory (new_story s body)
apart_new s At.Merge offer watch o w same = (let no_way : None ≡ Some watch = w in cc)
apart_new s (At.Repart at) offer watch o w same = (let no_way : None ≡ Some watch = w in cc)
apart_new s (At.Migrate node) offer watch o w same = (let no_way : None ≡ Some watch = w in cc)
apart_new s (At.Split at child) offer watch o w same = (let no_way : None ≡ Some offer = o in cc)

-- a story that goes on keeps whom it asks
voted_same : (o : Option Vote) (y : Story) → IsApartStory y → IsApartStory (with_vote o y)
voted_same None y k = k
voted_same (Some vote) y k = k

-- what a watcher votes leaves the parties
watched_same : (o : Option Past) (y : Story) → IsApartStory y → IsApartStory (with_watch_vote o y)
watched_same None y k = k
watched_same (Some past) y k = k

-- so does what is decided
decided_same : (o : Option Outcome) (y : Story) → IsApartStory y → IsApartStory (with_decision o y)
decided_same None y k = k
decided_same (Some outcome) y k = k

-- a dull effect changes nothing
pub dull_same : (effect : Effect) → IsDull effect → is_changed effect ≡ true → ⊥
dull_same Was.Changed d e = d
dull_same (Was.Voted vote) d e = d
dull_same (Was.Decided outcome) d e = d
dull_same _ d e = cc

-- a vote that changes its coordinator is of a merge
merges : (s : Group) (tx : Draw) (vote : Vote) (by : ℕ) → is_changed (applied s (RecordVote tx vote by)).1 ≡ true → (order : ℕ) × (got : Option Heard) × (s.core.lock ≡ Coordinating tx At.Merge order got)
merges s tx vote by changed =
    comes s (λ d x. d ≡ RecordVote tx vote by → is_changed x.1 ≡ true → (order : ℕ) × (got : Option Heard) × (s.core.lock ≡ Coordinating tx At.Merge order got))
    (record {
      same = λ d effect dull fact e. absurd (dull_same effect dull e);
      served = λ client seq op after effect core fact e. cc;
      joined = λ node order fact e. cc;
      left = λ node order fact e. cc;
      parted = λ at child order free fact e. cc;
      split = λ at child order free fact e. cc;
      begun = λ t body order free fact e. cc;
      offered = λ t offer new fact e. cc;
      asked = λ t watch new fact e. cc;
      heard = λ t order got lock frozen from fact e. (let one : t ≡ tx = cc in (order, got, lock ∙ ap (λ d. Coordinating d At.Merge order got) one));
      ended = λ d t ends free after outcome r fact e. cc;
      finished = λ t binds after outcome r fact e. cc;
    }) (RecordVote tx vote by) refl changed

-- a group that is there counts as it stands, where nothing settles it
eff_open : (f : Decisions) (s : Group) → settle_by s.core.lock f s ≡ s → s.core.gone ≡ None → eff f (Some s) ≡ Some s
eff_open f s e here = ap living e ∙ ap (λ gone. living_by gone s) here

module _ (sources : Sources) (ring : Ring) (gs : Groups) (ys : Stories) (g : Draw) (s : Group) (k : Kept sources.owner ring gs ys) (fact : gs g ≡ Some s) where
  -- the participant that was heard is not its own successor
  heard_apart : (tx : Draw) (frozen : Frozen) → IsVoteCast ys tx (Vows.Yes frozen) → (order : ℕ) (got : Option Heard) → s.core.lock ≡ Coordinating tx At.Merge order got → (story : Story) → ys tx ≡ Some story
      → (offer : Offer) → story.offer ≡ Some offer → offer.part ≡ frozen.succ.group → ⊥
  heard_apart tx frozen cast order got lock story there offer offered same =
      let own : IsCoordinating ys g s tx At.Merge got = subst (LockOk ys g s) lock (k.0.group g s fact).lock_ok in
      let mine = same_Some story own.story (sym there ∙ own.fact) in
      let voted = same_Some cast.0 story (sym cast.1 ∙ there) in
      let undecided : story.outcome ≡ None = ap (λ (y : Story). y.outcome) mine ∙ own.undecided in
      let vote : story.vote ≡ Some (Vows.Yes frozen) = ap (λ (y : Story). y.vote) (sym voted) ∙ cast.2 in
      let fr = (k.0.story tx story there).frozen undecided frozen vote in
      let p = fr.group in
      let name = fr.offer.part in
      let asked : name ≡ offer.part = ap (λ (o : Offer). o.part) (same_Some (unsigned fr.offer) offer (sym fr.offered ∙ offered)) in
      let succ : s.core.succ.group ≡ name = ap (λ (o : Offer). o.part) (same_Some _ (unsigned fr.offer) (sym own.offer ∙ ap (λ (y : Story). y.offer) (sym mine) ∙ fr.offered)) in
      let bound : IsPromised ys name p tx fr.offer = subst (LockOk ys name p) fr.lock (k.0.group name p fr.fact).lock_ok in
      let f = decisions ys in
      let none : f tx ≡ None = ap outcome_of there ∙ undecided in
      let here : Old gs ys g ≡ Some s = ap (eff f) fact ∙ eff_open f s (ap (λ l. settle_by l f s) lock) own.here in
      let its : Old gs ys name ≡ Some p = ap (eff f) fr.fact ∙ eff_open f p (ap (λ l. settle_by l f p) fr.lock ∙ ap (λ o. after_outcome o tx p) none) bound.here in
      let next : p.core.succ.group ≡ frozen.succ.group = ap (λ (x : Frozen). x.succ.group) fr.same in
      let pair : IsPair (view_of (Old gs ys)) g name s.core.arc p.core.arc = record {
        first = ap arc_of here;
        second = ap arc_of its;
        line = ap succ_of here ∙ succ;
        apart = λ e. own.apart (succ ∙ sym e);
      } in
      not_back (view_of (Old gs ys)) g name s.core.arc p.core.arc k.1.0.1 pair (ap succ_of its ∙ next ∙ sym same ∙ sym asked)

  -- a participant that is asked for after a vote is not the watcher
  asked_apart : (tx : Draw) (vote : Vote) → IsVoteCast ys tx vote → (order : ℕ) (got : Option Heard) → s.core.lock ≡ Coordinating tx At.Merge order got → (story : Story) → ys tx ≡ Some story → IsApartStory story → IsApartStory (with_asked s.core vote story)
  asked_apart tx (Vows.Yes frozen) cast order got lock story there old offer watch o w same =
      let part : frozen.succ.group ≡ watch.part = ap (λ (x : Watch). x.part) (same_Some _ watch w) in
      heard_apart tx frozen cast order got lock story there offer o (same ∙ sym part)
  asked_apart tx (Vows.No why) cast order got lock story there old offer watch o w same = old offer watch o w same

  -- so is each story that goes on
  parts : ((tx : Draw) (y : Story) → ys tx ≡ Some y → IsApartStory y) → StoryParts sources ys g s (λ t y. IsApartStory y)
  parts old = record {
    splits = λ at child order may. apart_new s (At.Split at child);
    begins = λ tx body order may changed. apart_new s body;
    votes = λ tx offer may y e k. voted_same (vote_in s (applied s (Prepared tx offer)).1) y k;
    watches = λ o tx y k. watched_same o y k;
    answers = λ tx vote by may y e k. (
        let effect = (applied s (RecordVote tx vote by)).1 in
        cond_both (is_changed effect) (with_asked s.core vote y) (with_decision (decided_in effect) y) IsApartStory
        (λ t. (let m = merges s tx vote by t in asked_apart tx vote may m.0 m.1 m.2 y e k)) (λ _. decided_same (decided_in effect) y k));
    releases = λ tx vote by y e k. decided_same (decided_in (applied s (RecordWatch tx vote by)).1) y k;
    gives_up = λ tx y e k. decided_same (decided_in (applied s (GiveUp tx)).1) y k;
  }

-- after allowed entries
pub parties_are_apart : (sources : Sources) (bases : List Base) → BeginInPlace sources bases → (entries : List LogEntry) → AreAllowed sources (first_recorded bases) entries → PartiesAreApart (stories_of bases entries)
parties_are_apart sources bases start entries allowed = stories_hold sources (λ t y. IsApartStory y) (λ ring gs ys g s k fact old. parts sources ring gs ys g s k fact old) bases start entries allowed

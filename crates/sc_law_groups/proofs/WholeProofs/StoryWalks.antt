-- What holds of the story of each transaction is kept by an entry of any log, where each part of an entry that changes a story keeps it: an invariant of stories is an instance.
use Rattle.std.proofs.Common.{◌≡◌, ℕ, ◌&&◌, not, true, List, [], ◌∷◌, Option, Some, None, refl, sym, subst, option_map}
use Rattle.std.proofs.lemmas.Bool.{cond_both}
use Rattle.sc_base.specs.Definitions.{same_draw}
use Rattle.sc_base.proofs.Lemmas.{draw_is}
use Rattle.sc_node_table.specs.Values.{Draw, Body, Offer, Command, Split, Begin, Prepared, RecordVote, GiveUp, Watched, RecordWatch, Base, Past, Vote}
use Rattle.sc_words.specs.declared.commands.bodies.Body.TheVariants as At
use Rattle.sc_words.specs.commands.CommandDefinitions.{is_changed, decided_in, is_alone}
use Rattle.sc_group_table.specs.machine.MachineDefinitions.{Group, applied}
use Rattle.sc_meaning.specs.entries.EntryDefinitions.{named_group}
use Rattle.sc_meaning.specs.declared.entries.LogEntry.{LogEntry}
use Rattle.sc_law_entries.specs.ring.RingDefinitions.{Sources, IsAllowed, AreAllowed, StoryWorld, first_recorded, recorded_next, recorded_after, recorded_stories, BeginInPlace, stories_of, Groups, Story, Stories, put, with_story, new_story, vote_in, watch_vote_in, with_vote, with_watch_vote, with_decision, with_answer, stories_after}
use Rattle.sc_law_entries.proofs.RingProofs.RingLemmas.{at_start, Kept, Ring, KeptWorld, kept_on}

module _ (P : Draw → Story → Type 0) where
  abbrev pub AllSo : Stories → Type 0
  AllSo ys = (tx : Draw) (y : Story) → ys tx ≡ Some y → P tx y

  -- one story more keeps what holds of each
  put_so : (ys : Stories) (tx : Draw) (o : Option Story) → ((y : Story) → o ≡ Some y → P tx y) → AllSo ys → AllSo (put ys tx o)
  put_so ys tx o new old t story = cond_both (same_draw t tx) o (ys t) (λ (x : Option Story). x ≡ Some story → P t story) (λ q e. subst (λ n. P n story) (sym (draw_is t tx q)) (new story e)) (λ _ e. old t story e)

  -- so does one that goes on
  with_story_so : (ys : Stories) (tx : Draw) (f : Story → Story) → ((y : Story) → ys tx ≡ Some y → P tx (f y)) → AllSo ys → AllSo (with_story ys tx f)
  with_story_so ys tx f new old = by (ys tx) refl
    where
      by : (o : Option Story) → ys tx ≡ o → AllSo (put ys tx (option_map f o))
      by None e = put_so ys tx None (λ y fact. cc) old
      by (Some story) e = put_so ys tx (Some (f story)) (λ y fact. (let same : f story ≡ y = cc in subst (P tx) same (new story e))) old

-- That P holds of the story of each transaction that begins at this group, and is kept where the participant votes, where a watcher votes, where the coordinator records a vote, of the participant or of the watcher, and where it gives up.
pub record StoryParts (sources : Sources) (ys : Stories) (g : Draw) (s : Group) (P : Draw → Story → Type 0) : Type 0 where
  pub splits : (at : ℕ) (child : Draw) (order : ℕ) → IsAllowed sources ys g (Split at child order) → P child (new_story s (At.Split at child))
  pub begins : (tx : Draw) (body : Body) (order : ℕ) → IsAllowed sources ys g (Begin tx body order) → is_changed (applied s (Begin tx body order)).1 ≡ true → P tx (new_story s body)
  pub votes : (tx : Draw) (offer : Offer) → IsAllowed sources ys g (Prepared tx offer) → (y : Story) → ys tx ≡ Some y → P tx y → P tx (with_vote (vote_in s (applied s (Prepared tx offer)).1) y)
  pub watches : (o : Option Past) (tx : Draw) (y : Story) → P tx y → P tx (with_watch_vote o y)
  pub answers : (tx : Draw) (vote : Vote) (by : ℕ) → IsAllowed sources ys g (RecordVote tx vote by) → (y : Story) → ys tx ≡ Some y → P tx y → P tx (with_answer s.core vote (applied s (RecordVote tx vote by)).1 y)
  pub releases : (tx : Draw) (vote : Past) (by : ℕ) → (y : Story) → ys tx ≡ Some y → P tx y → P tx (with_decision (decided_in (applied s (RecordWatch tx vote by)).1) y)
  pub gives_up : (tx : Draw) → (y : Story) → ys tx ≡ Some y → P tx y → P tx (with_decision (decided_in (applied s (GiveUp tx)).1) y)

module _ (sources : Sources) (ys : Stories) (g : Draw) (s : Group) (P : Draw → Story → Type 0) (p : StoryParts sources ys g s P) (old : AllSo P ys) where
  begins_so : (tx : Draw) (body : Body) → P tx (new_story s body) → AllSo P (put ys tx (Some (new_story s body)))
  begins_so tx body k = put_so P ys tx (Some (new_story s body)) (λ y e. (let same : new_story s body ≡ y = cc in subst (P tx) same k)) old

  -- an entry keeps it
  pub stories_keep : (c : Command) → IsAllowed sources ys g c → AllSo P (stories_after s c (applied s c).1 ys)
  stories_keep (Split at child order) a =
      cond_both (is_changed (applied s (Split at child order)).1 && not (is_alone s.core)) (put ys child (Some (new_story s (At.Split at child)))) ys (AllSo P) (λ _. begins_so child (At.Split at child) (p.splits at child order a)) (λ _. old)
  stories_keep (Begin tx body order) a =
      cond_both (is_changed (applied s (Begin tx body order)).1) (put ys tx (Some (new_story s body))) ys (AllSo P) (λ t. begins_so tx body (p.begins tx body order a t)) (λ _. old)
  stories_keep (Prepared tx offer) a = with_story_so P ys tx _ (λ y e. p.votes tx offer a y e (old tx y e)) old
  stories_keep (Watched tx watch) a = with_story_so P ys tx _ (λ y e. p.watches (watch_vote_in (applied s (Watched tx watch)).1) tx y (old tx y e)) old
  stories_keep (RecordVote tx vote by) a = with_story_so P ys tx _ (λ y e. p.answers tx vote by a y e (old tx y e)) old
  stories_keep (RecordWatch tx vote by) a = with_story_so P ys tx _ (λ y e. p.releases tx vote by y e (old tx y e)) old
  stories_keep (GiveUp tx) a = with_story_so P ys tx _ (λ y e. p.gives_up tx y e (old tx y e)) old
  stories_keep _ a = old

-- ---- all entries

-- what each part of an entry keeps, where the world before it is as the law of the ring says
abbrev pub StoryWalk : Sources → (Draw → Story → Type 0) → Type 0
StoryWalk sources P = (ring : Ring) (gs : Groups) (ys : Stories) (g : Draw) (s : Group) → Kept sources.owner ring gs ys → gs g ≡ Some s → AllSo P ys → StoryParts sources ys g s P

module _ (sources : Sources) (P : Draw → Story → Type 0) (walk : StoryWalk sources P) where
  told_so : (w : StoryWorld) (e : LogEntry) → KeptWorld sources.owner w → IsAllowed sources w.stories e.group e.command → AllSo P w.stories → AllSo P (recorded_next w e).stories
  told_so w e k a old = by (named_group e.group w.store.groups) refl
    where
      by : (o : Option Group) → named_group e.group w.store.groups ≡ o → AllSo P (recorded_stories w.stories o e.command)
      by None fact = old
      by (Some s) fact = stories_keep sources w.stories e.group s P (walk _ _ w.stories e.group s k.kept fact old) old e.command a

  all_so : (w : StoryWorld) (entries : List LogEntry) → KeptWorld sources.owner w → AreAllowed sources w entries → AllSo P w.stories → AllSo P (recorded_after w entries).stories
  all_so w [] k a old = old
  all_so w (e ∷ entries) k a old = all_so (recorded_next w e) entries (kept_on sources w e k a.0) a.1 (told_so w e k a.0 old)

  -- it holds of each story after allowed entries
  pub stories_hold : (bases : List Base) → BeginInPlace sources bases → (entries : List LogEntry) → AreAllowed sources (first_recorded bases) entries → AllSo P (stories_of bases entries)
  stories_hold bases start entries allowed = all_so (first_recorded bases) entries (at_start sources bases start) allowed (λ tx y e. cc)

-- How the facts pass through a change of one group and one story.
use Rattle.std.proofs.Common.{◌≡◌, ℕ, true, false, ◌⊎◌, inl, inr, Option, Some, None, refl, sym, ◌∙◌, ap, subst}
use Rattle.std.proofs.lemmas.Option.{same_Some}
use Rattle.sc_base.specs.declared.names.Draw.{Draw}
use Rattle.sc_words.specs.declared.commands.bodies.Body.{Body}
use Rattle.sc_words.specs.declared.commands.bodies.Offer.{Offer}
use Rattle.sc_words.specs.declared.commands.bodies.Watch.{Watch}
use Rattle.sc_words.specs.declared.commands.cores.Lock.{Lock}
use Rattle.sc_words.specs.declared.commands.cores.Lock.TheVariants.{Free, Coordinating, Promised, Watching}
use Rattle.sc_words.specs.declared.commands.votes.Frozen.{Frozen}
use Rattle.sc_words.specs.declared.commands.votes.Heard.{Heard}
use Rattle.sc_words.specs.declared.commands.votes.Vote.TheVariants.{Yes}
use Rattle.sc_group_table.specs.machine.MachineDefinitions.{Group, frozen_of, has_voted}
use Rattle.sc_law_entries.specs.ring.RingDefinitions.{Story, Stories, put, unsigned_watch, Groups, has_decided, has_born, LockOk, GroupOk, IsFrozen, IsAgreed, IsVoter, IsWatcher, StoryOk, Origin, Facts}
use Rattle.sc_meaning.proofs.EntriesProofs.EntryLemmas.{draw_cases}
use Rattle.sc_law_entries.proofs.RingProofs.Cover.{at-same, at-is, at-other, from_at}
use Rattle.sc_law_entries.proofs.RingProofs.Finds.{some_none}

pub same_frozen : (a b : Frozen) → Some (Yes a) ≡ Some (Yes b) → a ≡ b
same_frozen a b e = cc

-- the lock is of this transaction
abbrev pub IsOf : Lock → Draw → Type 0
IsOf Free tx = ⊥
IsOf (Coordinating t body order heard) tx = t ≡ tx
IsOf (Promised t offer) tx = t ≡ tx
IsOf (Watching t watch) tx = t ≡ tx

-- a change of a group that another transaction does not see
pub record IsCalm (tx : Draw) (s s' : Group) : Type 0 where
  pub decided : has_decided s'.core tx ≡ false → has_decided s.core tx ≡ false
  pub voted : has_voted s.core tx ≡ true → has_voted s'.core tx ≡ true
  pub lock : IsOf s.core.lock tx → s'.core.lock ≡ s.core.lock
  pub held : (offer : Offer) → s.core.lock ≡ Promised tx offer → frozen_of s' ≡ frozen_of s

-- ---- the parts of a story's facts, through a change of one group

-- the coordinator's lock
abbrev pub Locks : Group → Draw → Body → Type 0
Locks group tx body = (order : ℕ) × (heard : Option Heard) × (group.core.lock ≡ Coordinating tx body order heard)

pub keep_known : (gs : Groups) (g : Draw) (s s' : Group) (tx : Draw) (y : Story) → gs g ≡ Some s → (has_decided s'.core tx ≡ false → has_decided s.core tx ≡ false)
    → (Locks s tx y.body → Locks s' tx y.body)
    → ((u : Group) → gs y.coordinator ≡ Some u → has_decided u.core tx ≡ false → Locks u tx y.body)
    → (u : Group) → put gs g (Some s') y.coordinator ≡ Some u → has_decided u.core tx ≡ false → Locks u tx y.body
keep_known gs g s s' tx y fact dec lock k u e n =
    elim (from_at gs g (Some s') y.coordinator (Some u) e) [
      | inl m ↦ (
          let u_is = same_Some s' u m.1 in
          let r = k s (ap gs m.0 ∙ fact) (dec (subst (λ (b : Group). has_decided b.core tx ≡ false) (sym u_is) n)) in
          subst (λ (b : Group). Locks b tx y.body) u_is (lock r))
      | inr m ↦ k u m.1 n
    ]

pub keep_there : (gs : Groups) (g : Draw) (s' : Group) (c : Draw) → (s : Group) × (gs c ≡ Some s) → (s : Group) × (put gs g (Some s') c ≡ Some s)
keep_there gs g s' c r = elim (draw_cases c g) [ inl q ↦ (s', at-is gs g (Some s') c q) | inr q ↦ (r.0, at-other gs g (Some s') c q ∙ r.1) ]

pub keep_voter : (gs : Groups) (g : Draw) (s s' : Group) (tx : Draw) (y : Story) → gs g ≡ Some s → (has_voted s.core tx ≡ true → has_voted s'.core tx ≡ true) → IsVoter gs tx y → IsVoter (put gs g (Some s')) tx y
keep_voter gs g s s' tx y fact vot r =
    elim (draw_cases r.offer.part g) [
      | inl q ↦ (
          let u_is = same_Some r.group s (sym r.fact ∙ ap gs q ∙ fact) in
          record { offer = r.offer; offered = r.offered; group = s'; fact = at-is gs g (Some s') r.offer.part q; voted = vot (subst (λ (b : Group). has_voted b.core tx ≡ true) u_is r.voted) })
      | inr q ↦ record { offer = r.offer; offered = r.offered; group = r.group; fact = at-other gs g (Some s') r.offer.part q ∙ r.fact; voted = r.voted }
    ]

pub keep_watcher : (gs : Groups) (g : Draw) (s s' : Group) (tx : Draw) (w : Option Watch) → gs g ≡ Some s → (has_voted s.core tx ≡ true → has_voted s'.core tx ≡ true) → IsWatcher gs tx w → IsWatcher (put gs g (Some s')) tx w
keep_watcher gs g s s' tx w fact vot r =
    elim (draw_cases r.watch.part g) [
      | inl q ↦ (
          let u_is = same_Some r.group s (sym r.fact ∙ ap gs q ∙ fact) in
          record { watch = r.watch; is_asked = r.is_asked; group = s'; fact = at-is gs g (Some s') r.watch.part q; voted = vot (subst (λ (b : Group). has_voted b.core tx ≡ true) u_is r.voted) })
      | inr q ↦ record { watch = r.watch; is_asked = r.is_asked; group = r.group; fact = at-other gs g (Some s') r.watch.part q ∙ r.fact; voted = r.voted }
    ]

pub keep_frozen : (gs : Groups) (g : Draw) (s s' : Group) (tx : Draw) (y : Story) (f : Frozen) → gs g ≡ Some s → ((offer : Offer) → s.core.lock ≡ Promised tx offer → (s'.core.lock ≡ s.core.lock) × (frozen_of s' ≡ frozen_of s))
    → IsFrozen gs tx y f → IsFrozen (put gs g (Some s')) tx y f
keep_frozen gs g s s' tx y f fact lock r =
    elim (draw_cases r.offer.part g) [
      | inl q ↦ (
          let u_is = same_Some s r.group (sym fact ∙ ap gs (sym q) ∙ r.fact) in
          let was : s.core.lock ≡ Promised tx r.offer = ap (λ (b : Group). b.core.lock) u_is ∙ r.lock in
          record {
            offer = r.offer;
            offered = r.offered;
            group = s';
            fact = at-is gs g (Some s') r.offer.part q;
            lock = (lock r.offer was).0 ∙ was;
            same = (lock r.offer was).1 ∙ ap (λ (b : Group). frozen_of b) u_is ∙ r.same;
          })
      | inr q ↦ record { offer = r.offer; offered = r.offered; group = r.group; fact = at-other gs g (Some s') r.offer.part q ∙ r.fact; lock = r.lock; same = r.same }
    ]

pub keep_agreed : (gs : Groups) (g : Draw) (s s' : Group) (tx : Draw) (y : Story) → gs g ≡ Some s → ((watch : Watch) → s.core.lock ≡ Watching tx watch → s'.core.lock ≡ s.core.lock) → IsAgreed gs tx y → IsAgreed (put gs g (Some s')) tx y
keep_agreed gs g s s' tx y fact lock r =
    elim (draw_cases r.watch.part g) [
      | inl q ↦ (
          let u_is = same_Some s r.group (sym fact ∙ ap gs (sym q) ∙ r.fact) in
          let was : s.core.lock ≡ Watching tx r.watch = ap (λ (b : Group). b.core.lock) u_is ∙ r.lock in
          record { watch = r.watch; asked = r.asked; group = s'; fact = at-is gs g (Some s') r.watch.part q; lock = lock r.watch was ∙ was })
      | inr q ↦ record { watch = r.watch; asked = r.asked; group = r.group; fact = at-other gs g (Some s') r.watch.part q ∙ r.fact; lock = r.lock }
    ]

pub keep_none : (gs : Groups) (g : Draw) (s s' : Group) (t : Draw) → gs g ≡ Some s → gs t ≡ None → put gs g (Some s') t ≡ None
keep_none gs g s s' t fact n = at-other gs g (Some s') t (λ q. some_none s (sym fact ∙ ap gs (sym q) ∙ n)) ∙ n

pub story_keep : (gs : Groups) (owner : Draw → Option Draw) (g : Draw) (s s' : Group) (tx : Draw) (y : Story) → gs g ≡ Some s → IsCalm tx s s' → StoryOk owner gs tx y → StoryOk owner (put gs g (Some s')) tx y
story_keep gs owner g s s' tx y fact calm k = record {
  named = k.named;
  known = keep_known gs g s s' tx y fact calm.decided (λ r. (r.0, r.1, calm.lock (subst (λ l. IsOf l tx) (sym r.2) refl) ∙ r.2)) k.known;
  there = keep_there gs g s' y.coordinator k.there;
  voter = λ v e. keep_voter gs g s s' tx y fact calm.voted (k.voter v e);
  watcher = λ v e. keep_watcher gs g s s' tx y.watch fact calm.voted (k.watcher v e);
  earned = k.earned;
  frozen = λ o f v. keep_frozen gs g s s' tx y f fact (λ offer e. (calm.lock (subst (λ l. IsOf l tx) (sym e) refl), calm.held offer e)) (k.frozen o f v);
  agreed = λ o v. keep_agreed gs g s s' tx y fact (λ watch e. calm.lock (subst (λ l. IsOf l tx) (sym e) refl)) (k.agreed o v);
  unborn = λ place child b o. keep_none gs g s s' tx fact (k.unborn place child b o);
}

-- a change of a story by group g
pub record IsGrown (g : Draw) (y y' : Story) : Type 0 where
  pub offer : y'.offer ≡ y.offer
  pub votes : (f : Frozen) → y.vote ≡ Some (Yes f) → y'.vote ≡ Some (Yes f)
  pub watch : (w : Watch) → y.watch ≡ Some w → y'.watch ≡ Some w
  pub coordinator : (h : Draw) → (h ≡ g → ⊥) → y.coordinator ≡ h
      → (y'.coordinator ≡ h) × (y'.body ≡ y.body) × (y'.outcome ≡ y.outcome) × (y'.watch ≡ y.watch) × (y'.standing ≡ y.standing) × ((f : Frozen) → y.vote ≡ Some (Yes f) → y'.vote ≡ Some (Yes f))

lock_keep : (ys : Stories) (g tx : Draw) (y y' : Story) → ys tx ≡ Some y → IsGrown g y y'
    → (h : Draw) (u : Group) → (h ≡ g → ⊥) → (lock : Lock) → LockOk ys h u lock → LockOk (put ys tx (Some y')) h u lock
lock_keep ys g tx y y' fact grown h u ne Free k = tt
lock_keep ys g tx y y' fact grown h u ne (Coordinating t body order heard) r =
    elim (draw_cases t tx) [
      | inl q ↦ (
          let y_is = same_Some y r.story (sym fact ∙ ap ys (sym q) ∙ r.fact) in
          let m = grown.coordinator h ne (ap (λ (z : Story). z.coordinator) y_is ∙ r.coordinator) in
          record {
            story = y';
            fact = at-is ys tx (Some y') t q;
            coordinator = m.0;
            same_body = m.1 ∙ ap (λ (z : Story). z.body) y_is ∙ r.same_body;
            undecided = m.2 ∙ ap (λ (z : Story). z.outcome) y_is ∙ r.undecided;
            here = r.here;
            standing = r.standing ∙ sym (m.4 ∙ ap (λ (z : Story). z.standing) y_is);
            offer = grown.offer ∙ ap (λ (z : Story). z.offer) y_is ∙ r.offer;
            watch = m.3 ∙ ap (λ (z : Story). z.watch) y_is ∙ r.watch;
            heard_vote = λ f a. (let b = r.heard_vote f a in (m.5 f.frozen (ap (λ (z : Story). z.vote) y_is ∙ b.0), b.1));
            apart = r.apart;
            own = r.own;
          })
      | inr q ↦ record {
        story = r.story;
        fact = at-other ys tx (Some y') t q ∙ r.fact;
        coordinator = r.coordinator;
        same_body = r.same_body;
        undecided = r.undecided;
        here = r.here;
        standing = r.standing;
        offer = r.offer;
        watch = r.watch;
        heard_vote = r.heard_vote;
        apart = r.apart;
        own = r.own;
      }
    ]
lock_keep ys g tx y y' fact grown h u ne (Promised t offer) r =
    elim (draw_cases t tx) [
      | inl q ↦ (
          let y_is = same_Some y r.story (sym fact ∙ ap ys (sym q) ∙ r.fact) in
          record { story = y'; fact = at-is ys tx (Some y') t q; offered = grown.offer ∙ ap (λ (z : Story). z.offer) y_is ∙ r.offered; part = r.part; vote = grown.votes (frozen_of u) (ap (λ (z : Story). z.vote) y_is ∙ r.vote); here = r.here })
      | inr q ↦ record { story = r.story; fact = at-other ys tx (Some y') t q ∙ r.fact; offered = r.offered; part = r.part; vote = r.vote; here = r.here }
    ]
lock_keep ys g tx y y' fact grown h u ne (Watching t watch) r =
    elim (draw_cases t tx) [
      | inl q ↦ (
          let y_is = same_Some y r.story (sym fact ∙ ap ys (sym q) ∙ r.fact) in
          record { story = y'; fact = at-is ys tx (Some y') t q; asked = grown.watch (unsigned_watch watch) (ap (λ (z : Story). z.watch) y_is ∙ r.asked); part = r.part; here = r.here })
      | inr q ↦ record { story = r.story; fact = at-other ys tx (Some y') t q ∙ r.fact; asked = r.asked; part = r.part; here = r.here }
    ]

pub group_keep : (ys : Stories) (g tx : Draw) (y y' : Story) → ys tx ≡ Some y → IsGrown g y y' → (h : Draw) (u : Group) → (h ≡ g → ⊥) → GroupOk ys h u → GroupOk (put ys tx (Some y')) h u
group_keep ys g tx y y' fact grown h u ne k = record { named = k.named; lock_ok = lock_keep ys g tx y y' fact grown h u ne u.core.lock k.lock_ok }

-- a story that is new
new_other : (ys : Stories) (tx : Draw) (y' : Story) → ys tx ≡ None → (t : Draw) (z : Story) → ys t ≡ Some z → put ys tx (Some y') t ≡ Some z
new_other ys tx y' none t z e = at-other ys tx (Some y') t (λ q. some_none z (sym e ∙ ap ys q ∙ none)) ∙ e

lock_new : (ys : Stories) (tx : Draw) (y' : Story) → ys tx ≡ None → (h : Draw) (u : Group) (lock : Lock) → LockOk ys h u lock → LockOk (put ys tx (Some y')) h u lock
lock_new ys tx y' none h u Free r = tt
lock_new ys tx y' none h u (Coordinating t body order heard) r = record {
  story = r.story;
  fact = new_other ys tx y' none t r.story r.fact;
  coordinator = r.coordinator;
  same_body = r.same_body;
  undecided = r.undecided;
  here = r.here;
  standing = r.standing;
  offer = r.offer;
  watch = r.watch;
  heard_vote = r.heard_vote;
  apart = r.apart;
  own = r.own;
}
lock_new ys tx y' none h u (Promised t offer) r = record { story = r.story; fact = new_other ys tx y' none t r.story r.fact; offered = r.offered; part = r.part; vote = r.vote; here = r.here }
lock_new ys tx y' none h u (Watching t watch) r = record { story = r.story; fact = new_other ys tx y' none t r.story r.fact; asked = r.asked; part = r.part; here = r.here }

pub group_new : (ys : Stories) (tx : Draw) (y' : Story) → ys tx ≡ None → (h : Draw) (u : Group) → GroupOk ys h u → GroupOk (put ys tx (Some y')) h u
group_new ys tx y' none h u k = record { named = k.named; lock_ok = lock_new ys tx y' none h u u.core.lock k.lock_ok }

-- the children that a group has noted stay noted
abbrev pub StayBorn : Group → Group → Type 0
StayBorn s s' = (h : Draw) → has_born s.core h ≡ true → has_born s'.core h ≡ true

-- so do its votes
abbrev pub StayVoted : Group → Group → Type 0
StayVoted s s' = (t : Draw) → has_voted s.core t ≡ true → has_voted s'.core t ≡ true

-- the decisions that it has noted are the same
abbrev pub SameDecided : Group → Group → Type 0
SameDecided s s' = (t : Draw) → has_decided s'.core t ≡ has_decided s.core t

pub origin_keep : (gs : Groups) (owner : Draw → Option Draw) (g : Draw) (s s' : Group) → gs g ≡ Some s → StayBorn s s' → (h : Draw) → Origin owner gs h → Origin owner (put gs g (Some s')) h
origin_keep gs owner g s s' fact born h (inl e) = inl e
origin_keep gs owner g s s' fact born h (inr r) =
    elim (draw_cases r.0 g) [
      | inl q ↦ inr (g, s', r.2 ∙ ap Some q, at-same gs g (Some s'), born h (subst (λ (b : Group). has_born b.core h ≡ true) (same_Some r.1 s (sym r.3 ∙ ap gs q ∙ fact)) r.4))
      | inr q ↦ inr (r.0, r.1, r.2, at-other gs g (Some s') r.0 q ∙ r.3, r.4)
    ]

-- one group changes, and one story or none
pub facts_change : (gs : Groups) (ys ys' : Stories) (owner : Draw → Option Draw) (g : Draw) (s s' : Group) → Facts owner gs ys → gs g ≡ Some s → StayBorn s s'
    → GroupOk ys' g s'
    → ((h : Draw) (u : Group) → (h ≡ g → ⊥) → GroupOk ys h u → GroupOk ys' h u)
    → ((tx : Draw) (y : Story) → ys' tx ≡ Some y → StoryOk owner (put gs g (Some s')) tx y)
    → Facts owner (put gs g (Some s')) ys'
facts_change gs ys ys' owner g s s' f fact born mine others stories = record {
  group = λ h u e. elim (from_at gs g (Some s') h (Some u) e) [
    | inl m ↦ subst (λ (b : Group). GroupOk ys' h b) (same_Some s' u m.1) (subst (λ n. GroupOk ys' n s') (sym m.0) mine)
    | inr m ↦ others h u m.0 (f.group h u m.1)
  ];
  story = stories;
  origin = λ h u e. elim (from_at gs g (Some s') h (Some u) e) [
    | inl m ↦ origin_keep gs owner g s s' fact born h (f.origin h s (ap gs m.0 ∙ fact))
    | inr m ↦ origin_keep gs owner g s s' fact born h (f.origin h u m.1)
  ];
}

-- one group changes, and no story
pub facts_quiet : (gs : Groups) (ys : Stories) (owner : Draw → Option Draw) (g : Draw) (s s' : Group) → Facts owner gs ys → gs g ≡ Some s → StayBorn s s'
    → GroupOk ys g s' → ((tx : Draw) (y : Story) → ys tx ≡ Some y → IsCalm tx s s' ⊎ StoryOk owner (put gs g (Some s')) tx y) → Facts owner (put gs g (Some s')) ys
facts_quiet gs ys owner g s s' f fact born mine calm =
    facts_change gs ys ys owner g s s' f fact born mine (λ h u ne k. k)
    (λ tx y e. elim (calm tx y e) [ inl k ↦ story_keep gs owner g s s' tx y fact k (f.story tx y e) | inr k ↦ k ])

-- one group and one story change; the other stories see nothing
pub facts_reported : (gs : Groups) (ys : Stories) (owner : Draw → Option Draw) (g : Draw) (s s' : Group) (tx : Draw) (y y' : Story) → Facts owner gs ys → gs g ≡ Some s → ys tx ≡ Some y
    → StayBorn s s' → GroupOk (put ys tx (Some y')) g s' → IsGrown g y y'
    → ((t : Draw) → (t ≡ tx → ⊥) → IsCalm t s s') → StoryOk owner (put gs g (Some s')) tx y' → Facts owner (put gs g (Some s')) (put ys tx (Some y'))
facts_reported gs ys owner g s s' tx y y' f fact there born mine grown calm recorded =
    facts_change gs ys (put ys tx (Some y')) owner g s s' f fact born mine
    (λ h u ne k. group_keep ys g tx y y' there grown h u ne k)
    (λ t z e. elim (from_at ys tx (Some y') t (Some z) e) [
      | inl m ↦ subst (StoryOk owner (put gs g (Some s')) t) (same_Some y' z m.1) (subst (λ n. StoryOk owner (put gs g (Some s')) n y') (sym m.0) recorded)
      | inr m ↦ story_keep gs owner g s s' t z fact (calm t m.0) (f.story t z m.1)
    ])

-- Each kind of entry keeps the facts.
use Rattle.std.specs.Prelude.{◌++◌}
use Rattle.std.proofs.Common.{◌≡◌, ℕ, true, false, [], ◌∷◌, ◌⊎◌, inl, inr, Option, Some, None, refl, sym, ◌∙◌, ap, subst}
use Rattle.std.proofs.lemmas.Bool.{both_ways}
use Rattle.std.proofs.lemmas.Option.{same_Some}
use Rattle.sc_base.specs.declared.names.Draw.{Draw}
use Rattle.sc_base.proofs.Lemmas.{same_name}
use Rattle.sc_words.specs.declared.commands.bodies.Body.{Body}
use Rattle.sc_words.specs.declared.commands.bodies.Body.TheVariants as At
use Rattle.sc_words.specs.declared.commands.bodies.Offer.{Offer}
use Rattle.sc_words.specs.declared.commands.bodies.Watch.{Watch}
use Rattle.sc_words.specs.declared.commands.cores.Lock.{Lock}
use Rattle.sc_words.specs.declared.commands.cores.Lock.TheVariants.{Free, Coordinating, Promised, Watching}
use Rattle.sc_words.specs.declared.commands.votes.Frozen.{Frozen}
use Rattle.sc_words.specs.declared.commands.votes.Heard.{Heard}
use Rattle.sc_words.specs.declared.commands.votes.No.{No}
use Rattle.sc_words.specs.declared.commands.votes.Past.{Past}
use Rattle.sc_words.specs.declared.commands.votes.Past.TheVariants as Cast
use Rattle.sc_words.specs.declared.commands.votes.Vote.{Vote}
use Rattle.sc_words.specs.declared.commands.votes.Vote.TheVariants as Ballot
use Rattle.sc_group_table.specs.machine.MachineDefinitions.{Group, frozen_of, begun_group, has_voted}
use Rattle.sc_law_entries.specs.ring.RingDefinitions.{Story, Stories, put, unsigned, unsigned_watch, offer_for, watch_for, new_story, Groups, has_decided, IsOwnBody, LockOk, IsWatcher, StoryOk, Facts}
use Rattle.sc_meaning.proofs.EntriesProofs.EntryLemmas.{draw_cases}
use Rattle.sc_law_entries.proofs.RingProofs.Notes.{any_keeps, any_new, is_vote_on}
use Rattle.sc_law_entries.proofs.RingProofs.Cover.{at-same, at-is, at-other, from_at}
use Rattle.sc_law_entries.proofs.RingProofs.Facts.{same_frozen, IsOf, IsCalm, keep_known, keep_there, keep_voter, keep_watcher, keep_frozen, keep_agreed, keep_none, story_keep, IsGrown, group_new, facts_change, facts_quiet, facts_reported, StayBorn, SameDecided}
use Rattle.sc_law_entries.proofs.RingProofs.Finds.{some_none}

pub no_promise : (l : Lock) (tx : Draw) (offer : Offer) → l ≡ Free → l ≡ Promised tx offer → ⊥
no_promise l tx offer a b = let e = sym a ∙ b in cc

pub no_coord : (l : Lock) (tx : Draw) (body : Body) (order : ℕ) (heard : Option Heard) → l ≡ Free → l ≡ Coordinating tx body order heard → ⊥
no_coord l tx body order heard a b = let e = sym a ∙ b in cc

pub no_watch : (l : Lock) (tx : Draw) (watch : Watch) → l ≡ Free → l ≡ Watching tx watch → ⊥
no_watch l tx watch a b = let e = sym a ∙ b in cc

pub free_calm : (t : Draw) (s s' : Group) → s.core.lock ≡ Free → (has_decided s'.core t ≡ false → has_decided s.core t ≡ false) → (has_voted s.core t ≡ true → has_voted s'.core t ≡ true) → IsCalm t s s'
free_calm t s s' free dec vot = record {
  decided = dec;
  voted = vot;
  lock = λ o. absurd (subst (λ l. IsOf l t) free o);
  held = λ offer e. absurd (no_promise s.core.lock t offer free e);
}

of_one : (l : Lock) (a b : Draw) → IsOf l a → IsOf l b → b ≡ a
of_one Free a b x y = absurd x
of_one (Coordinating t body order heard) a b x y = sym y ∙ x
of_one (Promised t offer) a b x y = sym y ∙ x
of_one (Watching t watch) a b x y = sym y ∙ x

pub other_calm : (t tx : Draw) (s s' : Group) → IsOf s.core.lock tx → (t ≡ tx → ⊥) → (has_decided s'.core t ≡ false → has_decided s.core t ≡ false) → (has_voted s.core t ≡ true → has_voted s'.core t ≡ true) → IsCalm t s s'
other_calm t tx s s' of ne dec vot = record {
  decided = dec;
  voted = vot;
  lock = λ o. absurd (ne (of_one s.core.lock tx t of o));
  held = λ offer e. absurd (ne (of_one s.core.lock tx t of (subst (λ l. IsOf l t) (sym e) refl)));
}

pub same_calm : (t : Draw) (s s' : Group) → s'.core.lock ≡ s.core.lock → frozen_of s' ≡ frozen_of s → (has_decided s'.core t ≡ false → has_decided s.core t ≡ false) → (has_voted s.core t ≡ true → has_voted s'.core t ≡ true) → IsCalm t s s'
same_calm t s s' lock held dec vot = record { decided = dec; voted = vot; lock = λ o. lock; held = λ offer e. held }

-- a vote that the voter has no note of was not made
pub unheard : (gs : Groups) (owner : Draw → Option Draw) (tx : Draw) (y : Story) (offer : Offer) (s : Group) → StoryOk owner gs tx y → y.offer ≡ Some (unsigned offer) → gs offer.part ≡ Some s → has_voted s.core tx ≡ false → (o : Option Vote) → y.vote ≡ o → y.vote ≡ None
unheard gs owner tx y offer s k fact there none None e = e
unheard gs owner tx y offer s k fact there none (Some v) e =
    let r = k.voter v e in
    let o : unsigned offer ≡ r.offer = same_Some (unsigned offer) r.offer (sym fact ∙ r.offered) in
    absurd (both_ways (has_voted s.core tx) none (subst (λ (b : Group). has_voted b.core tx ≡ true) (same_Some r.group s (sym r.fact ∙ ap (λ (x : Offer). gs x.part) (sym o) ∙ there)) r.voted))

-- ---- a change without a story, of a group that is free or watches

-- what is not changed
pub record IsPlain (s s' : Group) : Type 0 where
  pub id : s'.core.id ≡ s.core.id
  pub lock : s'.core.lock ≡ s.core.lock
  pub here : s'.core.gone ≡ s.core.gone
  pub decided : SameDecided s s'
  pub voted : (t : Draw) → has_voted s'.core t ≡ has_voted s.core t
  pub born : StayBorn s s'

-- a lock that leaves a group open
abbrev pub IsOpen : Lock → Type 0
IsOpen l = (l ≡ Free) ⊎ ((tx : Draw) × (watch : Watch) × (l ≡ Watching tx watch))

watch_lock : (ys : Stories) (g : Draw) (s s' : Group) (tx : Draw) (watch : Watch) → s'.core.gone ≡ s.core.gone → LockOk ys g s (Watching tx watch) → LockOk ys g s' (Watching tx watch)
watch_lock ys g s s' tx watch same r = record { story = r.story; fact = r.fact; asked = r.asked; part = r.part; here = same ∙ r.here }

pub plain_facts : (gs : Groups) (ys : Stories) (owner : Draw → Option Draw) (g : Draw) (s s' : Group) → Facts owner gs ys → gs g ≡ Some s → IsOpen s.core.lock → IsPlain s s' → Facts owner (put gs g (Some s')) ys
plain_facts gs ys owner g s s' f fact k p =
    let ok = f.group g s fact in
    facts_quiet gs ys owner g s s' f fact p.born
    (record {
      named = p.id ∙ ok.named;
      lock_ok = elim k [
        | inl free ↦ subst (LockOk ys g s') (sym (p.lock ∙ free)) tt
        | inr w ↦ subst (LockOk ys g s') (sym (p.lock ∙ w.2)) (watch_lock ys g s s' w.0 w.1 p.here (subst (LockOk ys g s) w.2 ok.lock_ok))
      ];
    })
    (λ tx y there. inl (record {
      decided = λ n. sym (p.decided tx) ∙ n;
      voted = λ n. p.voted tx ∙ n;
      lock = λ o. p.lock;
      held = λ offer q. elim k [ inl free ↦ absurd (no_promise s.core.lock tx offer free q) | inr w ↦ absurd (let e = sym q ∙ w.2 in cc) ];
    }))

-- ---- a lock is taken

offer_begun : (s : Group) (tx : Draw) (b : Body) (order : ℕ) (body : Body) → offer_for s.core body ≡ offer_for (begun_group s tx b order).core body
offer_begun s tx b order At.Merge = refl
offer_begun s tx b order _ = refl

watch_begun : (s : Group) (tx : Draw) (b : Body) (order : ℕ) (body : Body) → watch_for s.core body None ≡ watch_for (begun_group s tx b order).core body None
watch_begun s tx b order At.Merge = refl
watch_begun s tx b order _ = refl

pub begin_facts : (gs : Groups) (ys : Stories) (owner : Draw → Option Draw) (g : Draw) (s : Group) (tx : Draw) (body : Body) (order : ℕ) → Facts owner gs ys → gs g ≡ Some s → s.core.lock ≡ Free → s.core.gone ≡ None
    → ys tx ≡ None → owner tx ≡ Some g → ((at : ℕ) (child : Draw) → body ≡ At.Split at child → gs tx ≡ None) → (s.core.succ.group ≡ g → ⊥) → IsOwnBody body tx
    → Facts owner (put gs g (Some (begun_group s tx body order))) (put ys tx (Some (new_story s body)))
begin_facts gs ys owner g s tx body order f fact free here fresh mine unborn apart own =
    let s' = begun_group s tx body order in
    let y' = new_story s body in
    let named = (f.group g s fact).named in
    facts_change gs ys (put ys tx (Some y')) owner g s s' f fact (λ h b. b)
    (record {
      named = named;
      lock_ok = record {
        story = y';
        fact = at-same ys tx (Some y');
        coordinator = named;
        same_body = refl;
        undecided = refl;
        here = here;
        standing = refl;
        offer = offer_begun s tx body order body;
        watch = watch_begun s tx body order body;
        heard_vote = λ h e. absurd (some_none h (sym e));
        apart = apart;
        own = own;
      };
    })
    (λ h u ne k. group_new ys tx y' fresh h u k)
    (λ t z e. elim (from_at ys tx (Some y') t (Some z) e) [
      | inl m ↦ subst (StoryOk owner (put gs g (Some s')) t) (same_Some y' z m.1) (subst (λ n. StoryOk owner (put gs g (Some s')) n y') (sym m.0) (record {
        named = mine ∙ ap Some (sym named);
        known = λ u q n. (order, None, subst (λ (b : Group). b.core.lock ≡ Coordinating tx body order None) (same_Some s' u (sym (at-same gs g (Some s')) ∙ ap (put gs g (Some s')) (sym named) ∙ q)) refl);
        there = (s', ap (put gs g (Some s')) named ∙ at-same gs g (Some s'));
        voter = λ v q. absurd (some_none v (sym q));
        watcher = λ v q. absurd (some_none v (sym q));
        earned = λ o q. absurd (some_none o (sym q));
        frozen = λ o h q. absurd (some_none (Ballot.Yes h) (sym q));
        agreed = λ o q. absurd (some_none Cast.Yes (sym q));
        unborn = λ place child b o. keep_none gs g s s' tx fact (unborn place child b);
      }))
      | inr m ↦ story_keep gs owner g s s' t z fact (free_calm t s s' free (λ n. n) (λ n. n)) (f.story t z m.1)
    ])

-- ---- votes

-- a group that has voted, and is bound or not
abbrev pub Votes : Group → Draw → Lock → Past → Group
Votes s tx lock past = record s { core = record s.core { lock = lock; voted = s.core.voted ++ (tx, past) ∷ [] } }

voted_keeps : (s : Group) (tx : Draw) (lock : Lock) (past : Past) (t : Draw) → has_voted s.core t ≡ true → has_voted (Votes s tx lock past).core t ≡ true
voted_keeps s tx lock past t e = any_keeps (is_vote_on t) s.core.voted ((tx, past) ∷ []) e

pub voted_now : (s : Group) (tx : Draw) (lock : Lock) (past : Past) → has_voted (Votes s tx lock past).core tx ≡ true
voted_now s tx lock past = any_new (is_vote_on tx) s.core.voted (tx, past) (same_name tx tx refl)

-- a first vote of the story
vote_grown : (g : Draw) (y : Story) (v : Vote) → y.vote ≡ None → IsGrown g y (record y { vote = Some v })
vote_grown g y v none = record { offer = refl; votes = λ f q. absurd (some_none (Ballot.Yes f) (sym q ∙ none)); watch = λ w e. e; coordinator = λ h ne e. (e, refl, refl, refl, refl, λ f q. absurd (some_none (Ballot.Yes f) (sym q ∙ none))) }

pub yes_facts : (gs : Groups) (ys : Stories) (owner : Draw → Option Draw) (g : Draw) (s : Group) (tx : Draw) (y : Story) (offer : Offer) → Facts owner gs ys → gs g ≡ Some s → s.core.lock ≡ Free → s.core.gone ≡ None → has_voted s.core tx ≡ false
    → ys tx ≡ Some y → y.offer ≡ Some (unsigned offer) → offer.part ≡ g
    → Facts owner (put gs g (Some (Votes s tx (Promised tx offer) Cast.Yes))) (put ys tx (Some (record y { vote = Some (Ballot.Yes (frozen_of s)) })))
yes_facts gs ys owner g s tx y offer f fact free here new there offered part =
    let s' = Votes s tx (Promised tx offer) Cast.Yes in
    let y' : Story = record y { vote = Some (Ballot.Yes (frozen_of s)) } in
    let k = f.story tx y there in
    let none = unheard gs owner tx y offer s k offered (ap gs part ∙ fact) new y.vote refl in
    let at_part = at-is gs g (Some s') offer.part part in
    facts_reported gs ys owner g s s' tx y y' f fact there (λ h b. b)
    (record { named = (f.group g s fact).named; lock_ok = record { story = y'; fact = at-same ys tx (Some y'); offered = offered; part = part; vote = refl; here = here } })
    (vote_grown g y (Ballot.Yes (frozen_of s)) none)
    (λ t ne. free_calm t s s' free (λ n. n) (voted_keeps s tx (Promised tx offer) Cast.Yes t))
    (record {
      named = k.named;
      known = keep_known gs g s s' tx y fact (λ n. n) (λ r. absurd (no_coord s.core.lock tx y.body r.0 r.1 free r.2)) k.known;
      there = keep_there gs g s' y.coordinator k.there;
      voter = λ v e. record { offer = unsigned offer; offered = offered; group = s'; fact = at_part; voted = voted_now s tx (Promised tx offer) Cast.Yes };
      watcher = λ v e. keep_watcher gs g s s' tx y.watch fact (voted_keeps s tx (Promised tx offer) Cast.Yes tx) (k.watcher v e);
      earned = λ o q na. (let r = (k.earned o q na).0 (unsigned offer) offered in absurd (some_none (Ballot.Yes r.0) (sym r.1 ∙ none)));
      frozen = λ o h e. record { offer = offer; offered = offered; group = s'; fact = at_part; lock = refl; same = same_frozen (frozen_of s) h e };
      agreed = λ o v. (let r = keep_agreed gs g s s' tx y fact (λ watch e. absurd (no_watch s.core.lock tx watch free e)) (k.agreed o v) in
          record { watch = r.watch; asked = r.asked; group = r.group; fact = r.fact; lock = r.lock });
      unborn = λ place child b o. keep_none gs g s s' tx fact (k.unborn place child b o);
    })

-- the voter's own lock, where its story gets a first vote, a watch's vote, or nothing else that locks speak of
pub lock_story : (ys : Stories) (g : Draw) (s s' : Group) (tx : Draw) (y y' : Story) → ys tx ≡ Some y → (y'.coordinator ≡ y.coordinator) × (y'.body ≡ y.body) × (y'.offer ≡ y.offer) × (y'.watch ≡ y.watch) × (y'.outcome ≡ y.outcome) × (y'.standing ≡ y.standing)
    → ((f : Frozen) → y.vote ≡ Some (Ballot.Yes f) → y'.vote ≡ Some (Ballot.Yes f))
    → (s'.core.gone ≡ s.core.gone) × (frozen_of s ≡ frozen_of s') × ((body : Body) → offer_for s.core body ≡ offer_for s'.core body) × ((body : Body) (heard : Option Heard) → watch_for s.core body heard ≡ watch_for s'.core body heard) × (s'.core.succ.group ≡ s.core.succ.group)
    → (l : Lock) → LockOk ys g s l → LockOk (put ys tx (Some y')) g s' l
lock_story ys g s s' tx y y' there e votes same Free ok = tt
lock_story ys g s s' tx y y' there e votes same (Coordinating t body order heard) r =
    elim (draw_cases t tx) [
      | inl q ↦ (
          let y_is = same_Some y r.story (sym there ∙ ap ys (sym q) ∙ r.fact) in
          record {
            story = y';
            fact = at-is ys tx (Some y') t q;
            coordinator = e.0 ∙ ap (λ (z : Story). z.coordinator) y_is ∙ r.coordinator;
            same_body = e.1 ∙ ap (λ (z : Story). z.body) y_is ∙ r.same_body;
            undecided = e.4 ∙ ap (λ (z : Story). z.outcome) y_is ∙ r.undecided;
            here = same.0 ∙ r.here;
            standing = sym same.1 ∙ r.standing ∙ sym (e.5 ∙ ap (λ (z : Story). z.standing) y_is);
            offer = e.2 ∙ ap (λ (z : Story). z.offer) y_is ∙ r.offer ∙ same.2 body;
            watch = e.3 ∙ ap (λ (z : Story). z.watch) y_is ∙ r.watch ∙ same.3 body heard;
            heard_vote = λ f a. (let b = r.heard_vote f a in (votes f.frozen (ap (λ (z : Story). z.vote) y_is ∙ b.0), b.1));
            apart = λ q. r.apart (sym same.4 ∙ q);
            own = r.own;
          })
      | inr q ↦ record {
        story = r.story;
        fact = at-other ys tx (Some y') t q ∙ r.fact;
        coordinator = r.coordinator;
        same_body = r.same_body;
        undecided = r.undecided;
        here = same.0 ∙ r.here;
        standing = sym same.1 ∙ r.standing;
        offer = r.offer ∙ same.2 body;
        watch = r.watch ∙ same.3 body heard;
        heard_vote = r.heard_vote;
        apart = λ q. r.apart (sym same.4 ∙ q);
        own = r.own;
      }
    ]
lock_story ys g s s' tx y y' there e votes same (Promised t offer) r =
    elim (draw_cases t tx) [
      | inl q ↦ (
          let y_is = same_Some y r.story (sym there ∙ ap ys (sym q) ∙ r.fact) in
          record {
            story = y';
            fact = at-is ys tx (Some y') t q;
            offered = e.2 ∙ ap (λ (z : Story). z.offer) y_is ∙ r.offered;
            part = r.part;
            vote = votes (frozen_of s') (ap (λ (z : Story). z.vote) y_is ∙ r.vote ∙ ap (λ f. Some (Ballot.Yes f)) same.1);
            here = same.0 ∙ r.here;
          })
      | inr q ↦ record { story = r.story; fact = at-other ys tx (Some y') t q ∙ r.fact; offered = r.offered; part = r.part; vote = r.vote ∙ ap (λ f. Some (Ballot.Yes f)) same.1; here = same.0 ∙ r.here }
    ]
lock_story ys g s s' tx y y' there e votes same (Watching t watch) r =
    elim (draw_cases t tx) [
      | inl q ↦ (
          let y_is = same_Some y r.story (sym there ∙ ap ys (sym q) ∙ r.fact) in
          record { story = y'; fact = at-is ys tx (Some y') t q; asked = e.3 ∙ ap (λ (z : Story). z.watch) y_is ∙ r.asked; part = r.part; here = same.0 ∙ r.here })
      | inr q ↦ record { story = r.story; fact = at-other ys tx (Some y') t q ∙ r.fact; asked = r.asked; part = r.part; here = same.0 ∙ r.here }
    ]

offer_votes : (s : Group) (tx : Draw) (lock : Lock) (past : Past) (body : Body) → offer_for s.core body ≡ offer_for (Votes s tx lock past).core body
offer_votes s tx lock past At.Merge = refl
offer_votes s tx lock past _ = refl

watch_votes : (s : Group) (tx : Draw) (lock : Lock) (past : Past) (body : Body) (heard : Option Heard) → watch_for s.core body heard ≡ watch_for (Votes s tx lock past).core body heard
watch_votes s tx lock past At.Merge None = refl
watch_votes s tx lock past At.Merge (Some heard) = refl
watch_votes s tx lock past (At.Repart at) heard = refl
watch_votes s tx lock past (At.Migrate node) heard = refl
watch_votes s tx lock past (At.Split at child) heard = refl

yes_no : (f : Frozen) (why : No) → Some (Ballot.No why) ≡ Some (Ballot.Yes f) → ⊥
yes_no f why e = cc

pub no_facts : (gs : Groups) (ys : Stories) (owner : Draw → Option Draw) (g : Draw) (s : Group) (tx : Draw) (y : Story) (offer : Offer) (why : No) → Facts owner gs ys → gs g ≡ Some s → has_voted s.core tx ≡ false
    → ys tx ≡ Some y → y.offer ≡ Some (unsigned offer) → offer.part ≡ g
    → Facts owner (put gs g (Some (Votes s tx s.core.lock (Cast.No why)))) (put ys tx (Some (record y { vote = Some (Ballot.No why) })))
no_facts gs ys owner g s tx y offer why f fact new there offered part =
    let s' = Votes s tx s.core.lock (Cast.No why) in
    let y' : Story = record y { vote = Some (Ballot.No why) } in
    let k = f.story tx y there in
    let none = unheard gs owner tx y offer s k offered (ap gs part ∙ fact) new y.vote refl in
    let at_part = at-is gs g (Some s') offer.part part in
    let ok = f.group g s fact in
    facts_reported gs ys owner g s s' tx y y' f fact there (λ h b. b)
    (record { named = ok.named; lock_ok = lock_story ys g s s' tx y y' there (refl, refl, refl, refl, refl, refl) (λ h q. absurd (some_none (Ballot.Yes h) (sym q ∙ none))) (refl, refl, offer_votes s tx s.core.lock (Cast.No why), watch_votes s tx s.core.lock (Cast.No why), refl) s.core.lock ok.lock_ok })
    (vote_grown g y (Ballot.No why) none)
    (λ t ne. same_calm t s s' refl refl (λ n. n) (voted_keeps s tx s.core.lock (Cast.No why) t))
    (record {
      named = k.named;
      known = keep_known gs g s s' tx y fact (λ n. n) (λ r. r) k.known;
      there = keep_there gs g s' y.coordinator k.there;
      voter = λ v e. record { offer = unsigned offer; offered = offered; group = s'; fact = at_part; voted = voted_now s tx s.core.lock (Cast.No why) };
      watcher = λ v e. keep_watcher gs g s s' tx y.watch fact (voted_keeps s tx s.core.lock (Cast.No why) tx) (k.watcher v e);
      earned = λ o q na. (let r = (k.earned o q na).0 (unsigned offer) offered in absurd (some_none (Ballot.Yes r.0) (sym r.1 ∙ none)));
      frozen = λ o h e. absurd (yes_no h why e);
      agreed = λ o v. (let r = keep_agreed gs g s s' tx y fact (λ watch e. refl) (k.agreed o v) in record { watch = r.watch; asked = r.asked; group = r.group; fact = r.fact; lock = r.lock });
      unborn = λ place child b o. keep_none gs g s s' tx fact (k.unborn place child b o);
    })

-- ---- the watcher's votes

past_grown : (g : Draw) (y : Story) (p : Past) → IsGrown g y (record y { watch_vote = Some p })
past_grown g y p = record { offer = refl; votes = λ f q. q; watch = λ w e. e; coordinator = λ h ne e. (e, refl, refl, refl, refl, λ f q. q) }

pub not_passed : (gs : Groups) (g : Draw) (s : Group) (tx : Draw) (y : Story) (watch : Watch) → gs g ≡ Some s → has_voted s.core tx ≡ false → y.watch ≡ Some (unsigned_watch watch) → watch.part ≡ g → IsWatcher gs tx y.watch → ⊥
not_passed gs g s tx y watch fact new asked part r =
    let o : unsigned_watch watch ≡ r.watch = same_Some (unsigned_watch watch) r.watch (sym asked ∙ r.is_asked) in
    both_ways (has_voted s.core tx) new (subst (λ (b : Group). has_voted b.core tx ≡ true) (same_Some r.group s (sym r.fact ∙ ap (λ (x : Watch). gs x.part) (sym o) ∙ ap gs part ∙ fact)) r.voted)

pub agree_facts : (gs : Groups) (ys : Stories) (owner : Draw → Option Draw) (g : Draw) (s : Group) (tx : Draw) (y : Story) (watch : Watch) → Facts owner gs ys → gs g ≡ Some s → s.core.lock ≡ Free → s.core.gone ≡ None
    → ys tx ≡ Some y → y.watch ≡ Some (unsigned_watch watch) → watch.part ≡ g
    → Facts owner (put gs g (Some (Votes s tx (Watching tx watch) Cast.Yes))) (put ys tx (Some (record y { watch_vote = Some Cast.Yes })))
agree_facts gs ys owner g s tx y watch f fact free here there asked part =
    let s' = Votes s tx (Watching tx watch) Cast.Yes in
    let y' : Story = record y { watch_vote = Some Cast.Yes } in
    let k = f.story tx y there in
    facts_reported gs ys owner g s s' tx y y' f fact there (λ h b. b)
    (record { named = (f.group g s fact).named; lock_ok = record { story = y'; fact = at-same ys tx (Some y'); asked = asked; part = part; here = here } })
    (past_grown g y Cast.Yes)
    (λ t ne. free_calm t s s' free (λ n. n) (voted_keeps s tx (Watching tx watch) Cast.Yes t))
    (record {
      named = k.named;
      known = keep_known gs g s s' tx y fact (λ n. n) (λ r. absurd (no_coord s.core.lock tx y.body r.0 r.1 free r.2)) k.known;
      there = keep_there gs g s' y.coordinator k.there;
      voter = λ v e. (let r = keep_voter gs g s s' tx y fact (voted_keeps s tx (Watching tx watch) Cast.Yes tx) (k.voter v e) in record { offer = r.offer; offered = r.offered; group = r.group; fact = r.fact; voted = r.voted });
      watcher = λ v e. record { watch = unsigned_watch watch; is_asked = asked; group = s'; fact = at-is gs g (Some s') watch.part part; voted = voted_now s tx (Watching tx watch) Cast.Yes };
      earned = λ o q na. ((k.earned o q na).0, λ w e. refl);
      frozen = λ o h e. (let r = keep_frozen gs g s s' tx y h fact (λ offer q. absurd (no_promise s.core.lock tx offer free q)) (k.frozen o h e) in
          record { offer = r.offer; offered = r.offered; group = r.group; fact = r.fact; lock = r.lock; same = r.same });
      agreed = λ o v. record { watch = watch; asked = asked; group = s'; fact = at-is gs g (Some s') watch.part part; lock = refl };
      unborn = λ place child b o. keep_none gs g s s' tx fact (k.unborn place child b o);
    })

not_agreed : (why : No) → Some (Cast.No why) ≡ Some Cast.Yes → ⊥
not_agreed why e = cc

pub deny_facts : (gs : Groups) (ys : Stories) (owner : Draw → Option Draw) (g : Draw) (s : Group) (tx : Draw) (y : Story) (watch : Watch) (why : No) → Facts owner gs ys → gs g ≡ Some s → has_voted s.core tx ≡ false
    → ys tx ≡ Some y → y.watch ≡ Some (unsigned_watch watch) → watch.part ≡ g
    → Facts owner (put gs g (Some (Votes s tx s.core.lock (Cast.No why)))) (put ys tx (Some (record y { watch_vote = Some (Cast.No why) })))
deny_facts gs ys owner g s tx y watch why f fact new there asked part =
    let s' = Votes s tx s.core.lock (Cast.No why) in
    let y' : Story = record y { watch_vote = Some (Cast.No why) } in
    let k = f.story tx y there in
    let ok = f.group g s fact in
    facts_reported gs ys owner g s s' tx y y' f fact there (λ h b. b)
    (record { named = ok.named; lock_ok = lock_story ys g s s' tx y y' there (refl, refl, refl, refl, refl, refl) (λ h q. q) (refl, refl, offer_votes s tx s.core.lock (Cast.No why), watch_votes s tx s.core.lock (Cast.No why), refl) s.core.lock ok.lock_ok })
    (past_grown g y (Cast.No why))
    (λ t ne. same_calm t s s' refl refl (λ n. n) (voted_keeps s tx s.core.lock (Cast.No why) t))
    (record {
      named = k.named;
      known = keep_known gs g s s' tx y fact (λ n. n) (λ r. r) k.known;
      there = keep_there gs g s' y.coordinator k.there;
      voter = λ v e. (let r = keep_voter gs g s s' tx y fact (voted_keeps s tx s.core.lock (Cast.No why) tx) (k.voter v e) in record { offer = r.offer; offered = r.offered; group = r.group; fact = r.fact; voted = r.voted });
      watcher = λ v e. record { watch = unsigned_watch watch; is_asked = asked; group = s'; fact = at-is gs g (Some s') watch.part part; voted = voted_now s tx s.core.lock (Cast.No why) };
      earned = λ o q na. absurd (not_passed gs g s tx y watch fact new asked part (k.watcher Cast.Yes ((k.earned o q na).1 (unsigned_watch watch) asked)));
      frozen = λ o h e. (let r = keep_frozen gs g s s' tx y h fact (λ offer q. (refl, refl)) (k.frozen o h e) in
          record { offer = r.offer; offered = r.offered; group = r.group; fact = r.fact; lock = r.lock; same = r.same });
      agreed = λ o v. absurd (not_agreed why v);
      unborn = λ place child b o. keep_none gs g s s' tx fact (k.unborn place child b o);
    })

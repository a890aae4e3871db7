-- What is heard, decided and ended keeps the facts; so does a child that is created.
use Rattle.std.proofs.Common.{◌≡◌, ℕ, true, false, inl, inr, Option, Some, None, refl, sym, ◌∙◌, ap, subst}
use Rattle.std.proofs.lemmas.Bool.{both_ways}
use Rattle.std.proofs.lemmas.Option.{same_Some}
use Rattle.sc_base.specs.Definitions.{same_draw}
use Rattle.sc_base.specs.declared.names.Draw.{Draw}
use Rattle.sc_base.proofs.Lemmas.{draw_is}
use Rattle.sc_words.specs.declared.commands.bodies.Body.{Body}
use Rattle.sc_words.specs.declared.commands.bodies.Body.TheVariants as At
use Rattle.sc_words.specs.declared.commands.bodies.Offer.{Offer}
use Rattle.sc_words.specs.declared.commands.cores.Lock.{Lock}
use Rattle.sc_words.specs.declared.commands.cores.Lock.TheVariants.{Free, Coordinating, Promised}
use Rattle.sc_words.specs.declared.commands.votes.Heard.{Heard}
use Rattle.sc_words.specs.declared.commands.votes.Outcome.{Outcome}
use Rattle.sc_words.specs.declared.commands.votes.Outcome.TheVariants.{Abort}
use Rattle.sc_words.specs.declared.commands.votes.Vote.TheVariants as Ballot
use Rattle.sc_group_table.specs.machine.MachineDefinitions.{Group, heard_group}
use Rattle.sc_law_entries.specs.ring.RingDefinitions.{Story, Stories, put, merge_watch, unsigned_watch, Groups, has_decided, has_born, IsCoordinating, LockOk, IsEarned, Origin, Facts}
use Rattle.sc_meaning.proofs.EntriesProofs.EntryLemmas.{draw_cases}
use Rattle.sc_law_entries.proofs.RingProofs.Cover.{at-same, at-is, at-other, from_at}
use Rattle.sc_law_entries.proofs.RingProofs.Facts.{IsOf, keep_known, keep_there, keep_voter, keep_watcher, keep_frozen, keep_none, facts_quiet, facts_reported, StayBorn, StayVoted, SameDecided}
use Rattle.sc_law_entries.proofs.RingProofs.EntryKinds.{other_calm, no_coord}
use Rattle.sc_law_entries.proofs.RingProofs.Finds.{some_none}

pub own_story : (gs : Groups) (ys : Stories) (owner : Draw → Option Draw) (g : Draw) (s : Group) (tx : Draw) (body : Body) (order : ℕ) (heard : Option Heard) → Facts owner gs ys → gs g ≡ Some s → s.core.lock ≡ Coordinating tx body order heard → IsCoordinating ys g s tx body heard
own_story gs ys owner g s tx body order heard f fact lock = subst (LockOk ys g s) lock (f.group g s fact).lock_ok

is_of : (l : Lock) (tx : Draw) (body : Body) (order : ℕ) (heard : Option Heard) → l ≡ Coordinating tx body order heard → IsOf l tx
is_of l tx body order heard e = subst (λ k. IsOf k tx) (sym e) refl

pub same_lock : (l : Lock) (t tx : Draw) (body : Body) (order : ℕ) (heard : Option Heard) → l ≡ Coordinating t body order heard → same_draw t tx ≡ true → l ≡ Coordinating tx body order heard
same_lock l t tx body order heard e q = e ∙ ap (λ n. Coordinating n body order heard) (draw_is t tx q)

promised_not : (l : Lock) (tx : Draw) (body : Body) (order : ℕ) (heard : Option Heard) (t : Draw) (offer : Offer) → l ≡ Coordinating tx body order heard → l ≡ Promised t offer → ⊥
promised_not l tx body order heard t offer a b = let e = sym a ∙ b in cc

-- ---- a Merge hears its participant

pub hear_facts : (gs : Groups) (ys : Stories) (owner : Draw → Option Draw) (g : Draw) (s : Group) (tx : Draw) (order : ℕ) (y : Story) (h : Heard) → Facts owner gs ys → gs g ≡ Some s → s.core.lock ≡ Coordinating tx At.Merge order None
    → ys tx ≡ Some y → y.vote ≡ Some (Ballot.Yes h.frozen) → (h.frozen.succ.group ≡ g → ⊥)
    → Facts owner (put gs g (Some (heard_group s tx At.Merge order h))) (put ys tx (Some (record y { watch = merge_watch s.core (Some h) })))
hear_facts gs ys owner g s tx order y h f fact lock there vote foreign =
    let s' = heard_group s tx At.Merge order h in
    let y' : Story = record y { watch = merge_watch s.core (Some h) } in
    let k = f.story tx y there in
    let own = own_story gs ys owner g s tx At.Merge order None f fact lock in
    let y_is = same_Some own.story y (sym own.fact ∙ there) in
    let coord : y.coordinator ≡ g = sym (ap (λ (z : Story). z.coordinator) y_is) ∙ own.coordinator in
    let body : y.body ≡ At.Merge = sym (ap (λ (z : Story). z.body) y_is) ∙ own.same_body in
    let unasked : y.watch ≡ None = sym (ap (λ (z : Story). z.watch) y_is) ∙ own.watch in
    let undecided : y.outcome ≡ None = sym (ap (λ (z : Story). z.outcome) y_is) ∙ own.undecided in
    facts_reported gs ys owner g s s' tx y y' f fact there (λ n b. b)
    (record {
      named = (f.group g s fact).named;
      lock_ok = record {
        story = y';
        fact = at-same ys tx (Some y');
        coordinator = coord;
        same_body = body;
        undecided = undecided;
        here = own.here;
        standing = own.standing ∙ ap (λ (z : Story). z.standing) y_is;
        offer = sym (ap (λ (z : Story). z.offer) y_is) ∙ own.offer;
        watch = refl;
        heard_vote = λ a e. (let q = same_Some h a e in (vote ∙ ap (λ (x : Heard). Some (Ballot.Yes x.frozen)) q, subst (λ (x : Heard). x.frozen.succ.group ≡ g → ⊥) q foreign));
        apart = own.apart;
        own = tt;
      };
    })
    (record { offer = refl; votes = λ a q. q; watch = λ w e. absurd (some_none w (sym e ∙ unasked)); coordinator = λ n ne e. absurd (ne (sym e ∙ coord)) })
    (λ t ne. other_calm t tx s s' (is_of s.core.lock tx At.Merge order None lock) ne (λ n. n) (λ n. n))
    (record {
      named = k.named;
      known = keep_known gs g s s' tx y fact (λ n. n) (λ r. (order, Some h, ap (λ b. Coordinating tx b order (Some h)) (sym body))) k.known;
      there = keep_there gs g s' y.coordinator k.there;
      voter = λ v e. (let r = keep_voter gs g s s' tx y fact (λ n. n) (k.voter v e) in record { offer = r.offer; offered = r.offered; group = r.group; fact = r.fact; voted = r.voted });
      watcher = λ v e. (let r = k.watcher v e in absurd (some_none r.watch (sym r.is_asked ∙ unasked)));
      earned = λ o q. absurd (some_none o (sym q ∙ undecided));
      frozen = λ o a e. (let r = keep_frozen gs g s s' tx y a fact (λ offer q. absurd (promised_not s.core.lock tx At.Merge order None tx offer lock q)) (k.frozen o a e) in
          record { offer = r.offer; offered = r.offered; group = r.group; fact = r.fact; lock = r.lock; same = r.same });
      agreed = λ o v. (let r = k.agreed o v in absurd (some_none (unsigned_watch r.watch) (sym r.asked ∙ unasked)));
      unborn = λ place child b o. keep_none gs g s s' tx fact (k.unborn place child b o);
    })

-- ---- a decision

-- what a decision leaves of a coordinator
pub record IsDecision (tx : Draw) (s s' : Group) : Type 0 where
  pub id : s'.core.id ≡ s.core.id
  pub free : s'.core.lock ≡ Free
  pub noted : has_decided s'.core tx ≡ true
  pub decided : (t : Draw) → has_decided s'.core t ≡ false → has_decided s.core t ≡ false
  pub voted : StayVoted s s'
  pub born : StayBorn s s'

pub decide_facts : (gs : Groups) (ys : Stories) (owner : Draw → Option Draw) (g : Draw) (s s' : Group) (tx : Draw) (body : Body) (order : ℕ) (heard : Option Heard) (y : Story) (o : Outcome)
    → Facts owner gs ys → gs g ≡ Some s → s.core.lock ≡ Coordinating tx body order heard → ys tx ≡ Some y → IsDecision tx s s' → ((o ≡ Abort → ⊥) → IsEarned y)
    → Facts owner (put gs g (Some s')) (put ys tx (Some (record y { outcome = Some o })))
decide_facts gs ys owner g s s' tx body order heard y o f fact lock there d earned =
    let y' : Story = record y { outcome = Some o } in
    let k = f.story tx y there in
    let own = own_story gs ys owner g s tx body order heard f fact lock in
    let y_is = same_Some own.story y (sym own.fact ∙ there) in
    let coord : y.coordinator ≡ g = sym (ap (λ (z : Story). z.coordinator) y_is) ∙ own.coordinator in
    facts_reported gs ys owner g s s' tx y y' f fact there d.born
    (record { named = d.id ∙ (f.group g s fact).named; lock_ok = subst (LockOk (put ys tx (Some y')) g s') (sym d.free) tt })
    (record { offer = refl; votes = λ a q. q; watch = λ w e. e; coordinator = λ n ne e. absurd (ne (sym e ∙ coord)) })
    (λ t ne. other_calm t tx s s' (is_of s.core.lock tx body order heard lock) ne (d.decided t) (d.voted t))
    (record {
      named = k.named;
      known = λ u e n. absurd (both_ways (has_decided s'.core tx) (subst (λ (b : Group). has_decided b.core tx ≡ false) (sym (same_Some s' u (sym (at-is gs g (Some s') y.coordinator coord) ∙ e))) n) d.noted);
      there = keep_there gs g s' y.coordinator k.there;
      voter = λ v e. (let r = keep_voter gs g s s' tx y fact (d.voted tx) (k.voter v e) in record { offer = r.offer; offered = r.offered; group = r.group; fact = r.fact; voted = r.voted });
      watcher = λ v e. keep_watcher gs g s s' tx y.watch fact (d.voted tx) (k.watcher v e);
      earned = λ p q na. (let e = same_Some o p q in earned (λ a. na (sym e ∙ a)));
      frozen = λ a. absurd (some_none o a);
      agreed = λ a. absurd (some_none o a);
      unborn = λ place child b a. absurd (some_none o a);
    })

-- ---- the end of a participant or a watcher

-- what an end leaves of a party
pub record IsEnd (s s' : Group) : Type 0 where
  pub id : s'.core.id ≡ s.core.id
  pub free : s'.core.lock ≡ Free
  pub decided : SameDecided s s'
  pub voted : StayVoted s s'
  pub born : StayBorn s s'

pub finish_facts : (gs : Groups) (ys : Stories) (owner : Draw → Option Draw) (g : Draw) (s s' : Group) (tx : Draw) (y : Story) (o : Outcome) → Facts owner gs ys → gs g ≡ Some s → IsOf s.core.lock tx
    → ((body : Body) (order : ℕ) (heard : Option Heard) → s.core.lock ≡ Coordinating tx body order heard → ⊥) → ys tx ≡ Some y → y.outcome ≡ Some o → IsEnd s s'
    → Facts owner (put gs g (Some s')) ys
finish_facts gs ys owner g s s' tx y o f fact of other there decided d =
    facts_quiet gs ys owner g s s' f fact d.born
    (record { named = d.id ∙ (f.group g s fact).named; lock_ok = subst (LockOk ys g s') (sym d.free) tt })
    (λ t z e. elim (draw_cases t tx) [
      | inr ne ↦ inl (other_calm t tx s s' of ne (λ n. sym (d.decided t) ∙ n) (d.voted t))
      | inl q ↦ (
          let k = f.story t z e in
          let z_is = same_Some y z (sym there ∙ ap ys (sym q) ∙ e) in
          let out : z.outcome ≡ Some o = sym (ap (λ (x : Story). x.outcome) z_is) ∙ decided in
          inr (record {
            named = k.named;
            known = keep_known gs g s s' t z fact (λ n. sym (d.decided t) ∙ n) (λ r. absurd (other z.body r.0 r.1 (r.2 ∙ ap (λ n. Coordinating n z.body r.0 r.1) q))) k.known;
            there = keep_there gs g s' z.coordinator k.there;
            voter = λ v a. keep_voter gs g s s' t z fact (d.voted t) (k.voter v a);
            watcher = λ v a. keep_watcher gs g s s' t z.watch fact (d.voted t) (k.watcher v a);
            earned = k.earned;
            frozen = λ a. absurd (some_none o (sym out ∙ a));
            agreed = λ a. absurd (some_none o (sym out ∙ a));
            unborn = λ place child b a. absurd (some_none o (sym out ∙ a));
          }))
    ])

-- ---- a child is created

pub born_facts : (gs : Groups) (ys : Stories) (owner : Draw → Option Draw) (g child : Draw) (t b : Group) → Facts owner gs ys → gs child ≡ None → b.core.lock ≡ Free → b.core.id ≡ child
    → owner child ≡ Some g → gs g ≡ Some t → has_born t.core child ≡ true → ((y : Story) (place : ℕ) (c : Draw) → ys child ≡ Some y → y.body ≡ At.Split place c → y.outcome ≡ None → ⊥)
    → Facts owner (put gs child (Some b)) ys
born_facts gs ys owner g child t b f none free id mine there born closed =
    let old : (h : Draw) (u : Group) → gs h ≡ Some u → put gs child (Some b) h ≡ Some u = λ h u e. at-other gs child (Some b) h (λ q. some_none u (sym e ∙ ap gs q ∙ none)) ∙ e in
    let kept : (h : Draw) → Origin owner gs h → Origin owner (put gs child (Some b)) h = λ h o. elim o [ inl e ↦ inl e | inr r ↦ inr (r.0, r.1, r.2, old r.0 r.1 r.3, r.4) ] in
    record {
      group = λ h u e. elim (from_at gs child (Some b) h (Some u) e) [
        | inl m ↦ (
            let u_is = same_Some b u m.1 in
            record { named = sym (ap (λ (x : Group). x.core.id) u_is) ∙ id ∙ sym m.0; lock_ok = subst (LockOk ys h u) (sym free ∙ ap (λ (x : Group). x.core.lock) u_is) tt })
        | inr m ↦ f.group h u m.1
      ];
      story = λ tx y e. (let k = f.story tx y e in record {
        named = k.named;
        known = λ u q n. elim (from_at gs child (Some b) y.coordinator (Some u) q) [ inl m ↦ absurd (some_none k.there.0 (sym k.there.1 ∙ ap gs m.0 ∙ none)) | inr m ↦ k.known u m.1 n ];
        there = (k.there.0, old y.coordinator k.there.0 k.there.1);
        voter = λ v q. (let r = k.voter v q in record { offer = r.offer; offered = r.offered; group = r.group; fact = old r.offer.part r.group r.fact; voted = r.voted });
        watcher = λ v q. (let r = k.watcher v q in record { watch = r.watch; is_asked = r.is_asked; group = r.group; fact = old r.watch.part r.group r.fact; voted = r.voted });
        earned = k.earned;
        frozen = λ o h q. (let r = k.frozen o h q in record { offer = r.offer; offered = r.offered; group = r.group; fact = old r.offer.part r.group r.fact; lock = r.lock; same = r.same });
        agreed = λ o q. (let r = k.agreed o q in record { watch = r.watch; asked = r.asked; group = r.group; fact = old r.watch.part r.group r.fact; lock = r.lock });
        unborn = λ place c q o. at-other gs child (Some b) tx (λ w. closed y place c (ap ys (sym w) ∙ e) q o) ∙ k.unborn place c q o;
      });
      origin = λ h u e. elim (from_at gs child (Some b) h (Some u) e) [
        | inl m ↦ inr (g, t, ap owner m.0 ∙ mine, old g t there, ap (has_born t.core) m.0 ∙ born)
        | inr m ↦ kept h (f.origin h u m.1)
      ];
    }

-- ---- a draw of the group that it has not used

-- a draw that a free group owns and has not decided has no story
pub draw_new : (gs : Groups) (ys : Stories) (owner : Draw → Option Draw) (g d : Draw) (s : Group) → Facts owner gs ys → owner d ≡ Some g → gs g ≡ Some s → s.core.lock ≡ Free → has_decided s.core d ≡ false → (o : Option Story) → ys d ≡ o → ys d ≡ None
draw_new gs ys owner g d s f mine fact free dec None e = e
draw_new gs ys owner g d s f mine fact free dec (Some y) e =
    let k = f.story d y e in
    let c = same_Some y.coordinator g (sym k.named ∙ mine) in
    let r = k.known s (ap gs c ∙ fact) dec in
    absurd (no_coord s.core.lock d y.body r.0 r.1 free r.2)

-- one that it owns and has not split off names no group
pub group_none : (gs : Groups) (ys : Stories) (owner : Draw → Option Draw) (g d : Draw) (s : Group) → Facts owner gs ys → owner d ≡ Some g → gs g ≡ Some s → has_born s.core d ≡ false → (o : Option Group) → gs d ≡ o → gs d ≡ None
group_none gs ys owner g d s f mine fact born None e = e
group_none gs ys owner g d s f mine fact born (Some u) e =
    elim (f.origin d u e) [
      | inl first ↦ absurd (some_none g (sym mine ∙ first))
      | inr r ↦ (
          let c = same_Some r.0 g (sym r.2 ∙ mine) in
          absurd (both_ways (has_born s.core d) born (subst (λ (b : Group). has_born b.core d ≡ true) (same_Some r.1 s (sym r.3 ∙ ap gs c ∙ fact)) r.4)))
    ]

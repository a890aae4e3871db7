-- An entry that is allowed may be applied: what the law of histories asks of a world holds of one that allowed entries made.
use Rattle.std.specs.Prelude.{not, ◌&&◌, ◌||◌}
use Rattle.std.specs.Option.{option_map}
use Rattle.std.proofs.Common.{◌≡◌, ℕ, ◌^◌, ◌<◌, Bool, true, false, cond, List, [], ◌∷◌, inl, inr, Option, Some, None, refl, sym, ◌∙◌, ap, subst}
use Rattle.std.proofs.lemmas.Bool.{cases_Bool, or_parts}
use Rattle.sc_base.specs.declared.names.Draw.{Draw}
use Rattle.sc_base.specs.declared.ops.Op.{Op}
use Rattle.sc_base.proofs.Lemmas.{draw_is}
use Rattle.sc_words.specs.ideal.IdealDefinitions.{key_of}
use Rattle.sc_words.specs.declared.commands.bodies.Body.{Body}
use Rattle.sc_words.specs.declared.commands.bodies.Body.TheVariants as At
use Rattle.sc_words.specs.declared.commands.bodies.Offer.{Offer}
use Rattle.sc_words.specs.declared.commands.commands.Command.{Command}
use Rattle.sc_words.specs.declared.commands.commands.Command.TheVariants.{Call, Split, Prepared, RecordVote, GiveUp, Finish, RecordWatch}
use Rattle.sc_words.specs.declared.commands.cores.Core.{Core}
use Rattle.sc_words.specs.declared.commands.cores.Lock.{Lock}
use Rattle.sc_words.specs.declared.commands.cores.Lock.TheVariants.{Free, Coordinating, Promised, Watching}
use Rattle.sc_words.specs.declared.commands.votes.Frozen.{Frozen}
use Rattle.sc_words.specs.declared.commands.votes.Gift.{Gift}
use Rattle.sc_words.specs.declared.commands.votes.Heard.{Heard}
use Rattle.sc_words.specs.declared.commands.votes.Outcome.{Outcome}
use Rattle.sc_words.specs.declared.commands.votes.Outcome.TheVariants.{Abort, Moved, Divided}
use Rattle.sc_words.specs.declared.commands.votes.Past.{Past}
use Rattle.sc_words.specs.declared.commands.votes.Vote.{Vote}
use Rattle.sc_words.specs.declared.commands.votes.Vote.TheVariants as Ballot
use Rattle.sc_group_table.specs.machine.MachineDefinitions.{Group, can_gain, gained_group, settled_in, party_freed, watcher_after, locked_in, has_key_of, is_locked_in, is_coordinating, has_voted}
use Rattle.sc_meaning.specs.declared.entries.LogEntry.{LogEntry}
use Rattle.sc_meaning.specs.declared.entries.Transaction.{Transaction}
use Rattle.sc_meaning.specs.entries.EntryDefinitions.{decision, transaction_in, after_outcome, is_commit, arc_in, is_named, named_group}
use Rattle.sc_law_entries.specs.ring.RingDefinitions.{Sources, IsVoteCast, IsAllowed, AreAllowed, StoryWorld, recorded_next, Story, Stories, unsigned, offer_for, offer_with, Groups, has_born, has_decided, IsCoordinating, LockOk}
use Rattle.sc_law_entries.proofs.RingProofs.RingLemmas.{IsDeciding, own_is, mine_old, part_eff, promise_settled, apart_of, arcs_in, arc_of_cut, decisions, outcome_of, living, eff, arc_of, succ_of, view_of, Old, eff_by, eff_free, living_is, own_story, group_none, room_of, IsPair, pair_meets, Ends, unheard, sound_world, lock_free, watch_settled, groups_in, brief, story_brief, decision_is, KeptWorld, kept_on, some_none}
use Rattle.sc_words.proofs.PaxosProofs.PaxosLemmas.{find_found}
use Rattle.sc_meaning.proofs.EntriesProofs.EntryLemmas.{found_name}
use Rattle.sc_law_entries.specs.history.HistoryDefinitions.{HasCut, IsUncommitted, MayCall, MaySplit, IsItsOwn, IsParty, MayHear, MayHearWatcher, MayFinish, MayExecute, AllMayBeApplied}
use Rattle.std.proofs.lemmas.Option.{none-some, same_Some}

-- what a lock that coordinates a transaction is
coordinating : (l : Lock) (tx : Draw) → is_coordinating l tx ≡ true → (body : Body) × (order : ℕ) × (heard : Option Heard) × (l ≡ Coordinating tx body order heard)
coordinating Free tx e = absurd (let f : false ≡ true = e in cc)
coordinating (Coordinating t body order heard) tx e = (body, order, heard, ap (λ n. Coordinating n body order heard) (draw_is t tx e))
coordinating (Promised t offer) tx e = absurd (let f : false ≡ true = e in cc)
coordinating (Watching t watch) tx e = absurd (let f : false ≡ true = e in cc)

-- an offer of a transaction that has one
offer_some : (core : Core) (body : Body) (o : Offer) → offer_for core body ≡ Some o → offer_for core body ≡ Some (offer_with core body)
offer_some core At.Merge o e = refl
offer_some core (At.Repart at) o e = refl
offer_some core (At.Migrate node) o e = refl
offer_some core (At.Split at child) o e = absurd (none-some o e)

brief_some : (o : Option Transaction) (b : Draw × Option Outcome) → option_map brief o ≡ Some b → (t : Transaction) × (o ≡ Some t) × (brief t ≡ b)
brief_some None b e = absurd (none-some b e)
brief_some (Some t) b e = (t, refl, same_Some (brief t) b e)

abort_false : (o : Outcome) → is_commit o ≡ true → o ≡ Abort → ⊥
abort_false o c e = absurd (let f : true ≡ false = sym c ∙ ap is_commit e in cc)

module _ (sources : Sources) (w : StoryWorld) (k : KeptWorld sources.owner w) (g : Draw) (s : Group) (fact : named_group g w.store.groups ≡ Some s) where
  abbrev gs : Groups
  gs = groups_in w.store.groups

  abbrev ys : Stories
  ys = w.stories

  named : s.core.id ≡ g
  named = found_name g w.store.groups s fact

  cut_by : (name : Draw) (e : Group) → Old gs ys name ≡ Some e → HasCut w.store name
  cut_by name e old = (e.core.arc, k.kept.1.2 name ∙ ap arc_of old)

  -- of this group
  mine_cut : (e : Group) → Old gs ys g ≡ Some e → HasCut w.store s.core.id
  mine_cut e old = subst (HasCut w.store) (sym named) (cut_by g e old)

  outcome_sent : (tx : Draw) → decision tx w.store.transactions ≡ outcome_of (ys tx)
  outcome_sent tx = decision_is w.store.transactions ys k.recorded tx

  uncommitted : (tx : Draw) (y : Story) → ys tx ≡ Some y → ((o : Outcome) → y.outcome ≡ Some o → (o ≡ Abort → ⊥) → ⊥) → IsUncommitted w.store tx
  uncommitted tx y there never o e =
      elim (cases_Bool (is_commit o)) [
        | inl c ↦ absurd (never o (sym (ap outcome_of there) ∙ sym (outcome_sent tx) ∙ e) (abort_false o c))
        | inr c ↦ c
      ]

  -- ---- calls and splits

  may_call : (client seq : ℕ) (op : Op) → op ≡ sources.request client seq → MayCall sources.request w.store s client seq op
  may_call client seq op a = record {
    asked = a;
    cut = λ h. (
        let c = (sound_world sources.owner w k).serves_apart s (find_found (is_named g) w.store.groups s fact).0 (key_of op) h in
        (c.0.arc, ap (arcs_in w.store.ring) (sym c.2) ∙ arc_of_cut w.store.ring k.apart c.0 c.1));
  }

  no_arc : (name : Draw) → gs name ≡ None → arc_in name w.store.ring ≡ None
  no_arc name none = k.kept.1.2 name ∙ ap (λ x. arc_of (eff (decisions ys) x)) none

  may_split : (at : ℕ) (child : Draw) → sources.owner child ≡ Some g → at < 2 ^ 32 → MaySplit w.store s at child
  may_split at child mine fits = record {
    fits = fits;
    fresh = λ alone here free unnamed. (
        let a = or_parts (has_born s.core child || has_decided s.core child) (is_locked_in (locked_in s.core.lock) child) unnamed in
        let b = or_parts (has_born s.core child) (has_decided s.core child) a.0 in
        let none = group_none gs ys sources.owner g child s k.kept.0 mine fact b.0 (gs child) refl in
        record {
          cut = mine_cut s (ap (eff (decisions ys)) fact ∙ eff_free (decisions ys) s here (lock_free s.core.lock free));
          unborn = none;
          uncut = no_arc child none;
        });
  }

  -- ---- coordinators

  own : (tx : Draw) (body : Body) (order : ℕ) (heard : Option Heard) → s.core.lock ≡ Coordinating tx body order heard → IsCoordinating ys g s tx body heard
  own tx body order heard lock = own_story gs ys sources.owner g s tx body order heard k.kept.0 fact lock

  its_own : (tx : Draw) (body : Body) (order : ℕ) (heard : Option Heard) → s.core.lock ≡ Coordinating tx body order heard → IsItsOwn w.store s tx
  its_own tx body order heard lock =
      let o = own tx body order heard lock in
      let t = brief_some (transaction_in tx w.store.transactions) (story_brief o.story) (k.recorded tx ∙ ap (option_map story_brief) o.fact) in
      record {
        transaction = t.0;
        fact = t.1;
        coordinator = ap (λ (x : Draw × Option Outcome). x.0) t.2 ∙ o.coordinator ∙ sym named;
        uncommitted = uncommitted tx o.story o.fact (λ x e na. some_none x (sym e ∙ o.undecided));
      }

  own_if : (tx : Draw) → is_coordinating s.core.lock tx ≡ true → IsItsOwn w.store s tx
  own_if tx e = let c = coordinating s.core.lock tx e in its_own tx c.0 c.1 c.2 c.3

  deciding : (tx : Draw) (body : Body) (order : ℕ) (heard : Option Heard) → (lock : s.core.lock ≡ Coordinating tx body order heard) → IsDeciding sources.owner gs ys g s tx body heard (own tx body order heard lock).story
  deciding tx body order heard lock = record { facts = k.kept.0; fact = fact; order = order; lock = lock; there = (own tx body order heard lock).fact }

  party : (tx : Draw) (body : Body) (heard : Option Heard) (y : Story) → IsDeciding sources.owner gs ys g s tx body heard y → (fz : Frozen) → y.vote ≡ Some (Ballot.Yes fz) → IsParty w.store s tx fz
  party tx body heard y d fz vote =
      let o = own_is sources.owner gs ys g s tx body heard y d in
      let r = (k.kept.0.story tx y d.there).frozen o.undecided fz vote in
      let has = offer_some s.core body (unsigned r.offer) (sym o.offer ∙ r.offered) in
      let same = same_Some (offer_with s.core body) (unsigned r.offer) (sym has ∙ sym o.offer ∙ r.offered) in
      let line : s.core.succ.group ≡ r.offer.part = ap (λ (z : Offer). z.part) same in
      let ne : g ≡ r.offer.part → ⊥ = λ e. o.apart (line ∙ sym e) in
      let p = part_eff sources.owner gs ys g s tx body heard y d s (Ends y Divided) Divided fz r (λ e. ne (sym e)) refl refl in
      let mine = mine_old sources.owner gs ys g s tx body heard y d in
      let v = view_of (Old gs ys) in
      let whole = k.kept.1.0 in
      let pair : IsPair v g r.offer.part s.core.arc r.group.core.arc = record { first = ap arc_of mine; second = ap arc_of p.0; line = ap succ_of mine ∙ line; apart = ne } in
      let ok = whole.0.arcs g s.core.arc pair.first in
      let its = whole.0.arcs r.offer.part r.group.core.arc pair.second in
      let meet = pair_meets v g r.offer.part s.core.arc r.group.core.arc whole.1 pair in
      record {
        next = r.group;
        found = ap gs line ∙ r.fact;
        apart = λ q. o.apart (sym q ∙ named);
        handed = sym r.same;
        offer = r.offer;
        lock = r.lock;
        offered = sym (ap (λ (z : Offer). z.arc) same);
        only = λ name other offer there lock. (
            let u = subst (LockOk ys name other) lock (k.kept.0.group name other there).lock_ok in
            let story = same_Some u.story y (sym u.fact ∙ d.there) in
            let part = ap (λ (z : Offer). z.part) (same_Some (unsigned offer) (unsigned r.offer) (sym u.offered ∙ ap (λ (z : Story). z.offer) story ∙ r.offered)) in
            sym u.part ∙ part ∙ sym line);
        own_cut = mine_cut s mine;
        next_cut = subst (HasCut w.store) (sym line) (cut_by r.offer.part r.group p.0);
        meet = (meet, room_of s.core.arc r.group.core.arc ok its meet (apart_of (Old gs ys) g r.offer.part s r.group whole mine p.0 ne));
      }

  vote_is : (tx : Draw) (fz : Frozen) (y : Story) → ys tx ≡ Some y → (vote : Vote) → vote ≡ Ballot.Yes fz → IsVoteCast ys tx vote → y.vote ≡ Some (Ballot.Yes fz)
  vote_is tx fz y there vote e a =
      let h = subst (IsVoteCast ys tx) e a in
      ap (λ (z : Story). z.vote) (same_Some y h.0 (sym there ∙ h.1)) ∙ h.2

  may_hear : (tx : Draw) (vote : Vote) → IsVoteCast ys tx vote → MayHear w.store s tx vote
  may_hear tx vote a = record {
    own = own_if tx;
    party = λ e fz q. (
        let c = coordinating s.core.lock tx e in
        let d = deciding tx c.0 c.1 c.2 c.3 in
        party tx c.0 c.2 (own tx c.0 c.1 c.2 c.3).story d fz (vote_is tx fz (own tx c.0 c.1 c.2 c.3).story (own tx c.0 c.1 c.2 c.3).fact vote q a));
    fits = λ at order heard lock. (own tx (At.Repart at) order heard lock).own;
  }

  no_offer : (tx : Draw) (at : ℕ) (child : Draw) (order : ℕ) (heard : Option Heard) → s.core.lock ≡ Coordinating tx (At.Split at child) order heard
      → (name : Draw) (other : Group) (offer : Offer) → gs name ≡ Some other → other.core.lock ≡ Promised tx offer → ⊥
  no_offer tx at child order heard lock name other offer there locked =
      let o = own tx (At.Split at child) order heard lock in
      let u = subst (LockOk ys name other) locked (k.kept.0.group name other there).lock_ok in
      let story = same_Some u.story o.story (sym u.fact ∙ o.fact) in
      some_none (unsigned offer) (sym u.offered ∙ ap (λ (z : Story). z.offer) story ∙ o.offer)

  may_hear_watcher : (tx : Draw) (vote : Past) → MayHearWatcher w.store s tx vote
  may_hear_watcher tx vote = record {
    own = own_if tx;
    party = λ order heard lock q. (
        let o = own tx At.Merge order (Some heard) lock in
        party tx At.Merge (Some heard) o.story (deciding tx At.Merge order (Some heard) lock) heard.frozen (o.heard_vote heard refl).0);
    division = λ at child order heard lock q. (
        let o = own tx (At.Split at child) order heard lock in
        let d = deciding tx (At.Split at child) order heard lock in
        let none : gs child ≡ None = ap gs o.own.1 ∙ (k.kept.0.story tx o.story o.fact).unborn at child o.same_body o.undecided in
        (o.own.0, record { cut = mine_cut s (mine_old sources.owner gs ys g s tx (At.Split at child) heard o.story d); unborn = none; uncut = no_arc child none }, no_offer tx at child order heard lock));
  }

  may_give_up : (tx : Draw) → is_coordinating s.core.lock tx ≡ true → IsUncommitted w.store tx
  may_give_up tx e = (own_if tx e).uncommitted

  -- ---- participants

  may_vote : (tx : Draw) (offer : Offer) (y : Story) → ys tx ≡ Some y → y.offer ≡ Some (unsigned offer) → offer.part ≡ g → has_voted s.core tx ≡ false → IsUncommitted w.store tx
  may_vote tx offer y there offered part new =
      let story = k.kept.0.story tx y there in
      let none = unheard gs sources.owner tx y offer s story offered (ap gs part ∙ fact) new y.vote refl in
      uncommitted tx y there (λ o e na. (let r = (story.earned o e na).0 (unsigned offer) offered in some_none (Ballot.Yes r.0) (sym r.1 ∙ none)))

  gained_lives : (at : ℕ) (gift : Gift) (offer : Offer) (tx : Draw) → s.core.gone ≡ None → (b : Bool) → (e : Group) × (living (settled_in (cond b (Some (gained_group s offer at gift)) None) s tx (Moved at (Some gift))).0 ≡ Some e)
  gained_lives at gift offer tx here true = (party_freed (gained_group s offer at gift) tx, living_is (party_freed (gained_group s offer at gift) tx) here)
  gained_lives at gift offer tx here false = (s, living_is s here)

  finish_cut : (tx : Draw) (y : Story) (at : ℕ) (gift : Gift) → ys tx ≡ Some y → y.outcome ≡ Some (Moved at (Some gift)) → (l : Lock) → s.core.lock ≡ l → locked_in l ≡ Some tx → HasCut w.store s.core.id
  finish_cut tx y at gift there out Free lock e = absurd (none-some tx e)
  finish_cut tx y at gift there out (Coordinating t body order heard) lock e =
      let same = same_Some t tx e in
      let o = own tx body order heard (lock ∙ ap (λ n. Coordinating n body order heard) same) in
      absurd (some_none (Moved at (Some gift)) (sym out ∙ ap (λ (z : Story). z.outcome) (same_Some y o.story (sym there ∙ o.fact)) ∙ o.undecided))
  finish_cut tx y at gift there out (Promised t offer) lock e =
      let here_lock : s.core.lock ≡ Promised tx offer = lock ∙ ap (λ n. Promised n offer) (same_Some t tx e) in
      let u = subst (LockOk ys g s) here_lock (k.kept.0.group g s fact).lock_ok in
      let o : Outcome = Moved at (Some gift) in
      let lives = gained_lives at gift offer tx u.here (can_gain s.core offer at && not (has_key_of s.pairs gift.pairs)) in
      mine_cut lives.0 (ap (eff (decisions ys)) fact ∙ eff_by (decisions ys) s (Promised tx offer) here_lock ∙ ap (λ x. living (after_outcome x tx s)) (ap outcome_of there ∙ out)
      ∙ ap living (promise_settled o tx s offer refl here_lock) ∙ lives.1)
  finish_cut tx y at gift there out (Watching t watch) lock e =
      let here_lock : s.core.lock ≡ Watching tx watch = lock ∙ ap (λ n. Watching n watch) (same_Some t tx e) in
      let u = subst (LockOk ys g s) here_lock (k.kept.0.group g s fact).lock_ok in
      let o : Outcome = Moved at (Some gift) in
      let end = party_freed (watcher_after o s watch) tx in
      mine_cut end (ap (eff (decisions ys)) fact ∙ eff_by (decisions ys) s (Watching tx watch) here_lock ∙ ap (λ x. living (after_outcome x tx s)) (ap outcome_of there ∙ out)
      ∙ ap living (watch_settled o tx s watch refl here_lock) ∙ living_is end u.here)

  may_finish : (tx : Draw) (outcome : Outcome) (y : Story) → ys tx ≡ Some y → y.outcome ≡ Some outcome → MayFinish w.store s tx outcome
  may_finish tx outcome y there out = record {
    decided = λ e. outcome_sent tx ∙ ap outcome_of there ∙ out;
    cut = λ e at gift q. finish_cut tx y at gift there (out ∙ ap Some q) s.core.lock refl e;
  }

  -- ---- all

  pub may_execute : (command : Command) → IsAllowed sources ys g command → MayExecute sources.request w.store s command
  may_execute (Call client seq op) a = may_call client seq op a
  may_execute (Split at child order) a = may_split at child a.0 a.1
  may_execute (Prepared tx offer) a = may_vote tx offer a.0 a.1 a.2 a.3
  may_execute (RecordVote tx vote by) a = may_hear tx vote a
  may_execute (GiveUp tx) a = may_give_up tx
  may_execute (Finish tx outcome) a = may_finish tx outcome a.0 a.1 a.2
  may_execute (RecordWatch tx vote by) a = may_hear_watcher tx vote
  may_execute _ a = tt

-- each allowed entry may be applied when its turn comes
pub all_may_be_applied : (sources : Sources) (w : StoryWorld) (entries : List LogEntry) → KeptWorld sources.owner w → AreAllowed sources w entries → AllMayBeApplied sources.request w.store entries
all_may_be_applied sources w [] k a = tt
all_may_be_applied sources w (e ∷ es) k a = (
  λ s fact. may_execute sources w k e.group s fact e.command a.0,
  all_may_be_applied sources (recorded_next w e) es (kept_on sources w e k a.0) a.1,
)

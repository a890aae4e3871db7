-- The walk of a request that a leader holds: each row of mail leaves it held, or its client answered.
use Rattle.std.proofs.Common.{◌≡◌, ℕ, ◌+◌, ◌<◌, ◌≤◌, Bool, true, false, true≢false, List, [], ◌∷◌, ◌++◌, length, Option, Some, None, ◌⊎◌, inl, inr, refl, sym, ◌∙◌, ap, subst, arith}
use Rattle.std.proofs.lemmas.Bool.{cond_both, leb-false}
use Rattle.sc_base.specs.Definitions.{Among, Each, client_actor}
use Rattle.sc_node_table.specs.Values.{Ballot, Draw, Base, Core, Op, Reply, Command, Noop, Call, AnswerBody, Value, Mail, MailBody, Request, Answer, Accept, Learn, Flight}
use Rattle.sc_group_table.specs.machine.MachineDefinitions.{Group, applied}
use Rattle.sc_words.specs.paxos.PaxosDefinitions.{LeaderState, with_flight_at, without_flight, promise_counted, counted, below, with_voters, after_promise, after_accept}
use Rattle.sc_node_table.specs.NodeDefinitions.{ReplicaState, Place, next, jumped, with_slot, without_request, taken_at, sent, sent_all, ended, at_slot, without_slot, stopped, offered, entered, answer_of, answered_or_put_back, put_back, landed, hinted, forgotten, request_before, queued_number, slots_ahead}
use Rattle.sc_law_walks.proofs.Queues.{turned_sets}
use Rattle.sc_law_walks.proofs.WalkLemmas.{back_any, entered_me, entered_group, entered_next, cleared, entered_place, promise_flights}
use Rattle.sc_words.proofs.PaxosProofs.PaxosLemmas.{Each-among}
use Rattle.sc_live_plain.proofs.PlainRowsProofs.SlotCounts.{at_found, entries_at}
use Rattle.sc_live_plain.proofs.LeadersProofs.LeadingReplicas.{flights_at}
use Rattle.sc_live_plain.proofs.PlainRowsProofs.RepeatedMail.{mail_of, among_push, last_among, all_kept, others_kept}
use Rattle.sc_live_healed.specs.HealedDefinitions.{IsFixedCommand, IsFixedRequest}
use Rattle.sc_live_healed.proofs.FixedWalks.{FixedWalk}
use Rattle.sc_live_healed.proofs.FixedParts.{ready_fixed, never_turned, applied_core}
use Rattle.sc_live_healed.proofs.EnteredPlaces.{learnt_is, counted_is, learning}
use Rattle.sc_live_healed.proofs.TakenRequests.{is_call, call_so, IsAtMost, AreApart, IsHeld, Queued, Flying, Ready, reply_mail, back_held, without_ours}
use Rattle.sc_live_healed.proofs.ApartSlots.{IsCleared, apart_flown, apart_cleared, apart_voted, apart_decided, counts_by, decides, flown_held, call_flown, voted_held, decided_held}
use Rattle.sc_live_healed.proofs.HeldRequests.{HasFew, HeldOr, held_on, held_push, held_stops, held_offers, enters_leader, counted_other, learnt_held, learnt_apart, learnt_runs, learnt_mails, back_runs}

-- the request that goes back keeps the group
back_group : (command : Command) (r : ReplicaState) → ((put_back command r).group ≡ r.group) × ((put_back command r).leader ≡ r.leader) × ((put_back command r).ready ≡ r.ready) × (next (put_back command r) ≡ next r) × ((put_back command r).sets ≡ r.sets) × ((put_back command r).me ≡ r.me)
back_group command r = back_any (λ x. (x.group ≡ r.group) × (x.leader ≡ r.leader) × (x.ready ≡ r.ready) × (next x ≡ next r) × (x.sets ≡ r.sets) × (x.me ≡ r.me)) (λ x acts backlog k. k) command r (refl, refl, refl, refl, refl, refl)

-- the parts of an answer to an entry
pub answers_so : (client seq : ℕ) (op : Op) (answer : AnswerBody) (r : ReplicaState) (mails : List Mail) → answered_or_put_back (Some answer) (Call client seq op) (r, mails) ≡ (r, mails ++ mail_of r.me (client_actor client) (Answer r.group.core.id seq answer) ∷ [])
unfolding answered_or_put_back
answers_so client seq op answer r mails = refl

back_so : (client seq : ℕ) (op : Op) (r : ReplicaState) (mails : List Mail) → answered_or_put_back None (Call client seq op) (r, mails) ≡ (put_back (Call client seq op) r, mails)
unfolding answered_or_put_back
back_so client seq op r mails = refl

filler_so : (o : Option AnswerBody) (r : ReplicaState) (mails : List Mail) → answered_or_put_back o Noop (r, mails) ≡ (r, mails)
unfolding answered_or_put_back
filler_so None r mails = refl
filler_so (Some answer) r mails = refl

same_backlog : (client seq : ℕ) (op : Op) (r other : ReplicaState) → other.backlog ≡ r.backlog → (put_back (Call client seq op) other).backlog ≡ (put_back (Call client seq op) r).backlog
unfolding put_back
same_backlog client seq op r other e = ap (λ (cs : List Command). request_before (queued_number cs client) client seq (Call client seq op) cs) e

-- a command is a request or a Noop
fixed_cases : (base : Base) (P : Command → Type 0) (command : Command) → IsFixedCommand base command → ((client seq : ℕ) (op : Op) → P (Call client seq op)) → P Noop → P command
fixed_cases base P command (inr e) calls filler = subst P (sym e) filler
fixed_cases base P (Call client seq op) (inl f) calls filler = calls client seq op
fixed_cases base P _ (inl f) calls filler = absurd f

-- as many slots are open after an entry
entered_many : (command : Command) (r : ReplicaState) → length r.sets ≡ slots_ahead → length (entered command r).sets ≡ length r.sets
unfolding entered forgotten
entered_many command r e = turned_sets r.sets (applied r.group command).0.core.members e ∙ sym e

module _ (base : Base) (me client seq : ℕ) (Elsewhere : Type 0) (f : FixedWalk base me)
    (few : (r : ReplicaState) (mails : List Mail) → f.P (r, mails) → HasFew client seq r)
    (served : (r : ReplicaState) (mails : List Mail) (op : Op) → f.P (r, mails) → at_slot r.ready (next r) ≡ Some (Call client seq op) → (reply : Reply) × (answer_of (applied r.group (Call client seq op)).1 ≡ Some (Value reply)))
    (asked : (from : ℕ) (group : Draw) (c s : ℕ) (op : Op) → f.Hears from (Request group c s op) → c ≡ client → s ≤ seq) where
  abbrev pub M : Place → Type 0
  M place = AreApart place.0 × HeldOr base me client seq Elsewhere place

  abbrev pub P : Place → Type 0
  P place = f.P place × M place

  -- what is heard: the request is not learnt, unless its client is answered elsewhere
  abbrev pub Learns : MailBody → Type 0
  Learns (Learn group slot command) = Elsewhere ⊎ (is_call client seq command ≡ false)
  Learns _ = Unit {0}

  pub name_is : (place : Place) → f.P place → place.0.group.core.id ≡ base.core.id
  name_is place k = ap (λ (core : Core). core.id) (f.frame place k).fixed.group

  -- as many slots are open
  many_is : (place place1 : Place) → f.P place → f.P place1 → length place1.0.sets ≡ length place.0.sets
  many_is place place1 k k1 = ap (λ (sets : List (List ℕ)). length sets) ((f.frame place1 k1).fixed.sets ∙ sym (f.frame place k).fixed.sets)

  -- ---- entries

  -- a counted entry: the command goes back, or its client is answered, and the members learn it
  module _ (command : Command) (r : ReplicaState) (mails : List Mail) (on : r.running ≡ true) (e : at_slot r.ready (next r) ≡ Some command) (k : P (r, mails)) where
    abbrev e0 : ReplicaState
    e0 = entered command r

    fixed : IsFixedCommand base command
    fixed = ready_fixed base r.ready (next r) command e (f.frame (r, mails) k.0).fixed.ready

    after_k : f.P (entered_place true command (r, mails))
    after_k = f.counted_entry command r mails on e k.0

    -- the node and the group stay
    me_so : e0.me ≡ me
    me_so = entered_me command r ∙ (f.frame (r, mails) k.0).me_is

    name_so : e0.group.core.id ≡ base.core.id
    name_so = ap (λ (g : Group). g.core.id) (entered_group command r) ∙ ap (λ (core : Core). core.id) (applied_core base command r.group fixed) ∙ name_is (r, mails) k.0

    -- the parts of the replica with the entry
    parts : (e0.leader ≡ r.leader) × (e0.ready ≡ r.ready) × (e0.backlog ≡ r.backlog) × (e0.running ≡ r.running)
    parts = enters_leader base me client seq Elsewhere command r

    -- what is left where the replica and the mails after the answer are these
    module _ (rb r1 : ReplicaState) (said : List Mail) (step : answered_or_put_back (answer_of (applied r.group command).1) command (e0, mails) ≡ (r1, said)) (group1 : r1.group ≡ e0.group) (leader : rb.leader ≡ r.leader) (ready : rb.ready ≡ r.ready) (at_next : next rb ≡ next r) (sets : rb.sets ≡ r.sets)
        (leader1 : r1.leader ≡ rb.leader) (ready1 : r1.ready ≡ rb.ready) (next1 : next r1 ≡ next r + 1) (backlog1 : r1.backlog ≡ rb.backlog) (running1 : r1.running ≡ true) where
      abbrev result : Place
      result = cleared (next r) (r1, learning base command r fixed (r1, said))

      is_result : entered_place true command (r, mails) ≡ result
      is_result = counted_is base command r fixed mails r1 said step group1

      result_k : f.P result
      result_k = subst f.P is_result after_k

      clears : IsCleared (next rb) rb result.0
      clears = record {
        flights = ap (λ (l : LeaderState Command). without_flight (next r) l.flights) leader1 ∙ ap (λ n. without_flight n rb.leader.flights) (sym at_next);
        ready = ap (λ (es : List (ℕ × Command)). without_slot es (next r)) ready1 ∙ ap (λ n. without_slot rb.ready n) (sym at_next);
        next_is = next1 ∙ ap (λ n. n + 1) (sym at_next);
        many = many_is (r, mails) result k.0 result_k ∙ ap (λ (ss : List (List ℕ)). length ss) (sym sets);
      }

      apart_b : AreApart r → AreApart rb
      apart_b p = record {
        once = λ s. (let o = p.once s in let a = ap (λ (l : LeaderState Command). flights_at s l.flights) leader in let b = ap (λ (es : List (ℕ × Command)). entries_at s es) ready in omega (arith, o, a, b));
        open_ = λ s some. (let a = ap (λ (l : LeaderState Command). flights_at s l.flights) leader in let b = ap (λ (es : List (ℕ × Command)). entries_at s es) ready in
            let o = p.open_ s (omega (arith, some, a, b)) in let low = o.0 in let high = o.1 in let n = at_next in let m = ap (λ (ss : List (List ℕ)). length ss) sets in
            (omega (arith, low, n), omega (arith, high, n, m)));
      }

      finish : HeldOr base me client seq Elsewhere result → M (entered_place true command (r, mails))
      finish h = subst M (sym is_result) (apart_cleared rb result.0 (apart_b k.1.0) clears, h)

      learns_more : (mail : Mail) → Among mail said → Among mail result.1
      learns_more mail a = others_kept r1.me (Learn r1.group.core.id (next r) command) r.group.core.members said mail a

      -- another command
      other : is_call client seq command ≡ false → (IsHeld client seq r → IsHeld client seq rb) → ((mail : Mail) → Among mail mails → Among mail said) → M (entered_place true command (r, mails))
      other no_call back grow =
          finish (held_on base me client seq Elsewhere r result.0 mails result.1 (λ _. running1)
          (λ _ h. counted_other base me client seq Elsewhere command r rb result.0 (apart_b k.1.0) (ap (λ n. at_slot rb.ready n) at_next ∙ ap (λ (es : List (ℕ × Command)). at_slot es (next r)) ready ∙ e) no_call clears backlog1 (back h))
          (λ mail a. learns_more mail (grow mail a)) k.1.1)

      -- the request itself
      ours : (reply : Reply) → Among (mail_of e0.me (client_actor client) (Answer e0.group.core.id seq (Value reply))) said → M (entered_place true command (r, mails))
      ours reply a =
          finish (inr (inr (Value reply, tt, learns_more (reply_mail client seq me base.core.id (Value reply)) (subst (λ n. Among (mail_of n (client_actor client) (Answer base.core.id seq (Value reply))) said) me_so (subst (λ d. Among (mail_of e0.me (client_actor client) (Answer d seq (Value reply))) said) name_so a)))))

    -- what is ready has no greater number
    low_ready : IsAtMost client seq command
    low_ready = Each-among (λ (entry : ℕ × Command). IsAtMost client seq entry.1) r.ready (next r, command) (few r mails k.0).ready (at_found r.ready (next r) command e).1

    -- it is answered
    answered_step : (c s : ℕ) (op : Op) (o : Option AnswerBody) → answer_of (applied r.group command).1 ≡ o → command ≡ Call c s op → is_call client seq command ≡ false → M (entered_place true command (r, mails))
    answered_step c s op (Some answer) fact same no_call =
        other r e0 (mails ++ mail_of e0.me (client_actor c) (Answer e0.group.core.id s answer) ∷ [])
        (ap (λ q. answered_or_put_back q command (e0, mails)) fact ∙ ap (λ x. answered_or_put_back (Some answer) x (e0, mails)) same ∙ answers_so c s op answer e0 mails)
        refl refl refl refl refl parts.0 parts.1 (entered_next command r) parts.2 (parts.3 ∙ on) no_call (λ h. h) (λ mail a. among_push mails _ mail a)
    answered_step c s op None fact same no_call =
        let b = back_group (Call c s op) r in
        let be = back_group (Call c s op) e0 in
        other (put_back (Call c s op) r) (put_back (Call c s op) e0) mails
        (ap (λ q. answered_or_put_back q command (e0, mails)) fact ∙ ap (λ x. answered_or_put_back None x (e0, mails)) same ∙ back_so c s op e0 mails)
        be.0 b.1 b.2 b.3 b.4 (be.1 ∙ parts.0 ∙ sym b.1) (be.2 ∙ parts.1 ∙ sym b.2) (be.3 ∙ entered_next command r) (same_backlog c s op r e0 parts.2) (back_runs (Call c s op) e0 true (parts.3 ∙ on)) no_call
        (λ h. back_held client seq (Call c s op) r (subst (IsAtMost client seq) same low_ready) h) (λ mail a. a)

    by : (b : Bool) → is_call client seq command ≡ b → M (entered_place true command (r, mails))
    by true t =
        let c = call_so client seq command t in
        let reply = served r mails c.0 k.0 (e ∙ ap Some c.1) in
        let said : List Mail = mails ++ mail_of e0.me (client_actor client) (Answer e0.group.core.id seq (Value reply.0)) ∷ [] in
        let step = ap (λ x. answered_or_put_back (answer_of (applied r.group x).1) x (e0, mails)) c.1 ∙ ap (λ q. answered_or_put_back q (Call client seq c.0) (e0, mails)) reply.1 ∙ answers_so client seq c.0 (Value reply.0) e0 mails in
        ours r e0 said step refl refl refl refl refl parts.0 parts.1 (entered_next command r) parts.2 (parts.3 ∙ on) reply.0 (last_among mails _)
    by false n =
        fixed_cases base (λ (c : Command). command ≡ c → M (entered_place true command (r, mails))) command fixed
        (λ c s op same. answered_step c s op (answer_of (applied r.group command).1) refl same n)
        (λ same. other r e0 mails (ap (λ x. answered_or_put_back (answer_of (applied r.group command).1) x (e0, mails)) same ∙ filler_so (answer_of (applied r.group command).1) e0 mails)
        refl refl refl refl refl parts.0 parts.1 (entered_next command r) parts.2 (parts.3 ∙ on) n (λ h. h) (λ mail a. a)) refl

    pub counts_entry : M (entered_place true command (r, mails))
    counts_entry = by (is_call client seq command) refl

  -- a learnt entry: another command
  pub learns_entry : (from : ℕ) (group : Draw) (command : Command) (r : ReplicaState) (mails : List Mail) → f.Hears from (Learn group (next r) command) → Learns (Learn group (next r) command) → f.First r → (r.running ≡ true → at_slot r.ready (next r) ≡ None) → P (r, mails) → M (entered_place false command (r, mails))
  learns_entry from group command r mails h l first unready k =
      let fixed : IsFixedCommand base command = (f.heard from (Learn group (next r) command) h).2 in
      let after : Place = landed false (next r) command (entered command r, mails) in
      let fact : entered_place false command (r, mails) ≡ after = learnt_is base command r fixed mails in
      let after_k : f.P after = subst f.P fact (f.learnt_entry from group command r mails h first k.0) in
      let core : (entered command r).group.core ≡ base.core = ap (λ (g : Group). g.core) (entered_group command r) ∙ applied_core base command r.group fixed ∙ (f.frame (r, mails) k.0).fixed.group in
      let many : length (entered command r).sets ≡ length r.sets = entered_many command r (ap (λ (sets : List (List ℕ)). length sets) (f.frame (r, mails) k.0).fixed.sets) in
      subst M (sym fact) (
        learnt_apart base me client seq Elsewhere command r mails k.1.0 many,
        held_by l k.1.1 after (learnt_runs base me client seq Elsewhere command r mails true) (learnt_mails base me client seq Elsewhere command r mails)
            (λ n on held. learnt_held base me client seq Elsewhere command r (few r mails k.0) k.1.0 n (unready on) mails many held),
      )
    where
      held_by : Elsewhere ⊎ (is_call client seq command ≡ false) → HeldOr base me client seq Elsewhere (r, mails) → (after : Place) → (r.running ≡ true → after.0.running ≡ true) → after.1 ≡ mails → (is_call client seq command ≡ false → r.running ≡ true → IsHeld client seq r → IsHeld client seq after.0) → HeldOr base me client seq Elsewhere after
      held_by (inl away) h after runs same held = inl away
      held_by (inr n) h after runs same held = held_on base me client seq Elsewhere r after.0 mails after.1 runs (held n) (λ mail a. subst (λ (ms : List Mail). Among mail ms) (sym same) a) h

  -- ---- the walk

  -- the same queues, flights and ready commands
  same_apart : (r after : ReplicaState) → after.leader.flights ≡ r.leader.flights → after.ready ≡ r.ready → next after ≡ next r → length after.sets ≡ length r.sets → AreApart r → AreApart after
  same_apart r after flights ready at_next many p = record {
    once = λ s. (let o = p.once s in let a = ap (λ fs. flights_at s fs) flights in let b = ap (λ (es : List (ℕ × Command)). entries_at s es) ready in omega (arith, o, a, b));
    open_ = λ s some. (let a = ap (λ fs. flights_at s fs) flights in let b = ap (λ (es : List (ℕ × Command)). entries_at s es) ready in
        let o = p.open_ s (omega (arith, some, a, b)) in let low = o.0 in let high = o.1 in
        (omega (arith, low, at_next), omega (arith, high, at_next, many)));
  }

  same_held : (r after : ReplicaState) → after.backlog ≡ r.backlog → after.leader.flights ≡ r.leader.flights → after.ready ≡ r.ready → IsHeld client seq r → IsHeld client seq after
  same_held r after backlog flights ready (Queued c a ours) = Queued c (subst (λ (cs : List Command). Among c cs) (sym backlog) a) ours
  same_held r after backlog flights ready (Flying x a ours) = Flying x (subst (λ (fs : List (Flight Command)). Among x fs) (sym flights) a) ours
  same_held r after backlog flights ready (Ready e a ours) = Ready e (subst (λ (es : List (ℕ × Command)). Among e es) (sym ready) a) ours

  -- what changes neither
  pub unchanged : (r after : ReplicaState) (mails more : List Mail) → after.backlog ≡ r.backlog → after.leader.flights ≡ r.leader.flights → after.ready ≡ r.ready → next after ≡ next r → length after.sets ≡ length r.sets → (r.running ≡ true → after.running ≡ true)
      → ((mail : Mail) → Among mail mails → Among mail more) → M (r, mails) → M (after, more)
  unchanged r after mails more backlog flights ready at_next many runs grow m =
      (same_apart r after flights ready at_next many m.0, held_on base me client seq Elsewhere r after mails more runs (λ _ h. same_held r after backlog flights ready h) grow m.1)

  -- one mail more
  pub pushed : (r : ReplicaState) (mails : List Mail) (to : ℕ) (body : MailBody) → M (r, mails) → M (r, sent r.me to body mails)
  pushed r mails to body m = (m.0, held_push base me client seq Elsewhere r mails to body m.1)

  pub offers_more : (slot : ℕ) (set : List ℕ) (command : Command) (r : ReplicaState) (mails : List Mail) → next r ≤ slot → slot < next r + length r.sets → taken_at r slot ≡ None → M (r, mails) → M (offered slot set command (r, mails))
  unfolding offered
  offers_more slot set command r mails low near none m =
      (apart_flown slot command r none low near m.0, held_offers base me client seq Elsewhere slot set command r mails (flown_held client seq slot command r) m.1)

  pub offers_head : (slot : ℕ) (set : List ℕ) (command : Command) (backlog : List Command) (r : ReplicaState) (mails : List Mail) → next r ≤ slot → slot < next r + length r.sets → taken_at r slot ≡ None → r.backlog ≡ command ∷ backlog → M (r, mails) → M (offered slot set command (record r { backlog = backlog }, mails))
  unfolding offered
  offers_head slot set command backlog r mails low near none e m = (
    apart_flown slot command (record r { backlog = backlog }) none low near (record { once = m.0.once; open_ = m.0.open_ }),
    held_on base me client seq Elsewhere r (record r { backlog = backlog; leader = with_flight_at slot command r.leader }) mails (sent_all r.me set (Accept r.group.core.id r.leader.ballot slot command) mails) (λ on. on) (λ _ h. call_flown client seq slot command backlog r e h)
        (λ mail a. all_kept r.me (Accept r.group.core.id r.leader.ballot slot command) set mails mail a) m.1,
  )

  pub stops_so : (hint : ℕ) (r : ReplicaState) (mails : List Mail) → r.me ≡ me → r.group.core.id ≡ base.core.id → M (r, mails) → M (stopped (Some hint) (r, mails))
  unfolding ended
  stops_so hint r mails mine named m = (
    record { once = λ s. omega arith; open_ = λ s some. absurd (omega (arith, some)) },
    held_stops base me client seq Elsewhere hint r mails mine named m.0 m.1,
  )

  -- who does not run has nothing at any slot
  rests_apart : (r after : ReplicaState) → r.leader.flights ≡ [] → r.ready ≡ [] → after.leader.flights ≡ r.leader.flights → after.ready ≡ r.ready → AreApart after
  rests_apart r after flights ready same_flights same_ready = record {
    once = λ s. (let a = ap (λ fs. flights_at s fs) (same_flights ∙ flights) in let b = ap (λ (es : List (ℕ × Command)). entries_at s es) (same_ready ∙ ready) in omega (arith, a, b));
    open_ = λ s some. (let a = ap (λ fs. flights_at s fs) (same_flights ∙ flights) in let b = ap (λ (es : List (ℕ × Command)). entries_at s es) (same_ready ∙ ready) in absurd (omega (arith, some, a, b)));
  }

  jumps_parts : (slot : ℕ) (sent_ : Base) (sets : List (List ℕ)) (r : ReplicaState) → ((jumped slot sent_ sets r).leader ≡ r.leader) × ((jumped slot sent_ sets r).ready ≡ r.ready) × ((jumped slot sent_ sets r).running ≡ r.running)
  unfolding jumped forgotten
  jumps_parts slot sent_ sets r = (refl, refl, refl)

  pub jumps_so : (from slot : ℕ) (sent_ : Base) (sets : List (List ℕ)) (r : ReplicaState) (mails : List Mail) → r.running ≡ false → f.P (r, mails) → M (r, mails) → M (record (jumped slot sent_ sets r) { hint = Some from }, mails)
  jumps_so from slot sent_ sets r mails off k m =
      let rests = (f.frame (r, mails) k).ballots.stopped off in
      let parts = jumps_parts slot sent_ sets r in (
        rests_apart r (record (jumped slot sent_ sets r) { hint = Some from }) rests.flights rests.ready (ap (λ (l : LeaderState Command). l.flights) parts.0) parts.1,
        held_on base me client seq Elsewhere r (record (jumped slot sent_ sets r) { hint = Some from }) mails mails (λ on. absurd (true≢false (sym on ∙ off))) (λ on h. absurd (true≢false (sym on ∙ off))) (λ mail a. a) m.1,
      )

  -- a promise is counted apart from the flights

  -- the head of the queue is a request of the group
  pub head_request : (command : Command) (backlog : List Command) (r : ReplicaState) (mails : List Mail) → r.backlog ≡ command ∷ backlog → f.P (r, mails) → IsFixedRequest base command
  head_request command backlog r mails e k = (subst (Each (IsFixedRequest base)) e (f.frame (r, mails) k).fixed.backlog).0

  -- who does not run follows the node of a ballot
  pub hinted_same : (ballot : Ballot) (r after : ReplicaState) (mails more : List Mail) → after.backlog ≡ r.backlog → after.leader.flights ≡ r.leader.flights → after.ready ≡ r.ready → next after ≡ next r → length after.sets ≡ length r.sets → (r.running ≡ true → after.running ≡ true)
      → ((mail : Mail) → Among mail mails → Among mail more) → M (r, mails) → M (hinted ballot after, more)
  hinted_same ballot r after mails more backlog flights ready at_next many runs grow m =
      cond_both after.running after (record after { hint = Some ballot.node }) (λ (x : ReplicaState). M (x, more)) (λ _. unchanged r after mails more backlog flights ready at_next many runs grow m) (λ _. unchanged r (record after { hint = Some ballot.node }) mails more backlog flights ready at_next many runs grow m)

  -- a request that is queued last, and one that takes the place of an earlier one of its client
  pub queued_last : (c s : ℕ) (op : Op) (r : ReplicaState) (mails : List Mail) → M (r, mails) → M (record r { backlog = r.backlog ++ Call c s op ∷ [] }, mails)
  queued_last c s op r mails m = (
    record { once = m.0.once; open_ = m.0.open_ },
    held_on base me client seq Elsewhere r (record r { backlog = r.backlog ++ Call c s op ∷ [] }) mails mails (λ on. on) (λ _ h. by h) (λ mail a. a) m.1,
  )
    where
      by : IsHeld client seq r → IsHeld client seq (record r { backlog = r.backlog ++ Call c s op ∷ [] })
      by (Queued command a ours) = Queued command (among_push r.backlog (Call c s op) command a) ours
      by (Flying x a ours) = Flying x a ours
      by (Ready e a ours) = Ready e a ours

  pub queued_again : (c s other : ℕ) (op : Op) (r : ReplicaState) (mails : List Mail) → queued_number r.backlog c ≡ Some other → other < s → (c ≡ client → s ≤ seq) → M (r, mails) → M (record r { backlog = without_request r.backlog c ++ Call c s op ∷ [] }, mails)
  queued_again c s other op r mails e up low m = (
    record { once = m.0.once; open_ = m.0.open_ },
    held_on base me client seq Elsewhere r (record r { backlog = without_request r.backlog c ++ Call c s op ∷ [] }) mails mails (λ on. on) (λ _ h. by h) (λ mail a. a) m.1,
  )
    where
      one_number : {a b : ℕ} → Some a ≡ Some b → a ≡ b
      one_number q = cc

      by : IsHeld client seq r → IsHeld client seq (record r { backlog = without_request r.backlog c ++ Call c s op ∷ [] })
      by (Queued command a ours) =
          Queued command (among_push (without_request r.backlog c) (Call c s op) command (without_ours client seq c r.backlog command a ours (λ own q. (
          let least = low (sym own) in
          let same : other ≡ seq = one_number (sym e ∙ q) in
          absurd (omega (arith, up, least, same)))))) ours
      by (Flying x a ours) = Flying x a ours
      by (Ready en a ours) = Ready en a ours

  abbrev pub held_walk : FixedWalk base me
  held_walk = record {
    fresh = f.fresh;
    First = λ r. f.First r × (r.running ≡ true → at_slot r.ready (next r) ≡ None);
    P = λ place. P place;
    Hears = λ from body. f.Hears from body × Learns body;
    Sees = λ ballot. f.Sees ballot;
    frame = λ place k. f.frame place k.0;
    heard = λ from body h. f.heard from body h.0;
    prepare_seen = λ from group ballot from_slot h. f.prepare_seen from group ballot from_slot h.0;
    accept_seen = λ from group ballot slot command h. f.accept_seen from group ballot slot command h.0;
    nack_seen = λ from group promised h. f.nack_seen from group promised h.0;
    turned = λ command answer backlog r mails on e turn k. absurd (never_turned base me f.fresh command r.group.core answer (head_request command backlog r mails e k.0) (f.frame (r, mails) k.0).fixed.group turn);
    offers_value = λ slot set command r mails on low near none e of k. (f.offers_value slot set command r mails on low near none e of k.0, offers_more slot set command r mails low near none k.1);
    offers_noop = λ slot set r mails on low near none gap of k. (f.offers_noop slot set r mails on low near none gap of k.0, offers_more slot set Noop r mails low near none k.1);
    offers_call = λ slot set command backlog r mails on low near none e of k. (f.offers_call slot set command backlog r mails on low near none e of k.0, offers_head slot set command backlog r mails low near none e k.1);
    counted_entry = λ command r mails on e k. (f.counted_entry command r mails on e k.0, counts_entry command r mails on e k);
    learnt_entry = λ from group command r mails h first k. (f.learnt_entry from group command r mails h.0 first.0 k.0, learns_entry from group command r mails h.0 h.1 first.0 first.1 k);
    seen = λ ballot r mails sees up goes k. (f.seen ballot r mails sees up goes k.0, unchanged r (record r { top = ballot }) mails mails refl refl refl refl refl (λ on. on) (λ mail a. a) k.1);
    overtaken = λ ballot r mails sees on low k. (
      f.overtaken ballot r mails sees on low k.0,
      (let mine = (f.frame (r, mails) k.0).me_is in let named = name_is (r, mails) k.0 in
          cond_both (below r.top ballot) (record r { top = ballot }) r (λ (x : ReplicaState). M (stopped (Some ballot.node) (x, mails)))
          (λ _. stops_so ballot.node (record r { top = ballot }) mails mine named (unchanged r (record r { top = ballot }) mails mails refl refl refl refl refl (λ on. on) (λ mail a. a) k.1)) (λ _. stops_so ballot.node r mails mine named k.1)),
    );
    polled = λ from group ballot reports r mails on h k. (
      f.polled from group ballot reports r mails on h.0 k.0,
      unchanged r (record r { leader = (promise_counted from ballot reports r.leader).1 }) mails mails refl (promise_flights from ballot reports r.leader) refl refl refl (λ on. on) (λ mail a. a) k.1,
    );
    counts = λ from group ballot slot set count r mails on h e k. (
      f.counts from group ballot slot set count r mails on h.0 e k.0,
      counts_by (λ l. M (record r { leader = l }, mails)) from ballot slot set count r.leader e k.1
          (λ voters. (apart_voted slot voters r k.1.0, held_on base me client seq Elsewhere r (record r { leader = record r.leader { flights = with_voters slot voters r.leader.flights } }) mails mails (λ on. on) (λ _ held. voted_held client seq slot voters r held) (λ mail a. a) k.1.1)),
    );
    chosen = λ from group ballot slot set command r mails on h e k. (
      f.chosen from group ballot slot set command r mails on h.0 e k.0,
      (let d = decides from ballot slot set command r.leader e in
          (apart_decided slot command r (counted from ballot slot set r.leader).1 d k.1.0, held_on base me client seq Elsewhere r (record r { leader = (counted from ballot slot set r.leader).1; ready = with_slot r.ready slot command }) mails mails (λ on. on) (λ _ held. decided_held client seq slot command r (counted from ballot slot set r.leader).1 d k.1.0 held) (λ mail a. a) k.1.1)),
    );
    promised = λ from group ballot from_slot r mails h top goes may k. (
      f.promised from group ballot from_slot r mails h.0 top goes may k.0,
      hinted_same ballot r (record r { acceptor = after_promise ballot r.acceptor }) mails _ refl refl refl refl refl (λ on. on) (λ mail a. among_push mails _ mail a) k.1,
    );
    accepted = λ from group report r mails h top goes may k. (
      f.accepted from group report r mails h.0 top goes may k.0,
      hinted_same report.ballot r (record r { acceptor = after_accept report r.acceptor }) mails _ refl refl refl refl refl (λ on. on) (λ mail a. among_push mails _ mail a) k.1,
    );
    nacks = λ to r mails m k. (f.nacks to r mails m k.0, pushed r mails to _ k.1);
    installs = λ to r mails m k. (f.installs to r mails m k.0, pushed r mails to _ k.1);
    recalls = λ to from_slot slot group command r mails h m e k. (f.recalls to from_slot slot group command r mails h.0 m e k.0, pushed r mails to _ k.1);
    wants = λ to slot group command r mails h m low k. (f.wants to slot group command r mails h.0 m low k.0, pushed r mails to _ k.1);
    stops = λ from r mails m on k. (f.stops from r mails m on k.0, stops_so from r mails (f.frame (r, mails) k.0).me_is (name_is (r, mails) k.0) k.1);
    jumps = λ from group slot sent_ sets r mails h later off k. (f.jumps from group slot sent_ sets r mails h.0 later off k.0, jumps_so from slot sent_ sets r mails off k.0 k.1);
    refuses = λ from group c s op answer r mails h e k. (f.refuses from group c s op answer r mails h.0 e k.0, pushed r mails (client_actor c) _ k.1);
    requested = λ from group c s op r mails h e none k. (f.requested from group c s op r mails h.0 e none k.0, queued_last c s op r mails k.1);
    requested_again = λ from group c s other op r mails h e some more k. (
      f.requested_again from group c s other op r mails h.0 e some more k.0,
      queued_again c s other op r mails some (let up = leb-false s other more in omega (arith, up)) (asked from group c s op h.0) k.1,
    );
  }

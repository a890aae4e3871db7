-- A pump asks those that decide the slots behind what is in flight, and nobody else.
use Rattle.std.proofs.Common.{◌≡◌, ℕ, ◌+◌, ◌<◌, ◌≤◌, ◌&&◌, ◌||◌, eqb, Bool, true, false, cond, List, [], ◌∷◌, ◌++◌, length, Option, Some, None, inl, inr, refl, sym, ◌∙◌, ap, subst, arith, append-nil}
use Rattle.std.specs.Prelude.{is_some, nat_le}
use Rattle.std.specs.List.{list_any}
use Rattle.std.specs.Option.{option_map}
use Rattle.std.proofs.lemmas.Bool.{cases_lt, cases_eq, cond_both, eq-eqb, ne_eqb, or_left}
use Rattle.sc_base.specs.Definitions.{Among, Each, client_actor, is_member}
use Rattle.sc_node_table.specs.Values.{Ballot, Draw, Command, Noop, Call, Core, AnswerBody, Mail, Accept, Answer, Must, Gap, Flight}
use Rattle.sc_words.specs.declared.paxos.answers.Must.TheVariants.{Value, Free as Open}
use Rattle.sc_words.specs.paxos.PaxosDefinitions.{must, flight_at}
use Rattle.sc_words.proofs.PaxosProofs.PaxosLemmas.{Each-append, Each-weaker}
use Rattle.sc_node_table.specs.NodeDefinitions.{answered, sent_all, Found, is_act, waits, turned_down, next_queued, from_backlog, from_acts, from_queues, found_by, found_for, offered, pumped_from, pumped, ReplicaState, Place, name_of, next, settled, may_offer, either, taken_at, under_way, is_idle, last_slot, at_slot}
use Rattle.sc_live_steps.specs.following.FollowingDefinitions.{Mark, Asks, Course, Sets, marks_for, AreAt, MayOffer, IsBegun, to_bound, OffersBy, PumpsOffer, IsOffer}
use Rattle.sc_live_steps.proofs.FollowingProofs.LeastMembers.{append_one, marks_to, sent_marks}
use Rattle.sc_live_steps.proofs.FollowingProofs.Marks.{among-left, among-right}
use Rattle.sc_live_steps.proofs.FollowingProofs.MailTables.{marks-push, same_mark}

-- ---- what is sent to several

pub to_member : (who : ℕ) (mark : Mark) (nodes : List ℕ) → is_member nodes who ≡ true → Among mark (marks_to who mark nodes)
to_member who mark [] e = cc
to_member who mark (node ∷ nodes) e = by (eqb node who) (λ m. to_member who mark nodes m) e
  where
    by : (b : Bool) → (is_member nodes who ≡ true → Among mark (marks_to who mark nodes)) → (b || is_member nodes who) ≡ true → Among mark (cond b (mark ∷ []) [] ++ marks_to who mark nodes)
    by true rest m = inl refl
    by false rest m = rest m

pub to_each : (P : Mark → Type 0) (who : ℕ) (mark : Mark) (nodes : List ℕ) → (is_member nodes who ≡ true → P mark) → Each P (marks_to who mark nodes)
to_each P who mark [] p = tt
to_each P who mark (node ∷ nodes) p = by (eqb node who) refl (to_each P who mark nodes (λ m. p (by_rest (eqb node who) m)))
  where
    by_rest : (b : Bool) → is_member nodes who ≡ true → (b || is_member nodes who) ≡ true
    by_rest true m = refl
    by_rest false m = m

    by : (b : Bool) → eqb node who ≡ b → Each P (marks_to who mark nodes) → Each P (cond b (mark ∷ []) [] ++ marks_to who mark nodes)
    by true t rest = (p (or_left (eqb node who) (is_member nodes who) t), rest)
    by false f rest = rest

-- ---- what is in flight with one more

new_found : (slot : ℕ) (flights : List (Flight Command)) (new : Flight Command) → new.slot ≡ slot → is_some (flight_at slot (flights ++ new ∷ [])) ≡ true
new_found slot [] new e = ap (λ b. is_some (cond b (Some new) None)) (eq-eqb new.slot slot e)
new_found slot (f ∷ flights) new e =
    cond_both (eqb f.slot slot) (Some f) (flight_at slot (flights ++ new ∷ [])) (λ o. is_some o ≡ true) (λ _. refl) (λ _. new_found slot flights new e)

pub old_found : (slot : ℕ) (flights : List (Flight Command)) (new : Flight Command) → (new.slot ≡ slot → ⊥) → flight_at slot (flights ++ new ∷ []) ≡ flight_at slot flights
old_found slot [] new ne = ap (λ b. cond b (Some new) None) (ne_eqb new.slot slot ne)
old_found slot (f ∷ flights) new ne = ap (λ o. cond (eqb f.slot slot) (Some f) o) (old_found slot flights new ne)

-- ---- what is found changes the queues alone, and leaves no mark

module _ (name : Draw) (who : ℕ) where
  pub turned_marks : (me : ℕ) (group : Draw) (command : Command) (answer : AnswerBody) (mails : List Mail) → marks_for name who (answered me group answer command mails) ≡ marks_for name who mails
  unfolding answered
  turned_marks me group (Call client seq op) answer mails = marks-push name who mails (record { from = me; to = client_actor client; body = Answer group seq answer }) refl
  turned_marks me group _ answer mails = refl

  next_marks : (me : ℕ) (idle : Bool) (core : Core) (backlog : List Command) (mails : List Mail) → marks_for name who (next_queued me idle core backlog mails).2 ≡ marks_for name who mails
  unfolding next_queued
  next_marks me idle core [] mails = refl
  next_marks me idle core (command ∷ backlog) mails =
      by (waits idle core.lock command) (turned_down core command) (λ answer. next_marks me idle core backlog (answered me core.id answer command mails) ∙ turned_marks me core.id command answer mails)
    where
      by : (b : Bool) (o : Option AnswerBody) → ((answer : AnswerBody) → marks_for name who (next_queued me idle core backlog (answered me core.id answer command mails)).2 ≡ marks_for name who mails)
          → marks_for name who (cond {A = Option Command × List Command × List Mail} b (None, command ∷ backlog, mails) (elim o [ None ↦ (Some command, backlog, mails) | Some answer ↦ next_queued me idle core backlog (answered me core.id answer command mails) ])).2
          ≡ marks_for name who mails
      by true o more = refl
      by false None more = refl
      by false (Some answer) more = more answer

module _ (P : Found → Type 0) (r : ReplicaState) (mails : List Mail) (p : (o : Option Command) (acts backlog : List Command) (more : List Mail) → ((who : ℕ) → marks_for (name_of r) who more ≡ marks_for (name_of r) who mails) → P (o, (record r { acts = acts; backlog = backlog }, more))) where
  calls_keep : P (from_backlog (r, mails))
  unfolding from_backlog
  calls_keep =
      let found = next_queued r.me (is_idle r) r.group.core r.backlog mails in
      p found.0 r.acts found.1 found.2 (λ who. next_marks (name_of r) who r.me (is_idle r) r.group.core r.backlog mails)

  acts_keep : (acts : List Command) → P (from_acts acts (r, mails))
  acts_keep [] = calls_keep
  acts_keep (act ∷ acts) = by (is_idle r)
    where
      by : (b : Bool) → P (cond b (Some act, (record r { acts = acts }, mails)) (None, (r, mails)))
      by true = p (Some act) acts r.backlog mails (λ who. refl)
      by false = p None r.acts r.backlog mails (λ who. refl)

  queues_keep : P (from_queues (r, mails))
  unfolding from_queues
  queues_keep = by (list_any is_act (under_way r))
    where
      by : (b : Bool) → P (cond b (None, (r, mails)) (from_acts r.acts (r, mails)))
      by true = p None r.acts r.backlog mails (λ who. refl)
      by false = acts_keep r.acts

  found_keeps : (slot : ℕ) → P (found_for slot (r, mails))
  unfolding found_for
  found_keeps slot = by (must slot r.leader)
    where
      by : (m : Must Command) → P (found_by m (r, mails))
      by (Value command) = p (Some command) r.acts r.backlog mails (λ who. refl)
      by Gap = p (Some Noop) r.acts r.backlog mails (λ who. refl)
      by Open = queues_keep

-- ---- nothing is offered

none_offers : (at : Sets) (course : Course) (r : ReplicaState) (mails : List Mail) → MayOffer at course r → (acts backlog : List Command) (more : List Mail) → ((who : ℕ) → marks_for (name_of r) who more ≡ marks_for (name_of r) who mails)
    → OffersBy at course (r, mails) (record r { acts = acts; backlog = backlog }, more)
none_offers at course r mails m acts backlog more same = record {
  bound = course.bound;
  up = omega arith;
  begun = [];
  acts = acts;
  backlog = backlog;
  fact = ap (λ (fs : List (Flight Command)). record r { leader = record r.leader { flights = fs }; acts = acts; backlog = backlog }) (sym (append-nil r.leader.flights));
  fly = tt;
  goes_on = record { ballot = m.ballot; sets = m.sets; low = m.low; high = m.high; taken = m.taken; free = m.free };
  offers = λ who. [];
  sends = λ who. same who ∙ sym (append-nil (marks_for (name_of r) who mails));
  asks = λ who. tt;
  asked = λ slot node least most mine. (omega (arith, least, most));
}

-- ---- one more is offered

module _ (at : Sets) (course : Course) (set : List ℕ) (command : Command) (r : ReplicaState) (mails : List Mail) (m : MayOffer at course r) (is_set : at course.bound ≡ set) (room : course.bound < next r + length r.sets)
    (acts backlog : List Command) (more : List Mail) (same : (who : ℕ) → marks_for (name_of r) who more ≡ marks_for (name_of r) who mails) where
  abbrev pub new : Flight Command
  new = record { slot = course.bound; value = command; voters = None }

  abbrev pub begins : ReplicaState
  begins = record r { leader = record r.leader { flights = r.leader.flights ++ new ∷ [] }; acts = acts; backlog = backlog }

  taken_same : (s : ℕ) → (course.bound ≡ s → ⊥) → taken_at begins s ≡ taken_at r s
  taken_same s ne = ap (λ (o : Option (Flight Command)). either (option_map (λ flight. flight.value) o) (at_slot r.ready s)) (old_found s r.leader.flights new ne)

  taken_new : is_some (taken_at begins course.bound) ≡ true
  taken_new = by (flight_at course.bound (r.leader.flights ++ new ∷ [])) (new_found course.bound r.leader.flights new refl)
    where
      by : (o : Option (Flight Command)) → is_some o ≡ true → is_some (either (option_map (λ flight. flight.value) o) (at_slot r.ready course.bound)) ≡ true
      by None e = cc
      by (Some f) e = refl

  may_begin : MayOffer at (to_bound (course.bound + 1) course) begins
  may_begin = record {
    ballot = m.ballot;
    sets = m.sets;
    low = (let l = m.low in omega (arith, l));
    high = omega (arith, room);
    taken = λ s least most. elim (cases_eq course.bound s) [
      | inl e ↦ subst (λ x. is_some (taken_at begins x) ≡ true) e taken_new
      | inr ne ↦ ap is_some (taken_same s ne) ∙ m.taken s least (between s most ne)
    ];
    free = λ s least. taken_same s (λ e. omega (arith, least, e)) ∙ m.free s (omega (arith, least));
  }
    where
      between : (s : ℕ) → s < course.bound + 1 → (course.bound ≡ s → ⊥) → s < course.bound
      between s most ne = elim (cases_lt s course.bound) [ inl lt ↦ lt | inr ge ↦ absurd (ne (omega (arith, most, ge))) ]

  asked_mails : (who : ℕ) → marks_for (name_of r) who (sent_all r.me set (Accept (name_of r) r.leader.ballot course.bound command) more) ≡ marks_for (name_of r) who mails ++ marks_to who (Asks course.ballot course.bound) set
  asked_mails who =
      sent_marks (name_of r) who r.me (Accept (name_of r) r.leader.ballot course.bound command) (Asks r.leader.ballot course.bound) (same_mark (name_of r) (Asks r.leader.ballot course.bound)) set more
      ∙ (ap (λ l. l ++ marks_to who (Asks r.leader.ballot course.bound) set) (same who)
      ∙ ap (λ (b : Ballot). marks_for (name_of r) who mails ++ marks_to who (Asks b course.bound) set) m.ballot)

  -- what is offered then comes behind it
  one_more : (after : Place) → OffersBy at (to_bound (course.bound + 1) course) (begins, sent_all r.me set (Accept (name_of r) r.leader.ballot course.bound command) more) after → OffersBy at course (r, mails) after
  one_more after o = record {
    bound = o.bound;
    up = (let u = o.up in omega (arith, u));
    begun = new ∷ o.begun;
    acts = o.acts;
    backlog = o.backlog;
    fact = o.fact ∙ ap (λ (fs : List (Flight Command)). record r { leader = record r.leader { flights = fs }; acts = o.acts; backlog = o.backlog }) (joined r.leader.flights);
    fly = (
      record { least = omega arith; most = (let u = o.up in omega (arith, u)); none = refl },
      Each-weaker (IsBegun (course.bound + 1) o.bound) (IsBegun course.bound o.bound) (λ f b. record { least = (let l = b.least in omega (arith, l)); most = b.most; none = b.none }) o.begun o.fly,
    );
    goes_on = o.goes_on;
    offers = λ who. marks_to who (Asks course.ballot course.bound) set ++ o.offers who;
    sends = λ who. o.sends who ∙ (ap (λ l. l ++ o.offers who) (asked_mails who) ∙ append_one (marks_for (name_of r) who mails) (marks_to who (Asks course.ballot course.bound) set) (o.offers who));
    asks = λ who. Each-append (IsOffer at (to_bound o.bound course) course.bound who) (marks_to who (Asks course.ballot course.bound) set) (o.offers who)
        (to_each (IsOffer at (to_bound o.bound course) course.bound who) who (Asks course.ballot course.bound) set
        (λ mine. (refl, omega arith, (let u = o.up in omega (arith, u)), ap (λ l. is_member l who) is_set ∙ mine)))
        (Each-weaker (IsOffer at (to_bound o.bound course) (course.bound + 1) who) (IsOffer at (to_bound o.bound course) course.bound who) (λ mark. earlier o.bound who mark) (o.offers who) (o.asks who));
    asked = λ s node least most mine. elim (cases_eq course.bound s) [
      | inl e ↦ among-left (Asks course.ballot s) (marks_to node (Asks course.ballot course.bound) set) (o.offers node)
          (subst (λ x. Among (Asks course.ballot x) (marks_to node (Asks course.ballot course.bound) set)) e
          (to_member node (Asks course.ballot course.bound) set (ap (λ l. is_member l node) (sym is_set) ∙ (ap (λ x. is_member (at x) node) e ∙ mine))))
      | inr ne ↦ among-right (Asks course.ballot s) (marks_to node (Asks course.ballot course.bound) set) (o.offers node) (o.asked s node (later s least ne) most mine)
    ];
  }
    where
      joined : (fs : List (Flight Command)) → (fs ++ new ∷ []) ++ o.begun ≡ fs ++ new ∷ o.begun
      joined [] = refl
      joined (f ∷ fs) = ap (λ l. f ∷ l) (joined fs)

      later : (s : ℕ) → course.bound ≤ s → (course.bound ≡ s → ⊥) → course.bound + 1 ≤ s
      later s least ne = elim (cases_lt course.bound s) [ inl lt ↦ omega (arith, lt) | inr ge ↦ absurd (ne (omega (arith, least, ge))) ]

      earlier : (bound who : ℕ) (mark : Mark) → IsOffer at (to_bound bound course) (course.bound + 1) who mark → IsOffer at (to_bound bound course) course.bound who mark
      earlier bound who (Asks ballot s) i = (let l = i.1 in (i.0, omega (arith, l), i.2, i.3))
      earlier bound who _ i = absurd i

-- ---- the pump

pub offered_is : (number : ℕ) (set : List ℕ) (command : Command) (r : ReplicaState) (mails : List Mail)
    → offered number set command (r, mails) ≡ (record r { leader = record r.leader { flights = r.leader.flights ++ (record { slot = number; value = command; voters = None }) ∷ [] } }, sent_all r.me set (Accept (name_of r) r.leader.ballot number command) mails)
unfolding offered
offered_is number set command r mails = refl

slots_offer : (at : Sets) (course : Course) (slot : ℕ) (sets : List (List ℕ)) (r : ReplicaState) (mails : List Mail) → MayOffer at course r → AreAt at slot sets → next r ≤ slot → slot ≤ course.bound
    → slot + length sets ≡ next r + length r.sets → OffersBy at course (r, mails) (pumped_from slot sets (r, mails))
unfolding pumped_from
slots_offer at course slot [] r mails m are least most ends = none_offers at course r mails m r.acts r.backlog mails (λ who. refl)
slots_offer at course slot (set ∷ sets) r mails m are least most ends = by (λ c q others mc from to end. slots_offer at c (slot + 1) sets q others mc are.1 from to end)
  where
    goes : Found → Place
    goes f = elim (f.0) [ None ↦ f.1 | Some command ↦ pumped_from (slot + 1) sets (offered slot set command f.1) ]

    step : Bool → Place
    step b = cond b (pumped_from (slot + 1) sets (r, mails)) (cond (may_offer r set) (goes (found_for slot (r, mails))) (r, mails))

    Rest : Type 0
    Rest = (c : Course) (q : ReplicaState) (others : List Mail) → MayOffer at c q → next q ≤ slot + 1 → slot + 1 ≤ c.bound → (slot + 1) + length sets ≡ next q + length q.sets
        → OffersBy at c (q, others) (pumped_from (slot + 1) sets (q, others))

    found : Rest → course.bound ≡ slot → (o : Option Command) (acts backlog : List Command) (more : List Mail) → ((who : ℕ) → marks_for (name_of r) who more ≡ marks_for (name_of r) who mails)
        → OffersBy at course (r, mails) (goes (o, (record r { acts = acts; backlog = backlog }, more)))
    found rest fact None acts backlog more same = none_offers at course r mails m acts backlog more same
    found rest fact (Some command) acts backlog more same =
        let here : at course.bound ≡ set = ap at fact ∙ are.0 in
        let room : course.bound < next r + length r.sets = omega (arith, fact, ends) in
        let kept : ReplicaState = record r { acts = acts; backlog = backlog } in
        subst (λ (p : Place). OffersBy at course (r, mails) (pumped_from (slot + 1) sets p)) (sym (offered_is slot set command kept more))
        (subst (λ s. OffersBy at course (r, mails) (pumped_from (slot + 1) sets (record kept { leader = record r.leader { flights = r.leader.flights ++ (record { slot = s; value = command; voters = None }) ∷ [] } }, sent_all r.me set (Accept (name_of r) r.leader.ballot s command) more))) fact
        (one_more at course set command r mails m here room acts backlog more same (pumped_from (slot + 1) sets (begins at course set command r mails m here room acts backlog more same, sent_all r.me set (Accept (name_of r) r.leader.ballot course.bound command) more))
        (rest (to_bound (course.bound + 1) course) (begins at course set command r mails m here room acts backlog more same) (sent_all r.me set (Accept (name_of r) r.leader.ballot course.bound command) more)
        (may_begin at course set command r mails m here room acts backlog more same) (omega (arith, least)) (omega (arith, fact)) (omega (arith, ends)))))

    offering : Rest → course.bound ≡ slot → (b : Bool) → OffersBy at course (r, mails) (cond b (goes (found_for slot (r, mails))) (r, mails))
    offering rest fact true = found_keeps (λ f. OffersBy at course (r, mails) (goes f)) r mails (found rest fact) slot
    offering rest fact false = none_offers at course r mails m r.acts r.backlog mails (λ who. refl)

    by : Rest → OffersBy at course (r, mails) (step (is_some (taken_at r slot)))
    by rest = elim (cases_lt slot course.bound) [
      | inl lt ↦ subst (λ b. OffersBy at course (r, mails) (step b)) (sym (m.taken slot least lt)) (rest course r mails m (omega (arith, least)) (omega (arith, lt)) (omega (arith, ends)))
      | inr ge ↦ (let fact : course.bound ≡ slot = omega (arith, ge, most) in
          subst (λ (o : Option Command). OffersBy at course (r, mails) (step (is_some o))) (sym (m.free slot (omega (arith, fact)))) (offering rest fact (may_offer r set)))
    ]

-- A pump asks those that decide the slots behind what is in flight to accept what it offers, each slot's once, and nobody else; it leaves no other mark.
pub pumps_offer : PumpsOffer
unfolding pumped
pumps_offer at course (r, mails) m = by (settled r && nat_le (next r) last_slot)
  where
    by : (b : Bool) → OffersBy at course (r, mails) (cond b (pumped_from (next r) r.sets (r, mails)) (r, mails))
    by true = slots_offer at course (next r) r.sets r mails m m.sets (omega arith) m.low refl
    by false = none_offers at course r mails m r.acts r.backlog mails (λ who. refl)

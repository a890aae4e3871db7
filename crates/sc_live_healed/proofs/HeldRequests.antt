-- A request that a leader holds stays held while a row lasts, or its client is answered.
use Rattle.std.proofs.Common.{◌≡◌, ℕ, ◌≤◌, eqb, Bool, true, false, List, [], length, Option, Some, None, ◌⊎◌, inl, inr, refl, sym, ◌∙◌, ap, subst, arith}
use Rattle.std.specs.Option.{option_map}
use Rattle.std.proofs.lemmas.Bool.{cond_both, both_ways}
use Rattle.sc_base.specs.Definitions.{Among, Each}
use Rattle.sc_node_table.specs.Values.{Draw, Base, Command, AnswerBody, Value, NotLeader, NotMine, Gone, Stale, Mail, MailBody, Accept, Flight}
use Rattle.sc_words.specs.paxos.PaxosDefinitions.{LeaderState, without_flight, flight_at}
use Rattle.sc_words.proofs.PaxosProofs.PaxosLemmas.{Each-among, find_found}
use Rattle.sc_node_table.specs.NodeDefinitions.{ReplicaState, Place, next, at_slot, without_slot, flying, sent, stopped, offered, entered, forgotten, put_back, slot_lost, landed, same_command, ended, under_way, answered_all, dismissed_all}
use Rattle.sc_node_table.proofs.Lemmas.{decides_commands}
use Rattle.sc_law_walks.proofs.Talks.{all_answered, all_dismissed}
use Rattle.sc_law_walks.proofs.WalkLemmas.{grows, either_way, back_any, entered_next, cleared}
use Rattle.sc_live_plain.proofs.PlainRowsProofs.SlotCounts.{at_only, at_found, at_nothing, entries_at}
use Rattle.sc_live_plain.proofs.LeadersProofs.LeadingReplicas.{flights_at}
use Rattle.sc_live_plain.proofs.PlainRowsProofs.RepeatedMail.{mail_of, among_push, all_kept}
use Rattle.sc_live_healed.proofs.TakenRequests.{is_call, IsAtMost, AreApart, IsOurs, IsHeld, reply_mail, flight_found, held_answered, back_held, ours_back, flight_counts, entry_counts}
use Rattle.sc_live_healed.proofs.ApartSlots.{IsCleared, apart_cleared, cleared_held}

-- an answer that a client which waits takes notice of, from the node that it asked
abbrev pub Answers : AnswerBody → Type 0
Answers (Value reply) = Unit {0}
Answers (NotLeader (Some hint)) = Unit {0}
Answers (NotLeader None) = ⊥
Answers (NotMine arc succ) = ⊥
Answers (Gone into) = ⊥
Answers (Stale last) = ⊥

-- no request of the client at the replica has a greater number
pub record HasFew (client seq : ℕ) (r : ReplicaState) : Type 0 where
  pub backlog : Each (IsAtMost client seq) r.backlog
  pub flights : Each (λ (flight : Flight Command). IsAtMost client seq flight.value) r.leader.flights
  pub ready : Each (λ (entry : ℕ × Command). IsAtMost client seq entry.1) r.ready

-- what changes queues alone keeps the slots
pub back_apart : (command : Command) (r : ReplicaState) → AreApart r → AreApart (put_back command r)
back_apart command r p = back_any AreApart (λ x acts backlog k. record { once = k.once; open_ = k.open_ }) command r p

pub back_runs : (command : Command) (r : ReplicaState) (b : Bool) → r.running ≡ b → (put_back command r).running ≡ b
back_runs command r b e = back_any (λ x. x.running ≡ b) (λ x acts backlog k. k) command r e

module _ (base : Base) (me client seq : ℕ) (Elsewhere : Type 0) where
  -- the client is answered by these mails
  abbrev pub IsAnsweredBy : List Mail → Type 0
  IsAnsweredBy mails = (answer : AnswerBody) × Answers answer × Among (reply_mail client seq me base.core.id answer) mails

  -- a leader holds the request, or its client is answered, here or elsewhere
  abbrev pub HeldOr : Place → Type 0
  HeldOr (r, mails) = Elsewhere ⊎ ((r.running ≡ true) × IsHeld client seq r) ⊎ IsAnsweredBy mails

  -- nothing is lost where the replica goes on and mails are put behind
  pub held_on : (r after : ReplicaState) (mails more : List Mail) → (r.running ≡ true → after.running ≡ true) → (r.running ≡ true → IsHeld client seq r → IsHeld client seq after) → ((mail : Mail) → Among mail mails → Among mail more) → HeldOr (r, mails) → HeldOr (after, more)
  held_on r after mails more runs held grow (inl k) = inl k
  held_on r after mails more runs held grow (inr (inl k)) = inr (inl (runs k.0, held k.0 k.1))
  held_on r after mails more runs held grow (inr (inr k)) = inr (inr (k.0, k.1, grow (reply_mail client seq me base.core.id k.0) k.2))

  -- one mail more
  pub held_push : (r : ReplicaState) (mails : List Mail) (to : ℕ) (body : MailBody) → HeldOr (r, mails) → HeldOr (r, sent r.me to body mails)
  held_push r mails to body k = held_on r r mails (sent r.me to body mails) (λ on. on) (λ _ h. h) (λ mail a. among_push mails (mail_of r.me to body) mail a) k

  -- one that stops answers
  pub held_stops : (hint : ℕ) (r : ReplicaState) (mails : List Mail) → r.me ≡ me → r.group.core.id ≡ base.core.id → AreApart r → HeldOr (r, mails) → HeldOr (stopped (Some hint) (r, mails))
  unfolding ended
  held_stops hint r mails same name p (inl k) = inl k
  held_stops hint r mails same name p (inr (inl k)) =
      let said : List Mail = dismissed_all r.me r.group.core.id (Some hint) (NotLeader (Some hint)) r.backlog (answered_all r.me r.group.core.id (NotLeader (Some hint)) (under_way r) mails) in
      inr (inr (
        NotLeader (Some hint),
        tt,
        subst (λ (n : ℕ). Among (reply_mail client seq n base.core.id (NotLeader (Some hint))) said) same (subst (λ (d : Draw). Among (reply_mail client seq r.me d (NotLeader (Some hint))) said) name (held_answered client seq r.me r.group.core.id (NotLeader (Some hint)) (Some hint) r mails p k.1)),
      ))
  held_stops hint r mails same name p (inr (inr k)) =
      let Q : List Mail → Type 0 = λ ms. Among (reply_mail client seq me base.core.id k.0) ms in
      let more = grows r.me Q (λ ms mail a. among_push ms mail (reply_mail client seq me base.core.id k.0) a) in
      inr (inr (k.0, k.1, all_dismissed r.me Q more r.group.core.id (Some hint) (NotLeader (Some hint)) r.backlog _ (all_answered r.me Q more r.group.core.id (NotLeader (Some hint)) (under_way r) mails k.2)))

  -- what is sent to several nodes is put behind
  pub held_offers : (slot : ℕ) (set : List ℕ) (command : Command) (r : ReplicaState) (mails : List Mail) → (IsHeld client seq r → IsHeld client seq (offered slot set command (r, mails)).0) → HeldOr (r, mails) → HeldOr (offered slot set command (r, mails))
  unfolding offered
  held_offers slot set command r mails held k =
      held_on r (offered slot set command (r, mails)).0 mails (offered slot set command (r, mails)).1 (λ on. on) (λ _ h. held h) (λ mail a. all_kept r.me (Accept r.group.core.id r.leader.ballot slot command) set mails mail a) k

  -- ---- an entry

  -- what stands at a slot that is cleared
  pub enters_leader : (command : Command) (r : ReplicaState) → ((entered command r).leader ≡ r.leader) × ((entered command r).ready ≡ r.ready) × ((entered command r).backlog ≡ r.backlog) × ((entered command r).running ≡ r.running)
  unfolding entered forgotten
  enters_leader command r = (refl, refl, refl, refl)

  -- at the next slot something is ready, so nothing is in flight there, and nothing else is ready
  taken_next : (r : ReplicaState) (command : Command) → AreApart r → at_slot r.ready (next r) ≡ Some command
      → ((flight : Flight Command) → Among flight r.leader.flights → flight.slot ≡ next r → ⊥) × ((entry : ℕ × Command) → Among entry r.ready → entry.0 ≡ next r → command ≡ entry.1)
  taken_next r command p e =
      let ready = at_found r.ready (next r) command e in
      let most = p.once (next r) in
      let some = ready.0 in (
        λ flight a at. (let counts = subst (λ n. 1 ≤ flights_at n r.leader.flights) at (flight_counts r.leader.flights flight a) in omega (arith, counts, some, most)),
        λ entry a at. at_only r.ready (next r) command entry.1 (omega (arith, some, most)) e (subst (λ n. Among (n, entry.1) r.ready) at a),
      )

  -- nothing is ready at the next slot
  none_next : (r : ReplicaState) → at_slot r.ready (next r) ≡ None → (entry : ℕ × Command) → Among entry r.ready → entry.0 ≡ next r → ⊥
  none_next r e entry a at =
      let none = at_nothing r.ready (next r) e in
      let some = subst (λ n. 1 ≤ entries_at n r.ready) at (entry_counts r.ready entry a) in
      omega (arith, none, some)

  -- a counted command that is not the request leaves it held; the request itself is answered
  pub counted_other : (command : Command) (r rb after : ReplicaState) → AreApart rb → at_slot rb.ready (next rb) ≡ Some command → is_call client seq command ≡ false → IsCleared (next rb) rb after → after.backlog ≡ rb.backlog → IsHeld client seq rb → IsHeld client seq after
  counted_other command r rb after p e other c same held = elim (cleared_held client seq rb after c same held) [
    | inl kept ↦ kept
    | inr (inl f) ↦ absurd ((taken_next rb command p e).0 f.0 f.1 f.2)
    | inr (inr x) ↦ absurd (let own = (taken_next rb command p e).1 x.0 x.1 x.2 in both_ways (is_call client seq command) other (ap (is_call client seq) own ∙ x.3))
  ]

  -- where another command is learnt at the next slot, the request stays held or goes back to the queue
  module _ (command : Command) (r : ReplicaState) (few : HasFew client seq r) (p : AreApart r) (other : is_call client seq command ≡ false) (unready : at_slot r.ready (next r) ≡ None) where
    abbrev pub over : ReplicaState
    over = (cleared (next r) (entered command r, [])).0

    lost_same : (o : Option Command) (x : ReplicaState) → (IsHeld client seq x) → ((c : Command) → o ≡ Some c → IsAtMost client seq c) → IsHeld client seq (slot_lost false command o x)
    lost_same None x held low = held
    lost_same (Some c) x held low = either_way (λ (y : ReplicaState). IsHeld client seq y) (same_command c command) x (put_back c x) held (back_held client seq c x (low c refl) held)

    flying_low : (c : Command) → flying r (next r) ≡ Some c → IsAtMost client seq c
    flying_low c e = by (flight_at (next r) r.leader.flights) refl e
      where
        by : (o : Option (Flight Command)) → flight_at (next r) r.leader.flights ≡ o → option_map (λ (flight : Flight Command). flight.value) o ≡ Some c → IsAtMost client seq c
        by None fact q = cc
        by (Some flight) fact q =
            let found = find_found (λ (x : Flight Command). eqb x.slot (next r)) r.leader.flights flight fact in
            let value : flight.value ≡ c = cc in
            subst (IsAtMost client seq) value (Each-among (λ (x : Flight Command). IsAtMost client seq x.value) r.leader.flights flight few.flights found.0)

    -- the request itself was in flight there: it goes back
    lost_ours : (flight : Flight Command) (x : ReplicaState) → x.backlog ≡ r.backlog → IsOurs client seq flight.value → IsHeld client seq (slot_lost false command (Some flight.value) x)
    lost_ours flight x same ours =
        cond_both (same_command flight.value command) x (put_back flight.value x) (IsHeld client seq)
        (λ t. absurd (both_ways (is_call client seq command) other (ap (is_call client seq) (sym ((decides_commands flight.value command).0 t)) ∙ ours)))
        (λ _. ours_back client seq flight.value x ours (subst (Each (IsAtMost client seq)) (sym same) few.backlog))

    -- what is left at the slot of a learnt entry
    over_clears : length over.sets ≡ length r.sets → IsCleared (next r) r over
    over_clears many = (let e = enters_leader command r in record {
      flights = ap (λ (l : LeaderState Command). without_flight (next r) l.flights) e.0;
      ready = ap (λ (es : List (ℕ × Command)). without_slot es (next r)) e.1;
      next_is = entered_next command r;
      many = many;
    })

    learnt_by : (o : Option Command) → flying r (next r) ≡ o → length over.sets ≡ length r.sets → IsHeld client seq r → IsHeld client seq (slot_lost false command o over)
    learnt_by o e many held = elim (cleared_held client seq r over (over_clears many) (enters_leader command r).2 held) [
      | inl kept ↦ lost_same o over kept (λ c q. flying_low c (e ∙ q))
      | inr (inl x) ↦
          let one = p.once x.0.slot in
          let low : flights_at x.0.slot r.leader.flights ≤ 1 = omega (arith, one) in
          let found = flight_found client seq r.leader.flights x.0 x.1 low in
          let flies : flying r (next r) ≡ Some x.0.value = subst (λ n. option_map (λ (flight : Flight Command). flight.value) (flight_at n r.leader.flights) ≡ Some x.0.value) x.2 (ap (option_map (λ (flight : Flight Command). flight.value)) found) in
          subst (λ q. IsHeld client seq (slot_lost false command q over)) (sym flies ∙ e) (lost_ours x.0 over (enters_leader command r).2 x.3)
      | inr (inr x) ↦ absurd (none_next r unready x.0 x.1 x.2)
    ]

    pub learnt_held : (mails : List Mail) → length over.sets ≡ length r.sets → IsHeld client seq r → IsHeld client seq (landed false (next r) command (entered command r, mails)).0
    unfolding landed
    learnt_held mails many held = learnt_by (flying (entered command r) (next r)) (ap (λ (l : LeaderState Command). option_map (λ (flight : Flight Command). flight.value) (flight_at (next r) l.flights)) (sym (enters_leader command r).0)) many held

  -- the slots after a learnt entry
  lost_apart : (command : Command) (o : Option Command) (x : ReplicaState) → AreApart x → AreApart (slot_lost false command o x)
  lost_apart command None x k = k
  lost_apart command (Some c) x k = either_way AreApart (same_command c command) x (put_back c x) k (back_apart c x k)

  lost_runs : (command : Command) (o : Option Command) (x : ReplicaState) (b : Bool) → x.running ≡ b → (slot_lost false command o x).running ≡ b
  lost_runs command None x b k = k
  lost_runs command (Some c) x b k = either_way (λ (y : ReplicaState). y.running ≡ b) (same_command c command) x (put_back c x) k (back_runs c x b k)

  pub learnt_apart : (command : Command) (r : ReplicaState) (mails : List Mail) → AreApart r → length (entered command r).sets ≡ length r.sets → AreApart (landed false (next r) command (entered command r, mails)).0
  unfolding landed
  learnt_apart command r mails p many =
      lost_apart command (flying (entered command r) (next r)) (cleared (next r) (entered command r, mails)).0
      (apart_cleared r (cleared (next r) (entered command r, mails)).0 p (record {
        flights = ap (λ (l : LeaderState Command). without_flight (next r) l.flights) (enters_leader command r).0;
        ready = ap (λ (es : List (ℕ × Command)). without_slot es (next r)) (enters_leader command r).1;
        next_is = entered_next command r;
        many = many;
      }))

  pub learnt_runs : (command : Command) (r : ReplicaState) (mails : List Mail) (b : Bool) → r.running ≡ b → (landed false (next r) command (entered command r, mails)).0.running ≡ b
  unfolding landed
  learnt_runs command r mails b e = lost_runs command (flying (entered command r) (next r)) (cleared (next r) (entered command r, mails)).0 b ((enters_leader command r).3 ∙ e)

  pub learnt_mails : (command : Command) (r : ReplicaState) (mails : List Mail) → (landed false (next r) command (entered command r, mails)).1 ≡ mails
  unfolding landed
  learnt_mails command r mails = refl

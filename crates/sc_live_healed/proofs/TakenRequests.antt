-- Where a request stands at a leader: queued, in flight or ready; and what parts of a row do with it. No slot has two commands in flight or ready, and each that has one is open.
use Rattle.std.proofs.Common.{◌≡◌, ℕ, ◌+◌, ◌<◌, ◌≤◌, ◌&&◌, eqb, ltb, Bool, true, false, true≢false, List, [], ◌∷◌, ◌++◌, length, Option, Some, None, ◌⊎◌, inl, inr, refl, sym, ◌∙◌, ap, subst, arith}
use Rattle.std.specs.Option.{option_map}
use Rattle.std.proofs.lemmas.Bool.{cond_both, cond-true, cond-false, ltb-true, ltb-false, eqb-true, eq-eqb, and_parts, and_from}
use Rattle.sc_base.specs.Definitions.{Among, Each, client_actor}
use Rattle.sc_node_table.specs.Values.{Draw, Op, Command, Noop, Call, Join, Leave, Split, Begin, AnswerBody, Mail, Answer, Flight}
use Rattle.sc_words.specs.paxos.PaxosDefinitions.{flight_at}
use Rattle.sc_words.proofs.PaxosProofs.PaxosLemmas.{Each-among}
use Rattle.sc_node_table.specs.NodeDefinitions.{ReplicaState, next, taken_at, taken_from, open_slots, under_way, at_slot, either, listed, answered, answered_all, dismissed, dismissed_all, queued_number, without_request, is_request_of, put_back, request_before}
use Rattle.sc_law_walks.proofs.WalkLemmas.{grows}
use Rattle.sc_law_walks.proofs.Talks.{all_answered, all_dismissed}
use Rattle.sc_live_plain.specs.PlainDefinitions.{takers}
use Rattle.sc_live_plain.proofs.PlainRowsProofs.SlotCounts.{count-cons, one_yes, one_no, entries_at, find_none}
use Rattle.sc_live_plain.proofs.LeadersProofs.LeadingReplicas.{flights_at}
use Rattle.sc_live_plain.proofs.PlainRowsProofs.RepeatedMail.{mail_of, among_push, last_among}
use Rattle.sc_live_plain.proofs.PlainLemmas.{to_numbers}

-- ---- whose request a command is

-- whether a command is a client's request with a number
abbrev pub is_call : ℕ → ℕ → Command → Bool
is_call client seq (Call c s op) = eqb c client && eqb s seq
is_call client seq _ = false

-- a request is that client's, with that number
pub call_so : (client seq : ℕ) (command : Command) → is_call client seq command ≡ true → (op : Op) × (command ≡ Call client seq op)
call_so client seq (Call c s op) e =
    let both = and_parts (eqb c client) (eqb s seq) e in
    (op, ap (λ n. Call n s op) (eqb-true c client both.0) ∙ ap (λ n. Call client n op) (eqb-true s seq both.1))
call_so client seq Noop e = absurd (true≢false (sym e))
call_so client seq _ e = absurd (true≢false (sym e))

-- a request of the client has no greater number
abbrev pub IsAtMost : ℕ → ℕ → Command → Type 0
IsAtMost client seq (Call c s op) = c ≡ client → s ≤ seq
IsAtMost client seq _ = Unit {0}

-- ---- which slots are taken

-- no slot has two commands in flight or ready, and each that has one is open
pub record AreApart (r : ReplicaState) : Type 0 where
  pub once : (slot : ℕ) → takers r slot ≤ 1
  pub open_ : (slot : ℕ) → 1 ≤ takers r slot → (next r ≤ slot) × (slot < next r + length r.sets)

-- a flight stands at its slot
pub flight_counts : (fs : List (Flight Command)) (f : Flight Command) → Among f fs → 1 ≤ flights_at f.slot fs
flight_counts [] f a = absurd a
flight_counts (x ∷ fs) f (inl fact) =
    let c = count-cons (λ (y : Flight Command). eqb y.slot f.slot) x fs in
    let here = one_yes (eqb x.slot f.slot) (eq-eqb x.slot f.slot (ap (λ (y : Flight Command). y.slot) fact)) in omega (arith, c, here)
flight_counts (x ∷ fs) f (inr a) = (let c = count-cons (λ (y : Flight Command). eqb y.slot f.slot) x fs in let more = flight_counts fs f a in omega (arith, c, more))

-- an entry stands at its slot
pub entry_counts : (es : List (ℕ × Command)) (e : ℕ × Command) → Among e es → 1 ≤ entries_at e.0 es
entry_counts [] e a = absurd a
entry_counts (x ∷ es) e (inl fact) =
    let c = count-cons (λ (y : ℕ × Command). eqb y.0 e.0) x es in
    let here = one_yes (eqb x.0 e.0) (eq-eqb x.0 e.0 (ap (λ (y : ℕ × Command). y.0) fact)) in omega (arith, c, here)
entry_counts (x ∷ es) e (inr a) = (let c = count-cons (λ (y : ℕ × Command). eqb y.0 e.0) x es in let more = entry_counts es e a in omega (arith, c, more))

-- ---- what the client asked for

module _ (client seq : ℕ) where
  abbrev pub IsOurs : Command → Type 0
  IsOurs command = is_call client seq command ≡ true

  -- a leader holds the request: it is queued, in flight or ready
  pub data IsHeld (r : ReplicaState) : Type 0 where
    Queued : (command : Command) → Among command r.backlog → IsOurs command → IsHeld r
    Flying : (flight : Flight Command) → Among flight r.leader.flights → IsOurs flight.value → IsHeld r
    Ready : (entry : ℕ × Command) → Among entry r.ready → IsOurs entry.1 → IsHeld r

  -- ---- what is found at the slots

  pub flight_found : (fs : List (Flight Command)) (f : Flight Command) → Among f fs → flights_at f.slot fs ≤ 1 → flight_at f.slot fs ≡ Some f
  flight_found [] f a most = absurd a
  flight_found (x ∷ fs) f (inl fact) most =
      cond-true (eqb x.slot f.slot) (Some x) (flight_at f.slot fs) (eq-eqb x.slot f.slot (ap (λ (y : Flight Command). y.slot) fact)) ∙ ap Some fact
  flight_found (x ∷ fs) f (inr a) most =
      let c = count-cons (λ (y : Flight Command). eqb y.slot f.slot) x fs in
      let more = flight_counts fs f a in
      cond_both (eqb x.slot f.slot) (Some x) (flight_at f.slot fs) (λ o. o ≡ Some f)
      (λ t. (let one = one_yes (eqb x.slot f.slot) t in absurd (omega (arith, c, more, one, most))))
      (λ n. (let none = one_no (eqb x.slot f.slot) n in flight_found fs f a (omega (arith, c, none, most))))

  entry_found : (es : List (ℕ × Command)) (e : ℕ × Command) → Among e es → entries_at e.0 es ≤ 1 → at_slot es e.0 ≡ Some e.1
  entry_found [] e a most = absurd a
  entry_found (x ∷ es) e (inl fact) most =
      cond-true (eqb x.0 e.0) (Some x.1) (at_slot es e.0) (eq-eqb x.0 e.0 (ap (λ (y : ℕ × Command). y.0) fact)) ∙ ap (λ (y : ℕ × Command). Some y.1) fact
  entry_found (x ∷ es) e (inr a) most =
      let c = count-cons (λ (y : ℕ × Command). eqb y.0 e.0) x es in
      let more = entry_counts es e a in
      cond_both (eqb x.0 e.0) (Some x.1) (at_slot es e.0) (λ o. o ≡ Some e.1)
      (λ t. (let one = one_yes (eqb x.0 e.0) t in absurd (omega (arith, c, more, one, most))))
      (λ n. (let none = one_no (eqb x.0 e.0) n in entry_found es e a (omega (arith, c, none, most))))

  flying_taken : (r : ReplicaState) (f : Flight Command) → AreApart r → Among f r.leader.flights → taken_at r f.slot ≡ Some f.value
  flying_taken r f p a =
      let most = p.once f.slot in
      let low : flights_at f.slot r.leader.flights ≤ 1 = omega (arith, most) in
      ap (λ (o : Option (Flight Command)). either (option_map (λ (x : Flight Command). x.value) o) (at_slot r.ready f.slot)) (flight_found r.leader.flights f a low)

  ready_taken : (r : ReplicaState) (e : ℕ × Command) → AreApart r → Among e r.ready → taken_at r e.0 ≡ Some e.1
  ready_taken r e p a =
      let most = p.once e.0 in
      let here = entry_counts r.ready e a in
      let low : entries_at e.0 r.ready ≤ 1 = omega (arith, most) in
      let none : flights_at e.0 r.leader.flights ≡ 0 = omega (arith, most, here) in
      ap (λ (o : Option (Flight Command)). either (option_map (λ (x : Flight Command). x.value) o) (at_slot r.ready e.0)) (find_none (λ (f : Flight Command). eqb f.slot e.0) r.leader.flights none)
      ∙ entry_found r.ready e a low

  in_listed : {X : Type 0} (xs ys : List X) (x : X) → Among x xs ⊎ Among x ys → Among x (xs ++ ys)
  in_listed [] ys x (inl a) = absurd a
  in_listed [] ys x (inr a) = a
  in_listed (y ∷ xs) ys x (inl (inl same)) = inl same
  in_listed (y ∷ xs) ys x (inl (inr a)) = inr (in_listed xs ys x (inl a))
  in_listed (y ∷ xs) ys x (inr a) = inr (in_listed xs ys x (inr a))

  taken_among : (r : ReplicaState) (slots : List ℕ) (slot : ℕ) (command : Command) → Among slot slots → taken_at r slot ≡ Some command → Among command (taken_from r slots)
  taken_among r [] slot command a e = absurd a
  taken_among r (s ∷ slots) slot command (inl same) e =
      in_listed (listed (taken_at r s)) (taken_from r slots) command (inl (subst (λ (o : Option Command). Among command (listed o)) (sym (ap (taken_at r) same ∙ e)) (inl refl)))
  taken_among r (s ∷ slots) slot command (inr a) e = in_listed (listed (taken_at r s)) (taken_from r slots) command (inr (taken_among r slots slot command a e))

  -- what is in flight or ready is under way
  pub under_way_so : (r : ReplicaState) (slot : ℕ) (command : Command) → AreApart r → 1 ≤ takers r slot → taken_at r slot ≡ Some command → Among command (under_way r)
  under_way_so r slot command p some e = (let o = p.open_ slot some in taken_among r (open_slots r) slot command (to_numbers (next r) (length r.sets) slot o.0 o.1) e)

  -- ---- whoever stops answers all

  module _ (me : ℕ) (name : Draw) (answer : AnswerBody) where
    abbrev pub reply_mail : Mail
    reply_mail = mail_of me (client_actor client) (Answer name seq answer)

    answered_so : (command : Command) (mails : List Mail) → IsOurs command → Among reply_mail (answered me name answer command mails)
    unfolding answered
    answered_so command mails ours = (let c = call_so client seq command ours in subst (λ (x : Command). Among reply_mail (answered me name answer x mails)) (sym c.1) (last_among mails reply_mail))

    dismissed_so : (hint : Option ℕ) (command : Command) (mails : List Mail) → IsOurs command → Among reply_mail (dismissed me name hint answer command mails)
    unfolding dismissed
    dismissed_so hint command mails ours = (let c = call_so client seq command ours in subst (λ (x : Command). Among reply_mail (dismissed me name hint answer x mails)) (sym c.1) (last_among mails reply_mail))

    stays_among : (mail : Mail) → (mails : List Mail) (more : Mail) → Among mail mails → Among mail (mails ++ more ∷ [])
    stays_among mail mails more a = among_push mails more mail a

    pub all_answer : (commands : List Command) (command : Command) (mails : List Mail) → Among command commands → IsOurs command → Among reply_mail (answered_all me name answer commands mails)
    unfolding answered_all
    all_answer [] command mails a ours = absurd a
    all_answer (c ∷ commands) command mails (inl same) ours =
        all_answered me (λ ms. Among reply_mail ms) (grows me (λ ms. Among reply_mail ms) (stays_among reply_mail)) name answer commands (answered me name answer c mails) (answered_so c mails (subst IsOurs (sym same) ours))
    all_answer (c ∷ commands) command mails (inr a) ours = all_answer commands command (answered me name answer c mails) a ours

    pub all_dismiss : (hint : Option ℕ) (commands : List Command) (command : Command) (mails : List Mail) → Among command commands → IsOurs command → Among reply_mail (dismissed_all me name hint answer commands mails)
    unfolding dismissed_all
    all_dismiss hint [] command mails a ours = absurd a
    all_dismiss hint (c ∷ commands) command mails (inl same) ours =
        all_dismissed me (λ ms. Among reply_mail ms) (grows me (λ ms. Among reply_mail ms) (stays_among reply_mail)) name hint answer commands (dismissed me name hint answer c mails) (dismissed_so hint c mails (subst IsOurs (sym same) ours))
    all_dismiss hint (c ∷ commands) command mails (inr a) ours = all_dismiss hint commands command (dismissed me name hint answer c mails) a ours

    -- who holds the request answers its client
    pub held_answered : (hint : Option ℕ) (r : ReplicaState) (mails : List Mail) → AreApart r → IsHeld r → Among reply_mail (dismissed_all me name hint answer r.backlog (answered_all me name answer (under_way r) mails))
    held_answered hint r mails p (Queued command a ours) = all_dismiss hint r.backlog command (answered_all me name answer (under_way r) mails) a ours
    held_answered hint r mails p (Flying flight a ours) =
        let counts = flight_counts r.leader.flights flight a in
        all_dismissed me (λ ms. Among reply_mail ms) (grows me (λ ms. Among reply_mail ms) (stays_among reply_mail)) name hint answer r.backlog (answered_all me name answer (under_way r) mails)
        (all_answer (under_way r) flight.value mails (under_way_so r flight.slot flight.value p (omega (arith, counts)) (flying_taken r flight p a)) ours)
    held_answered hint r mails p (Ready entry a ours) =
        let counts = entry_counts r.ready entry a in
        all_dismissed me (λ ms. Among reply_mail ms) (grows me (λ ms. Among reply_mail ms) (stays_among reply_mail)) name hint answer r.backlog (answered_all me name answer (under_way r) mails)
        (all_answer (under_way r) entry.1 mails (under_way_so r entry.0 entry.1 p (omega (arith, counts)) (ready_taken r entry p a)) ours)

  -- ---- queues

  -- a request of the client that is queued has the number that is found, where no other is
  pub without_ours : (who : ℕ) (backlog : List Command) (command : Command) → Among command backlog → IsOurs command → (client ≡ who → queued_number backlog who ≡ Some seq → ⊥) → Among command (without_request backlog who)
  without_ours who [] command a ours other = absurd a
  without_ours who (c ∷ backlog) command (inl same) ours other =
      let our_c : IsOurs c = subst IsOurs (sym same) ours in
      let fact = call_so client seq c our_c in
      cond_both (is_request_of who c) backlog (c ∷ without_request backlog who) (Among command)
      (λ t. absurd (let own : client ≡ who = eqb-true client who (sym (ap (is_request_of who) fact.1) ∙ t) in other own (ap (λ (x : Command). queued_number (x ∷ backlog) who) fact.1 ∙ cond-true (eqb client who) (Some seq) (queued_number backlog who) (eq-eqb client who own))))
      (λ _. inl same)
  without_ours who (c ∷ backlog) command (inr a) ours other =
      cond_both (is_request_of who c) backlog (c ∷ without_request backlog who) (Among command) (λ _. a)
      (λ f. inr (without_ours who backlog command a ours (λ own e. other own (skipped c f e))))
    where
      skipped : (x : Command) → is_request_of who x ≡ false → queued_number backlog who ≡ Some seq → queued_number (x ∷ backlog) who ≡ Some seq
      skipped (Call cl s op) f e = cond-false (eqb cl who) (Some s) (queued_number backlog who) f ∙ e
      skipped Noop f e = e
      skipped _ f e = e

  -- a request whose number is found is queued
  pub queued_there : (who : ℕ) (backlog : List Command) (number : ℕ) → queued_number backlog who ≡ Some number → (op : Op) × Among (Call who number op) backlog
  queued_there who [] number e = absurd (none_some e)
    where
      none_some : {X : Type 0} {x : X} → None ≡ Some x → ⊥
      none_some e = cc
  queued_there who (Call cl s op ∷ backlog) number e =
      cond_both (eqb cl who) (Some s) (queued_number backlog who) (λ o. o ≡ Some number → (p : Op) × Among (Call who number p) (Call cl s op ∷ backlog))
      (λ t h. (let same : s ≡ number = same_number h in (op, inl (ap (λ n. Call n s op) (eqb-true cl who t) ∙ ap (λ n. Call who n op) same))))
      (λ _ h. (let more = queued_there who backlog number h in (more.0, inr more.1))) e
    where
      same_number : {a b : ℕ} → Some a ≡ Some b → a ≡ b
      same_number e = cc
  queued_there who (Noop ∷ backlog) number e = (let more = queued_there who backlog number e in (more.0, inr more.1))
  queued_there who (_ ∷ backlog) number e = (let more = queued_there who backlog number e in (more.0, inr more.1))

  pub ours_is : (op : Op) → IsOurs (Call client seq op)
  ours_is op = and_from (eqb client client) (eqb seq seq) (eq-eqb client client refl) (eq-eqb seq seq refl)

  -- a request that is queued stays so where another command goes back to the queue
  before_kept : (who number : ℕ) (op : Op) (o : Option ℕ) (backlog : List Command) (command : Command) → queued_number backlog who ≡ o → (who ≡ client → number ≤ seq) → Among command backlog → IsOurs command → Among command (request_before o who number (Call who number op) backlog)
  before_kept who number op None backlog command e low a ours = inr a
  before_kept who number op (Some other) backlog command e low a ours =
      cond_both (ltb other number) (Call who number op ∷ without_request backlog who) backlog (Among command)
      (λ t. inr (without_ours who backlog command a ours (λ own q. (
      let up = ltb-true other number t in
      let least = low (sym own) in
      let same : other ≡ seq = one_number (sym e ∙ q) in
      absurd (omega (arith, up, least, same))))))
      (λ _. a)
    where
      one_number : {a b : ℕ} → Some a ≡ Some b → a ≡ b
      one_number e = cc

  -- the request goes back to the queue
  before_ours : (op : Op) (o : Option ℕ) (backlog : List Command) → queued_number backlog client ≡ o → Each (IsAtMost client seq) backlog → (command : Command) × Among command (request_before o client seq (Call client seq op) backlog) × IsOurs command
  before_ours op None backlog e few = (Call client seq op, inl refl, ours_is op)
  before_ours op (Some other) backlog e few =
      cond_both (ltb other seq) (Call client seq op ∷ without_request backlog client) backlog (λ (cs : List Command). (command : Command) × Among command cs × IsOurs command)
      (λ _. (Call client seq op, inl refl, ours_is op))
      (λ f. (
      let there = queued_there client backlog other e in
      let most : other ≤ seq = Each-among (IsAtMost client seq) backlog (Call client other there.0) few there.1 refl in
      let least = ltb-false other seq f in
      let same : other ≡ seq = omega (arith, most, least) in
      (Call client seq there.0, subst (λ n. Among (Call client n there.0) backlog) same there.1, ours_is there.0)))

  -- another command goes back
  pub back_held : (command : Command) (r : ReplicaState) → IsAtMost client seq command → IsHeld r → IsHeld (put_back command r)
  unfolding put_back
  back_held (Call who number op) r low (Queued c a ours) = Queued c (before_kept who number op (queued_number r.backlog who) r.backlog c refl low a ours) ours
  back_held (Join node order) r low (Queued c a ours) = Queued c (inr a) ours
  back_held (Leave node order) r low (Queued c a ours) = Queued c (inr a) ours
  back_held (Split at child order) r low (Queued c a ours) = Queued c (inr a) ours
  back_held (Begin tx body order) r low (Queued c a ours) = Queued c (inr a) ours
  back_held _ r low (Queued c a ours) = Queued c a ours
  back_held Noop r low (Flying flight a ours) = Flying flight a ours
  back_held Noop r low (Ready entry a ours) = Ready entry a ours
  back_held _ r low (Flying flight a ours) = Flying flight a ours
  back_held _ r low (Ready entry a ours) = Ready entry a ours

  -- the request itself goes back
  pub ours_back : (command : Command) (r : ReplicaState) → IsOurs command → Each (IsAtMost client seq) r.backlog → IsHeld (put_back command r)
  unfolding put_back
  ours_back command r ours few =
      let fact = call_so client seq command ours in
      let b = before_ours fact.0 (queued_number r.backlog client) r.backlog refl few in
      subst (λ (c : Command). IsHeld (put_back c r)) (sym fact.1) (Queued b.0 b.1 b.2)

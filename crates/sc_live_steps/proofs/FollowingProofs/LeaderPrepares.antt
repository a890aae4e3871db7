-- Whatever a leader's row sends, it asks to promise right behind a state alone, from the slot after it on.
use Rattle.std.proofs.Common.{◌≡◌, ℕ, ◌+◌, ◌-◌, not, eqb, Bool, true, false, cond, List, [], ◌∷◌, ◌++◌, Option, Some, None, inl, inr, refl, sym, ◌∙◌, ap, subst, arith}
use Rattle.std.specs.List.{filter}
use Rattle.std.specs.Option.{option_map}
use Rattle.std.proofs.lemmas.Bool.{cond_both}
use Rattle.sc_base.specs.Definitions.{same_draw, is_member}
use Rattle.sc_node_table.specs.Values.{Noop, Ballot, Draw, Command, Mail, MailBody, Prepare, Accept, Learn, Install, Report}
use Rattle.sc_group_table.specs.machine.MachineDefinitions.{base_of, applied}
use Rattle.sc_words.specs.paxos.PaxosDefinitions.{promise_counted, without_flight_at}
use Rattle.sc_node_table.specs.NodeDefinitions.{entered, learnt_to, welcomed, landed, left, looked, executed_one, next_child, next_ready, ending, executed_ready, executed, install_to, welcomed_all, sent, sent_all, sent_others, offered, pumped, ReplicaState, Place, Executed, childless, listed, name_of, next, members, mailed, at_slot, without_slot, before_of, spoken, leads, promise_row}
use Rattle.sc_law_walks.specs.WalkDefinitions.{IfThere}
use Rattle.sc_law_walks.proofs.WalkLemmas.{idle_ready, TableOffers, pump_keeps}
use Rattle.sc_live_steps.specs.following.FollowingDefinitions.{Dated, marks_in, from_slot_of, dated_of, dated_for, AreLow, IsNoPrepare, AsksLow, RowsAskNext, Mark, Asks, Teaches, Installs, Prepares, mark_of, reached, Course, Sets, IsLed, IsNext, AreNext, marks_for}
use Rattle.sc_live_steps.proofs.FollowingProofs.QueueingRows.{aside_is, order_is}
use Rattle.sc_live_steps.proofs.FollowingProofs.CountedEntries.{entered_keeps, landed_taught, ends, entries_lead}
use Rattle.sc_live_steps.proofs.FollowingProofs.AskedSlots.{low-append, none_low, nothing, prepares_are_known}
use Rattle.sc_live_steps.proofs.FollowingProofs.EntryMail.{with_state, with_both}
use Rattle.sc_live_steps.proofs.FollowingProofs.ExecutedEntries.{stays_led, ready_of}
use Rattle.sc_live_steps.proofs.FollowingProofs.TakenVotes.{vote_row}
use Rattle.sc_live_steps.proofs.FollowingProofs.OutsideMail.{turned_kept, spoken_kept, ended_kept, announced_kept}

-- ---- the marks of mails behind others

append_dated : (xs ys zs : List Dated) → (xs ++ ys) ++ zs ≡ xs ++ (ys ++ zs)
append_dated [] ys zs = refl
append_dated (x ∷ xs) ys zs = ap (λ l. x ∷ l) (append_dated xs ys zs)

dated-append : (name : Draw) (who : ℕ) (xs ys : List Mail) → dated_for name who (xs ++ ys) ≡ dated_for name who xs ++ dated_for name who ys
dated-append name who [] ys = refl
dated-append name who (m ∷ xs) ys = by (eqb m.to who) (dated-append name who xs ys)
  where
    by : (b : Bool) → dated_for name who (xs ++ ys) ≡ dated_for name who xs ++ dated_for name who ys
        → dated_of name (cond b (m ∷ filter (λ x. eqb x.to who) (xs ++ ys)) (filter (λ x. eqb x.to who) (xs ++ ys))) ≡ dated_of name (cond b (m ∷ filter (λ x. eqb x.to who) xs) (filter (λ x. eqb x.to who) xs)) ++ dated_for name who ys
    by true rest = ap (λ l. listed (option_map (λ mark. (mark, from_slot_of m.body)) (mark_of name m.from m.body)) ++ l) rest ∙ sym (append_dated (listed (option_map (λ mark. (mark, from_slot_of m.body)) (mark_of name m.from m.body))) (dated_for name who xs) (dated_for name who ys))
    by false rest = rest

module _ (name : Draw) where
  abbrev Low : List Mail → Type 0
  Low mails = AsksLow name mails

  low_both : (xs ys : List Mail) → Low xs → Low ys → Low (xs ++ ys)
  low_both xs ys f g who next = subst (AreLow next) (sym (dated-append name who xs ys)) (low-append next (dated_for name who xs) (dated_for name who ys) (f who next) (g who (reached next (marks_in (dated_for name who xs)))))

  -- one mail that asks for no promise
  low_one : (mail : Mail) → ((mark : Mark) → mark_of name mail.from mail.body ≡ Some mark → IsNoPrepare mark) → Low (mail ∷ [])
  low_one mail unasked who at_next = by (eqb mail.to who)
    where
      each : (o : Option Mark) → mark_of name mail.from mail.body ≡ o → AreLow at_next (listed (option_map (λ mark. (mark, from_slot_of mail.body)) o) ++ [])
      each None e = tt
      each (Some mark) e = none_low at_next ((mark, from_slot_of mail.body) ∷ []) (unasked mark e, tt)

      by : (b : Bool) → AreLow at_next (dated_of name (cond b (mail ∷ []) []))
      by true = each (mark_of name mail.from mail.body) refl
      by false = tt

  -- what is kept by mails of no mark
  abbrev Keeps : List Mail → List Mail → Type 0
  Keeps mails more = Low mails → Low more

  keep : (mails : List Mail) (mail : Mail) → mark_of name mail.from mail.body ≡ None → Keeps mails (mails ++ mail ∷ [])
  keep mails mail e f = low_both mails (mail ∷ []) f (low_one mail (λ mark fact. (let bad : None ≡ Some mark = sym e ∙ fact in cc)))

  low_sent : (me to : ℕ) (body : MailBody) (mails : List Mail) → ((mark : Mark) → mark_of name me body ≡ Some mark → IsNoPrepare mark) → Keeps mails (sent me to body mails)
  low_sent me to body mails unasked f = low_both mails (record { from = me; to = to; body = body } ∷ []) f (low_one (record { from = me; to = to; body = body }) unasked)

  low_all : (me : ℕ) (body : MailBody) → ((mark : Mark) → mark_of name me body ≡ Some mark → IsNoPrepare mark) → (nodes : List ℕ) (mails : List Mail) → Keeps mails (sent_all me nodes body mails)
  unfolding sent_all
  low_all me body unasked [] mails f = f
  low_all me body unasked (node ∷ nodes) mails f = low_all me body unasked nodes (sent me node body mails) (low_sent me node body mails unasked f)

  low_others : (me : ℕ) (body : MailBody) → ((mark : Mark) → mark_of name me body ≡ Some mark → IsNoPrepare mark) → (nodes : List ℕ) (mails : List Mail) → Keeps mails (sent_others me nodes body mails)
  unfolding sent_others
  low_others me body unasked [] mails f = f
  low_others me body unasked (node ∷ nodes) mails f = low_others me body unasked nodes (cond (eqb node me) mails (sent me node body mails)) (cond_both (eqb node me) mails (sent me node body mails) Low (λ _. f) (λ _. low_sent me node body mails unasked f))

  -- a mark of this kind
  module _ (group : Draw) (mark : Mark) (unasked : IsNoPrepare mark) where
    named_unasked : (other : Mark) → cond (same_draw group name) (Some mark) None ≡ Some other → IsNoPrepare other
    named_unasked other = by (same_draw group name)
      where
        by : (b : Bool) → cond b (Some mark) None ≡ Some other → IsNoPrepare other
        by true e = (let same : mark ≡ other = cc in subst IsNoPrepare same unasked)
        by false e = cc

  -- ---- those that come

  joined : (mails : List Mail) (one two : Mail) → (mails ++ one ∷ []) ++ two ∷ [] ≡ mails ++ one ∷ two ∷ []
  joined [] one two = refl
  joined (m ∷ mails) one two = ap (λ l. m ∷ l) (joined mails one two)

  module _ (r : ReplicaState) where
    abbrev state_to : ℕ → Mail
    state_to node = record { from = r.me; to = node; body = Install (name_of r) (next r - 1) (base_of r.group) r.sets }

    abbrev promise_to : ℕ → Mail
    promise_to node = record { from = r.me; to = node; body = Prepare (name_of r) r.leader.ballot (next r) }

    low_pair : (node : ℕ) → Low (state_to node ∷ promise_to node ∷ [])
    low_pair node who next_ = by (eqb node who)
      where
        each : (b : Bool) → AreLow next_ (listed (option_map (λ mark. (mark, 0)) (cond b (Some (Installs (next r - 1))) None)) ++ (listed (option_map (λ mark. (mark, next r)) (cond b (Some (Prepares r.leader.ballot)) None)) ++ []))
        each true = (tt, (omega arith, tt))
        each false = tt

        by : (b : Bool) → AreLow next_ (dated_of name (cond b (state_to node ∷ cond b (promise_to node ∷ []) []) (cond b (promise_to node ∷ []) [])))
        by true = each (same_draw (name_of r) name)
        by false = tt

    low_welcome : (nodes : List ℕ) (mails : List Mail) → Low mails → Low (welcomed_all nodes (r, mails)).1
    unfolding welcomed_all install_to
    low_welcome [] mails f = f
    low_welcome (node ∷ nodes) mails f = by r.leader.is_first (λ more g. low_welcome nodes more g)
      where
        by : (b : Bool) → ((more : List Mail) → Low more → Low (welcomed_all nodes (r, more)).1) → Low (welcomed_all nodes (cond {A = Place} b (r, with_state 0 r node mails) (r, with_both 0 r node mails))).1
        by true rest = rest (with_state 0 r node mails) (low_sent r.me node (Install (name_of r) (next r - 1) (base_of r.group) r.sets) mails (named_unasked (name_of r) (Installs (next r - 1)) tt) f)
        by false rest = rest (with_both 0 r node mails) (subst Low (sym (joined mails (state_to node) (promise_to node))) (low_both mails (state_to node ∷ promise_to node ∷ []) f (low_pair node)))

  -- ---- the pump

  low_offered : (slot : ℕ) (set : List ℕ) (command : Command) (r : ReplicaState) (mails : List Mail) → Low mails → Low (offered slot set command (r, mails)).1
  unfolding offered
  low_offered slot set command r mails f = low_all r.me (Accept (name_of r) r.leader.ballot slot command) (named_unasked (name_of r) (Asks r.leader.ballot slot) tt) set mails f

  low_offers : TableOffers (λ (place : Place). Low place.1)
  low_offers = record {
    turned = λ command answer backlog r mails on e no f. turned_kept name Keeps (λ _ g. g) (λ a b c one other g. other (one g)) keep r.me r.group.core.id command answer mails f;
    offers_value = λ slot set command r mails on at free e f. low_offered slot set command r mails f;
    offers_noop = λ slot set r mails on at free gap f. low_offered slot set Noop r mails f;
    offers_act = λ slot set act acts r mails on at free e f. low_offered slot set act (record r { acts = acts }) mails f;
    offers_call = λ slot set command backlog r mails on at free e f. low_offered slot set command (record r { backlog = backlog }) mails f;
  }

  pub low_pumped : (r : ReplicaState) (mails : List Mail) → Low mails → Low (pumped (r, mails)).1
  low_pumped r mails f = (pump_keeps (λ (place : Place). Low place.1) low_offers (r, mails) f).0

  -- ---- an entry

  module _ (at : Sets) (course : Course) (command : Command) (r : ReplicaState) (mails : List Mail) (led : IsLed at course r) (is_next : IsNext at command r) (f : Low mails) where
    module _ (acts backlog : List Command) (more : List Mail) (g : Low more) where
      abbrev here : ReplicaState
      here = record (entered command r) { acts = acts; backlog = backlog }

      abbrev told : Place
      told = welcomed true (members r) (learnt_to true (members r) (next r) command (here, more))

      abbrev over : ReplicaState
      over = record here { leader = without_flight_at (next r) here.leader; ready = without_slot here.ready (next r) }

      low_taught : Low told.1
      unfolding welcomed learnt_to
      low_taught = low_welcome here (filter (λ node. not (is_member (members r) node)) (members here)) _ (low_others here.me (Learn (name_of here) (next r) command) (named_unasked (name_of here) (Teaches (next r)) tt) (members r) more g)

      low_past : Low (looked (left (landed true (next r) command told))).1
      low_past =
          subst (λ (p : Place). Low (looked (left p)).1) (sym (landed_taught (members r) (next r) command here more))
          (ends (λ p. Low p.1) over told.1 ((entered_keeps command r).0 ∙ led.running) is_next.roster (λ stands stays. low_taught) (λ why hint answer. ended_kept name Keeps (λ _ h. h) (λ a b c one other h. other (one h)) keep hint answer over told.1 low_taught))

    pub low_entry : Low (executed_one true command (r, mails)).1
    unfolding executed_one
    low_entry =
        announced_kept name Keeps (λ _ h. h) (λ a b c one other h. other (one h)) keep
        (λ place1. Low (looked (left (landed true (next r) command (welcomed true (members r) (learnt_to true (members r) (next r) command (spoken true (before_of r.group.core) (applied r.group command).1 command place1)))))).1)
        (entered command r) mails
        (λ acts backlog more kept.
        let q : ReplicaState = record (entered command r) { acts = acts; backlog = backlog } in
        let said : Place = spoken true (before_of r.group.core) (applied r.group command).1 command (q, more) in
        let fact = spoken_kept name Keeps (λ _ h. h) (λ a b c one other h. other (one h)) keep (before_of r.group.core) (applied r.group command).1 command q more in
        subst (λ (x : ReplicaState). Low (looked (left (landed true (next r) command (welcomed true (members r) (learnt_to true (members r) (next r) command (x, said.1)))))).1) (sym fact.0) (low_past acts backlog said.1 (fact.1 (kept f))))
        (applied r.group command).1 command

-- ---- all that is executed at once

module _ (name : Draw) (at : Sets) (course : Course) (command : Command) (place : Place) (led : IsLed at course place.0) (ready : at_slot place.0.ready (next place.0) ≡ Some command) (is_next : IsNext at command place.0) (f : AsksLow name place.1) where
  abbrev mid : Place
  mid = executed_one true command place

  low_mid : AsksLow name mid.1
  low_mid = low_entry name at course command place.0 place.1 led is_next f

  step_low : (es : List (ℕ × Command)) → (IsLed at course mid.0 → AsksLow name mid.1 → AsksLow name (executed_ready es mid).0.1) → AsksLow name (pumped (executed_ready es mid).0).1
  step_low es rest = elim ((entries_lead at course command place led is_next).state) [
    | inl on ↦ low_pumped name (executed_ready es mid).0.0 (executed_ready es mid).0.1 (rest (subst (IsLed at course) (sym on.fact) (stays_led at course command place.0 led ready is_next on.acts on.backlog on.stands on.stays)) low_mid)
    | inr off ↦ (let still : mid.0.running ≡ false = ap (λ (q : ReplicaState). q.running) off.fact in
        low_pumped name (executed_ready es mid).0.0 (executed_ready es mid).0.1 (subst (λ (s : Executed). AsksLow name s.0.1) (sym (idle_ready es mid still)) low_mid))
  ]

ready_low : (name : Draw) (at : Sets) (course : Course) (es : List (ℕ × Command)) (place : Place) → IsLed at course place.0 → AreNext at es place → AsksLow name place.1 → AsksLow name (executed_ready es place).0.1
unfolding executed_ready
ready_low name at course [] place led are f = f
ready_low name at course (e ∷ es) place led are f = by (next_ready place.0) refl are (λ q l a g. ready_low name at course es q l a g)
  where
    Goes : Executed → Type 0
    Goes s = AsksLow name s.0.1

    by : (x : Option Command) → next_ready place.0 ≡ x → IfThere (λ command. IsNext at command place.0 × AreNext at es (executed_one true command place)) (Unit {0}) x
        → ((q : Place) → IsLed at course q.0 → AreNext at es q → AsksLow name q.1 → Goes (executed_ready es q))
        → Goes (elim x [ None ↦ childless place | Some command ↦ ending (next_child command place.0) (executed_ready es (executed_one true command place)) ])
    by None i one more = f
    by (Some command) i one more = step_low name at course command place led (ready_of command place.0 i) one.0 f es (λ l g. more (executed_one true command place) l one.1 g)

executed_low : (name : Draw) (at : Sets) (course : Course) (command : Command) (place : Place) → IsLed at course place.0 → at_slot place.0.ready (next place.0) ≡ Some command → IsNext at command place.0
    → AreNext at (executed_one true command place).0.ready (executed_one true command place) → AsksLow name place.1 → AsksLow name (executed true command place).0.1
unfolding executed
executed_low name at course command place led ready is_next are f =
    let then : Place = executed_one true command place in
    step_low name at course command place led ready is_next f then.0.ready (λ l g. ready_low name at course then.0.ready then l are g)

-- ---- rows

promise_low : (name : Draw) (from : ℕ) (ballot : Ballot) (reports : List (Report Command)) (r : ReplicaState) → AsksLow name (promise_row from ballot reports (r, [])).1
unfolding promise_row
promise_low name from ballot reports r = by (leads ballot r)
  where
    by : (b : Bool) → AsksLow name (cond b (pumped (record r { leader = (promise_counted from ballot reports r.leader).1 }, [])) (r, [])).1
    by true = low_pumped name (record r { leader = (promise_counted from ballot reports r.leader).1 }) [] (λ who next_. tt)
    by false = λ who next_. tt

module _ (r : ReplicaState) where
  quiet_low : (top : Ballot) (acts backlog : List Command) (more : List Mail) → ((who : ℕ) → marks_for (name_of r) who more ≡ []) → AsksLow (name_of r) more
  quiet_low top acts backlog more none who next_ = subst (AreLow next_) (sym (nothing (dated_for (name_of r) who more) (prepares_are_known.same (name_of r) who more ∙ none who))) tt

  pump_low : (acts backlog : List Command) → AsksLow (name_of r) (pumped (record r { acts = acts; backlog = backlog }, [])).1
  pump_low acts backlog = low_pumped (name_of r) (record r { acts = acts; backlog = backlog }) [] (λ who next_. tt)

-- Each row of a replica that leads asks to promise its ballot right behind a state that it sends, from the slot after it on.
pub rows_ask_next : RowsAskNext
unfolding mailed
rows_ask_next = record {
  votes = λ at now from ballot slot r rosters was decides.
      vote_row at now from ballot slot r rosters was decides (λ e. AsksLow (name_of r) e.0.1) (λ mid c keeps who next_. tt)
      (λ command mid c ready entries before keeps. executed_low (name_of r) at now.course command (mid, []) c.led ready entries.0 entries.1 (λ who next_. tt));
  promises = λ at now from ballot reports r was. promise_low (name_of r) from ballot reports r;
  asides = λ at now from body r was aside. aside_is (λ p. AsksLow (name_of r) p.1) r was.led.running (quiet_low r) (pump_low r) from body aside;
  orders = λ at now on drawer line r was. order_is (λ p. AsksLow (name_of r) p.1) r was.led.running (quiet_low r) (pump_low r) on drawer line;
}

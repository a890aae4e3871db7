-- Whatever a leader's row sends, each state of its group among it is from its own node.
use Rattle.std.proofs.Common.{◌≡◌, ℕ, ◌+◌, ◌-◌, not, eqb, Bool, true, false, true≢false, cond, List, [], ◌∷◌, ◌++◌, Option, Some, None, inl, inr, refl, sym, ◌∙◌, ap, subst}
use Rattle.std.specs.List.{filter}
use Rattle.std.proofs.lemmas.Bool.{cond_both, eq-eqb}
use Rattle.sc_base.specs.Definitions.{Among, Each, Drawer, IsRoster, is_member}
use Rattle.sc_node_table.specs.Values.{Noop, Ballot, Draw, Command, Base, OrderLine, Mail, MailBody, Prepare, Promise, Accept, Accepted, Learn, Install, Report}
use Rattle.sc_group_table.specs.machine.MachineDefinitions.{base_of, applied}
use Rattle.sc_words.specs.paxos.PaxosDefinitions.{promise_counted, without_flight_at}
use Rattle.sc_words.proofs.PaxosProofs.PaxosLemmas.{Each-append}
use Rattle.sc_node_table.specs.declared.ReplicaInput.TheVariants as Given
use Rattle.sc_node_table.specs.NodeDefinitions.{entered, learnt_to, welcomed, landed, left, looked, executed_one, next_child, next_ready, ending, executed_ready, executed, install_to, welcomed_all, sent, sent_all, sent_others, offered, pumped, ReplicaState, Place, Executed, childless, listed, name_of, next, members, mailed, stepped, at_slot, without_slot, before_of, spoken, leads, promise_row}
use Rattle.sc_law_walks.specs.WalkDefinitions.{IfThere}
use Rattle.sc_law_walks.proofs.WalkLemmas.{idle_ready, TableOffers, pump_keeps}
use Rattle.sc_live_steps.specs.following.FollowingDefinitions.{Mark, Installs, mark_of, marks_of, Course, Progress, Sets, IsLed, IsNext, AreNext, IsLeadOf, IsAside, DecidesNext, marks_for}
use Rattle.sc_live_steps.proofs.FollowingProofs.FollowingLemmas.{aside_is, order_is, entered_keeps, landed_taught, ends, entries_lead, with_state, with_both, stays_led, ready_of, among-left, among-right, same_mark, vote_row, turned_kept, spoken_kept, ended_kept, announced_kept}
use Rattle.sc_live_journals.specs.groups.GroupDefinitions.{IsStateFrom}
pub use Rattle.sc_words.proofs.PaxosProofs.ListLemmas.{Each-from as each_among}

-- a mail's mark is among those for its receiver
pub among_marks : (name : Draw) (mails : List Mail) (mail : Mail) (mark : Mark) → Among mail mails → mark_of name mail.from mail.body ≡ Some mark → Among mark (marks_for name mail.to mails)
among_marks name [] mail mark a fact = absurd a
among_marks name (m ∷ mails) mail mark a fact = by (eqb m.to mail.to) refl a (λ later. among_marks name mails mail mark later fact)
  where
    here : m ≡ mail → Among mark (listed (mark_of name m.from m.body) ++ marks_for name mail.to mails)
    here same = among-left mark (listed (mark_of name m.from m.body)) (marks_for name mail.to mails) (subst (λ o. Among mark (listed o)) (sym (ap (λ (x : Mail). mark_of name x.from x.body) same ∙ fact)) (inl refl))

    by : (b : Bool) → eqb m.to mail.to ≡ b → Among mail (m ∷ mails) → (Among mail mails → Among mark (marks_for name mail.to mails))
        → Among mark (marks_of name (cond b (m ∷ filter (λ x. eqb x.to mail.to) mails) (filter (λ x. eqb x.to mail.to) mails)))
    by true e (inl same) rest = here same
    by true e (inr later) rest = among-right mark (listed (mark_of name m.from m.body)) (marks_for name mail.to mails) (rest later)
    by false e (inl same) rest = absurd (true≢false (sym (eq-eqb m.to mail.to (ap (λ (x : Mail). x.to) same)) ∙ e))
    by false e (inr later) rest = rest later

module _ (name : Draw) (own : ℕ) where
  abbrev Own : List Mail → Type 0
  Own mails = Each (IsStateFrom name own) mails

  -- mail that is no state of the group
  abbrev IsNoState : MailBody → Type 0
  IsNoState body = (slot : ℕ) (state : Base) (sets : List (List ℕ)) → body ≡ Install name slot state sets → ⊥

  own_one : (me to : ℕ) (body : MailBody) (mails : List Mail) → IsNoState body → Own mails → Own (sent me to body mails)
  own_one me to body mails none f = Each-append (IsStateFrom name own) mails (record { from = me; to = to; body = body } ∷ []) f ((λ slot state sets fact. absurd (none slot state sets fact)), tt)

  -- a node that sends a state sends it as its own
  own_sent : (me to : ℕ) (body : MailBody) (mails : List Mail) → me ≡ own → Own mails → Own (sent me to body mails)
  own_sent me to body mails mine f = Each-append (IsStateFrom name own) mails (record { from = me; to = to; body = body } ∷ []) f ((λ slot state sets fact. mine), tt)

  -- what is kept by mails of no mark
  abbrev Keeps : List Mail → List Mail → Type 0
  Keeps mails more = Own mails → Own more

  keep : (mails : List Mail) (mail : Mail) → mark_of name mail.from mail.body ≡ None → Keeps mails (mails ++ mail ∷ [])
  keep mails mail e f = Each-append (IsStateFrom name own) mails (mail ∷ []) f
      ((λ slot state sets fact. (let bad : None ≡ Some (Installs slot) = sym e ∙ (ap (mark_of name mail.from) fact ∙ same_mark name (Installs slot)) in cc)), tt)

  own_all : (me : ℕ) (body : MailBody) → IsNoState body → (nodes : List ℕ) (mails : List Mail) → Keeps mails (sent_all me nodes body mails)
  unfolding sent_all
  own_all me body none [] mails f = f
  own_all me body none (node ∷ nodes) mails f = own_all me body none nodes (sent me node body mails) (own_one me node body mails none f)

  own_others : (me : ℕ) (body : MailBody) → IsNoState body → (nodes : List ℕ) (mails : List Mail) → Keeps mails (sent_others me nodes body mails)
  unfolding sent_others
  own_others me body none [] mails f = f
  own_others me body none (node ∷ nodes) mails f = own_others me body none nodes (cond (eqb node me) mails (sent me node body mails)) (cond_both (eqb node me) mails (sent me node body mails) Own (λ _. f) (λ _. own_one me node body mails none f))

  no_offer : (group : Draw) (ballot : Ballot) (at : ℕ) (command : Command) → IsNoState (Accept group ballot at command)
  no_offer group ballot at command slot state sets e = cc

  no_entry : (group : Draw) (at : ℕ) (command : Command) → IsNoState (Learn group at command)
  no_entry group at command slot state sets e = cc

  -- ---- those that come

  module _ (r : ReplicaState) (mine : r.me ≡ own) where
    own_welcome : (nodes : List ℕ) (mails : List Mail) → Own mails → Own (welcomed_all nodes (r, mails)).1
    unfolding welcomed_all install_to
    own_welcome [] mails f = f
    own_welcome (node ∷ nodes) mails f = by r.leader.is_first (λ more g. own_welcome nodes more g)
      where
        by : (b : Bool) → ((more : List Mail) → Own more → Own (welcomed_all nodes (r, more)).1) → Own (welcomed_all nodes (cond {A = Place} b (r, with_state 0 r node mails) (r, with_both 0 r node mails))).1
        by true rest = rest (with_state 0 r node mails) (own_sent r.me node (Install (name_of r) (next r - 1) (base_of r.group) r.sets) mails mine f)
        by false rest = rest (with_both 0 r node mails)
            (own_sent r.me node (Prepare (name_of r) r.leader.ballot (next r)) (with_state 0 r node mails) mine (own_sent r.me node (Install (name_of r) (next r - 1) (base_of r.group) r.sets) mails mine f))

  -- ---- the pump

  own_offered : (slot : ℕ) (set : List ℕ) (command : Command) (r : ReplicaState) (mails : List Mail) → Own mails → Own (offered slot set command (r, mails)).1
  unfolding offered
  own_offered slot set command r mails f = own_all r.me (Accept (name_of r) r.leader.ballot slot command) (no_offer (name_of r) r.leader.ballot slot command) set mails f

  pump_offers : TableOffers (λ (place : Place). Own place.1)
  pump_offers = record {
    turned = λ command answer backlog r mails on e no f. turned_kept name Keeps (λ _ g. g) (λ a b c one other g. other (one g)) keep r.me r.group.core.id command answer mails f;
    offers_value = λ slot set command r mails on at free e f. own_offered slot set command r mails f;
    offers_noop = λ slot set r mails on at free gap f. own_offered slot set Noop r mails f;
    offers_act = λ slot set act acts r mails on at free e f. own_offered slot set act (record r { acts = acts }) mails f;
    offers_call = λ slot set command backlog r mails on at free e f. own_offered slot set command (record r { backlog = backlog }) mails f;
  }

  pub own_pumped : (r : ReplicaState) (mails : List Mail) → Own mails → Own (pumped (r, mails)).1
  own_pumped r mails f = (pump_keeps (λ (place : Place). Own place.1) pump_offers (r, mails) f).0

  -- ---- an entry

  module _ (at : Sets) (course : Course) (command : Command) (r : ReplicaState) (mails : List Mail) (led : IsLed at course r) (is_next : IsNext at command r) (mine : r.me ≡ own) (f : Own mails) where
    module _ (acts backlog : List Command) (more : List Mail) (g : Own more) where
      abbrev here : ReplicaState
      here = record (entered command r) { acts = acts; backlog = backlog }

      abbrev told : Place
      told = welcomed true (members r) (learnt_to true (members r) (next r) command (here, more))

      abbrev over : ReplicaState
      over = record here { leader = without_flight_at (next r) here.leader; ready = without_slot here.ready (next r) }

      own_told : Own told.1
      unfolding welcomed learnt_to
      own_told = own_welcome here ((entered_keeps command r).3 ∙ mine) (filter (λ node. not (is_member (members r) node)) (members here)) _ (own_others here.me (Learn (name_of here) (next r) command) (no_entry (name_of here) (next r) command) (members r) more g)

      own_past : Own (looked (left (landed true (next r) command told))).1
      own_past =
          subst (λ (p : Place). Own (looked (left p)).1) (sym (landed_taught (members r) (next r) command here more))
          (ends (λ p. Own p.1) over told.1 ((entered_keeps command r).0 ∙ led.running) is_next.roster (λ stands stays. own_told) (λ why hint answer. ended_kept name Keeps (λ _ h. h) (λ a b c one other h. other (one h)) keep hint answer over told.1 own_told))

    pub own_entry : Own (executed_one true command (r, mails)).1
    unfolding executed_one
    own_entry =
        announced_kept name Keeps (λ _ h. h) (λ a b c one other h. other (one h)) keep
        (λ place1. Own (looked (left (landed true (next r) command (welcomed true (members r) (learnt_to true (members r) (next r) command (spoken true (before_of r.group.core) (applied r.group command).1 command place1)))))).1)
        (entered command r) mails
        (λ acts backlog more kept.
        let q : ReplicaState = record (entered command r) { acts = acts; backlog = backlog } in
        let said : Place = spoken true (before_of r.group.core) (applied r.group command).1 command (q, more) in
        let fact = spoken_kept name Keeps (λ _ h. h) (λ a b c one other h. other (one h)) keep (before_of r.group.core) (applied r.group command).1 command q more in
        subst (λ (x : ReplicaState). Own (looked (left (landed true (next r) command (welcomed true (members r) (learnt_to true (members r) (next r) command (x, said.1)))))).1) (sym fact.0) (own_past acts backlog said.1 (fact.1 (kept f))))
        (applied r.group command).1 command

-- ---- all that is executed at once

module _ (name : Draw) (own : ℕ) (at : Sets) (course : Course) (command : Command) (place : Place) (led : IsLed at course place.0) (ready : at_slot place.0.ready (next place.0) ≡ Some command) (is_next : IsNext at command place.0) (mine : place.0.me ≡ own) (f : Own name own place.1) where
  abbrev mid : Place
  mid = executed_one true command place

  own_mid : Own name own mid.1
  own_mid = own_entry name own at course command place.0 place.1 led is_next mine f

  own_step : (es : List (ℕ × Command)) → (IsLed at course mid.0 → mid.0.me ≡ own → Own name own mid.1 → Own name own (executed_ready es mid).0.1) → Own name own (pumped (executed_ready es mid).0).1
  own_step es rest = elim ((entries_lead at course command place led is_next).state) [
    | inl on ↦ own_pumped name own (executed_ready es mid).0.0 (executed_ready es mid).0.1 (rest (subst (IsLed at course) (sym on.fact) (stays_led at course command place.0 led ready is_next on.acts on.backlog on.stands on.stays)) (ap (λ (q : ReplicaState). q.me) on.fact ∙ ((entered_keeps command place.0).3 ∙ mine)) own_mid)
    | inr off ↦ (let still : mid.0.running ≡ false = ap (λ (q : ReplicaState). q.running) off.fact in
        own_pumped name own (executed_ready es mid).0.0 (executed_ready es mid).0.1 (subst (λ (s : Executed). Own name own s.0.1) (sym (idle_ready es mid still)) own_mid))
  ]

own_ready : (name : Draw) (own : ℕ) (at : Sets) (course : Course) (es : List (ℕ × Command)) (place : Place) → IsLed at course place.0 → AreNext at es place → place.0.me ≡ own → Own name own place.1 → Own name own (executed_ready es place).0.1
unfolding executed_ready
own_ready name own at course [] place led are mine f = f
own_ready name own at course (e ∷ es) place led are mine f = by (next_ready place.0) refl are (λ q l a m g. own_ready name own at course es q l a m g)
  where
    Goes : Executed → Type 0
    Goes s = Own name own s.0.1

    by : (x : Option Command) → next_ready place.0 ≡ x → IfThere (λ command. IsNext at command place.0 × AreNext at es (executed_one true command place)) (Unit {0}) x
        → ((q : Place) → IsLed at course q.0 → AreNext at es q → q.0.me ≡ own → Own name own q.1 → Goes (executed_ready es q))
        → Goes (elim x [ None ↦ childless place | Some command ↦ ending (next_child command place.0) (executed_ready es (executed_one true command place)) ])
    by None i one more = f
    by (Some command) i one more = own_step name own at course command place led (ready_of command place.0 i) one.0 mine f es (λ l m g. more (executed_one true command place) l one.1 m g)

own_executed : (name : Draw) (own : ℕ) (at : Sets) (course : Course) (command : Command) (place : Place) → IsLed at course place.0 → at_slot place.0.ready (next place.0) ≡ Some command → IsNext at command place.0
    → AreNext at (executed_one true command place).0.ready (executed_one true command place) → place.0.me ≡ own → Own name own place.1 → Own name own (executed true command place).0.1
unfolding executed
own_executed name own at course command place led ready is_next are mine f =
    let then : Place = executed_one true command place in
    own_step name own at course command place led ready is_next mine f then.0.ready (λ l m g. own_ready name own at course then.0.ready then l are m g)

-- ---- rows

own_promise : (name : Draw) (own from : ℕ) (ballot : Ballot) (reports : List (Report Command)) (r : ReplicaState) → Own name own (promise_row from ballot reports (r, [])).1
unfolding promise_row
own_promise name own from ballot reports r = by (leads ballot r)
  where
    by : (b : Bool) → Own name own (cond b (pumped (record r { leader = (promise_counted from ballot reports r.leader).1 }, [])) (r, [])).1
    by true = own_pumped name own (record r { leader = (promise_counted from ballot reports r.leader).1 }) [] tt
    by false = tt

module _ (at : Sets) (now : Progress) (own : ℕ) (r : ReplicaState) (was : IsLeadOf at now r) (mine : r.me ≡ own) where
  -- what leaves no mark has no state
  own_quiet : (top : Ballot) (acts backlog : List Command) (more : List Mail) → ((who : ℕ) → marks_for (name_of r) who more ≡ []) → Own (name_of r) own more
  own_quiet top acts backlog more none = each_among (IsStateFrom (name_of r) own) more (λ mail a slot state sets fact.
      absurd (subst (Among (Installs slot)) (none mail.to) (among_marks (name_of r) more mail (Installs slot) a (ap (mark_of (name_of r) mail.from) fact ∙ same_mark (name_of r) (Installs slot)))))

  own_offers : (acts backlog : List Command) → Own (name_of r) own (pumped (record r { acts = acts; backlog = backlog }, [])).1
  own_offers acts backlog = own_pumped (name_of r) own (record r { acts = acts; backlog = backlog }) [] tt

  pub votes_own : (from : ℕ) (ballot : Ballot) (slot : ℕ) → ((s : ℕ) → IsRoster (at s)) → DecidesNext at from ballot slot r → Own (name_of r) own (mailed from (Accepted (name_of r) ballot slot) (r, [])).0.1
  unfolding mailed
  votes_own from ballot slot rosters decides =
      vote_row at now from ballot slot r rosters was decides (λ e. Own (name_of r) own e.0.1) (λ mid c keeps. tt)
      (λ command mid c ready entries before keeps. own_executed (name_of r) own at now.course command (mid, []) c.led ready entries.0 entries.1 (c.same_me ∙ mine) tt)

  pub promises_own : (from : ℕ) (ballot : Ballot) (reports : List (Report Command)) → Own (name_of r) own (mailed from (Promise (name_of r) ballot reports) (r, [])).0.1
  unfolding mailed
  promises_own from ballot reports = own_promise (name_of r) own from ballot reports r

  pub asides_own : (from : ℕ) (body : MailBody) → IsAside r body → Own (name_of r) own (mailed from body (r, [])).0.1
  asides_own from body aside = aside_is (λ p. Own (name_of r) own p.1) r was.led.running own_quiet own_offers from body aside

  pub orders_own : (on : Bool) (drawer : Drawer) (line : OrderLine) → Own (name_of r) own (stepped on drawer (Given.Told line) (r, [])).0.1
  orders_own on drawer line = order_is (λ p. Own (name_of r) own p.1) r was.led.running own_quiet own_offers on drawer line

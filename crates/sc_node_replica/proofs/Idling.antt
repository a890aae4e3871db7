-- A pump that leaves all as it is finds nothing, and asks nobody.
use Rattle.std.proofs.Common.{◌≡◌, ℕ, ◌+◌, ◌<◌, ◌≤◌, Bool, true, false, List, [], ◌∷◌, length, Option, Some, None, is_some, refl, sym, ◌∙◌, ap, subst, arith, if◌then◌else◌, get_or, drop, suc, add-one}
use Rattle.std.proofs.Math.Seq.{drop-cons}
use Rattle.std.proofs.lemmas.List.{length_push}
use Rattle.std.specs.List.{list_any}
use Rattle.sc_words.specs.declared.commands.commands.Command.{Command}
use Rattle.sc_words.specs.declared.commands.cores.Core.{Core}
use Rattle.sc_mail.specs.declared.bodies.AnswerBody.{AnswerBody}
use Rattle.sc_mail.specs.declared.bodies.Mail.{Mail}
use Rattle.sc_words.specs.paxos.Choice.{chosen_value, names_above}
use Rattle.sc_words.specs.declared.paxos.answers.Must.{Must}
use Rattle.sc_words.specs.declared.paxos.answers.Must.TheVariants.{Value, Gap, Free}
use Rattle.sc_words.specs.paxos.Leaders.{must, must_without}
use Rattle.sc_node_table.specs.Mails.{answered}
use Rattle.sc_node_table.specs.Replica.{ReplicaState, Place, may_offer, taken_at, under_way, is_idle}
use Rattle.sc_node_table.specs.Pump.{Found, is_act, waits, turned_down, next_queued, from_backlog, from_acts, from_queues, found_by, found_for, offered, pumped_from}
use Rattle.sc_node_parts.proofs.ReplicaProofs.AppendedMail.{answered-before, sent_all-before}

-- ---- mails are only appended

call-before : (b : Bool) (down : Option AnswerBody) (waiting : Option Command × List Command × List Mail) (command : Command) (backlog : List Command) (mails : List Mail) (on : AnswerBody → Option Command × List Command × List Mail)
    → waiting.2 ≡ mails → ((answer : AnswerBody) → (on answer).2 ≡ [] → mails ≡ [])
    → (if b then waiting else elim down [ None ↦ (Some command, backlog, mails) | Some answer ↦ on answer ]).2 ≡ [] → mails ≡ []
call-before true down waiting command backlog mails on same rest e = sym same ∙ e
call-before false None waiting command backlog mails on same rest e = e
call-before false (Some answer) waiting command backlog mails on same rest e = rest answer e

pub next_queued-before : (me : ℕ) (idle : Bool) (core : Core) (backlog : List Command) (mails : List Mail) → (next_queued me idle core backlog mails).2 ≡ [] → mails ≡ []
unfolding next_queued
next_queued-before me idle core [] mails e = e
next_queued-before me idle core (command ∷ backlog) mails e =
    call-before (waits idle core.lock command) (turned_down core command) (None, command ∷ backlog, mails) command backlog mails
    (λ answer. next_queued me idle core backlog (answered me core.id answer command mails)) refl
    (λ answer h. answered-before me core.id answer command mails (next_queued-before me idle core backlog _ h)) e

backlog-before : (place : Place) → (from_backlog place).1.1 ≡ [] → place.1 ≡ []
unfolding from_backlog
backlog-before place e = next_queued-before place.0.me (is_idle place.0) place.0.group.core place.0.backlog place.1 e

found-before : (b : Bool) (x y : Found) (mails : List Mail) → (x.1.1 ≡ [] → mails ≡ []) → (y.1.1 ≡ [] → mails ≡ []) → (if b then x else y).1.1 ≡ [] → mails ≡ []
found-before true x y mails p q e = p e
found-before false x y mails p q e = q e

acts-before : (acts : List Command) (place : Place) → (from_acts acts place).1.1 ≡ [] → place.1 ≡ []
acts-before [] place e = backlog-before place e
acts-before (act ∷ acts) place e = found-before (is_idle place.0) _ _ place.1 (λ h. h) (λ h. h) e

queues-before : (place : Place) → (from_queues place).1.1 ≡ [] → place.1 ≡ []
unfolding from_queues
queues-before place e = found-before (list_any is_act (under_way place.0)) _ (from_acts place.0.acts place) place.1 (λ h. h) (acts-before place.0.acts place) e

by-before : (what : Must Command) (place : Place) → (found_by what place).1.1 ≡ [] → place.1 ≡ []
by-before (Value command) place e = e
by-before Gap place e = e
by-before Free place e = queues-before place e

pub found_for-before : (slot : ℕ) (place : Place) → (found_for slot place).1.1 ≡ [] → place.1 ≡ []
unfolding found_for
found_for-before slot place e = by-before (must slot place.0.leader) place e

offered-before : (slot : ℕ) (set : List ℕ) (command : Command) (place : Place) → (offered slot set command place).1 ≡ [] → place.1 ≡ []
unfolding offered
offered-before slot set command place e = sent_all-before place.0.me set _ place.1 e

slot-before : (taken may : Bool) (o : Option Command) (place next : Place) (on : Place → Place) (put : Command → Place)
    → ((p : Place) → (on p).1 ≡ [] → p.1 ≡ []) → (next.1 ≡ [] → place.1 ≡ []) → ((command : Command) → (put command).1 ≡ [] → next.1 ≡ [])
    → (if taken then on place else if may then elim o [ None ↦ next | Some command ↦ on (put command) ] else place).1 ≡ [] → place.1 ≡ []
slot-before true may o place next on put rest found offers e = rest place e
slot-before false true None place next on put rest found offers e = found e
slot-before false true (Some command) place next on put rest found offers e = found (offers command (rest (put command) e))
slot-before false false o place next on put rest found offers e = e

pub pumped_from-before : (slot : ℕ) (sets : List (List ℕ)) (place : Place) → (pumped_from slot sets place).1 ≡ [] → place.1 ≡ []
unfolding pumped_from
pumped_from-before slot [] place e = e
pumped_from-before slot (set ∷ sets) place e =
    let found = found_for slot place in
    slot-before (is_some (taken_at place.0 slot)) (may_offer place.0 set) found.0 place found.1
    (λ p. pumped_from (slot + 1) sets p) (λ command. offered slot set command found.1)
    (λ p. pumped_from-before (slot + 1) sets p) (found_for-before slot place)
    (λ command. offered-before slot set command found.1) e

-- ---- nothing leaves the flights

-- how many values are in flight
abbrev pub flying_count : Place → ℕ
flying_count place = length place.0.leader.flights

either-count : (b : Bool) (x y : Found) (n : ℕ) → flying_count x.1 ≡ n → flying_count y.1 ≡ n → flying_count (if b then x else y).1 ≡ n
either-count true x y n p q = p
either-count false x y n p q = q

backlog-count : (place : Place) → flying_count (from_backlog place).1 ≡ flying_count place
unfolding from_backlog
backlog-count place = refl

acts-count : (acts : List Command) (place : Place) → flying_count (from_acts acts place).1 ≡ flying_count place
acts-count [] place = backlog-count place
acts-count (act ∷ acts) place = either-count (is_idle place.0) _ _ (flying_count place) refl refl

queues-count : (place : Place) → flying_count (from_queues place).1 ≡ flying_count place
unfolding from_queues
queues-count place = either-count (list_any is_act (under_way place.0)) _ (from_acts place.0.acts place) (flying_count place) refl (acts-count place.0.acts place)

by-count : (what : Must Command) (place : Place) → flying_count (found_by what place).1 ≡ flying_count place
by-count (Value command) place = refl
by-count Gap place = refl
by-count Free place = queues-count place

found_for-count : (slot : ℕ) (place : Place) → flying_count (found_for slot place).1 ≡ flying_count place
unfolding found_for
found_for-count slot place = by-count (must slot place.0.leader) place

offered-count : (slot : ℕ) (set : List ℕ) (command : Command) (place : Place) → flying_count (offered slot set command place) ≡ flying_count place + 1
unfolding offered
offered-count slot set command place = length_push place.0.leader.flights _

slot-count : (taken may : Bool) (o : Option Command) (place next : Place) (on : Place → Place) (put : Command → Place)
    → ((p : Place) → flying_count p ≤ flying_count (on p)) → flying_count next ≡ flying_count place → ((command : Command) → flying_count (put command) ≡ flying_count next + 1)
    → flying_count place ≤ flying_count (if taken then on place else if may then elim o [ None ↦ next | Some command ↦ on (put command) ] else place)
slot-count true may o place next on put rest found offers = rest place
slot-count false true None place next on put rest found offers = omega (arith, found)
slot-count false true (Some command) place next on put rest found offers = omega (arith, found, offers command, rest (put command))
slot-count false false o place next on put rest found offers = omega arith

pub pumped_from-count : (slot : ℕ) (sets : List (List ℕ)) (place : Place) → flying_count place ≤ flying_count (pumped_from slot sets place)
unfolding pumped_from
pumped_from-count slot [] place = omega arith
pumped_from-count slot (set ∷ sets) place =
    let found = found_for slot place in
    slot-count (is_some (taken_at place.0 slot)) (may_offer place.0 set) found.0 place found.1
    (λ p. pumped_from (slot + 1) sets p) (λ command. offered slot set command found.1)
    (λ p. pumped_from-count (slot + 1) sets p) (found_for-count slot place)
    (λ command. offered-count slot set command found.1)

-- ---- a slot at which a pump that leaves all as it is may offer: nothing is found there

slot-idle : (taken may : Bool) (o : Option Command) (place next : Place) (on : Place → Place) (put : Command → Place)
    → ((p : Place) → flying_count p ≤ flying_count (on p)) → flying_count next ≡ flying_count place → ((command : Command) → flying_count (put command) ≡ flying_count next + 1)
    → taken ≡ false → may ≡ true
    → (if taken then on place else if may then elim o [ None ↦ next | Some command ↦ on (put command) ] else place) ≡ place → (o ≡ None) × (next ≡ place)
slot-idle true may o place next on put rest found offers t m e = absurd (cc)
slot-idle false false o place next on put rest found offers t m e = absurd (cc)
slot-idle false true None place next on put rest found offers t m e = (refl, e)
slot-idle false true (Some command) place next on put rest found offers t m e =
    let same : flying_count (on (put command)) ≡ flying_count place = ap flying_count e in
    absurd (omega (arith, found, offers command, rest (put command), same))

pub pumped_from-idle : (slot : ℕ) (set : List ℕ) (sets : List (List ℕ)) (place : Place) → is_some (taken_at place.0 slot) ≡ false → may_offer place.0 set ≡ true
    → pumped_from slot (set ∷ sets) place ≡ place → ((found_for slot place).0 ≡ None) × ((found_for slot place).1 ≡ place)
unfolding pumped_from
pumped_from-idle slot set sets place t m e =
    let found = found_for slot place in
    slot-idle (is_some (taken_at place.0 slot)) (may_offer place.0 set) found.0 place found.1
    (λ p. pumped_from (slot + 1) sets p) (λ command. offered slot set command found.1)
    (λ p. pumped_from-count (slot + 1) sets p) (found_for-count slot place)
    (λ command. offered-count slot set command found.1) t m e

-- where nothing is found, nothing must be proposed
unmet : (above : Bool) (o : Option Command) (place : Place) → (found_by (must_without above o) place).0 ≡ None → o ≡ None
unmet above None place e = refl
unmet above (Some command) place e = absurd (cc)

pub found_for-none : (slot : ℕ) (place : Place) → (found_for slot place).0 ≡ None → chosen_value slot place.0.leader.reports ≡ None
unfolding found_for
found_for-none slot place e = unmet (names_above slot place.0.leader.reports) (chosen_value slot place.0.leader.reports) place e

-- ---- what is found does not depend on the mails that are there

call-unread : (b : Bool) (down : Option AnswerBody) (x y : Option Command × List Command × List Mail) (command : Command) (backlog : List Command) (mails more : List Mail)
    (on by : AnswerBody → Option Command × List Command × List Mail) → x.0 ≡ y.0 → ((answer : AnswerBody) → (on answer).0 ≡ (by answer).0)
    → (if b then x else elim down [ None ↦ (Some command, backlog, mails) | Some answer ↦ on answer ]).0 ≡ (if b then y else elim down [ None ↦ (Some command, backlog, more) | Some answer ↦ by answer ]).0
call-unread true down x y command backlog mails more on by same rest = same
call-unread false None x y command backlog mails more on by same rest = refl
call-unread false (Some answer) x y command backlog mails more on by same rest = rest answer

next_queued-unread : (me : ℕ) (idle : Bool) (core : Core) (backlog : List Command) (mails more : List Mail) → (next_queued me idle core backlog mails).0 ≡ (next_queued me idle core backlog more).0
unfolding next_queued
next_queued-unread me idle core [] mails more = refl
next_queued-unread me idle core (command ∷ backlog) mails more =
    call-unread (waits idle core.lock command) (turned_down core command) (None, command ∷ backlog, mails) (None, command ∷ backlog, more) command backlog mails more
    (λ answer. next_queued me idle core backlog (answered me core.id answer command mails)) (λ answer. next_queued me idle core backlog (answered me core.id answer command more)) refl
    (λ answer. next_queued-unread me idle core backlog _ _)

backlog-unread : (r : ReplicaState) (mails more : List Mail) → (from_backlog (r, mails)).0 ≡ (from_backlog (r, more)).0
unfolding from_backlog
backlog-unread r mails more = next_queued-unread r.me (is_idle r) r.group.core r.backlog mails more

either-unread : (b : Bool) (x y v w : Found) → x.0 ≡ v.0 → y.0 ≡ w.0 → (if b then x else y).0 ≡ (if b then v else w).0
either-unread true x y v w p q = p
either-unread false x y v w p q = q

acts-unread : (acts : List Command) (r : ReplicaState) (mails more : List Mail) → (from_acts acts (r, mails)).0 ≡ (from_acts acts (r, more)).0
acts-unread [] r mails more = backlog-unread r mails more
acts-unread (act ∷ acts) r mails more = either-unread (is_idle r) _ _ _ _ refl refl

queues-unread : (r : ReplicaState) (mails more : List Mail) → (from_queues (r, mails)).0 ≡ (from_queues (r, more)).0
unfolding from_queues
queues-unread r mails more = either-unread (list_any is_act (under_way r)) _ _ _ _ refl (acts-unread r.acts r mails more)

by-unread : (what : Must Command) (r : ReplicaState) (mails more : List Mail) → (found_by what (r, mails)).0 ≡ (found_by what (r, more)).0
by-unread (Value command) r mails more = refl
by-unread Gap r mails more = refl
by-unread Free r mails more = queues-unread r mails more

pub found_for-unread : (slot : ℕ) (r : ReplicaState) (mails more : List Mail) → (found_for slot (r, mails)).0 ≡ (found_for slot (r, more)).0
unfolding found_for
found_for-unread slot r mails more = by-unread (must slot r.leader) r mails more

-- ---- one slot of a pump

-- a slot at which a command is found
slot-offered : (taken may : Bool) (got : Found) (place found : Place) (command : Command) (on : Place → Place) (put : Command → Place → Place) → taken ≡ false → may ≡ true → (Some command, found) ≡ got
    → on (put command found) ≡ (if taken then on place else if may then elim (got.0) [ None ↦ got.1 | Some c ↦ on (put c got.1) ] else place)
slot-offered true may got place found command on put t m is = absurd (cc)
slot-offered false false got place found command on put t m is = absurd (cc)
slot-offered false true got place found command on put t m is =
    let P : Found → Type 0 = λ g. on (put command found) ≡ (elim (g.0) [ None ↦ g.1 | Some c ↦ on (put c g.1) ]) in
    subst P is refl

slot-goes : (slot : ℕ) (set : List ℕ) (sets : List (List ℕ)) (place found : Place) (command : Command) → is_some (taken_at place.0 slot) ≡ false → may_offer place.0 set ≡ true
    → (Some command, found) ≡ found_for slot place → pumped_from (slot + 1) sets (offered slot set command found) ≡ pumped_from slot (set ∷ sets) place
unfolding pumped_from
slot-goes slot set sets place found command t m is =
    slot-offered (is_some (taken_at place.0 slot)) (may_offer place.0 set) (found_for slot place) place found command (λ p. pumped_from (slot + 1) sets p) (λ c p. offered slot set c p) t m is

pub pumped_from-offered : (first i : ℕ) (sets : List (List ℕ)) (place found : Place) (command : Command) → i < length sets
    → is_some (taken_at place.0 (first + i)) ≡ false → may_offer place.0 (get_or sets i []) ≡ true → (Some command, found) ≡ found_for (first + i) place
    → pumped_from (first + (i + 1)) (drop (i + 1) sets) (offered (first + i) (get_or sets i []) command found) ≡ pumped_from (first + i) (drop i sets) place
pumped_from-offered first i sets place found command h t m is =
    let e : first + (i + 1) ≡ first + i + 1 = omega arith in
    let after : Place = offered (first + i) (get_or sets i []) command found in
    ap (λ n. pumped_from n (drop (i + 1) sets) after) e
    ∙ ap (λ n. pumped_from (first + i + 1) (drop n sets) after) (add-one i)
    ∙ slot-goes (first + i) (get_or sets i []) (drop (suc i) sets) place found command t m is
    ∙ ap (λ xs. pumped_from (first + i) xs place) (sym (drop-cons sets i [] h))

-- where all is left as it is, none is found at a slot where the leader may offer
pub idle_at : (first i : ℕ) (self r : ReplicaState) → i < length r.sets → self ≡ r → is_some (taken_at self (first + i)) ≡ false → may_offer self (get_or self.sets i []) ≡ true
    → pumped_from (first + i) (drop i r.sets) (r, []) ≡ (r, []) → ((found_for (first + i) (self, [])).0 ≡ None) × ((found_for (first + i) (self, [])).1 ≡ (self, []))
idle_at first i self r within eq t m e =
    let whole : pumped_from (first + i) (drop i self.sets) (self, []) ≡ (self, []) = subst (λ (s : ReplicaState). pumped_from (first + i) (drop i s.sets) (s, []) ≡ (s, [])) (sym eq) e in
    let inside : i < length self.sets = subst (λ (s : ReplicaState). i < length s.sets) (sym eq) within in
    pumped_from-idle (first + i) (get_or self.sets i []) (drop (suc i) self.sets) (self, []) t m (ap (λ xs. pumped_from (first + i) xs (self, [])) (sym (drop-cons self.sets i [] inside)) ∙ whole)

-- what is found, under the name that a match gives it
pub found-some : (o : Option Command) (command : Command) (place : Place) (got : Found) → o ≡ Some command → (let found : Found = (o, place) in found) ≡ got → (let found : Found = (Some command, place) in found) ≡ got
found-some o command place got some is = ap (λ (x : Option Command). (let found : Found = (x, place) in found)) (sym some) ∙ is

pub found-clash : (slot : ℕ) (r : ReplicaState) (mails : List Mail) (command : Command) (place : Place) → (Some command, place) ≡ found_for slot (r, mails) → (found_for slot (r, [])).0 ≡ None → ⊥
found-clash slot r mails command place is none =
    let some : Some command ≡ (found_for slot (r, [])).0 = ap (λ found. found.0) is ∙ found_for-unread slot r mails [] in
    cc

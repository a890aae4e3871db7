-- One entry of a plain journal, executed by the replica that leads, and by another.
use Rattle.std.proofs.Common.{◌≡◌, ℕ, ◌+◌, ◌≤◌, not, Bool, true, false, List, [], ◌∷◌, ◌++◌, map, filter, Option, Some, None, inl, inr, refl, sym, ◌∙◌, ap, arith}
use Rattle.std.proofs.lemmas.Bool.{cond-true, cond-false}
use Rattle.sc_base.specs.Definitions.{Among, is_member}
use Rattle.sc_node_table.specs.Values.{Op, Command, Call, Core, Lock, Free, Effect, Route, AnswerBody, Mail, Learn}
use Rattle.sc_group_table.specs.machine.MachineDefinitions.{applied}
use Rattle.sc_node_table.specs.declared.Before.{Before}
use Rattle.sc_node_table.specs.NodeDefinitions.{entered, answer_of, answered_or_put_back, effect_reported, announced, learnt_to, welcomed, slot_lost, landed, left, is_among, looked_for, looked, executed_one, welcomed_all, answer_to, sent_others, ReplicaState, Place, name_of, next, members, flying, forgotten, waits_in, rest_of, numbers_from, slots_ahead, before_of, spoken, spoken_mails, begun_reported, went_on}
use Rattle.sc_law_walks.proofs.WalkLemmas.{floor_under, entered_next, cleared}
use Rattle.sc_paxos_law.proofs.Lemmas.{among-member}
use Rattle.sc_live_plain.specs.PlainDefinitions.{Frame, IsFrame, Requests, IsPlainGroup, IsPlainReplica}
use Rattle.sc_live_steps.proofs.CalmStepsProofs.CountedPotential.{left_stays, looked_stays}
use Rattle.sc_live_steps.proofs.FollowingProofs.FollowerTables.{left_same as left_stopped}

-- ---- members

none_passes : (p : ℕ → Bool) (xs : List ℕ) → ((x : ℕ) → Among x xs → p x ≡ false) → filter p xs ≡ []
none_passes p [] f = refl
none_passes p (x ∷ xs) f = cond-false (p x) (x ∷ filter p xs) (filter p xs) (f x (inl refl)) ∙ none_passes p xs (λ y a. f y (inr a))

-- no member is new
pub none_new : (before now : List ℕ) → now ≡ before → filter (λ node. not (is_member before node)) now ≡ []
none_new before now e = none_passes (λ node. not (is_member before node)) now (λ x a. ap not (ap (λ xs. is_member xs x) (sym e) ∙ among-member now x a))

-- ---- the log

module _ (begun : Requests) (frame : Frame) (fact : IsFrame frame) where
  waits_none : (lock : Lock) (waits : ℕ) → lock ≡ Free → waits_in lock waits ≡ 0
  waits_none lock waits e = ap (λ l. waits_in l waits) e

  -- the open slots after an entry
  sets_next : (n : ℕ) (sets : List (List ℕ)) (members : List ℕ) → frame.from ≤ n → sets ≡ map frame.at (numbers_from n slots_ahead) → members ≡ frame.core.members
      → rest_of sets ++ members ∷ [] ≡ map frame.at (numbers_from (n + 1) slots_ahead)
  sets_next n sets members low e m =
      let last : frame.at (n + 1 + 1 + 1 + 1) ≡ members = fact.later (n + 1 + 1 + 1 + 1) (omega (arith, low)) ∙ sym m in
      ap (λ s. rest_of s ++ members ∷ []) e ∙ ap (λ set. frame.at (n + 1) ∷ frame.at (n + 1 + 1) ∷ frame.at (n + 1 + 1 + 1) ∷ set ∷ []) (sym last)

  pub entered_plain : (me : ℕ) (command : Command) (r : ReplicaState) → IsPlainGroup begun frame (applied r.group command).0 → IsPlainReplica begun frame me r → IsPlainReplica begun frame me (entered command r)
  unfolding entered forgotten
  entered_plain me command r g p =
      let up = entered_next command r in
      let low = p.floor_low in
      let cut = floor_under (next r) (omega arith) in
      let begins = p.begins in
      record {
        me_is = p.me_is;
        group = g;
        hint_is = p.hint_is;
        top_low = p.top_low;
        promised_low = p.promised_low;
        floor_low = omega (arith, up, low, cut);
        begins = omega (arith, up, begins);
        sets_are = sets_next (next r) r.sets (applied r.group command).0.core.members p.begins p.sets_are (ap (λ (core : Core). core.members) g.core_is) ∙ ap (λ n. map frame.at (numbers_from n slots_ahead)) (sym up);
        acts = p.acts;
        waits = waits_none (applied r.group command).0.core.lock r.waits (ap (λ (core : Core). core.lock) g.core_is ∙ fact.free);
      }

-- ---- the parts of an execution, where nothing but a call happens

announced_call : (client seq : ℕ) (op : Op) (effect : Effect) (answer : AnswerBody) (r : ReplicaState) (mails : List Mail) → answer_of effect ≡ Some answer
    → announced true effect (Call client seq op) (r, mails) ≡ (r, answer_to r.me (name_of r) client seq answer mails)
unfolding announced answered_or_put_back effect_reported
announced_call client seq op effect answer r mails e = ap (λ (o : Option AnswerBody). answered_or_put_back o (Call client seq op) (r, mails)) e

announced_learnt : (client seq : ℕ) (op : Op) (effect : Effect) (place : Place) → announced false effect (Call client seq op) place ≡ place
unfolding announced effect_reported
announced_learnt client seq op effect place = refl

spoken_call : (counted : Bool) (before : Before) (client seq : ℕ) (op : Op) (effect : Effect) (r : ReplicaState) (mails : List Mail) → spoken counted before effect (Call client seq op) (r, mails) ≡ (r, mails)
unfolding spoken spoken_mails begun_reported went_on
spoken_call true before client seq op effect r mails = refl
spoken_call false before client seq op effect r mails = refl

welcomed_none : (counted : Bool) (before : List ℕ) (r : ReplicaState) (mails : List Mail) → members r ≡ before → welcomed counted before (r, mails) ≡ (r, mails)
unfolding welcomed welcomed_all
welcomed_none true before r mails e = ap (λ nodes. welcomed_all nodes (r, mails)) (none_new before (members r) e)
welcomed_none false before r mails e = refl

lost_counted : (command : Command) (o : Option Command) (r : ReplicaState) → slot_lost true command o r ≡ r
lost_counted command None r = refl
lost_counted command (Some other) r = refl

landed_counted : (slot : ℕ) (command : Command) (r : ReplicaState) (mails : List Mail) → landed true slot command (r, mails) ≡ cleared slot (r, mails)
unfolding landed
landed_counted slot command r mails = ap (λ (x : ReplicaState). (x, mails)) (lost_counted command (flying r slot) (cleared slot (r, mails)).0)

landed_learnt : (slot : ℕ) (command : Command) (r : ReplicaState) (mails : List Mail) → flying r slot ≡ None → landed false slot command (r, mails) ≡ cleared slot (r, mails)
unfolding landed
landed_learnt slot command r mails e = ap (λ (o : Option Command). (slot_lost false command o (cleared slot (r, mails)).0, mails)) e

looked_none : (gone : Option Route) (r : ReplicaState) (mails : List Mail) → gone ≡ None → is_among (members r) r.hint ≡ true → looked_for gone (r, mails) ≡ (r, mails)
looked_none into r mails g m = ap (λ (o : Option Route). looked_for o (r, mails)) g ∙ cond-true (is_among (members r) r.hint) (r, mails) _ m

looked_knows : (r : ReplicaState) (mails : List Mail) → r.running ≡ false → r.group.core.gone ≡ None → is_among (members r) r.hint ≡ true → looked (r, mails) ≡ (r, mails)
unfolding looked
looked_knows r mails f g m = cond-false r.running (r, mails) (looked_for r.group.core.gone (r, mails)) f ∙ looked_none r.group.core.gone r mails g m

-- ---- an execution

-- the mails of a counted call: its answer, and Learn to the other members
abbrev pub recorded_after : ReplicaState → ReplicaState → ℕ → ℕ → Op → AnswerBody → List Mail → List Mail
recorded_after r e client seq op answer mails = sent_others e.me (members r) (Learn (name_of e) (next r) (Call client seq op)) (answer_to e.me (name_of e) client seq answer mails)

counted_from : (client seq : ℕ) (op : Op) (answer : AnswerBody) (effect : Effect) (before : Before) (slot : ℕ) (nodes : List ℕ) (e : ReplicaState) (mails : List Mail)
    → answer_of effect ≡ Some answer → members e ≡ nodes → e.running ≡ true → e.group.core.gone ≡ None → is_member (members e) e.me ≡ true
    → looked (left (landed true slot (Call client seq op) (welcomed true nodes (learnt_to true nodes slot (Call client seq op) (spoken true before effect (Call client seq op) (announced true effect (Call client seq op) (e, mails)))))))
    ≡ cleared slot (e, sent_others e.me nodes (Learn (name_of e) slot (Call client seq op)) (answer_to e.me (name_of e) client seq answer mails))
unfolding learnt_to
counted_from client seq op answer effect before slot nodes e mails a m t g k =
    let command : Command = Call client seq op in
    let mails1 : List Mail = answer_to e.me (name_of e) client seq answer mails in
    let mails2 : List Mail = sent_others e.me nodes (Learn (name_of e) slot command) mails1 in
    let after : ReplicaState = (cleared slot (e, mails2)).0 in
    ap (λ (p : Place). looked (left (landed true slot command (welcomed true nodes (learnt_to true nodes slot command (spoken true before effect command p)))))) (announced_call client seq op effect answer e mails a)
    ∙ ap (λ (p : Place). looked (left (landed true slot command (welcomed true nodes (learnt_to true nodes slot command p))))) (spoken_call true before client seq op effect e mails1)
    ∙ ap (λ (p : Place). looked (left (landed true slot command p))) (welcomed_none true nodes e mails2 m)
    ∙ ap (λ (p : Place). looked (left p)) (landed_counted slot command e mails2)
    ∙ ap looked (left_stays after mails2 t g k)
    ∙ looked_stays after mails2 t

-- a counted call, of the replica that leads
pub counted_call : (client seq : ℕ) (op : Op) (answer : AnswerBody) (r : ReplicaState) (mails : List Mail) → answer_of (applied r.group (Call client seq op)).1 ≡ Some answer
    → members (entered (Call client seq op) r) ≡ members r → (entered (Call client seq op) r).running ≡ true → (entered (Call client seq op) r).group.core.gone ≡ None
    → is_member (members (entered (Call client seq op) r)) (entered (Call client seq op) r).me ≡ true
    → executed_one true (Call client seq op) (r, mails) ≡ cleared (next r) (entered (Call client seq op) r, recorded_after r (entered (Call client seq op) r) client seq op answer mails)
unfolding executed_one
counted_call client seq op answer r mails a m t g k =
    counted_from client seq op answer (applied r.group (Call client seq op)).1 (before_of r.group.core) (next r) (members r) (entered (Call client seq op) r) mails a m t g k

learnt_from : (client seq : ℕ) (op : Op) (effect : Effect) (before : Before) (slot : ℕ) (nodes : List ℕ) (e : ReplicaState) (mails : List Mail)
    → members e ≡ nodes → e.running ≡ false → e.group.core.gone ≡ None → is_among (members e) e.hint ≡ true → flying e slot ≡ None
    → looked (left (landed false slot (Call client seq op) (welcomed false nodes (learnt_to false nodes slot (Call client seq op) (spoken false before effect (Call client seq op) (announced false effect (Call client seq op) (e, mails)))))))
    ≡ cleared slot (e, mails)
unfolding learnt_to
learnt_from client seq op effect before slot nodes e mails m t g k n =
    let command : Command = Call client seq op in
    let after : ReplicaState = (cleared slot (e, mails)).0 in
    ap (λ (p : Place). looked (left (landed false slot command (welcomed false nodes (learnt_to false nodes slot command (spoken false before effect command p)))))) (announced_learnt client seq op effect (e, mails))
    ∙ ap (λ (p : Place). looked (left (landed false slot command (welcomed false nodes (learnt_to false nodes slot command p))))) (spoken_call false before client seq op effect e mails)
    ∙ ap (λ (p : Place). looked (left (landed false slot command p))) (welcomed_none false nodes e mails m)
    ∙ ap (λ (p : Place). looked (left p)) (landed_learnt slot command e mails n)
    ∙ ap looked (left_stopped after mails t)
    ∙ looked_knows after mails t g k

-- a learnt call, of a replica that does not lead
pub learnt_call : (client seq : ℕ) (op : Op) (r : ReplicaState) (mails : List Mail)
    → members (entered (Call client seq op) r) ≡ members r → (entered (Call client seq op) r).running ≡ false → (entered (Call client seq op) r).group.core.gone ≡ None
    → is_among (members (entered (Call client seq op) r)) (entered (Call client seq op) r).hint ≡ true → flying (entered (Call client seq op) r) (next r) ≡ None
    → executed_one false (Call client seq op) (r, mails) ≡ cleared (next r) (entered (Call client seq op) r, mails)
unfolding executed_one
learnt_call client seq op r mails m t g k n =
    learnt_from client seq op (applied r.group (Call client seq op)).1 (before_of r.group.core) (next r) (members r) (entered (Call client seq op) r) mails m t g k n

-- One round over nodes, and over the open slots.
use Rattle.std.proofs.Common.{◌≡◌, ℕ, ◌+◌, ◌-◌, ◌<◌, ◌≤◌, Bool, true, false, List, [], ◌∷◌, ◌++◌, length, drop, suc, add-one, add-suc, refl, ap, sym, ◌∙◌, arith, ◌||◌, get_or, is_some, Option, Some, None}
use Rattle.std.proofs.lemmas.List.{drop_all}
use Rattle.sc_base.specs.declared.names.Draw.{Draw}
use Rattle.sc_words.specs.declared.commands.commands.Command.{Command}
use Rattle.sc_mail.specs.declared.bodies.AnswerBody.{AnswerBody}
use Rattle.sc_mail.specs.declared.bodies.Mail.{Mail}
use Rattle.sc_node_table.specs.Slots.{numbers_from}
use Rattle.sc_node_table.specs.Replica.{ReplicaState, Place, name_of, flying, taken_at, taken_from, listed, next}
use Rattle.sc_mail.specs.declared.bodies.MailBody.TheVariants.{Accept, Learn}
use Rattle.sc_words.specs.paxos.Logs.{entry_at}
use Rattle.sc_node_table.specs.Mails.{sent, sent_all, answered, answered_all}
use Rattle.sc_node_table.specs.Pump.{pumped_from}
use Rattle.sc_node_table.specs.Rows.{uncounted, asked_again, taught}
use Rattle.sc_node_replica.specs.Again.{asked_for, asked_at}
use Rattle.std.specs.List.{list_any}
use Rattle.std.proofs.Math.Seq.{drop-cons}

-- what is in flight or ready from one of the open slots on
abbrev pub left_from : ReplicaState → ℕ → List Command
left_from r i = taken_from r (numbers_from (next r + i) (length r.sets - i))

-- at the first of the slots that are left, and from the next one on
pub left-step : (r : ReplicaState) (i : ℕ) → i < length r.sets → left_from r i ≡ taken_from r ((next r + i) ∷ numbers_from (next r + (i + 1)) (length r.sets - (i + 1)))
left-step r i less =
    let e : length r.sets - i ≡ suc (length r.sets - (i + 1)) = omega arith in
    let f : next r + i + 1 ≡ next r + (i + 1) = omega arith in
    ap (λ n. taken_from r (numbers_from (next r + i) n)) e ∙ ap (λ m. taken_from r ((next r + i) ∷ numbers_from m (length r.sets - (i + 1)))) f

-- answers to what is left
answered-append : (me : ℕ) (group : Draw) (answer : AnswerBody) (xs ys : List Command) (mails : List Mail) → answered_all me group answer (xs ++ ys) mails ≡ answered_all me group answer ys (answered_all me group answer xs mails)
unfolding answered_all
answered-append me group answer [] ys mails = refl
answered-append me group answer (x ∷ xs) ys mails = answered-append me group answer xs ys (answered me group answer x mails)

-- one slot more is answered
pub answered-step : (me : ℕ) (group : Draw) (answer : AnswerBody) (r : ReplicaState) (i slot : ℕ) (mails more : List Mail) → i < length r.sets → slot ≡ next r + i
    → more ≡ answered_all me group answer (listed (taken_at r slot)) mails → answered_all me group answer (left_from r (i + 1)) more ≡ answered_all me group answer (left_from r i) mails
answered-step me group answer r i slot mails more less at is =
    ap (answered_all me group answer (left_from r (i + 1))) (is ∙ ap (λ s. answered_all me group answer (listed (taken_at r s)) mails) at)
    ∙ sym (answered-append me group answer (listed (taken_at r (next r + i))) (left_from r (i + 1)) mails)
    ∙ sym (ap (λ commands. answered_all me group answer commands mails) (left-step r i less))

-- after the last slot nothing is left
pub answered-end : (me : ℕ) (group : Draw) (answer : AnswerBody) (r : ReplicaState) (i : ℕ) (mails : List Mail) → length r.sets ≤ i → answered_all me group answer (left_from r i) mails ≡ mails
unfolding answered_all
answered-end me group answer r i mails le =
    let e : length r.sets - i ≡ 0 = omega arith in
    ap (λ n. answered_all me group answer (taken_from r (numbers_from (next r + i) n)) mails) e

-- the commands that are alone
any-append : (f : Command → Bool) (xs ys : List Command) → list_any f (xs ++ ys) ≡ (list_any f xs || list_any f ys)
any-append f [] ys = refl
any-append f (x ∷ xs) ys = by_head (f x) (any-append f xs ys)
  where
    by_head : (b : Bool) → list_any f (xs ++ ys) ≡ (list_any f xs || list_any f ys) → (b || list_any f (xs ++ ys)) ≡ ((b || list_any f xs) || list_any f ys)
    by_head true e = refl
    by_head false e = e

-- one slot more is looked at
pub any-step : (f : Command → Bool) (r : ReplicaState) (i slot : ℕ) (b : Bool) → i < length r.sets → slot ≡ next r + i → b ≡ list_any f (listed (taken_at r slot))
    → list_any f (left_from r i) ≡ (b || list_any f (left_from r (i + 1)))
any-step f r i slot b less at is =
    ap (list_any f) (left-step r i less)
    ∙ any-append f (listed (taken_at r (next r + i))) (left_from r (i + 1))
    ∙ ap (λ s. list_any f (listed (taken_at r s)) || list_any f (left_from r (i + 1))) (sym at)
    ∙ ap (λ c. c || list_any f (left_from r (i + 1))) (sym is)

-- accept again, slot by slot
asked-by : (o : Option Command) (r : ReplicaState) (slot : ℕ) (set : List ℕ) (rest : List (List ℕ)) (mails : List Mail)
    → asked_again r (slot + 1) rest (asked_for o r slot set mails)
    ≡ (elim o [ None ↦ asked_again r (slot + 1) rest mails | Some command ↦ asked_again r (slot + 1) rest (sent_all r.me (uncounted r slot set) (Accept (name_of r) r.leader.ballot slot command) mails) ])
asked-by None r slot set rest mails = refl
asked-by (Some command) r slot set rest mails = refl

pub asked-cons : (r : ReplicaState) (slot : ℕ) (set : List ℕ) (rest : List (List ℕ)) (mails : List Mail) → asked_again r (slot + 1) rest (asked_at r slot set mails) ≡ asked_again r slot (set ∷ rest) mails
unfolding asked_again
asked-cons r slot set rest mails = asked-by (flying r slot) r slot set rest mails

-- one slot more is asked again
pub asked-step : (r : ReplicaState) (first i slot : ℕ) (sets : List (List ℕ)) (set : List ℕ) (mails more : List Mail) → i < length sets → slot ≡ first + i → set ≡ get_or sets i []
    → more ≡ asked_at r slot set mails → asked_again r (first + (i + 1)) (drop (i + 1) sets) more ≡ asked_again r (first + i) (drop i sets) mails
asked-step r first i slot sets set mails more less at of_slot is =
    let e : first + (i + 1) ≡ first + i + 1 = omega arith in
    let f : i + 1 ≡ suc i = omega arith in
    ap (λ n. asked_again r n (drop (i + 1) sets) more) e
    ∙ ap (λ n. asked_again r (first + i + 1) (drop n sets) more) f
    ∙ ap (asked_again r (first + i + 1) (drop (suc i) sets)) (is ∙ ap (λ n. asked_at r n set mails) at ∙ ap (λ s. asked_at r (first + i) s mails) of_slot)
    ∙ asked-cons r (first + i) (get_or sets i []) (drop (suc i) sets) mails
    ∙ ap (λ xs. asked_again r (first + i) xs mails) (sym (drop-cons sets i [] less))

-- after the last slot nobody is asked
pub asked-end : (r : ReplicaState) (slot i : ℕ) (sets : List (List ℕ)) (mails : List Mail) → length sets ≤ i → asked_again r slot (drop i sets) mails ≡ mails
unfolding asked_again
asked-end r slot i sets mails le = ap (λ xs. asked_again r slot xs mails) (drop_all i sets le)

-- entries, slot by slot
taught-by : (o : Option Command) (r : ReplicaState) (count from slot : ℕ) (command : Command) (mails : List Mail) → o ≡ Some command
    → taught count r from (slot + 1) (sent r.me from (Learn (name_of r) slot command) mails)
    ≡ (elim o [ None ↦ mails | Some command ↦ taught count r from (slot + 1) (sent r.me from (Learn (name_of r) slot command) mails) ])
taught-by None r count from slot command mails e = absurd (cc)
taught-by (Some other) r count from slot command mails e = let same : other ≡ command = cc in rw same refl

taught-suc : (r : ReplicaState) (count from slot : ℕ) (command : Command) (mails : List Mail) → entry_at slot r.log ≡ Some command
    → taught count r from (slot + 1) (sent r.me from (Learn (name_of r) slot command) mails) ≡ taught (suc count) r from slot mails
unfolding taught
taught-suc r count from slot command mails e = taught-by (entry_at slot r.log) r count from slot command mails e

-- one entry more is sent
pub taught-step : (r : ReplicaState) (most sent_count from slot : ℕ) (command : Command) (mails more : List Mail) → sent_count < most → entry_at slot r.log ≡ Some command
    → more ≡ sent r.me from (Learn (name_of r) slot command) mails → taught (most - (sent_count + 1)) r from (slot + 1) more ≡ taught (most - sent_count) r from slot mails
taught-step r most sent_count from slot command mails more less e is =
    let n : most - sent_count ≡ suc (most - (sent_count + 1)) = omega arith in
    ap (taught (most - (sent_count + 1)) r from (slot + 1)) is
    ∙ taught-suc r (most - (sent_count + 1)) from slot command mails e
    ∙ ap (λ count. taught count r from slot mails) (sym n)

-- a slot that is taken is passed by
pub pumped_from-passed : (first i : ℕ) (sets : List (List ℕ)) (place : Place) → i < length sets → is_some (taken_at place.0 (first + i)) ≡ true
    → pumped_from (first + (i + 1)) (drop (i + 1) sets) place ≡ pumped_from (first + i) (drop i sets) place
unfolding pumped_from
pumped_from-passed first i sets place h taken = rw (drop-cons sets i [] h, taken) (simp (add-one, add-suc))

-- The greatest ballot that a replica saw after what it takes: one that does not run sees another by what asks it alone, or runs then.
use Rattle.std.proofs.Common.{◌≡◌, ℕ, ◌-◌, ◌^◌, ◌<◌, ◌≤◌, ◌||◌, not, nat_lt, eqb, Bool, true, false, true≢false, cond, List, [], length, Option, Some, None, ◌⊎◌, inl, inr, refl, sym, ◌∙◌, ap, subst}
use Rattle.std.proofs.lemmas.Bool.{cond_both, and_parts, eqb-true, eq-eqb}
use Rattle.sc_base.specs.Definitions.{Drawer, same_ballot, is_member, least_of}
use Rattle.sc_node_table.specs.Values.{Ballot, Draw, Command, Base, Route, OrderLine, Mail, MailBody, Promise, Accepted, Learn, Install, Report}
use Rattle.sc_node_table.specs.NodeDefinitions.{elected, stopped, entered, is_among, looked, executed_one, executed_ready, executed, named, jumped, ordered_row, pumped, ReplicaState, Place, Executed, childless, next, members, set_at, last_slot, forgotten, first_ballot, installed_replica, looked_up, took_over, install_row, mailed, made_by, leads, promise_row, voted, accepted_row}
use Rattle.sc_law_walks.proofs.WalkLemmas.{idle_ready, idle_pump, either_way}
use Rattle.sc_law_walks.proofs.WalkLemmas.{grows}
use Rattle.sc_live_journals.proofs.RowsProofs.StillReplicas as beside
use Rattle.sc_live_steps.specs.following.FollowingDefinitions.{Stays, MayElect}
use Rattle.sc_live_steps.proofs.ExecutionParts.{looking_kept}
use Rattle.sc_live_steps.proofs.FollowingProofs.FollowingLemmas.{looked_same, place2, over, over_off, looks, told_is}

-- ---- one that looks for a leader keeps what it saw, or runs then

abbrev pub Keeps : Ballot → Place → Type 0
Keeps top place = (place.0.running ≡ true) ⊎ (place.0.top ≡ top)

elects_or : (top : Ballot) (place : Place) → Keeps top place → Keeps top (elected place)
unfolding elected
elects_or top (r, mails) k = either_way (Keeps top) (eqb r.top.round (2 ^ 32 - 1)) _ _ k (inl refl)

looks_or : (r : ReplicaState) (mails : List Mail) → Keeps r.top (looked (r, mails))
looks_or r mails = looking_kept (Keeps r.top) (elects_or r.top) (λ hint s sent k. k) (r, mails) (inr refl)

looks_up_or : (from : ℕ) (r : ReplicaState) (mails : List Mail) → Keeps r.top (looked_up from (r, mails))
unfolding looked_up
looks_up_or from r mails = either_way (Keeps r.top) (is_member (members r) from) (record r { hint = Some from }, mails) (looked (r, mails)) (inr refl) (looks_or r mails)

jumped_top : (slot : ℕ) (base : Base) (sets : List (List ℕ)) (r : ReplicaState) → (jumped slot base sets r).top ≡ r.top
unfolding jumped forgotten
jumped_top slot base sets r = refl

installed_top : (me slot : ℕ) (base : Base) (sets : List (List ℕ)) → (installed_replica me slot base sets).top ≡ first_ballot base.core
unfolding forgotten
installed_top me slot base sets = refl

-- a replica that is made of a state
pub made_keeps : (me from : ℕ) (group : Draw) (slot : ℕ) (base : Base) (sets : List (List ℕ)) → Keeps (first_ballot base.core) (made_by me from group slot base sets)
unfolding made_by
made_keeps me from group slot base sets = subst (λ t. Keeps t (looked_up from (installed_replica me slot (named group base) sets, []))) (installed_top me slot (named group base) sets) (looks_up_or from (installed_replica me slot (named group base) sets) [])

-- one that may elect itself, and one that does not
pub stays_or_may : (r : ReplicaState) → r.top.round < 2 ^ 32 - 1 → Stays r ⊎ MayElect r
stays_or_may r low = by_gone r.group.core.gone refl
  where
    by_hint : (b c : Bool) → is_among (members r) r.hint ≡ b → eqb (least_of (members r)) r.me ≡ c → r.group.core.gone ≡ None → Stays r ⊎ MayElect r
    by_hint true c hinted least stands = inl (inl hinted)
    by_hint false true hinted least stands = inr (record { stands = stands; hint = hinted; least = eqb-true (least_of (members r)) r.me least; round = low })
    by_hint false false hinted least stands = inl (inr (inl (λ fact. true≢false (sym (eq-eqb (least_of (members r)) r.me fact) ∙ least))))

    by_gone : (gone : Option Route) → r.group.core.gone ≡ gone → Stays r ⊎ MayElect r
    by_gone (Some into) e = inl (inr (inr (into, e)))
    by_gone None e = by_hint (is_among (members r) r.hint) (eqb (least_of (members r)) r.me) refl refl e

pub entered_top : (command : Command) (r : ReplicaState) → (entered command r).top ≡ r.top
unfolding entered forgotten
entered_top command r = refl

-- ---- one that does not run

module _ (r : ReplicaState) where
  -- it still does not, and has seen no other ballot
  abbrev pub Idly : Place → Type 0
  Idly place = (place.0.running ≡ false) × (place.0.top ≡ r.top)

  -- what waits, and what it sends, is nothing to it
  pub order_idly : (drawer : Drawer) (line : OrderLine) → r.running ≡ false → Idly (ordered_row drawer line (r, []))
  order_idly drawer line off = beside.order_keeps Idly (beside.still_pumps Idly (λ place k. k.0) (λ q mails acts backlog k. k)) (λ q. grows q.me (λ mails. Idly (q, mails)) (λ mails mail k. k)) drawer line (r, []) (off, refl)

  beside_idly : (from : ℕ) (body : MailBody) → beside.IsBeside body → r.running ≡ false → Idly (mailed from body (r, [])).0
  beside_idly from body a off = beside.beside_keeps Idly (beside.still_pumps Idly (λ place k. k.0) (λ q mails acts backlog k. k)) (λ q. grows q.me (λ mails. Idly (q, mails)) (λ mails mail k. k)) from body (r, []) a (off, refl)

  -- ---- votes and promises

  vote_counted : (from : ℕ) (ballot : Ballot) (slot : ℕ) → Idly (r, []) → Idly (accepted_row from ballot slot (r, [])).0
  unfolding accepted_row
  vote_counted from ballot slot k =
      cond_both (leads ballot r) (voted from ballot slot (set_at slot r) (r, [])) (childless (r, [])) (λ (e : Executed). Idly e.0) (λ t. absurd (true≢false (sym (and_parts r.running (same_ballot ballot r.leader.ballot) t).0 ∙ k.0))) (λ _. k)

  promise_counted_ : (from : ℕ) (ballot : Ballot) (reports : List (Report Command)) → Idly (r, []) → Idly (promise_row from ballot reports (r, []))
  unfolding promise_row
  promise_counted_ from ballot reports k = either_way Idly (leads ballot r) _ (r, []) (subst Idly (sym (idle_pump _ k.0)) k) k

  -- ---- mail that neither asks nor tells anything

  abbrev pub IsIdleMail : MailBody → Type 0
  IsIdleMail (Promise group ballot reports) = Unit {0}
  IsIdleMail (Accepted group ballot slot) = Unit {0}
  IsIdleMail body = beside.IsBeside body

  pub mail_idly : (from : ℕ) (body : MailBody) → IsIdleMail body → r.running ≡ false → Idly (mailed from body (r, [])).0
  unfolding mailed
  mail_idly from (Promise group ballot reports) a off = promise_counted_ from ballot reports (off, refl)
  mail_idly from (Accepted group ballot slot) a off = vote_counted from ballot slot (off, refl)
  mail_idly from body a off = beside_idly from body a off

  -- ---- an entry that is learnt, by which it does not elect itself

  entry_idly : (command : Command) (off : r.running ≡ false) (none : r.leader.flights ≡ []) → Stays (entered command r) → Idly (executed_one false command (r, []))
  entry_idly command off none stays = looks command r off none Idly (looked_same Idly (over command r off none) (place2 command r off none).1 (over_off command r off none) stays (λ hint. (over_off command r off none, entered_top command r)))

  executed_idly : (command : Command) → r.running ≡ false → r.leader.flights ≡ [] → Stays (entered command r) → Idly (executed false command (r, [])).0
  unfolding executed
  executed_idly command off none stays =
      let place : Place = executed_one false command (r, []) in
      let k = entry_idly command off none stays in
      let same : pumped (executed_ready place.0.ready place).0 ≡ place = ap (λ (step : Executed). pumped step.0) (idle_ready place.0.ready place k.0) ∙ idle_pump place k.0 in
      subst Idly (sym same) k

  pub taught_idly : (from : ℕ) (group : Draw) (slot : ℕ) (command : Command) → r.running ≡ false → r.leader.flights ≡ [] → slot ≡ next r → slot ≤ last_slot → Stays (entered command r) → Idly (mailed from (Learn group slot command) (r, [])).0
  unfolding mailed
  taught_idly from group slot command off none at low stays = told_is Idly from slot command r at low (executed_idly command off none stays)

  -- ---- a state

  over_keeps : (from slot : ℕ) (base : Base) (sets : List (List ℕ)) → r.running ≡ false → Keeps r.top (took_over from slot base sets (r, []))
  unfolding took_over
  over_keeps from slot base sets off =
      subst (λ (p : Place). Keeps r.top (looked_up from (jumped slot base sets p.0, p.1))) (sym (ap (λ b. cond {A = Place} b (stopped (Some from) (r, [])) (r, [])) off))
      (subst (λ t. Keeps t (looked_up from (jumped slot base sets r, []))) (jumped_top slot base sets r) (looks_up_or from (jumped slot base sets r) []))

  pub installed_keeps : (from : ℕ) (group : Draw) (slot : ℕ) (base : Base) (sets : List (List ℕ)) → r.running ≡ false → Keeps r.top (mailed from (Install group slot base sets) (r, [])).0
  unfolding mailed install_row
  installed_keeps from group slot base sets off =
      either_way (Keeps r.top) (not (eqb (length sets) (length r.sets)) || (nat_lt last_slot slot || nat_lt slot (next r))) (r, []) (took_over from slot base sets (r, [])) (inr refl) (over_keeps from slot base sets off)

-- The action of a task makes the row that the walk allows.
use Rattle.std.proofs.Common.{◌≡◌, ℕ, List, [], ◌∷◌, Bool, true, false, not, cond, eqb, find, refl, sym, ◌∙◌, ap, subst, Option, None, Some, ◌&&◌, ◌||◌}
use Rattle.std.specs.Prelude.{is_none, is_some, option_and_then}
use Rattle.std.specs.Option.{option_map}
use Rattle.std.proofs.lemmas.Bool.{false≢true, and_parts}
use Rattle.sc_actor.specs.declared.rows.Row.{Row}
use Rattle.sc_actor.specs.declared.actors.Seat.{Seat}
use Rattle.sc_actor.specs.declared.rows.Event.{Event}
use Rattle.sc_actor.specs.declared.rows.Event.TheVariants.{Deliver, Tick, Go, Told, Crash, Drop, Again}
use Rattle.sc_actor.specs.declared.schedules.Line.{Line}
use Rattle.sc_actor.specs.declared.schedules.Line.TheVariants.{Go as GoLine, Deliver as DeliverLine, Drop as DropLine, Again as AgainLine, Tick as TickLine, Crash as CrashLine, Told as ToldLine, Settle, Free, Storm}
use Rattle.sc_actor.specs.Mail.{mails, numbered, has_crashed, may_get, pending}
use Rattle.sc_actor.specs.System.{System, system, no_words, numbers_of, row_of, acts, network, waiting, kth, has_started}
use Rattle.sc_actor.specs.Walk.{line_row, delivery, lowest}
use Rattle.sc_actor.proofs.PendingLemmas.{waiting_one, waiting_any}
use Rattle.sc_world_replay.specs.declared.stages.Action.{Action}
use Rattle.sc_world_replay.specs.Actions.{is_of_network, is_number, can_act, row_made, action, holds_of, may_come_again, when, line_action, lowest_action}

-- there is an actor with a number exactly where a seat is found
find_by : {A : Type 0} (s : Seat A) (ss : List (Seat A)) (who : ℕ) (b : Bool) → is_some (find (λ x. eqb x.who who) ss) ≡ is_number (numbers_of ss) who → is_some (cond b (Some s) (find (λ x. eqb x.who who) ss)) ≡ (b || is_number (numbers_of ss) who)
find_by s ss who true more = refl
find_by s ss who false more = more

find_is : {A : Type 0} (seats : List (Seat A)) (who : ℕ) → is_some (find (λ x. eqb x.who who) seats) ≡ is_number (numbers_of seats) who
find_is [] who = refl
find_is (s ∷ ss) who = find_by s ss who (eqb s.who who) (find_is ss who)

some_of : {X : Type 0} (o : Option X) → is_some o ≡ true → (x : X) × (o ≡ Some x)
some_of None e = absurd (false≢true e)
some_of (Some x) e = (x, refl)

none_of : {X : Type 0} (o : Option X) → is_some o ≡ false → o ≡ None
none_of None e = refl
none_of (Some x) e = absurd (false≢true (sym e))

module _ {A M O : Type 0} (s : System A M O) (rows : List (Row M O)) where
  acts-none : (who : ℕ) (event : Event O) → is_number (numbers_of s.births) who ≡ false → acts s rows who event ≡ None
  acts-none who event e = ap (option_map (λ seat. row_of s.table seat rows event)) (none_of (find (λ x. eqb x.who who) s.births) (find_is s.births who ∙ e))

  -- an actor that there is makes a row
  pub acts-some : (who : ℕ) (event : Event O) → is_number (numbers_of s.births) who ≡ true → (row : Row M O) × (acts s rows who event ≡ Some row)
  acts-some who event e =
      let found = some_of (find (λ x. eqb x.who who) s.births) (find_is s.births who ∙ e) in
      (row_of s.table found.0 rows event, ap (option_map (λ seat. row_of s.table seat rows event)) found.1)

  -- an actor acts unless something stands against it
  acts_unless : (who : ℕ) (event : Event O) → is_of_network event ≡ false → (num no : Bool) → is_number (numbers_of s.births) who ≡ num →
      cond no None (acts s rows who event) ≡ option_and_then (row_made s rows) (when (num && not no) (action who event))
  acts_unless who event own true true is = refl
  acts_unless who event own true false is = rw own refl
  acts_unless who event own false true is = refl
  acts_unless who event own false false is = acts-none who event is

  -- a delivery is the row of its action
  pub of_delivery : (who : ℕ) (o : Option ℕ) → option_and_then (λ mail. acts s rows who (Deliver mail)) o ≡ option_and_then (row_made s rows) (option_map (λ mail. action who (Deliver mail)) o)
  of_delivery who None = refl
  of_delivery who (Some mail) = refl

  -- a loss is the row of its action
  pub of_drop : (o : Option ℕ) → option_map (λ mail. network (Drop mail)) o ≡ option_and_then (row_made s rows) (option_map (λ mail. action 0 (Drop mail)) o)
  of_drop None = refl
  of_drop (Some mail) = refl

  of_again_may : (mail : ℕ) (b : Bool) → cond b (Some (network (Again mail))) None ≡ option_and_then (row_made s rows) (when b (action 0 (Again mail)))
  of_again_may mail true = refl
  of_again_may mail false = refl

  of_again : (mail : ℕ) (o : Option M) → option_and_then (λ m. cond (may_get (numbers_of s.births) rows (s.receiver m)) (Some (network (Again mail))) None) o
      ≡ option_and_then (row_made s rows) (when (holds_of (λ m. may_get (numbers_of s.births) rows (s.receiver m)) o) (action 0 (Again mail)))
  of_again mail None = refl
  of_again mail (Some m) = of_again_may mail (may_get (numbers_of s.births) rows (s.receiver m))

  -- a line makes the row of its action
  pub line_row-action : (line : Line O) → line_row s rows line ≡ option_and_then (row_made s rows) (line_action s.receiver (numbers_of s.births) rows line)
  line_row-action (GoLine who) = acts_unless who Go refl (is_number (numbers_of s.births) who) (has_started rows who) refl
  line_row-action (DeliverLine who k) = of_delivery who (kth (waiting s rows (Some who)) k)
  line_row-action (DropLine who k) = of_drop (kth (waiting s rows (Some who)) k)
  line_row-action (AgainLine mail) = of_again mail (numbered (mails rows) mail)
  line_row-action (TickLine who) = acts_unless who Tick refl (is_number (numbers_of s.births) who) (has_crashed rows who) refl
  line_row-action (CrashLine who) = acts_unless who Crash refl (is_number (numbers_of s.births) who) (has_crashed rows who) refl
  line_row-action (ToldLine who order) = acts_unless who (Told order) refl (is_number (numbers_of s.births) who) (has_crashed rows who) refl
  line_row-action (Settle most) = refl
  line_row-action (Free most workers) = refl
  line_row-action (Storm number most) = refl

  lowest_by : (mail : ℕ) (o : Option M) → option_and_then (λ m. acts s rows (s.receiver m) (Deliver mail)) o ≡ option_and_then (row_made s rows) (option_map (λ m. action (s.receiver m) (Deliver mail)) o)
  lowest_by mail None = refl
  lowest_by mail (Some m) = refl

  -- the delivery of a mail is the row of its action
  pub lowest_of : (o : Option ℕ) → option_and_then (delivery s rows) o ≡ option_and_then (row_made s rows) (option_and_then (λ mail. option_map (λ m. action (s.receiver m) (Deliver mail)) (numbered (mails rows) mail)) o)
  lowest_of None = refl
  lowest_of (Some mail) = lowest_by mail (numbered (mails rows) mail)

  -- the lowest delivery is the row of its action
  pub lowest-action : lowest s rows ≡ option_and_then (row_made s rows) (lowest_action s.receiver (numbers_of s.births) rows)
  lowest-action = lowest_of (kth (waiting s rows None) 1)

-- an action that is there can be done
module _ {A M O : Type 0} (receiver : M → ℕ) (seats : List (Seat A)) (rows : List (Row M O)) where
  abbrev pub any_system : System A M O
  any_system = system (λ a input. (a, [])) receiver no_words seats

  when-can : (b : Bool) (who : ℕ) (event : Event O) (d : Action O) → (b ≡ true → can_act (numbers_of seats) (action who event) ≡ true) → when b (action who event) ≡ Some d → can_act (numbers_of seats) d ≡ true
  when-can true who event d can e = let same : action who event ≡ d = cc in subst (λ x. can_act (numbers_of seats) x ≡ true) same (can refl)
  when-can false who event d can e = cc

  -- an action of the mail that is there can be done, if that of each mail can
  pub map-can : (who : ℕ) (f : ℕ → Event O) (o : Option ℕ) (d : Action O) → ((mail : ℕ) → o ≡ Some mail → can_act (numbers_of seats) (action who (f mail)) ≡ true) → option_map (λ mail. action who (f mail)) o ≡ Some d → can_act (numbers_of seats) d ≡ true
  map-can who f None d can e = cc
  map-can who f (Some mail) d can e = let same : action who (f mail) ≡ d = cc in subst (λ x. can_act (numbers_of seats) x ≡ true) same (can mail refl)

  -- who may get mail is an actor
  pub own : (who : ℕ) → may_get (numbers_of seats) rows who ≡ true → is_number (numbers_of seats) who ≡ true
  own who e = (and_parts (is_number (numbers_of seats) who) (not (has_crashed rows who)) e).0

  -- a line's action can be done
  pub line_action-can : (line : Line O) (d : Action O) → line_action receiver (numbers_of seats) rows line ≡ Some d → can_act (numbers_of seats) d ≡ true
  line_action-can (GoLine who) d e =
      when-can (is_number (numbers_of seats) who && not (has_started rows who)) who Go d (λ t. (and_parts (is_number (numbers_of seats) who) (not (has_started rows who)) t).0) e
  line_action-can (DeliverLine who k) d e =
      map-can who Deliver (kth (pending receiver (numbers_of seats) rows (Some who)) k) d
      (λ mail is. let under = waiting_one any_system rows who k mail is in own who (subst (λ w. may_get (numbers_of seats) rows w ≡ true) under.2 under.1.may)) e
  line_action-can (DropLine who k) d e = map-can 0 Drop (kth (pending receiver (numbers_of seats) rows (Some who)) k) d (λ mail is. refl) e
  line_action-can (AgainLine mail) d e = when-can (may_come_again receiver (numbers_of seats) rows mail) 0 (Again mail) d (λ t. refl) e
  line_action-can (TickLine who) d e = when-can (may_get (numbers_of seats) rows who) who Tick d (own who) e
  line_action-can (CrashLine who) d e = when-can (may_get (numbers_of seats) rows who) who Crash d (own who) e
  line_action-can (ToldLine who order) d e = when-can (may_get (numbers_of seats) rows who) who (Told order) d (own who) e
  line_action-can (Settle most) d e = cc
  line_action-can (Free most workers) d e = cc
  line_action-can (Storm number most) d e = cc

  quiet_from : (o : Option ℕ) → kth (pending receiver (numbers_of seats) rows None) 1 ≡ o → is_none o ≡ is_none (option_and_then (λ mail. option_map (λ m. action {O = O} (receiver m) (Deliver mail)) (numbered (mails rows) mail)) o)
  quiet_from None is = refl
  quiet_from (Some number) is =
      let under = waiting_any any_system rows 1 number is in
      rw under.1.sent refl

  -- no mail is pending exactly where there is no lowest delivery
  pub quiet_is : is_none (kth (pending receiver (numbers_of seats) rows None) 1) ≡ is_none (lowest_action {O = O} receiver (numbers_of seats) rows)
  quiet_is = quiet_from (kth (pending receiver (numbers_of seats) rows None) 1) refl

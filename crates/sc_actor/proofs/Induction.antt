-- What holds of the empty journal and is kept by each step holds of every lawful journal.
use Rattle.std.proofs.Common.{◌≡◌, ℕ, zero, suc, ◌+◌, ◌%◌, List, [], ◌∷◌, ◌++◌, length, Bool, true, false, cond, eqb, find, refl, sym, ◌∙◌, ap, subst, append_assoc, Option, None, Some, inl, inr, append-nil}
use Rattle.std.specs.Prelude.{slice_get}
use Rattle.std.specs.List.{flat_map}
use Rattle.std.proofs.lemmas.Bool.{eqb-true}
use Rattle.std.proofs.lemmas.Option.{same_Some, cond_some}
use Rattle.sc_base.proofs.Lemmas.{and_then-some, map-some}
use Rattle.sc_actor.specs.declared.rows.Row.{Row}
use Rattle.sc_actor.specs.declared.actors.Seat.{Seat}
use Rattle.sc_actor.specs.declared.rows.Event.{Event}
use Rattle.sc_actor.specs.declared.rows.Event.TheVariants.{Deliver, Drop, Again, Go, Tick, Crash, Told}
use Rattle.sc_actor.specs.declared.schedules.Line.{Line}
use Rattle.sc_actor.specs.declared.schedules.Line.TheVariants.{Go as GoLine, Deliver as DeliverLine, Drop as DropLine, Again as AgainLine, Tick as TickLine, Crash as CrashLine, Told as ToldLine, Settle, Free, Storm}
use Rattle.sc_actor.specs.Definitions.{mails, numbered, may_get, has_crashed, System, acts, row_of, network, waiting, kth, numbers_of, has_started, IsUnderWay, IsOpen, IsLoose, IsStep, Task, Once, Settles, Frees, Storms, WalkPlace, Allows, MayAdd, IsWalk, IsLawful, after_row, start, rest_of_all, tasks_of, delivery, repeat_of, picked, storm_row}
use Rattle.sc_actor.proofs.PendingLemmas.{waiting_one, waiting_any, waiting_at}
use Rattle.sc_actor.proofs.WalkLemmas.{onward-rows}

pub unless-some : {Y : Type 0} (b : Bool) (o : Option Y) (y : Y) → cond b None o ≡ Some y → (b ≡ false) × (o ≡ Some y)
unless-some true o y e = cc
unless-some false o y e = (refl, e)

find-who_by : {A : Type 0} (s : Seat A) (ss : List (Seat A)) (who : ℕ) (seat : Seat A) → (find (λ other. eqb other.who who) ss ≡ Some seat → seat.who ≡ who) → (b : Bool) → eqb s.who who ≡ b → cond b (Some s) (find (λ other. eqb other.who who) ss) ≡ Some seat → seat.who ≡ who
find-who_by s ss who seat more true t e = let same : s ≡ seat = cc in ap (λ x. x.who) (sym same) ∙ eqb-true s.who who t
find-who_by s ss who seat more false t e = more e

-- the seat that is found has the number
pub find-who : {A : Type 0} (seats : List (Seat A)) (who : ℕ) (seat : Seat A) → find (λ other. eqb other.who who) seats ≡ Some seat → seat.who ≡ who
find-who [] who seat e = cc
find-who (s ∷ ss) who seat e = find-who_by s ss who seat (find-who ss who seat) (eqb s.who who) refl e

module _ {A M O : Type 0} (s : System A M O) (rows : List (Row M O)) where
  acts-step : (who : ℕ) (event : Event O) (row : Row M O) → IsOpen s rows who event → acts s rows who event ≡ Some row → IsStep s rows row
  acts-step who event row open_ e =
      let m = map-some (λ seat. row_of s.table seat rows event) (find (λ seat. eqb seat.who who) s.births) row e in
      let number = find-who s.births who m.0 m.1 in
      inl record {
        seat = m.0;
        born = rw number m.1;
        event = event;
        row_is = sym m.2;
        open_ = subst (λ w. IsOpen s rows w event) (sym number) open_;
      }

  network-step : (event : Event O) (row : Row M O) → IsLoose s rows event → network event ≡ row → IsStep s rows row
  network-step event row loose e = inr record { event = event; row_is = sym e; loose = loose }

  delivery-step : (mail : ℕ) (row : Row M O) → (m : M) × IsUnderWay s rows mail m → delivery s rows mail ≡ Some row → IsStep s rows row
  delivery-step mail row under e =
      let p = and_then-some (λ m. acts s rows (s.receiver m) (Deliver mail)) (numbered (mails rows) mail) row e in
      let same : under.0 ≡ p.0 = same_Some under.0 p.0 (sym under.1.sent ∙ p.1) in
      acts-step (s.receiver p.0) (Deliver mail) row (under.0, under.1, ap s.receiver same) p.2

  repeat-step : (mail : ℕ) (row : Row M O) → repeat_of s rows mail ≡ Some row → IsStep s rows row
  repeat-step mail row e =
      let p = and_then-some (λ m. cond (may_get (numbers_of s.births) rows (s.receiver m)) (Some (network (Again mail))) None) (numbered (mails rows) mail) row e in
      let q = cond_some (may_get (numbers_of s.births) rows (s.receiver p.0)) (network (Again mail)) row p.2 in
      network-step (Again mail) row (p.0, p.1, q.0) q.1

  line-step : (line : Line O) (row : Row M O) → Allows s rows (Once line) row → IsStep s rows row
  line-step (GoLine who) row e = let p = unless-some (has_started rows who) (acts s rows who Go) row e in acts-step who Go row p.0 p.1
  line-step (DeliverLine who k) row e =
      let p = and_then-some (λ mail. acts s rows who (Deliver mail)) (kth (waiting s rows (Some who)) k) row e in
      acts-step who (Deliver p.0) row (waiting_one s rows who k p.0 p.1) p.2
  line-step (DropLine who k) row e =
      let p = map-some (λ mail. network (Drop mail)) (kth (waiting s rows (Some who)) k) row e in
      let under = waiting_one s rows who k p.0 p.1 in
      network-step (Drop p.0) row (under.0, under.1) p.2
  line-step (AgainLine mail) row e = repeat-step mail row e
  line-step (TickLine who) row e = let p = unless-some (has_crashed rows who) (acts s rows who Tick) row e in acts-step who Tick row p.0 p.1
  line-step (CrashLine who) row e = let p = unless-some (has_crashed rows who) (acts s rows who Crash) row e in acts-step who Crash row p.0 p.1
  line-step (ToldLine who order) row e = let p = unless-some (has_crashed rows who) (acts s rows who (Told order)) row e in acts-step who (Told order) row p.0 p.1
  line-step (Settle most) row e = cc
  line-step (Free most workers) row e = cc
  line-step (Storm number most) row e = cc

  storm-step : (w v : ℕ) (row : Row M O) → storm_row s rows w v ≡ Some row → IsStep s rows row
  storm-step zero v row e =
      let p = map-some (λ mail. network (Drop mail)) (picked s rows v) row e in
      network-step (Drop p.0) row (waiting_at s rows (v % length (waiting s rows None)) p.0 p.1) p.2
  storm-step (suc zero) v row e = repeat-step (1 + v % length (mails rows)) row e
  storm-step (suc (suc zero)) v row e =
      let p = and_then-some (λ who. cond (has_crashed rows who) None (acts s rows who Tick)) (slice_get (numbers_of s.births) (v % length (numbers_of s.births))) row e in
      let q = unless-some (has_crashed rows p.0) (acts s rows p.0 Tick) row p.2 in
      acts-step p.0 Tick row q.0 q.1
  storm-step (suc (suc (suc more))) v row e =
      let p = and_then-some (delivery s rows) (picked s rows v) row e in
      delivery-step p.0 row (waiting_at s rows (v % length (waiting s rows None)) p.0 p.1) p.2

  Allows-step : (task : Task O) (row : Row M O) → Allows s rows task row → IsStep s rows row
  Allows-step (Once line) row e = line-step line row e
  Allows-step (Settles left) row e =
      let p = and_then-some (delivery s rows) (kth (waiting s rows None) 1) row e in
      delivery-step p.0 row (waiting_any s rows 1 p.0 p.1) p.2
  Allows-step (Frees left) row e =
      let p = and_then-some (λ mail. acts s rows row.who (Deliver mail)) (kth (waiting s rows (Some row.who)) 1) row e in
      acts-step row.who (Deliver p.0) row (waiting_one s rows row.who 1 p.0 p.1) p.2
  Allows-step (Storms words) row e = storm-step (words.0 % 16) words.1 row e

  -- each row that the walk may add is a step
  pub MayAdd-step : (tasks : List (Task O)) (row : Row M O) → MayAdd s rows tasks row → IsStep s rows row
  MayAdd-step [] row e = absurd e
  MayAdd-step (task ∷ tasks) row e = Allows-step task row e

module _ {A M O : Type 0} (s : System A M O) (P : List (Row M O) → Type 0) (keeps : (rows : List (Row M O)) (row : Row M O) → P rows → IsStep s rows row → P (rows ++ row ∷ [])) where
  walk-keeps : (place : WalkPlace M O) (rows : List (Row M O)) → P place.rows → IsWalk s place rows → P (place.rows ++ rows)
  walk-keeps place [] now walk = subst P (sym (append-nil place.rows)) now
  walk-keeps place (row ∷ rows) now walk =
      let there : (after_row s place row).rows ≡ place.rows ++ row ∷ [] = onward-rows s (place.rows ++ row ∷ []) (rest_of_all place.tasks) place.skipped place.unsettled in
      let next = walk-keeps (after_row s place row) rows (subst P (sym there) (keeps place.rows row now (MayAdd-step s place.rows place.tasks row walk.0))) walk.1 in
      subst P (ap (λ xs. xs ++ rows) there ∙ append_assoc place.rows (row ∷ []) rows) next

  -- induction over lawful journals
  pub lawful-induction : (lines : List (Line O)) (journal : List (Row M O)) → P [] → IsLawful s lines journal → P journal
  lawful-induction lines journal none lawful =
      let there : (start s lines).rows ≡ [] = onward-rows s [] (flat_map (tasks_of s.words) lines) 0 false in
      subst P (ap (λ xs. xs ++ journal) there) (walk-keeps (start s lines) journal (subst P (sym there) none) lawful)

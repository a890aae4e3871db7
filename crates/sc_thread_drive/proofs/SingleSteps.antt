-- A line of one row takes the walk on.
use Rattle.std.proofs.Common.{◌≡◌, ℕ, ◌+◌, ◌<◌, ◌≤◌, Bool, true, false, eqb, cond, ◌||◌, ◌&&◌, find, List, [], ◌∷◌, ◌++◌, refl, sym, ap, ◌∙◌, subst, Option, Some, None}
use Rattle.std.specs.Prelude.{is_none, option_and_then, Result, Ok, Err}
use Rattle.std.specs.Option.{option_map}
use Rattle.std.proofs.lemmas.List.Folds.{list_any-append}
use Rattle.sc_actor.proofs.Induction.{find-who}
use Rattle.sc_actor.specs.declared.actors.Actor.{Ghosts}
use Rattle.sc_actor.specs.declared.actors.Parcel.{Ghosts as MailGhosts}
use Rattle.sc_actor.specs.declared.actors.Seat.{Seat}
use Rattle.sc_actor.specs.declared.rows.Row.{Row}
use Rattle.sc_actor.specs.declared.rows.Event.{Event}
use Rattle.sc_actor.specs.declared.rows.Event.TheVariants.{Deliver, Tick, Go, Told, Crash, Drop, Again}
use Rattle.sc_actor.specs.declared.schedules.Line.{Line}
use Rattle.sc_actor.specs.declared.schedules.Line.TheVariants.{Go as GoLine, Deliver as DeliverLine, Drop as DropLine, Again as AgainLine, Tick as TickLine, Crash as CrashLine, Told as ToldLine, Settle, Free, Storm}
use Rattle.sc_actor.specs.Mail.{mails, numbered, has_crashed, may_get}
use Rattle.sc_actor.specs.Counted.{journal_bytes, IsFull}
use Rattle.sc_actor.specs.System.{System, system, numbers_of, row_of, acts, waiting, kth, network, has_started, is_go}
use Rattle.sc_actor.specs.Walk.{Once, line_row}
use Rattle.sc_actor.proofs.WalkLemmas.{Stands, Stands-over, Stands-row, Stands-next}
use Rattle.sc_thread_ledger.proofs.Kept.{bytes-push}
use Rattle.sc_thread_ports.specs.declared.exchange.ports.Port.{Port}
use Rattle.sc_thread_ports.specs.exchange.Ports.{seen}
use Rattle.sc_thread_work.specs.declared.shell.shells.Shell.{Shell}
use Rattle.sc_thread_drive.specs.declared.company.Score.{Score}
use Rattle.sc_thread_ledger.specs.declared.errors.PostError.{PostError}
use Rattle.sc_thread_ledger.specs.declared.errors.PostError.TheVariants.{JournalFull}
use Rattle.sc_thread_drive.specs.Numbers.{is_in}
use Rattle.sc_thread_drive.specs.Companies.{IsCompany}
use Rattle.sc_thread_drive.specs.Stepping.{Stepped}
use Rattle.sc_thread_drive.specs.Goings.{Goes, Fills, IsCalm, StepsSo}
use Rattle.std.proofs.Math.Bool.{or-false}
use Rattle.sc_thread_drive.proofs.SystemWords.{gone_push}
use Rattle.sc_thread_drive.proofs.RowCounts.{flip}

module _ {A M O : Type 0} (s : System A M O) (rows : List (Row M O)) where
  acted_event : (event : Event O) (o : Option (Seat A)) (row : Row M O) → option_map (λ seat. row_of s.table seat rows event) o ≡ Some row → row.event ≡ event
  acted_event event None row e = cc
  acted_event event (Some seat) row e = (let same : row_of s.table seat rows event ≡ row = cc in ap (λ (r : Row M O). r.event) (sym same))

  unless_event : (b : Bool) (who : ℕ) (event : Event O) (row : Row M O) → cond b None (acts s rows who event) ≡ Some row → row.event ≡ event
  unless_event true who event row e = cc
  unless_event false who event row e = acted_event event _ row e

  -- such a line makes no row of a Go
  pub no_go : (line : Line O) (row : Row M O) → IsCalm line → line_row s rows line ≡ Some row → is_go row.event ≡ false
  no_go (GoLine who) row calm e = absurd calm
  no_go (DeliverLine who k) row calm e = by (kth (waiting s rows (Some who)) k) e
    where
      by : (o : Option ℕ) → option_and_then (λ mail. acts s rows who (Deliver mail)) o ≡ Some row → is_go row.event ≡ false
      by None e = cc
      by (Some mail) e = ap is_go (acted_event (Deliver mail) _ row e)
  no_go (DropLine who k) row calm e = by (kth (waiting s rows (Some who)) k) e
    where
      by : (o : Option ℕ) → option_map (λ mail. network (Drop mail)) o ≡ Some row → is_go row.event ≡ false
      by None e = cc
      by (Some mail) e = (let same : network (Drop mail) ≡ row = cc in ap (λ (r : Row M O). is_go r.event) (sym same))
  no_go (AgainLine mail) row calm e = by (numbered (mails rows) mail) e
    where
      at : (b : Bool) → cond b (Some (network (Again mail))) None ≡ Some row → is_go row.event ≡ false
      at true e = (let same : network (Again mail) ≡ row = cc in ap (λ (r : Row M O). is_go r.event) (sym same))
      at false e = cc

      by : (o : Option M) → option_and_then (λ m. cond (may_get (numbers_of s.births) rows (s.receiver m)) (Some (network (Again mail))) None) o ≡ Some row → is_go row.event ≡ false
      by None e = cc
      by (Some m) e = at (may_get (numbers_of s.births) rows (s.receiver m)) e
  no_go (TickLine who) row calm e = ap is_go (unless_event (has_crashed rows who) who Tick row e)
  no_go (CrashLine who) row calm e = ap is_go (unless_event (has_crashed rows who) who Crash row e)
  no_go (ToldLine who order) row calm e = ap is_go (unless_event (has_crashed rows who) who (Told order) row e)
  no_go (Settle most) row calm e = absurd calm
  no_go (Free most workers) row calm e = absurd calm
  no_go (Storm number most) row calm e = absurd calm

-- the row of a Go
module _ {A M O : Type 0} (s : System A M O) (rows : List (Row M O)) (who : ℕ) (row : Row M O) where
  go_found : (o : Option (Seat A)) → find (λ seat. eqb seat.who who) s.births ≡ o → option_map (λ seat. row_of s.table seat rows Go) o ≡ Some row → (row.who ≡ who) × (row.event ≡ Go)
  go_found None is e = cc
  go_found (Some seat) is e =
      let same : row_of s.table seat rows Go ≡ row = cc in
      (ap (λ (r : Row M O). r.who) (sym same) ∙ find-who s.births who seat is, ap (λ (r : Row M O). r.event) (sym same))

  go_row : line_row s rows (GoLine who) ≡ Some row → (row.who ≡ who) × (row.event ≡ Go)
  go_row e = by (has_started rows who) e
    where
      by : (b : Bool) → cond b None (acts s rows who Go) ≡ Some row → (row.who ≡ who) × (row.event ≡ Go)
      by true e = cc
      by false e = go_found (find (λ seat. eqb seat.who who) s.births) refl e

pub go_push : {M O : Type 0} (rows : List (Row M O)) (row : Row M O) (n who : ℕ) → row.who ≡ who → row.event ≡ Go → has_started (rows ++ row ∷ []) n ≡ (has_started rows n || eqb n who)
go_push rows row n who maker event =
    list_any-append (λ r. eqb r.who n && is_go r.event) rows (row ∷ [])
    ∙ ((λ i. has_started rows n || ((eqb (maker i) n && is_go (event i)) || false))
    ∙ ap (λ b. has_started rows n || b) (or-false (eqb who n && true) ∙ (and_true (eqb who n) ∙ flip who n)))
  where
    and_true : (b : Bool) → (b && true) ≡ b
    and_true true = refl
    and_true false = refl

module _ {A M O : Type 0} {g : Ghosts A M O} {h : MailGhosts M} where
  module _ (line : Line O) (net next : Port M O h) (ss after : List (Shell A M O g h)) (score now : Score) (limit : next.limit ≡ net.limit) where
    -- a line that made its row takes the walk on
    pub goes_made : StepsSo line net ss score next after (Ok true) →
        IsCalm line → now.skipped ≡ score.skipped → now.unsettled ≡ score.unsettled → now.started.items ≡ score.started.items → Goes net ss score (Once line ∷ []) next after now []
    goes_made stepped quiet skipped cut started = λ words births lines rest at.
        let s = system g.table h.receiver words births in
        let t = stepped words births at.company (λ n. sym (at.reported n)) in
        let row = t.1.0 in
        let stands : Stands s lines (seen net) (Once line ∷ rest) score.skipped score.unsettled = record { lawful = at.lawful; place = at.place } in
        let on : Stands s lines (seen net ++ row ∷ []) rest score.skipped score.unsettled = Stands-row s lines (seen net) (Once line) rest score.skipped score.unsettled row stands (ap is_none t.1.1) t.1.1 in
        let there : Stands s lines (seen next) rest now.skipped now.unsettled = subst (λ (p : List (Row M O) × ℕ × Bool). Stands s lines p.0 rest p.1 p.2) (λ i. (sym t.1.2 i, sym skipped i, sym cut i)) on in record {
          lawful = there.lawful;
          place = there.place;
          company = t.0;
          reported = λ who. ap (is_in who) started ∙ (at.reported who ∙ (sym (gone_push (seen net) row who (no_go s (seen net) line row quiet t.1.1)) ∙ ap (λ l. has_started l who) (sym t.1.2)));
          within = subst (λ n. journal_bytes h.weighs (seen next) ≤ n) (sym limit) t.2;
        }

    -- a Go
    pub goes_go : (who : ℕ) → line ≡ GoLine who → StepsSo line net ss score next after (Ok true) →
        now.skipped ≡ score.skipped → now.unsettled ≡ score.unsettled → ((n : ℕ) → is_in n now.started.items ≡ (is_in n score.started.items || eqb n who)) → Goes net ss score (Once line ∷ []) next after now []
    goes_go who is stepped skipped cut started = λ words births lines rest at.
        let s = system g.table h.receiver words births in
        let t = stepped words births at.company (λ n. sym (at.reported n)) in
        let row = t.1.0 in
        let stands : Stands s lines (seen net) (Once line ∷ rest) score.skipped score.unsettled = record { lawful = at.lawful; place = at.place } in
        let on : Stands s lines (seen net ++ row ∷ []) rest score.skipped score.unsettled = Stands-row s lines (seen net) (Once line) rest score.skipped score.unsettled row stands (ap is_none t.1.1) t.1.1 in
        let there : Stands s lines (seen next) rest now.skipped now.unsettled = subst (λ (p : List (Row M O) × ℕ × Bool). Stands s lines p.0 rest p.1 p.2) (λ i. (sym t.1.2 i, sym skipped i, sym cut i)) on in
        let what = go_row s (seen net) who row (ap (λ l. line_row s (seen net) l) (sym is) ∙ t.1.1) in record {
          lawful = there.lawful;
          place = there.place;
          company = t.0;
          reported = λ n. started n ∙ ((λ i. at.reported n i || eqb n who) ∙ (sym (go_push (seen net) row n who what.0 what.1) ∙ ap (λ l. has_started l n) (sym t.1.2)));
          within = subst (λ n. journal_bytes h.weighs (seen next) ≤ n) (sym limit) t.2;
        }

    -- a line that makes no row is skipped
    pub goes_skipped : StepsSo line net ss score next after (Ok false) →
        now.skipped ≡ score.skipped + 1 → now.unsettled ≡ score.unsettled → now.started.items ≡ score.started.items → Goes net ss score (Once line ∷ []) next after now []
    goes_skipped stepped skipped cut started = λ words births lines rest at.
        let s = system g.table h.receiver words births in
        let t = stepped words births at.company (λ n. sym (at.reported n)) in
        let stands : Stands s lines (seen net) (Once line ∷ rest) score.skipped score.unsettled = record { lawful = at.lawful; place = at.place } in
        let on : Stands s lines (seen net) rest (score.skipped + 1) (score.unsettled || false) = Stands-over s lines (seen net) (Once line) rest score.skipped score.unsettled stands (ap is_none t.1) in
        let there : Stands s lines (seen next) rest now.skipped now.unsettled = subst (λ (p : List (Row M O) × ℕ × Bool). Stands s lines p.0 rest p.1 p.2) (λ i. (sym t.2 i, sym skipped i, (or-false score.unsettled ∙ sym cut) i)) on in record {
          lawful = there.lawful;
          place = there.place;
          company = t.0;
          reported = λ who. ap (is_in who) started ∙ (at.reported who ∙ ap (λ l. has_started l who) (sym t.2));
          within = subst (λ (p : List (Row M O) × ℕ). journal_bytes h.weighs p.0 ≤ p.1) (λ i. (sym t.2 i, sym limit i)) at.within;
        }

    -- a line whose row passes the limit
    pub fills_full : (bytes : ℕ) → StepsSo line net ss score next after (Err (JournalFull bytes)) → Fills net ss score (Once line ∷ []) next
    fills_full bytes stepped = λ words births lines rest at.
        let s = system g.table h.receiver words births in
        let t = stepped words births at.company (λ n. sym (at.reported n)) in
        let row = t.0.0 in
        let stands : Stands s lines (seen net) (Once line ∷ rest) score.skipped score.unsettled = record { lawful = at.lawful; place = at.place } in
        let here : IsFull s h.weighs lines net.limit (seen net) = record {
          lawful = at.lawful;
          within = at.within;
          row = row;
          next = Stands-next s lines (seen net) (Once line) rest score.skipped score.unsettled row stands (ap is_none t.0.1) t.0.1;
          passes = subst (λ n. net.limit < n) (sym (bytes-push h.weighs (seen net) row)) t.0.2;
        } in
        subst (IsFull s h.weighs lines net.limit) (sym t.1) here

-- the list of those who were told to go, with one more
pub go_pushed : (n who : ℕ) (ws vs : List ℕ) → vs ≡ ws ++ who ∷ [] → is_in n vs ≡ (is_in n ws || eqb n who)
go_pushed n who ws vs is = ap (is_in n) is ∙ (list_any-append (λ w. eqb n w) ws (who ∷ []) ∙ ap (λ b. is_in n ws || b) (or-false (eqb n who)))

-- a Go of one who was not told to go
pub go_steps : {A M O : Type 0} {g : Ghosts A M O} {h : MailGhosts M} (who : ℕ) (net next : Port M O h) (ss after : List (Shell A M O g h)) (score : Score) (step : Result Bool PostError) → is_in who score.started.items ≡ false →
    ((words : ℕ → ℕ → ℕ × ℕ) (births : List (Seat A)) → IsCompany births net ss → Stepped (system g.table h.receiver words births) (acts (system g.table h.receiver words births) (seen net) who Go) net next after step) → StepsSo (GoLine who) net ss score next after step
go_steps {g = g} {h = h} who net next ss after score step no_event_answer f = λ words births company reported.
    let s = system g.table h.receiver words births in
    subst (λ o. Stepped s o net next after step) (sym (ap (λ b. cond b None (acts s (seen net) who Go)) (reported who ∙ no_event_answer))) (f words births company)

-- a line of one row that is no `go` line, since it is none of the others
pub calm_else : {O : Type 0} (line : Line O) → ((who : ℕ) → line ≡ GoLine who → ⊥) → ((most : ℕ) → line ≡ Settle most → ⊥) → ((most workers : ℕ) → line ≡ Free most workers → ⊥) → ((number most : ℕ) → line ≡ Storm number most → ⊥) → IsCalm line
calm_else (GoLine who) go settle free storm = go who refl
calm_else (DeliverLine who k) go settle free storm = tt
calm_else (DropLine who k) go settle free storm = tt
calm_else (AgainLine mail) go settle free storm = tt
calm_else (TickLine who) go settle free storm = tt
calm_else (CrashLine who) go settle free storm = tt
calm_else (ToldLine who order) go settle free storm = tt
calm_else (Settle most) go settle free storm = settle most refl
calm_else (Free most workers) go settle free storm = free most workers refl
calm_else (Storm number most) go settle free storm = storm number most refl

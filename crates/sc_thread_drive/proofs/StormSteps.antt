-- A storm takes the walk on, step by step.
use Rattle.std.proofs.Common.{◌≡◌, ℕ, ◌+◌, ◌-◌, ◌%◌, ◌<◌, ◌≤◌, Bool, true, false, ◌||◌, List, [], ◌∷◌, ◌++◌, length, get_or, sym, ap, ◌∙◌, subst, arith, Option, None, Some}
use Rattle.std.specs.Prelude.{is_none, option_and_then, IfSome, Ok, Err}
use Rattle.std.proofs.Math.Bool.{or-false}
use Rattle.sc_actor.specs.declared.actors.Actor.{Ghosts}
use Rattle.sc_actor.specs.declared.actors.Parcel.{Ghosts as MailGhosts}
use Rattle.sc_actor.specs.declared.actors.Seat.{Seat}
use Rattle.sc_actor.specs.declared.rows.Row.{Row}
use Rattle.sc_actor.specs.declared.schedules.Line.{Line}
use Rattle.sc_actor.specs.Counted.{journal_bytes, IsFull}
use Rattle.sc_actor.specs.System.{System, system, numbers_of, has_started, is_go, no_words}
use Rattle.sc_actor.specs.Walk.{Storms, line_row, storm_row, storm_steps}
use Rattle.sc_actor.proofs.TaskLemmas.{steps_left}
use Rattle.sc_actor.proofs.WalkLemmas.{Stands, Stands-over, Stands-row, Stands-next}
use Rattle.sc_thread_ledger.specs.declared.spots.Look.{Look}
use Rattle.sc_thread_ledger.proofs.Kept.{bytes-push}
use Rattle.sc_thread_ports.specs.declared.exchange.ports.Port.{Port}
use Rattle.sc_thread_ports.specs.exchange.Ports.{seen}
use Rattle.sc_thread_ports.specs.exchange.Answers.{IsLook}
use Rattle.sc_thread_pool.specs.declared.storm.deeds.Deed.{Deed}
use Rattle.sc_thread_pool.specs.declared.storm.deeds.Deed.TheVariants.{Drop, Again, Tick, Deliver, Nothing}
use Rattle.sc_thread_pool.specs.storm.Deeds.{deed_of, deed_line}
use Rattle.sc_thread_pool.specs.storm.Laws.{AreWithin, MakesItsRow}
use Rattle.sc_thread_work.specs.declared.shell.shells.Shell.{Shell}
use Rattle.sc_thread_workers.proofs.ChangedLists.{one_of}
use Rattle.sc_thread_drive.specs.declared.company.Score.{Score}
use Rattle.sc_thread_ledger.specs.declared.errors.PostError.TheVariants.{JournalFull}
use Rattle.sc_thread_drive.specs.Companies.{IsCompany}
use Rattle.sc_thread_drive.specs.Goings.{HasReached, Goes, Fills, DeedMade, IsCalm}
use Rattle.sc_thread_drive.specs.Storming.{IsStormLine}
use Rattle.sc_thread_drive.proofs.ActRows.{birth_number}
use Rattle.sc_thread_drive.proofs.SingleSteps.{no_go}
use Rattle.sc_thread_drive.proofs.SystemWords.{births_long, gone_push}

-- the line of a deed is no `go` line
pub calm_deed : (O : Type 0) (deed : Deed) → IfSome (deed_line {O = O} deed) IsCalm
calm_deed O (Drop number who k) = tt
calm_deed O (Again number) = tt
calm_deed O (Tick who) = tt
calm_deed O (Deliver who k) = tt
calm_deed O Nothing = tt

module _ {A M O : Type 0} {g : Ghosts A M O} {h : MailGhosts M} where
  -- the actors of a company have numbers of its exchange
  company_within : (births : List (Seat A)) (net : Port M O h) (ss : List (Shell A M O g h)) → IsCompany births net ss → AreWithin net.actors births
  company_within births net ss c = λ k e lt.
      let inside : k < length ss = omega (arith, lt, births_long no_words births net ss c) in
      let d = one_of ss k inside in
      let number : (get_or ss k d).port.who ≡ (get_or births k e).who = sym (birth_number births net ss k d e c inside) in
      (subst (λ w. 0 < w) number (get_or ss k d).numbered, subst (λ w. w ≤ net.actors) number (c.within k d inside))

  -- the line of the deed that was drawn is that of the step
  pub storm_line_is : (law : (draws : ℕ → ℕ → ℕ × ℕ) (births : List (Seat A)) (actors : ℕ) (rows : List (Row M O)) (look : Look) (words : ℕ × ℕ) → MakesItsRow (system g.table h.receiver draws births) actors rows look words)
      (next : Port M O h) (after : List (Shell A M O g h)) (numbers : List ℕ) (look : Look) (step : ℕ × ℕ) →
      ((births : List (Seat A)) → IsCompany births next after → (numbers ≡ numbers_of births) × IsLook h.receiver next.actors (seen next) look) → IsStormLine step next after (deed_line (deed_of numbers look step))
  storm_line_is law next after numbers look step seen_so = λ words births c.
      let s = system g.table h.receiver words births in
      let so = seen_so births c in
      law words births next.actors (seen next) look step (company_within births next after c) so.1
      ∙ ap (λ ns. option_and_then (line_row s (seen next)) (deed_line (deed_of ns look step))) (sym so.0)

  module _ (step : ℕ × ℕ) (line : Option (Line O)) (net next : Port M O h) (ss after : List (Shell A M O g h)) (score : Score) (limit : next.limit ≡ net.limit) (is : IsStormLine step net ss line) where
    calm_row : (s : System A M O) (o : Option (Line O)) (row : Row M O) → IfSome o IsCalm → option_and_then (line_row s (seen net)) o ≡ Some row → is_go row.event ≡ false
    calm_row s None row calm e = cc
    calm_row s (Some l) row calm e = no_go s (seen net) l row calm e

    -- a step that made its row takes the walk on
    pub storms_made : IfSome line IsCalm → DeedMade line net ss next after (Ok true) → Goes net ss score (Storms step ∷ []) next after score []
    storms_made calm made = λ words births lines rest at.
        let s = system g.table h.receiver words births in
        let t = made words births at.company in
        let row = t.1.0 in
        let may : storm_row s (seen net) (step.0 % 16) step.1 ≡ Some row = is words births at.company ∙ t.1.1 in
        let stands : Stands s lines (seen net) (Storms step ∷ rest) score.skipped score.unsettled = record { lawful = at.lawful; place = at.place } in
        let on : Stands s lines (seen net ++ row ∷ []) rest score.skipped score.unsettled = Stands-row s lines (seen net) (Storms step) rest score.skipped score.unsettled row stands (ap is_none may) may in
        let there : Stands s lines (seen next) rest score.skipped score.unsettled = subst (λ l. Stands s lines l rest score.skipped score.unsettled) (sym t.1.2) on in record {
          lawful = there.lawful;
          place = there.place;
          company = t.0;
          reported = λ who. at.reported who ∙ (sym (gone_push (seen net) row who (calm_row s line row calm t.1.1)) ∙ ap (λ l. has_started l who) (sym t.1.2));
          within = subst (λ n. journal_bytes h.weighs (seen next) ≤ n) (sym limit) t.2;
        }

    -- a step that makes no row is passed
    pub storms_skipped : DeedMade line net ss next after (Ok false) → Goes net ss score (Storms step ∷ []) next after score []
    storms_skipped skipped = λ words births lines rest at.
        let s = system g.table h.receiver words births in
        let t = skipped words births at.company in
        let none : storm_row s (seen net) (step.0 % 16) step.1 ≡ None = is words births at.company ∙ t.1 in
        let stands : Stands s lines (seen net) (Storms step ∷ rest) score.skipped score.unsettled = record { lawful = at.lawful; place = at.place } in
        let on : Stands s lines (seen net) rest (score.skipped + 0) (score.unsettled || false) = Stands-over s lines (seen net) (Storms step) rest score.skipped score.unsettled stands (ap is_none none) in
        let count : score.skipped + 0 ≡ score.skipped = omega arith in
        let there : Stands s lines (seen next) rest score.skipped score.unsettled = subst (λ (p : List (Row M O) × ℕ × Bool). Stands s lines p.0 rest p.1 p.2) (λ i. (sym t.2 i, count i, or-false score.unsettled i)) on in record {
          lawful = there.lawful;
          place = there.place;
          company = t.0;
          reported = λ who. at.reported who ∙ ap (λ l. has_started l who) (sym t.2);
          within = subst (λ (p : List (Row M O) × ℕ). journal_bytes h.weighs p.0 ≤ p.1) (λ i. (sym t.2 i, sym limit i)) at.within;
        }

    -- a step whose row passes the limit
    pub storms_full : (bytes : ℕ) → DeedMade line net ss next after (Err (JournalFull bytes)) → Fills net ss score (Storms step ∷ []) next
    storms_full bytes full = λ words births lines rest at.
        let s = system g.table h.receiver words births in
        let t = full words births at.company in
        let row = t.0.0 in
        let may : storm_row s (seen net) (step.0 % 16) step.1 ≡ Some row = is words births at.company ∙ t.0.1 in
        let stands : Stands s lines (seen net) (Storms step ∷ rest) score.skipped score.unsettled = record { lawful = at.lawful; place = at.place } in
        let here : IsFull s h.weighs lines net.limit (seen net) = record {
          lawful = at.lawful;
          within = at.within;
          row = row;
          next = Stands-next s lines (seen net) (Storms step) rest score.skipped score.unsettled row stands (ap is_none may) may;
          passes = subst (λ n. net.limit < n) (sym (bytes-push h.weighs (seen net) row)) t.0.2;
        } in
        subst (IsFull s h.weighs lines net.limit) (sym t.1) here

module _ {A M O : Type 0} {g : Ghosts A M O} {h : MailGhosts M} (net mid next : Port M O h) (ss mids after : List (Shell A M O g h)) (score between now : Score) (words : ℕ → ℕ × ℕ) (most done : ℕ) (lt : done < most)
    (goes : Goes net ss score (storm_steps words 0 most) mid mids between (storm_steps words done (most - done))) where
  -- a storm goes on by a step
  pub storm_goes : Goes mid mids between (Storms (words done) ∷ []) next after now [] → Goes net ss score (storm_steps words 0 most) next after now (storm_steps words (done + 1) (most - (done + 1)))
  storm_goes step = λ draws births lines rest at.
      step draws births lines (storm_steps words (done + 1) (most - (done + 1)) ++ rest)
      (subst (λ ts. HasReached draws births lines mid mids between (ts ++ rest)) (steps_left words most done lt) (goes draws births lines rest at))

  -- a step of it comes to a row that passes the limit
  pub storm_fills : mid.limit ≡ net.limit → Fills mid mids between (Storms (words done) ∷ []) next → Fills net ss score (storm_steps words 0 most) next
  storm_fills limit step = λ draws births lines rest at.
      subst (λ n. IsFull (system g.table h.receiver draws births) h.weighs lines n (seen next)) limit
      (step draws births lines (storm_steps words (done + 1) (most - (done + 1)) ++ rest)
      (subst (λ ts. HasReached draws births lines mid mids between (ts ++ rest)) (steps_left words most done lt) (goes draws births lines rest at)))

module _ {A M O : Type 0} {g : Ghosts A M O} {h : MailGhosts M} where
  -- a storm begins
  pub storm_begins : (net : Port M O h) (ss : List (Shell A M O g h)) (score : Score) (words : ℕ → ℕ × ℕ) (most : ℕ) → Goes net ss score (storm_steps words 0 most) net ss score (storm_steps words 0 (most - 0))
  storm_begins net ss score words most = λ draws births lines rest at.
      let all : most ≡ most - 0 = omega arith in
      subst (λ n. HasReached draws births lines net ss score (storm_steps words 0 n ++ rest)) all at

  -- after its last step nothing of it is left
  pub storm_ends : (net next : Port M O h) (ss after : List (Shell A M O g h)) (score now : Score) (words : ℕ → ℕ × ℕ) (most done : ℕ) → most ≤ done → Goes net ss score (storm_steps words 0 most) next after now (storm_steps words done (most - done)) →
      Goes net ss score (storm_steps words 0 most) next after now []
  storm_ends net next ss after score now words most done le goes = λ draws births lines rest at.
      let none : most - done ≡ 0 = omega (arith, le) in
      subst (λ n. HasReached draws births lines next after now (storm_steps words done n ++ rest)) none (goes draws births lines rest at)

-- A free line takes the walk on.
use Rattle.std.proofs.Common.{◌≡◌, ℕ, ◌+◌, ◌-◌, ◌<◌, ◌≤◌, Bool, true, false, eqb, not, ◌||◌, List, [], ◌∷◌, length, get_or, refl, sym, ap, ◌∙◌, subst, arith, Some}
use Rattle.std.specs.Prelude.{option_and_then}
use Rattle.std.proofs.lemmas.Bool.{ne_eqb}
use Rattle.sc_actor.specs.declared.actors.Actor.{Ghosts}
use Rattle.sc_actor.specs.declared.actors.Parcel.{Ghosts as MailGhosts}
use Rattle.sc_actor.specs.declared.actors.Seat.{Seat}
use Rattle.sc_actor.specs.declared.rows.Row.{Row}
use Rattle.sc_actor.specs.declared.rows.Event.TheVariants.{Deliver}
use Rattle.sc_actor.specs.declared.schedules.Line.{Line}
use Rattle.sc_actor.specs.Counted.{row_bytes, journal_bytes, IsFull}
use Rattle.sc_actor.specs.System.{System, system, row_of, acts, waiting, kth, has_started}
use Rattle.sc_actor.specs.Walk.{Task, Frees, is_over, is_quiet, first_of}
use Rattle.sc_actor.proofs.WalkLemmas.{Stands, Stands-over, Stands-next}
use Rattle.sc_thread_ledger.specs.Pending.{kth_pending}
use Rattle.sc_thread_ledger.proofs.Kept.{bytes-push}
use Rattle.sc_thread_ports.specs.declared.exchange.ports.Port.{Port}
use Rattle.sc_thread_ports.specs.exchange.Ports.{seen, Looked, IsTrue}
use Rattle.sc_thread_work.specs.declared.shell.shells.Shell.{Shell}
use Rattle.sc_thread_workers.specs.declared.answers.Rounds.TheVariants.{Quiet, Limit, Full}
use Rattle.sc_thread_workers.specs.Crews.{AllGo, AllOver, AllStill, AllSound, crew_numbers, rows_made}
use Rattle.sc_thread_workers.specs.Services.{AllServe}
use Rattle.sc_thread_workers.specs.RoundEnds.{IsEnd, IsGathered}
use Rattle.sc_thread_drive.specs.declared.company.Score.{Score}
use Rattle.sc_thread_drive.specs.Numbers.{is_in}
use Rattle.sc_thread_drive.specs.Goings.{HasReached, Goes, Fills}
use Rattle.sc_thread_drive.proofs.ActRows.{birth_number}
use Rattle.sc_thread_drive.proofs.SystemWords.{acts_at, waiting_at}
use Rattle.sc_actor.proofs.PendingLemmas.{some_waits}
use Rattle.sc_thread_drive.proofs.FreeRows.{more_count, free_walk, gone_same}
use Rattle.sc_thread_drive.proofs.Companies.{true_before, company_go, company_still, gathered_same, quiet_after, cut_after}
use Rattle.sc_thread_workers.proofs.ChangedLists.{one_of}
use Rattle.std.proofs.Math.Bool.{or-false, or-true}

module _ {A M O : Type 0} {g : Ghosts A M O} {h : MailGhosts M} where
  module _ (net mid next : Port M O h) (ss mids after : List (Shell A M O g h)) (score now : Score) (most : ℕ) (looked : Looked net mid) (len : length mids ≡ length ss) (go : AllGo ss mids)
      (looked2 : Looked mid next) (len2 : length after ≡ length mids) (still : AllStill mids after) (gathered : IsGathered next after) (rows : IsTrue next) where
    rows_mid : IsTrue mid
    rows_mid = true_before mid next looked2 rows

    limit_mid : mid.limit ≡ net.limit
    limit_mid = looked.stays.exchange.2

    limit_next : next.limit ≡ net.limit
    limit_next = looked2.stays.exchange.2 ∙ limit_mid

    module _ (words : ℕ → ℕ → ℕ × ℕ) (births : List (Seat A)) (lines : List (Line O)) (rest : List (Task O)) (at : HasReached words births lines net ss score (Frees most ∷ rest)) (over : AllOver mid mids) (served : AllServe mid ss) where
      s : System A M O
      s = system g.table h.receiver words births

      count : length looked.later.0 + rows_made ss ≡ rows_made mids
      count = more_count words births net mid ss mids at.company looked len go over rows_mid served

      walked : length looked.later.0 ≤ most → Stands (system g.table h.receiver words births) lines (seen mid) (Frees (most - length looked.later.0) ∷ rest) score.skipped score.unsettled × (journal_bytes h.weighs (seen mid) ≤ mid.limit)
      walked few =
          free_walk words births net mid ss mids at.company looked len go over rows_mid served lines rest score.skipped score.unsettled most few (subst (λ n. journal_bytes h.weighs (seen net) ≤ n) (sym limit_mid) at.within)
          (record { lawful = at.lawful; place = at.place })

      gone_mid : (who : ℕ) → has_started (seen mid) who ≡ has_started (seen net) who
      gone_mid = gone_same words births net mid ss mids at.company looked len go over rows_mid served

      ended : AllSound mids → (few : length looked.later.0 ≤ most) (cut : Bool) → is_quiet (system g.table h.receiver words births) (seen mid) ≡ not cut → is_over (system g.table h.receiver words births) (seen mid) (let task : Task O = Frees (most - length looked.later.0) in task) ≡ true → now.skipped ≡ score.skipped → now.unsettled ≡ (score.unsettled || cut) → now.started.items ≡ score.started.items → HasReached words births lines next after now rest
      ended sound few cut quiet done skipped unsettled started =
          let c1 = company_go births net mid ss mids at.company looked len go over rows_mid sound in
          let c2 = company_still births mid next mids after c1 looked2 len2 still gathered rows in
          let w = walked few in
          let on : Stands (system g.table h.receiver words births) lines (seen mid) rest (score.skipped + 0) (score.unsettled || not (is_quiet (system g.table h.receiver words births) (seen mid))) =
          Stands-over (system g.table h.receiver words births) lines (seen mid) (Frees (most - length looked.later.0)) rest score.skipped score.unsettled w.0 done in
          let same : score.skipped + 0 ≡ now.skipped = omega (arith, skipped) in
          let cuts : (score.unsettled || not (is_quiet (system g.table h.receiver words births) (seen mid))) ≡ now.unsettled = ap (λ b. score.unsettled || not b) quiet ∙ (ap (λ b. score.unsettled || b) (twice cut) ∙ sym unsettled) in
          let there : Stands (system g.table h.receiver words births) lines (seen next) rest now.skipped now.unsettled = subst (λ (p : List (Row M O) × ℕ × Bool). Stands (system g.table h.receiver words births) lines p.0 rest p.1 p.2) (λ i. (sym c2.1 i, same i, cuts i)) on in record {
            lawful = there.lawful;
            place = there.place;
            company = c2.0;
            reported = λ who. ap (is_in who) started ∙ (at.reported who ∙ (sym (gone_mid who) ∙ ap (λ l. has_started l who) (sym c2.1)));
            within = subst (λ (p : List (Row M O) × ℕ). journal_bytes h.weighs p.0 ≤ p.1) (λ i. (sym c2.1 i, sym looked2.stays.exchange.2 i)) w.1;
          }
        where
          twice : (b : Bool) → not (not b) ≡ b
          twice true = refl
          twice false = refl

      full_at : (left : ℕ) (place : ℕ) (lt : place < length ss) (lm : place < length mids) (d : Shell A M O g h) (number : ℕ) → 0 < left → Stands (system g.table h.receiver words births) lines (seen mid) (Frees left ∷ rest) score.skipped score.unsettled → journal_bytes h.weighs (seen mid) ≤ mid.limit →
          kth_pending h.receiver mid.actors (seen mid) (get_or mids place d).port.who 1 ≡ Some number → mid.limit < journal_bytes h.weighs (seen mid) + row_bytes h.weighs (row_of g.table (record { who = (get_or mids place d).port.who; actor = (get_or births place (record { who = 0; actor = d.actor })).actor }) (seen mid) (Deliver number)) →
          IsFull (system g.table h.receiver words births) h.weighs lines net.limit (seen mid)
      full_at left place lt lm d number some stands fits first passes =
          let sys = system g.table h.receiver words births in
          let e : Seat A = record { who = 0; actor = d.actor } in
          let row = row_of g.table (get_or births place e) (seen mid) (Deliver number) in
          let same : (get_or mids place d).port.who ≡ (get_or ss place d).port.who = (go place d lt).stays.who in
          let seat : (get_or births place e).who ≡ (get_or ss place d).port.who = birth_number births net ss place d e at.company lt in
          let wait : kth (waiting sys (seen mid) (Some (get_or ss place d).port.who)) 1 ≡ Some number = sym (waiting_at words births net ss at.company place lt d (seen mid) 1) ∙ ((λ i. kth_pending h.receiver (sym looked.stays.exchange.1 i) (seen mid) (sym same i) 1) ∙ first) in
          let may : first_of sys (seen mid) (get_or ss place d).port.who ≡ Some row = ap (option_and_then (λ mail. acts sys (seen mid) (get_or ss place d).port.who (Deliver mail))) wait ∙ acts_at words births net ss at.company place lt d e (seen mid) (Deliver number) in
          let opens : is_over sys (seen mid) (Frees left) ≡ false = ap (λ b. b || is_quiet sys (seen mid)) (ne_eqb left 0 (λ z. absurd (omega (arith, z, some)))) ∙ some_waits sys (seen mid) (get_or ss place d).port.who number wait in
          let bytes : row_bytes h.weighs (row_of g.table (record { who = (get_or mids place d).port.who; actor = (get_or births place e).actor }) (seen mid) (Deliver number)) ≡ row_bytes h.weighs row =
          λ i. row_bytes h.weighs (row_of g.table (record { who = (same ∙ sym seat) i; actor = (get_or births place e).actor }) (seen mid) (Deliver number)) in record {
            lawful = stands.lawful;
            within = subst (λ n. journal_bytes h.weighs (seen mid) ≤ n) limit_mid fits;
            row = row;
            next = Stands-next sys lines (seen mid) (Frees left) rest score.skipped score.unsettled row stands opens (ap (first_of sys (seen mid)) seat ∙ may);
            passes = subst (λ n. net.limit < n) (sym (bytes-push h.weighs (seen mid) row)) (omega (arith, passes, bytes, limit_mid));
          }

    -- a free line at whose end nothing is pending
    pub frees_quiet : (used : ℕ) → IsEnd (Quiet used) mid ss mids (crew_numbers ss) most → now.skipped ≡ score.skipped → now.unsettled ≡ score.unsettled → now.started.items ≡ score.started.items → Goes net ss score (Frees most ∷ []) next after now []
    frees_quiet used e skipped unsettled started = λ words births lines rest at.
        let n = count words births lines rest at e.0 e.4 in
        let quiet = quiet_after words births net mid ss at.company looked.stays.exchange.1 e.1 in
        ended words births lines rest at e.0 e.4 e.5 (omega (arith, n, e.2, e.3)) false quiet (ap (λ b. eqb (most - length looked.later.0) 0 || b) quiet ∙ or-true (eqb (most - length looked.later.0) 0)) skipped (unsettled ∙ sym (or-false score.unsettled)) started

    -- one that ends with mail pending
    pub frees_cut : (used : ℕ) → IsEnd (Limit used) mid ss mids (crew_numbers ss) most → now.skipped ≡ score.skipped → now.unsettled ≡ true → now.started.items ≡ score.started.items → Goes net ss score (Frees most ∷ []) next after now []
    frees_cut used e skipped unsettled started = λ words births lines rest at.
        let n = count words births lines rest at e.0 e.4 in
        let loud = cut_after words births net mid ss at.company looked.stays.exchange.1 e.1 in
        let none : most - length looked.later.0 ≡ 0 = omega (arith, n, e.2, e.3) in
        ended words births lines rest at e.0 e.4 e.5 (omega (arith, n, e.2, e.3)) true loud (ap (λ k. eqb k 0 || is_quiet (system g.table h.receiver words births) (seen mid)) none) skipped (unsettled ∙ sym (or-true score.unsettled)) started

    -- one that comes to a row that passes the limit
    pub frees_full : (bytes : ℕ) → IsEnd (Full bytes) mid ss mids (crew_numbers ss) most → Fills net ss score (Frees most ∷ []) next
    frees_full bytes e = λ words births lines rest at.
        let n = count words births lines rest at e.0 e.3 in
        let few : length looked.later.0 < most = omega (arith, n, e.2) in
        let w = walked words births lines rest at e.0 e.3 (omega (arith, few)) in
        let lm : e.1.place < length mids = e.1.inside in
        let lt : e.1.place < length ss = omega (arith, lm, len) in
        let d = one_of ss e.1.place lt in
        let r = e.1.refused d in
        let x : Seat A = record { who = 0; actor = d.actor } in
        let here = full_at words births lines rest at e.0 e.3 (most - length looked.later.0) e.1.place lt lm d r.number (omega (arith, few)) w.0 w.1 r.first (r.passes (get_or births e.1.place x).actor (λ _. at.company.replay e.1.place d x lt)) in
        subst (IsFull (system g.table h.receiver words births) h.weighs lines net.limit) (sym (gathered_same births net mid next ss mids after at.company looked len go e.0 rows_mid looked2 len2 still gathered rows)) here

-- The rows of rounds are rows that the walk allows to a free line.
use Rattle.std.proofs.Common.{◌≡◌, ℕ, zero, suc, ◌+◌, ◌-◌, ◌<◌, ◌≤◌, Bool, true, false, true≢false, eqb, eq-eqb, ◌||◌, List, [], ◌∷◌, ◌++◌, length, get_or, refl, sym, ap, ◌∙◌, subst, arith, length-append, append_assoc, Some, Contains}
use Rattle.std.specs.Prelude.{option_and_then}
use Rattle.std.specs.List.{list_any}
use Rattle.std.proofs.lemmas.List.{append-nil}
use Rattle.std.proofs.lemmas.Bool.{eqb-true, ne_eqb, or_parts}
use Rattle.sc_thread_ports.specs.turn.Turn.{StartsWith}
use Rattle.sc_actor.specs.declared.actors.Actor.{Ghosts}
use Rattle.sc_actor.specs.declared.actors.Parcel.{Ghosts as MailGhosts}
use Rattle.sc_actor.specs.declared.actors.Seat.{Seat}
use Rattle.sc_actor.specs.declared.rows.Row.{Row}
use Rattle.sc_actor.specs.declared.rows.Event.TheVariants.{Deliver}
use Rattle.sc_actor.specs.declared.schedules.Line.{Line}
use Rattle.sc_actor.specs.Counted.{journal_bytes}
use Rattle.sc_actor.specs.System.{System, row_of, acts, waiting, kth, has_started, is_go}
use Rattle.sc_actor.specs.Walk.{Task, Frees, is_over, is_quiet, first_of}
use Rattle.sc_actor.proofs.WalkLemmas.{Stands, Stands-row}
use Rattle.sc_actor.proofs.PendingLemmas.{some_waits}
use Rattle.sc_thread_ledger.specs.Pending.{kth_pending}
use Rattle.sc_thread_ports.specs.declared.exchange.ports.Port.{Port}
use Rattle.sc_thread_ports.specs.exchange.BareRows.{rows_of}
use Rattle.sc_thread_ports.specs.exchange.Ports.{seen, made, Looked, IsTrue}
use Rattle.sc_thread_work.specs.declared.shell.shells.Shell.{Shell}
use Rattle.sc_thread_workers.specs.Crews.{AllGo, AllOver, crew_numbers, rows_made}
use Rattle.sc_thread_workers.specs.Services.{IsService, AllServe}
use Rattle.sc_thread_workers.proofs.Serving.{numbers_go, count_later}
use Rattle.sc_thread_workers.proofs.Attending.{count_split}
use Rattle.sc_thread_drive.specs.Numbers.{is_in, apart}
use Rattle.sc_thread_drive.specs.Companies.{IsCompany}
use Rattle.sc_thread_drive.proofs.RowCounts.{not_in}
use Rattle.sc_thread_drive.proofs.OneActed.{count_seen, count_company}
use Rattle.sc_thread_drive.proofs.ActRows.{birth_number}
use Rattle.sc_thread_drive.proofs.SystemWords.{sys, acts_at, waiting_at, gone_push}
use Rattle.sc_thread_workers.proofs.ChangedLists.{one_of}

-- a number that is in a list
pub flip_in : (n : ℕ) (ws : List ℕ) → list_any (λ a. eqb a n) ws ≡ true → is_in n ws ≡ true
flip_in n [] e = e
flip_in n (w ∷ ws) e = by (eqb w n) refl (flip_in n ws)
  where
    or_right : (a b : Bool) → b ≡ true → (a || b) ≡ true
    or_right true b e = refl
    or_right false b e = e

    by : (b : Bool) → eqb w n ≡ b → (list_any (λ a. eqb a n) ws ≡ true → is_in n ws ≡ true) → is_in n (w ∷ ws) ≡ true
    by true is later = ap (λ b. b || is_in n ws) (eq-eqb n w (sym (eqb-true w n is)))
    by false is later = or_right (eqb n w) (is_in n ws) (later (ap (λ b. b || list_any (λ a. eqb a n) ws) (sym is) ∙ e))

module _ {A M O : Type 0} {g : Ghosts A M O} {h : MailGhosts M} where
  -- the place of a number
  pub in_at : (n : ℕ) (ss : List (Shell A M O g h)) → is_in n (crew_numbers ss) ≡ true → (k : ℕ) × (k < length ss) × ((d : Shell A M O g h) → (get_or ss k d).port.who ≡ n)
  in_at n [] e = absurd (true≢false (sym e))
  in_at n (s ∷ ss) e = by (eqb n s.port.who) refl (in_at n ss)
    where
      by : (b : Bool) → eqb n s.port.who ≡ b → (is_in n (crew_numbers ss) ≡ true → (k : ℕ) × (k < length ss) × ((d : Shell A M O g h) → (get_or ss k d).port.who ≡ n)) → (k : ℕ) × (k < length (s ∷ ss)) × ((d : Shell A M O g h) → (get_or (s ∷ ss) k d).port.who ≡ n)
      by true is later = (0, omega arith, λ d. sym (eqb-true n s.port.who is))
      by false is later = let q = later (ap (λ b. b || is_in n (crew_numbers ss)) (sym is) ∙ e) in (suc q.0, omega (arith, q.1), λ d. q.2 d)

  module _ (words : ℕ → ℕ → ℕ × ℕ) (births : List (Seat A)) (net next : Port M O h) (ss after : List (Shell A M O g h)) (c : IsCompany births net ss) (looked : Looked net next) (len : length after ≡ length ss) (go : AllGo ss after) (over : AllOver next after) (rows : IsTrue next) (served : AllServe next ss) where
    abbrev world : System A M O
    world = sys words births net ss c

    abbrev more : List (Row M O)
    more = looked.later.0

    numbers_are : crew_numbers after ≡ crew_numbers ss
    numbers_are = numbers_go ss after len go

    first_is_net : next.who ≡ 0
    first_is_net = looked.stays.who ∙ c.first

    -- as many rows as the shells made
    pub more_count : length more + rows_made ss ≡ rows_made after
    more_count =
        let a = count_company births net ss c in
        let b = count_seen next after first_is_net (looked.stays.given ∙ (c.all ∙ sym numbers_are)) (ap (λ ws. apart (0 ∷ ws)) numbers_are ∙ c.far) over rows in
        omega (arith, a, b, ap length looked.made, ap length looked.later.1, length-append (seen net) more)

    closed : (n : ℕ) → is_in n (0 ∷ crew_numbers ss) ≡ false → rows_of n (seen next) ≡ []
    closed n out =
        let parts = or_parts (eqb n 0) (is_in n (crew_numbers ss)) out in
        rows.others first_is_net n (λ z. true≢false (sym (eq-eqb n 0 z) ∙ parts.0)) (λ x. not_in n (crew_numbers ss) parts.1 (subst (λ ws. Contains ws n) (looked.stays.given ∙ c.all) x))

    -- the maker of a new row has a shell
    maker_in : (prefix : List (Row M O)) (row : Row M O) (rest : List (Row M O)) → seen next ≡ prefix ++ row ∷ rest → StartsWith prefix (seen net) → is_in row.who (crew_numbers ss) ≡ true
    maker_in prefix row rest is low = by (is_in row.who (0 ∷ crew_numbers ss)) refl
      where
        net_count : length (rows_of 0 (seen net)) ≡ length (rows_of 0 (seen next))
        net_count =
            ap (λ n. length (rows_of n (seen net))) (sym c.first) ∙ (ap length c.rows.own ∙ (ap length (sym looked.made) ∙ (ap length (sym rows.own) ∙ ap (λ n. length (rows_of n (seen next))) first_is_net)))

        not_net : row.who ≡ 0 → ⊥
        not_net z = absurd (omega (arith, net_count, ap (λ l. length (rows_of 0 l)) is, count_split 0 prefix rest row z, count_later 0 prefix (seen net) low))

        by : (b : Bool) → is_in row.who (0 ∷ crew_numbers ss) ≡ b → is_in row.who (crew_numbers ss) ≡ true
        by true e = ap (λ b. b || is_in row.who (crew_numbers ss)) (sym (ne_eqb row.who 0 not_net)) ∙ e
        by false e = absurd (omega (arith, ap length (closed row.who e), ap (λ l. length (rows_of row.who l)) is, count_split row.who prefix rest row refl))

    -- a new row is the first delivery of its actor
    allowed : (prefix : List (Row M O)) (row : Row M O) (rest : List (Row M O)) → seen next ≡ prefix ++ row ∷ rest → StartsWith prefix (seen net) → (number : ℕ) × (kth (waiting world prefix (Some row.who)) 1 ≡ Some number) × (acts world prefix row.who (Deliver number) ≡ Some row) × (row.event ≡ Deliver number) × (journal_bytes h.weighs (prefix ++ row ∷ []) ≤ next.limit)
    allowed prefix row rest is low =
        let place = in_at row.who ss (maker_in prefix row rest is low) in
        let k = place.0 in
        let lt : k < length ss = place.1 in
        let d = one_of ss k lt in
        let e : Seat A = record { who = 0; actor = d.actor } in
        let who : (get_or ss k d).port.who ≡ row.who = place.2 d in
        let own : length (rows_of (get_or ss k d).port.who (seen net)) ≡ length (made (get_or ss k d).port) = ap length (c.over k d lt).own in
        let new : length (made (get_or ss k d).port) ≤ length (rows_of (get_or ss k d).port.who prefix) = omega (arith, own, count_later (get_or ss k d).port.who prefix (seen net) low) in
        let v : IsService (get_or ss k d) next.actors next.limit prefix row = (served k d lt).each prefix row rest is (sym who) new in
        let seat : (get_or births k e).who ≡ row.who = birth_number births net ss k d e c lt ∙ who in
        let born : row ≡ row_of g.table (record { who = row.who; actor = (get_or births k e).actor }) prefix (Deliver v.number) = v.by_table (get_or births k e).actor (λ _. c.replay k d e lt) in
        let same : row_of g.table (get_or births k e) prefix (Deliver v.number) ≡ row = (λ i. row_of g.table (record { who = seat i; actor = (get_or births k e).actor }) prefix (Deliver v.number)) ∙ sym born in (
          v.number,
          ap (λ n. kth (waiting world prefix (Some n)) 1) (sym who) ∙ (sym (waiting_at words births net ss c k lt d prefix 1) ∙ ((λ i. kth_pending h.receiver (sym looked.stays.exchange.1 i) prefix (who i) 1) ∙ v.first)),
          ap (λ n. acts world prefix n (Deliver v.number)) (sym who) ∙ (acts_at words births net ss c k lt d e prefix (Deliver v.number) ∙ ap Some same),
          v.event,
          v.within,
        )

    module _ (lines : List (Line O)) (tasks : List (Task O)) (skips_ : ℕ) (cut : Bool) where
      some_left : (left : ℕ) (b : Bool) → 0 < left → b ≡ false → (eqb left 0 || b) ≡ false
      some_left zero b lt e = absurd (omega arith)
      some_left (suc left) b lt e = ap (λ a. a || b) (ne_eqb (suc left) 0 (λ z. absurd (omega (arith, z)))) ∙ e

      -- row by row
      walk_on : (done rest : List (Row M O)) → more ≡ done ++ rest → (left : ℕ) → length rest ≤ left → journal_bytes h.weighs (seen net ++ done) ≤ next.limit → Stands world lines (seen net ++ done) (Frees left ∷ tasks) skips_ cut →
          Stands world lines (seen next) (Frees (left - length rest) ∷ tasks) skips_ cut × (journal_bytes h.weighs (seen next) ≤ next.limit)
      walk_on done [] is left enough fits stands =
          let all : seen next ≡ seen net ++ done = looked.later.1 ∙ ap (λ l. seen net ++ l) (is ∙ append-nil done) in
          (subst (λ l. Stands world lines l (Frees (left - 0) ∷ tasks) skips_ cut) (sym all) (subst (λ n. Stands world lines (seen net ++ done) (Frees n ∷ tasks) skips_ cut) (omega arith) stands), subst (λ l. journal_bytes h.weighs l ≤ next.limit) (sym all) fits)
      walk_on done (row ∷ rest) is left enough fits stands =
          let prefix = seen net ++ done in
          let cut_here : seen next ≡ prefix ++ row ∷ rest = looked.later.1 ∙ (ap (λ l. seen net ++ l) is ∙ sym (append_assoc (seen net) done (row ∷ rest))) in
          let a = allowed prefix row rest cut_here (done, refl) in
          let may : first_of world prefix row.who ≡ Some row = ap (option_and_then (λ mail. acts world prefix row.who (Deliver mail))) a.1 ∙ a.2 in
          let opens : is_over world prefix (Frees left) ≡ false = some_left left (is_quiet world prefix) (omega (arith, enough)) (some_waits world prefix row.who a.0 a.1) in
          let next_stands : Stands world lines (prefix ++ row ∷ []) (Frees (left - 1) ∷ tasks) skips_ cut = Stands-row world lines prefix (Frees left) tasks skips_ cut row stands opens may in
          let shift : prefix ++ row ∷ [] ≡ seen net ++ (done ++ row ∷ []) = append_assoc (seen net) done (row ∷ []) in
          let step = walk_on (done ++ row ∷ []) rest (is ∙ sym (append_assoc done (row ∷ []) rest)) (left - 1) (omega (arith, enough))
          (subst (λ l. journal_bytes h.weighs l ≤ next.limit) shift a.4) (subst (λ l. Stands world lines l (Frees (left - 1) ∷ tasks) skips_ cut) shift next_stands) in
          let count : left - 1 - length rest ≡ left - length (row ∷ rest) = omega arith in
          (subst (λ n. Stands world lines (seen next) (Frees n ∷ tasks) skips_ cut) count step.0, step.1)

      -- all rows of the rounds
      pub free_walk : (left : ℕ) → length more ≤ left → journal_bytes h.weighs (seen net) ≤ next.limit → Stands world lines (seen net) (Frees left ∷ tasks) skips_ cut →
          Stands world lines (seen next) (Frees (left - length more) ∷ tasks) skips_ cut × (journal_bytes h.weighs (seen next) ≤ next.limit)
      free_walk left enough fits stands =
          walk_on [] more refl left enough (subst (λ l. journal_bytes h.weighs l ≤ next.limit) (sym (append-nil (seen net))) fits) (subst (λ l. Stands world lines l (Frees left ∷ tasks) skips_ cut) (sym (append-nil (seen net))) stands)

    gone_on : (who : ℕ) (done rest : List (Row M O)) → more ≡ done ++ rest → has_started (seen next) who ≡ has_started (seen net ++ done) who
    gone_on who done [] is = ap (λ l. has_started l who) (looked.later.1 ∙ ap (λ l. seen net ++ l) (is ∙ append-nil done))
    gone_on who done (row ∷ rest) is =
        let prefix = seen net ++ done in
        let cut_here : seen next ≡ prefix ++ row ∷ rest = looked.later.1 ∙ (ap (λ l. seen net ++ l) is ∙ sym (append_assoc (seen net) done (row ∷ rest))) in
        let a = allowed prefix row rest cut_here (done, refl) in
        gone_on who (done ++ row ∷ []) rest (is ∙ sym (append_assoc done (row ∷ []) rest))
        ∙ (ap (λ l. has_started l who) (sym (append_assoc (seen net) done (row ∷ []))) ∙ gone_push prefix row who (ap is_go a.3))

    -- none was told to go
    pub gone_same : (who : ℕ) → has_started (seen next) who ≡ has_started (seen net) who
    gone_same who = gone_on who [] more refl ∙ ap (λ l. has_started l who) (append-nil (seen net))

-- What an act did to the journal, from what the shell did.
use Rattle.std.proofs.Common.{◌≡◌, ℕ, ◌+◌, ◌<◌, ◌≤◌, ⊎_elim, inl, inr, ◌⊎◌, Bool, true, false, true≢false, not, ◌||◌, List, [], ◌∷◌, ◌++◌, length, get_or, set, refl, sym, ap, ◌∙◌, subst, arith, length-append, Option, Some}
use Rattle.std.specs.Option.{option_map}
use Rattle.sc_thread_ports.specs.turn.Turn.{StartsWith}
use Rattle.sc_actor.specs.declared.actors.Actor.{Ghosts}
use Rattle.sc_actor.specs.declared.actors.Parcel.{Ghosts as MailGhosts}
use Rattle.sc_actor.specs.declared.actors.Seat.{Seat}
use Rattle.sc_actor.specs.declared.rows.Row.{Row}
use Rattle.sc_actor.specs.declared.rows.Event.{Event}
use Rattle.sc_actor.specs.declared.rows.Event.TheVariants.{Deliver}
use Rattle.sc_actor.specs.declared.rows.Input.{Input}
use Rattle.sc_actor.specs.declared.rows.Input.TheVariants.{Got}
use Rattle.sc_actor.specs.Mail.{mails, numbered, is_crash}
use Rattle.sc_actor.specs.Counted.{row_bytes, journal_bytes}
use Rattle.sc_actor.specs.Replay.{acted, input_of, value}
use Rattle.sc_actor.specs.System.{row_of}
use Rattle.sc_thread_ledger.specs.Pending.{kth_pending}
use Rattle.sc_thread_ports.specs.declared.exchange.ports.Port.{Port}
use Rattle.sc_thread_ports.specs.exchange.BareRows.{rows_of}
use Rattle.sc_thread_ports.specs.exchange.Ports.{seen, made, Stays, Looked, Appended, IsTrue}
use Rattle.sc_thread_work.specs.shell.Answers.{MayHappen}
use Rattle.sc_thread_work.specs.declared.shell.shells.Shell.{Shell}
use Rattle.sc_thread_work.specs.declared.shell.turns.Turn.{Turn}
use Rattle.sc_thread_work.specs.declared.shell.turns.Turn.TheVariants.{Did, Empty, Full, Spent, OutOfMemory}
use Rattle.sc_thread_work.specs.shell.Shells.{Happens, Takes, IsReplay, Replays, state, row_at, Fetches, Finds}
use Rattle.sc_thread_work.proofs.ShellProofs.Taking.{input_steady}
use Rattle.sc_thread_workers.specs.Crews.{Still, AllStill, AllOf, IsAhead}
use Rattle.sc_thread_workers.specs.RoundEnds.{IsGathered}
use Rattle.sc_thread_workers.proofs.ChangedLists.{get_any}
use Rattle.sc_thread_workers.proofs.Attending.{prefix_snoc, count_split}
use Rattle.sc_thread_drive.specs.Companies.{IsCompany}
use Rattle.sc_thread_drive.specs.Acts.{RowAdded, RowPasses, HasHalted, AfterEvent, KthIs, AfterTurn}
use Rattle.sc_thread_drive.proofs.RowCounts.{whole_prefix}
use Rattle.sc_thread_drive.proofs.OneActed.{nothing_seen, row_seen, seen_before, shell_later, company_after}
use Rattle.std.proofs.lemmas.List.{get_or-map, length-map}
use Rattle.sc_thread_ports.proofs.TurnProofs.ListPrefixes.{starts_trans}

-- the number at a place of the births is that of its shell
module _ {A M O : Type 0} {g : Ghosts A M O} {h : MailGhosts M} where
  -- of the same place
  pub birth_number : (births : List (Seat A)) (net : Port M O h) (ss : List (Shell A M O g h)) (k : ℕ) (d : Shell A M O g h) (e : Seat A) → IsCompany births net ss → k < length ss → (get_or births k e).who ≡ (get_or ss k d).port.who
  birth_number births net ss k d e c lt =
      let f : Shell A M O g h → ℕ = λ s. s.port.who in
      let b : Seat A → ℕ = λ s. s.who in
      let inside : k < length births = omega (arith, lt, ap length c.born, length-map ss f, length-map births b) in
      sym (get_or-map b births k e (e.who) inside) ∙ (ap (λ l. get_or l k e.who) (sym c.born) ∙ get_or-map f ss k d e.who lt)

  -- after one shell has acted and all have gathered
  module _ (births : List (Seat A)) (net mid next : Port M O h) (ss after : List (Shell A M O g h)) (k : ℕ) (t : Shell A M O g h) (c : IsCompany births net ss) (lt : k < length ss) (one : AllOf net ss)
      (met : Shell A M O g h) (still : Still (get_or ss k t) met) (ahead : IsAhead net met) (stays : Stays met.port t.port) (keeps : (birth : A) → IsReplay met birth → IsReplay t birth)
      (looked : Looked net next) (len : length after ≡ length ss) (rest : AllStill (set ss k t) after) (gathered : IsGathered next after) (rows : IsTrue next) where
    was : (d : Shell A M O g h) → Still (get_or ss k d) met
    was d = subst (λ s. Still s met) (get_any ss k t d lt) still

    who_is : (d : Shell A M O g h) → met.port.who ≡ (get_or ss k d).port.who
    who_is d = (was d).goes.stays.who

    limit_is : met.port.limit ≡ net.limit
    limit_is = (was t).goes.stays.exchange.2 ∙ sym (one k t lt).2

    actors_are : net.actors ≡ met.port.actors
    actors_are = (one k t lt).1 ∙ sym (was t).goes.stays.exchange.1

    nothing : made t.port ≡ made met.port → seen next ≡ seen net
    nothing same = nothing_seen births net mid next ss after k t c lt met was ahead stays looked len rest gathered rows (ap length same)

    met_seen : (row : Row M O) → Appended met.port t.port row → seen met.port ≡ seen net
    met_seen = seen_before births net mid next ss after k t c lt met was ahead stays looked len rest gathered rows

    shell_seen : StartsWith (seen next) (seen t.port)
    shell_seen = shell_later births net mid next ss after k t c lt met was ahead stays looked len rest gathered rows

    -- between two prefixes of one length
    between : (low rows high : List (Row M O)) → StartsWith rows low → StartsWith high rows → high ≡ low → rows ≡ low
    between low rows high a b e = whole_prefix low rows a (omega (arith, ap length a.1, length-append low a.0, ap length b.1, length-append rows b.0, ap length e))

    replays_met : (e : Seat A) → (met.spent ≡ false) ⊎ (met.port.crashed ≡ true) → Replays met (get_or births k e).actor
    replays_met e runs = (was t).goes.replay (get_or births k e).actor (λ _. c.replay k t e lt) runs

    row_is : (e : Seat A) (event : Event O) (input : Option (Input M O)) → met.spent ≡ false → seen met.port ≡ seen net → input ≡ input_of (mails (seen net)) event → row_at (state met) event input ≡ row_of g.table (get_or births k e) (seen net) event
    row_is e event input free same is =
        let birth = (get_or births k e).actor in
        let w : met.port.who ≡ (get_or births k e).who = who_is t ∙ sym (birth_number births net ss k t e c lt) in
        let v : met.actor ≡ value g.table (get_or births k e) (seen net) = replays_met e (inl free) ∙ (λ i. value g.table (record { who = w i; actor = birth }) (same i)) in
        λ i. record { who = w i; event = event; sent = (acted g.table (v i) (is i)).1 }

    row_added : (event : Event O) (input : Option (Input M O)) → met.spent ≡ false → input ≡ input_of (mails (seen net)) event → Appended met.port t.port (row_at (state met) event input) → RowAdded g.table births k event net next
    row_added event input free is a = λ e. (row_seen births net mid next ss after k t c lt met was ahead stays looked len rest gathered rows (row_at (state met) event input) a).1 ∙ ap (λ r. seen net ++ r ∷ []) (row_is e event input free (met_seen (row_at (state met) event input) a) is)

    fits : (row : Row M O) (a : Appended met.port t.port row) → journal_bytes h.weighs (seen t.port) ≤ met.port.limit → journal_bytes h.weighs (seen next) ≤ net.limit
    fits row a small =
        let e = row_seen births net mid next ss after k t c lt met was ahead stays looked len rest gathered rows row a in
        let same : seen t.port ≡ seen next = a.seen ∙ (ap (λ l. l ++ row ∷ []) e.0 ∙ sym e.1) in
        subst (λ n. journal_bytes h.weighs (seen next) ≤ n) limit_is (subst (λ l. journal_bytes h.weighs l ≤ met.port.limit) same small)

    not_true : (a b : Bool) → a ≡ false → (a || not b) ≡ true → b ≡ false
    not_true true b e t = absurd (true≢false e)
    not_true false true e t = absurd (true≢false (sym t))
    not_true false false e t = refl

    runs_is : met.spent ≡ false → HasHalted ss k false
    runs_is free = λ d. sym (was d).crashed ∙ not_true met.spent met.port.crashed free met.runs

    halted_is : met.spent ≡ true → HasHalted ss k true
    halted_is spent = λ d. c.sound k d lt (sym (was d).spent ∙ spent)

    crash_state : (b : Bool) → t.spent ≡ b → t.port.crashed ≡ b → (t.spent ≡ false) ⊎ (t.port.crashed ≡ true)
    crash_state true s e = inr e
    crash_state false s e = inl s

    sees_same : Looked met.port t.port → seen t.port ≡ seen net
    sees_same l = between (seen net) (seen t.port) (seen next) (starts_trans (seen t.port) (seen met.port) (seen net) l.later ahead.begins) shell_seen (nothing l.made)

    met_same : Looked met.port t.port → seen met.port ≡ seen net
    met_same l = between (seen net) (seen met.port) (seen t.port) ahead.begins l.later (sees_same l)

    passes : (event : Event O) (input : Option (Input M O)) → met.spent ≡ false → input ≡ input_of (mails (seen net)) event → (l : Looked met.port t.port) → met.port.limit < journal_bytes h.weighs (seen t.port) + row_bytes h.weighs (row_at (state met) event input) → RowPasses g.table births k event net
    passes event input free is l more = λ e.
        omega (arith, more, limit_is, ap (journal_bytes h.weighs) (sees_same l), ap (row_bytes h.weighs) (row_is e event input free (met_same l) is))

    spent_company : met.spent ≡ true → t.actor ≡ met.actor → t.port ≡ met.port → IsCompany births next after
    spent_company spent actor port =
        let crashed : met.port.crashed ≡ true = (was t).crashed ∙ halted_is spent t in
        company_after births net mid next ss after k t c lt met was ahead stays looked len rest gathered rows (λ _. ap (λ (p : Port M O h). p.crashed) port ∙ crashed) (λ e. actor ∙ (replays_met e (inr crashed) ∙ (λ i. value g.table (record { who = (sym port i).who; actor = (get_or births k e).actor }) (seen (sym port i)))))

    -- what an event did
    pub event_leaves : (event : Event O) (turn : Turn) → MayHappen event → Happens (state met) (state t) event turn → AfterEvent births k event net next ss after turn
    event_leaves event (Did at) may x =
        let is : input_of [] event ≡ input_of (mails (seen net)) event = sym (input_steady event may (mails (seen net))) in (
          company_after births net mid next ss after k t c lt met was ahead stays looked len rest gathered rows (λ spent. x.1.4 ∙ (sym x.1.3 ∙ spent)) (λ e. keeps (get_or births k e).actor (λ _. replays_met e (inl x.0)) (crash_state (is_crash event) x.1.3 x.1.4)),
          row_added event (input_of [] event) x.0 is x.1.0,
          fits (row_at (state met) event (input_of [] event)) x.1.0 x.1.6,
          runs_is x.0,
        )
    event_leaves event (Full bytes) may x =
        let is : input_of [] event ≡ input_of (mails (seen net)) event = sym (input_steady event may (mails (seen net))) in
        (nothing x.1.0.made, passes event (input_of [] event) x.0 is x.1.0 x.1.1.1, runs_is x.0)
    event_leaves event Spent may x = (spent_company x.0 x.1 x.2, nothing (ap made x.2), halted_is x.0)
    event_leaves event (Empty reported) may x = absurd x.1
    event_leaves event OutOfMemory may x = runs_is x.0

    module _ (n : ℕ) where
      -- the fetch saw the journal
      fetch_did : (f : Fetches met.port t.port n) (row : Row M O) → row.who ≡ met.port.who → Appended met.port t.port row → f.rows ≡ seen net
      fetch_did f row own a =
          let e = row_seen births net mid next ss after k t c lt met was ahead stays looked len rest gathered rows row a in
          let low : StartsWith f.rows (seen net) = starts_trans f.rows (seen met.port) (seen net) f.later ahead.begins in
          let count : length (rows_of met.port.who (a.before ++ row ∷ [])) ≡ length (rows_of met.port.who a.before) + (1 + 0) = count_split met.port.who a.before [] row own in
          let made_before : rows_of met.port.who a.before ≡ made met.port = ap (rows_of met.port.who) (e.0 ∙ sym (met_seen row a)) ∙ ahead.own in
          ⊎_elim (λ w. absurd (omega (arith, ap (λ l. length (rows_of met.port.who l)) w, count, ap length made_before, ap length f.own)))
          (λ p. between (seen net) f.rows a.before low p e.0)
          (prefix_snoc a.before f.rows row (subst (λ l. StartsWith l f.rows) a.seen f.before))

      fetch_looked : (f : Fetches met.port t.port n) → Looked met.port t.port → f.rows ≡ seen net
      fetch_looked f l = between (seen net) f.rows (seen t.port) (starts_trans f.rows (seen met.port) (seen net) f.later ahead.begins) f.before (sees_same l)

      kth_is : (f : Fetches met.port t.port n) → f.rows ≡ seen net → KthIs ss k n net f.number
      kth_is f same = λ d. (λ i. kth_pending h.receiver (actors_are i) (sym same i) (sym (who_is d) i) n) ∙ f.kth

      got_is : (f : Fetches met.port t.port n) → f.rows ≡ seen net → ◌≡◌ {A = Option (Input M O)} (Some (Got f.mail)) (input_of (mails (seen net)) (Deliver f.number))
      got_is f same = sym (ap (option_map Got) (ap (λ l. numbered (mails l) f.number) (sym same) ∙ f.mail_is))

      -- what a turn did
      pub turn_leaves : (turn : Turn) → Takes (state met) (state t) n turn → (turn ≡ OutOfMemory → Finds met.port t.port n) → AfterTurn births k n net next ss after turn
      turn_leaves (Did at) x finds =
          let row = row_at (state met) (Deliver x.1.number) (Some (Got x.1.mail)) in
          let same = fetch_did x.1 row refl x.2.0 in (
            company_after births net mid next ss after k t c lt met was ahead stays looked len rest gathered rows (λ spent. absurd (true≢false (sym spent ∙ x.2.3))) (λ e. keeps (get_or births k e).actor (λ _. replays_met e (inl x.0)) (inl x.2.3)),
            (x.1.number, kth_is x.1 same, row_added (Deliver x.1.number) (Some (Got x.1.mail)) x.0 (got_is x.1 same) x.2.0),
            fits row x.2.0 x.2.6,
          )
      turn_leaves (Full bytes) x finds =
          let same = fetch_looked x.1 x.2.0 in
          (nothing x.2.0.made, (x.1.number, kth_is x.1 same, passes (Deliver x.1.number) (Some (Got x.1.mail)) x.0 (got_is x.1 same) x.2.0 x.2.1.1))
      turn_leaves (Empty reported) x finds = (
        company_after births net mid next ss after k t c lt met was ahead stays looked len rest gathered rows (λ spent. absurd (true≢false (sym spent ∙ x.1.4))) (λ e. keeps (get_or births k e).actor (λ _. replays_met e (inl x.0)) (inl x.1.4)),
        nothing x.1.0.made,
        λ d. (λ i. kth_pending h.receiver (actors_are i) (sym (sees_same x.1.0) i) (sym (who_is d) i) n) ∙ x.1.2,
      )
      turn_leaves Spent x finds = (spent_company x.0 x.1 x.2, nothing (ap made x.2), halted_is x.0)
      turn_leaves OutOfMemory x finds =
          let f : Finds met.port t.port n = finds refl in
          let same : f.rows ≡ seen net = between (seen net) f.rows (seen t.port) (starts_trans f.rows (seen met.port) (seen net) f.later ahead.begins) f.before (sees_same x.1) in
          λ d none. f.some ((λ i. kth_pending h.receiver (sym actors_are i) (same i) (who_is d i) n) ∙ none)

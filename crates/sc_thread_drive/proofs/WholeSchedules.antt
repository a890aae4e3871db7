-- A schedule from its first line to its last.
use Rattle.std.proofs.Common.{◌≡◌, ℕ, suc, ◌+◌, ◌<◌, ◌≤◌, Bool, false, List, [], ◌∷◌, length, get_or, drop, drop_of_length-le, refl, sym, ap, ◌∙◌, subst, arith, Option, Some, None}
use Rattle.std.specs.Prelude.{is_none}
use Rattle.std.specs.List.{flat_map}
use Rattle.sc_actor.specs.declared.actors.Actor.{Ghosts}
use Rattle.sc_actor.specs.declared.actors.Parcel.{Ghosts as MailGhosts}
use Rattle.sc_actor.specs.declared.actors.Seat.{Seat}
use Rattle.sc_actor.specs.declared.rows.Row.{Row}
use Rattle.sc_actor.specs.declared.schedules.Line.{Line}
use Rattle.sc_actor.specs.Counted.{journal_bytes, IsFull}
use Rattle.sc_actor.specs.Replay.{value, values}
use Rattle.sc_actor.specs.System.{system, numbers_of, has_started}
use Rattle.sc_actor.specs.Walk.{IsLawful, IsWhole, tasks_of, skipped, unsettled, is_quiet}
use Rattle.sc_actor.proofs.WalkLemmas.{Stands, Stands-begin, Stands-whole}
use Rattle.sc_thread_ports.specs.declared.exchange.ports.Port.{Port}
use Rattle.sc_thread_ports.specs.exchange.Ports.{seen}
use Rattle.sc_thread_work.specs.declared.shell.shells.Shell.{Shell}
use Rattle.sc_thread_work.specs.shell.Shells.{ReplaysOver}
use Rattle.sc_thread_workers.specs.Crews.{crew_numbers}
use Rattle.sc_thread_drive.specs.declared.company.Score.{Score}
use Rattle.sc_thread_drive.specs.Numbers.{is_in}
use Rattle.sc_thread_drive.specs.Companies.{IsCompany, seats}
use Rattle.sc_thread_drive.specs.Lowest.{FindsLowest, Lowest, Rests}
use Rattle.sc_thread_drive.specs.Goings.{HasReached, Goes, Fills, HasEnded}
use Rattle.sc_actor.proofs.TaskLemmas.{split}

module _ {A M O : Type 0} {g : Ghosts A M O} {h : MailGhosts M} where
  values_are : (births : List (Seat A)) (ss : List (Shell A M O g h)) (rows : List (Row M O)) → crew_numbers ss ≡ numbers_of births →
      ((k : ℕ) (d : Shell A M O g h) (e : Seat A) → k < length ss → ReplaysOver (get_or ss k d) rows (get_or births k e).actor) → seats ss ≡ values g.table births rows
  values_are [] [] rows same each = refl
  values_are (b ∷ births) [] rows same each = cc
  values_are [] (s ∷ ss) rows same each = cc
  values_are (b ∷ births) (s ∷ ss) rows same each =
      let first : s.port.who ≡ b.who = cc in
      let rest : crew_numbers ss ≡ numbers_of births = cc in
      let actor : s.actor ≡ value g.table b rows = each 0 s b (omega arith) ∙ ap (λ n. value g.table (record { who = n; actor = b.actor }) rows) first in
      λ i. record { who = first i; actor = actor i } ∷ values_are births ss rows rest (λ k d e lt. each (suc k) d e (omega (arith, lt))) i

  -- each actor is the replay of its rows among all
  seats_left : (births : List (Seat A)) (net : Port M O h) (ss : List (Shell A M O g h)) → IsCompany births net ss → seats ss ≡ values g.table births (seen net)
  seats_left births net ss c = values_are births ss (seen net) c.born (λ k d e lt. (c.over k d lt).replay (get_or births k e).actor (c.replay k d e lt))

  module _ (words : ℕ → ℕ → ℕ × ℕ) (births : List (Seat A)) (lines : List (Line O)) where
    -- before the first line
    pub drive_begins : (net : Port M O h) (ss : List (Shell A M O g h)) (score : Score) → IsCompany births net ss → seen net ≡ [] → score.skipped ≡ 0 → score.unsettled ≡ false → score.started.items ≡ [] → HasReached words births lines net ss score (flat_map (tasks_of words) (drop 0 lines))
    drive_begins net ss score company none skips_ cut started =
        let s = system g.table h.receiver words births in
        let there : Stands s lines (seen net) (flat_map (tasks_of words) lines) score.skipped score.unsettled =
        subst (λ (p : List (Row M O) × ℕ × Bool). Stands s lines p.0 (flat_map (tasks_of words) lines) p.1 p.2) (λ i. (sym none i, sym skips_ i, sym cut i)) (Stands-begin s lines) in
        let bytes : journal_bytes h.weighs (seen net) ≡ 0 = ap (journal_bytes h.weighs) none in record {
          lawful = there.lawful;
          place = there.place;
          company = company;
          reported = λ who. ap (is_in who) started ∙ ap (λ l. has_started l who) (sym none);
          within = omega (arith, bytes);
        }

    -- past a line
    pub drive_on : (net next : Port M O h) (ss after : List (Shell A M O g h)) (score now : Score) (i : ℕ) (line : Line O) → i < length lines → line ≡ get_or lines i line → HasReached words births lines net ss score (flat_map (tasks_of words) (drop i lines)) →
        Goes net ss score (tasks_of words line) next after now [] → HasReached words births lines next after now (flat_map (tasks_of words) (drop (i + 1) lines))
    drive_on net next ss after score now i line lt is at goes =
        goes words births lines (flat_map (tasks_of words) (drop (i + 1) lines)) (subst (λ ts. HasReached words births lines net ss score ts) (split words lines i line lt is) at)

    -- to a row that passes the limit
    pub drive_fills : (start net next : Port M O h) (ss : List (Shell A M O g h)) (score : Score) (i : ℕ) (line : Line O) → net.limit ≡ start.limit → i < length lines → line ≡ get_or lines i line → HasReached words births lines net ss score (flat_map (tasks_of words) (drop i lines)) →
        Fills net ss score (tasks_of words line) next → IsFull (system g.table h.receiver words births) h.weighs lines start.limit (seen next)
    drive_fills start net next ss score i line limit lt is at fills =
        subst (λ n. IsFull (system g.table h.receiver words births) h.weighs lines n (seen next)) limit
        (fills words births lines (flat_map (tasks_of words) (drop (i + 1) lines)) (subst (λ ts. HasReached words births lines net ss score ts) (split words lines i line lt is) at))

    -- past the last line, once it was looked whether mail is pending
    pub drive_ends : (net next : Port M O h) (ss after : List (Shell A M O g h)) (score : Score) (i : ℕ) (found : Option ℕ) → length lines ≤ i → HasReached words births lines net ss score (flat_map (tasks_of words) (drop i lines)) →
        Rests net ss next after → FindsLowest next after found → next.limit ≡ net.limit → HasEnded words births lines next after score.unsettled (is_none found) score.skipped
    drive_ends net next ss after score i found le before rests finds limit =
        let s = system g.table h.receiver words births in
        let at : HasReached words births lines net ss score [] = subst (λ ts. HasReached words births lines net ss score (flat_map (tasks_of words) ts)) (drop_of_length-le lines le) before in
        let whole = Stands-whole s lines (seen net) score.skipped score.unsettled (record { lawful = at.lawful; place = at.place }) in
        let rest = rests births at.company in
        let rows : seen net ≡ seen next = sym rest.1 in record {
          lawful = subst (IsLawful s lines) rows at.lawful;
          whole = subst (IsWhole s lines) rows whole.0;
          within = subst (λ (p : List (Row M O) × ℕ). journal_bytes h.weighs p.0 ≤ p.1) (λ i. (rows i, sym limit i)) at.within;
          cut_is = sym whole.2 ∙ ap (unsettled s lines) rows;
          quiet_is = quiet_reported found (finds.lowest words births rest.0);
          skips_are = sym whole.1 ∙ ap (skipped s lines) rows;
          left = seats_left births next after rest.0;
        }
      where
        quiet_reported : (o : Option ℕ) → Lowest (system g.table h.receiver words births) next after o → is_none o ≡ is_quiet (system g.table h.receiver words births) (seen next)
        quiet_reported None l = sym l
        quiet_reported (Some place) l = sym (ap is_none l.first)

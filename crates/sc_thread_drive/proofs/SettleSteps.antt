-- A line of deliveries of the lowest mail takes the walk on.
use Rattle.std.proofs.Common.{◌≡◌, ◌≢◌, ℕ, ◌+◌, ◌-◌, ◌<◌, ◌≤◌, Bool, true, false, eqb, not, ◌||◌, List, [], ◌∷◌, ◌++◌, refl, sym, ap, ◌∙◌, subst, arith, Some, None}
use Rattle.std.specs.Prelude.{is_none, option_and_then}
use Rattle.std.proofs.lemmas.Bool.{ne_eqb}
use Rattle.sc_actor.specs.declared.actors.Actor.{Ghosts}
use Rattle.sc_actor.specs.declared.actors.Parcel.{Ghosts as MailGhosts}
use Rattle.sc_actor.specs.declared.actors.Seat.{Seat}
use Rattle.sc_actor.specs.declared.rows.Row.{Row}
use Rattle.sc_actor.specs.declared.rows.Event.TheVariants.{Deliver}
use Rattle.sc_actor.specs.declared.schedules.Line.{Line}
use Rattle.sc_actor.specs.declared.schedules.Line.TheVariants.{Deliver as DeliverLine}
use Rattle.sc_actor.specs.Counted.{journal_bytes, IsFull}
use Rattle.sc_actor.specs.System.{System, system, acts, waiting, kth, has_started, no_words}
use Rattle.sc_actor.specs.Walk.{Task, Settles, is_over, is_quiet, line_row, lowest, delivery, IsLawful, place_after, onward}
use Rattle.sc_actor.proofs.WalkLemmas.{Stands, Stands-over, Stands-row, Stands-next}
use Rattle.sc_thread_ledger.proofs.Kept.{bytes-push}
use Rattle.sc_thread_ports.specs.declared.exchange.ports.Port.{Port}
use Rattle.sc_thread_ports.specs.exchange.Ports.{seen}
use Rattle.sc_thread_work.specs.declared.shell.shells.Shell.{Shell}
use Rattle.sc_thread_work.specs.declared.shell.turns.Turn.TheVariants.{Did, Empty, Full, Spent}
use Rattle.sc_thread_drive.specs.declared.company.Score.{Score}
use Rattle.sc_thread_drive.specs.Numbers.{is_in}
use Rattle.sc_thread_drive.specs.Acts.{AfterTurn, AfterTurnAll}
use Rattle.sc_thread_drive.specs.Companies.{IsCompany}
use Rattle.sc_thread_drive.specs.Goings.{HasReached, Goes, Fills}
use Rattle.sc_thread_drive.specs.Lowest.{FindsLowest, LowestAt, Rests}
use Rattle.sc_thread_drive.proofs.ActorRows.{delivers_did, delivers_full, serves_empty, serves_spent}
use Rattle.sc_actor.proofs.PendingLemmas.{first_is}
use Rattle.sc_thread_drive.proofs.SingleSteps.{no_go}
use Rattle.std.proofs.Math.Bool.{or-false, or-true}
use Rattle.sc_thread_drive.proofs.SystemWords.{gone_push}

module _ {A M O : Type 0} {g : Ghosts A M O} {h : MailGhosts M} where
  -- a walk goes on and on
  pub goes_then : (a b c : Port M O h) (ss ts us : List (Shell A M O g h)) (p q r : Score) (x y z : List (Task O)) → Goes a ss p x b ts q y → Goes b ts q y c us r z → Goes a ss p x c us r z
  goes_then a b c ss ts us p q r x y z one two = λ words births lines rest at. two words births lines rest (one words births lines rest at)

  -- the row that is too much comes after others
  pub fills_then : (a b c : Port M O h) (ss ts : List (Shell A M O g h)) (p q : Score) (x y : List (Task O)) → b.limit ≡ a.limit → Goes a ss p x b ts q y → Fills b ts q y c → Fills a ss p x c
  fills_then a b c ss ts p q x y limit one full = λ words births lines rest at.
      subst (λ n. IsFull (system g.table h.receiver words births) h.weighs lines n (seen c)) limit (full words births lines rest (one words births lines rest at))

  -- the lowest mail of all is the first of its actor
  lowest_is : (s : System A M O) (net : Port M O h) (ss : List (Shell A M O g h)) (place : ℕ) (l : LowestAt s net ss place) → lowest s (seen net) ≡ line_row s (seen net) (DeliverLine (s.receiver l.mail) 1)
  lowest_is s net ss place l =
      let f = first_is s (seen net) l.number l.first in
      let some : Some f.0 ≡ Some l.mail = sym f.1 ∙ l.sent in
      let same : f.0 ≡ l.mail = cc in
      let wait : kth (waiting s (seen net) (Some (s.receiver l.mail))) 1 ≡ Some l.number = subst (λ m. kth (waiting s (seen net) (Some (s.receiver m))) 1 ≡ Some l.number) same f.3 in
      ap (option_and_then (delivery s (seen net))) l.first
      ∙ (ap (option_and_then (λ m. acts s (seen net) (s.receiver m) (Deliver l.number))) l.sent
      ∙ sym (ap (option_and_then (λ mail. acts s (seen net) (s.receiver l.mail) (Deliver mail))) wait))

  -- the lowest mail of all is pending for its receiver
  own_waits : (s : System A M O) (net : Port M O h) (ss : List (Shell A M O g h)) (place : ℕ) (l : LowestAt s net ss place) → kth (waiting s (seen net) (Some (s.receiver l.mail))) 1 ≢ None
  own_waits s net ss place l none =
      let f = first_is s (seen net) l.number l.first in
      let some : Some f.0 ≡ Some l.mail = sym f.1 ∙ l.sent in
      let same : f.0 ≡ l.mail = cc in
      let wait : kth (waiting s (seen net) (Some (s.receiver l.mail))) 1 ≡ Some l.number = subst (λ m. kth (waiting s (seen net) (Some (s.receiver m))) 1 ≡ Some l.number) same f.3 in
      let lost : None ≡ Some l.number = sym none ∙ wait in cc

  module _ (births : List (Seat A)) (net next : Port M O h) (ss after : List (Shell A M O g h)) (place : ℕ) (company : IsCompany births net ss) (found : FindsLowest net ss (Some place)) where
    -- what was found is taken
    pub never_empty : (n : ℕ) → AfterTurn births place 1 net next ss after (Empty n) → ⊥
    never_empty n served =
        let l = found.lowest no_words births company in
        own_waits (system g.table h.receiver no_words births) net ss place l
        (serves_empty no_words births net next ss after company (h.receiver l.mail) place l.at 1 n served)

    -- and its receiver has not crashed
    pub never_spent : AfterTurn births place 1 net next ss after Spent → ⊥
    never_spent served =
        let l = found.lowest no_words births company in
        own_waits (system g.table h.receiver no_words births) net ss place l
        (serves_spent no_words births net next ss after company (h.receiver l.mail) place l.at 1 served)

  -- all gathered once more, and nothing was made
  pub goes_rest : (net next : Port M O h) (ss after : List (Shell A M O g h)) (score : Score) (tasks : List (Task O)) → Rests net ss next after → next.limit ≡ net.limit → Goes net ss score tasks next after score tasks
  goes_rest net next ss after score tasks rests limit = λ words births lines rest at.
      let s = system g.table h.receiver words births in
      let t = rests births at.company in record {
        lawful = subst (IsLawful s lines) (sym t.1) at.lawful;
        place = subst (λ l. place_after s lines l ≡ onward s l (tasks ++ rest) score.skipped score.unsettled) (sym t.1) at.place;
        company = t.0;
        reported = λ who. at.reported who ∙ ap (λ l. has_started l who) (sym t.1);
        within = subst (λ (p : List (Row M O) × ℕ). journal_bytes h.weighs p.0 ≤ p.1) (λ i. (sym t.1 i, sym limit i)) at.within;
      }

  module _ (net : Port M O h) (ss : List (Shell A M O g h)) (score now : Score) (left : ℕ) where
    ended : (words : ℕ → ℕ → ℕ × ℕ) (births : List (Seat A)) (lines : List (Line O)) (rest : List (Task O)) → HasReached words births lines net ss score (Settles left ∷ rest) → (cut : Bool) → is_quiet (system g.table h.receiver words births) (seen net) ≡ not cut →
        is_over (system g.table h.receiver words births) (seen net) (let task : Task O = Settles left in task) ≡ true → now.skipped ≡ score.skipped → now.unsettled ≡ (score.unsettled || cut) → now.started.items ≡ score.started.items → HasReached words births lines net ss now rest
    ended words births lines rest at cut quiet done skipped unsettled started =
        let s = system g.table h.receiver words births in
        let stands : Stands s lines (seen net) (Settles left ∷ rest) score.skipped score.unsettled = record { lawful = at.lawful; place = at.place } in
        let on : Stands s lines (seen net) rest (score.skipped + 0) (score.unsettled || not (is_quiet s (seen net))) = Stands-over s lines (seen net) (Settles left) rest score.skipped score.unsettled stands done in
        let count : score.skipped + 0 ≡ now.skipped = omega (arith, skipped) in
        let cuts : (score.unsettled || not (is_quiet s (seen net))) ≡ now.unsettled = ap (λ b. score.unsettled || not b) quiet ∙ (ap (λ b. score.unsettled || b) (twice cut) ∙ sym unsettled) in
        let on2 : Stands s lines (seen net) rest now.skipped now.unsettled = subst (λ (p : ℕ × Bool). Stands s lines (seen net) rest p.0 p.1) (λ i. (count i, cuts i)) on in record {
          lawful = on2.lawful;
          place = on2.place;
          company = at.company;
          reported = λ who. ap (is_in who) started ∙ at.reported who;
          within = at.within;
        }
      where
        twice : (b : Bool) → not (not b) ≡ b
        twice true = refl
        twice false = refl

    -- no mail is pending
    pub settles_quiet : FindsLowest net ss None → now.skipped ≡ score.skipped → now.unsettled ≡ score.unsettled → now.started.items ≡ score.started.items → Goes net ss score (Settles left ∷ []) net ss now []
    settles_quiet none skipped cut started = λ words births lines rest at.
        let quiet = none.lowest words births at.company in
        ended words births lines rest at false quiet (ap (λ b. eqb left 0 || b) quiet ∙ or-true (eqb left 0)) skipped (cut ∙ sym (or-false score.unsettled)) started

    -- mail is pending, and no more may be delivered
    pub settles_cut : (place : ℕ) → FindsLowest net ss (Some place) → left ≡ 0 → now.skipped ≡ score.skipped → now.unsettled ≡ true → now.started.items ≡ score.started.items → Goes net ss score (Settles left ∷ []) net ss now []
    settles_cut place some none skipped cut started = λ words births lines rest at.
        let s = system g.table h.receiver words births in
        let t = some.lowest words births at.company in
        let loud : is_quiet s (seen net) ≡ false = ap is_none t.first in
        ended words births lines rest at true loud (ap (λ k. eqb k 0 || is_quiet s (seen net)) none) skipped (cut ∙ sym (or-true score.unsettled)) started

    module _ (next : Port M O h) (after : List (Shell A M O g h)) (place n : ℕ) (found : FindsLowest net ss (Some place)) (more : 0 < left) where
      opens : (s : System A M O) → is_quiet s (seen net) ≡ false → is_over s (seen net) (let task : Task O = Settles left in task) ≡ false
      opens s loud = ap (λ b. b || is_quiet s (seen net)) (ne_eqb left 0 (λ z. absurd (omega (arith, z, more)))) ∙ loud

      -- one is delivered
      pub settles_did : next.limit ≡ net.limit → AfterTurnAll place 1 net next ss after (Did n) →
          now.skipped ≡ score.skipped → now.unsettled ≡ score.unsettled → now.started.items ≡ score.started.items → Goes net ss score (Settles left ∷ []) next after now (Settles (left - 1) ∷ [])
      settles_did limit served skipped cut started = λ words births lines rest at.
          let s = system g.table h.receiver words births in
          let t = found.lowest words births at.company in
          let step = delivers_did words births net next ss after at.company (h.receiver t.mail) place t.at 1 n (served births at.company) in
          let row = step.1.0 in
          let low : lowest s (seen net) ≡ Some row = lowest_is s net ss place t ∙ step.1.1 in
          let loud : is_quiet s (seen net) ≡ false = ap is_none t.first in
          let stands : Stands s lines (seen net) (Settles left ∷ rest) score.skipped score.unsettled = record { lawful = at.lawful; place = at.place } in
          let on : Stands s lines (seen net ++ row ∷ []) (Settles (left - 1) ∷ rest) score.skipped score.unsettled = Stands-row s lines (seen net) (Settles left) rest score.skipped score.unsettled row stands (opens s loud) low in
          let all : seen next ≡ seen net ++ row ∷ [] = step.1.2 in
          let there : Stands s lines (seen next) (Settles (left - 1) ∷ rest) now.skipped now.unsettled = subst (λ (p : List (Row M O) × ℕ × Bool). Stands s lines p.0 (Settles (left - 1) ∷ rest) p.1 p.2) (λ i. (sym all i, sym skipped i, sym cut i)) on in record {
            lawful = there.lawful;
            place = there.place;
            company = step.0;
            reported = λ who. ap (is_in who) started ∙ (at.reported who ∙ (sym (gone_push (seen net) row who (no_go s (seen net) (DeliverLine (h.receiver t.mail) 1) row tt step.1.1)) ∙ ap (λ l. has_started l who) (sym all)));
            within = subst (λ k. journal_bytes h.weighs (seen next) ≤ k) (sym limit) step.2;
          }

      -- its row would pass the limit
      pub settles_full : AfterTurnAll place 1 net next ss after (Full n) → Fills net ss score (Settles left ∷ []) next
      settles_full served = λ words births lines rest at.
          let s = system g.table h.receiver words births in
          let t = found.lowest words births at.company in
          let step = delivers_full words births net next ss after at.company (h.receiver t.mail) place t.at 1 n (served births at.company) in
          let row = step.0.0 in
          let low : lowest s (seen net) ≡ Some row = lowest_is s net ss place t ∙ step.0.1 in
          let loud : is_quiet s (seen net) ≡ false = ap is_none t.first in
          let stands : Stands s lines (seen net) (Settles left ∷ rest) score.skipped score.unsettled = record { lawful = at.lawful; place = at.place } in
          let here : IsFull s h.weighs lines net.limit (seen net) = record {
            lawful = at.lawful;
            within = at.within;
            row = row;
            next = Stands-next s lines (seen net) (Settles left) rest score.skipped score.unsettled row stands (opens s loud) low;
            passes = subst (λ k. net.limit < k) (sym (bytes-push h.weighs (seen net) row)) step.0.2;
          } in
          subst (IsFull s h.weighs lines net.limit) (sym step.1) here

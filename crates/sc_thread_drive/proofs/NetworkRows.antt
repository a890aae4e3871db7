-- Lines of the network.
use Rattle.std.proofs.Common.{◌≡◌, ℕ, ◌+◌, ◌<◌, ◌≤◌, Bool, true, false, eqb, cond, not, ◌&&◌, List, [], ◌∷◌, ◌++◌, length, get_or, refl, sym, ap, ◌∙◌, subst, arith, length-append, Option, Some, None, zero, nat_lt, ◌-◌, ◌≢◌, true≢false, suc}
use Rattle.std.specs.Prelude.{option_and_then, Result, Ok, Err}
use Rattle.std.specs.List.{list_any}
use Rattle.std.specs.Option.{option_map}
use Rattle.sc_thread_ports.specs.turn.Turn.{StartsWith}
use Rattle.sc_actor.specs.declared.actors.Actor.{Ghosts}
use Rattle.sc_actor.specs.declared.actors.Parcel.{Ghosts as MailGhosts}
use Rattle.sc_actor.specs.declared.actors.Seat.{Seat}
use Rattle.sc_actor.specs.declared.rows.Row.{Row}
use Rattle.sc_actor.specs.declared.rows.Event.TheVariants.{Drop, Again}
use Rattle.sc_actor.specs.declared.schedules.Line.TheVariants.{Drop as DropLine, Again as AgainLine}
use Rattle.sc_actor.specs.Mail.{mails, numbered, may_get, has_crashed, copies, is_for}
use Rattle.sc_actor.specs.Counted.{row_bytes, journal_bytes}
use Rattle.sc_actor.specs.System.{numbers_of, waiting, kth, network}
use Rattle.sc_actor.specs.Walk.{line_row}
use Rattle.sc_thread_ledger.specs.Pending.{upto, kth_pending, may_have, may_repeat, is_pending}
use Rattle.sc_thread_ports.specs.declared.exchange.ports.Port.{Port}
use Rattle.sc_thread_ports.specs.exchange.Turns.{change}
use Rattle.sc_thread_ports.specs.exchange.Ports.{seen, made, Stays, Looked, Appended, ChangedBy, IsTrue, MayNotChange}
use Rattle.sc_thread_work.specs.declared.shell.shells.Shell.{Shell}
use Rattle.sc_thread_workers.specs.Crews.{AllStill, crew_numbers}
use Rattle.sc_thread_workers.specs.RoundEnds.{IsGathered}
use Rattle.sc_thread_workers.proofs.ChangedLists.{one_of}
use Rattle.sc_thread_workers.proofs.Crews.{still_all_go, still_sound, still_rows}
use Rattle.sc_thread_workers.proofs.Serving.{numbers_go}
use Rattle.sc_thread_ledger.specs.declared.errors.PostError.TheVariants.{JournalFull, OutOfMemory}
use Rattle.sc_thread_drive.specs.Numbers.{is_in, apart}
use Rattle.sc_thread_drive.specs.Companies.{IsCompany}
use Rattle.sc_thread_drive.specs.Stepping.{IsPlace, IsNowhere, Stepped}
use Rattle.sc_thread_drive.proofs.RowCounts.{whole_prefix}
use Rattle.sc_thread_drive.proofs.OneActed.{one_seen, none_seen, replays_of, count_company}
use Rattle.sc_thread_drive.proofs.SystemWords.{sys, waiting_at, waiting_none, upto_has, births_have, any_out, births_long}
use Rattle.sc_thread_drive.proofs.ActRows.{birth_number}
use Rattle.sc_thread_ledger.proofs.Open.{pending_is}
use Rattle.sc_actor.proofs.PendingLemmas.{pending_sound}
use Rattle.std.proofs.lemmas.Bool.{and_parts, eqb-true, lt-ltb}
use Rattle.sc_thread_ports.specs.declared.exchange.fates.Fate.{Fate}
use Rattle.sc_thread_ports.specs.declared.exchange.fates.Fate.TheVariants.{Lost, Repeated}
use Rattle.sc_thread_drive.specs.Changing.{Changes}
use Rattle.sc_thread_ledger.specs.declared.errors.PostError.{PostError}
use Rattle.sc_thread_ports.proofs.ExchangeProofs.Knowing.{looked_trans, stays_trans}
use Rattle.sc_thread_ports.proofs.TurnProofs.ListPrefixes.{starts_trans}

-- a mail that is pending for an actor is pending
pending_found : {M O : Type 0} (receiver : M → ℕ) (actors : ℕ) (rows : List (Row M O)) (who k number : ℕ) → who ≢ 0 → kth_pending receiver actors rows who k ≡ Some number → is_pending receiver actors rows number ≡ true
pending_found receiver actors rows zero k number ne e = absurd (ne refl)
pending_found receiver actors rows (suc w) zero number ne e = cc
pending_found receiver actors rows (suc w) (suc k) number ne e =
    let p = pending_sound (is_for receiver (upto actors) rows (Some (suc w))) 1 (mails rows) (copies rows) k number e in
    let parts = and_parts (eqb (receiver p.mail) (suc w)) (may_get (upto actors) rows (suc w)) p.passes in
    let may : may_get (upto actors) rows (receiver p.mail) ≡ true = subst (λ v. may_get (upto actors) rows v ≡ true) (sym (eqb-true (receiver p.mail) (suc w) parts.0)) parts.1 in
    let is : number ≡ suc p.place = omega (arith, p.number_is) in
    let before : p.place ≡ number - 1 = omega (arith, p.number_is) in
    let sent : may_repeat receiver actors rows number ≡ true = ap (may_repeat receiver actors rows) is ∙ (ap (may_have receiver actors rows) p.at ∙ may) in
    let copy : nat_lt 0 (get_or (copies rows) (number - 1) 0) ≡ true = lt-ltb 0 (get_or (copies rows) (number - 1) 0) (subst (λ n. 0 < get_or (copies rows) n 0) before p.copies) in
    pending_is receiver actors rows number ∙ (λ i. sent i && copy i)

module _ {M O : Type 0} {h : MailGhosts M} where
  -- before a prefix of one list
  pub front_same : (net first : Port M O h) (before : List (Row M O)) → StartsWith (seen first) (seen net) → StartsWith before (seen first) → before ≡ seen net → seen first ≡ seen net
  front_same net first before a b e = whole_prefix (seen net) (seen first) a (omega (arith, ap length a.1, length-append (seen net) a.0, ap length b.1, length-append (seen first) b.0, ap length e))

module _ {A M O : Type 0} {g : Ghosts A M O} {h : MailGhosts M} where
  -- the network's port changed, and all have gathered
  module _ (births : List (Seat A)) (net mid next : Port M O h) (ss after : List (Shell A M O g h)) (c : IsCompany births net ss) (stays : Stays net mid) (looked : Looked mid next) (len : length after ≡ length ss) (still : AllStill ss after) (gathered : IsGathered next after) (rows : IsTrue next) where
    numbers_are : crew_numbers after ≡ crew_numbers ss
    numbers_are = numbers_go ss after len (still_all_go ss after still)

    pub company_net : IsCompany births next after
    company_net = record {
      first = looked.stays.who ∙ (stays.who ∙ c.first);
      all = looked.stays.given ∙ (stays.given ∙ (c.all ∙ sym numbers_are));
      born = numbers_are ∙ c.born;
      far = ap (λ ws. apart (0 ∷ ws)) numbers_are ∙ c.far;
      within = λ k d lt. let le : k < length ss = omega (arith, lt, len) in omega (arith, (still k d le).goes.stays.who, looked.stays.exchange.1, stays.exchange.1, c.within k d le);
      over = gathered.over;
      rows = rows;
      sound = still_sound ss after len still c.sound;
      replay = λ k d e lt. let le : k < length ss = omega (arith, lt, len) in replays_of (get_or after k d) (get_or births k e).actor (still_sound ss after len still c.sound k d lt) ((still k d le).goes.replay (get_or births k e).actor (λ _. c.replay k d e le));
    }

    -- its row was appended
    pub net_row : (first : Port M O h) (row : Row M O) → StartsWith (seen first) (seen net) → made first ≡ made net → (a : Appended first mid row) → (a.before ≡ seen net) × (seen next ≡ seen net ++ row ∷ [])
    net_row first row low same a =
        let start : StartsWith a.before (seen net) = starts_trans a.before (seen first) (seen net) a.later low in
        let all : StartsWith (seen next) (seen net) = starts_trans (seen next) (seen mid) (seen net) looked.later (starts_trans (seen mid) a.before (seen net) (row ∷ [], a.seen) start) in
        one_seen net next a.before (seen mid) row all start a.seen looked.later
        (omega (arith, count_company births net ss c, count_company births next after company_net, ap length looked.made, ap length a.made, length-append (made first) (row ∷ []), ap length same, still_rows ss after len still))

    -- nothing was appended
    pub net_same : Looked net mid → seen next ≡ seen net
    net_same l =
        none_seen net next (length (seen net)) (starts_trans (seen next) (seen mid) (seen net) looked.later l.later) refl
        (omega (arith, count_company births net ss c, count_company births next after company_net, ap length looked.made, ap length l.made, still_rows ss after len still))

    pub mid_same : (l : Looked net mid) → seen mid ≡ seen net
    mid_same l =
        let a = l.later in let b = looked.later in
        whole_prefix (seen net) (seen mid) a (omega (arith, ap length a.1, length-append (seen net) a.0, ap length b.1, length-append (seen mid) b.0, ap length (net_same l)))

  -- mail of an actor that there is not
  pub loses_nowhere : (words : ℕ → ℕ → ℕ × ℕ) (births : List (Seat A)) (net : Port M O h) (ss : List (Shell A M O g h)) (c : IsCompany births net ss) (who k : ℕ) → IsNowhere ss who → Stepped (sys words births net ss c) (line_row (sys words births net ss c) (seen net) (DropLine who k)) net net ss (Ok false)
  loses_nowhere words births net ss c who k out = (c, ap (option_map (λ mail. network (Drop mail))) (waiting_none words births net ss c who k (seen net) out), refl)

  -- a line of the network, whose port looked first
  module _ (words : ℕ → ℕ → ℕ × ℕ) (births : List (Seat A)) (net first : Port M O h) (ss after : List (Shell A M O g h)) (c : IsCompany births net ss) (l : Looked net first) (len : length after ≡ length ss) (still : AllStill ss after) where
    -- the pending mail of an actor, as it was first seen
    kth_there : (who k place : ℕ) (o : Option ℕ) → IsPlace ss who place → seen first ≡ seen net → o ≡ kth_pending h.receiver net.actors (seen first) who k → kth (waiting (sys words births net ss c) (seen net) (Some who)) k ≡ o
    kth_there who k place o at same is =
        let d = one_of ss place at.inside in
        ap (λ n. kth (waiting (sys words births net ss c) (seen net) (Some n)) k) (sym (at.number d))
        ∙ (sym (waiting_at words births net ss c place at.inside d (seen net) k) ∙ ((λ i. kth_pending h.receiver net.actors (sym same i) (at.number d i) k) ∙ sym is))

    module _ (next : Port M O h) (looked : Looked first next) (gathered : IsGathered next after) (rows : IsTrue next) where
      rested : IsCompany births next after
      rested = company_net births net first next ss after c l.stays looked len still gathered rows

      rested_same : seen next ≡ seen net
      rested_same = net_same births net first next ss after c l.stays looked len still gathered rows l

      first_same : seen first ≡ seen net
      first_same = mid_same births net first next ss after c l.stays looked len still gathered rows l

      -- too few mails are pending
      pub loses_none : (who k place : ℕ) → IsPlace ss who place → None ≡ kth_pending h.receiver net.actors (seen first) who k → Stepped (sys words births net ss c) (line_row (sys words births net ss c) (seen net) (DropLine who k)) net next after (Ok false)
      loses_none who k place at is = (rested, ap (option_map (λ mail. network (Drop mail))) (kth_there who k place None at first_same is), rested_same)

      -- the mail was not sent
      pub repeats_unsent : (number : ℕ) → None ≡ option_map h.receiver (numbered (mails (seen first)) number) → Stepped (sys words births net ss c) (line_row (sys words births net ss c) (seen net) (AgainLine number)) net next after (Ok false)
      repeats_unsent number is = (rested, by (numbered (mails (seen net)) number) (is ∙ ap (λ r. option_map h.receiver (numbered (mails r) number)) first_same), rested_same)
        where
          by : (o : Option M) → None ≡ option_map h.receiver o → option_and_then (λ m. cond (may_get (numbers_of births) (seen net) (h.receiver m)) (Some (network {M = M} {O = O} (Again number))) None) o ≡ None
          by None e = refl
          by (Some m) e = cc

      -- it was sent to an actor that is not there
      pub repeats_nowhere : (number who : ℕ) → Some who ≡ option_map h.receiver (numbered (mails (seen first)) number) → IsNowhere ss who → Stepped (sys words births net ss c) (line_row (sys words births net ss c) (seen net) (AgainLine number)) net next after (Ok false)
      repeats_nowhere number who is out = (rested, by (numbered (mails (seen net)) number) (is ∙ ap (λ r. option_map h.receiver (numbered (mails r) number)) first_same), rested_same)
        where
          by : (o : Option M) → Some who ≡ option_map h.receiver o → option_and_then (λ m. cond (may_get (numbers_of births) (seen net) (h.receiver m)) (Some (network {M = M} {O = O} (Again number))) None) o ≡ None
          by None e = cc
          by (Some m) e =
              let to : who ≡ h.receiver m = cc in
              let none : list_any (λ a. eqb a (h.receiver m)) (numbers_of births) ≡ false = any_out (h.receiver m) (numbers_of births) (ap (λ l. is_in (h.receiver m) l) (sym c.born) ∙ (ap (λ n. is_in n (crew_numbers ss)) (sym to) ∙ out)) in
              ap (λ b. cond (b && not (has_crashed (seen net) (h.receiver m))) (Some (network (Again number))) None) none

    module _ (mid next : Port M O h) (looked : Looked mid next) (gathered : IsGathered next after) (rows : IsTrue next) where
      module _ (fate : Fate) (number : ℕ) (changed : ChangedBy fate number first mid) where
        a : Appended first mid (change fate number)
        a = changed.appended

        stays : Stays net mid
        stays = stays_trans net first mid l.stays a.stays

        appended : (a.before ≡ seen net) × (seen next ≡ seen net ++ change fate number ∷ [])
        appended = net_row births net mid next ss after c stays looked len still gathered rows first (change fate number) l.later l.made a

        changed_there : IsCompany births next after
        changed_there = company_net births net mid next ss after c stays looked len still gathered rows

        before_same : seen first ≡ seen net
        before_same = front_same net first a.before l.later a.later appended.0

        fits_next : journal_bytes h.weighs (seen next) ≤ net.limit
        fits_next = subst (λ (p : List (Row M O) × ℕ). journal_bytes h.weighs p.0 ≤ p.1) (λ i. ((a.seen ∙ (ap (λ l. l ++ change fate number ∷ []) appended.0 ∙ sym appended.1)) i, l.stays.exchange.2 i)) changed.within

      module _ (l2 : Looked first mid) where
        refused_stays : Stays net mid
        refused_stays = stays_trans net first mid l.stays l2.stays

        refused_same : seen next ≡ seen net
        refused_same = net_same births net mid next ss after c refused_stays looked len still gathered rows (looked_trans net first mid l l2)

        refused_mid : seen mid ≡ seen net
        refused_mid = mid_same births net mid next ss after c refused_stays looked len still gathered rows (looked_trans net first mid l l2)

        refused_first : seen first ≡ seen net
        refused_first = front_same net first (seen mid) l.later l2.later refused_mid

        refused_there : IsCompany births next after
        refused_there = company_net births net mid next ss after c refused_stays looked len still gathered rows

        passes_net : (fate : Fate) (number : ℕ) → first.limit < journal_bytes h.weighs (seen mid) + row_bytes h.weighs (change {M = M} {O = O} fate number) → net.limit < journal_bytes h.weighs (seen net) + row_bytes h.weighs (change {M = M} {O = O} fate number)
        passes_net fate number more = omega (arith, more, ap (journal_bytes h.weighs) refused_mid, l.stays.exchange.2)

      module _ (who k place number : ℕ) (at : IsPlace ss who place) (is : Some number ≡ kth_pending h.receiver net.actors (seen first) who k) where
        loses_done : (changed : ChangedBy Lost number first mid) → Stepped (sys words births net ss c) (line_row (sys words births net ss c) (seen net) (DropLine who k)) net next after (Ok true)
        loses_done changed = (
          changed_there Lost number changed,
          (network (Drop number), ap (option_map (λ mail. network (Drop mail))) (kth_there who k place (Some number) at (before_same Lost number changed) is), (appended Lost number changed).1),
          fits_next Lost number changed,
        )

        loses_full : (bytes : ℕ) → Looked first mid → first.limit < journal_bytes h.weighs (seen mid) + row_bytes h.weighs (change {M = M} {O = O} Lost number) → Stepped (sys words births net ss c) (line_row (sys words births net ss c) (seen net) (DropLine who k)) net next after (Err (JournalFull bytes))
        loses_full bytes l2 more =
            ((network (Drop number), ap (option_map (λ mail. network (Drop mail))) (kth_there who k place (Some number) at (refused_first l2) is), passes_net l2 Lost number more), refused_same l2)

        -- a mail that is pending may be lost
        never_undone : MayNotChange Lost number first mid → ⊥
        never_undone no_more =
            let d = one_of ss place at.inside in
            let an_actor : who ≢ 0 = λ z. let some = (get_or ss place d).numbered in absurd (omega (arith, z, some, at.number d)) in
            let there : is_pending h.receiver net.actors (seen first) number ≡ true = pending_found h.receiver net.actors (seen first) who k number an_actor (sym is) in
            let same : seen first ≡ seen mid = refused_first no_more.looked ∙ sym (refused_mid no_more.looked) in
            true≢false (sym there ∙ ((λ i. is_pending h.receiver (sym l.stays.exchange.1 i) (same i) number) ∙ no_more.may))

        -- what a loss came to
        pub loses_so : (step : Result Bool PostError) → Changes Lost number first mid step → Stepped (sys words births net ss c) (line_row (sys words births net ss c) (seen net) (DropLine who k)) net next after step
        loses_so (Ok true) x = loses_done x
        loses_so (Ok false) x = absurd (never_undone x)
        loses_so (Err (JournalFull bytes)) x = loses_full bytes x.0 x.1
        loses_so (Err OutOfMemory) x = (network (Drop number), ap (option_map (λ mail. network (Drop mail))) (kth_there who k place (Some number) at (refused_first x.0) is))

      module _ (who place number : ℕ) (at : IsPlace ss who place) (is : Some who ≡ option_map h.receiver (numbered (mails (seen first)) number)) where
        -- the mail was sent to this actor
        sent_to : seen first ≡ seen net → (m : M) × (numbered (mails (seen net)) number ≡ Some m) × (h.receiver m ≡ who)
        sent_to same = by (numbered (mails (seen net)) number) refl (is ∙ ap (λ r. option_map h.receiver (numbered (mails r) number)) same)
          where
            by : (o : Option M) → numbered (mails (seen net)) number ≡ o → Some who ≡ option_map h.receiver o → (m : M) × (numbered (mails (seen net)) number ≡ Some m) × (h.receiver m ≡ who)
            by None e f = cc
            by (Some m) e f = (m, e, (let to : who ≡ h.receiver m = cc in sym to))

        d : Shell A M O g h
        d = one_of ss place at.inside

        all_is : list_any (λ b. eqb b who) (upto net.actors) ≡ true
        all_is = upto_has net.actors who (subst (λ v. 0 < v) (at.number d) (get_or ss place d).numbered) (subst (λ v. v ≤ net.actors) (at.number d) (c.within place d at.inside))

        born_is : list_any (λ b. eqb b who) (numbers_of births) ≡ true
        born_is =
            let e : Seat A = record { who = 0; actor = d.actor } in
            subst (λ v. list_any (λ b. eqb b v) (numbers_of births) ≡ true) (birth_number births net ss place d e c at.inside ∙ at.number d) (births_have births place e (omega (arith, at.inside, births_long words births net ss c)))

        -- whether it may be repeated is the same to both
        may_same : (x : (m : M) × (numbered (mails (seen net)) number ≡ Some m) × (h.receiver m ≡ who)) → (b : Bool) → may_repeat h.receiver net.actors (seen net) number ≡ b → may_get (numbers_of births) (seen net) (h.receiver x.0) ≡ b
        may_same x b e =
            let to = x.2 in
            let there : may_get (upto net.actors) (seen net) (h.receiver x.0) ≡ b = ap (may_have h.receiver net.actors (seen net)) (sym x.1) ∙ e in
            ap (λ v. list_any (λ b. eqb b v) (numbers_of births) && not (has_crashed (seen net) v)) to
            ∙ ((λ i. (born_is ∙ sym all_is) i && not (has_crashed (seen net) who)) ∙ (ap (λ v. list_any (λ b. eqb b v) (upto net.actors) && not (has_crashed (seen net) v)) (sym to) ∙ there))

        repeat_is : (x : (m : M) × (numbered (mails (seen net)) number ≡ Some m) × (h.receiver m ≡ who)) (b : Bool) → may_get (numbers_of births) (seen net) (h.receiver x.0) ≡ b → line_row (sys words births net ss c) (seen net) (AgainLine number) ≡ cond b (Some (network (Again number))) None
        repeat_is x b e =
            ap (option_and_then (λ m. cond (may_get (numbers_of births) (seen net) (h.receiver m)) (Some (network (Again number))) None)) x.1
            ∙ ap (λ v. cond v (Some (network (Again number))) None) e

        may_at : (rows_ : List (Row M O)) (actors : ℕ) (b : Bool) → rows_ ≡ seen net → actors ≡ net.actors → may_repeat h.receiver actors rows_ number ≡ b → may_repeat h.receiver net.actors (seen net) number ≡ b
        may_at rows_ actors b same count e = (λ i. may_repeat h.receiver (sym count i) (sym same i) number) ∙ e

        repeats_done : (changed : ChangedBy Repeated number first mid) → Stepped (sys words births net ss c) (line_row (sys words births net ss c) (seen net) (AgainLine number)) net next after (Ok true)
        unfolding a
        repeats_done changed =
            let x = sent_to (before_same Repeated number changed) in
            let e = appended Repeated number changed in (
              changed_there Repeated number changed,
              (network (Again number), repeat_is x true (may_same x true (may_at changed.appended.before first.actors true e.0 l.stays.exchange.1 changed.may)), e.1),
              fits_next Repeated number changed,
            )

        repeats_undone : (l2 : Looked first mid) → may_repeat h.receiver first.actors (seen mid) number ≡ false → Stepped (sys words births net ss c) (line_row (sys words births net ss c) (seen net) (AgainLine number)) net next after (Ok false)
        repeats_undone l2 no_more =
            let x = sent_to (refused_first l2) in
            (refused_there l2, repeat_is x false (may_same x false (may_at (seen mid) first.actors false (refused_mid l2) l.stays.exchange.1 no_more)), refused_same l2)

        repeats_full : (bytes : ℕ) (l2 : Looked first mid) → first.limit < journal_bytes h.weighs (seen mid) + row_bytes h.weighs (change {M = M} {O = O} Repeated number) → may_repeat h.receiver first.actors (seen mid) number ≡ true → Stepped (sys words births net ss c) (line_row (sys words births net ss c) (seen net) (AgainLine number)) net next after (Err (JournalFull bytes))
        repeats_full bytes l2 more may =
            let x = sent_to (refused_first l2) in
            ((network (Again number), repeat_is x true (may_same x true (may_at (seen mid) first.actors true (refused_mid l2) l.stays.exchange.1 may)), passes_net l2 Repeated number more), refused_same l2)

        -- what a repeat came to
        pub repeats_so : (step : Result Bool PostError) → Changes Repeated number first mid step → Stepped (sys words births net ss c) (line_row (sys words births net ss c) (seen net) (AgainLine number)) net next after step
        repeats_so (Ok true) x = repeats_done x
        repeats_so (Ok false) x = repeats_undone x.looked x.may
        repeats_so (Err (JournalFull bytes)) x = repeats_full bytes x.0 x.1 x.2
        repeats_so (Err OutOfMemory) x =
            let y = sent_to (refused_first x.0) in
            (network (Again number), repeat_is y true (may_same y true (may_at (seen mid) first.actors true (refused_mid x.0) l.stays.exchange.1 x.1)))

-- What follows where each row may stand where it does: mail that was fetched goes to the port's actor, and an actor's first pending mail stays the first while neither the actor nor the network makes a row.
use Rattle.std.proofs.Common.{◌≡◌, ◌≢◌, ℕ, zero, suc, ◌+◌, eqb, Bool, true, false, true≢false, cond, ◌&&◌, ◌||◌, not, List, [], ◌∷◌, ◌++◌, length, set, replicate, refl, sym, ap, ◌∙◌, subst, arith, append_assoc, Option, Some, None, eq-eqb}
use Rattle.std.specs.Prelude.{slice_get}
use Rattle.std.specs.List.{list_any}
use Rattle.std.proofs.lemmas.List.{append-nil}
use Rattle.std.proofs.lemmas.List.Folds.{list_any-append}
use Rattle.std.proofs.lemmas.Bool.{eqb-true, and_parts}
use Rattle.std.proofs.Math.Bool.{and_assoc, or-false}
use Rattle.sc_thread_ports.specs.turn.TurnDefinitions.{StartsWith}
use Rattle.sc_actor.specs.declared.rows.Row.{Row}
use Rattle.sc_actor.specs.declared.rows.Event.{Event}
use Rattle.sc_actor.specs.declared.rows.Event.TheVariants.{Deliver, Drop, Again, Tick, Go, Told, Crash}
use Rattle.sc_actor.specs.Definitions.{mails, numbered, copies, counts_at, numbers, is_crash, has_crashed, may_get, is_for}
use Rattle.sc_actor.proofs.Lemmas.{counted, length-counts_at, mails-snoc, mails-append, pending_sound, get_left}
use Rattle.sc_thread_ledger.specs.LedgerDefinitions.{upto, whose, pending_of, kth_pending}
use Rattle.sc_thread_ledger.proofs.LedgerLemmas.{copies-push}
use Rattle.sc_thread_ports.specs.declared.turn.rule.View.{View}
use Rattle.sc_thread_ports.specs.declared.exchange.shared.BareRow.{BareRow}
use Rattle.sc_thread_ports.specs.declared.exchange.fates.Fate.{Fate}
use Rattle.sc_thread_ports.specs.declared.exchange.fates.Fate.TheVariants.{Lost, Repeated}
use Rattle.sc_thread_ports.specs.exchange.ExchangeDefinitions.{bare_rows, rows_of, rows_from, change, is_mail_to, is_addressed, all_addressed}
use Rattle.sc_thread_ports.proofs.ExchangeProofs.Done.{rows_of_bare, begins_rows, quiet}

-- a mail keeps its receiver
pub mail_later : {M : Type 0} (receiver : M → ℕ) (who : ℕ) (sent more : List M) (number : ℕ) → is_mail_to receiver who (numbered sent number) ≡ true → is_mail_to receiver who (numbered (sent ++ more) number) ≡ true
mail_later receiver who sent more zero e = e
mail_later {M} receiver who sent more (suc place) e = by sent place e
  where
    by : (xs : List M) (i : ℕ) → is_mail_to receiver who (slice_get xs i) ≡ true → is_mail_to receiver who (slice_get (xs ++ more) i) ≡ true
    by [] i e = absurd (true≢false (sym e))
    by (x ∷ xs) zero e = e
    by (x ∷ xs) (suc i) e = by xs i e

-- the network's own rows
change_so : (M O : Type 0) (receiver : M → ℕ) (fate : Fate) (number : ℕ) (sent : List M) → is_addressed receiver sent (change {M = M} {O = O} fate number).who (change {M = M} {O = O} fate number).event ≡ true
change_so M O receiver Lost number sent = refl
change_so M O receiver Repeated number sent = refl

module _ {M O : Type 0} (receiver : M → ℕ) where
  -- later rows
  pub all_addressed-append : (sent : List M) (xs ys : List (Row M O)) → all_addressed receiver sent (xs ++ ys) ≡ (all_addressed receiver sent xs && all_addressed receiver (sent ++ mails xs) ys)
  all_addressed-append sent [] ys = ap (λ l. all_addressed receiver l ys) (sym (append-nil sent))
  all_addressed-append sent (x ∷ xs) ys =
      ap (λ b. is_addressed receiver sent x.who x.event && b) (all_addressed-append (sent ++ x.sent) xs ys ∙ ap (λ l. all_addressed receiver (sent ++ x.sent) xs && all_addressed receiver l ys) (append_assoc sent x.sent (mails xs)))
      ∙ sym (and_assoc (is_addressed receiver sent x.who x.event) (all_addressed receiver (sent ++ x.sent) xs) (all_addressed receiver (sent ++ (x.sent ++ mails xs)) ys))

  -- one row more
  pub addressed_push : (rows : List (Row M O)) (row : Row M O) → all_addressed receiver [] rows ≡ true → is_addressed receiver (mails rows) row.who row.event ≡ true → all_addressed receiver [] (rows ++ row ∷ []) ≡ true
  addressed_push rows row all one =
      all_addressed-append [] rows (row ∷ [])
      ∙ (λ i. all i && (one i && true))

  -- a row that may stand behind these mails may stand behind more
  pub addressed_later : (who : ℕ) (event : Event O) (sent more : List M) → is_addressed receiver sent who event ≡ true → is_addressed receiver (sent ++ more) who event ≡ true
  addressed_later who (Deliver number) sent more e = mail_later receiver who sent more number e
  addressed_later who (Drop number) sent more e = e
  addressed_later who (Again number) sent more e = e
  addressed_later who Tick sent more e = refl
  addressed_later who Go sent more e = refl
  addressed_later who (Told order) sent more e = refl
  addressed_later who Crash sent more e = refl

  -- the same, of rows that begin with others
  pub addressed_rows : (who : ℕ) (event : Event O) (rows first : List (Row M O)) → StartsWith rows first → is_addressed receiver (mails first) who event ≡ true → is_addressed receiver (mails rows) who event ≡ true
  addressed_rows who event rows first later e =
      ap (λ l. is_addressed receiver l who event) (ap mails later.1 ∙ mails-append first later.0) ∙ addressed_later who event (mails first) (mails later.0) e

  -- the same, of what a turn found
  pub addressed_found : (who : ℕ) (event : Event O) (w : View (BareRow M O)) (rows : List (Row M O)) → StartsWith (bare_rows rows) w.seen → is_addressed receiver (mails (rows_from w.seen)) who event ≡ true → is_addressed receiver (mails rows) who event ≡ true
  addressed_found who event w rows later e =
      addressed_rows who event rows (rows_from w.seen) (subst (λ l. StartsWith l (rows_from w.seen)) (rows_of_bare rows) (begins_rows (bare_rows rows) w.seen later)) e

  -- a row of the network may stand anywhere
  pub change_addressed : (fate : Fate) (number : ℕ) (sent : List M) (row : Row M O) → row ≡ change fate number → is_addressed receiver sent row.who row.event ≡ true
  change_addressed fate number sent row is = ap (λ (r : Row M O). is_addressed receiver sent r.who r.event) is ∙ change_so M O receiver fate number sent

  -- pending mail is mail to the actor
  pub pending_to : (actors : ℕ) (rows : List (Row M O)) (who k number : ℕ) → who ≢ 0 → kth_pending receiver actors rows who k ≡ Some number → is_mail_to receiver who (numbered (mails rows) number) ≡ true
  pending_to actors rows zero k number ne e = absurd (ne refl)
  pending_to actors rows (suc n) zero number ne e = cc
  pending_to actors rows (suc n) (suc k) number ne e =
      let p = pending_sound (is_for receiver (upto actors) rows (whose (suc n))) 1 (mails rows) (copies rows) k number e in
      let to : eqb (receiver p.mail) (suc n) ≡ true = (and_parts (eqb (receiver p.mail) (suc n)) (may_get (upto actors) rows (suc n)) p.passes).0 in
      let is : suc p.place ≡ number = omega (arith, p.number_is) in
      subst (λ m. is_mail_to receiver (suc n) (numbered (mails rows) m) ≡ true) is (ap (is_mail_to receiver (suc n)) p.at ∙ to)

-- the numbers of mail that passes a test
module _ {M : Type 0} (test : M → Bool) where
  numbers_append : (n : ℕ) (xs ys : List M) (cs ds : List ℕ) → length cs ≡ length xs → numbers test n (xs ++ ys) (cs ++ ds) ≡ numbers test n xs cs ++ numbers test (n + length xs) ys ds
  numbers_append n [] ys [] ds l = ap (λ k. numbers test k ys ds) (let e : n ≡ n + 0 = omega arith in e)
  numbers_append n [] ys (c ∷ cs) ds l = absurd (omega (arith, l))
  numbers_append n (x ∷ xs) ys [] ds l = absurd (omega (arith, l))
  numbers_append n (x ∷ xs) ys (c ∷ cs) ds l =
      ap (λ r. cond (test x) (replicate c n) [] ++ r) (numbers_append (suc n) xs ys cs ds (omega (arith, l)) ∙ ap (λ k. numbers test (suc n) xs cs ++ numbers test k ys ds) (let e : suc n + length xs ≡ n + length (x ∷ xs) = omega arith in e))
      ∙ sym (append_assoc (cond (test x) (replicate c n) []) (numbers test (suc n) xs cs) (numbers test (n + length (x ∷ xs)) ys ds))

  -- the count of a mail that does not pass does not matter
  numbers_set : (n : ℕ) (xs : List M) (cs : List ℕ) (place c : ℕ) → ((m : M) → slice_get xs place ≡ Some m → test m ≡ false) → numbers test n xs (set cs place c) ≡ numbers test n xs cs
  numbers_set n [] cs place c fails = refl
  numbers_set n (x ∷ xs) [] place c fails = refl
  numbers_set n (x ∷ xs) (d ∷ cs) zero c fails =
      ap (λ b. cond b (replicate c n) [] ++ numbers test (suc n) xs cs) (fails x refl) ∙ sym (ap (λ b. cond b (replicate d n) [] ++ numbers test (suc n) xs cs) (fails x refl))
  numbers_set n (x ∷ xs) (d ∷ cs) (suc place) c fails = ap (λ r. cond (test x) (replicate d n) [] ++ r) (numbers_set (suc n) xs cs place c fails)

  numbers_none : (n : ℕ) (xs : List M) (cs : List ℕ) → ((m : M) → test m ≡ false) → numbers test n xs cs ≡ []
  numbers_none n [] cs fails = refl
  numbers_none n (x ∷ xs) [] fails = refl
  numbers_none n (x ∷ xs) (c ∷ cs) fails = ap (λ b. cond b (replicate c n) [] ++ numbers test (suc n) xs cs) (fails x) ∙ numbers_none (suc n) xs cs fails

to_other : {M : Type 0} (receiver : M → ℕ) (who other : ℕ) (o : Option M) (mail : M) → is_mail_to receiver other o ≡ true → eqb other who ≡ false → o ≡ Some mail → eqb (receiver mail) who ≡ false
to_other receiver who other o mail to ne is =
    let there : receiver mail ≡ other = eqb-true (receiver mail) other (ap (is_mail_to receiver other) (sym is) ∙ to) in
    ap (λ n. eqb n who) there ∙ ne

module _ {M : Type 0} (receiver : M → ℕ) (sent : List M) (counts : List ℕ) (who maker : ℕ) (may : Bool) (other : eqb maker who ≡ false) (actor : maker ≢ 0) where
  abbrev mine : M → Bool
  mine mail = eqb (receiver mail) who && may

  -- a row of another actor takes no copy of this one's mail
  counts_kept : {O : Type 0} (event : Event O) → is_addressed receiver sent maker event ≡ true → numbers mine 1 sent (counts_at counts event) ≡ numbers mine 1 sent counts
  counts_kept (Deliver zero) to = refl
  counts_kept (Deliver (suc place)) to = numbers_set mine 1 sent counts place _ (λ m is. ap (λ b. b && may) (to_other receiver who maker (slice_get sent place) m to other is))
  counts_kept (Drop number) to = absurd (actor (eqb-true maker 0 to))
  counts_kept (Again number) to = absurd (actor (eqb-true maker 0 to))
  counts_kept Tick to = refl
  counts_kept Go to = refl
  counts_kept (Told order) to = refl
  counts_kept Crash to = refl

and_none : (a b : Bool) → (a && (b && not true)) ≡ false
and_none true true = refl
and_none true false = refl
and_none false b = refl

module _ {M O : Type 0} (receiver : M → ℕ) (actors : ℕ) where
  -- another actor's row is no crash of this one
  crashed_same : (rows : List (Row M O)) (row : Row M O) (who : ℕ) → eqb row.who who ≡ false → has_crashed (rows ++ row ∷ []) who ≡ has_crashed rows who
  crashed_same rows row who other =
      list_any-append (λ r. eqb r.who who && is_crash r.event) rows (row ∷ [])
      ∙ (ap (λ b. has_crashed rows who || ((b && is_crash row.event) || false)) other ∙ or-false (has_crashed rows who))

  -- so what was pending for it stays, and more may come behind
  pending_kept : (rows : List (Row M O)) (row : Row M O) (n : ℕ) → eqb row.who (suc n) ≡ false → row.who ≢ 0 → is_addressed receiver (mails rows) row.who row.event ≡ true →
      (more : List ℕ) × (pending_of receiver actors (rows ++ row ∷ []) (suc n) ≡ pending_of receiver actors rows (suc n) ++ more)
  pending_kept rows row n other actor to =
      let may = may_get (upto actors) rows (suc n) in
      let test : M → Bool = λ mail. eqb (receiver mail) (suc n) && may in
      let same : may_get (upto actors) (rows ++ row ∷ []) (suc n) ≡ may = ap (λ b. list_any (λ a. eqb a (suc n)) (upto actors) && not b) (crashed_same rows row (suc n) other) in
      let behind : List ℕ = numbers test (1 + length (mails rows)) row.sent (replicate (length row.sent) 1) in (
        behind,
        (λ i. numbers (λ mail. eqb (receiver mail) (suc n) && same i) 1 (mails-snoc rows row i) (copies-push rows row i))
            ∙ (numbers_append test 1 (mails rows) row.sent (counts_at (copies rows) row.event) (replicate (length row.sent) 1) (length-counts_at (copies rows) row.event ∙ counted rows)
            ∙ ap (λ l. l ++ behind) (counts_kept receiver (mails rows) (copies rows) (suc n) row.who may other actor row.event to)),
      )

  first_kept : (rows : List (Row M O)) (row : Row M O) (n number : ℕ) → eqb row.who (suc n) ≡ false → row.who ≢ 0 → is_addressed receiver (mails rows) row.who row.event ≡ true →
      kth_pending receiver actors rows (suc n) 1 ≡ Some number → kth_pending receiver actors (rows ++ row ∷ []) (suc n) 1 ≡ Some number
  first_kept rows row n number other actor to first =
      let k = pending_kept rows row n other actor to in
      ap (λ l. slice_get l 0) k.1 ∙ get_left (pending_of receiver actors rows (suc n)) k.0 0 number first

  not_of : (who : ℕ) (row : Row M O) (rows : List (Row M O)) → rows_of who (row ∷ rows) ≡ [] → (eqb row.who who ≡ false) × (rows_of who rows ≡ [])
  not_of who row rows none = by (eqb row.who who) refl
    where
      by : (b : Bool) → eqb row.who who ≡ b → (eqb row.who who ≡ false) × (rows_of who rows ≡ [])
      by true e = (let bad : row ∷ rows_of who rows ≡ [] = ap (λ b. cond b (row ∷ rows_of who rows) (rows_of who rows)) (sym e) ∙ none in cc)
      by false e = (e, ap (λ b. cond b (row ∷ rows_of who rows) (rows_of who rows)) (sym e) ∙ none)

  first_over : (rows more : List (Row M O)) (n number : ℕ) → rows_of (suc n) more ≡ [] → rows_of 0 more ≡ [] → all_addressed receiver (mails rows) more ≡ true →
      kth_pending receiver actors rows (suc n) 1 ≡ Some number → kth_pending receiver actors (rows ++ more) (suc n) 1 ≡ Some number
  first_over rows [] n number own net all first = ap (λ l. kth_pending receiver actors l (suc n) 1) (append-nil rows) ∙ first
  first_over rows (row ∷ more) n number own net all first =
      let mine = not_of (suc n) row more own in
      let nets = not_of 0 row more net in
      let parts = and_parts (is_addressed receiver (mails rows) row.who row.event) (all_addressed receiver (mails rows ++ row.sent) more) all in
      let actor : row.who ≢ 0 = λ z. true≢false (sym (eq-eqb row.who 0 z) ∙ nets.0) in
      ap (λ l. kth_pending receiver actors l (suc n) 1) (sym (append_assoc rows (row ∷ []) more))
      ∙ first_over (rows ++ row ∷ []) more n number mine.1 nets.1 (ap (λ l. all_addressed receiver l more) (mails-snoc rows row) ∙ parts.1) (first_kept rows row n number mine.0 actor parts.0 first)

  -- an actor's first pending mail stays the first over rows of which none is its own or the network's
  pub first_stays : (rows later : List (Row M O)) (who number : ℕ) → StartsWith later rows → who ≢ 0 → length (rows_of who later) ≡ length (rows_of who rows) → length (rows_of 0 later) ≡ length (rows_of 0 rows) → all_addressed receiver [] later ≡ true →
      kth_pending receiver actors rows who 1 ≡ Some number → kth_pending receiver actors later who 1 ≡ Some number
  first_stays rows later zero number starts ne own net all first = absurd (ne refl)
  first_stays rows later (suc n) number starts ne own net all first =
      let more = starts.0 in
      let whole : all_addressed receiver [] (rows ++ more) ≡ true = ap (all_addressed receiver []) (sym starts.1) ∙ all in
      let parts = and_parts (all_addressed receiver [] rows) (all_addressed receiver (mails rows) more) (sym (all_addressed-append receiver [] rows more) ∙ whole) in
      ap (λ l. kth_pending receiver actors l (suc n) 1) starts.1
      ∙ first_over rows more n number
      (quiet (suc n) rows more (ap (λ l. length (rows_of (suc n) l)) (sym starts.1) ∙ own))
      (quiet 0 rows more (ap (λ l. length (rows_of 0 l)) (sym starts.1) ∙ net)) parts.1 first

  -- a crash is in the actor's own rows
  pub crashed_own : (who : ℕ) (rows : List (Row M O)) → has_crashed rows who ≡ list_any (λ (row : Row M O). is_crash row.event) (rows_of who rows)
  crashed_own who [] = refl
  crashed_own who (row ∷ rows) = let e = crashed_own who rows in
      elim (eqb row.who who) as (λ b. ((b && is_crash row.event) || has_crashed rows who) ≡ list_any (λ (r : Row M O). is_crash r.event) (cond b (row ∷ rows_of who rows) (rows_of who rows))) [ true ↦ ap (λ b. is_crash row.event || b) e | false ↦ e ]

  -- nothing is pending for an actor that has crashed
  pub crashed_waits : (rows : List (Row M O)) (who number : ℕ) → who ≢ 0 → has_crashed rows who ≡ true → kth_pending receiver actors rows who 1 ≡ Some number → ⊥
  crashed_waits rows zero number ne crashed first = ne refl
  crashed_waits rows (suc n) number ne crashed first =
      let none : pending_of receiver actors rows (suc n) ≡ [] =
      numbers_none (is_for receiver (upto actors) rows (Some (suc n))) 1 (mails rows) (copies rows)
      (λ m. ap (λ b. eqb (receiver m) (suc n) && (list_any (λ a. eqb a (suc n)) (upto actors) && not b)) crashed ∙ and_none (eqb (receiver m) (suc n)) (list_any (λ a. eqb a (suc n)) (upto actors))) in
      let bad : None ≡ Some number = ap (λ l. slice_get l 0) (sym none) ∙ first in cc

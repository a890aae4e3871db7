-- The pending mail of all actors is a queue: a delivery of the lowest number takes its first mail, and what is sent stands behind.
use Rattle.std.proofs.Common.{◌≡◌, ℕ, suc, ◌+◌, List, [], ◌∷◌, ◌++◌, Bool, true, false, cond, ◌&&◌, ◌||◌, not, find, eqb, refl, sym, ◌∙◌, ap, arith, replicate, None, Some}
use Rattle.std.specs.List.{filter, list_any}
use Rattle.std.proofs.lemmas.Option.{same_Some}
use Rattle.std.proofs.lemmas.List.Folds.{list_any-append}
use Rattle.sc_base.proofs.Lemmas.{and_then-some, map-some}
use Rattle.sc_actor.specs.declared.rows.Row.{Row}
use Rattle.sc_actor.specs.declared.rows.Event.{Event}
use Rattle.sc_actor.specs.declared.rows.Event.TheVariants.{Deliver}
use Rattle.sc_actor.specs.Definitions.{mails, copies, counts_at, numbered, may_get, has_crashed, is_crash, System, numbers_of, acts, row_of, waiting, kth, is_quiet, delivery, lowest}
use Rattle.sc_live_orderly.specs.OrderlyDefinitions.{mail_with}
use Rattle.sc_live_orderly.proofs.RemainingMail.{after-row, empty_by}
use Rattle.sc_live_orderly.proofs.MailCopies.{foremost, less_at}
use Rattle.sc_live_orderly.specs.Turns.{pending_mail, TakesLowest}

-- tests that agree pass the same mail
pub mail_with-agree : {M : Type 0} (p q : M → Bool) → ((m : M) → p m ≡ q m) → (sent : List M) (counts : List ℕ) → mail_with p sent counts ≡ mail_with q sent counts
mail_with-agree p q agree [] counts = refl
mail_with-agree p q agree (m ∷ sent) [] = refl
mail_with-agree p q agree (m ∷ sent) (c ∷ counts) =
    ap (λ b. cond b (replicate c m) [] ++ mail_with p sent counts) (agree m) ∙ ap (λ xs. cond (q m) (replicate c m) [] ++ xs) (mail_with-agree p q agree sent counts)

-- a row that is no crash leaves who has crashed ..
pub crashed_same : {M O : Type 0} (rows : List (Row M O)) (row : Row M O) → is_crash row.event ≡ false → (who : ℕ) → has_crashed (rows ++ row ∷ []) who ≡ has_crashed rows who
crashed_same {M} {O} rows row kind who =
    list_any-append (λ (r : Row M O). eqb r.who who && is_crash r.event) rows (row ∷ []) ∙ (ap (λ b. has_crashed rows who || ((eqb row.who who && b) || false)) kind ∙ by (eqb row.who who) (has_crashed rows who))
  where
    by : (a b : Bool) → (b || ((a && false) || false)) ≡ b
    by true true = refl
    by true false = refl
    by false true = refl
    by false false = refl

-- .. and who may get mail
pub gets_same : {M O : Type 0} (actors : List ℕ) (rows : List (Row M O)) (row : Row M O) → is_crash row.event ≡ false → (who : ℕ) → may_get actors (rows ++ row ∷ []) who ≡ may_get actors rows who
gets_same actors rows row kind who = ap (λ b. list_any (λ actor. eqb actor who) actors && not b) (crashed_same rows row kind who)

module _ {A M O : Type 0} (s : System A M O) (rows : List (Row M O)) where
  -- whether a mail may be pending
  abbrev may : M → Bool
  may mail = may_get (numbers_of s.births) rows (s.receiver mail)

  module _ (row : Row M O) (number : ℕ) (event : row.event ≡ Deliver number) where
    may_agree : (mail : M) → may_get (numbers_of s.births) (rows ++ row ∷ []) (s.receiver mail) ≡ may mail
    may_agree mail = gets_same (numbers_of s.births) rows row (ap (λ (e : Event O). is_crash e) event) (s.receiver mail)

    filter-agree : (sent : List M) → filter (λ mail. may_get (numbers_of s.births) (rows ++ row ∷ []) (s.receiver mail)) sent ≡ filter may sent
    filter-agree [] = refl
    filter-agree (m ∷ sent) = ap (λ b. cond b (m ∷ filter (λ mail. may_get (numbers_of s.births) (rows ++ row ∷ []) (s.receiver mail)) sent) (filter (λ mail. may_get (numbers_of s.births) (rows ++ row ∷ []) (s.receiver mail)) sent)) (may_agree m)
        ∙ ap (λ xs. cond (may m) (m ∷ xs) xs) (filter-agree sent)

    -- after the delivery: what is left of the mail before it, and what it sends behind
    pending_then : pending_mail s (rows ++ row ∷ []) ≡ mail_with may (mails rows) (counts_at {O = O} (copies rows) (Deliver number)) ++ filter may row.sent
    pending_then =
        after-row s (λ mail. may_get (numbers_of s.births) (rows ++ row ∷ []) (s.receiver mail)) rows row
        ∙ (ap (λ xs. xs ++ filter (λ mail. may_get (numbers_of s.births) (rows ++ row ∷ []) (s.receiver mail)) row.sent) (mail_with-agree (λ mail. may_get (numbers_of s.births) (rows ++ row ∷ []) (s.receiver mail)) may may_agree (mails rows) (counts_at (copies rows) row.event))
        ∙ (ap (λ xs. mail_with may (mails rows) (counts_at (copies rows) row.event) ++ xs) (filter-agree row.sent)
        ∙ ap (λ (e : Event O). mail_with may (mails rows) (counts_at (copies rows) e) ++ filter may row.sent) event))

  one_more : (place : ℕ) → 1 + place ≡ suc place
  one_more place = omega arith

  -- what a delivery of the pending mail with the lowest number does
  pub takes_lowest : (row : Row M O) → lowest s rows ≡ Some row → TakesLowest s rows row
  takes_lowest row e =
      let q = and_then-some (delivery s rows) (kth (waiting s rows None) 1) row e in
      let f = foremost may 1 (mails rows) (copies rows) q.0 q.1 in
      let r = and_then-some (λ m. acts s rows (s.receiver m) (Deliver q.0)) (numbered (mails rows) q.0) row q.2 in
      let at : q.0 ≡ suc f.place = f.number_is ∙ one_more f.place in
      let sent : numbered (mails rows) q.0 ≡ Some f.mail = ap (λ n. numbered (mails rows) n) at ∙ f.at in
      let same : r.0 ≡ f.mail = same_Some r.0 f.mail (sym r.1 ∙ sent) in
      let m = map-some (λ seat. row_of s.table seat rows (Deliver q.0)) (find (λ seat. eqb seat.who (s.receiver r.0)) s.births) row r.2 in
      let event : row.event ≡ Deliver q.0 = sym (ap (λ (x : Row M O). x.event) m.2) in
      let less : counts_at {O = O} (copies rows) (Deliver q.0) ≡ less_at (copies rows) f.place = ap (λ n. counts_at {O = O} (copies rows) (Deliver n)) at in
      record {
        mail = f.mail;
        others = mail_with may (mails rows) (less_at (copies rows) f.place);
        number = q.0;
        sent = sent;
        seat = m.0;
        born = ap (λ x. find (λ seat. eqb seat.who (s.receiver x)) s.births) (sym same) ∙ m.1;
        row_is = sym m.2;
        first = f.left;
        then_ = pending_then row q.0 event ∙ ap (λ counts. mail_with may (mails rows) counts ++ filter may row.sent) less;
      }

-- in a journal with no mail pending the list of pending mail is empty
pub none_pending : {A M O : Type 0} (s : System A M O) (rows : List (Row M O)) → is_quiet s rows ≡ true → pending_mail s rows ≡ []
none_pending s rows quiet = empty_by s (may s rows) 1 (mails rows) (copies rows) quiet

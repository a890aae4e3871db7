-- What a stage keeps beside its journal, as one more row joins it.
use Rattle.std.proofs.Common.{◌≡◌, ℕ, zero, suc, ◌+◌, ◌-◌, ◌<◌, ◌^◌, List, [], ◌∷◌, ◌++◌, length, Bool, true, false, ◌&&◌, ◌||◌, not, cond, eqb, drop, drop-cons, replicate, filter, map, get_or, set, refl, sym, ◌∙◌, ap, subst, arith, add-one, append_assoc, length-append, Option, None, Some}
use Rattle.std.specs.Prelude.{slice_get, IfSome, IsSomeAnd}
use Rattle.std.specs.List.{list_any}
use Rattle.std.proofs.Math.Path.{fun_ext}
use Rattle.std.proofs.lemmas.Bool.{eqb-true, eq-eqb, ne_eqb, eqb-false}
use Rattle.std.proofs.lemmas.List.Folds.{list_any-append}
use Rattle.std.proofs.lemmas.Option.{slice_get_within}
use Rattle.sc_actor.specs.declared.rows.Row.{Row}
use Rattle.sc_actor.specs.declared.rows.Event.{Event}
use Rattle.sc_actor.specs.declared.rows.Event.TheVariants.{Deliver, Tick, Go, Told, Crash, Drop, Again}
use Rattle.sc_actor.specs.Mail.{mails, copies, numbered, has_crashed, is_crash, is_for, may_get, pending, counts_at}
use Rattle.sc_actor.specs.System.{kth, has_started, is_go, numbers_of}
use Rattle.sc_actor.proofs.CountLemmas.{counted, length-counts_at}
use Rattle.sc_actor.proofs.PendingLemmas.{pending_sound}
use Rattle.sc_actor.proofs.ReplayLemmas.{mails-snoc, copies-snoc}
use Rattle.sc_world_replay.specs.declared.stages.OpenCopy.{OpenCopy}
use Rattle.sc_world_replay.specs.declared.stages.Stage.{Stage}
use Rattle.sc_world_replay.specs.Stages.{IsUpToDate}
use Rattle.sc_world_replay.specs.Opens.{copy_of, opens, opens_of, opened, reopened, runs, without, with_copy}
use Rattle.sc_world_replay.proofs.Steps.{or_false}
use Rattle.sc_world_replay.proofs.Opens.{opens-agree, opens-append, opens-crash, opens-for, opens-less, opens-more, opens-numbers, without-fresh}

module _ {M O : Type 0} (receiver : M → ℕ) (actors : List ℕ) (rows : List (Row M O)) where
  -- the copies are the pending mail of all
  pub pending-all : map (λ copy. copy.number) (opens_of receiver actors rows) ≡ pending receiver actors rows None
  pending-all = opens-numbers receiver (may_get actors rows) 1 (mails rows) (copies rows)

  -- those for one receiver are its pending mail
  pub pending-for : (who : ℕ) → map (λ copy. copy.number) (filter (λ copy. eqb copy.to who) (opens_of receiver actors rows)) ≡ pending receiver actors rows (Some who)
  pending-for who = opens-for receiver (may_get actors rows) who 1 (mails rows) (copies rows)

  -- what is pending is mail that was sent
  pub known : (whose : Option ℕ) (k number : ℕ) → kth (pending receiver actors rows whose) k ≡ Some number → IsSomeAnd (numbered (mails rows) number) (λ mail. is_for receiver actors rows whose mail ≡ true)
  known whose zero number e = cc
  known whose (suc k) number e =
      let p = pending_sound (is_for receiver actors rows whose) 1 (mails rows) (copies rows) k number e in
      let place : number ≡ suc p.place = omega (arith, p.number_is) in
      rw (place, p.at) p.passes

  -- the same of what was found, in a copy of the mail
  pub known-some : (whose : Option ℕ) (k : ℕ) (found : Option ℕ) (sent : List M) → sent ≡ mails rows → found ≡ kth (pending receiver actors rows whose) k → IfSome found (λ number. IsSomeAnd (numbered sent number) (λ mail. is_for receiver actors rows whose mail ≡ true))
  known-some whose k None sent same is = tt
  known-some whose k (Some number) sent same is = subst (λ ms. IsSomeAnd (numbered ms number) (λ mail. is_for receiver actors rows whose mail ≡ true)) (sym same) (known whose k number (sym is))

-- whoever runs by what is kept may get mail
pub runs-may : {M O : Type 0} (actors : List ℕ) (rows : List (Row M O)) (crashed : List ℕ) → ((who : ℕ) → list_any (λ number. eqb number who) crashed ≡ has_crashed rows who) → runs actors crashed ≡ may_get actors rows
runs-may actors rows crashed is = fun_ext (λ who. ap (λ b. list_any (λ actor. eqb actor who) actors && not b) (is who))

module _ {M O : Type 0} (rows : List (Row M O)) (row : Row M O) where
  -- who has crashed after one more row
  pub crashed-snoc : (who : ℕ) → has_crashed (rows ++ row ∷ []) who ≡ (has_crashed rows who || (eqb row.who who && is_crash row.event))
  crashed-snoc who =
      list_any-append (λ (r : Row M O). eqb r.who who && is_crash r.event) rows (row ∷ [])
      ∙ ap (λ b. has_crashed rows who || b) (or_false (eqb row.who who && is_crash row.event))

  -- who has gone after one more row
  pub started-snoc : (who : ℕ) → has_started (rows ++ row ∷ []) who ≡ (has_started rows who || (eqb row.who who && is_go row.event))
  started-snoc who =
      list_any-append (λ (r : Row M O). eqb r.who who && is_go r.event) rows (row ∷ [])
      ∙ ap (λ b. has_started rows who || b) (or_false (eqb row.who who && is_go row.event))

not_or : (a b c : Bool) → (a && not (b || c)) ≡ ((a && not b) && not c)
not_or false b c = refl
not_or true true c = refl
not_or true false c = refl

and_quiet : (a b : Bool) → (a && not (b && false)) ≡ a
and_quiet true true = refl
and_quiet true false = refl
and_quiet false b = refl

and_loud : (a b : Bool) → (a && not (b && true)) ≡ (a && not b)
and_loud true true = refl
and_loud true false = refl
and_loud false b = refl

eqb_flip : (a b : ℕ) → eqb a b ≡ eqb b a
eqb_flip a b = by (eqb b a) refl
  where
    by : (t : Bool) → eqb b a ≡ t → eqb a b ≡ eqb b a
    by true t = rw t (eq-eqb a b (sym (eqb-true b a t)))
    by false t = rw t (ne_eqb a b (λ e. eqb-false b a t (sym e)))

set-past : {M : Type 0} (ms : List M) (cs : List ℕ) (place v : ℕ) → length cs ≡ length ms → slice_get ms place ≡ None → set cs place v ≡ cs
set-past [] [] place v e none = refl
set-past [] (c ∷ cs) place v e none = absurd (omega arith)
set-past (m ∷ ms) [] place v e none = refl
set-past (m ∷ ms) (c ∷ cs) zero v e none = cc
set-past (m ∷ ms) (c ∷ cs) (suc place) v e none = ap (λ zs. c ∷ zs) (set-past ms cs place v (omega (arith, e)) none)

module _ {M : Type 0} (receiver : M → ℕ) (test other : ℕ → Bool) (who : ℕ) (ms : List M) (cs : List ℕ) (many : length cs ≡ length ms) where
  again_at : (place : ℕ) → ((w : ℕ) → other w ≡ test w) → (o : Option M) → slice_get ms place ≡ o →
      opens receiver other 1 ms (set cs place (get_or cs place 0 + 1)) ≡ reopened receiver test (opens receiver test 1 ms cs) (suc place) o
  again_at place agree None is = opens-agree receiver test other agree 1 ms (set cs place (get_or cs place 0 + 1)) ∙ ap (opens receiver test 1 ms) (set-past ms cs place (get_or cs place 0 + 1) many is)
  again_at place agree (Some mail) is =
      let within = slice_get_within ms place mail is in
      let plus : 1 + place ≡ suc place = omega arith in
      opens-agree receiver test other agree 1 ms (set cs place (get_or cs place 0 + 1))
      ∙ opens-more receiver test 1 place ms cs mail (omega (arith, within, many)) is
      ∙ ap (λ n. cond (test (receiver mail)) (with_copy (opens receiver test 1 ms cs) (copy_of n (receiver mail))) (opens receiver test 1 ms cs)) plus

  less_at : (place : ℕ) → ((w : ℕ) → other w ≡ test w) → opens receiver other 1 ms (set cs place (get_or cs place 0 - 1)) ≡ without (opens receiver test 1 ms cs) (suc place)
  less_at place agree =
      let plus : 1 + place ≡ suc place = omega arith in
      opens-agree receiver test other agree 1 ms (set cs place (get_or cs place 0 - 1)) ∙ opens-less receiver test 1 place ms cs ∙ ap (without (opens receiver test 1 ms cs)) plus

  fresh_at : ((w : ℕ) → other w ≡ test w) → opens receiver other 1 ms cs ≡ without (opens receiver test 1 ms cs) 0
  fresh_at agree = opens-agree receiver test other agree 1 ms cs ∙ sym (without-fresh receiver test 1 0 ms cs (omega arith))

  -- the copies of the mail so far, after an event
  pub opened-at : {O : Type 0} (event : Event O) → ((w : ℕ) → other w ≡ (test w && not (eqb who w && is_crash event))) → opens receiver other 1 ms (counts_at cs event) ≡ opened receiver test ms (opens receiver test 1 ms cs) who event
  opened-at (Deliver zero) agree = fresh_at (λ w. agree w ∙ and_quiet (test w) (eqb who w))
  opened-at (Deliver (suc place)) agree = less_at place (λ w. agree w ∙ and_quiet (test w) (eqb who w))
  opened-at (Drop zero) agree = fresh_at (λ w. agree w ∙ and_quiet (test w) (eqb who w))
  opened-at (Drop (suc place)) agree = less_at place (λ w. agree w ∙ and_quiet (test w) (eqb who w))
  opened-at (Again zero) agree = opens-agree receiver test other (λ w. agree w ∙ and_quiet (test w) (eqb who w)) 1 ms cs
  opened-at (Again (suc place)) agree = again_at place (λ w. agree w ∙ and_quiet (test w) (eqb who w)) (slice_get ms place) refl
  opened-at Tick agree = opens-agree receiver test other (λ w. agree w ∙ and_quiet (test w) (eqb who w)) 1 ms cs
  opened-at Go agree = opens-agree receiver test other (λ w. agree w ∙ and_quiet (test w) (eqb who w)) 1 ms cs
  opened-at (Told order) agree = opens-agree receiver test other (λ w. agree w ∙ and_quiet (test w) (eqb who w)) 1 ms cs
  opened-at Crash agree = opens-crash receiver test other who (λ w. agree w ∙ and_loud (test w) (eqb who w) ∙ ap (λ b. test w && not b) (eqb_flip who w)) 1 ms cs

module _ {M O : Type 0} (receiver : M → ℕ) (actors : List ℕ) (rows : List (Row M O)) (row : Row M O) where
  may-snoc : (who : ℕ) → may_get actors (rows ++ row ∷ []) who ≡ (may_get actors rows who && not (eqb row.who who && is_crash row.event))
  may-snoc who =
      ap (λ b. list_any (λ actor. eqb actor who) actors && not b) (crashed-snoc rows row who)
      ∙ not_or (list_any (λ actor. eqb actor who) actors) (has_crashed rows who) (eqb row.who who && is_crash row.event)

  -- the pending copies after one more row: those that its event leaves, and its mail
  pub opens-snoc : (first : ℕ) → first ≡ length (mails rows) + 1 →
      opens_of receiver actors (rows ++ row ∷ []) ≡ opened receiver (may_get actors rows) (mails rows) (opens_of receiver actors rows) row.who row.event ++ opens receiver (may_get actors (rows ++ row ∷ [])) first row.sent (replicate (length row.sent) 1)
  opens-snoc first is =
      let now = may_get actors (rows ++ row ∷ []) in
      let plus : 1 + length (mails rows) ≡ first = omega (arith, is) in
      ap (λ ms. opens receiver now 1 ms (copies (rows ++ row ∷ []))) (mails-snoc rows row)
      ∙ ap (opens receiver now 1 (mails rows ++ row.sent)) (copies-snoc rows row)
      ∙ opens-append receiver now 1 (mails rows) row.sent (counts_at (copies rows) row.event) (replicate (length row.sent) 1) (length-counts_at (copies rows) row.event ∙ counted rows)
      ∙ ap (λ n. opens receiver now 1 (mails rows) (counts_at (copies rows) row.event) ++ opens receiver now n row.sent (replicate (length row.sent) 1)) plus
      ∙ ap (λ xs. xs ++ opens receiver now first row.sent (replicate (length row.sent) 1)) (opened-at receiver (may_get actors rows) now row.who (mails rows) (copies rows) (counted rows) row.event may-snoc)

-- a copy of one more mail of those that are sent
pub open_next : {M : Type 0} (receiver : M → ℕ) (test : ℕ → Bool) (found xs all : List OpenCopy) (first i : ℕ) (sent : List M) (mail : M) → i < length sent → mail ≡ get_or sent i mail → xs ≡ found ++ cond (test (receiver mail)) (copy_of (first + i) (receiver mail) ∷ []) [] →
    found ++ opens receiver test (first + i) (drop i sent) (replicate (length sent - i) 1) ≡ all → xs ++ opens receiver test (first + (i + 1)) (drop (i + 1) sent) (replicate (length sent - (i + 1)) 1) ≡ all
open_next receiver test found xs all first i sent mail lt is next e =
    let here = cond (test (receiver mail)) (copy_of (first + i) (receiver mail) ∷ []) [] in
    let rest = opens receiver test (first + (i + 1)) (drop (i + 1) sent) (replicate (length sent - (i + 1)) 1) in
    let one : length sent - i ≡ suc (length sent - (i + 1)) = omega arith in
    let step : suc (first + i) ≡ first + (i + 1) = omega arith in
    let head : drop i sent ≡ mail ∷ drop (i + 1) sent = drop-cons sent i mail lt ∙ ap (λ x. x ∷ drop (suc i) sent) (sym is) ∙ ap (λ n. mail ∷ drop n sent) (sym (add-one i)) in
    let unfolded : opens receiver test (first + i) (drop i sent) (replicate (length sent - i) 1) ≡ here ++ rest =
    ap (λ ms. opens receiver test (first + i) ms (replicate (length sent - i) 1)) head
    ∙ ap (λ n. opens receiver test (first + i) (mail ∷ drop (i + 1) sent) (replicate n 1)) one
    ∙ ap (λ k. here ++ opens receiver test k (drop (i + 1) sent) (replicate (length sent - (i + 1)) 1)) step in
    ap (λ zs. zs ++ rest) next ∙ append_assoc found here rest ∙ sym (ap (λ zs. found ++ zs) unfolded) ∙ e

module _ {A M O : Type 0} (receiver : M → ℕ) (old new : Stage A M O) (row : Row M O) where
  -- what a stage keeps stays up to date as a row joins
  pub kept-next : IsUpToDate receiver old → new.rows ≡ old.rows ++ row ∷ [] → new.seats.items ≡ old.seats.items → new.mails.items ≡ old.mails.items ++ row.sent →
      ((n : ℕ) → list_any (λ number. eqb number n) new.started.items ≡ (list_any (λ number. eqb number n) old.started.items || (eqb row.who n && is_go row.event))) →
      ((n : ℕ) → list_any (λ number. eqb number n) new.crashed.items ≡ (list_any (λ number. eqb number n) old.crashed.items || (eqb row.who n && is_crash row.event))) →
      (first : ℕ) → first ≡ length (mails old.rows) + 1 →
      (middle : List OpenCopy) → middle ≡ opened receiver (runs (numbers_of old.seats.items) old.crashed.items) old.mails.items old.pending.items row.who row.event →
      new.pending.items ≡ middle ++ opens receiver (runs (numbers_of old.seats.items) new.crashed.items) first row.sent (replicate (length row.sent) 1) →
      length old.rows + 1 < 2 ^ 31 → length (mails old.rows) + length row.sent < 2 ^ 31 → IsUpToDate receiver new
  kept-next kept rows seats sent started crashed first first_is middle middle_is pending_is few_rows few_mails =
      let actors = numbers_of old.seats.items in
      let ones : List ℕ = replicate (length row.sent) 1 in
      let now = old.rows ++ row ∷ [] in
      let crashed_now : (who : ℕ) → list_any (λ number. eqb number who) new.crashed.items ≡ has_crashed now who = λ who. crashed who ∙ ap (λ b. b || (eqb row.who who && is_crash row.event)) (kept.all_crashed who) ∙ sym (crashed-snoc old.rows row who) in
      let before : runs actors old.crashed.items ≡ may_get actors old.rows = runs-may actors old.rows old.crashed.items kept.all_crashed in
      let after : runs actors new.crashed.items ≡ may_get actors now = runs-may actors now new.crashed.items crashed_now in
      record {
        all_mails = sent ∙ ap (λ ms. ms ++ row.sent) kept.all_mails ∙ sym (mails-snoc old.rows row) ∙ ap mails (sym rows);
        all_pending =
            pending_is
            ∙ ap (λ xs. xs ++ opens receiver (runs actors new.crashed.items) first row.sent ones) middle_is
            ∙ ap (λ t. opened receiver t old.mails.items old.pending.items row.who row.event ++ opens receiver (runs actors new.crashed.items) first row.sent ones) before
            ∙ ap (λ ms. opened receiver (may_get actors old.rows) ms old.pending.items row.who row.event ++ opens receiver (runs actors new.crashed.items) first row.sent ones) kept.all_mails
            ∙ ap (λ xs. opened receiver (may_get actors old.rows) (mails old.rows) xs row.who row.event ++ opens receiver (runs actors new.crashed.items) first row.sent ones) kept.all_pending
            ∙ ap (λ t. opened receiver (may_get actors old.rows) (mails old.rows) (opens_of receiver actors old.rows) row.who row.event ++ opens receiver t first row.sent ones) after
            ∙ sym (opens-snoc receiver actors old.rows row first first_is)
            ∙ ap (opens_of receiver actors) (sym rows)
            ∙ ap (λ all. opens_of receiver (numbers_of all) new.rows) (sym seats);
        all_started = λ who. started who ∙ ap (λ b. b || (eqb row.who who && is_go row.event)) (kept.all_started who) ∙ sym (started-snoc old.rows row who) ∙ ap (λ xs. has_started xs who) (sym rows);
        all_crashed = λ who. crashed_now who ∙ ap (λ xs. has_crashed xs who) (sym rows);
        few_rows = let many : length new.rows ≡ length old.rows + 1 = ap length rows ∙ length-append old.rows (row ∷ []) in omega (arith, many, few_rows);
        few_mails = let many : length (mails new.rows) ≡ length (mails old.rows) + length row.sent = ap (λ xs. length (mails xs)) rows ∙ ap length (mails-snoc old.rows row) ∙ length-append (mails old.rows) row.sent in omega (arith, many, few_mails);
      }

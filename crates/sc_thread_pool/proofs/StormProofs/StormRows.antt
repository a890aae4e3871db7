-- A step of a storm makes the row of its deed.
use Rattle.std.proofs.Common.{◌≡◌, ℕ, zero, suc, ◌+◌, ◌-◌, ◌%◌, ◌<◌, ◌≤◌, eqb, List, length, map, Bool, true, false, cond, ◌&&◌, not, get_or, refl, sym, ap, ◌∙◌, subst, arith, All, Option, None, Some}
use Rattle.std.specs.Prelude.{slice_get, option_and_then}
use Rattle.std.specs.Option.{option_map}
use Rattle.std.proofs.lemmas.Bool.{and_parts, eqb-true}
use Rattle.std.proofs.lemmas.List.{length-map}
use Rattle.std.proofs.lemmas.List.Elements.{All-filter}
use Rattle.std.proofs.lemmas.Option.{slice_get-map, slice_get_past}
use Rattle.sc_actor.specs.declared.rows.Row.{Row}
use Rattle.sc_actor.specs.declared.rows.Event.TheVariants.{Deliver, Drop, Tick}
use Rattle.sc_actor.specs.Mail.{mails, copies, numbers, numbered, has_crashed}
use Rattle.sc_actor.specs.System.{System, waiting, numbers_of, network, kth, acts}
use Rattle.sc_actor.specs.Walk.{storm_row, picked, delivery, repeat_of}
use Rattle.sc_actor.specs.Steps.{IsUnderWay}
use Rattle.sc_actor.proofs.PendingLemmas.{waiting_at}
use Rattle.sc_thread_ledger.specs.declared.spots.Spot.{Spot}
use Rattle.sc_thread_ledger.specs.declared.spots.Look.{Look}
use Rattle.sc_thread_ledger.specs.Pending.{upto, pending_of, kth_pending}
use Rattle.sc_thread_ports.specs.exchange.Answers.{IsLook}
use Rattle.sc_thread_ledger.specs.Spots.{is_one_of, copies_for, picked_spot}
use Rattle.sc_thread_pool.specs.storm.Deeds.{copy_lost, copy_delivered, clock_ticked, mail_repeated, deed_by}
use Rattle.sc_thread_pool.specs.storm.Laws.{deed_row, AreWithin}
use Rattle.sc_thread_pool.proofs.StormProofs.Copies.{all_at, addressees, within, upto_has, receivers, receiver_is, waiting_is}

none_at : {M : Type 0} (sent : List M) (k : ℕ) → length sent ≡ 0 → numbered sent k ≡ None
none_at sent zero e = refl
none_at sent (suc k) e = slice_get_past sent k (omega (arith, e))

-- the place of a number that was sent
sent_at : {M : Type 0} (sent : List M) (number : ℕ) (m : M) → numbered sent number ≡ Some m → slice_get sent (number - 1) ≡ Some m
sent_at sent zero m e = cc
sent_at sent (suc place) m e = ap (slice_get sent) (before place) ∙ e
  where
    before : (place : ℕ) → suc place - 1 ≡ place
    before place = omega arith

module _ {A M O : Type 0} (s : System A M O) (n : ℕ) (rows : List (Row M O)) (look : Look) (inside : AreWithin n s.births) (is : IsLook s.receiver n rows look) where
  abbrev actors : List ℕ
  actors = numbers_of s.births

  abbrev mine : List Spot
  mine = copies_for actors look.pending

  waits : waiting s rows None ≡ map (λ (x : Spot). x.number) mine
  waits = waiting_is s n rows inside look.pending is.spots

  -- a word picks the same to the walk as among the copies
  same_pick : (v : ℕ) → picked s rows v ≡ option_map (λ (x : Spot). x.number) (picked_spot mine v)
  same_pick v =
      let num : Spot → ℕ = λ x. x.number in
      ap (λ l. slice_get l (v % length l)) waits ∙ (ap (λ k. slice_get (map num mine) (v % k)) (length-map mine num) ∙ slice_get-map num mine (v % length mine))

  -- the copy that was picked waits for its receiver at its place
  module _ (v : ℕ) (spot : Spot) (found : picked_spot mine v ≡ Some spot) where
    stands : slice_get (waiting s rows None) (v % length (waiting s rows None)) ≡ Some spot.number
    stands = same_pick v ∙ ap (option_map (λ (x : Spot). x.number)) found

    way : (mail : M) × IsUnderWay s rows spot.number mail
    way = waiting_at s rows (v % length (waiting s rows None)) spot.number stands

    goes_to : spot.who ≡ s.receiver way.0
    goes_to =
        let all : All (λ (x : Spot). x.who ≡ get_or (receivers s n rows inside) (x.number - 1) 0) look.pending =
        subst (All (λ (x : Spot). x.who ≡ get_or (receivers s n rows inside) (x.number - 1) 0)) (sym is.spots) (addressees actors (receivers s n rows inside) (pending_of s.receiver n rows 0)) in
        all_at (λ (x : Spot). x.who ≡ get_or (receivers s n rows inside) (x.number - 1) 0) mine (v % length mine) spot (All-filter (λ (x : Spot). is_one_of actors x.who) (λ (x : Spot). x.who ≡ get_or (receivers s n rows inside) (x.number - 1) 0) look.pending all) found
        ∙ receiver_is s n rows inside (spot.number - 1) way.0 (sent_at (mails rows) spot.number way.0 way.1.sent)

    among : is_one_of actors spot.who ≡ true
    among = ap (is_one_of actors) goes_to ∙ (and_parts (is_one_of actors (s.receiver way.0)) (not (has_crashed rows (s.receiver way.0))) way.1.may).0

    its_kth : kth_pending s.receiver n rows spot.who spot.k ≡ Some spot.number
    its_kth = all_at (λ (x : Spot). kth_pending s.receiver n rows x.who x.k ≡ Some x.number) mine (v % length mine) spot (All-filter (λ (x : Spot). is_one_of actors x.who) (λ (x : Spot). kth_pending s.receiver n rows x.who x.k ≡ Some x.number) look.pending is.each) found

    own_kth : kth (waiting s rows (Some spot.who)) spot.k ≡ Some spot.number
    own_kth = by spot.who refl its_kth
      where
        bounds : (0 < spot.who) × (spot.who ≤ n)
        bounds = within n s.births spot.who inside among

        by : (who : ℕ) → spot.who ≡ who → kth_pending s.receiver n rows who spot.k ≡ Some spot.number → kth (waiting s rows (Some spot.who)) spot.k ≡ Some spot.number
        by zero e k = absurd (let some = bounds.0 in omega (arith, e, some))
        by (suc w) e k =
            let wide : is_one_of (upto n) (suc w) ≡ true = upto_has n (suc w) (omega arith) (subst (λ v. v ≤ n) e bounds.1) in
            let own : is_one_of actors (suc w) ≡ true = ap (is_one_of actors) (sym e) ∙ among in
            ap (λ who. kth (waiting s rows (Some who)) spot.k) e
            ∙ ((λ i. kth (numbers (λ m. eqb (s.receiver m) (suc w) && ((own ∙ sym wide) i && not (has_crashed rows (suc w)))) 1 (mails rows) (copies rows)) spot.k) ∙ k)

    -- the row of its delivery
    delivers : delivery s rows spot.number ≡ deed_row s rows (copy_delivered (Some spot))
    delivers =
        ap (option_and_then (λ m. acts s rows (s.receiver m) (Deliver spot.number))) way.1.sent
        ∙ (ap (λ who. acts s rows who (Deliver spot.number)) (sym goes_to) ∙ sym (ap (option_and_then (λ mail. acts s rows spot.who (Deliver mail))) own_kth))

  drops_by : (v : ℕ) (o : Option Spot) → picked_spot mine v ≡ o → option_map (λ mail. network {M = M} {O = O} (Drop mail)) (option_map (λ (x : Spot). x.number) o) ≡ deed_row s rows (copy_lost o)
  drops_by v None e = refl
  drops_by v (Some spot) e = sym (ap (option_map (λ mail. network (Drop mail))) (own_kth v spot e))

  delivers_by : (v : ℕ) (o : Option Spot) → picked_spot mine v ≡ o → option_and_then (delivery s rows) (option_map (λ (x : Spot). x.number) o) ≡ deed_row s rows (copy_delivered o)
  delivers_by v None e = refl
  delivers_by v (Some spot) e = delivers v spot e

  ticks_by : (o : Option ℕ) → option_and_then (λ who. cond (has_crashed rows who) None (acts s rows who Tick)) o ≡ deed_row s rows (clock_ticked o)
  ticks_by None = refl
  ticks_by (Some who) = refl

  repeats : (v : ℕ) → repeat_of s rows (1 + v % length (mails rows)) ≡ deed_row s rows (mail_repeated look.sent v)
  repeats v = by (eqb look.sent 0) refl
    where
      by : (b : Bool) → eqb look.sent 0 ≡ b → repeat_of s rows (1 + v % length (mails rows)) ≡ deed_row s rows (mail_repeated look.sent v)
      by true e =
          let empty : length (mails rows) ≡ 0 = sym is.sent ∙ eqb-true look.sent 0 e in
          rw e (ap (option_and_then _) (none_at (mails rows) (1 + v % length (mails rows)) empty))
      by false e = rw e (ap (λ k. repeat_of s rows (1 + v % k)) (sym is.sent))

  by_kind : (kind v : ℕ) → storm_row s rows kind v ≡ deed_row s rows (deed_by actors look kind v)
  by_kind zero v = ap (option_map (λ mail. network (Drop mail))) (same_pick v) ∙ drops_by v (picked_spot mine v) refl
  by_kind (suc zero) v = repeats v
  by_kind (suc (suc zero)) v = ticks_by (slice_get actors (v % length actors))
  by_kind (suc (suc (suc more))) v = ap (option_and_then (delivery s rows)) (same_pick v) ∙ delivers_by v (picked_spot mine v) refl

  -- a step of a storm makes the row of its deed
  pub makes_its_row : (words : ℕ × ℕ) → storm_row s rows (words.0 % 16) words.1 ≡ deed_row s rows (deed_by actors look (words.0 % 16) words.1)
  makes_its_row words = by_kind (words.0 % 16) words.1

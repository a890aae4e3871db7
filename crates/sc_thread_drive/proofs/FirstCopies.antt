-- The first copy that an actor of the system gets, among all that are pending to the exchange.
use Rattle.std.proofs.Common.{◌≡◌, ℕ, zero, suc, ◌+◌, ◌-◌, ◌<◌, ◌≤◌, Bool, true, false, true≢false, eqb, eq-eqb, cond, not, ◌||◌, ◌&&◌, replicate, find, fold, List, [], ◌∷◌, ◌++◌, length, map, take, get_or, refl, sym, ap, ◌∙◌, subst, arith, length-append, Option, Some, None}
use Rattle.std.specs.Prelude.{slice_get, slice_index, is_none}
use Rattle.std.specs.List.{list_any}
use Rattle.std.proofs.lemmas.Bool.{and_parts}
use Rattle.std.proofs.lemmas.List.{take_more, get_or_default}
use Rattle.sc_thread_ports.specs.turn.Turn.{StartsWith}
use Rattle.sc_actor.specs.declared.actors.Actor.{Ghosts}
use Rattle.sc_actor.specs.declared.actors.Parcel.{Ghosts as MailGhosts}
use Rattle.sc_actor.specs.declared.actors.Seat.{Seat}
use Rattle.sc_actor.specs.declared.rows.Row.{Row}
use Rattle.sc_actor.specs.Mail.{mails, copies, numbers, numbered, is_for, may_get, has_crashed}
use Rattle.sc_actor.specs.System.{numbers_of, waiting, kth}
use Rattle.sc_actor.specs.Walk.{is_quiet}
use Rattle.sc_actor.proofs.PendingLemmas.{waiting_any}
use Rattle.sc_thread_ledger.specs.declared.spots.Spot.{Spot}
use Rattle.sc_thread_ledger.specs.Pending.{upto, pending_of}
use Rattle.sc_thread_ledger.specs.Spots.{spot_after, spots_of}
use Rattle.sc_thread_ports.specs.declared.exchange.ports.Port.{Port}
use Rattle.sc_thread_ports.specs.exchange.Ports.{seen, Looked}
use Rattle.sc_thread_work.specs.declared.shell.shells.Shell.{Shell}
use Rattle.sc_thread_workers.specs.Crews.{AllStill, crew_numbers}
use Rattle.sc_thread_workers.proofs.Crews.{still_rows}
use Rattle.sc_thread_drive.specs.Numbers.{is_in, apart}
use Rattle.sc_thread_drive.specs.Companies.{IsCompany}
use Rattle.sc_thread_drive.specs.Goings.{IsTogether}
use Rattle.sc_thread_drive.specs.Stepping.{IsPlace}
use Rattle.sc_thread_drive.specs.Lowest.{FindsLowest, IsFirstPlaced}
use Rattle.sc_thread_drive.proofs.SystemWords.{sys}
use Rattle.sc_thread_drive.proofs.LowestMail.{wider}
use Rattle.sc_thread_drive.proofs.OneActed.{count_seen, count_company}
use Rattle.sc_thread_drive.proofs.RowCounts.{flip, whole_prefix}
use Rattle.sc_thread_drive.proofs.SeatsAtStart.{cut_at}

-- the first of the prefix and then of the rest
module _ {X : Type 0} (test : X → Bool) where
  find_later : (xs ys : List X) → find test xs ≡ None → find test (xs ++ ys) ≡ find test ys
  find_later [] ys none = refl
  find_later (x ∷ xs) ys none = by (test x) none (find_later xs ys)
    where
      by : (b : Bool) → cond b (Some x) (find test xs) ≡ None → (find test xs ≡ None → find test (xs ++ ys) ≡ find test ys) → cond b (Some x) (find test (xs ++ ys)) ≡ find test ys
      by true e later = cc
      by false e later = later e

  find_prefix : (xs ys : List X) (x : X) → find test xs ≡ Some x → find test (xs ++ ys) ≡ Some x
  find_prefix [] ys x e = cc
  find_prefix (y ∷ xs) ys x e = by (test y) e (find_prefix xs ys x)
    where
      by : (b : Bool) → cond b (Some y) (find test xs) ≡ Some x → (find test xs ≡ Some x → find test (xs ++ ys) ≡ Some x) → cond b (Some y) (find test (xs ++ ys)) ≡ Some x
      by true e later = e
      by false e later = later e

  pub find_push : (xs : List X) (x : X) → find test xs ≡ None → test x ≡ false → find test (xs ++ x ∷ []) ≡ None
  find_push xs x none out = find_later xs (x ∷ []) none ∙ ap (λ b. cond b (Some x) None) out

  pub find_here : (xs ys : List X) (x : X) → find test xs ≡ None → test x ≡ true → find test (xs ++ x ∷ ys) ≡ Some x
  find_here xs ys x none out = find_later xs (x ∷ ys) none ∙ ap (λ b. cond b (Some x) (find test ys)) out

-- the first spot of those of some numbers is the spot of the first number
module _ (receivers : List ℕ) (has : ℕ → Bool) where
  abbrev to : ℕ → ℕ
  to number = slice_index receivers (number - 1)

  abbrev step : List Spot → ℕ → List Spot
  step before number = before ++ spot_after receivers before number ∷ []

  abbrev gets : Spot → Bool
  gets spot = has spot.who

  -- a spot, or none, and the number that is found
  abbrev Matches : Option Spot → Option ℕ → Type 0
  Matches None number = number ≡ None
  Matches (Some spot) number = (number ≡ Some spot.number) × (spot.who ≡ to spot.number)

  stays_found : (ns : List ℕ) (spots : List Spot) (spot : Spot) → find gets spots ≡ Some spot → find gets (fold step spots ns) ≡ Some spot
  stays_found [] spots spot e = e
  stays_found (n ∷ ns) spots spot e = stays_found ns (step spots n) spot (find_prefix gets spots (spot_after receivers spots n ∷ []) spot e)

  spots_found : (ns : List ℕ) (spots : List Spot) → find gets spots ≡ None → Matches (find gets (fold step spots ns)) (find (λ n. has (to n)) ns)
  spots_found [] spots none = subst (λ o. Matches o None) (sym none) refl
  spots_found (n ∷ ns) spots none = by (has (to n)) refl (spots_found ns (step spots n))
    where
      by : (b : Bool) → has (to n) ≡ b → (find gets (step spots n) ≡ None → Matches (find gets (fold step (step spots n) ns)) (find (λ m. has (to m)) ns)) →
          Matches (find gets (fold step (step spots n) ns)) (cond b (Some n) (find (λ m. has (to m)) ns))
      by true is later =
          let here : find gets (step spots n) ≡ Some (spot_after receivers spots n) = find_here gets spots [] (spot_after receivers spots n) none is in
          subst (λ o. Matches o (Some n)) (sym (stays_found ns (step spots n) (spot_after receivers spots n) here)) (refl, refl)
      by false is later = later (find_push gets spots (spot_after receivers spots n) none is)

-- the first number of a narrower test is the first that passes it of those of a wider one
module _ {M : Type 0} (p q : M → Bool) (narrower : (m : M) → q m ≡ true → p m ≡ true) (test : ℕ → Bool) where
  skip_all : (c n : ℕ) (xs : List ℕ) → test n ≡ false → find test (replicate c n ++ xs) ≡ find test xs
  skip_all zero n xs out = refl
  skip_all (suc c) n xs out = ap (λ b. cond b (Some n) (find test (replicate c n ++ xs))) out ∙ skip_all c n xs out

  first_passing : (first : ℕ) (sent : List M) (counts : List ℕ) → ((place : ℕ) (x : M) → slice_get sent place ≡ Some x → p x ≡ true → test (first + place) ≡ q x) →
      slice_get (numbers q first sent counts) 0 ≡ find test (numbers p first sent counts)
  first_passing first [] counts agree = refl
  first_passing first (m ∷ sent) [] agree = refl
  first_passing first (m ∷ sent) (c ∷ counts) agree =
      by c (p m) (q m) refl refl (first_passing (suc first) sent counts (λ place x e t. ap test (let same : suc first + place ≡ first + suc place = omega arith in same) ∙ agree (suc place) x e t))
    where
      now : test (first + 0) ≡ test first
      now = ap test (let same : first + 0 ≡ first = omega arith in same)

      by : (c : ℕ) (a b : Bool) → p m ≡ a → q m ≡ b → slice_get (numbers q (suc first) sent counts) 0 ≡ find test (numbers p (suc first) sent counts) →
          slice_get (cond b (replicate c first) [] ++ numbers q (suc first) sent counts) 0 ≡ find test (cond a (replicate c first) [] ++ numbers p (suc first) sent counts)
      by c false false pa qb later = later
      by c false true pa qb later = absurd (true≢false (sym (narrower m qb) ∙ pa))
      by zero true true pa qb later = later
      by zero true false pa qb later = later
      by (suc c) true true pa qb later = sym (ap (λ b. cond b (Some first) (find test (replicate c first ++ numbers p (suc first) sent counts))) (sym now ∙ (agree 0 m refl pa ∙ qb)))
      by (suc c) true false pa qb later = later ∙ sym (skip_all (suc c) first (numbers p (suc first) sent counts) (sym now ∙ (agree 0 m refl pa ∙ qb)))

any_flip : (n : ℕ) (ws : List ℕ) → list_any (λ a. eqb a n) ws ≡ is_in n ws
any_flip n [] = refl
any_flip n (w ∷ ws) = λ i. flip w n i || any_flip n ws i

index_is : {M : Type 0} (f : M → ℕ) (ms : List M) (place : ℕ) (m : M) → slice_get ms place ≡ Some m → slice_index (map f ms) place ≡ f m
index_is f [] place m e = cc
index_is f (x ∷ ms) zero m e = (let same : x ≡ m = cc in ap f same)
index_is f (x ∷ ms) (suc place) m e = index_is f ms place m e

module _ {A M O : Type 0} {g : Ghosts A M O} {h : MailGhosts M} where
  -- the shell at a place has its number
  pub placed_in : (ss : List (Shell A M O g h)) (who place : ℕ) → IsPlace ss who place → is_in who (crew_numbers ss) ≡ true
  placed_in ss who place at = by ss place at.inside at.number
    where
      or_right : (a b : Bool) → b ≡ true → (a || b) ≡ true
      or_right true b e = refl
      or_right false b e = e

      by : (ts : List (Shell A M O g h)) (k : ℕ) → k < length ts → ((d : Shell A M O g h) → (get_or ts k d).port.who ≡ who) → is_in who (crew_numbers ts) ≡ true
      by [] k lt is = absurd (omega (arith, lt))
      by (t ∷ ts) zero lt is = ap (λ b. b || is_in who (crew_numbers ts)) (eq-eqb who t.port.who (sym (is t)))
      by (t ∷ ts) (suc k) lt is = or_right (eqb who t.port.who) (is_in who (crew_numbers ts)) (by ts k (omega (arith, lt)) (λ d. is d))

  module _ (words : ℕ → ℕ → ℕ × ℕ) (births : List (Seat A)) (net : Port M O h) (ss : List (Shell A M O g h)) (c : IsCompany births net ss) (rows : List (Row M O)) where
    abbrev has : ℕ → Bool
    has who = is_in who (crew_numbers ss)

    abbrev receivers : List ℕ
    receivers = map h.receiver (mails rows)

    agrees : (place : ℕ) (x : M) → slice_get (mails rows) place ≡ Some x → may_get (upto net.actors) rows (h.receiver x) ≡ true → has (slice_index receivers (1 + place - 1)) ≡ may_get (numbers_of births) rows (h.receiver x)
    agrees place x at may =
        let w = h.receiver x in
        let runs : not (has_crashed rows w) ≡ true = (and_parts (list_any (λ a. eqb a w) (upto net.actors)) (not (has_crashed rows w)) may).1 in
        let same : slice_index receivers (1 + place - 1) ≡ w = ap (slice_index receivers) (let minus : 1 + place - 1 ≡ place = omega arith in minus) ∙ index_is h.receiver (mails rows) place x at in
        ap has same ∙ (ap (is_in w) c.born ∙ (sym (any_flip w (numbers_of births)) ∙ (sym (and_true (list_any (λ a. eqb a w) (numbers_of births))) ∙ ap (λ b. list_any (λ a. eqb a w) (numbers_of births) && b) (sym runs))))
      where
        and_true : (b : Bool) → (b && true) ≡ b
        and_true true = refl
        and_true false = refl

    -- the first that is pending to the system
    first_is : kth (waiting (sys words births net ss c) rows None) 1 ≡ find (λ n. has (slice_index receivers (n - 1))) (pending_of h.receiver net.actors rows 0)
    first_is =
        first_passing (is_for h.receiver (upto net.actors) rows None) (is_for h.receiver (numbers_of births) rows None) (wider words births net ss c rows) (λ n. has (slice_index receivers (n - 1))) 1 (mails rows) (copies rows) agrees

    found_is : Matches receivers has (find (gets receivers has) (spots_of h.receiver net.actors rows)) (kth (waiting (sys words births net ss c) rows None) 1)
    found_is = subst (Matches receivers has (find (gets receivers has) (spots_of h.receiver net.actors rows))) (sym first_is) (spots_found receivers has (pending_of h.receiver net.actors rows 0) [] refl)

    -- no shell gets any of them
    none_placed : find (gets receivers has) (spots_of h.receiver net.actors rows) ≡ None → is_quiet (sys words births net ss c) rows ≡ true
    none_placed none =
        let quiet : kth (waiting (sys words births net ss c) rows None) 1 ≡ None = subst (λ o. Matches receivers has o (kth (waiting (sys words births net ss c) rows None) 1)) none found_is in
        ap is_none quiet

    -- a shell gets the first of them
    some_placed : (spot : Spot) → find (gets receivers has) (spots_of h.receiver net.actors rows) ≡ Some spot →
        (mail : M) × (kth (waiting (sys words births net ss c) rows None) 1 ≡ Some spot.number) × (numbered (mails rows) spot.number ≡ Some mail) × (spot.who ≡ h.receiver mail)
    some_placed spot some =
        let m : Matches receivers has (Some spot) (kth (waiting (sys words births net ss c) rows None) 1) = subst (λ o. Matches receivers has o (kth (waiting (sys words births net ss c) rows None) 1)) some found_is in
        let u = waiting_any (sys words births net ss c) rows 1 spot.number m.0 in
        (u.0, m.0, u.1.sent, m.1 ∙ by spot.number u.0 u.1.sent)
      where
        by : (number : ℕ) (mail : M) → numbered (mails rows) number ≡ Some mail → slice_index receivers (number - 1) ≡ h.receiver mail
        by zero mail e = cc
        by (suc place) mail e = ap (slice_index receivers) (let minus : suc place - 1 ≡ place = omega arith in minus) ∙ index_is h.receiver (mails rows) place mail e

  module _ (net mid next : Port M O h) (ss after : List (Shell A M O g h)) (together : IsTogether net ss) (looked : Looked net mid) (len : length after ≡ length ss) (still : AllStill ss after) (looked2 : Looked mid next) (same : crew_numbers after ≡ crew_numbers ss) where
    -- nothing was made meanwhile
    pub nothing_more : (births : List (Seat A)) → IsCompany births next after → seen next ≡ seen mid
    nothing_more births c =
        let first : net.who ≡ 0 = together.crew.first in
        let all = looked.stays.given in
        let long : length (seen net) ≡ length (seen next) = omega (arith, count_seen net ss first (sym looked.stays.given ∙ (sym looked2.stays.given ∙ (c.all ∙ same))) (ap (λ ws. apart (0 ∷ ws)) (sym same) ∙ c.far) together.over together.rows, count_company births next after c, still_rows ss after len still, ap length looked.made, ap length looked2.made) in
        whole_prefix (seen mid) (seen next) looked2.later (omega (arith, long, shorter (seen net) (seen mid) looked.later, shorter (seen mid) (seen next) looked2.later))
      where
        shorter : (xs zs : List (Row M O)) → StartsWith zs xs → length xs ≤ length zs
        shorter xs zs s = omega (arith, ap length s.1, length-append xs s.0)

    -- what was found of all spots then is found now
    there : (births : List (Seat A)) → IsCompany births next after → (spots : List Spot) → spots ≡ spots_of h.receiver mid.actors (seen mid) → (o : Option Spot)
        → find (λ spot. is_in spot.who (crew_numbers after)) spots ≡ o → find (λ spot. is_in spot.who (crew_numbers after)) (spots_of h.receiver next.actors (seen next)) ≡ o
    there births c spots is o e =
        (λ i. find (λ spot. is_in spot.who (crew_numbers after)) (spots_of h.receiver (looked2.stays.exchange.1 i) (nothing_more births c i)))
        ∙ (ap (find (λ spot. is_in spot.who (crew_numbers after))) (sym is) ∙ e)

    -- the place that was found by all spots
    pub finds_spots : (spots : List Spot) (place : Option ℕ) → spots ≡ spots_of h.receiver mid.actors (seen mid) → IsFirstPlaced after spots place → FindsLowest next after place
    finds_spots spots None is found = record {
      inside = tt;
      lowest = λ words births c. none_placed words births next after c (seen next) (there births c spots is None found);
    }
    finds_spots spots (Some place) is found = record {
      inside = found.2.inside;
      lowest = λ words births c.
          let p = some_placed words births next after c (seen next) found.0 (there births c spots is (Some found.0) found.1) in record {
            number = found.0.number;
            mail = p.0;
            first = p.1;
            sent = p.2;
            at = subst (λ w. IsPlace after w place) p.3 found.2;
          };
    }

module _ {A M O : Type 0} {g : Ghosts A M O} {h : MailGhosts M} (ss : List (Shell A M O g h)) (spots : List Spot) (i : ℕ) (d : Spot) (lt : i < length spots) (none : find (λ spot. is_in spot.who (crew_numbers ss)) (take i spots) ≡ None) where
  -- no shell gets the copy at a place
  pub past_spot : is_in (get_or spots i d).who (crew_numbers ss) ≡ false → find (λ spot. is_in spot.who (crew_numbers ss)) (take (i + 1) spots) ≡ None
  past_spot out =
      subst (λ l. find (λ spot. is_in spot.who (crew_numbers ss)) l ≡ None) (sym (take_more spots i d lt))
      (find_push (λ (spot : Spot). is_in spot.who (crew_numbers ss)) (take i spots) (get_or spots i d) none out)

  -- a shell gets it
  pub at_spot : (place : ℕ) → IsPlace ss (get_or spots i d).who place → IsFirstPlaced ss spots (Some place)
  at_spot place at =
      let spot = get_or spots i d in
      let cut = cut_at spots i spot lt (get_or_default spots i d spot lt) in (
        spot,
        ap (find (λ (s : Spot). is_in s.who (crew_numbers ss))) cut.1 ∙ find_here (λ (s : Spot). is_in s.who (crew_numbers ss)) (take i spots) cut.0 spot none (placed_in ss spot.who place at),
        at,
      )

-- A round that begins with pending mail, and in which no turn is refused, makes a delivery.
use Rattle.std.proofs.Common.{◌≡◌, ◌≢◌, ℕ, zero, suc, ◌+◌, ◌<◌, ◌≤◌, ⊎_elim, Bool, true, false, true≢false, ◌||◌, List, [], ◌∷◌, ◌++◌, length, map, get_or, refl, sym, ap, ◌∙◌, arith, length-append, Option, Some, None, is_some}
use Rattle.std.specs.List.{list_any}
use Rattle.std.proofs.lemmas.List.{append-nil, nil_from_length}
use Rattle.sc_thread_ports.specs.turn.Turn.{StartsWith}
use Rattle.sc_thread_ports.specs.turn.Seats.{known}
use Rattle.sc_actor.specs.declared.actors.Actor.{Ghosts}
use Rattle.sc_actor.specs.declared.actors.Parcel.{Ghosts as MailGhosts}
use Rattle.sc_actor.specs.declared.rows.Row.{Row}
use Rattle.sc_actor.specs.Mail.{is_crash, has_crashed}
use Rattle.sc_thread_ledger.specs.Pending.{kth_pending}
use Rattle.sc_thread_ports.specs.declared.exchange.shared.BareRow.{BareRow}
use Rattle.sc_thread_ports.specs.declared.exchange.ports.Port.{Port}
use Rattle.sc_thread_ports.specs.exchange.BareRows.{row_by, rows_of}
use Rattle.sc_thread_ports.specs.exchange.Ports.{seen, made, SameExchange, Looked}
use Rattle.sc_thread_ports.proofs.ExchangeProofs.Addressing.{first_stays, crashed_own, crashed_waits}
use Rattle.sc_thread_work.specs.declared.shell.shells.Shell.{Shell}
use Rattle.sc_thread_work.specs.declared.shell.turns.Turn.{Turn}
use Rattle.sc_thread_work.specs.declared.shell.turns.Turn.TheVariants.{Did, Empty, Full, Spent, OutOfMemory}
use Rattle.sc_thread_work.specs.shell.Shells.{Takes, state}
use Rattle.sc_thread_workers.specs.Crews.{GoesByDeliveries, AllGo, Took, AllTook, Sound, AllSound, AllOf, HasMet, AllMet, AllOver, IsAhead, AllAhead, Still, AllStill, crew_numbers, rows_made}
use Rattle.sc_thread_workers.specs.RoundEnds.{CanBegin}
use Rattle.sc_thread_workers.proofs.ChangedLists.{sum_same}
use Rattle.sc_thread_ports.proofs.ExchangeProofs.Done.{rows_of-append}
use Rattle.sc_thread_ports.proofs.ExchangeProofs.Knowing.{own_length}
use Rattle.sc_thread_ports.proofs.TurnProofs.ListPrefixes.{starts_trans}

module _ {M O : Type 0} where
  count_append : (n : ℕ) (xs ys : List (Row M O)) → length (rows_of n (xs ++ ys)) ≡ length (rows_of n xs) + length (rows_of n ys)
  count_append n xs ys = ap length (rows_of-append n xs ys) ∙ length-append (rows_of n xs) (rows_of n ys)

  -- a longer list has no fewer rows of a number
  pub count_later : (n : ℕ) (xs ys : List (Row M O)) → StartsWith xs ys → length (rows_of n ys) ≤ length (rows_of n xs)
  count_later n xs ys later = omega (arith, ap (λ l. length (rows_of n l)) later.1, count_append n ys later.0)

  -- of two lists, one a prefix of the other, with as many rows of a number, the rows of it are the same
  pub list_same : (n : ℕ) (xs ys : List (Row M O)) → StartsWith xs ys → length (rows_of n xs) ≡ length (rows_of n ys) → rows_of n xs ≡ rows_of n ys
  list_same n xs ys later same = ap (rows_of n) later.1 ∙ split n ys later.0 (omega (arith, ap (λ l. length (rows_of n l)) later.1, count_append n ys later.0, same))
    where
      split : (n : ℕ) (ys more : List (Row M O)) → length (rows_of n more) ≡ 0 → rows_of n (ys ++ more) ≡ rows_of n ys
      split n ys more none = rows_of-append n ys more ∙ (ap (λ l. rows_of n ys ++ l) (nil_from_length (rows_of n more) none) ∙ append-nil (rows_of n ys))

  crash_rows : (who : ℕ) (made : List (BareRow M O)) → list_any (λ (row : Row M O). is_crash row.event) (map (row_by who) made) ≡ list_any (λ (d : BareRow M O). is_crash d.event) made
  crash_rows who [] = refl
  crash_rows who (d ∷ made) = ap (λ b. is_crash d.event || b) (crash_rows who made)

-- what is there, where something is
pub is_some_is : (o : Option ℕ) → is_some o ≡ true → (n : ℕ) × (o ≡ Some n)
is_some_is None e = absurd (true≢false (sym e))
is_some_is (Some n) e = (n, refl)

module _ {M O : Type 0} {h : MailGhosts M} where
  -- a port records whether it has posted a Crash
  pub crashed_is : (p : Port M O h) → p.crashed ≡ list_any (λ (row : Row M O). is_crash row.event) (made p)
  crashed_is p = p.halted ∙ sym (crash_rows p.who (known p.seat).made)

  -- the network's rows in a list between what its port has seen before and later, where it made none
  pub net_same : (net next : Port M O h) (low high : List (Row M O)) → Looked net next → net.who ≡ 0 → StartsWith low (seen net) → StartsWith high low → StartsWith (seen next) high → length (rows_of 0 high) ≡ length (rows_of 0 low)
  net_same net next low high l first a b c =
      let before : length (rows_of 0 (seen net)) ≡ length (made net) = ap (λ n. length (rows_of n (seen net))) (sym first) ∙ own_length net in
      let after : length (rows_of 0 (seen next)) ≡ length (made net) = ap (λ n. length (rows_of n (seen next))) (sym (l.stays.who ∙ first)) ∙ (own_length next ∙ ap length l.made) in
      omega (arith, before, after, count_later 0 low (seen net) a, count_later 0 high low b, count_later 0 (seen next) high c)

module _ {A M O : Type 0} {g : Ghosts A M O} {h : MailGhosts M} where
  -- whose mail waits
  pub waits_at : (p : ℕ → Bool) (ss : List (Shell A M O g h)) → list_any p (crew_numbers ss) ≡ true → (k : ℕ) × (k < length ss) × ((d : Shell A M O g h) → p (get_or ss k d).port.who ≡ true)
  waits_at p [] e = absurd (true≢false (sym e))
  waits_at p (s ∷ ss) e = by (p s.port.who) refl (waits_at p ss)
    where
      by : (b : Bool) → p s.port.who ≡ b → (list_any p (crew_numbers ss) ≡ true → (k : ℕ) × (k < length ss) × ((d : Shell A M O g h) → p (get_or ss k d).port.who ≡ true)) → (k : ℕ) × (k < length (s ∷ ss)) × ((d : Shell A M O g h) → p (get_or (s ∷ ss) k d).port.who ≡ true)
      by true is later = (0, omega arith, λ d. is)
      by false is later = let rest = later (ap (λ b. b || list_any p (crew_numbers ss)) (sym is) ∙ e) in (suc rest.0, omega (arith, rest.1), λ d. rest.2 d)

  -- a shell for whose actor mail was pending, after a round in which it made no row and was not refused
  module _ (net next : Port M O h) (s before t after : Shell A M O g h) (number : ℕ) (looked : Looked net next) (first : net.who ≡ 0) (met : HasMet net s) (still : Still s before) (ahead : IsAhead net before) (sound : Sound before)
      (later : Still t after) (has : HasMet next after) (one : SameExchange s.port net) (waits : kth_pending h.receiver net.actors (seen net) s.port.who 1 ≡ Some number) where
    who_is : before.port.who ≡ s.port.who
    who_is = still.goes.stays.who

    -- the actor's rows that the network's port has seen are all that the shell had made
    own_seen : rows_of before.port.who (seen net) ≡ made before.port
    own_seen =
        let count : length (rows_of before.port.who (seen s.port)) ≡ length (made before.port) = ap (λ n. length (rows_of n (seen s.port))) who_is ∙ (own_length s.port ∙ ap length (sym still.made)) in
        sym (list_same before.port.who (seen before.port) (seen net) ahead.begins (omega (arith, count, ap length ahead.own, count_later before.port.who (seen before.port) (seen net) ahead.begins, count_later before.port.who (seen net) (seen s.port) met.begins)))
        ∙ ahead.own

    waits_still : kth_pending h.receiver net.actors (seen net) before.port.who 1 ≡ Some number
    waits_still = ap (λ n. kth_pending h.receiver net.actors (seen net) n 1) who_is ∙ waits

    an_actor : before.port.who ≢ 0
    an_actor = λ z. let some = before.numbered in absurd (omega (arith, z, some))

    not_crashed : before.port.crashed ≡ true → ⊥
    not_crashed crashed =
        let there : has_crashed (seen net) before.port.who ≡ true = crashed_own h.receiver net.actors before.port.who (seen net) ∙ (ap (list_any (λ (row : Row M O). is_crash row.event)) own_seen ∙ (sym (crashed_is before.port) ∙ crashed)) in
        crashed_waits h.receiver net.actors (seen net) before.port.who number an_actor there waits_still

    was_running : (b : Bool) → before.port.crashed ≡ b → before.port.crashed ≡ false
    was_running true e = absurd (not_crashed e)
    was_running false e = e

    -- a turn without a row that was not refused was empty, though mail was pending
    not_empty : (reported : ℕ) → Takes (state before) (state t) 1 (Empty reported) → ⊥
    not_empty reported x =
        let l : Looked before.port t.port = x.1.0 in
        let actors_are : net.actors ≡ before.port.actors = one.1 ∙ sym still.goes.stays.exchange.1 in
        let up : StartsWith (seen t.port) (seen net) = starts_trans (seen t.port) (seen before.port) (seen net) l.later ahead.begins in
        let end : StartsWith (seen next) (seen t.port) = starts_trans (seen next) (seen after.port) (seen t.port) has.begins later.later in
        let mine : length (rows_of before.port.who (seen t.port)) ≡ length (rows_of before.port.who (seen net)) =
        ap (λ n. length (rows_of n (seen t.port))) (sym l.stays.who) ∙ (own_length t.port ∙ (ap length l.made ∙ ap length (sym own_seen))) in
        let stays : kth_pending h.receiver net.actors (seen t.port) before.port.who 1 ≡ Some number =
        first_stays h.receiver net.actors (seen net) (seen t.port) before.port.who number up an_actor mine (net_same net next (seen net) (seen t.port) looked first ([], sym (append-nil (seen net))) up end) x.1.5 waits_still in
        let none : kth_pending h.receiver net.actors (seen t.port) before.port.who 1 ≡ None = ap (λ n. kth_pending h.receiver n (seen t.port) before.port.who 1) actors_are ∙ x.1.2 in
        let bad : Some number ≡ None = sym stays ∙ none in cc

    crash_kept : made t.port ≡ made before.port → t.port.crashed ≡ before.port.crashed
    crash_kept same = crashed_is t.port ∙ (ap (list_any (λ (row : Row M O). is_crash row.event)) same ∙ sym (crashed_is before.port))

    no_turn : (r : Turn) → before.spent ≡ false → Takes (state before) (state t) 1 r → length (made t.port) ≡ length (made before.port) → Sound t → ⊥
    no_turn (Did at) free x same calm = absurd (omega (arith, same, ap length x.2.0.made ∙ length-append (made before.port) (_ ∷ [])))
    no_turn (Empty reported) free x same calm = not_empty reported x
    no_turn (Full bytes) free x same calm = true≢false (sym (calm x.2.2) ∙ x.2.3)
    no_turn Spent free x same calm = true≢false (sym x.0 ∙ free)
    no_turn OutOfMemory free x same calm = true≢false (sym (calm x.2) ∙ (crash_kept x.1.made ∙ was_running before.port.crashed refl))

    -- so the turn made a row, or was refused
    pub served : Took before t → length (made t.port) ≡ length (made before.port) → Sound t → ⊥
    served took same calm = ⊎_elim (λ x. not_crashed (sound x.0)) (λ x. no_turn x.1.0 x.0 x.1.1 same calm) took.acts

  made_grows : (s t : Shell A M O g h) → GoesByDeliveries s t → length (made s.port) ≤ length (made t.port)
  made_grows s t go = omega (arith, ap length go.made.all ∙ length-append (made s.port) go.made.rows)

  -- some shell makes a row in such a round
  pub serves : (net next : Port M O h) (ss before ts after : List (Shell A M O g h)) → length before ≡ length ss → length ts ≡ length before → length after ≡ length ts → Looked net next → net.who ≡ 0 → CanBegin net ss (crew_numbers ss) → AllStill ss before → AllAhead net before → AllSound before →
      AllTook before ts → AllStill ts after → AllMet next after → AllOf net ss → AllSound ts → rows_made ts ≡ rows_made before → ⊥
  serves net next ss before ts after l m n looked first begin still ahead sound took later has one calm none =
      let w = waits_at (λ who. is_some (kth_pending h.receiver net.actors (seen net) who 1)) ss begin.waits in
      let k = w.0 in
      let lt : k < length ss = w.1 in
      at_place k lt w.2
    where
      at_place : (k : ℕ) → k < length ss → ((d : Shell A M O g h) → is_some (kth_pending h.receiver net.actors (seen net) (get_or ss k d).port.who 1) ≡ true) → ⊥
      at_place k lt waits = by ss refl
        where
          by : (xs : List (Shell A M O g h)) → xs ≡ ss → ⊥
          by [] e = absurd (omega (arith, lt, ap length e))
          by (d ∷ xs) e =
              let some = is_some_is (kth_pending h.receiver net.actors (seen net) (get_or ss k d).port.who 1) (waits d) in
              let b : k < length before = omega (arith, lt, l) in
              let t : k < length ts = omega (arith, lt, l, m) in
              let a : k < length after = omega (arith, lt, l, m, n) in
              served net next (get_or ss k d) (get_or before k d) (get_or ts k d) (get_or after k d) some.0 looked first (record { begins = (begin.gathered.over k d lt).begins }) (still k d lt) (ahead k d b) (sound k d b) (later k d t) (has k d a) (one k d lt) some.1 (took k d b)
              (sum_same (λ (s : Shell A M O g h). length (made s.port)) before ts m (λ j e lt. made_grows (get_or before j e) (get_or ts j e) (took j e lt).goes) none k d b)
              (calm k d t)

  -- so a round that is not refused makes a delivery
  pub delivers_one : (net next : Port M O h) (ss before ts after : List (Shell A M O g h)) (did left : ℕ) → length before ≡ length ss → length ts ≡ length before → length after ≡ length ts → Looked net next → net.who ≡ 0 → CanBegin net ss (crew_numbers ss) → AllStill ss before → AllAhead net before → AllSound before →
      (did ≡ 0 → 0 < left → AllSound ts → AllTook before ts) → 0 < left → AllStill ts after → AllOver next after → AllOf net ss → AllSound ts → rows_made ts ≡ rows_made before + did → 0 < did
  delivers_one net next ss before ts after zero left l m n looked first begin still ahead sound whole some later over one calm count =
      absurd (serves net next ss before ts after l m n looked first begin still ahead sound (whole refl some calm) later (λ k d lt. record { begins = (over k d lt).begins }) one calm (omega (arith, count)))
  delivers_one net next ss before ts after (suc did) left l m n looked first begin still ahead sound whole some later over one calm count = omega arith

  -- the shells have the numbers that they had
  pub numbers_go : (ss ts : List (Shell A M O g h)) → length ts ≡ length ss → AllGo ss ts → crew_numbers ts ≡ crew_numbers ss
  numbers_go [] [] l a = refl
  numbers_go [] (t ∷ ts) l a = absurd (omega arith)
  numbers_go (s ∷ ss) [] l a = absurd (omega arith)
  numbers_go (s ∷ ss) (t ∷ ts) l a = λ i. (a 0 s (omega arith)).stays.who i ∷ numbers_go ss ts (omega (arith, l)) (λ k d lt. a (suc k) d (omega (arith, lt))) i

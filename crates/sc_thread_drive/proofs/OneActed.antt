-- What the network's port has seen once all have met: how many rows, and which.
use Rattle.std.proofs.Common.{◌≡◌, ℕ, zero, suc, ◌+◌, ◌<◌, ◌≤◌, inl, inr, Bool, true, false, true≢false, eqb, eq-eqb, List, [], ◌∷◌, ◌++◌, length, sum_by, get_or, set, get_or-set_other, get_or-set_same, refl, sym, ap, ◌∙◌, subst, arith, length-append, Contains}
use mathlib.Core.Logic.{dite}
use native.Mathlib.Decide.{ℕ_discrete}
use Rattle.sc_thread_ports.specs.turn.Turn.{StartsWith}
use Rattle.sc_actor.specs.declared.actors.Actor.{Ghosts}
use Rattle.sc_actor.specs.declared.actors.Parcel.{Ghosts as MailGhosts}
use Rattle.sc_actor.specs.declared.actors.Seat.{Seat}
use Rattle.sc_actor.specs.declared.rows.Row.{Row}
use Rattle.sc_thread_ports.specs.declared.exchange.ports.Port.{Port}
use Rattle.sc_thread_ports.specs.exchange.BareRows.{rows_of}
use Rattle.sc_thread_ports.specs.exchange.Ports.{seen, made, given, Stays, Looked, Appended, IsTrue}
use Rattle.sc_thread_work.specs.declared.shell.shells.Shell.{Shell}
use Rattle.sc_thread_work.specs.shell.Shells.{IsReplay, Replays}
use Rattle.sc_thread_workers.specs.Crews.{AllOver, AllSound, Sound, Still, AllStill, IsAhead, crew_numbers, rows_made}
use Rattle.sc_thread_workers.specs.RoundEnds.{IsGathered}
use Rattle.sc_thread_workers.proofs.ChangedLists.{sum_set, get_any}
use Rattle.sc_thread_workers.proofs.Crews.{still_rows, still_all_go}
use Rattle.sc_thread_workers.proofs.Serving.{numbers_go}
use Rattle.sc_thread_drive.specs.Numbers.{is_in, apart}
use Rattle.sc_thread_drive.specs.Companies.{IsCompany}
use Rattle.sc_thread_drive.proofs.RowCounts.{count_rows, all_in, not_in, sum_map, sum_each, whole_prefix}
use Rattle.std.proofs.lemmas.Bool.{or_parts}
use Rattle.std.proofs.lemmas.List.Sums.{sum_by-cons}
use Rattle.sc_thread_ports.proofs.TurnProofs.ListPrefixes.{starts_trans}

module _ {A M O : Type 0} {g : Ghosts A M O} {h : MailGhosts M} where
  -- the network's port has seen the network's rows, and those of the shells
  pub count_seen : (net : Port M O h) (ss : List (Shell A M O g h)) → net.who ≡ 0 → given net ≡ crew_numbers ss → apart (0 ∷ crew_numbers ss) ≡ true → AllOver net ss → IsTrue net → length (seen net) ≡ length (made net) + rows_made ss
  count_seen net ss first all far over rows =
      let closed : (n : ℕ) → is_in n (0 ∷ crew_numbers ss) ≡ false → rows_of n (seen net) ≡ [] = λ n out.
      let parts = or_parts (eqb n 0) (is_in n (crew_numbers ss)) out in
      rows.others first n (λ z. true≢false (sym (eq-eqb n 0 z) ∙ parts.0)) (λ c. not_in n (crew_numbers ss) parts.1 (subst (λ ws. Contains ws n) all c)) in
      let total : length (seen net) ≡ sum_by (λ w. length (rows_of w (seen net))) (0 ∷ crew_numbers ss) = count_rows (0 ∷ crew_numbers ss) (seen net) far (all_in (0 ∷ crew_numbers ss) (seen net) closed) in
      let net_rows : length (rows_of 0 (seen net)) ≡ length (made net) = ap (λ n. length (rows_of n (seen net))) (sym first) ∙ ap length rows.own in
      let each : sum_by (λ (s : Shell A M O g h). length (rows_of s.port.who (seen net))) ss ≡ rows_made ss = sum_each (λ (s : Shell A M O g h). length (rows_of s.port.who (seen net))) (λ (s : Shell A M O g h). length (made s.port)) ss (λ k d lt. ap length (over k d lt).own) in
      omega (arith, total, sum_by-cons (λ w. length (rows_of w (seen net))) 0 (crew_numbers ss), net_rows, sum_map (λ w. length (rows_of w (seen net))) (λ (s : Shell A M O g h). s.port.who) ss, each)

  -- the same of a company
  pub count_company : (births : List (Seat A)) (net : Port M O h) (ss : List (Shell A M O g h)) → IsCompany births net ss → length (seen net) ≡ length (made net) + rows_made ss
  count_company births net ss c = count_seen net ss c.first c.all c.far c.over c.rows

module _ {M O : Type 0} {h : MailGhosts M} where
  -- nothing was made in between
  pub none_seen : (net next : Port M O h) (n : ℕ) → StartsWith (seen next) (seen net) → length (seen net) ≡ n → length (seen next) ≡ n → seen next ≡ seen net
  none_seen net next n later a b = whole_prefix (seen net) (seen next) later (omega (arith, a, b))

  -- one row was made in between
  pub one_seen : (net next : Port M O h) (before prefix : List (Row M O)) (row : Row M O) → StartsWith (seen next) (seen net) → StartsWith before (seen net) → prefix ≡ before ++ row ∷ [] → StartsWith (seen next) prefix → length (seen next) ≡ length (seen net) + 1 → (before ≡ seen net) × (seen next ≡ seen net ++ row ∷ [])
  one_seen net next before prefix row later low is high count =
      let long : length prefix ≡ length before + 1 = ap length is ∙ length-append before (row ∷ []) in
      let most : length prefix ≤ length (seen next) = omega (arith, ap length high.1, length-append prefix high.0) in
      let least : length (seen net) ≤ length before = omega (arith, ap length low.1, length-append (seen net) low.0) in
      let same : before ≡ seen net = whole_prefix (seen net) before low (omega (arith, long, most, least, count)) in
      (same, whole_prefix prefix (seen next) high (omega (arith, count, long, ap length same)) ∙ (is ∙ ap (λ l. l ++ row ∷ []) same))

-- one shell of a list is another
module _ {X : Type 0} where
  -- what holds of each element, and of the new one
  pub set_all : (R : ℕ → X → Type 0) (xs : List X) (k : ℕ) (new : X) → k < length xs → R k new → ((j : ℕ) (d : X) → j < length xs → R j (get_or xs j d)) → (j : ℕ) (d : X) → j < length xs → R j (get_or (set xs k new) j d)
  set_all R xs k new lt here there j d less = dite (ℕ_discrete j k)
      (λ e. subst (λ n. R n (get_or (set xs k new) n d)) (sym e) (subst (R k) (sym (get_or-set_same xs k new d lt)) here))
      (λ ne. subst (R j) (sym (get_or-set_other xs k j new d ne)) (there j d less))

module _ {A M O : Type 0} {g : Ghosts A M O} {h : MailGhosts M} where
  -- a shell of the same actor has the same number
  pub numbers_set : (ss : List (Shell A M O g h)) (k : ℕ) (t : Shell A M O g h) → k < length ss → ((d : Shell A M O g h) → t.port.who ≡ (get_or ss k d).port.who) → crew_numbers (set ss k t) ≡ crew_numbers ss
  numbers_set [] k t lt same = refl
  numbers_set (s ∷ ss) zero t lt same = λ i. same s i ∷ crew_numbers ss
  numbers_set (s ∷ ss) (suc k) t lt same = ap (λ l. s.port.who ∷ l) (numbers_set ss k t (omega (arith, lt)) same)

  -- and there are as many
  pub length_set : (ss : List (Shell A M O g h)) (k : ℕ) (t : Shell A M O g h) → length (set ss k t) ≡ length ss
  length_set [] k t = refl
  length_set (s ∷ ss) zero t = refl
  length_set (s ∷ ss) (suc k) t = ap suc (length_set ss k t)

  -- a sound shell is the replay of its rows
  pub replays_of : (s : Shell A M O g h) (birth : A) → Sound s → IsReplay s birth → Replays s birth
  replays_of s birth sound replay = by s.spent refl
    where
      by : (b : Bool) → s.spent ≡ b → Replays s birth
      by true e = replay (inr (sound e))
      by false e = replay (inl e)

  -- one shell acted, and is sound, and so are the others
  pub sound_acted : (ss after : List (Shell A M O g h)) (k : ℕ) (t : Shell A M O g h) → k < length ss → AllSound ss → Sound t → length after ≡ length (set ss k t) → AllStill (set ss k t) after → AllSound after
  sound_acted ss after k t lt sound mine len rest j d less spent =
      let le : j < length (set ss k t) = omega (arith, less, len) in
      let s = rest j d le in
      s.crashed ∙ set_all (λ i x. Sound x) ss k t lt mine (λ i e l. sound i e l) j d (omega (arith, le, length_set ss k t)) (sym s.spent ∙ spent)

  -- after one shell has acted and all have gathered
  module _ (births : List (Seat A)) (net mid next : Port M O h) (ss after : List (Shell A M O g h)) (k : ℕ) (t : Shell A M O g h) (c : IsCompany births net ss) (lt : k < length ss)
      (met : Shell A M O g h) (still : (d : Shell A M O g h) → Still (get_or ss k d) met) (ahead : IsAhead net met) (stays : Stays met.port t.port)
      (looked : Looked net next) (len : length after ≡ length ss) (rest : AllStill (set ss k t) after) (gathered : IsGathered next after) (rows : IsTrue next) where
    abbrev middle : List (Shell A M O g h)
    middle = set ss k t

    same_length : length after ≡ length middle
    same_length = len ∙ sym (length_set ss k t)

    number_is : (d : Shell A M O g h) → t.port.who ≡ (get_or ss k d).port.who
    number_is d = stays.who ∙ (still d).goes.stays.who

    numbers_are : crew_numbers after ≡ crew_numbers ss
    numbers_are = numbers_go middle after same_length (still_all_go middle after rest) ∙ numbers_set ss k t lt number_is

    all_is : given next ≡ crew_numbers after
    all_is = looked.stays.given ∙ (c.all ∙ sym numbers_are)

    far_is : apart (0 ∷ crew_numbers after) ≡ true
    far_is = ap (λ ws. apart (0 ∷ ws)) numbers_are ∙ c.far

    first_is : next.who ≡ 0
    first_is = looked.stays.who ∙ c.first

    count_after : length (seen next) ≡ length (made next) + rows_made after
    count_after = count_seen next after first_is all_is far_is gathered.over rows

    made_is : (d : Shell A M O g h) → rows_made after + length (made (get_or ss k d).port) ≡ rows_made ss + length (made t.port)
    made_is d =
        let there : get_or ss k d ≡ get_or ss k (get_or ss k d) = get_any ss k d (get_or ss k d) lt in
        omega (arith, still_rows middle after same_length rest, sum_set (λ (s : Shell A M O g h). length (made s.port)) ss k (get_or ss k d) t lt there)

    -- the port has seen what the shell has
    pub shell_later : StartsWith (seen next) (seen t.port)
    shell_later =
        let s = rest k t (omega (arith, lt, length_set ss k t)) in
        let o = gathered.over k t (omega (arith, lt, len)) in
        let mine : get_or middle k t ≡ t = get_or-set_same ss k t t lt in
        subst (λ (x : Shell A M O g h). StartsWith (seen next) (seen x.port)) mine (starts_trans (seen next) (seen (get_or after k t).port) (seen (get_or middle k t).port) o.begins s.later)

    -- where the shell made nothing, nothing was made
    pub nothing_seen : length (made t.port) ≡ length (made met.port) → seen next ≡ seen net
    nothing_seen none =
        none_seen net next (length (seen net)) looked.later refl
        (let d = met in omega (arith, count_after, count_company births net ss c, made_is d, none, ap length (still d).made, ap length looked.made))

    -- where it made a row, that row is the only new one
    pub row_seen : (row : Row M O) (a : Appended met.port t.port row) → (a.before ≡ seen net) × (seen next ≡ seen net ++ row ∷ [])
    row_seen row a =
        let d = met in
        one_seen net next a.before (seen t.port) row looked.later (starts_trans a.before (seen met.port) (seen net) a.later ahead.begins) a.seen shell_later
        (omega (arith, count_after, count_company births net ss c, made_is d, ap length a.made, length-append (made met.port) (row ∷ []), ap length (still d).made, ap length looked.made))

    -- the shell has seen just that before its row
    pub seen_before : (row : Row M O) (a : Appended met.port t.port row) → seen met.port ≡ seen net
    seen_before row a =
        let low : StartsWith (seen met.port) (seen net) = ahead.begins in
        let high : StartsWith (seen net) (seen met.port) = subst (λ l. StartsWith l (seen met.port)) (row_seen row a).0 a.later in
        whole_prefix (seen net) (seen met.port) low (omega (arith, ap length low.1, length-append (seen net) low.0, ap length high.1, length-append (seen met.port) high.0))

    -- the shells are a company again
    pub company_after : Sound t → ((e : Seat A) → Replays t (get_or births k e).actor) → IsCompany births next after
    company_after mine replay = record {
      first = first_is;
      all = all_is;
      born = numbers_are ∙ c.born;
      far = far_is;
      within = λ j d less.
          let le : j < length ss = omega (arith, less, len) in
          let s = rest j d (omega (arith, less, same_length)) in
          let top : (get_or middle j d).port.who ≤ net.actors = set_all (λ i x. x.port.who ≤ net.actors) ss k t lt (subst (λ n. n ≤ net.actors) (sym (number_is d)) (c.within k d lt)) (λ i e l. c.within i e l) j d le in
          omega (arith, s.goes.stays.who, looked.stays.exchange.1, top);
      over = gathered.over;
      rows = rows;
      sound = sound_acted ss after k t lt c.sound mine same_length rest;
      replay = λ j d e less.
          let le : j < length ss = omega (arith, less, len) in
          let lm : j < length middle = omega (arith, less, same_length) in
          let was : Replays (get_or middle j d) (get_or births j e).actor = set_all (λ i x. Replays x (get_or births i e).actor) ss k t lt (replay e) (λ i y l. c.replay i y e l) j d le in
          replays_of (get_or after j d) (get_or births j e).actor (sound_acted ss after k t lt c.sound mine same_length rest j d less) ((rest j d lm).goes.replay (get_or births j e).actor (λ _. was));
    }

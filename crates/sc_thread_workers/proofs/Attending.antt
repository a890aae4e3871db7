-- Each row that a shell makes in a round is a service: it delivers what is then its actor's first pending mail, and sends what the table gives.
use Rattle.std.proofs.Common.{◌≡◌, ℕ, zero, suc, ◌+◌, ◌≤◌, ⊎_elim, inl, inr, ◌⊎◌, true, false, eqb, eq-eqb, cond, List, [], ◌∷◌, ◌++◌, length, get_or, refl, sym, ap, ◌∙◌, subst, arith, length-append, append_assoc, Some}
use Rattle.std.proofs.lemmas.Bool.{and_parts}
use Rattle.std.proofs.lemmas.Bool.Decides.{leb_tells}
use Rattle.std.specs.Option.{option_map}
use Rattle.sc_thread_ports.specs.turn.Turn.{StartsWith}
use Rattle.sc_actor.specs.declared.actors.Actor.{Ghosts}
use Rattle.sc_actor.specs.declared.actors.Parcel.{Ghosts as MailGhosts}
use Rattle.sc_actor.specs.declared.rows.Row.{Row}
use Rattle.sc_actor.specs.declared.rows.Event.TheVariants.{Deliver}
use Rattle.sc_actor.specs.declared.rows.Input.TheVariants.{Got}
use Rattle.sc_actor.specs.Mail.{mails, numbered}
use Rattle.sc_actor.specs.Counted.{journal_bytes}
use Rattle.sc_actor.specs.Replay.{acted, value}
use Rattle.sc_actor.specs.System.{row_of}
use Rattle.sc_thread_ledger.specs.Pending.{kth_pending}
use Rattle.sc_thread_ports.specs.declared.exchange.ports.Port.{Port}
use Rattle.sc_thread_ports.specs.exchange.BareRows.{rows_of}
use Rattle.sc_thread_ports.specs.exchange.Addressed.{all_addressed}
use Rattle.sc_thread_ports.specs.exchange.Ports.{seen, made, SameExchange, Looked, IsAddressed}
use Rattle.sc_thread_ports.proofs.ExchangeProofs.Addressing.{first_stays, all_addressed-append}
use Rattle.sc_thread_work.specs.declared.shell.shells.Shell.{Shell}
use Rattle.sc_thread_work.specs.declared.shell.turns.Turn.TheVariants.{Did}
use Rattle.sc_thread_work.specs.shell.Shells.{Takes, IsReplay, KeepsReplay, state, row_at}
use Rattle.sc_thread_work.proofs.ShellProofs.Replaying.{numbered_more, replay_over}
use Rattle.sc_thread_workers.specs.Crews.{GoesByDeliveries, AllGo, Took, MadeRows, Worked, AllWorked, AllOf, AllOver, IsOver, IsAhead, AllAhead, AllStill}
use Rattle.sc_thread_workers.specs.Services.{IsService, Serves, AllServe}
use Rattle.sc_thread_workers.specs.RoundEnds.{IsGathered}
use Rattle.sc_thread_workers.proofs.Serving.{count_later, list_same, net_same}
use Rattle.sc_thread_workers.proofs.ShellTurns.{row_did, took_later, rows_go, went_of}
use Rattle.sc_thread_ports.proofs.ExchangeProofs.Done.{rows_of-append}
use Rattle.sc_thread_ports.proofs.ExchangeProofs.Knowing.{own_length}
use Rattle.sc_thread_ports.proofs.TurnProofs.ListPrefixes.{starts_trans}

-- lists
module _ {X : Type 0} where
  -- a prefix of a list with one more at its end is the whole, or a prefix of the list without it
  pub prefix_snoc : (xs prefix : List X) (y : X) → StartsWith (xs ++ y ∷ []) prefix → (prefix ≡ xs ++ y ∷ []) ⊎ StartsWith xs prefix
  prefix_snoc xs [] y p = inr (xs, refl)
  prefix_snoc [] (f ∷ prefix) y p = by prefix p.0 p.1
    where
      by : (rest more : List X) → y ∷ [] ≡ (f ∷ rest) ++ more → (f ∷ rest ≡ y ∷ []) ⊎ StartsWith [] (f ∷ rest)
      by [] more e = inl (let same : y ≡ f = cc in ap (λ z. z ∷ []) (sym same))
      by (r ∷ rest) more e = (let bad : [] ≡ r ∷ (rest ++ more) = cc in cc)
  prefix_snoc (x ∷ xs) (f ∷ prefix) y p =
      let head : x ≡ f = (let e = p.1 in cc) in
      let tail : xs ++ y ∷ [] ≡ prefix ++ p.0 = (let e = p.1 in cc) in
      ⊎_elim (λ e. inl (λ i. sym head i ∷ e i)) (λ q. inr (q.0, λ i. head i ∷ q.1 i)) (prefix_snoc xs prefix y (p.0, tail))

  -- where one list is cut at an element in one way and begins with a list in another, the element is in that prefix, or behind it
  pub cut_in : (prefix more before after : List X) (x : X) → prefix ++ more ≡ before ++ x ∷ after → ((rest : List X) × (prefix ≡ before ++ x ∷ rest)) ⊎ StartsWith before prefix
  cut_in [] more before after x e = inr (before, refl)
  cut_in (f ∷ prefix) more [] after x e = inl (prefix, (let same : f ≡ x = cc in ap (λ z. z ∷ prefix) same))
  cut_in (f ∷ prefix) more (b ∷ before) after x e =
      let head : f ≡ b = cc in
      let tail : prefix ++ more ≡ before ++ x ∷ after = cc in
      ⊎_elim (λ q. inl (q.0, λ i. head i ∷ q.1 i)) (λ q. inr (q.0, λ i. sym head i ∷ q.1 i)) (cut_in prefix more before after x tail)

module _ {M O : Type 0} where
  -- how many rows of a number there are, where one of them is pointed out
  pub count_split : (n : ℕ) (before after : List (Row M O)) (row : Row M O) → row.who ≡ n → length (rows_of n (before ++ row ∷ after)) ≡ length (rows_of n before) + (1 + length (rows_of n after))
  count_split n [] after row is = ap (λ b. length (cond b (row ∷ rows_of n after) (rows_of n after))) (eq-eqb row.who n is) ∙ omega arith
  count_split n (x ∷ before) after row is = let e = count_split n before after row is in
      elim (eqb x.who n) as (λ b. length (cond b (x ∷ rows_of n (before ++ row ∷ after)) (rows_of n (before ++ row ∷ after))) ≡ length (cond b (x ∷ rows_of n before) (rows_of n before)) + (1 + length (rows_of n after))) [ true ↦ omega (arith, e) | false ↦ e ]

  -- how many rows of a number there are, with one more at the beginning
  count_first : (n : ℕ) (row : Row M O) (rows : List (Row M O)) → length (rows_of n (row ∷ rows)) ≡ cond {A = ℕ} (eqb row.who n) 1 0 + length (rows_of n rows)
  count_first n row rows =
      elim (eqb row.who n) as (λ b. length (cond b (row ∷ rows_of n rows) (rows_of n rows)) ≡ cond {A = ℕ} b 1 0 + length (rows_of n rows)) [ true ↦ omega arith | false ↦ omega arith ]

  -- two rows of one number in a list, behind as many rows of that number, are at the same place
  same_place : (n : ℕ) (a b c d : List (Row M O)) (r q : Row M O) → a ++ r ∷ b ≡ c ++ q ∷ d → r.who ≡ n → q.who ≡ n → length (rows_of n a) ≡ length (rows_of n c) → (a ≡ c) × (r ≡ q)
  same_place n [] b [] d r q e rn qn same = (refl, (let one : r ≡ q = cc in one))
  same_place n [] b (x ∷ c) d r q e rn qn same =
      let head : r ≡ x = cc in
      let one : cond {A = ℕ} (eqb x.who n) 1 0 ≡ 1 = ap (λ k. cond {A = ℕ} k 1 0) (eq-eqb x.who n (ap (λ (y : Row M O). y.who) (sym head) ∙ rn)) in
      absurd (omega (arith, same, count_first n x c, one))
  same_place n (x ∷ a) b [] d r q e rn qn same =
      let head : x ≡ q = cc in
      let one : cond {A = ℕ} (eqb x.who n) 1 0 ≡ 1 = ap (λ k. cond {A = ℕ} k 1 0) (eq-eqb x.who n (ap (λ (y : Row M O). y.who) head ∙ qn)) in
      absurd (omega (arith, same, count_first n x a, one))
  same_place n (x ∷ a) b (y ∷ c) d r q e rn qn same =
      let head : x ≡ y = cc in
      let tail : a ++ r ∷ b ≡ c ++ q ∷ d = cc in
      let one : cond {A = ℕ} (eqb x.who n) 1 0 ≡ cond {A = ℕ} (eqb y.who n) 1 0 = ap (λ (z : Row M O). cond {A = ℕ} (eqb z.who n) 1 0) head in
      let rest = same_place n a b c d r q tail rn qn (omega (arith, same, count_first n x a, count_first n y c, one)) in
      ((λ i. head i ∷ rest.0 i), rest.1)

module _ {A M O : Type 0} {g : Ghosts A M O} {h : MailGhosts M} where
  -- what serves on behalf of a shell that made as many rows serves on behalf of the one before it
  serves_back : (next : Port M O h) (s u : Shell A M O g h) → u.port.who ≡ s.port.who → KeepsReplay s u → length (made u.port) ≤ length (made s.port) → Serves next u → Serves next s
  serves_back next s u who keeps fewer later = record {
    each = λ prefix r rest is own new.
        let new' : length (made u.port) ≤ length (rows_of u.port.who prefix) = subst (λ n. length (made u.port) ≤ length (rows_of n prefix)) (sym who) (omega (arith, fewer, new)) in
        let i = later.each prefix r rest is (own ∙ sym who) new' in
        record { number = i.number; event = i.event; first = i.first; within = i.within; by_table = λ birth rep. i.by_table birth (keeps birth rep) };
  }

  -- a shell of whose rows all were seen has made none since
  over_serves : (next : Port M O h) (s : Shell A M O g h) → IsOver next s → Serves next s
  over_serves next s over = record {
    each = λ prefix r rest is own new.
        let total : length (rows_of s.port.who (seen next)) ≡ length (made s.port) = ap length over.own in
        absurd (omega (arith, total, ap (λ l. length (rows_of s.port.who l)) is, count_split s.port.who prefix rest r own, new));
  }

  module _ (net next : Port M O h) (looked : Looked net next) (first : net.who ≡ 0) (addressed : IsAddressed next) where
    -- one turn that made a row
    module _ (s u : Shell A M O g h) (ahead : IsAhead net s) (up : StartsWith (seen next) (seen u.port)) (one : SameExchange s.port net) (goes : GoesByDeliveries s u) (at : ℕ) (free : s.spent ≡ false) (x : Takes (state s) (state u) 1 (Did at)) where
      abbrev row : Row M O
      row = row_at (state s) (Deliver x.1.number) (Some (Got x.1.mail))

      abbrev place : List (Row M O)
      place = x.2.0.before

      stands : seen next ≡ place ++ row ∷ up.0
      stands = up.1 ∙ (ap (λ l. l ++ up.0) x.2.0.seen ∙ append_assoc place (row ∷ []) up.0)

      made_one : length (made u.port) ≡ length (made s.port) + 1
      made_one = ap length x.2.0.made ∙ length-append (made s.port) (row ∷ [])

      count_u : length (rows_of s.port.who (seen u.port)) ≡ length (made s.port) + 1
      count_u = ap (λ n. length (rows_of n (seen u.port))) (sym x.2.0.stays.who) ∙ (own_length u.port ∙ made_one)

      count_place : length (rows_of s.port.who place) ≡ length (made s.port)
      count_place = omega (arith, count_u, ap (λ l. length (rows_of s.port.who l)) x.2.0.seen, count_split s.port.who place [] row refl)

      place_later : StartsWith (seen next) place
      place_later = (row ∷ up.0, stands)

      -- the fetch was before the row
      fetch_later : StartsWith place x.1.rows
      fetch_later =
          ⊎_elim (λ e. absurd (omega (arith, ap (λ l. length (rows_of s.port.who l)) e, count_split s.port.who place [] row refl, count_place, ap length x.1.own))) (λ q. q)
          (prefix_snoc place x.1.rows row (subst (λ l. StartsWith l x.1.rows) x.2.0.seen x.1.before))

      own_place : rows_of s.port.who place ≡ made s.port
      own_place =
          list_same s.port.who place (seen s.port) x.2.0.later (omega (arith, count_place, ap length ahead.own)) ∙ ahead.own

      addressed_place : all_addressed h.receiver [] place ≡ true
      addressed_place =
          (and_parts (all_addressed h.receiver [] place) (all_addressed h.receiver (mails place) (row ∷ up.0)) (sym (all_addressed-append h.receiver [] place (row ∷ up.0)) ∙ (ap (all_addressed h.receiver []) (sym stands) ∙ addressed))).0

      first_there : kth_pending h.receiver s.port.actors place s.port.who 1 ≡ Some x.1.number
      first_there =
          first_stays h.receiver s.port.actors x.1.rows place s.port.who x.1.number fetch_later (λ z. let some = s.numbered in absurd (omega (arith, z, some))) (omega (arith, count_place, ap length x.1.own))
          (net_same net next x.1.rows place looked first (starts_trans x.1.rows (seen s.port) (seen net) x.1.later ahead.begins) fetch_later place_later) addressed_place x.1.kth

      mail_there : numbered (mails place) x.1.number ≡ Some x.1.mail
      mail_there = ap (λ l. numbered (mails l) x.1.number) fetch_later.1 ∙ numbered_more x.1.rows fetch_later.0 x.1.number x.1.mail x.1.mail_is

      value_is : (birth : A) → IsReplay s birth → s.actor ≡ value g.table (record { who = s.port.who; actor = birth }) place
      value_is birth r = replay_over g.table s.port place x.2.0.later own_place s.actor birth (r (inl free))

      row_is : (birth : A) → IsReplay s birth → row ≡ row_of g.table (record { who = s.port.who; actor = birth }) place (Deliver x.1.number)
      row_is birth r = λ i. record { who = s.port.who; event = Deliver x.1.number; sent = (acted g.table (value_is birth r i) (sym (ap (option_map Got) mail_there) i)).1 }

      actors_are : next.actors ≡ s.port.actors
      actors_are = looked.stays.exchange.1 ∙ one.1

      limit_is : next.limit ≡ s.port.limit
      limit_is = looked.stays.exchange.2 ∙ one.2

      service : IsService s next.actors next.limit place row
      service = record {
        number = x.1.number;
        event = refl;
        first = ap (λ n. kth_pending h.receiver n place s.port.who 1) actors_are ∙ first_there;
        within = subst (λ n. journal_bytes h.weighs (place ++ row ∷ []) ≤ n) (sym limit_is) (subst (λ l. journal_bytes h.weighs l ≤ s.port.limit) x.2.0.seen x.2.6);
        by_table = row_is;
      }

      -- the shell has seen of its actor just the rows that it made
      did_own : rows_of u.port.who (seen u.port) ≡ made u.port
      did_own =
          let mine : rows_of s.port.who (row ∷ []) ≡ row ∷ [] = ap (λ b. cond b (row ∷ []) []) (eq-eqb s.port.who s.port.who refl) in
          (λ i. rows_of (x.2.0.stays.who i) (x.2.0.seen i)) ∙ (rows_of-append s.port.who place (row ∷ []) ∙ ((λ i. own_place i ++ mine i) ∙ sym x.2.0.made))

      -- this row is a service, and the later ones are
      did_serves : Serves next u → Serves next s
      did_serves later = record {
        each = λ prefix r rest is own new.
            ⊎_elim
            (λ more.
            let new' : length (made u.port) ≤ length (rows_of u.port.who prefix) = subst (λ n. length (made u.port) ≤ length (rows_of n prefix)) (sym goes.stays.who) (omega (arith, more.1, made_one)) in
            let i = later.each prefix r rest is (own ∙ sym goes.stays.who) new' in
            let back : IsService s next.actors next.limit prefix r = record { number = i.number; event = i.event; first = i.first; within = i.within; by_table = λ birth rep. i.by_table birth (goes.replay birth rep) } in back)
            (λ less.
            let same = same_place s.port.who prefix rest place up.0 r row (sym is ∙ stands) own refl (omega (arith, less.1, new, count_place)) in
            subst (λ (p : List (Row M O) × Row M O). IsService s next.actors next.limit p.0 p.1) (λ i. (sym same.0 i, sym same.1 i)) service)
            (leb_tells (suc (length (made s.port))) (length (rows_of s.port.who prefix)));
      }

    -- turns that made rows, one after the other
    rows_ahead : (n : ℕ) (s t : Shell A M O g h) → MadeRows n s t → IsAhead net s → StartsWith (seen next) (seen t.port) → SameExchange s.port net → IsAhead net t
    rows_ahead zero s t is ahead up one = subst (IsAhead net) (sym is) ahead
    rows_ahead (suc n) s t w ahead up one =
        let u = w.0 in
        let d = row_did u t w.1.1 in
        let later = took_later u t w.1.1.took in
        let up' = starts_trans (seen next) (seen t.port) (seen u.port) up later in
        let a = rows_ahead n s u w.1.0 ahead up' one in
        record {
          begins = starts_trans (seen t.port) (seen u.port) (seen net) later a.begins;
          own = did_own u t a up (went_of net s u (rows_go n s u w.1.0) one) w.1.1.took.goes d.0 d.1.0 d.1.1;
        }

    rows_serve : (n : ℕ) (s t : Shell A M O g h) → MadeRows n s t → IsAhead net s → StartsWith (seen next) (seen t.port) → SameExchange s.port net → Serves next t → Serves next s
    rows_serve zero s t is ahead up one later = subst (Serves next) is later
    rows_serve (suc n) s t w ahead up one later =
        let u = w.0 in
        let d = row_did u t w.1.1 in
        let up' = starts_trans (seen next) (seen t.port) (seen u.port) up (took_later u t w.1.1.took) in
        rows_serve n s u w.1.0 ahead up' one
        (did_serves u t (rows_ahead n s u w.1.0 ahead up' one) up (went_of net s u (rows_go n s u w.1.0) one) w.1.1.took.goes d.0 d.1.0 d.1.1 later)

    -- all turns of a shell
    worked_serves : (n : ℕ) (s t : Shell A M O g h) → Worked n s t → IsAhead net s → StartsWith (seen next) (seen t.port) → SameExchange s.port net → Serves next t → Serves next s
    worked_serves n s t w ahead up one later =
        ⊎_elim
        (λ (is : t ≡ w.last). rows_serve n s w.last w.rows ahead (subst (λ (y : Shell A M O g h). StartsWith (seen next) (seen y.port)) is up) one (subst (Serves next) is later))
        (λ (p : Took w.last t × (made t.port ≡ made w.last.port)). rows_serve n s w.last w.rows ahead (starts_trans (seen next) (seen t.port) (seen w.last.port) up (took_later w.last t p.0)) one
        (serves_back next w.last t p.0.goes.stays.who p.0.goes.replay (omega (arith, ap length p.1)) later))
        w.end

  -- a round
  pub round_serves : (net next : Port M O h) (ss before ts after : List (Shell A M O g h)) → length before ≡ length ss → length ts ≡ length before → length after ≡ length ts → Looked net next → net.who ≡ 0 → AllStill ss before → AllAhead net before → AllWorked before ts → AllStill ts after → IsGathered next after → AllOf net ss → AllServe next ss
  round_serves net next ss before ts after l m n looked first still ahead worked later gathered one k d lt =
      let s = get_or ss k d in let b = get_or before k d in let t = get_or ts k d in let a = get_or after k d in
      let begun = still k d lt in
      let end = later k d (omega (arith, lt, l, m)) in
      let over = gathered.over k d (omega (arith, lt, l, m, n)) in
      let w = worked k d (omega (arith, lt, l)) in
      serves_back next s b begun.goes.stays.who begun.goes.replay (omega (arith, ap length begun.made))
      (worked_serves net next looked first gathered.addressed w.0 b t w.1 (ahead k d (omega (arith, lt, l))) (starts_trans (seen next) (seen a.port) (seen t.port) over.begins end.later) (went_of net s b begun.goes (one k d lt))
      (serves_back next t a end.goes.stays.who end.goes.replay (omega (arith, ap length end.made)) (over_serves next a over)))

  -- two rounds, one after the other
  serves_then : (net next : Port M O h) (start mid : Shell A M O g h) → Looked net next → GoesByDeliveries start mid → IsOver net mid → Serves net start → Serves next mid → Serves next start
  serves_then net next start mid looked goes over first second = record {
    each = λ prefix r rest is own new.
        ⊎_elim (λ q. earlier prefix r rest q.0 own new q.1) (λ p. later prefix r rest is own p)
        (cut_in (seen net) looked.later.0 prefix rest r (sym looked.later.1 ∙ is));
  }
    where
      earlier : (prefix : List (Row M O)) (r : Row M O) (rest left : List (Row M O)) → r.who ≡ start.port.who → length (made start.port) ≤ length (rows_of start.port.who prefix) → seen net ≡ prefix ++ r ∷ left → IsService start next.actors next.limit prefix r
      earlier prefix r rest left own new is = subst (λ (n : ℕ × ℕ). IsService start n.0 n.1 prefix r) (λ i. (sym looked.stays.exchange.1 i, sym looked.stays.exchange.2 i)) (first.each prefix r left is own new)

      later : (prefix : List (Row M O)) (r : Row M O) (rest : List (Row M O)) → seen next ≡ prefix ++ r ∷ rest → r.who ≡ start.port.who → StartsWith prefix (seen net) → IsService start next.actors next.limit prefix r
      later prefix r rest is own p =
          let new : length (made mid.port) ≤ length (rows_of mid.port.who prefix) = omega (arith, ap length over.own, count_later mid.port.who prefix (seen net) p) in
          let s = second.each prefix r rest is (own ∙ sym goes.stays.who) new in
          record { number = s.number; event = s.event; first = s.first; within = s.within; by_table = λ birth rep. s.by_table birth (goes.replay birth rep) }

  -- the same of all shells
  pub all_serve_then : (net next : Port M O h) (start mid : List (Shell A M O g h)) → length mid ≡ length start → Looked net next → AllGo start mid → AllOver net mid → AllServe net start → AllServe next mid → AllServe next start
  all_serve_then net next start mid l looked go over first second k d lt =
      serves_then net next (get_or start k d) (get_or mid k d) looked (go k d lt) (over k d (omega (arith, lt, l))) (first k d lt) (second k d (omega (arith, lt, l)))

  -- at the beginning no row was made
  pub none_serve : (net : Port M O h) (start ss : List (Shell A M O g h)) → length ss ≡ length start → AllStill start ss → AllOver net ss → AllServe net start
  none_serve net start ss l still over k d lt =
      let s = still k d lt in
      serves_back net (get_or start k d) (get_or ss k d) s.goes.stays.who s.goes.replay (omega (arith, ap length s.made)) (over_serves net (get_or ss k d) (over k d (omega (arith, lt, l))))

-- An exchange at its end.
use Rattle.std.proofs.Common.{◌≡◌, ◌≢◌, ℕ, suc, ◌<◌, Bool, true, false, true≢false, eqb, ◌||◌, List, [], ◌∷◌, ◌++◌, length, map, get_or, refl, sym, ap, ◌∙◌, subst, arith, Contains}
use mathlib.Core.Logic.{dite}
use native.Mathlib.Decide.{ℕ_discrete}
use Rattle.std.proofs.lemmas.Bool.{eqb-true}
use Rattle.std.proofs.lemmas.List.{append-nil}
use Rattle.sc_thread_ports.specs.turn.Turn.{StartsWith}
use Rattle.sc_actor.specs.declared.actors.Actor.{Ghosts}
use Rattle.sc_actor.specs.declared.actors.Parcel.{Ghosts as MailGhosts}
use Rattle.sc_actor.specs.declared.rows.Row.{Row}
use Rattle.sc_thread_ports.specs.declared.exchange.ports.Port.{Port}
use Rattle.sc_thread_ports.specs.exchange.BareRows.{rows_of}
use Rattle.sc_thread_ports.specs.exchange.Ports.{seen, made, given, joined_ports, SameExchange, IsTrue}
use Rattle.sc_thread_work.specs.declared.shell.shells.Shell.{Shell}
use Rattle.sc_thread_workers.specs.Crews.{AllOver, crew_numbers}
use Rattle.sc_thread_workers.proofs.ChangedLists.{one_of}
use Rattle.sc_thread_workers.proofs.Attending.{count_split}
use Rattle.sc_thread_drive.specs.Numbers.{is_in}
use Rattle.sc_thread_drive.proofs.RowCounts.{not_in}
use Rattle.sc_thread_ports.proofs.TurnProofs.ListPrefixes.{starts_trans}

module _ {M O : Type 0} where
  -- a list that begins with another and has no more rows of any number is that one
  pub no_more : (whole prefix : List (Row M O)) → StartsWith whole prefix → ((n : ℕ) → length (rows_of n whole) ≡ length (rows_of n prefix)) → whole ≡ prefix
  no_more whole prefix begins same = by begins.0 begins.1
    where
      by : (rest : List (Row M O)) → whole ≡ prefix ++ rest → whole ≡ prefix
      by [] e = e ∙ append-nil prefix
      by (row ∷ rest) e =
          absurd (omega (arith, same row.who, ap (λ l. length (rows_of row.who l)) e, count_split row.who prefix rest row refl))

module _ {A M O : Type 0} {g : Ghosts A M O} {h : MailGhosts M} where
  -- what the ports of shells made
  abbrev pub ports : List (Shell A M O g h) → List (ℕ × List (Row M O))
  ports ss = map (λ s. (s.port.who, made s.port)) ss

  -- the first shells' ports were joined
  pub record Ending (net now : Port M O h) (done : List (Shell A M O g h)) : Type 0 where
    pub exchange : SameExchange net now
    pub first : now.who ≡ 0
    pub given : given now ≡ given net
    pub made : made now ≡ made net
    pub joined : joined_ports now ≡ ports done
    pub later : StartsWith (seen now) (seen net)

  firsts_are : (ss : List (Shell A M O g h)) → map (λ (k : ℕ × List (Row M O)). k.0) (ports ss) ≡ crew_numbers ss
  firsts_are [] = refl
  firsts_are (s ∷ ss) = ap (λ l. s.port.who ∷ l) (firsts_are ss)

  -- a shell of this number
  record Numbered (n : ℕ) (ss : List (Shell A M O g h)) : Type 0 where
    pub place : ℕ
    pub inside : place < length ss
    pub number : (d : Shell A M O g h) → (get_or ss place d).port.who ≡ n
    pub port : (d : ℕ × List (Row M O)) (e : Shell A M O g h) → get_or (ports ss) place d ≡ ((get_or ss place e).port.who, made (get_or ss place e).port)
    pub within : place < length (ports ss)

  at_number : (n : ℕ) (ss : List (Shell A M O g h)) → is_in n (crew_numbers ss) ≡ true → Numbered n ss
  at_number n [] there = absurd (true≢false (sym there))
  at_number n (s ∷ ss) there = by (eqb n s.port.who) refl (at_number n ss)
    where
      by : (b : Bool) → eqb n s.port.who ≡ b → (is_in n (crew_numbers ss) ≡ true → Numbered n ss) → Numbered n (s ∷ ss)
      by true e rest = record { place = 0; inside = omega arith; number = λ d. sym (eqb-true n s.port.who e); port = λ d f. refl; within = omega arith }
      by false e rest =
          let r = rest (ap (λ b. b || is_in n (crew_numbers ss)) (sym e) ∙ there) in
          record { place = suc r.place; inside = omega (arith, r.inside); number = r.number; port = r.port; within = omega (arith, r.within) }

  module _ (net now : Port M O h) (ss : List (Shell A M O g h)) (e : Ending net now ss) (first : net.who ≡ 0) (all : given net ≡ crew_numbers ss) (over : AllOver net ss) (rows : IsTrue net) where
    -- each port that was split off was joined
    pub all_joined : (n : ℕ) → Contains (given now) n → Contains (map (λ (k : ℕ × List (Row M O)). k.0) (joined_ports now)) n
    all_joined n c = subst (λ l. Contains l n) (e.given ∙ (all ∙ (sym (firsts_are ss) ∙ ap (map (λ (k : ℕ × List (Row M O)). k.0)) (sym e.joined)))) c

    module _ (journal : List (Row M O)) (later : StartsWith journal (seen now)) (own : rows_of 0 journal ≡ made now) (each : (k : ℕ × List (Row M O)) → Contains (joined_ports now) k → rows_of k.0 journal ≡ k.1) (others : (n : ℕ) → n ≢ 0 → ¬ Contains (given now) n → rows_of n journal ≡ []) where
      of_shell : (n : ℕ) → is_in n (crew_numbers ss) ≡ true → rows_of n journal ≡ rows_of n (seen net)
      of_shell n there =
          let at = at_number n ss there in
          let d = one_of ss at.place at.inside in
          let port : ℕ × List (Row M O) = ((get_or ss at.place d).port.who, made (get_or ss at.place d).port) in
          let has : Contains (joined_ports now) port = subst (λ (l : List (ℕ × List (Row M O))). Contains l port) (sym e.joined) (at.place, at.within, at.port port d) in
          let mine : rows_of (get_or ss at.place d).port.who journal ≡ rows_of (get_or ss at.place d).port.who (seen net) = each port has ∙ sym (over at.place d at.inside).own in
          subst (λ (m : ℕ). rows_of m journal ≡ rows_of m (seen net)) (at.number d) mine

      of_none : (n : ℕ) → n ≢ 0 → is_in n (crew_numbers ss) ≡ false → rows_of n journal ≡ rows_of n (seen net)
      of_none n ne out =
          let away : ¬ Contains (given net) n = λ c. not_in n (crew_numbers ss) out (subst (λ l. Contains l n) all c) in
          others n ne (λ c. away (subst (λ l. Contains l n) e.given c)) ∙ sym (rows.others first n ne away)

      of_net : (n : ℕ) → n ≡ 0 → rows_of n journal ≡ rows_of n (seen net)
      of_net n z =
          let mine : rows_of 0 journal ≡ rows_of 0 (seen net) = own ∙ (e.made ∙ (sym rows.own ∙ ap (λ m. rows_of m (seen net)) first)) in
          subst (λ m. rows_of m journal ≡ rows_of m (seen net)) (sym z) mine

      same_rows : (n : ℕ) → rows_of n journal ≡ rows_of n (seen net)
      same_rows n = dite (ℕ_discrete n 0) (of_net n) (λ ne. by ne (is_in n (crew_numbers ss)) refl)
        where
          by : n ≢ 0 → (b : Bool) → is_in n (crew_numbers ss) ≡ b → rows_of n journal ≡ rows_of n (seen net)
          by ne true there = of_shell n there
          by ne false out = of_none n ne out

      -- the journal is what the network's port had seen
      pub journal_is : journal ≡ seen net
      journal_is = no_more journal (seen net) (starts_trans journal (seen now) (seen net) later e.later) (λ n. ap length (same_rows n))

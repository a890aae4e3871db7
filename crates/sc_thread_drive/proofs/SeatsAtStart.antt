-- An exchange at its beginning.
use Rattle.std.proofs.Common.{◌≡◌, ℕ, zero, suc, ◌<◌, ◌≤◌, true, false, true≢false, eqb, eq-eqb, not, List, [], ◌∷◌, ◌++◌, length, take, get_or, refl, sym, ap, ◌∙◌, subst, arith, Contains}
use Rattle.std.specs.List.{All, list_any}
use Rattle.std.proofs.lemmas.Bool.{and_parts, or_parts, not-true}
use Rattle.std.proofs.lemmas.List.{map-append}
use Rattle.std.proofs.lemmas.List.Elements.{All-push}
use Rattle.sc_actor.specs.declared.actors.Actor.{Ghosts}
use Rattle.sc_actor.specs.declared.actors.Parcel.{Ghosts as MailGhosts}
use Rattle.sc_actor.specs.declared.actors.Seat.{Seat}
use Rattle.sc_actor.specs.System.{numbers_of, are_apart}
use Rattle.sc_thread_ports.specs.declared.exchange.ports.Port.{Port}
use Rattle.sc_thread_ports.specs.exchange.Ports.{made, given, joined_ports, SameExchange}
use Rattle.sc_thread_work.specs.declared.shell.shells.Shell.{Shell}
use Rattle.sc_thread_workers.specs.Crews.{AllOf, crew_numbers}
use Rattle.sc_thread_drive.specs.Companies.{AtBirth, seats}
use Rattle.sc_thread_drive.specs.ExchangeStarts.{Seated}

-- a list is what comes before an element, the element, and what follows
pub cut_at : {X : Type 0} (xs : List X) (n : ℕ) (x : X) → n < length xs → x ≡ get_or xs n x → (rest : List X) × (xs ≡ take n xs ++ x ∷ rest)
cut_at [] n x lt is = absurd (omega arith)
cut_at (y ∷ ys) zero x lt is = (ys, ap (λ z. z ∷ ys) (sym is))
cut_at (y ∷ ys) (suc n) x lt is = let c = cut_at ys n x (omega (arith, lt)) is in (c.0, ap (λ l. y ∷ l) c.1)

module _ {A : Type 0} where
  none_has : (n : ℕ) (prefix : List (Seat A)) (seat : Seat A) (rest : List (Seat A)) → list_any (λ (other : Seat A). eqb other.who n) (prefix ++ seat ∷ rest) ≡ false → eqb seat.who n ≡ false
  none_has n [] seat rest e = (or_parts (eqb seat.who n) (list_any (λ (other : Seat A). eqb other.who n) rest) e).0
  none_has n (f ∷ prefix) seat rest e = none_has n prefix seat rest (or_parts (eqb f.who n) (list_any (λ (other : Seat A). eqb other.who n) (prefix ++ seat ∷ rest)) e).1

  -- a seat's number is none of those before it
  pub new_number : (prefix : List (Seat A)) (seat : Seat A) (rest : List (Seat A)) → are_apart (prefix ++ seat ∷ rest) ≡ true → ¬ Contains (numbers_of prefix) seat.who
  new_number [] seat rest far = λ c. absurd (omega (arith, c.1))
  new_number (f ∷ prefix) seat rest far = λ c. at c.0 c.1 c.2 (new_number prefix seat rest)
    where
      parts : (not (list_any (λ (other : Seat A). eqb other.who f.who) (prefix ++ seat ∷ rest)) ≡ true) × (are_apart (prefix ++ seat ∷ rest) ≡ true)
      parts = and_parts (not (list_any (λ (other : Seat A). eqb other.who f.who) (prefix ++ seat ∷ rest))) (are_apart (prefix ++ seat ∷ rest)) far

      at : (i : ℕ) → i < length (numbers_of (f ∷ prefix)) → get_or (numbers_of (f ∷ prefix)) i seat.who ≡ seat.who → (are_apart (prefix ++ seat ∷ rest) ≡ true → ¬ Contains (numbers_of prefix) seat.who) → ⊥
      at zero lt is before = true≢false (sym (eq-eqb seat.who f.who (sym is)) ∙ none_has f.who prefix seat rest (not-true (list_any (λ (other : Seat A). eqb other.who f.who) (prefix ++ seat ∷ rest)) parts.0))
      at (suc i) lt is before = before parts.1 (i, omega (arith, lt), is)

module _ {M O : Type 0} {h : MailGhosts M} where
  -- ports of one exchange
  pub same_then : (p q r : Port M O h) → SameExchange p q → SameExchange q r → SameExchange p r
  same_then p q r a b = (b.0 ∙ a.0, b.1 ∙ a.1, b.2 ∙ a.2)

  -- the other way round
  pub same_back : (p q : Port M O h) → SameExchange p q → SameExchange q p
  same_back p q a = (sym a.0, sym a.1, sym a.2)

module _ {A M O : Type 0} {g : Ghosts A M O} {h : MailGhosts M} where
  -- the shells of the first seats
  pub record Begun (many most : ℕ) (done : List (Seat A)) (net : Port M O h) (ss : List (Shell A M O g h)) : Type 0 where
    pub first : net.who ≡ 0
    pub exchange : AllOf net ss
    pub all : given net ≡ crew_numbers ss
    pub born : seats ss ≡ done
    pub unmade : made net ≡ []
    pub unjoined : joined_ports net ≡ []
    pub fresh : All (λ (s : Shell A M O g h). (made s.port ≡ []) × (s.spent ≡ false)) ss
    pub actors : net.actors ≡ many
    pub limit : net.limit ≡ most

  numbers_are : (ss : List (Shell A M O g h)) → numbers_of (seats ss) ≡ crew_numbers ss
  numbers_are [] = refl
  numbers_are (s ∷ ss) = ap (λ l. s.port.who ∷ l) (numbers_are ss)

  module _ (actors limit : ℕ) (births done : List (Seat A)) (net : Port M O h) (ss : List (Shell A M O g h)) (b : Begun actors limit done net ss) (n : ℕ) (so_far : done ≡ take n births) (seat : Seat A) (lt : n < length births) (is : seat ≡ get_or births n seat) where
    -- the next seat's number was not given
    pub not_given : are_apart births ≡ true → ¬ Contains (given net) seat.who
    not_given far =
        let cut = cut_at births n seat lt is in
        let apart_ : are_apart (done ++ seat ∷ cut.0) ≡ true = subst (λ l. are_apart l ≡ true) (cut.1 ∙ ap (λ l. l ++ seat ∷ cut.0) (sym so_far)) far in
        let same : numbers_of done ≡ given net = ap numbers_of (sym b.born) ∙ (numbers_are ss ∙ sym b.all) in
        subst (λ l. ¬ Contains l seat.who) same (new_number done seat cut.0 apart_)

  -- and one more seat
  pub begun_more : (actors limit : ℕ) (done : List (Seat A)) (net next : Port M O h) (ss : List (Shell A M O g h)) (seat : Seat A) (s : Shell A M O g h) → Begun actors limit done net ss → Seated net next seat s → Begun actors limit (done ++ seat ∷ []) next (ss ++ s ∷ [])
  begun_more actors limit done net next ss seat s b t = record {
    first = t.first;
    exchange = All-push (λ (x : Shell A M O g h). SameExchange x.port next) ss s (λ k d lt. same_then (get_or ss k d).port net next (b.exchange k d lt) t.exchange) (same_then s.port net next (same_back net s.port t.port.0) t.exchange);
    all = t.given ∙ ((λ i. b.all i ++ sym t.port.1 i ∷ []) ∙ sym (map-append (λ (x : Shell A M O g h). x.port.who) ss (s ∷ [])));
    born = map-append (λ (x : Shell A M O g h). record { who = x.port.who; actor = x.actor }) ss (s ∷ []) ∙ (λ i. b.born i ++ record { who = t.port.1 i; actor = t.actor i } ∷ []);
    unmade = t.made ∙ b.unmade;
    unjoined = t.joined ∙ b.unjoined;
    fresh = All-push (λ (x : Shell A M O g h). (made x.port ≡ []) × (x.spent ≡ false)) ss s b.fresh t.fresh;
    actors = t.exchange.1 ∙ b.actors;
    limit = t.exchange.2 ∙ b.limit;
  }

  -- all are seated
  pub at_birth : (actors limit : ℕ) (births : List (Seat A)) (net : Port M O h) (ss : List (Shell A M O g h)) → Begun actors limit births net ss → are_apart births ≡ true → All (λ (s : Seat A). (0 < s.who) × (s.who ≤ actors)) births → AtBirth births net ss
  at_birth actors limit births net ss b far numbered = record {
    crew = record { first = b.first; exchange = b.exchange; sound = λ k d lt spent. absurd (true≢false (sym spent ∙ (b.fresh k d lt).1)) };
    all = b.all;
    born = b.born;
    far = far;
    numbered = subst (λ n. All (λ (s : Seat A). (0 < s.who) × (s.who ≤ n)) births) (sym b.actors) numbered;
    unmade = b.unmade;
    fresh = b.fresh;
  }

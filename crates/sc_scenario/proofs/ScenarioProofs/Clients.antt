-- Clients in order of number.
use Rattle.std.proofs.Common.{◌≡◌, ℕ, suc, ◌+◌, ◌<◌, ◌≤◌, true, false, eqb, ltb, List, [], ◌∷◌, take, drop, inl, inr, sym, ◌∙◌, subst, arith}
use Rattle.std.specs.List.{All, AllPairs, insert}
use Rattle.std.proofs.lemmas.Bool.{cases_Bool, cond-true, cond-false, ltb-true, ltb-false, or_parts, eqb-false}
use Rattle.std.proofs.lemmas.List.Kept.{AllPairs-cons}
use Rattle.std.proofs.lemmas.List.Elements.{All-cons, All-append, All-take, All-drop, All-weaker}
use Rattle.sc_scenario.specs.scenario.Definitions.{is_client, client_place}
use Rattle.sc_scenario.specs.declared.scenario.scenarios.Asks.{Asks}
use Rattle.sc_base.proofs.Lemmas.{AllPairs-head, AllPairs-tail}

-- clients in order of number
abbrev pub Below : Asks → Asks → Type 0
Below one other = one.client < other.client

place_here : (client : ℕ) (other : Asks) (others : List Asks) → ltb client other.client ≡ true → client_place client (other ∷ others) ≡ 0
place_here client other others t = cond-true (ltb client other.client) 0 (1 + client_place client others) t

place_later : (client : ℕ) (other : Asks) (others : List Asks) → ltb client other.client ≡ false → client_place client (other ∷ others) ≡ suc (client_place client others)
place_later client other others f = cond-false (ltb client other.client) 0 (1 + client_place client others) f ∙ (omega arith)

-- what holds of all and of one more holds where it is put among them
pub all_inserted : (P : Asks → Type 0) (xs : List Asks) (i : ℕ) (y : Asks) → All P xs → P y → All P (insert xs i y)
all_inserted P xs i y all here = All-append P (take i xs) (y ∷ drop i xs) (All-take P i xs all) (All-cons P y (drop i xs) here (All-drop P i xs all))

-- clients stay in order with one more in its place
pub rising_with : (asks : Asks) (clients : List Asks) → AllPairs Below clients → is_client clients asks.client ≡ false → AllPairs Below (insert clients (client_place asks.client clients) asks)
rising_with asks [] up absent = AllPairs-cons Below asks [] (λ k d within. absurd (omega arith)) up
rising_with asks (other ∷ others) up absent =
    let parts = or_parts (eqb other.client asks.client) (is_client others asks.client) absent in
    let differ = eqb-false other.client asks.client parts.0 in
    let rest = rising_with asks others (AllPairs-tail Below other others up) parts.1 in
    let over = AllPairs-head Below other others up in
    elim (cases_Bool (ltb asks.client other.client)) [
      | inl t ↦ (
          let lt : asks.client < other.client = ltb-true asks.client other.client t in
          subst (λ i. AllPairs Below (insert (other ∷ others) i asks)) (sym (place_here asks.client other others t))
          (AllPairs-cons Below asks (other ∷ others) (All-cons (Below asks) other others lt (All-weaker (Below other) (Below asks) (λ x h. omega arith) others over)) up))
      | inr f ↦ (
          let ge : other.client ≤ asks.client = ltb-false asks.client other.client f in
          let lt : other.client < asks.client = omega (arith, ge, differ) in
          subst (λ i. AllPairs Below (insert (other ∷ others) i asks)) (sym (place_later asks.client other others f))
          (AllPairs-cons Below other (insert others (client_place asks.client others) asks) (all_inserted (Below other) others (client_place asks.client others) asks over lt) rest))
    ]

-- What a clause says of a port, from what its seat knows.
use Rattle.std.proofs.Common.{◌≡◌, ◌≢◌, ℕ, ◌<◌, ◌≤◌, zero, suc, Bool, true, false, List, [], ◌∷◌, ◌++◌, map, length, get_or, length-append, refl, sym, ap, ◌∙◌, subst, arith, Contains, MatchBool}
use Rattle.std.proofs.lemmas.List.{map-append, length-map, append-nil}
use Rattle.sc_thread_ports.specs.declared.turn.rule.View.{View}
use Rattle.sc_thread_ports.specs.turn.TurnDefinitions.{StartsWith, rows_by, merged_seen, with_seen, entered_with, IsTrueOf, IsTrueOver, known, OfOneStart}
use Rattle.sc_thread_ports.proofs.TurnProofs.TurnLemmas.{starts_trans}
use Rattle.sc_actor.specs.declared.rows.Row.{Row}
use Rattle.sc_actor.specs.declared.actors.Parcel.{Ghosts}
use Rattle.sc_actor.specs.Definitions.{journal_bytes}
use Rattle.sc_thread_ledger.specs.declared.errors.PostError.{PostError}
use Rattle.sc_thread_ledger.specs.LedgerDefinitions.{IsCause}
use Rattle.sc_thread_ports.specs.declared.exchange.shared.BareRow.{BareRow}
use Rattle.sc_thread_ports.specs.declared.exchange.fates.Fate.{Fate}
use Rattle.sc_thread_ports.specs.declared.exchange.ports.Port.{Port}
use Rattle.sc_thread_ports.specs.exchange.ExchangeDefinitions.{bare_rows, row_by, rows_from, rows_of, Turned, RowTurned, Changed, may_change, change, seen, made, joined_ports, Stays, Looked, Appended, ChangedBy, MayNotChange, IsTrue}
use Rattle.sc_thread_ports.proofs.ExchangeProofs.Done.{rows_of_bare, rows_of_from, rows_of-append, begins_rows}
use Rattle.sc_thread_ports.proofs.ExchangeProofs.Views.{bare, row_back, seen_row, own_same, own_row, others_same, others_row}

module _ {M O : Type 0} {g : Ghosts M} where
  -- a turn without a row
  pub looked_after : (p q : Port M O g) → OfOneStart p.seat q.seat → q.who ≡ p.who → q.actors ≡ p.actors → q.limit ≡ p.limit → Turned (known p.seat) (known q.seat) → Looked p q
  looked_after p q start who actors limit t = let v = t.view_is in record {
    stays = record { exchange = (start, actors, limit); who = who; given = ap (λ (x : View (BareRow M O)). x.given) v; joined = ap (λ (x : View (BareRow M O)). map (λ k. (k.0, map (row_by k.0) k.1)) x.joined) v };
    later = begins_rows (known q.seat).seen (known p.seat).seen (subst (λ l. StartsWith l (known p.seat).seen) (ap (λ (x : View (BareRow M O)). x.seen) (sym v)) t.later);
    made = λ i. map (row_by (who i)) (v i).made;
  }

  -- a turn with a row or without
  pub stays_after : (p q : Port M O g) → OfOneStart p.seat q.seat → q.who ≡ p.who → q.actors ≡ p.actors → q.limit ≡ p.limit → ((known q.seat).given ≡ (known p.seat).given) × ((known q.seat).joined ≡ (known p.seat).joined) → Stays p q
  stays_after p q start who actors limit k = record { exchange = (start, actors, limit); who = who; given = k.0; joined = ap (map (λ (x : ℕ × List (BareRow M O)). (x.0, map (row_by x.0) x.1))) k.1 }

  -- a meeting
  pub looked_met : (p q : Port M O g) → OfOneStart p.seat q.seat → q.who ≡ p.who → q.actors ≡ p.actors → q.limit ≡ p.limit → known q.seat ≡ with_seen (known p.seat) (known q.seat).seen → StartsWith (known q.seat).seen (known p.seat).seen → Looked p q
  looked_met p q start who actors limit v later = record {
    stays = record { exchange = (start, actors, limit); who = who; given = ap (λ (x : View (BareRow M O)). x.given) v; joined = ap (λ (x : View (BareRow M O)). map (λ k. (k.0, map (row_by k.0) k.1)) x.joined) v };
    later = begins_rows (known q.seat).seen (known p.seat).seen later;
    made = λ i. map (row_by (who i)) (v i).made;
  }

  -- a turn with a row
  abbrev pub appended_after : (p q : Port M O g) (row : Row M O) → OfOneStart p.seat q.seat → q.who ≡ p.who → q.actors ≡ p.actors → q.limit ≡ p.limit → row.who ≡ p.who → RowTurned (known p.seat) (known q.seat) row → Appended p q row
  appended_after p q row start who actors limit mine t = let v = t.view_is in record {
    stays = record { exchange = (start, actors, limit); who = who; given = ap (λ (x : View (BareRow M O)). x.given) v; joined = ap (λ (x : View (BareRow M O)). map (λ k. (k.0, map (row_by k.0) k.1)) x.joined) v };
    before = t.rows;
    later = subst (λ l. StartsWith l (seen p)) (rows_of_bare t.rows) (begins_rows (bare_rows t.rows) (known p.seat).seen t.later);
    seen = seen_row (known p.seat) (entered_with (known p.seat) (bare_rows t.rows)) (known q.seat) t.rows row (mine ∙ sym p.number) refl v;
    made = (λ i. map (row_by (who i)) (v i).made) ∙ (map-append (row_by p.who) (known p.seat).made (bare row ∷ []) ∙ ap (λ r. made p ++ r ∷ []) (row_back row p.who mine));
  }

  -- a port that has seen just what it made, as its seat knows it
  pub is_true : (q : Port M O g) → rows_by (known q.seat).who (known q.seat).seen ≡ (known q.seat).made → ((known q.seat).who ≡ 0 → (n : ℕ) → n ≢ 0 → ¬ Contains (known q.seat).given n → rows_by n (known q.seat).seen ≡ []) → IsTrue q
  is_true q own others = record {
    own = rows_of_from q.who (known q.seat).seen ∙ ap (map (row_by q.who)) (ap (λ n. rows_by n (known q.seat).seen) (sym q.number) ∙ own);
    others = λ z n ne away. rows_of_from n (known q.seat).seen ∙ ap (map (row_by n)) (others (q.number ∙ z) n ne away);
  }

  -- after a turn without a row
  pub true_after : (p q : Port M O g) → Turned (known p.seat) (known q.seat) → IsTrue q
  true_after p q t = is_true q (own_same (known p.seat) (known q.seat) t) (others_same (known p.seat) (known q.seat) t)

  -- after a turn with one
  pub true_row : (p q : Port M O g) (row : Row M O) → RowTurned (known p.seat) (known q.seat) row → IsTrue q
  true_row p q row t = is_true q (own_row (known p.seat) (known q.seat) row t) (others_row (known p.seat) (known q.seat) row t)

  -- after a meeting
  pub true_met : (q : Port M O g) → IsTrueOf (known q.seat) (known q.seat).seen → IsTrue q
  true_met q t = is_true q t.own t.others

  changed_after : (fate : Fate) (number : ℕ) (p q : Port M O g) → OfOneStart p.seat q.seat → q.who ≡ p.who → q.actors ≡ p.actors → q.limit ≡ p.limit → p.who ≡ 0 →
      Changed g.receiver p.actors fate number (known p.seat) (known q.seat) → journal_bytes g.weighs (seen q) ≤ p.limit → ChangedBy fate number p q
  changed_after fate number p q start who actors limit net c fits = record {
    appended = appended_after p q (change fate number) start who actors limit (sym net) c.turned;
    may = c.may;
    within = fits;
  }

  -- what the network's change answers
  pub change_answers : (fate : Fate) (number : ℕ) (p q : Port M O g) (done : Bool) → OfOneStart p.seat q.seat → q.who ≡ p.who → q.actors ≡ p.actors → q.limit ≡ p.limit → p.who ≡ 0 →
      MatchBool done (Changed g.receiver p.actors fate number (known p.seat) (known q.seat) × (journal_bytes g.weighs (seen q) ≤ p.limit)) (Turned (known p.seat) (known q.seat) × (may_change fate g.receiver p.actors (seen q) number ≡ false)) →
      MatchBool done (ChangedBy fate number p q) (MayNotChange fate number p q)
  change_answers fate number p q true start who actors limit net m = changed_after fate number p q start who actors limit net m.0 m.1
  change_answers fate number p q false start who actors limit net m = record { looked = looked_after p q start who actors limit m.0; may = m.1 }

  -- then the port has seen of its own number just the rows that it made
  pub change_true : (F G : Type 0) (fate : Fate) (number : ℕ) (p q : Port M O g) (done : Bool) → MatchBool done (Changed g.receiver p.actors fate number (known p.seat) (known q.seat) × F) (Turned (known p.seat) (known q.seat) × G) → IsTrue q
  change_true F G fate number p q true m = true_row p q (change fate number) m.0.turned
  change_true F G fate number p q false m = true_after p q m.0

-- what a port knows that took in another
pub joins : {M O : Type 0} {g : Ghosts M} → (p other : Port M O g) (v : View (BareRow M O)) → v ≡ merged_seen (known p.seat) (known other.seat) →
    map (λ (k : ℕ × List (BareRow M O)). (k.0, map (row_by k.0) k.1)) v.joined ≡ joined_ports p ++ (other.who, made other) ∷ []
joins {M} {O} p other v is =
    let rows : ℕ × List (BareRow M O) → ℕ × List (Row M O) = λ k. (k.0, map (row_by k.0) k.1) in
    ap (λ (x : View (BareRow M O)). map rows x.joined) is
    ∙ (map-append rows (known p.seat).joined (((known other.seat).who, (known other.seat).made) ∷ [])
    ∙ (λ i. joined_ports p ++ (other.number i, map (row_by (other.number i)) (known other.seat).made) ∷ []))

-- the cause of the row that is handed back
pub cause_back : (why other : PostError) (bytes weight again limit : ℕ) → other ≡ why → again ≡ weight → IsCause why bytes weight limit → IsCause other bytes again limit
cause_back why other bytes weight again limit same weighs cause = subst (λ n. IsCause other bytes n limit) (sym weighs) (subst (λ x. IsCause x bytes weight limit) (sym same) cause)

-- at the end
module _ {M O : Type 0} (journal : List (Row M O)) (v : View (BareRow M O)) (facts : IsTrueOf v (bare_rows journal)) (first : v.who ≡ 0) where
  rows_are : (n : ℕ) → rows_of n journal ≡ map (row_by n) (rows_by n (bare_rows journal))
  rows_are n = ap (rows_of n) (sym (rows_of_bare journal)) ∙ rows_of_from n (bare_rows journal)

  -- the network has made its rows
  pub end_own : rows_of 0 journal ≡ map (row_by 0) v.made
  end_own = rows_are 0 ∙ ap (map (row_by 0)) (ap (λ n. rows_by n (bare_rows journal)) (sym first) ∙ facts.own)

  -- no other actor has a row than those that were split off
  pub end_others : (n : ℕ) → n ≢ 0 → ¬ Contains v.given n → rows_of n journal ≡ []
  end_others n ne away = rows_are n ∙ ap (map (row_by n)) (facts.others first n ne away)

  each_map : (xs : List (ℕ × List (BareRow M O))) → ((k : ℕ × List (BareRow M O)) → Contains xs k → rows_of k.0 journal ≡ map (row_by k.0) k.1) → (i : ℕ) (k : ℕ × List (Row M O)) → i < length xs →
      get_or (map (λ (x : ℕ × List (BareRow M O)). (x.0, map (row_by x.0) x.1)) xs) i k ≡ k → rows_of k.0 journal ≡ k.1
  each_map [] h i k lt e = absurd (omega arith)
  each_map (x ∷ xs) h zero k lt e = subst (λ (y : ℕ × List (Row M O)). rows_of y.0 journal ≡ y.1) e (h x (0, omega arith, refl))
  each_map (x ∷ xs) h (suc i) k lt e = each_map xs (λ y c. h y (suc c.0, omega (arith, c.1), c.2)) i k (omega arith) e

  -- each port that was joined has made the rows of its number
  pub end_each : (k : ℕ × List (Row M O)) → Contains (map (λ (x : ℕ × List (BareRow M O)). (x.0, map (row_by x.0) x.1)) v.joined) k → rows_of k.0 journal ≡ k.1
  end_each k c =
      let f : ℕ × List (BareRow M O) → ℕ × List (Row M O) = λ x. (x.0, map (row_by x.0) x.1) in
      each_map v.joined (λ y there. rows_are y.0 ∙ ap (map (row_by y.0)) (facts.joined first y there)) c.0 k (omega (arith, c.1, length-map v.joined f)) c.2

-- the numbers of the ports that were joined, with rows or with bare rows
pub numbers_same : {M O : Type 0} → (xs : List (ℕ × List (BareRow M O))) → map (λ (k : ℕ × List (Row M O)). k.0) (map (λ (x : ℕ × List (BareRow M O)). (x.0, map (row_by x.0) x.1)) xs) ≡ map (λ (k : ℕ × List (BareRow M O)). k.0) xs
numbers_same [] = refl
numbers_same (x ∷ xs) = ap (λ l. x.0 ∷ l) (numbers_same xs)

-- a port that vouches for what another has seen
module _ {M O : Type 0} where
  nothing_more : (xs ys zs : List (Row M O)) → xs ++ ys ≡ zs → length zs ≤ length xs → xs ≡ zs
  nothing_more xs [] zs e le = sym (append-nil xs) ∙ e
  nothing_more xs (y ∷ ys) zs e le = absurd (omega (arith, le, ap length e, length-append xs (y ∷ ys)))

  -- rows of a number in a list between what its port has seen and a list that has just what it made
  pub between : (n : ℕ) (low mid high made : List (Row M O)) → StartsWith mid low → StartsWith high mid → rows_of n high ≡ made → length (rows_of n low) ≡ length made → rows_of n mid ≡ made
  between n low mid high made p q is own =
      nothing_more (rows_of n mid) (rows_of n q.0) made (sym (rows_of-append n mid q.0) ∙ (ap (rows_of n) (sym q.1) ∙ is))
      (omega (arith, own, ap (λ l. length (rows_of n l)) p.1, ap length (rows_of-append n low p.0), length-append (rows_of n low) (rows_of n p.0)))

module _ {M O : Type 0} {g : Ghosts M} where
  -- a port has seen as many rows of its own as it made
  pub own_length : (p : Port M O g) → length (rows_of p.who (seen p)) ≡ length (made p)
  own_length p =
      ap length (rows_of_from p.who (known p.seat).seen)
      ∙ (length-map (rows_by p.who (known p.seat).seen) (row_by p.who) ∙ (p.own ∙ sym (length-map (known p.seat).made (row_by p.who))))

  -- the rows of a port's number in what another has seen are those that it made
  pub vouched : (p : Port M O g) (v : View (BareRow M O)) (other before : List (BareRow M O × ℕ)) → v ≡ known p.seat → other ≡ before → IsTrueOver v other → StartsWith (rows_from before) (seen p) → rows_of p.who (rows_from other) ≡ map (row_by p.who) v.made
  vouched p v other before same is t later =
      let mine : v.who ≡ p.who = ap (λ (x : View (BareRow M O)). x.who) same ∙ p.number in
      let count : length (rows_of p.who (seen p)) ≡ length (map (row_by p.who) v.made) = own_length p ∙ ap (λ (x : View (BareRow M O)). length (map (row_by p.who) x.made)) (sym same) in
      between p.who (seen p) (rows_from other) (rows_from t.list) (map (row_by p.who) v.made) (subst (λ l. StartsWith (rows_from l) (seen p)) (sym is) later) (begins_rows t.list other t.over)
      (rows_of_from p.who t.list ∙ ap (map (row_by p.who)) (ap (λ n. rows_by n t.list) (sym mine) ∙ t.facts.own)) count

  -- a port that has seen nothing more
  pub looked_seen : (p q : Port M O g) → OfOneStart p.seat q.seat → q.who ≡ p.who → q.actors ≡ p.actors → q.limit ≡ p.limit → known q.seat ≡ known p.seat → Looked p q
  looked_seen p q start who actors limit v = record {
    stays = record { exchange = (start, actors, limit); who = who; given = ap (λ (x : View (BareRow M O)). x.given) v; joined = ap (λ (x : View (BareRow M O)). map (λ k. (k.0, map (row_by k.0) k.1)) x.joined) v };
    later = ([], ap (λ (x : View (BareRow M O)). rows_from x.seen) v ∙ sym (append-nil (seen p)));
    made = λ i. map (row_by (who i)) (v i).made;
  }

  -- a port that stays the same twice
  pub stays_trans : (p q r : Port M O g) → Stays p q → Stays q r → Stays p r
  stays_trans p q r a b = record {
    exchange = (b.exchange.0 ∙ a.exchange.0, b.exchange.1 ∙ a.exchange.1, b.exchange.2 ∙ a.exchange.2);
    who = b.who ∙ a.who;
    given = b.given ∙ a.given;
    joined = b.joined ∙ a.joined;
  }

  -- a port that looked twice
  pub looked_trans : (p q r : Port M O g) → Looked p q → Looked q r → Looked p r
  looked_trans p q r a b = record { stays = stays_trans p q r a.stays b.stays; later = starts_trans (seen r) (seen q) (seen p) b.later a.later; made = b.made ∙ a.made }

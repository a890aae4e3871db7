-- Rows and bare rows.
use Rattle.std.proofs.Common.{◌≡◌, ℕ, eqb, true, false, cond, List, [], ◌∷◌, ◌++◌, map, length, drop, refl, sym, ap, ◌∙◌, arith, length-append}
use Rattle.std.specs.Prelude.{nat_lt}
use Rattle.std.proofs.lemmas.List.{append-nil, map-append, length-map, nil_from_length}
use Rattle.std.proofs.lemmas.Bool.{eqb-true}
use Rattle.sc_thread_ports.specs.declared.turn.rule.View.{View}
use Rattle.sc_thread_ports.specs.turn.TurnDefinitions.{rows_by, view, left_with, with_turn, with_row, longer, StartsWith}
use Rattle.sc_thread_ports.proofs.TurnProofs.TurnLemmas.{made_more}
use Rattle.sc_actor.specs.declared.rows.Row.{Row}
use Rattle.sc_thread_ports.specs.declared.exchange.shared.BareRow.{BareRow}
use Rattle.sc_thread_ports.specs.exchange.ExchangeDefinitions.{bare_rows, row_by, rows_from, rows_of}

module _ {M O : Type 0} where
  -- the rows of the bare rows of rows are those rows
  pub rows_of_bare : (rows : List (Row M O)) → rows_from (bare_rows rows) ≡ rows
  rows_of_bare [] = refl
  rows_of_bare (row ∷ rows) = ap (λ l. row ∷ l) (rows_of_bare rows)

  -- the bare rows of one row more
  pub bare_rows-push : (rows : List (Row M O)) (row : Row M O) → bare_rows (rows ++ row ∷ []) ≡ bare_rows rows ++ (record { event = row.event; sent = row.sent }, row.who) ∷ []
  bare_rows-push rows row = map-append (λ r. (record { event = r.event; sent = r.sent }, r.who)) rows (row ∷ [])

  -- the rows of a number are those of its bare rows
  pub rows_of_from : (n : ℕ) (done : List (BareRow M O × ℕ)) → rows_of n (rows_from done) ≡ map (row_by n) (rows_by n done)
  rows_of_from n [] = refl
  rows_of_from n (d ∷ done) = let e = rows_of_from n done in
      elim (eqb d.1 n) as (λ b. eqb d.1 n ≡ b → cond b (row_by d.1 d.0 ∷ rows_of n (rows_from done)) (rows_of n (rows_from done)) ≡ map (row_by n) (cond b (d.0 ∷ rows_by n done) (rows_by n done)))
      [ true ↦ λ is. (λ i. row_by (eqb-true d.1 n is i) d.0 ∷ e i) | false ↦ λ _. e ] refl

  -- the rows of a number, of a list in two parts
  pub rows_of-append : (n : ℕ) (xs ys : List (Row M O)) → rows_of n (xs ++ ys) ≡ rows_of n xs ++ rows_of n ys
  rows_of-append n [] ys = refl
  rows_of-append n (x ∷ xs) ys = let e = rows_of-append n xs ys in
      elim (eqb x.who n) as (λ b. cond b (x ∷ rows_of n (xs ++ ys)) (rows_of n (xs ++ ys)) ≡ cond b (x ∷ rows_of n xs) (rows_of n xs) ++ rows_of n ys) [ true ↦ ap (λ l. x ∷ l) e | false ↦ e ]

  -- of two lists with as many rows of a number, the longer has none more
  pub quiet : (n : ℕ) (xs more : List (Row M O)) → length (rows_of n (xs ++ more)) ≡ length (rows_of n xs) → rows_of n more ≡ []
  quiet n xs more e = nil_from_length (rows_of n more) (omega (arith, e, ap length (rows_of-append n xs more), length-append (rows_of n xs) (rows_of n more)))

  -- rows begin with others where their bare rows do
  pub begins_rows : (xs ys : List (BareRow M O × ℕ)) → StartsWith xs ys → StartsWith (rows_from xs) (rows_from ys)
  begins_rows xs ys p = (rows_from p.0, ap rows_from p.1 ∙ map-append (λ d. row_by d.1 d.0) ys p.0)

  -- the longer of two lists of bare rows
  pub longer_rows : (xs ys : List (BareRow M O × ℕ)) → rows_from (longer xs ys) ≡ longer (rows_from xs) (rows_from ys)
  longer_rows xs ys =
      (elim (nat_lt (length xs) (length ys)) as (λ b. rows_from (cond b ys xs) ≡ cond b (rows_from ys) (rows_from xs)) [ true ↦ refl | false ↦ refl ])
      ∙ (λ i. cond (nat_lt (sym (length-map xs (λ (d : BareRow M O × ℕ). row_by d.1 d.0)) i) (sym (length-map ys (λ (d : BareRow M O × ℕ). row_by d.1 d.0)) i)) (rows_from ys) (rows_from xs))

-- what is left with
module _ {E : Type 0} where
  -- with the rows that were found the view is as it was, without the turn
  pub left_same : (v : View E) (rows : List (E × ℕ)) → rows ≡ v.seen → left_with v rows ≡ with_turn v false
  left_same v rows is =
      let a : rows ≡ v.seen ++ [] = is ∙ sym (append-nil v.seen) in
      let m : v.made ++ map (λ r. r.0) (drop (length v.seen) rows) ≡ v.made = ap (λ (l : List (E × ℕ)). v.made ++ map (λ r. r.0) (drop (length v.seen) l)) a ∙ (made_more v.seen [] v.made ∙ append-nil v.made) in
      λ i. view v.who v.live false (is i) v.received (m i) v.given v.joined

  -- with one row more the view has that row
  pub left_row : (v : View E) (rows : List (E × ℕ)) (bare : E) → rows ≡ v.seen ++ (bare, v.who) ∷ [] → left_with v rows ≡ with_turn (with_row v bare) false
  left_row v rows bare is =
      let m : v.made ++ map (λ r. r.0) (drop (length v.seen) rows) ≡ v.made ++ bare ∷ [] = ap (λ (l : List (E × ℕ)). v.made ++ map (λ r. r.0) (drop (length v.seen) l)) is ∙ made_more v.seen ((bare, v.who) ∷ []) v.made in
      λ i. view v.who v.live false (is i) v.received (m i) v.given v.joined

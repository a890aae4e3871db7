-- What a seat knows after a turn.
use Rattle.std.proofs.Common.{◌≡◌, ◌≢◌, ℕ, ◌+◌, ◌≤◌, true, false, List, [], ◌∷◌, ◌++◌, length, sym, ap, ◌∙◌, subst, arith, length-append, Contains}
use Rattle.std.proofs.lemmas.List.{map-append}
use Rattle.sc_thread_ports.specs.declared.turn.rule.View.{View}
use Rattle.sc_thread_ports.specs.turn.TurnDefinitions.{rows_by, newcomer, merged_seen, IsTrueLater, entered_with, with_turn, with_row, StartsWith, IsTrueOf}
use Rattle.sc_thread_ports.proofs.TurnProofs.TurnLemmas.{rows_by_same, rows_by_other, rows_by_none, rows_by-append}
use Rattle.sc_actor.specs.declared.rows.Row.{Row}
use Rattle.sc_actor.specs.Definitions.{row_bytes, journal_bytes}
use Rattle.sc_thread_ledger.proofs.LedgerLemmas.{bytes-push}
use Rattle.sc_thread_ports.specs.declared.exchange.shared.BareRow.{BareRow}
use Rattle.sc_thread_ports.specs.declared.exchange.fates.Fate.{Fate}
use Rattle.sc_thread_ports.specs.exchange.ExchangeDefinitions.{bare_rows, row_by, rows_from, Turned, RowTurned, Changed, may_change, change}
use Rattle.sc_thread_ports.proofs.ExchangeProofs.Done.{rows_of_bare}

module _ {M O : Type 0} where
  -- a row without its maker
  abbrev pub bare : Row M O → BareRow M O
  bare row = record { event = row.event; sent = row.sent }

  -- what was seen at a turn without a row
  pub seen_same : (w s v : View (BareRow M O)) (rows : List (Row M O)) → s ≡ entered_with w (bare_rows rows) → v ≡ with_turn s false → rows_from v.seen ≡ rows
  seen_same w s v rows e f = ap (λ (x : View (BareRow M O)). rows_from x.seen) f ∙ (ap (λ (x : View (BareRow M O)). rows_from x.seen) e ∙ rows_of_bare rows)

  -- the row of a row's bare row
  pub row_back : (row : Row M O) (who : ℕ) → row.who ≡ who → row_by who (bare row) ≡ row
  row_back row who e = λ i. record { who = sym e i; event = row.event; sent = row.sent }

  -- what was seen at a turn with a row
  pub seen_row : (w s v : View (BareRow M O)) (rows : List (Row M O)) (row : Row M O) → row.who ≡ w.who → s ≡ entered_with w (bare_rows rows) → v ≡ with_turn (with_row s (bare row)) false → rows_from v.seen ≡ rows ++ row ∷ []
  seen_row w s v rows row who e f =
      ap (λ (x : View (BareRow M O)). rows_from x.seen) f
      ∙ (ap (λ (x : View (BareRow M O)). rows_from (x.seen ++ (bare row, x.who) ∷ [])) e
      ∙ (map-append (λ d. row_by d.1 d.0) (bare_rows rows) ((bare row, w.who) ∷ [])
      ∙ (λ i. rows_of_bare rows i ++ row_back row w.who who i ∷ [])))

  -- a row that fits leaves the journal within the limit
  pub bytes_row : (weighs : M → ℕ) (rows : List (Row M O)) (row : Row M O) (seen : List (Row M O)) (limit : ℕ) → seen ≡ rows ++ row ∷ [] → journal_bytes weighs rows + row_bytes weighs row ≤ limit → journal_bytes weighs seen ≤ limit
  bytes_row weighs rows row seen limit is fits = subst (λ n. n ≤ limit) (sym (ap (journal_bytes weighs) is ∙ bytes-push weighs rows row)) fits

  -- a turn with a row, by its parts
  abbrev pub turned_row : (w s v : View (BareRow M O)) (rows : List (Row M O)) (row : Row M O) → s ≡ entered_with w (bare_rows rows) → StartsWith (bare_rows rows) w.seen → IsTrueOf w (bare_rows rows) → v ≡ with_turn (with_row s (bare row)) false → RowTurned w v row
  turned_row w s v rows row e later facts f = record { rows = rows; view_is = f ∙ ap (λ (x : View (BareRow M O)). with_turn (with_row x (bare row)) false) e; later = later; facts = facts }

  -- a turn without one, by its parts
  abbrev pub turned_same : (w s v : View (BareRow M O)) (rows : List (Row M O)) → s ≡ entered_with w (bare_rows rows) → StartsWith (bare_rows rows) w.seen → IsTrueOf w (bare_rows rows) → v ≡ with_turn s false → Turned w v
  turned_same w s v rows e later facts f = record { rows = rows; view_is = f ∙ ap (λ (x : View (BareRow M O)). with_turn x false) e; later = later; facts = facts }

  -- the rows of the seat's own number are those that it made
  pub own_same : (w v : View (BareRow M O)) → Turned w v → rows_by v.who v.seen ≡ v.made
  own_same w v t =
      (λ i. rows_by (t.view_is i).who (t.view_is i).seen) ∙ (t.facts.own ∙ sym (ap (λ (x : View (BareRow M O)). x.made) t.view_is))

  -- the same after a row
  pub own_row : (w v : View (BareRow M O)) (row : Row M O) → RowTurned w v row → rows_by v.who v.seen ≡ v.made
  own_row w v row t =
      (λ i. rows_by (t.view_is i).who (t.view_is i).seen)
      ∙ (rows_by_same w.who (bare row) (bare_rows t.rows) ∙ (ap (λ l. l ++ bare row ∷ []) t.facts.own ∙ sym (ap (λ (x : View (BareRow M O)). x.made) t.view_is)))

  -- no other number has a row, after a turn without one
  pub others_same : (w v : View (BareRow M O)) → Turned w v → v.who ≡ 0 → (n : ℕ) → n ≢ 0 → ¬ Contains v.given n → rows_by n v.seen ≡ []
  others_same w v t first n ne away =
      ap (λ (x : View (BareRow M O)). rows_by n x.seen) t.view_is
      ∙ t.facts.others (ap (λ (x : View (BareRow M O)). x.who) (sym t.view_is) ∙ first) n ne (subst (λ (x : View (BareRow M O)). ¬ Contains x.given n) t.view_is away)

  -- and after a turn with one
  pub others_row : (w v : View (BareRow M O)) (row : Row M O) → RowTurned w v row → v.who ≡ 0 → (n : ℕ) → n ≢ 0 → ¬ Contains v.given n → rows_by n v.seen ≡ []
  others_row w v row t first n ne away =
      let zero_is : w.who ≡ 0 = ap (λ (x : View (BareRow M O)). x.who) (sym t.view_is) ∙ first in
      ap (λ (x : View (BareRow M O)). rows_by n x.seen) t.view_is
      ∙ (rows_by_other n w.who (bare row) (bare_rows t.rows) (λ e. ne (sym e ∙ zero_is))
      ∙ t.facts.others zero_is n ne (subst (λ (x : View (BareRow M O)). ¬ Contains x.given n) t.view_is away))

  -- a turn for a change of the network, by its parts
  pub changed : (receiver : M → ℕ) (actors : ℕ) (fate : Fate) (number : ℕ) (w s v : View (BareRow M O)) (rows : List (Row M O)) (row : Row M O) → row ≡ change fate number → s ≡ entered_with w (bare_rows rows) →
      StartsWith (bare_rows rows) w.seen → IsTrueOf w (bare_rows rows) → v ≡ with_turn (with_row s (bare row)) false → may_change fate receiver actors rows number ≡ true → Changed receiver actors fate number w v
  changed receiver actors fate number w s v rows row is e later facts f may =
      record { turned = turned_row w s v rows (change fate number) e later facts (f ∙ ap (λ r. with_turn (with_row s (bare r)) false) is); may = may }

  -- the rows of a number, counted
  pub own_of : (v : View (BareRow M O)) (who : ℕ) → v.who ≡ who → rows_by v.who v.seen ≡ v.made → length (rows_by who v.seen) ≡ length v.made
  own_of v who number own = ap (λ n. length (rows_by n v.seen)) (sym number) ∙ ap length own

  -- a new seat has no row among those that were seen
  pub own_new : (v : View (BareRow M O)) (who : ℕ) (seen : List (BareRow M O × ℕ)) → v ≡ newcomer who seen → IsTrueLater v → length (rows_by who v.seen) ≡ length v.made
  own_new v who seen is t =
      let none : v.made ≡ [] = ap (λ (x : View (BareRow M O)). x.made) is in
      let number : v.who ≡ who = ap (λ (x : View (BareRow M O)). x.who) is in
      own_of v who number (rows_by_none v.who t.list v.seen t.later (t.facts.own ∙ none) ∙ sym none)

  fewer : (n : ℕ) (xs ys : List (BareRow M O × ℕ)) → StartsWith xs ys → length (rows_by n ys) ≤ length (rows_by n xs)
  fewer n xs ys p = omega (arith, ap (λ l. length (rows_by n l)) p.1, ap length (rows_by-append n ys p.0), length-append (rows_by n ys) (rows_by n p.0))

  -- the seat that took in another has seen all its own rows
  pub own_joined : (v w u : View (BareRow M O)) (who : ℕ) → v.who ≡ who → length (rows_by who v.seen) ≡ length v.made → u ≡ merged_seen v w → StartsWith u.seen v.seen → IsTrueLater u → length (rows_by who u.seen) ≡ length u.made
  own_joined v w u who number own is later t =
      let same : u.made ≡ v.made = ap (λ (x : View (BareRow M O)). x.made) is in
      let mine : u.who ≡ who = ap (λ (x : View (BareRow M O)). x.who) is ∙ number in
      let all : rows_by who t.list ≡ u.made = ap (λ n. rows_by n t.list) (sym mine) ∙ t.facts.own in
      omega (arith, fewer who u.seen v.seen later, fewer who t.list u.seen t.later, own, ap length all, ap length same)

  own_by : (w v : View (BareRow M O)) → v.who ≡ w.who → rows_by v.who v.seen ≡ v.made → length (rows_by w.who v.seen) ≡ length v.made
  own_by w v same own = own_of v w.who same own

  -- they are counted after a turn without a row
  pub own_turned : (w v : View (BareRow M O)) → Turned w v → length (rows_by w.who v.seen) ≡ length v.made
  own_turned w v t = own_by w v (ap (λ (x : View (BareRow M O)). x.who) t.view_is) (own_same w v t)

  -- and after a turn with one
  pub own_row_turned : (w v : View (BareRow M O)) (row : Row M O) → RowTurned w v row → length (rows_by w.who v.seen) ≡ length v.made
  own_row_turned w v row t = own_by w v (ap (λ (x : View (BareRow M O)). x.who) t.view_is) (own_row w v row t)

  -- nothing was split off or joined, at a turn without a row
  pub kept_turned : (w v : View (BareRow M O)) → Turned w v → (v.given ≡ w.given) × (v.joined ≡ w.joined)
  kept_turned w v t = (ap (λ (x : View (BareRow M O)). x.given) t.view_is, ap (λ (x : View (BareRow M O)). x.joined) t.view_is)

  -- and at a turn with one
  pub kept_row_turned : (w v : View (BareRow M O)) (row : Row M O) → RowTurned w v row → (v.given ≡ w.given) × (v.joined ≡ w.joined)
  kept_row_turned w v row t = (ap (λ (x : View (BareRow M O)). x.given) t.view_is, ap (λ (x : View (BareRow M O)). x.joined) t.view_is)

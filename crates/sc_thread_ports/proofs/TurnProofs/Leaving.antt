-- How a turn is left: what is counted.
use Rattle.std.proofs.Common.{◌≡◌, ◌≢◌, ℕ, ◌+◌, ◌%◌, ◌^◌, ◌<◌, true, List, [], ◌∷◌, ◌++◌, map, drop, length, sym, refl, ap, ◌∙◌, subst, ⊎_elim, inr, arith, length-append, Contains, Option, Some, None}
use Rattle.std.proofs.Math.Seq.{drop-append_seam}
use mathlib.Core.Option.{none}
use Rattle.atomic_table.specs.Table.{Me, step, rest, Allows}
use Rattle.sc_thread_ports.specs.declared.turn.rule.View.{View}
use Rattle.sc_thread_ports.specs.turn.TurnDefinitions.{view, with_seen, with_row, with_counted, rows_by, CanLeave, IsTrueOf, IsTrueLater, IsTrueOver, StartsWith, Kept, Looks, ReadsCount, Appends, append_returns, release_returns}
use Rattle.sc_thread_ports.proofs.TurnProofs.ListPrefixes.{rows_by_none}
use Rattle.sc_thread_ports.proofs.TurnProofs.KeptTurnRule.{appends, releases}

module _ {E : Type 0} where
  -- what is made of the rows behind those that were seen
  pub made_more : (seen rows : List (E × ℕ)) (made : List E) → made ++ map (λ r. r.0) (drop (length seen) (seen ++ rows)) ≡ made ++ map (λ r. r.0) rows
  made_more seen rows made = ap (λ (l : List (E × ℕ)). made ++ map (λ r. r.0) l) (drop-append_seam seen rows)

  counted_one : (v : View E) (row : E) (rows : List (E × ℕ)) → rows ≡ v.seen ++ (row, v.who) ∷ [] → with_row v row ≡ with_counted v rows
  counted_one v row rows is =
      let m : v.made ++ map (λ r. r.0) (drop (length v.seen) rows) ≡ v.made ++ row ∷ [] = ap (λ (l : List (E × ℕ)). v.made ++ map (λ r. r.0) (drop (length v.seen) l)) is ∙ made_more v.seen ((row, v.who) ∷ []) v.made in
      λ i. view v.who v.live v.turn (sym is i) v.received (sym m i) v.given v.joined

  -- the turn may be left with one row more of the seat's number
  pub one_row_more : (v : View E) (got rows : List (E × ℕ)) (row : E) (who : ℕ) → v.seen ≡ got → v.who ≡ who → rows ≡ got ++ (row, who) ∷ [] → CanLeave v rows
  one_row_more v got rows row who seen number is = inr (row, is ∙ (λ i. sym seen i ++ (row, sym number i) ∷ []))

module _ {T E : Type 0} (entries : T → List (E × ℕ)) where
  abbrev M : Type 0
  M = Me (Option T) (View E)

  -- Where the number read is not that of the value's rows, the value has one row more.
  one_more : (m : M) (r rows : ℕ) (x : T) → r ≡ length m.0.seen → CanLeave m.0 (entries x) → rows ≡ length (entries x) → r ≢ rows → (row : E) × (entries x ≡ m.0.seen ++ (row, m.0.who) ∷ [])
  one_more m r rows x read may count other = ⊎_elim (λ (is : entries x ≡ m.0.seen). absurd (other (omega (arith, ap length is)))) (λ t. t) may

  -- then it may be counted
  pub counts_one : (slots id : ℕ) (m m' : M) (r rows : ℕ) (x : T) → ReadsCount entries m r m' → m.0.turn ≡ true → m.0.live ≡ true → m.0.received ≡ [] → m.1 ≡ (0, Some x) ∷ [] → CanLeave m.0 (entries x) → rows ≡ length (entries x) → r ≢ rows → rows + 1 < 2 ^ 64
      → Allows (Kept entries) slots id m' 1 (λ n. (n + 1) % 2 ^ 64) (append_returns entries (step slots 1 1 0 none) m')
  counts_one slots id m m' r rows x read has live received out may count other small =
      let t = one_more m r rows x (read.count has) may count other in
      let back = sym read.same in
      let more : length (entries x) ≡ length m.0.seen + 1 = ap length t.1 ∙ length-append m.0.seen ((t.0, m.0.who) ∷ []) in
      subst (λ (z : M). Allows (Kept entries) slots id z 1 (λ n. (n + 1) % 2 ^ 64) (append_returns entries (step slots 1 1 0 none) z)) back
      (appends entries slots id (with_seen m.0 m.0.seen, m.1) x t.0 out has live t.1 (omega arith))

  -- and once it counts, the view is that with the row
  pub counts : (m m' m'' : M) (r : ℕ) (x : T) → ReadsCount entries m r m' → m.0.received ≡ [] → m.1 ≡ (0, Some x) ∷ [] → Appends entries m' m'' → m'' ≡ (with_counted m.0 (entries x), m.1)
  counts m m' m'' r x read received out a =
      let v : View E = m.0 in
      let base : with_seen v v.seen ≡ v = λ i. view v.who v.live v.turn v.seen (sym received i) v.made v.given v.joined in
      let m'is : m' ≡ (v, m.1) = read.same ∙ ap (λ (z : View E). (z, m.1)) base in
      let now : m''.0 ≡ with_row v a.row = a.view_is ∙ ap (λ (z : M). with_row z.0 a.row) m'is in
      let whole : entries x ≡ v.seen ++ (a.row, v.who) ∷ [] = a.whole x (ap (λ (z : M). z.1) m'is ∙ out) ∙ ap (λ (z : View E). z.seen) now in
      let left : m''.0 ≡ with_counted v (entries x) = now ∙ counted_one v a.row (entries x) whole in
      let right : m''.1 ≡ m.1 = a.slots ∙ ap (λ (z : M). z.1) m'is in
      λ i. (left i, right i)

  -- the turn may be given back, once the value lies in the slot and its rows count
  pub frees : (slots id : ℕ) (m m' m'' : M) (x : T) → slots ≡ 1 → m.0.turn ≡ true → m.1 ≡ (0, None) ∷ [] → m' ≡ (m.0, (0, Some x) ∷ rest m.1) → ((y : T) → m'.1 ≡ (0, Some y) ∷ [] → m'' ≡ (with_counted m'.0 (entries y), m'.1))
      → Allows (Kept entries) slots id m'' 0 (λ _. 0) (λ _. release_returns entries (step slots 0 0 0 none) m'' 0)
  frees slots id m m' m'' x one has out put count =
      let there : m' ≡ (m.0, (0, Some x) ∷ []) = put ∙ ap (λ (l : List (ℕ × Option T)). (m.0, (0, Some x) ∷ rest l)) out in
      let now : m'' ≡ (with_counted m.0 (entries x), (0, Some x) ∷ []) = count x (ap (λ (z : M). z.1) there) ∙ ap (λ (z : M). (with_counted z.0 (entries x), z.1)) there in
      subst (λ (z : M). Allows (Kept entries) slots id z 0 (λ _. 0) (λ _. release_returns entries (step slots 0 0 0 none) z 0)) (sym now)
      (releases entries slots id (with_counted m.0 (entries x), (0, Some x) ∷ []) x one refl has refl)

  -- what a look reports is true of what was then seen
  pub true_of_seen : (m m' : M) → Looks entries m m' → m.0.live ≡ true → IsTrueOf m'.0 m'.0.seen
  true_of_seen m m' look live = let f = look.facts live in
      subst (λ (v : View E). IsTrueOf v m'.0.seen) (sym look.view_is) record { own = f.own; joined = f.joined; others = f.others }

  -- what a read reports of what was seen
  pub true_later : (m m' : M) (r : ℕ) → ReadsCount entries m r m' → m.0.live ≡ true → IsTrueLater m'.0
  true_later m m' r read live = let f = read.facts live in
      subst (λ (z : M). IsTrueLater z.0) (sym read.same) record { list = f.list; later = f.later; facts = record { own = f.facts.own; joined = f.facts.joined; others = f.facts.others } }

  -- and of what another has seen
  pub true_over : (m m' : M) (r : ℕ) (rows : List (E × ℕ)) → ReadsCount entries m r m' → m.0.live ≡ true → m.0.received ≡ rows → IsTrueOver m'.0 rows
  true_over m m' r rows read live received = let f = read.over live in
      subst (λ (z : M). IsTrueOver z.0 rows) (sym read.same) record { list = f.list; later = f.later; over = subst (StartsWith f.list) received f.over; facts = record { own = f.facts.own; joined = f.facts.joined; others = f.facts.others } }

-- no other number has a row among those that the first seat has seen
pub others_later : {E : Type 0} → (v : View E) → v.who ≡ 0 → IsTrueLater v → (n : ℕ) → n ≢ 0 → ¬ Contains v.given n → rows_by n v.seen ≡ []
others_later v first t n ne free = rows_by_none n t.list v.seen t.later (t.facts.others first n ne free)

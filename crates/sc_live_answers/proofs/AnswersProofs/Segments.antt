-- Rows that come in time, such as prefixes of one lawful journal, fall into segments, each from the last quiet journal on: requests, or one order.
use Rattle.std.proofs.Common.{◌≡◌, ℕ, zero, suc, ◌≤◌, true, false, true≢false, List, [], ◌∷◌, ◌++◌, length, take, ◌⊎◌, inl, inr, refl, sym, ◌∙◌, ap, subst, arith, append_assoc, append-nil, length-take, length-append}
use Rattle.std.proofs.lemmas.Bool.{cases_Bool, both_ways, cond-true, cond-false}
use Rattle.std.proofs.lemmas.List.{take_all, take-append-le}
use Rattle.sc_base.specs.Definitions.{Each}
use Rattle.sc_node_table.specs.Values.{OrderLine, Mail, Event, Deliver, Go, Row}
use Rattle.sc_actor.specs.declared.rows.Event.TheVariants.{Told}
use Rattle.sc_actor.specs.Definitions.{System, is_quiet}
use Rattle.sc_live_orderly.specs.OrderlyDefinitions.{IsCalmEvent, IsCalmRow, is_told, IsClear, ComesInTime, AreInTime}
use Rattle.sc_live_orderly.proofs.OrderlyLemmas.{by_time, last_in_time}
use Rattle.sc_meaning.specs.sound.SoundDefinitions.{Player}
use Rattle.sc_live_steps.specs.calm.CalmDefinitions.{Rows}
use Rattle.sc_live_journals.specs.charts.ChartDefinitions.{quiet_upto, quiet_prefix}
use Rattle.sc_live_journals.proofs.ChartsProofs.ChartLemmas.{upto_low, prefix_stays}

-- ---- lists

each_last : {X : Type 0} (P : X → Type 0) (xs : List X) (x : X) (ys : List X) → Each P (xs ++ x ∷ ys) → P x
each_last P [] x ys each = each.0
each_last P (z ∷ xs) x ys each = each_last P xs x ys each.1

-- what stands behind a longer prefix stands behind a shorter one
stands_behind : {X : Type 0} (P : X → Type 0) (before after prefix : List X) (x : X) (more : List X) → before ++ after ≡ prefix ++ x ∷ more → length before ≤ length prefix → Each P after → P x
stands_behind P [] after prefix x more e low each = each_last P prefix x more (subst (Each P) e each)
stands_behind P (b ∷ before) after [] x more e low each = absurd (omega (arith, low))
stands_behind P (b ∷ before) after (f ∷ prefix) x more e low each =
    let tail : before ++ after ≡ prefix ++ x ∷ more = cc in
    stands_behind P before after prefix x more tail (omega (arith, low)) each

module _ (s : System Player Mail OrderLine) where
  -- a quiet journal is its own prefix
  pub prefix_whole : (rows : Rows) → is_quiet s rows ≡ true → quiet_prefix s rows ≡ rows
  prefix_whole [] quiet = refl
  prefix_whole (row ∷ rows) quiet =
      let whole : take (suc (length rows)) (row ∷ rows) ≡ row ∷ rows = take_all (suc (length rows)) (row ∷ rows) (omega arith) in
      ap (λ n. take n (row ∷ rows)) (cond-true (is_quiet s (take (suc (length rows)) (row ∷ rows))) (suc (length rows)) (quiet_upto s (row ∷ rows) (length rows)) (ap (is_quiet s) whole ∙ quiet)) ∙ whole

  -- no quiet journal is longer with which the rows begin
  quiet_longest : (rows : Rows) (n most : ℕ) → n ≤ most → is_quiet s (take n rows) ≡ true → n ≤ quiet_upto s rows most
  quiet_longest rows n zero low quiet = low
  quiet_longest rows n (suc most) low quiet = elim (cases_Bool (is_quiet s (take (suc most) rows))) [
    | inl t ↦ (let same = cond-true (is_quiet s (take (suc most) rows)) (suc most) (quiet_upto s rows most) t in omega (arith, same, low))
    | inr f ↦ (
        let same = cond-false (is_quiet s (take (suc most) rows)) (suc most) (quiet_upto s rows most) f in
        let other : n ≡ suc most → ⊥ = λ e. both_ways (is_quiet s (take (suc most) rows)) f (ap (λ k. is_quiet s (take k rows)) (sym e) ∙ quiet) in
        let less : n ≤ most = omega (arith, low, other) in
        let rest = quiet_longest rows n most less quiet in
        omega (arith, same, rest))
  ]

  -- What is kept of a segment of rows that fit, row by row: where it begins, while clients ask alone, and while an order is under way.
  pub record Parts (Fits Rests : Rows → Type 0) (Asks Orders : Rows → Rows → Type 0) : Type 0 where
    pub prefixes : (rows : Rows) (row : Row Mail OrderLine) → Fits (rows ++ row ∷ []) → Fits rows
    pub begins : Rests []
    pub goes : (quiet : Rows) (row : Row Mail OrderLine) → Fits (quiet ++ row ∷ []) → AreInTime s (quiet ++ row ∷ []) → Rests quiet → is_told row.event ≡ false → Asks quiet (row ∷ [])
    pub asks : (quiet rows : Rows) (row : Row Mail OrderLine) → Fits (quiet ++ (rows ++ row ∷ [])) → AreInTime s (quiet ++ (rows ++ row ∷ [])) → Rests quiet → Asks quiet rows → is_told row.event ≡ false → Asks quiet (rows ++ row ∷ [])
    pub told : (quiet : Rows) (row : Row Mail OrderLine) → Fits (quiet ++ row ∷ []) → AreInTime s (quiet ++ row ∷ []) → Rests quiet → is_told row.event ≡ true → Orders quiet (row ∷ [])
    pub orders : (quiet rows : Rows) (row : Row Mail OrderLine) (number : ℕ) → Fits (quiet ++ (rows ++ row ∷ [])) → AreInTime s (quiet ++ (rows ++ row ∷ [])) → Rests quiet → Orders quiet rows → row.event ≡ Deliver number → Orders quiet (rows ++ row ∷ [])
    pub answered : (quiet rows : Rows) → Fits (quiet ++ rows) → AreInTime s (quiet ++ rows) → Rests quiet → Asks quiet rows → is_quiet s (quiet ++ rows) ≡ true → Rests (quiet ++ rows)
    pub over : (quiet rows : Rows) → Fits (quiet ++ rows) → AreInTime s (quiet ++ rows) → Rests quiet → Orders quiet rows → is_quiet s (quiet ++ rows) ≡ true → Rests (quiet ++ rows)

  module _ (Rests : Rows → Type 0) (Asks Orders : Rows → Rows → Type 0) where
    -- an order is under way since it was given
    pub record IsOrdered (quiet behind : Rows) : Type 0 where
      pub first : Row Mail OrderLine
      pub more : Rows
      pub behind_are : behind ≡ first ∷ more
      pub tells : is_told first.event ≡ true
      pub holds : Orders quiet behind

    -- behind the last quiet journal stands nothing, or requests, or an order
    abbrev pub IsBehind : Rows → Rows → Type 0
    IsBehind quiet behind = (behind ≡ []) ⊎ (Asks quiet behind ⊎ IsOrdered quiet behind)

    pub record IsSegment (rows : Rows) : Type 0 where
      pub behind : Rows
      pub rows_are : rows ≡ quiet_prefix s rows ++ behind
      pub rests : Rests (quiet_prefix s rows)
      pub fact : IsBehind (quiet_prefix s rows) behind

    module _ (Fits : Rows → Type 0) (parts : Parts Fits Rests Asks Orders) where
      -- a quiet journal that rests, with nothing behind it
      rest_here : (rows : Rows) → Rests rows → is_quiet s rows ≡ true → IsSegment rows
      rest_here rows rests quiet = record {
        behind = [];
        rows_are = sym (append-nil (quiet_prefix s rows) ∙ prefix_whole rows quiet);
        rests = subst Rests (sym (prefix_whole rows quiet)) rests;
        fact = inl refl;
      }

      module _ (rows : Rows) (row : Row Mail OrderLine) (fits : Fits (rows ++ row ∷ [])) (timely : AreInTime s (rows ++ row ∷ [])) where
        abbrev after : Rows
        after = rows ++ row ∷ []

        -- a segment that goes on by the row
        goes_on : (quiet behind : Rows) → rows ≡ quiet ++ behind → quiet_prefix s rows ≡ quiet → Rests quiet → Asks quiet (behind ++ row ∷ []) ⊎ IsOrdered quiet (behind ++ row ∷ []) → IsSegment after
        goes_on quiet behind e prefix rests holds = elim (cases_Bool (is_quiet s after)) [
          | inl still ↦ rest_here after (subst Rests (sym whole) (again still holds)) still
          | inr loud ↦ (let there : quiet_prefix s after ≡ quiet = prefix_stays s rows row loud ∙ prefix in
              record {
                behind = behind ++ row ∷ [];
                rows_are = whole ∙ ap (λ q. q ++ (behind ++ row ∷ [])) (sym there);
                rests = subst Rests (sym there) rests;
                fact = subst (λ q. IsBehind q (behind ++ row ∷ [])) (sym there) (inr holds);
              })
        ]
          where
            whole : after ≡ quiet ++ (behind ++ row ∷ [])
            whole = ap (λ r. r ++ row ∷ []) e ∙ append_assoc quiet behind (row ∷ [])

            again : is_quiet s after ≡ true → Asks quiet (behind ++ row ∷ []) ⊎ IsOrdered quiet (behind ++ row ∷ []) → Rests (quiet ++ (behind ++ row ∷ []))
            again still (inl asks) = parts.answered quiet (behind ++ row ∷ []) (subst Fits whole fits) (subst (AreInTime s) whole timely) rests asks (ap (is_quiet s) (sym whole) ∙ still)
            again still (inr order) = parts.over quiet (behind ++ row ∷ []) (subst Fits whole fits) (subst (AreInTime s) whole timely) rests order.holds (ap (is_quiet s) (sym whole) ∙ still)

        pub calm : IsCalmRow s rows row × ComesInTime s rows row.event
        calm = last_in_time s rows row timely

        -- an order comes where it is quiet
        pub told_quiet : (event : Event OrderLine) → is_told event ≡ true → ComesInTime s rows event → is_quiet s rows ≡ true
        told_quiet (Told order) told comes = comes
        told_quiet _ told comes = absurd (true≢false (sym told))

        -- while an order is under way, nobody goes
        nobody_goes : (quiet behind : Rows) → rows ≡ quiet ++ behind → quiet_prefix s rows ≡ quiet → IsOrdered quiet behind → IsClear s rows → ⊥
        nobody_goes quiet behind e prefix order clear =
            let long = length-append clear.before clear.after in
            let all = ap length clear.rows_are in
            let n_low : length clear.before ≤ length rows = omega (arith, long, all) in
            let prefix_is : take (length clear.before) rows ≡ clear.before =
            ap (take (length clear.before)) clear.rows_are ∙ (take-append-le (length clear.before) clear.before clear.after (omega arith) ∙ take_all (length clear.before) clear.before (omega arith)) in
            let least = quiet_longest rows (length clear.before) (length rows) n_low (ap (is_quiet s) prefix_is ∙ clear.quiet) in
            let size = length-take (quiet_upto s rows (length rows)) rows in
            let most = upto_low s rows (length rows) in
            let same = ap length prefix in
            let low : length clear.before ≤ length quiet = omega (arith, least, size, most, same) in
            let untold = stands_behind (λ (r : Row Mail OrderLine). is_told r.event ≡ false) clear.before clear.after quiet order.first order.more (sym clear.rows_are ∙ (e ∙ ap (λ b. quiet ++ b) order.behind_are)) low clear.untold in
            both_ways (is_told order.first.event) untold order.tells

        -- an order goes on by deliveries alone
        pub delivered : (quiet behind : Rows) → rows ≡ quiet ++ behind → quiet_prefix s rows ≡ quiet → IsOrdered quiet behind → is_told row.event ≡ false → (number : ℕ) × (row.event ≡ Deliver number)
        delivered quiet behind e prefix order untold = by calm.0.event (ap (λ (r : Row Mail OrderLine). r.event) calm.0.row_is) calm.0.calm
          where
            by : (event : Event OrderLine) → row.event ≡ event → IsCalmEvent s rows calm.0.seat.who event → (number : ℕ) × (row.event ≡ Deliver number)
            by (Deliver number) same fine = (number, same)
            by Go same fine = absurd (nobody_goes quiet behind e prefix order (subst (ComesInTime s rows) same calm.1))
            by (Told order_) same fine = absurd (true≢false (sym (ap is_told same) ∙ untold))
            by _ same fine = absurd fine

        -- whatever stands behind the last quiet journal
        untold_row : (quiet behind : Rows) → rows ≡ quiet ++ behind → quiet_prefix s rows ≡ quiet → Rests quiet → is_told row.event ≡ false → IsBehind quiet behind → IsSegment after
        untold_row quiet behind e prefix rests untold (inl none) =
            let there : rows ≡ quiet = e ∙ (ap (λ b. quiet ++ b) none ∙ append-nil quiet) in
            let asks = parts.goes quiet row (subst (λ r. Fits (r ++ row ∷ [])) there fits) (subst (λ r. AreInTime s (r ++ row ∷ [])) there timely) rests untold in
            goes_on quiet behind e prefix rests (inl (subst (λ b. Asks quiet (b ++ row ∷ [])) (sym none) asks))
        untold_row quiet behind e prefix rests untold (inr (inl asks)) =
            goes_on quiet behind e prefix rests (inl (parts.asks quiet behind row (subst Fits (ap (λ r. r ++ row ∷ []) e ∙ append_assoc quiet behind (row ∷ [])) fits) (subst (AreInTime s) (ap (λ r. r ++ row ∷ []) e ∙ append_assoc quiet behind (row ∷ [])) timely) rests asks untold))
        untold_row quiet behind e prefix rests untold (inr (inr order)) =
            let d = delivered quiet behind e prefix order untold in
            goes_on quiet behind e prefix rests (inr (record {
              first = order.first;
              more = order.more ++ row ∷ [];
              behind_are = ap (λ b. b ++ row ∷ []) order.behind_are;
              tells = order.tells;
              holds = parts.orders quiet behind row d.0 (subst Fits (ap (λ r. r ++ row ∷ []) e ∙ append_assoc quiet behind (row ∷ [])) fits) (subst (AreInTime s) (ap (λ r. r ++ row ∷ []) e ∙ append_assoc quiet behind (row ∷ [])) timely) rests order.holds d.1;
            }))

        next : IsSegment rows → IsSegment after
        next seg = elim (cases_Bool (is_told row.event)) [
          | inl told ↦ (
              let quiet = told_quiet row.event told calm.1 in
              let whole = prefix_whole rows quiet in
              let rests = subst Rests whole seg.rests in
              goes_on rows [] (sym (append-nil rows)) whole rests (inr (record { first = row; more = []; behind_are = refl; tells = told; holds = parts.told rows row fits timely rests told })))
          | inr untold ↦ untold_row (quiet_prefix s rows) seg.behind seg.rows_are refl seg.rests untold seg.fact
        ]

      -- so all rows in time that fit are such segments
      pub segments : (rows : Rows) → Fits rows → AreInTime s rows → IsSegment rows
      segments rows fits timely =
          by_time s (λ r. Fits r → IsSegment r) (λ none. rest_here [] parts.begins refl) (λ r row t seg fit. next r row fit t (seg (parts.prefixes r row fit))) rows timely fits

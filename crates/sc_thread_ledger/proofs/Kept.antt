-- What the ledger keeps beside the rows, after one more row.
use Rattle.std.proofs.Common.{◌≡◌, ℕ, zero, suc, ◌+◌, ◌-◌, ◌<◌, ◌≤◌, eqb, List, [], ◌∷◌, ◌++◌, length, map, Bool, true, false, cond, ◌&&◌, ◌||◌, replicate, get_or, set, sum_by, refl, sym, ap, ◌∙◌, arith, fold, append_assoc, min, ◌^◌}
use Rattle.std.proofs.lemmas.List.{append-nil, map-append, length-map}
use Rattle.std.proofs.lemmas.List.Folds.{list_any-append}
use Rattle.std.specs.List.{list_any}
use Rattle.sc_actor.specs.declared.rows.Row.{Row}
use Rattle.sc_actor.specs.declared.rows.Event.{Event}
use Rattle.sc_actor.specs.declared.rows.Event.TheVariants.{Deliver, Drop, Again, Go, Tick, Crash, Told}
use Rattle.sc_actor.specs.Definitions.{mails, copies, counts_at, counts_after, is_crash, has_crashed, mail_bytes, row_bytes, journal_bytes}
use Rattle.sc_actor.proofs.Lemmas.{mails_count, journal_counts, journal_bytes-snoc, counted, mails-snoc, copies-snoc}
use Rattle.sc_thread_ledger.specs.LedgerDefinitions.{crashed_in}

-- a row that fits within a limit has few mails
pub few_sent : {M : Type 0} (weighs : M → ℕ) (sent : List M) (before total limit : ℕ) → total ≡ min (before + (64 + sum_by (mail_bytes weighs) sent)) (2 ^ 64 - 1) → total ≤ limit → limit ≤ 1073741824 → length sent < 1099511627776
few_sent weighs sent before total limit e fits most = omega (arith, e, mails_count weighs sent)

crash_here : (w who : ℕ) (b rest : Bool) → (list_any (λ c. eqb c who) (cond b (w ∷ []) []) || rest) ≡ ((eqb w who && b) || rest)
crash_here w who true rest = elim (eqb w who) as (λ e. ((e || false) || rest) ≡ ((e && true) || rest)) [ true ↦ refl | false ↦ refl ]
crash_here w who false rest = elim (eqb w who) as (λ e. rest ≡ ((e && false) || rest)) [ true ↦ refl | false ↦ refl ]

module _ {M O : Type 0} where
  -- the crashed, after one more row
  pub crashed-push : (rows : List (Row M O)) (row : Row M O) → crashed_in (rows ++ row ∷ []) ≡ crashed_in rows ++ cond (is_crash row.event) (row.who ∷ []) []
  crashed-push [] row = append-nil (cond (is_crash row.event) (row.who ∷ []) [])
  crashed-push (r ∷ rows) row =
      ap (λ l. cond (is_crash r.event) (r.who ∷ []) [] ++ l) (crashed-push rows row)
      ∙ sym (append_assoc (cond (is_crash r.event) (r.who ∷ []) []) (crashed_in rows) (cond (is_crash row.event) (row.who ∷ []) []))

  -- the receivers of mail, after one more row
  pub receivers-push : (receiver : M → ℕ) (rows : List (Row M O)) (row : Row M O) → map receiver (mails (rows ++ row ∷ [])) ≡ map receiver (mails rows) ++ map receiver row.sent
  receivers-push receiver rows row = ap (map receiver) (mails-snoc rows row) ∙ map-append receiver (mails rows) row.sent

  -- the copies of mail, after one more row
  pub copies-push : (rows : List (Row M O)) (row : Row M O) → copies (rows ++ row ∷ []) ≡ counts_at (copies rows) row.event ++ replicate (length row.sent) 1
  copies-push rows row = copies-snoc rows row

  -- the counted bytes, after one more row
  pub bytes-push : (weighs : M → ℕ) (rows : List (Row M O)) (row : Row M O) → journal_bytes weighs (rows ++ row ∷ []) ≡ journal_bytes weighs rows + row_bytes weighs row
  bytes-push weighs rows row = journal_bytes-snoc weighs rows row

  -- the crashed are those of whom a row says so
  pub crashed_any : (rows : List (Row M O)) (who : ℕ) → list_any (λ c. eqb c who) (crashed_in rows) ≡ has_crashed rows who
  crashed_any [] who = refl
  crashed_any (row ∷ rows) who =
      list_any-append (λ c. eqb c who) (cond (is_crash row.event) (row.who ∷ []) []) (crashed_in rows)
      ∙ (crash_here row.who who (is_crash row.event) (list_any (λ c. eqb c who) (crashed_in rows))
      ∙ ap (λ b. (eqb row.who who && is_crash row.event) || b) (crashed_any rows who))

abbrev Below : List ℕ → ℕ → Type 0
Below counts b = (i : ℕ) → get_or counts i 0 ≤ b

below_set : (counts : List ℕ) (place n b : ℕ) → Below counts b → n ≤ suc b → Below (set counts place n) (suc b)
below_set [] place n b all small i = omega (arith, all i)
below_set (c ∷ counts) zero n b all small zero = small
below_set (c ∷ counts) zero n b all small (suc i) = omega (arith, all (suc i))
below_set (c ∷ counts) (suc place) n b all small zero = omega (arith, all 0)
below_set (c ∷ counts) (suc place) n b all small (suc i) = below_set counts place n b (λ j. all (suc j)) small i

below_more : (counts : List ℕ) (b : ℕ) → Below counts b → Below counts (suc b)
below_more counts b all i = omega (arith, all i)

below_ones : (n b : ℕ) → Below (replicate n 1) (suc b)
below_ones zero b i = omega arith
below_ones (suc n) b zero = omega arith
below_ones (suc n) b (suc i) = below_ones n b i

below_append : (xs ys : List ℕ) (b : ℕ) → Below xs b → Below ys b → Below (xs ++ ys) b
below_append [] ys b p q i = q i
below_append (x ∷ xs) ys b p q zero = p 0
below_append (x ∷ xs) ys b p q (suc i) = below_append xs ys b (λ j. p (suc j)) q i

below_at : {O : Type 0} (counts : List ℕ) (event : Event O) (b : ℕ) → Below counts b → Below (counts_at counts event) (suc b)
below_at counts (Deliver zero) b all = below_more counts b all
below_at counts (Deliver (suc place)) b all = below_set counts place (get_or counts place 0 - 1) b all (omega (arith, all place))
below_at counts (Drop zero) b all = below_more counts b all
below_at counts (Drop (suc place)) b all = below_set counts place (get_or counts place 0 - 1) b all (omega (arith, all place))
below_at counts (Again zero) b all = below_more counts b all
below_at counts (Again (suc place)) b all = below_set counts place (get_or counts place 0 + 1) b all (omega (arith, all place))
below_at counts Tick b all = below_more counts b all
below_at counts Go b all = below_more counts b all
below_at counts (Told order) b all = below_more counts b all
below_at counts Crash b all = below_more counts b all

below_from : {M O : Type 0} (counts : List ℕ) (rows : List (Row M O)) (b : ℕ) → Below counts b → Below (fold counts_after counts rows) (b + length rows)
below_from counts [] b all i = omega (arith, all i)
below_from counts (row ∷ rows) b all i =
    let step : Below (counts_after counts row) (suc b) = below_append (counts_at counts row.event) (replicate (length row.sent) 1) (suc b) (below_at counts row.event b all) (below_ones (length row.sent) b) in
    omega (arith, below_from (counts_after counts row) rows (suc b) step i)

-- no mail has more copies than there are rows
pub few_copies : {M O : Type 0} (rows : List (Row M O)) (i : ℕ) → get_or (copies rows) i 0 ≤ length rows
few_copies rows i = omega (arith, below_from [] rows 0 (λ j. omega arith) i)

module _ {M O : Type 0} (weighs : M → ℕ) (receiver : M → ℕ) (rows : List (Row M O)) (bytes limit : ℕ) (is : bytes ≡ journal_bytes weighs rows) (fits : bytes ≤ limit) (most : limit ≤ 1073741824) where
  -- a journal within the limit has fewer than 2^32 - 1 mails
  pub few_mails : (receivers : List ℕ) → receivers ≡ map receiver (mails rows) → length receivers < 4294967295
  few_mails receivers all =
      let l : length receivers ≡ length (mails rows) = ap length all ∙ length-map (mails rows) receiver in
      omega (arith, journal_counts weighs rows, l)

  -- a mail has fewer than 2^32 - 1 copies
  pub small_copies : (counts : List ℕ) → counts ≡ copies rows → (i : ℕ) → get_or counts i 0 < 4294967295
  small_copies counts all i =
      let c : get_or counts i 0 ≡ get_or (copies rows) i 0 = ap (λ l. get_or l i 0) all in
      omega (arith, journal_counts weighs rows, few_copies rows i, c)

module _ {M O : Type 0} (rows after : List (Row M O)) (row : Row M O) (is : after ≡ rows ++ row ∷ []) where
  -- the counted bytes are kept
  pub kept_bytes : (weighs : M → ℕ) (bytes : ℕ) → bytes ≡ journal_bytes weighs rows + row_bytes weighs row → bytes ≡ journal_bytes weighs after
  kept_bytes weighs bytes e = e ∙ (sym (bytes-push weighs rows row) ∙ ap (journal_bytes weighs) (sym is))

  -- the copies are kept
  pub kept_counts : (counts last : List ℕ) → counts ≡ copies rows → last ≡ counts_at counts row.event ++ replicate (length row.sent) 1 → last ≡ copies after
  kept_counts counts last c e =
      e ∙ (ap (λ x. counts_at x row.event ++ replicate (length row.sent) 1) c ∙ (sym (copies-push rows row) ∙ ap copies (sym is)))

  -- the receivers are kept
  pub kept_receivers : (receiver : M → ℕ) (receivers last : List ℕ) → receivers ≡ map receiver (mails rows) → last ≡ receivers ++ map receiver row.sent → last ≡ map receiver (mails after)
  kept_receivers receiver receivers last r e =
      e ∙ (ap (λ x. x ++ map receiver row.sent) r ∙ (sym (receivers-push receiver rows row) ∙ ap (λ x. map receiver (mails x)) (sym is)))

  -- the crashed are kept
  pub kept_crashed : (crashed last : List ℕ) → crashed ≡ crashed_in rows → last ≡ crashed ++ cond (is_crash row.event) (row.who ∷ []) [] → last ≡ crashed_in after
  kept_crashed crashed last c e =
      e ∙ (ap (λ l. l ++ cond (is_crash row.event) (row.who ∷ []) []) c ∙ (sym (crashed-push rows row) ∙ ap crashed_in (sym is)))

-- a journal within the limit has few rows
pub few_all : {M O : Type 0} (weighs : M → ℕ) (rows : List (Row M O)) (bytes n : ℕ) → bytes ≡ journal_bytes weighs rows → bytes ≤ 1073741824 → n ≡ length rows → n ≤ 16777216
few_all weighs rows bytes n is fits l = omega (arith, journal_counts weighs rows, is, l)

-- as many counts are kept as receivers
pub same_lengths : {M O : Type 0} (receiver : M → ℕ) (rows : List (Row M O)) (counts receivers : List ℕ) → counts ≡ copies rows → receivers ≡ map receiver (mails rows) → length counts ≡ length receivers
same_lengths receiver rows counts receivers c r = ap length c ∙ (counted rows ∙ (sym (length-map (mails rows) receiver) ∙ ap length (sym r)))

-- with a row that fits there are few mails
pub few_after : {M O : Type 0} (weighs receiver : M → ℕ) (rows : List (Row M O)) (row : Row M O) (receivers : List ℕ) → receivers ≡ map receiver (mails rows) → (bytes limit : ℕ) → bytes ≡ journal_bytes weighs rows + row_bytes weighs row → bytes ≤ limit → limit ≤ 1073741824 →
    length receivers + length row.sent < 4294967295
few_after weighs receiver rows row receivers r bytes limit is fits most =
    let l : length receivers ≡ length (mails rows) = ap length r ∙ length-map (mails rows) receiver in
    omega (arith, journal_counts weighs rows, mails_count weighs row.sent, l, is)

-- as many receivers are kept as mails were sent
pub sent_length : {M O : Type 0} (receiver : M → ℕ) (rows : List (Row M O)) (receivers : List ℕ) → receivers ≡ map receiver (mails rows) → length receivers ≡ length (mails rows)
sent_length receiver rows receivers r = ap length r ∙ length-map (mails rows) receiver

-- the same of the first rows
pub small_taken : {M O : Type 0} (rows first : List (Row M O)) (counts : List ℕ) → counts ≡ copies first → length first ≤ length rows → length rows < 4294967295 → (i : ℕ) → get_or counts i 0 < 4294967295
small_taken rows first counts is few most i =
    let c : get_or counts i 0 ≡ get_or (copies first) i 0 = ap (λ l. get_or l i 0) is in
    omega (arith, few_copies first i, few, most, c)

-- a journal within the limit has few rows and few mails
pub mails_few : {M O : Type 0} (weighs : M → ℕ) (rows : List (Row M O)) (bytes : ℕ) → bytes ≡ journal_bytes weighs rows → bytes ≤ 1073741824 → (length rows < 4294967295) × (length (mails rows) < 4294967295)
mails_few weighs rows bytes is fits = (omega (arith, journal_counts weighs rows, is, fits), omega (arith, journal_counts weighs rows, is, fits))

-- Where each mail stands, as rows come, and that it stands there.
use Rattle.std.proofs.Common.{◌≡◌, ℕ, zero, suc, ◌+◌, ◌-◌, ◌<◌, ◌≤◌, ⊎_elim, List, [], ◌∷◌, ◌++◌, length, replicate, get_or, refl, sym, ap, ◌∙◌, arith, append_assoc, length-append, ◌⊎◌, None, Some}
use Rattle.std.specs.Prelude.{slice_get}
use Rattle.std.proofs.lemmas.Bool.Decides.{leb_tells}
use Rattle.std.proofs.lemmas.List.{append-nil, length-replicate}
use Rattle.sc_actor.specs.declared.rows.Row.{Row}
use Rattle.std.proofs.lemmas.Option.{slice_get_past}
use Rattle.sc_actor.specs.Definitions.{mails, numbered}
use Rattle.sc_thread_ledger.specs.LedgerDefinitions.{homes_from, firsts_from}
use Rattle.sc_actor.proofs.Lemmas.{get_at}
use Rattle.sc_thread_ledger.proofs.MailPlaces.{get_first, get_second}

get_same : (c n i : ℕ) (xs : List ℕ) → i < c → get_or (replicate c n ++ xs) i 0 ≡ n
get_same zero n i xs lt = absurd (omega arith)
get_same (suc c) n zero xs lt = refl
get_same (suc c) n (suc i) xs lt = get_same c n i xs (omega arith)

get_past : (c n i : ℕ) (xs : List ℕ) → c ≤ i → get_or (replicate c n ++ xs) i 0 ≡ get_or xs (i - c) 0
get_past zero n i xs le = ap (λ k. get_or xs k 0) (omega arith)
get_past (suc c) n zero xs le = absurd (omega arith)
get_past (suc c) n (suc i) xs le = get_past c n i xs (omega arith) ∙ ap (λ k. get_or xs k 0) (omega arith)

module _ {M O : Type 0} where
  -- the places of mail, after one more row
  pub homes-push : (place : ℕ) (rows : List (Row M O)) (row : Row M O) → homes_from place (rows ++ row ∷ []) ≡ homes_from place rows ++ replicate (length row.sent) (place + length rows)
  homes-push place [] row = append-nil (replicate (length row.sent) place) ∙ ap (replicate (length row.sent)) (omega arith)
  homes-push place (r ∷ rows) row =
      ap (λ l. replicate (length r.sent) place ++ l) (homes-push (suc place) rows row ∙ ap (λ n. homes_from (suc place) rows ++ replicate (length row.sent) n) (omega arith))
      ∙ sym (append_assoc (replicate (length r.sent) place) (homes_from (suc place) rows) (replicate (length row.sent) (place + length (r ∷ rows))))

  -- the mails before each row, after one more row
  pub firsts-push : (before : ℕ) (rows : List (Row M O)) (row : Row M O) → firsts_from before (rows ++ row ∷ []) ≡ firsts_from before rows ++ (before + length (mails rows)) ∷ []
  firsts-push before [] row = ap (λ n. n ∷ []) (omega arith)
  firsts-push before (r ∷ rows) row =
      ap (λ l. before ∷ l) (firsts-push (before + length r.sent) rows row ∙ ap (λ n. firsts_from (before + length r.sent) rows ++ n ∷ []) (omega (arith, length-append r.sent (mails rows))))

  -- the mail at a place stands in the row of its home
  pub record AtHome (rows : List (Row M O)) (place before p : ℕ) : Type 0 where
    -- the row's place
    pub row : ℕ
    -- how many mails come before the row's
    pub first : ℕ
    -- the list of homes gives the row
    pub home : get_or (homes_from place rows) p 0 ≡ place + row
    -- there is such a row
    pub inside : row < length rows
    -- the list of firsts gives how many mails come before
    pub first_is : get_or (firsts_from before rows) row 0 ≡ before + first
    -- the mail is not before the row's first
    pub below : first ≤ p
    -- the mail is not past the row's last
    pub within : (d : Row M O) → p - first < length (get_or rows row d).sent
    -- what the row sent there is the mail
    pub same : (d : Row M O) → slice_get (mails rows) p ≡ slice_get (get_or rows row d).sent (p - first)

  at_here : (rows : List (Row M O)) (row : Row M O) (place before p : ℕ) → p < length row.sent → AtHome (row ∷ rows) place before p
  at_here rows row place before p lt = let back : p - 0 ≡ p = omega arith in record {
    row = 0;
    first = 0;
    home = get_same (length row.sent) place p (homes_from (suc place) rows) lt ∙ omega arith;
    inside = omega arith;
    first_is = omega arith;
    below = omega arith;
    within = λ d. omega (arith, lt);
    same = λ d. get_first row.sent (mails rows) p lt ∙ ap (slice_get row.sent) (sym back);
  }

  at_later : (rows : List (Row M O)) (row : Row M O) (place before p : ℕ) → length row.sent ≤ p → AtHome rows (suc place) (before + length row.sent) (p - length row.sent) → AtHome (row ∷ rows) place before p
  at_later rows row place before p le h = let back : p - length row.sent - h.first ≡ p - (length row.sent + h.first) = omega arith in record {
    row = suc h.row;
    first = length row.sent + h.first;
    home = get_past (length row.sent) place p (homes_from (suc place) rows) le ∙ (h.home ∙ omega arith);
    inside = omega (arith, h.inside);
    first_is = h.first_is ∙ omega arith;
    below = omega (arith, h.below, le);
    within = λ d. omega (arith, h.within d);
    same = λ d. get_second row.sent (mails rows) p le ∙ (h.same d ∙ ap (slice_get (get_or rows h.row d).sent) back);
  }

  at_home : (rows : List (Row M O)) (place before p : ℕ) → p < length (mails rows) → AtHome rows place before p
  at_home [] place before p lt = absurd (omega arith)
  at_home (row ∷ rows) place before p lt =
      ⊎_elim (λ t. at_here rows row place before p (omega (arith, t.1)))
      (λ t. at_later rows row place before p (omega (arith, t.1)) (at_home rows (suc place) (before + length row.sent) (p - length row.sent) (omega (arith, t.1, lt, length-append row.sent (mails rows))))) (leb_tells (suc p) (length row.sent))

  lengths : (before : ℕ) (rows : List (Row M O)) → length (firsts_from before rows) ≡ length rows
  lengths before [] = refl
  lengths before (row ∷ rows) = omega (arith, lengths (before + length row.sent) rows)

  homes_all : (place : ℕ) (rows : List (Row M O)) → length (homes_from place rows) ≡ length (mails rows)
  homes_all place [] = refl
  homes_all place (row ∷ rows) =
      omega (arith, length-append (replicate (length row.sent) place) (homes_from (suc place) rows), length-replicate (length row.sent) place, length-append row.sent (mails rows), homes_all (suc place) rows)

  -- what the code finds of the mail at a place
  module _ (rows : List (Row M O)) (homes firsts : List ℕ) (p : ℕ) (h : homes ≡ homes_from 0 rows) (f : firsts ≡ firsts_from 0 rows) (lt : p < length homes) (home : ℕ) (is : home ≡ get_or homes p home) where
    -- where the mail stands
    pub at : AtHome rows 0 0 p
    at = at_home rows 0 0 p (omega (arith, lt, ap length h, homes_all 0 rows))

    pub home_is : home ≡ at.row
    home_is = is ∙ (sym (get_at homes p home lt) ∙ (ap (λ l. get_or l p 0) h ∙ (at.home ∙ omega arith)))

    -- there is a row at the home
    pub home_inside : home < length rows
    home_inside = omega (arith, home_is, at.inside)

    -- the list of firsts has a number for the home
    pub first_inside : home < length firsts
    first_inside = omega (arith, home_is, at.inside, ap length f, lengths 0 rows)

    module _ (first : ℕ) (first_is : first ≡ get_or firsts home first) where
      pub first_at : first ≡ at.first
      first_at = first_is ∙ (sym (get_at firsts home first first_inside) ∙ ((λ i. get_or (f i) (home_is i) 0) ∙ (at.first_is ∙ omega arith)))

      -- the mail is not before the row's first
      pub first_below : first ≤ p
      first_below = omega (arith, first_at, at.below)

      module _ (row : Row M O) (row_is : row ≡ get_or rows home row) where
        sent_is : (get_or rows at.row row).sent ≡ row.sent
        sent_is = ap (λ k. (get_or rows k row).sent) (sym home_is) ∙ ap (λ r. r.sent) (sym row_is)

        -- the mail is not past the row's last
        pub mail_within : p - first < length row.sent
        mail_within = omega (arith, first_at, at.within row, ap length sent_is)

        -- what the row sent there is the mail at the place
        pub mail_same : (mail : M) → slice_get row.sent (p - first) ≡ Some mail → slice_get (mails rows) p ≡ Some mail
        mail_same mail e = at.same row ∙ ((λ i. slice_get (sent_is i) (p - sym first_at i)) ∙ e)

module _ {M O : Type 0} (rows after : List (Row M O)) (row : Row M O) (is : after ≡ rows ++ row ∷ []) where
  -- the list of places is kept
  pub kept_homes : (homes last : List ℕ) (place n : ℕ) → homes ≡ homes_from 0 rows → place ≡ length rows → n ≡ length row.sent → last ≡ homes ++ replicate n place → last ≡ homes_from 0 after
  kept_homes homes last place n h p l e =
      e ∙ ((λ i. h i ++ replicate (l i) ((p ∙ zeroth) i)) ∙ (sym (homes-push 0 rows row) ∙ ap (homes_from 0) (sym is)))
    where
      zeroth : length rows ≡ 0 + length rows
      zeroth = omega arith

  -- the list of mails before each row is kept
  pub kept_firsts : (firsts last : List ℕ) (before : ℕ) → firsts ≡ firsts_from 0 rows → before ≡ length (mails rows) → last ≡ firsts ++ before ∷ [] → last ≡ firsts_from 0 after
  kept_firsts firsts last before f b e =
      e ∙ ((λ i. f i ++ (b ∙ zeroth) i ∷ []) ∙ (sym (firsts-push 0 rows row) ∙ ap (firsts_from 0) (sym is)))
    where
      zeroth : length (mails rows) ≡ 0 + length (mails rows)
      zeroth = omega arith

-- no mail has a number past the last
pub none_past : {M O : Type 0} (rows : List (Row M O)) (homes : List ℕ) (number : ℕ) → homes ≡ homes_from 0 rows → (number ≡ 0) ⊎ (length homes < number) → None ≡ numbered (mails rows) number
none_past rows homes zero h e = refl
none_past rows homes (suc place) h e =
    sym (slice_get_past (mails rows) place (⊎_elim (λ z. absurd (omega (arith, z))) (λ (lt : length homes < suc place). omega (arith, lt, ap length h, homes_all 0 rows)) e))

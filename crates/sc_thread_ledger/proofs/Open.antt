-- The tests of the ledger are those of the definitions of pending mail.
use Rattle.std.proofs.Common.{◌≡◌, ℕ, zero, suc, ◌+◌, ◌-◌, ◌<◌, ◌≤◌, eqb, nat_lt, List, [], ◌∷◌, ◌++◌, length, map, Bool, true, false, cond, ◌&&◌, ◌||◌, not, replicate, get_or, refl, sym, ap, ◌∙◌, subst, arith, None, Some, Option, ne_eqb, eq-eqb}
use Rattle.std.proofs.Math.Bool.{and_assoc}
use Rattle.std.proofs.lemmas.Bool.{eqb-true}
use Rattle.std.proofs.lemmas.List.{length-map}
use Rattle.std.proofs.lemmas.Bool.Decides.{nat_tests}
use Rattle.std.proofs.lemmas.List.Folds.{list_any-append}
use Rattle.std.specs.List.{list_any}
use Rattle.std.specs.Option.{option_map}
use Rattle.std.specs.Prelude.{slice_get, IsSome, IfSome}
use Rattle.sc_actor.specs.declared.rows.Row.{Row}
use Rattle.sc_actor.specs.Definitions.{mails, copies, numbers, numbered, may_get, is_for, kth}
use Rattle.sc_thread_ledger.specs.LedgerDefinitions.{crashed_in, runs, counts_for, upto, whose, pending_of, kth_pending, is_pending, may_have, may_repeat}
use Rattle.sc_actor.proofs.Lemmas.{counted, pending_sound}
use Rattle.sc_thread_ledger.proofs.Kept.{crashed_any}
use Rattle.sc_thread_ledger.proofs.Entries.{and_false}

one_more_number : (n r : ℕ) → ((nat_lt 0 r && nat_lt r (n + 1)) || (eqb (suc n) r || false)) ≡ (nat_lt 0 r && nat_lt r (suc n + 1))
one_more_number n r = grind (arith, nat_tests)

none_below_one : (r : ℕ) → false ≡ (nat_lt 0 r && nat_lt r (0 + 1))
none_below_one r = grind (arith, nat_tests)

upto_any : (n r : ℕ) → list_any (λ a. eqb a r) (upto n) ≡ (nat_lt 0 r && nat_lt r (n + 1))
upto_any zero r = none_below_one r
upto_any (suc n) r =
    list_any-append (λ a. eqb a r) (upto n) (suc n ∷ [])
    ∙ (ap (λ b. b || (eqb (suc n) r || false)) (upto_any n r) ∙ one_more_number n r)

module _ {M O : Type 0} (receiver : M → ℕ) (actors : ℕ) (rows : List (Row M O)) where
  -- an actor runs where it may get mail
  pub runs_is : (r : ℕ) → runs actors (crashed_in rows) r ≡ may_get (upto actors) rows r
  runs_is r =
      sym (and_assoc (nat_lt 0 r) (nat_lt r (actors + 1)) (not (list_any (λ c. eqb c r) (crashed_in rows))))
      ∙ (λ i. sym (upto_any actors r) i && not (crashed_any rows r i))

  same_one : (r who : ℕ) (t : ℕ → Bool) → (eqb r who && t r) ≡ (eqb r who && t who)
  same_one r who t = elim (eqb r who) as (λ b. eqb r who ≡ b → (b && t r) ≡ (b && t who)) [ true ↦ λ e. ap t (eqb-true r who e) | false ↦ λ _. refl ] refl

  -- mail counts for an actor where it is pending for it
  pub counts_is : (who : ℕ) (mail : M) → counts_for actors (crashed_in rows) who (receiver mail) ≡ is_for receiver (upto actors) rows (whose who) mail
  counts_is zero mail = runs_is (receiver mail)
  counts_is (suc n) mail =
      ap (λ b. (b || eqb (receiver mail) (suc n)) && runs actors (crashed_in rows) (receiver mail)) (ne_eqb (suc n) 0 (omega arith))
      ∙ same_one (receiver mail) (suc n) (runs actors (crashed_in rows))
      ∙ ap (λ b. eqb (receiver mail) (suc n) && b) (runs_is (suc n))

  numbers-map : (test : ℕ → Bool) (n : ℕ) (sent : List M) (counts : List ℕ) → numbers test n (map receiver sent) counts ≡ numbers (λ m. test (receiver m)) n sent counts
  numbers-map test n [] counts = refl
  numbers-map test n (m ∷ sent) [] = refl
  numbers-map test n (m ∷ sent) (c ∷ counts) = ap (λ l. cond (test (receiver m)) (replicate c n) [] ++ l) (numbers-map test (suc n) sent counts)

  -- the list that the code goes through
  pub open_is : (who : ℕ) → numbers (counts_for actors (crashed_in rows) who) 1 (map receiver (mails rows)) (copies rows) ≡ pending_of receiver actors rows who
  open_is who =
      numbers-map (counts_for actors (crashed_in rows) who) 1 (mails rows) (copies rows)
      ∙ (λ i. numbers (λ m. counts_is who m i) 1 (mails rows) (copies rows))

some_copies : (c : ℕ) → nat_lt 0 (suc c) ≡ true
some_copies c = grind (arith, nat_tests)

any_replicate : (c n number : ℕ) → list_any (λ x. eqb x number) (replicate c n) ≡ (nat_lt 0 c && eqb n number)
any_replicate zero n number = refl
any_replicate (suc c) n number =
    rw (some_copies c) (elim (eqb n number) as (λ b. eqb n number ≡ b → (b || list_any (λ x. eqb x number) (replicate c n)) ≡ b)
    [ true ↦ λ _. refl | false ↦ λ e. any_replicate c n number ∙ (ap (λ b. nat_lt 0 c && b) e ∙ and_false (nat_lt 0 c)) ] refl)

any_cond : (b : Bool) (c n number : ℕ) → list_any (λ x. eqb x number) (cond b (replicate c n) []) ≡ (b && (nat_lt 0 c && eqb n number))
any_cond true c n number = any_replicate c n number
any_cond false c n number = refl

module _ {M : Type 0} (test : M → Bool) where
  abbrev found : Option M → Bool
  found None = false
  found (Some m) = test m

  -- no number below the first stands in the list
  any_below : (first number : ℕ) (sent : List M) (counts : List ℕ) → number < first → list_any (λ x. eqb x number) (numbers test first sent counts) ≡ false
  any_below first number [] counts lt = refl
  any_below first number (m ∷ sent) [] lt = refl
  any_below first number (m ∷ sent) (c ∷ counts) lt =
      list_any-append (λ x. eqb x number) (cond (test m) (replicate c first) []) (numbers test (suc first) sent counts)
      ∙ (ap (λ b. b || list_any (λ x. eqb x number) (numbers test (suc first) sent counts)) (any_cond (test m) c first number ∙ below_here (test m) (nat_lt 0 c) (ne_eqb first number (omega arith)))
      ∙ any_below (suc first) number sent counts (omega arith))
    where
      below_here : (a b : Bool) → eqb first number ≡ false → (a && (b && eqb first number)) ≡ false
      below_here a b e = ap (λ x. a && (b && x)) e ∙ (ap (λ x. a && x) (and_false b) ∙ and_false a)

  any_numbers : (first place : ℕ) (sent : List M) (counts : List ℕ) → length counts ≡ length sent →
      list_any (λ x. eqb x (first + place)) (numbers test first sent counts) ≡ (found (slice_get sent place) && nat_lt 0 (get_or counts place 0))
  any_numbers first place [] counts l = refl
  any_numbers first place (m ∷ sent) [] l = absurd (omega arith)
  any_numbers first zero (m ∷ sent) (c ∷ counts) l =
      list_any-append (λ x. eqb x (first + 0)) (cond (test m) (replicate c first) []) (numbers test (suc first) sent counts)
      ∙ ((λ i. any_cond (test m) c first (first + 0) i || any_below (suc first) (first + 0) sent counts (omega arith) i)
      ∙ here (test m) (nat_lt 0 c) (eq-eqb first (first + 0) (omega arith)))
    where
      here : (a b : Bool) → eqb first (first + 0) ≡ true → ((a && (b && eqb first (first + 0))) || false) ≡ (a && b)
      here a b e = ap (λ x. (a && (b && x)) || false) e ∙ elim a as (λ y. ((y && (b && true)) || false) ≡ (y && b)) [ true ↦ elim b as (λ z. ((z && true) || false) ≡ z) [ true ↦ refl | false ↦ refl ] | false ↦ refl ]
  any_numbers first (suc place) (m ∷ sent) (c ∷ counts) l =
      list_any-append (λ x. eqb x (first + suc place)) (cond (test m) (replicate c first) []) (numbers test (suc first) sent counts)
      ∙ (ap (λ b. b || list_any (λ x. eqb x (first + suc place)) (numbers test (suc first) sent counts))
      (any_cond (test m) c first (first + suc place) ∙ (ap (λ x. test m && (nat_lt 0 c && x)) (ne_eqb first (first + suc place) (omega arith)) ∙ (ap (λ x. test m && x) (and_false (nat_lt 0 c)) ∙ and_false (test m))))
      ∙ subst (λ n. list_any (λ x. eqb x n) (numbers test (suc first) sent counts) ≡ (found (slice_get sent place) && nat_lt 0 (get_or counts place 0))) (omega arith) (any_numbers (suc first) place sent counts (omega arith)))

module _ {M O : Type 0} (receiver : M → ℕ) (actors : ℕ) (rows : List (Row M O)) where
  found_is : (o : Option M) → found (is_for receiver (upto actors) rows None) o ≡ may_have receiver actors rows o
  found_is None = refl
  found_is (Some m) = refl

  -- a mail is pending where it may be repeated and has a copy
  pub pending_is : (number : ℕ) → is_pending receiver actors rows number ≡ (may_repeat receiver actors rows number && nat_lt 0 (get_or (copies rows) (number - 1) 0))
  pending_is zero = any_below (is_for receiver (upto actors) rows None) 1 0 (mails rows) (copies rows) (omega arith)
  pending_is (suc place) =
      let one : 1 + place ≡ suc place = omega arith in
      let back : suc place - 1 ≡ place = omega arith in
      subst (λ n. list_any (λ x. eqb x n) (numbers (is_for receiver (upto actors) rows None) 1 (mails rows) (copies rows)) ≡ (found (is_for receiver (upto actors) rows None) (slice_get (mails rows) place) && nat_lt 0 (get_or (copies rows) place 0))) one
      (any_numbers (is_for receiver (upto actors) rows None) 1 place (mails rows) (copies rows) (counted rows))
      ∙ (λ i. found_is (slice_get (mails rows) place) i && nat_lt 0 (get_or (copies rows) (sym back i) 0))

  get_map : (sent : List M) (place : ℕ) (t : ℕ → Bool) (u : M → Bool) → ((m : M) → t (receiver m) ≡ u m) → place < length sent → t (get_or (map receiver sent) place 0) ≡ found u (slice_get sent place)
  get_map [] place t u same lt = absurd (omega arith)
  get_map (m ∷ sent) zero t u same lt = same m
  get_map (m ∷ sent) (suc place) t u same lt = get_map sent place t u same (omega arith)

  some_map : (sent : List M) (place : ℕ) → place < length sent → Some (get_or (map receiver sent) place 0) ≡ option_map receiver (slice_get sent place)
  some_map [] place lt = absurd (omega arith)
  some_map (m ∷ sent) zero lt = refl
  some_map (m ∷ sent) (suc place) lt = some_map sent place (omega arith)

  -- to whom a mail goes
  pub receiver_here : (number : ℕ) (receivers : List ℕ) → receivers ≡ map receiver (mails rows) → 0 < number → number ≤ length receivers → Some (get_or receivers (number - 1) 0) ≡ option_map receiver (numbered (mails rows) number)
  receiver_here zero receivers is some fits = absurd (omega arith)
  receiver_here (suc place) receivers is some fits =
      let minus : suc place - 1 ≡ place = omega arith in
      (λ i. Some (get_or (is i) (minus i) 0)) ∙ some_map (mails rows) place (omega (arith, fits, ap length is, length-map (mails rows) receiver))

  -- the test of the code, at a mail that was sent
  pub repeat_here : (number : ℕ) (receivers crashed : List ℕ) → receivers ≡ map receiver (mails rows) → crashed ≡ crashed_in rows → 0 < number → number ≤ length receivers →
      runs actors crashed (get_or receivers (number - 1) 0) ≡ may_repeat receiver actors rows number
  repeat_here zero receivers crashed r c some within = absurd (omega arith)
  repeat_here (suc place) receivers crashed r c some within =
      let back : suc place - 1 ≡ place = omega arith in
      let inside : length receivers ≡ length (mails rows) = ap length r ∙ length-map (mails rows) receiver in
      (λ i. runs actors (c i) (get_or (r i) (back i) 0))
      ∙ (get_map (mails rows) place (runs actors (crashed_in rows)) (is_for receiver (upto actors) rows None) (λ m. runs_is receiver actors rows (receiver m)) (omega arith)
      ∙ found_is (slice_get (mails rows) place))

  -- its count says whether it is pending, where it may be repeated
  pub pending_then : (number : ℕ) (r : Bool) (counts : List ℕ) → counts ≡ copies rows → r ≡ nat_lt 0 (get_or counts (number - 1) 0) → may_repeat receiver actors rows number ≡ true → r ≡ is_pending receiver actors rows number
  pending_then number r counts all is may =
      is ∙ (ap (λ l. nat_lt 0 (get_or l (number - 1) 0)) all
      ∙ (ap (λ b. b && nat_lt 0 (get_or (copies rows) (number - 1) 0)) (sym may) ∙ sym (pending_is number)))

  -- where it may not be, it is not pending
  pub pending_else : (number : ℕ) (r : Bool) → r ≡ may_repeat receiver actors rows number → r ≡ false → r ≡ is_pending receiver actors rows number
  pending_else number r is none =
      none ∙ (ap (λ b. b && nat_lt 0 (get_or (copies rows) (number - 1) 0)) (sym none ∙ is) ∙ sym (pending_is number))

  -- what the code finds is the k-th pending mail
  pub kth_is : (who k : ℕ) (result : Option ℕ) (crashed receivers counts : List ℕ) → result ≡ kth (numbers (counts_for actors crashed who) 1 receivers counts) k → crashed ≡ crashed_in rows → receivers ≡ map receiver (mails rows) → counts ≡ copies rows →
      result ≡ kth_pending receiver actors rows who k
  kth_is who k result crashed receivers counts is c r n =
      is ∙ ((λ i. kth (numbers (counts_for actors (c i) who) 1 (r i) (n i)) k) ∙ ap (λ l. kth l k) (open_is receiver actors rows who))

  number_sent : (who k number : ℕ) → kth_pending receiver actors rows who k ≡ Some number → IsSome (numbered (mails rows) number)
  number_sent who zero number e = cc
  number_sent who (suc k) number e =
      let p = pending_sound (is_for receiver (upto actors) rows (whose who)) 1 (mails rows) (copies rows) k number e in
      let n : suc p.place ≡ number = omega (arith, p.number_is) in
      subst (λ m. IsSome (numbered (mails rows) m)) n (subst IsSome (sym p.at) refl)

  -- and it was sent
  pub kth_sent : (who k : ℕ) (result : Option ℕ) → result ≡ kth_pending receiver actors rows who k → IfSome result (λ number. IsSome (numbered (mails rows) number))
  kth_sent who k None is = tt
  kth_sent who k (Some number) is = number_sent who k number (sym is)

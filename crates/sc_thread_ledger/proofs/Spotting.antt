-- Each copy stands where its spot says.
use Rattle.std.proofs.Common.{◌≡◌, ℕ, zero, suc, ◌+◌, ◌-◌, ◌<◌, eqb, nat_lt, List, [], ◌∷◌, ◌++◌, length, map, filter, fold, Bool, true, false, cond, ◌&&◌, ◌||◌, not, replicate, get_or, refl, sym, ap, ◌∙◌, subst, arith, append_assoc, length-append, add-one, ne_eqb, eq-eqb, All, Some}
use Rattle.std.specs.Prelude.{slice_get}
use Rattle.std.proofs.lemmas.List.Elements.{filter-append, All-push, All-nil}
use Rattle.std.specs.List.{AllByRecursion, list_any}
use Rattle.std.proofs.lemmas.Bool.{ltb-true, and_parts}
use Rattle.std.proofs.Math.Nat.{add-zero}
use Rattle.sc_actor.specs.declared.rows.Row.{Row}
use Rattle.sc_actor.specs.Definitions.{mails, copies, numbers, kth}
use Rattle.sc_thread_ledger.specs.declared.spots.Spot.{Spot}
use Rattle.sc_thread_ledger.specs.LedgerDefinitions.{crashed_in, runs, counts_for, kth_pending, spot_after, spots_from, spots_of}
use Rattle.sc_thread_ledger.proofs.Open.{open_is}

get_seam : (xs ys : List ℕ) (y : ℕ) → slice_get (xs ++ y ∷ ys) (length xs) ≡ Some y
get_seam [] ys y = refl
get_seam (x ∷ xs) ys y = get_seam xs ys y

kth_seam : (xs ys : List ℕ) (y : ℕ) → kth (xs ++ y ∷ ys) (length xs + 1) ≡ Some y
kth_seam xs ys y = rw add-one (get_seam xs ys y)

module _ (to : ℕ → ℕ) where
  abbrev Stands : List ℕ → Spot → Type 0
  Stands numbers s = kth (filter (λ n. eqb (to n) s.who) numbers) s.k ≡ Some s.number

  -- as many of the copies so far have a receiver as of the numbers so far
  abbrev Counts : List Spot → List ℕ → Type 0
  Counts done before = (x : ℕ) → length (filter (λ (s : Spot). eqb s.who x) done) ≡ length (filter (λ n. eqb (to n) x) before)

  here : (before rest : List ℕ) (number k : ℕ) → k ≡ length (filter (λ n. eqb (to n) (to number)) before) + 1 →
      kth (filter (λ n. eqb (to n) (to number)) (before ++ number ∷ rest)) k ≡ Some number
  here before rest number k is =
      let p : ℕ → Bool = λ n. eqb (to n) (to number) in
      let one : filter p (number ∷ rest) ≡ number ∷ filter p rest = ap (λ b. cond b (number ∷ filter p rest) (filter p rest)) (eq-eqb (to number) (to number) refl) in
      (λ i. kth (filter-append p before (number ∷ rest) i) (is i))
      ∙ (ap (λ l. kth (filter p before ++ l) (length (filter p before) + 1)) one ∙ kth_seam (filter p before) (filter p rest) number)

  one_more : (s : Spot) (number : ℕ) (b : Bool) → length (cond b (s ∷ []) []) ≡ length (cond b (number ∷ []) [])
  one_more s number true = refl
  one_more s number false = refl

  counts_more : (done : List Spot) (before : List ℕ) (s : Spot) (number : ℕ) → s.who ≡ to number → Counts done before → Counts (done ++ s ∷ []) (before ++ number ∷ [])
  counts_more done before s number who is x =
      ap length (filter-append (λ (t : Spot). eqb t.who x) done (s ∷ []))
      ∙ (length-append (filter (λ (t : Spot). eqb t.who x) done) (filter (λ (t : Spot). eqb t.who x) (s ∷ []))
      ∙ ((λ i. is x i + length (cond (eqb (who i) x) (s ∷ []) []))
      ∙ (ap (λ n. length (filter (λ n. eqb (to n) x) before) + n) (one_more s number (eqb (to number) x))
      ∙ (sym (length-append (filter (λ n. eqb (to n) x) before) (filter (λ n. eqb (to n) x) (number ∷ [])))
      ∙ sym (ap length (filter-append (λ n. eqb (to n) x) before (number ∷ [])))))))

  -- what the numbers' receivers all pass, each spot's receiver passes
  abbrev Fine : List ℕ → Spot → Type 0
  Fine numbers s = Stands numbers s × (0 < s.who)

pub next_place : (first j : ℕ) → suc first + j ≡ first + suc j
next_place first j = omega arith

module _ (receivers : List ℕ) where
  abbrev to : ℕ → ℕ
  to n = get_or receivers (n - 1) 0

  abbrev step : List Spot → ℕ → List Spot
  step before number = before ++ spot_after receivers before number ∷ []

  sound : (rest before : List ℕ) (done : List Spot) → AllByRecursion (λ n. 0 < to n) rest → Counts to done before → All (Fine to (before ++ rest)) done → All (Fine to (before ++ rest)) (fold step done rest)
  sound [] before done some is fine = fine
  sound (n ∷ rest) before done some is fine =
      let s = spot_after receivers done n in
      let all : All (Fine to (before ++ n ∷ rest)) (done ++ s ∷ []) =
      All-push (Fine to (before ++ n ∷ rest)) done s fine (here to before rest n s.k (ap (λ x. x + 1) (is (to n))), some.0) in
      subst (λ (l : List ℕ). All (Fine to l) (fold step (done ++ s ∷ []) rest)) (append_assoc before (n ∷ []) rest)
      (sound rest (before ++ n ∷ []) (done ++ s ∷ []) some.1 (counts_more to done before s n refl is)
      (subst (λ (l : List ℕ). All (Fine to l) (done ++ s ∷ [])) (sym (append_assoc before (n ∷ []) rest)) all))

  -- each copy is at the place that it names
  pub spots_sound : (all : List ℕ) → AllByRecursion (λ n. 0 < to n) all → All (Fine to all) (spots_from receivers all)
  spots_sound all some = sound all [] [] some (λ x. refl) (All-nil (Fine to all))

  -- the numbers of mail that counts
  some_append : (P : ℕ → Type 0) (xs ys : List ℕ) → AllByRecursion P xs → AllByRecursion P ys → AllByRecursion P (xs ++ ys)
  some_append P [] ys a b = b
  some_append P (x ∷ xs) ys a b = (a.0, some_append P xs ys a.1 b)

  some_same : (P : ℕ → Type 0) (c n : ℕ) → P n → AllByRecursion P (replicate c n)
  some_same P zero n p = tt
  some_same P (suc c) n p = (p, some_same P c n p)

  some_if : (P : ℕ → Type 0) (b : Bool) (c n : ℕ) → (b ≡ true → P n) → AllByRecursion P (cond b (replicate c n) [])
  some_if P true c n p = some_same P c n (p refl)
  some_if P false c n p = tt

  runs_some : (actors who : ℕ) (crashed : List ℕ) → runs actors crashed who ≡ true → 0 < who
  runs_some actors who crashed e = ltb-true 0 who (and_parts (nat_lt 0 who) (nat_lt who (actors + 1) && not (list_any (λ c. eqb c who) crashed)) e).0

  -- each pending mail has a receiver
  pub open_some : (actors : ℕ) (crashed : List ℕ) (first : ℕ) (rs counts : List ℕ) → ((j : ℕ) → to (first + j) ≡ get_or rs j 0) → AllByRecursion (λ n. 0 < to n) (numbers (counts_for actors crashed 0) first rs counts)
  open_some actors crashed first [] counts is = tt
  open_some actors crashed first (r ∷ rs) [] is = tt
  open_some actors crashed first (r ∷ rs) (c ∷ counts) is =
      let zeroth : to first ≡ r = ap to (sym (add-zero first)) ∙ is 0 in
      some_append (λ n. 0 < to n) (cond (counts_for actors crashed 0 r) (replicate c first) []) (numbers (counts_for actors crashed 0) (suc first) rs counts)
      (some_if (λ n. 0 < to n) (counts_for actors crashed 0 r) c first (λ e. subst (λ n. 0 < n) (sym zeroth) (runs_some actors r crashed e)))
      (open_some actors crashed (suc first) rs counts (λ j. ap to (next_place first j) ∙ is (suc j)))

  filter_same : (p : ℕ → Bool) (c n : ℕ) (q : Bool) → p n ≡ q → filter p (replicate c n) ≡ cond q (replicate c n) []
  filter_same p zero n true e = refl
  filter_same p zero n false e = refl
  filter_same p (suc c) n true e = rw e (ap (λ l. n ∷ l) (filter_same p c n true e))
  filter_same p (suc c) n false e = rw e (filter_same p c n false e)

  filter_if : (p : ℕ → Bool) (b : Bool) (c n : ℕ) (q : Bool) → p n ≡ q → filter p (cond b (replicate c n) []) ≡ cond (q && b) (replicate c n) []
  filter_if p true c n true e = filter_same p c n true e
  filter_if p true c n false e = filter_same p c n false e
  filter_if p false c n true e = refl
  filter_if p false c n false e = refl

  -- the mail of one actor among all
  filter_open : (actors : ℕ) (crashed : List ℕ) (who first : ℕ) (rs counts : List ℕ) → 0 < who → ((j : ℕ) → to (first + j) ≡ get_or rs j 0) →
      filter (λ n. eqb (to n) who) (numbers (counts_for actors crashed 0) first rs counts) ≡ numbers (counts_for actors crashed who) first rs counts
  filter_open actors crashed who first [] counts some is = refl
  filter_open actors crashed who first (r ∷ rs) [] some is = refl
  filter_open actors crashed who first (r ∷ rs) (c ∷ counts) some is =
      let zeroth : to first ≡ r = ap to (sym (add-zero first)) ∙ is 0 in
      let other : eqb who 0 ≡ false = ne_eqb who 0 (omega arith) in
      filter-append (λ n. eqb (to n) who) (cond (counts_for actors crashed 0 r) (replicate c first) []) (numbers (counts_for actors crashed 0) (suc first) rs counts)
      ∙ (λ i. (filter_if (λ n. eqb (to n) who) (runs actors crashed r) c first (eqb r who) (ap (λ n. eqb n who) zeroth)
      ∙ ap (λ b. cond ((b || eqb r who) && runs actors crashed r) (replicate c first) []) (sym other)) i
      ++ filter_open actors crashed who (suc first) rs counts some (λ j. ap to (next_place first j) ∙ is (suc j)) i)

module _ {M O : Type 0} (receiver : M → ℕ) (actors : ℕ) (rows : List (Row M O)) where
  abbrev sent_to : List ℕ
  sent_to = map receiver (mails rows)

  each_spot : (all : List ℕ) → all ≡ numbers (counts_for actors (crashed_in rows) 0) 1 sent_to (copies rows) → (s : Spot) → Fine (to sent_to) all s → kth_pending receiver actors rows s.who s.k ≡ Some s.number
  each_spot all is s fine =
      ap (λ l. kth l s.k)
      (sym (open_is receiver actors rows s.who) ∙ (sym (filter_open sent_to actors (crashed_in rows) s.who 1 sent_to (copies rows) fine.1 (λ j. ap (λ n. get_or sent_to n 0) (omega arith)))
      ∙ ap (filter (λ n. eqb (to sent_to n) s.who)) (sym is)))
      ∙ fine.0

  -- what the code finds
  pub look_spots : (receivers counts crashed all : List ℕ) (spots : List Spot) → receivers ≡ sent_to → counts ≡ copies rows → crashed ≡ crashed_in rows → all ≡ numbers (counts_for actors crashed 0) 1 receivers counts → spots ≡ spots_from receivers all →
      spots ≡ spots_of receiver actors rows
  look_spots receivers counts crashed all spots r c n is found =
      found ∙ (λ i. spots_from (r i) ((is ∙ ((λ j. numbers (counts_for actors (n j) 0) 1 (r j) (c j)) ∙ open_is receiver actors rows 0)) i))

  -- each copy of a look is where its receiver would find it
  pub look_each : (spots : List Spot) → spots ≡ spots_of receiver actors rows → All (λ (s : Spot). kth_pending receiver actors rows s.who s.k ≡ Some s.number) spots
  look_each spots is =
      let all = numbers (counts_for actors (crashed_in rows) 0) 1 sent_to (copies rows) in
      let fine = spots_sound sent_to all (open_some sent_to actors (crashed_in rows) 1 sent_to (copies rows) (λ j. ap (λ n. get_or sent_to n 0) (omega arith))) in
      subst (All (λ (s : Spot). kth_pending receiver actors rows s.who s.k ≡ Some s.number)) (ap (spots_from sent_to) (open_is receiver actors rows 0) ∙ sym is)
      (λ k d lt. each_spot all refl (get_or (spots_from sent_to all) k d) (fine k d lt))

-- The queues hold what is pending, as counts change and mail is sent.
use Rattle.std.proofs.Common.{◌≡◌, ◌≢◌, ℕ, zero, suc, ◌+◌, ◌-◌, ◌<◌, ◌≤◌, eqb, List, [], ◌∷◌, ◌++◌, length, Bool, true, false, cond, ◌&&◌, ◌||◌, not, nat_lt, take, length-take-le, add-one, get_or, set, refl, sym, ap, ◌∙◌, subst, arith, ne_eqb, eq-eqb, get_or-set_other, get_or-set_same, Some, Option, true≢false, Result, Ok, Err, OnOk}
use mathlib.Core.Logic.{dite}
use native.Mathlib.Decide.{ℕ_discrete}
use Rattle.std.proofs.lemmas.List.{length-set}
use Rattle.std.proofs.lemmas.Bool.{ltb-true, and_parts, eqb-true, eqb-false}
use Rattle.sc_actor.specs.Definitions.{one_less, one_more, numbers, kth}
use Rattle.std.specs.List.{list_any}
use Rattle.std.proofs.lemmas.List.Folds.{list_any-append}
use Rattle.sc_thread_ledger.specs.declared.queues.Queues.{Queues}
use Rattle.sc_thread_ledger.specs.LedgerDefinitions.{runs, counts_for, open_entries, copies_in, queue_of, recounted, kept, Holds}
use Rattle.std.specs.Prelude.{IfSome}
use Rattle.sc_thread_ledger.proofs.Entries.{recounted_at, set_other, push_here, push_other, open_same, open_none, expand}

or_true : (b : Bool) → (true || b) ≡ true
or_true b = refl

module _ (actors : ℕ) (crashed : List ℕ) where
  -- an actor that runs has a queue
  pub runs_within : (r : ℕ) → runs actors crashed r ≡ true → (0 < r) × (r ≤ actors)
  runs_within r e =
      let p = and_parts _ _ e in let q = and_parts _ _ p.1 in (ltb-true 0 r p.0, (let l : r < actors + 1 = ltb-true r (actors + 1) q.0 in omega (arith, l)))

  counts_not : (who r : ℕ) → runs actors crashed r ≡ false → counts_for actors crashed who r ≡ false
  counts_not who r e = ap (λ b. (eqb who 0 || eqb r who) && b) e ∙ and_no (eqb who 0 || eqb r who)
    where
      and_no : (b : Bool) → (b && false) ≡ false
      and_no true = refl
      and_no false = refl

  counts_apart : (who r : ℕ) → 0 < who → r ≢ who → counts_for actors crashed who r ≡ false
  counts_apart who r some ne = (λ i. (ne_eqb who 0 (omega arith) i || ne_eqb r who ne i) && runs actors crashed r)

  counts_own : (who r : ℕ) → 0 < who → r ≡ who → runs actors crashed r ≡ true → counts_for actors crashed who r ≡ true
  counts_own who r some e ok = (λ i. (ne_eqb who 0 (omega arith) i || eq-eqb r who e i) && ok i)

  module _ (q : Queues) (rs cs : List ℕ) (h : Holds q actors crashed rs cs) where
    -- a mail that counts for nobody
    pub holds_not : (p count : ℕ) → runs actors crashed (get_or rs p 0) ≡ false → Holds q actors crashed rs (set cs p count)
    holds_not p count e = record {
      many = h.many;
      all = h.all ∙ sym (set_other (counts_for actors crashed 0) p 1 count rs cs (counts_not 0 (get_or rs p 0) e));
      each = λ k lt. h.each k lt ∙ sym (set_other (counts_for actors crashed (suc k)) p 1 count rs cs (counts_not (suc k) (get_or rs p 0) e));
    }

    module _ (t : Queues) (key p r count : ℕ) (back : Bool) (is : key ≡ 1 + p) (lt : p < length rs) (same : length cs ≡ length rs) (to : get_or rs p 0 ≡ r) (ok : runs actors crashed r ≡ true)
        (none : back ≡ true → get_or cs p 0 ≡ 0) (had : back ≡ false → count ≢ 0 → 0 < get_or cs p 0)
        (all : t.all.items ≡ recounted q.all.items key back count) (each : kept t ≡ set (kept q) (r - 1) (recounted (get_or (kept q) (r - 1) []) key back count)) where
      at : (who : ℕ) → counts_for actors crashed who r ≡ true → recounted (open_entries (counts_for actors crashed who) 1 rs cs) key back count ≡ open_entries (counts_for actors crashed who) 1 rs (set cs p count)
      at who yes' = recounted_at (counts_for actors crashed who) key p count back rs cs is lt same (ap (counts_for actors crashed who) to ∙ yes') none had

      own_each : (k : ℕ) → k < actors → get_or (kept t) k [] ≡ open_entries (counts_for actors crashed (suc k)) 1 rs (set cs p count)
      own_each k inside =
          let within = runs_within r ok in
          ap (λ l. get_or l k []) each
          ∙ dite (ℕ_discrete k (r - 1))
          (λ e. let here : r ≡ suc k = omega (arith, e, within.0) in
          ap (λ n. get_or (set (kept q) n (recounted (get_or (kept q) n []) key back count)) k []) (sym e)
          ∙ (get_or-set_same (kept q) k (recounted (get_or (kept q) k []) key back count) [] (omega (arith, h.many))
          ∙ (ap (λ es. recounted es key back count) (h.each k inside) ∙ at (suc k) (counts_own (suc k) r (omega arith) here ok))))
          (λ ne. let apart : r ≢ suc k = (λ e. ne (omega (arith, e))) in
          get_or-set_other (kept q) (r - 1) k (recounted (get_or (kept q) (r - 1) []) key back count) [] ne
          ∙ (h.each k inside ∙ sym (set_other (counts_for actors crashed (suc k)) p 1 count rs cs (ap (counts_for actors crashed (suc k)) to ∙ counts_apart (suc k) r (omega arith) apart))))

      -- a mail that counts
      pub holds_set : Holds t actors crashed rs (set cs p count)
      holds_set = record {
        many = ap length each ∙ (length-set (kept q) (r - 1) (recounted (get_or (kept q) (r - 1) []) key back count) ∙ h.many);
        all = all ∙ (ap (λ es. recounted es key back count) h.all ∙ at 0 (ap (λ b. true && b) ok));
        each = own_each;
      }

    -- one more mail, which counts for nobody
    pub holds_new_not : (r : ℕ) → length cs ≡ length rs → runs actors crashed r ≡ false → Holds q actors crashed (rs ++ r ∷ []) (cs ++ 1 ∷ [])
    holds_new_not r same e = record {
      many = h.many;
      all = h.all ∙ sym (push_other (counts_for actors crashed 0) 1 1 r rs cs same (ap (λ b. b && true) (counts_not 0 r e)));
      each = λ k lt. h.each k lt ∙ sym (push_other (counts_for actors crashed (suc k)) 1 1 r rs cs same (ap (λ b. b && true) (counts_not (suc k) r e)));
    }

    module _ (t : Queues) (key r : ℕ) (is : key ≡ 1 + length rs) (same : length cs ≡ length rs) (ok : runs actors crashed r ≡ true)
        (all : t.all.items ≡ q.all.items ++ (key, 1) ∷ []) (each : kept t ≡ set (kept q) (r - 1) (get_or (kept q) (r - 1) [] ++ (key, 1) ∷ [])) where
      new_each : (k : ℕ) → k < actors → get_or (kept t) k [] ≡ open_entries (counts_for actors crashed (suc k)) 1 (rs ++ r ∷ []) (cs ++ 1 ∷ [])
      new_each k inside =
          let within = runs_within r ok in
          ap (λ l. get_or l k []) each
          ∙ dite (ℕ_discrete k (r - 1))
          (λ e. let here : r ≡ suc k = omega (arith, e, within.0) in
          ap (λ n. get_or (set (kept q) n (get_or (kept q) n [] ++ (key, 1) ∷ [])) k []) (sym e)
          ∙ (get_or-set_same (kept q) k (get_or (kept q) k [] ++ (key, 1) ∷ []) [] (omega (arith, h.many))
          ∙ (ap (λ es. es ++ (key, 1) ∷ []) (h.each k inside) ∙ push_here (counts_for actors crashed (suc k)) key 1 r rs cs is same (counts_own (suc k) r (omega arith) here ok) (omega arith))))
          (λ ne. let apart : r ≢ suc k = (λ e. ne (omega (arith, e))) in
          get_or-set_other (kept q) (r - 1) k (get_or (kept q) (r - 1) [] ++ (key, 1) ∷ []) [] ne
          ∙ (h.each k inside ∙ sym (push_other (counts_for actors crashed (suc k)) 1 1 r rs cs same (ap (λ b. b && true) (counts_apart (suc k) r (omega arith) apart)))))

      -- one more mail, which counts
      pub holds_new : Holds t actors crashed (rs ++ r ∷ []) (cs ++ 1 ∷ [])
      holds_new = record {
        many = ap length each ∙ (length-set (kept q) (r - 1) (get_or (kept q) (r - 1) [] ++ (key, 1) ∷ []) ∙ h.many);
        all = all ∙ (ap (λ es. es ++ (key, 1) ∷ []) h.all ∙ push_here (counts_for actors crashed 0) key 1 r rs cs is same (ap (λ b. true && b) ok) (omega arith));
        each = new_each;
      }

  module _ (q t : Queues) where
    -- the queues hold one more mail, if adding it did not fail
    pub add_done : {R : Type 0} (res : Result (Unit {0}) R) (key r : ℕ) → runs actors crashed r ≡ true →
        OnOk res (t.all.items ≡ q.all.items ++ (key, 1) ∷ []) → OnOk res (kept t ≡ set (kept q) (r - 1) (get_or (kept q) (r - 1) [] ++ (key, 1) ∷ [])) →
        OnOk res ((rs cs : List ℕ) → Holds q actors crashed rs cs → length cs ≡ length rs → key ≡ 1 + length rs → Holds t actors crashed (rs ++ r ∷ []) (cs ++ 1 ∷ []))
    add_done (Err e) key r ok all each = tt
    add_done (Ok u) key r ok all each = λ rs cs h same is. holds_new q rs cs h t key r is same ok all each

    module _ (rs cs : List ℕ) (h : Holds q actors crashed rs cs) (number p r : ℕ) (is : number ≡ suc p) (lt : p < length rs) (same : length cs ≡ length rs) (to : get_or rs p 0 ≡ r) (ok : runs actors crashed r ≡ true) where
      -- the queues hold one more copy, if counting it did not fail
      pub more_done : {R : Type 0} (res : Result (Unit {0}) R) (back : Bool) → back ≡ eqb (get_or cs p 0) 0 →
          OnOk res (t.all.items ≡ recounted q.all.items number back (get_or cs p 0 + 1)) →
          OnOk res (kept t ≡ set (kept q) (r - 1) (recounted (get_or (kept q) (r - 1) []) number back (get_or cs p 0 + 1))) →
          OnOk res (Holds t actors crashed rs (one_more cs number))
      more_done (Err e) back b all each = tt
      more_done (Ok u) back b all each =
          subst (λ n. Holds t actors crashed rs (one_more cs n)) (sym is)
          (holds_set q rs cs h t number p r (get_or cs p 0 + 1) back (omega (arith, is)) lt same to ok (λ e. eqb-true (get_or cs p 0) 0 (sym b ∙ e)) (λ e ne. some_left (eqb-false (get_or cs p 0) 0 (sym b ∙ e))) all each)
        where
          some_left : (get_or cs p 0 ≡ 0 → ⊥) → 0 < get_or cs p 0
          some_left f = elim (get_or cs p 0) as (λ n. (n ≡ 0 → ⊥) → 0 < n) [ zero ↦ λ g. absurd (g refl) | suc n ↦ λ g. omega arith ] f

      -- the queues hold one copy less, if counting it did not fail
      pub less_done : {R : Type 0} (res : Result (Unit {0}) R) (count : ℕ) → count ≡ get_or cs p 0 - 1 →
          OnOk res (t.all.items ≡ recounted q.all.items number false count) →
          OnOk res (kept t ≡ set (kept q) (r - 1) (recounted (get_or (kept q) (r - 1) []) number false count)) →
          OnOk res (Holds t actors crashed rs (one_less cs number))
      less_done (Err e) count less all each = tt
      less_done (Ok u) count less all each =
          subst (λ n. Holds t actors crashed rs (one_less cs n)) (sym is)
          (subst (λ n. Holds t actors crashed rs (set cs p n)) less
          (holds_set q rs cs h t number p r count false (omega (arith, is)) lt same to ok (λ e. absurd (true≢false (sym e))) (λ e ne. omega (arith, ne, less)) all each))

  -- mail of one who does not run has no part in the queues
  pub change_not : (q : Queues) (rs cs : List ℕ) → Holds q actors crashed rs cs → (number p : ℕ) (more : Bool) → number ≡ suc p → runs actors crashed (get_or rs p 0) ≡ false → Holds q actors crashed rs (cond more (one_more cs number) (one_less cs number))
  change_not q rs cs h number p true is e = subst (λ n. Holds q actors crashed rs (one_more cs n)) (sym is) (holds_not q rs cs h p (get_or cs p 0 + 1) e)
  change_not q rs cs h number p false is e = subst (λ n. Holds q actors crashed rs (one_less cs n)) (sym is) (holds_not q rs cs h p (get_or cs p 0 - 1) e)

shuffle : (x y a e : Bool) → (x && (y && not (a || (e || false)))) ≡ ((x && (y && not a)) && not e)
shuffle true true true e = refl
shuffle true true false true = refl
shuffle true true false false = refl
shuffle true false a e = refl
shuffle false y a e = refl

and_true : (b : Bool) → b ≡ (b && true)
and_true true = refl
and_true false = refl

module _ (actors : ℕ) (crashed : List ℕ) (who : ℕ) where
  runs_after : (r : ℕ) → runs actors (crashed ++ who ∷ []) r ≡ (runs actors crashed r && not (eqb who r))
  runs_after r =
      ap (λ b. nat_lt 0 r && (nat_lt r (actors + 1) && not b)) (list_any-append (λ c. eqb c r) crashed (who ∷ []))
      ∙ shuffle (nat_lt 0 r) (nat_lt r (actors + 1)) (list_any (λ c. eqb c r) crashed) (eqb who r)

  not_own : (r : ℕ) → 0 < who → counts_for actors (crashed ++ who ∷ []) who r ≡ false
  not_own r some = dite (ℕ_discrete r who)
      (λ e. counts_not actors (crashed ++ who ∷ []) who r (runs_after r ∙ (ap (λ b. runs actors crashed r && not b) (eq-eqb who r (sym e)) ∙ and_none (runs actors crashed r))))
      (λ ne. counts_apart actors (crashed ++ who ∷ []) who r some ne)
    where
      and_none : (b : Bool) → (b && not true) ≡ false
      and_none true = refl
      and_none false = refl

  other_same : (w r : ℕ) → 0 < w → w ≢ who → counts_for actors crashed w r ≡ counts_for actors (crashed ++ who ∷ []) w r
  other_same w r some ne = dite (ℕ_discrete r w)
      (λ e. ap (λ b. (eqb w 0 || eqb r w) && b) (and_true (runs actors crashed r) ∙ (ap (λ b. runs actors crashed r && not b) (sym (ne_eqb who r (λ f. ne (sym (f ∙ e))))) ∙ sym (runs_after r))))
      (λ apart. counts_apart actors crashed w r some apart ∙ sym (counts_apart actors (crashed ++ who ∷ []) w r some apart))

  module _ (q t : Queues) (rs cs : List ℕ) (h : Holds q actors crashed rs cs) (all : t.all.items ≡ open_entries (counts_for actors (crashed ++ who ∷ []) 0) 1 rs cs) where
    other_each : (k : ℕ) → k < actors → suc k ≢ who → get_or (kept q) k [] ≡ open_entries (counts_for actors (crashed ++ who ∷ []) (suc k)) 1 rs cs
    other_each k lt ne = h.each k lt ∙ open_same (counts_for actors crashed (suc k)) (counts_for actors (crashed ++ who ∷ []) (suc k)) (λ r. other_same (suc k) r (omega arith) ne) 1 rs cs

    -- a crash of none of the actors
    pub crash_out : kept t ≡ kept q → ((k : ℕ) → k < actors → suc k ≢ who) → Holds t actors (crashed ++ who ∷ []) rs cs
    crash_out same out = record {
      many = ap length same ∙ h.many;
      all = all;
      each = λ k lt. ap (λ l. get_or l k []) same ∙ other_each k lt (out k lt);
    }

    -- the crash of an actor
    pub crash_own : 0 < who → kept t ≡ set (kept q) (who - 1) [] → Holds t actors (crashed ++ who ∷ []) rs cs
    crash_own some each = record {
      many = ap length each ∙ (length-set (kept q) (who - 1) [] ∙ h.many);
      all = all;
      each = λ k lt. ap (λ l. get_or l k []) each ∙ dite (ℕ_discrete k (who - 1))
          (λ e. let here : who ≡ suc k = omega (arith, e, some) in
          ap (λ n. get_or (set (kept q) n []) k []) (sym e)
          ∙ (get_or-set_same (kept q) k [] [] (omega (arith, h.many))
          ∙ sym (open_none (counts_for actors (crashed ++ who ∷ []) (suc k)) (λ r. subst (λ w. counts_for actors (crashed ++ who ∷ []) w r ≡ false) here (not_own r some)) 1 rs cs)))
          (λ ne. get_or-set_other (kept q) (who - 1) k [] [] ne ∙ other_each k lt (λ e. ne (omega (arith, e))));
    }

-- what is pending of the mails so far, and one more
module _ (test : ℕ → Bool) (i : ℕ) (rs cs : List ℕ) (lt : i < length rs) (same : length cs ≡ length rs) where
  take_next : (ys : List ℕ) (k : ℕ) → k < length ys → take (suc k) ys ≡ take k ys ++ get_or ys k 0 ∷ []
  take_next [] k l = absurd (omega arith)
  take_next (y ∷ ys) zero l = refl
  take_next (y ∷ ys) (suc k) l = ap (λ zs. y ∷ zs) (take_next ys k (omega arith))

  longer_take : (xs : List ℕ) (j : ℕ) → j < length xs → take (j + 1) xs ≡ take j xs ++ get_or xs j 0 ∷ []
  longer_take xs j inside = rw add-one (take_next xs j inside)

  lengths : (length (take i rs) ≡ i) × (length (take i cs) ≡ i)
  lengths = (length-take-le i rs (omega arith), length-take-le i cs (omega (arith, same)))

  -- one mail more, which is pending
  pub take_here : (all next : List (ℕ × ℕ)) (key : ℕ) → all ≡ open_entries test 1 (take i rs) (take i cs) → key ≡ i + 1 → (test (get_or rs i 0) && nat_lt 0 (get_or cs i 0)) ≡ true → next ≡ all ++ (key, get_or cs i 0) ∷ [] →
      next ≡ open_entries test 1 (take (i + 1) rs) (take (i + 1) cs)
  take_here all next key is number stays new =
      let parts = and_parts _ _ stays in
      let some : 0 < get_or cs i 0 = ltb-true 0 (get_or cs i 0) parts.1 in
      new
      ∙ (ap (λ es. es ++ (key, get_or cs i 0) ∷ []) is
      ∙ (push_here test key (get_or cs i 0) (get_or rs i 0) (take i rs) (take i cs) (omega (arith, number, lengths.0)) (lengths.1 ∙ sym lengths.0) parts.0 some
      ∙ (λ j. open_entries test 1 (sym (longer_take rs i lt) j) (sym (longer_take cs i (omega (arith, lt, same))) j))))

  -- one mail more, which is not
  pub take_other : (all : List (ℕ × ℕ)) → all ≡ open_entries test 1 (take i rs) (take i cs) → (test (get_or rs i 0) && nat_lt 0 (get_or cs i 0)) ≡ false → all ≡ open_entries test 1 (take (i + 1) rs) (take (i + 1) cs)
  take_other all is stays =
      is
      ∙ (sym (push_other test 1 (get_or cs i 0) (get_or rs i 0) (take i rs) (take i cs) (lengths.1 ∙ sym lengths.0) stays)
      ∙ (λ j. open_entries test 1 (sym (longer_take rs i lt) j) (sym (longer_take cs i (omega (arith, lt, same))) j)))

-- what is found in a queue is what a scan finds
module _ (q : Queues) (actors : ℕ) (crashed rs cs : List ℕ) (h : Holds q actors crashed rs cs) where
  queue_is : (who : ℕ) → who ≤ actors → copies_in (queue_of q who) ≡ numbers (counts_for actors crashed who) 1 rs cs
  queue_is zero within = ap copies_in h.all ∙ expand (counts_for actors crashed 0) 1 rs cs
  queue_is (suc w) within =
      let back : suc w - 1 ≡ w = omega arith in
      ap (λ b. copies_in (cond b q.all.items (get_or (kept q) (suc w - 1) []))) (ne_eqb (suc w) 0 (omega arith))
      ∙ (ap (λ k. copies_in (get_or (kept q) k [])) back
      ∙ (ap copies_in (h.each w (omega arith)) ∙ expand (counts_for actors crashed (suc w)) 1 rs cs))

  -- the k-th of a queue is the k-th that is pending
  pub queue_kth : (who k number : ℕ) (found : Option ℕ) → number ≡ actors → who ≤ number → found ≡ kth (copies_in (queue_of q who)) k → found ≡ kth (numbers (counts_for number crashed who) 1 rs cs) k
  queue_kth who k number found same within is =
      is ∙ (ap (λ l. kth l k) (queue_is who (subst (λ n. who ≤ n) same within)) ∙ ap (λ n. kth (numbers (counts_for n crashed who) 1 rs cs) k) (sym same))

  -- the queue of all has what is pending for all
  pub queue_all : (number : ℕ) → number ≡ actors → copies_in q.all.items ≡ numbers (counts_for number crashed 0) 1 rs cs
  queue_all number same = queue_is 0 (omega arith) ∙ ap (λ n. numbers (counts_for n crashed 0) 1 rs cs) (sym same)

-- queues that are there hold what is pending
pub held : (queues : Option Queues) (q : Queues) (actors : ℕ) (crashed rs cs : List ℕ) → queues ≡ Some q → IfSome queues (λ x. Holds x actors crashed rs cs) → Holds q actors crashed rs cs
held queues q actors crashed rs cs is h = subst (λ x. IfSome x (λ y. Holds y actors crashed rs cs)) is h

-- Each step of a pass keeps the rule.
use Rattle.std.proofs.Common.{◌≡◌, ◌≢◌, ℕ, zero, suc, Bool, true, false, true≢false, ◌+◌, ◌-◌, ◌<◌, ◌≤◌, sum_by, arith, List, [], ◌∷◌, ◌++◌, length, length-append, set, sym, refl, ap, ◌∙◌, subst, ⊎_elim, MatchBool}
use Rattle.std.proofs.lemmas.List.Sums.{sum_by-cons, sum_by-append}
use mathlib.Core.Option.{some, some-injective, some-ne-none}
use lib.ListN.{get_elem?}
use Rattle.crossbeam_queue.specs.Fifo.{Pushes, Pops, Forks, Learns}
use Rattle.crossbeam_queue.proofs.Lists.{at_set, at_snoc, at_longer, at_last}
use Rattle.sc_thread_work.specs.declared.lend.rule.Loan.{Loan}
use Rattle.sc_thread_work.specs.declared.lend.rule.Clerk.{Clerk}
use Rattle.sc_thread_work.specs.lend.LendDefinitions.{lender, helper, with_lent, with_held, with_back, IsLoan, AllLoans, Knows, Lent, IsOut, Taken, MayGiveBack, Finished, IsLeft}

module _ {X : Type 0} (f : X → ℕ) where
  -- the sum after one element is another
  sum_set : (xs : List X) (i : ℕ) (x y : X) → get_elem? xs i ≡ some x → sum_by f (set xs i y) + f x ≡ sum_by f xs + f y
  sum_set [] i x y e = absurd (some-ne-none x (sym e))
  sum_set (z ∷ xs) zero x y e = let same : f z ≡ f x = ap f (some-injective z x e) in omega (arith, same, sum_by-cons f z xs, sum_by-cons f y xs)
  sum_set (z ∷ xs) (suc i) x y e = omega (arith, sum_set xs i x y e, sum_by-cons f z xs, sum_by-cons f z (set xs i y))

  -- no element is more than the sum
  sum_part : (xs : List X) (i : ℕ) (x : X) → get_elem? xs i ≡ some x → f x ≤ sum_by f xs
  sum_part [] i x e = absurd (some-ne-none x (sym e))
  sum_part (z ∷ xs) zero x e = let same : f z ≡ f x = ap f (some-injective z x e) in omega (arith, same, sum_by-cons f z xs)
  sum_part (z ∷ xs) (suc i) x e = omega (arith, sum_part xs i x e, sum_by-cons f z xs)

module _ {T : Type 0} where
  -- one loan more is out
  out_more : (items : List (Loan T)) (x : Loan T) (lent : List T) (work : T) (views : List (Clerk T)) (pass : ℕ) (v w : Clerk T) → get_elem? views pass ≡ some v → w.out ≡ v.out → length items + sum_by (λ u. u.out) views ≡ length lent
      → length (items ++ x ∷ []) + sum_by (λ u. u.out) (set views pass w) ≡ length (lent ++ work ∷ [])
  out_more items x lent work views pass v w at same count =
      let s = sum_set (λ (u : Clerk T). u.out) views pass v w at in
      omega (arith, s, same, count, length-append items (x ∷ []), length-append lent (work ∷ []))

  -- one is taken
  out_taken : (items : List (Loan T)) (lent : List T) (views : List (Clerk T)) (pass : ℕ) (v w : Clerk T) → get_elem? views pass ≡ some v → w.out ≡ v.out + 1 → suc (length items) + sum_by (λ u. u.out) views ≡ length lent
      → length items + sum_by (λ u. u.out) (set views pass w) ≡ length lent
  out_taken items lent views pass v w at same count =
      let s = sum_set (λ (u : Clerk T). u.out) views pass v w at in
      omega (arith, s, same, count)

  -- and given back
  out_back : (items : List (Loan T)) (x : Loan T) (lent : List T) (views : List (Clerk T)) (pass : ℕ) (v w : Clerk T) → get_elem? views pass ≡ some v → 0 < v.out → w.out ≡ v.out - 1 → length items + sum_by (λ u. u.out) views ≡ length lent
      → length (items ++ x ∷ []) + sum_by (λ u. u.out) (set views pass w) ≡ length lent
  out_back items x lent views pass v w at some_out same count =
      let s = sum_set (λ (u : Clerk T). u.out) views pass v w at in
      omega (arith, s, same, some_out, count, length-append items (x ∷ []))

  -- who comes has none
  out_helper : (items : List (Loan T)) (lent : List T) (views : List (Clerk T)) (pass : ℕ) (v : Clerk T) → get_elem? views pass ≡ some v → length items + sum_by (λ u. u.out) views ≡ length lent
      → length items + sum_by (λ u. u.out) (set views pass v ++ helper ∷ []) ≡ length lent
  out_helper items lent views pass v at count =
      let s = sum_set (λ (u : Clerk T). u.out) views pass v v at in
      omega (arith, s, count, sum_by-append (λ (u : Clerk T). u.out) (set views pass v) (helper ∷ []))

module _ {T : Type 0} (leaves : T → T → Type 0) where
  loans_append : (lent : List T) (xs ys : List (Loan T)) → AllLoans leaves lent xs → AllLoans leaves lent ys → AllLoans leaves lent (xs ++ ys)
  loans_append lent [] ys p q = q
  loans_append lent (x ∷ xs) ys p q = (p.0, loans_append lent xs ys p.1 q)

  -- what was lent before stays so when more is lent
  loans_more : (lent more : List T) (xs : List (Loan T)) → AllLoans leaves lent xs → AllLoans leaves (lent ++ more) xs
  loans_more lent more [] p = tt
  loans_more lent more (x ∷ xs) p = (record { lent_value = p.0.lent_value; at = at_longer lent more x.number p.0.lent_value p.0.at; now = p.0.now }, loans_more lent more xs p.1)

  abbrev AllKnow : ℕ → List T → List (Clerk T) → Type 0
  AllKnow writer lent views = (pass : ℕ) (v : Clerk T) → get_elem? views pass ≡ some v → Knows leaves writer lent pass v

  -- one view is another
  know_set : (writer : ℕ) (lent : List T) (views : List (Clerk T)) (pass : ℕ) (w : Clerk T) → Knows leaves writer lent pass w → ((j : ℕ) (u : Clerk T) → j ≢ pass → get_elem? views j ≡ some u → Knows leaves writer lent j u) → AllKnow writer lent (set views pass w)
  know_set writer lent views pass w mine others j u e =
      ⊎_elim (λ (x : (j ≡ pass) × (w ≡ u)). subst (λ (y : ℕ × Clerk T). Knows leaves writer lent y.0 y.1) (λ i. (sym x.0 i, x.1 i)) mine)
      (λ (x : (j ≢ pass) × (get_elem? views j ≡ some u)). others j u x.0 x.1) (at_set views pass j w u e)

  pub begins : Lent leaves [] (lender ∷ [])
  begins = record {
    lent = [];
    writer = 0;
    loans = tt;
    count = refl;
    knows = know_set 0 [] (lender ∷ []) 0 lender (record { lends = λ _. (refl, refl); held = tt }) (λ j u other e. absurd (other (only j u e)));
  }
    where
      only : (j : ℕ) (u : Clerk T) → get_elem? (lender {T = T} ∷ []) j ≡ some u → j ≡ 0
      only zero u e = refl
      only (suc j) u e = absurd (some-ne-none u (sym e))

  -- the one that lends lends the next
  pub lends : (n pass : ℕ) (v : Clerk T) (x : Loan T) → v.lends ≡ true → x.number ≡ length v.lent → x.done ≡ false → Pushes (Lent leaves) n pass v x (λ w. w ≡ with_lent v x.work)
  lends n pass v x may next fresh items views room k at =
      let w : Clerk T = with_lent v x.work in
      let mine = k.knows pass v at in
      let is : v.lent ≡ k.lent = (mine.lends may).1 in
      let here : get_elem? (k.lent ++ x.work ∷ []) x.number ≡ some x.work = at_last k.lent x.work x.number (ap length (sym is) ∙ sym next) in
      let new : IsLoan leaves (k.lent ++ x.work ∷ []) x = record { lent_value = x.work; at = here; now = subst (λ b. MatchBool b (leaves x.work x.work) (x.work ≡ x.work)) (sym fresh) refl } in (
        w,
        record {
          lent = k.lent ++ x.work ∷ [];
          writer = k.writer;
          loans = loans_append (k.lent ++ x.work ∷ []) items (x ∷ []) (loans_more k.lent (x.work ∷ []) items k.loans) (new, tt);
          count = out_more items x k.lent x.work views pass v w at refl k.count;
          knows = know_set k.writer (k.lent ++ x.work ∷ []) views pass w
              (record { lends = λ _. ((mine.lends may).0, ap (λ l. l ++ x.work ∷ []) is); held = loans_more k.lent (x.work ∷ []) v.held mine.held })
              (λ j u other e. let theirs = k.knows j u e in record {
                lends = λ p. absurd (other ((theirs.lends p).0 ∙ sym (mine.lends may).0));
                held = loans_more k.lent (x.work ∷ []) u.held theirs.held;
              });
        },
        refl,
      )

  -- and learns that no more is in the queue than it has lent and not taken back
  pub is_out : (pass : ℕ) (v : Clerk T) → Learns (Lent leaves) pass v (IsOut v)
  is_out pass v items views k at may =
      let part = sum_part (λ (u : Clerk T). u.out) views pass v at in
      let all = k.count in
      let is : length v.lent ≡ length k.lent = ap length ((k.knows pass v at).lends may).1 in
      omega (arith, part, all, is)

  -- one takes the first
  pub takes : (pass : ℕ) (v : Clerk T) → Pops (Lent leaves) pass v (Taken leaves v)
  takes pass v x items views k at =
      let w : Clerk T = with_held v x in
      let mine = k.knows pass v at in (
        w,
        record {
          lent = k.lent;
          writer = k.writer;
          loans = k.loans.1;
          count = out_taken items k.lent views pass v w at refl k.count;
          knows = know_set k.writer k.lent views pass w
              (record { lends = mine.lends; held = loans_append k.lent v.held (x ∷ []) mine.held (k.loans.0, tt) })
              (λ j u other e. k.knows j u e);
        },
        (refl, λ may. subst (λ l. IsLoan leaves l x) (sym (mine.lends may).1) k.loans.0),
      )

  -- one gives back what it may
  pub gives_back : (n pass : ℕ) (v : Clerk T) (x : Loan T) → MayGiveBack leaves v x → 0 < v.out → Pushes (Lent leaves) n pass v x (λ w. w ≡ with_back v)
  gives_back n pass v x may some_out items views room k at =
      let w : Clerk T = with_back v in
      let mine = k.knows pass v at in (
        w,
        record {
          lent = k.lent;
          writer = k.writer;
          loans = loans_append k.lent items (x ∷ []) k.loans (may k.lent mine.held, tt);
          count = out_back items x k.lent views pass v w at some_out refl k.count;
          knows = know_set k.writer k.lent views pass w (record { lends = mine.lends; held = mine.held }) (λ j u other e. k.knows j u e);
        },
        refl,
      )

  -- a helper is hired
  pub hires : (pass : ℕ) (v : Clerk T) → Forks (Lent leaves) pass v v helper
  hires pass v items views k at =
      let vs : List (Clerk T) = set views pass v in
      let old : AllKnow k.writer k.lent vs = know_set k.writer k.lent views pass v (k.knows pass v at) (λ j u other e. k.knows j u e) in record {
        lent = k.lent;
        writer = k.writer;
        loans = k.loans;
        count = out_helper items k.lent views pass v at k.count;
        knows = λ j u e. ⊎_elim (λ x. old j u x)
            (λ (is : helper ≡ u). subst (Knows leaves k.writer k.lent j) is (record { lends = λ p. absurd (true≢false (sym p)); held = tt })) (at_snoc vs helper u j e);
      }

  -- what was taken may be given back as it is
  pub last_held : (v w : Clerk T) (x : Loan T) → Taken leaves v x w → MayGiveBack leaves w x
  last_held v w x t lent all = last v.held (subst (λ (u : Clerk T). AllLoans leaves lent u.held) t.0 all)
    where
      last : (xs : List (Loan T)) → AllLoans leaves lent (xs ++ x ∷ []) → IsLoan leaves lent x
      last [] p = p.0
      last (y ∷ ys) p = last ys p.1

  -- and so may what working left of it
  pub finished_held : (v w : Clerk T) (x y : Loan T) → Taken leaves v x w → Finished leaves x y → MayGiveBack leaves w y
  finished_held v w x y t d lent all = by x.done refl
    where
      old : IsLoan leaves lent x
      old = last_held v w x t lent all

      left : (b : Bool) → x.done ≡ b → leaves old.lent_value y.work
      left true e =
          let before : leaves old.lent_value x.work = subst (λ b. MatchBool b (leaves old.lent_value x.work) (x.work ≡ old.lent_value)) e old.now in
          let same : y.work ≡ x.work = subst (λ b. MatchBool b (y.work ≡ x.work) (leaves x.work y.work)) e d.work in
          subst (leaves old.lent_value) (sym same) before
      left false e =
          let same : x.work ≡ old.lent_value = subst (λ b. MatchBool b (leaves old.lent_value x.work) (x.work ≡ old.lent_value)) e old.now in
          subst (λ s. leaves s y.work) same (subst (λ b. MatchBool b (y.work ≡ x.work) (leaves x.work y.work)) e d.work)

      by : (b : Bool) → x.done ≡ b → IsLoan leaves lent y
      by b e = record {
        lent_value = old.lent_value;
        at = ap (get_elem? lent) d.number ∙ old.at;
        now = subst (λ u. MatchBool u (leaves old.lent_value y.work) (y.work ≡ old.lent_value)) (sym d.done) (left b e);
      }

  -- the one that lends has back what is left of what was lent under a number
  pub back : (v w : Clerk T) (x y : Loan T) → v.lends ≡ true → Taken leaves v x w → Finished leaves x y → IsLeft leaves v.lent y.number y.work
  back v w x y may t d s at = by x.done refl
    where
      mine : IsLoan leaves v.lent x
      mine = t.1 may

      same : mine.lent_value ≡ s
      same = some-injective mine.lent_value s (sym mine.at ∙ (ap (get_elem? v.lent) (sym d.number) ∙ at))

      by : (b : Bool) → x.done ≡ b → leaves s y.work
      by true e =
          let before : leaves mine.lent_value x.work = subst (λ b. MatchBool b (leaves mine.lent_value x.work) (x.work ≡ mine.lent_value)) e mine.now in
          let work : y.work ≡ x.work = subst (λ b. MatchBool b (y.work ≡ x.work) (leaves x.work y.work)) e d.work in
          subst (λ u. leaves u y.work) same (subst (leaves mine.lent_value) (sym work) before)
      by false e =
          let was : x.work ≡ mine.lent_value = subst (λ b. MatchBool b (leaves mine.lent_value x.work) (x.work ≡ mine.lent_value)) e mine.now in
          subst (λ u. leaves u y.work) (was ∙ same) (subst (λ b. MatchBool b (y.work ≡ x.work) (leaves x.work y.work)) e d.work)

  -- what was worked before
  pub finished_same : (x : Loan T) → x.done ≡ true → Finished leaves x x
  finished_same x e = record {
    number = refl;
    done = e;
    work = subst (λ b. MatchBool b (x.work ≡ x.work) (leaves x.work x.work)) (sym e) refl;
  }

  -- and what is worked now
  pub finished_now : (x y : Loan T) → x.done ≡ false → y.number ≡ x.number → y.done ≡ true → leaves x.work y.work → Finished leaves x y
  finished_now x y e number done left = record {
    number = number;
    done = done;
    work = subst (λ b. MatchBool b (y.work ≡ x.work) (leaves x.work y.work)) (sym e) left;
  }

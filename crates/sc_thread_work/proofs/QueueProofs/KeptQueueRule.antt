-- Each step of a pass keeps the rule.
use Rattle.std.proofs.Common.{◌≡◌, ◌≢◌, ℕ, zero, suc, ◌+◌, ◌<◌, ◌≤◌, true, true≢false, List, [], ◌∷◌, ◌++◌, length, set, sym, refl, ap, ◌∙◌, subst, ⊎_elim, arith, append_assoc, get_or, length-set, Option, Some}
use Rattle.std.proofs.lemmas.List.{append-nil}
use mathlib.Core.Option.{some, some-injective, some-ne-none}
use lib.ListN.{get_elem?}
use Rattle.crossbeam_queue.specs.Fifo.{Pushes, Pops, Forks, Merges, Learns, Held}
use Rattle.crossbeam_queue.proofs.Lists.{at_set, at_snoc, at_longer, at_last}
use Rattle.sc_thread_work.specs.declared.queue.rule.Item.{Item}
use Rattle.sc_thread_work.specs.declared.queue.rule.Hand.{Hand}
use denote.Param.Members.{Shared}
use Rattle.std.specs.Fn.{FnReturns}
use Rattle.sc_thread_work.specs.queue.QueueDefinitions.{AllWorked, AllInside, Did, Gathers, filled, with_all, weigh, hand, opener, taker, idle, less, joined, with_put, with_taken, numbered, works, AllPlaced, Fits, Kept, HasRoom, KnowsWhole}

module _ {X : Type 0} where
  pub weigh_append : (h : X → ℕ) (xs ys : List X) → weigh h (xs ++ ys) ≡ weigh h xs + weigh h ys
  weigh_append h [] ys = omega arith
  weigh_append h (x ∷ xs) ys = omega (arith, weigh_append h xs ys)

  pub weigh_set : (h : X → ℕ) (xs : List X) (i : ℕ) (x y : X) → get_elem? xs i ≡ some x → weigh h (set xs i y) + h x ≡ weigh h xs + h y
  weigh_set h [] i x y e = absurd (some-ne-none x (sym e))
  weigh_set h (z ∷ xs) zero x y e = let same : h z ≡ h x = ap h (some-injective z x e) in omega (arith, same)
  weigh_set h (z ∷ xs) (suc i) x y e = omega (arith, weigh_set h xs i x y e)

  pub weigh_ones : (xs : List X) → weigh (λ _. 1) xs ≡ length xs
  weigh_ones [] = refl
  weigh_ones (x ∷ xs) = omega (arith, weigh_ones xs)

  -- what is 0 of all but one is the weight of that one
  pub weigh_one : (f g : X → ℕ) (xs : List X) (i : ℕ) (x : X) → get_elem? xs i ≡ some x → ((j : ℕ) (y : X) → get_elem? xs j ≡ some y → g y ≡ 0 → f y ≡ 0) → weigh g xs ≡ g x → weigh f xs ≡ f x
  weigh_one f g [] i x at none all = absurd (some-ne-none x (sym at))
  weigh_one f g (z ∷ xs) zero x at none all =
      let is : z ≡ x = some-injective z x at in
      let gs : g z ≡ g x = ap g is in let fs : f z ≡ f x = ap f is in
      let rest : weigh f xs ≡ 0 = weigh_none f g xs (λ j y. none (suc j) y) (omega (arith, all, gs)) in
      omega (arith, fs, rest)
    where
      weigh_none : (f g : X → ℕ) (xs : List X) → ((j : ℕ) (y : X) → get_elem? xs j ≡ some y → g y ≡ 0 → f y ≡ 0) → weigh g xs ≡ 0 → weigh f xs ≡ 0
      weigh_none f g [] none all = refl
      weigh_none f g (y ∷ ys) none all =
          let first : f y ≡ 0 = none 0 y refl (omega (arith, all)) in
          let rest : weigh f ys ≡ 0 = weigh_none f g ys (λ j u. none (suc j) u) (omega (arith, all)) in
          omega (arith, first, rest)
  weigh_one f g (z ∷ xs) (suc i) x at none all =
      let most : g x ≤ weigh g xs = part g xs i x at in
      let first : f z ≡ 0 = none 0 z refl (omega (arith, most, all)) in
      let rest : weigh f xs ≡ f x = weigh_one f g xs i x at (λ j y. none (suc j) y) (omega (arith, most, all)) in
      omega (arith, first, rest)
    where
      part : (g : X → ℕ) (xs : List X) (i : ℕ) (x : X) → get_elem? xs i ≡ some x → g x ≤ weigh g xs
      part g [] i x at = absurd (some-ne-none x (sym at))
      part g (z ∷ xs) zero x at = let is : g z ≡ g x = ap g (some-injective z x at) in omega (arith, is)
      part g (z ∷ xs) (suc i) x at = omega (arith, part g xs i x at)

module _ {T : Type 0} where
  pub placed_append : (put xs ys : List (Item T)) → AllPlaced put xs → AllPlaced put ys → AllPlaced put (xs ++ ys)
  placed_append put [] ys p q = q
  placed_append put (x ∷ xs) ys p q = (p.0, placed_append put xs ys p.1 q)

  placed_more : (put more xs : List (Item T)) → AllPlaced put xs → AllPlaced (put ++ more) xs
  placed_more put more [] p = tt
  placed_more put more (x ∷ xs) p = (at_longer put more x.place x p.0, placed_more put more xs p.1)

  abbrev AllFit : ℕ → List (Item T) → List (Hand T) → Type 0
  AllFit writer put views = (pass : ℕ) (v : Hand T) → get_elem? views pass ≡ some v → Fits writer put pass v

  -- one view is another
  fit_set : (writer : ℕ) (put : List (Item T)) (views : List (Hand T)) (pass : ℕ) (w : Hand T) → Fits writer put pass w → ((j : ℕ) (u : Hand T) → j ≢ pass → get_elem? views j ≡ some u → Fits writer put j u) → AllFit writer put (set views pass w)
  fit_set writer put views pass w mine others j u e =
      ⊎_elim (λ (x : (j ≡ pass) × (w ≡ u)). subst (λ (y : ℕ × Hand T). Fits writer put y.0 y.1) (λ i. (sym x.0 i, x.1 i)) mine)
      (λ (x : (j ≢ pass) × (get_elem? views j ≡ some u)). others j u x.0 x.1) (at_set views pass j w u e)

  pub begins : Kept {T = T} [] (opener ∷ [])
  begins = record {
    put = [];
    writer = 0;
    parts = refl;
    balance = λ h. refl;
    placed = tt;
    fits = fit_set 0 [] (opener ∷ []) 0 opener (record { writes = λ _. (refl, refl); placed = tt; none = λ _. refl }) (λ j u other e. absurd (other (only j u e)));
  }
    where
      only : (j : ℕ) (u : Hand T) → get_elem? (opener {T = T} ∷ []) j ≡ some u → j ≡ 0
      only zero u e = refl
      only (suc j) u e = absurd (some-ne-none u (sym e))

  -- the one that puts puts the next
  pub puts : (n pass : ℕ) (v : Hand T) (x : Item T) → v.puts ≡ true → x.place ≡ length v.put → Pushes Kept n pass v x (λ w. w ≡ with_put v x)
  puts n pass v x may next items views room k at =
      let w : Hand T = with_put v x in
      let mine = k.fits pass v at in
      let is : v.put ≡ k.put = (mine.writes may).1 in
      let here : get_elem? (k.put ++ x ∷ []) x.place ≡ some x = at_last k.put x x.place (ap length (sym is) ∙ sym next) in (
        w,
        record {
          put = k.put ++ x ∷ [];
          writer = k.writer;
          parts = (let s = weigh_set (λ u. u.parts) views pass v w at in let p = k.parts in omega (arith, s, p));
          balance = λ h.
              (let s = weigh_set (λ u. weigh h u.taken) views pass v w at in let b = k.balance h in
              omega (arith, s, b, weigh_append h k.put (x ∷ []), weigh_append h items (x ∷ [])));
          placed = placed_append (k.put ++ x ∷ []) items (x ∷ []) (placed_more k.put (x ∷ []) items k.placed) (here, tt);
          fits = fit_set k.writer (k.put ++ x ∷ []) views pass w
              (record { writes = λ _. ((mine.writes may).0, ap (λ l. l ++ x ∷ []) is); placed = placed_more k.put (x ∷ []) v.taken mine.placed; none = mine.none })
              (λ j u other e. let theirs = k.fits j u e in record {
                writes = λ p. absurd (other ((theirs.writes p).0 ∙ sym (mine.writes may).0));
                placed = placed_more k.put (x ∷ []) u.taken theirs.placed;
                none = theirs.none;
              });
        },
        refl,
      )

  -- one with a part takes the first
  pub takes : (pass : ℕ) (v : Hand T) → 0 < v.parts → Pops Kept pass v (λ x w. w ≡ with_taken v x)
  takes pass v some_part x items views k at =
      let w : Hand T = with_taken v x in
      let mine = k.fits pass v at in (
        w,
        record {
          put = k.put;
          writer = k.writer;
          parts = (let s = weigh_set (λ u. u.parts) views pass v w at in let p = k.parts in omega (arith, s, p));
          balance = λ h.
              (let s = weigh_set (λ u. weigh h u.taken) views pass v w at in let b = k.balance h in
              omega (arith, s, b, weigh_append h v.taken (x ∷ [])));
          placed = k.placed.1;
          fits = fit_set k.writer k.put views pass w
              (record { writes = mine.writes; placed = placed_append k.put v.taken (x ∷ []) mine.placed (k.placed.0, tt); none = λ e. absurd (omega (arith, e, some_part)) })
              (λ j u other e. k.fits j u e);
        },
        refl,
      )

  -- one with a part to spare makes another
  pub forks : (pass : ℕ) (v : Hand T) → 1 < v.parts → Forks Kept pass v (less v) taker
  forks pass v spare items views k at =
      let vs : List (Hand T) = set views pass (less v) in
      let mine = k.fits pass v at in
      let old : AllFit k.writer k.put vs = fit_set k.writer k.put views pass (less v) (record { writes = mine.writes; placed = mine.placed; none = λ e. absurd (omega (arith, e, spare)) }) (λ j u other e. k.fits j u e) in record {
        put = k.put;
        writer = k.writer;
        parts = (let s = weigh_set (λ u. u.parts) views pass v (less v) at in let p = k.parts in omega (arith, s, p, spare, weigh_append (λ (u : Hand T). u.parts) vs (taker ∷ [])));
        balance = λ h.
            (let s = weigh_set (λ u. weigh h u.taken) views pass v (less v) at in let b = k.balance h in
            omega (arith, s, b, weigh_append (λ (u : Hand T). weigh h u.taken) vs (taker ∷ [])));
        placed = k.placed;
        fits = λ j u e. ⊎_elim (λ x. old j u x)
            (λ (is : taker ≡ u). subst (Fits k.writer k.put j) is (record { writes = λ p. absurd (true≢false (sym p)); placed = tt; none = λ _. refl })) (at_snoc vs taker u j e);
      }

  -- and takes it in again
  pub merges : (pass : ℕ) (v : Hand T) (other : ℕ) (w : Hand T) → 0 < v.parts → Merges Kept pass v other w (joined v w) idle
  merges pass v other w some_part items views k at apart there =
      let vs : List (Hand T) = set views pass (joined v w) in
      let mine = k.fits pass v at in
      let was : get_elem? views other ≡ some w = ⊎_elim (λ x. absurd (apart x.0)) (λ x. x.1) (at_set views pass other (joined v w) w there) in
      let theirs = k.fits other w was in
      let now : AllFit k.writer k.put vs = fit_set k.writer k.put views pass (joined v w)
      (record { writes = mine.writes; placed = placed_append k.put v.taken w.taken mine.placed theirs.placed; none = λ e. absurd (omega (arith, e, some_part)) })
      (λ j u ne e. k.fits j u e) in record {
        put = k.put;
        writer = k.writer;
        parts =
            (let s = weigh_set (λ u. u.parts) views pass v (joined v w) at in let t = weigh_set (λ u. u.parts) vs other w idle there in let p = k.parts in
            omega (arith, s, t, p));
        balance = λ h.
            (let s = weigh_set (λ u. weigh h u.taken) views pass v (joined v w) at in let t = weigh_set (λ u. weigh h u.taken) vs other w idle there in let b = k.balance h in
            omega (arith, s, t, b, weigh_append h v.taken w.taken));
        placed = k.placed;
        fits = fit_set k.writer k.put vs other idle (record { writes = λ p. absurd (true≢false (sym p)); placed = tt; none = λ _. refl }) (λ j u ne e. now j u e);
      }

  -- a queue of as many as will be put has room for the next
  pub rooms : (pass : ℕ) (v : Hand T) → Learns Kept pass v (HasRoom v)
  rooms pass v items views k at may =
      let is : length v.put ≡ length k.put = ap length ((k.fits pass v at).writes may).1 in
      let b = k.balance (λ _. 1) in
      omega (arith, is, b, weigh_ones k.put, weigh_ones items)

  -- one with all parts knows the whole
  pub knows : (pass : ℕ) (v : Hand T) → Learns Kept pass v (KnowsWhole v)
  knows pass v items views k at may all =
      let mine = k.fits pass v at in
      let is : v.put ≡ k.put = (mine.writes may).1 in (
        (λ h.
            let lone : weigh (λ u. weigh h u.taken) views ≡ weigh h v.taken = weigh_one (λ u. weigh h u.taken) (λ u. u.parts) views pass v at (λ j u e none. ap (weigh h) ((k.fits j u e).none none)) (k.parts ∙ sym all) in
            let b = k.balance h in let same : weigh h v.put ≡ weigh h k.put = ap (weigh h) is in
            omega (arith, lone, b, same)),
        subst (λ l. AllPlaced l v.taken) (sym is) mine.placed,
      )

module _ {T : Type 0} where
  -- so a put never finds it full
  pub no_room : (v : Hand T) (room place : ℕ) → v.puts ≡ true → place ≡ length v.put → place < room → Held room (HasRoom v) → ⊥
  no_room v room place may next less full = let most = full.2 may in omega (arith, next, less, full.1, most)

  pub numbered_append : (n : ℕ) (xs : List T) (x : T) → numbered n (xs ++ x ∷ []) ≡ numbered n xs ++ record { place = n + length xs; work = x } ∷ []
  numbered_append n [] x = let same : n ≡ n + 0 = omega arith in ap (λ k. record { place = k; work = x } ∷ []) same
  numbered_append n (y ∷ xs) x =
      let same : (n + 1) + length xs ≡ n + suc (length xs) = omega arith in
      ap (λ l. record { place = n; work = y } ∷ l) (numbered_append (n + 1) xs x ∙ ap (λ k. numbered (n + 1) xs ++ record { place = k; work = x } ∷ []) same)

  pub numbered_more : (xs : List T) (x : T) → numbered 0 (xs ++ x ∷ []) ≡ numbered 0 xs ++ record { place = length xs; work = x } ∷ []
  numbered_more xs x = let same : 0 + length xs ≡ length xs = omega arith in numbered_append 0 xs x ∙ ap (λ k. numbered 0 xs ++ record { place = k; work = x } ∷ []) same

  pub numbered_length : (n : ℕ) (xs : List T) → length (numbered n xs) ≡ length xs
  numbered_length n [] = refl
  numbered_length n (x ∷ xs) = ap suc (numbered_length (n + 1) xs)

-- one more was taken
module _ {T : Type 0} where
  pub with_all_more : (u v w : Hand T) (taken : List (Item T)) (x : Item T) → v ≡ with_all u taken → w ≡ with_taken v x → w ≡ with_all u (taken ++ x ∷ [])
  with_all_more u v w taken x is reported = reported ∙ (ap (λ (y : Hand T). with_taken y x) is ∙ ap (λ l. hand u.parts u.puts u.put l u.passes) (append_assoc u.taken taken (x ∷ [])))

module _ {F T X : Type 0} (g : Shared F (T × Unit {0}) X) (f : F) where
  pub worked_append : (xs us : List (Item T)) (ys vs : List (Item X)) → AllWorked g f xs ys → AllWorked g f us vs → AllWorked g f (xs ++ us) (ys ++ vs)
  worked_append [] us [] vs p q = q
  worked_append [] us (y ∷ ys) vs p q = absurd p
  worked_append (x ∷ xs) us [] vs p q = absurd p
  worked_append (x ∷ xs) us (y ∷ ys) vs p q = (p.0, p.1, worked_append xs us ys vs p.2 q)

module _ {X : Type 0} where
  pub filled_append : (slots : List (Option X)) (xs ys : List (Item X)) → filled slots (xs ++ ys) ≡ filled (filled slots xs) ys
  filled_append slots [] ys = refl
  filled_append slots (x ∷ xs) ys = filled_append (set slots x.place (Some x.work)) xs ys

  pub filled_length : (slots : List (Option X)) (xs : List (Item X)) → length (filled slots xs) ≡ length slots
  filled_length slots [] = refl
  filled_length slots (x ∷ xs) = filled_length (set slots x.place (Some x.work)) xs ∙ length-set slots x.place (Some x.work)

  pub inside_at : (n : ℕ) (xs : List (Item X)) (i : ℕ) (x : Item X) → AllInside n xs → i < length xs → x ≡ get_or xs i x → x.place < n
  inside_at n [] i x all lt is = absurd (omega arith)
  inside_at n (y ∷ xs) zero x all lt is = subst (λ (z : Item X). z.place < n) (sym is) all.0
  inside_at n (y ∷ xs) (suc i) x all lt is = inside_at n xs i x all.1 (omega (arith, lt)) is

module _ {F T X : Type 0} (g : Shared F (T × Unit {0}) X) (f : F) where
  pub did_none : (v : Hand T) (kept : List (Item X)) → kept ≡ [] → Did g f v v kept
  did_none v kept none = record { taken = []; view_is = ap (λ l. hand v.parts v.puts v.put l v.passes) (sym (append-nil v.taken)); worked = subst (AllWorked g f []) (sym none) tt }

  pub did_more : (u v w : Hand T) (kept more : List (Item X)) (x : Item T) (y : X) → Did g f u v kept → w ≡ with_taken v x → FnReturns g f (x.work, tt) y → more ≡ kept ++ record { place = x.place; work = y } ∷ [] → Did g f u w more
  did_more u v w kept more x y d reported given is = record {
    taken = d.taken ++ x ∷ [];
    view_is = with_all_more u v w d.taken x d.view_is reported;
    worked = subst (AllWorked g f (d.taken ++ x ∷ [])) (sym is) (worked_append g f d.taken (x ∷ []) kept (record { place = x.place; work = y } ∷ []) d.worked (refl, given, tt));
  }

  -- one that did this was taken in
  pub gathers_more : (parts passes : ℕ) (put : List (Item T)) (v w both : Hand T) (kept theirs all : List (Item X)) → Gathers g f parts passes put v kept → Did g f taker w theirs → both ≡ joined v w → all ≡ kept ++ theirs → Gathers g f (parts + 1) (passes + 1) put both all
  gathers_more parts passes put v w both kept theirs all a d reported is = record {
    taken = a.taken ++ d.taken;
    view_is = reported ∙ (λ i. joined (a.view_is i) (d.view_is i));
    worked = subst (AllWorked g f (a.taken ++ d.taken)) (sym is) (worked_append g f a.taken d.taken kept theirs a.worked d.worked);
  }

module _ {T : Type 0} where
  pub works_numbered : (n : ℕ) (xs : List T) → works (numbered n xs) ≡ xs
  works_numbered n [] = refl
  works_numbered n (x ∷ xs) = ap (λ l. x ∷ l) (works_numbered (n + 1) xs)

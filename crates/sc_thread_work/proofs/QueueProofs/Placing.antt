-- What was taken and worked, put back into order.
use Rattle.std.proofs.Common.{◌≡◌, ◌≢◌, ℕ, zero, suc, ◌+◌, ◌<◌, ◌≤◌, Bool, true, false, cond, eqb, eq-eqb, List, [], ◌∷◌, ◌++◌, length, set, get_or, get_or-set_other, get_or-set_same, length-set, map, sym, refl, ap, ◌∙◌, subst, arith, Option, Some, None, is_some}
use mathlib.Core.Option.{some, some-injective, some-ne-none}
use Rattle.std.proofs.lemmas.Bool.{eqb-true}
use mathlib.Core.Logic.{dite}
use native.Mathlib.Decide.{ℕ_discrete}
use lib.ListN.{get_elem?}
use denote.Param.Members.{Shared}
use Rattle.std.specs.Fn.{FnReturns}
use Rattle.crossbeam_queue.specs.Fifo.{Held}
use Rattle.sc_thread_work.specs.declared.queue.rule.Item.{Item}
use Rattle.sc_thread_work.specs.declared.queue.rule.Hand.{Hand}
use Rattle.sc_thread_work.proofs.QueueProofs.KeptQueueRule.{worked_append}
use Rattle.sc_thread_work.specs.queue.QueueDefinitions.{all_parts, hand, with_all, weigh, numbered, AllPlaced, KnowsWhole, IsWorkedOff, AllWorked, AllInside, AllGiven, IsRight, AllFree, Did, Gathers, filled}

-- 1 for an item with this place
abbrev pub at_place : {X : Type 0} → ℕ → Item X → ℕ
at_place k y = cond (eqb y.place k) 1 0

nothing : {X : Type 0} (h : X → ℕ) (xs : List X) → length xs ≡ 0 → weigh h xs ≡ 0
nothing h [] e = refl
nothing h (x ∷ xs) e = absurd (omega (arith, e))

module _ {T : Type 0} where
  -- an item of numbered elements has its element
  pub placed_work : (n : ℕ) (xs : List T) (i : ℕ) (x : Item T) → get_elem? (numbered n xs) i ≡ some x → (i < length xs) × ((d : T) → get_or xs i d ≡ x.work)
  placed_work n [] i x e = absurd (some-ne-none x (sym e))
  placed_work n (y ∷ xs) zero x e = (omega arith, λ d. ap (λ (z : Item T). z.work) (some-injective (record { place = n; work = y }) x e))
  placed_work n (y ∷ xs) (suc i) x e = let rest = placed_work (n + 1) xs i x e in (omega (arith, rest.0), rest.1)

  -- each place below the length is there
  pub place_there : (n : ℕ) (xs : List T) (k : ℕ) → n ≤ k → k < n + length xs → 1 ≤ weigh (at_place k) (numbered n xs)
  place_there n [] k low high = absurd (omega arith)
  place_there n (x ∷ xs) k low high = dite (ℕ_discrete n k)
      (λ e. let one : at_place {X = T} k (record { place = n; work = x }) ≡ 1 = ap (λ b. cond {A = ℕ} b 1 0) (eq-eqb n k e) in omega (arith, one))
      (λ ne. omega (arith, place_there (n + 1) xs k (omega arith) (omega (arith, high))))

module _ {X : Type 0} where
  -- what is there stays there
  pub stays_there : (slots : List (Option X)) (kept : List (Item X)) (k : ℕ) (e : Option X) → k < length slots → is_some (get_or slots k e) ≡ true → is_some (get_or (filled slots kept) k e) ≡ true
  stays_there slots [] k e lt is = is
  stays_there slots (y ∷ kept) k e lt is =
      stays_there (set slots y.place (Some y.work)) kept k e (omega (arith, lt, length-set slots y.place (Some y.work)))
      (dite (ℕ_discrete k y.place)
      (λ same. ap (λ n. is_some (get_or (set slots y.place (Some y.work)) n e)) same ∙ ap is_some (get_or-set_same slots y.place (Some y.work) e (omega (arith, lt, same))))
      (λ ne. ap is_some (get_or-set_other slots y.place k (Some y.work) e ne) ∙ is))

module _ {F T X : Type 0} (g : Shared F (T × Unit {0}) X) (f : F) where
  -- a place that was taken is there
  pub comes_there : (slots : List (Option X)) (taken : List (Item T)) (kept : List (Item X)) (k : ℕ) (e : Option X) → AllWorked g f taken kept → k < length slots → 1 ≤ weigh (at_place k) taken → is_some (get_or (filled slots kept) k e) ≡ true
  comes_there slots [] kept k e w lt one = absurd (omega (arith, one))
  comes_there slots (x ∷ taken) [] k e w lt one = absurd w
  comes_there slots (x ∷ taken) (y ∷ kept) k e w lt one =
      let more : List (Option X) = set slots y.place (Some y.work) in
      let inside : k < length more = omega (arith, lt, length-set slots y.place (Some y.work)) in
      dite (ℕ_discrete k y.place)
      (λ same. stays_there more kept k e inside (ap (λ n. is_some (get_or more n e)) same ∙ ap is_some (get_or-set_same slots y.place (Some y.work) e (omega (arith, lt, same)))))
      (λ ne. comes_there more taken kept k e w.2 inside (by (eqb x.place k) refl ne))
    where
      by : (b : Bool) → eqb x.place k ≡ b → k ≢ y.place → 1 ≤ weigh (at_place k) taken
      by true is ne = absurd (ne (sym (w.0 ∙ eqb-true x.place k is)))
      by false is ne = let none : at_place k x ≡ 0 = ap (λ b. cond {A = ℕ} b 1 0) is in omega (arith, one, none)

  -- each stands below the length
  pub all_inside : (all : List T) (taken : List (Item T)) (kept : List (Item X)) → AllPlaced (numbered 0 all) taken → AllWorked g f taken kept → AllInside (length all) kept
  all_inside all [] [] p w = tt
  all_inside all [] (y ∷ kept) p w = absurd w
  all_inside all (x ∷ taken) [] p w = absurd w
  all_inside all (x ∷ taken) (y ∷ kept) p w = (omega (arith, (placed_work 0 all x.place x p.0).0, w.0), all_inside all taken kept p.1 w.2)

  -- what stands in a place is what a call gave with the element of that place
  pub right_there : (all : List T) (slots : List (Option X)) (taken : List (Item T)) (kept : List (Item X)) → length slots ≡ length all → AllPlaced (numbered 0 all) taken → AllWorked g f taken kept
      → ((k : ℕ) (e : Option X) → k < length slots → IsRight g f all k (get_or slots k e)) → (k : ℕ) (e : Option X) → k < length slots → IsRight g f all k (get_or (filled slots kept) k e)
  right_there all slots [] [] same p w right k e lt = right k e lt
  right_there all slots [] (y ∷ kept) same p w right k e lt = absurd w
  right_there all slots (x ∷ taken) [] same p w right k e lt = absurd w
  right_there all slots (x ∷ taken) (y ∷ kept) same p w right k e lt =
      let more : List (Option X) = set slots y.place (Some y.work) in
      let len : length more ≡ length slots = length-set slots y.place (Some y.work) in
      let placed = placed_work 0 all x.place x p.0 in
      right_there all more taken kept (len ∙ same) p.1 w.2
      (λ j u less. dite (ℕ_discrete j y.place)
      (λ is.
      let here : get_or more j u ≡ Some y.work = ap (λ n. get_or more n u) is ∙ get_or-set_same slots y.place (Some y.work) u (omega (arith, less, len, is)) in
      subst (IsRight g f all j) (sym here) (λ d. let elem : get_or all j d ≡ x.work = ap (λ n. get_or all n d) (is ∙ w.0) ∙ placed.1 d in subst (λ z. FnReturns g f (z, tt) y.work) (sym elem) w.1))
      (λ ne. subst (IsRight g f all j) (sym (get_or-set_other slots y.place j (Some y.work) u ne)) (right j u (omega (arith, less, len)))))
      k e (omega (arith, lt, len))

  get_mapped : (ys : List X) (k : ℕ) (e : X) (u : Option X) → k < length ys → get_or (map (λ (y : X). Some y) ys) k u ≡ Some (get_or ys k e)
  get_mapped [] k e u lt = absurd (omega arith)
  get_mapped (y ∷ ys) zero e u lt = refl
  get_mapped (y ∷ ys) (suc k) e u lt = get_mapped ys k e u (omega (arith, lt))

  mapped_length : (ys : List X) → length (map (λ (y : X). Some y) ys) ≡ length ys
  mapped_length [] = refl
  mapped_length (y ∷ ys) = ap suc (mapped_length ys)

  -- so what lay in the places is what the calls gave
  pub all_given : (all : List T) (slots : List (Option X)) (ys : List X) → length slots ≡ length all → map (λ (y : X). Some y) ys ≡ slots → ((k : ℕ) (e : Option X) → k < length slots → IsRight g f all k (get_or slots k e)) → AllGiven g f all ys
  all_given all slots ys same is right k d e lt =
      let len : length ys ≡ length all = sym (mapped_length ys) ∙ (ap length is ∙ same) in
      let there : get_or slots k None ≡ Some (get_or ys k e) = ap (λ l. get_or l k None) (sym is) ∙ get_mapped ys k e None (omega (arith, lt, len)) in
      subst (IsRight g f all k) there (right k None (omega (arith, lt, same))) d

  pub given_length : (all : List T) (slots : List (Option X)) (ys : List X) → length slots ≡ length all → map (λ (y : X). Some y) ys ≡ slots → length ys ≡ length all
  given_length all slots ys same is = sym (mapped_length ys) ∙ (ap length is ∙ same)

  -- all were taken, each stands where it was put, and each was worked
  pub record Complete (all : List T) (kept : List (Item X)) : Type 0 where
    pub taken : List (Item T)
    pub placed : AllPlaced (numbered 0 all) taken
    pub worked : AllWorked g f taken kept
    pub each : (k : ℕ) → k < length all → 1 ≤ weigh (at_place k) taken

  pub completes : (all : List T) (v w : Hand T) (first rest kept : List (Item X)) (parts passes : ℕ) → Gathers g f parts passes (numbered 0 all) v first → parts ≡ all_parts → Did g f v w rest → Held 0 (KnowsWhole w) → kept ≡ first ++ rest → Complete all kept
  completes all v w first rest kept parts passes a full d whole is =
      let view_is : w ≡ hand parts true (numbered 0 all) (a.taken ++ d.taken) passes = d.view_is ∙ ap (λ (u : Hand T). with_all u d.taken) a.view_is in
      let knows = whole.2 (ap (λ (u : Hand T). u.puts) view_is) (ap (λ (u : Hand T). u.parts) view_is ∙ full) in record {
        taken = a.taken ++ d.taken;
        placed = subst (λ (u : Hand T). AllPlaced u.put u.taken) view_is knows.1;
        worked = subst (AllWorked g f (a.taken ++ d.taken)) (sym is) (worked_append g f a.taken d.taken first rest a.worked d.worked);
        each = λ k lt.
            (let there = place_there 0 all k (omega arith) (omega (arith, lt)) in
            let even : weigh (at_place k) (numbered 0 all) ≡ weigh (at_place k) (a.taken ++ d.taken) + weigh (at_place k) whole.0 = ap (λ (u : Hand T). weigh (at_place k) u.put) (sym view_is) ∙ (knows.0 (at_place k) ∙ ap (λ (u : Hand T). weigh (at_place k) u.taken + weigh (at_place k) whole.0) view_is) in
            let none : weigh (at_place k) whole.0 ≡ 0 = nothing (at_place k) whole.0 whole.1 in
            omega (arith, there, even, none));
      }

  -- so the one that puts knows that each was put and taken once
  pub worked_off : (all : List T) (v w : Hand T) (first rest : List (Item X)) (parts passes : ℕ) → Gathers g f parts passes (numbered 0 all) v first → parts ≡ all_parts → Did g f v w rest → Held 0 (KnowsWhole w) → IsWorkedOff all w
  worked_off all v w first rest parts passes a full d whole =
      let view_is : w ≡ hand parts true (numbered 0 all) (a.taken ++ d.taken) passes = d.view_is ∙ ap (λ (u : Hand T). with_all u d.taken) a.view_is in
      let knows = whole.2 (ap (λ (u : Hand T). u.puts) view_is) (ap (λ (u : Hand T). u.parts) view_is ∙ full) in record {
        put = ap (λ (u : Hand T). u.put) view_is;
        taken = λ h.
            (let none : weigh h whole.0 ≡ 0 = nothing h whole.0 whole.1 in
            let even = knows.0 h in
            omega (arith, even, none));
      }

  -- at the start nothing was gathered
  pub gathers_none : (parts : ℕ) (all : List T) (v w : Hand T) (kept : List (Item X)) → v ≡ hand all_parts true (numbered 0 all) [] 0 → w ≡ hand parts v.puts v.put v.taken v.passes → kept ≡ [] → Gathers g f parts 0 (numbered 0 all) w kept
  gathers_none parts all v w kept is reported none = record {
    taken = [];
    view_is = reported ∙ ap (λ (u : Hand T). hand parts u.puts u.put u.taken u.passes) is;
    worked = subst (AllWorked g f []) (sym none) tt;
  }

  -- and each place is empty
  pub right_free : (all : List T) (slots : List (Option X)) → AllFree slots → (k : ℕ) (e : Option X) → k < length slots → IsRight g f all k (get_or slots k e)
  right_free all slots free k e lt = subst (IsRight g f all k) (sym (free k e lt)) tt

-- The copies entry by entry, and the one at a place.
use Rattle.std.proofs.Common.{◌≡◌, ℕ, zero, suc, ◌+◌, ◌-◌, ◌<◌, ◌≤◌, ◌%◌, ◌^◌, eqb, eq-eqb, List, [], ◌∷◌, ◌++◌, length, filter, fold, Bool, true, false, cond, replicate, get_or, take, drop, refl, sym, ap, ◌∙◌, arith, append_assoc, append-nil, length-append, Option, Some, None, Result, Ok, Err, IfOk}
use Rattle.std.specs.Prelude.{slice_get}
use Rattle.std.proofs.lemmas.List.{take_more, take_all, drop_more, length-replicate}
use Rattle.std.proofs.lemmas.List.Elements.{filter-append}
use Rattle.std.proofs.lemmas.List.Sums.{fold-append, length-filter, count_by-le-length}
use Rattle.std.proofs.lemmas.Option.{none-some, slice_get_past}
use Rattle.sc_base.specs.declared.dups.OutOfMemory.{OutOfMemory}
use Rattle.sc_thread_ledger.specs.declared.spots.Spot.{Spot}
use Rattle.sc_thread_ledger.specs.LedgerDefinitions.{copies_in, copies_for, picked_spot, spot_after, spot_behind, spots_from}

-- ---- lists

copies_append : (xs ys : List (ℕ × ℕ)) → copies_in (xs ++ ys) ≡ copies_in xs ++ copies_in ys
copies_append [] ys = refl
copies_append (x ∷ xs) ys = ap (λ l. replicate x.1 x.0 ++ l) (copies_append xs ys) ∙ sym (append_assoc (replicate x.1 x.0) (copies_in xs) (copies_in ys))

take_and_drop : (xs : List (ℕ × ℕ)) (i : ℕ) → xs ≡ take i xs ++ drop i xs
take_and_drop [] zero = refl
take_and_drop [] (suc i) = refl
take_and_drop (x ∷ xs) zero = refl
take_and_drop (x ∷ xs) (suc i) = ap (λ l. x ∷ l) (take_and_drop xs i)

get_prefix : (ys zs : List Spot) (j : ℕ) (s : Spot) → slice_get ys j ≡ Some s → slice_get (ys ++ zs) j ≡ Some s
get_prefix [] zs j s e = absurd (none-some s e)
get_prefix (y ∷ ys) zs zero s e = e
get_prefix (y ∷ ys) zs (suc j) s e = get_prefix ys zs j s e

get_behind : (xs ys : List Spot) (j n : ℕ) → n ≡ length xs + j → slice_get (xs ++ ys) n ≡ slice_get ys j
get_behind [] ys j n e = ap (slice_get ys) (omega (arith, e))
get_behind (x ∷ xs) ys j zero e = absurd (omega (arith, e))
get_behind (x ∷ xs) ys j (suc n) e = get_behind xs ys j n (omega (arith, e))

take_within : (xs : List (ℕ × ℕ)) (i m : ℕ) → i ≤ m → take i (take m xs) ≡ take i xs
take_within [] zero zero le = refl
take_within [] zero (suc m) le = refl
take_within [] (suc i) zero le = refl
take_within [] (suc i) (suc m) le = refl
take_within (x ∷ xs) zero zero le = refl
take_within (x ∷ xs) zero (suc m) le = refl
take_within (x ∷ xs) (suc i) zero le = absurd (omega (arith, le))
take_within (x ∷ xs) (suc i) (suc m) le = ap (λ l. x ∷ l) (take_within xs i m (omega (arith, le)))

-- ---- the copies of one number

module _ (receivers : List ℕ) where
  abbrev to : ℕ → ℕ
  to n = get_or receivers (n - 1) 0

  abbrev step : List Spot → ℕ → List Spot
  step before number = before ++ spot_after receivers before number ∷ []

  -- how many of these copies have this receiver
  abbrev own : List Spot → ℕ → ℕ
  own done who = length (filter (λ (s : Spot). eqb s.who who) done)

  abbrev copy_of : ℕ → ℕ → Spot
  copy_of number k = record { number = number; who = to number; k = k }

  -- `c` copies of one number, behind `n` copies with its receiver
  abbrev run : ℕ → ℕ → ℕ → List Spot
  run number n zero = []
  run number n (suc c) = copy_of number (n + 1) ∷ run number (n + 1) c

  own_more : (done : List Spot) (number : ℕ) → own (done ++ spot_after receivers done number ∷ []) (to number) ≡ own done (to number) + 1
  own_more done number =
      let p : Spot → Bool = λ s. eqb s.who (to number) in
      let s = spot_after receivers done number in
      ap length (filter-append p done (s ∷ []))
      ∙ (length-append (filter p done) (filter p (s ∷ []))
      ∙ ap (λ b. own done (to number) + length (cond b (s ∷ []) [])) (eq-eqb (to number) (to number) refl))

  run_is : (c : ℕ) (number : ℕ) (done : List Spot) → fold step done (replicate c number) ≡ done ++ run number (own done (to number)) c
  run_is zero number done = sym (append-nil done)
  run_is (suc c) number done =
      let s = spot_after receivers done number in
      run_is c number (done ++ s ∷ [])
      ∙ (ap (λ n. (done ++ s ∷ []) ++ run number n c) (own_more done number)
      ∙ append_assoc done (s ∷ []) (run number (own done (to number) + 1) c))

  length_run : (number n c : ℕ) → length (run number n c) ≡ c
  length_run number n zero = refl
  length_run number n (suc c) = ap suc (length_run number (n + 1) c)

  get_run : (number n c j : ℕ) → j < c → slice_get (run number n c) j ≡ Some (copy_of number (n + j + 1))
  get_run number n zero j lt = absurd (omega (arith, lt))
  get_run number n (suc c) zero lt = let e : n + 1 ≡ n + 0 + 1 = omega arith in ap (λ k. Some (copy_of number k)) e
  get_run number n (suc c) (suc j) lt =
      let e : n + 1 + j + 1 ≡ n + suc j + 1 = omega arith in
      get_run number (n + 1) c j (omega (arith, lt)) ∙ ap (λ k. Some (copy_of number k)) e

  -- the copies of these entries
  abbrev pub spots : List (ℕ × ℕ) → List Spot
  spots es = spots_from receivers (copies_in es)

  spots_more : (xs : List (ℕ × ℕ)) (e : ℕ × ℕ) → spots (xs ++ e ∷ []) ≡ spots xs ++ run e.0 (own (spots xs) (to e.0)) e.1
  spots_more xs e =
      ap (spots_from receivers) (copies_append xs (e ∷ []) ∙ ap (λ l. copies_in xs ++ l) (append-nil (replicate e.1 e.0)))
      ∙ (fold-append step [] (copies_in xs) (replicate e.1 e.0)
      ∙ run_is e.1 e.0 (spots xs))

  -- copies that come behind
  spots_begin : (rest : List ℕ) (done : List Spot) → (more : List Spot) × (fold step done rest ≡ done ++ more)
  spots_begin [] done = ([], sym (append-nil done))
  spots_begin (n ∷ rest) done =
      let s = spot_after receivers done n in
      let r = spots_begin rest (done ++ s ∷ []) in
      (s ∷ r.0, r.1 ∙ append_assoc done (s ∷ []) r.0)

  spots_behind : (xs ys : List (ℕ × ℕ)) → (more : List Spot) × (spots (xs ++ ys) ≡ spots xs ++ more)
  spots_behind xs ys =
      let r = spots_begin (copies_in ys) (spots xs) in
      (r.0, ap (spots_from receivers) (copies_append xs ys) ∙ (fold-append step [] (copies_in xs) (copies_in ys) ∙ r.1))

  -- there are as many copies as numbers
  length_from : (ns : List ℕ) (done : List Spot) → length (fold step done ns) ≡ length done + length ns
  length_from [] done = omega arith
  length_from (n ∷ ns) done =
      let more = length_from ns (done ++ spot_after receivers done n ∷ []) in
      let one = length-append done (spot_after receivers done n ∷ []) in
      omega (arith, more, one)

  length_spots : (es : List (ℕ × ℕ)) → length (spots es) ≡ length (copies_in es)
  length_spots es = let all = length_from (copies_in es) [] in omega (arith, all)

  -- those of the first entries are not more than all
  length_first : (es : List (ℕ × ℕ)) (i : ℕ) → i < length es → length (copies_in (take i es)) + (get_or es i (0, 0)).1 ≤ length (copies_in es)
  length_first es i lt =
      let e = get_or es i (0, 0) in
      let more = ap (λ l. length (copies_in l)) (take_and_drop es i ∙ ap (λ l. take i es ++ l) (drop_more es i (0, 0) lt)) ∙ ap length (copies_append (take i es) (e ∷ drop (i + 1) es)) in
      let parts = length-append (copies_in (take i es)) (copies_in (e ∷ drop (i + 1) es)) in
      let own_ones = length-append (replicate e.1 e.0) (copies_in (drop (i + 1) es)) in
      omega (arith, more, parts, own_ones, length-replicate e.1 e.0)

  -- the place of a copy of an entry is not above the number of all copies
  pub behind_within : (es : List (ℕ × ℕ)) (i left number : ℕ) → i < length es → left < (get_or es i (0, 0)).1 → own (spots (take i es)) (to number) + left + 1 ≤ length (copies_in es)
  behind_within es i left number lt less =
      let p : Spot → Bool = λ s. eqb s.who (to number) in
      omega (arith, length-filter p (spots (take i es)), count_by-le-length p (spots (take i es)), length_spots (take i es), length_first es i lt, less)

  -- those whose receivers pass a test
  module _ (p : ℕ → Bool) where
    abbrev pub kept : List Spot → List Spot
    kept all = filter (λ (s : Spot). p s.who) all

    kept_run : (number n c : ℕ) (b : Bool) → p (to number) ≡ b → kept (run number n c) ≡ cond b (run number n c) []
    kept_run number n zero true e = refl
    kept_run number n zero false e = refl
    kept_run number n (suc c) true e = rw e (ap (λ l. copy_of number (n + 1) ∷ l) (kept_run number (n + 1) c true e))
    kept_run number n (suc c) false e = rw e (kept_run number (n + 1) c false e)

    length_if : (b : Bool) (number n c : ℕ) → length (cond b (run number n c) []) ≡ cond b c 0
    length_if true number n c = length_run number n c
    length_if false number n c = refl

    kept_more : (xs : List (ℕ × ℕ)) (e : ℕ × ℕ) (b : Bool) → p (to e.0) ≡ b → length (kept (spots (xs ++ e ∷ []))) ≡ length (kept (spots xs)) + cond b e.1 0
    kept_more xs e b is =
        let n = own (spots xs) (to e.0) in
        ap (λ l. length (kept l)) (spots_more xs e)
        ∙ (ap length (filter-append (λ (s : Spot). p s.who) (spots xs) (run e.0 n e.1))
        ∙ (length-append (kept (spots xs)) (kept (run e.0 n e.1))
        ∙ ap (λ k. length (kept (spots xs)) + k) (ap length (kept_run e.0 n e.1 b is) ∙ length_if b e.0 n e.1)))

    -- how many there are so far, and with the next entry
    pub counted_next : (es : List (ℕ × ℕ)) (i : ℕ) → i < length es → (b : Bool) → p (to (get_or es i (0, 0)).0) ≡ b → length (kept (spots (take (i + 1) es))) ≡ length (kept (spots (take i es))) + cond b (get_or es i (0, 0)).1 0
    counted_next es i lt b passes =
        ap (λ l. length (kept (spots l))) (take_more es i (0, 0) lt) ∙ kept_more (take i es) (get_or es i (0, 0)) b passes

    -- so it is once the copies of that entry are added
    pub counted_on : (es : List (ℕ × ℕ)) (i many share next : ℕ) (asked : Bool) → i < length es → asked ≡ p (to (get_or es i (0, 0)).0) → share ≡ cond asked (get_or es i (0, 0)).1 0
        → many ≡ length (kept (spots (take i es))) → next ≡ many + share → next ≡ length (kept (spots (take (i + 1) es)))
    counted_on es i many share next asked lt passes is so_far sum =
        sum ∙ ((λ j. so_far j + is j) ∙ sym (counted_next es i lt asked (sym passes)))

    -- of the first entries there are not more than of all
    kept_within : (es : List (ℕ × ℕ)) (i : ℕ) → length (kept (spots (take i es))) ≤ length (kept (spots es))
    kept_within es i =
        let behind = spots_behind (take i es) (drop i es) in
        let whole = ap (λ l. length (kept (spots l))) (take_and_drop es i) ∙ (ap (λ l. length (kept l)) behind.1 ∙ ap length (filter-append (λ (s : Spot). p s.who) (spots (take i es)) behind.0)) in
        omega (arith, whole, length-append (kept (spots (take i es))) (kept behind.0))

    -- and not more than there are copies
    pub kept_few : (es : List (ℕ × ℕ)) → length (kept (spots es)) ≤ length (copies_in es)
    kept_few es = let q : Spot → Bool = λ s. p s.who in omega (arith, length-filter q (spots es), count_by-le-length q (spots es), length_spots es)

    -- so a sum on the way fits where that of more entries does
    pub fits_to : (es : List (ℕ × ℕ)) (i m many share : ℕ) (asked : Bool) → i < length es → i < m → asked ≡ p (to (get_or es i (0, 0)).0) → share ≡ cond asked (get_or es i (0, 0)).1 0
        → many ≡ length (kept (spots (take i es))) → length (kept (spots (take m es))) < 2 ^ 32 → many + share < 2 ^ 32
    fits_to es i m many share asked lt before passes is so_far few =
        let next = counted_on es i many share (many + share) asked lt passes is so_far refl in
        let same = ap (λ l. length (kept (spots l))) (take_within es (i + 1) m (omega (arith, before))) in
        omega (arith, next, same, kept_within (take m es) (i + 1), few)

    -- and where the whole does
    pub fits_on : (es : List (ℕ × ℕ)) (i many share : ℕ) (asked : Bool) → i < length es → asked ≡ p (to (get_or es i (0, 0)).0) → share ≡ cond asked (get_or es i (0, 0)).1 0
        → many ≡ length (kept (spots (take i es))) → length (kept (spots es)) < 2 ^ 32 → many + share < 2 ^ 32
    fits_on es i many share asked lt passes is so_far few =
        let next = counted_on es i many share (many + share) asked lt passes is so_far refl in
        omega (arith, next, kept_within es (i + 1), few)

    -- and the place is as far from them as it was
    pub left_on : (es : List (ℕ × ℕ)) (i left share n : ℕ) (asked : Bool) → i < length es → asked ≡ p (to (get_or es i (0, 0)).0) → share ≡ cond asked (get_or es i (0, 0)).1 0
        → share ≤ left → left + length (kept (spots (take i es))) ≡ n → (left - share) + length (kept (spots (take (i + 1) es))) ≡ n
    left_on es i left share n asked lt passes is le at =
        (let next = counted_next es i lt asked (sym passes) in omega (arith, next, is, at, le))

    -- and in all
    pub counted_all : (es : List (ℕ × ℕ)) (i : ℕ) → length es ≤ i → length (kept (spots (take i es))) ≡ length (kept (spots es))
    counted_all es i le = ap (λ l. length (kept (spots l))) (take_all i es le)

    -- the one at a place among those of an entry
    found_here : (es : List (ℕ × ℕ)) (i : ℕ) → i < length es → p (to (get_or es i (0, 0)).0) ≡ true
        → (left n : ℕ) → left < (get_or es i (0, 0)).1 → left + length (kept (spots (take i es))) ≡ n
        → slice_get (kept (spots es)) n ≡ Some (spot_behind receivers (spots (take i es)) (get_or es i (0, 0)).0 left)
    found_here es i lt passes left n less at =
        let e = get_or es i (0, 0) in
        let prefix = take i es in
        let m = own (spots prefix) (to e.0) in
        let whole : es ≡ (prefix ++ e ∷ []) ++ drop (i + 1) es =
        take_and_drop es i ∙ (ap (λ l. prefix ++ l) (drop_more es i (0, 0) lt)
        ∙ sym (append_assoc prefix (e ∷ []) (drop (i + 1) es))) in
        let behind = spots_behind (prefix ++ e ∷ []) (drop (i + 1) es) in
        let parts : kept (spots es) ≡ (kept (spots prefix) ++ run e.0 m e.1) ++ kept behind.0 =
        ap (λ l. kept (spots l)) whole
        ∙ (ap kept (behind.1 ∙ ap (λ l. l ++ behind.0) (spots_more prefix e))
        ∙ (filter-append (λ (s : Spot). p s.who) (spots prefix ++ run e.0 m e.1) behind.0
        ∙ ap (λ l. l ++ kept behind.0) (filter-append (λ (s : Spot). p s.who) (spots prefix) (run e.0 m e.1) ∙ ap (λ l. kept (spots prefix) ++ l) (kept_run e.0 m e.1 true passes)))) in
        ap (λ l. slice_get l n) parts
        ∙ get_prefix (kept (spots prefix) ++ run e.0 m e.1) (kept behind.0) n (copy_of e.0 (m + left + 1))
        (get_behind (kept (spots prefix)) (run e.0 m e.1) left n (omega (arith, at)) ∙ get_run e.0 m e.1 left less)

    within_share : (asked : Bool) (left count share : ℕ) → share ≡ cond asked count 0 → left < share → (asked ≡ true) × (left < count)
    within_share true left count share is less = (refl, omega (arith, is, less))
    within_share false left count share is less = absurd (omega (arith, is, less))

    -- the same, where the place is within the copies that were asked for
    pub found_now : (es : List (ℕ × ℕ)) (i left share n : ℕ) (asked : Bool) → i < length es → asked ≡ p (to (get_or es i (0, 0)).0) → share ≡ cond asked (get_or es i (0, 0)).1 0
        → left < share → left + length (kept (spots (take i es))) ≡ n → slice_get (kept (spots es)) n ≡ Some (spot_behind receivers (spots (take i es)) (get_or es i (0, 0)).0 left)
    found_now es i left share n asked lt passes is less at =
        (let w = within_share asked left (get_or es i (0, 0)).1 share is less in found_here es i lt (sym passes ∙ w.0) left n w.1 at)

    -- and its place fits
    pub found_fits : (es : List (ℕ × ℕ)) (i left share : ℕ) (asked : Bool) → i < length es → share ≡ cond asked (get_or es i (0, 0)).1 0
        → left < share → length (copies_in es) < 2 ^ 32 → (spot_behind receivers (spots (take i es)) (get_or es i (0, 0)).0 left).k < 2 ^ 32
    found_fits es i left share asked lt is less few =
        (let w = within_share asked left (get_or es i (0, 0)).1 share is less in let at = behind_within es i left (get_or es i (0, 0)).0 lt w.1 in omega (arith, at, few))

    -- no copy is behind the last
    pub found_none : (es : List (ℕ × ℕ)) (i left n : ℕ) → length es ≤ i → left + length (kept (spots (take i es))) ≡ n → slice_get (kept (spots es)) n ≡ None
    found_none es i left n le at = (let all = counted_all es i le in slice_get_past (kept (spots es)) n (omega (arith, all, at)))

-- ---- what a word picks

pub picked_none : (all : List Spot) (v : ℕ) → length all ≡ 0 → None ≡ picked_spot all v
picked_none all v e = sym (slice_get_past all (v % length all) (omega (arith, e)))

pub picked_some : (all : List Spot) (v many : ℕ) (r : Result (Option Spot) OutOfMemory) → many ≡ length all → IfOk r (λ o. o ≡ slice_get all (v % many)) → IfOk r (λ o. o ≡ picked_spot all v)
picked_some all v many (Ok o) e p = p ∙ ap (λ n. slice_get all (v % n)) e
picked_some all v many (Err x) e p = tt

-- the same of other names of the lists
pub picked_at : (rs own one other whos : List ℕ) (v : ℕ) (r : Result (Option Spot) OutOfMemory) → rs ≡ own → one ≡ other → IfOk r (λ o. o ≡ picked_spot (copies_for whos (spots_from rs one)) v) → IfOk r (λ o. o ≡ picked_spot (copies_for whos (spots_from own other)) v)
picked_at rs own one other whos v (Ok o) a b p = p ∙ (λ i. picked_spot (copies_for whos (spots_from (a i) (b i))) v)
picked_at rs own one other whos v (Err x) a b p = tt

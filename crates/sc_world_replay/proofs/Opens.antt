-- Pending copies: what they say of pending mail, and what one more row makes of them.
use Rattle.std.proofs.Common.{◌≡◌, ℕ, zero, suc, ◌+◌, ◌-◌, ◌<◌, ◌≤◌, List, [], ◌∷◌, ◌++◌, length, Bool, true, false, ◌&&◌, not, cond, eqb, replicate, filter, map, get_or, set, refl, sym, ◌∙◌, ap, arith, append_assoc, Some}
use Rattle.std.specs.Prelude.{slice_get, nat_lt, insert, remove}
use Rattle.std.specs.List.{prefix_len}
use Rattle.std.proofs.lemmas.Bool.{eqb-true, eq-eqb, ne_eqb, lt-ltb, le-ltb}
use Rattle.std.proofs.lemmas.List.{map-append}
use Rattle.std.proofs.lemmas.List.Elements.{filter-append}
use Rattle.sc_actor.specs.Mail.{numbers}
use Rattle.sc_actor.specs.System.{kth}
use Rattle.sc_world_replay.specs.declared.stages.OpenCopy.{OpenCopy}
use Rattle.sc_world_replay.specs.Opens.{copy_of, opens, without, with_copy, without_to}

-- whether a copy is of a lower number
abbrev pub below : ℕ → OpenCopy → Bool
below number copy = nat_lt copy.number number

module _ (number : ℕ) where
  lower_copy : (x : OpenCopy) (xs : List OpenCopy) → below number x ≡ true → prefix_len (below number) (x ∷ xs) ≡ 1 + prefix_len (below number) xs
  lower_copy x xs t = rw t refl

  other_copy : (x : OpenCopy) (xs : List OpenCopy) → below number x ≡ false → prefix_len (below number) (x ∷ xs) ≡ 0
  other_copy x xs t = rw t refl

  without-lower : (x : OpenCopy) (xs : List OpenCopy) → below number x ≡ true → without (x ∷ xs) number ≡ x ∷ without xs number
  without-lower x xs t = rw t refl

  without-same : (x : OpenCopy) (xs : List OpenCopy) → below number x ≡ false → x.number ≡ number → without (x ∷ xs) number ≡ xs
  without-same x xs t e = rw (t, eq-eqb x.number number e) refl

  without-higher : (x : OpenCopy) (xs : List OpenCopy) → below number x ≡ false → (x.number ≡ number → ⊥) → without (x ∷ xs) number ≡ x ∷ xs
  without-higher x xs t ne = rw (t, ne_eqb x.number number ne) refl

  -- the first copy that is not lower goes, if it is of this mail
  pub removed : (xs : List OpenCopy) (place : ℕ) (x : OpenCopy) → place ≡ prefix_len (below number) xs → place < length xs → x ≡ get_or xs place x → x.number ≡ number → remove xs place ≡ without xs number
  removed [] place x e lt is same = absurd (omega arith)
  removed (y ∷ ys) place x e lt is same = by (λ p. removed ys p x) (below number y) refl place e lt is
    where
      by : ((p : ℕ) → p ≡ prefix_len (below number) ys → p < length ys → x ≡ get_or ys p x → x.number ≡ number → remove ys p ≡ without ys number) → (b : Bool) → below number y ≡ b → (place : ℕ) → place ≡ prefix_len (below number) (y ∷ ys) → place < length (y ∷ ys) → x ≡ get_or (y ∷ ys) place x → remove (y ∷ ys) place ≡ without (y ∷ ys) number
      by more true t zero e lt is = let h = lower_copy y ys t in absurd (omega (arith, e, h))
      by more true t (suc p) e lt is =
          let h = lower_copy y ys t in
          ap (λ zs. y ∷ zs) (more p (omega (arith, e, h)) (omega (arith, lt)) is same) ∙ sym (without-lower y ys t)
      by more false t zero e lt is = sym (without-same y ys t (ap (λ z. z.number) (sym is) ∙ same))
      by more false t (suc p) e lt is = let h = other_copy y ys t in absurd (omega (arith, e, h))

  -- no copy goes where the first that is not lower is of another mail
  pub not_removed : (xs : List OpenCopy) (place : ℕ) (x : OpenCopy) → place ≡ prefix_len (below number) xs → place < length xs → x ≡ get_or xs place x → (x.number ≡ number → ⊥) → without xs number ≡ xs
  not_removed [] place x e lt is ne = absurd (omega arith)
  not_removed (y ∷ ys) place x e lt is ne = by (λ p a b c. not_removed ys p x a b c ne) (below number y) refl place e lt is
    where
      by : ((p : ℕ) → p ≡ prefix_len (below number) ys → p < length ys → x ≡ get_or ys p x → without ys number ≡ ys) → (b : Bool) → below number y ≡ b → (place : ℕ) → place ≡ prefix_len (below number) (y ∷ ys) → place < length (y ∷ ys) → x ≡ get_or (y ∷ ys) place x → without (y ∷ ys) number ≡ y ∷ ys
      by more true t zero e lt is = let h = lower_copy y ys t in absurd (omega (arith, e, h))
      by more true t (suc p) e lt is =
          let h = lower_copy y ys t in
          without-lower y ys t ∙ ap (λ zs. y ∷ zs) (more p (omega (arith, e, h)) (omega (arith, lt)) is)
      by more false t zero e lt is = without-higher y ys t (λ same. ne (ap (λ z. z.number) is ∙ same))
      by more false t (suc p) e lt is = let h = other_copy y ys t in absurd (omega (arith, e, h))

  -- no copy goes where all are lower
  pub none_removed : (xs : List OpenCopy) → length xs ≤ prefix_len (below number) xs → without xs number ≡ xs
  none_removed [] le = refl
  none_removed (y ∷ ys) le = by (none_removed ys) (below number y) refl
    where
      by : (length ys ≤ prefix_len (below number) ys → without ys number ≡ ys) → (b : Bool) → below number y ≡ b → without (y ∷ ys) number ≡ y ∷ ys
      by more true t = let h = lower_copy y ys t in without-lower y ys t ∙ ap (λ zs. y ∷ zs) (more (omega (arith, le, h)))
      by more false t = let h = other_copy y ys t in absurd (omega (arith, le, h))

-- a copy comes before the first that is not lower
pub inserted : (xs : List OpenCopy) (x : OpenCopy) (place : ℕ) → place ≡ prefix_len (below x.number) xs → insert xs place x ≡ with_copy xs x
inserted [] x place e = let h : place ≡ 0 = e in rw h refl
inserted (y ∷ ys) x place e = by (λ p. inserted ys x p) (below x.number y) refl place e
  where
    by : ((p : ℕ) → p ≡ prefix_len (below x.number) ys → insert ys p x ≡ with_copy ys x) → (b : Bool) → below x.number y ≡ b → (place : ℕ) → place ≡ prefix_len (below x.number) (y ∷ ys) → insert (y ∷ ys) place x ≡ with_copy (y ∷ ys) x
    by more true t zero e = let h = lower_copy x.number y ys t in absurd (omega (arith, e, h))
    by more true t (suc p) e =
        let h = lower_copy x.number y ys t in
        let rest = more p (omega (arith, e, h)) in
        rw t (ap (λ zs. y ∷ zs) rest)
    by more false t zero e = rw t refl
    by more false t (suc p) e = let h = other_copy x.number y ys t in absurd (omega (arith, e, h))

-- copies of lower numbers stay before it
without-past : (count n to k : ℕ) (xs : List OpenCopy) → n < k → without (replicate count (copy_of n to) ++ xs) k ≡ replicate count (copy_of n to) ++ without xs k
without-past zero n to k xs lt = refl
without-past (suc count) n to k xs lt = without-lower k (copy_of n to) (replicate count (copy_of n to) ++ xs) (lt-ltb n k lt) ∙ ap (λ zs. copy_of n to ∷ zs) (without-past count n to k xs lt)

with_copy-past : (count n to : ℕ) (xs : List OpenCopy) (x : OpenCopy) → n < x.number → with_copy (replicate count (copy_of n to) ++ xs) x ≡ replicate count (copy_of n to) ++ with_copy xs x
with_copy-past zero n to xs x lt = refl
with_copy-past (suc count) n to xs x lt = rw (lt-ltb n x.number lt) (ap (λ zs. copy_of n to ∷ zs) (with_copy-past count n to xs x lt))

module _ {M : Type 0} (receiver : M → ℕ) (test : ℕ → Bool) where
  -- no copy is of a lower mail than the first
  pub without-fresh : (n k : ℕ) (ms : List M) (cs : List ℕ) → k < n → without (opens receiver test n ms cs) k ≡ opens receiver test n ms cs
  without-fresh n k [] cs lt = refl
  without-fresh n k (m ∷ ms) [] lt = refl
  without-fresh n k (m ∷ ms) (c ∷ cs) lt = by (λ lt. without-fresh (suc n) k ms cs lt) (test (receiver m)) c
    where
      by : (k < suc n → without (opens receiver test (suc n) ms cs) k ≡ opens receiver test (suc n) ms cs) → (b : Bool) (c : ℕ) → without (cond b (replicate c (copy_of n (receiver m))) [] ++ opens receiver test (suc n) ms cs) k ≡ cond b (replicate c (copy_of n (receiver m))) [] ++ opens receiver test (suc n) ms cs
      by more true zero = more (omega (arith, lt))
      by more true (suc c) = without-higher k (copy_of n (receiver m)) (replicate c (copy_of n (receiver m)) ++ opens receiver test (suc n) ms cs) (le-ltb n k (omega (arith, lt))) (λ e. absurd (omega (arith, lt, e)))
      by more false c = more (omega (arith, lt))

  pub with_copy-fresh : (n : ℕ) (ms : List M) (cs : List ℕ) (x : OpenCopy) → x.number < n → with_copy (opens receiver test n ms cs) x ≡ x ∷ opens receiver test n ms cs
  with_copy-fresh n [] cs x lt = refl
  with_copy-fresh n (m ∷ ms) [] x lt = refl
  with_copy-fresh n (m ∷ ms) (c ∷ cs) x lt = by (λ lt. with_copy-fresh (suc n) ms cs x lt) (test (receiver m)) c
    where
      by : (x.number < suc n → with_copy (opens receiver test (suc n) ms cs) x ≡ x ∷ opens receiver test (suc n) ms cs) → (b : Bool) (c : ℕ) → with_copy (cond b (replicate c (copy_of n (receiver m))) [] ++ opens receiver test (suc n) ms cs) x ≡ x ∷ cond b (replicate c (copy_of n (receiver m))) [] ++ opens receiver test (suc n) ms cs
      by more true zero = more (omega (arith, lt))
      by more true (suc c) = rw (le-ltb n x.number (omega (arith, lt))) refl
      by more false c = more (omega (arith, lt))

  -- one copy less
  pub opens-less : (n place : ℕ) (ms : List M) (cs : List ℕ) → opens receiver test n ms (set cs place (get_or cs place 0 - 1)) ≡ without (opens receiver test n ms cs) (n + place)
  opens-less n place [] cs = refl
  opens-less n place (m ∷ ms) [] = refl
  opens-less n zero (m ∷ ms) (c ∷ cs) = by (test (receiver m)) c
    where
      here : without (opens receiver test (suc n) ms cs) (n + 0) ≡ opens receiver test (suc n) ms cs
      here = without-fresh (suc n) (n + 0) ms cs (omega arith)

      by : (b : Bool) (c : ℕ) → cond b (replicate (c - 1) (copy_of n (receiver m))) [] ++ opens receiver test (suc n) ms cs ≡ without (cond b (replicate c (copy_of n (receiver m))) [] ++ opens receiver test (suc n) ms cs) (n + 0)
      by true zero = sym here
      by true (suc c) =
          let less : suc c - 1 ≡ c = omega arith in
          rw less (sym (without-same (n + 0) (copy_of n (receiver m)) (replicate c (copy_of n (receiver m)) ++ opens receiver test (suc n) ms cs) (le-ltb n (n + 0) (omega arith)) (omega arith)))
      by false c = sym here
  opens-less n (suc place) (m ∷ ms) (c ∷ cs) =
      by
      (let same : suc n + place ≡ n + suc place = omega arith in opens-less (suc n) place ms cs ∙ ap (without (opens receiver test (suc n) ms cs)) same)
      (test (receiver m))
    where
      by : opens receiver test (suc n) ms (set cs place (get_or cs place 0 - 1)) ≡ without (opens receiver test (suc n) ms cs) (n + suc place) →
          (b : Bool) → cond b (replicate c (copy_of n (receiver m))) [] ++ opens receiver test (suc n) ms (set cs place (get_or cs place 0 - 1)) ≡ without (cond b (replicate c (copy_of n (receiver m))) [] ++ opens receiver test (suc n) ms cs) (n + suc place)
      by later true = ap (λ zs. replicate c (copy_of n (receiver m)) ++ zs) later ∙ sym (without-past c n (receiver m) (n + suc place) (opens receiver test (suc n) ms cs) (omega arith))
      by later false = later

  -- one copy more of a mail that was sent
  pub opens-more : (n place : ℕ) (ms : List M) (cs : List ℕ) (mail : M) → place < length cs → slice_get ms place ≡ Some mail →
      opens receiver test n ms (set cs place (get_or cs place 0 + 1)) ≡ cond (test (receiver mail)) (with_copy (opens receiver test n ms cs) (copy_of (n + place) (receiver mail))) (opens receiver test n ms cs)
  opens-more n place [] cs mail lt is = cc
  opens-more n place (m ∷ ms) [] mail lt is = absurd (omega arith)
  opens-more n zero (m ∷ ms) (c ∷ cs) mail lt is = let same : m ≡ mail = cc in let plus : n + 0 ≡ n = omega arith in rw (sym same, plus) (by (test (receiver m)) c)
    where
      by : (b : Bool) (c : ℕ) → cond b (replicate (c + 1) (copy_of n (receiver m))) [] ++ opens receiver test (suc n) ms cs
          ≡ cond b (with_copy (cond b (replicate c (copy_of n (receiver m))) [] ++ opens receiver test (suc n) ms cs) (copy_of n (receiver m))) (cond b (replicate c (copy_of n (receiver m))) [] ++ opens receiver test (suc n) ms cs)
      by true zero = sym (with_copy-fresh (suc n) ms cs (copy_of n (receiver m)) (omega arith))
      by true (suc c) = let one : suc c + 1 ≡ suc (suc c) = omega arith in rw (one, le-ltb n n (omega arith)) refl
      by false c = refl
  opens-more n (suc place) (m ∷ ms) (c ∷ cs) mail lt is =
      by
      (let same : suc n + place ≡ n + suc place = omega arith in
      opens-more (suc n) place ms cs mail (omega (arith, lt)) is
      ∙ ap (λ k. cond (test (receiver mail)) (with_copy (opens receiver test (suc n) ms cs) (copy_of k (receiver mail))) (opens receiver test (suc n) ms cs)) same)
      (test (receiver m)) (test (receiver mail)) refl
    where
      by : opens receiver test (suc n) ms (set cs place (get_or cs place 0 + 1)) ≡ cond (test (receiver mail)) (with_copy (opens receiver test (suc n) ms cs) (copy_of (n + suc place) (receiver mail))) (opens receiver test (suc n) ms cs) →
          (b d : Bool) → test (receiver mail) ≡ d → cond b (replicate c (copy_of n (receiver m))) [] ++ opens receiver test (suc n) ms (set cs place (get_or cs place 0 + 1))
          ≡ cond (test (receiver mail)) (with_copy (cond b (replicate c (copy_of n (receiver m))) [] ++ opens receiver test (suc n) ms cs) (copy_of (n + suc place) (receiver mail))) (cond b (replicate c (copy_of n (receiver m))) [] ++ opens receiver test (suc n) ms cs)
      by later true true t =
          let rest : opens receiver test (suc n) ms (set cs place (get_or cs place 0 + 1)) ≡ with_copy (opens receiver test (suc n) ms cs) (copy_of (n + suc place) (receiver mail)) = rw t at later in
          rw t (ap (λ zs. replicate c (copy_of n (receiver m)) ++ zs) rest ∙ sym (with_copy-past c n (receiver m) (opens receiver test (suc n) ms cs) (copy_of (n + suc place) (receiver mail)) (omega arith)))
      by later true false t =
          let rest : opens receiver test (suc n) ms (set cs place (get_or cs place 0 + 1)) ≡ opens receiver test (suc n) ms cs = rw t at later in
          rw t (ap (λ zs. replicate c (copy_of n (receiver m)) ++ zs) rest)
      by later false d t = later

  -- the copies of more mail come last
  pub opens-append : (n : ℕ) (ms more : List M) (cs many : List ℕ) → length cs ≡ length ms → opens receiver test n (ms ++ more) (cs ++ many) ≡ opens receiver test n ms cs ++ opens receiver test (n + length ms) more many
  opens-append n [] more [] many e = let plus : n + 0 ≡ n = omega arith in rw plus refl
  opens-append n [] more (c ∷ cs) many e = absurd (omega arith)
  opens-append n (m ∷ ms) more [] many e = absurd (omega arith)
  opens-append n (m ∷ ms) more (c ∷ cs) many e =
      let here = cond (test (receiver m)) (replicate c (copy_of n (receiver m))) [] in
      let plus : suc n + length ms ≡ n + suc (length ms) = omega arith in
      ap (λ zs. here ++ zs) (opens-append (suc n) ms more cs many (omega (arith, e)) ∙ ap (λ k. opens receiver test (suc n) ms cs ++ opens receiver test k more many) plus)
      ∙ sym (append_assoc here (opens receiver test (suc n) ms cs) (opens receiver test (n + suc (length ms)) more many))

  -- tests that agree leave the same copies
  pub opens-agree : (other : ℕ → Bool) → ((who : ℕ) → other who ≡ test who) → (n : ℕ) (ms : List M) (cs : List ℕ) → opens receiver other n ms cs ≡ opens receiver test n ms cs
  opens-agree other agree n [] cs = refl
  opens-agree other agree n (m ∷ ms) [] = refl
  opens-agree other agree n (m ∷ ms) (c ∷ cs) = rw (agree (receiver m), opens-agree other agree (suc n) ms cs) refl

  -- after a crash there are none for its actor
  pub opens-crash : (other : ℕ → Bool) (started : ℕ) → ((who : ℕ) → other who ≡ (test who && not (eqb who started))) → (n : ℕ) (ms : List M) (cs : List ℕ) → opens receiver other n ms cs ≡ without_to (opens receiver test n ms cs) started
  opens-crash other started agree n [] cs = refl
  opens-crash other started agree n (m ∷ ms) [] = refl
  opens-crash other started agree n (m ∷ ms) (c ∷ cs) =
      rw (agree (receiver m), opens-crash other started agree (suc n) ms cs)
      (sym (filter-append (λ copy. not (eqb copy.to started)) (cond (test (receiver m)) (replicate c (copy_of n (receiver m))) []) (opens receiver test (suc n) ms cs)
      ∙ ap (λ zs. zs ++ without_to (opens receiver test (suc n) ms cs) started) (by (test (receiver m)) (eqb (receiver m) started) refl c)))
    where
      by : (b d : Bool) → eqb (receiver m) started ≡ d → (c : ℕ) → filter (λ copy. not (eqb copy.to started)) (cond b (replicate c (copy_of n (receiver m))) []) ≡ cond (b && not (eqb (receiver m) started)) (replicate c (copy_of n (receiver m))) []
      by false d t c = refl
      by true true t zero = rw t refl
      by true false t zero = rw t refl
      by true true t (suc c) = rw t (let rest = by true true t c in (rw t at rest))
      by true false t (suc c) = rw t (let rest = by true false t c in ap (λ zs. copy_of n (receiver m) ∷ zs) (rw t at rest))

  map-replicate : (c n to : ℕ) → map (λ copy. copy.number) (replicate c (copy_of n to)) ≡ replicate c n
  map-replicate zero n to = refl
  map-replicate (suc c) n to = ap (λ zs. n ∷ zs) (map-replicate c n to)

  -- the numbers of the copies are those of the mail whose receiver passes the test
  pub opens-numbers : (n : ℕ) (ms : List M) (cs : List ℕ) → map (λ copy. copy.number) (opens receiver test n ms cs) ≡ numbers (λ m. test (receiver m)) n ms cs
  opens-numbers n [] cs = refl
  opens-numbers n (m ∷ ms) [] = refl
  opens-numbers n (m ∷ ms) (c ∷ cs) =
      map-append (λ copy. copy.number) (cond (test (receiver m)) (replicate c (copy_of n (receiver m))) []) (opens receiver test (suc n) ms cs)
      ∙ (ap (λ zs. zs ++ map (λ copy. copy.number) (opens receiver test (suc n) ms cs)) (by (test (receiver m))) ∙ ap (λ zs. cond (test (receiver m)) (replicate c n) [] ++ zs) (opens-numbers (suc n) ms cs))
    where
      by : (b : Bool) → map (λ copy. copy.number) (cond b (replicate c (copy_of n (receiver m))) []) ≡ cond b (replicate c n) []
      by true = map-replicate c n (receiver m)
      by false = refl

  -- those for one receiver are the numbers of its mail
  pub opens-for : (who n : ℕ) (ms : List M) (cs : List ℕ) → map (λ copy. copy.number) (filter (λ copy. eqb copy.to who) (opens receiver test n ms cs)) ≡ numbers (λ m. eqb (receiver m) who && test who) n ms cs
  opens-for who n [] cs = refl
  opens-for who n (m ∷ ms) [] = refl
  opens-for who n (m ∷ ms) (c ∷ cs) =
      ap (map (λ copy. copy.number)) (filter-append (λ copy. eqb copy.to who) (cond (test (receiver m)) (replicate c (copy_of n (receiver m))) []) (opens receiver test (suc n) ms cs))
      ∙ (map-append (λ copy. copy.number) (filter (λ copy. eqb copy.to who) (cond (test (receiver m)) (replicate c (copy_of n (receiver m))) [])) (filter (λ copy. eqb copy.to who) (opens receiver test (suc n) ms cs))
      ∙ (ap (λ zs. zs ++ map (λ copy. copy.number) (filter (λ copy. eqb copy.to who) (opens receiver test (suc n) ms cs))) (by (eqb (receiver m) who) refl)
      ∙ ap (λ zs. cond (eqb (receiver m) who && test who) (replicate c n) [] ++ zs) (opens-for who (suc n) ms cs)))
    where
      kept : (c : ℕ) → eqb (receiver m) who ≡ true → filter (λ copy. eqb copy.to who) (replicate c (copy_of n (receiver m))) ≡ replicate c (copy_of n (receiver m))
      kept zero t = refl
      kept (suc c) t = rw t (ap (λ zs. copy_of n (receiver m) ∷ zs) (kept c t))

      started : (c : ℕ) → eqb (receiver m) who ≡ false → filter (λ copy. eqb copy.to who) (replicate c (copy_of n (receiver m))) ≡ []
      started zero t = refl
      started (suc c) t = rw t (started c t)

      own : (d : Bool) → eqb (receiver m) who ≡ true → map (λ copy. copy.number) (filter (λ copy. eqb copy.to who) (cond d (replicate c (copy_of n (receiver m))) [])) ≡ cond d (replicate c n) []
      own true t = ap (map (λ copy. copy.number)) (kept c t) ∙ map-replicate c n (receiver m)
      own false t = refl

      others : (d : Bool) → eqb (receiver m) who ≡ false → map (λ copy. copy.number) (filter (λ copy. eqb copy.to who) (cond d (replicate c (copy_of n (receiver m))) [])) ≡ []
      others true t = ap (map (λ copy. copy.number)) (started c t)
      others false t = refl

      by : (b : Bool) → eqb (receiver m) who ≡ b → map (λ copy. copy.number) (filter (λ copy. eqb copy.to who) (cond (test (receiver m)) (replicate c (copy_of n (receiver m))) [])) ≡ cond (eqb (receiver m) who && test who) (replicate c n) []
      by true t = rw t (own (test (receiver m)) t ∙ ap (λ w. cond (test w) (replicate c n) []) (eqb-true (receiver m) who t))
      by false t = rw t (others (test (receiver m)) t)

-- the number of the k-th copy is the k-th number
pub kth-copy : (xs : List OpenCopy) (k : ℕ) (d : OpenCopy) → 0 < k → k ≤ length xs → Some (get_or xs (k - 1) d).number ≡ kth (map (λ copy. copy.number) xs) k
kth-copy xs zero d first enough = absurd (omega arith)
kth-copy xs (suc j) d first enough = let less : suc j - 1 ≡ j = omega arith in rw less (at xs j (omega (arith, enough)))
  where
    at : (xs : List OpenCopy) (j : ℕ) → j < length xs → Some (get_or xs j d).number ≡ slice_get (map (λ copy. copy.number) xs) j
    at [] j lt = absurd (omega arith)
    at (y ∷ ys) zero lt = refl
    at (y ∷ ys) (suc j) lt = at ys j (omega (arith, lt))

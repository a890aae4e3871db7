-- Phases: what workers did to the shells that they took, all together.
use Rattle.std.proofs.Common.{◌≡◌, ℕ, zero, suc, ◌+◌, ◌*◌, ◌<◌, ◌≤◌, ⊎_elim, inl, inr, List, [], ◌∷◌, ◌++◌, length, take, get_or, refl, sym, ap, ◌∙◌, subst, arith}
use Rattle.std.proofs.lemmas.Bool.Decides.{leb_tells}
use Rattle.std.proofs.lemmas.List.{length-map, map-append}
use Rattle.std.proofs.lemmas.List.Sums.{sum_by-cons, sum_by-append}
use Rattle.sc_actor.specs.declared.actors.Actor.{Ghosts}
use Rattle.sc_actor.specs.declared.actors.Parcel.{Ghosts as MailGhosts}
use Rattle.sc_thread_ports.specs.exchange.Ports.{made}
use Rattle.sc_thread_work.specs.declared.shell.shells.Shell.{Shell}
use Rattle.sc_thread_work.specs.declared.shell.turns.Turn.{Turn}
use Rattle.sc_thread_workers.specs.declared.phases.Served.{Served}
use Rattle.sc_thread_workers.specs.Crews.{Took, MadeRows, Worked, Sound, AllSound, HasRefusal, HasPlayed, rows_made}
use Rattle.sc_thread_workers.specs.Phases.{IsServed, AllServed, shells_of, rows_of_all}
use Rattle.sc_thread_workers.proofs.Crews.{refused_unsound}
use Rattle.sc_thread_workers.proofs.ShellTurns.{rows_sound, worked_rows}

suc_times : (n k : ℕ) → suc n * k ≡ k + n * k
suc_times n k = grind arith

module _ {A M O : Type 0} {g : Ghosts A M O} {h : MailGhosts M} where
  -- a shell that made `n` rows, and then took a turn without one
  pub served_part : (grant n : ℕ) (s u t : Shell A M O g h) → n < grant → MadeRows n s u → Took u t → made t.port ≡ made u.port → IsServed grant s (record { shell = t; did = n })
  served_part grant n s u t less rows took same = record { last = u; rows = rows; end = inr (less, (took, same)) }

  -- one that took all turns
  pub served_all : (grant : ℕ) (s t : Shell A M O g h) → MadeRows grant s t → IsServed grant s (record { shell = t; did = grant })
  served_all grant s t rows = record { last = t; rows = rows; end = inl (refl, refl) }

  module _ (grant : ℕ) (s : Shell A M O g h) (t : Served A M O g h) (served : IsServed grant s t) where
    served_most : t.did ≤ grant
    served_most = ⊎_elim (λ all. omega (arith, all.0)) (λ part. omega (arith, part.0)) served.end

    served_worked : Worked t.did s t.shell
    served_worked = record { last = served.last; rows = served.rows; end = ⊎_elim (λ all. inl all.1) (λ part. inr part.1) served.end }

    -- it took a turn, if it might
    served_first : t.did ≡ 0 → 0 < grant → Took s t.shell
    served_first none some = ⊎_elim (λ all. absurd (omega (arith, all.0, none, some))) (λ part. by t.did none served.rows part.1.0) served.end
      where
        by : (k : ℕ) → k ≡ 0 → MadeRows k s served.last → Took served.last t.shell → Took s t.shell
        by zero none is took = subst (λ (y : Shell A M O g h). Took y t.shell) is took
        by (suc k) none w took = absurd (omega (arith, none))

    -- where it took all turns, it is not refused if it was not
    served_calm : t.did ≡ grant → Sound s → Sound t.shell
    served_calm whole sound = ⊎_elim (λ all. subst Sound (sym all.1) (rows_sound t.did s served.last served.rows sound)) (λ part. absurd (omega (arith, part.0, whole))) served.end

  -- what stands in a place of the shells
  at_served : (ts : List (Served A M O g h)) (k : ℕ) (d : Shell A M O g h) → k < length ts → (e : Served A M O g h) × (get_or (shells_of ts) k d ≡ (get_or ts k e).shell)
  at_served [] k d lt = absurd (omega (arith, lt))
  at_served (t ∷ ts) zero d lt = (t, refl)
  at_served (t ∷ ts) (suc k) d lt = let rest = at_served ts k d (omega (arith, lt)) in (rest.0, rest.1)

  -- they made no more rows than all grants
  pub most_served : (grant : ℕ) (ss : List (Shell A M O g h)) (ts : List (Served A M O g h)) → length ts ≡ length ss → AllServed grant ss ts → rows_of_all ts ≤ length ss * grant
  most_served grant [] [] l a = omega arith
  most_served grant [] (t ∷ ts) l a = absurd (omega (arith, l))
  most_served grant (s ∷ ss) [] l a = absurd (omega (arith, l))
  most_served grant (s ∷ ss) (t ∷ ts) l a =
      let first : t.did ≤ grant = served_most grant s t (a 0 s t (omega arith)) in
      let rest = most_served grant ss ts (omega (arith, l)) (λ k d e lt. a (suc k) d e (omega (arith, lt))) in
      omega (arith, first, rest, sum_by-cons (λ (x : Served A M O g h). x.did) t ts, suc_times (length ss) grant)

  -- and fewer where one did not take all turns
  less_served : (grant : ℕ) (ss : List (Shell A M O g h)) (ts : List (Served A M O g h)) (j : ℕ) (e : Served A M O g h) → length ts ≡ length ss → AllServed grant ss ts → j < length ss → (get_or ts j e).did < grant → rows_of_all ts < length ss * grant
  less_served grant [] ts j e l a lt less = absurd (omega (arith, lt))
  less_served grant (s ∷ ss) [] j e l a lt less = absurd (omega (arith, l))
  less_served grant (s ∷ ss) (t ∷ ts) zero e l a lt less =
      let here : t.did < grant = less in
      let rest = most_served grant ss ts (omega (arith, l)) (λ k d e lt. a (suc k) d e (omega (arith, lt))) in
      omega (arith, here, rest, sum_by-cons (λ (x : Served A M O g h). x.did) t ts, suc_times (length ss) grant)
  less_served grant (s ∷ ss) (t ∷ ts) (suc j) e l a lt less =
      let first : t.did ≤ grant = served_most grant s t (a 0 s t (omega arith)) in
      let rest = less_served grant ss ts j e (omega (arith, l)) (λ k d e lt. a (suc k) d e (omega (arith, lt))) (omega (arith, lt)) less in
      omega (arith, first, rest, sum_by-cons (λ (x : Served A M O g h). x.did) t ts, suc_times (length ss) grant)

  -- the rows that were made
  rows_served : (grant : ℕ) (ss : List (Shell A M O g h)) (ts : List (Served A M O g h)) → length ts ≡ length ss → AllServed grant ss ts → rows_made (shells_of ts) ≡ rows_made ss + rows_of_all ts
  rows_served grant [] [] l a = refl
  rows_served grant [] (t ∷ ts) l a = absurd (omega (arith, l))
  rows_served grant (s ∷ ss) [] l a = absurd (omega (arith, l))
  rows_served grant (s ∷ ss) (t ∷ ts) l a =
      let first : length (made t.shell.port) ≡ length (made s.port) + t.did = worked_rows t.did s t.shell (served_worked grant s t (a 0 s t (omega arith))) in
      let rest = rows_served grant ss ts (omega (arith, l)) (λ k d e lt. a (suc k) d e (omega (arith, lt))) in
      let count : Shell A M O g h → ℕ = λ s. length (made s.port) in
      omega (arith, first, rest, sum_by-cons (λ (x : Served A M O g h). x.did) t ts, sum_by-cons count s ss, sum_by-cons count t.shell (shells_of ts))

  -- where none was made, no shell made one
  none_made : (ts : List (Served A M O g h)) (k : ℕ) (e : Served A M O g h) → rows_of_all ts ≡ 0 → k < length ts → (get_or ts k e).did ≡ 0
  none_made [] k e none lt = absurd (omega (arith, lt))
  none_made (t ∷ ts) zero e none lt = omega (arith, none, sum_by-cons (λ (x : Served A M O g h). x.did) t ts)
  none_made (t ∷ ts) (suc k) e none lt = none_made ts k e (omega (arith, none, sum_by-cons (λ (x : Served A M O g h). x.did) t ts)) (omega (arith, lt))

  -- a phase
  pub phase_played : (left grant did : ℕ) (ss us : List (Shell A M O g h)) (ts : List (Served A M O g h)) → us ≡ shells_of ts → did ≡ rows_of_all ts → length ts ≡ length ss → AllServed grant ss ts → length ss * grant ≤ left → 0 < grant → AllSound ss → HasPlayed left ss us did
  phase_played left grant did ss us ts is sum l a fits some sound = subst (λ vs. HasPlayed left ss vs did) (sym is) (record {
    len = length-map ts (λ (x : Served A M O g h). x.shell) ∙ l;
    worked = λ k d lt.
        (let t = at_served ts k d (omega (arith, lt, l)) in
        let e = t.0 in
        ((get_or ts k e).did, subst (Worked (get_or ts k e).did (get_or ss k d)) (sym t.1) (served_worked grant (get_or ss k d) (get_or ts k e) (a k d e lt))));
    most = omega (arith, sum, fits, most_served grant ss ts l a);
    did = rows_served grant ss ts l a ∙ ap (λ n. rows_made ss + n) (sym sum);
    whole = λ none left calm k d lt.
        (let t = at_served ts k d (omega (arith, lt, l)) in
        subst (Took (get_or ss k d)) (sym t.1) (served_first grant (get_or ss k d) (get_or ts k t.0) (a k d t.0 lt) (none_made ts k t.0 (sym sum ∙ none) (omega (arith, lt, l))) some));
    short = λ r refused. short ss refl r refused;
  })
    where
      short : (vs : List (Shell A M O g h)) → vs ≡ ss → (r : Turn) → HasRefusal (shells_of ts) r → did < left
      short [] e r refused = absurd (omega (arith, refused.inside, length-map ts (λ (x : Served A M O g h). x.shell), l, ap length e))
      short (d ∷ vs) e r refused =
          let j = refused.place in
          let inside : j < length ss = omega (arith, refused.inside, length-map ts (λ (x : Served A M O g h). x.shell), l) in
          let t = at_served ts j d (omega (arith, inside, l)) in
          let one = a j d t.0 inside in
          let halted : ¬ Sound (get_or ts j t.0).shell = subst (λ (y : Shell A M O g h). ¬ Sound y) t.1 (refused_unsound (get_or (shells_of ts) j d) r (refused.reported d)) in
          ⊎_elim (λ less. omega (arith, sum, fits, less_served grant ss ts j t.0 l a inside less.1))
          (λ all. absurd (halted (served_calm grant (get_or ss j d) (get_or ts j t.0) one (omega (arith, all.1, served_most grant (get_or ss j d) (get_or ts j t.0) one)) (sound j d inside))))
          (leb_tells (suc (get_or ts j t.0).did) grant)

  -- what was counted so far fits
  rows_part : (all : List (Served A M O g h)) (n : ℕ) (x : Served A M O g h) → n < length all → x ≡ get_or all n x → rows_of_all (take n all) + x.did ≤ rows_of_all all
  rows_part [] n x lt is = absurd (omega (arith, lt))
  rows_part (y ∷ all) zero x lt is = let same : x.did ≡ y.did = ap (λ (z : Served A M O g h). z.did) is in omega (arith, same, sum_by-cons (λ (z : Served A M O g h). z.did) y all)
  rows_part (y ∷ all) (suc n) x lt is =
      omega (arith, rows_part all n x (omega (arith, lt)) is, sum_by-cons (λ (z : Served A M O g h). z.did) y all, sum_by-cons (λ (z : Served A M O g h). z.did) y (take n all))

  pub rows_fit : (all so_far : List (Served A M O g h)) (x : Served A M O g h) (did most : ℕ) → did ≡ rows_of_all so_far → so_far ≡ take (length so_far) all → length so_far < length all → x ≡ get_or all (length so_far) x → rows_of_all all < most → did + x.did < most
  rows_fit all so_far x did most is prefix lt at fits =
      let part = rows_part all (length so_far) x lt at in
      let same : rows_of_all so_far ≡ rows_of_all (take (length so_far) all) = ap rows_of_all prefix in
      omega (arith, is, part, same, fits)

  -- one more
  pub rows_more : (xs : List (Served A M O g h)) (x : Served A M O g h) → rows_of_all (xs ++ x ∷ []) ≡ rows_of_all xs + x.did
  rows_more xs x = sum_by-append (λ (z : Served A M O g h). z.did) xs (x ∷ []) ∙ ap (λ n. rows_of_all xs + n) (one x)
    where
      one : (x : Served A M O g h) → rows_of_all (x ∷ []) ≡ x.did
      one x = omega (arith, sum_by-cons (λ (z : Served A M O g h). z.did) x [])

  pub shells_more : (xs : List (Served A M O g h)) (x : Served A M O g h) → shells_of (xs ++ x ∷ []) ≡ shells_of xs ++ x.shell ∷ []
  shells_more xs x = map-append (λ (z : Served A M O g h). z.shell) xs (x ∷ [])

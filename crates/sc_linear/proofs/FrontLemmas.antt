-- One line further.
use Rattle.std.proofs.Common.{◌≡◌, ℕ, zero, suc, ◌+◌, ◌<◌, ◌≤◌, Bool, true, false, cond, ltb, eqb, not, ◌&&◌, List, [], ◌∷◌, ◌++◌, length, get_or, drop, Option, Some, None, refl, sym, ap, ◌∙◌, subst, ◌⊎◌, inl, inr, arith, lt-ltb, le-ltb, ltb-true, eq-eqb, eqb-true, true≢false, take_all}
use Rattle.std.proofs.lemmas.List.{at_drop_more}
use Rattle.sc_base.specs.Definitions.{Among, Each}
use Rattle.sc_base.specs.declared.ops.Op.{Op}
use Rattle.sc_history.specs.declared.events.End.TheVariants.{Absent, Value, Done, No, Fail, Lost}
use Rattle.sc_linear.proofs.Readers.{first_of_both}
use Rattle.sc_linear_law.specs.declared.requests.Request.{Request}
use Rattle.sc_linear_law.specs.LinearDefinitions.{Ending, Move, EachPair, Place, answer_line, is_before, fits, without, joined, CanPass}
use Rattle.sc_linear_law.proofs.Game.{choose, differ, same_or_not, pointwise, IsFresh, Below, skip}
use Rattle.sc_linear_law.proofs.ListFacts.{each_at, among_either, each_from, each_more, each_append, each_get, among_left, among_right, among_unmap}
use Rattle.sc_linear.specs.Search.{taken_without}
use Rattle.sc_linear.specs.Standing.{begun_at, answered_at, request_at, has, may_take, next_at, IsUnder, IsInTime, Stands, Leads, AllLead, Extends, is_seen, start_entry}
use Rattle.sc_linear.specs.Steps.{has_failed, is_failure, AreClosed, ComeFrom, AreKept, without_request}
use Rattle.sc_linear.specs.Moves.{IsMoves, IsMoveOf, pending, line_after, CanPassAll}
use Rattle.sc_linear.specs.Front.{reached, move_at, no_move, IsFront, PassesFrom}
use Rattle.sc_linear.specs.Trails.{path_at}
use Rattle.sc_linear.proofs.LineLemmas.{reached_more, reached_low, this_move, past, quiet, only}
use Rattle.sc_linear.proofs.StandingLemmas.{wait, answer}
use Rattle.sc_linear.proofs.SeenLemmas.{seen_entry}
use Rattle.sc_linear.proofs.TakenLemmas.{has_among, among_has, not_has, without_there, without_from}
use Rattle.sc_linear.proofs.Exploration.{same_bool, arrives, pending_after, pending_under}

pub each_drop : {X : Type 0} (P : X → Type 0) (i : ℕ) (xs : List X) → Each P xs → Each P (drop i xs)
each_drop P zero xs h = h
each_drop P (suc i) [] h = tt
each_drop P (suc i) (x ∷ xs) h = each_drop P i xs h.1

pub pairs_drop : {X : Type 0} (R : X → X → Type 0) (i : ℕ) (xs : List X) → EachPair R xs → EachPair R (drop i xs)
pairs_drop R zero xs h = h
pairs_drop R (suc i) [] h = tt
pairs_drop R (suc i) (x ∷ xs) h = pairs_drop R i xs h.1

-- a request that was answered did not fail
answered_well : (ending : Ending) (l : ℕ) → answer_line ending ≡ Some l → is_failure ending ≡ false
answered_well None l e = refl
answered_well (Some (k, Absent)) l e = refl
answered_well (Some (k, Value v)) l e = refl
answered_well (Some (k, Done)) l e = refl
answered_well (Some (k, No)) l e = refl
answered_well (Some (k, Fail)) l e = absurd (cc)
answered_well (Some (k, Lost)) l e = refl

-- a request that failed fits nowhere
fails_everywhere : (ending : Ending) (op : Op) (v : Option (List ℕ)) → is_failure ending ≡ true → fits ending op v ≡ true → ⊥
fails_everywhere None op v e f = true≢false (sym e)
fails_everywhere (Some (k, Absent)) op v e f = true≢false (sym e)
fails_everywhere (Some (k, Value w)) op v e f = true≢false (sym e)
fails_everywhere (Some (k, Done)) op v e f = true≢false (sym e)
fails_everywhere (Some (k, No)) op v e f = true≢false (sym e)
fails_everywhere (Some (k, Fail)) op v e f = true≢false (sym f)
fails_everywhere (Some (k, Lost)) op v e f = true≢false (sym e)

fresh_from : (rs : List Request) (xs : List Move) (low : ℕ) (b : ℕ → Bool) → Each (IsMoveOf rs) xs → EachPair (λ (m n : Move). m.0 < n.0) xs → Each (λ (m : Move). low ≤ m.0) xs → ((x : ℕ) → b x ≡ true → begun_at rs x < low) → IsFresh xs b
fresh_from rs [] low b timed up above known = tt
fresh_from rs ((l, true, c) ∷ xs) low b timed up above known = fresh_from rs xs low b timed.1 up.1 above.1 known
fresh_from rs ((l, false, d) ∷ xs) low b timed up above known = (
  elim (choose (b d)) [ inl t ↦ absurd (let k = known d t in let e = timed.0.1 in let a = above.0 in omega arith) | inr f ↦ f ],
  fresh_from rs xs (l + 1) (joined d b) timed.1 up.1 (each_more (λ (m : Move). l < m.0) (λ (m : Move). l + 1 ≤ m.0) xs (λ m k. omega arith) up.0)
      (λ x t. elim (same_or_not d x) [
        | inl same ↦ (let e : begun_at rs x ≡ l = ap (begun_at rs) same ∙ timed.0.1 in omega arith)
        | inr apart ↦ elim (choose (eqb x d)) [ inl y ↦ absurd (apart (eqb-true x d y)) | inr n ↦ (let k = known x (rw n at t) in let a = above.0 in omega arith) ]
      ]),
)

has_push : (under : List ℕ) (d y : ℕ) → has (under ++ d ∷ []) y ≡ cond (eqb y d) true (has under y)
has_push under d y = go (eqb y d) refl
  where
    go : (b : Bool) → eqb y d ≡ b → has (under ++ d ∷ []) y ≡ cond b true (has under y)
    go true e = among_has y (under ++ d ∷ []) (among_right y under (d ∷ []) (inl (sym (eqb-true y d e))))
    go false e = same_bool _ _ (λ k. elim (among_either y under (d ∷ []) (has_among y (under ++ d ∷ []) k)) [ inl a ↦ among_has y under a | inr b ↦ elim b [ inl q ↦ absurd (differ (eq-eqb y d (sym q)) e) | inr none ↦ absurd none ] ]) (λ k. among_has y (under ++ d ∷ []) (among_left y under (d ∷ []) (has_among y under k)))

pending_push : (under taken : List ℕ) (d : ℕ) → has taken d ≡ false → pending (under ++ d ∷ []) taken ≡ joined d (pending under taken)
pending_push under taken d new = pointwise (λ y. ap (λ b. b && not (has taken y)) (has_push under d y) ∙ go y (eqb y d) refl)
  where
    go : (y : ℕ) (b : Bool) → eqb y d ≡ b → cond b true (has under y) && not (has taken y) ≡ cond b true (pending under taken y)
    go y true e = ap not (ap (has taken) (eqb-true y d e) ∙ new)
    go y false e = refl

without_joined : (d : ℕ) (p : ℕ → Bool) → p d ≡ false → without d (joined d p) ≡ p
without_joined d p e = pointwise (λ y. go y (eqb y d) refl)
  where
    go : (y : ℕ) (b : Bool) → eqb y d ≡ b → cond b false (cond b true (p y)) ≡ p y
    go y true q = sym (ap p (eqb-true y d q) ∙ e)
    go y false q = refl

module _ (rs : List Request) (ms : List Move) (h : IsMoves rs ms) (at : ℕ) (low : at < length ms) where
  abbrev line : ℕ
  line = (move_at ms at).0

  -- what stood where the last line was left stands just before the next line
  pub lead_waits : (paths : List (List (ℕ × ℕ))) (seen : List (Place × ℕ)) → AllLead rs (reached ms at) paths seen → AllLead rs line paths seen
  lead_waits paths seen all = each_more (Leads rs (reached ms at) paths) (Leads rs line paths) seen (λ e l. record {
    within = l.within;
    stands = wait rs (reached ms at) line e.0 (path_at paths e.1) (reached_low rs ms h at low) (λ x inside. quiet rs ms h at x low inside) l.stands;
  }) all

  pub under_waits : (under : List ℕ) → Each (IsUnder rs (reached ms at)) under → Each (IsUnder rs line) under
  under_waits under all = each_more (IsUnder rs (reached ms at)) (IsUnder rs line) under (λ x u. record {
    within = u.within;
    began = (let b : begun_at rs x < reached ms at = u.began in let r = reached_low rs ms h at low in omega arith);
    open_yet = quiet rs ms h at x low u.within ∙ u.open_yet;
  }) all

  -- the rest of the lines begins with the one at the index
  rest_is : drop at ms ≡ move_at ms at ∷ drop (at + 1) ms
  rest_is = at_drop_more (λ k. k) ms at no_move low

  next_line : reached ms (at + 1) ≡ line + 1
  next_line = reached_more ms at low

  -- the requests under way have begun, and no later line begins one of them
  abbrev begun : ℕ → Bool
  begun x = ltb (begun_at rs x) (line + 1)

  fresh_rest : IsFresh (drop (at + 1) ms) begun
  fresh_rest = fresh_from rs (drop (at + 1) ms) (line + 1) begun
      (each_drop (IsMoveOf rs) (at + 1) ms h.timed)
      (pairs_drop (λ (a b : Move). a.0 < b.0) (at + 1) ms h.rising)
      (each_more (λ (m : Move). line < m.0) (λ (m : Move). line + 1 ≤ m.0) (drop (at + 1) ms) (λ m k. omega arith)
      (let up : EachPair (λ (a b : Move). a.0 < b.0) (move_at ms at ∷ drop (at + 1) ms) = subst (EachPair (λ (a b : Move). a.0 < b.0)) rest_is (pairs_drop (λ (a b : Move). a.0 < b.0) at ms h.rising) in up.0))
      (λ x t. ltb-true (begun_at rs x) (line + 1) t)

  under_begun : (under : List ℕ) → Each (IsUnder rs (reached ms at)) under → (taken : List ℕ) → Below (pending under taken) begun
  under_begun under all taken x t = let u : IsUnder rs line x = each_at (IsUnder rs line) under x (under_waits under all) (pending_under under taken x t).0 in let b : begun_at rs x < line = u.began in lt-ltb (begun_at rs x) (line + 1) (omega arith)

  -- a request under way behind the line at the index was so before it, or began there
  was_under : (x : ℕ) → IsUnder rs (line + 1) x → (begun_at rs x ≡ line → ⊥) → (answered_at rs x ≡ Some line → ⊥) → IsUnder rs (reached ms at) x
  was_under x u other none = record {
    within = u.within;
    began = (let b : begun_at rs x < line + 1 = u.began in let below : begun_at rs x < line = omega arith in past rs ms h at (begun_at rs x, false, x) low (h.begins x u.within) below);
    open_yet = sym (quiet rs ms h at x low u.within) ∙ sym (only rs ms h at x low u.within none) ∙ u.open_yet;
  }

  still_under : (x : ℕ) → IsUnder rs (reached ms at) x → (answered_at rs x ≡ Some line → ⊥) → IsUnder rs (line + 1) x
  still_under x u none = record {
    within = u.within;
    began = (let b : begun_at rs x < reached ms at = u.began in let r = reached_low rs ms h at low in omega arith);
    open_yet = only rs ms h at x low u.within none ∙ quiet rs ms h at x low u.within ∙ u.open_yet;
  }

  module _ (d : ℕ) (is : move_at ms at ≡ (line, false, d)) where
    pub begins_here : (d < length rs) × (begun_at rs d ≡ line)
    begins_here = subst (IsMoveOf rs) is (each_get (IsMoveOf rs) ms at no_move h.timed low)

    none_answered : (x : ℕ) → x < length rs → answered_at rs x ≡ Some line → ⊥
    none_answered x inside e = let m : (line, true, x) ≡ move_at ms at = this_move rs ms h at (line, true, x) low (h.ends x line inside e) refl in let f : true ≡ false = ap (λ (k : Move). k.1) (m ∙ is) in cc

    begins_one : (x : ℕ) → x < length rs → begun_at rs x ≡ line → x ≡ d
    begins_one x inside e = let m : (begun_at rs x, false, x) ≡ move_at ms at = this_move rs ms h at (begun_at rs x, false, x) low (h.begins x inside) e in ap (λ (k : Move). k.2) (m ∙ is)

    begin_leads : (paths : List (List (ℕ × ℕ))) (seen : List (Place × ℕ)) → AllLead rs (reached ms at) paths seen → AllLead rs (reached ms (at + 1)) paths seen
    begin_leads paths seen all = each_more (Leads rs line paths) (Leads rs (reached ms (at + 1)) paths) seen (λ e l. record {
      within = l.within;
      stands = subst (λ n. Stands rs n e.0 (path_at paths e.1)) (sym next_line) (wait rs line (line + 1) e.0 (path_at paths e.1) (omega arith) (λ x inside. only rs ms h at x low inside (none_answered x inside)) l.stands);
    }) (lead_waits paths seen all)

    begins_new : (paths : List (List (ℕ × ℕ))) (seen : List (Place × ℕ)) (e : Place × ℕ) → AllLead rs (reached ms at) paths seen → Among e seen → has e.0.taken d ≡ false
    begins_new paths seen e all here = not_has d e.0.taken (λ k.
        let l : Leads rs line paths e = each_at (Leads rs line paths) seen e (lead_waits paths seen all) here in
        let p = l.stands.taken_from d k in
        let r : (s : ℕ × ℕ) × Among s (path_at paths e.1) × (s.1 ≡ d) = among_unmap (λ (s : ℕ × ℕ). s.1) d (path_at paths e.1) p.0 in
        let t : IsInTime rs line r.0 = each_at (IsInTime rs line) (path_at paths e.1) r.0 l.stands.in_time r.1 in
        let b : begun_at rs d < r.0.0 = subst (λ z. begun_at rs z < r.0.0) r.2 t.began in
        let f : r.0.0 ≤ line = t.so_far in
        let g : begun_at rs d ≡ line = begins_here.1 in
        absurd (omega arith))

    not_yet_under : (under : List ℕ) → Each (IsUnder rs (reached ms at)) under → has under d ≡ false
    not_yet_under under all = not_has d under (λ k. let u : IsUnder rs line d = each_at (IsUnder rs line) under d (under_waits under all) k in let b : begun_at rs d < line = u.began in let g : begun_at rs d ≡ line = begins_here.1 in absurd (omega arith))

    pub begin_front : (under : List ℕ) (seen : List (Place × ℕ)) (paths : List (List (ℕ × ℕ))) → IsFront rs ms at under seen paths → has_failed (request_at rs d) ≡ false → IsFront rs ms (at + 1) (under ++ d ∷ []) seen paths
    begin_front under seen paths f well = record {
      lead = begin_leads paths seen f.lead;
      under_from = subst (λ n. Each (IsUnder rs n) (under ++ d ∷ [])) (sym next_line) (each_append (IsUnder rs (line + 1)) under (d ∷ [])
          (each_more (IsUnder rs (reached ms at)) (IsUnder rs (line + 1)) under (λ x u. still_under x u (none_answered x u.within)) f.under_from) (
            record {
              within = begins_here.0;
              began = (let g : begun_at rs d ≡ line = begins_here.1 in omega arith);
              open_yet = open_after (answered_at rs d) refl;
            },
            tt,
          ));
      under_all = λ x u ok.
          let v : IsUnder rs (line + 1) x = subst (λ n. IsUnder rs n x) next_line u in
          elim (same_or_not line (begun_at rs x)) [
            | inl here ↦ among_right x under (d ∷ []) (inl (sym (begins_one x v.within here)))
            | inr other ↦ among_left x under (d ∷ []) (f.under_all x (was_under x v other (none_answered x v.within)) ok)
          ];
      passing = λ all.
          let r : PassesFrom rs (drop at ms) under seen = f.passing all in
          let q : CanPass (may_take rs) (next_at rs) ((line, false, d) ∷ drop (at + 1) ms) (pending under r.0.0.taken) r.0.0.value = subst (λ k. CanPass (may_take rs) (next_at rs) k (pending under r.0.0.taken) r.0.0.value) (rest_is ∙ ap (λ m. m ∷ drop (at + 1) ms) is) r.2 in
          (r.0, r.1, subst (λ p. CanPass (may_take rs) (next_at rs) (drop (at + 1) ms) p r.0.0.value) (sym (pending_push under r.0.0.taken d (begins_new paths seen r.0 f.lead r.1))) q);
    }
      where
        open_after : (o : Option ℕ) → answered_at rs d ≡ o → is_before o (line + 1) ≡ false
        open_after None e = refl
        open_after (Some a) e = let s : begun_at rs d < a = h.spans d a begins_here.0 e in let g : begun_at rs d ≡ line = begins_here.1 in le-ltb a (line + 1) (omega arith)

    pub skip_front : (under : List ℕ) (seen : List (Place × ℕ)) (paths : List (List (ℕ × ℕ))) → IsFront rs ms at under seen paths → has_failed (request_at rs d) ≡ true → IsFront rs ms (at + 1) under seen paths
    skip_front under seen paths f bad = record {
      lead = begin_leads paths seen f.lead;
      under_from = subst (λ n. Each (IsUnder rs n) under) (sym next_line) (each_more (IsUnder rs (reached ms at)) (IsUnder rs (line + 1)) under (λ x u. still_under x u (none_answered x u.within)) f.under_from);
      under_all = λ x u ok.
          let v : IsUnder rs (line + 1) x = subst (λ n. IsUnder rs n x) next_line u in
          elim (same_or_not line (begun_at rs x)) [
            | inl here ↦ absurd (differ bad (subst (λ z. has_failed (request_at rs z) ≡ false) (begins_one x v.within here) ok))
            | inr other ↦ f.under_all x (was_under x v other (none_answered x v.within)) ok
          ];
      passing = λ all.
          let r : PassesFrom rs (drop at ms) under seen = f.passing all in
          let p : ℕ → Bool = pending under r.0.0.taken in
          let q : CanPass (may_take rs) (next_at rs) ((line, false, d) ∷ drop (at + 1) ms) p r.0.0.value = subst (λ k. CanPass (may_take rs) (next_at rs) k p r.0.0.value) (rest_is ∙ ap (λ m. m ∷ drop (at + 1) ms) is) r.2 in
          let idle : p d ≡ false = idle_is (pending_under under r.0.0.taken d) (not_yet_under under f.under_from) (choose (pending under r.0.0.taken d)) in
          let k : CanPass (may_take rs) (next_at rs) (drop (at + 1) ms) (without d (joined d p)) r.0.0.value = skip (may_take rs) (next_at rs) d (λ v may. absurd (fails_everywhere (request_at rs d).ending (request_at rs d).op v bad (first_of_both _ _ may))) (drop (at + 1) ms) begun (joined d p) r.0.0.value fresh_rest (joined_begun under f.under_from r.0.0.taken) q in
          (r.0, r.1, subst (λ z. CanPass (may_take rs) (next_at rs) (drop (at + 1) ms) z r.0.0.value) (without_joined d p idle) k);
    }
      where
        idle_is : {b : Bool} {P : Type 0} → (b ≡ true → Among d under × P) → has under d ≡ false → (b ≡ true) ⊎ (b ≡ false) → b ≡ false
        idle_is from none (inl t) = absurd (differ (among_has d under (from t).0) none)
        idle_is from none (inr e) = e

        joined_begun : (u : List ℕ) → Each (IsUnder rs (reached ms at)) u → (taken : List ℕ) → Below (joined d (pending u taken)) begun
        joined_begun u all taken x t = elim (choose (eqb x d)) [
          | inl y ↦ (let g : begun_at rs x ≡ line = ap (begun_at rs) (eqb-true x d y) ∙ begins_here.1 in lt-ltb (begun_at rs x) (line + 1) (omega arith))
          | inr n ↦ under_begun u all taken x (rw n at t)
        ]

  module _ (who : ℕ) (is : move_at ms at ≡ (line, true, who)) where
    pub ends_here : (who < length rs) × (answered_at rs who ≡ Some line)
    ends_here = subst (IsMoveOf rs) is (each_get (IsMoveOf rs) ms at no_move h.timed low)

    answers_one : (x : ℕ) → x < length rs → answered_at rs x ≡ Some line → x ≡ who
    answers_one x inside e = let m : (line, true, x) ≡ move_at ms at = this_move rs ms h at (line, true, x) low (h.ends x line inside e) refl in ap (λ (k : Move). k.2) (m ∙ is)

    none_begins : (x : ℕ) → x < length rs → begun_at rs x ≡ line → ⊥
    none_begins x inside e = let m : (begun_at rs x, false, x) ≡ move_at ms at = this_move rs ms h at (begun_at rs x, false, x) low (h.begins x inside) e in let f : false ≡ true = ap (λ (k : Move). k.1) (m ∙ is) in cc

    pub present : (under : List ℕ) (seen : List (Place × ℕ)) (paths : List (List (ℕ × ℕ))) → IsFront rs ms at under seen paths → Among who under
    present under seen paths f = f.under_all who (record {
      within = ends_here.0;
      began = past rs ms h at (begun_at rs who, false, who) low (h.begins who ends_here.0) (h.spans who line ends_here.0 ends_here.1);
      open_yet = subst (λ o. is_before o (reached ms at) ≡ false) (sym ends_here.1) (le-ltb line (reached ms at) (reached_low rs ms h at low));
    }) (answered_well (request_at rs who).ending line ends_here.1)

    pub end_front : (under : List ℕ) (old seen kept : List (Place × ℕ)) (first paths : List (List (ℕ × ℕ))) → IsFront rs ms at under old first → AllLead rs line paths seen → Extends old seen → AreClosed rs under who seen (length seen) → ComeFrom who seen kept → AreKept who seen kept → IsFront rs ms (at + 1) (taken_without who under) kept paths
    end_front under old seen kept first paths f lead more closed from all = record {
      lead = subst (λ n. AllLead rs n paths kept) (sym next_line) (each_more _ (Leads rs (line + 1) paths) kept (λ k c.
          let l : Leads rs line paths c.0 = each_at (Leads rs line paths) seen c.0 lead c.1 in
          let r : Leads rs (line + 1) paths (without_request who c.0.0, c.0.1) = record {
            within = l.within;
            stands = answer rs line (line + 1) who c.0.0 (path_at paths c.0.1) (omega arith) gone_by (λ x inside apart. only rs ms h at x low inside (λ e. apart (answers_one x inside e))) (has_among who c.0.0.taken c.2) l.stands;
          } in
          subst (Leads rs (line + 1) paths) (sym c.3) r) from);
      under_from = subst (λ n. Each (IsUnder rs n) (taken_without who under)) (sym next_line) (each_from (IsUnder rs (line + 1)) (taken_without who under) (λ x k.
          let w = without_from who x under k in
          let u : IsUnder rs (reached ms at) x = each_at (IsUnder rs (reached ms at)) under x f.under_from w.0 in
          still_under x u (λ e. w.1 (answers_one x u.within e))));
      under_all = λ x u ok.
          let v : IsUnder rs (line + 1) x = subst (λ n. IsUnder rs n x) next_line u in
          let apart : x ≡ who → ⊥ = λ e. differ (subst (λ z. is_before (answered_at rs z) (line + 1) ≡ true) (sym e) gone_by) v.open_yet in
          without_there who x under (f.under_all x (was_under x v (none_begins x v.within) (λ e. apart (answers_one x v.within e))) ok) apart;
      passing = λ every.
          let r : PassesFrom rs (drop at ms) under old = f.passing every in
          let q : CanPass (may_take rs) (next_at rs) ((line, true, who) ∷ drop (at + 1) ms) (pending under r.0.0.taken) r.0.0.value = subst (λ k. CanPass (may_take rs) (next_at rs) k (pending under r.0.0.taken) r.0.0.value) (rest_is ∙ ap (λ m. m ∷ drop (at + 1) ms) is) r.2 in
          let a = arrives rs under who seen closed (present under old first f) (drop (at + 1) ms) begun fresh_rest (under_begun under f.under_from) r.0 (subst (Among r.0) (sym more.1) (among_left r.0 old more.0 r.1)) q in
          let found : is_seen (without_request who a.0.0) kept ≡ true = each_at (λ (e : Place × ℕ). has e.0.taken who ≡ true → is_seen (without_request who e.0) kept ≡ true) seen a.0 all a.1 a.2 in
          let s : (k : Place × ℕ) × Among k kept × (k.0 ≡ without_request who a.0.0) = seen_entry (without_request who a.0.0) kept found in
          (s.0, s.1, subst (λ (p : Place). CanPass (may_take rs) (next_at rs) (drop (at + 1) ms) (pending (taken_without who under) p.taken) p.value) (sym s.2) (subst (λ z. CanPass (may_take rs) (next_at rs) (drop (at + 1) ms) z a.0.0.value) (sym (pending_after who under a.0.0.taken a.2)) a.3));
    }
      where
        gone_by : is_before (answered_at rs who) (line + 1) ≡ true
        gone_by = subst (λ o. is_before o (line + 1) ≡ true) (sym ends_here.1) (lt-ltb line (line + 1) (omega arith))

-- the front at which the search starts
pub start_front : (rs : List Request) (ms : List Move) → IsFront rs ms 0 [] (start_entry ∷ []) ([] ∷ [])
start_front rs ms = record {
  lead = (
    record {
      within = omega arith;
      stands = record {
        fit = tt;
        value_is = refl;
        in_time = tt;
        rising = tt;
        once = tt;
        done = λ x inside before. absurd (none_before (answered_at rs x) before);
        taken_from = λ x k. absurd k;
        taken_all = λ x k yet. absurd k;
        ascending = tt;
      };
    },
    tt,
  );
  under_from = tt;
  under_all = λ x u ok. absurd (let b : begun_at rs x < 0 = u.began in omega arith);
  passing = λ all. (start_entry, inl refl, subst (λ p. CanPass (may_take rs) (next_at rs) ms p None) (pointwise (λ x. refl)) all);
}
  where
    none_before : (o : Option ℕ) → is_before o 0 ≡ true → ⊥
    none_before None h = true≢false (sym h)
    none_before (Some a) h = (let b : a < 0 = ltb-true a 0 h in omega arith)

-- where no place remains, the lines cannot be passed
pub no_front : (rs : List Request) (ms : List Move) (at : ℕ) (under : List ℕ) (seen : List (Place × ℕ)) (paths : List (List (ℕ × ℕ))) → IsFront rs ms at under seen paths → length seen ≡ 0 → CanPassAll rs ms → ⊥
no_front rs ms at under [] paths f none all = (f.passing all).1
no_front rs ms at under (e ∷ seen) paths f none all = absurd (omega arith)

-- behind the last line a place stands for all of them
pub whole_front : (rs : List Request) (ms : List Move) (at : ℕ) (under : List ℕ) (seen : List (Place × ℕ)) (paths : List (List (ℕ × ℕ))) → IsFront rs ms at under seen paths → length ms ≤ at → 0 < length seen → Leads rs (line_after ms) paths (get_or seen 0 start_entry)
whole_front rs ms at under seen paths f all some = each_get (Leads rs (line_after ms) paths) seen 0 start_entry (subst (λ k. AllLead rs (line_after k) paths seen) (take_all at ms all) f.lead) some

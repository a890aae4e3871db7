-- Of the requests on one key: a linearization lets the lines be passed, and an order that stands behind the last line is one.
use Rattle.std.proofs.Common.{◌≡◌, ◌≢◌, ℕ, ◌+◌, ◌<◌, ◌≤◌, Bool, true, false, cond, not, ◌&&◌, ltb, is_some, is_none, List, [], ◌∷◌, length, get_or, map, take, Option, Some, None, refl, sym, ap, ap₂, ◌∙◌, subst, ◌⊎◌, inl, inr, arith, lt-ltb, le-ltb, ltb-false, IsTrue, true≢false, take_all}
use Rattle.std.proofs.lemmas.Bool.{cases_lt}
use Rattle.std.specs.FinMap.{empty, get-empty}
use Rattle.std.specs.Ordering.{nat_cmp}
use Rattle.std.specs.Cmp.Lexicographic.{slice_cmp}
use Rattle.sc_base.specs.Definitions.{Among, Each, key_of}
use Rattle.sc_linear_law.specs.declared.requests.Request.{Request}
use Rattle.sc_linear_law.specs.declared.requests.Step.{Step}
use Rattle.sc_linear_law.specs.LinearDefinitions.{Move, EachPair, Place, answer_line, is_before, fits, value_after, is_done, AreTwo, MayFollow, IsOrder, IsLinearization, IsLinearizable, HasRegisterReplies, AllFit, CanPass}
use Rattle.sc_linear_law.proofs.Game.{choose, differ, EndsKept}
use Rattle.sc_linear_law.proofs.Complete.{IsTimed, Plan, passes}
use Rattle.sc_linear_law.proofs.Lean.{leaner}
use Rattle.sc_linear_law.proofs.Registers.{register_from_store, store_from_register}
use Rattle.sc_linear_law.proofs.ListFacts.{each_at, each_from, each_more, each_map, pairs_more, pairs_map, pairs_unmap, among_get, among_index, among_map, among_unmap}
use Rattle.sc_linear.specs.PlaceEquality.{value_decides}
use Rattle.sc_linear.specs.Standing.{blank, request_at, begun_at, answered_at, fits_at, next_at, is_lost_at, is_idle_at, whose, IsInTime, Stands}
use Rattle.sc_linear.specs.Moves.{IsMoves, IsMoveOf, line_after, nobody, CanPassAll}
use Rattle.sc_linear.specs.Front.{reached, move_at, no_move}
use Rattle.sc_linear.proofs.LineLemmas.{pairs_get, earlier}

-- requests in the order in which they began, all on one key
pub record OnOneKey (key : List ℕ) (rs : List Request) : Type 0 where
  pub rising : EachPair (λ (a b : Request). a.begun < b.begun) rs
  pub on : Each (λ (r : Request). key_of r.op ≡ key) rs

one_index : (rs : List Request) → EachPair (λ (a b : Request). a.begun < b.begun) rs → (i j : ℕ) → i < length rs → j < length rs → begun_at rs i ≡ begun_at rs j → i ≡ j
one_index rs up i j li lj e = elim (cases_lt i j) [
  | inl less ↦ absurd (let r = pairs_get (λ (a b : Request). a.begun < b.begun) rs i j blank up less lj in omega arith)
  | inr ge ↦ elim (cases_lt j i) [ inl less ↦ absurd (let r = pairs_get (λ (a b : Request). a.begun < b.begun) rs j i blank up less li in omega arith) | inr le ↦ omega arith ]
]

indexes : (rs l : List Request) → Each (λ (r : Request). Among r rs) l → (xs : List ℕ) × Each (λ (x : ℕ). x < length rs) xs × (map (request_at rs) xs ≡ l)
indexes rs [] h = ([], tt, refl)
indexes rs (r ∷ l) h =
    let i : (i : ℕ) × (i < length rs) × (get_or rs i blank ≡ r) = among_index rs r blank h.0 in
    let t : (xs : List ℕ) × Each (λ (x : ℕ). x < length rs) xs × (map (request_at rs) xs ≡ l) = indexes rs l h.1 in
    (i.0 ∷ t.0, (i.1, t.1), ap₂ (λ a b. a ∷ b) i.2 t.2)

fit_from : (rs : List Request) (xs : List ℕ) (steps : List Step) (v : Option (List ℕ)) → map (request_at rs) xs ≡ map (λ (s : Step). s.request) steps → HasRegisterReplies v steps → Each (λ (s : Step). IsTrue (fits s.request.ending s.request.op s.old)) steps → AllFit (fits_at rs) (next_at rs) v xs
fit_from rs [] steps v e h t = tt
fit_from rs (x ∷ xs) [] v e h t = absurd (cc)
fit_from rs (x ∷ xs) (s ∷ ss) v e h t =
    let same : request_at rs x ≡ s.request = cc in
    let rest : map (request_at rs) xs ≡ map (λ (s' : Step). s'.request) ss = cc in (
      subst (λ (r : Request). fits r.ending r.op v ≡ true) (sym same) (subst (λ o. fits s.request.ending s.request.op o ≡ true) h.0 t.0),
      fit_from rs xs ss (next_at rs x v) rest (subst (λ (r : Request). HasRegisterReplies (value_after r.op v) ss) (sym same) h.1) t.1,
    )

timed_one : (rs : List Request) (m : Move) → IsMoveOf rs m → IsTimed (fits_at rs) (next_at rs) (begun_at rs) (answered_at rs) m
timed_one rs (l, false, x) h = h.1
timed_one rs (l, true, x) h = h.1

ends_kept : (rs : List Request) (ms : List Move) → Each (IsMoveOf rs) ms → EndsKept (fits_at rs) (next_at rs) (is_lost_at rs) ms
ends_kept rs [] h = tt
ends_kept rs ((l, false, x) ∷ ms) h = ends_kept rs ms h.1
ends_kept rs ((l, true, x) ∷ ms) h = (ap is_none h.0.1, ends_kept rs ms h.1)

not_true : (b : Bool) → IsTrue (not b) → b ≡ false
not_true true h = absurd (true≢false (sym h))
not_true false h = refl

module _ (key : List ℕ) (rs : List Request) (ms : List Move) (one : OnOneKey key rs) (h : IsMoves rs ms) where
  -- from a linearization the lines can be passed
  pub linear_passes : (steps : List Step) → IsLinearization rs steps → CanPassAll rs ms
  linear_passes steps k =
      let all = indexes rs (map (λ (s : Step). s.request) steps) (each_map (λ (s : Step). s.request) (λ (r : Request). Among r rs) steps k.taken) in
      let xs : List ℕ = all.0 in
      let same : map (request_at rs) xs ≡ map (λ (s : Step). s.request) steps = all.2 in
      let on : Each (λ (s : Step). key_of s.request.op ≡ key) steps = each_more (λ (s : Step). Among s.request rs) (λ (s : Step). key_of s.request.op ≡ key) steps (λ s there. each_at (λ (r : Request). key_of r.op ≡ key) rs s.request one.on there) k.taken in
      let plan : Plan (fits_at rs) (next_at rs) (begun_at rs) (answered_at rs) ms nobody None xs = record {
        timed = each_more (IsMoveOf rs) (IsTimed (fits_at rs) (next_at rs) (begun_at rs) (answered_at rs)) ms (timed_one rs) h.timed;
        rising = h.rising;
        fresh = λ d there. refl;
        fit = fit_from rs xs steps None same (subst (λ v. HasRegisterReplies v steps) (get-empty (slice_cmp nat_cmp) key) (register_from_store key steps empty on k.replies)) k.told;
        once = pairs_more (λ (x y : ℕ). begun_at rs x ≢ begun_at rs y) (λ (x y : ℕ). x ≡ y → ⊥) xs (λ x y apart e. apart (ap (begun_at rs) e))
            (pairs_unmap (request_at rs) (λ (a b : Request). a.begun ≢ b.begun) xs (subst (EachPair (λ (a b : Request). a.begun ≢ b.begun)) (sym same) (pairs_map (λ (s : Step). s.request) (λ (a b : Request). a.begun ≢ b.begun) steps k.once)));
        known = λ x there. inr (h.begins x (each_at (λ (y : ℕ). y < length rs) xs x all.1 there));
        due = λ c l there how.
            let m : (c < length rs) × (answered_at rs c ≡ Some l) = each_at (IsMoveOf rs) ms (l, true, c) h.timed there in
            let stands : Among (request_at rs c) (map (λ (s : Step). s.request) steps) = each_at (λ (r : Request). IsTrue (is_done r) → Among r (map (λ (s : Step). s.request) steps)) rs (request_at rs c) k.complete (among_get rs c blank m.0) (ap is_some m.1) in
            let r : (x : ℕ) × Among x xs × (request_at rs x ≡ request_at rs c) = among_unmap (request_at rs) (request_at rs c) xs (subst (Among (request_at rs c)) (sym same) stands) in
            subst (λ z. Among z xs) (one_index rs one.rising r.0 c (each_at (λ (y : ℕ). y < length rs) xs r.0 all.1 r.1) m.0 (ap (λ (q : Request). q.begun) r.2)) r.1;
        order = pairs_more (λ (x y : ℕ). IsTrue (not (is_before (answered_at rs y) (begun_at rs x)))) (λ (x y : ℕ). is_before (answered_at rs y) (begun_at rs x) ≡ false) xs (λ x y t. not_true _ t)
            (pairs_unmap (request_at rs) (λ (a b : Request). IsTrue (not (is_before (answer_line b.ending) a.begun))) xs (subst (EachPair (λ (a b : Request). IsTrue (not (is_before (answer_line b.ending) a.begun)))) (sym same) (pairs_map (λ (s : Step). s.request) (λ (a b : Request). IsTrue (not (is_before (answer_line b.ending) a.begun))) steps k.ordered)));
      } in
      leaner (fits_at rs) (next_at rs) (is_lost_at rs) (is_idle_at rs) (λ x v e. (value_decides (next_at rs x v) v).0 e) ms (ends_kept rs ms h.timed) nobody None
      (passes (fits_at rs) (next_at rs) (begun_at rs) (answered_at rs) ms nobody None xs plan)

  -- where the lines cannot be passed, the requests are not linearizable
  pub no_linearization : (CanPassAll rs ms → ⊥) → IsLinearizable rs → ⊥
  no_linearization none k = none (linear_passes k.0 k.1)

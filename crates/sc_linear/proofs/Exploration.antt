-- The explored places keep one from which the lines can be passed.
use Rattle.std.proofs.Common.{◌≡◌, ℕ, zero, suc, ◌<◌, ◌≤◌, Bool, true, false, cond, not, ◌&&◌, eqb, List, [], ◌∷◌, length, filter, get_or, Option, refl, sym, ap, ◌∙◌, subst, subst₂, inl, inr, arith, eq-eqb, eqb-true, true≢false}
use Rattle.sc_base.specs.Definitions.{Among}
use Rattle.sc_linear_law.specs.declared.requests.Request.{Request}
use Rattle.sc_linear_law.specs.LinearDefinitions.{Place, Move, without, Takes, CanPass}
use Rattle.sc_linear_law.proofs.Game.{choose, differ, pointwise, same_or_not, IsFresh, Below, skip, skip_takes}
use Rattle.sc_linear_law.proofs.ListFacts.{each_at, among_index}
use Rattle.sc_linear.specs.Search.{taken_with, taken_without}
use Rattle.sc_linear.specs.Standing.{has, may_take, next_at, can_take, with_request, start_entry, is_seen}
use Rattle.sc_linear.specs.Steps.{IsClosedAt, AreClosed, IsReaderAt, AllTaken}
use Rattle.sc_linear.specs.Moves.{pending}
use Rattle.sc_linear.proofs.SeenLemmas.{seen_entry}
use Rattle.sc_linear.proofs.TakenLemmas.{has_among, among_has, not_has, with_from, with_here, with_there, without_from, without_there}
use Rattle.sc_linear.proofs.Readers.{reads, idle_here, first_of_both, second_of_both}

-- one request less is pending
count_le : (x : ℕ) (p : ℕ → Bool) (ys : List ℕ) → length (filter (without x p) ys) ≤ length (filter p ys)
count_le x p [] = omega arith
count_le x p (y ∷ ys) = go (eqb y x) (p y) (count_le x p ys)
  where
    go : (a b : Bool) → length (filter (without x p) ys) ≤ length (filter p ys) → length (cond (cond a false b) (y ∷ filter (without x p) ys) (filter (without x p) ys)) ≤ length (cond b (y ∷ filter p ys) (filter p ys))
    go true true h = omega arith
    go true false h = h
    go false true h = omega arith
    go false false h = h

count_lt : (x : ℕ) (p : ℕ → Bool) (ys : List ℕ) → Among x ys → p x ≡ true → length (filter (without x p) ys) < length (filter p ys)
count_lt x p [] here px = absurd here
count_lt x p (y ∷ ys) (inl e) px = let le : length (filter (without x p) ys) ≤ length (filter p ys) = count_le x p ys in let q : p y ≡ true = ap p e ∙ px in let s : eqb y x ≡ true = eq-eqb y x e in rw (s, q) (omega arith)
count_lt x p (y ∷ ys) (inr there) px = go (eqb y x) (p y) (count_lt x p ys there px)
  where
    go : (a b : Bool) → length (filter (without x p) ys) < length (filter p ys) → length (cond (cond a false b) (y ∷ filter (without x p) ys) (filter (without x p) ys)) < length (cond b (y ∷ filter p ys) (filter p ys))
    go true true h = omega arith
    go true false h = h
    go false true h = omega arith
    go false false h = h

pub pending_not : (under taken : List ℕ) (x : ℕ) → has taken x ≡ true → pending under taken x ≡ false
pending_not under taken x h = rw h (go (has under x))
  where
    go : (b : Bool) → b && not true ≡ false
    go true = refl
    go false = refl

pub pending_is : (under taken : List ℕ) (x : ℕ) → Among x under → has taken x ≡ false → pending under taken x ≡ true
pending_is under taken x h e = let u = among_has x under h in rw (u, e) refl

pub pending_under : (under taken : List ℕ) (x : ℕ) → pending under taken x ≡ true → Among x under × (has taken x ≡ false)
pending_under under taken x h = (has_among x under (first_of_both _ _ h), go (has taken x) (second_of_both _ _ h))
  where
    go : (b : Bool) → not b ≡ true → b ≡ false
    go true e = absurd (true≢false (sym e))
    go false e = refl

pub same_bool : (a b : Bool) → (a ≡ true → b ≡ true) → (b ≡ true → a ≡ true) → a ≡ b
same_bool true b f g = sym (f refl)
same_bool false true f g = g refl
same_bool false false f g = refl

pub has_with : (x y : ℕ) (taken : List ℕ) → has (taken_with x taken) y ≡ cond (eqb y x) true (has taken y)
has_with x y taken = go (eqb y x) refl
  where
    go : (b : Bool) → eqb y x ≡ b → has (taken_with x taken) y ≡ cond b true (has taken y)
    go true e = among_has y (taken_with x taken) (subst (λ z. Among z (taken_with x taken)) (sym (eqb-true y x e)) (with_here x taken))
    go false e = same_bool _ _ (λ h. elim (with_from x y taken (has_among y (taken_with x taken) h)) [ inl q ↦ absurd (differ (eq-eqb y x q) e) | inr old ↦ among_has y taken old ]) (λ h. among_has y (taken_with x taken) (with_there x y taken (has_among y taken h)))

pub pending_with : (under taken : List ℕ) (x : ℕ) → pending under (taken_with x taken) ≡ without x (pending under taken)
pending_with under taken x = pointwise (λ y. ap (λ b. has under y && not b) (has_with x y taken) ∙ go (eqb y x) (has under y) (has taken y))
  where
    go : (e u t : Bool) → u && not (cond e true t) ≡ cond e false (u && not t)
    go true true t = refl
    go true false t = refl
    go false u t = refl

module _ (rs : List Request) (under : List ℕ) (who : ℕ) (seen : List (Place × ℕ)) (closed : AreClosed rs under who seen (length seen)) (present : Among who under) (ms : List Move) (b : ℕ → Bool) (fresh : IsFresh ms b) (below : (taken : List ℕ) → Below (pending under taken) b) where
  abbrev Later : (ℕ → Bool) → Option (List ℕ) → Type 0
  Later = CanPass (may_take rs) (next_at rs) ms

  abbrev Passes : Place → Type 0
  Passes place = (ys : List ℕ) × Takes (may_take rs) (next_at rs) who Later ys (pending under place.taken) place.value

  abbrev Arrives : Type 0
  Arrives = (e : Place × ℕ) × Among e seen × (has e.0.taken who ≡ true) × Later (pending under e.0.taken) e.0.value

  onto : (e : Place × ℕ) (x : ℕ) → pending under e.0.taken x ≡ true → is_seen (with_request rs e.0 x) seen ≡ true → (ys : List ℕ) → Takes (may_take rs) (next_at rs) who Later ys (without x (pending under e.0.taken)) (next_at rs x e.0.value)
      → ((f : Place × ℕ) → Among f seen → length (filter (pending under f.0.taken) under) < length (filter (pending under e.0.taken) under) → Passes f.0 → Arrives) → Arrives
  onto e x px found ys t onward =
      let r : (f : Place × ℕ) × Among f seen × (f.0 ≡ with_request rs e.0 x) = seen_entry (with_request rs e.0 x) seen found in
      let same : pending under r.0.0.taken ≡ without x (pending under e.0.taken) = ap (λ (p : Place). pending under p.taken) r.2 ∙ pending_with under e.0.taken x in
      let value : r.0.0.value ≡ next_at rs x e.0.value = ap (λ (p : Place). p.value) r.2 in
      onward r.0 r.1
      (subst (λ p. length (filter p under) < length (filter (pending under e.0.taken) under)) (sym same) (count_lt x (pending under e.0.taken) under (pending_under under e.0.taken x px).0 px))
      (ys, subst₂ (λ p v. Takes (may_take rs) (next_at rs) who Later ys p v) (sym same) (sym value) t)

  by_all : (e : Place × ℕ) → has e.0.taken who ≡ false → AllTaken rs seen e.0 under → (xs : List ℕ) → Takes (may_take rs) (next_at rs) who Later xs (pending under e.0.taken) e.0.value
      → ((f : Place × ℕ) → Among f seen → length (filter (pending under f.0.taken) under) < length (filter (pending under e.0.taken) under) → Passes f.0 → Arrives) → Arrives
  by_all e free all [] t onward = absurd (differ (pending_is under e.0.taken who present free) t.0)
  by_all e free all (x ∷ xs) t onward =
      let u : Among x under × (has e.0.taken x ≡ false) = pending_under under e.0.taken x t.1 in
      let can : can_take rs e.0 x ≡ true = (let a = u.1 in let m = t.2 in rw (a, m) refl) in
      onto e x t.1 (each_at (λ y. can_take rs e.0 y ≡ true → is_seen (with_request rs e.0 y) seen ≡ true) under x all u.0 can) xs t.3 onward

  by_reader : (e : Place × ℕ) (x : ℕ) → IsReaderAt rs under e.0 x → is_seen (with_request rs e.0 x) seen ≡ true → Passes e.0
      → ((f : Place × ℕ) → Among f seen → length (filter (pending under f.0.taken) under) < length (filter (pending under e.0.taken) under) → Passes f.0 → Arrives) → Arrives
  by_reader e x r found t onward =
      let rd : (v : Option (List ℕ)) → may_take rs x v ≡ true → next_at rs x v ≡ v = reads rs x e.0 r.reads in
      let u : Passes e.0 → (ys : List ℕ) × Takes (may_take rs) (next_at rs) who Later ys (without x (pending under e.0.taken)) e.0.value = λ k. skip_takes (may_take rs) (next_at rs) x rd who ms b fresh (λ p v low h. skip (may_take rs) (next_at rs) x rd ms b p v fresh low h) k.0 (pending under e.0.taken) e.0.value (below e.0.taken) k.1 in
      onto e x (pending_is under e.0.taken x r.among r.reads.new) found (u t).0 (subst (λ v. Takes (may_take rs) (next_at rs) who Later (u t).0 (without x (pending under e.0.taken)) v) (sym (idle_here rs x e.0 r.reads)) (u t).1) onward

  arrived : (e : Place × ℕ) → Among e seen → has e.0.taken who ≡ true → (xs : List ℕ) → Takes (may_take rs) (next_at rs) who Later xs (pending under e.0.taken) e.0.value → Arrives
  arrived e here taken [] t = (e, here, taken, t.1)
  arrived e here taken (x ∷ xs) t = absurd (differ t.0 (pending_not under e.0.taken who taken))

  one_step : (e : Place × ℕ) → Among e seen → Passes e.0 → ((f : Place × ℕ) → Among f seen → length (filter (pending under f.0.taken) under) < length (filter (pending under e.0.taken) under) → Passes f.0 → Arrives) → Arrives
  one_step e here t onward = elim (choose (has e.0.taken who)) [
    | inl taken ↦ arrived e here taken t.0 t.1
    | inr free ↦
        (let i : (i : ℕ) × (i < length seen) × (get_or seen i start_entry ≡ e) = among_index seen e start_entry here in
        let c : IsClosedAt rs under seen e.0 = subst (λ (f : Place × ℕ). has f.0.taken who ≡ false → IsClosedAt rs under seen f.0) i.2 (closed i.0 i.1) free in
        elim c [ inl all ↦ by_all e free all t.0 t.1 onward | inr one ↦ by_reader e one.0 one.1 one.2 t onward ])
  ]

  reach : (k : ℕ) (e : Place × ℕ) → Among e seen → length (filter (pending under e.0.taken) under) ≤ k → Passes e.0 → Arrives
  reach zero e here few t = one_step e here t (λ f there less u. absurd (omega arith))
  reach (suc k) e here few t = one_step e here t (λ f there less u. reach k f there (omega arith) u)

  -- a place from which an end can be passed leads to one at which its request is taken, and from which the rest can be passed
  pub arrives : (e : Place × ℕ) → Among e seen → Passes e.0 → Arrives
  arrives e here t = reach (length (filter (pending under e.0.taken) under)) e here (omega arith) t

has_without_self : (x : ℕ) (ys : List ℕ) → has (taken_without x ys) x ≡ false
has_without_self x ys = not_has x (taken_without x ys) (λ k. (without_from x x ys k).1 refl)

has_without : (x y : ℕ) (ys : List ℕ) → (y ≡ x → ⊥) → has (taken_without x ys) y ≡ has ys y
has_without x y ys apart = same_bool _ _ (λ h. among_has y ys (without_from x y ys (has_among y (taken_without x ys) h)).0) (λ h. among_has y (taken_without x ys) (without_there x y ys (has_among y ys h) apart))

-- an answered request is no more under way, and no more taken
pub pending_after : (who : ℕ) (under taken : List ℕ) → has taken who ≡ true → pending (taken_without who under) (taken_without who taken) ≡ pending under taken
pending_after who under taken h = pointwise (λ y. elim (same_or_not who y) [
  | inl e ↦ subst (λ z. pending (taken_without who under) (taken_without who taken) z ≡ pending under taken z) (sym e) ((let n = has_without_self who under in rw n refl) ∙ sym (pending_not under taken who h))
  | inr apart ↦ (let u = has_without who y under apart in let t = has_without who y taken apart in rw (u, t) refl)
])

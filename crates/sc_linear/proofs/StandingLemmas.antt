-- What a place stands for, as requests are taken and lines pass.
use Rattle.std.proofs.Common.{◌≡◌, ℕ, ◌<◌, ◌≤◌, Bool, true, false, List, [], ◌∷◌, ◌++◌, fold, length, None, sym, ap, ◌∙◌, subst, inl, inr, arith}
use Rattle.std.proofs.lemmas.List.{map-append}
use Rattle.std.proofs.lemmas.List.Sums.{fold_push}
use Rattle.sc_base.specs.Definitions.{Among}
use Rattle.sc_linear_law.specs.declared.requests.Request.{Request}
use Rattle.sc_linear_law.specs.LinearDefinitions.{Place, is_before, AllFit}
use Rattle.sc_linear_law.proofs.Game.{differ, same_or_not}
use Rattle.sc_linear_law.proofs.ListFacts.{each_at, each_from, each_more, each_append, pairs_push, among_left, among_right, among_either, among_map, among_unmap}
use Rattle.sc_linear.specs.Search.{taken_with, taken_without}
use Rattle.sc_linear.specs.Standing.{answered_at, fits_at, next_at, whose, value_of, IsUnder, IsInTime, Stands, with_request}
use Rattle.sc_linear.proofs.TakenLemmas.{with_from, with_here, with_there, with_ascending, without_from, without_there, without_ascending}

module _ {V : Type 0} (fits : ℕ → V → Bool) (next : ℕ → V → V) where
  pub fit_push : (v : V) (xs : List ℕ) (x : ℕ) → AllFit fits next v xs → fits x (fold (λ w y. next y w) v xs) ≡ true → AllFit fits next v (xs ++ x ∷ [])
  fit_push v [] x h f = (f, tt)
  fit_push v (y ∷ ys) x h f = (h.0, fit_push (next y v) ys x h.1 f)

whose_push : (path : List (ℕ × ℕ)) (line x : ℕ) → whose (path ++ (line, x) ∷ []) ≡ whose path ++ x ∷ []
whose_push path line x = map-append (λ (s : ℕ × ℕ). s.1) path ((line, x) ∷ [])

-- a request under way that fits is taken
pub take_one : (rs : List Request) (line x : ℕ) (place : Place) (path : List (ℕ × ℕ)) → Stands rs line place path → IsUnder rs line x → (Among x place.taken → ⊥) → fits_at rs x place.value ≡ true → Stands rs line (with_request rs place x) (path ++ (line, x) ∷ [])
take_one rs line x place path s u new f =
    let absent : Among x (whose path) → ⊥ = λ k. new (s.taken_all x k u.open_yet) in
    record {
      fit = subst (AllFit (fits_at rs) (next_at rs) None) (sym (whose_push path line x)) (fit_push (fits_at rs) (next_at rs) None (whose path) x s.fit (ap (fits_at rs x) s.value_is ∙ f));
      value_is = ap (value_of rs None) (whose_push path line x) ∙ fold_push (λ v y. next_at rs y v) None (whose path) x ∙ ap (next_at rs x) s.value_is;
      in_time = each_append (IsInTime rs line) path ((line, x) ∷ []) s.in_time (record { within = u.within; began = u.began; open_yet = u.open_yet; so_far = omega arith }, tt);
      rising = pairs_push (λ (a b : ℕ × ℕ). a.0 ≤ b.0) path (line, x) s.rising (each_more (IsInTime rs line) (λ (a : ℕ × ℕ). a.0 ≤ line) path (λ a k. k.so_far) s.in_time);
      once = pairs_push (λ (a b : ℕ × ℕ). a.1 ≡ b.1 → ⊥) path (line, x) s.once (each_from (λ (a : ℕ × ℕ). a.1 ≡ x → ⊥) path (λ a k e. absent (subst (λ y. Among y (whose path)) e (among_map (λ (t : ℕ × ℕ). t.1) a path k))));
      done = λ y low before. subst (Among y) (sym (whose_push path line x)) (among_left y (whose path) (x ∷ []) (s.done y low before));
      taken_from = λ y k. elim (with_from x y place.taken k) [
        | inl e ↦ (subst (Among y) (sym (whose_push path line x)) (among_right y (whose path) (x ∷ []) (inl (sym e))), subst (λ z. is_before (answered_at rs z) line ≡ false) (sym e) u.open_yet)
        | inr old ↦ (subst (Among y) (sym (whose_push path line x)) (among_left y (whose path) (x ∷ []) (s.taken_from y old).0), (s.taken_from y old).1)
      ];
      taken_all = λ y k yet. elim (among_either y (whose path) (x ∷ []) (subst (Among y) (whose_push path line x) k)) [
        | inl old ↦ with_there x y place.taken (s.taken_all y old yet)
        | inr here ↦ elim here [ inl e ↦ subst (λ z. Among z (taken_with x place.taken)) e (with_here x place.taken) | inr none ↦ absurd none ]
      ];
      ascending = with_ascending x place.taken s.ascending new;
    }

-- lines pass on which no request is answered
pub wait : (rs : List Request) (line later : ℕ) (place : Place) (path : List (ℕ × ℕ)) → line ≤ later → ((x : ℕ) → x < length rs → is_before (answered_at rs x) later ≡ is_before (answered_at rs x) line) → Stands rs line place path → Stands rs later place path
wait rs line later place path low quiet s =
    let inside : (x : ℕ) → Among x (whose path) → x < length rs = λ x k. let r : (t : ℕ × ℕ) × Among t path × (t.1 ≡ x) = among_unmap (λ (t : ℕ × ℕ). t.1) x path k in subst (λ z. z < length rs) r.2 (each_at (IsInTime rs line) path r.0 s.in_time r.1).within in
    record {
      fit = s.fit;
      value_is = s.value_is;
      in_time = each_more (IsInTime rs line) (IsInTime rs later) path (λ a k. record { within = k.within; began = k.began; open_yet = k.open_yet; so_far = let h : a.0 ≤ line = k.so_far in omega arith }) s.in_time;
      rising = s.rising;
      once = s.once;
      done = λ x k before. s.done x k (sym (quiet x k) ∙ before);
      taken_from = λ x k. let r = s.taken_from x k in (r.0, quiet x (inside x r.0) ∙ r.1);
      taken_all = λ x k yet. s.taken_all x k (sym (quiet x (inside x k)) ∙ yet);
      ascending = s.ascending;
    }

-- a line passes on which a request that was taken is answered, and no other
pub answer : (rs : List Request) (line later c : ℕ) (place : Place) (path : List (ℕ × ℕ)) → line ≤ later → is_before (answered_at rs c) later ≡ true → ((x : ℕ) → x < length rs → (x ≡ c → ⊥) → is_before (answered_at rs x) later ≡ is_before (answered_at rs x) line) → Among c place.taken → Stands rs line place path → Stands rs later (record { value = place.value; taken = taken_without c place.taken }) path
answer rs line later c place path low ends quiet taken s =
    let inside : (x : ℕ) → Among x (whose path) → x < length rs = λ x k. let r : (t : ℕ × ℕ) × Among t path × (t.1 ≡ x) = among_unmap (λ (t : ℕ × ℕ). t.1) x path k in subst (λ z. z < length rs) r.2 (each_at (IsInTime rs line) path r.0 s.in_time r.1).within in
    record {
      fit = s.fit;
      value_is = s.value_is;
      in_time = each_more (IsInTime rs line) (IsInTime rs later) path (λ a k. record { within = k.within; began = k.began; open_yet = k.open_yet; so_far = let h : a.0 ≤ line = k.so_far in omega arith }) s.in_time;
      rising = s.rising;
      once = s.once;
      done = λ x k before. elim (same_or_not c x) [
        | inl e ↦ subst (λ z. Among z (whose path)) (sym e) (s.taken_from c taken).0
        | inr apart ↦ s.done x k (sym (quiet x k apart) ∙ before)
      ];
      taken_from = λ x k. let w = without_from c x place.taken k in let r = s.taken_from x w.0 in (r.0, quiet x (inside x r.0) w.1 ∙ r.1);
      taken_all = λ x k yet. let apart : x ≡ c → ⊥ = λ e. differ (subst (λ z. is_before (answered_at rs z) later ≡ true) (sym e) ends) yet in without_there c x place.taken (s.taken_all x k (sym (quiet x (inside x k) apart) ∙ yet)) apart;
      ascending = without_ascending c place.taken s.ascending;
    }

-- Groups go one after another, where at most one more is gone.
use Rattle.std.proofs.Common.{◌≡◌, ℕ, ◌+◌, ◌<◌, ◌≤◌, ◌&&◌, ltb, Bool, true, false, true≢false, cond, List, [], ◌∷◌, ◌++◌, length, Option, Some, None, ◌⊎◌, inl, inr, refl, sym, ◌∙◌, ap, subst, arith, length-append}
use Rattle.std.specs.Prelude.{is_some}
use Rattle.std.proofs.lemmas.Bool.{cases_Bool, cond-true, cond-false, cond_both, lt-ltb, ltb-true, and_from, and_parts, and_right}
use Rattle.std.proofs.lemmas.Option.{same_Some}
use Rattle.sc_base.specs.Definitions.{Among, same_draw}
use Rattle.sc_node_table.specs.Values.{Draw, Route}
use Rattle.sc_base.proofs.Lemmas.{draw_is, same_name}
use Rattle.sc_node_table.specs.NodeDefinitions.{ReplicaState}
use Rattle.sc_live_journals.specs.charts.ChartDefinitions.{went_in, GoInTurn}
use Rattle.sc_live_answers.specs.AnswerDefinitions.{EndsOnce, TurnsGoOn}

-- ---- how many of some names pass

-- how many pass
abbrev passing : (Draw → Bool) → List Draw → ℕ
passing p [] = 0
passing p (name ∷ names) = cond (p name) (1 + passing p names) (passing p names)

passing_all : (p : Draw → Bool) (names : List Draw) → passing p names ≤ length names
passing_all p [] = omega arith
passing_all p (name ∷ names) = (let low = passing_all p names in cond_both (p name) (1 + passing p names) (passing p names) (λ n. n ≤ length (name ∷ names)) (λ _. omega (arith, low)) (λ _. omega (arith, low)))

-- fewer where one does not
passing_less : (p : Draw → Bool) (names : List Draw) (name : Draw) → Among name names → p name ≡ false → passing p names < length names
passing_less p [] name a out = absurd a
passing_less p (x ∷ names) name (inl same) out =
    (let low = passing_all p names in let e = cond-false (p x) (1 + passing p names) (passing p names) (ap p same ∙ out) in omega (arith, low, e))
passing_less p (x ∷ names) name (inr a) out =
    (let low = passing_less p names name a out in cond_both (p x) (1 + passing p names) (passing p names) (λ n. n < length (x ∷ names)) (λ _. omega (arith, low)) (λ _. omega (arith, low)))

-- where each that passes one test passes another
passing_weaker : (p r : Draw → Bool) (names : List Draw) → ((name : Draw) → p name ≡ true → r name ≡ true) → passing p names ≤ passing r names
passing_weaker p r [] up = omega arith
passing_weaker p r (x ∷ names) up =
    let low = passing_weaker p r names up in
    cond_both (p x) (1 + passing p names) (passing p names) (λ n. n ≤ cond (r x) (1 + passing r names) (passing r names))
    (λ t. (let e = cond-true (r x) (1 + passing r names) (passing r names) (up x t) in omega (arith, low, e)))
    (λ _. cond_both (r x) (1 + passing r names) (passing r names) (λ n. passing p names ≤ n) (λ _. omega (arith, low)) (λ _. omega (arith, low)))

-- one of the names passes the second test alone
passing_more : (p r : Draw → Bool) (names : List Draw) (name : Draw) → ((other : Draw) → p other ≡ true → r other ≡ true) → Among name names → p name ≡ false → r name ≡ true → passing p names < passing r names
passing_more p r [] name up a out in_ = absurd a
passing_more p r (x ∷ names) name up (inl same) out in_ =
    let low = passing_weaker p r names up in
    let e = cond-false (p x) (1 + passing p names) (passing p names) (ap p same ∙ out) in
    let f = cond-true (r x) (1 + passing r names) (passing r names) (ap r same ∙ in_) in
    omega (arith, low, e, f)
passing_more p r (x ∷ names) name up (inr a) out in_ =
    let low = passing_more p r names name up a out in_ in
    cond_both (p x) (1 + passing p names) (passing p names) (λ n. n < cond (r x) (1 + passing r names) (passing r names))
    (λ t. (let e = cond-true (r x) (1 + passing r names) (passing r names) (up x t) in omega (arith, low, e)))
    (λ _. cond_both (r x) (1 + passing r names) (passing r names) (λ n. passing p names < n) (λ _. omega (arith, low)) (λ _. omega (arith, low)))

passing_append : (p : Draw → Bool) (names more : List Draw) → passing p names ≤ passing p (names ++ more)
passing_append p [] more = omega arith
passing_append p (x ∷ names) more =
    let low = passing_append p names more in
    cond_both (p x) (1 + passing p names) (passing p names) (λ n. n ≤ cond (p x) (1 + passing p (names ++ more)) (passing p (names ++ more)))
    (λ t. (let e = cond-true (p x) (1 + passing p (names ++ more)) (passing p (names ++ more)) t in omega (arith, low, e)))
    (λ f. (let e = cond-false (p x) (1 + passing p (names ++ more)) (passing p (names ++ more)) f in omega (arith, low, e)))

module _ (names later_names : List Draw) (replicas later : List ReplicaState) (group : Draw) (turn : Draw → ℕ) (goes : GoInTurn names replicas turn) (once : EndsOnce names later_names replicas later group) where
  -- whether a group was gone, and before another
  was_gone : Draw → Bool
  was_gone name = is_some (went_in name replicas)

  earlier : Draw → Draw → Bool
  earlier name other = was_gone other && ltb (turn other) (turn name)

  -- how many were gone, and how many before a group
  gone_before : Draw → ℕ
  gone_before name = passing (earlier name) names

  all_gone : ℕ
  all_gone = passing was_gone names

  gone_some : (name : Draw) (into : Route) → went_in name replicas ≡ Some into → was_gone name ≡ true
  unfolding was_gone
  gone_some name into e = ap is_some e

  not_earlier : (name : Draw) → earlier name name ≡ false
  unfolding earlier
  not_earlier name = and_right (was_gone name) (ltb (turn name) (turn name)) (not_less (turn name) (cases_Bool (ltb (turn name) (turn name))))
    where
      not_less : (n : ℕ) → (ltb n n ≡ true) ⊎ (ltb n n ≡ false) → ltb n n ≡ false
      not_less n (inl t) = (let lt = ltb-true n n t in absurd (omega (arith, lt)))
      not_less n (inr f) = f

  earlier_gone : (name other : Draw) → earlier name other ≡ true → was_gone other ≡ true
  unfolding earlier
  earlier_gone name other t = (and_parts (was_gone other) (ltb (turn other) (turn name)) t).0

  low : (name : Draw) (into : Route) → went_in name replicas ≡ Some into → gone_before name < all_gone
  unfolding gone_before all_gone
  low name into e = passing_more (earlier name) was_gone names name (earlier_gone name) (once.named name into e) (not_earlier name) (gone_some name into e)

  rises : (name other : Draw) (into : Route) → went_in name replicas ≡ Some into → turn name < turn other → gone_before name < gone_before other
  unfolding gone_before earlier
  rises name other into e lt =
      passing_more (earlier name) (earlier other) names name
      (λ x t. (let parts = and_parts (was_gone x) (ltb (turn x) (turn name)) t in let before = ltb-true (turn x) (turn name) parts.1 in and_from (was_gone x) (ltb (turn x) (turn other)) parts.0 (lt-ltb (turn x) (turn other) (omega (arith, before, lt)))))
      (once.named name into e) (not_earlier name) (and_from (was_gone name) (ltb (turn name) (turn other)) (gone_some name into e) (lt-ltb (turn name) (turn other) lt))

  -- the new one goes last
  after : Draw → ℕ
  after name = cond (was_gone name) (gone_before name) all_gone

  after_old : (name : Draw) (into : Route) → went_in name replicas ≡ Some into → after name ≡ gone_before name
  unfolding after
  after_old name into e = cond-true (was_gone name) (gone_before name) all_gone (gone_some name into e)

  after_new : (name : Draw) → was_gone name ≡ false → after name ≡ all_gone
  unfolding after
  after_new name f = cond-false (was_gone name) (gone_before name) all_gone f

  counted : all_gone ≤ length later_names
  unfolding all_gone
  counted =
      let all = passing_all was_gone names in
      let long = ap length once.go_on in
      let parts = length-append names once.more in
      omega (arith, all, long, parts)

  counted_new : (name : Draw) (into : Route) → went_in name later ≡ Some into → was_gone name ≡ false → all_gone < length later_names
  unfolding all_gone
  counted_new name into e new =
      let one = passing_append was_gone names once.more in
      let fewer = passing_less was_gone later_names name (once.here name into e) new in
      let same = ap (passing was_gone) once.go_on in
      omega (arith, one, fewer, same)

  is_old : (name : Draw) → was_gone name ≡ true → (into : Route) × (went_in name replicas ≡ Some into)
  unfolding was_gone
  is_old name t = by (went_in name replicas) refl t
    where
      by : (o : Option Route) → went_in name replicas ≡ o → is_some o ≡ true → (into : Route) × (went_in name replicas ≡ Some into)
      by None e s = absurd (true≢false (sym s))
      by (Some into) e s = (into, e)

  -- one that is gone now and was not is the group
  is_group : (name : Draw) (into : Route) → went_in name later ≡ Some into → was_gone name ≡ false → name ≡ group
  unfolding was_gone
  is_group name into e new = elim (cases_Bool (same_draw name group)) [
    | inl t ↦ draw_is name group t
    | inr f ↦ absurd (true≢false (sym (ap is_some (once.others name into (λ same. true≢false (sym (same_name name group same) ∙ f)) e)) ∙ new))
  ]

  old_turn : (name : Draw) (into : Route) → went_in name later ≡ Some into → (was : (x : Route) × (went_in name replicas ≡ Some x)) → (after name < length later_names) × (is_some (went_in into.group later) ≡ true → after name < after into.group)
  old_turn name into e was =
      let same : was.0 ≡ into = same_Some was.0 into (sym (once.stays name was.0 was.1) ∙ e) in
      let mine = after_old name was.0 was.1 in
      let under = low name was.0 was.1 in
      let most = counted in (
        omega (arith, mine, under, most),
        λ gone. elim (cases_Bool (was_gone into.group)) [
          | inl t ↦ (
              let next = is_old into.group t in
              let its = after_old into.group next.0 next.1 in
              let up = (goes name was.0 was.1).1 (ap (λ (r : Route). is_some (went_in r.group replicas)) same ∙ ap is_some next.1) in
              let rise = rises name into.group was.0 was.1 (subst (λ (r : Route). turn name < turn r.group) same up) in
              omega (arith, mine, its, rise))
          | inr f ↦ (let its = after_new into.group f in omega (arith, mine, its, under))
        ],
      )

  not_there : (name : Draw) → was_gone name ≡ false → went_in name replicas ≡ None
  unfolding was_gone
  not_there name f = by (went_in name replicas) refl f
    where
      by : (o : Option Route) → went_in name replicas ≡ o → is_some o ≡ false → went_in name replicas ≡ None
      by None e s = e
      by (Some into) e s = absurd (true≢false s)

  new_turn : (name : Draw) (into : Route) → went_in name later ≡ Some into → was_gone name ≡ false → (after name < length later_names) × (is_some (went_in into.group later) ≡ true → after name < after into.group)
  new_turn name into e new =
      let mine = after_new name new in
      let less = counted_new name into e new in (
        omega (arith, mine, less),
        λ gone. absurd (true≢false (sym gone ∙ ap is_some (once.stands into (ap (λ n. went_in n replicas) (sym (is_group name into e new)) ∙ not_there name new) (ap (λ n. went_in n later) (sym (is_group name into e new)) ∙ e)))),
      )

  in_turn : GoInTurn later_names later after
  in_turn name into e = elim (cases_Bool (was_gone name)) [ inl t ↦ old_turn name into e (is_old name t) | inr f ↦ new_turn name into e f ]

  turned : (after : Draw → ℕ) × GoInTurn later_names later after
  turned = (after, in_turn)

-- Groups go one after another still, where at most one more is gone, which went into one that stands.
pub turns_go_on : TurnsGoOn
turns_go_on = turned

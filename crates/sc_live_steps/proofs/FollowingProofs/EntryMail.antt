-- What a leader sends of an entry that it counted: the members before it learn it, and those that join are welcomed.
use Rattle.std.proofs.Common.{◌≡◌, ℕ, ◌+◌, ◌-◌, ◌<◌, ◌||◌, Some, not, eqb, Bool, true, false, true≢false, cond, List, [], ◌∷◌, ◌++◌, inl, inr, refl, sym, ◌∙◌, ap, arith, append-nil}
use Rattle.std.specs.List.{AllPairs, filter}
use Rattle.std.proofs.lemmas.Bool.{cases_Bool, cases_eq, cond_both, cond-true, cond-false, eqb-true, eq-eqb, ne_eqb, or_left, or_from, not_from_true, not_from_false}
use Rattle.std.proofs.lemmas.List.Kept.{AllPairs-filter, AllPairs-from_increasing}
use Rattle.sc_node_table.specs.Values.{Draw, Command, Mail, MailBody, Learn, Install, Prepare}
use Rattle.sc_group_table.specs.machine.MachineDefinitions.{base_of}
use Rattle.sc_base.specs.Definitions.{is_member}
use Rattle.sc_base.proofs.Lemmas.{AllPairs-head, AllPairs-tail}
use Rattle.sc_node_table.specs.NodeDefinitions.{learnt_to, welcomed, install_to, welcomed_all, sent, sent_others, ReplicaState, Place, name_of, next, members}
use Rattle.sc_live_steps.specs.following.FollowingDefinitions.{Mark, Teaches, Installs, Prepares, mark_of, Course, Sets, members_at, marks_for, IsLeader, EntriesReport, welcome, reported_of}
use Rattle.sc_live_steps.proofs.FollowingProofs.LeastMembers.{append_one, pushed}
use Rattle.sc_live_steps.proofs.FollowingProofs.MailTables.{same_mark}
use Rattle.sc_law_walks.proofs.WalkLemmas.{none_below}

-- ---- several nodes, each once

-- these marks for each time that an actor stands among some nodes
abbrev pub blocks : List Mark → ℕ → List ℕ → List Mark
blocks marks who [] = []
blocks marks who (node ∷ nodes) = cond (eqb node who) marks [] ++ blocks marks who nodes

once : (marks : List Mark) (who : ℕ) (nodes : List ℕ) → AllPairs (λ x y. x < y) nodes → blocks marks who nodes ≡ cond (is_member nodes who) marks []
once marks who [] up = refl
once marks who (node ∷ nodes) up =
    let rest = once marks who nodes (AllPairs-tail (λ x y. x < y) node nodes up) in
    elim (cases_eq node who) [
      | inl fact ↦ (let t = eq-eqb node who fact in
          let none : is_member nodes who ≡ false = ap (is_member nodes) (sym fact) ∙ none_below node nodes (AllPairs-head (λ x y. x < y) node nodes up) in
          ap (λ b. cond b marks [] ++ blocks marks who nodes) t
          ∙ (ap (λ l. marks ++ l) (rest ∙ ap (λ b. cond b marks []) none)
          ∙ (append-nil marks ∙ sym (cond-true (eqb node who || is_member nodes who) marks [] (or_left (eqb node who) (is_member nodes who) t)))))
      | inr ne ↦ (let f = ne_eqb node who ne in
          ap (λ b. cond b marks [] ++ blocks marks who nodes) f ∙ (rest ∙ ap (λ b. cond (b || is_member nodes who) marks []) (sym f)))
    ]

-- one that passes stands among those that do if it stands there, and one that does not stands nowhere
pub passes : (p : ℕ → Bool) (who : ℕ) → p who ≡ true → (xs : List ℕ) → is_member (filter p xs) who ≡ is_member xs who
passes p who t [] = refl
passes p who t (x ∷ xs) =
    cond_both (p x) (x ∷ filter p xs) (filter p xs) (λ l. is_member l who ≡ (eqb x who || is_member xs who)) (λ _. ap (λ b. eqb x who || b) (passes p who t xs))
    (λ f. passes p who t xs ∙ ap (λ b. b || is_member xs who) (sym (ne_eqb x who (λ e. true≢false (sym t ∙ (ap p (sym e) ∙ f))))))

pub fails : (p : ℕ → Bool) (who : ℕ) → p who ≡ false → (xs : List ℕ) → is_member (filter p xs) who ≡ false
fails p who f [] = refl
fails p who f (x ∷ xs) =
    cond_both (p x) (x ∷ filter p xs) (filter p xs) (λ l. is_member l who ≡ false)
    (λ t. or_from (eqb x who) (is_member (filter p xs) who) (ne_eqb x who (λ e. true≢false (sym t ∙ (ap p e ∙ f)))) (fails p who f xs)) (λ _. fails p who f xs)

-- ---- what is sent to all but the sender

module _ (name : Draw) (who me : ℕ) (body : MailBody) (mark : Mark) (fact : mark_of name me body ≡ Some mark) where
  others_marks : (who ≡ me → ⊥) → (nodes : List ℕ) (mails : List Mail) → marks_for name who (sent_others me nodes body mails) ≡ marks_for name who mails ++ blocks (mark ∷ []) who nodes
  unfolding sent_others
  others_marks apart [] mails = sym (append-nil (marks_for name who mails))
  others_marks apart (node ∷ nodes) mails =
      cond_both (eqb node me) mails (sent me node body mails) (λ l. marks_for name who (sent_others me nodes body l) ≡ marks_for name who mails ++ (cond (eqb node who) (mark ∷ []) [] ++ blocks (mark ∷ []) who nodes))
      (λ t. others_marks apart nodes mails ∙ ap (λ b. marks_for name who mails ++ (cond b (mark ∷ []) [] ++ blocks (mark ∷ []) who nodes)) (sym (ne_eqb node who (λ e. apart (sym e ∙ eqb-true node me t)))))
      (λ _. others_marks apart nodes (sent me node body mails)
      ∙ (ap (λ l. l ++ blocks (mark ∷ []) who nodes) (pushed name who mails me node body mark fact) ∙ append_one (marks_for name who mails) (cond (eqb node who) (mark ∷ []) []) (blocks (mark ∷ []) who nodes)))

  own_marks : who ≡ me → (nodes : List ℕ) (mails : List Mail) → marks_for name who (sent_others me nodes body mails) ≡ marks_for name who mails
  unfolding sent_others
  own_marks own [] mails = refl
  own_marks own (node ∷ nodes) mails =
      cond_both (eqb node me) mails (sent me node body mails) (λ l. marks_for name who (sent_others me nodes body l) ≡ marks_for name who mails) (λ _. own_marks own nodes mails)
      (λ f. own_marks own nodes (sent me node body mails)
      ∙ (pushed name who mails me node body mark fact
      ∙ (ap (λ b. marks_for name who mails ++ cond b (mark ∷ []) []) (ne_eqb node who (λ e. true≢false (sym (eq-eqb node me (e ∙ own)) ∙ f))) ∙ append-nil (marks_for name who mails))))

-- ---- those that come

twice : (b : Bool) (xs : List Mark) (one two : Mark) → (xs ++ cond b (one ∷ []) []) ++ cond b (two ∷ []) [] ≡ xs ++ cond b (one ∷ two ∷ []) []
twice true xs one two = append_one xs (one ∷ []) (two ∷ [])
twice false xs one two = append_one xs [] []

-- what a leader sends to one that comes
abbrev pub welcome_of : ReplicaState → List Mark
welcome_of r = Installs (next r - 1) ∷ cond r.leader.is_first [] (Prepares r.leader.ballot ∷ [])

module _ (who : ℕ) (r : ReplicaState) where
  -- the state, and what is asked for besides, to one node
  abbrev pub with_state : ℕ → List Mail → List Mail
  with_state node mails = sent r.me node (Install (name_of r) (next r - 1) (base_of r.group) r.sets) mails

  abbrev pub with_both : ℕ → List Mail → List Mail
  with_both node mails = sent r.me node (Prepare (name_of r) r.leader.ballot (next r)) (with_state node mails)

  state_marks : (node : ℕ) (mails : List Mail) → marks_for (name_of r) who (with_state node mails) ≡ marks_for (name_of r) who mails ++ cond (eqb node who) (Installs (next r - 1) ∷ []) []
  state_marks node mails = pushed (name_of r) who mails r.me node (Install (name_of r) (next r - 1) (base_of r.group) r.sets) (Installs (next r - 1)) (same_mark (name_of r) (Installs (next r - 1)))

  both_marks : (node : ℕ) (mails : List Mail) → marks_for (name_of r) who (with_both node mails) ≡ marks_for (name_of r) who mails ++ cond (eqb node who) (Installs (next r - 1) ∷ Prepares r.leader.ballot ∷ []) []
  both_marks node mails =
      pushed (name_of r) who (with_state node mails) r.me node (Prepare (name_of r) r.leader.ballot (next r)) (Prepares r.leader.ballot) (same_mark (name_of r) (Prepares r.leader.ballot))
      ∙ (ap (λ l. l ++ cond (eqb node who) (Prepares r.leader.ballot ∷ []) []) (state_marks node mails) ∙ twice (eqb node who) (marks_for (name_of r) who mails) (Installs (next r - 1)) (Prepares r.leader.ballot))

  welcome_marks : (nodes : List ℕ) (mails : List Mail) → marks_for (name_of r) who (welcomed_all nodes (r, mails)).1 ≡ marks_for (name_of r) who mails ++ blocks (welcome_of r) who nodes
  unfolding welcomed_all install_to
  welcome_marks [] mails = sym (append-nil (marks_for (name_of r) who mails))
  welcome_marks (node ∷ nodes) mails = by (λ more. welcome_marks nodes more) r.leader.is_first
    where
      by : ((more : List Mail) → marks_for (name_of r) who (welcomed_all nodes (r, more)).1 ≡ marks_for (name_of r) who more ++ blocks (welcome_of r) who nodes)
          → (b : Bool) → marks_for (name_of r) who (welcomed_all nodes (cond {A = Place} b (r, with_state node mails) (r, with_both node mails))).1
          ≡ marks_for (name_of r) who mails ++ (cond (eqb node who) (Installs (next r - 1) ∷ cond b [] (Prepares r.leader.ballot ∷ [])) [] ++ blocks (welcome_of r) who nodes)
      by rest true =
          rest (with_state node mails)
          ∙ (ap (λ l. l ++ blocks (welcome_of r) who nodes) (state_marks node mails) ∙ append_one (marks_for (name_of r) who mails) (cond (eqb node who) (Installs (next r - 1) ∷ []) []) (blocks (welcome_of r) who nodes))
      by rest false =
          rest (with_both node mails)
          ∙ (ap (λ l. l ++ blocks (welcome_of r) who nodes) (both_marks node mails)
          ∙ append_one (marks_for (name_of r) who mails) (cond (eqb node who) (Installs (next r - 1) ∷ Prepares r.leader.ballot ∷ []) []) (blocks (welcome_of r) who nodes))

-- ---- the whole

module _ (at : Sets) (course : Course) (before : List ℕ) (slot : ℕ) (command : Command) (r : ReplicaState) (mails : List Mail) (l : IsLeader at course before slot r) (who : ℕ) where
  abbrev newcomers : List ℕ
  newcomers = filter (λ node. not (is_member before node)) (members r)

  abbrev old : List Mark
  old = marks_for (name_of r) who mails

  abbrev told_mails : List Mail
  told_mails = sent_others r.me before (Learn (name_of r) slot command) mails

  welcomes : welcome_of r ≡ welcome course slot
  welcomes =
      (let e = l.executed in
      let at_slot : next r - 1 ≡ slot = omega (arith, e) in
      ap (λ n. Installs n ∷ cond r.leader.is_first [] (Prepares r.leader.ballot ∷ [])) at_slot
      ∙ (ap (λ b. Installs slot ∷ cond b [] (Prepares r.leader.ballot ∷ [])) l.first ∙ ap (λ b. Installs slot ∷ cond course.is_first [] (Prepares b ∷ [])) l.ballot))

  new_marks : blocks (welcome_of r) who newcomers ≡ cond (is_member newcomers who) (welcome course slot) []
  new_marks =
      once (welcome_of r) who newcomers (AllPairs-filter (λ x y. x < y) (λ node. not (is_member before node)) (members r) (AllPairs-from_increasing (members r) l.rosters.1.ascending))
      ∙ ap (λ w. cond (is_member newcomers who) w []) welcomes

  -- by which node it is: what it is sent to learn, and the welcome that it is sent
  sent_is : (taught : List Mark) → marks_for (name_of r) who told_mails ≡ old ++ taught → taught ++ cond (is_member newcomers who) (welcome course slot) [] ≡ reported_of at course slot who
      → marks_for (name_of r) who (welcomed_all newcomers (r, told_mails)).1 ≡ old ++ reported_of at course slot who
  sent_is taught first both =
      welcome_marks who r newcomers told_mails
      ∙ (ap (λ l. l ++ blocks (welcome_of r) who newcomers) first
      ∙ (append_one old taught (blocks (welcome_of r) who newcomers) ∙ (ap (λ l. old ++ (taught ++ l)) new_marks ∙ ap (λ l. old ++ l) both)))

  abbrev taught_member : List Mark
  taught_member = cond (is_member (members_at at slot) who) (Teaches slot ∷ []) (cond (is_member (members_at at (slot + 1)) who) (welcome course slot) [])

  own : who ≡ r.me → [] ++ cond (is_member newcomers who) (welcome course slot) [] ≡ reported_of at course slot who
  own fact =
      ap (λ b. cond b (welcome course slot) []) (fails (λ node. not (is_member before node)) who (not_from_true (is_member before who) (ap (is_member before) fact ∙ l.member)) (members r))
      ∙ sym (cond-true (eqb who course.ballot.node) [] taught_member (eq-eqb who course.ballot.node (fact ∙ sym l.mine)))

  other : (who ≡ r.me → ⊥) → cond (is_member before who) (Teaches slot ∷ []) [] ++ cond (is_member newcomers who) (welcome course slot) [] ≡ reported_of at course slot who
  other apart =
      elim (cases_Bool (is_member before who)) [
        | inl t ↦ ap (λ b. cond b (Teaches slot ∷ []) [] ++ cond (is_member newcomers who) (welcome course slot) []) t
            ∙ (ap (λ b. Teaches slot ∷ cond b (welcome course slot) []) (fails (λ node. not (is_member before node)) who (not_from_true (is_member before who) t) (members r))
            ∙ sym (cond-true (is_member (members_at at slot) who) (Teaches slot ∷ []) (cond (is_member (members_at at (slot + 1)) who) (welcome course slot) []) (ap (λ m. is_member m who) l.was ∙ t)))
        | inr f ↦ ap (λ b. cond b (Teaches slot ∷ []) [] ++ cond (is_member newcomers who) (welcome course slot) []) f
            ∙ (ap (λ b. cond b (welcome course slot) []) (passes (λ node. not (is_member before node)) who (not_from_false (is_member before who) f) (members r) ∙ ap (λ m. is_member m who) (sym l.fact))
            ∙ sym (cond-false (is_member (members_at at slot) who) (Teaches slot ∷ []) (cond (is_member (members_at at (slot + 1)) who) (welcome course slot) []) (ap (λ m. is_member m who) l.was ∙ f)))
      ]
      ∙ sym (cond-false (eqb who course.ballot.node) [] taught_member (ne_eqb who course.ballot.node (λ e. apart (e ∙ l.mine))))

  pub tells : marks_for (name_of r) who (welcomed true before (learnt_to true before slot command (r, mails))).1 ≡ old ++ reported_of at course slot who
  unfolding welcomed learnt_to
  tells = elim (cases_eq who r.me) [
    | inl fact ↦ sent_is [] (own_marks (name_of r) who r.me (Learn (name_of r) slot command) (Teaches slot) (same_mark (name_of r) (Teaches slot)) fact before mails ∙ sym (append-nil old)) (own fact)
    | inr ne ↦ sent_is (cond (is_member before who) (Teaches slot ∷ []) [])
        (others_marks (name_of r) who r.me (Learn (name_of r) slot command) (Teaches slot) (same_mark (name_of r) (Teaches slot)) ne before mails ∙ ap (λ l. old ++ l) (once (Teaches slot ∷ []) who before (AllPairs-from_increasing before l.rosters.0.ascending)))
        (other ne)
  ]

-- What a leader sends of an entry that it counted is `reported_of`: the members before the entry learn it, and each that it adds is sent the state, and asked to promise a later ballot.
pub entries_report : EntriesReport
entries_report at course before slot command r mails l who = tells at course before slot command r mails l who

-- What the same mail to several nodes adds: what holds of each mail, and which slots are learnt.
use Rattle.std.proofs.Common.{◌≡◌, ℕ, zero, suc, ◌+◌, ◌<◌, ◌||◌, eqb, true, false, cond, List, [], ◌∷◌, ◌++◌, inl, inr, refl, sym, ◌∙◌, ap, subst, arith, append-nil}
use Rattle.std.specs.List.{flat_map, AllPairs}
use Rattle.std.proofs.lemmas.Bool.{cond_both, cond-true, cond-false, eqb-true, eqb-false, eq-eqb, ne_eqb, or_cases, or_parts, cases_eq}
use Rattle.std.proofs.lemmas.List.Concat.{flat_map-append}
use Rattle.std.proofs.lemmas.List.Kept.{AllPairs-from_increasing}
use Rattle.sc_base.proofs.Lemmas.{same_name, AllPairs-head, AllPairs-tail}
use Rattle.sc_base.specs.Definitions.{Among, Each, same_draw, is_member, IsRoster}
use Rattle.sc_node_table.specs.Values.{Draw, Command, Mail, MailBody, Learn}
use Rattle.sc_words.proofs.PaxosProofs.PaxosLemmas.{Each-push, Each-from_All}
use Rattle.sc_node_table.specs.NodeDefinitions.{sent, sent_all, sent_others, numbers_from}

-- ---- which slots the Learns among mails name

-- the slot that a Learn of a group names
abbrev pub learns_of : Draw → MailBody → List ℕ
learns_of name (Learn group slot command) = cond (same_draw group name) (slot ∷ []) []
learns_of name _ = []

-- the slots that a Learn brings, where the mail is for this actor
abbrev pub learns_for : Draw → ℕ → Mail → List ℕ
learns_for name who mail = cond (eqb mail.to who) (learns_of name mail.body) []

-- the slots that the Learns of a group for an actor name, in their order
abbrev pub learns_to : Draw → ℕ → List Mail → List ℕ
learns_to name who mails = flat_map (learns_for name who) mails

-- a mail from an actor to another
abbrev pub mail_of : ℕ → ℕ → MailBody → Mail
mail_of from to body = record { from = from; to = to; body = body }

-- ---- one mail more

pub learns_push : (name : Draw) (who : ℕ) (mails : List Mail) (mail : Mail) → learns_to name who (mails ++ mail ∷ []) ≡ learns_to name who mails ++ learns_for name who mail
learns_push name who mails mail = flat_map-append (learns_for name who) mails (mail ∷ []) ∙ ap (λ l. learns_to name who mails ++ l) (append-nil (learns_for name who mail))

pub among_push : {X : Type 0} (xs : List X) (y x : X) → Among x xs → Among x (xs ++ y ∷ [])
among_push [] y x a = absurd a
among_push (z ∷ xs) y x (inl same) = inl same
among_push (z ∷ xs) y x (inr a) = inr (among_push xs y x a)

pub last_among : {X : Type 0} (xs : List X) (x : X) → Among x (xs ++ x ∷ [])
last_among [] x = inl refl
last_among (y ∷ xs) x = inr (last_among xs x)

-- ---- the same to each

module _ (me : ℕ) (body : MailBody) where
  pub all_each : (P : Mail → Type 0) (nodes : List ℕ) (mails : List Mail) → Each P mails → ((node : ℕ) → Among node nodes → P (mail_of me node body)) → Each P (sent_all me nodes body mails)
  unfolding sent_all
  all_each P [] mails e f = e
  all_each P (node ∷ nodes) mails e f = all_each P nodes (sent me node body mails) (Each-push P mails (mail_of me node body) e (f node (inl refl))) (λ other a. f other (inr a))

  pub all_learns : (name : Draw) (who : ℕ) (nodes : List ℕ) (mails : List Mail) → learns_of name body ≡ [] → learns_to name who (sent_all me nodes body mails) ≡ learns_to name who mails
  unfolding sent_all
  all_learns name who [] mails e = refl
  all_learns name who (node ∷ nodes) mails e =
      all_learns name who nodes (sent me node body mails) e
      ∙ learns_push name who mails (mail_of me node body)
      ∙ ap (λ l. learns_to name who mails ++ l) (cond_both (eqb node who) (learns_of name body) [] (λ l. l ≡ []) (λ _. e) (λ _. refl))
      ∙ append-nil (learns_to name who mails)

  pub all_kept : (nodes : List ℕ) (mails : List Mail) (mail : Mail) → Among mail mails → Among mail (sent_all me nodes body mails)
  unfolding sent_all
  all_kept [] mails mail a = a
  all_kept (node ∷ nodes) mails mail a = all_kept nodes (sent me node body mails) mail (among_push mails (mail_of me node body) mail a)

  pub all_reached : (nodes : List ℕ) (mails : List Mail) (node : ℕ) → Among node nodes → Among (mail_of me node body) (sent_all me nodes body mails)
  unfolding sent_all
  all_reached [] mails node a = absurd a
  all_reached (other ∷ nodes) mails node (inl same) =
      all_kept nodes (sent me other body mails) (mail_of me node body) (subst (λ n. Among (mail_of me n body) (sent me other body mails)) same (last_among mails (mail_of me other body)))
  all_reached (other ∷ nodes) mails node (inr a) = all_reached nodes (sent me other body mails) node a

  -- ---- .. but for the sender

  others_by : (P : List Mail → Type 0) (node : ℕ) (nodes : List ℕ) (mails : List Mail) → (node ≡ me → P (sent_others me nodes body mails)) → ((node ≡ me → ⊥) → P (sent_others me nodes body (sent me node body mails)))
      → P (sent_others me (node ∷ nodes) body mails)
  unfolding sent_others
  others_by P node nodes mails own other =
      cond_both (eqb node me) mails (sent me node body mails) (λ l. P (sent_others me nodes body l)) (λ t. own (eqb-true node me t)) (λ f. other (eqb-false node me f))

  pub others_each : (P : Mail → Type 0) (nodes : List ℕ) (mails : List Mail) → Each P mails → ((node : ℕ) → Among node nodes → (node ≡ me → ⊥) → P (mail_of me node body)) → Each P (sent_others me nodes body mails)
  unfolding sent_others
  others_each P [] mails e f = e
  others_each P (node ∷ nodes) mails e f =
      others_by (Each P) node nodes mails (λ _. others_each P nodes mails e (λ n a. f n (inr a)))
      (λ ne. others_each P nodes (sent me node body mails) (Each-push P mails (mail_of me node body) e (f node (inl refl) ne)) (λ n a. f n (inr a)))

  pub others_kept : (nodes : List ℕ) (mails : List Mail) (mail : Mail) → Among mail mails → Among mail (sent_others me nodes body mails)
  unfolding sent_others
  others_kept [] mails mail a = a
  others_kept (node ∷ nodes) mails mail a =
      others_by (Among mail) node nodes mails (λ _. others_kept nodes mails mail a) (λ _. others_kept nodes (sent me node body mails) mail (among_push mails (mail_of me node body) mail a))

-- ---- members, each once

none_below : (x : ℕ) (xs : List ℕ) → Each (λ y. x < y) xs → is_member xs x ≡ false
none_below x [] e = refl
none_below x (y ∷ xs) e = ap (λ b. b || is_member xs x) (ne_eqb y x (λ same. absurd (let lt = e.0 in omega (arith, lt, same)))) ∙ none_below x xs e.1

zero_more : (n : ℕ) → n ≡ n + 0
zero_more n = omega arith

one_on : (n m : ℕ) → n + 1 + m ≡ n + suc m
one_on n m = omega arith

suc_on : (from count : ℕ) → numbers_from from (suc count) ≡ numbers_from from (count + 1)
suc_on from count = (let e : suc count ≡ count + 1 = omega arith in ap (numbers_from from) e)

more_suc : (from count : ℕ) → numbers_from from (suc count + 1) ≡ numbers_from from (suc (suc count))
more_suc from count = (let e : suc count + 1 ≡ suc (suc count) = omega arith in ap (numbers_from from) e)

-- numbers one after another, and one more
pub numbers_push : (from count : ℕ) → numbers_from from (count + 1) ≡ numbers_from from count ++ (from + count) ∷ []
numbers_push from zero = ap (λ n. n ∷ []) (zero_more from)
numbers_push from (suc count) =
    more_suc from count ∙ ap (λ l. from ∷ l) (suc_on (from + 1) count ∙ numbers_push (from + 1) count ∙ ap (λ n. numbers_from (from + 1) count ++ n ∷ []) (one_on from count))

module _ (me : ℕ) (name : Draw) (slot : ℕ) (command : Command) (who : ℕ) (other : who ≡ me → ⊥) where
  -- what a Learn to a node adds to what an actor learns
  learn_for : (node : ℕ) → node ≡ who → learns_for name who (mail_of me node (Learn name slot command)) ≡ slot ∷ []
  learn_for node e =
      cond-true (eqb node who) (learns_of name (Learn name slot command)) [] (eq-eqb node who e) ∙ cond-true (same_draw name name) (slot ∷ []) [] (same_name name name refl)

  learn_past : (node : ℕ) → (node ≡ who → ⊥) → learns_for name who (mail_of me node (Learn name slot command)) ≡ []
  learn_past node ne = cond-false (eqb node who) (learns_of name (Learn name slot command)) [] (ne_eqb node who ne)

  learns_past : (node : ℕ) (mails : List Mail) → (node ≡ who → ⊥) → learns_to name who (sent me node (Learn name slot command) mails) ≡ learns_to name who mails
  learns_past node mails ne = learns_push name who mails (mail_of me node (Learn name slot command)) ∙ ap (λ l. learns_to name who mails ++ l) (learn_past node ne) ∙ append-nil (learns_to name who mails)

  -- to one who is none of them
  pub learns_none : (nodes : List ℕ) (mails : List Mail) → is_member nodes who ≡ false → learns_to name who (sent_others me nodes (Learn name slot command) mails) ≡ learns_to name who mails
  unfolding sent_others
  learns_none [] mails e = refl
  learns_none (node ∷ nodes) mails e =
      let parts = or_parts (eqb node who) (is_member nodes who) e in
      others_by me (Learn name slot command) (λ l. learns_to name who l ≡ learns_to name who mails) node nodes mails (λ _. learns_none nodes mails parts.1)
      (λ _. learns_none nodes (sent me node (Learn name slot command) mails) parts.1 ∙ learns_past node mails (eqb-false node who parts.0))

  -- to one of them
  pub learns_one : (nodes : List ℕ) (mails : List Mail) → AllPairs (λ x y. x < y) nodes → is_member nodes who ≡ true → learns_to name who (sent_others me nodes (Learn name slot command) mails) ≡ learns_to name who mails ++ slot ∷ []
  unfolding sent_others
  learns_one [] mails up e = cc
  learns_one (node ∷ nodes) mails up e =
      let above = Each-from_All (λ y. node < y) nodes (AllPairs-head (λ x y. x < y) node nodes up) in
      let rest = AllPairs-tail (λ x y. x < y) node nodes up in
      elim (cases_eq node who) [
        | inl here ↦ others_by me (Learn name slot command) (λ l. learns_to name who l ≡ learns_to name who mails ++ slot ∷ []) node nodes mails (λ own. absurd (other (sym here ∙ own)))
            (λ _. learns_none nodes (sent me node (Learn name slot command) mails) (ap (is_member nodes) (sym here) ∙ none_below node nodes above)
            ∙ learns_push name who mails (mail_of me node (Learn name slot command)) ∙ ap (λ l. learns_to name who mails ++ l) (learn_for node here))
        | inr ne ↦ (
            let m : is_member nodes who ≡ true = elim (or_cases (eqb node who) (is_member nodes who) e) [ inl t ↦ absurd (ne (eqb-true node who t)) | inr k ↦ k ] in
            others_by me (Learn name slot command) (λ l. learns_to name who l ≡ learns_to name who mails ++ slot ∷ []) node nodes mails (λ _. learns_one nodes mails rest m)
            (λ _. learns_one nodes (sent me node (Learn name slot command) mails) rest m ∙ ap (λ l. l ++ slot ∷ []) (learns_past node mails ne)))
      ]

-- the members of a set rise
pub roster_rises : (members : List ℕ) → IsRoster members → AllPairs (λ x y. x < y) members
roster_rises members fact = AllPairs-from_increasing members fact.ascending

-- Groups and transactions in their lists, after an entry.
use Rattle.std.specs.Prelude.{map, ◌++◌}
use Rattle.std.specs.Option.{option_map, option_and_then, option_or, option_to_list}
use Rattle.std.proofs.Common.{◌≡◌, Bool, true, false, cond, List, [], ◌∷◌, ◌⊎◌, inl, inr, Option, Some, None, refl, sym, ◌∙◌, ap}
use Rattle.std.proofs.lemmas.Bool.{cases_Bool, cond-true, cond-false, cond_both, and_from, and_left}
use Rattle.std.proofs.lemmas.List.Folds.{find-append}
use Rattle.sc_base.specs.Definitions.{Among, same_draw}
use Rattle.sc_base.specs.declared.names.Draw.{Draw}
use Rattle.sc_base.proofs.Lemmas.{draw_is, same_name}
use Rattle.sc_words.specs.declared.commands.cores.Base.{Base}
use Rattle.sc_words.specs.declared.commands.votes.Outcome.{Outcome}
use Rattle.sc_group_table.specs.machine.MachineDefinitions.{Group, group_of}
use Rattle.sc_meaning.specs.declared.entries.Transaction.{Transaction}
use Rattle.sc_meaning.specs.entries.EntryDefinitions.{is_of, amended, concluded, with_outcome as concludes, with_watcher, transaction_in, decision, is_named, named_group, with_group, groups_after}
use Rattle.sc_law_entries.specs.ring.RingDefinitions.{Story, Stories, put, with_story, with_decision, Groups}
use Rattle.sc_meaning.proofs.EntriesProofs.EntryLemmas.{draw_cases, other_name, found_name}
use Rattle.sc_law_entries.proofs.RingProofs.Cover.{at-same, at-is, at-other}
use Rattle.sc_law_entries.proofs.RingProofs.Effects.{outcome_of}
use Rattle.sc_paxos_law.proofs.Lemmas.{Among-either, from_map}
use Rattle.sc_words.proofs.PaxosProofs.PaxosLemmas.{find_found}
use Rattle.sc_law_entries.proofs.RingProofs.Finds.{find_map, some_none}
use Rattle.std.proofs.lemmas.Option.{none-some, same_Some}

-- ---- groups

-- groups by their names
abbrev pub groups_in : List Group → Groups
groups_in groups name = named_group name groups

abbrev replaced : Draw → Group → Group → Group
replaced name after group = cond (is_named name group) after group

replaced_name : (name : Draw) (after : Group) → after.core.id ≡ name → (h : Draw) (u : Group) → is_named h (replaced name after u) ≡ is_named h u
replaced_name name after id h u =
    cond_both (is_named name u) after u (λ (x : Group). is_named h x ≡ is_named h u)
    (λ e. ap (λ n. same_draw n h) (id ∙ sym (draw_is u.core.id name e))) (λ e. refl)

replaced_same : (name : Draw) (after : Group) (h : Draw) → h ≡ name → (o : Option Group) → ((u : Group) → o ≡ Some u → u.core.id ≡ h) → (s : Group) → o ≡ Some s → option_map (replaced name after) o ≡ Some after
replaced_same name after h q None named s e = absurd (none-some s e)
replaced_same name after h q (Some u) named s e = ap Some (cond-true (is_named name u) after u (same_name u.core.id name (named u refl ∙ q)))

replaced_other : (name : Draw) (after : Group) (h : Draw) → (h ≡ name → ⊥) → (o : Option Group) → ((u : Group) → o ≡ Some u → u.core.id ≡ h) → option_map (replaced name after) o ≡ o
replaced_other name after h ne None named = refl
replaced_other name after h ne (Some u) named = ap Some (cond-false (is_named name u) after u (other_name u.core.id name (λ q. ne (sym (named u refl) ∙ q))))

pub with_group_is : (name : Draw) (after s : Group) (groups : List Group) → after.core.id ≡ name → named_group name groups ≡ Some s → (h : Draw) → named_group h (with_group name after groups) ≡ put (groups_in groups) name (Some after) h
with_group_is name after s groups id fact h =
    find_map (is_named h) (replaced name after) (replaced_name name after id h) groups
    ∙ elim (draw_cases h name) as (λ _. option_map (replaced name after) (named_group h groups) ≡ put (groups_in groups) name (Some after) h) [
      | inl q ↦ replaced_same name after h q (named_group h groups) (λ u e. found_name h groups u e) s (ap (groups_in groups) q ∙ fact) ∙ sym (at-is (groups_in groups) name (Some after) h q)
      | inr ne ↦ replaced_other name after h ne (named_group h groups) (λ u e. found_name h groups u e) ∙ sym (at-other (groups_in groups) name (Some after) h ne)
    ]

-- the groups with a child, if there is one
abbrev pub with_child : Groups → Option Base → Groups
with_child gs None = gs
with_child gs (Some base) = put gs base.core.id (Some (group_of base))

or_none : {X : Type 0} (o : Option X) → option_or o None ≡ o
or_none None = refl
or_none (Some x) = refl

none_or : {X : Type 0} (o p : Option X) → o ≡ None → option_or o p ≡ p
none_or None p e = refl
none_or (Some x) p e = absurd (let f : Some x ≡ None = e in cc)

one_found : (h : Draw) (base : Base) (o : Option Group) → (h ≡ base.core.id → o ≡ None) → (f : Groups) → f h ≡ o → option_or o (cond (is_named h (group_of base)) (Some (group_of base)) None) ≡ put f base.core.id (Some (group_of base)) h
one_found h base o fresh f fact =
    elim (draw_cases h base.core.id) [
      | inl q ↦ none_or o (cond (is_named h (group_of base)) (Some (group_of base)) None) (fresh q)
          ∙ cond-true (is_named h (group_of base)) (Some (group_of base)) None (same_name base.core.id h (sym q)) ∙ sym (at-is f base.core.id (Some (group_of base)) h q)
      | inr ne ↦ ap (option_or o) (cond-false (is_named h (group_of base)) (Some (group_of base)) None (other_name base.core.id h (λ q. ne (sym q)))) ∙ or_none o
          ∙ sym fact ∙ sym (at-other f base.core.id (Some (group_of base)) h ne)
    ]

append_nil : {X : Type 0} (xs : List X) → xs ++ [] ≡ xs
append_nil [] = refl
append_nil (x ∷ xs) = ap (λ l. x ∷ l) (append_nil xs)

-- the groups after an entry
pub groups_are : (s after : Group) (child : Option Base) (groups : List Group) → after.core.id ≡ s.core.id → named_group s.core.id groups ≡ Some s → ((base : Base) → child ≡ Some base → put (groups_in groups) s.core.id (Some after) base.core.id ≡ None)
    → (h : Draw) → named_group h (groups_after s after child groups) ≡ with_child (put (groups_in groups) s.core.id (Some after)) child h
groups_are s after None groups id fact fresh h = ap (named_group h) (append_nil (with_group s.core.id after groups)) ∙ with_group_is s.core.id after s groups id fact h
groups_are s after (Some base) groups id fact fresh h =
    let f = put (groups_in groups) s.core.id (Some after) in
    find-append (is_named h) (with_group s.core.id after groups) (group_of base ∷ [])
    ∙ one_found h base (named_group h (with_group s.core.id after groups))
    (λ q. with_group_is s.core.id after s groups id fact h ∙ ap f q ∙ fresh base refl) f (sym (with_group_is s.core.id after s groups id fact h))

-- each group is found by its name
abbrev pub AreFound : List Group → Type 0
AreFound groups = (u : Group) → Among u groups → named_group u.core.id groups ≡ Some u

replaced_cases : (name : Draw) (after v : Group) → ((is_named name v ≡ true) × (replaced name after v ≡ after)) ⊎ ((is_named name v ≡ false) × (replaced name after v ≡ v))
replaced_cases name after v = elim (cases_Bool (is_named name v)) [ inl t ↦ inl (t, cond-true (is_named name v) after v t) | inr t ↦ inr (t, cond-false (is_named name v) after v t) ]

false_true : (b : Bool) → b ≡ false → b ≡ true → ⊥
false_true b p q = absurd (let f : false ≡ true = sym p ∙ q in cc)

child_keeps : (f : Groups) (child : Option Base) (v : Group) → f v.core.id ≡ Some v → ((base : Base) → child ≡ Some base → v.core.id ≡ base.core.id → ⊥) → with_child f child v.core.id ≡ Some v
child_keeps f None v e ne = e
child_keeps f (Some base) v e ne = at-other f base.core.id (Some (group_of base)) v.core.id (ne base refl) ∙ e

child_found : (f : Groups) (child : Option Base) (u : Group) → Among u (map group_of (option_to_list child)) → with_child f child u.core.id ≡ Some u
child_found f None u a = absurd a
child_found f (Some base) u (inl e) = at-is f base.core.id (Some (group_of base)) u.core.id (ap (λ (x : Group). x.core.id) (sym e)) ∙ ap Some e
child_found f (Some base) u (inr a) = absurd a

pub found_after : (s after : Group) (child : Option Base) (groups : List Group) → after.core.id ≡ s.core.id → named_group s.core.id groups ≡ Some s → ((base : Base) → child ≡ Some base → put (groups_in groups) s.core.id (Some after) base.core.id ≡ None)
    → AreFound groups → AreFound (groups_after s after child groups)
found_after s after child groups id fact fresh found u a =
    let f = put (groups_in groups) s.core.id (Some after) in
    let all = groups_are s after child groups id fact fresh in
    let old : (v : Group) → f v.core.id ≡ Some v → with_child f child v.core.id ≡ Some v =
    λ v e. child_keeps f child v e (λ base q. (λ w. some_none v (sym e ∙ ap f w ∙ fresh base q))) in
    elim (Among-either u (with_group s.core.id after groups) (map group_of (option_to_list child)) a) [
      | inl b ↦ (let r = from_map (replaced s.core.id after) groups u b in elim (replaced_cases s.core.id after r.0) [
        | inl c ↦ (
            let u_is : u ≡ after = sym r.2 ∙ c.1 in
            all u.core.id ∙ old u (ap f (ap (λ (x : Group). x.core.id) u_is ∙ id) ∙ at-same (groups_in groups) s.core.id (Some after) ∙ ap Some (sym u_is)))
        | inr c ↦ (
            let u_is : u ≡ r.0 = sym r.2 ∙ c.1 in
            let here : groups_in groups u.core.id ≡ Some u = ap (λ (x : Group). named_group x.core.id groups) u_is ∙ found r.0 r.1 ∙ ap Some (sym u_is) in
            all u.core.id ∙ old u (at-other (groups_in groups) s.core.id (Some after) u.core.id
            (λ q. false_true (is_named s.core.id r.0) c.0 (same_name r.0.core.id s.core.id (ap (λ (x : Group). x.core.id) (sym u_is) ∙ q))) ∙ here))
      ])
      | inr b ↦ all u.core.id ∙ child_found f child u b
    ]

-- ---- transactions

-- who coordinates a transaction, and what was decided
abbrev pub brief : Transaction → Draw × Option Outcome
brief transaction = (transaction.coordinator, transaction.outcome)

abbrev pub story_brief : Story → Draw × Option Outcome
story_brief story = (story.coordinator, story.outcome)

-- the transactions and the stories say the same
abbrev pub Agree : List Transaction → Stories → Type 0
Agree transactions stories = (tx : Draw) → option_map brief (transaction_in tx transactions) ≡ option_map story_brief (stories tx)

outcome_by : (o : Option Transaction) → option_and_then (λ (t : Transaction). t.outcome) o ≡ option_and_then (λ (b : Draw × Option Outcome). b.1) (option_map brief o)
outcome_by None = refl
outcome_by (Some t) = refl

story_outcome : (o : Option Story) → option_and_then (λ (b : Draw × Option Outcome). b.1) (option_map story_brief o) ≡ outcome_of o
story_outcome None = refl
story_outcome (Some y) = refl

-- what was decided is what the story records
pub decision_is : (transactions : List Transaction) (stories : Stories) → Agree transactions stories → (tx : Draw) → decision tx transactions ≡ outcome_of (stories tx)
decision_is transactions stories agree tx =
    outcome_by (transaction_in tx transactions) ∙ ap (option_and_then (λ (b : Draw × Option Outcome). b.1)) (agree tx) ∙ story_outcome (stories tx)

transaction_named : (h : Draw) (ts : List Transaction) (t : Transaction) → transaction_in h ts ≡ Some t → t.tx ≡ h
transaction_named h ts t e = draw_is t.tx h (find_found (λ (x : Transaction). same_draw x.tx h) ts t e).1

no_transaction : (o : Option Transaction) (p : Option Story) → option_map brief o ≡ option_map story_brief p → p ≡ None → o ≡ None
no_transaction None p e n = refl
no_transaction (Some t) p e n = absurd (let f : Some (brief t) ≡ None = e ∙ ap (option_map story_brief) n in cc)

-- a transaction that is begun
pub agree_begun : (ts : List Transaction) (ys : Stories) (t : Transaction) (y : Story) → Agree ts ys → ys t.tx ≡ None → brief t ≡ story_brief y → Agree (ts ++ t ∷ []) (put ys t.tx (Some y))
agree_begun ts ys t y agree fresh same h =
    ap (option_map brief) (find-append (λ (x : Transaction). same_draw x.tx h) ts (t ∷ []))
    ∙ elim (draw_cases h t.tx) as (λ _. option_map brief (option_or (transaction_in h ts) (cond (same_draw t.tx h) (Some t) None)) ≡ option_map story_brief (put ys t.tx (Some y) h)) [
      | inl q ↦ ap (option_map brief) (none_or (transaction_in h ts) (cond (same_draw t.tx h) (Some t) None) (no_transaction (transaction_in h ts) (ys h) (agree h) (ap ys q ∙ fresh)) ∙ cond-true (same_draw t.tx h) (Some t) None (same_name t.tx h (sym q)))
          ∙ ap Some same ∙ ap (option_map story_brief) (sym (at-is ys t.tx (Some y) h q))
      | inr ne ↦ ap (λ o. option_map brief (option_or (transaction_in h ts) o)) (cond-false (same_draw t.tx h) (Some t) None (other_name t.tx h (λ q. ne (sym q)))) ∙ ap (option_map brief) (or_none (transaction_in h ts))
          ∙ agree h ∙ ap (option_map story_brief) (sym (at-other ys t.tx (Some y) h ne))
    ]

abbrev amends : Draw → Draw → (Transaction → Transaction) → Transaction → Transaction
amends tx coordinator change t = cond (is_of tx coordinator t) (change t) t

amends_name : (tx c : Draw) (change : Transaction → Transaction) → ((t : Transaction) → (change t).tx ≡ t.tx) → (h : Draw) (t : Transaction) → same_draw (amends tx c change t).tx h ≡ same_draw t.tx h
amends_name tx c change keeps h t = cond_both (is_of tx c t) (change t) t (λ (x : Transaction). same_draw x.tx h ≡ same_draw t.tx h) (λ e. ap (λ n. same_draw n h) (keeps t)) (λ e. refl)

amended_found : (tx c : Draw) (change : Transaction → Transaction) → ((t : Transaction) → (change t).tx ≡ t.tx) → (ts : List Transaction) (h : Draw) → transaction_in h (amended tx c change ts) ≡ option_map (amends tx c change) (transaction_in h ts)
amended_found tx c change keeps ts h = find_map (λ (t : Transaction). same_draw t.tx h) (amends tx c change) (amends_name tx c change keeps h) ts

-- a transaction that is changed with its story
module _ (ts : List Transaction) (ys : Stories) (tx c : Draw) (change : Transaction → Transaction) (keeps : (t : Transaction) → (change t).tx ≡ t.tx) (recorded : Story → Story) (agree : Agree ts ys) where
  other_reported : (h : Draw) → (h ≡ tx → ⊥) → (o : Option Transaction) → ((t : Transaction) → o ≡ Some t → t.tx ≡ h) → option_map brief (option_map (amends tx c change) o) ≡ option_map brief o
  other_reported h ne None named = refl
  other_reported h ne (Some t) named = ap (λ (x : Transaction). Some (brief x)) (cond-false (is_of tx c t) (change t) t (and_left (same_draw t.tx tx) (same_draw t.coordinator c) (other_name t.tx tx (λ q. ne (sym (named t refl) ∙ q)))))

  same_reported : (h : Draw) → h ≡ tx → (o : Option Transaction) → ((t : Transaction) → o ≡ Some t → t.tx ≡ h) → (p : Option Story) → option_map brief o ≡ option_map story_brief p
      → ((t : Transaction) (y : Story) → o ≡ Some t → p ≡ Some y → brief t ≡ story_brief y → brief (amends tx c change t) ≡ story_brief (recorded y))
      → option_map brief (option_map (amends tx c change) o) ≡ option_map story_brief (option_map recorded p)
  same_reported h q None named None e k = refl
  same_reported h q None named (Some y) e k = absurd (let f : None ≡ Some (story_brief y) = e in cc)
  same_reported h q (Some t) named None e k = absurd (let f : Some (brief t) ≡ None = e in cc)
  same_reported h q (Some t) named (Some y) e k = ap Some (k t y refl refl (same_Some (brief t) (story_brief y) e))

  agree_amended : ((t : Transaction) (y : Story) → t.tx ≡ tx → ys tx ≡ Some y → brief t ≡ story_brief y → brief (amends tx c change t) ≡ story_brief (recorded y)) → Agree (amended tx c change ts) (with_story ys tx recorded)
  agree_amended k h =
      ap (option_map brief) (amended_found tx c change keeps ts h)
      ∙ elim (draw_cases h tx) as (λ _. option_map brief (option_map (amends tx c change) (transaction_in h ts)) ≡ option_map story_brief (with_story ys tx recorded h)) [
        | inl q ↦ same_reported h q (transaction_in h ts) (λ t e. transaction_named h ts t e) (ys h) (agree h)
            (λ t y e p b. k t y (transaction_named h ts t e ∙ q) (ap ys (sym q) ∙ p) b)
            ∙ ap (λ o. option_map story_brief (option_map recorded o)) (ap ys q) ∙ ap (option_map story_brief) (sym (at-is ys tx (option_map recorded (ys tx)) h q))
        | inr ne ↦ other_reported h ne (transaction_in h ts) (λ t e. transaction_named h ts t e) ∙ agree h ∙ ap (option_map story_brief) (sym (at-other ys tx (option_map recorded (ys tx)) h ne))
      ]

same_briefs : (recorded : Story → Story) → ((y : Story) → story_brief (recorded y) ≡ story_brief y) → (o : Option Story) → option_map story_brief (option_map recorded o) ≡ option_map story_brief o
same_briefs recorded same None = refl
same_briefs recorded same (Some y) = ap Some (same y)

-- what changes no story's outcome
pub agree_with_story : (ts : List Transaction) (ys : Stories) (tx : Draw) (recorded : Story → Story) → Agree ts ys → ((y : Story) → story_brief (recorded y) ≡ story_brief y) → Agree ts (with_story ys tx recorded)
agree_with_story ts ys tx recorded agree same h =
    elim (draw_cases h tx) [
      | inl q ↦ agree h ∙ ap (option_map story_brief) (ap ys q) ∙ sym (same_briefs recorded same (ys tx)) ∙ ap (option_map story_brief) (sym (at-is ys tx (option_map recorded (ys tx)) h q))
      | inr ne ↦ agree h ∙ ap (option_map story_brief) (sym (at-other ys tx (option_map recorded (ys tx)) h ne))
    ]

-- a watcher that is named
watcher_brief : (tx c : Draw) (watcher : Option Draw) (t : Transaction) → brief (amends tx c (with_watcher watcher) t) ≡ brief t
watcher_brief tx c watcher t = cond_both (is_of tx c t) (with_watcher watcher t) t (λ (x : Transaction). brief x ≡ brief t) (λ e. refl) (λ e. refl)

pub agree_watcher : (ts : List Transaction) (ys : Stories) (tx c : Draw) (watcher : Option Draw) (recorded : Story → Story) → Agree ts ys → ((y : Story) → story_brief (recorded y) ≡ story_brief y) → Agree (amended tx c (with_watcher watcher) ts) (with_story ys tx recorded)
agree_watcher ts ys tx c watcher recorded agree same =
    agree_amended ts ys tx c (with_watcher watcher) (λ t. refl) recorded agree (λ t y named fact b. watcher_brief tx c watcher t ∙ b ∙ sym (same y))

-- an outcome, of the group that coordinates
pub agree_decided : (ts : List Transaction) (ys : Stories) (tx c : Draw) (o : Outcome) → Agree ts ys → ((y : Story) → ys tx ≡ Some y → y.coordinator ≡ c) → Agree (amended tx c (concludes (Some o)) ts) (with_story ys tx (with_decision (Some o)))
agree_decided ts ys tx c o agree coord =
    agree_amended ts ys tx c (concludes (Some o)) (λ t. refl) (with_decision (Some o)) agree
    (λ t y named fact b. (
    let mine : t.coordinator ≡ c = ap (λ (x : Draw × Option Outcome). x.0) b ∙ coord y fact in
    ap brief (cond-true (is_of tx c t) (concludes (Some o) t) t (and_from (same_draw t.tx tx) (same_draw t.coordinator c) (same_name t.tx tx named) (same_name t.coordinator c mine)))
    ∙ ap (λ n. (n, Some o)) (ap (λ (x : Draw × Option Outcome). x.0) b)))

pub agree_concluded : (ts : List Transaction) (ys : Stories) (tx c : Draw) (o : Option Outcome) → Agree ts ys → ((x : Outcome) → o ≡ Some x → (y : Story) → ys tx ≡ Some y → y.coordinator ≡ c) → Agree (concluded o tx c ts) (with_story ys tx (with_decision o))
agree_concluded ts ys tx c None agree coord = agree_with_story ts ys tx (with_decision None) agree (λ y. refl)
agree_concluded ts ys tx c (Some o) agree coord = agree_decided ts ys tx c o agree (coord o refl)

-- What entries make of the decisions that parties go by.
use Rattle.std.proofs.Common.{◌≡◌, true, false, cond, ◌&&◌, List, [], ◌∷◌, ◌++◌, Option, Some, None, inl, inr, refl, sym, ap, ◌∙◌}
use Rattle.std.specs.List.{find}
use Rattle.std.specs.Option.{option_and_then}
use Rattle.std.proofs.lemmas.Bool.{cases_Bool, cond-true, cond-false, and_from, and_parts}
use Rattle.std.proofs.lemmas.Option.{same_Some}
use Rattle.sc_base.specs.Definitions.{same_draw}
use Rattle.sc_base.specs.declared.names.Draw.{Draw}
use Rattle.sc_base.proofs.Lemmas.{draw_is, same_name}
use Rattle.sc_words.specs.declared.commands.commands.Command.TheVariants.{Finish}
use Rattle.sc_words.specs.declared.commands.cores.Lock.{Lock}
use Rattle.sc_words.specs.declared.commands.cores.Lock.TheVariants.{Free, Coordinating, Promised, Watching}
use Rattle.sc_words.specs.declared.commands.votes.Outcome.{Outcome}
use Rattle.sc_words.specs.declared.commands.votes.Outcome.TheVariants.{Abort}
use Rattle.sc_group_table.specs.machine.MachineDefinitions.{Group, applied, locked_in}
use Rattle.sc_meaning.specs.declared.entries.Transaction.{Transaction}
use Rattle.sc_meaning.specs.entries.EntryDefinitions.{amended, concluded, decision, is_of, transaction_in, with_outcome, with_watcher, after_outcome, effective_by, is_commit}

-- the commit in what was decided, if it is one
abbrev pub commit_in : Option Outcome → Option Outcome
commit_in None = None
commit_in (Some outcome) = cond (is_commit outcome) (Some outcome) None

-- a group after a commit, if there is one
abbrev after_commit : Option Outcome → Draw → Group → Group
after_commit None tx group = group
after_commit (Some outcome) tx group = (applied group (Finish tx outcome)).0

by_commit : (decided : Option Outcome) (tx : Draw) (group : Group) → after_outcome decided tx group ≡ after_commit (commit_in decided) tx group
by_commit None tx group = refl
by_commit (Some outcome) tx group =
    elim (is_commit outcome) as (λ b. cond b (applied group (Finish tx outcome)).0 group ≡ after_commit (cond b (Some outcome) None) tx group) [ true ↦ refl | false ↦ refl ]

-- only a commit changes a party
pub same_commit : (one other : Option Outcome) (tx : Draw) (group : Group) → commit_in one ≡ commit_in other → after_outcome one tx group ≡ after_outcome other tx group
same_commit one other tx group e = by_commit one tx group ∙ ap (λ o. after_commit o tx group) e ∙ sym (by_commit other tx group)

-- no commit changes nothing
pub no_commit : (decided : Option Outcome) (tx : Draw) (group : Group) → commit_in decided ≡ None → after_outcome decided tx group ≡ group
no_commit decided tx group e = by_commit decided tx group ∙ ap (λ o. after_commit o tx group) e

-- a party goes by the decision of its own transaction alone
pub same_party : (lock : Lock) (one other : List Transaction) (group : Group) → ((tx : Draw) → locked_in lock ≡ Some tx → commit_in (decision tx one) ≡ commit_in (decision tx other))
    → effective_by lock one group ≡ effective_by lock other group
same_party Free one other group same = refl
same_party (Coordinating tx body order heard) one other group same = refl
same_party (Promised tx offer) one other group same = same_commit (decision tx one) (decision tx other) tx group (same tx refl)
same_party (Watching tx watch) one other group same = same_commit (decision tx one) (decision tx other) tx group (same tx refl)

-- ---- transactions that change

-- one more, which is open
pub one_begun : (transactions : List Transaction) (new : Transaction) (tx : Draw) → new.outcome ≡ None → decision tx (transactions ++ new ∷ []) ≡ decision tx transactions
one_begun [] new tx open_now = elim (same_draw new.tx tx) as (λ b. option_and_then (λ (t : Transaction). t.outcome) (cond b (Some new) None) ≡ None) [ true ↦ open_now | false ↦ refl ]
one_begun (t ∷ ts) new tx open_now =
    elim (cases_Bool (same_draw t.tx tx)) [
      | inl h ↦ ap (option_and_then (λ (x : Transaction). x.outcome)) (cond-true (same_draw t.tx tx) (Some t) _ h) ∙ sym (ap (option_and_then (λ (x : Transaction). x.outcome)) (cond-true (same_draw t.tx tx) (Some t) _ h))
      | inr h ↦ ap (option_and_then (λ (x : Transaction). x.outcome)) (cond-false (same_draw t.tx tx) (Some t) _ h) ∙ one_begun ts new tx open_now ∙ sym (ap (option_and_then (λ (x : Transaction). x.outcome)) (cond-false (same_draw t.tx tx) (Some t) _ h))
    ]

-- what is found first, by what it is
pub found_first : (t : Transaction) (ts : List Transaction) (tx : Draw) → decision tx (t ∷ ts) ≡ cond (same_draw t.tx tx) t.outcome (decision tx ts)
found_first t ts tx = elim (same_draw t.tx tx) as (λ b. option_and_then (λ (x : Transaction). x.outcome) (cond b (Some t) (find (λ (x : Transaction). same_draw x.tx tx) ts)) ≡ cond b t.outcome (decision tx ts)) [ true ↦ refl | false ↦ refl ]

-- a change of some that keeps their names: of what each of them shows, whatever is read off it
module _ {X : Type 0} (read : Option Outcome → X) (tx coordinator : Draw) (change : Transaction → Transaction) (keeps : (t : Transaction) → (change t).tx ≡ t.tx) (name : Draw) where
  read_amended : (ts : List Transaction) → ((t : Transaction) → (ts' : List Transaction) → t.tx ≡ tx → t.coordinator ≡ coordinator → t.tx ≡ name → decision name (t ∷ ts') ≡ decision name ts → read (change t).outcome ≡ read t.outcome)
      → read (decision name (amended tx coordinator change ts)) ≡ read (decision name ts)
  read_amended [] same = refl
  read_amended (t ∷ ts) same =
      elim (cases_Bool (is_of tx coordinator t)) [
        | inl of ↦ (
            let parts = and_parts (same_draw t.tx tx) (same_draw t.coordinator coordinator) of in
            ap (λ x. read (decision name (x ∷ amended tx coordinator change ts))) (cond-true (is_of tx coordinator t) (change t) t of)
            ∙ ap read (found_first (change t) (amended tx coordinator change ts) name)
            ∙ ap (λ n. read (cond (same_draw n name) (change t).outcome (decision name (amended tx coordinator change ts)))) (keeps t)
            ∙ elim (cases_Bool (same_draw t.tx name)) [
              | inl here ↦ ap read (cond-true (same_draw t.tx name) (change t).outcome _ here)
                  ∙ same t ts (draw_is t.tx tx parts.0) (draw_is t.coordinator coordinator parts.1) (draw_is t.tx name here) refl
                  ∙ sym (ap read (found_first t ts name ∙ cond-true (same_draw t.tx name) t.outcome _ here))
              | inr there ↦ ap read (cond-false (same_draw t.tx name) (change t).outcome _ there)
                  ∙ read_amended ts (λ u us a b c e. same u us a b c (e ∙ sym (found_first t ts name ∙ cond-false (same_draw t.tx name) t.outcome _ there)))
                  ∙ sym (ap read (found_first t ts name ∙ cond-false (same_draw t.tx name) t.outcome _ there))
            ])
        | inr other ↦
            ap (λ x. read (decision name (x ∷ amended tx coordinator change ts))) (cond-false (is_of tx coordinator t) (change t) t other)
            ∙ ap read (found_first t (amended tx coordinator change ts) name)
            ∙ elim (cases_Bool (same_draw t.tx name)) [
              | inl here ↦ ap read (cond-true (same_draw t.tx name) t.outcome _ here) ∙ sym (ap read (found_first t ts name ∙ cond-true (same_draw t.tx name) t.outcome _ here))
              | inr there ↦ ap read (cond-false (same_draw t.tx name) t.outcome _ there)
                  ∙ read_amended ts (λ u us a b c e. same u us a b c (e ∙ sym (found_first t ts name ∙ cond-false (same_draw t.tx name) t.outcome _ there)))
                  ∙ sym (ap read (found_first t ts name ∙ cond-false (same_draw t.tx name) t.outcome _ there))
            ]
      ]

name_kept : (outcome : Option Outcome) (t : Transaction) → (with_outcome outcome t).tx ≡ t.tx
name_kept outcome t = refl

-- the first of a name
first_outcome : (t : Transaction) (ts : List Transaction) (name : Draw) → t.tx ≡ name → decision name (t ∷ ts) ≡ t.outcome
first_outcome t ts name e = found_first t ts name ∙ cond-true (same_draw t.tx name) t.outcome _ (same_name t.tx name e)

-- an abort of a transaction that is not committed changes no commit
pub abort_concluded : (ts : List Transaction) (tx coordinator name : Draw) → commit_in (decision tx ts) ≡ None → commit_in (decision name (concluded (Some Abort) tx coordinator ts)) ≡ commit_in (decision name ts)
abort_concluded ts tx coordinator name open_still =
    read_amended commit_in tx coordinator (with_outcome (Some Abort)) (name_kept (Some Abort)) name ts
    (λ t rest a b c e. sym (ap commit_in (sym (first_outcome t rest name c) ∙ e) ∙ ap (λ n. commit_in (decision n ts)) (sym c ∙ a) ∙ open_still))

-- another watcher is no decision
pub watcher_known : (ts : List Transaction) (tx coordinator name : Draw) (watcher : Option Draw) → decision name (amended tx coordinator (with_watcher watcher) ts) ≡ decision name ts
watcher_known ts tx coordinator name watcher = read_amended (λ o. o) tx coordinator (with_watcher watcher) (λ t. refl) name ts (λ t rest a b c e. refl)

-- what one transaction comes to decides no other
pub other_concluded : (ts : List Transaction) (tx coordinator name : Draw) (outcome : Outcome) → (name ≡ tx → ⊥) → decision name (concluded (Some outcome) tx coordinator ts) ≡ decision name ts
other_concluded ts tx coordinator name outcome ne =
    read_amended (λ o. o) tx coordinator (with_outcome (Some outcome)) (name_kept (Some outcome)) name ts (λ t rest a b c e. absurd (ne (sym c ∙ a)))

-- the coordinator's own is decided
pub own_concluded : (ts : List Transaction) (tx coordinator : Draw) (outcome : Outcome) (found : Transaction) → transaction_in tx ts ≡ Some found → found.coordinator ≡ coordinator
    → decision tx (concluded (Some outcome) tx coordinator ts) ≡ Some outcome
own_concluded [] tx coordinator outcome found e fact = (let no_way : None ≡ Some found = e in absurd (cc))
own_concluded (t ∷ ts) tx coordinator outcome found e fact =
    let rest = concluded (Some outcome) tx coordinator ts in
    elim (cases_Bool (same_draw t.tx tx)) [
      | inl here ↦ (
          let same : t ≡ found = same_Some t found (sym (cond-true (same_draw t.tx tx) (Some t) _ here) ∙ e) in
          let of : is_of tx coordinator t ≡ true = and_from (same_draw t.tx tx) (same_draw t.coordinator coordinator) here (same_name t.coordinator coordinator (ap (λ (x : Transaction). x.coordinator) same ∙ fact)) in
          ap (λ x. decision tx (x ∷ rest)) (cond-true (is_of tx coordinator t) (with_outcome (Some outcome) t) t of)
          ∙ first_outcome (with_outcome (Some outcome) t) rest tx (draw_is t.tx tx here))
      | inr there ↦ (
          let not : is_of tx coordinator t ≡ false = ap (λ b. b && same_draw t.coordinator coordinator) there in
          ap (λ x. decision tx (x ∷ rest)) (cond-false (is_of tx coordinator t) (with_outcome (Some outcome) t) t not)
          ∙ found_first t rest tx ∙ cond-false (same_draw t.tx tx) t.outcome _ there
          ∙ own_concluded ts tx coordinator outcome found (sym (cond-false (same_draw t.tx tx) (Some t) _ there) ∙ e) fact)
    ]

-- A question goes to a node that has a replica of its group: to the least member by a link, or whom a replica of the group names that does not lead.
use Rattle.std.proofs.Common.{◌≡◌, ℕ, Bool, true, false, true≢false, cond, List, [], ◌∷◌, ◌++◌, Option, Some, None, inl, inr, refl, sym, ◌∙◌, ap, subst}
use Rattle.std.proofs.lemmas.Bool.{cases_Bool}
use Rattle.sc_base.specs.Definitions.{Among, Each, same_draw, least_of}
use Rattle.sc_node_table.specs.Values.{Draw, Command, Noop, Call, Join, Split, Begin, RecordVote, Free, Frozen, Mail, MailBody, Accept, TxElsewhere, TxOutcome, TxPrepare, TxVote, TxWatch, TxWatched}
use Rattle.sc_base.proofs.Lemmas.{draw_is}
use Rattle.sc_words.specs.commands.CommandDefinitions.{is_alone, is_changed}
use Rattle.sc_words.specs.declared.commands.votes.Vote.TheVariants as Says
use Rattle.sc_group_table.specs.machine.MachineDefinitions.{applied}
use Rattle.sc_node_table.specs.NodeDefinitions.{group_of_mail, ReplicaState, before_of, went_on}
use Rattle.sc_live_answers.specs.AnswerDefinitions.{IsTrueEntry}
use Rattle.sc_live_steps.specs.orders.OrderDefinitions.{EntryLeaves, bond_of, errand_by, errand_for, errands_for, work_by, results, Asking, Bond, Elsewhere, Errand, First, IsOnly, Opens, Question, Reply, Result}
use Rattle.sc_live_steps.proofs.OrderStepsProofs.OrderStepLemmas.{orders-leave, records-leave, among-left, among-right, cases-draw}
use Rattle.sc_live_journals.specs.scenes.SceneDefinitions.{BesideFinds}
use Rattle.sc_live_journals.proofs.ScenesProofs.SceneLemmas.{IsQuestion}
use Rattle.std.proofs.lemmas.Option.{same_Some}
use Rattle.sc_live_answers.proofs.ErrandsProofs.AskedNodes.{IsOther, IsTo, only_each}
use Rattle.sc_paxos_law.proofs.Lemmas.{Among-either}

-- ---- lists

pub skip_middle : {X : Type 0} (x m : X) (xs ys : List X) → Among x (xs ++ ys) → Among x (xs ++ m ∷ ys)
skip_middle x m xs ys a = elim (Among-either x xs ys a) [ inl l ↦ among-left x xs (m ∷ ys) l | inr r ↦ among-right x xs (m ∷ ys) (inr r) ]

pub no_append : {X : Type 0} (xs ys : List X) → xs ++ ys ≡ [] → (xs ≡ []) × (ys ≡ [])
no_append [] ys e = (refl, e)
no_append (x ∷ xs) ys e = cc

pub one_right : {X : Type 0} (x e : X) (xs ys : List X) → xs ++ ys ≡ e ∷ [] → Among x ys → xs ≡ []
one_right x e [] ys fact a = refl
one_right x e (y ∷ xs) ys fact a = (let none : xs ++ ys ≡ [] = cc in absurd (subst (Among x) (no_append xs ys none).1 a))

-- the errand of a mail is among theirs
pub errand_there : (name : Draw) (e : Errand) (m : Mail) (ms : List Mail) → Among m ms → errand_by m.from m.to m.body ≡ Some (name, e) → Among e (errands_for name ms)
errand_there name e m [] a fact = absurd a
errand_there name e m (x ∷ ms) (inl same) fact =
    among-left e (errand_for name (errand_by x.from x.to x.body)) (errands_for name ms)
    (subst (λ o. Among e (errand_for name o)) (sym (ap (λ (y : Mail). errand_by y.from y.to y.body) same ∙ fact))
    (subst (Among e) (sym (Rattle.std.proofs.lemmas.Bool.cond-true (same_draw name name) (e ∷ []) [] (Rattle.sc_base.proofs.NameLemmas.same_name name name refl))) (inl refl)))
errand_there name e m (x ∷ ms) (inr more) fact = among-right e (errand_for name (errand_by x.from x.to x.body)) (errands_for name ms) (errand_there name e m ms more fact)

-- one mail that has this errand for the group
pub own_errand : (name : Draw) (e : Errand) (o : Option (Draw × Errand)) → errand_for name o ≡ e ∷ [] → o ≡ Some (name, e)
own_errand name e None = λ fact. cc
own_errand name e (Some entry) = by (same_draw entry.0 name) refl
  where
    by : (b : Bool) → same_draw entry.0 name ≡ b → cond b (entry.1 ∷ []) [] ≡ e ∷ [] → Some entry ≡ Some (name, e)
    by true t fact = (let n = draw_is entry.0 name t in let k : entry.1 ≡ e = cc in ap (λ x. Some (x, entry.1)) n ∙ ap (λ x. Some (name, x)) k)
    by false f fact = cc

-- what mails are by their errands
abbrev is_on : Option (Draw × Errand) → Bool
is_on None = false
is_on (Some (name, Elsewhere tx n)) = true
is_on (Some (name, Question tx c w b n)) = false
is_on (Some (name, Reply tx w a b n)) = false
is_on (Some (name, Result tx n)) = false

abbrev is_question : Option (Draw × Errand) → Bool
is_question None = false
is_question (Some (name, Elsewhere tx n)) = false
is_question (Some (name, Question tx c w b n)) = true
is_question (Some (name, Reply tx w a b n)) = false
is_question (Some (name, Result tx n)) = false

same_elsewhere : (t tx : Draw) (m n : ℕ) → Elsewhere t m ≡ Elsewhere tx n → (t ≡ tx) × (m ≡ n)
same_elsewhere t tx m n e = (cc, cc)

same_to : (t tx c c2 : Draw) (w w2 : Bool) (b b2 m n : ℕ) → Question t c w b m ≡ Question tx c2 w2 b2 n → m ≡ n
same_to t tx c c2 w w2 b b2 m n e = cc

pub elsewhere_mail : (from to : ℕ) (body : MailBody) (name tx : Draw) (n : ℕ) → errand_by from to body ≡ Some (name, Elsewhere tx n) → (hint : Option ℕ) × (body ≡ TxElsewhere tx name hint) × (to ≡ n)
elsewhere_mail from to (TxPrepare t offer) name tx n e = absurd (true≢false (sym (ap is_on e)))
elsewhere_mail from to (TxWatch t watch) name tx n e = absurd (true≢false (sym (ap is_on e)))
elsewhere_mail from to (TxVote t c part vote) name tx n e = absurd (true≢false (sym (ap is_on e)))
elsewhere_mail from to (TxWatched t c part vote) name tx n e = absurd (true≢false (sym (ap is_on e)))
elsewhere_mail from to (TxOutcome t part outcome) name tx n e = absurd (true≢false (sym (ap is_on e)))
elsewhere_mail from to (TxElsewhere t c hint) name tx n e =
    let pair : (c, Elsewhere t to) ≡ (name, Elsewhere tx n) = same_Some (c, Elsewhere t to) (name, Elsewhere tx n) e in
    let k = same_elsewhere t tx to n (ap (λ (x : Draw × Errand). x.1) pair) in
    (hint, ap (λ x. TxElsewhere x c hint) k.0 ∙ ap (λ x. TxElsewhere tx x hint) (ap (λ (x : Draw × Errand). x.0) pair), k.1)
elsewhere_mail from to (Accept g ballot slot command) name tx n e = absurd (true≢false (sym (ap is_on e)))
elsewhere_mail from to _ name tx n e = absurd (true≢false (sym (ap is_on e)))

pub question_mail : (from to : ℕ) (body : MailBody) (name tx c : Draw) (w : Bool) (b n : ℕ) → errand_by from to body ≡ Some (name, Question tx c w b n) → IsQuestion body × ((group_of_mail body ≡ Some name) × (to ≡ n))
question_mail from to (TxPrepare t offer) name tx c w b n e =
    let pair : (offer.part, Question t offer.coord false offer.by to) ≡ (name, Question tx c w b n) = same_Some (offer.part, Question t offer.coord false offer.by to) (name, Question tx c w b n) e in
    (tt, (ap (λ (x : Draw × Errand). Some x.0) pair, same_to t tx offer.coord c false w offer.by b to n (ap (λ (x : Draw × Errand). x.1) pair)))
question_mail from to (TxWatch t watch) name tx c w b n e =
    let pair : (watch.part, Question t watch.coord true watch.by to) ≡ (name, Question tx c w b n) = same_Some (watch.part, Question t watch.coord true watch.by to) (name, Question tx c w b n) e in
    (tt, (ap (λ (x : Draw × Errand). Some x.0) pair, same_to t tx watch.coord c true w watch.by b to n (ap (λ (x : Draw × Errand). x.1) pair)))
question_mail from to (TxVote t d part vote) name tx c w b n e = absurd (true≢false (sym (ap is_question e)))
question_mail from to _ name tx c w b n e = absurd (true≢false (sym (ap is_question e)))

-- one beside the leader that is asked does not run
pub aside_off : (mail : Mail) (r : ReplicaState) (body : MailBody) → IsQuestion body → BesideFinds mail r body → r.running ≡ false
aside_off mail r (TxPrepare tx offer) q f = f.1.0
aside_off mail r (TxWatch tx watch) q f = f.1.0
aside_off mail r _ q f = absurd q

-- ---- entries

module _ (r : ReplicaState) (command : Command) (asked tx coord : Draw) (watch : Bool) (by node : ℕ) (bond : Bond) (leaves : EntryLeaves bond ((asked, Question tx coord watch by node ∷ []) ∷ []) command r.me r.group) where
  abbrev f : Draw → List Errand
  f name = errands_for name (went_on r.me (applied r.group command).0 (before_of r.group.core) (applied r.group command).1 command [])

  its : Among (Question tx coord watch by node) (f asked)
  its = subst (Among (Question tx coord watch by node)) (sym leaves.sends.0.0) (inl refl)

  -- it asks whom an entry asks that asks one
  same_node : (asked2 tx2 coord2 : Draw) (watch2 : Bool) (by2 least : ℕ) → IsOnly [] ((asked2, Question tx2 coord2 watch2 by2 least ∷ []) ∷ []) (λ name. errands_for name (went_on r.me (applied r.group command).0 (before_of r.group.core) (applied r.group command).1 command []))
      → (asked ≡ asked2) × (node ≡ least)
  same_node asked2 tx2 coord2 watch2 by2 least o = elim (cases-draw asked asked2) [
    | inl fact ↦ (fact, only_each (IsTo least) ((asked2, Question tx2 coord2 watch2 by2 least ∷ []) ∷ []) f o ((refl, tt), tt) asked (Question tx coord watch by node) its)
    | inr ne ↦ absurd (subst (Among (Question tx coord watch by node)) (o.1 asked (ne, tt)) its)
  ]

  not_other : (sent : List (Draw × List Errand)) → IsOnly [] sent (λ name. errands_for name (went_on r.me (applied r.group command).0 (before_of r.group.core) (applied r.group command).1 command [])) → Each (λ entry. Each IsOther entry.1) sent → ⊥
  not_other sent o each = only_each IsOther sent f o each asked (Question tx coord watch by node) its

  -- one that begins a transaction asks the least member of its successor
  pub opens_least : (child : Draw) → r.group.core.lock ≡ Free → work_by command ≡ Some (Opens child) → IsTrueEntry r.me r.group command → (asked ≡ r.group.core.succ.group) × (node ≡ least_of r.group.core.succ.members)
  opens_least child free w t = of command refl w t
    where
      moved : (b : Bond) (sent : List (Draw × List Errand)) (c : Command) → command ≡ c → EntryLeaves b sent c r.me r.group → IsOnly [] sent (λ name. errands_for name (went_on r.me (applied r.group command).0 (before_of r.group.core) (applied r.group command).1 command []))
      moved b sent c e l = (subst (λ x. EntryLeaves b sent x r.me r.group) (sym e) l).sends

      of : (c : Command) → command ≡ c → work_by c ≡ Some (Opens child) → IsTrueEntry r.me r.group c → (asked ≡ r.group.core.succ.group) × (node ≡ least_of r.group.core.succ.members)
      of (Begin t body order) e w t2 = elim (cases_Bool (is_changed (applied r.group (Begin t body order)).1)) [
        | inl c ↦ same_node r.group.core.succ.group t r.group.core.id false r.me (least_of r.group.core.succ.members) (moved _ _ (Begin t body order) e (orders-leave.begin t body order r.me r.group (t2 c).0 c))
        | inr f2 ↦ absurd (not_other [] (moved _ _ (Begin t body order) e (orders-leave.begin_not t body order r.me r.group free f2)) tt)
      ]
      of (Split at kid order) e w t2 = elim (cases_Bool (is_alone r.group.core)) [
        | inl a ↦ absurd (not_other [] (moved _ _ (Split at kid order) e (orders-leave.alone at kid order r.me r.group free a)) tt)
        | inr na ↦ elim (cases_Bool (is_changed (applied r.group (Split at kid order)).1)) [
          | inl c ↦ same_node r.group.core.succ.group kid r.group.core.id true r.me (least_of r.group.core.succ.members) (moved _ _ (Split at kid order) e (orders-leave.split at kid order r.me r.group na c))
          | inr f2 ↦ absurd (not_other [] (moved _ _ (Split at kid order) e (orders-leave.split_not at kid order r.me r.group free f2)) tt)
        ]
      ]
      of (Noop) e w t2 = absurd (no_work w)
        where
          no_work : None ≡ Some (Opens child) → ⊥
          no_work e = cc
      of (Call client seq op) e w t2 = absurd (no_work w)
        where
          no_work : None ≡ Some (Opens child) → ⊥
          no_work e = cc
      of (Join n order) e w t2 = cc
      of _ e w t2 = cc

  -- one that hears a participant's Yes asks the least member of its successor, as it handed that over
  pub hears_least : (t first : Draw) (frozen : Frozen) (n : ℕ) → command ≡ RecordVote t (Says.Yes frozen) n → bond_of r.group.core ≡ Asking t first First → IsTrueEntry r.me r.group (RecordVote t (Says.Yes frozen) n)
      → (asked ≡ frozen.succ.group) × (node ≡ least_of frozen.succ.members)
  hears_least t first frozen n e asking true_ = elim true_ [
    | inl d ↦ absurd (not_other (results t first First n) (moved _ _ (records-leave.decides t first frozen d.0 n r.me r.group asking d.1)) ((tt, tt), tt))
    | inr c ↦ same_node frozen.succ.group t r.group.core.id true r.me (least_of frozen.succ.members) (moved _ _ (records-leave.hears t first frozen n r.me r.group asking c.0))
  ]
    where
      moved : (b : Bond) (sent : List (Draw × List Errand)) → EntryLeaves b sent (RecordVote t (Says.Yes frozen) n) r.me r.group → IsOnly [] sent (λ name. errands_for name (went_on r.me (applied r.group command).0 (before_of r.group.core) (applied r.group command).1 command []))
      moved b sent l = (subst (λ x. EntryLeaves b sent x r.me r.group) (sym e) l).sends

-- That an order stays under way: by the laws of tables, and the kinds of rows.
use Rattle.std.proofs.Common.{◌≡◌, ℕ, Bool, true, false, List, [], ◌∷◌, Some, None, inl, inr, refl, sym, ◌∙◌, ap, subst}
use Rattle.std.specs.Option.{option_map}
use Rattle.sc_node_table.specs.Values.{Draw, OrderLine, Mail, MailBody, Accept, Prepare, Promise, Nack, Learn, Install, TxPrepare, TxVote, TxOutcome, TxElsewhere, TxWatch, TxWatched, Seat, Event, Deliver}
use Rattle.sc_actor.specs.Definitions.{mails}
use Rattle.sc_node_table.specs.NodeDefinitions.{NodeState, absent, ReplicaState, Place, name_of, mailed}
use Rattle.sc_meaning.specs.sound.SoundDefinitions.{Player}
use Rattle.sc_live_steps.specs.calm.CalmDefinitions.{Rows}
use Rattle.sc_live_steps.specs.orders.OrderDefinitions.{Asking, is_watch, Turn, Errand, Question, Elsewhere, Reply, Result, Work, Answers, Records, Ends, IsOnly, Kind, Rests, PassesOn, AsksOn, Files, work_for, Stage, Still, IsUnderWay, Step, Passes, AsksAgain, IsTaken, OfQuestion, OfVote, OfOutcome, LastTakes, OneTakes, TwoTakes, Comes, IsStepOf, ByPassing, ByAsking, ByTaking, StepsBy, bond_of, is_yes, is_cast_yes, works, errand_by, errands_for, Works}
use Rattle.sc_live_steps.proofs.OrderStepsProofs.OrderStepLemmas.{tables-file, tables-pass, tables-ask-on, passes-step, asks-step, files-step, tables-rest, promises-keep, rests-step}
use Rattle.sc_live_journals.specs.rows.RowDefinitions.{with_event}
use Rattle.sc_live_journals.proofs.RowsProofs.RowLemmas.{found_name}
use Rattle.sc_live_journals.specs.scenes.SceneDefinitions.{scene_at, errand_in, taken_errand, errands_sent, IsSceneKind, IsOfGroup, IsTablesRow, IsTaking, Stays, IsLeadsRow, IsEventOf, KeepsStage, ComesTo, ComesToLeader, LeadersKeep, IsBeside, Led, Unled, ComesBeside, ComesToNone, AsidesKeep}
use Rattle.sc_live_journals.proofs.ScenesProofs.RowKinds.{only_as, asides_stay, asides_are, leaders_are}
use Rattle.sc_live_journals.proofs.ScenesProofs.SceneReceivers.{takes, misses}
use Rattle.sc_live_journals.proofs.ScenesProofs.SceneRows.{rows_are}

-- a row that does nothing of the order leaves the stage
pub rests_by : (words : ℕ → ℕ → ℕ × ℕ) (births : List (Seat Player)) (rows : Rows) (seat : Seat Player) (event : Event OrderLine) (group : Draw)
    → IsOfGroup words births rows seat event group → IsSceneKind Rests births rows seat event group → KeepsStage births rows seat event
rests_by words births rows seat event group of does under =
    let to = rests-step (scene_at births rows) (scene_at births (with_event rows seat event)) group (taken_errand (mails rows) event) (errands_sent rows seat event) (rows_are words births rows seat event group of) does under.0 under.1 in
    (to.0, to.1, inl to.2)

-- a step of a row by which an order that is under way goes on
pub record IsOnward (Is : Step) : Type 0 where
  pub step : (group : Draw) (before after : Stage) → Is group before after → IsStepOf group before after
  pub on : (group : Draw) (before after : Stage) → Is group before after → before ≡ Still → ⊥

pub taken_on : (group : Draw) (before after : Stage) → IsTaken group before after → before ≡ Still → ⊥
taken_on group before after (OfQuestion s) still = (let e = s.before_is in cc)
taken_on group before after (OfVote s) still = (let e = s.before_is in cc)
taken_on group before after (OfOutcome (LastTakes tx party e l g a)) still = cc
taken_on group before after (OfOutcome (OneTakes tx one two e l g a)) still = cc
taken_on group before after (OfOutcome (TwoTakes tx one two e l g a)) still = cc

takes_on : IsOnward IsTaken
takes_on = record { step = λ g b a. ByTaking; on = taken_on }

asks_again : IsOnward AsksAgain
asks_again = record { step = λ g b a. ByAsking; on = λ g b a s still. (let e = s.before_is in cc) }

passes_on : IsOnward Passes
passes_on = record { step = λ g b a. ByPassing; on = λ g b a s still. (let e = s.before_is in cc) }

-- one that is a step goes to the stage that follows
pub steps_by : (Does : Kind) (Is : Step) → StepsBy Does Is → IsOnward Is
    → (words : ℕ → ℕ → ℕ × ℕ) (births : List (Seat Player)) (rows : Rows) (seat : Seat Player) (event : Event OrderLine) (group : Draw)
    → IsOfGroup words births rows seat event group → IsEventOf (mails rows) event group → IsSceneKind Does births rows seat event group → KeepsStage births rows seat event
steps_by Does Is steps onward words births rows seat event group of named does under =
    let to = steps (scene_at births rows) (scene_at births (with_event rows seat event)) group (taken_errand (mails rows) event) (errands_sent rows seat event) (rows_are words births rows seat event group of) does under.0 under.1 in
    (to.0, to.1, inr (record { group = group; step = onward.step group under.0 to.0 to.2; of = named; begins = λ still. absurd (onward.on group under.0 to.0 to.2 still) }))

module _ (words : ℕ → ℕ → ℕ × ℕ) (births : List (Seat Player)) (rows : Rows) (seat : Seat Player) (number : ℕ) (mail : Mail) (group : Draw) where
  abbrev event : Event OrderLine
  event = Deliver number

  -- its row is one of the mail's group
  pub event_of : (node : NodeState) → IsTaking words births rows seat number mail group node → IsEventOf (mails rows) event group
  event_of node t = (mail, t.sent, t.named)

  module _ (r : ReplicaState) where
    -- the row of the replica
    abbrev pub after : Place
    after = (mailed mail.from mail.body (r, [])).0

    pub row_of_comes : ComesTo words births rows seat number mail group r → IsOfGroup words births rows seat event group × IsTablesRow births rows seat event group r after
    row_of_comes c = takes words births rows seat number mail group c.node c.taking r c.here c.children

    pub errand_is : ComesTo words births rows seat number mail group r → (body : MailBody) → mail.body ≡ body → taken_errand (mails rows) event ≡ option_map (λ entry. entry.1) (errand_by mail.from mail.to body)
    errand_is c body e = ap (λ o. option_map (λ entry. entry.1) (errand_in o)) c.taking.sent ∙ ap (λ b. option_map (λ entry. entry.1) (errand_by mail.from mail.to b)) e

    leads_row : ComesToLeader words births rows seat number mail group r → (done : List Work) (sent : List (Draw × List Errand)) (body : MailBody) → mail.body ≡ body → Works done sent r (mailed mail.from body (r, [])).0
        → IsLeadsRow births rows seat event group done sent r after
    leads_row c done sent body e works_so = record {
      leads = c.leads;
      table = (row_of_comes c.comes).1;
      works_so = subst (λ b. Works done sent r (mailed mail.from b (r, [])).0) (sym e) works_so;
    }

    pub lead_rests : ComesToLeader words births rows seat number mail group r → (body : MailBody) → mail.body ≡ body → option_map (λ entry. entry.1) (errand_by mail.from mail.to body) ≡ None
        → Works (works r) [] r (mailed mail.from body (r, [])).0 → KeepsStage births rows seat event
    lead_rests c body e none works_so =
        rests_by words births rows seat event group (row_of_comes c.comes).0
        (leaders_are.rests births rows seat event group r after (leads_row c (works r) [] body e works_so) (errand_is c.comes body e ∙ none))

    -- the leader that takes a question, a vote or an outcome has it as its work
    files_it : ComesToLeader words births rows seat number mail group r → (body : MailBody) → mail.body ≡ body → (errand : Errand) (filed : Work) → option_map (λ entry. entry.1) (errand_by mail.from mail.to body) ≡ Some errand
        → work_for errand ≡ Some filed → works r ≡ [] → Works (filed ∷ []) [] r (mailed mail.from body (r, [])).0 → IsSceneKind Files births rows seat event group
    files_it c body e errand filed takes_it files idle works_so =
        leaders_are.files births rows seat event group errand filed r after (leads_row c (filed ∷ []) [] body e works_so) idle (errand_is c.comes body e ∙ takes_it) files

    -- the stage is that after the leader takes the errand
    pub lead_takes : ComesToLeader words births rows seat number mail group r → (body : MailBody) → mail.body ≡ body → (errand : Errand) (filed : Work) → option_map (λ entry. entry.1) (errand_by mail.from mail.to body) ≡ Some errand
        → work_for errand ≡ Some filed → works r ≡ [] → Works (filed ∷ []) [] r (mailed mail.from body (r, [])).0 → (under : IsUnderWay (scene_at births rows)) → Comes IsTaken group under.0 (scene_at births (with_event rows seat event))
    lead_takes c body e errand filed takes_it files idle works_so under =
        files-step (scene_at births rows) (scene_at births (with_event rows seat event)) group (taken_errand (mails rows) event) (errands_sent rows seat event)
        (rows_are words births rows seat event group (row_of_comes c.comes).0) (files_it c body e errand filed takes_it files idle works_so) under.0 under.1

    lead_files : ComesToLeader words births rows seat number mail group r → (body : MailBody) → mail.body ≡ body → (errand : Errand) (filed : Work) → option_map (λ entry. entry.1) (errand_by mail.from mail.to body) ≡ Some errand
        → work_for errand ≡ Some filed → works r ≡ [] → Works (filed ∷ []) [] r (mailed mail.from body (r, [])).0 → KeepsStage births rows seat event
    lead_files c body e errand filed takes_it files idle works_so =
        steps_by Files IsTaken files-step takes_on words births rows seat event group (row_of_comes c.comes).0 (event_of c.comes.node c.comes.taking)
        (files_it c body e errand filed takes_it files idle works_so)

    lead_asks : ComesToLeader words births rows seat number mail group r → (tx coord asked : Draw) (turn : Turn) (to : ℕ) → mail.body ≡ TxElsewhere tx coord (Some to) → r.me ≡ seat.who → bond_of r.group.core ≡ Asking tx asked turn
        → Works (works r) ((asked, Question tx (name_of r) (is_watch turn) r.me to ∷ []) ∷ []) r (mailed mail.from (TxElsewhere tx coord (Some to)) (r, [])).0 → KeepsStage births rows seat event
    lead_asks c tx coord asked turn to e me asking works_so =
        let own : name_of r ≡ group = found_name group c.comes.node.replicas r c.comes.here in
        let named = subst (λ n. Works (works r) ((asked, Question tx n (is_watch turn) r.me to ∷ []) ∷ []) r (mailed mail.from (TxElsewhere tx coord (Some to)) (r, [])).0) own works_so in
        let whole = subst (λ n. Works (works r) ((asked, Question tx group (is_watch turn) n to ∷ []) ∷ []) r (mailed mail.from (TxElsewhere tx coord (Some to)) (r, [])).0) me named in
        steps_by AsksOn AsksAgain asks-step asks_again words births rows seat event group (row_of_comes c.comes).0 (event_of c.comes.node c.comes.taking)
        (leaders_are.asks births rows seat event group tx asked turn to mail.to r after (leads_row c (works r) ((asked, Question tx group (is_watch turn) seat.who to ∷ []) ∷ []) (TxElsewhere tx coord (Some to)) e whole) asking
        (errand_is c.comes (TxElsewhere tx coord (Some to)) e))

    -- ---- beside the leader

    stays_by : ComesBeside words births rows seat number mail group r → IsBeside births rows seat event group after → Stays births rows seat event group
    stays_by c (Led node lead leads ne stops) = asides_stay.aside births rows seat event group node lead r after leads ne (row_of_comes c.comes).1 stops
    stays_by c (Unled u) = asides_stay.unled births rows seat event group r after (row_of_comes c.comes).1 u

    sends_by : ComesBeside words births rows seat number mail group r → (body : MailBody) → mail.body ≡ body → (sent : List (Draw × List Errand)) → IsOnly [] sent (λ n. errands_for n (mailed mail.from body (r, [])).0.1)
        → IsOnly [] sent (errands_sent rows seat event)
    sends_by c body e sent only =
        only_as sent (λ n. errands_for n after.1) (errands_sent rows seat event) (λ n. ap (errands_for n) (row_of_comes c.comes).1.sends)
        (subst (λ b. IsOnly [] sent (λ n. errands_for n (mailed mail.from b (r, [])).0.1)) (sym e) only)

    pub aside_rests : ComesBeside words births rows seat number mail group r → (body : MailBody) → mail.body ≡ body → option_map (λ entry. entry.1) (errand_by mail.from mail.to body) ≡ None
        → IsOnly [] [] (λ n. errands_for n (mailed mail.from body (r, [])).0.1) → KeepsStage births rows seat event
    aside_rests c body e none only =
        rests_by words births rows seat event group (row_of_comes c.comes).0
        (asides_are.rests births rows seat event group (stays_by c c.beside) (errand_is c.comes body e ∙ none) (sends_by c body e [] only))

    aside_passes : ComesBeside words births rows seat number mail group r → (body : MailBody) → mail.body ≡ body → (tx coord : Draw) (watch : Bool) (by : ℕ)
        → option_map (λ entry. entry.1) (errand_by mail.from mail.to body) ≡ Some (Question tx coord watch by mail.to) → by ≡ mail.from
        → IsOnly [] ((coord, Elsewhere tx mail.from ∷ []) ∷ []) (λ n. errands_for n (mailed mail.from body (r, [])).0.1) → KeepsStage births rows seat event
    aside_passes c body e tx coord watch by takes_it from only =
        steps_by PassesOn Passes passes-step passes_on words births rows seat event group (row_of_comes c.comes).0 (event_of c.comes.node c.comes.taking)
        (asides_are.passes births rows seat event group tx coord watch by mail.to (stays_by c c.beside) (errand_is c.comes body e ∙ takes_it)
        (subst (λ n. IsOnly [] ((coord, Elsewhere tx n ∷ []) ∷ []) (errands_sent rows seat event)) (sym from) (sends_by c body e ((coord, Elsewhere tx mail.from ∷ []) ∷ []) only)))

  -- ---- where there is no replica

  none_passes : ComesToNone words births rows seat number mail group → (body : MailBody) → mail.body ≡ body → (entry : Draw × Errand) → errand_by mail.from mail.to body ≡ Some entry → (tx coord : Draw) (watch : Bool) (by : ℕ)
      → entry.1 ≡ Question tx coord watch by mail.to → by ≡ mail.from → ((me : ℕ) → IsOnly [] ((coord, Elsewhere tx mail.from ∷ []) ∷ []) (λ n. errands_for n (absent me mail.from body))) → KeepsStage births rows seat event
  none_passes c body e entry errand tx coord watch by fact from only =
      let has : errand_by mail.from mail.to mail.body ≡ Some entry = ap (errand_by mail.from mail.to) e ∙ errand in
      let row = misses words births rows seat number mail group c.node c.taking entry c.none has in
      let sends : (n : Draw) → errands_sent rows seat event n ≡ errands_for n (absent c.node.me mail.from body) = λ n. ap (errands_for n) (row.2 ∙ ap (absent c.node.me mail.from) e) in
      let sent = only_as ((coord, Elsewhere tx mail.from ∷ []) ∷ []) (λ n. errands_for n (absent c.node.me mail.from body)) (errands_sent rows seat event) sends (only c.node.me) in
      steps_by PassesOn Passes passes-step passes_on words births rows seat event group row.0 (event_of c.node c.taking)
      (asides_are.passes births rows seat event group tx coord watch by mail.to (asides_stay.missed births rows seat event group row.1)
      (ap (λ o. option_map (λ x. x.1) (errand_in o)) c.taking.sent ∙ (ap (option_map (λ x. x.1)) has ∙ ap Some fact))
      (subst (λ n. IsOnly [] ((coord, Elsewhere tx n ∷ []) ∷ []) (errands_sent rows seat event)) (sym from) sent))

-- An order stays under way where its leader takes a question on which no vote stands, a vote for which it waits, the outcome of the transaction that binds it, or that it is to ask elsewhere; and where it is asked to accept or to promise, or is promised.
pub leaders_keep : LeadersKeep
leaders_keep = record {
  offer = λ words births rows seat number mail group r tx offer c e may none.
      lead_files words births rows seat number mail group r c (TxPrepare tx offer) e (Question tx offer.coord false offer.by mail.to) (Answers tx offer.coord false offer.by) refl refl may.idle (tables-file.offer mail.from tx offer r may none);
  watch = λ words births rows seat number mail group r tx watch c e may none.
      lead_files words births rows seat number mail group r c (TxWatch tx watch) e (Question tx watch.coord true watch.by mail.to) (Answers tx watch.coord true watch.by) refl refl may.idle (tables-file.watch mail.from tx watch r may none);
  vote = λ words births rows seat number mail group r tx coord part vote asked turn c e may asking first none.
      lead_files words births rows seat number mail group r c (TxVote tx coord part vote) e (Reply tx false (is_yes vote) mail.from mail.to) (Records tx false (is_yes vote) mail.from) refl refl may.idle
      (tables-file.vote mail.from tx coord part vote asked turn r may asking first none);
  watched = λ words births rows seat number mail group r tx coord part vote asked turn c e may asking later none.
      lead_files words births rows seat number mail group r c (TxWatched tx coord part vote) e (Reply tx true (is_cast_yes vote) mail.from mail.to) (Records tx true (is_cast_yes vote) mail.from) refl refl may.idle
      (tables-file.watched mail.from tx coord part vote asked turn r may asking later none);
  outcome = λ words births rows seat number mail group r tx part outcome c e may bound.
      lead_files words births rows seat number mail group r c (TxOutcome tx part outcome) e (Result tx mail.to) (Ends tx) refl refl may.idle (tables-file.outcome mail.from tx part outcome r may bound);
  elsewhere = λ words births rows seat number mail group r tx coord asked turn to c e me settles asking.
      lead_asks words births rows seat number mail group r c tx coord asked turn to e me asking (tables-ask-on mail.from to tx coord asked turn r settles asking);
  accept = λ words births rows seat number mail group r named ballot slot command c e goes.
      lead_rests words births rows seat number mail group r c (Accept named ballot slot command) e refl (tables-rest.accept mail.from named ballot slot command r goes);
  prepare = λ words births rows seat number mail group r named ballot from_slot c e goes.
      lead_rests words births rows seat number mail group r c (Prepare named ballot from_slot) e refl (tables-rest.prepare mail.from named ballot from_slot r goes);
  nack = λ words births rows seat number mail group r named ballot c e goes.
      lead_rests words births rows seat number mail group r c (Nack named ballot) e refl (tables-rest.nack mail.from named ballot r goes);
  promise = λ words births rows seat number mail group r named ballot work c e unbound one.
      lead_rests words births rows seat number mail group r c (Promise named ballot []) e refl
      (subst (λ w. Works w [] r (mailed mail.from (Promise named ballot []) (r, [])).0) (sym one) (promises-keep mail.from named ballot work r unbound one));
}

-- So it does where a question comes to one that does not lead, or to a node without replica, and where such a one is asked to accept or to promise, learns an entry, or takes over a state.
pub asides_keep : AsidesKeep
asides_keep = record {
  offer = λ words births rows seat number mail group r tx offer c e by stopped none.
      aside_passes words births rows seat number mail group r c (TxPrepare tx offer) e tx offer.coord false offer.by refl by (tables-pass.offer mail.from tx offer r stopped none).sends;
  watch = λ words births rows seat number mail group r tx watch c e by stopped none.
      aside_passes words births rows seat number mail group r c (TxWatch tx watch) e tx watch.coord true watch.by refl by (tables-pass.watch mail.from tx watch r stopped none).sends;
  offer_missed = λ words births rows seat number mail group tx offer c e by.
      none_passes words births rows seat number mail group c (TxPrepare tx offer) e (offer.part, Question tx offer.coord false offer.by mail.to) refl tx offer.coord false offer.by refl by (λ me. tables-pass.offer_missed me mail.from tx offer);
  watch_missed = λ words births rows seat number mail group tx watch c e by.
      none_passes words births rows seat number mail group c (TxWatch tx watch) e (watch.part, Question tx watch.coord true watch.by mail.to) refl tx watch.coord true watch.by refl by (λ me. tables-pass.watch_missed me mail.from tx watch);
  accept = λ words births rows seat number mail group r named ballot slot command c e goes.
      aside_rests words births rows seat number mail group r c (Accept named ballot slot command) e refl (tables-rest.accept mail.from named ballot slot command r goes).sends;
  prepare = λ words births rows seat number mail group r named ballot from_slot c e goes.
      aside_rests words births rows seat number mail group r c (Prepare named ballot from_slot) e refl (tables-rest.prepare mail.from named ballot from_slot r goes).sends;
  learn = λ words births rows seat number mail group r named slot command c e idle.
      aside_rests words births rows seat number mail group r c (Learn named slot command) e refl (tables-rest.learn mail.from named slot command r idle).sends;
  install = λ words births rows seat number mail group r named slot base sets c e idle.
      aside_rests words births rows seat number mail group r c (Install named slot base sets) e refl (tables-rest.install mail.from named slot base sets r idle).sends;
}

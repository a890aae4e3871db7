-- So each question goes to a node that has a replica of its group, and a coordinator that is to ask elsewhere learns whom.
use Rattle.std.proofs.Common.{◌≡◌, ℕ, Bool, true, false, true≢false, List, [], ◌∷◌, Some, None, ◌⊎◌, inl, inr, refl, sym, ◌∙◌, ap, subst}
use Rattle.sc_base.specs.Definitions.{Among, Each, least_of}
use Rattle.sc_node_table.specs.Values.{Draw, Seat, Deliver, Command, Noop, Call, Join, RecordVote, RecordWatch, Base, Frozen, Mail, Flight}
use Rattle.sc_actor.specs.Definitions.{row_of, mails, numbered}
use Rattle.sc_words.specs.declared.commands.votes.Vote.TheVariants as Says
use Rattle.sc_node_table.specs.NodeDefinitions.{group_of_mail, ReplicaState}
use Rattle.sc_words.proofs.PaxosProofs.PaxosLemmas.{Each-among}
use Rattle.sc_scenario.specs.declared.scenario.scenarios.Scenario.{Scenario}
use Rattle.sc_meaning.specs.sound.SoundDefinitions.{Player, as_nodes, births, player_table}
use Rattle.sc_live_plain.specs.PlainDefinitions.{replicas_after}
use Rattle.sc_live_steps.specs.calm.CalmDefinitions.{HasReplica, Rows}
use Rattle.sc_live_answers.specs.AnswerDefinitions.{IsTrueEntry, HasDone, Promising, doer, opened, ContinuesSince, IsHinted, IsAllowedBy, ReplicasAreRecorded, IsTrueSince, HintedOrdersGoOn, heard_doer}
use Rattle.sc_live_steps.specs.orders.OrderDefinitions.{bond_of, work_by, works, Asking, First, Here, Next, Records, is_watch, Asks, IsAt, Recorded, SentOn, Stage, Hears, OfQuestion, OfVote, OfOutcome, LastTakes, OneTakes, TwoTakes, LastFreed, OneFreed, TwoFreed, IsStepOf, ByRest, ByOrder, ByChange, ByDeal, ByPassing, ByAsking, ByTaking, ByVote, ByNo, ByHearing, ByDeciding, ByEnd, closed, Lone, Turn, Still, heard, heard_lead}
use Rattle.sc_live_journals.specs.rows.RowDefinitions.{view_at, with_event}
use Rattle.sc_live_journals.specs.scenes.SceneDefinitions.{scene_at, GoesBy}
use Rattle.sc_live_answers.proofs.ErrandsProofs.QuestionDeliveries.{one}
use Rattle.sc_live_answers.proofs.WorkProofs.LeaderDeeds.{lead_works}
use Rattle.sc_live_answers.proofs.ErrandsProofs.QuestionTargets.{hears_least}
use Rattle.sc_live_answers.proofs.RestProofs.LeaderWork.{is_work_of}
use Rattle.sc_live_answers.proofs.ErrandsProofs.QuestionHints.{at_seat, prefix, goes_to, least_at, the_work}
use Rattle.sc_live_answers.proofs.WorkProofs.PartiesSinceQuiet.{flights_at, frozen_is, heard_vote, next_is, one_vote}
use Rattle.sc_live_answers.proofs.WorkProofs.Parties.{lead_bond}
use Rattle.sc_live_answers.proofs.ErrandsProofs.ReachedQuestions.{asks_so, named_by, no_elsewhere, opens_so, runs_at, stays_so, true_flight}
use Rattle.sc_live_answers.proofs.ErrandsProofs.PassedQuestions.{passes_so, recorded_not, recorded_on}

same_records : (t tx : Draw) (w w2 a a2 : Bool) (n n2 : ℕ) → Some (Records t w a n) ≡ Some (Records tx w2 a2 n2) → (t ≡ tx) × ((w ≡ w2) × (a ≡ a2))
same_records t tx w w2 a a2 n n2 e = (cc, (cc, cc))

record IsYes (command : Command) (tx : Draw) : Type 0 where
  frozen : Frozen
  by : ℕ
  fact : command ≡ RecordVote tx (Says.Yes frozen) by

yes_of : (c : Command) (tx : Draw) (n : ℕ) → work_by c ≡ Some (Records tx false true n) → IsYes c tx
yes_of (RecordVote t (Says.Yes frozen) m) tx n e = (let k = same_records t tx false false true true m n e in record { frozen = frozen; by = m; fact = ap (λ x. RecordVote x (Says.Yes frozen) m) k.0 })
yes_of (RecordVote t (Says.No why) m) tx n e = absurd (true≢false (sym (same_records t tx false false false true m n e).1.1))
yes_of (RecordWatch t vote m) tx n e = absurd (true≢false (same_records t tx true false _ true m n e).1.0)
yes_of Noop tx n e = absurd (none_some e)
  where
    none_some : {X : Type 0} {x : X} → None ≡ Some x → ⊥
    none_some e = cc
yes_of (Call client seq op) tx n e = absurd (none_some e)
  where
    none_some : {X : Type 0} {x : X} → None ≡ Some x → ⊥
    none_some e = cc
yes_of (Join m order) tx n e = absurd (let k : ⊥ = cc in k)
yes_of _ tx n e = absurd (let k : ⊥ = cc in k)

module _ (tells : ReplicasAreRecorded) (words : ℕ → ℕ → ℕ × ℕ) (scenario : Scenario) (first : Base) (journal quiet rows : Rows) (seat : Seat Player) (number : ℕ) (stage : Stage) (g : ContinuesSince words scenario first journal quiet rows seat number stage)
    (trues : (name : Draw) (node : ℕ) (r : ReplicaState) → view_at (births as_nodes scenario) rows name node ≡ Some r → r.running ≡ true → Each (λ (flight : Flight Command). IsTrueEntry r.me r.group flight.value) r.leader.flights) where
  abbrev all : List (Seat Player)
  all = births as_nodes scenario

  abbrev next : Rows
  next = with_event rows seat (Deliver number)

  -- ---- a participant was heard

  hears_so : (group : Draw) (later : Stage) (s : Hears group stage later) → (mail : Mail) → numbered (mails rows) number ≡ Some mail → group_of_mail mail.body ≡ Some group
      → IsAt (Asks s.next s.to) (scene_at (births as_nodes scenario) (with_event rows seat (Deliver number))) → IsTrueSince scenario quiet (with_event rows seat (Deliver number)) (Asks s.next s.to) → HasReplica (replicas_after scenario quiet) s.next.asked s.to
  hears_so group later s mail sent named stands since =
      let at_rows : IsAt (Recorded s.deal true s.host) (scene_at all rows) = subst (λ x. IsAt x (scene_at all rows)) s.before_is g.untouched.stands in
      let coord = s.deal.coord in
      let d : HasDone all quiet rows (doer s.deal.coord s.deal.chief (opened s.deal.tx s.deal.turn)) = (subst (IsTrueSince scenario quiet rows) s.before_is g.true_since).done.0 in
      let r = d.now in
      let runs = runs_at tells words scenario first journal quiet rows seat number stage g trues coord s.deal.chief r at_rows.leads.0 d.fact in
      let lead_then : (scene_at all next).lead coord ≡ Some s.deal.chief = subst (λ n. (scene_at all next).lead n ≡ Some s.deal.chief) s.coord_same (stands.leads.0 ∙ ap Some s.chief_same) in
      let work_then : ((scene_at all next).at coord).work ≡ [] = subst (λ n. ((scene_at all next).at n).work ≡ []) s.coord_same (ap (λ (h : Here). h.work) stands.parties.0.0) in
      let here : s.deal.chief ≡ seat.who = at_seat tells words scenario first journal quiet rows seat number stage g coord s.deal.chief r (Records s.deal.tx (is_watch s.deal.turn) true s.host) d.fact at_rows.leads.0 (ap (λ (h : Here). h.work) at_rows.parties.0.0) lead_then work_then in
      let has : view_at all rows coord seat.who ≡ Some r = ap (view_at all rows coord) (sym here) ∙ d.fact in
      let asking : bond_of r.group.core ≡ Asking s.deal.tx s.deal.asked First =
      sym (lead_bond all rows coord s.deal.chief r at_rows.leads.0 d.fact) ∙ (ap (λ (h : Here). h.bond) at_rows.parties.0.0 ∙ ap (λ t. Asking s.deal.tx s.deal.asked t) s.first) in
      let its_work : works r ≡ Records s.deal.tx false true s.host ∷ [] = lead_works all rows coord s.deal.chief r at_rows.leads.0 d.fact ∙ (ap (λ (h : Here). h.work) at_rows.parties.0.0 ∙ ap (λ t. Records s.deal.tx (is_watch t) true s.host ∷ []) s.first) in
      let e : HasDone all quiet next (doer s.next.coord s.next.chief (opened s.next.tx s.next.turn)) = since.done.0 in
      let p : HasDone all quiet next (doer s.deal.asked s.host (Promising s.next.tx ∷ [])) = (subst (λ t. Each (HasDone all quiet next) (heard_doer s.next.tx t)) s.turn_is since.done.1).0 in
      let lead = (subst (λ t. Each (λ (x : Draw × ℕ). (scene_at all next).lead x.0 ≡ Some x.1) (heard_lead t)) s.turn_is stands.leads.1).0 in
      let bond = ap (λ (h : Here). h.bond) (subst (λ t. Each (λ (x : Draw × Here). (scene_at all next).at x.0 ≡ x.1) (heard s.next.tx t)) s.turn_is stands.parties.0.1.1).0 in
      let coord_bond = ap (λ (h : Here). h.bond) stands.parties.0.0 in
      let reported = heard_vote tells words scenario first journal quiet next g.goes.prefix.more g.goes.prefix.fact g.calm g.rests g.seen s.next stands.leads.0 coord_bond e s.deal.asked s.host s.turn_is lead bond p in
      let frozen = frozen_is tells words scenario first journal quiet next g.goes.prefix.more g.goes.prefix.fact g.calm g.rests g.seen s.next stands.leads.0 coord_bond e s.deal.asked s.host s.turn_is lead bond p in
      let asked = next_is tells words scenario first journal quiet next g.goes.prefix.more g.goes.prefix.fact g.calm g.rests g.seen s.next stands.leads.0 coord_bond e s.deal.asked s.host s.turn_is lead bond p in
      let least = least_at tells words scenario first journal quiet rows seat number stage g (doer s.deal.asked s.host (Promising s.next.tx ∷ [])) p in
      let there : HasReplica (replicas_after scenario quiet) s.next.asked (least_of p.first.group.core.succ.members) = subst (λ n. HasReplica (replicas_after scenario quiet) n (least_of p.first.group.core.succ.members)) (sym asked) least in
      goes_to tells words scenario first journal quiet rows seat number stage g s.next s.to stands (λ other n x. recorded_not s.deal other true s.host n (sym s.before_is ∙ x)) coord r has runs
      (subst (λ n. group_of_mail (one words scenario first journal quiet rows seat number stage g).mail.body ≡ Some n) (sym s.coord_is) (named_by tells words scenario first journal quiet rows seat number stage g trues group mail sent named))
      (λ n. HasReplica (replicas_after scenario quiet) s.next.asked n)
      (λ tx c n body. absurd (let k = no_elsewhere tells words scenario first journal quiet rows seat number stage g trues tx c (Some n) body in recorded_on s.deal k.0 true s.host (sym s.before_is ∙ k.1)))
      (λ flight among work w body b_named ballot slot b asked2 tx c watch by node bond2 leaves. (
      let work_is : Records s.deal.tx false true s.host ≡ work = the_work work (Records s.deal.tx false true s.host) (subst (Among work) its_work (is_work_of r flight work among w)) in
      let yes = yes_of flight.value s.deal.tx s.host (w ∙ ap Some (sym work_is)) in
      let k = hears_least r flight.value asked2 tx c watch by node bond2 leaves s.deal.tx s.deal.asked yes.frozen yes.by yes.fact asking
      (subst (λ x. IsTrueEntry r.me r.group x) yes.fact (true_flight tells words scenario first journal quiet rows seat number stage g trues coord s.deal.chief r d.fact runs flight among)) in
      let allowed : IsAllowedBy scenario journal coord flight.value = Each-among (λ (x : Flight Command). IsAllowedBy scenario journal coord x.value) r.leader.flights flight
      (flights_at tells words scenario first journal quiet rows (row_of player_table seat rows (Deliver number) ∷ g.goes.prefix.more) (prefix tells words scenario first journal quiet rows seat number stage g) g.calm g.rests g.seen coord s.deal.chief r (s.deal.chief, d.first, d.was) d.fact) among in
      let vote : IsAllowedBy scenario journal coord (RecordVote s.next.tx (Says.Yes yes.frozen) yes.by) = subst (λ t. IsAllowedBy scenario journal coord (RecordVote t (Says.Yes yes.frozen) yes.by)) (sym s.tx_same) (subst (IsAllowedBy scenario journal coord) yes.fact allowed) in
      let same = one_vote scenario journal s.next.tx coord s.next.coord yes.frozen _ yes.by 0 vote reported ∙ frozen in
      subst (λ n. HasReplica (replicas_after scenario quiet) s.next.asked n) (sym (k.1 ∙ ap (λ (x : Frozen). least_of x.succ.members) same)) there))

  -- ---- each step

  module _ (hinted : IsHinted scenario quiet rows stage) where
    abbrev After : Stage → Type 0
    After later = IsHinted scenario quiet next later

    same_stage : (x : Stage) → stage ≡ x → IsHinted scenario quiet rows x → IsAt x (scene_at (births as_nodes scenario) (with_event rows seat (Deliver number))) → IsHinted scenario quiet (with_event rows seat (Deliver number)) x
    same_stage (Asks deal to) e k a = k
    same_stage (SentOn deal) e k a = stays_so tells words scenario first journal quiet rows seat number stage g trues deal e k a
    same_stage _ e k a = tt

    closed_hinted : (tx asked : Draw) (turn : Turn) (host : ℕ) → IsHinted scenario quiet (with_event rows seat (Deliver number)) (closed tx asked turn host)
    closed_hinted tx asked First host = tt
    closed_hinted tx asked Lone host = tt
    closed_hinted tx asked (Next part node) host = tt

    by_step : (group : Draw) (later : Stage) → IsStepOf group stage later → (stage ≡ Still → ⊥) → (mail : Mail) → numbered (mails rows) number ≡ Some mail → group_of_mail mail.body ≡ Some group
        → IsAt later (scene_at (births as_nodes scenario) (with_event rows seat (Deliver number))) → IsTrueSince scenario quiet (with_event rows seat (Deliver number)) later → IsHinted scenario quiet (with_event rows seat (Deliver number)) later
    by_step group later (ByRest e) on mail sent named a t = subst After (sym e) (same_stage stage refl hinted (subst (λ x. IsAt x (scene_at all next)) e a))
    by_step group later (ByOrder s) on mail sent named a t = absurd (on s.before_is)
    by_step group later (ByChange s) on mail sent named a t = subst After (sym s.after_is) tt
    by_step group later (ByDeal s) on mail sent named a t =
        subst After (sym s.after_is) (opens_so tells words scenario first journal quiet rows seat number stage g trues group s.deal s.to s.before_is s.coord_is mail sent named (subst (λ x. IsAt x (scene_at all next)) s.after_is a) (subst (IsTrueSince scenario quiet next) s.after_is t) s.turn_is)
    by_step group later (ByPassing s) on mail sent named a t =
        subst After (sym s.after_is) (passes_so tells words scenario first journal quiet rows seat number stage g s.deal s.to s.before_is (subst (IsHinted scenario quiet rows) s.before_is hinted) (subst (λ x. IsAt x (scene_at all next)) s.after_is a))
    by_step group later (ByAsking s) on mail sent named a t =
        subst After (sym s.after_is) (asks_so tells words scenario first journal quiet rows seat number stage g trues s.deal s.before_is (subst (IsHinted scenario quiet rows) s.before_is hinted) s.to (subst (λ x. IsAt x (scene_at all next)) s.after_is a))
    by_step group later (ByTaking (OfQuestion s)) on mail sent named a t = subst After (sym s.after_is) tt
    by_step group later (ByTaking (OfVote s)) on mail sent named a t = subst After (sym s.after_is) tt
    by_step group later (ByTaking (OfOutcome (LastTakes tx party e l h f))) on mail sent named a t = subst After (sym f) tt
    by_step group later (ByTaking (OfOutcome (OneTakes tx one_ two e l h f))) on mail sent named a t = subst After (sym f) tt
    by_step group later (ByTaking (OfOutcome (TwoTakes tx one_ two e l h f))) on mail sent named a t = subst After (sym f) tt
    by_step group later (ByVote s) on mail sent named a t = subst After (sym s.after_is) tt
    by_step group later (ByNo s) on mail sent named a t = subst After (sym s.after_is) tt
    by_step group later (ByHearing s) on mail sent named a t =
        subst After (sym s.after_is) (hears_so group later s mail sent named (subst (λ x. IsAt x (scene_at all next)) s.after_is a) (subst (IsTrueSince scenario quiet next) s.after_is t))
    by_step group later (ByDeciding s) on mail sent named a t = subst After (sym s.after_is) (closed_hinted s.deal.tx s.deal.asked s.deal.turn s.host)
    by_step group later (ByEnd (LastFreed tx party e l h f)) on mail sent named a t = subst After (sym f) tt
    by_step group later (ByEnd (OneFreed tx one_ two e l h f)) on mail sent named a t = subst After (sym f) tt
    by_step group later (ByEnd (TwoFreed tx one_ two e l h f)) on mail sent named a t = subst After (sym f) tt

    goes_on : (later : Stage) → IsAt later (scene_at (births as_nodes scenario) (with_event rows seat (Deliver number))) → (later ≡ stage) ⊎ GoesBy rows (Deliver number) stage later → IsTrueSince scenario quiet (with_event rows seat (Deliver number)) later
        → IsHinted scenario quiet (with_event rows seat (Deliver number)) later
    goes_on later a (inl e) t = subst After (sym e) (same_stage stage refl hinted (subst (λ x. IsAt x (scene_at all next)) e a))
    goes_on later a (inr s) t = by_step s.group later s.step s.begins s.of.0 s.of.1 s.of.2 a t

pub hinted_go_on : ReplicasAreRecorded → HintedOrdersGoOn
hinted_go_on tells words scenario first journal quiet rows seat number stage later g trues a goes t hinted = goes_on tells words scenario first journal quiet rows seat number stage g trues hinted later a goes t

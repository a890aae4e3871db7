-- Clients ask alone since a quiet prefix: it begins so, and goes on so.
use Rattle.std.proofs.Common.{◌≡◌, ℕ, Bool, false, cond, ◌+◌, ◌≤◌, ◌^◌, true, List, [], ◌∷◌, ◌++◌, length, Option, Some, None, inl, inr, refl, sym, ◌∙◌, ap, subst, arith, append-nil, append_assoc, length-append}
use Rattle.std.proofs.lemmas.Option.{none-some}
use Rattle.sc_base.proofs.Lemmas.{draw_is}
use Rattle.sc_base.specs.Definitions.{Among, Each, same_draw}
use Rattle.sc_node_table.specs.Values.{Draw, Op, Base, OrderLine, Mail, MailBody, Request, Answer, Accept, Accepted, Learn, Seat, Event, Row}
use Rattle.sc_actor.specs.Definitions.{System, row_of}
use Rattle.sc_live_orderly.specs.OrderlyDefinitions.{IsInOrder, IsOrderly, IsTidy, rest, AreInTime}
use Rattle.sc_live_orderly.proofs.OrderlyLemmas.{in_time_tidy}
use Rattle.sc_live_orderly.proofs.RowsInTime.{snoc_parts}
use Rattle.sc_node_table.specs.NodeDefinitions.{ReplicaState, last_slot, listed, slots_ahead}
use Rattle.sc_scenario.specs.declared.scenario.scenarios.Scenario.{Scenario}
use Rattle.sc_scenario.specs.scenario.Definitions.{ValidScenariosAreBounded}
use Rattle.sc_meaning.specs.sound.SoundDefinitions.{groups_at, Player, player_table, births, as_nodes}
use Rattle.sc_live_steps.specs.calm.CalmDefinitions.{Chart, players, FindsCalm, Rows}
use Rattle.sc_live_steps.specs.following.FollowingDefinitions.{Mark, Asks, Votes, Teaches, mark_of, marks_of, named_mark}
use Rattle.sc_live_journals.specs.rows.RowDefinitions.{IsSeat}
use Rattle.sc_live_journals.specs.mail.MailDefinitions.{SlotsAreLeft, ReplicasLast}
use Rattle.sc_live_answers.specs.AnswerDefinitions.{IsQuietWhileYoung, CountsAs, NodesMayPump, AreNear, MayBegin, RequestRowsFindCalm, QuietJournalsKnowOne, LawfulQuietJournalsCountOnce, QuietGroupsHaveCuts, StandingGroupsAreRound, QuietChartsCount, frames_after, QuietJournalsHaveFrames, QuietSettingsAreLinked, IsCalmJournal, IsPrefixOf, RestsAt, ChartHintsRise, ViewsAgree, setting_of, IsKnownPrefix, IsRequested, RequestsBegin, RequestsStay, RequestsFindCalm, RequestsLeaveYoung}
use Rattle.sc_live_journals.specs.charts.ChartDefinitions.{far_at, chart_at, quiet_prefix}
use Rattle.sc_live_journals.specs.scenes.SceneDefinitions.{IsNowhere}
use Rattle.sc_live_plain.specs.PlainDefinitions.{IsAsking, AreFarFromLast, RequestsGoOn, AreRequests, NobodyWaits, replicas_after, setting_at, QuietJournalsAsk, replica_at, next_in, IsLinkedSetting, Setting, IsSetting, IsAsideBody, IsCalmMail, Frame, IsBegun, IsPlainBody}
use Rattle.sc_live_answers.proofs.OrdersProofs.OrderDeliveries.{there_or}
use Rattle.sc_live_answers.proofs.LinesProofs.Setting as quiet_of

none_behind : {X : Type 0} (prefix : List X) (x : X) (back : List X) → [] ≡ prefix ++ x ∷ back → ⊥
none_behind [] x back e = cc
none_behind (y ∷ prefix) x back e = cc

-- first rows of a journal in time are in time
pub prefix_timely : (words : ℕ → ℕ → ℕ × ℕ) (scenario : Scenario) (journal rows : Rows) → IsCalmJournal words scenario journal → IsPrefixOf journal rows → AreInTime (players words (births as_nodes scenario)) rows
prefix_timely words scenario journal rows calm prefix before row after e = calm.timely before row (after ++ prefix.more) (prefix.fact ∙ (ap (λ l. l ++ prefix.more) e ∙ append_assoc before (row ∷ after) prefix.more))

pub prefix_short : (words : ℕ → ℕ → ℕ × ℕ) (scenario : Scenario) (journal rows : Rows) → IsCalmJournal words scenario journal → IsPrefixOf journal rows → length rows ≤ 2 ^ 28
prefix_short words scenario journal rows calm prefix = (let long = ap length prefix.fact in let sum = length-append rows prefix.more in let short = calm.short in omega (arith, long, sum, short))

-- what a setting with other ways counts as
other_ways : (set other : Setting) (chart : Chart) → other.frames ≡ set.frames → other.at ≡ set.at → ((group : Draw) (node : ℕ) → other.ways.far group node ≡ set.ways.far group node) → CountsAs set chart → CountsAs other chart
other_ways set other chart frames at far c = record {
  bounded = c.bounded;
  far = λ group node. c.far group node ∙ sym (far group node);
  named = λ group node home. c.named group node (record { r = home.r; is_there = sym (ap (λ a. a group node) at) ∙ home.is_there });
  stand = λ frame a. c.stand frame (subst (Among frame) frames a);
  go = λ group into went. c.go group into (record { node = went.node; r = went.r; is_there = sym (ap (λ a. a group went.node) at) ∙ went.is_there; went = went.went });
}

-- ---- mail of requests has no mark for a group that has no frame

no_mark : (name : Draw) (begun : ℕ → ℕ → Op → Type 0) (set : Setting) (mail : Mail) → ((frame : Frame) → Among frame set.frames → frame.core.id ≡ name → ⊥) → IsCalmMail begun set mail → mark_of name mail.from mail.body ≡ None
no_mark name begun set mail apart (inl plain) = of mail.body (λ fact. apart plain.frame plain.is_frame fact) plain.says
  where
    unnamed : (group : Draw) (m : Mark) → (group ≡ name → ⊥) → named_mark name group m ≡ None
    unnamed group m ne = by (same_draw group name) refl
      where
        by : (b : Bool) → same_draw group name ≡ b → cond b (Some m) None ≡ None
        by true e = absurd (ne (draw_is group name e))
        by false e = refl

    of : (body : MailBody) → (plain.frame.core.id ≡ name → ⊥) → IsPlainBody begun plain.frame mail.from mail.to body → mark_of name mail.from body ≡ None
    of (Request group client seq op) ne says = refl
    of (Answer group seq answer) ne says = refl
    of (Accept group ballot slot command) ne says = unnamed group (Asks ballot slot) (λ e. ne (sym says.0 ∙ e))
    of (Accepted group ballot slot) ne says = unnamed group (Votes mail.from ballot slot) (λ e. ne (sym says.0 ∙ e))
    of (Learn group slot command) ne says = unnamed group (Teaches slot) (λ e. ne (sym says.0 ∙ e))
    of _ ne says = absurd says
no_mark name begun set mail apart (inr aside) = of mail.body aside
  where
    of : (body : MailBody) → IsAsideBody begun set mail.from mail.to body → mark_of name mail.from body ≡ None
    of (Request group client seq op) says = refl
    of (Answer group seq answer) says = refl
    of _ says = absurd says

no_marks : (name : Draw) (begun : ℕ → ℕ → Op → Type 0) (set : Setting) (mails : List Mail) → ((frame : Frame) → Among frame set.frames → frame.core.id ≡ name → ⊥) → Each (IsCalmMail begun set) mails → marks_of name mails ≡ []
no_marks name begun set [] apart each = refl
no_marks name begun set (mail ∷ mails) apart each =
    ap (λ o. listed o ++ marks_of name mails) (no_mark name begun set mail apart each.0) ∙ no_marks name begun set mails apart each.1

module _ (all_bounded : ValidScenariosAreBounded) (frames_law : QuietJournalsHaveFrames) (rise_law : ChartHintsRise) (ask_law : QuietJournalsAsk) (cuts_law : QuietGroupsHaveCuts) (round_law : StandingGroupsAreRound) (linked_law : QuietSettingsAreLinked) (views : ViewsAgree) (count_law : QuietChartsCount)
    (know_one : QuietJournalsKnowOne) (count_once : LawfulQuietJournalsCountOnce) (go_on : RequestsGoOn) (finds_law : RequestRowsFindCalm) (slots_left : SlotsAreLeft) (last_law : ReplicasLast) (words : ℕ → ℕ → ℕ × ℕ) (scenario : Scenario) (first : Base) (others : List Base)
    (far sent : ℕ) (journal quiet : Rows) (calm : IsCalmJournal words scenario journal) (groups : scenario.groups ≡ first ∷ others) (rests : RestsAt words scenario first journal quiet) (known : IsKnownPrefix words scenario journal quiet far) where
  abbrev s : System Player Mail OrderLine
  s = players words (births as_nodes scenario)

  abbrev set : Setting
  set = setting_of words scenario far sent quiet

  begin : IsRequested words scenario first far sent quiet [] × NobodyWaits scenario first quiet
  begin = (
    record {
      requests = λ prefix back row e. absurd (none_behind prefix row back e);
      asking = subst (IsAsking words scenario set first) (sym (append-nil quiet)) (quiet_of.asking all_bounded frames_law rise_law ask_law cuts_law round_law linked_law words scenario first others far sent journal quiet calm groups rests known);
    },
    quiet_of.waits all_bounded frames_law rise_law ask_law cuts_law round_law linked_law words scenario first others far sent journal quiet calm groups rests known,
  )

  module _ (after : Rows) (prefix : IsPrefixOf journal (quiet ++ after)) (asked : IsRequested words scenario first far sent quiet after) where
    abbrev rows : Rows
    rows = quiet ++ after

    timely : AreInTime s (quiet ++ after)
    timely = prefix_timely words scenario journal (quiet ++ after) calm prefix

    tidy : IsTidy (quiet ++ after)
    tidy = in_time_tidy s (quiet ++ after) timely

    far_off : AreFarFromLast scenario set (quiet ++ after)
    far_off frame node a = by (replica_at scenario rows frame.core.id node) refl
      where
        by : (o : Option ReplicaState) → replica_at scenario rows frame.core.id node ≡ o → next_in o + slots_ahead ≤ last_slot
        by None e = omega arith
        by (Some r) e =
            (slots_left words scenario rows frame.core.id node r timely (prefix_short words scenario journal rows calm prefix)
            (views.nodes scenario rows frame.core.id node (all_bounded scenario calm.valid) (known.homes rows prefix) ∙ e)).0

    module _ (seat : Seat Player) (event : Event OrderLine) (seated : IsSeat (births as_nodes scenario) seat) (in_order : IsInOrder s (quiet ++ after) seat.who event) where
      abbrev row : Row Mail OrderLine
      row = row_of player_table seat rows event

      orderly : IsOrderly s (quiet ++ after) row
      orderly = record { seat = seat; born = seated; event = event; row_is = refl; in_order = in_order }

      is_setting_ : IsSetting set
      is_setting_ = quiet_of.is_setting all_bounded frames_law rise_law ask_law cuts_law round_law linked_law words scenario first others far sent journal quiet calm groups rests known

      linked_ : IsLinkedSetting set
      linked_ = quiet_of.linked all_bounded frames_law rise_law ask_law cuts_law round_law linked_law words scenario first others far sent journal quiet calm groups rests known

      requests : AreRequests words scenario set quiet (after ++ row ∷ [])
      requests ahead back r e = elim (snoc_parts after row ahead r back e) [
        | inl p ↦ subst (λ a. IsTidy (quiet ++ a) × AreFarFromLast scenario set (quiet ++ a) × IsOrderly s (quiet ++ a) r) (sym p.0) (tidy, far_off, subst (IsOrderly s (quiet ++ after)) (sym p.1) orderly)
        | inr q ↦ asked.requests ahead q.0 r q.1
      ]

      asking : IsAsking words scenario set first (quiet ++ (after ++ row ∷ []))
      asking = subst (IsAsking words scenario set first) (append_assoc quiet after (row ∷ [])) (go_on words scenario set first others (quiet ++ after) row calm.valid groups is_setting_ linked_ tidy far_off asked.asking orderly)

      stays : IsRequested words scenario first far sent quiet (after ++ row ∷ [])
      stays = record { requests = requests; asking = asking }

      module _ (own : quiet_prefix s (quiet ++ after) ≡ quiet) (pump : NodesMayPump scenario (quiet ++ after)) (near : AreNear scenario (chart_at far sent s (quiet ++ after)) first (quiet ++ after)) where
        counts : CountsAs set (chart_at far sent s (quiet ++ after))
        counts =
            let lawful = quiet_of.lawful all_bounded frames_law rise_law ask_law cuts_law round_law linked_law words scenario first others far sent journal quiet calm groups rests known in
            let frames = quiet_of.frames all_bounded frames_law rise_law ask_law cuts_law round_law linked_law words scenario first others far sent journal quiet calm groups rests known in
            let still = quiet_of.own_prefix words scenario quiet rests.calm in
            other_ways (setting_at (replicas_after scenario quiet) (frames_after scenario quiet) (chart_at far sent s rows).ways) set (chart_at far sent s rows) refl refl
            (λ group node. ap (λ q. far_at far (births as_nodes scenario) q group node) (still ∙ sym own))
            (count_law words scenario first others quiet rows far sent (frames_after scenario quiet) rests.turn calm.valid groups lawful rests.fact (known.homes quiet rests.prefix) frames rests.reach known.agree own rests.turns)

        may : MayBegin words scenario set first quiet
        may = record {
          asking = quiet_of.asking all_bounded frames_law rise_law ask_law cuts_law round_law linked_law words scenario first others far sent journal quiet calm groups rests known;
          waits = quiet_of.waits all_bounded frames_law rise_law ask_law cuts_law round_law linked_law words scenario first others far sent journal quiet calm groups rests known;
          knows = know_one words scenario first quiet rests.fact;
          once = λ asks a. count_once words scenario set first others quiet asks.client calm.valid groups
              (quiet_of.asking all_bounded frames_law rise_law ask_law cuts_law round_law linked_law words scenario first others far sent journal quiet calm groups rests known) rests.fact
              (quiet_of.lawful all_bounded frames_law rise_law ask_law cuts_law round_law linked_law words scenario first others far sent journal quiet calm groups rests known);
        }

        finds : FindsCalm (chart_at far sent s (quiet ++ after)) (births as_nodes scenario) (quiet ++ after) seat event
        finds =
            finds_law words scenario set (chart_at far sent s rows) first others quiet after seat event calm.valid groups is_setting_ linked_
            (quiet_of.seated all_bounded frames_law rise_law ask_law cuts_law round_law linked_law words scenario first others far sent journal quiet calm groups rests known)
            (quiet_of.reached all_bounded frames_law rise_law ask_law cuts_law round_law linked_law words scenario first others far sent journal quiet calm groups rests known)
            counts may asked.requests asked.asking tidy far_off pump near seated in_order

    -- no frame has the name of a group that was nowhere
    nowhere_apart : (name : Draw) → IsNowhere (births as_nodes scenario) quiet name → (frame : Frame) → Among frame set.frames → frame.core.id ≡ name → ⊥
    nowhere_apart name none frame a fact =
        let frames = quiet_of.frames all_bounded frames_law rise_law ask_law cuts_law round_law linked_law words scenario first others far sent journal quiet calm groups rests known in
        let f = frames.are frame a in
        let lead = f.1.lead in
        let named : lead.group.core.id ≡ f.0 = (rests.fact.kept f.0 lead.me lead f.1.newest.is_there).name_is in
        let same : f.0 ≡ name = sym named ∙ (ap (λ (x : Frame). x.core.id) f.2 ∙ fact) in
        let there : replicas_after scenario quiet name lead.me ≡ Some lead = subst (λ n. replicas_after scenario quiet n lead.me ≡ Some lead) same f.1.newest.is_there in
        none-some lead (sym (none lead.me) ∙ (views.nodes scenario quiet name lead.me (all_bounded scenario calm.valid) (known.homes quiet rests.prefix) ∙ there))

    young : (base : Base) → Among base (groups_at as_nodes scenario.groups journal) → IsQuietWhileYoung words (births as_nodes scenario) (quiet ++ after) base
    young base among who member none = elim (there_or (births as_nodes scenario) quiet base.core.id) [
      | inl there ↦ (
          let has = rests.members base among there who member in
          let later = last_law words scenario quiet after base.core.id who has.0 timely has.1 in
          absurd (none-some later.0 (sym none ∙ later.1)))
      | inr nowhere ↦ no_marks base.core.id (IsBegun scenario (quiet ++ after)) set (rest s (quiet ++ after) who) (nowhere_apart base.core.id nowhere) (asked.asking.left who (known.born base among who member))
    ]

pub requests_begin : ValidScenariosAreBounded → QuietJournalsHaveFrames → ChartHintsRise → QuietJournalsAsk → QuietGroupsHaveCuts → StandingGroupsAreRound → QuietSettingsAreLinked → ViewsAgree → QuietChartsCount → QuietJournalsKnowOne → LawfulQuietJournalsCountOnce → RequestsGoOn → RequestRowsFindCalm → SlotsAreLeft → ReplicasLast → RequestsBegin
requests_begin all_bounded frames_law rise_law ask_law cuts_law round_law linked_law views count_law know_one count_once go_on finds_law slots_left last_law words scenario first others far sent journal quiet calm groups rests known =
    begin all_bounded frames_law rise_law ask_law cuts_law round_law linked_law views count_law know_one count_once go_on finds_law slots_left last_law words scenario first others far sent journal quiet calm groups rests known

pub requests_stay : ValidScenariosAreBounded → QuietJournalsHaveFrames → ChartHintsRise → QuietJournalsAsk → QuietGroupsHaveCuts → StandingGroupsAreRound → QuietSettingsAreLinked → ViewsAgree → QuietChartsCount → QuietJournalsKnowOne → LawfulQuietJournalsCountOnce → RequestsGoOn → RequestRowsFindCalm → SlotsAreLeft → ReplicasLast → RequestsStay
requests_stay all_bounded frames_law rise_law ask_law cuts_law round_law linked_law views count_law know_one count_once go_on finds_law slots_left last_law words scenario first others far sent journal quiet after seat event calm groups rests known asked prefix seated in_order =
    stays all_bounded frames_law rise_law ask_law cuts_law round_law linked_law views count_law know_one count_once go_on finds_law slots_left last_law words scenario first others far sent journal quiet calm groups rests known after prefix asked seat event seated in_order

pub requests_find : ValidScenariosAreBounded → QuietJournalsHaveFrames → ChartHintsRise → QuietJournalsAsk → QuietGroupsHaveCuts → StandingGroupsAreRound → QuietSettingsAreLinked → ViewsAgree → QuietChartsCount → QuietJournalsKnowOne → LawfulQuietJournalsCountOnce → RequestsGoOn → RequestRowsFindCalm → SlotsAreLeft → ReplicasLast → RequestsFindCalm
requests_find all_bounded frames_law rise_law ask_law cuts_law round_law linked_law views count_law know_one count_once go_on finds_law slots_left last_law words scenario first others far sent journal quiet after seat event calm groups rests known asked prefix seated in_order own pump near =
    finds all_bounded frames_law rise_law ask_law cuts_law round_law linked_law views count_law know_one count_once go_on finds_law slots_left last_law words scenario first others far sent journal quiet calm groups rests known after prefix asked seat event seated in_order own pump near

pub requests_leave_young : ValidScenariosAreBounded → QuietJournalsHaveFrames → ChartHintsRise → QuietJournalsAsk → QuietGroupsHaveCuts → StandingGroupsAreRound → QuietSettingsAreLinked → ViewsAgree → QuietChartsCount → QuietJournalsKnowOne → LawfulQuietJournalsCountOnce → RequestsGoOn → RequestRowsFindCalm → SlotsAreLeft → ReplicasLast → RequestsLeaveYoung
requests_leave_young all_bounded frames_law rise_law ask_law cuts_law round_law linked_law views count_law know_one count_once go_on finds_law slots_left last_law words scenario first others far sent journal quiet after base calm groups rests prefix known asked among =
    young all_bounded frames_law rise_law ask_law cuts_law round_law linked_law views count_law know_one count_once go_on finds_law slots_left last_law words scenario first others far sent journal quiet calm groups rests known after prefix asked base among

-- A client goes on to ask leaders: of the groups that it knows only that which it asked last may be asked elsewhere.
use Rattle.std.proofs.Common.{◌≡◌, ℕ, ◌+◌, ◌-◌, ◌%◌, ◌^◌, ◌<◌, ◌≤◌, Bool, false, List, [], ◌∷◌, ◌++◌, length, map, take, drop, Option, Some, None, ◌⊎◌, inl, inr, refl, sym, ◌∙◌, ap, subst, arith, take-append-drop}
use Rattle.std.specs.Prelude.{slice_get, is_some}
use Rattle.std.specs.Option.{option_map}
use Rattle.std.specs.Map.{set_value, remove_entry}
use Rattle.std.proofs.lemmas.Bool.{cond_both, cond-true, cond-false, cases_Bool, cases_lt, both_ways, ltb-false}
use Rattle.std.proofs.lemmas.List.{length-map, length-take-le}
use Rattle.sc_base.specs.Definitions.{Among, Arc, end_of, holds, client_actor, key_of, same_draw, pos_of}
use Rattle.sc_node_table.specs.Values.{Draw, Op, Reply, Link, Route, AnswerBody, Value, NotMine, Gone, Mail, MailBody, Answer}
use Rattle.sc_base.proofs.Lemmas.{draw_is, same_name}
use Rattle.sc_client_table.specs.lookup.LookupDefinitions.{KnownGroups, way_to, chosen, target_in, changed, preferring, starting, group_learnt, learnt_from_not_mine, learnt_from_gone, far, new_way, target_of}
use Rattle.sc_client_table.specs.declared.lookup.ways.Way.{Way}
use Rattle.sc_paxos_law.proofs.Lemmas.{from_map, Among-left, Among-right, Among-either}
use Rattle.sc_words.proofs.PaxosProofs.PaxosLemmas.{Each-among}
use Rattle.sc_client_table.specs.table.TableDefinitions.{Client as ClientState, ClientStep, sent_to, request_sent, started, got}
use Rattle.sc_law_walks.proofs.WalkLemmas.{sent_step, started_step, sent_same, request_same, answer_step}
use Rattle.sc_scenario.specs.declared.scenario.scenarios.Asks.{Asks}
use Rattle.sc_live_plain.specs.PlainDefinitions.{IsLinkedSetting, IsCalmClient, start_of, start_known, Setting, IsSetting, IsCalmMail, Frame, IsWaiting, IsBegun, Requests}
use Rattle.sc_live_plain.proofs.PlainLemmas.{calm_says, CalmSays, RingKnown, ring_known, alone, lacks, name_in, id_of, gap, learn_in_turn, chosen_is, chosen_among as chosen_known, same_of_one, some_is, map_among, near_behind, started_names as starting_names}
use Rattle.sc_live_answers.specs.AnswerDefinitions.{IsLedAt, AsksLeaders, ClientsAskLeaders}
use Rattle.sc_live_answers.proofs.RequestsProofs.ClientAnswers.{all_led}

-- ---- what is asked of groups, after changes

-- another way with the same target
set_target : (other group : Draw) (known : KnownGroups) (before way : Way) → way_to group known ≡ Some before → target_of way ≡ target_of before → target_in other (set_value (same_draw group) known way) ≡ target_in other known
set_target other group [] before way e t = refl
set_target other group (k ∷ ks) before way e t =
    elim (cases_Bool (same_draw group k.0)) [
      | inl here ↦ (
          let was : k.1 ≡ before = some_is (sym (cond-true (same_draw group k.0) (Some k.1) (way_to group ks) here) ∙ e) in
          let to : target_of way ≡ target_of k.1 = t ∙ ap target_of (sym was) in
          ap (target_in other) (cond-true (same_draw group k.0) ((k.0, way) ∷ ks) (k ∷ set_value (same_draw group) ks way) here)
          ∙ elim (cases_Bool (same_draw other k.0)) [
            | inl y ↦ ap (option_map target_of) (cond-true (same_draw other k.0) (Some way) (way_to other ks) y) ∙ (ap Some to ∙ sym (ap (option_map target_of) (cond-true (same_draw other k.0) (Some k.1) (way_to other ks) y)))
            | inr n ↦ ap (option_map target_of) (cond-false (same_draw other k.0) (Some way) (way_to other ks) n) ∙ sym (ap (option_map target_of) (cond-false (same_draw other k.0) (Some k.1) (way_to other ks) n))
          ])
      | inr away ↦ (
          let more = set_target other group ks before way (sym (cond-false (same_draw group k.0) (Some k.1) (way_to group ks) away) ∙ e) t in
          ap (target_in other) (cond-false (same_draw group k.0) ((k.0, way) ∷ ks) (k ∷ set_value (same_draw group) ks way) away)
          ∙ elim (cases_Bool (same_draw other k.0)) [
            | inl y ↦ ap (option_map target_of) (cond-true (same_draw other k.0) (Some k.1) (way_to other (set_value (same_draw group) ks way)) y) ∙ sym (ap (option_map target_of) (cond-true (same_draw other k.0) (Some k.1) (way_to other ks) y))
            | inr n ↦ ap (option_map target_of) (cond-false (same_draw other k.0) (Some k.1) (way_to other (set_value (same_draw group) ks way)) n) ∙ (more ∙ sym (ap (option_map target_of) (cond-false (same_draw other k.0) (Some k.1) (way_to other ks) n)))
          ])
    ]

-- another way of another group changes nothing
set_other : (other group : Draw) (known : KnownGroups) (way : Way) → (other ≡ group → ⊥) → target_in other (set_value (same_draw group) known way) ≡ target_in other known
set_other other group [] way ne = refl
set_other other group (k ∷ ks) way ne =
    elim (cases_Bool (same_draw group k.0)) [
      | inl here ↦ (
          let n : same_draw other k.0 ≡ false = elim (cases_Bool (same_draw other k.0)) [ inl y ↦ absurd (ne (draw_is other k.0 y ∙ sym (draw_is group k.0 here))) | inr n ↦ n ] in
          ap (target_in other) (cond-true (same_draw group k.0) ((k.0, way) ∷ ks) (k ∷ set_value (same_draw group) ks way) here)
          ∙ (ap (option_map target_of) (cond-false (same_draw other k.0) (Some way) (way_to other ks) n) ∙ sym (ap (option_map target_of) (cond-false (same_draw other k.0) (Some k.1) (way_to other ks) n))))
      | inr away ↦
          ap (target_in other) (cond-false (same_draw group k.0) ((k.0, way) ∷ ks) (k ∷ set_value (same_draw group) ks way) away)
          ∙ elim (cases_Bool (same_draw other k.0)) [
            | inl y ↦ ap (option_map target_of) (cond-true (same_draw other k.0) (Some k.1) (way_to other (set_value (same_draw group) ks way)) y) ∙ sym (ap (option_map target_of) (cond-true (same_draw other k.0) (Some k.1) (way_to other ks) y))
            | inr n ↦ ap (option_map target_of) (cond-false (same_draw other k.0) (Some k.1) (way_to other (set_value (same_draw group) ks way)) n)
                ∙ (set_other other group ks way ne ∙ sym (ap (option_map target_of) (cond-false (same_draw other k.0) (Some k.1) (way_to other ks) n)))
          ]
    ]

starting_target : (other group : Draw) (lo : ℕ) (known : KnownGroups) → target_in other (starting group lo known) ≡ target_in other known
starting_target other group lo known = by (way_to group known) refl
  where
    by : (o : Option Way) → way_to group known ≡ o → target_in other (changed (λ way. record way { lo = lo }) group known o) ≡ target_in other known
    by None e = refl
    by (Some way) e = set_target other group known way (record way { lo = lo }) e refl

preferring_target : (other group : Draw) (node : ℕ) (known : KnownGroups) → (other ≡ group → ⊥) → target_in other (preferring group node known) ≡ target_in other known
preferring_target other group node known ne = by (way_to group known)
  where
    by : (o : Option Way) → target_in other (changed (λ way. record way { preferred = Some node }) group known o) ≡ target_in other known
    by None = refl
    by (Some way) = set_other other group known (record way { preferred = Some node }) ne

push_target : (other : Draw) (known : KnownGroups) (entry : Draw × Way) (node : ℕ) → target_in other (known ++ entry ∷ []) ≡ Some node → (target_in other known ≡ Some node) ⊎ (other ≡ entry.0)
push_target other [] entry node e =
    elim (cases_Bool (same_draw other entry.0)) [
      | inl y ↦ inr (draw_is other entry.0 y)
      | inr n ↦ (let bad : None ≡ Some node = sym (ap (option_map target_of) (cond-false (same_draw other entry.0) (Some entry.1) None n)) ∙ e in cc)
    ]
push_target other (k ∷ ks) entry node e =
    elim (cases_Bool (same_draw other k.0)) [
      | inl y ↦ inl (ap (option_map target_of) (cond-true (same_draw other k.0) (Some k.1) (way_to other ks) y) ∙ (sym (ap (option_map target_of) (cond-true (same_draw other k.0) (Some k.1) (way_to other (ks ++ entry ∷ [])) y)) ∙ e))
      | inr n ↦ elim (push_target other ks entry node (sym (ap (option_map target_of) (cond-false (same_draw other k.0) (Some k.1) (way_to other (ks ++ entry ∷ [])) n)) ∙ e)) [
        | inl t ↦ inl (ap (option_map target_of) (cond-false (same_draw other k.0) (Some k.1) (way_to other ks) n) ∙ t)
        | inr same ↦ inr same
      ]
    ]

-- a group that an answer names is known as before, or goes last
abbrev GoesLast : KnownGroups → Draw → Arc → Link → Draw → ℕ → KnownGroups → Type 0
GoesLast known group arc succ other node after =
    target_in other after ≡ Some node → (target_in other known ≡ Some node) ⊎ ((other ≡ succ.group) × (after ≡ starting group arc.lo known ++ (succ.group, new_way (end_of arc) succ.members) ∷ []))

learnt_target : (group : Draw) (arc : Arc) (succ : Link) (known : KnownGroups) (other : Draw) (node : ℕ) → GoesLast known group arc succ other node (learnt_from_not_mine group arc succ known)
learnt_target group arc succ known other node =
    cond_both (is_some (way_to succ.group (starting group arc.lo known))) (starting succ.group (end_of arc) (starting group arc.lo known)) (starting group arc.lo known ++ (succ.group, new_way (end_of arc) succ.members) ∷ []) (GoesLast known group arc succ other node)
    (λ _ e. inl (sym (starting_target other succ.group (end_of arc) (starting group arc.lo known) ∙ starting_target other group arc.lo known) ∙ e))
    (λ _ e. elim (push_target other (starting group arc.lo known) (succ.group, new_way (end_of arc) succ.members) node e) [
      | inl t ↦ inl (sym (starting_target other group arc.lo known) ∙ t)
      | inr same ↦ inr (same, refl)
    ])

-- ---- what sending leaves

started_known : (seq : ℕ) (client : ClientState) → (started seq client).0.known ≡ client.known
started_known seq client = started_step client (λ (step : ClientStep). step.0.known ≡ client.known) seq (λ _. request_same (λ (c : ClientState). c.known) (λ c a. refl) (record client { waiting = Some seq })) (λ _. refl)

-- the group that was asked is asked still
abbrev AskedOf : Draw → ClientState → Type 0
AskedOf group client = (target : ℕ) × (client.asked ≡ Some (group, target))

sent_asked : (client : ClientState) (group : Draw) → AskedOf group client → AskedOf group (sent_to group client).0
sent_asked client group a = sent_step client (λ (step : ClientStep). AskedOf group step.0) group (record { silent = a; asks = λ target request t r. (target, refl) })

asked_group : (client : ClientState) (group : Draw) → AskedOf group client → (w : IsWaiting client) → w.group ≡ group
asked_group client group a w = ap (λ (x : Draw × ℕ). x.0) (some_is (sym w.asked ∙ a.1))

-- ---- the group that a client learns is the one that it asks next

module _ (set : Setting) (fact : IsSetting set) (frame : Frame) (a : Among frame set.frames) (known : KnownGroups) (r : RingKnown set frame known) (p : ℕ) (c : chosen p known ≡ Some frame.core.id) (out : holds frame.core.arc p ≡ false) where
  prefix_ring : (n : ℕ) (other : Frame) → Among other (take n r.ring) → Among other r.ring
  prefix_ring n other b = subst (Among other) (take-append-drop n r.ring) (Among-left other (take n r.ring) (drop n r.ring) b)

  -- where a start is known, it is that of the group of its name
  lo_of : (n : ℕ) (groups : KnownGroups) → map start_known groups ≡ map start_of (take n r.ring) → (entry : Draw × Way) → Among entry groups → (g : Frame) × Among g r.ring × (g.core.id ≡ entry.0) × (g.core.arc.lo ≡ entry.1.lo)
  lo_of n groups starts entry b =
      let f = from_map start_of (take n r.ring) (start_known entry) (subst (Among (start_known entry)) starts (map_among start_known groups entry b)) in
      (f.0, prefix_ring n f.0 f.1, ap (λ (s : Draw × ℕ). s.0) f.2, ap (λ (s : Draw × ℕ). s.1) f.2)

  apart : (one other : Frame) → Among one r.ring → Among other r.ring → one.core.id ≡ other.core.id → one ≡ other
  apart one other x y e = fact.apart one other (r.within one x) (r.within other y) e

  -- none that is known is nearer
  nearest : (g : Frame) → Among g r.ring → Among g.core.id (map name_in known) → gap p frame.core.arc.lo ≤ gap p g.core.arc.lo
  nearest g b name = elim (cases_lt 1 r.reached) [
    | inl many ↦ (
        let best = chosen_is p known frame.core.id c in
        let y = from_map name_in known g.core.id name in
        let le = Each-among (λ (x : Draw × Way). far p best.entry.1 ≤ far p x.1) known y.0 best.each y.1 in
        let one = lo_of r.reached known (r.first.starts (omega (arith, many))) best.entry best.stands in
        let two = lo_of r.reached known (r.first.starts (omega (arith, many))) y.0 y.1 in
        let here = ap (λ (f : Frame). gap p f.core.arc.lo) (apart one.0 frame one.1 r.among (one.2 ∙ best.name)) in
        let there = ap (λ (f : Frame). gap p f.core.arc.lo) (apart two.0 g two.1 b (two.2 ∙ y.2)) in
        let mine = ap (gap p) one.3 in
        let its = ap (gap p) two.3 in
        omega (arith, le, here, there, mine, its))
    | inr few ↦ (
        let count = ap length r.first.names in
        let all = length-map (take r.reached r.ring) id_of in
        let low = length-take-le r.reached r.ring r.first.low in
        let same : g.core.id ≡ frame.core.id = same_of_one (map name_in known) g.core.id frame.core.id (omega (arith, count, all, low, few)) name (chosen_known p known frame.core.id c) in
        let e = ap (λ (f : Frame). gap p f.core.arc.lo) (apart g frame b r.among same) in
        omega (arith, e))
  ]

  next_nearer : gap p (end_of frame.core.arc) < gap p frame.core.arc.lo
  next_nearer =
      let arc = r.round.arcs frame r.among in
      let lacks_ = ltb-false (((p + 2 ^ 32) - frame.core.arc.lo) % 2 ^ 32) frame.core.arc.len out in
      near_behind p frame.core.arc.lo frame.core.arc.len arc.1 arc.0.some arc.0.most (omega (arith, lacks_))

  abbrev entry_ : Draw × Way
  entry_ = (frame.core.succ.group, new_way (end_of frame.core.arc) frame.core.succ.members)

  -- the group that is learnt is chosen
  learnt_chosen : (group : Draw) → learnt_from_not_mine frame.core.id frame.core.arc frame.core.succ known ≡ starting frame.core.id frame.core.arc.lo known ++ (frame.core.succ.group, new_way (end_of frame.core.arc) frame.core.succ.members) ∷ []
      → chosen p (learnt_from_not_mine frame.core.id frame.core.arc frame.core.succ known) ≡ Some group → group ≡ frame.core.succ.group
  learnt_chosen group is_last e =
      let next_ = (learn_in_turn.not_mine r.ring r.reached p frame known r.round r.first r.among c out).1 in
      let more = r.first.some in
      let best = chosen_is p (learnt_from_not_mine frame.core.id frame.core.arc frame.core.succ known) group e in
      let last : Among entry_ (learnt_from_not_mine frame.core.id frame.core.arc frame.core.succ known) = subst (Among entry_) (sym is_last) (Among-right entry_ (starting frame.core.id frame.core.arc.lo known) (entry_ ∷ []) (inl refl)) in
      let le = Each-among (λ (x : Draw × Way). far p best.entry.1 ≤ far p x.1) (learnt_from_not_mine frame.core.id frame.core.arc frame.core.succ known) entry_ best.each last in
      elim (Among-either best.entry (starting frame.core.id frame.core.arc.lo known) (entry_ ∷ []) (subst (Among best.entry) is_last best.stands)) [
        | inl early ↦ (
            let g = lo_of (r.reached + 1) (learnt_from_not_mine frame.core.id frame.core.arc frame.core.succ known) (next_.starts (omega (arith, more))) best.entry best.stands in
            let name : Among g.0.core.id (map name_in known) = subst (Among g.0.core.id) (starting_names frame.core.id frame.core.arc.lo known) (subst (λ d. Among d (map name_in (starting frame.core.id frame.core.arc.lo known))) (sym g.2) (map_among name_in (starting frame.core.id frame.core.arc.lo known) best.entry early)) in
            let near = nearest g.0 g.1 name in
            let lo = ap (gap p) g.3 in
            let next_near = next_nearer in
            absurd (omega (arith, near, lo, le, next_near)))
        | inr (inl same) ↦ sym best.name ∙ ap (λ (x : Draw × Way). x.0) (sym same)
        | inr (inr none) ↦ absurd none
      ]

-- one that knows one group alone asks no other
lone_waits : (set : Setting) (client : ClientState) (entry : Draw × Way) → client.known ≡ entry ∷ [] → AsksLeaders set client
lone_waits set client entry one w group node t =
    let chosen_among = subst (λ l. Among w.group (map name_in l)) one (chosen_known (pos_of (key_of w.op)) client.known w.group w.chosen_is) in
    let name : entry.0 ≡ w.group = elim chosen_among [ inl e ↦ e | inr none ↦ absurd none ] in
    elim (push_target group [] entry node (ap (target_in group) (sym one) ∙ t)) [ inl bad ↦ cc | inr same ↦ inr (same ∙ name) ]

lone_leads : (set : Setting) (client : ClientState) (entry : Draw × Way) → client.known ≡ entry ∷ [] → AsksLeaders set (request_sent client).0
lone_leads set client entry one = lone_waits set (request_sent client).0 entry (request_same (λ (c : ClientState). c.known) (λ c a. refl) client ∙ one)

started_leads : (set : Setting) (seq : ℕ) (client : ClientState) (entry : Draw × Way) → client.known ≡ entry ∷ [] → AsksLeaders set (started seq client).0
started_leads set seq client entry one = lone_waits set (started seq client).0 entry (started_known seq client ∙ one)

-- ---- each answer

module _ (begun : Requests) (set : Setting) (fact : IsSetting set) (linked : IsLinkedSetting set) (asks : Asks) (gone : Bool) (client : ClientState) (k : IsCalmClient set asks gone client) (w : IsWaiting client) (mail : Mail) (m : IsCalmMail begun set mail) (to : mail.to ≡ client_actor client.me)
    (asked_right : (seq : ℕ) (op : Op) → begun client.me seq op → slice_get client.requests (seq - 1) ≡ Some op) (from : mail.from ≡ w.target) (leads : AsksLeaders set client) where
  abbrev SaysIt : AnswerBody → Type 0
  SaysIt answer = CalmSays begun set mail.from mail.to (Answer w.group w.seq answer)

  abbrev Leads : ClientStep → Type 0
  Leads step = AsksLeaders set step.0

  -- where the leader of the asked group answers, each known group is asked at its leader
  led_by : (frame : Frame) → Among frame set.frames → w.group ≡ frame.core.id → mail.from ≡ frame.lead → (group : Draw) (node : ℕ) → target_in group client.known ≡ Some node → IsLedAt set group node
  led_by frame a name lead group node t = elim (leads w group node t) [
    | inl led ↦ led
    | inr same ↦ (
        let there : w.target ≡ node = some_is (sym w.target_is ∙ (ap (λ d. target_in d client.known) (sym same) ∙ t)) in
        record { frame = frame; is_frame = a; name = sym name ∙ sym same; lead = sym lead ∙ (from ∙ there) })
  ]

  by_value : (reply : Reply) → SaysIt (Value reply) → Leads (started (w.seq + 1) (record client { replies = client.replies ++ reply ∷ [] }))
  by_value reply s w_ group node t =
      inl (all_led begun set fact linked asks gone client k w mail m to asked_right from leads reply s group node (ap (target_in group) (sym (started_known (w.seq + 1) (record client { replies = client.replies ++ reply ∷ [] }))) ∙ t))

  by_hint : (hint : ℕ) → Leads (sent_to w.group (record client { known = preferring w.group hint client.known }))
  by_hint hint w_ group node t =
      let before : ClientState = record client { known = preferring w.group hint client.known } in
      let asked = sent_asked before w.group (w.target, w.asked) in
      let same : w_.group ≡ w.group = asked_group (sent_to w.group before).0 w.group asked w_ in
      let known_is : (sent_to w.group before).0.known ≡ before.known = sent_same (λ (c : ClientState). c.known) (λ c a. refl) w.group before in
      elim (cases_Bool (same_draw group w.group)) [
        | inl y ↦ inr (draw_is group w.group y ∙ sym same)
        | inr n ↦ (
            let ne : group ≡ w.group → ⊥ = λ e. both_ways (same_draw group w.group) n (same_name group w.group e) in
            elim (leads w group node (sym (preferring_target group w.group hint client.known ne) ∙ (ap (target_in group) (sym known_is) ∙ t))) [ inl led ↦ inl led | inr e ↦ absurd (ne e) ])
      ]

  by_not_mine : (arc : Arc) (succ : Link) → SaysIt (NotMine arc succ) → Leads (request_sent (record client { known = learnt_from_not_mine w.group arc succ client.known }))
  by_not_mine arc succ (inr s) = absurd (s.says)
  by_not_mine arc succ (inl s) =
      let frame : Frame = s.frame in
      let known_is : learnt_from_not_mine w.group arc succ client.known ≡ learnt_from_not_mine frame.core.id frame.core.arc frame.core.succ client.known =
      ap (λ d. learnt_from_not_mine d arc succ client.known) s.says.0
      ∙ (ap (λ (x : Arc). learnt_from_not_mine frame.core.id x succ client.known) s.says.1.says.1 ∙ ap (λ (x : Link). learnt_from_not_mine frame.core.id frame.core.arc x client.known) s.says.1.says.2) in
      subst (λ l. Leads (request_sent (record client { known = l }))) (sym known_is) (by_frame frame s.is_frame s.says.0 s.says.1.from_is (lacks begun set fact linked asks gone client k w mail to asked_right arc succ s))
    where
      by_frame : (frame : Frame) → Among frame set.frames → w.group ≡ frame.core.id → mail.from ≡ frame.lead → holds frame.core.arc (pos_of (key_of w.op)) ≡ false → Leads (request_sent (record client { known = learnt_from_not_mine frame.core.id frame.core.arc frame.core.succ client.known }))
      by_frame frame a name lead out w_ group node t =
          let known : KnownGroups = learnt_from_not_mine frame.core.id frame.core.arc frame.core.succ client.known in
          let before : ClientState = record client { known = known } in
          let known_is : (request_sent before).0.known ≡ known = request_same (λ (c : ClientState). c.known) (λ c a. refl) before in
          let waits_is : (request_sent before).0.waiting ≡ client.waiting = request_same (λ (c : ClientState). c.waiting) (λ c a. refl) before in
          let requests_is : (request_sent before).0.requests ≡ client.requests = request_same (λ (c : ClientState). c.requests) (λ c a. refl) before in
          let seq_is : w_.seq ≡ w.seq = some_is (sym w_.waits ∙ (waits_is ∙ w.waits)) in
          let op_is : w_.op ≡ w.op = some_is (sym w_.op_is ∙ (ap (λ (l : List Op). slice_get l (w_.seq - 1)) requests_is ∙ (ap (λ n. slice_get client.requests (n - 1)) seq_is ∙ w.op_is))) in
          let choice : chosen (pos_of (key_of w.op)) known ≡ Some w_.group = ap (chosen (pos_of (key_of w.op))) (sym known_is) ∙ (ap (λ o. chosen (pos_of (key_of o)) (request_sent before).0.known) (sym op_is) ∙ w_.chosen_is) in
          elim (learnt_target frame.core.id frame.core.arc frame.core.succ client.known group node (ap (target_in group) (sym known_is) ∙ t)) [
            | inl old ↦ inl (led_by frame a name lead group node old)
            | inr new ↦ inr (new.0 ∙ sym (learnt_chosen set fact frame a client.known (ring_known begun set fact linked asks gone client k w frame a name) (pos_of (key_of w.op)) (w.chosen_is ∙ ap Some name) out w_.group new.1 choice))
          ]

  by_gone : (into : Route) → SaysIt (Gone into) → Leads (request_sent (record client { known = learnt_from_gone w.group into client.known }))
  by_gone into (inl s) = absurd (s.says.1.says)
  by_gone into (inr s) =
      let one = alone begun set fact linked asks gone client k w into s.says in
      let known : KnownGroups = (into.group, new_way into.lo into.members) ∷ [] in
      let removed : remove_entry (same_draw w.group) ((w.group, one.0) ∷ []) ≡ [] = cond-true (same_draw w.group w.group) [] ((w.group, one.0) ∷ []) (same_name w.group w.group refl) in
      let known_is : learnt_from_gone w.group into client.known ≡ known = ap (learnt_from_gone w.group into) one.1 ∙ ap (group_learnt into.group into.lo into.members) removed in
      subst (λ l. Leads (request_sent (record client { known = l }))) (sym known_is) (lone_leads set (record client { known = known }) (into.group, new_way into.lo into.members) refl)

  pub answer_leads : (answer : AnswerBody) → mail.body ≡ Answer w.group w.seq answer → AsksLeaders set (got mail.from mail.body client).0
  answer_leads answer e =
      subst (λ (b : MailBody). Leads (got mail.from b client)) (sym e)
      (answer_step client mail.from w.group w.seq (λ answer step. SaysIt answer → Leads step) (λ answer _ s. leads) (record {
        replied = λ reply _ s. by_value reply s;
        hinted = λ hint _ _ s. by_hint hint;
        turned = λ _ _ s. elim s [ inl plain ↦ absurd (plain.says.1.says) | inr aside ↦ absurd (aside.says) ];
        not_mine = λ arc succ _ _ s. by_not_mine arc succ s;
        gone = λ into _ _ s. by_gone into s;
      }) answer (calm_says begun set mail m (Answer w.group w.seq answer) e))

-- Clients go on to ask leaders: of each group that one knows, but for that which it asked last, it would ask the node that leads, once it goes and by each answer that it waits for.
pub ask_leaders : ClientsAskLeaders
ask_leaders = record {
  go = λ set asks client entry k one. started_leads set 1 client entry one;
  takes = λ scenario rows set asks gone client mail fact linked k m to asked_right leads a. answer_leads (IsBegun scenario rows) set fact linked asks gone client k a.waits mail m to asked_right a.from_is leads a.answer a.body_is;
}

-- What a client does while clients ask alone, between two orders: it stays calm, and asks nodes that have a replica.
use Rattle.std.proofs.Common.{◌≡◌, ℕ, ◌+◌, ◌-◌, ◌<◌, ◌≤◌, Bool, true, false, List, [], ◌∷◌, ◌++◌, length, map, take, Option, Some, None, ◌⊎◌, inl, inr, refl, sym, ◌∙◌, ap, subst, arith}
use Rattle.std.specs.Prelude.{nat_le, slice_get, get_or, is_some}
use Rattle.std.specs.Option.{option_map}
use Rattle.std.specs.Map.{remove_entry}
use Rattle.std.proofs.lemmas.Bool.{cond_both, cond-true, leb-true, leb-false, le-leb, eq-eqb}
use Rattle.std.proofs.lemmas.List.{length_push, length-map, length-take-le}
use Rattle.std.proofs.lemmas.Option.{slice_get-get_or, slice_get_within}
use Rattle.sc_base.specs.Definitions.{Among, Each, Arc, end_of, client_actor, key_of, same_draw, pos_of}
use Rattle.sc_node_table.specs.Values.{Draw, Op, Get, Reply, Got, Link, Route, AnswerBody, Value, NotLeader, NotMine, Gone, Stale, Mail, MailBody, Request, Answer}
use Rattle.sc_base.proofs.Lemmas.{same_name}
use Rattle.sc_words.specs.ideal.IdealDefinitions.{holds_key}
use Rattle.sc_actor.specs.declared.rows.Input.TheVariants.{Go}
use Rattle.sc_client_table.specs.lookup.LookupDefinitions.{KnownGroups, way_to, chosen, target_in, changed, preferring, starting, group_learnt, learnt_from_not_mine, learnt_from_gone, new_way, target_of}
use Rattle.sc_client_table.specs.declared.lookup.ways.Way.{Way}
use Rattle.sc_client_table.specs.table.TableDefinitions.{Client as ClientState, request_at, waiting_request, ClientStep, asked_of, sent_to, sent_where, chosen_for, request_sent, started, waits_for, got, table}
use Rattle.sc_scenario.specs.declared.scenario.scenarios.Asks.{Asks}
use Rattle.sc_live_plain.specs.PlainDefinitions.{IsLinkedSetting, Knows, CanBeAsked, IsCalmClient, BeginsBy, StaysCalm, Setting, IsHome, HasGoneTo, IsSetting, IsCalmMail, Frame, begun_ones, IsWaiting, IsResting, Requests}
use Rattle.sc_live_plain.proofs.CalmProofs.ChosenGroups.{way_found, lookup_has, set_each, push_each, chosen_same, chosen_among}
use Rattle.sc_live_plain.proofs.CalmProofs.KnownGroups.{name_in, id_of, one_chosen, one_of_one, preferring_names, preferring_starts, learn_in_turn}
use Rattle.sc_law_walks.proofs.ClientWalks.{IgnoresBody, IgnoresAnswer, ignored_answer, AnswerWalk, mail_step}
use Rattle.sc_live_plain.proofs.CalmProofs.AskedGroups.{CalmSays, calm_says, awaiting, reply_missing, ring_known, alone, op_same}
use Rattle.sc_live_plain.proofs.PlainRowsProofs.Lists.{some_is}
use Rattle.sc_live_plain.proofs.PlainRowsProofs.RepeatedMail.{mail_of}
use Rattle.sc_live_plain.proofs.PlainProofs.BegunRequestCounts.{request_same as sent_begun}

-- the mail of a client's request
abbrev pub asking : ℕ → ℕ → Draw → ℕ → Op → Mail
asking me target group seq op = mail_of (client_actor me) target (Request group me seq op)

-- a client that has not started has asked nothing
pub unasked : (client : ClientState) → IsResting false client ⊎ ((false ≡ true) × IsWaiting client) → (client.waiting ≡ None) × (client.replies ≡ [])
unasked client (inl rests) = elim (rests.replies) [ inl fact ↦ (rests.waits, fact.1) | inr fact ↦ (let bad : false ≡ true = fact.0 in cc) ]
unasked client (inr fact) = (let bad : false ≡ true = fact.0 in cc)

-- ---- how many requests are begun

pub started_begun : (seq : ℕ) (client : ClientState) → seq ≤ length client.requests → begun_ones (started seq client).0 ≡ length client.replies + 1
started_begun seq client le =
    ap (λ (x : ClientStep). begun_ones x.0) (cond-true (nat_le seq (length client.requests)) (request_sent (record client { waiting = Some seq })) (record client { waiting = None }, []) (le-leb seq (length client.requests) le))
    ∙ sent_begun (record client { waiting = Some seq })

-- ---- what becomes of the request that waits

-- an answer that ends a request, or sends its client on
abbrev pub EndsWait : AnswerBody → Type 0
EndsWait (Value reply) = Unit {0}
EndsWait (NotMine arc succ) = Unit {0}
EndsWait (NotLeader hint) = Unit {0}
EndsWait (Gone into) = Unit {0}
EndsWait (Stale last) = ⊥

-- where a request waits after a step, the step sent it
abbrev pub Seeks : ClientStep → Type 0
Seeks step = (w : IsWaiting step.0) → (op : Op) × Among (asking step.0.me w.target w.group w.seq op) step.1

-- a client ignores a mail that is no such answer to its request, from the node that was asked
pub record Ignores (client : ClientState) (mail : Mail) (step : ClientStep) : Type 0 where
  pub after_is : step ≡ (client, [])
  pub no_end : (w : IsWaiting client) (answer : AnswerBody) → EndsWait answer → mail ≡ mail_of w.target (client_actor client.me) (Answer w.group w.seq answer) → ⊥

module _ (set : Setting) where
  abbrev P : Draw × Way → Type 0
  P = CanBeAsked set

  -- ---- known groups and their targets

  pub one_known : (known : KnownGroups) → Knows set known → 1 ≤ length known
  one_known known (inl k) = (let n = ap length k.2 in omega (arith, n))
  one_known known (inr k) =
      let names = ap length k.first.names in
      let mine = length-map known name_in in
      let theirs = length-map (take k.reached k.ring) id_of in
      let count = length-take-le k.reached k.ring k.first.low in
      let some = k.first.some in
      omega (arith, names, mine, theirs, count, some)

  starting_each : (group : Draw) (lo : ℕ) (known : KnownGroups) → Each (CanBeAsked set) known → Each (CanBeAsked set) (starting group lo known)
  starting_each group lo known e = by (way_to group known) refl
    where
      by : (o : Option Way) → way_to group known ≡ o → Each (CanBeAsked set) (changed (λ way. record way { lo = lo }) group known o)
      by None f = e
      by (Some way) f = set_each (CanBeAsked set) group known (record way { lo = lo }) (lookup_has (CanBeAsked set) known group way f e) e

  learnt_each : (group : Draw) (lo : ℕ) (members : List ℕ) (known : KnownGroups) → P (group, new_way lo members) → Each (CanBeAsked set) known → Each (CanBeAsked set) (group_learnt group lo members known)
  learnt_each group lo members known p e =
      cond_both (is_some (way_to group known)) (starting group lo known) (known ++ (group, new_way lo members) ∷ []) (Each (CanBeAsked set)) (λ _. starting_each group lo known e) (λ _. push_each (CanBeAsked set) known (group, new_way lo members) e p)

  preferring_each : (group : Draw) (node : ℕ) (known : KnownGroups) → IsHome set group node → Each (CanBeAsked set) known → Each (CanBeAsked set) (preferring group node known)
  preferring_each group node known h e = by (way_to group known)
    where
      by : (o : Option Way) → Each (CanBeAsked set) (changed (λ way. record way { preferred = Some node }) group known o)
      by None = e
      by (Some way) = set_each (CanBeAsked set) group known (record way { preferred = Some node }) h e

  preferring_knows : (group : Draw) (node : ℕ) (known : KnownGroups) → Knows set known → Knows set (preferring group node known)
  preferring_knows group node known (inl k) =
      let one = one_of_one name_in (preferring group node known) k.0 (preferring_names group node known ∙ ap (λ l. map name_in l) k.2) in
      inl (one.0.0, one.0.1, one.1)
  preferring_knows group node known (inr k) = inr (record { ring = k.ring; is_ring = k.is_ring; reached = k.reached; first = learn_in_turn.not_leader k.ring k.reached node group known k.first })

  -- ---- a request is sent

  module _ (asks : Asks) where
    -- a client in which a request waits
    record IsReady (seq : ℕ) (op : Op) (client : ClientState) : Type 0 where
      me_is : client.me ≡ asks.client
      requests_are : client.requests ≡ asks.ops
      knows : Knows set client.known
      targets : Each (CanBeAsked set) client.known
      waits : client.waiting ≡ Some seq
      number : seq ≡ length client.replies + 1
      op_is : slice_get client.requests (seq - 1) ≡ Some op

    request_is : (seq : ℕ) (op : Op) (client : ClientState) → IsReady seq op client → waiting_request client ≡ Some (seq, op)
    request_is seq op client k = ap (request_at client.requests) k.waits ∙ ap (λ (o : Option Op). option_map (λ x. (seq, x)) o) k.op_is

    module _ (begun : Requests) (gone : Bool) where
      abbrev Stays : ClientStep → Type 0
      Stays step = StaysCalm begun set asks gone step × Seeks step

      -- it sends its request to the group that is chosen
      asked_row : gone ≡ true → (seq : ℕ) (op : Op) (client : ClientState) → IsReady seq op client → (group : Draw) → chosen (pos_of (key_of op)) client.known ≡ Some group → begun client.me seq op → Stays (sent_to group client)
      asked_row g seq op client k group c b =
          let w = way_found (CanBeAsked set) client.known group (chosen_among (pos_of (key_of op)) client.known group c) k.targets in
          let target : ℕ = target_of w.0 in
          let target_is : target_in group client.known ≡ Some target = ap (λ (o : Option Way). option_map target_of o) w.1 in
          let after_is : sent_to group client ≡ (record client { asked = Some (group, target) }, asking client.me target group seq op ∷ []) =
          ap (λ (o : Option ℕ). asked_of client group o (waiting_request client)) target_is ∙ ap (asked_of client group (Some target)) (request_is seq op client k) in
          let seeks : Seeks (record client { asked = Some (group, target) }, asking client.me target group seq op ∷ []) = λ w_. (
          let seq_ : seq ≡ w_.seq = some_is (sym k.waits ∙ w_.waits) in
          let pair : (group, target) ≡ (w_.group, w_.target) = some_is w_.asked in
          let group_ : group ≡ w_.group = ap (λ (x : Draw × ℕ). x.0) pair in
          let target_ : target ≡ w_.target = ap (λ (x : Draw × ℕ). x.1) pair in
          (op, inl (ap (λ x. asking client.me x group seq op) target_ ∙ (ap (λ x. asking client.me w_.target x seq op) group_ ∙ ap (λ x. asking client.me w_.target w_.group x op) seq_)))) in
          subst Stays (sym after_is) (
            (
              record {
                me_is = k.me_is;
                requests_are = k.requests_are;
                knows = λ few. k.knows;
                targets = λ few. k.targets;
                state = inr (
                  g,
                  record { seq = seq; op = op; waits = k.waits; number = k.number; op_is = k.op_is; group = group; target = target; asked = refl; chosen_is = c; target_is = target_is },
                );
              },
              (inr (refl, w.2, b), tt),
            ),
            seeks,
          )

      ready_row : gone ≡ true → (seq : ℕ) (op : Op) (client : ClientState) → IsReady seq op client → begun client.me seq op → Stays (request_sent client)
      ready_row g seq op client k b =
          let one = one_chosen (pos_of (key_of op)) client.known (one_known client.known k.knows) in
          let fact : request_sent client ≡ sent_to one.0 client = ap (λ (o : Option (ℕ × Op)). sent_where client (chosen_for client o)) (request_is seq op client k) ∙ ap (sent_where client) one.1 in
          subst Stays (sym fact) (asked_row g seq op client k one.0 one.1 b)

    -- the next request, or none where all are answered
    started_row : (begun : Requests) (client : ClientState) (seq : ℕ) → client.me ≡ asks.client → client.requests ≡ asks.ops → (length client.replies < length client.requests → Knows set client.known) → (length client.replies < length client.requests → Each (CanBeAsked set) client.known) → seq ≡ length client.replies + 1 → length client.replies ≤ length client.requests
        → BeginsBy begun client (started seq client) → StaysCalm begun set asks true (started seq client) × Seeks (started seq client)
    started_row begun client seq me_is requests_are knows targets number few now =
        cond_both (nat_le seq (length client.requests)) (request_sent (record client { waiting = Some seq })) (record client { waiting = None }, []) (λ (x : ClientStep). StaysCalm begun set asks true x × Seeks x)
        (λ t. (let le = leb-true seq (length client.requests) t in
        let op = get_or client.requests (seq - 1) (Get []) in
        let fact = slice_get-get_or client.requests (seq - 1) (Get []) (omega (arith, le, number)) in
        ready_row begun true refl seq op (record client { waiting = Some seq }) (record { me_is = me_is; requests_are = requests_are; knows = knows (omega (arith, le, number)); targets = targets (omega (arith, le, number)); waits = refl; number = number; op_is = fact }) (now seq op (omega (arith, number)) fact (let begins = started_begun seq client le in omega (arith, begins, number)))))
        (λ f. (let past = leb-false seq (length client.requests) f in (
          (
            record { me_is = me_is; requests_are = requests_are; knows = knows; targets = targets; state = inl (record { waits = refl; replies = inr (refl, omega (arith, past, number, few)) }) },
            tt,
          ),
          (λ w. (let bad : None ≡ Some w.seq = w.waits in cc)),
        )))

    pub go_calm : (begun : Requests) (client : ClientState) → IsCalmClient set asks false client → BeginsBy begun client (table client Go) → StaysCalm begun set asks true (table client Go) × Seeks (table client Go)
    go_calm begun client k now =
        let none = unasked client k.state in
        let short = ap length none.1 in
        started_row begun client 1 k.me_is k.requests_are k.knows k.targets (omega (arith, short)) (omega (arith, short)) now

    -- ---- each mail

    module _ (begun later : Requests) (gone : Bool) (client : ClientState) (mail : Mail) (fact : IsSetting set) (linked : IsLinkedSetting set) (k : IsCalmClient set asks gone client) (m : IsCalmMail begun set mail) (to : mail.to ≡ client_actor client.me)
        (asked_right : (seq : ℕ) (op : Op) → begun client.me seq op → slice_get client.requests (seq - 1) ≡ Some op) (weaker : (c n : ℕ) (op : Op) → begun c n op → later c n op) (now : BeginsBy later client (table client (Got mail))) where
      abbrev Keeps : ClientStep → Type 0
      Keeps step = StaysCalm later set asks gone step × (Seeks step ⊎ Ignores client mail step)

      abbrev Sends : ClientStep → Type 0
      Sends step = StaysCalm later set asks gone step × Seeks step

      sends : (step : ClientStep) → Sends step → Keeps step
      sends step x = (x.0, inl x.1)

      -- a mail that is ignored
      ignored : IgnoresBody client mail.from mail.body → Keeps (client, [])
      ignored i = (
        (record { me_is = k.me_is; requests_are = k.requests_are; knows = k.knows; targets = k.targets; state = k.state }, tt),
        inr (record { after_is = refl; no_end = λ w answer f e. no_end w answer (ap (λ (m : Mail). m.from) e) f (ignored_answer client mail.from (ap (λ (m : Mail). m.body) e) i) }),
      )
        where
          no_end : (w : IsWaiting client) (answer : AnswerBody) → mail.from ≡ w.target → EndsWait answer → IgnoresAnswer client mail.from w.group w.seq answer → ⊥
          no_end w (Value reply) from f i = i.no_reply reply w.waits refl
          no_end w (Stale last) from f i = f
          no_end w _ from f i = i.not_sent w.waits (w.asked ∙ ap (λ node. Some (w.group, node)) (sym from)) refl

      -- ---- an answer to the request that waits

      module _ (is_gone : gone ≡ true) (w : IsWaiting client) where
        -- the request of an answer to the client is the one that waits
        module _ (who : ℕ) (op : Op) (receiver : mail.to ≡ client_actor who) (b : begun who w.seq op) where
          same_op : op ≡ w.op
          same_op = op_same begun set fact linked asks gone client k w mail to asked_right who op receiver b

          mine : begun client.me w.seq op
          mine = (let same : who ≡ client.me = omega (arith, to, receiver) in subst (λ c. begun c w.seq op) same b)

          begun_later : later client.me w.seq w.op
          begun_later = weaker client.me w.seq w.op (subst (λ x. begun client.me w.seq x) same_op mine)

        few : length client.replies < length client.requests
        few = reply_missing client w

        ready : (known : KnownGroups) → Knows set known → Each (CanBeAsked set) known → IsReady w.seq w.op (record client { known = known })
        ready known knows targets = record { me_is = k.me_is; requests_are = k.requests_are; knows = knows; targets = targets; waits = w.waits; number = w.number; op_is = w.op_is }

        -- it is a reply, and the next request is begun
        replied : (group : Draw) (reply : Reply) → mail.body ≡ Answer group w.seq (Value reply) → Keeps (started (w.seq + 1) (record client { replies = client.replies ++ reply ∷ [] }))
        replied group reply e =
            let after : ClientState = record client { replies = client.replies ++ reply ∷ [] } in
            let push = length_push client.replies reply in
            let number = w.number in
            let low = slice_get_within client.requests (w.seq - 1) w.op w.op_is in
            let waits_same : waits_for client.waiting w.seq ≡ true = ap (λ (o : Option ℕ). waits_for o w.seq) w.waits ∙ eq-eqb w.seq w.seq refl in
            let same : table client (Got mail) ≡ started (w.seq + 1) after = ap (λ (b : MailBody). got mail.from b client) e ∙ cond-true (waits_for client.waiting w.seq) (started (w.seq + 1) after) (client, []) waits_same in
            let begins : BeginsBy later after (started (w.seq + 1) after) = λ n op one at le. now n op one at (subst (λ (x : ClientStep). n ≤ begun_ones x.0) (sym same) le) in
            sends (started (w.seq + 1) after) (subst (λ g. StaysCalm later set asks g (started (w.seq + 1) after) × Seeks (started (w.seq + 1) after)) (sym is_gone) (started_row later after (w.seq + 1) k.me_is k.requests_are (λ more. k.knows few) (λ more. k.targets few) (omega (arith, push, number)) (omega (arith, push, low, number)) begins))

        -- it names another node, which is asked
        hinted : (group : Draw) (node : ℕ) → w.group ≡ group → CalmSays begun set mail.from mail.to (Answer group w.seq (NotLeader (Some node))) → Keeps (sent_to group (record client { known = preferring group node client.known }))
        hinted group node name (inl s) = absurd (s.says.1.says)
        hinted group node name (inr s) =
            let known = preferring group node client.known in
            let chosen_is_ : chosen (pos_of (key_of w.op)) known ≡ Some group = chosen_same (pos_of (key_of w.op)) known client.known (preferring_starts group node client.known) ∙ (w.chosen_is ∙ ap Some name) in
            sends (sent_to group (record client { known = known })) (asked_row later gone is_gone w.seq w.op (record client { known = known }) (ready known (preferring_knows group node client.known (k.knows few)) (preferring_each group node client.known s.says.has (k.targets few))) group chosen_is_ (begun_later s.client s.op s.to_is s.is_begun))

        -- it says that the key is another group's: the next one is learnt, and asked
        next_known : (frame : Frame) → Among frame set.frames → w.group ≡ frame.core.id → holds_key frame.core.arc (key_of w.op) ≡ false → Knows set (learnt_from_not_mine frame.core.id frame.core.arc frame.core.succ client.known)
        next_known frame a name without =
            let r = ring_known begun set fact linked asks gone client k w frame a name in
            let next_ = learn_in_turn.not_mine r.ring r.reached (pos_of (key_of w.op)) frame client.known r.round r.first r.among (w.chosen_is ∙ ap Some name) without in
            inr (record { ring = r.ring; is_ring = record { round = r.round; within = r.within }; reached = r.reached + 1; first = next_.1 })

        sent_on : (group : Draw) (arc : Arc) (succ : Link) → w.group ≡ group → CalmSays begun set mail.from mail.to (Answer group w.seq (NotMine arc succ)) → Keeps (request_sent (record client { known = learnt_from_not_mine group arc succ client.known }))
        sent_on group arc succ name (inr s) = absurd (s.says)
        sent_on group arc succ name (inl s) =
            let frame : Frame = s.frame in
            let reply = s.says.1 in
            let without : holds_key frame.core.arc (key_of w.op) ≡ false = ap (λ x. holds_key frame.core.arc (key_of x)) (sym (same_op reply.client reply.op reply.to_is reply.is_begun)) ∙ reply.says.0 in
            let known_is : learnt_from_not_mine group arc succ client.known ≡ learnt_from_not_mine frame.core.id frame.core.arc frame.core.succ client.known =
            ap (λ d. learnt_from_not_mine d arc succ client.known) s.says.0
            ∙ (ap (λ (x : Arc). learnt_from_not_mine frame.core.id x succ client.known) reply.says.1 ∙ ap (λ (x : Link). learnt_from_not_mine frame.core.id frame.core.arc x client.known) reply.says.2) in
            let known : KnownGroups = learnt_from_not_mine frame.core.id frame.core.arc frame.core.succ client.known in
            let targets = learnt_each frame.core.succ.group (end_of frame.core.arc) frame.core.succ.members (starting frame.core.id frame.core.arc.lo client.known) (linked.links frame s.is_frame) (starting_each frame.core.id frame.core.arc.lo client.known (k.targets few)) in
            subst (λ l. Keeps (request_sent (record client { known = l }))) (sym known_is)
            (sends (request_sent (record client { known = known })) (ready_row later gone is_gone w.seq w.op (record client { known = known }) (ready known (next_known frame s.is_frame (name ∙ s.says.0) without) targets) (begun_later reply.client reply.op reply.to_is reply.is_begun)))

        -- it says where the group went, which is known alone
        moved : (group : Draw) (into : Route) → w.group ≡ group → CalmSays begun set mail.from mail.to (Answer group w.seq (Gone into)) → Keeps (request_sent (record client { known = learnt_from_gone group into client.known }))
        moved group into name (inl s) = absurd (s.says.1.says)
        moved group into name (inr s) =
            let one = alone begun set fact linked asks gone client k w into (subst (λ d. HasGoneTo set d into) (sym name) s.says) in
            let known : KnownGroups = (into.group, new_way into.lo into.members) ∷ [] in
            let removed : remove_entry (same_draw group) ((group, one.0) ∷ []) ≡ [] = cond-true (same_draw group group) [] ((group, one.0) ∷ []) (same_name group group refl) in
            let known_is : learnt_from_gone group into client.known ≡ known = ap (learnt_from_gone group into) (one.1 ∙ ap (λ d. (d, one.0) ∷ []) name) ∙ ap (group_learnt into.group into.lo into.members) removed in
            subst (λ l. Keeps (request_sent (record client { known = l }))) (sym known_is)
            (sends (request_sent (record client { known = known })) (ready_row later gone is_gone w.seq w.op (record client { known = known }) (ready known (inl (into.group, new_way into.lo into.members, refl)) (linked.routes group into s.says, tt)) (begun_later s.client s.op s.to_is s.is_begun)))

      -- any answer
      answered : (group : Draw) (seq : ℕ) → AnswerWalk client mail.from group seq (λ answer step. mail.body ≡ Answer group seq answer → Keeps step)
      answered group seq = record {
        replied = λ reply waits e. (let a = awaiting client gone k.state seq waits in
            subst (λ n. Keeps (started (n + 1) (record client { replies = client.replies ++ reply ∷ [] }))) a.2 (replied a.0 a.1 group reply (body_of a.1 a.2 e)));
        hinted = λ hint waits asked e. (let a = awaiting client gone k.state seq waits in hinted a.0 a.1 group hint (group_of a.1 asked) (says a.1 a.2 e));
        turned = λ waits asked e. (let a = awaiting client gone k.state seq waits in elim (says a.1 a.2 e) [ inl s ↦ absurd (s.says.1.says) | inr s ↦ absurd (s.says) ]);
        not_mine = λ arc succ waits asked e. (let a = awaiting client gone k.state seq waits in sent_on a.0 a.1 group arc succ (group_of a.1 asked) (says a.1 a.2 e));
        gone = λ into waits asked e. (let a = awaiting client gone k.state seq waits in moved a.0 a.1 group into (group_of a.1 asked) (says a.1 a.2 e));
      }
        where
          body_of : {answer : AnswerBody} (w : IsWaiting client) → w.seq ≡ seq → mail.body ≡ Answer group seq answer → mail.body ≡ Answer group w.seq answer
          body_of {answer} w same e = e ∙ ap (λ n. Answer group n answer) (sym same)

          group_of : (w : IsWaiting client) → client.asked ≡ Some (group, mail.from) → w.group ≡ group
          group_of w asked = ap (λ (x : Draw × ℕ). x.0) (some_is (sym w.asked ∙ asked))

          says : {answer : AnswerBody} (w : IsWaiting client) → w.seq ≡ seq → mail.body ≡ Answer group seq answer → CalmSays begun set mail.from mail.to (Answer group w.seq answer)
          says {answer} w same e = calm_says begun set mail m (Answer group w.seq answer) (body_of w same e)

      pub takes_calm : StaysCalm later set asks gone (table client (Got mail)) × (Seeks (table client (Got mail)) ⊎ Ignores client mail (table client (Got mail)))
      takes_calm = mail_step client mail Keeps ignored answered

-- where a request waits, the node that was asked has a replica
pub waiting_home : (set : Setting) (asks : Asks) (gone : Bool) (client : ClientState) → IsCalmClient set asks gone client → (w : IsWaiting client) → IsHome set w.group w.target
waiting_home set asks gone client k w = by (way_to w.group client.known) refl w.target_is
  where
    by : (o : Option Way) → way_to w.group client.known ≡ o → option_map target_of o ≡ Some w.target → IsHome set w.group w.target
    by None e t = cc
    by (Some way) e t = subst (IsHome set w.group) (some_is t) (lookup_has (CanBeAsked set) client.known w.group way e (k.targets (reply_missing client w)))

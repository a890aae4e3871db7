-- Where a client's request is under way once, the first mail to it is the answer that it waits for.
use Rattle.std.proofs.Common.{◌≡◌, ℕ, ◌+◌, ◌-◌, ◌≤◌, eqb, Bool, true, false, cond, List, [], ◌∷◌, ◌++◌, find, map, replicate, sum_by, Some, None, inl, inr, refl, sym, ◌∙◌, ap, subst, arith, append-nil}
use Rattle.std.proofs.lemmas.Bool.{both_ways, eqb-true, eq-eqb, cond-true}
use Rattle.std.proofs.lemmas.List.Sums.{sum_by-append, sum_by-cons}
use Rattle.sc_base.specs.Definitions.{Among, client_actor, same_draw, is_member}
use Rattle.sc_node_table.specs.Values.{Draw, Op, Command, Call, Base, OrderLine, AnswerBody, Mail, MailBody, Request, Answer, Prepare, Accept, Accepted, Learn, Node, Client, Flight, Seat, Row}
use Rattle.sc_words.proofs.PaxosProofs.PaxosLemmas.{find_found}
use Rattle.sc_actor.specs.Definitions.{mails, copies, numbered, value, System, waiting, kth}
use Rattle.sc_client_table.specs.table.TableDefinitions.{Client as ClientState}
use Rattle.sc_node_table.specs.NodeDefinitions.{replica_of, is_node, ReplicaState, name_of, numbers_from, slots_ahead}
use Rattle.sc_scenario.specs.declared.scenario.scenarios.Asks.{Asks}
use Rattle.sc_scenario.specs.declared.scenario.scenarios.Scenario.{Scenario}
use Rattle.sc_scenario.specs.scenario.Definitions.{ValidScenariosAreBounded}
use Rattle.sc_meaning.specs.sound.SoundDefinitions.{Player, player_table, node_seat, client_seat, route_of, births, system_of, as_nodes}
use Rattle.sc_live_orderly.specs.OrderlyDefinitions.{IsTidy, IsOrderly, rest, mail_with, is_born, under_way, owed}
use Rattle.sc_live_orderly.proofs.OrderlyLemmas.{TakesFirst, is_born-from, seat_found}
use Rattle.sc_paxos_law.proofs.Lemmas.{Among-right}
use Rattle.sc_live_plain.specs.PlainDefinitions.{Frame, Requests, IsPlainBody, IsAsking, AreFarFromLast, AreSeated, NobodyWaits, IsLinkedSetting, Setting, IsSetting, IsAsideBody, IsCalmMail, IsWaiting, IsBegun}
use Rattle.sc_live_steps.specs.calm.CalmDefinitions.{waiting_one}
use Rattle.sc_live_plain.proofs.CalmProofs.RequestPhaseClients as clients_of
use Rattle.sc_live_plain.proofs.PlainLemmas.{AreSought, IsSought, sought_row, IsStage, stage, node_born, node_number, client_number, one_of_sum, Journal, replica_is, asking, IsHeld, some_is, map_among, client_is, mail_of, asked_node}
use Rattle.sc_live_answers.specs.AnswerDefinitions.{IsAnswerTo, AnswersAreExpected, command_token, body_token, mail_token, replica_tokens, player_token, token_owing}
use Rattle.sc_live_answers.proofs.RequestsProofs.RequestLineClients.{line_keeps}
use Rattle.sc_live_answers.proofs.LinesProofs.JournalTokens.{falls}

-- ---- sums

-- what passes one of two tests that exclude each other is among what passes a wider one
module _ {M : Type 0} (p q r : M → Bool) (apart : (m : M) → p m ≡ true → q m ≡ true → ⊥) (one : (m : M) → p m ≡ true → r m ≡ true) (other : (m : M) → q m ≡ true → r m ≡ true) (owes : M → ℕ) where
  here : (m : M) (c : ℕ) → sum_by owes (cond (p m) (replicate c m) []) + sum_by owes (cond (q m) (replicate c m) []) ≤ sum_by owes (cond (r m) (replicate c m) [])
  here m c = by (p m) refl (q m) refl (r m) refl
    where
      by : (x : Bool) → p m ≡ x → (y : Bool) → q m ≡ y → (z : Bool) → r m ≡ z → sum_by owes (cond x (replicate c m) []) + sum_by owes (cond y (replicate c m) []) ≤ sum_by owes (cond z (replicate c m) [])
      by true e true f z g = absurd (apart m e f)
      by true e false f true g = omega arith
      by true e false f false g = absurd (both_ways (r m) g (one m e))
      by false e true f true g = omega arith
      by false e true f false g = absurd (both_ways (r m) g (other m f))
      by false e false f z g = omega arith

  both_within : (sent : List M) (counts : List ℕ) → sum_by owes (mail_with p sent counts) + sum_by owes (mail_with q sent counts) ≤ sum_by owes (mail_with r sent counts)
  both_within [] counts = omega arith
  both_within (m ∷ sent) [] = omega arith
  both_within (m ∷ sent) (c ∷ counts) =
      let rec = both_within sent counts in
      let now = here m c in
      let a = sum_by-append owes (cond (p m) (replicate c m) []) (mail_with p sent counts) in
      let b = sum_by-append owes (cond (q m) (replicate c m) []) (mail_with q sent counts) in
      let d = sum_by-append owes (cond (r m) (replicate c m) []) (mail_with r sent counts) in
      omega (arith, rec, now, a, b, d)

-- ---- what counts one

call_one : (c seq : ℕ) (op : Op) → command_token c (Call c seq op) ≡ 1
call_one c seq op = cond-true (eqb c c) 1 0 (eq-eqb c c refl)

held_one : (c seq : ℕ) (r : ReplicaState) → IsHeld r c seq → 1 ≤ replica_tokens c r
held_one c seq r h = elim (h.where_) [
  | inl a ↦ (let le = one_of_sum (command_token c) r.backlog (Call c h.number h.op) a in let one = call_one c h.number h.op in omega (arith, le, one))
  | inr (inl f) ↦ (let le = one_of_sum (λ (x : Flight Command). command_token c x.value) r.leader.flights f.0 f.1 in let one = ap (command_token c) f.2 ∙ call_one c h.number h.op in omega (arith, le, one))
  | inr (inr e) ↦ (let le = one_of_sum (λ (x : ℕ × Command). command_token c x.1) r.ready (e.0, Call c h.number h.op) e.1 in let one = call_one c h.number h.op in omega (arith, le, one))
]

module _ (words : ℕ → ℕ → ℕ × ℕ) (scenario : Scenario) (begins : IsStage scenario) (set : Setting) (fact : IsSetting set) (linked : IsLinkedSetting set) (seated : AreSeated scenario set) where
  abbrev sys : System Player Mail OrderLine
  sys = system_of as_nodes words scenario

  abbrev cseat : Asks → Seat Player
  cseat asks = client_seat (route_of begins.first) asks

  abbrev nseat : ℕ → Seat Player
  nseat me = node_seat as_nodes scenario.groups scenario.policy me

  abbrev Keeps : ℕ → Journal → Type 0
  Keeps who rows = AreSought words scenario begins set fact linked rows × (owed (system_of as_nodes words scenario) (token_owing who) rows ≤ 1)

  pub sought_on : (rows : Journal) (t : IsTidy rows) (j : IsAsking words scenario set begins.first rows) (room : AreFarFromLast scenario set rows) (row : Row Mail OrderLine) → IsOrderly (system_of as_nodes words scenario) rows row
      → AreSought words scenario begins set fact linked rows → AreSought words scenario begins set fact linked (rows ++ row ∷ [])
  sought_on rows t j room row o h =
      let then_ = clients_of.asking_row words scenario begins set fact linked rows t j room row o in
      sought_row words scenario begins set fact linked rows t j h room row o (λ asks client a v w. (let n = asked_node words scenario begins set fact linked seated (rows ++ row ∷ []) then_ asks client a v w in node_number words scenario begins w.target n.0 n.1))

  keeps : (who : ℕ) (rows : Journal) (t : IsTidy rows) (j : IsAsking words scenario set begins.first rows) (room : AreFarFromLast scenario set rows) (row : Row Mail OrderLine) → IsOrderly (system_of as_nodes words scenario) rows row → Keeps who rows → Keeps who (rows ++ row ∷ [])
  keeps who rows t j room row o h =
      let le = h.1 in
      let fall = falls who words scenario begins set fact linked rows t j room row o in
      (sought_on rows t j room row o h.0, omega (arith, le, fall))

  module _ (rows : Journal) (t : IsTidy rows) (j : IsAsking words scenario set begins.first rows) (sought : AreSought words scenario begins set fact linked rows) (asks : Asks) (a : Among asks scenario.clients)
      (few : owed (system_of as_nodes words scenario) (token_owing asks.client) rows ≤ 1) (number : ℕ) (fine : kth (waiting (system_of as_nodes words scenario) rows (Some (client_actor asks.client))) 1 ≡ Some number) where
    among_births : Among (client_seat (route_of begins.first) asks) (births as_nodes scenario)
    among_births = subst (Among (cseat asks)) (sym begins.seats) (Among-right (cseat asks) (map nseat (numbers_from 1 scenario.nodes)) (map cseat scenario.clients) (map_among cseat scenario.clients asks a))

    born : find (λ (other : Seat Player). eqb other.who (client_actor asks.client)) (births as_nodes scenario) ≡ Some (client_seat (route_of begins.first) asks)
    born = seat_found (births as_nodes scenario) (cseat asks) begins.seats_apart among_births

    abbrev first : TakesFirst (system_of as_nodes words scenario) rows (client_actor asks.client) number
    first = clients_of.first words scenario begins set fact linked rows t j asks a born number fine

    not_node : (to : ℕ) → to ≡ client_actor asks.client → (1 ≤ to) × (to ≤ scenario.nodes) → ⊥
    not_node to e n = both_ways (is_node (client_actor asks.client)) (client_number words scenario begins asks a) (ap is_node (sym e) ∙ node_number words scenario begins to n.0 n.1)

    -- ---- the mail is an answer

    abbrev Answers : MailBody → Type 0
    Answers body = (group : Draw) × (seq : ℕ) × (answer : AnswerBody) × (body ≡ Answer group seq answer)

    plain_answers : (begun : Requests) (frame : Frame) → Among frame set.frames → (from to : ℕ) (body : MailBody) → to ≡ client_actor asks.client → IsPlainBody begun frame from to body → Answers body
    plain_answers begun frame f from to (Answer group seq answer) e b = (group, seq, answer, refl)
    plain_answers begun frame f from to (Request group client seq op) e b = absurd (not_node to e (subst (λ x. (1 ≤ x) × (x ≤ scenario.nodes)) (sym b.1.to_is) (seated.homes frame.core.id frame.lead (fact.leads frame f))))
    plain_answers begun frame f from to (Accept group ballot slot command) e b = absurd (not_node to e (seated.voters frame slot to f b.2.to_in))
    plain_answers begun frame f from to (Accepted group ballot slot) e b = absurd (not_node to e (subst (λ x. (1 ≤ x) × (x ≤ scenario.nodes)) (sym b.2) (seated.homes frame.core.id frame.lead (fact.leads frame f))))
    plain_answers begun frame f from to (Learn group slot command) e b =
        absurd (not_node to e (seated.voters frame (frame.from + slots_ahead) to f (ap (λ ms. is_member ms to) ((fact.are frame f).later (frame.from + slots_ahead) (omega arith)) ∙ b.1.to_in)))
    plain_answers begun frame f from to (Prepare group ballot from_slot) e b = absurd b
    plain_answers begun frame f from to _ e b = absurd b

    aside_answers : (begun : Requests) (from to : ℕ) (body : MailBody) → to ≡ client_actor asks.client → IsAsideBody begun set from to body → Answers body
    aside_answers begun from to (Answer group seq answer) e b = (group, seq, answer, refl)
    aside_answers begun from to (Request group client seq op) e b = absurd (not_node to e (seated.homes group to b.1))
    aside_answers begun from to _ e b = absurd b

    mail_answers : (mail : Mail) → mail.to ≡ client_actor asks.client → IsCalmMail (IsBegun scenario rows) set mail → Answers mail.body
    mail_answers mail e (inl p) = plain_answers (IsBegun scenario rows) p.frame p.is_frame mail.from mail.to mail.body e p.says
    mail_answers mail e (inr s) = aside_answers (IsBegun scenario rows) mail.from mail.to mail.body e s

    answer_one : (to : ℕ) (group : Draw) (seq : ℕ) (answer : AnswerBody) → to ≡ client_actor asks.client → body_token asks.client to (Answer group seq answer) ≡ 1
    answer_one to group seq answer e = cond-true (eqb to (client_actor asks.client)) 1 0 (eq-eqb to (client_actor asks.client) e)

    first_one : mail_token asks.client first.mail ≡ 1
    first_one =
        let is_ = mail_answers first.mail first.receiver (clients_of.is_calm words scenario begins set fact linked rows t j asks a born number fine) in
        ap (body_token asks.client first.mail.to) is_.3 ∙ answer_one first.mail.to is_.0 is_.1 is_.2 first.receiver

    -- ---- what is counted

    rest_is : sum_by (mail_token asks.client) (rest (system_of as_nodes words scenario) rows (client_actor asks.client)) ≡ 1 + sum_by (mail_token asks.client) first.behind
    rest_is =
        let all = ap (sum_by (mail_token asks.client)) first.first in
        let one = first_one in
        let s = sum_by-cons (mail_token asks.client) first.mail first.behind in
        omega (arith, all, one, s)

    is_born_at : (who : ℕ) → is_born (system_of as_nodes words scenario) who ≡ true → (m : Mail) → eqb m.to who ≡ true → is_born (system_of as_nodes words scenario) m.to ≡ true
    is_born_at who b m e = ap (is_born sys) (eqb-true m.to who e) ∙ b

    born_client_at : is_born (system_of as_nodes words scenario) (client_actor asks.client) ≡ true
    born_client_at = is_born-from sys (client_actor asks.client) (cseat asks) born

    with_other : (who : ℕ) → is_born (system_of as_nodes words scenario) who ≡ true → (who ≡ client_actor asks.client → ⊥)
        → sum_by (mail_token asks.client) (rest (system_of as_nodes words scenario) rows (client_actor asks.client)) + sum_by (mail_token asks.client) (rest (system_of as_nodes words scenario) rows who) ≤ sum_by (mail_token asks.client) (under_way (system_of as_nodes words scenario) rows)
    with_other who b ne =
        both_within (λ (m : Mail). eqb m.to (client_actor asks.client)) (λ (m : Mail). eqb m.to who) (λ (m : Mail). is_born sys m.to)
        (λ m e f. ne (sym (eqb-true m.to who f) ∙ eqb-true m.to (client_actor asks.client) e)) (is_born_at (client_actor asks.client) born_client_at) (is_born_at who b) (mail_token asks.client) (mails rows) (copies rows)

    mail_in : sum_by (mail_token asks.client) (rest (system_of as_nodes words scenario) rows (client_actor asks.client)) ≤ sum_by (mail_token asks.client) (under_way (system_of as_nodes words scenario) rows)
    mail_in =
        let le = both_within (λ (m : Mail). eqb m.to (client_actor asks.client)) (λ (m : Mail). false) (λ (m : Mail). is_born sys m.to) (λ m e f. cc) (is_born_at (client_actor asks.client) born_client_at) (λ m f. cc) (mail_token asks.client) (mails rows) (copies rows) in
        omega (arith, le)

    seats_in : (seat : Seat Player) → Among seat (births as_nodes scenario) → player_token asks.client (value player_table seat rows) ≤ sum_by (λ (other : Seat Player). player_token asks.client (value player_table other rows)) (births as_nodes scenario)
    seats_in seat b = one_of_sum (λ (other : Seat Player). player_token asks.client (value player_table other rows)) (births as_nodes scenario) seat b

    -- ---- the answer

    resting_none : (client : ClientState) → value player_table (client_seat (route_of begins.first) asks) rows ≡ Client client → client.me ≡ asks.client → client.waiting ≡ None → ⊥
    resting_none client v me none =
        let le = seats_in (cseat asks) among_births in
        let now = ap (player_token asks.client) v in
        let free : player_token asks.client (Client client) ≡ 1 = ap (λ o. cond (eqb client.me asks.client) (1 - waiting_one o) 0) none ∙ cond-true (eqb client.me asks.client) 1 0 (eq-eqb client.me asks.client me) in
        let mail = mail_in in
        let one = rest_is in
        omega (arith, le, now, free, mail, one, few)

    by_sought : (client : ClientState) → value player_table (client_seat (route_of begins.first) asks) rows ≡ Client client → client.me ≡ asks.client → (w : IsWaiting client) → IsSought words scenario begins set fact linked rows client w.group w.target w.seq → IsAnswerTo client first.mail
    by_sought client v me w (inl x) =
        let n = asked_node words scenario begins set fact linked seated rows j asks client a v w in
        let request : Mail = asking client.me w.target w.group w.seq x.0 in
        let token : mail_token asks.client request ≡ 1 = cond-true (eqb client.me asks.client) 1 0 (eq-eqb client.me asks.client me) in
        let there = one_of_sum (mail_token asks.client) (rest sys rows w.target) request x.1 in
        let le = with_other w.target (is_born-from sys w.target (nseat w.target) (seat_found (births as_nodes scenario) (nseat w.target) begins.seats_apart (node_born words scenario begins w.target n.0 n.1))) (λ e. not_node w.target e n) in
        let one = rest_is in
        absurd (omega (arith, token, there, le, one, few))
    by_sought client v me w (inr (inl x)) =
        let answer : Mail = mail_of w.target (client_actor client.me) (Answer w.group w.seq x.answer) in
        elim (subst (Among answer) first.first (subst (λ who. Among answer (rest sys rows (client_actor who))) me x.there)) [
          | inl same ↦ record { waits = w; answer = x.answer; from_is = ap (λ (m : Mail). m.from) same; body_is = ap (λ (m : Mail). m.body) same }
          | inr b ↦ (
              let there = one_of_sum (mail_token asks.client) first.behind answer b in
              let token = answer_one (client_actor client.me) w.group w.seq x.answer (ap client_actor me) in
              let mail = mail_in in
              let one = rest_is in
              absurd (omega (arith, there, token, mail, one, few)))
        ]
    by_sought client v me w (inr (inr h)) =
        let n = asked_node words scenario begins set fact linked seated rows j asks client a v w in
        let node = j.nodes w.target n.0 n.1 in
        let found : replica_of w.group node.node.replicas ≡ Some h.r = sym (replica_is words scenario rows w.group w.target (Node node.node) (node_number words scenario begins w.target n.0 n.1) node.fact) ∙ h.there in
        let among = (find_found (λ (x : ReplicaState). same_draw (name_of x) w.group) node.node.replicas h.r found).0 in
        let here = one_of_sum (replica_tokens asks.client) node.node.replicas h.r among in
        let held = held_one asks.client w.seq h.r (subst (λ who. IsHeld h.r who w.seq) me h.held) in
        let le = seats_in (nseat w.target) (node_born words scenario begins w.target n.0 n.1) in
        let now = ap (player_token asks.client) node.fact in
        let mail = mail_in in
        let one = rest_is in
        absurd (omega (arith, here, held, le, now, mail, one, few))

    pub first_is : (client : ClientState) → value player_table (client_seat (route_of begins.first) asks) rows ≡ Client client → (mail : Mail) → numbered (mails rows) number ≡ Some mail → IsAnswerTo client mail
    first_is client v mail e =
        let c = j.clients asks a in
        let same : c.client ≡ client = client_is (sym c.fact ∙ v) in
        let answer : IsAnswerTo c.client first.mail = elim (c.calm.state) [
          | inl rests ↦ absurd (resting_none c.client c.fact c.calm.me_is rests.waits)
          | inr w ↦ by_sought c.client c.fact c.calm.me_is w.1 (sought asks c.client a c.fact w.1)
        ] in
        subst (λ (x : ClientState). IsAnswerTo x mail) same (subst (IsAnswerTo c.client) (some_is (sym first.sent ∙ e)) answer)

pub expected : ValidScenariosAreBounded → AnswersAreExpected
expected all_bounded words scenario set first others before after asks client number mail valid groups fact linked seated j still requests few a tidy v fine sent =
    let begins = stage scenario (all_bounded scenario valid) in
    let same : first ≡ begins.first = (let e : first ∷ others ≡ begins.first ∷ begins.others = sym groups ∙ begins.groups_are in cc) in
    let j_ = subst (λ (f : Base). IsAsking words scenario set f before) same j in
    let still_ = subst (λ (f : Base). NobodyWaits scenario f before) same still in
    let nothing : AreSought words scenario begins set fact linked before = λ other who b e w. (let bad : None ≡ Some w.seq = sym (still_ other who b e) ∙ w.waits in cc) in
    let R : Journal → Type 0 = λ rows. AreSought words scenario begins set fact linked rows × (owed (system_of as_nodes words scenario) (token_owing asks.client) rows ≤ 1) in
    let end = line_keeps words scenario begins set fact linked R (λ rows t k room row o h. keeps words scenario begins set fact linked seated asks.client rows t k room row o h) before after requests [] after refl
    (subst (λ (l : Journal). IsAsking words scenario set begins.first l × R l) (sym (append-nil before)) (j_, (nothing, few))) in
    first_is words scenario begins set fact linked seated (before ++ after) tidy end.0 end.1.0 asks a end.1.1 number fine client (subst (λ (f : Base). value player_table (client_seat (route_of f) asks) (before ++ after) ≡ Client client) same v) mail sent

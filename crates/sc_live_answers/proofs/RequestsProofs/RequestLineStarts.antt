-- What a line of requests may begin with in a quiet journal.
use Rattle.std.proofs.Common.{◌≡◌, ℕ, eqb, Bool, true, false, cond, List, [], ◌∷◌, ◌++◌, Some, replicate, sum_by, inl, inr, refl, sym, ◌∙◌, ap, subst, arith}
use Rattle.std.proofs.lemmas.Bool.{cond-true, cond-false, eq-eqb, cases_Bool}
use Rattle.std.proofs.lemmas.List.Sums.{sum_by-cons}
use Rattle.sc_base.specs.Definitions.{Among, same_draw, client_actor}
use Rattle.sc_base.proofs.Lemmas.{same_name, draw_is}
use Rattle.sc_node_table.specs.Values.{Mail, Node}
use Rattle.sc_actor.specs.Definitions.{mails, copies, has_started}
use Rattle.sc_client_table.specs.table.TableDefinitions.{Client as ClientState, born_client}
use Rattle.sc_node_table.specs.NodeDefinitions.{replica_of, ReplicaState, name_of}
use Rattle.sc_words.proofs.PaxosProofs.PaxosLemmas.{Each-among}
use Rattle.sc_scenario.specs.scenario.Definitions.{ValidScenariosAreBounded}
use Rattle.sc_meaning.specs.sound.SoundDefinitions.{route_of, system_of, as_nodes}
use Rattle.sc_live_orderly.specs.OrderlyDefinitions.{mail_with, is_born}
use Rattle.sc_live_steps.specs.calm.CalmDefinitions.{IsAtRest, IsAnswered}
use Rattle.sc_live_plain.proofs.PlainLemmas.{stage, node_number, replica_is, client_is}
use Rattle.sc_live_answers.specs.AnswerDefinitions.{QuietJournalsKnowOne, QuietJournalsHaveNoMail, QuietJournalsCountOnce, AreNamedOnce, command_token, flight_tokens, ready_tokens, replica_tokens}
use Rattle.sc_live_answers.proofs.LinesProofs.IdleTokens.{idle_once}
use Rattle.sc_live_answers.proofs.ErrandsProofs.QuestionTargets.{no_append}

-- ---- what clients know

-- In a quiet journal a client that has not started knows one group alone.
pub know_one : QuietJournalsKnowOne
know_one words scenario first rows q asks client a not_gone v =
    let p = q.players asks a in
    let answered = Each-among (λ (c : Bool × ClientState). IsAnswered c.0 (route_of first) c.1) q.clients (has_started rows (client_actor asks.client), p.0) q.quiet.answered p.4 in
    let born : client ≡ born_client client.me client.requests (route_of first) =
    subst (λ (c : ClientState). c ≡ born_client c.me c.requests (route_of first)) (client_is (sym p.1 ∙ v)) (subst (λ b. IsAnswered b (route_of first) p.0) not_gone answered) in
    (_, ap (λ (c : ClientState). c.known) born)

-- ---- mail

-- where nobody of some has mail, they all have none
none_with : {M : Type 0} (to : M → ℕ) (born : ℕ → Bool) (sent : List M) (counts : List ℕ) → ((who : ℕ) → born who ≡ true → mail_with (λ m. eqb (to m) who) sent counts ≡ []) → mail_with (λ m. born (to m)) sent counts ≡ []
none_with to born [] counts none = refl
none_with to born (m ∷ sent) [] none = refl
none_with to born (m ∷ sent) (c ∷ counts) none =
    let rec = none_with to born sent counts (λ who fact. (no_append (cond (eqb (to m) who) (replicate c m) []) (mail_with (λ x. eqb (to x) who) sent counts) (none who fact)).1) in
    elim (cases_Bool (born (to m))) [
      | inl t ↦ (
          let mine = (no_append (cond (eqb (to m) (to m)) (replicate c m) []) (mail_with (λ x. eqb (to x) (to m)) sent counts) (none (to m) t)).0 in
          let copies_ : replicate c m ≡ [] = sym (cond-true (eqb (to m) (to m)) (replicate c m) [] (eq-eqb (to m) (to m) refl)) ∙ mine in
          ap (λ xs. xs ++ mail_with (λ x. born (to x)) sent counts) (cond-true (born (to m)) (replicate c m) [] t ∙ copies_) ∙ rec)
      | inr f ↦ ap (λ xs. xs ++ mail_with (λ x. born (to x)) sent counts) (cond-false (born (to m)) (replicate c m) [] f) ∙ rec
    ]

-- In a quiet journal no mail is under way.
pub no_mail : QuietJournalsHaveNoMail
no_mail words scenario first rows q =
    none_with (λ (m : Mail). (system_of as_nodes words scenario).receiver m) (λ who. is_born (system_of as_nodes words scenario) who) (mails rows) (copies rows) q.none

-- ---- ways

-- ---- calls

none_at_rest : (c : ℕ) (r : ReplicaState) → IsAtRest r → replica_tokens c r ≡ 0
none_at_rest c r rests =
    let acts = ap (sum_by (command_token c)) rests.acts in
    let backlog = ap (sum_by (command_token c)) rests.backlog in
    let flights = ap (flight_tokens c) rests.flights in
    let ready = ap (ready_tokens c) rests.ready in
    omega (arith, acts, backlog, flights, ready)

none_of_all : (c : ℕ) (replicas : List ReplicaState) → ((r : ReplicaState) → Among r replicas → replica_tokens c r ≡ 0) → sum_by (replica_tokens c) replicas ≡ 0
none_of_all c [] all = refl
none_of_all c (r ∷ replicas) all =
    let here = all r (inl refl) in
    let rec = none_of_all c replicas (λ other a. all other (inr a)) in
    let sum = sum_by-cons (replica_tokens c) r replicas in
    omega (arith, here, rec, sum)

-- each is found by its name
named_found : (replicas : List ReplicaState) → AreNamedOnce replicas → (r : ReplicaState) → Among r replicas → replica_of (name_of r) replicas ≡ Some r
named_found [] once r a = absurd a
named_found (x ∷ replicas) once r (inl same) =
    cond-true (same_draw (name_of x) (name_of r)) (Some x) (replica_of (name_of r) replicas) (same_name (name_of x) (name_of r) (ap (λ (y : ReplicaState). name_of y) same)) ∙ ap (λ (y : ReplicaState). Some y) same
named_found (x ∷ replicas) once r (inr a) =
    let apart : same_draw (name_of x) (name_of r) ≡ false = elim (cases_Bool (same_draw (name_of x) (name_of r))) [
      | inl t ↦ absurd (Each-among (λ (other : ReplicaState). name_of other ≡ name_of x → ⊥) replicas r once.0 a (sym (draw_is (name_of x) (name_of r) t)))
      | inr f ↦ f
    ] in
    cond-false (same_draw (name_of x) (name_of r)) (Some x) (replica_of (name_of r) replicas) apart ∙ named_found replicas once.1 r a

pub count_once : ValidScenariosAreBounded → QuietJournalsCountOnce
count_once all_bounded words scenario set first others rows c valid groups j q once =
    let begins = stage scenario (all_bounded scenario valid) in
    idle_once all_bounded words scenario set first others rows c valid groups j
    (λ me node low high fact. none_of_all c node.replicas (λ r a.
    none_at_rest c r (q.quiet.at_rest (name_of r) me r
    (replica_is words scenario rows (name_of r) me (Node node) (node_number words scenario begins me low high) fact ∙ named_found node.replicas (once me node low high fact) r a))))
    (no_mail words scenario first rows q)

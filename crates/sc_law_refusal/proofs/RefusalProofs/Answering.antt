-- What executed calls are answered: each by its effect on the state that it met, one behind another.
use Rattle.std.proofs.Common.{◌≡◌, ◌<◌, ℕ, nat_lt, eqb, true, List, [], ◌∷◌, ◌++◌, Option, Some, None, refl, sym, ap, subst, ◌∙◌, arith, append-nil, append_assoc}
use Rattle.std.specs.FinMap.{get}
use Rattle.std.proofs.lemmas.Bool.{cond_both, ltb-false, eqb-false}
use Rattle.sc_base.specs.Definitions.{Each, client_actor}
use Rattle.sc_node_table.specs.Values.{Draw, Noted, Op, Command, Call, Lock, Free, Coordinating, Promised, Watching, Effect, Route, AnswerBody, Mail, Answer}
use Rattle.sc_words.specs.ideal.IdealDefinitions.{key_of, reply_of, holds_key}
use Rattle.sc_words.specs.declared.commands.effects.Effect.TheVariants as Was
use Rattle.sc_mail.specs.declared.bodies.AnswerBody.TheVariants as Says
use Rattle.sc_group_table.specs.machine.MachineDefinitions.{Group, state_after, applied, called, served, served_by_note}
use Rattle.sc_group_table.proofs.MachineProofs.Lemmas.{state_push}
use Rattle.sc_words.proofs.PaxosProofs.PaxosLemmas.{Each-append}
use Rattle.sc_node_table.specs.NodeDefinitions.{answer_of, answered_or_put_back, answered, admits_requests, put_back, Place, name_of}
use Rattle.sc_law_refusal.specs.refusal.RefusalDefinitions.{HasCauseAtEntry, RefusesCall, answers_in, effect_answers, entry_answers}
use Rattle.sc_law_refusal.proofs.RefusalProofs.Plain.{answer_adds}

-- ---- the effect of a call

-- a reply, or a refusal by the state before it
abbrev pub IsCaused : Group → ℕ → ℕ → Op → AnswerBody → Type 0
IsCaused group client seq op (Says.Value reply) = Unit {0}
IsCaused group client seq op (Says.NotLeader hint) = ⊥
IsCaused group client seq op (Says.NotMine arc succ) = RefusesCall group client seq op (Says.NotMine arc succ)
IsCaused group client seq op (Says.Gone into) = RefusesCall group client seq op (Says.Gone into)
IsCaused group client seq op (Says.Stale last) = RefusesCall group client seq op (Says.Stale last)

-- what an effect is answered with is caused
abbrev pub Answers : Group → ℕ → ℕ → Op → Group × Effect → Type 0
Answers group client seq op step = (answer : AnswerBody) → answer_of step.1 ≡ Some answer → IsCaused group client seq op answer

by_note : (o : Option Noted) (group : Group) (client seq : ℕ) (op : Op) → get group.clients client ≡ o → Answers group client seq op (served_by_note o group client seq op)
by_note None group client seq op e = λ answer a. (let same : Says.Value (reply_of op group.pairs) ≡ answer = cc in subst (IsCaused group client seq op) same tt)
by_note (Some noted) group client seq op e =
    cond_both (nat_lt noted.seq seq) _ _ (Answers group client seq op) (λ _ answer a. (let same : Says.Value (reply_of op group.pairs) ≡ answer = cc in subst (IsCaused group client seq op) same tt))
    (λ h. cond_both (eqb noted.seq seq) (group, Was.Again noted.reply) (group, Was.Stale noted.seq) (Answers group client seq op)
    (λ _ answer a. (let same : Says.Value noted.reply ≡ answer = cc in subst (IsCaused group client seq op) same tt))
    (λ k answer a. (
    let low = ltb-false noted.seq seq h in
    let other = eqb-false noted.seq seq k in
    let above : seq < noted.seq = omega (arith, low, other) in
    let same : Says.Stale noted.seq ≡ answer = cc in subst (IsCaused group client seq op) same (noted, e, refl, above))))

by_arc : (group : Group) (client seq : ℕ) (op : Op) → group.core.gone ≡ None → admits_requests group.core.lock ≡ true → Answers group client seq op (served group client seq op)
by_arc group client seq op g l =
    cond_both (holds_key group.core.arc (key_of op)) _ _ (Answers group client seq op) (λ _. by_note (get group.clients client) group client seq op refl)
    (λ lacks answer a. (let same : Says.NotMine group.core.arc group.core.succ ≡ answer = cc in subst (IsCaused group client seq op) same (g, l, lacks, refl, refl)))

by_lock : (gone : Option Route) (lock : Lock) (group : Group) (client seq : ℕ) (op : Op) → gone ≡ group.core.gone → lock ≡ group.core.lock → Answers group client seq op (called gone lock group client seq op)
by_lock (Some into) lock group client seq op g l = λ answer a. (let same : Says.Gone into ≡ answer = cc in subst (IsCaused group client seq op) same (sym g))
by_lock None Free group client seq op g l = by_arc group client seq op (sym g) (ap admits_requests (sym l))
by_lock None (Watching tx watch) group client seq op g l = by_arc group client seq op (sym g) (ap admits_requests (sym l))
by_lock None (Coordinating tx body order heard) group client seq op g l = λ answer a. cc
by_lock None (Promised tx offer) group client seq op g l = λ answer a. cc

-- an executed call is answered by a reply, or refused by the state before it
pub call_answers : (group : Group) (client seq : ℕ) (op : Op) → Answers group client seq op (applied group (Call client seq op))
call_answers group client seq op = by_lock group.core.gone group.core.lock group client seq op refl refl

-- ---- one entry more

-- what is answered after one entry more
pub entries_push : (me : ℕ) (name : Draw) (group : Group) (entries : List Command) (command : Command)
    → entry_answers me name group (entries ++ command ∷ []) ≡ entry_answers me name group entries ++ effect_answers me name (answer_of (applied (state_after group entries) command).1) command
entries_push me name group [] command = append-nil (effect_answers me name (answer_of (applied group command).1) command)
entries_push me name group (entry ∷ entries) command =
    let first : List Mail = effect_answers me name (answer_of (applied group entry).1) entry in
    let next : Group = (applied group entry).0 in
    ap (λ (ms : List Mail). first ++ ms) (entries_push me name next entries command)
    ∙ sym (append_assoc first (entry_answers me name next entries) (effect_answers me name (answer_of (applied (state_after next entries) command).1) command))

-- a counted call gets its answer, and no other
pub reported_answers : (answer : Option AnswerBody) (command : Command) (place : Place) → answers_in (answered_or_put_back answer command place).1 ≡ answers_in place.1 ++ effect_answers place.0.me (name_of place.0) answer command
unfolding answered_or_put_back answered put_back
reported_answers (Some answer) (Call client seq op) (r, mails) = answer_adds mails r.me (client_actor client) (name_of r) seq answer
reported_answers None (Call client seq op) (r, mails) = sym (append-nil (answers_in mails))
reported_answers (Some answer) _ (r, mails) = sym (append-nil (answers_in mails))
reported_answers None _ (r, mails) = sym (append-nil (answers_in mails))

-- ---- the cause of each

-- a command that was asked, if it is a call
abbrev pub IfCall : (Command → Type 0) → Command → Type 0
IfCall A command = (client seq : ℕ) (op : Op) → command ≡ Call client seq op → A (Call client seq op)

-- what holds of the answer to each call that was asked, by the cause that it has, holds of all answers to entries
module _ (A : Command → Type 0) (me : ℕ) (name : Draw) (group : Group) (P : Mail → Type 0) where
  -- the answer to a call that was asked, with its cause among these entries
  abbrev pub Answered : List Command → Type 0
  Answered entries = (client seq : ℕ) (op : Op) (answer : AnswerBody) → A (Call client seq op) → HasCauseAtEntry group entries client seq op answer → P (record { from = me; to = client_actor client; body = Answer name seq answer })

  cause_of : (prefix rest : List Command) (client seq : ℕ) (op : Op) (answer : AnswerBody) → IsCaused (state_after group prefix) client seq op answer → HasCauseAtEntry group (prefix ++ Call client seq op ∷ rest) client seq op answer
  cause_of prefix rest client seq op (Says.Value reply) c = tt
  cause_of prefix rest client seq op (Says.NotLeader hint) c = c
  cause_of prefix rest client seq op (Says.NotMine arc succ) c = record { prefix = prefix; rest = rest; are = refl; refuses = c }
  cause_of prefix rest client seq op (Says.Gone into) c = record { prefix = prefix; rest = rest; are = refl; refuses = c }
  cause_of prefix rest client seq op (Says.Stale last) c = record { prefix = prefix; rest = rest; are = refl; refuses = c }

  one_each : (prefix rest : List Command) (command : Command) (o : Option AnswerBody) → answer_of (applied (state_after group prefix) command).1 ≡ o → IfCall A command → Answered (prefix ++ command ∷ rest) → Each P (effect_answers me name o command)
  unfolding answered
  one_each prefix rest command None e k says = tt
  one_each prefix rest (Call client seq op) (Some answer) e k says =
      (says client seq op answer (k client seq op refl) (cause_of prefix rest client seq op answer (call_answers (state_after group prefix) client seq op answer e)), tt)
  one_each prefix rest _ (Some answer) e k says = tt

  all_each : (prefix rest : List Command) → Each (IfCall A) rest → Answered (prefix ++ rest) → Each P (entry_answers me name (state_after group prefix) rest)
  all_each prefix [] k says = tt
  all_each prefix (command ∷ rest) k says =
      let state : Group = state_after group prefix in
      let further : Each P (entry_answers me name (applied state command).0 rest) =
      subst (λ (g : Group). Each P (entry_answers me name g rest)) (state_push group prefix command) (all_each (prefix ++ command ∷ []) rest k.1 (subst Answered (sym (append_assoc prefix (command ∷ []) rest)) says)) in
      Each-append P (effect_answers me name (answer_of (applied state command).1) command) (entry_answers me name (applied state command).0 rest) (one_each prefix rest command (answer_of (applied state command).1) refl k.0 says) further

  pub entries_each : (entries : List Command) → Each (IfCall A) entries → Answered entries → Each P (entry_answers me name group entries)
  entries_each entries k says = all_each [] entries k says

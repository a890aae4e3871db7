-- Where a step of a replica stands: what it has executed so far, how long it has waited, and that each answer that it has sent has its cause.
use Rattle.std.proofs.Common.{◌≡◌, ℕ, ◌≤◌, refl, sym, ap, ◌∙◌, Bool, true, false, List, [], ◌∷◌, ◌++◌, append-nil, append_assoc}
use Rattle.std.proofs.lemmas.Bool.{true≢false}
use Rattle.sc_base.specs.Definitions.{Each, client_actor}
use Rattle.sc_node_table.specs.Values.{Ballot, Draw, Op, Command, Call, AnswerBody, Mail, MailBody, Answer}
use Rattle.sc_mail.specs.declared.bodies.AnswerBody.TheVariants as Says
use Rattle.sc_group_table.specs.machine.MachineDefinitions.{Group, state_after, applied}
use Rattle.sc_words.proofs.PaxosProofs.PaxosLemmas.{Each-append, Each-weaker}
use Rattle.sc_words.specs.paxos.PaxosDefinitions.{LogState}
use Rattle.sc_node_table.specs.NodeDefinitions.{answer_of, ReplicaState, Place, name_of, sent, sent_all}
use Rattle.sc_law_refusal.specs.refusal.RefusalDefinitions.{IfAnswer, LacksKey, answers_in, effect_answers, entry_answers, log_after}
use Rattle.sc_law_refusal.proofs.RefusalProofs.Keeping.{Holds, Kept}
use Rattle.sc_law_refusal.proofs.RefusalProofs.Answering.{entries_push}
use Rattle.sc_law_refusal.proofs.RefusalProofs.Locking.{allowed}
use Rattle.sc_law_refusal.proofs.RefusalProofs.Plain.{IsPlain, answer_adds, answer_weaker, plain_adds, all_plain}

-- the start of a step; which calls were asked; which GiveUp commands may be queued; how long a leader may have waited in a ballot and a transaction, where this was so before
module _ (start : ReplicaState) (A : Command → Type 0) (G : Draw → ℕ → Type 0) (W : Ballot → Draw → ℕ) (Q : Type 0) where
  -- the cause of an answer to a call that was not executed, after these entries: one that names another leader needs that the replica has stopped, and another that such calls are turned down
  abbrev pub CauseSo : List Command → Bool → Bool → Op → AnswerBody → Type 0
  CauseSo entries refused turned op (Says.Value reply) = ⊥
  CauseSo entries refused turned op (Says.NotLeader hint) = refused ≡ true
  CauseSo entries refused turned op (Says.NotMine arc succ) = (turned ≡ true) × LacksKey (state_after start.group entries) op (Says.NotMine arc succ)
  CauseSo entries refused turned op (Says.Gone into) = (turned ≡ true) × LacksKey (state_after start.group entries) op (Says.Gone into)
  CauseSo entries refused turned op (Says.Stale last) = ⊥

  -- an answer with its cause
  pub record CausedAnswer (entries : List Command) (refused turned : Bool) (to : ℕ) (group : Draw) (seq : ℕ) (answer : AnswerBody) : Type 0 where
    pub own : group ≡ name_of start
    pub client : ℕ
    pub op : Op
    pub receiver : to ≡ client_actor client
    pub was_asked : A (Call client seq op)
    pub cause : CauseSo entries refused turned op answer

  abbrev pub CausedBody : List Command → Bool → Bool → ℕ → MailBody → Type 0
  CausedBody entries refused turned to body = IfAnswer (λ group seq answer. CausedAnswer entries refused turned to group seq answer) body

  abbrev pub Caused : List Command → Bool → Bool → Mail → Type 0
  Caused entries refused turned mail = CausedBody entries refused turned mail.to mail.body

  -- the answers among mails: one for each entry that is a call, by the state that it met, and then those with their cause, of which there are none before a call is refused or turned down
  pub record AllCaused (entries : List Command) (refused turned : Bool) (mails : List Mail) : Type 0 where
    pub others : List Mail
    pub are : answers_in mails ≡ entry_answers start.me (name_of start) start.group entries ++ others
    pub early : refused ≡ false → turned ≡ false → others ≡ []
    pub asked : Each (Kept A G) entries
    pub causes : Each (Caused entries refused turned) others

  -- where nothing was executed or answered
  pub none_caused : (refused turned : Bool) → AllCaused [] refused turned []
  none_caused refused turned = record { others = []; are = refl; early = λ r t. refl; asked = tt; causes = tt }

  -- mail that is no answer
  pub plain_caused : (entries : List Command) (refused turned : Bool) (me to : ℕ) (body : MailBody) (mails : List Mail) → IsPlain body → AllCaused entries refused turned mails → AllCaused entries refused turned (sent me to body mails)
  plain_caused entries refused turned me to body mails p s =
      record { others = s.others; are = plain_adds mails (record { from = me; to = to; body = body }) p ∙ s.are; early = s.early; asked = s.asked; causes = s.causes }

  -- no cause stands before a call is refused or turned down
  too_early : (entries : List Command) (op : Op) (answer : AnswerBody) (refused turned : Bool) → CauseSo entries refused turned op answer → refused ≡ false → turned ≡ false → ⊥
  too_early entries op (Says.Value reply) refused turned c r t = c
  too_early entries op (Says.NotLeader hint) refused turned c r t = true≢false (sym c ∙ r)
  too_early entries op (Says.NotMine arc succ) refused turned c r t = true≢false (sym c.0 ∙ t)
  too_early entries op (Says.Gone into) refused turned c r t = true≢false (sym c.0 ∙ t)
  too_early entries op (Says.Stale last) refused turned c r t = c

  -- an answer to a call that was not executed
  pub answer_caused : (entries : List Command) (refused turned : Bool) (me to : ℕ) (group : Draw) (seq : ℕ) (answer : AnswerBody) (mails : List Mail)
      → CausedAnswer entries refused turned to group seq answer → AllCaused entries refused turned mails → AllCaused entries refused turned (sent me to (Answer group seq answer) mails)
  answer_caused entries refused turned me to group seq answer mails c s =
      let more : List Mail = record { from = me; to = to; body = Answer group seq answer } ∷ [] in
      record {
        others = s.others ++ more;
        are = answer_adds mails me to group seq answer ∙ ap (λ (ms : List Mail). ms ++ more) s.are ∙ append_assoc (entry_answers start.me (name_of start) start.group entries) s.others more;
        early = λ r t. absurd (too_early entries c.op answer refused turned c.cause r t);
        asked = s.asked;
        causes = Each-append (Caused entries refused turned) s.others more s.causes (c, tt);
      }

  -- ---- what was caused so stays so

  -- wherever the causes do
  module _ (es : List Command) (r t r' t' : Bool) (f : (op : Op) (answer : AnswerBody) → CauseSo es r t op answer → CauseSo es r' t' op answer) where
    later_answer : (to : ℕ) (group : Draw) (seq : ℕ) (answer : AnswerBody) → CausedAnswer es r t to group seq answer → CausedAnswer es r' t' to group seq answer
    later_answer to group seq answer c = record { own = c.own; client = c.client; op = c.op; receiver = c.receiver; was_asked = c.was_asked; cause = f c.op answer c.cause }

    later_body : (to : ℕ) (body : MailBody) → CausedBody es r t to body → CausedBody es r' t' to body
    later_body to body c = answer_weaker (λ group seq answer. CausedAnswer es r t to group seq answer) (λ group seq answer. CausedAnswer es r' t' to group seq answer) (λ group seq answer k. later_answer to group seq answer k) body c

    pub later : (mails : List Mail) → Each (Caused es r t) mails → Each (Caused es r' t') mails
    later mails c = Each-weaker (Caused es r t) (Caused es r' t') (λ mail m. later_body mail.to mail.body m) mails c

  -- once the replica has stopped
  stopped_cause : (entries : List Command) (refused turned : Bool) (op : Op) (answer : AnswerBody) → CauseSo entries refused turned op answer → CauseSo entries true turned op answer
  stopped_cause entries refused turned op (Says.NotLeader hint) c = refl
  stopped_cause entries refused turned op _ c = c

  pub stopped_caused : (entries : List Command) (refused turned : Bool) (mails : List Mail) → AllCaused entries refused turned mails → AllCaused entries true turned mails
  stopped_caused entries refused turned mails s =
      record { others = s.others; are = s.are; early = λ r t. cc; asked = s.asked; causes = later entries refused turned true turned (λ op answer k. stopped_cause entries refused turned op answer k) s.others s.causes }

  -- and where calls that are not executed are turned down from now on
  turned_cause : (entries : List Command) (refused turned : Bool) (op : Op) (answer : AnswerBody) → CauseSo entries refused turned op answer → CauseSo entries refused true op answer
  turned_cause entries refused turned op (Says.Value reply) c = c
  turned_cause entries refused turned op (Says.NotLeader hint) c = c
  turned_cause entries refused turned op (Says.NotMine arc succ) c = (refl, c.1)
  turned_cause entries refused turned op (Says.Gone into) c = (refl, c.1)
  turned_cause entries refused turned op (Says.Stale last) c = c

  pub turned_caused : (entries : List Command) (refused turned : Bool) (mails : List Mail) → AllCaused entries refused turned mails → AllCaused entries refused true mails
  turned_caused entries refused turned mails s =
      record { others = s.others; are = s.are; early = λ r t. cc; asked = s.asked; causes = later entries refused turned refused true (λ op answer k. turned_cause entries refused turned op answer k) s.others s.causes }

  -- one entry more, and its answer: before that no call was refused or turned down
  pub entry_caused : (entries : List Command) (command : Command) (mails more : List Mail) → Kept A G command
      → answers_in more ≡ answers_in mails ++ effect_answers start.me (name_of start) (answer_of (applied (state_after start.group entries) command).1) command
      → AllCaused entries false false mails → AllCaused (entries ++ command ∷ []) false false more
  entry_caused entries command mails more k e s =
      let these : List Mail = entry_answers start.me (name_of start) start.group entries in
      let one : List Mail = effect_answers start.me (name_of start) (answer_of (applied (state_after start.group entries) command).1) command in
      let all : List Mail = entry_answers start.me (name_of start) start.group (entries ++ command ∷ []) in
      let until_now : answers_in mails ≡ these = s.are ∙ ap (λ (ms : List Mail). these ++ ms) (s.early refl refl) ∙ append-nil these in
      record {
        others = [];
        are = e ∙ ap (λ (ms : List Mail). ms ++ one) until_now ∙ sym (entries_push start.me (name_of start) start.group entries command) ∙ sym (append-nil all);
        early = λ r t. refl;
        asked = Each-append (Kept A G) entries (command ∷ []) s.asked (k, tt);
        causes = tt;
      }

  -- ---- the place

  -- what was executed, that a replica that has named another leader does not run, and that one that runs has waited no longer than it may
  pub record Stands (refused turned : Bool) (me : ℕ) (group : Group) (log : LogState Command) (running : Bool) (lead : Ballot) (waits : ℕ) (mails : List Mail) : Type 0 where
    pub entries : List Command
    pub me_is : me ≡ start.me
    pub name_is : group.core.id ≡ start.group.core.id
    pub group_is : group ≡ state_after start.group entries
    pub log_is : log ≡ log_after start.log entries
    pub out : refused ≡ true → running ≡ false
    pub patient : Q → running ≡ true → waits ≤ allowed W lead group.core.lock
    pub sent : AllCaused entries refused turned mails

  abbrev pub StandsIn : Bool → Bool → ReplicaState → List Mail → Type 0
  StandsIn refused turned r mails = Stands refused turned r.me r.group r.log r.running r.leader.ballot r.waits mails

  abbrev pub FineAs : Bool → Bool → Place → Type 0
  FineAs refused turned place = Holds A G place.0 × StandsIn refused turned place.0 place.1

  -- whether or not another leader was named
  abbrev pub Fine : Place → Type 0
  Fine place = (refused : Bool) × FineAs refused true place

  -- calls that are not executed may be turned down from now on
  pub turned_fine : (refused turned : Bool) (place : Place) → FineAs refused turned place → FineAs refused true place
  turned_fine refused turned (r, mails) f = (
    f.0,
    record { entries = f.1.entries; me_is = f.1.me_is; name_is = f.1.name_is; group_is = f.1.group_is; log_is = f.1.log_is; out = f.1.out; patient = f.1.patient; sent = turned_caused f.1.entries refused turned mails f.1.sent },
  )

  -- other mails
  abbrev pub resent : (refused turned : Bool) (r : ReplicaState) (mails more : List Mail) (s : StandsIn refused turned r mails) → AllCaused s.entries refused turned more → StandsIn refused turned r more
  resent refused turned r mails more s c = record { entries = s.entries; me_is = s.me_is; name_is = s.name_is; group_is = s.group_is; log_is = s.log_is; out = s.out; patient = s.patient; sent = c }

  -- one that is no answer
  abbrev pub with_plain : (refused turned : Bool) (r : ReplicaState) (mails : List Mail) (me to : ℕ) (body : MailBody) → IsPlain body → StandsIn refused turned r mails → StandsIn refused turned r (sent me to body mails)
  with_plain refused turned r mails me to body p s = resent refused turned r mails (sent me to body mails) s (plain_caused s.entries refused turned me to body mails p s.sent)

  abbrev pub with_all : (refused turned : Bool) (r : ReplicaState) (mails : List Mail) (me : ℕ) (nodes : List ℕ) (body : MailBody) → IsPlain body → StandsIn refused turned r mails → StandsIn refused turned r (sent_all me nodes body mails)
  with_all refused turned r mails me nodes body p s = resent refused turned r mails (sent_all me nodes body mails) s (all_plain (AllCaused s.entries refused turned) (plain_caused s.entries refused turned) me nodes body mails p s.sent)

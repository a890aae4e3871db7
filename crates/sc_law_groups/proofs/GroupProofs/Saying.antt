-- What is said of transactions in the middle of a row, and which logs there were before it.
use Rattle.std.proofs.Common.{ℕ, ◌+◌, List, [], ◌∷◌, ◌++◌, take, inl, inr, sym, ◌∙◌, ap, subst, append_assoc}
use Rattle.std.proofs.lemmas.Bool.{cond_both}
use Rattle.sc_node_table.specs.Values.{Ballot, Draw, Command, Base, Mail, MailBody, Prepare, Accept}
use Rattle.sc_base.specs.Definitions.{Among, same_draw}
use Rattle.sc_words.proofs.PaxosProofs.PaxosLemmas.{Each-among, Each-weaker}
use Rattle.sc_paxos_law.specs.PaxosLawDefinitions.{Prepared, Offered, Accepted, Rule, IsChosenAfter, IsLog}
use Rattle.sc_paxos_law.proofs.Lemmas.{Among-either}
use Rattle.sc_node_table.specs.NodeDefinitions.{ReplicaState, Place}
use Rattle.sc_meaning.specs.sound.SoundDefinitions.{Ahead}
use Rattle.sc_law_groups.specs.group.GroupDefinitions.{proposer_steps, asked_in}
use Rattle.sc_law_groups.proofs.GroupProofs.Growth.{IsLearnt}
use Rattle.sc_law_groups.proofs.GroupProofs.Invariant.{Steps, rule}
use Rattle.sc_law_groups.proofs.GroupProofs.Midway.{Fine}
use Rattle.sc_law_groups.proofs.GroupProofs.Speech.{AreSaid, said_own, said_true, said_asked}

-- ---- what is asked for chooses nothing

one_asked : (group : Draw) (body : MailBody) (h : Steps) (node : ℕ) (b : Ballot) (slot : ℕ) (c : Command) → Among (Accepted node b slot c) (proposer_steps group body ++ h) → Among (Accepted node b slot c) h
one_asked group (Prepare g ballot start) h node b slot c a =
    cond_both (same_draw g group) (Prepared ballot start ∷ []) [] (λ (x : Steps). Among (Accepted node b slot c) (x ++ h) → Among (Accepted node b slot c) h)
    (λ _ o. elim o [ inl e ↦ absurd (cc) | inr old ↦ old ]) (λ _ o. o) a
one_asked group (Accept g ballot at d) h node b slot c a =
    cond_both (same_draw g group) (Offered ballot at d ∷ []) [] (λ (x : Steps). Among (Accepted node b slot c) (x ++ h) → Among (Accepted node b slot c) h)
    (λ _ o. elim o [ inl e ↦ absurd (cc) | inr old ↦ old ]) (λ _ o. o) a
one_asked group _ h node b slot c a = a

-- what is accepted among what is asked for was accepted before
all_asked : (group : Draw) (mails : List Mail) (h : Steps) (node : ℕ) (b : Ballot) (slot : ℕ) (c : Command) → Among (Accepted node b slot c) (asked_in group mails h) → Among (Accepted node b slot c) h
all_asked group [] h node b slot c a = a
all_asked group (mail ∷ mails) h node b slot c a = one_asked group mail.body h node b slot c (all_asked group mails (proposer_steps group mail.body ++ h) node b slot c a)

-- what is accepted in these steps is accepted in those
abbrev Fewer : Steps → Steps → Type 0
Fewer h before = (node : ℕ) (b : Ballot) (slot : ℕ) (c : Command) → Among (Accepted node b slot c) h → Among (Accepted node b slot c) before

-- so what is chosen in these is chosen in those
fewer_after : (r : Rule Command) (h before : Steps) → Fewer h before → (log : List Command) (slot : ℕ) (c : Command) → IsChosenAfter r h log slot c → IsChosenAfter r before log slot c
fewer_after r h before f log slot c k =
    record { known = k.known; chosen = record { ballot = k.chosen.ballot; voters = k.chosen.voters; each = Each-weaker _ _ (λ node a. f node k.chosen.ballot slot c a) k.chosen.voters k.chosen.each; majority = k.chosen.majority } }

module _ (ahead : Ahead) (base : Base) (made : Command → Type 0) (heard : MailBody → Type 0) (me : ℕ) (older : List Mail) (before : Steps) where
  accepted_before : (place : Place) (f : Fine ahead base made heard me older before place) → Fewer (f.newer ++ before) before
  accepted_before place f node b slot c a = all_asked base.core.id f.sent before node b slot c (subst (Among (Accepted node b slot c)) (sym f.are) a)

  -- a log in the middle of a row was one before it
  pub log_before : (place : Place) (f : Fine ahead base made heard me older before place) (log : List Command) → IsLog (rule ahead base) (f.newer ++ before) log → IsLog (rule ahead base) before log
  log_before place f log is_log at c e = fewer_after (rule ahead base) (f.newer ++ before) before (accepted_before place f) (take at log) (at + 1) c (is_log at c e)

  -- what is learnt in the middle of a row was learnt before it
  pub learnt_before : (place : Place) (f : Fine ahead base made heard me older before place) (slot : ℕ) (c : Command) → IsLearnt (rule ahead base) (f.newer ++ before) slot c → IsLearnt (rule ahead base) before slot c
  learnt_before place f slot c t = record { log = t.log; is_log = log_before place f t.log t.is_log; chosen = fewer_after (rule ahead base) (f.newer ++ before) before (accepted_before place f) t.log slot c t.chosen }

  -- mails of transactions that are heard are said
  unfoldable pub says_all : (r : ReplicaState) (mails said : List Mail) → (f : Fine ahead base made heard me older before (r, mails)) → AreSaid heard said → Fine ahead base made heard me older before (r, mails ++ said)
  says_all r mails said f a = record {
    sent = f.sent ++ said;
    sent_is = ap (λ ms. ms ++ said) f.sent_is ∙ append_assoc older f.sent said;
    newer = f.newer;
    are = said_asked heard base.core.id f.sent said before a ∙ f.are;
    by = f.by;
    lawful = f.lawful;
    requested = f.requested;
    replica = f.replica;
    mails = λ m b. elim (Among-either m f.sent said b) [ inl c ↦ f.mails m c | inr c ↦ said_true ahead base made heard (f.newer ++ before) m m.body (Each-among _ said m a c) ];
    own = λ m b. elim (Among-either m f.sent said b) [ inl c ↦ f.own m c | inr c ↦ said_own ahead base heard m.body (Each-among _ said m a c) ];
  }

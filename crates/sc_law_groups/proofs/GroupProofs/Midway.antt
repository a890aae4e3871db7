-- What holds in the middle of a row of a node: a part of the table takes one place to the next, and keeps it.
use Rattle.std.proofs.Common.{◌≡◌, ℕ, List, [], ◌∷◌, ◌++◌, inl, inr, refl, ◌∙◌, ap, subst, append_assoc}
use Rattle.sc_node_table.specs.Values.{Ballot, Command, Base, Mail, MailBody}
use Rattle.sc_base.specs.Definitions.{Among, Each}
use Rattle.sc_paxos_law.specs.PaxosLawDefinitions.{Step, Offered, IsLawfulStep, IsLawfulHistory}
use Rattle.sc_paxos_law.proofs.Lemmas.{Among-either}
use Rattle.sc_node_table.specs.NodeDefinitions.{ReplicaState, Place}
use Rattle.sc_meaning.specs.sound.SoundDefinitions.{Ahead}
use Rattle.sc_law_groups.specs.group.GroupDefinitions.{proposer_steps, asked_in}
use Rattle.sc_law_groups.proofs.GroupProofs.Growth.{By}
use Rattle.sc_law_groups.proofs.GroupProofs.Invariant.{Steps, rule, first, IsReplica, IsOwn, IsTrue, grown_true, OffersMade}

module _ (ahead : Ahead) (base : Base) where
  -- ---- a place in the middle of a row of a node, where these mails were sent and these steps taken before the replica's part of the row

  -- what holds in the middle of a row: the mails and the steps so far, and the replica
  pub record Fine (made : Command → Type 0) (heard : MailBody → Type 0) (me : ℕ) (older : List Mail) (before : Steps) (place : Place) : Type 0 where
    pub sent : List Mail
    pub sent_is : place.1 ≡ older ++ sent
    pub newer : Steps
    pub are : asked_in base.core.id sent before ≡ newer ++ before
    pub by : Each (By me) newer
    pub lawful : IsLawfulHistory (rule ahead base) (first ahead base) (newer ++ before)
    pub requested : OffersMade made (newer ++ before)
    pub replica : IsReplica ahead base made (newer ++ before) me place.0
    pub mails : (mail : Mail) → Among mail sent → IsTrue ahead base made heard (newer ++ before) mail mail.body
    -- each of its mails names the group
    pub own : (mail : Mail) → Among mail sent → IsOwn ahead base heard mail.body

  -- one mail more, and what it asks for
  pub asked_push : (mails : List Mail) (mail : Mail) (h : Steps) → asked_in base.core.id (mails ++ mail ∷ []) h ≡ proposer_steps base.core.id mail.body ++ asked_in base.core.id mails h
  asked_push [] mail h = refl
  asked_push (m ∷ mails) mail h = asked_push mails mail (proposer_steps base.core.id m.body ++ h)

  module _ (made : Command → Type 0) (heard : MailBody → Type 0) (me : ℕ) (older : List Mail) (before : Steps) where
    -- the replica changes, and no mail is sent
    unfoldable pub turn : (r after : ReplicaState) (mails : List Mail) → (f : Fine made heard me older before (r, mails)) → IsReplica ahead base made (f.newer ++ before) me after → Fine made heard me older before (after, mails)
    turn r after mails f k = record { sent = f.sent; sent_is = f.sent_is; newer = f.newer; are = f.are; by = f.by; lawful = f.lawful; requested = f.requested; replica = k; mails = f.mails; own = f.own }

    -- what is sent is put behind what was sent before
    pub sent_more : (mails sent : List Mail) (mail : Mail) → mails ≡ older ++ sent → mails ++ mail ∷ [] ≡ older ++ (sent ++ mail ∷ [])
    sent_more mails sent mail e = ap (λ ms. ms ++ mail ∷ []) e ∙ append_assoc older sent (mail ∷ [])

    -- one mail more that names the group
    pub own_more : (sent : List Mail) (mail : Mail) → ((m : Mail) → Among m sent → IsOwn ahead base heard m.body) → IsOwn ahead base heard mail.body → (m : Mail) → Among m (sent ++ mail ∷ []) → IsOwn ahead base heard m.body
    own_more sent mail old new m a = elim (Among-either m sent (mail ∷ []) a) [ inl b ↦ old m b | inr (inl e) ↦ subst (λ (x : Mail). IsOwn ahead base heard x.body) e new | inr (inr n) ↦ absurd n ]

    -- a mail is sent that is no step
    unfoldable pub says : (r : ReplicaState) (mails : List Mail) (mail : Mail) → (f : Fine made heard me older before (r, mails)) → proposer_steps base.core.id mail.body ≡ [] → IsOwn ahead base heard mail.body → IsTrue ahead base made heard (f.newer ++ before) mail mail.body
        → Fine made heard me older before (r, mails ++ mail ∷ [])
    says r mails mail f none own t = record {
      sent = f.sent ++ mail ∷ [];
      sent_is = sent_more mails f.sent mail f.sent_is;
      newer = f.newer;
      are = asked_push f.sent mail before ∙ ap (λ s. s ++ asked_in base.core.id f.sent before) none ∙ f.are;
      by = f.by;
      lawful = f.lawful;
      requested = f.requested;
      replica = f.replica;
      mails = λ m a. elim (Among-either m f.sent (mail ∷ []) a) [
        | inl b ↦ f.mails m b
        | inr (inl e) ↦ subst (λ (x : Mail). IsTrue ahead base made heard (f.newer ++ before) x x.body) e t
        | inr (inr n) ↦ absurd n
      ];
      own = λ m a. own_more f.sent mail f.own own m a;
    }

    -- a mail is sent that is a step
    unfoldable pub steps : (r after : ReplicaState) (mails : List Mail) (mail : Mail) (s : Step Command) → (f : Fine made heard me older before (r, mails)) → proposer_steps base.core.id mail.body ≡ s ∷ [] → IsOwn ahead base heard mail.body → By me s
        → IsLawfulStep (rule ahead base) (first ahead base) s (f.newer ++ before) → ((b : Ballot) (slot : ℕ) (c : Command) → s ≡ Offered b slot c → made c)
        → IsReplica ahead base made (s ∷ f.newer ++ before) me after → IsTrue ahead base made heard (s ∷ f.newer ++ before) mail mail.body → Fine made heard me older before (after, mails ++ mail ∷ [])
    steps r after mails mail s f one own by law requested k t = record {
      sent = f.sent ++ mail ∷ [];
      sent_is = sent_more mails f.sent mail f.sent_is;
      newer = s ∷ f.newer;
      are = asked_push f.sent mail before ∙ ap (λ x. x ++ asked_in base.core.id f.sent before) one ∙ ap (λ (x : Steps). s ∷ x) f.are;
      by = (by, f.by);
      lawful = (law, f.lawful);
      requested = λ b slot c a. elim a [ inl e ↦ requested b slot c e | inr o ↦ f.requested b slot c o ];
      replica = k;
      mails = λ m a. elim (Among-either m f.sent (mail ∷ []) a) [
        | inl b ↦ grown_true ahead base made made (λ c p. p) heard heard (λ b p. p) (s ∷ []) (f.newer ++ before) m m.body (f.mails m b)
        | inr (inl e) ↦ subst (λ (x : Mail). IsTrue ahead base made heard (s ∷ f.newer ++ before) x x.body) e t
        | inr (inr n) ↦ absurd n
      ];
      own = λ m a. own_more f.sent mail f.own own m a;
    }

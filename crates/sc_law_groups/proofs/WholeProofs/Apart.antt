-- A name that no mail of Paxos has: nothing was promised, accepted or asked for in it.
use Rattle.std.proofs.Common.{◌≡◌, ℕ, ◌&&◌, true, false, List, [], ◌∷◌, ◌++◌, Option, Some, None, ◌⊎◌, inl, inr, refl, sym, ◌∙◌, ap, subst, append_assoc, append-nil}
use Rattle.std.specs.List.{list_any, flat_map}
use Rattle.std.proofs.lemmas.Bool.{cases_Bool, and_left, cond-false}
use Rattle.sc_base.specs.Definitions.{Among, Each, same_draw, same_ballot}
use Rattle.sc_node_table.specs.Values.{Ballot, Draw, Command, Base, OrderLine, AnswerBody, Mail, MailBody, Request, Answer, Prepare, Promise, Accept, Accepted as AcceptedMail, Nack, Learn, Ask, Install, TxPrepare, TxVote, TxOutcome, TxElsewhere, TxWatch, TxWatched, Told, Row, Event, Deliver, Op, Call}
use Rattle.sc_base.proofs.Lemmas.{draw_is}
use Rattle.sc_mail.specs.declared.bodies.AnswerBody.TheVariants as Says
use Rattle.sc_actor.specs.Definitions.{mails, numbered}
use Rattle.sc_words.proofs.PaxosProofs.PaxosLemmas.{Each-from}
use Rattle.sc_paxos_law.specs.PaxosLawDefinitions.{Step, Prepared, Promised, Offered, Accepted, log_of}
use Rattle.sc_paxos_law.proofs.Lemmas.{Among-left, Among-right}
use Rattle.sc_meaning.specs.sound.SoundDefinitions.{Ahead, is_accepted, accepts_of, accepts_got, accepts_at, accepts_from, accepts, rule_of, decided_log}
use Rattle.sc_law_groups.specs.group.GroupDefinitions.{proposer_steps, asked_in, promised_by, promises_of, promises_got, promises_at, steps_at, steps_from}
use Rattle.sc_law_groups.proofs.GroupProofs.GroupLemmas.{h_of, Steps, IsTrue, IsOneOf, IsNamedAnswer, IsNamedIn, Journal, number_among}

-- an answer with a reply is of another group
abbrev IsApartAnswer : Draw → Draw → AnswerBody → Type 0
IsApartAnswer name group (Says.Value reply) = same_draw group name ≡ false
IsApartAnswer name group _ = Unit {0}

-- a mail of Paxos is of another group
abbrev pub IsApart : Draw → MailBody → Type 0
IsApart name (Request group client seq op) = Unit {0}
IsApart name (Answer group seq answer) = IsApartAnswer name group answer
IsApart name (Prepare group ballot from_slot) = same_draw group name ≡ false
IsApart name (Promise group ballot reports) = same_draw group name ≡ false
IsApart name (Accept group ballot slot command) = same_draw group name ≡ false
IsApart name (AcceptedMail group ballot slot) = same_draw group name ≡ false
IsApart name (Nack group promised) = same_draw group name ≡ false
IsApart name (Learn group slot command) = same_draw group name ≡ false
IsApart name (Ask group from_slot) = same_draw group name ≡ false
IsApart name (Install group slot record_of sets) = same_draw group name ≡ false
IsApart name (TxPrepare tx offer) = Unit {0}
IsApart name (TxVote tx coord part vote) = Unit {0}
IsApart name (TxOutcome tx part outcome) = Unit {0}
IsApart name (TxElsewhere tx coord hint) = Unit {0}
IsApart name (TxWatch tx watch) = Unit {0}
IsApart name (TxWatched tx coord part vote) = Unit {0}
IsApart name (Told number result) = Unit {0}

-- so is each of these
abbrev AreApart : Draw → List Mail → Type 0
AreApart name out = Each (λ mail. IsApart name mail.body) out

-- a name that none of these groups has
abbrev pub IsNew : List Base → Draw → Type 0
IsNew bases name = (b : Base) → Among b bases → b.core.id ≡ name → ⊥

-- a group is one of these, or its name is nobody's, beside one of these
abbrev pub IsOldOrNew : List Base → Base → Type 0
IsOldOrNew bases base = Among base bases ⊎ (IsNew bases base.core.id × ((parent : Base) × Among parent bases))

module _ (heard : MailBody → Type 0) (bases : List Base) (name : Draw) (new : IsNew bases name) where
  -- a group of these has another name
  one_apart : (group : Draw) → IsOneOf bases group → same_draw group name ≡ false
  one_apart group (b, a, fact) = elim (cases_Bool (same_draw group name)) [ inl t ↦ absurd (new b a (sym fact ∙ draw_is group name t)) | inr f ↦ f ]

  -- so has the group of an answer with a reply
  answer_apart : (group : Draw) (answer : AnswerBody) → IsNamedAnswer bases group answer → IsApartAnswer name group answer
  answer_apart group (Says.Value reply) one = one_apart group one
  answer_apart group _ one = tt

  -- a mail of one of the groups is of none of this name
  pub named_apart : (body : MailBody) → IsNamedIn heard bases body → IsApart name body
  named_apart (Request group client seq op) one = tt
  named_apart (Answer group seq answer) one = answer_apart group answer one
  named_apart (Prepare group ballot from_slot) one = one_apart group one
  named_apart (Promise group ballot reports) one = one_apart group one
  named_apart (Accept group ballot slot command) one = one_apart group one
  named_apart (AcceptedMail group ballot slot) one = one_apart group one
  named_apart (Nack group promised) one = one_apart group one
  named_apart (Learn group slot command) one = one_apart group one
  named_apart (Ask group from_slot) one = one_apart group one
  named_apart (Install group slot record_of sets) one = one_apart group one
  named_apart _ one = tt

module _ (name : Draw) where
  -- ---- no steps

  -- a mail of another group asks for nothing
  apart_asked : (body : MailBody) → IsApart name body → proposer_steps name body ≡ []
  apart_asked (Prepare group ballot from_slot) e = cond-false (same_draw group name) (Prepared ballot from_slot ∷ []) [] e
  apart_asked (Accept group ballot slot command) e = cond-false (same_draw group name) (Offered ballot slot command ∷ []) [] e
  apart_asked _ e = refl

  -- nor do several
  none_asked : (out : List Mail) (before : Steps) → AreApart name out → asked_in name out before ≡ before
  none_asked [] before e = refl
  none_asked (mail ∷ out) before e = ap (λ x. asked_in name out (x ++ before)) (apart_asked mail.body e.0) ∙ none_asked out before e.1

  -- it promises nothing
  apart_promised : (who : ℕ) (b : Ballot) (start : ℕ) (body : MailBody) → IsApart name body → promised_by name who b start body ≡ []
  apart_promised who b start (Promise group ballot reports) e =
      cond-false (same_draw group name && same_ballot ballot b) (Promised who b start reports ∷ []) [] (and_left (same_draw group name) (same_ballot ballot b) e)
  apart_promised who b start _ e = refl

  -- nor do several
  all_promised : (who : ℕ) (b : Ballot) (start : ℕ) (out : List Mail) → AreApart name out → flat_map (λ mail. promised_by name who b start mail.body) out ≡ []
  all_promised who b start [] e = refl
  all_promised who b start (mail ∷ out) e =
      ap (λ (x : Steps). x ++ flat_map (λ (m : Mail). promised_by name who b start m.body) out) (apart_promised who b start mail.body e.0) ∙ all_promised who b start out e.1

  -- a mail of another group is not accepted in this one
  no_accepts : (row : Row Mail OrderLine) (body : MailBody) → IsApart name body → accepts_of name row body ≡ []
  no_accepts row (Accept group ballot slot command) e =
      cond-false (same_draw group name && list_any (λ (mail : Mail). is_accepted group ballot slot mail.body) row.sent) (Accepted row.who ballot slot command ∷ []) []
      (and_left (same_draw group name) (list_any (λ (mail : Mail). is_accepted group ballot slot mail.body) row.sent) e)
  no_accepts row _ e = refl

  -- nor is what was delivered
  got_accepts : (row : Row Mail OrderLine) (o : Option Mail) → ((m : Mail) → o ≡ Some m → IsApart name m.body) → accepts_got name row o ≡ []
  got_accepts row None e = refl
  got_accepts row (Some m) e = no_accepts row m.body (e m refl)

  -- nor is anything at an event
  at_accepts : (sent : List Mail) (row : Row Mail OrderLine) (event : Event OrderLine) → ((m : Mail) → Among m sent → IsApart name m.body) → accepts_at name sent row event ≡ []
  at_accepts sent row (Deliver number) e = got_accepts row (numbered sent number) (λ m fact. e m (number_among sent number m fact))
  at_accepts sent row _ e = refl

  -- nor in several rows with one more
  row_accepts : (sent : List Mail) (rows : Journal) (row : Row Mail OrderLine) (older : List (Step Command)) → ((m : Mail) → Among m (sent ++ mails rows) → IsApart name m.body)
      → accepts_from name sent (rows ++ row ∷ []) older ≡ older
  row_accepts sent [] row older e = ap (λ (x : List (Step Command)). x ++ older) (at_accepts sent row row.event (λ m a. e m (subst (Among m) (sym (append-nil sent)) a)))
  row_accepts sent (r ∷ rows) row older e =
      ap (accepts_from name (sent ++ r.sent) (rows ++ row ∷ [])) (ap (λ (x : List (Step Command)). x ++ older) (at_accepts sent r r.event (λ m a. e m (Among-left m sent (mails (r ∷ rows)) a))))
      ∙ row_accepts (sent ++ r.sent) rows row older (λ m a. e m (subst (Among m) (append_assoc sent r.sent (mails rows)) a))

  -- nothing is accepted by one more row, whatever it sends
  pub none_accepted : (rows : Journal) (row : Row Mail OrderLine) → ((m : Mail) → Among m (mails rows) → IsApart name m.body) → accepts name (rows ++ row ∷ []) ≡ []
  none_accepted rows row e = row_accepts [] rows row [] e

  module _ (row : Row Mail OrderLine) (e : AreApart name row.sent) where
    -- a row that sends mail of other groups promises nothing
    no_promises : (body : MailBody) → promises_of name row body ≡ []
    no_promises (Prepare group ballot from_slot) = all_promised row.who ballot from_slot row.sent e
    no_promises _ = refl

    -- whatever was delivered
    got_promises : (o : Option Mail) → promises_got name row o ≡ []
    got_promises None = refl
    got_promises (Some m) = no_promises m.body

    -- whatever the event
    at_promises : (sent : List Mail) (event : Event OrderLine) → promises_at name sent row event ≡ []
    at_promises sent (Deliver number) = got_promises (numbered sent number)
    at_promises sent _ = refl

    -- so it takes no step
    row_none : (sent : List Mail) (older : Steps) → ((m : Mail) → Among m sent → IsApart name m.body) → steps_at name sent row older ≡ older
    row_none sent older known =
        ap (λ (x : Steps). x ++ accepts_at name sent row row.event ++ asked_in name row.sent older) (at_promises sent row.event)
        ∙ ap (λ (x : Steps). x ++ asked_in name row.sent older) (at_accepts sent row row.event known) ∙ none_asked row.sent older e

  -- nor do several rows
  rows_none : (sent : List Mail) (rows : Journal) (older : Steps) → ((m : Mail) → Among m (sent ++ mails rows) → IsApart name m.body) → steps_from name sent rows older ≡ older
  rows_none sent [] older e = refl
  rows_none sent (row ∷ rows) older e =
      ap (steps_from name (sent ++ row.sent) rows)
      (row_none row (Each-from _ row.sent (λ m a. e m (Among-right m sent (mails (row ∷ rows)) (Among-left m row.sent (mails rows) a)))) sent older (λ m a. e m (Among-left m sent (mails (row ∷ rows)) a)))
      ∙ rows_none (sent ++ row.sent) rows older (λ m a. e m (subst (Among m) (append_assoc sent row.sent (mails rows)) a))

-- a group of a name that no mail has took no step
pub no_steps : (base : Base) (rows : Journal) → ((m : Mail) → Among m (mails rows) → IsApart base.core.id m.body) → h_of rows base ≡ []
no_steps base rows e = rows_none base.core.id [] rows [] e

-- and one more row decides nothing for it
pub silent : (ahead : Ahead) (base : Base) (rows : Journal) (row : Row Mail OrderLine) → ((m : Mail) → Among m (mails rows) → IsApart base.core.id m.body) → decided_log ahead base (rows ++ row ∷ []) ≡ []
silent ahead base rows row e = nothing_decided (none_accepted base.core.id rows row e)
  where
    nothing_decided : accepts base.core.id (rows ++ row ∷ []) ≡ [] → decided_log ahead base (rows ++ row ∷ []) ≡ []
    nothing_decided fact = ap (log_of (rule_of ahead base)) fact

-- what is said of other groups is true in this one, where it is true in another
module _ (ahead : Ahead) (base other : Base) (made made_there : Command → Type 0) (heard : MailBody → Type 0) (backlog : (client seq : ℕ) (op : Op) → made_there (Call client seq op) → made (Call client seq op)) where
  -- an answer of another group says nothing of this one
  apart_answer : (h : Steps) (mail : Mail) (group : Draw) (seq : ℕ) (answer : AnswerBody) → IsApartAnswer base.core.id group answer → IsTrue ahead base made heard h mail (Answer group seq answer)
  apart_answer h mail group seq (Says.Value reply) e = λ t. (let no_way : true ≡ false = sym t ∙ e in absurd (cc))
  apart_answer h mail group seq _ e = λ t. tt

  -- a mail of another group, whatever it is, is true apart from this one
  pub apart_true : (h there : Steps) (mail : Mail) (body : MailBody) → IsApart base.core.id body → IsTrue ahead other made_there heard there mail body → IsTrue ahead base made heard h mail body
  apart_true h there mail (Request group client seq op) e t = backlog client seq op t
  apart_true h there mail (Answer group seq answer) e t = apart_answer h mail group seq answer e
  apart_true h there mail (Nack group promised) e t = tt
  apart_true h there mail (Ask group from_slot) e t = tt
  apart_true h there mail (Told number result) e t = tt
  apart_true h there mail (TxPrepare tx offer) e t = t
  apart_true h there mail (TxVote tx coord part vote) e t = t
  apart_true h there mail (TxOutcome tx part outcome) e t = t
  apart_true h there mail (TxElsewhere tx coord hint) e t = t
  apart_true h there mail (TxWatch tx watch) e t = t
  apart_true h there mail (TxWatched tx coord part vote) e t = t
  apart_true h there mail _ e t = λ u. (let no_way : true ≡ false = sym u ∙ e in absurd (cc))

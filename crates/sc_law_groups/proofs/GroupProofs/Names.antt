-- Names in mail, and mails that are no steps.
use Rattle.std.proofs.Common.{◌≡◌, ℕ, ◌&&◌, List, [], ◌∷◌, ◌++◌, None, refl, ◌∙◌, ap}
use Rattle.std.specs.List.{list_any}
use Rattle.std.proofs.lemmas.Bool.{and_right, cond-false}
use Rattle.sc_node_table.specs.Values.{Draw, Command, Base, OrderLine, AnswerBody, Mail, MailBody, Request, Answer, Prepare, Promise, Accept, Accepted as AcceptedMail, Nack, Learn, Ask, Install, TxPrepare, TxVote, TxOutcome, TxElsewhere, TxWatch, TxWatched, Told, Event}
use Rattle.sc_base.specs.Definitions.{same_draw, Among, Each}
use Rattle.sc_words.proofs.PaxosProofs.PaxosLemmas.{Each-among}
use Rattle.sc_mail.specs.declared.bodies.AnswerBody.TheVariants as Says
use Rattle.sc_paxos_law.specs.PaxosLawDefinitions.{Accepted}
use Rattle.sc_node_table.specs.NodeDefinitions.{absent}
use Rattle.sc_meaning.specs.sound.SoundDefinitions.{accepts_of, is_accepted, Ahead}
use Rattle.sc_law_groups.specs.group.GroupDefinitions.{proposer_steps, asked_in, promises_of}
use Rattle.sc_law_groups.proofs.GroupProofs.Invariant.{Steps, IsOwn, IsTrue}
use Rattle.sc_law_groups.proofs.GroupProofs.Speech.{AnyoneHears}
use Rattle.sc_law_groups.proofs.GroupProofs.AcceptorRows.{IsPlain, ArePlain, no_promises, any_accepted}
use Rattle.sc_law_groups.proofs.GroupProofs.Frames.{node_row, steps_of}

-- ---- rows that take no step

none_asked : (group : Draw) (body : MailBody) → IsPlain body → proposer_steps group body ≡ []
none_asked group (Prepare g b start) e = absurd e
none_asked group (Accept g b slot c) e = absurd e
none_asked group _ e = refl

-- mails that ask for nothing are no steps
pub no_asked : (group : Draw) (mails : List Mail) (before : Steps) → ArePlain mails → asked_in group mails before ≡ before
no_asked group [] before e = refl
no_asked group (mail ∷ mails) before e = ap (λ x. asked_in group mails (x ++ before)) (none_asked group mail.body e.0) ∙ no_asked group mails before e.1

quiet_promises : (group : Draw) (who : ℕ) (event : Event OrderLine) (sent : List Mail) → ArePlain sent → (body : MailBody) → promises_of group (node_row who event sent) body ≡ []
quiet_promises group who event sent e (Prepare g b start) = no_promises group who b start sent e
quiet_promises group who event sent e _ = refl

quiet_accepts : (group : Draw) (who : ℕ) (event : Event OrderLine) (sent : List Mail) → ArePlain sent → (body : MailBody) → accepts_of group (node_row who event sent) body ≡ []
quiet_accepts group who event sent e (Accept g b slot c) =
    cond-false (same_draw g group && list_any (λ (mail : Mail). is_accepted g b slot mail.body) sent) (Accepted who b slot c ∷ []) []
    (and_right (same_draw g group) (list_any (λ (mail : Mail). is_accepted g b slot mail.body) sent) (any_accepted g b slot sent e))
quiet_accepts group who event sent e _ = refl

-- a row that sends only these is no step
pub quiet_steps : (group : Draw) (who : ℕ) (event : Event OrderLine) (body : MailBody) (sent : List Mail) (before : Steps) → ArePlain sent → steps_of group who event body sent before ≡ before
quiet_steps group who event body sent before e =
    ap (λ (x : Steps). x ++ accepts_of group (node_row who event sent) body ++ asked_in group sent before) (quiet_promises group who event sent e body)
    ∙ ap (λ (x : Steps). x ++ asked_in group sent before) (quiet_accepts group who event sent e body) ∙ no_asked group sent before e

-- ---- names

-- a name is that of one of these groups
abbrev pub IsOneOf : List Base → Draw → Type 0
IsOneOf bases name = (base : Base) × Among base bases × (name ≡ base.core.id)

-- an answer with a reply is of one of these groups
abbrev pub IsNamedAnswer : List Base → Draw → AnswerBody → Type 0
IsNamedAnswer bases group (Says.Value reply) = IsOneOf bases group
IsNamedAnswer bases group _ = Unit {0}

-- a mail of Paxos is of one of these groups, and one of a transaction is heard
abbrev pub IsNamedIn : (MailBody → Type 0) → List Base → MailBody → Type 0
IsNamedIn heard bases (Request group client seq op) = Unit {0}
IsNamedIn heard bases (Answer group seq answer) = IsNamedAnswer bases group answer
IsNamedIn heard bases (Prepare group ballot from_slot) = IsOneOf bases group
IsNamedIn heard bases (Promise group ballot reports) = IsOneOf bases group
IsNamedIn heard bases (Accept group ballot slot command) = IsOneOf bases group
IsNamedIn heard bases (AcceptedMail group ballot slot) = IsOneOf bases group
IsNamedIn heard bases (Nack group promised) = IsOneOf bases group
IsNamedIn heard bases (Learn group slot command) = IsOneOf bases group
IsNamedIn heard bases (Ask group from_slot) = IsOneOf bases group
IsNamedIn heard bases (Install group slot record_of sets) = IsOneOf bases group
IsNamedIn heard bases (TxPrepare tx offer) = heard (TxPrepare tx offer)
IsNamedIn heard bases (TxVote tx coord part vote) = heard (TxVote tx coord part vote)
IsNamedIn heard bases (TxOutcome tx part outcome) = heard (TxOutcome tx part outcome)
IsNamedIn heard bases (TxElsewhere tx coord hint) = heard (TxElsewhere tx coord hint)
IsNamedIn heard bases (TxWatch tx watch) = heard (TxWatch tx watch)
IsNamedIn heard bases (TxWatched tx coord part vote) = heard (TxWatched tx coord part vote)
IsNamedIn heard bases (Told number result) = Unit {0}

-- what is named stays so where more is heard
pub named_later : (heard further : MailBody → Type 0) → ((body : MailBody) → heard body → further body) → (bases : List Base) (body : MailBody) → IsNamedIn heard bases body → IsNamedIn further bases body
named_later heard further f bases (TxPrepare tx offer) one = f (TxPrepare tx offer) one
named_later heard further f bases (TxVote tx coord part vote) one = f (TxVote tx coord part vote) one
named_later heard further f bases (TxOutcome tx part outcome) one = f (TxOutcome tx part outcome) one
named_later heard further f bases (TxElsewhere tx coord hint) one = f (TxElsewhere tx coord hint) one
named_later heard further f bases (TxWatch tx watch) one = f (TxWatch tx watch) one
named_later heard further f bases (TxWatched tx coord part vote) one = f (TxWatched tx coord part vote) one
named_later heard further f bases _ one = one

-- what is sent where there is no replica is no step
pub absent_replies : (me from : ℕ) (body : MailBody) → ArePlain (absent me from body)
absent_replies me from (Request group client seq op) = (tt, tt)
absent_replies me from (Prepare group b start) = (tt, tt)
absent_replies me from (Accept group b slot c) = (tt, tt)
absent_replies me from (Learn group slot c) = (tt, tt)
absent_replies me from (TxPrepare tx offer) = (tt, tt)
absent_replies me from (TxWatch tx watch) = (tt, tt)
absent_replies me from _ = tt

answer_named : (bases : List Base) (group : Draw) (answer : AnswerBody) → IsOneOf bases group → IsNamedAnswer bases group answer
answer_named bases group (Says.Value reply) one = one
answer_named bases group _ one = tt

-- the mails of a group's replica are of that group
pub own_named : (ahead : Ahead) (heard : MailBody → Type 0) (bases : List Base) (base : Base) → Among base bases → (body : MailBody) → IsOwn ahead base heard body → IsNamedIn heard bases body
own_named ahead heard bases base a (Request group client seq op) own = absurd own
own_named ahead heard bases base a (Answer group seq answer) own = answer_named bases group answer (base, a, own)
own_named ahead heard bases base a (TxPrepare tx offer) own = own
own_named ahead heard bases base a (TxVote tx coord part vote) own = own
own_named ahead heard bases base a (TxOutcome tx part outcome) own = own
own_named ahead heard bases base a (TxElsewhere tx coord hint) own = own
own_named ahead heard bases base a (TxWatch tx watch) own = own
own_named ahead heard bases base a (TxWatched tx coord part vote) own = own
own_named ahead heard bases base a (Told number result) own = tt
own_named ahead heard bases base a _ own = (base, a, own)

-- what is sent where there is no replica is of the group of the mail that came
all_named : (heard : MailBody → Type 0) → AnyoneHears heard → (bases : List Base) (me from : ℕ) (body : MailBody) → IsNamedIn heard bases body → Each (λ (m : Mail). IsNamedIn heard bases m.body) (absent me from body)
all_named heard elsewhere bases me from (Request group client seq op) one = (tt, tt)
all_named heard elsewhere bases me from (Prepare group b start) one = (one, tt)
all_named heard elsewhere bases me from (Accept group b slot c) one = (one, tt)
all_named heard elsewhere bases me from (Learn group slot c) one = (one, tt)
all_named heard elsewhere bases me from (TxPrepare tx offer) one = (elsewhere (TxPrepare tx offer) one tx offer.coord None, tt)
all_named heard elsewhere bases me from (TxWatch tx watch) one = (elsewhere (TxWatch tx watch) one tx watch.coord None, tt)
all_named heard elsewhere bases me from _ one = tt

pub absent_named : (heard : MailBody → Type 0) → AnyoneHears heard → (bases : List Base) (me from : ℕ) (body : MailBody) → IsNamedIn heard bases body → (mail : Mail) → Among mail (absent me from body) → IsNamedIn heard bases mail.body
absent_named heard elsewhere bases me from body one mail a = Each-among (λ (m : Mail). IsNamedIn heard bases m.body) (absent me from body) mail (all_named heard elsewhere bases me from body one) a

-- what is sent where there is no replica is true
all_true : (heard : MailBody → Type 0) → AnyoneHears heard → (bases : List Base) (ahead : Ahead) (base : Base) (made : Command → Type 0) (h : Steps) (me from : ℕ) (body : MailBody) → IsNamedIn heard bases body → Each (λ (m : Mail). IsTrue ahead base made heard h m m.body) (absent me from body)
all_true heard elsewhere bases ahead base made h me from (Request group client seq op) one = (λ _. tt, tt)
all_true heard elsewhere bases ahead base made h me from (Prepare group b start) one = (tt, tt)
all_true heard elsewhere bases ahead base made h me from (Accept group b slot c) one = (tt, tt)
all_true heard elsewhere bases ahead base made h me from (Learn group slot c) one = (tt, tt)
all_true heard elsewhere bases ahead base made h me from (TxPrepare tx offer) one = (elsewhere (TxPrepare tx offer) one tx offer.coord None, tt)
all_true heard elsewhere bases ahead base made h me from (TxWatch tx watch) one = (elsewhere (TxWatch tx watch) one tx watch.coord None, tt)
all_true heard elsewhere bases ahead base made h me from _ one = tt

pub absent_true : (heard : MailBody → Type 0) → AnyoneHears heard → (bases : List Base) (ahead : Ahead) (base : Base) (made : Command → Type 0) (h : Steps) (me from : ℕ) (body : MailBody) → IsNamedIn heard bases body → (mail : Mail) → Among mail (absent me from body) → IsTrue ahead base made heard h mail mail.body
absent_true heard elsewhere bases ahead base made h me from body one mail a = Each-among (λ (m : Mail). IsTrue ahead base made heard h m m.body) (absent me from body) mail (all_true heard elsewhere bases ahead base made h me from body one) a

-- A log is no longer than mail asked for: each entry was accepted by somebody whom a mail asked.
use Rattle.std.proofs.Common.{◌≡◌, ℕ, zero, suc, ◌+◌, ◌-◌, ◌<◌, ◌≤◌, ◌⊎◌, ◌&&◌, List, [], ◌∷◌, ◌++◌, length, Option, Some, None, inl, inr, refl, ◌∙◌, ap, subst, append_assoc, arith}
use Rattle.std.specs.Prelude.{slice_get}
use Rattle.std.specs.List.{list_any}
use Rattle.std.proofs.lemmas.Bool.{cond_both, and_parts, cases_lt}
use Rattle.sc_base.specs.Definitions.{Among, same_draw}
use Rattle.sc_node_table.specs.Values.{Ballot, Draw, Command, Base, OrderLine, Mail, MailBody, Request, Accept, Event, Deliver, Row}
use Rattle.sc_base.proofs.Lemmas.{draw_is}
use Rattle.sc_actor.specs.Definitions.{mails, numbered}
use Rattle.sc_paxos_law.specs.PaxosLawDefinitions.{IsLog, Step, Accepted}
use Rattle.sc_paxos_law.proofs.Lemmas.{Among-left, Among-either, shared_member}
use Rattle.sc_words.proofs.PaxosProofs.PaxosLemmas.{Each-among}
use Rattle.sc_law_groups.proofs.GroupProofs.GroupLemmas.{number_among}
use Rattle.sc_meaning.specs.sound.SoundDefinitions.{is_accepted, accepts_of, accepts_got, accepts_at, accepts_from, accepts, rule_of, as_nodes}
use Rattle.sc_law_entries.specs.logs.LogDefinitions.{Rows}
use Rattle.sc_live_answers.specs.AnswerDefinitions.{AsksBelow, AreAskedBelow}

-- a mail that asks for what was accepted
record IsAskedBy (group : Draw) (slot : ℕ) (sent : List Mail) : Type 0 where
  mail : Mail
  among : Among mail sent
  ballot : Ballot
  name : Draw
  command : Command
  fact : mail.body ≡ Accept name ballot slot command
  named : name ≡ group

module _ (group : Draw) (node : ℕ) (ballot : Ballot) (slot : ℕ) (value : Command) where
  abbrev step : Step Command
  step = Accepted node ballot slot value

  one_slot : (n : ℕ) (b : Ballot) (s : ℕ) (c : Command) → Accepted n b s c ≡ step → s ≡ slot
  one_slot n b s c e = cc

  of_body : (row : Row Mail OrderLine) (sent : List Mail) (mail : Mail) → Among mail sent → (body : MailBody) → mail.body ≡ body → Among step (accepts_of group row body) → IsAskedBy group slot sent
  of_body row sent mail a (Accept g b s c) fact =
      cond_both (same_draw g group && list_any (λ (m : Mail). is_accepted g b s m.body) row.sent) (Accepted row.who b s c ∷ []) [] (λ (l : List (Step Command)). Among step l → IsAskedBy group slot sent)
      (λ t w. elim w [
        | inl same ↦ (let slot_is = one_slot row.who b s c same in
            record { mail = mail; among = a; ballot = b; name = g; command = c; fact = fact ∙ ap (λ n. Accept g b n c) slot_is; named = draw_is g group (and_parts (same_draw g group) (list_any (λ (m : Mail). is_accepted g b s m.body) row.sent) t).0 })
        | inr none ↦ absurd none
      ])
      (λ _ w. absurd w)
  of_body row sent mail a (Request g client seq op) fact = λ w. absurd w
  of_body row sent mail a _ fact = λ w. absurd w

  of_mail : (row : Row Mail OrderLine) (sent : List Mail) (o : Option Mail) → ((mail : Mail) → o ≡ Some mail → Among mail sent) → Among step (accepts_got group row o) → IsAskedBy group slot sent
  of_mail row sent None there w = absurd w
  of_mail row sent (Some mail) there w = of_body row sent mail (there mail refl) mail.body refl w

  of_event : (row : Row Mail OrderLine) (sent : List Mail) (event : Event OrderLine) → Among step (accepts_at group sent row event) → IsAskedBy group slot sent
  of_event row sent (Deliver number) w = of_mail row sent (numbered sent number) (λ mail e. number_among sent number mail e) w
  of_event row sent _ w = absurd w

  more_sent : (sent more : List Mail) → IsAskedBy group slot sent → IsAskedBy group slot (sent ++ more)
  more_sent sent more a = record { mail = a.mail; among = Among-left a.mail sent more a.among; ballot = a.ballot; name = a.name; command = a.command; fact = a.fact; named = a.named }

  of_rows : (sent : List Mail) (rows : Rows) (steps : List (Step Command)) → Among step (accepts_from group sent rows steps) → Among step steps ⊎ IsAskedBy group slot (sent ++ mails rows)
  of_rows sent [] steps w = inl w
  of_rows sent (row ∷ rows) steps w = elim (of_rows (sent ++ row.sent) rows (accepts_at group sent row row.event ++ steps) w) [
    | inr later ↦ inr (subst (IsAskedBy group slot) (append_assoc sent row.sent (mails rows)) later)
    | inl here ↦ elim (Among-either step (accepts_at group sent row row.event) steps here) [
      | inl now ↦ inr (more_sent sent (row.sent ++ mails rows) (of_event row sent row.event now))
      | inr before ↦ inl before
    ]
  ]

  asked_for : (rows : Rows) → Among step (accepts group rows) → IsAskedBy group slot (mails rows)
  asked_for rows w = elim (of_rows [] rows [] w) [ inl none ↦ absurd none | inr a ↦ a ]

-- what stands at the last place of a list
last_there : {X : Type 0} (xs : List X) (k : ℕ) → k < length xs → (x : X) × (slice_get xs k ≡ Some x)
last_there [] k low = absurd (omega (arith, low))
last_there (x ∷ xs) zero low = (x, refl)
last_there (x ∷ xs) (suc k) low = last_there xs k (omega (arith, low))

-- so a log is shorter than the first slot beyond
pub log_short : (base : Base) (rows : Rows) (bound : ℕ) (log : List Command) → 1 ≤ bound → IsLog (rule_of as_nodes base) (accepts base.core.id rows) log → AreAskedBelow base.core.id bound (mails rows) → length log < bound
log_short base rows bound log some fact asked = elim (cases_lt (length log) bound) [
  | inl low ↦ low
  | inr high ↦ (
      let at = last_there log (bound - 1) (omega (arith, some, high)) in
      let c = fact (bound - 1) at.0 at.1 in
      let voter = shared_member _ c.chosen.voters c.chosen.voters c.chosen.majority c.chosen.majority in
      let accepted = Each-among (λ node. Among (Accepted node c.chosen.ballot (bound - 1 + 1) at.0) (accepts base.core.id rows)) c.chosen.voters voter.0 c.chosen.each voter.1 in
      let a = asked_for base.core.id voter.0 c.chosen.ballot (bound - 1 + 1) at.0 rows accepted in
      let below : AsksBelow base.core.id bound (Accept a.name a.ballot (bound - 1 + 1) a.command) = subst (AsksBelow base.core.id bound) a.fact (Each-among (λ (mail : Mail). AsksBelow base.core.id bound mail.body) (mails rows) a.mail asked a.among) in
      let lt = below a.named in
      absurd (omega (arith, lt, some)))
]

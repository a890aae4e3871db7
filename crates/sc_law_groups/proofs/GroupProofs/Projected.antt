-- The steps of a journal, of which what it accepts is a part that gives the same log.
use Rattle.std.proofs.Common.{◌≡◌, ℕ, zero, suc, ◌+◌, ◌&&◌, max, cond, eqb, List, [], ◌∷◌, ◌++◌, length, Option, Some, None, inl, inr, refl, sym, ◌∙◌, ap, append-nil, append_assoc}
use Rattle.std.specs.List.{flat_map, list_any}
use Rattle.std.specs.Option.{option_map}
use Rattle.std.proofs.lemmas.Bool.{cond_both}
use Rattle.sc_node_table.specs.Values.{Ballot, Draw, Command, OrderLine, Mail, MailBody, Prepare, Promise, Accept, Row, Event, Deliver, Report}
use Rattle.sc_base.specs.Definitions.{same_draw, same_ballot, is_majority, Among}
use Rattle.sc_actor.specs.Definitions.{mails, numbered}
use Rattle.sc_words.proofs.PaxosProofs.PaxosLemmas.{Each-weaker}
use Rattle.sc_paxos_law.specs.PaxosLawDefinitions.{Step, Prepared, Promised, Offered, Accepted, Cut, Rule, members_of, IsChosenAfter, IsLog, voters_of, lesser_of, found_in, chosen_at, top_slot, with_next_entries, log_of}
use Rattle.sc_meaning.specs.sound.SoundDefinitions.{accepts_of, accepts_got, accepts_at, accepts_from, accepts, is_accepted}
use Rattle.sc_law_groups.specs.group.GroupDefinitions.{proposer_steps, asked_in, promised_by, promises_of, promises_got, promises_at, steps_at, steps_from, steps}

-- what is accepted among steps
abbrev pub only : {V : Type 0} → List (Step V) → List (Step V)
only [] = []
only (Prepared b from ∷ h) = only h
only (Promised n b from rs ∷ h) = only h
only (Offered b s v ∷ h) = only h
only (Accepted n b s v ∷ h) = Accepted n b s v ∷ only h
only (Cut n upto ∷ h) = only h

-- ---- the same log

voters_only : {V : Type 0} (h : List (Step V)) (b : Ballot) (slot : ℕ) → voters_of (only h) b slot ≡ voters_of h b slot
voters_only [] b slot = refl
voters_only (Prepared c from ∷ h) b slot = voters_only h b slot
voters_only (Promised n c from rs ∷ h) b slot = voters_only h b slot
voters_only (Offered c s v ∷ h) b slot = voters_only h b slot
voters_only (Accepted n c s v ∷ h) b slot = ap (λ ns. cond (same_ballot c b && eqb s slot) (n ∷ ns) ns) (voters_only h b slot)
voters_only (Cut n upto ∷ h) b slot = voters_only h b slot

found_only : {V : Type 0} (members : List ℕ) (all : List (Step V)) (slot : ℕ) (h : List (Step V)) → found_in members (only all) slot (only h) ≡ found_in members all slot h
found_only members all slot [] = refl
found_only members all slot (Prepared c from ∷ h) = found_only members all slot h
found_only members all slot (Promised n c from rs ∷ h) = found_only members all slot h
found_only members all slot (Offered c s v ∷ h) = found_only members all slot h
found_only {V} members all slot (Accepted n c s v ∷ h) =
    ap (λ ns. cond (eqb s slot && is_majority members ns) (Some (lesser_of (record { slot = s; ballot = c; value = v }) (found_in members (only all) slot (only h)))) (found_in members (only all) slot (only h))) (voters_only all c slot)
    ∙ ap (λ (o : Option (Report V)). cond (eqb s slot && is_majority members (voters_of all c slot)) (Some (lesser_of (record { slot = s; ballot = c; value = v }) o)) o) (found_only members all slot h)
found_only members all slot (Cut n upto ∷ h) = found_only members all slot h

top_only : {V : Type 0} (h : List (Step V)) → top_slot (only h) ≡ top_slot h
top_only [] = refl
top_only (Prepared c from ∷ h) = top_only h
top_only (Promised n c from rs ∷ h) = top_only h
top_only (Offered c s v ∷ h) = top_only h
top_only (Accepted n c s v ∷ h) = ap (max s) (top_only h)
top_only (Cut n upto ∷ h) = top_only h

chosen_only : {V : Type 0} (members : List ℕ) (h : List (Step V)) (slot : ℕ) → chosen_at members (only h) slot ≡ chosen_at members h slot
chosen_only {V} members h slot = ap (option_map (λ (report : Report V). report.value)) (found_only members h slot h)

abbrev on_found : {V : Type 0} → List V → (V → List V) → Option V → List V
on_found log more None = log
on_found log more (Some v) = more v

module _ {V : Type 0} (rule : Rule V) (h : List (Step V)) where
  longer_only : (more : ℕ) (log : List V) → with_next_entries rule (only h) more log ≡ with_next_entries rule h more log
  longer_only zero log = refl
  longer_only (suc more) log =
      ap (on_found log (λ v. with_next_entries rule (only h) more (log ++ v ∷ []))) (chosen_only (members_of rule log (length log + 1)) h (length log + 1))
      ∙ either (λ v. longer_only more (log ++ v ∷ [])) (chosen_at (members_of rule log (length log + 1)) h (length log + 1))
    where
      either : ((v : V) → with_next_entries rule (only h) more (log ++ v ∷ []) ≡ with_next_entries rule h more (log ++ v ∷ [])) → (o : Option V)
          → on_found log (λ v. with_next_entries rule (only h) more (log ++ v ∷ [])) o ≡ on_found log (λ v. with_next_entries rule h more (log ++ v ∷ [])) o
      either rest None = refl
      either rest (Some v) = rest v

  -- the decided log depends on acceptances alone
  pub log_only : log_of rule (only h) ≡ log_of rule h
  log_only = ap (λ n. with_next_entries rule (only h) n []) (top_only h) ∙ longer_only (top_slot h) []

-- ---- what is chosen

from_only : {V : Type 0} (h : List (Step V)) (s : Step V) → Among s (only h) → Among s h
from_only [] s a = absurd a
from_only (Prepared c from ∷ h) s a = inr (from_only h s a)
from_only (Promised n c from rs ∷ h) s a = inr (from_only h s a)
from_only (Offered c t v ∷ h) s a = inr (from_only h s a)
from_only (Accepted n c t v ∷ h) s (inl e) = inl e
from_only (Accepted n c t v ∷ h) s (inr a) = inr (from_only h s a)
from_only (Cut n upto ∷ h) s a = inr (from_only h s a)

to_only : {V : Type 0} (h : List (Step V)) (n : ℕ) (b : Ballot) (slot : ℕ) (v : V) → Among (Accepted n b slot v) h → Among (Accepted n b slot v) (only h)
to_only [] n b slot v a = absurd a
to_only (Prepared c from ∷ h) n b slot v (inl e) = cc
to_only (Prepared c from ∷ h) n b slot v (inr a) = to_only h n b slot v a
to_only (Promised m c from rs ∷ h) n b slot v (inl e) = cc
to_only (Promised m c from rs ∷ h) n b slot v (inr a) = to_only h n b slot v a
to_only (Offered c t w ∷ h) n b slot v (inl e) = cc
to_only (Offered c t w ∷ h) n b slot v (inr a) = to_only h n b slot v a
to_only (Accepted m c t w ∷ h) n b slot v (inl e) = inl e
to_only (Accepted m c t w ∷ h) n b slot v (inr a) = inr (to_only h n b slot v a)
to_only (Cut m upto ∷ h) n b slot v (inl e) = cc
to_only (Cut m upto ∷ h) n b slot v (inr a) = to_only h n b slot v a

-- what acceptances choose all steps choose
pub after_from_only : {V : Type 0} (rule : Rule V) (h : List (Step V)) (log : List V) (slot : ℕ) (v : V) → IsChosenAfter rule (only h) log slot v → IsChosenAfter rule h log slot v
after_from_only rule h log slot v c = record {
  known = c.known;
  chosen = record { ballot = c.chosen.ballot; voters = c.chosen.voters; each = Each-weaker _ _ (λ n a. from_only h _ a) c.chosen.voters c.chosen.each; majority = c.chosen.majority };
}

-- a log of the acceptances is one of all steps
pub log_from_only : {V : Type 0} (rule : Rule V) (h : List (Step V)) (log : List V) → IsLog rule (only h) log → IsLog rule h log
log_from_only rule h log l k v e = after_from_only rule h _ (k + 1) v (l k v e)

-- a log of all steps is one of the acceptances
pub log_to_only : {V : Type 0} (rule : Rule V) (h : List (Step V)) (log : List V) → IsLog rule h log → IsLog rule (only h) log
log_to_only rule h log l k v e = let c = l k v e in record {
  known = c.known;
  chosen = record { ballot = c.chosen.ballot; voters = c.chosen.voters; each = Each-weaker _ _ (λ n a. to_only h n _ _ v a) c.chosen.voters c.chosen.each; majority = c.chosen.majority };
}

-- ---- the steps of a journal

only-append : (g h : List (Step Command)) → only (g ++ h) ≡ only g ++ only h
only-append [] h = refl
only-append (Prepared c from ∷ g) h = only-append g h
only-append (Promised n c from rs ∷ g) h = only-append g h
only-append (Offered c s v ∷ g) h = only-append g h
only-append (Accepted n c s v ∷ g) h = ap (λ (x : List (Step Command)). Accepted n c s v ∷ x) (only-append g h)
only-append (Cut n upto ∷ g) h = only-append g h

module _ (group : Draw) where
  no_asked : (body : MailBody) → only (proposer_steps group body) ≡ []
  no_asked (Prepare g b start) = cond_both (same_draw g group) (Prepared b start ∷ []) [] (λ (x : List (Step Command)). only x ≡ []) (λ _. refl) (λ _. refl)
  no_asked (Accept g b slot c) = cond_both (same_draw g group) (Offered b slot c ∷ []) [] (λ (x : List (Step Command)). only x ≡ []) (λ _. refl) (λ _. refl)
  no_asked _ = refl

  only_asked : (sent : List Mail) (h : List (Step Command)) → only (asked_in group sent h) ≡ only h
  only_asked [] h = refl
  only_asked (m ∷ sent) h = only_asked sent (proposer_steps group m.body ++ h) ∙ only-append (proposer_steps group m.body) h ∙ ap (λ x. x ++ only h) (no_asked m.body)

  no_promise : (who : ℕ) (b : Ballot) (start : ℕ) (body : MailBody) → only (promised_by group who b start body) ≡ []
  no_promise who b start (Promise g c rs) =
      cond_both (same_draw g group && same_ballot c b) (Promised who b start rs ∷ []) [] (λ (x : List (Step Command)). only x ≡ []) (λ _. refl) (λ _. refl)
  no_promise who b start _ = refl

  no_promises : (who : ℕ) (b : Ballot) (start : ℕ) (sent : List Mail) → only (flat_map (λ (mail : Mail). promised_by group who b start mail.body) sent) ≡ []
  no_promises who b start [] = refl
  no_promises who b start (m ∷ sent) =
      only-append (promised_by group who b start m.body) (flat_map (λ (mail : Mail). promised_by group who b start mail.body) sent)
      ∙ ap (λ x. x ++ only (flat_map (λ (mail : Mail). promised_by group who b start mail.body) sent)) (no_promise who b start m.body) ∙ no_promises who b start sent

  promises_body : (row : Row Mail OrderLine) (body : MailBody) → only (promises_of group row body) ≡ []
  promises_body row (Prepare g b start) = no_promises row.who b start row.sent
  promises_body row _ = refl

  promises_mail : (row : Row Mail OrderLine) (o : Option Mail) → only (promises_got group row o) ≡ []
  promises_mail row None = refl
  promises_mail row (Some m) = promises_body row m.body

  promises_event : (sent : List Mail) (row : Row Mail OrderLine) (event : Event OrderLine) → only (promises_at group sent row event) ≡ []
  promises_event sent row (Deliver number) = promises_mail row (numbered sent number)
  promises_event sent row _ = refl

  accepts_body : (row : Row Mail OrderLine) (body : MailBody) → only (accepts_of group row body) ≡ accepts_of group row body
  accepts_body row (Accept g b slot c) =
      cond_both (same_draw g group && list_any (λ (mail : Mail). is_accepted g b slot mail.body) row.sent) (Accepted row.who b slot c ∷ []) [] (λ (x : List (Step Command)). only x ≡ x) (λ _. refl) (λ _. refl)
  accepts_body row _ = refl

  accepts_mail : (row : Row Mail OrderLine) (o : Option Mail) → only (accepts_got group row o) ≡ accepts_got group row o
  accepts_mail row None = refl
  accepts_mail row (Some m) = accepts_body row m.body

  accepts_event : (sent : List Mail) (row : Row Mail OrderLine) (event : Event OrderLine) → only (accepts_at group sent row event) ≡ accepts_at group sent row event
  accepts_event sent row (Deliver number) = accepts_mail row (numbered sent number)
  accepts_event sent row _ = refl

  only_at : (sent : List Mail) (row : Row Mail OrderLine) (h : List (Step Command)) → only (steps_at group sent row h) ≡ accepts_at group sent row row.event ++ only h
  only_at sent row h =
      let p = promises_at group sent row row.event in
      let a = accepts_at group sent row row.event in
      only-append (p ++ a) (asked_in group row.sent h)
      ∙ ap (λ x. x ++ only (asked_in group row.sent h)) (only-append p a ∙ ap (λ x. x ++ only a) (promises_event sent row row.event) ∙ accepts_event sent row row.event)
      ∙ ap (λ x. a ++ x) (only_asked row.sent h)

  only_from : (sent : List Mail) (rows : List (Row Mail OrderLine)) (h : List (Step Command)) → only (steps_from group sent rows h) ≡ accepts_from group sent rows (only h)
  only_from sent [] h = refl
  only_from sent (row ∷ rows) h = only_from (sent ++ row.sent) rows (steps_at group sent row h) ∙ ap (accepts_from group (sent ++ row.sent) rows) (only_at sent row h)

  -- what a journal accepts is what its steps accept
  pub only_steps : (rows : List (Row Mail OrderLine)) → only (steps group rows) ≡ accepts group rows
  only_steps rows = only_from [] rows []

  steps_from-push : (sent : List Mail) (rows : List (Row Mail OrderLine)) (row : Row Mail OrderLine) (h : List (Step Command))
      → steps_from group sent (rows ++ row ∷ []) h ≡ steps_at group (sent ++ mails rows) row (steps_from group sent rows h)
  steps_from-push sent [] row h = ap (λ s. steps_at group s row h) (sym (append-nil sent))
  steps_from-push sent (r ∷ rows) row h =
      steps_from-push (sent ++ r.sent) rows row (steps_at group sent r h)
      ∙ ap (λ s. steps_at group s row (steps_from group (sent ++ r.sent) rows (steps_at group sent r h))) (append_assoc sent r.sent (mails rows))

  -- the steps with one more row
  pub steps-push : (rows : List (Row Mail OrderLine)) (row : Row Mail OrderLine) → steps group (rows ++ row ∷ []) ≡ steps_at group (mails rows) row (steps group rows)
  steps-push rows row = steps_from-push [] rows row []

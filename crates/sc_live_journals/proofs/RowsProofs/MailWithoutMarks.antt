-- What leaves no mark: a replica's mail for another group, an answer where there is no replica, and all that a client sends.
use Rattle.std.proofs.Common.{◌≡◌, ℕ, eqb, List, [], ◌∷◌, ◌++◌, Option, Some, None, refl, sym, ◌∙◌, ap, subst}
use Rattle.std.specs.List.{filter}
use Rattle.std.proofs.lemmas.Bool.{cond_both}
use Rattle.sc_base.specs.Definitions.{Each}
use Rattle.sc_node_table.specs.Values.{Draw, OrderLine, Mail, MailBody, Request, Prepare, Accept, Learn, TxPrepare, TxWatch, Input}
use Rattle.sc_client_table.specs.table.TableDefinitions.{Client, table}
use Rattle.sc_node_table.specs.NodeDefinitions.{absent, ordered_row, name_of, mailed}
use Rattle.sc_live_steps.specs.following.FollowingDefinitions.{Mark, mark_of, marks_of, marks_for}
use Rattle.sc_live_steps.proofs.CalmStepsProofs.CalmStepLemmas.{apart}
use Rattle.sc_words.proofs.PaxosProofs.PaxosLemmas.{Each-weaker}
use Rattle.sc_live_journals.proofs.MailProofs.Clients.{IsRequestOf, clients_ask}
use Rattle.sc_live_journals.specs.rows.RowDefinitions.{NamesStay, OthersHearNothing}
use Rattle.sc_live_journals.proofs.RowsProofs.SilentMail.{narrow, AreQuiet}
use Rattle.sc_live_journals.proofs.RowsProofs.GroupNamesInRows.{mailed_keeps, order_keeps, made_keeps}

-- A replica keeps its group's name, whatever it takes.
pub names_stay : NamesStay
names_stay = record {
  mailed = λ from body r. (mailed_keeps (name_of r) from body (r, []) (refl, tt)).0;
  ordered = λ drawer line r. (order_keeps (name_of r) drawer line (r, []) (refl, tt)).0;
  made = λ me from group slot base sets. (made_keeps me from group slot base sets).0;
}

-- mail none of which leaves a mark leaves none to anybody
pub none_marked : (name : Draw) (who : ℕ) (mails : List Mail) → Each (λ mail. mark_of name mail.from mail.body ≡ None) mails → marks_for name who mails ≡ []
none_marked name who [] all = refl
none_marked name who (mail ∷ mails) all =
    cond_both (eqb mail.to who) (mail ∷ filter (λ x. eqb x.to who) mails) (filter (λ x. eqb x.to who) mails) (λ l. marks_of name l ≡ [])
    (λ _. ap (λ (o : Option Mark). elim o [ None ↦ [] | Some m ↦ m ∷ [] ] ++ marks_for name who mails) all.0 ∙ none_marked name who mails all.1) (λ _. none_marked name who mails all.1)

quiet_none : (group name : Draw) (mails : List Mail) → (group ≡ name → ⊥) → AreQuiet group mails → Each (λ mail. mark_of name mail.from mail.body ≡ None) mails
quiet_none group name [] ne q = tt
quiet_none group name (mail ∷ mails) ne q = (narrow name mail.from mail.body (q.0 name (apart group name ne)), quiet_none group name mails ne q.1)

pub quiet_marks : (group name : Draw) (who : ℕ) (mails : List Mail) → (group ≡ name → ⊥) → AreQuiet group mails → marks_for name who mails ≡ []
quiet_marks group name who mails ne q = none_marked name who mails (quiet_none group name mails ne q)

-- ---- where there is no replica

missed_none : (name : Draw) (me from : ℕ) (body : MailBody) → Each (λ mail. mark_of name mail.from mail.body ≡ None) (absent me from body)
missed_none name me from (Request group client seq op) = (refl, tt)
missed_none name me from (Prepare group ballot from_slot) = (refl, tt)
missed_none name me from (Accept group ballot slot command) = (refl, tt)
missed_none name me from (Learn group slot command) = (refl, tt)
missed_none name me from (TxPrepare tx offer) = (refl, tt)
missed_none name me from (TxWatch tx watch) = (refl, tt)
missed_none name me from _ = tt

-- ---- clients

pub client_none : (name : Draw) (client : Client) (input : Input Mail OrderLine) → Each (λ mail. mark_of name mail.from mail.body ≡ None) (table client input).1
client_none name client input = Each-weaker (IsRequestOf client.me) (λ (mail : Mail). mark_of name mail.from mail.body ≡ None) (λ mail a. subst (λ (m : Mail). mark_of name m.from m.body ≡ None) (sym a.3) refl) (table client input).1 (clients_ask client.me client input refl).1

-- What a replica sends is nothing to another group than its own, and what a client sends, or a node without replica answers, is nothing to any.
pub others_hear_nothing : OthersHearNothing
others_hear_nothing = record {
  mailed = λ name who from body r ne. quiet_marks (name_of r) name who (mailed from body (r, [])).0.1 ne (mailed_keeps (name_of r) from body (r, []) (refl, tt)).1;
  ordered = λ name who drawer line r ne. quiet_marks (name_of r) name who (ordered_row drawer line (r, [])).1 ne (order_keeps (name_of r) drawer line (r, []) (refl, tt)).1;
  made = λ name who me from group slot base sets ne. quiet_marks group name who _ ne (made_keeps me from group slot base sets).1;
  missed = λ name who me from body. none_marked name who (absent me from body) (missed_none name me from body);
  client = λ name who client input. none_marked name who (table client input).1 (client_none name client input);
}

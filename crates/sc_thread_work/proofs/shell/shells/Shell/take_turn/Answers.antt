use Rattle.std.proofs.Common.{rules, ◌≡◌, refl, ap, sym, subst, ◌∙◌, ⊎_elim, inl, inr, [], false, Some}
use Rattle.std.proofs.lemmas.Bool.{false≢true}
use Rattle.std.specs.Prelude.{IsOk}
use Rattle.std.proofs.lemmas.List.{append-nil}
use Rattle.std.specs.Option.{option_map}
use Rattle.sc_actor.specs.Mail.{mails, numbered}
use Rattle.sc_actor.specs.declared.rows.Event.TheVariants.{Deliver}
use Rattle.sc_actor.specs.declared.rows.Input.TheVariants.{Got}
use Rattle.sc_thread_ledger.specs.Pending.{kth_pending}
use Rattle.sc_thread_ports.specs.exchange.Ports.{seen}
use Rattle.sc_thread_work.specs.shell.Shells.{state}
use Rattle.sc_thread_work.proofs.ShellProofs.Replaying.{replay_looked, numbered_more}
use Rattle.sc_thread_work.proofs.ShellProofs.Taking.{takes_acts, finds_at, acts_later}
use Rattle.sc_thread_work.proofs.shell.shells.Shell.take_turn.Goals as goal

pub act-requires-clause-input : goal.act-requires-clause-input
act-requires-clause-input g c κs within = λ more. rw c.in-Ok-Mail.field-0-is (
    let is : numbered (mails (seen c.fetch.new.self)) c.in-Ok-Mail.number ≡ Some c.in-Ok-Mail.mail = search rules in
    ap (option_map (λ x. Got x)) (numbered_more (seen c.fetch.new.self) more c.in-Ok-Mail.number c.in-Ok-Mail.mail is))

pub returns-in-Ok-Empty-clause-replay : goal.returns-in-Ok-Empty-clause-replay
returns-in-Ok-Empty-clause-replay g c = λ birth old now. let e = c.fetch.ensures.looked in
    replay_looked g.A.Actor.table c.args.self.now.port c.fetch.new.self e.looked c.args.self.now.actor birth (old (⊎_elim (λ x. inl x) (λ x. inr (sym e.crashed ∙ x)) now))

pub returns-in-Ok-Mail-clause-replay : goal.returns-in-Ok-Mail-clause-replay
returns-in-Ok-Mail-clause-replay g c = λ birth old now.
    let free : c.args.self.now.spent ≡ false = search rules in
    c.act.ensures.replay birth (λ _. replay_looked g.A.Actor.table c.args.self.now.port c.fetch.new.self c.fetch.ensures.looked.looked c.args.self.now.actor birth (old (inl free))) now

pub returns-in-Ok-Mail-clause-takes : goal.returns-in-Ok-Mail-clause-takes
returns-in-Ok-Mail-clause-takes g c =
    let free : c.args.self.now.spent ≡ false = search rules in
    let is : numbered (mails (seen c.fetch.new.self)) c.in-Ok-Mail.number ≡ Some c.in-Ok-Mail.mail = search rules in
    let kth : kth_pending g.A.Mail.Parcel.receiver c.args.self.now.port.actors (seen c.fetch.new.self) c.args.self.now.port.who c.args.k ≡ Some c.in-Ok-Mail.number = search rules in
    takes_acts (state c.args.self.now) (record { actor = c.args.self.now.actor; port = c.fetch.new.self; spent = c.args.self.now.spent }) (state c.act.new.self) c.args.k c.in-Ok-Mail.number c.in-Ok-Mail.mail free refl c.fetch.ensures.looked.looked c.fetch.ensures.looked.rows.own kth is c.act.result (rw c.in-Ok-Mail.field-0-is at c.act.ensures.acts)

pub returns-in-Err-clause-memory : goal.returns-in-Err-clause-memory
returns-in-Err-clause-memory g c = λ out.
    finds_at c.args.self.now.port c.fetch.new.self c.fetch.new.self c.args.k c.fetch.ensures.looked.looked ([], sym (append-nil (seen c.fetch.new.self)))
    (λ none. false≢true (subst IsOk c.in-Err.is (c.fetch.ensures.none none)))

pub returns-in-Ok-Mail-clause-memory : goal.returns-in-Ok-Mail-clause-memory
returns-in-Ok-Mail-clause-memory g c = λ out.
    let kth : kth_pending g.A.Mail.Parcel.receiver c.args.self.now.port.actors (seen c.fetch.new.self) c.args.self.now.port.who c.args.k ≡ Some c.in-Ok-Mail.number = search rules in
    finds_at c.args.self.now.port c.fetch.new.self c.act.new.self.port c.args.k c.fetch.ensures.looked.looked
    (acts_later (record { actor = c.args.self.now.actor; port = c.fetch.new.self; spent = c.args.self.now.spent }) (state c.act.new.self) (Deliver c.in-Ok-Mail.number) (Some (Got c.in-Ok-Mail.mail)) c.act.result out (rw c.in-Ok-Mail.field-0-is at c.act.ensures.acts))
    (λ none. cc)

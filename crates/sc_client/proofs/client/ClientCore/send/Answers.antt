use Rattle.std.proofs.Common.{◌≡◌, [], Option, Some, IfOk, IsOk, ap, sym, ◌∙◌, subst}
use Rattle.sc_base.specs.declared.names.Draw.{Draw}
use Rattle.sc_base.specs.Operation.{key_of}
use Rattle.sc_base.specs.Text.{pos_of}
use Rattle.sc_client_table.specs.lookup.Known.{chosen}
use Rattle.sc_client_table.specs.table.Client.{waiting_request}
use Rattle.sc_client_table.specs.table.Table.{chosen_for, sent_where}
use Rattle.sc_client.proofs.client.ClientCore.send.Goals as goal

pub returns-clause-sent : goal.returns-clause-sent
returns-clause-sent c =
    let request : waiting_request c.args.self.now ≡ Some (c.in-Some._seq, c.in-Some.op.now) = sym c.in-Some.ensures in
    let place : pos_of (key_of c.in-Some.op.now) ≡ c.pos.result = ap pos_of (sym c.key.ensures) ∙ sym c.pos.ensures in
    let known : c.args.self.now.known ≡ c.self.inside.routes = ap (λ client. client.known) (sym c.self.view_is) in
    let chose : chosen_for c.args.self.now (waiting_request c.args.self.now) ≡ Some c.choose-group.result =
    ap (chosen_for c.args.self.now) request ∙ ap (λ p. chosen p c.args.self.now.known) place ∙ ap (chosen c.pos.result) known ∙ c.choose-group.ensures in
    let Sends : Option Draw → Type 0 = λ o. IfOk c.send_to.result (λ mails. sent_where c.args.self.now o ≡ (c.send_to.new.self, mails)) in
    subst Sends (sym chose) c.send_to.ensures.sent

pub returns-clause-none : goal.returns-clause-none
returns-clause-none c =
    let request : waiting_request c.args.self.now ≡ Some (c.in-Some._seq, c.in-Some.op.now) = sym c.in-Some.ensures in
    let place : pos_of (key_of c.in-Some.op.now) ≡ c.pos.result = ap pos_of (sym c.key.ensures) ∙ sym c.pos.ensures in
    let known : c.args.self.now.known ≡ c.self.inside.routes = ap (λ client. client.known) (sym c.self.view_is) in
    let chose : chosen_for c.args.self.now (waiting_request c.args.self.now) ≡ Some c.choose-group.result =
    ap (chosen_for c.args.self.now) request ∙ ap (λ p. chosen p c.args.self.now.known) place ∙ ap (chosen c.pos.result) known ∙ c.choose-group.ensures in
    let Free : Option Draw → Type 0 = λ o. (sent_where c.args.self.now o).1 ≡ [] → IsOk c.send_to.result in
    subst Free (sym chose) c.send_to.ensures.none

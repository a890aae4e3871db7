-- How many bytes a plain journal counts: few enough, so that it is never full.
use Rattle.std.proofs.Common.{◌≡◌, ℕ, ◌+◌, ◌-◌, ◌*◌, ◌≤◌, List, [], ◌∷◌, length, Option, Some, None, refl, ap, arith, length-append}
use Rattle.std.specs.List.{sum_by}
use Rattle.std.proofs.lemmas.List.Sums.{sum_by-cons}
use Rattle.sc_base.specs.Definitions.{Each}
use Rattle.sc_node_table.specs.Values.{Op, Get, Put, Del, Add, Cas, Command, Call, OrderLine, Value, NotLeader, NotMine, Gone, Stale, Mail, MailBody, Request, Answer, Accept, Accepted, Learn, Row}
use Rattle.sc_words.specs.commands.CommandDefinitions.{op_weight, value_weight, command_weight}
use Rattle.sc_mail.specs.Definitions.{body_weight}
use Rattle.sc_actor.specs.Definitions.{mail_bytes, row_bytes, journal_bytes, mails}
use Rattle.sc_scenario.specs.scenario.Definitions.{IsShortOp, IsBounded, IsBoundedClient}
use Rattle.sc_scenario.specs.declared.scenario.scenarios.Scenario.{Scenario}
use Rattle.sc_words.proofs.PaxosProofs.PaxosLemmas.{Each-among, Each-from_All, Each-split}
use Rattle.sc_paxos_law.proofs.Lemmas.{place_among}
use Rattle.sc_live_plain.specs.PlainDefinitions.{Frame, IsBegun, Requests, written_by, IsWrittenValue, IsPlainCommand, IsPlainBody, IsPlainMail}
use Rattle.sc_live_plain.proofs.PlainRowsProofs.Lists.{some_is}

-- ---- what a mail weighs

op_light : (op : Op) → IsShortOp op → op_weight op ≤ 576
op_light (Get key) s = omega arith
op_light (Put key value) s = (let a = s.0 in let b = s.1 in omega (arith, a, b))
op_light (Del key) s = omega arith
op_light (Add key value) s = (let a = s.0 in let b = s.1 in omega (arith, a, b))
op_light (Cas key expect value) s = (let a = s.0 in let b = s.1 in let c = s.2 in omega (arith, a, b, c))

value_light : (op : Op) (value : List ℕ) → IsShortOp op → written_by op ≡ Some value → length value ≤ 256
value_light (Get key) value s e = cc
value_light (Put key v) value s e = (let low = s.1 in let same = ap length (some_is e) in omega (arith, low, same))
value_light (Del key) value s e = cc
value_light (Add key v) value s e = (let low = s.1 in let same = ap length (some_is e) in omega (arith, low, same))
value_light (Cas key expect v) value s e = (let low = s.2 in let same = ap length (some_is e) in omega (arith, low, same))

module _ (begun : Requests) (short : (client seq : ℕ) (op : Op) → begun client seq op → IsShortOp op) where
  command_light : (frame : Frame) (command : Command) → IsPlainCommand begun frame command → command_weight command ≤ 576
  command_light frame (Call client seq op) p = op_light op (short client seq op p.is_begun)
  command_light frame _ p = absurd p

  reply_light : (o : Option (List ℕ)) → ((value : List ℕ) → o ≡ Some value → IsWrittenValue begun value) → value_weight o ≤ 576
  reply_light None p = omega arith
  reply_light (Some value) p = (let w = p value refl in let low = value_light w.op value (short w.client w.seq w.op w.is_begun) w.writes in omega (arith, low))

  body_light : (frame : Frame) (from to : ℕ) (body : MailBody) → IsPlainBody begun frame from to body → body_weight body ≤ 576
  body_light frame from to (Request group client seq op) b = op_light op (short client seq op b.1.is_begun)
  body_light frame from to (Answer group seq (Value reply)) b = reply_light reply.old b.1.says
  body_light frame from to (Answer group seq (NotMine arc succ)) b = omega arith
  body_light frame from to (Answer group seq (Stale last)) b = omega arith
  body_light frame from to (Answer group seq (NotLeader hint)) b = omega arith
  body_light frame from to (Answer group seq (Gone into)) b = omega arith
  body_light frame from to (Accept group ballot slot command) b = command_light frame command b.2.is_call
  body_light frame from to (Accepted group ballot slot) b = omega arith
  body_light frame from to (Learn group slot command) b = command_light frame command b.1.is_call
  body_light frame from to _ b = absurd b

  -- each plain mail weighs no more than an operation may
  pub mail_light : (frames : List Frame) (mail : Mail) → IsPlainMail begun frames mail → body_weight mail.body ≤ 576
  mail_light frames mail m = body_light m.frame mail.from mail.to mail.body m.says

-- ---- what rows count

mails_low : (sent : List Mail) → Each (λ mail. body_weight mail.body ≤ 576) sent → sum_by (mail_bytes (λ mail. body_weight mail.body)) sent ≤ 832 * length sent
mails_low [] e = omega arith
mails_low (mail ∷ sent) e =
    let sum = sum_by-cons (mail_bytes (λ m. body_weight m.body)) mail sent in
    let here = e.0 in
    let rest = mails_low sent e.1 in
    omega (arith, sum, here, rest)

-- 64 for each row, and 832 at most for each mail
pub bytes_low : (rows : List (Row Mail OrderLine)) → Each (λ mail. body_weight mail.body ≤ 576) (mails rows) → journal_bytes (λ mail. body_weight mail.body) rows ≤ 64 * length rows + 832 * length (mails rows)
bytes_low [] e = omega arith
bytes_low (row ∷ rows) e =
    let parts = Each-split (λ mail. body_weight mail.body ≤ 576) row.sent (mails rows) e in
    let sum = sum_by-cons (row_bytes (λ mail. body_weight mail.body)) row rows in
    let here = mails_low row.sent parts.0 in
    let rest = bytes_low rows parts.1 in
    let count = length-append row.sent (mails rows) in
    omega (arith, sum, here, rest, count)

-- ---- the requests of valid scenarios are short

pub begun_short : (scenario : Scenario) (bounded : IsBounded scenario) (rows : List (Row Mail OrderLine)) (client seq : ℕ) (op : Op) → IsBegun scenario rows client seq op → IsShortOp op
begun_short scenario bounded rows client seq op b =
    let asks = Each-among IsBoundedClient scenario.clients b.asks (Each-from_All IsBoundedClient scenario.clients bounded.clients) b.is_asks in
    Each-among IsShortOp b.asks.ops op asks.2 (place_among b.asks.ops (seq - 1) op b.op_is)

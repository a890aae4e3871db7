use Rattle.std.proofs.Common.{◌≡◌, ◌+◌, List, ◌++◌, drop, take, map, replicate, length, get_or, None, Option, sym, ap, ◌∙◌, arith}
use Rattle.std.proofs.Math.Seq.{take-append_seam}
use Rattle.std.proofs.lemmas.List.{ext_get_or, get_or-replicate, length-replicate}
use Rattle.sc_words.specs.declared.commands.orders.OrderResult.{OrderResult}
use Rattle.sc_actor.specs.Mail.{mails}
use Rattle.sc_node_table.specs.Slots.{numbers_from}
use Rattle.sc_node_table.specs.Replica.{either}
use Rattle.sc_world.specs.Summary.{reported_of}
use Rattle.sc_world.proofs.OrderWords.{length-numbered, get_or-numbered}
use Rattle.sc_world.proofs.orders.reported_orders.Goals as goal

pub returns : goal.returns
returns c =
    let whole = map (λ number. reported_of number (mails c.args.rows.now)) (numbers_from 1 c.args.count) in
    let start : c.deref_mut.result.now ≡ replicate c.args.count None = c.deref_mut.ensures.value ∙ c.in_ok-recorded.ensures in
    let long : length c.deref_mut.result.now ≡ c.args.count = ap length start ∙ length-replicate c.args.count None in
    let len : length c.note_rows.new.recorded ≡ c.args.count = c.note_rows.ensures.len ∙ long in
    let same : c.from_vec.result ≡ c.note_rows.new.recorded =
    c.from_vec.ensures
    ∙ ap (λ n. take n (c.note_rows.new.recorded ++ drop (length c.note_rows.new.recorded) c.in_ok-recorded.recorded.items)) (sym (c.note_rows.ensures.len ∙ c.deref_mut.ensures.len))
    ∙ take-append_seam c.note_rows.new.recorded (drop (length c.note_rows.new.recorded) c.in_ok-recorded.recorded.items) in
    same ∙ ext_get_or None c.note_rows.new.recorded whole
    (len ∙ sym (length-numbered (λ number. reported_of number (mails c.args.rows.now)) 1 c.args.count))
    (λ k within.
    c.note_rows.ensures.kept k (omega (arith, within, len, long))
    ∙ ap (λ (xs : List (Option OrderResult)). either (get_or xs k None) (reported_of (k + 1) (mails c.args.rows.now))) start
    ∙ ap (λ (o : Option OrderResult). either o (reported_of (k + 1) (mails c.args.rows.now))) (get_or-replicate c.args.count k None None (omega (arith, within, len)))
    ∙ ap (λ n. reported_of n (mails c.args.rows.now)) (omega arith)
    ∙ sym (get_or-numbered (λ number. reported_of number (mails c.args.rows.now)) 1 c.args.count k None (omega (arith, within, len))))

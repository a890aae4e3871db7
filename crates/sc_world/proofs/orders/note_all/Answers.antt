use Rattle.std.proofs.Common.{◌≡◌, ◌+◌, ◌∷◌, ◌++◌, [], take, None, suc, sym, ap, ◌∙◌, arith, Option, get_or}
use Rattle.std.proofs.Math.Seq.{take-suc}
use Rattle.sc_mail.specs.declared.bodies.Mail.{Mail}
use Rattle.sc_words.specs.declared.commands.orders.OrderResult.{OrderResult}
use Rattle.sc_node_table.specs.Replica.{either}
use Rattle.sc_world.specs.Summary.{reported_in_mail, reported_of}
use Rattle.sc_law_walks.proofs.Ways.{either_assoc}
use Rattle.sc_world.proofs.OrderWords.{told-last}
use Rattle.sc_world.proofs.orders.note_all.Goals as goal

pub loop-mail-preserved : goal.loop-mail-preserved
loop-mail-preserved c = record {
  len = c.note.ensures.len ∙ c.loop-mail.invariant.len;
  kept = λ k within.
      let sent = c.args.sent.now in
      let i = c.loop-mail.mail-index in
      let one : i + 1 ≡ suc i = omega arith in
      let more : take (i + 1) sent ≡ take i sent ++ c.mail-item.result ∷ [] =
      ap (λ n. take n sent) one ∙ take-suc sent i c.mail-item.result (omega (arith, c.loop-mail-test.true)) ∙ ap (λ (x : Mail). take i sent ++ x ∷ []) (sym c.mail-item.is) in
      c.note.ensures.kept k (omega (arith, within, c.loop-mail.invariant.len))
      ∙ ap (λ (o : Option OrderResult). either o (reported_in_mail (k + 1) c.mail-item.result.body)) (c.loop-mail.invariant.kept k within)
      ∙ either_assoc (get_or c.args.recorded.now k None) (reported_of (k + 1) (take i sent)) (reported_in_mail (k + 1) c.mail-item.result.body)
      ∙ ap (either (get_or c.args.recorded.now k None)) (sym (told-last (k + 1) (take i sent) c.mail-item.result) ∙ sym (ap (reported_of (k + 1)) more));
}

use Rattle.std.proofs.Common.{◌≡◌, ◌+◌, ◌∷◌, ◌++◌, [], List, take, get_or, None, Option, suc, sym, ap, ◌∙◌, arith}
use Rattle.std.proofs.Math.Seq.{take-suc}
use Rattle.std.proofs.lemmas.List.{append-nil}
use Rattle.std.proofs.lemmas.Grind.{flat_map-append}
use Rattle.sc_words.specs.declared.commands.orders.OrderLine.{OrderLine}
use Rattle.sc_words.specs.declared.commands.orders.OrderResult.{OrderResult}
use Rattle.sc_mail.specs.declared.bodies.Mail.{Mail}
use Rattle.sc_actor.specs.declared.rows.Row.{Row}
use Rattle.sc_actor.specs.Mail.{mails}
use Rattle.sc_node_table.specs.Replica.{either}
use Rattle.sc_world.specs.Summary.{reported_of}
use Rattle.sc_law_walks.proofs.Ways.{either_assoc}
use Rattle.sc_world.proofs.OrderWords.{told-append}
use Rattle.sc_world.proofs.orders.note_rows.Goals as goal

pub loop-row-preserved : goal.loop-row-preserved
loop-row-preserved c = record {
  len = c.note_all.ensures.len ∙ c.loop-row.invariant.len;
  kept = λ k within.
      let rows = c.args.rows.now in
      let i = c.loop-row.row-index in
      let before = get_or c.args.recorded.now k None in
      let sent : Row Mail OrderLine → List Mail = λ row. row.sent in
      let one : i + 1 ≡ suc i = omega arith in
      let more : mails (take (i + 1) rows) ≡ mails (take i rows) ++ c.row-item.result.sent =
      ap (λ n. mails (take n rows)) one
      ∙ ap mails (take-suc rows i c.row-item.result (omega (arith, c.loop-row-test.true)) ∙ ap (λ (x : Row Mail OrderLine). take i rows ++ x ∷ []) (sym c.row-item.is))
      ∙ flat_map-append sent (take i rows) (c.row-item.result ∷ [])
      ∙ ap (λ (ms : List Mail). mails (take i rows) ++ ms) (append-nil c.row-item.result.sent) in
      c.note_all.ensures.kept k (omega (arith, within, c.loop-row.invariant.len))
      ∙ ap (λ (o : Option OrderResult). either o (reported_of (k + 1) c.as_slice.result.now)) (c.loop-row.invariant.kept k within)
      ∙ either_assoc before (reported_of (k + 1) (mails (take i rows))) (reported_of (k + 1) c.as_slice.result.now)
      ∙ ap (either before) (ap (λ (ms : List Mail). either (reported_of (k + 1) (mails (take i rows))) (reported_of (k + 1) ms)) c.as_slice.ensures
      ∙ sym (told-append (k + 1) (mails (take i rows)) c.row-item.result.sent) ∙ sym (ap (reported_of (k + 1)) more));
}

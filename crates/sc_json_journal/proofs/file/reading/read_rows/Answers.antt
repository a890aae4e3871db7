use Rattle.std.proofs.Common.{◌≡◌, ◌++◌, [], ◌∷◌, sym, subst, arith}
use Rattle.std.proofs.lemmas.List.{length_push}
use Rattle.sc_base.specs.Among.{Each}
use Rattle.sc_words.proofs.PaxosProofs.ListLemmas.{Each-append}
use Rattle.sc_json_text.specs.rows.RowText.{IsHeld}
use Rattle.sc_json_journal.specs.file.Stored.{IsSole, GoesOn}
use Rattle.sc_json_journal.proofs.FileProofs.Rows.{rows_on, rest_shorter}
use Rattle.sc_json_journal.proofs.file.reading.read_rows.Goals as goal

pub loop-rest-preserved : goal.loop-rest-preserved
loop-rest-preserved c =
    let rows = c.loop-rest.rows in
    let row = c.in-Some.row in
    let pushed : c.push.new.self ≡ rows ++ row ∷ [] = c.in_ok-push.ensures.ok in
    let on : GoesOn c.loop-rest.rest.now row c.in-Some.more.now = rw c.in-Some.is at c.in_ok-row.ensures in
    let shorter = rest_shorter c.loop-rest.rest.now c.in-Some.more.now row on in
    let before = c.loop-rest.invariant in
    record {
      held = subst (Each IsHeld) (sym pushed) (Each-append IsHeld rows (row ∷ []) before.held (on.held, tt));
      sole = subst (Each IsSole) (sym pushed) (Each-append IsSole rows (row ∷ []) before.sole (on.sole, tt));
      bytes_are = rw pushed (rows_on c.args.bytes.now c.loop-rest.rest.now c.in-Some.more.now rows row before.bytes_are on);
      line_is = rw pushed (let one = length_push rows row in omega (arith, one, before.line_is));
      within = omega (arith, shorter, before.within);
    }

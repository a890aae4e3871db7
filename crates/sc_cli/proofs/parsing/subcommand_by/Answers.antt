use Rattle.std.proofs.Common.{map, sym, ◌∙◌}
use Rattle.std.specs.Prelude.{string_bytes}
use Rattle.std.proofs.lemmas.Result.{IfOk-weaker}
use Rattle.sc_cli.proofs.Shapes.{refused, run_asked, journal_asked, audit_asked, pool_asked, explain_asked, if_asked, if_reads}
use Rattle.sc_cli.proofs.parsing.subcommand_by.Goals as goal

pub returns-then-not-is_plain-clause-asked : goal.returns-then-not-is_plain-clause-asked
returns-then-not-is_plain-clause-asked c = sym (refused (map string_bytes c.args.words.now) (sym c.is_plain.ensures ∙ c.if-not-is_plain.true))

pub returns-clause-range : goal.returns-clause-range
returns-clause-range c = IfOk-weaker c.parsed.result _ _ (λ asked h. if_asked (map string_bytes c.args.words.now) asked h) c.parsed.ensures

pub returns-clause-run : goal.returns-clause-run
returns-clause-run c = IfOk-weaker c.parsed.result _ _ (λ asked h. λ run. run_asked (map string_bytes c.args.words.now) (sym h ∙ run)) c.parsed.ensures

pub returns-clause-journal : goal.returns-clause-journal
returns-clause-journal c = IfOk-weaker c.parsed.result _ _ (λ asked h. λ journal. journal_asked (map string_bytes c.args.words.now) (sym h ∙ journal)) c.parsed.ensures

pub returns-clause-audit : goal.returns-clause-audit
returns-clause-audit c = IfOk-weaker c.parsed.result _ _ (λ asked h. λ audit. audit_asked (map string_bytes c.args.words.now) (sym h ∙ audit)) c.parsed.ensures

pub returns-clause-pool : goal.returns-clause-pool
returns-clause-pool c = IfOk-weaker c.parsed.result _ _ (λ asked h. λ pool. pool_asked (map string_bytes c.args.words.now) (sym h ∙ pool)) c.parsed.ensures

pub returns-clause-explain : goal.returns-clause-explain
returns-clause-explain c = IfOk-weaker c.parsed.result _ _ (λ asked h. λ explain. explain_asked (map string_bytes c.args.words.now) (sym h ∙ explain)) c.parsed.ensures

pub returns-clause-reads : goal.returns-clause-reads
returns-clause-reads c = IfOk-weaker c.parsed.result _ _ (λ asked h. if_reads (map string_bytes c.args.words.now) asked h) c.parsed.ensures

-- An audit of a lawful journal's file says yes.
use Rattle.std.proofs.Common.{◌≡◌, ◌≤◌, ◌∙◌, ℕ, List, length, take, drop, Some, inl, inr, sym, ap, subst, take-append-drop}
use Rattle.std.specs.Prelude.{IfSome}
use Rattle.std.specs.List.{concat}
use Rattle.sc_actor.specs.Walk.{IsLawful}
use Rattle.sc_actor.specs.declared.rows.Row.{Row}
use Rattle.sc_actor.proofs.WalkLemmas.{lawful-prefix}
use Rattle.sc_texts.specs.chance.KeyStream.{two_words}
use Rattle.sc_words.specs.declared.commands.orders.OrderLine.{OrderLine}
use Rattle.sc_mail.specs.declared.bodies.Mail.{Mail}
use Rattle.sc_scenario.specs.declared.scenario.scenarios.Scenario.{Scenario}
use Rattle.sc_json_journal.specs.file.Laws.{FilesHaveOneVerdict, PrintedFilesAreFiles}
use Rattle.sc_texts.specs.edges.Uses.{SourceUse}
use Rattle.sc_json_journal.specs.file.Stored.{most_file_bytes, file_text, IsFile, IsBadFile}
use Rattle.sc_meaning.specs.sound.Players.{system_of, schedule, Lawful, as_nodes}
use Rattle.sc_cli.specs.declared.said.Said.{Said}
use Rattle.sc_run.specs.declared.done.Text.{Text}
use Rattle.sc_run.specs.Audited.{SaysYes, LawfulFilesAreConfirmed, PrintedJournalsAreConfirmed}
use Rattle.sc_cli.specs.Inputs.{ReadsFile}
use Rattle.sc_run.specs.Run.{HoldsUnlawful, NamesBadLine}

-- a prefix of a lawful journal is lawful
prefix_lawful : (scenario : Scenario) (rows : List (Row Mail OrderLine)) (at : ℕ) → Lawful as_nodes two_words scenario rows → Lawful as_nodes two_words scenario (take at rows)
prefix_lawful scenario rows at lawful =
    lawful-prefix (system_of as_nodes two_words scenario) (schedule scenario) (take at rows) (drop at rows) (subst (IsLawful (system_of as_nodes two_words scenario) (schedule scenario)) (sym (take-append-drop at rows)) lawful)

-- an audit of a file whose rows are lawful does not name a bad line
not_bad : FilesHaveOneVerdict → (file : List ℕ) (scenario : Scenario) (rows : List (Row Mail OrderLine)) → IsFile file scenario rows → (source : SourceUse) → source.left ≡ Some file → (what : Said) (text : Text) → NamesBadLine IsBadFile source what text → ⊥
not_bad one file scenario rows is source left what text names =
    one.not_both file scenario rows names.line names.why is (subst (λ o. IfSome o (λ input. IsBadFile input names.line names.why)) left names.bad)

-- an audit of a file whose rows are lawful does not name a bad row
not_unlawful : (file : List ℕ) (scenario : Scenario) (rows : List (Row Mail OrderLine)) → IsFile file scenario rows → Lawful as_nodes two_words scenario rows → (source : SourceUse) → source.left ≡ Some file
    → (what : Said) (text : Text) (read : Scenario) (those : List (Row Mail OrderLine)) → ReadsFile source.left read those → HoldsUnlawful read those what text → ⊥
not_unlawful file scenario rows is lawful source left what text read those reads holds =
    let all : reads.file ≡ file = subst (λ o. IfSome o (λ input. reads.file ≡ input)) left reads.all in
    let same = reads.stores.one scenario rows (subst (λ f. IsFile f scenario rows) (sym all) is) in
    let also : Lawful as_nodes two_words read those = subst (λ s. Lawful as_nodes two_words s those) same.0 (subst (Lawful as_nodes two_words scenario) same.1 lawful) in
    holds.unlawful.not_with (prefix_lawful read those holds.at also)

pub confirmed_if_lawful : FilesHaveOneVerdict → LawfulFilesAreConfirmed
confirmed_if_lawful one file scenario rows is lawful source left what text (inl (inl fails)) = inr fails.said_is
confirmed_if_lawful one file scenario rows is lawful source left what text (inl (inr names)) = absurd (not_bad one file scenario rows is source left what text names)
confirmed_if_lawful one file scenario rows is lawful source left what text (inr reads) =
    elim reads.audits as (λ _. SaysYes what) [ inl lawful_is ↦ inl lawful_is.said_is | inr bad ↦ absurd (not_unlawful file scenario rows is lawful source left what text reads.scenario reads.rows reads.read bad) ]

pub printed_confirmed : FilesHaveOneVerdict → PrintedFilesAreFiles → PrintedJournalsAreConfirmed
printed_confirmed one files bytes scenario rows printed read reports few source left what text says =
    let lines = ap concat reports.lines.0 in
    confirmed_if_lawful one (file_text bytes rows) scenario rows (files bytes scenario rows read reports.lines.1 (subst (λ file. length file ≤ most_file_bytes) lines few)) reports.lawful source (left ∙ ap Some lines) what text says

-- The ring, the history and the map of allowed entries.
use Rattle.std.proofs.Common.{sym, ◌∙◌, ap}
use Rattle.std.proofs.lemmas.Option.{same_Some}
use Rattle.sc_group_table.specs.machine.MachineDefinitions.{Group}
use Rattle.sc_law_entries.specs.ring.RingDefinitions.{first_recorded}
use Rattle.sc_law_entries.proofs.RingProofs.RingLemmas.{entries_keep_the_ring, at_start}
use Rattle.sc_law_entries.specs.history.HistoryDefinitions.{AppliedEntriesMakeHistory}
use Rattle.sc_law_entries.proofs.HistoryProofs.HistoryLemmas.{entries_report}
use Rattle.sc_law_entries.specs.logs.LogDefinitions.{AllowedEntriesMakeOneMap}
use Rattle.sc_law_entries.proofs.LogsProofs.Executes.{all_may_be_applied}

pub one_map : AppliedEntriesMakeHistory → AllowedEntriesMakeOneMap
one_map telling sources bases entries start bare allowed =
    let ring = entries_keep_the_ring sources bases entries start allowed in
    let recorded = telling sources.request bases bare entries (all_may_be_applied sources (first_recorded bases) entries (at_start sources bases start) allowed) in
    record {
      ring = ring;
      legal = recorded.recorded.legal;
      parts = λ cut among. recorded.parts cut among (λ group fact. (let p = ring.placed cut among in ap (λ (x : Group). x.core.arc) (same_Some group p.group (sym fact ∙ p.fact)) ∙ p.arc));
      notes = recorded.notes;
    }

pub allowed_entries_make_one_map : AllowedEntriesMakeOneMap
allowed_entries_make_one_map = one_map entries_report

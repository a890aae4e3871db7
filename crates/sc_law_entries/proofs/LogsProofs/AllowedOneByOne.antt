-- Entries that are allowed one after another.
use Rattle.std.proofs.Common.{◌≡◌, ℕ, ◌+◌, List, [], ◌∷◌, ◌++◌, sym, subst}
use Rattle.sc_base.specs.Definitions.{Each}
use Rattle.sc_base.specs.declared.names.Draw.{Draw}
use Rattle.sc_words.specs.declared.commands.commands.Command.{Command}
use Rattle.sc_words.specs.declared.commands.cores.Base.{Base}
use Rattle.sc_words.proofs.PaxosProofs.PaxosLemmas.{Each-weaker}
use Rattle.sc_meaning.specs.declared.entries.LogEntry.{LogEntry}
use Rattle.sc_law_entries.specs.ring.RingDefinitions.{Sources, IsAllowed, AreAllowed, StoryWorld, first_recorded, recorded_next, recorded_after, BeginInPlace, stories_of}
use Rattle.sc_law_entries.proofs.RingProofs.RingLemmas.{allowed_entries_stay_allowed, allowed_lists_append}
use Rattle.sc_meaning.specs.sound.SoundDefinitions.{entries_from}
use Rattle.sc_law_entries.proofs.LogsProofs.BirthsInLogs.{recorded_append}

-- commands of one log that are allowed by the stories before the first of them may come one after another
pub all_allowed : (sources : Sources) (bases : List Base) → BeginInPlace sources bases → (entries : List LogEntry) → AreAllowed sources (first_recorded bases) entries → (name : Draw) (slot : ℕ) (cs : List Command)
    → Each (IsAllowed sources (stories_of bases entries) name) cs → AreAllowed sources (recorded_after (first_recorded bases) entries) (entries_from name slot cs)
all_allowed sources bases start entries allowed name slot [] each = tt
all_allowed sources bases start entries allowed name slot (c ∷ cs) each =
    let e : LogEntry = record { group = name; slot = slot; command = c } in
    let w : StoryWorld = recorded_after (first_recorded bases) entries in
    let one : AreAllowed sources w (e ∷ []) = (each.0, tt) in
    let fact : recorded_after (first_recorded bases) (entries ++ e ∷ []) ≡ recorded_next w e = recorded_append (first_recorded bases) entries (e ∷ []) in
    let later : Each (IsAllowed sources (stories_of bases (entries ++ e ∷ [])) name) cs = Each-weaker (IsAllowed sources w.stories name) (IsAllowed sources (stories_of bases (entries ++ e ∷ [])) name)
    (λ d a. subst (λ (x : StoryWorld). IsAllowed sources x.stories name d) (sym fact) (allowed_entries_stay_allowed sources bases entries (e ∷ []) start allowed one name d a)) cs each.1 in (
      each.0,
      subst (λ x. AreAllowed sources x (entries_from name (slot + 1) cs)) fact
          (all_allowed sources bases start (entries ++ e ∷ []) (allowed_lists_append sources (first_recorded bases) entries (e ∷ []) allowed one) name (slot + 1) cs later),
    )

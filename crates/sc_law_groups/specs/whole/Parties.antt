-- What stories say of the parties of one transaction, beside what each of them has promised.
use Rattle.std.specs.Prelude.{◌≡◌, ◌≤◌, length, Some}
use Rattle.sc_node_table.specs.Values.{Draw, Offer, Watch, Frozen, Yes}
use Rattle.sc_words.specs.declared.commands.bodies.Body.TheVariants.{Merge}
use Rattle.sc_base.specs.Definitions.{united}
use Rattle.sc_law_entries.specs.ring.RingDefinitions.{Story, Stories}

-- the participant of a transaction is not its watcher
abbrev pub PartiesAreApart : Stories → Type 0
PartiesAreApart stories = (tx : Draw) (story : Story) → stories tx ≡ Some story → (offer : Offer) (watch : Watch) → story.offer ≡ Some offer → story.watch ≡ Some watch → offer.part ≡ watch.part → ⊥

-- where the participant of a merge has voted Yes, both groups together have at most nine members
abbrev pub MergesFit : Stories → Type 0
MergesFit stories = (tx : Draw) (story : Story) → stories tx ≡ Some story → (offer : Offer) → story.offer ≡ Some offer → offer.body ≡ Merge → (frozen : Frozen) → story.vote ≡ Some (Yes frozen)
    → length (united offer.members frozen.members) ≤ 9

-- What first entries make, and one more.
use Rattle.std.proofs.Common.{◌≡◌, ℕ, ◌<◌, suc, List, [], ◌∷◌, ◌++◌, get_or, length, take, refl, sym, ap, ◌∙◌}
use Rattle.std.proofs.Math.Seq.{take-suc}
use Rattle.sc_words.specs.declared.commands.cores.Base.{Base}
use Rattle.sc_meaning.specs.entries.Worlds.{StoreWorld, first_world, recorded, world_after, world_of}
use Rattle.sc_meaning.specs.declared.entries.LogEntry.{LogEntry}

after_append : (world : StoreWorld) (entries : List LogEntry) (entry : LogEntry) → world_after world (entries ++ entry ∷ []) ≡ recorded (world_after world entries) entry
after_append world [] entry = refl
after_append world (e ∷ entries) entry = after_append (recorded world e) entries entry

-- the world after first entries, and the next of them
pub told_next : (bases : List Base) (entries : List LogEntry) (i : ℕ) (entry : LogEntry) (world : StoreWorld) → i < length entries → entry ≡ get_or entries i entry
    → world ≡ world_of bases (take i entries) → world_of bases (take (suc i) entries) ≡ recorded world entry
told_next bases entries i entry world within is so_far =
    ap (world_of bases) (take-suc entries i entry within) ∙ ap (λ (e : LogEntry). world_of bases (take i entries ++ e ∷ [])) (sym is)
    ∙ after_append (first_world bases) (take i entries) entry ∙ ap (λ (w : StoreWorld). recorded w entry) (sym so_far)

-- a world without groups stays as it is
pub none_told : (entries : List LogEntry) → world_of [] entries ≡ first_world []
none_told [] = refl
none_told (entry ∷ entries) = none_told entries

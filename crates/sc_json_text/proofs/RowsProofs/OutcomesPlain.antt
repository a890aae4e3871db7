-- Outcomes are plain JSON.
use Rattle.std.proofs.Common.{◌≡◌, ℕ, suc, refl}
use Rattle.sc_words.specs.declared.commands.votes.Gift.{Gift}
use Rattle.sc_words.specs.declared.commands.votes.Outcome.{Outcome}
use Rattle.sc_words.specs.declared.commands.votes.Outcome.TheVariants as TheOutcome
use Rattle.sc_json_text.specs.plain.Plain.{IsPlain}
use Rattle.sc_json_text.specs.rows.Definitions.{gift_json, FitsGift, outcome_json, FitsOutcome}
use Rattle.sc_json_text.proofs.RowsProofs.SetsPlain.{clients_plain, pairs_plain}
use Rattle.sc_json_text.proofs.RowsProofs.ShapesPlain.{option_plain, u16_plain, u32_plain}
use Rattle.sc_json_text.proofs.RowsProofs.LinksPlain.{route_plain}

pub gift_plain : (room : ℕ) (gift : Gift) → FitsGift gift → IsPlain (suc (suc (suc (suc room)))) (gift_json gift)
unfolding gift_json FitsGift
gift_plain room gift fits = (refl, (clients_plain room gift.clients fits.0), refl, (refl, (pairs_plain (suc room) gift.pairs fits.1), tt, tt))

pub outcome_plain : (room : ℕ) (outcome : Outcome) → FitsOutcome outcome → IsPlain (suc (suc (suc (suc (suc (suc room)))))) (outcome_json outcome)
unfolding outcome_json FitsOutcome
outcome_plain room TheOutcome.Abort fits = refl
outcome_plain room (TheOutcome.Merged into) fits = (refl, (refl, (route_plain (suc (suc room)) into fits), tt, tt), tt, tt)
outcome_plain room (TheOutcome.Moved at gift) fits = (refl, (refl, (u32_plain at fits.0), refl, (refl, (option_plain (suc (suc (suc (suc room)))) gift_json FitsGift (λ y4 g4. (gift_plain room y4 g4)) gift fits.1), tt, tt)), tt, tt)
outcome_plain room (TheOutcome.Migrated node) fits = (refl, (refl, (u16_plain node fits), tt, tt), tt, tt)
outcome_plain room TheOutcome.Divided fits = refl

-- Votes are plain JSON.
use Rattle.std.proofs.Common.{◌≡◌, ℕ, suc, refl}
use Rattle.sc_words.specs.declared.commands.votes.No.{No}
use Rattle.sc_words.specs.declared.commands.votes.No.TheVariants as TheNo
use Rattle.sc_words.specs.declared.commands.votes.Frozen.{Frozen}
use Rattle.sc_words.specs.declared.commands.votes.Heard.{Heard}
use Rattle.sc_words.specs.declared.commands.votes.Vote.{Vote}
use Rattle.sc_words.specs.declared.commands.votes.Vote.TheVariants as TheVote
use Rattle.sc_words.specs.declared.commands.votes.Past.{Past}
use Rattle.sc_words.specs.declared.commands.votes.Past.TheVariants as ThePast
use Rattle.sc_json_text.specs.plain.Plain.{IsPlain}
use Rattle.sc_json_text.specs.rows.Definitions.{no_json, FitsNo, frozen_json, FitsFrozen, heard_json, FitsHeard, vote_json, FitsVote, past_json, FitsPast}
use Rattle.sc_json_text.proofs.RowsProofs.SetsPlain.{arc_plain, clients_plain, nodes_plain, pairs_plain}
use Rattle.sc_json_text.proofs.RowsProofs.NamesPlain.{draw_plain}
use Rattle.sc_json_text.proofs.RowsProofs.LinksPlain.{link_plain}
use Rattle.sc_json_text.proofs.RowsProofs.ShapesPlain.{u16_plain, u8_plain}

pub no_plain : (room : ℕ) (no : No) → FitsNo no → IsPlain (suc (suc room)) (no_json no)
unfolding no_json FitsNo
no_plain room (TheNo.Busy tx) fits = (refl, (refl, (draw_plain room tx fits), tt, tt), tt, tt)
no_plain room TheNo.Gone fits = refl
no_plain room TheNo.Apart fits = refl
no_plain room (TheNo.TooMany n) fits = (refl, (refl, (u8_plain n fits), tt, tt), tt, tt)

pub frozen_plain : (room : ℕ) (frozen : Frozen) → FitsFrozen frozen → IsPlain (suc (suc (suc (suc room)))) (frozen_json frozen)
unfolding frozen_json FitsFrozen
frozen_plain room frozen fits = (refl, (arc_plain (suc (suc room)) frozen.arc fits.0), refl, (refl, (clients_plain room frozen.clients fits.1), refl, (refl, (nodes_plain (suc (suc room)) frozen.members fits.2), refl, (refl, (pairs_plain (suc room) frozen.pairs fits.3), refl, (refl, (link_plain (suc room) frozen.succ fits.4), tt, tt)))))

pub heard_plain : (room : ℕ) (heard : Heard) → FitsHeard heard → IsPlain (suc (suc (suc (suc (suc room))))) (heard_json heard)
unfolding heard_json FitsHeard
heard_plain room heard fits = (refl, (u16_plain heard.by fits.0), refl, (refl, (frozen_plain room heard.frozen fits.1), tt, tt))

pub vote_plain : (room : ℕ) (vote : Vote) → FitsVote vote → IsPlain (suc (suc (suc (suc (suc room))))) (vote_json vote)
unfolding vote_json FitsVote
vote_plain room (TheVote.Yes content) fits = (refl, (frozen_plain room content fits), tt, tt)
vote_plain room (TheVote.No content) fits = (refl, (no_plain (suc (suc room)) content fits), tt, tt)

pub past_plain : (room : ℕ) (past : Past) → FitsPast past → IsPlain (suc (suc (suc room))) (past_json past)
unfolding past_json FitsPast
past_plain room ThePast.Yes fits = refl
past_plain room (ThePast.No content) fits = (refl, (no_plain room content fits), tt, tt)
past_plain room ThePast.Ended fits = refl

-- Groups are plain JSON.
use Rattle.std.proofs.Common.{◌≡◌, ℕ, suc, refl}
use Rattle.sc_words.specs.declared.commands.cores.Lock.{Lock}
use Rattle.sc_words.specs.declared.commands.cores.Lock.TheVariants as TheLock
use Rattle.sc_words.specs.declared.commands.cores.Core.{Core}
use Rattle.sc_words.specs.declared.commands.cores.Base.{Base}
use Rattle.sc_json_text.specs.plain.Plain.{IsPlain}
use Rattle.sc_json_text.specs.rows.Definitions.{pair_json, PairFits, route_json, FitsRoute, heard_json, FitsHeard, past_json, FitsPast, outcome_json, FitsOutcome, lock_json, FitsLock, core_json, FitsCore, base_json, FitsBase, draw_json, FitsDraw}
use Rattle.sc_json_text.proofs.RowsProofs.SetsPlain.{arc_plain, clients_plain, nodes_plain, pairs_plain}
use Rattle.sc_json_text.proofs.RowsProofs.BodiesPlain.{body_plain, offer_plain, watch_plain}
use Rattle.sc_json_text.proofs.RowsProofs.NamesPlain.{draw_plain}
use Rattle.sc_json_text.proofs.RowsProofs.VotesPlain.{heard_plain, past_plain}
use Rattle.sc_json_text.proofs.RowsProofs.LinksPlain.{link_plain, route_plain}
use Rattle.sc_json_text.proofs.RowsProofs.ShapesPlain.{list_plain, option_plain, u16_plain, u32_plain}
use Rattle.sc_json_text.proofs.RowsProofs.OutcomesPlain.{outcome_plain}

pub lock_plain : (room : ℕ) (lock : Lock) → FitsLock lock → IsPlain (suc (suc (suc (suc (suc (suc (suc room))))))) (lock_json lock)
unfolding lock_json FitsLock
lock_plain room TheLock.Free fits = refl
lock_plain room (TheLock.Coordinating tx body order heard) fits = (refl, (refl, (body_plain (suc (suc (suc room))) body fits.0), refl, (refl, (option_plain (suc (suc (suc (suc (suc room))))) heard_json FitsHeard (λ y5 g5. (heard_plain room y5 g5)) heard fits.1), refl, (refl, (u32_plain order fits.2), refl, (refl, (draw_plain (suc (suc (suc (suc (suc room))))) tx fits.3), tt, tt)))), tt, tt)
lock_plain room (TheLock.Promised tx offer) fits = (refl, (refl, (offer_plain (suc (suc room)) offer fits.0), refl, (refl, (draw_plain (suc (suc (suc (suc (suc room))))) tx fits.1), tt, tt)), tt, tt)
lock_plain room (TheLock.Watching tx watch) fits = (refl, (refl, (draw_plain (suc (suc (suc (suc (suc room))))) tx fits.0), refl, (refl, (watch_plain (suc (suc room)) watch fits.1), tt, tt)), tt, tt)

pub core_plain : (room : ℕ) (core : Core) → FitsCore core → IsPlain (suc (suc (suc (suc (suc (suc (suc (suc (suc room))))))))) (core_json core)
unfolding core_json FitsCore
core_plain room core fits = (refl, (arc_plain (suc (suc (suc (suc (suc (suc (suc room))))))) core.arc fits.0.0), refl, (refl, (u32_plain core.begun fits.0.1), refl, (refl, (list_plain (suc (suc (suc (suc (suc (suc (suc room))))))) draw_json FitsDraw (λ y8 g8. (draw_plain (suc (suc (suc (suc (suc (suc (suc room))))))) y8 g8)) core.born fits.0.2), refl, (refl, (list_plain (suc (suc (suc (suc (suc (suc (suc room))))))) (pair_json draw_json outcome_json) (PairFits FitsDraw FitsOutcome) (λ y8 g8. ((draw_plain (suc (suc (suc (suc (suc (suc room)))))) y8.0 g8.0), ((outcome_plain room y8.1 g8.1), tt))) core.decided fits.0.3), refl, (refl, (u16_plain core.first fits.0.4), refl, (refl, (option_plain (suc (suc (suc (suc (suc (suc (suc (suc room)))))))) route_json FitsRoute (λ y8 g8. (route_plain (suc (suc (suc (suc (suc (suc room)))))) y8 g8)) core.gone fits.0.5), refl, (refl, (draw_plain (suc (suc (suc (suc (suc (suc (suc (suc room)))))))) core.id fits.1.0), refl, (refl, (lock_plain (suc room) core.lock fits.1.1), refl, (refl, (nodes_plain (suc (suc (suc (suc (suc (suc (suc room))))))) core.members fits.1.2), refl, (refl, (link_plain (suc (suc (suc (suc (suc (suc room)))))) core.pred fits.1.3), refl, (refl, (link_plain (suc (suc (suc (suc (suc (suc room)))))) core.succ fits.1.4), refl, (refl, (list_plain (suc (suc (suc (suc (suc (suc (suc room))))))) (pair_json draw_json past_json) (PairFits FitsDraw FitsPast) (λ y8 g8. ((draw_plain (suc (suc (suc (suc (suc (suc room)))))) y8.0 g8.0), ((past_plain (suc (suc (suc room))) y8.1 g8.1), tt))) core.voted fits.1.5), tt, tt))))))))))))

pub base_plain : (room : ℕ) (base : Base) → FitsBase base → IsPlain (suc (suc (suc (suc (suc (suc (suc (suc (suc (suc room)))))))))) (base_json base)
unfolding base_json FitsBase
base_plain room base fits = (refl, (clients_plain (suc (suc (suc (suc (suc (suc room)))))) base.clients fits.0), refl, (refl, (core_plain room base.core fits.1), refl, (refl, (pairs_plain (suc (suc (suc (suc (suc (suc (suc room))))))) base.pairs fits.2), tt, tt)))

-- Operations and replies are plain JSON.
use Rattle.std.proofs.Common.{◌≡◌, ℕ, suc, refl}
use Rattle.sc_base.specs.declared.ops.Op.{Op}
use Rattle.sc_base.specs.declared.ops.Op.TheVariants as TheOp
use Rattle.sc_base.specs.declared.ops.Reply.{Reply}
use Rattle.sc_json_text.specs.plain.Plain.{IsPlain}
use Rattle.serde_json.specs.Data.{string}
use Rattle.sc_json_text.specs.rows.Definitions.{FitsValue, op_json, FitsOp, reply_json, FitsReply}
use Rattle.sc_json_text.proofs.RowsProofs.ShapesPlain.{key_plain, option_plain, value_plain}

pub op_plain : (room : ℕ) (op : Op) → FitsOp op → IsPlain (suc (suc room)) (op_json op)
unfolding op_json FitsOp
op_plain room (TheOp.Get key) fits = (refl, (refl, (key_plain key fits), tt, tt), tt, tt)
op_plain room (TheOp.Put key value) fits = (refl, (refl, (key_plain key fits.0), refl, (refl, (value_plain value fits.1), tt, tt)), tt, tt)
op_plain room (TheOp.Del key) fits = (refl, (refl, (key_plain key fits), tt, tt), tt, tt)
op_plain room (TheOp.Add key value) fits = (refl, (refl, (key_plain key fits.0), refl, (refl, (value_plain value fits.1), tt, tt)), tt, tt)
op_plain room (TheOp.Cas key expect value) fits = (refl, (refl, (value_plain expect fits.0), refl, (refl, (key_plain key fits.1), refl, (refl, (value_plain value fits.2), tt, tt))), tt, tt)

pub reply_plain : (room : ℕ) (reply : Reply) → FitsReply reply → IsPlain (suc room) (reply_json reply)
unfolding reply_json FitsReply
reply_plain room reply fits = (refl, (option_plain room string FitsValue (λ y0 g0. (value_plain y0 g0)) reply.old fits), tt, tt)

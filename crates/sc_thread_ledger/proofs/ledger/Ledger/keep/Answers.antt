use Rattle.std.proofs.Common.{rules, ◌≡◌, [], ◌∷◌, ◌++◌, length, arith, ap, ◌∙◌}
use Rattle.sc_thread_ledger.proofs.Kept.{few_all, few_mails, sent_length, small_copies, same_lengths, few_after, kept_bytes, kept_counts, kept_receivers, kept_crashed}
use Rattle.sc_thread_ledger.proofs.Homing.{kept_homes, kept_firsts}
use Rattle.sc_thread_ledger.proofs.ledger.Ledger.keep.Goals as goal

pub note_row-requires-clause-same : goal.note_row-requires-clause-same
note_row-requires-clause-same g c = let s = c.args.self.now in same_lengths g.M.Parcel.receiver s.rows.items s.counts.items s.receivers.items s.under_way s.sent_to

pub note_row-requires-clause-small : goal.note_row-requires-clause-small
note_row-requires-clause-small g c = let s = c.args.self.now in
    small_copies g.M.Parcel.weighs g.M.Parcel.receiver s.rows.items s.bytes 1073741824 s.counted s.small (omega arith) s.counts.items s.under_way

pub note_row-requires-clause-few : goal.note_row-requires-clause-few
note_row-requires-clause-few g c = let s = c.args.self.now in few_after g.M.Parcel.weighs g.M.Parcel.receiver s.rows.items c.args.row s.receivers.items s.sent_to c.args.bytes 1073741824 c.requires.bytes.0 c.requires.bytes.1 (omega arith)

pub invariant_of-self-clause-counted : goal.invariant_of-self-clause-counted
invariant_of-self-clause-counted g c =
    kept_bytes c.args.self.now.rows.items c.push_reserved.new.self.items c.args.row (c.push_reserved.ensures.items ∙ ap (λ r. c.args.self.now.rows.items ++ r ∷ []) c.trimmed.ensures) g.M.Parcel.weighs c.args.bytes c.requires.bytes.0

pub invariant_of-self-clause-under_way : goal.invariant_of-self-clause-under_way
invariant_of-self-clause-under_way g c = let s = c.args.self.now in
    kept_counts s.rows.items c.push_reserved.new.self.items c.args.row (c.push_reserved.ensures.items ∙ ap (λ r. c.args.self.now.rows.items ++ r ∷ []) c.trimmed.ensures) s.counts.items c.note_row.new.counts.items s.under_way c.note_row.ensures.counts

pub invariant_of-self-clause-sent_to : goal.invariant_of-self-clause-sent_to
invariant_of-self-clause-sent_to g c = let s = c.args.self.now in
    kept_receivers s.rows.items c.push_reserved.new.self.items c.args.row (c.push_reserved.ensures.items ∙ ap (λ r. c.args.self.now.rows.items ++ r ∷ []) c.trimmed.ensures) g.M.Parcel.receiver s.receivers.items c.note_row.new.receivers.items s.sent_to c.note_row.ensures.receivers

pub invariant_of-self-clause-gone : goal.invariant_of-self-clause-gone
invariant_of-self-clause-gone g c = let s = c.args.self.now in
    kept_crashed s.rows.items c.push_reserved.new.self.items c.args.row (c.push_reserved.ensures.items ∙ ap (λ r. c.args.self.now.rows.items ++ r ∷ []) c.trimmed.ensures) s.crashed.items c.note_row.new.crashed.items s.gone c.note_row.ensures.crashed

pub overflow_cast-place : goal.overflow_cast-place
overflow_cast-place g c = let s = c.args.self.now in
    let l : c.len-place.result ≡ length s.rows.items = search rules in
    omega (arith, few_all g.M.Parcel.weighs s.rows.items s.bytes c.len-place.result s.counted s.small l)

pub overflow_cast-before : goal.overflow_cast-before
overflow_cast-before g c = let s = c.args.self.now in
    let l : c.len-before.result ≡ length s.receivers.items = search rules in
    omega (arith, l, few_mails g.M.Parcel.weighs g.M.Parcel.receiver s.rows.items s.bytes 1073741824 s.counted s.small (omega arith) s.receivers.items s.sent_to)

pub invariant_of-self-clause-homed : goal.invariant_of-self-clause-homed
invariant_of-self-clause-homed g c = let s = c.args.self.now in
    let l : c.len-place.result ≡ length s.rows.items = search rules in
    kept_homes s.rows.items c.push_reserved.new.self.items c.args.row (c.push_reserved.ensures.items ∙ ap (λ r. c.args.self.now.rows.items ++ r ∷ []) c.trimmed.ensures) s.homes.items c.note_home.new.homes.items c.len-place.result c.len.result s.homed l c.len.ensures c.note_home.ensures.homes

pub invariant_of-self-clause-begun : goal.invariant_of-self-clause-begun
invariant_of-self-clause-begun g c = let s = c.args.self.now in
    let l : c.len-before.result ≡ length s.receivers.items = search rules in
    kept_firsts s.rows.items c.push_reserved.new.self.items c.args.row (c.push_reserved.ensures.items ∙ ap (λ r. c.args.self.now.rows.items ++ r ∷ []) c.trimmed.ensures) s.firsts.items c.note_home.new.firsts.items c.len-before.result s.begun
    (l ∙ sent_length g.M.Parcel.receiver s.rows.items s.receivers.items s.sent_to) c.note_home.ensures.firsts

use Rattle.std.proofs.Common.{◌≡◌, ap, ◌∙◌, rules}
use Rattle.std.specs.List.{filter}
use Rattle.std.specs.FinMap as map
use Rattle.std.proofs.lemmas.Map.Made.{filter_same_pairs}
use Rattle.sc_words.specs.ideal.IdealDefinitions.{holds_key}
use Rattle.sc_group_parts.proofs.StoreProofs.Bytes.{retain-bytes}
use Rattle.sc_group_parts.proofs.store.store.Store.keep.Goals as goal

pub returns : goal.returns
returns c =
    let kept : c.retain.new.self.entries ≡ filter (λ e. holds_key c.args.arc.now e.0) c.self.inside.pairs.entries = filter_same_pairs _ (λ e. holds_key c.args.arc.now e.0) _ (λ k v b w f' t. search rules) _ _ c.retain.ensures.filtered in
    ap map.from_entries kept ∙ retain-bytes c.self.inside.pairs.entries (holds_key c.args.arc.now) ∙ ap (λ m. map.retain_keys m (holds_key c.args.arc.now)) c.self.view_is

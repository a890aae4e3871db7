-- What one more row accepts.
use Rattle.std.proofs.Common.{◌≡◌, ℕ, suc, ◌+◌, ◌<◌, length, get_or, take, Option, arith, List, [], ◌∷◌, ◌++◌, sym, ap, ◌∙◌, append_assoc, append-nil}
use Rattle.std.specs.List.{flat_map}
use Rattle.std.proofs.Math.Seq.{take-suc}
use Rattle.std.proofs.lemmas.Grind.{flat_map-append}
use Rattle.sc_base.specs.declared.names.Draw.{Draw}
use Rattle.sc_words.specs.declared.commands.commands.Command.{Command}
use Rattle.sc_words.specs.declared.commands.orders.OrderLine.{OrderLine}
use Rattle.sc_mail.specs.declared.bodies.Mail.{Mail}
use Rattle.sc_actor.specs.Mail.{mails}
use Rattle.sc_actor.specs.declared.rows.Row.{Row}
use Rattle.sc_paxos_law.specs.Steps.{Step}
use Rattle.sc_meaning.specs.sound.Accepts.{accepts_at, accepts_from, accepts}
use Rattle.sc_world_logs.specs.Acceptances.{steps_by}
use Rattle.sc_world_logs.specs.Known.{Adds}
use Rattle.sc_world_logs.specs.declared.accepting.Acceptance.{Acceptance}

accepts_from-push : (group : Draw) (sent : List Mail) (rows : List (Row Mail OrderLine)) (row : Row Mail OrderLine) (steps : List (Step Command))
    → accepts_from group sent (rows ++ row ∷ []) steps ≡ accepts_at group (sent ++ mails rows) row row.event ++ accepts_from group sent rows steps
accepts_from-push group sent [] row steps = ap (λ (ms : List Mail). accepts_at group ms row row.event ++ steps) (sym (append-nil sent))
accepts_from-push group sent (r ∷ rows) row steps =
    accepts_from-push group (sent ++ r.sent) rows row (accepts_at group sent r r.event ++ steps)
    ∙ ap (λ (ms : List Mail). accepts_at group ms row row.event ++ accepts_from group (sent ++ r.sent) rows (accepts_at group sent r r.event ++ steps)) (append_assoc sent r.sent (mails rows))

-- what rows accept with one more is what it accepts, and what was accepted before
pub accepts-push : (group : Draw) (rows : List (Row Mail OrderLine)) (row : Row Mail OrderLine)
    → accepts group (rows ++ row ∷ []) ≡ accepts_at group (mails rows) row row.event ++ accepts group rows
accepts-push group rows row = accepts_from-push group [] rows row []

-- one row more of a journal, with what it accepts, where these mails were sent before it
pub adds_next : (rows : List (Row Mail OrderLine)) (i : ℕ) (row : Row Mail OrderLine) (sent : List Mail) (accepted : Option (Draw × Acceptance)) → take (i + 1) rows ≡ take i rows ++ row ∷ [] → sent ≡ mails (take i rows)
    → ((group : Draw) → accepts_at group sent row row.event ≡ steps_by group accepted) → Adds accepted (take i rows) (take (i + 1) rows)
adds_next rows i row sent accepted next so_far here = λ group.
    ap (accepts group) next ∙ accepts-push group (take i rows) row
    ∙ ap (λ (steps : List (Step Command)). steps ++ accepts group (take i rows)) (ap (λ (ms : List Mail). accepts_at group ms row row.event) (sym so_far) ∙ here group)

-- the next row of a journal
pub next_row : (rows : List (Row Mail OrderLine)) (i : ℕ) (row : Row Mail OrderLine) → i < length rows → row ≡ get_or rows i row → take (i + 1) rows ≡ take i rows ++ row ∷ []
next_row rows i row within here =
    let one : i + 1 ≡ suc i = omega arith in
    ap (λ (n : ℕ). take n rows) one ∙ take-suc rows i row within ∙ ap (λ (r : Row Mail OrderLine). take i rows ++ r ∷ []) (sym here)

-- the mails with those of the next row
pub mails_next : (rows : List (Row Mail OrderLine)) (i : ℕ) (row : Row Mail OrderLine) (sent more : List Mail) → take (i + 1) rows ≡ take i rows ++ row ∷ [] → sent ≡ mails (take i rows) → more ≡ sent ++ row.sent
    → more ≡ mails (take (i + 1) rows)
mails_next rows i row sent more next so_far added =
    let of : Row Mail OrderLine → List Mail = λ (r : Row Mail OrderLine). r.sent in
    added ∙ ap (λ (ms : List Mail). ms ++ row.sent) so_far
    ∙ ap (λ (ms : List Mail). mails (take i rows) ++ ms) (sym (append-nil row.sent))
    ∙ sym (ap (flat_map of) next ∙ flat_map-append of (take i rows) (row ∷ []))

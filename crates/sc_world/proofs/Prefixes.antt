-- First rows have no more mails than all.
use Rattle.std.proofs.Common.{◌≡◌, ℕ, suc, ◌+◌, ◌<◌, ◌≤◌, List, [], ◌∷◌, ◌++◌, get_or, length, take, drop, sym, ap, ◌∙◌, arith}
use Rattle.std.proofs.Math.Seq.{take-suc}
use Rattle.std.specs.List.{flat_map}
use Rattle.std.proofs.lemmas.List.{take-append-drop, length-append}
use Rattle.std.proofs.lemmas.Grind.{flat_map-append}
use Rattle.sc_words.specs.declared.commands.orders.OrderLine.{OrderLine}
use Rattle.sc_mail.specs.declared.bodies.Mail.{Mail}
use Rattle.sc_actor.specs.declared.rows.Row.{Row}
use Rattle.sc_actor.specs.Mail.{mails}

-- first rows have sent no more mails than all
fewer_mails : (count : ℕ) (rows : List (Row Mail OrderLine)) → length (mails (take count rows)) ≤ length (mails rows)
fewer_mails count rows =
    let sent : Row Mail OrderLine → List Mail = λ row. row.sent in
    let parts : mails rows ≡ mails (take count rows) ++ mails (drop count rows) =
    ap (flat_map sent) (sym (take-append-drop count rows)) ∙ flat_map-append sent (take count rows) (drop count rows) in
    omega (arith, ap length parts ∙ length-append (mails (take count rows)) (mails (drop count rows)))

-- the mails of first rows and of the next row are no more than all
pub more_mails : (rows : List (Row Mail OrderLine)) (i : ℕ) (row : Row Mail OrderLine) → i < length rows → row ≡ get_or rows i row → length (mails (take i rows)) + length row.sent ≤ length (mails rows)
more_mails rows i row within is =
    let sent : Row Mail OrderLine → List Mail = λ row. row.sent in
    let next : take (suc i) rows ≡ take i rows ++ row ∷ [] = take-suc rows i row within ∙ ap (λ (r : Row Mail OrderLine). take i rows ++ r ∷ []) (sym is) in
    let parts : mails (take (suc i) rows) ≡ mails (take i rows) ++ (row.sent ++ []) = ap (flat_map sent) next ∙ flat_map-append sent (take i rows) (row ∷ []) in
    omega (arith, fewer_mails (suc i) rows, ap length parts, length-append (mails (take i rows)) (row.sent ++ []), length-append row.sent [])

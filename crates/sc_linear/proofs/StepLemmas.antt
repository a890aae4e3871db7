-- One more place.
use Rattle.std.proofs.Common.{◌≡◌, ℕ, ◌+◌, ◌<◌, ◌≤◌, true, false, List, [], ◌∷◌, ◌++◌, length, get_or, take, Option, refl, sym, ap, ◌∙◌, subst, inl, inr, arith, length-append, append-nil, append_assoc}
use Rattle.std.proofs.lemmas.List.{get_or_append_left, take_more}
use Rattle.std.proofs.Math.Seq.{get_or-append_seam}
use Rattle.sc_base.specs.Definitions.{Among, Each}
use Rattle.sc_linear_law.specs.declared.requests.Request.{Request}
use Rattle.sc_linear_law.specs.LinearDefinitions.{Place, value_after}
use Rattle.sc_linear_law.proofs.ListFacts.{each_append, each_more, each_get, among_left, among_right, among_get}
use Rattle.sc_linear_law.proofs.Game.{same_or_not}
use Rattle.sc_linear.specs.Search.{taken_with}
use Rattle.sc_linear.specs.Trails.{path_at}
use Rattle.sc_linear.specs.Standing.{request_at, fits_at, has, Leads, AllLead, IsUnder, Stands, place_at, start_entry, with_request, is_seen, Extends, can_take}
use Rattle.sc_linear.specs.Steps.{AllTaken, CanRead, IsReaderAt, IsClosedAt, AreClosed, ComeFrom, AreKept, without_request}
use Rattle.sc_linear.proofs.StandingLemmas.{take_one}
use Rattle.sc_linear.proofs.SeenLemmas.{entry_seen, seen_entry}
use Rattle.sc_linear.proofs.TakenLemmas.{not_among}

abbrev Paths : Type 0
Paths = List (List (ℕ × ℕ))

lead_grows : (rs : List Request) (line : ℕ) (paths : Paths) (more : List (ℕ × ℕ)) (e : Place × ℕ) → Leads rs line paths e → Leads rs line (paths ++ more ∷ []) e
lead_grows rs line paths more e l = record {
  within = let low : e.1 < length paths = l.within in omega (arith, length-append paths (more ∷ []));
  stands = subst (λ p. Stands rs line e.0 p) (sym (get_or_append_left paths (more ∷ []) [] e.1 l.within)) l.stands;
}

pub lead_more : (rs : List Request) (line x : ℕ) (entries : List (Place × ℕ)) (at : ℕ) (paths : Paths) → IsUnder rs line x → at < length entries → AllLead rs line paths entries → has (place_at entries at).taken x ≡ false → fits_at rs x (place_at entries at).value ≡ true
    → AllLead rs line (paths ++ (path_at paths (get_or entries at start_entry).1 ++ (line, x) ∷ []) ∷ []) (entries ++ (with_request rs (place_at entries at) x, length paths) ∷ [])
lead_more rs line x entries at paths u low all new f =
    let from : Leads rs line paths (get_or entries at start_entry) = each_get (Leads rs line paths) entries at start_entry all low in
    let path = path_at paths (get_or entries at start_entry).1 ++ (line, x) ∷ [] in
    let longer : length (paths ++ path ∷ []) ≡ length paths + length (path ∷ []) = length-append paths (path ∷ []) in
    each_append (Leads rs line (paths ++ path ∷ [])) entries ((with_request rs (place_at entries at) x, length paths) ∷ [])
    (each_more (Leads rs line paths) (Leads rs line (paths ++ path ∷ [])) entries (λ e l. lead_grows rs line paths path e l) all) (
      record {
        within = omega arith;
        stands = subst (λ p. Stands rs line (with_request rs (place_at entries at) x) p) (sym (get_or-append_seam paths path [] [])) (take_one rs line x (place_at entries at) (path_at paths (get_or entries at start_entry).1) from.stands u (not_among x (place_at entries at).taken new) f);
      },
      tt,
    )

pub seen_push : (entries : List (Place × ℕ)) (place : Place) (path : ℕ) → is_seen place (entries ++ (place, path) ∷ []) ≡ true
seen_push entries place path = entry_seen place (place, path) (entries ++ (place, path) ∷ []) (among_right (place, path) entries ((place, path) ∷ []) (inl refl)) refl

-- the place that the code makes is the place once the request is taken
pub next_is : (rs : List Request) (x : ℕ) (entries : List (Place × ℕ)) (at : ℕ) (place next : Place) (request : Request) (value : Option (List ℕ)) → place ≡ place_at entries at → request ≡ request_at rs x → value ≡ value_after request.op place.value → next ≡ record { value = value; taken = taken_with x place.taken } → next ≡ with_request rs (place_at entries at) x
next_is rs x entries at place next request value p r v n =
    n ∙ ap (λ w. let q : Place = record { value = w; taken = taken_with x place.taken } in q) v
    ∙ ap (λ (a : Request). let q : Place = record { value = value_after a.op place.value; taken = taken_with x place.taken } in q) r
    ∙ ap (λ (a : Place). with_request rs a x) p

-- what was seen stays so
pub seen_extends : (place : Place) (old new : List (Place × ℕ)) → Extends old new → is_seen place old ≡ true → is_seen place new ≡ true
seen_extends place old new more h = let r : (e : Place × ℕ) × Among e old × (e.0 ≡ place) = seen_entry place old h in entry_seen place r.0 new (subst (Among r.0) (sym more.1) (among_left r.0 old more.0 r.1)) r.2

pub extends_same : {X : Type 0} (old new : List X) → old ≡ new → Extends old new
extends_same old new e = ([], sym e ∙ sym (append-nil old))

pub extends_more : {X : Type 0} (old middle new : List X) → Extends old middle → Extends middle new → Extends old new
extends_more old middle new a b = (a.0 ++ b.0, b.1 ∙ ap (λ k. k ++ b.0) a.1 ∙ append_assoc old a.0 b.0)

pub extends_length : {X : Type 0} (old new : List X) → Extends old new → length old ≤ length new
extends_length old new a = omega (arith, ap length a.1, length-append old a.0)

-- a place keeps its index
pub place_kept : (old new : List (Place × ℕ)) (at : ℕ) → Extends old new → at < length old → place_at new at ≡ place_at old at
place_kept old new at a low = ap (λ k. place_at k at) a.1 ∙ ap (λ (e : Place × ℕ). e.0) (get_or_append_left old a.0 start_entry at low)

pub taken_extends : (rs : List Request) (old new : List (Place × ℕ)) (place : Place) (xs : List ℕ) → Extends old new → AllTaken rs old place xs → AllTaken rs new place xs
taken_extends rs old new place xs more h = each_more (λ x. can_take rs place x ≡ true → is_seen (with_request rs place x) old ≡ true) (λ x. can_take rs place x ≡ true → is_seen (with_request rs place x) new ≡ true) xs (λ x k e. seen_extends (with_request rs place x) old new more (k e)) h

pub taken_more : (rs : List Request) (first old new : List (Place × ℕ)) (at : ℕ) (under : List ℕ) (i : ℕ) → at < length first → Extends first old → Extends old new → i < length under → AllTaken rs old (place_at first at) (take i under) → (can_take rs (place_at old at) (get_or under i 0) ≡ true → is_seen (with_request rs (place_at old at) (get_or under i 0)) new ≡ true) → AllTaken rs new (place_at first at) (take (i + 1) under)
taken_more rs first old new at under i low before more within all one =
    let P : ℕ → Type 0 = λ x. can_take rs (place_at first at) x ≡ true → is_seen (with_request rs (place_at first at) x) new ≡ true in
    let here : P (get_or under i 0) = subst (λ p. can_take rs p (get_or under i 0) ≡ true → is_seen (with_request rs p (get_or under i 0)) new ≡ true) (place_kept first old at before low) one in
    subst (Each P) (sym (take_more under i 0 within)) (each_append P (take i under) (get_or under i 0 ∷ []) (taken_extends rs old new (place_at first at) (take i under) more all) (here, tt))

pub read_takes : (rs : List Request) (x : ℕ) (place : Place) → CanRead (request_at rs x) x place → can_take rs place x ≡ true
read_takes rs x place h = let a = h.new in let b = h.fitting in let c = h.answered in rw (a, b, c) refl

pub closed_by_reader : (rs : List Request) (under : List ℕ) (seen : List (Place × ℕ)) (place : Place) (x : ℕ) → IsReaderAt rs under place x → (can_take rs place x ≡ true → is_seen (with_request rs place x) seen ≡ true) → IsClosedAt rs under seen place
closed_by_reader rs under seen place x h k = inr (x, h, k (read_takes rs x place h.reads))

closed_extends : (rs : List Request) (under : List ℕ) (old new : List (Place × ℕ)) (place : Place) → Extends old new → IsClosedAt rs under old place → IsClosedAt rs under new place
closed_extends rs under old new place more (inl all) = inl (taken_extends rs old new place under more all)
closed_extends rs under old new place more (inr one) = inr (one.0, one.1, seen_extends (with_request rs place one.0) old new more one.2)

pub closed_more : (rs : List Request) (under : List ℕ) (who : ℕ) (old new : List (Place × ℕ)) (n : ℕ) → Extends old new → n < length old → AreClosed rs under who old n → (has (place_at old n).taken who ≡ false → IsClosedAt rs under new (place_at old n)) → AreClosed rs under who new (n + 1)
closed_more rs under who old new n more low closed here at below absent = elim (same_or_not n at) [
  | inl e ↦ at_last e
  | inr apart ↦ (let less : at < n = omega arith in earlier less)
]
  where
    at_last : at ≡ n → IsClosedAt rs under new (place_at new at)
    at_last e = let same : place_at new at ≡ place_at old n = ap (place_at new) e ∙ place_kept old new n more low in subst (λ p. IsClosedAt rs under new p) (sym same) (here (subst (λ p. has p.taken who ≡ false) same absent))

    earlier : at < n → IsClosedAt rs under new (place_at new at)
    earlier less = let same : place_at new at ≡ place_at old at = place_kept old new at more (omega arith) in subst (λ p. IsClosedAt rs under new p) (sym same) (closed_extends rs under old new (place_at old at) more (closed at less (subst (λ p. has p.taken who ≡ false) same absent)))

-- one more place is kept
pub from_more : (who : ℕ) (seen kept : List (Place × ℕ)) (at : ℕ) → at < length seen → ComeFrom who seen kept → has (place_at seen at).taken who ≡ true → ComeFrom who seen (kept ++ (without_request who (place_at seen at), (get_or seen at start_entry).1) ∷ [])
from_more who seen kept at low from here = each_append _ kept ((without_request who (place_at seen at), (get_or seen at start_entry).1) ∷ []) from ((get_or seen at start_entry, among_get seen at start_entry low, here, refl), tt)

pub kept_more : (who : ℕ) (seen old new : List (Place × ℕ)) (at : ℕ) → at < length seen → Extends old new → AreKept who (take at seen) old → (has (place_at seen at).taken who ≡ true → is_seen (without_request who (place_at seen at)) new ≡ true) → AreKept who (take (at + 1) seen) new
kept_more who seen old new at low more all here =
    let P : List (Place × ℕ) → Place × ℕ → Type 0 = λ k e. has e.0.taken who ≡ true → is_seen (without_request who e.0) k ≡ true in
    subst (Each (P new)) (sym (take_more seen at start_entry low)) (each_append (P new) (take at seen) (get_or seen at start_entry ∷ []) (each_more (P old) (P new) (take at seen) (λ e k h. seen_extends (without_request who e.0) old new more (k h)) all) (here, tt))

-- No name is drawn twice.
use Rattle.std.proofs.Common.{◌≡◌, ℕ, zero, suc, ◌+◌, arith, ap}
use Rattle.sc_base.specs.Definitions.{Drawer, drawn_by, Apart}

-- n draws add n to the count
count_after : (n : ℕ) (drawer : Drawer) → (drawn_by n drawer).next ≡ drawer.next + n
count_after zero drawer = omega arith
count_after (suc n) drawer = omega (arith, count_after n drawer)

-- no name is drawn twice
pub apart : Apart
apart drawer m n below same =
    let counts : (drawn_by m drawer).next ≡ (drawn_by n drawer).next = ap (λ d. d.count) same in
    omega (arith, count_after m drawer, count_after n drawer)

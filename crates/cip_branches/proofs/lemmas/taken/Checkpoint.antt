-- Branches whose ranks are put back are as they were.
use Rattle.std.proofs.Common.{◌≡◌, ℕ, List, sym, ap}
use Rattle.cip_branches.specs.Deciding.{Branched, AreFollowed}
use Rattle.cip_branches.specs.Saving.{saved_of, restored}
use Rattle.cip_branches.specs.Taking.{KeepsPlaces}

-- where the places are kept, and the ends
pub put_back : (was now : Branched) (room : ℕ) → AreFollowed was → KeepsPlaces was.layers now.layers
    → now.first ≡ was.first → now.last ≡ was.last → restored (saved_of room was) now ≡ was
put_back was now room followed kept first last = rw (kept.place_tree, kept.room, kept.starts, first, last)
    (ap (λ (ns : List ℕ). record was { layers = record was.layers { before = ns } }) (sym followed.ranked.before))

-- Each closed record has a byte, so that the numbers of records are numbers of bytes.
use Rattle.std.proofs.Common.{◌≡◌, ◌≤◌, ℕ, List, [], ◌∷◌, ◌++◌, Bool, true, false, length, refl, arith, subst}
use Rattle.std.proofs.lemmas.Grind.{common_steps}
use Rattle.std.proofs.lemmas.List.{length-take}
use Rattle.std.specs.List.{prefix_len, take_while}
use Rattle.cip_frame.specs.Records.{Cut, cut_of}
use Rattle.cip_frame.specs.Following.{cut_behind, closes}
use Rattle.cip_frame.proofs.lemmas.Cutting.{cut_closing, cut_open, cuts_are}

few_behind_by : (front : List ℕ) (b : ℕ) (bs : List ℕ) (k : Bool) → closes front b ≡ k
    → length (cut_behind [] bs).whole ≤ length bs → length (cut_behind (front ++ b ∷ []) bs).whole ≤ length bs
    → length (cut_behind front (b ∷ bs)).whole ≤ length (b ∷ bs)
few_behind_by front b bs true e closed open_more = rw (cut_closing front b bs e) (omega (arith, closed))
few_behind_by front b bs false e closed open_more = rw (cut_open front b bs e) (omega (arith, open_more))

few_behind : (front bs : List ℕ) → length (cut_behind front bs).whole ≤ length bs
few_behind front [] = omega arith
few_behind front (b ∷ bs) =
    few_behind_by front b bs (closes front b) refl (few_behind [] bs) (few_behind (front ++ b ∷ []) bs)

-- a stream has no more closed records than bytes
pub few_closed : (bytes : List ℕ) → length (cut_of bytes).whole ≤ length bytes
few_closed bytes = subst (λ (cut : Cut). length cut.whole ≤ length bytes) (cuts_are bytes) (few_behind [] bytes)

pub fewer : {X : Type 0} (p : X → Bool) (xs : List X) → length (take_while p xs) ≤ length xs
fewer p xs = rw (length-take (prefix_len p xs) xs) (grind (arith, common_steps))

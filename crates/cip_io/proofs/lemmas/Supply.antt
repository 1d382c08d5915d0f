-- What a source in memory gives, and what it has left.
use Rattle.std.proofs.Common.{◌≡◌, ◌≤◌, ◌<◌, ◌+◌, ◌-◌, ◌++◌, ◌∙◌, ℕ, List, [], min, sym, ap, arith, length, take, drop, drop-drop, length-drop}
use Rattle.std.proofs.lemmas.List.{take_rest, take-append-drop, drop_all}

pub front_given : (items front : List ℕ) (given count : ℕ)
    → front ≡ take count (take (length items - given) (drop given items))
    → drop given items ≡ front ++ drop (given + count) items
front_given items front given count is =
    let rest = drop given items in
    let here : front ≡ take count rest = rw take_rest at is in
    sym (take-append-drop count rest) ∙ ap (λ back. take count rest ++ back) (drop-drop count given items)
    ∙ ap (λ bytes. bytes ++ drop (given + count) items) (sym here)

-- nothing is given where there is room, so nothing is left
pub all_given : (items : List ℕ) (given count most room : ℕ) → given ≤ length items
    → count ≡ min (min (length (take (length items - given) (drop given items))) most) room → 0 < most → count ≡ 0
    → 0 < room → drop (given + count) items ≡ []
all_given items given count most room within is some none wide =
    let few : count ≡ min (min (length (drop given items)) most) room = rw take_rest at is in
    drop_all (given + count) items (omega (arith, few, none, some, wide, length-drop given items))

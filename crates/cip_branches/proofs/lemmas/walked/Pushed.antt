-- Nodes pushed after all others, one after the other.
use Rattle.std.proofs.Common.{◌≡◌, ◌<◌, ◌≤◌, ◌+◌, ◌-◌, ◌++◌, ◌∷◌, ℕ, zero, suc, Bool, false, List, [], length, slice_index, refl, sym, ap, ◌∙◌, arith, length-append, append-nil, append_assoc}
use Rattle.std.specs.List.{range_with_len}
use Rattle.cip_rank.proofs.lemmas.Ranges.{range_more}
use Rattle.cip_partition.specs.PlaceTree.{PlaceTree, with_children, with_place}
use Rattle.cip_partition.specs.Parting.{has_flag}
use Rattle.cip_partition.specs.Ranked.{Ranked, with_row}
use Rattle.cip_partition.specs.ReservedList.{ReservedList}
use Rattle.cip_branches.specs.SphereColumns.{KeepLayers, SphereColumns, with_new_place, with_nodes, with_kids}

-- one more node after the others
nodes_more : (nodes : List ℕ) (node branch parent_place number : ℕ) (layers : SphereColumns)
    → with_nodes (nodes ++ node ∷ []) branch parent_place number layers
    ≡ with_new_place node branch parent_place number (with_nodes nodes branch parent_place number layers)
nodes_more [] node branch parent_place number layers = refl
nodes_more (n ∷ nodes) node branch parent_place number layers =
    nodes_more nodes node branch parent_place number (with_new_place n branch parent_place number layers)

-- nodes after other ones
pub nodes_both : (nodes more : List ℕ) (branch parent_place number : ℕ) (layers : SphereColumns)
    → with_nodes (nodes ++ more) branch parent_place number layers
    ≡ with_nodes more branch parent_place number (with_nodes nodes branch parent_place number layers)
nodes_both [] more branch parent_place number layers = refl
nodes_both (n ∷ nodes) more branch parent_place number layers =
    nodes_both nodes more branch parent_place number (with_new_place n branch parent_place number layers)

-- n places more
pub places_more : (nodes : List ℕ) (branch parent_place number : ℕ) (layers : SphereColumns)
    → length (with_nodes nodes branch parent_place number layers).place_tree.place_parents ≡ length layers.place_tree.place_parents + length nodes
places_more [] branch parent_place number layers = omega arith
places_more (n ∷ nodes) branch parent_place number layers =
    let rest = places_more nodes branch parent_place number (with_new_place n branch parent_place number layers) in
    let one : length (layers.place_tree.place_parents ++ parent_place ∷ []) ≡ length layers.place_tree.place_parents + length (parent_place ∷ []) =
    length-append layers.place_tree.place_parents (parent_place ∷ []) in
    omega (arith, rest, one)

pub room_stays : (nodes : List ℕ) (branch parent_place number : ℕ) (layers : SphereColumns)
    → (with_nodes nodes branch parent_place number layers).place_tree.room ≡ layers.place_tree.room
room_stays [] branch parent_place number layers = refl
room_stays (n ∷ nodes) branch parent_place number layers =
    room_stays nodes branch parent_place number (with_new_place n branch parent_place number layers)

-- the nodes come after those of before
pub nodes_behind : (nodes : List ℕ) (branch parent_place number : ℕ) (layers : SphereColumns)
    → (with_nodes nodes branch parent_place number layers).place_tree.nodes ≡ layers.place_tree.nodes ++ nodes
nodes_behind [] branch parent_place number layers = sym (append-nil layers.place_tree.nodes)
nodes_behind (n ∷ nodes) branch parent_place number layers =
    nodes_behind nodes branch parent_place number (with_new_place n branch parent_place number layers)
    ∙ append_assoc layers.place_tree.nodes (n ∷ []) nodes

-- the nodes of a range pushed as far as one
pub range_on : (from node branch parent_place number : ℕ) (layers : SphereColumns) → from ≤ node
    → with_nodes (range_with_len from (node + 1 - from)) branch parent_place number layers
    ≡ with_new_place node branch parent_place number (with_nodes (range_with_len from (node - from)) branch parent_place number layers)
range_on from node branch parent_place number layers le =
    let count : node + 1 - from ≡ (node - from) + 1 = omega arith in
    rw (count, range_more from (node - from) node (omega arith))
    (nodes_more (range_with_len from (node - from)) node branch parent_place number layers)

-- the children of a place pushed, and their range written
pub kids_walked : (layers now : SphereColumns) (kids read : List ℕ) (branch first count place number : ℕ)
    → now ≡ with_nodes read branch place number layers → read ≡ kids
    → branch ≡ slice_index layers.place_tree.branches place → first ≡ length layers.place_tree.place_parents → count ≡ length kids
    → record now { place_tree = with_children place first count now.place_tree } ≡ with_kids kids place number layers
kids_walked layers now kids read branch first count place number now_is read_is branch_is first_is count_is =
    rw (now_is, read_is, branch_is, first_is, count_is) refl

-- a flag more that isn't set
none_more : (flags : List Bool) (row : ℕ) → has_flag flags row ≡ false → has_flag (flags ++ false ∷ []) row ≡ false
none_more [] zero not = refl
none_more [] (suc row) not = refl
none_more (flag ∷ flags) zero not = not
none_more (flag ∷ flags) (suc row) not = none_more flags row not

-- each column keeps an entry of each place, where one is pushed to all of them
pub keep_pushed : (node branch parent_place number none : ℕ) {place_tree place_tree' : PlaceTree} {ranked ranked' : Ranked}
    {starts before before' sets sets' : ReservedList ℕ} {flags flags' : ReservedList Bool}
    → KeepLayers place_tree ranked starts before flags sets → length place_tree.place_parents < place_tree.room → place_tree' ≡ with_place node branch parent_place place_tree
    → ranked' ≡ with_row number ranked → before' ≡ record before { items = before.items ++ none ∷ [] }
    → flags' ≡ record flags { items = flags.items ++ false ∷ [] }
    → sets' ≡ record sets { items = sets.items ++ 0 ∷ [] } → KeepLayers place_tree' ranked' starts before' flags' sets'
keep_pushed node branch parent_place number none {place_tree} {place_tree'} {ranked} {ranked'} {starts} {before} {before'} {sets} {sets'} {flags}
    {flags'} was lt kin_is ranked_is before_is flags_is sets_is =
    let room = ap (λ (k : PlaceTree). k.room) kin_is in
    let place_parents = ap (λ (k : PlaceTree). length k.place_parents) kin_is ∙ length-append place_tree.place_parents (parent_place ∷ []) in
    let rows = ap (λ (r : Ranked). length r.rows) ranked_is ∙ length-append ranked.rows _ in
    let numbers = ap (λ (r : Ranked). length r.numbers) ranked_is ∙ length-append ranked.numbers _ in
    let befores = ap (λ (r : ReservedList ℕ). length r.items) before_is ∙ length-append before.items _ in
    let flagged = ap (λ (r : ReservedList Bool). length r.items) flags_is ∙ length-append flags.items _ in
    let set = ap (λ (r : ReservedList ℕ). length r.items) sets_is ∙ length-append sets.items _ in
    let few = was.few in
    let starts_room = was.starts_room in
    let starts_fit = was.starts_fit in
    let rows_len = was.rows_len in
    let numbers_len = was.numbers_len in
    let before_len = was.before_len in
    let flags_len = was.flags_len in
    let sets_len = was.sets_len in
    record {
      few = omega (arith, few, room);
      fits = omega (arith, place_parents, lt, room);
      ranked_room = ap (λ (r : Ranked). r.room) ranked_is ∙ was.ranked_room ∙ sym room;
      starts_room = omega (arith, starts_room, room);
      starts_fit = omega (arith, starts_fit, room);
      before_room = ap (λ (r : ReservedList ℕ). r.room) before_is ∙ was.before_room ∙ sym room;
      flags_room = ap (λ (r : ReservedList Bool). r.room) flags_is ∙ was.flags_room ∙ sym room;
      sets_room = ap (λ (r : ReservedList ℕ). r.room) sets_is ∙ was.sets_room ∙ sym room;
      rows_len = omega (arith, rows, place_parents, rows_len);
      numbers_len = omega (arith, numbers, place_parents, numbers_len);
      before_len = omega (arith, befores, place_parents, before_len);
      flags_len = omega (arith, flagged, place_parents, flags_len);
      sets_len = omega (arith, set, place_parents, sets_len);
      none = record {
        none = λ row. ap (λ (r : ReservedList Bool). has_flag r.items row) flags_is
            ∙ none_more flags.items row (was.none.none row);
      };
    }

-- A neighbour added below a node, unless it is the parent.
use Rattle.std.proofs.Common.{◌≡◌, ◌<◌, ◌≤◌, ◌+◌, ℕ, Bool, true, false, cond, List, [], ◌∷◌, ◌++◌, None, Some, get_or}
use Rattle.std.proofs.Common.{unwrap_or, length, length-append, refl, sym, ap, ◌∙◌, subst, arith, inl, inr}
use Rattle.std.specs.declared.option.Option.{Option}
use Rattle.std.proofs.lemmas.Bool.{cases_lt}
use Rattle.std.proofs.lemmas.List.{append-nil, get_or_read_under}
use Rattle.cip_digraph.specs.declared.nodes.NodeData.{NodeData}
use Rattle.cip_digraph.specs.digraph.NodeList.{nothing_told, told_at}
use Rattle.cip_digraph.specs.graph.Graph.{Graph}
use Rattle.cip_arena.specs.Growth.{Growth}
use Rattle.cip_arena.specs.Making.{closure_told, real_told, neighbour_told, with_neighbour}
use Rattle.cip_arena.specs.Walk.{walk, is_above, IsEarlier}

pub told_read : (ts old : List NodeData) (node : ℕ) (read : NodeData) → ts ≡ old → node < length old
    → read ≡ get_or ts node read → read ≡ told_at old node
told_read ts old node read same lt is = subst (λ (us : List NodeData). read ≡ told_at us node) same
    (get_or_read_under ts node (length ts) read nothing_told is
    (subst (λ (us : List NodeData). node < length us) (sym same) lt) refl)

pub with_nodes : (a : Growth) (ns ms : List NodeData) → ns ≡ ms
    → ◌≡◌ {A = Growth} (record a { nodes = ns }) (record a { nodes = ms })
with_nodes a ns ms same = ap {A = List NodeData} {B = Growth} (λ nodes. record a { nodes = nodes }) same

module _ (graph : Graph) (old : List NodeData) (node other : ℕ) where
  pub closure_is : (ts : List NodeData) (at : ℕ) (node_data : NodeData) → ts ≡ old → walk old node other ≡ Some at
      → node_data ≡ closure_told graph ts node other at → node_data ≡ neighbour_told graph old node other (walk old node other)
  closure_is ts at node_data same walked is = is ∙ ap (λ (us : List NodeData). closure_told graph us node other at) same
      ∙ ap (neighbour_told graph old node other) (sym walked)

  pub real_is : (ts : List NodeData) (node_data : NodeData) → ts ≡ old → walk old node other ≡ None
      → node_data ≡ real_told graph ts node other → node_data ≡ neighbour_told graph old node other (walk old node other)
  real_is ts node_data same walked is = is ∙ ap (λ (us : List NodeData). real_told graph us node other) same
      ∙ ap (neighbour_told graph old node other) (sym walked)

  -- the parent is there already
  pub none_made : is_above old node other ≡ true → old ≡ with_neighbour graph old node other
  none_made above = sym (append-nil old)
      ∙ ap (λ (b : Bool). old ++ cond b [] (neighbour_told graph old node other (walk old node other) ∷ [])) (sym above)

  pub one_made : (node_data : NodeData) → is_above old node other ≡ false
      → node_data ≡ neighbour_told graph old node other (walk old node other)
      → old ++ node_data ∷ [] ≡ with_neighbour graph old node other
  one_made node_data below is = ap (λ (t : NodeData). old ++ t ∷ []) is
      ∙ ap (λ (b : Bool). old ++ cond b [] (neighbour_told graph old node other (walk old node other) ∷ [])) (sym below)

module _ (old : List NodeData) (node other : ℕ) where
  pub walked_as : (ts : List NodeData) (found : Option ℕ) → ts ≡ old → found ≡ walk ts node other
      → walk old node other ≡ found
  walked_as ts found same is = sym (is ∙ ap (λ (us : List NodeData). walk us node other) same)

  pub above_as : (ts : List NodeData) (found known : Bool) → ts ≡ old → found ≡ is_above ts node other → found ≡ known
      → is_above old node other ≡ known
  above_as ts found known same is then = sym (is ∙ ap (λ (us : List NodeData). is_above us node other) same) ∙ then

  pub stands_as : (found : Option ℕ) → walk old node other ≡ found
      → unwrap_or found (length old) ≡ unwrap_or (walk old node other) (length old)
  stands_as found walked = ap (λ (o : Option ℕ). unwrap_or o (length old)) (sym walked)

  pub none_more : is_above old node other ≡ true → length old ≡ length old + cond (is_above old node other) 0 1
  none_more above =
      let none : ◌≡◌ {A = ℕ} (cond (is_above old node other) 0 1) 0 = ap (λ b. cond {A = ℕ} b 0 1) above in
      omega (arith, none)

  pub one_more : (now : List NodeData) (node_data : NodeData) → now ≡ old ++ node_data ∷ [] → is_above old node other ≡ false
      → length now ≡ length old + cond (is_above old node other) 0 1
  one_more now node_data is below =
      let one : ◌≡◌ {A = ℕ} (cond (is_above old node other) 0 1) 1 = ap (λ b. cond {A = ℕ} b 0 1) below in
      let long : length now ≡ length old + 1 = ap (λ (ts : List NodeData). length ts) is ∙ length-append old (node_data ∷ []) in
      omega (arith, one, long)

  pub room_for_one : (bound : ℕ) → is_above old node other ≡ false
      → length old + cond (is_above old node other) 0 1 ≤ bound → length old < bound
  room_for_one bound below room =
      let one : ◌≡◌ {A = ℕ} (cond (is_above old node other) 0 1) 1 = ap (λ b. cond {A = ℕ} b 0 1) below in
      omega (arith, one, room)

  pub above_low : IsEarlier old → node < length old → is_above old node other ≡ true
      → (told_at old node).parent < length old
  above_low early lt above = elim (cases_lt 0 node) [
    | inl some ↦ let up = early.earlier node some lt in omega (arith, up, lt)
    | inr none ↦
        let root : node ≡ 0 = omega (arith, none) in
        let bad : false ≡ true = subst (λ n. is_above old n other ≡ true) root above in
        cc
  ]

pub longer : (old now : List NodeData) (node_data : NodeData) → now ≡ old ++ node_data ∷ [] → length now ≡ length old + 1
longer old now node_data is = ap (λ (ts : List NodeData). length ts) is ∙ length-append old (node_data ∷ [])

-- The descriptor of a node, by those of the nodes below it.
use Rattle.std.proofs.Common.{◌≡◌, ◌≤◌, ◌<◌, ◌+◌, ◌-◌, ℕ, zero, suc, Bool, true, false, cond, List, [], ◌∷◌, map, length, subst, sym, ap, ◌∙◌, refl, None, Some, arith, slice_index, slice_index_or, slice_set, replicate, inl, inr, Result, Ok, Err, IfOk}
use Rattle.std.specs.declared.option.Option.{Option}
use Rattle.std.proofs.lemmas.Bool.{cases_eq, le-leb}
use Rattle.std.proofs.lemmas.List.{ext_get_or, length-map, get_or-map, length-set, length-replicate, get_or-set_same, get_or-set_other}
use Rattle.cip_mol.specs.declared.labels.descriptor.Descriptor.{Descriptor}
use Rattle.cip_mol.specs.declared.site.Unit as units
use Rattle.cip_digraph.specs.declared.nodes.NodeData.{NodeData}
use Rattle.cip_digraph.specs.digraph.Digraph.{Node, is_real}
use Rattle.cip_digraph.specs.digraph.NodeList.{told_at, parents_of}
use Rattle.cip_digraph.specs.digraph.Telling.{node_at}
use Rattle.cip_digraph.specs.digraph.View.{real_at}
use Rattle.cip_digraph.specs.rules.Auxiliary.{first_letter, node_letter, inside, auxiliary}
use Rattle.cip_digraph.proofs.lemmas.descriptors.Settled.{descriptor_is_letter}
use Rattle.cip_aux.specs.InnerContext.{InnerContext}
use Rattle.cip_aux.specs.DescriptorsInside.{IsFirstLetter, descriptor_at_node, flag_at, HaveDescriptors, AreInner, AreWanted}
use Rattle.cip_aux.specs.Neighbours.{atom_told}
use Rattle.cip_aux.specs.Views.{DigraphView, Shows, path_at, IsReal}
use Rattle.cip_aux.proofs.lemmas.Paths.{path_is, parent_real, some_path, short}
use Rattle.cip_aux.proofs.lemmas.Subtrees.{agrees, behind, wanted_below}

split_two : (path : List ℕ) → 1 ≤ length path → (next : ℕ) × ((up : List ℕ) × (path ≡ next ∷ up))
split_two [] some = absurd (omega arith)
split_two (next ∷ up) some = (next, (up, refl))

module _ (sight : DigraphView) (s : Shows sight) (all : List units.Unit) where
  abbrev descriptor : List ℕ → Option Descriptor
  descriptor = auxiliary sight.rules sight.graph sight.positions all

  -- a duplicate has none, nor has the root
  pub duplicate_descriptor : (n : ℕ) → is_real (node_at sight.nodes n).kind ≡ false
      → None ≡ descriptor_at_node sight all (node_at sight.nodes n)
  duplicate_descriptor n e = ap (λ b. cond b (descriptor (path_at sight.nodes n)) None) (sym e)

  real_descriptor : (n : ℕ) → IsReal sight.nodes n
      → descriptor_at_node sight all (node_at sight.nodes n) ≡ descriptor (path_at sight.nodes n)
  real_descriptor n r = ap (λ b. cond b (descriptor (path_at sight.nodes n)) None) r.real

  pub root_descriptor : IsReal sight.nodes 0 → None ≡ descriptor_at_node sight all (node_at sight.nodes 0)
  root_descriptor r =
      sym (real_descriptor 0 r
      ∙ ap (λ (node : Node). descriptor node.path) s.node_data.whole.at_root
      ∙ descriptor_is_letter sight.rules sight.graph sight.positions all (sight.root ∷ []))

  letter_by : (vertex next : ℕ) (up : List ℕ) (descriptors : List ℕ → Option Descriptor)
      → length (vertex ∷ next ∷ up) ≤ length sight.graph.vertices
      → node_letter sight.rules sight.graph sight.positions all (vertex ∷ next ∷ up) descriptors
      ≡ first_letter sight.rules sight.graph sight.positions all vertex (next ∷ up) descriptors
  letter_by vertex next up descriptors few =
      let found = first_letter sight.rules sight.graph sight.positions all vertex (next ∷ up) descriptors in
      ap (λ b. elim b as (λ _. Option Descriptor) [ true ↦ found | false ↦ None ])
      (le-leb (length (vertex ∷ next ∷ up)) (length sight.graph.vertices) few)

  -- at another real node it is the first letter, by what is strictly inside
  pub record IsLetter (n : ℕ) : Type 0 where
    pub vertex : ℕ
    pub up : List ℕ
    pub path : path_at sight.nodes n ≡ vertex ∷ up
    pub descriptor : descriptor_at_node sight all (node_at sight.nodes n)
        ≡ first_letter sight.rules sight.graph sight.positions all vertex up
        (inside (auxiliary sight.rules sight.graph sight.positions all) (path_at sight.nodes n))

  pub letter_of : (n : ℕ) → 0 < n → IsReal sight.nodes n → IsLetter n
  letter_of n some r =
      let parent = slice_index (parents_of sight.node_data) n in
      let vertex = (node_at sight.nodes n).vertex in
      let inner = inside descriptor (path_at sight.nodes n) in
      let split =
      split_two (path_at sight.nodes parent) (some_path sight s parent (parent_real sight s n some r.within)) in
      let path : path_at sight.nodes n ≡ vertex ∷ split.0 ∷ split.1.0 =
      path_is sight s n some r ∙ ap (λ up. vertex ∷ up) split.1.1 in
      record {
        vertex = vertex;
        up = split.0 ∷ split.1.0;
        path = path;
        descriptor = real_descriptor n r
            ∙ descriptor_is_letter sight.rules sight.graph sight.positions all (path_at sight.nodes n)
            ∙ ap (λ p. node_letter sight.rules sight.graph sight.positions all p inner) path
            ∙ letter_by vertex (split.0) (split.1.0) inner
            (subst (λ p. length p ≤ length sight.graph.vertices) path (short sight s n r));
      }

pub inner_is : (inner : InnerContext) → Shows inner.sight → (all : List units.Unit) (letter : Option Descriptor)
    → 0 < inner.from
    → IsReal inner.sight.nodes inner.from → AreInner inner all → IsFirstLetter inner inner.from all letter
    → letter ≡ descriptor_at_node inner.sight all (node_at inner.sight.nodes inner.from)
inner_is inner s all letter some r are first =
    let is = letter_of inner.sight s all inner.from some r in
    first.each
    (inside (auxiliary inner.sight.rules inner.sight.graph inner.sight.positions all)
    (path_at inner.sight.nodes inner.from))
    is.vertex is.up (agrees inner s r all are) is.path
    ∙ sym is.descriptor

-- with all nodes requested and described the list is the one of their descriptors
pub all_described : (sight : DigraphView) (all : List units.Unit) (requested : List Bool) (descriptors : List (Option Descriptor))
    → ((k : ℕ) → k < length sight.nodes → flag_at requested k ≡ true)
    → HaveDescriptors sight all requested 0 descriptors → descriptors ≡ map (descriptor_at_node sight all) sight.nodes
all_described sight all requested descriptors each m =
    let len = m.len in
    ext_get_or None descriptors (map (descriptor_at_node sight all) sight.nodes)
    (len ∙ sym (length-map sight.nodes (descriptor_at_node sight all)))
    (λ i lt.
    m.each i (omega arith) (omega arith)
    ∙ ap (λ b. cond b (descriptor_at_node sight all (node_at sight.nodes i)) None) (each i (omega arith))
    ∙ sym (get_or-map (descriptor_at_node sight all) sight.nodes i (real_at []) None (omega arith)))

-- one node more, from the last one on
pub one_more : (sight : DigraphView) (all : List units.Unit) (requested : List Bool) (n : ℕ) (descriptors : List (Option Descriptor))
    (descriptor : Option Descriptor) → n < length sight.nodes
    → descriptor ≡ cond (flag_at requested n) (descriptor_at_node sight all (node_at sight.nodes n)) None
    → HaveDescriptors sight all requested (n + 1) descriptors → HaveDescriptors sight all requested n (slice_set descriptors n descriptor)
one_more sight all requested n descriptors descriptor lt e m = record {
  len = length-set descriptors n descriptor ∙ m.len;
  each = λ k from within. elim (cases_eq k n) [
    | inl same ↦
        let len = m.len in
        ap (λ j. slice_index_or (slice_set descriptors n descriptor) j None) same
        ∙ get_or-set_same descriptors n descriptor None (omega arith) ∙ e
        ∙ ap (λ j. cond (flag_at requested j) (descriptor_at_node sight all (node_at sight.nodes j)) None) (sym same)
    | inr other ↦
        get_or-set_other descriptors n k descriptor None other ∙ m.each k (omega (arith, other)) within
  ];
}

pub none_yet : (sight : DigraphView) (all : List units.Unit) (requested : List Bool) (count : ℕ) → count ≡ length sight.nodes
    → HaveDescriptors sight all requested (count - 0) (replicate count None)
none_yet sight all requested count e = record {
  len = length-replicate count None ∙ e;
  each = λ k from within. absurd (omega arith);
}

-- below a node that is requested
pub inner_described : (inner : InnerContext) → Shows inner.sight → (all : List units.Unit) (requested : List Bool)
    → AreWanted (parents_of inner.sight.node_data) requested → flag_at requested inner.from ≡ true
    → HaveDescriptors inner.sight all requested (inner.from + 1) inner.descriptors → AreInner inner all
inner_described inner s all requested are here m = record {
  len = m.len;
  each = λ k low below.
      let later = behind inner.sight s inner.from k low below in
      m.each k (omega (arith, later)) low
      ∙ ap (λ b. cond b (descriptor_at_node inner.sight all (node_at inner.sight.nodes k)) None)
      (wanted_below inner.sight s requested are inner.from here k low below);
}

-- the vertex of a real node, and none of another one
pub atom_real : (node_data : NodeData) (vertex : ℕ) → atom_told node_data ≡ Some vertex
    → (is_real node_data.kind ≡ true) × (node_data.vertex ≡ vertex)
atom_real node_data vertex e = by (is_real node_data.kind) refl e
  where
    by : (b : Bool) → is_real node_data.kind ≡ b → cond b (Some node_data.vertex) None ≡ Some vertex
        → (is_real node_data.kind ≡ true) × (node_data.vertex ≡ vertex)
    by true h k = let same : node_data.vertex ≡ vertex = cc in (h, same)
    by false h k = let bad : None ≡ Some vertex = k in cc

pub ok_by : {T E : Type 0} (P Q : T → Type 0) (result : Result T E) → ((value : T) → P value → Q value) → IfOk result P
    → IfOk result Q
ok_by P Q (Ok value) f p = f value p
ok_by P Q (Err cause) f p = tt

-- what is known of an atom
pub atom_stands : (sight : DigraphView) → Shows sight → (n vertex : ℕ) → n < length sight.nodes
    → atom_told (told_at sight.node_data n) ≡ Some vertex
    → IsReal sight.nodes n × (vertex ≡ (node_at sight.nodes n).vertex)
atom_stands sight s n vertex lt e =
    let atom = atom_real (told_at sight.node_data n) vertex e in
    let of = s.node_data.each n lt in
    (record { within = lt; real = ap is_real (sym of.kind) ∙ atom.0 }, sym atom.1 ∙ of.vertex)

pub some_number : (n : ℕ) → (n ≡ 0 → ⊥) → 0 < n
some_number zero h = absurd (h refl)
some_number (suc n) h = omega arith

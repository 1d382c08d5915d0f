-- What is known of the children of a node is what they are.
use Rattle.std.proofs.Common.{◌≡◌, ◌<◌, ◌+◌, ◌-◌, ◌*◌, ◌==◌, ◌&&◌, ◌||◌, ℕ, zero, suc, Bool, true, false, cond, List}
use Rattle.std.proofs.Common.{[], ◌∷◌, ◌++◌, map, length, None, Some, unwrap_or, refl, sym, ap, ◌∙◌, subst, arith, inl}
use Rattle.std.proofs.Common.{inr, length-append, append_assoc, replicate}
use Rattle.std.specs.declared.option.Option.{Option}
use Rattle.std.specs.List.{fold, flat_map}
use Rattle.std.proofs.Math.Seq.{get_or-append_seam}
use Rattle.std.proofs.lemmas.Bool.{cases_lt}
use Rattle.std.proofs.lemmas.List.{map-append, append-nil, get_or_append_left, length-map}
use Rattle.cip_digraph.specs.declared.drawing.graph.Edge.{Edge}
use Rattle.cip_digraph.specs.declared.nodes.NodeKind.{NodeKind}
use Rattle.cip_digraph.specs.declared.nodes.NodeKind.TheVariants.{Real, Closure, Multiple, Delocalised}
use Rattle.cip_digraph.specs.declared.nodes.NodeData.{NodeData}
use Rattle.cip_digraph.specs.rings.Alternating.{is_in}
use Rattle.cip_digraph.specs.digraph.Digraph.{Node, real_node, duplicate, begins_with, neighbour_child, bond_children}
use Rattle.cip_digraph.specs.digraph.Digraph.{edge_children, real_children, path_children, children}
use Rattle.cip_digraph.specs.graph.Graph.{Graph, edges_at, other_end, vertex_at}
use Rattle.cip_digraph.specs.rules.Keys.{path_from, counterpart}
use Rattle.cip_digraph.specs.digraph.NodeList.{nothing_told, told_at}
use Rattle.cip_digraph.specs.rings.Positions.{is_delocalised, mean_key}
use Rattle.cip_digraph.specs.digraph.Telling.{StandsAt, Stands, IsCounterpart, TellsOf}
use Rattle.cip_digraph.specs.digraph.View.{real_at}
use Rattle.cip_digraph.proofs.lemmas.numbered.Linked.{placed_at, ChildBy, HangsIn, at_left, at_end, hangs_more, linked_push}
use Rattle.cip_digraph.proofs.lemmas.numbered.Placing.{Placed, nodes_of}
use Rattle.cip_arena.specs.Making.{real_vertex, real_told, closure_told, neighbour_told, duplicate_told, with_neighbour}
use Rattle.cip_arena.specs.Making.{with_edge, children_at, with_children}
use Rattle.cip_arena.specs.Walk.{walk, is_above}
use Rattle.cip_arena.proofs.lemmas.Added.{told_left}
use Rattle.cip_arena.proofs.lemmas.Ups.{TellsPlaced, FoundBy, path_above, node_of, real_path, told_vertex, told_near}
use Rattle.cip_arena.proofs.lemmas.Ups.{told_stands, walk_is, parent_is}

abbrev pub below : ℕ → Node → Placed
below i c = record { parent = i; node = c }

stands_at_more : (xs ys : List Node) (way : List ℕ) (c : ℕ) → StandsAt xs way c → StandsAt (xs ++ ys) way c
stands_at_more xs ys way c h = record {
  within = let lt = h.within in omega (arith, lt, length-append xs ys);
  node = get_or_append_left xs ys (real_at []) c h.within ∙ h.node;
}

nodes_append : (ns qs : List Placed) → nodes_of (ns ++ qs) ≡ nodes_of ns ++ nodes_of qs
nodes_append ns qs = map-append (λ (p : Placed). p.node) ns qs

stands_more : (ns qs : List Placed) (way : List ℕ) (c : Option ℕ) → Stands (nodes_of ns) way c
    → Stands (nodes_of (ns ++ qs)) way c
stands_more ns qs way None h = h
stands_more ns qs way (Some c) h = subst (λ xs. StandsAt xs way c) (sym (nodes_append ns qs))
    (stands_at_more (nodes_of ns) (nodes_of qs) way c h)

counterpart_by : (ns qs : List Placed) (kind : NodeKind) (path : List ℕ) (vertex : ℕ) (c : Option ℕ)
    → IsCounterpart (nodes_of ns) (record { kind = kind; path = path; vertex = vertex }) c
    → IsCounterpart (nodes_of (ns ++ qs)) (record { kind = kind; path = path; vertex = vertex }) c
counterpart_by ns qs Real path vertex c h = h
counterpart_by ns qs Closure path vertex c h = stands_more ns qs (counterpart (duplicate Closure vertex path)) c h
counterpart_by ns qs Multiple path vertex c h = stands_more ns qs (counterpart (duplicate Multiple vertex path)) c h
counterpart_by ns qs Delocalised path vertex c h = h

begins_in : (v w : ℕ) (up : List ℕ) → begins_with w up ≡ true → is_in w (v ∷ up) ≡ false → ⊥
begins_in v w [] b n = let bad : false ≡ true = b in cc
begins_in v w (u ∷ us) b n =
    let rest : (v == w) || (true || is_in w us) ≡ false = ap (λ t. (v == w) || (t || is_in w us)) (sym b) ∙ n in
    no_true (v == w) rest
  where
    no_true : (x : Bool) → x || true ≡ false → ⊥
    no_true true h = let bad : true ≡ false = h in cc
    no_true false h = let bad : true ≡ false = h in cc

map_copies : (i n : ℕ) (d : Node) → map (below i) (replicate n d) ≡ replicate n (below i d)
map_copies i zero d = refl
map_copies i (suc n) d = ap (λ xs. below i d ∷ xs) (map_copies i n d)

module _ (g : Graph) (positions : List (List ℕ)) (root : ℕ) where
  abbrev T : List Placed → List NodeData → Type 0
  T ns ts = TellsPlaced g positions root ns ts

  abbrev Of : List Placed → Node → NodeData → Type 0
  Of ns n t = TellsOf g positions (nodes_of ns) n t

  of_more : (ns qs : List Placed) (n : Node) (t : NodeData) → Of ns n t → Of (ns ++ qs) n t
  of_more ns qs n t h = record {
    kind = h.kind;
    vertex = h.vertex;
    counterpart = counterpart_by ns qs n.kind n.path n.vertex t.counterpart h.counterpart;
    atomic = h.atomic;
    mass = h.mass;
    as_printed = h.as_printed;
    as_corrected = h.as_corrected;
  }

  tells_push : (ns : List Placed) (ts : List NodeData) (p : Placed) (t : NodeData) → T ns ts → HangsIn ns p
      → t.parent ≡ p.parent → Of (ns ++ p ∷ []) p.node t
      → T (ns ++ p ∷ []) (ts ++ t ∷ [])
  tells_push ns ts p t all h up of =
      let more : length (ns ++ p ∷ []) ≡ length ns + 1 = length-append ns (p ∷ []) in
      let more_told : length (ts ++ t ∷ []) ≡ length ts + 1 = length-append ts (t ∷ []) in
      let len = all.len in
      let end : told_at (ts ++ t ∷ []) (length ns) ≡ t = ap (told_at (ts ++ t ∷ [])) (sym len)
      ∙ get_or-append_seam ts t [] nothing_told in
      record {
        linked = linked_push root ns p all.linked h;
        len = omega (arith, more, more_told, len);
        parents = λ k lt. elim (cases_lt k (length ns)) [
          | inl old ↦ ap (λ (u : NodeData). u.parent) (told_left ts (t ∷ []) k (omega (arith, old, len)))
              ∙ all.parents k old ∙ sym (ap (λ (q : Placed). q.parent) (at_left ns (p ∷ []) k old))
          | inr new ↦
              let here : length ns ≡ k = omega (arith, lt, more) in
              subst (λ j. (told_at (ts ++ t ∷ []) j).parent ≡ (placed_at (ns ++ p ∷ []) j).parent) here
              (ap (λ (u : NodeData). u.parent) end ∙ up ∙ sym (ap (λ (q : Placed). q.parent) (at_end ns p)))
        ];
        each = λ k lt. elim (cases_lt k (length ns)) [
          | inl old ↦
              subst (λ (q : Placed). Of (ns ++ p ∷ []) q.node (told_at (ts ++ t ∷ []) k))
              (sym (at_left ns (p ∷ []) k old))
              (subst (λ (u : NodeData). Of (ns ++ p ∷ []) (placed_at ns k).node u)
              (sym (told_left ts (t ∷ []) k (omega (arith, old, len))))
              (of_more ns (p ∷ []) (placed_at ns k).node (told_at ts k) (all.each k old)))
          | inr new ↦
              let here : length ns ≡ k = omega (arith, lt, more) in
              subst (λ j. Of (ns ++ p ∷ []) (placed_at (ns ++ p ∷ []) j).node (told_at (ts ++ t ∷ []) j)) here
              (subst (λ (q : Placed). Of (ns ++ p ∷ []) q.node (told_at (ts ++ t ∷ []) (length ns))) (sym (at_end ns p))
              (subst (λ (u : NodeData). Of (ns ++ p ∷ []) p.node u) (sym end) of))
        ];
      }

  copies_tell : (n : ℕ) (ns : List Placed) (ts : List NodeData) (p : Placed) (t : NodeData) → T ns ts → HangsIn ns p
      → t.parent ≡ p.parent → Of ns p.node t
      → T (ns ++ replicate n p) (ts ++ replicate n t)
  copies_tell zero ns ts p t all h up of = subst (λ us. T (ns ++ []) us) (sym (append-nil ts))
      (subst (λ ms. T ms ts) (sym (append-nil ns)) all)
  copies_tell (suc n) ns ts p t all h up of =
      subst (λ us. T (ns ++ p ∷ replicate n p) us) (append_assoc ts (t ∷ []) (replicate n t))
      (subst (λ ms. T ms ((ts ++ t ∷ []) ++ replicate n t)) (append_assoc ns (p ∷ []) (replicate n p))
      (copies_tell n (ns ++ p ∷ []) (ts ++ t ∷ []) p t (tells_push ns ts p t all h up (of_more ns (p ∷ []) p.node t of))
      (hangs_more ns (p ∷ []) p h) up (of_more ns (p ∷ []) p.node t of)))

  -- a real node of a path
  record At (ns : List Placed) (i v : ℕ) (up : List ℕ) : Type 0 where
    low : i < length ns
    kind : (placed_at ns i).node.kind ≡ Real
    way : (placed_at ns i).node.path ≡ v ∷ up

  at_more : (ns qs : List Placed) (i v : ℕ) (up : List ℕ) → At ns i v up → At (ns ++ qs) i v up
  at_more ns qs i v up a = record {
    low = let low = a.low in omega (arith, low, length-append ns qs);
    kind = ap (λ (p : Placed). p.node.kind) (at_left ns qs i a.low) ∙ a.kind;
    way = ap (λ (p : Placed). p.node.path) (at_left ns qs i a.low) ∙ a.way;
  }

  hangs : (ns : List Placed) (i v : ℕ) (up : List ℕ) (c : Node) → At ns i v up → ChildBy c.kind (v ∷ up) c.path c.vertex
      → HangsIn ns (below i c)
  hangs ns i v up c a k = record {
    earlier = a.low;
    hung = record {
      above = a.kind;
      child = subst
          (λ up. ChildBy c.kind up c.path c.vertex) (sym a.way) k;
    };
  }

  near_at : (ns : List Placed) (ts : List NodeData) (i v : ℕ) (up : List ℕ) → T ns ts → At ns i v up
      → (told_at ts i).as_printed ≡ length (v ∷ up) - 1
  near_at ns ts i v up all a = told_near g positions root ns ts all i a.low a.kind ∙ ap (λ path. length path - 1) a.way

  module _ (i v : ℕ) (up : List ℕ) (w : ℕ) where
    abbrev Way : List ℕ
    Way = counterpart (duplicate Multiple w (v ∷ up))

    neighbour_by : (ns : List Placed) (ts : List NodeData) → T ns ts → At ns i v up → (b c : Bool) (r : Option ℕ)
        → begins_with w up ≡ b → is_in w (v ∷ up) ≡ c
        → FoundBy ns c (path_from w (v ∷ up)) r
        → T (ns ++ map (below i) (cond b [] (cond c (duplicate Closure w (v ∷ up) ∷ []) (real_node w (v ∷ up) ∷ []))))
        (ts ++ cond b [] (neighbour_told g ts i w r ∷ []))
        × Stands (nodes_of (ns ++ map (below i)
        (cond b [] (cond c (duplicate Closure w (v ∷ up) ∷ []) (real_node w (v ∷ up) ∷ [])))))
        (cond c (path_from w (v ∷ up)) (w ∷ v ∷ up)) (Some (unwrap_or r (length ts)))
    neighbour_by ns ts all a true false r begins isin found = absurd (begins_in v w up begins isin)
    neighbour_by ns ts all a true true None begins isin found = absurd found
    neighbour_by ns ts all a true true (Some at) begins isin found = (
      subst (λ us. T (ns ++ []) us) (sym (append-nil ts)) (subst (λ ms. T ms ts) (sym (append-nil ns)) all),
      stands_more ns [] (path_from w (v ∷ up)) (Some at) found,
    )
    neighbour_by ns ts all a false true None begins isin found = absurd found
    neighbour_by ns ts all a false true (Some at) begins isin found =
        let p = below i (duplicate Closure w (v ∷ up)) in
        let nearer : (told_at ts at).as_printed ≡ length (path_from w (v ∷ up)) - 1 = told_stands g positions root ns ts
        all at (path_from w (v ∷ up)) found in
        let far : (told_at ts at).as_printed ≡ length (cond (is_in w (v ∷ up)) (path_from w (v ∷ up)) (w ∷ v ∷ up))
        - 1 = subst (λ c. (told_at ts at).as_printed ≡ length (cond c (path_from w (v ∷ up)) (w ∷ v ∷ up)) - 1)
        (sym isin) nearer in
        let stands = stands_more ns (p ∷ []) (path_from w (v ∷ up)) (Some at) found in (
          tells_push ns ts p (closure_told g ts i w at) all (hangs ns i v up (duplicate Closure w (v ∷ up)) a
              (refl, isin)) refl
              (record {
                kind = refl;
                vertex = refl;
                counterpart = subst (λ c. Stands (nodes_of (ns ++ p ∷ [])) (cond c (path_from w (v ∷ up)) (w ∷ v ∷ up))
                    (Some at)) (sym isin) stands;
                atomic = refl;
                mass = refl;
                as_printed = far;
                as_corrected = far;
              }),
          stands,
        )
    neighbour_by ns ts all a false false (Some at) begins isin found = let bad : Some at ≡ None = found in cc
    neighbour_by ns ts all a false false None begins isin found =
        let p = below i (real_node w (v ∷ up)) in
        let here = near_at ns ts i v up all a in
        let nearer : (told_at ts i).as_printed + 1 ≡ length (w ∷ v ∷ up) - 1 = omega (arith, here) in
        let lt : length ts < length (ns ++ p ∷ []) = omega (arith, all.len, length-append ns (p ∷ [])) in
        let end : placed_at (ns ++ p ∷ []) (length ts) ≡ p = ap (placed_at (ns ++ p ∷ [])) all.len ∙ at_end ns p in (
          tells_push ns ts p (real_told g ts i w) all (hangs ns i v up (real_node w (v ∷ up)) a (refl, isin)) refl
              (record {
                kind = refl;
                vertex = refl;
                counterpart = refl;
                atomic = refl;
                mass = refl;
                as_printed = nearer;
                as_corrected = nearer;
              }),
          record {
            within = omega (arith, lt, length-map (ns ++ p ∷ []) (λ (p : Placed). p.node));
            node = node_of (ns ++ p ∷ []) (length ts) lt ∙ ap (λ (p : Placed). p.node) end;
          },
        )

    above_is : (ns : List Placed) (ts : List NodeData) → T ns ts → At ns i v up → path_above ns i ≡ up
    above_is ns ts all a = tail_is (sym (real_path g positions root ns ts all i a.low a.kind) ∙ a.way)
      where
        tail_is : {x y : ℕ} {xs ys : List ℕ} → x ∷ xs ≡ y ∷ ys → xs ≡ ys
        tail_is h = cc

    neighbour_tells : (ns : List Placed) (ts : List NodeData) → T ns ts → At ns i v up
        → T (ns ++ map (below i) (neighbour_child v up w)) (with_neighbour g ts i w)
        × Stands (nodes_of (ns ++ map (below i) (neighbour_child v up w))) Way
        (Some (unwrap_or (walk ts i w) (length ts)))
    neighbour_tells ns ts all a =
        let found : FoundBy ns (is_in w (v ∷ up)) (path_from w (v ∷ up)) (walk ts i w) =
        subst (λ path. FoundBy ns (is_in w path) (path_from w path) (walk ts i w)) a.way (walk_is g positions root ns ts
        all w (suc i) i (omega arith) a.low a.kind) in
        let both = neighbour_by ns ts all a (begins_with w up) (is_in w (v ∷ up)) (walk ts i w) refl refl found in
        let parent : is_above ts i w ≡ begins_with w up = parent_is g positions root ns ts all w i a.low
        ∙ ap (begins_with w) (above_is ns ts all a) in (
          subst (λ b. T (ns ++ map (below i) (neighbour_child v up w))
              (ts ++ cond b [] (neighbour_told g ts i w (walk ts i w) ∷ []))) (sym parent) both.0,
          both.1,
        )

    duplicate_of : (ns : List Placed) (ts : List NodeData) → T ns ts → At ns i v up → (stands : ℕ) → Stands (nodes_of ns)
        Way (Some stands) → (b : Bool)
        → Of ns (cond b (duplicate Delocalised v (v ∷ up)) (duplicate Multiple w (v ∷ up)))
        (cond b
        (record {
          parent = i;
          kind = Delocalised;
          vertex = v;
          counterpart = None;
          atomic = mean_key g positions v;
          mass = 0;
          as_printed = (told_at ts i).as_printed;
          as_corrected = (told_at ts i).as_printed;
        })
        (record {
          parent = i;
          kind = Multiple;
          vertex = w;
          counterpart = Some stands;
          atomic = 6 * (vertex_at g w).z;
          mass = 0;
          as_printed = (told_at ts stands).as_printed;
          as_corrected = (told_at ts i).as_printed;
        }))
    duplicate_of ns ts all a stands s true =
        let nearer = near_at ns ts i v up all a in
        record {
          kind = refl;
          vertex = refl;
          counterpart = refl;
          atomic = refl;
          mass = refl;
          as_printed = nearer;
          as_corrected = nearer;
        }
    duplicate_of ns ts all a stands s false =
        record {
          kind = refl;
          vertex = refl;
          counterpart = s;
          atomic = refl;
          mass = refl;
          as_printed = told_stands g positions root ns ts all stands Way s;
          as_corrected = near_at ns ts i v up all a;
        }

    parent_by : (b : Bool) (stands : ℕ) (ts : List NodeData)
        → (cond {A = NodeData} b
        (record {
          parent = i;
          kind = Delocalised;
          vertex = v;
          counterpart = None;
          atomic = mean_key g positions v;
          mass = 0;
          as_printed = (told_at ts i).as_printed;
          as_corrected = (told_at ts i).as_printed;
        })
        (record {
          parent = i;
          kind = Multiple;
          vertex = w;
          counterpart = Some stands;
          atomic = 6 * (vertex_at g w).z;
          mass = 0;
          as_printed = (told_at ts stands).as_printed;
          as_corrected = (told_at ts i).as_printed;
        })).parent
        ≡ i
    parent_by true stands ts = refl
    parent_by false stands ts = refl

    dup_kind : (b : Bool) → ChildBy (cond b (duplicate Delocalised v (v ∷ up)) (duplicate Multiple w (v ∷ up))).kind
        (v ∷ up)
        (cond b (duplicate Delocalised v (v ∷ up)) (duplicate Multiple w (v ∷ up))).path
        (cond b (duplicate Delocalised v (v ∷ up)) (duplicate Multiple w (v ∷ up))).vertex
    dup_kind true = (refl, refl)
    dup_kind false = (refl, refl)

    duplicates_by : (ns : List Placed) (ts : List NodeData) → T ns ts → At ns i v up → (stands order : ℕ)
        → Stands (nodes_of ns) Way (Some stands) → (counted : Bool)
        → T (ns ++ map (below i) (cond counted (replicate (order - 1) (cond ((order == 2) && is_delocalised positions v)
        (duplicate Delocalised v (v ∷ up)) (duplicate Multiple w (v ∷ up)))) []))
        (ts ++ cond counted (replicate (order - 1) (duplicate_told g positions ts i v w stands order)) [])
    duplicates_by ns ts all a stands order s false = subst (λ us. T (ns ++ []) us) (sym (append-nil ts))
        (subst (λ ms. T ms ts) (sym (append-nil ns)) all)
    duplicates_by ns ts all a stands order s true =
        let b = (order == 2) && is_delocalised positions v in
        let d = cond b (duplicate Delocalised v (v ∷ up)) (duplicate Multiple w (v ∷ up)) in
        subst (λ ps. T (ns ++ ps) (ts ++ replicate (order - 1) (duplicate_told g positions ts i v w stands order)))
        (sym (map_copies i (order - 1) d))
        (copies_tell (order - 1) ns ts (below i d) (duplicate_told g positions ts i v w stands order) all
        (hangs ns i v up d a (dup_kind b)) (parent_by b stands ts) (duplicate_of ns ts all a stands s b))

  edge_tells : (i v : ℕ) (up : List ℕ) (ns : List Placed) (ts : List NodeData) (e : Edge) → T ns ts → At ns i v up
      → T (ns ++ map (below i) (edge_children positions v up e)) (with_edge g positions i v ts e)
  edge_tells i v up ns ts e all a =
      let w = other_end v e in
      let nearer = map (below i) (neighbour_child v up w) in
      let first = neighbour_tells i v up w ns ts all a in
      let more = duplicates_by i v up w (ns ++ nearer) (with_neighbour g ts i w) first.0 (at_more ns nearer i v up a)
      (unwrap_or (walk ts i w) (length ts)) e.order first.1 e.counted in
      subst (λ ps. T ps (with_edge g positions i v ts e))
      (append_assoc ns nearer (map (below i) (bond_children positions e v up)) ∙ ap (λ ps. ns ++ ps)
      (sym (map-append (below i) (neighbour_child v up w) (bond_children positions e v up))))
      more

  edges_tell : (i v : ℕ) (up : List ℕ) (es : List Edge) (ns : List Placed) (ts : List NodeData) → T ns ts → At ns i v up
      → T (ns ++ map (below i) (flat_map (edge_children positions v up) es)) (fold (with_edge g positions i v) ts es)
  edges_tell i v up [] ns ts all a = subst (λ ms. T ms ts) (sym (append-nil ns)) all
  edges_tell i v up (e ∷ es) ns ts all a =
      let here = map (below i) (edge_children positions v up e) in
      subst (λ ps. T ps (fold (with_edge g positions i v) ts (e ∷ es)))
      (append_assoc ns here (map (below i) (flat_map (edge_children positions v up) es))
      ∙ ap (λ ps. ns ++ ps) (sym (map-append (below i) (edge_children positions v up e)
      (flat_map (edge_children positions v up) es))))
      (edges_tell i v up es (ns ++ here) (with_edge g positions i v ts e) (edge_tells i v up ns ts e all a)
      (at_more ns here i v up a))

  real_tells : (i v : ℕ) (up : List ℕ) (ns : List Placed) (ts : List NodeData) → T ns ts → At ns i v up
      → T (ns ++ map (below i) (real_children g positions v up)) (children_at g positions ts i (Some v))
  unfolding real_children
  real_tells i v up ns ts all a = edges_tell i v up (edges_at g v) ns ts all a

  none_tells : (i : ℕ) (ns : List Placed) (ts : List NodeData) → T ns ts → T (ns ++ map (below i) [])
      (children_at g positions ts i None)
  none_tells i ns ts all = subst (λ ms. T ms ts) (sym (append-nil ns)) all

  kind_tells : (i : ℕ) (ns : List Placed) (ts : List NodeData) → T ns ts → i < length ns → (k : NodeKind)
      → (placed_at ns i).node.kind ≡ k
      → T (ns ++ map (below i) (children g positions (record {
        kind = k;
        path = (placed_at ns i).node.path;
        vertex = (placed_at ns i).node.vertex;
      })))
      (children_at g positions ts i (real_vertex (record (told_at ts i) { kind = k })))
  kind_tells i ns ts all lt Real e =
      let n = (placed_at ns i).node in
      let v = n.vertex in
      let up = path_above ns i in
      let way = real_path g positions root ns ts all i lt e in
      subst (λ path. T (ns ++ map (below i) (path_children g positions path)) (children_at g positions ts i
      (Some (told_at ts i).vertex))) (sym way)
      (subst (λ o. T (ns ++ map (below i) (real_children g positions v up)) (children_at g positions ts i (Some o)))
      (sym (told_vertex g positions root ns ts all i lt))
      (real_tells i v up ns ts all (record { low = lt; kind = e; way = way })))
  kind_tells i ns ts all lt Closure e = none_tells i ns ts all
  kind_tells i ns ts all lt Multiple e = none_tells i ns ts all
  kind_tells i ns ts all lt Delocalised e = none_tells i ns ts all

  pub node_tells : (i : ℕ) (ns : List Placed) (ts : List NodeData) → T ns ts → i < length ns
      → T (ns ++ map (below i) (children g positions (placed_at ns i).node)) (with_children g positions ts i)
  node_tells i ns ts all lt =
      subst (λ k. T (ns ++ map (below i) (children g positions (placed_at ns i).node)) (children_at g positions ts i
      (real_vertex (record (told_at ts i) { kind = k })))) (sym (all.each i lt).kind)
      (kind_tells i ns ts all lt (placed_at ns i).node.kind refl)

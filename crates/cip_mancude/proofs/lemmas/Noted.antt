-- Partners that are noted at the ends of counted bonds are all that there are.
use Rattle.std.proofs.Common.{◌≡◌, ◌≢◌, ◌<◌, ◌≤◌, ◌+◌, ℕ, Bool, true, false, cond, ◌&&◌, ◌||◌, Some, None, List, [], ◌∷◌, get_or, length, replicate, take, refl, sym, ap, ◌∙◌, subst, inl, inr}
use Rattle.std.specs.Prelude.{filter, nat_le}
use Rattle.std.specs.List.{AllByRecursion, list_any}
use Rattle.std.specs.declared.option.Option.{Option}
use Rattle.std.proofs.lemmas.Bool.{and_from, and_left, and_right, cases_eq, or_parts, or_right}
use Rattle.std.proofs.lemmas.List.{get_or-replicate, get_or-set_other, get_or-set_same, length-replicate, length-set, take_all}
use Rattle.std.proofs.lemmas.List.Folds.{list_any_more}
use Rattle.std.proofs.Math.Bool.{or-false}
use Rattle.cip_digraph.specs.declared.drawing.graph.Edge.{Edge}
use Rattle.cip_digraph.specs.graph.Graph.{Graph, edges_at, touches}
use Rattle.cip_digraph.specs.graph.SoundGraphs.{IsSound, JoinsBelow}
use Rattle.cip_digraph.specs.rings.Alternating.{counted_at, is_one_double, partner_by}
use Rattle.cip_digraph.proofs.lemmas.rows.Joined.{touches_none}
use Rattle.cip_digraph.proofs.lemmas.bonds.Neighbours.{sorted_all}
use Rattle.cip_digraph.proofs.lemmas.rows.Rooms.{touches_a, touches_b}
use Rattle.cip_mancude.specs.Partners.{alternating_partner, ArePartners, ArePartnersBy, counts_at, with_partner, with_partners}

-- a vertex at which no edge is counted has no partner

abbrev IsUncounted : Edge → Type 0
IsUncounted edge = edge.counted ≡ false

uncounted : (vertex : ℕ) (edges : List Edge) → list_any (counts_at vertex) edges ≡ false
    → AllByRecursion IsUncounted (filter (touches vertex) edges)
uncounted vertex [] e = tt
uncounted vertex (edge ∷ edges) e =
    let p = or_parts (counts_at vertex edge) (list_any (counts_at vertex) edges) e in
    by (touches vertex edge) p.0 (uncounted vertex edges p.1)
  where
    by : (b : Bool) → (b && edge.counted) ≡ false → AllByRecursion IsUncounted (filter (touches vertex) edges)
        → AllByRecursion IsUncounted (cond b (edge ∷ filter (touches vertex) edges) (filter (touches vertex) edges))
    by true f all = (f, all)
    by false f all = all

none_kept : (edges : List Edge) → AllByRecursion IsUncounted edges → filter (λ edge. edge.counted) edges ≡ []
none_kept [] all = refl
none_kept (edge ∷ edges) all = rw (all.0) (none_kept edges all.1)

pub no_partner : (graph : Graph) (vertex : ℕ) → list_any (counts_at vertex) graph.edges ≡ false
    → ◌≡◌ {A = Option ℕ} (alternating_partner graph vertex) None
no_partner graph vertex e =
    let none : counted_at graph vertex ≡ [] =
    none_kept (edges_at graph vertex)
    (sorted_all IsUncounted vertex (filter (touches vertex) graph.edges) (uncounted vertex graph.edges e)) in
    ap (λ edges. cond (is_one_double edges && nat_le (length (edges_at graph vertex)) 3)
    (Some (partner_by vertex edges)) None) none

pub none_noted : (graph : Graph) → ArePartnersBy graph [] (replicate (length graph.vertices) None)
none_noted graph = record {
  len = length-replicate (length graph.vertices) None;
  each = λ vertex within d. get_or-replicate (length graph.vertices) vertex None d within;
}

-- one more edge
module _ (graph : Graph) (k : ℕ) (e : Edge) (partners : List (Option ℕ)) (sound : IsSound graph)
    (lt : k < length graph.edges) (are : ArePartnersBy graph (take k graph.edges) partners) where
  abbrev edge : Edge
  edge = get_or graph.edges k e

  abbrev half : List (Option ℕ)
  half = with_partner graph edge.a partners

  joins : JoinsBelow (length graph.vertices) edge
  joins = sound.edges k e lt

  abbrev value : ℕ → Option ℕ
  value vertex = cond (list_any (counts_at vertex) (take (k + 1) graph.edges)) (alternating_partner graph vertex) None

  stays : (vertex : ℕ) → counts_at vertex edge ≡ false → (d : Option ℕ) → vertex < length graph.vertices
      → get_or partners vertex d ≡ value vertex
  stays vertex aside d within =
      are.each vertex within d
      ∙ ap (λ b. cond b (alternating_partner graph vertex) None)
      (sym (list_any_more (counts_at vertex) graph.edges k e lt
      ∙ ap (λ b. list_any (counts_at vertex) (take k graph.edges) || b) aside
      ∙ or-false (list_any (counts_at vertex) (take k graph.edges))))

  comes : (vertex : ℕ) → counts_at vertex edge ≡ true → alternating_partner graph vertex ≡ value vertex
  comes vertex here =
      ap (λ b. cond b (alternating_partner graph vertex) None)
      (sym (list_any_more (counts_at vertex) graph.edges k e lt
      ∙ or_right (list_any (counts_at vertex) (take k graph.edges)) (counts_at vertex edge) here))

  module _ (counted : edge.counted ≡ true) where
    at_b : (d : Option ℕ) → get_or (with_partner graph edge.b half) edge.b d ≡ value edge.b
    at_b d =
        get_or-set_same half edge.b (alternating_partner graph edge.b) d
        (rw (length-set partners edge.a (alternating_partner graph edge.a), are.len) joins.b)
        ∙ comes edge.b (and_from (touches edge.b edge) edge.counted (touches_b edge) counted)

    at_a : (d : Option ℕ) → get_or (with_partner graph edge.b half) edge.a d ≡ value edge.a
    at_a d =
        get_or-set_other half edge.b edge.a (alternating_partner graph edge.b) d joins.differ
        ∙ get_or-set_same partners edge.a (alternating_partner graph edge.a) d (rw are.len joins.a)
        ∙ comes edge.a (and_from (touches edge.a edge) edge.counted (touches_a edge) counted)

    at_none : (vertex : ℕ) → vertex ≢ edge.a → vertex ≢ edge.b → (d : Option ℕ) → vertex < length graph.vertices
        → get_or (with_partner graph edge.b half) vertex d ≡ value vertex
    at_none vertex not_a not_b d within =
        get_or-set_other half edge.b vertex (alternating_partner graph edge.b) d not_b
        ∙ get_or-set_other partners edge.a vertex (alternating_partner graph edge.a) d not_a
        ∙ stays vertex (and_left (touches vertex edge) edge.counted (touches_none vertex edge not_a not_b)) d within

    both_noted : ArePartnersBy graph (take (k + 1) graph.edges) (with_partner graph edge.b half)
    both_noted = record {
      len = length-set half edge.b (alternating_partner graph edge.b)
          ∙ length-set partners edge.a (alternating_partner graph edge.a) ∙ are.len;
      each = λ vertex within d. elim (cases_eq vertex edge.b) [
        | inl same ↦ subst (λ v. get_or (with_partner graph edge.b half) v d ≡ value v) (sym same) (at_b d)
        | inr not_b ↦ elim (cases_eq vertex edge.a) [
          | inl same ↦ subst (λ v. get_or (with_partner graph edge.b half) v d ≡ value v) (sym same) (at_a d)
          | inr not_a ↦ at_none vertex not_a not_b d within
        ]
      ];
    }

  noted_by : (b : Bool) → edge.counted ≡ b
      → ArePartnersBy graph (take (k + 1) graph.edges) (cond b (with_partner graph edge.b half) partners)
  noted_by true counted = both_noted counted
  noted_by false counted = record {
    len = are.len;
    each = λ vertex within d.
        stays vertex (and_right (touches vertex edge) edge.counted counted) d within;
  }

  pub noted_next : ArePartnersBy graph (take (k + 1) graph.edges) (with_partners graph edge partners)
  noted_next = noted_by edge.counted refl

pub all_noted : (graph : Graph) (k : ℕ) (partners : List (Option ℕ)) → length graph.edges ≤ k
    → ArePartnersBy graph (take k graph.edges) partners → ArePartners graph partners
all_noted graph k partners past are = record {
  each = λ vertex within d.
      are.each vertex (rw are.len at within) d
      ∙ ap (λ edges. cond (list_any (counts_at vertex) edges) (alternating_partner graph vertex) None)
      (take_all k graph.edges past)
      ∙ by vertex (list_any (counts_at vertex) graph.edges) refl;
}
  where
    by : (vertex : ℕ) (b : Bool) → list_any (counts_at vertex) graph.edges ≡ b
        → ◌≡◌ {A = Option ℕ} (cond b (alternating_partner graph vertex) None) (alternating_partner graph vertex)
    by vertex true e = refl
    by vertex false e = sym (no_partner graph vertex e)

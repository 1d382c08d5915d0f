-- A chain between two ends meets no atom twice, so it has no more atoms than there are vertices.
use Rattle.std.proofs.Common.{◌≡◌, ◌≢◌, ◌<◌, ◌≤◌, inl, inr, ℕ, List, [], ◌∷◌, length, filter, refl, sym, ap, subst, ◌∙◌, Bool, true, false, not, ◌==◌, eqb-true, arith}
use Rattle.std.specs.Prelude.{eqb}
use Rattle.std.specs.List.{AllByRecursion, AllPairs, IsDistinct}
use Rattle.std.proofs.lemmas.Bool.Decides.{Decides-eqb}
use Rattle.std.proofs.lemmas.Map.Made.{IsDistinct-from_AllPairs}
use Rattle.std.proofs.lemmas.Map.Steps.{length-le_from_distinct_below}
use Rattle.std.proofs.lemmas.Bool.{not_from_false, true≢false}
use Rattle.cip_digraph.specs.graph.Graph.{Graph, edges_at, other_end}
use Rattle.cip_digraph.specs.graph.SoundGraphs.{IsSound}
use Rattle.cip_digraph.specs.units.Allenes.{doubles, is_axis_end}
use Rattle.cip_digraph.proofs.lemmas.tree.Ended.{leads_below, member_below}
use Rattle.cip_digraph.proofs.lemmas.lists.Elements.{Pairwise, all_filtered, all_mapped, pairs_from_pairwise}
use Rattle.cip_axis.specs.Cumulenes.{last_atom}
use Rattle.cip_symmetry.specs.Images.{Among}
use Rattle.cip_symmetry.proofs.lemmas.lists.Among.{among_all, among_filter}
use Rattle.cip_laws.specs.CumuleneLaws.{IsInner, AreInner, IsCumulene}
use Rattle.cip_laws.proofs.lemmas.further.CarriedChains.{no_middle}
use Rattle.cip_laws.proofs.lemmas.further.CarriedFurther.{three_of}
use Rattle.cip_laws.proofs.lemmas.further.InnerAtoms.{other_kept, two_doubles}
use Rattle.cip_laws.proofs.lemmas.further.TurnedLists.{last_from, last_is}

none_is : (x : ℕ) (ys : List ℕ) → (Among x ys → ⊥) → AllByRecursion (λ y. x ≢ y) ys
none_is x [] none = tt
none_is x (y ∷ ys) none = ((λ e. none (inl e)), none_is x ys (λ h. none (inr h)))

-- of two different ones of a pair each is there
one_of : (u v x : ℕ) (ds : List ℕ) → length ds ≡ 2 → Among u ds → Among v ds → u ≢ v → Among x ds
    → Among x (u ∷ v ∷ [])
one_of u v x ds two h k differ j = by (x == u) refl
  where
    by : (b : Bool) → (x == u) ≡ b → Among x (u ∷ v ∷ [])
    by true e = inl (eqb-true x u e)
    by false e =
        inr (subst (Among x) (other_kept u v ds two h k differ)
        (among_filter (λ o. not (o == u)) x ds j (not_from_false (x == u) e)))

between : (x b v w : ℕ) (tail : List ℕ) → Among x (b ∷ w ∷ []) → Among x (b ∷ v ∷ w ∷ tail)
between x b v w tail (inl e) = inl e
between x b v w tail (inr (inl e)) = inr (inr (inl e))
between x b v w tail (inr (inr bad)) = absurd bad

module _ (graph : Graph) (sound : IsSound graph) where
  abbrev IsEnd : ℕ → Type 0
  IsEnd vertex = length (edges_at graph vertex) ≡ 3

  not_inner : (before at behind : ℕ) → IsInner graph before at behind → IsEnd at → ⊥
  not_inner before at behind i end = true≢false (sym i.middle ∙ no_middle graph sound at end)

  -- where a chain meets an inner atom, it meets both neighbours of it
  met : (before at behind : ℕ) → IsInner graph before at behind → (b v : ℕ) (tail : List ℕ) → AreInner graph b v tail
      → IsEnd (last_from v tail) → Among at (v ∷ tail)
      → Among before (b ∷ v ∷ tail)
  met before at behind i b v [] inner end (inl e) = absurd (not_inner before at behind i (subst IsEnd (sym e) end))
  met before at behind i b v [] inner end (inr bad) = absurd bad
  met before at behind i b v (w ∷ tail) inner end (inl e) =
      let there : Among before (doubles graph v) = subst (λ u. Among before (doubles graph u)) e i.back in
      between before b v w tail
      (one_of b w before (doubles graph v) (two_doubles graph b v w inner.0) inner.0.back inner.0.on inner.0.differ
      there)
  met before at behind i b v (w ∷ tail) inner end (inr h) = inr (met before at behind i v w tail inner.1 end h)

  -- so one that never comes back to the atom before meets none twice
  apart : (before at : ℕ) (more : List ℕ) → AreInner graph before at more → IsEnd (last_from at more)
      → (Among before (at ∷ more) → ⊥) → Pairwise ◌≢◌ (at ∷ more)
  apart before at [] inner end none = (tt, tt)
  apart before at (behind ∷ more) inner end none =
      let never : Among at (behind ∷ more) → ⊥ =
      λ h. none (met before at behind inner.0 at behind more inner.1 end h) in
      (none_is at (behind ∷ more) never, apart at behind more inner.1 end never)

  -- and to its first it doesn't, which is an end and not the last
  first_apart : (a before at : ℕ) (more : List ℕ) → AreInner graph before at more → IsEnd a → a ≢ last_from at more
      → Among a (at ∷ more) → ⊥
  first_apart a before at [] inner end differ (inl e) = differ e
  first_apart a before at [] inner end differ (inr bad) = bad
  first_apart a before at (behind ∷ more) inner end differ (inl e) =
      not_inner before at behind inner.0 (subst IsEnd e end)
  first_apart a before at (behind ∷ more) inner end differ (inr h) =
      first_apart a at behind more inner.1 end differ h

  abbrev IsVertex : ℕ → Type 0
  IsVertex vertex = vertex < length graph.vertices

  doubles_within : (at next : ℕ) → IsVertex at → Among next (doubles graph at) → IsVertex next
  doubles_within at next lt h =
      among_all IsVertex next (doubles graph at)
      (all_mapped IsVertex (other_end at) (filter (λ edge. edge.order == 2) (edges_at graph at))
      (all_filtered (λ edge. IsVertex (other_end at edge)) (λ edge. edge.order == 2) (edges_at graph at)
      (leads_below graph sound at lt)))
      h

  all_within : (before at : ℕ) (more : List ℕ) → AreInner graph before at more → IsVertex at
      → AllByRecursion IsVertex (at ∷ more)
  all_within before at [] inner lt = (lt, tt)
  all_within before at (behind ∷ more) inner lt =
      (lt, all_within at behind more inner.1 (doubles_within at behind lt inner.0.on))

  module _ (chain : List ℕ) (c : IsCumulene graph chain) where
    last_same : last_atom chain ≡ last_from c.next c.more
    last_same = ap last_atom c.atoms ∙ last_is c.a (c.next ∷ c.more)

    end_of : (v : ℕ) → is_axis_end graph chain v ≡ true → IsEnd v
    end_of v e = eqb-true (length (edges_at graph v)) 3 (three_of graph chain v e)

    pub last_ends : IsEnd (last_from c.next c.more)
    last_ends = subst IsEnd last_same (end_of (last_atom chain) c.last)

    first_differs : c.a ≢ last_from c.next c.more
    first_differs same = let lower = c.lower in let e : c.a ≡ last_atom chain = same ∙ sym last_same in
        absurd (omega (arith, lower, e))

    pairs_apart : Pairwise ◌≢◌ (c.a ∷ c.next ∷ c.more)
    pairs_apart =
        let never = first_apart c.a c.a c.next c.more c.inner (end_of c.a c.first) first_differs in
        (none_is c.a (c.next ∷ c.more) never, apart c.a c.next c.more c.inner last_ends never)

    atoms_differ : AllPairs ◌≢◌ (c.a ∷ c.next ∷ c.more)
    atoms_differ = pairs_from_pairwise ◌≢◌ (c.a ∷ c.next ∷ c.more) pairs_apart

    pub chain_differs : AllPairs ◌≢◌ chain
    chain_differs = subst (AllPairs ◌≢◌) (sym c.atoms) atoms_differ

    pub chain_short : length chain ≤ length graph.vertices
    chain_short =
        let some = sound.drawn in
        let drawn = c.drawn in
        let lt : IsVertex c.a = omega (arith, some, drawn) in
        let all : AllByRecursion IsVertex (c.a ∷ c.next ∷ c.more) =
        (lt, all_within c.a c.next c.more c.inner (doubles_within c.a c.next lt c.joined)) in
        let once : IsDistinct eqb (c.a ∷ c.next ∷ c.more) =
        IsDistinct-from_AllPairs Decides-eqb (c.a ∷ c.next ∷ c.more) atoms_differ in
        subst (λ atoms. length atoms ≤ length graph.vertices) (sym c.atoms)
        (length-le_from_distinct_below (c.a ∷ c.next ∷ c.more) (length graph.vertices) once
        (member_below (length graph.vertices) (c.a ∷ c.next ∷ c.more) all))

-- The chains that are listed are those of cumulated double bonds.
use Rattle.std.proofs.Common.{◌≡◌, ◌≢◌, ◌<◌, ◌-◌, ℕ, zero, suc, List, [], ◌∷◌, ◌++◌, length, filter, flat_map, map, refl, sym, ap, subst, ◌∙◌, Bool, true, false, cond, ◌==◌, ◌&&◌, lt-ltb, ltb-true, nat_lt, arith}
use Rattle.std.specs.List.{range_with_len}
use Rattle.std.proofs.lemmas.Bool.{leb-true, le-leb, and_parts, and_from, not_from_false, not-true}
use Rattle.std.proofs.lemmas.List.{map-append}
use Rattle.cip_mol.specs.Drawing.{Drawing}
use Rattle.cip_digraph.specs.graph.Graph.{Graph, edges_at}
use Rattle.cip_digraph.specs.graph.SoundGraphs.{IsSound}
use Rattle.cip_digraph.proofs.lemmas.lists.Elements.{pairs_from_pairwise}
use Rattle.cip_digraph.specs.units.Allenes.{doubles, is_axis_end}
use Rattle.cip_axis.specs.Cumulenes.{first_atom, last_atom, onward, continues_chain, next_atom, chain_from, chain_over, chains, is_cumulene}
use Rattle.cip_axis.specs.Further.{cumulene_unit, cumulenes_of}
use Rattle.cip_symmetry.specs.Images.{Among}
use Rattle.cip_symmetry.proofs.lemmas.lists.Among.{among_filter, among_flat, among_map, among_range, from_filter, from_flat, from_map, from_range}
use Rattle.cip_laws.proofs.lemmas.units.CarriedAxes.{double_back}
use Rattle.cip_laws.specs.CumuleneLaws.{AreInner, IsCumulene, chains_in, ChainsAreListed}
use Rattle.cip_laws.proofs.lemmas.further.CarriedChains.{no_middle}
use Rattle.cip_laws.proofs.lemmas.further.CarriedFurther.{in_if, three_of}
use Rattle.cip_laws.proofs.lemmas.further.ChainsOnce.{chains_differ}
use Rattle.cip_laws.proofs.lemmas.further.InnerAtoms.{inner_leads, leads_inner}
use Rattle.cip_laws.proofs.lemmas.further.ShortChains.{chain_differs, chain_short, last_ends}
use Rattle.cip_laws.proofs.lemmas.further.TurnedLists.{last_from}

module _ (graph : Graph) (sound : IsSound graph) where
  -- a chain of inner atoms is followed to its end
  follows : (fuel before at : ℕ) (more : List ℕ) → AreInner graph before at more
      → length (edges_at graph (last_from at more)) ≡ 3 → length more < fuel
      → chain_from graph fuel before at ≡ at ∷ more
  follows zero before at more i three lt = absurd (omega (arith, lt))
  follows (suc fuel) before at [] i three lt =
      ap (λ b. at ∷ cond (b && (length (onward graph before at) == 1))
      (chain_from graph fuel at (next_atom graph before at)) [])
      (no_middle graph sound at three)
  follows (suc fuel) before at (behind ∷ more) i three lt =
      let l = inner_leads graph before at behind i.0 in
      ap (λ b. at ∷ cond b (chain_from graph fuel at (next_atom graph before at)) []) l.0
      ∙ ap (λ v. at ∷ chain_from graph fuel at v) l.1
      ∙ ap (λ vs. at ∷ vs) (follows fuel at behind more i.1 three (omega (arith, lt)))

  -- and what is followed are inner atoms
  record Followed (fuel before at : ℕ) : Type 0 where
    more : List ℕ
    is : chain_from graph (suc fuel) before at ≡ at ∷ more
    inner : AreInner graph before at more

  followed : (fuel before at : ℕ) → Among before (doubles graph at) → Followed fuel before at
  followed zero before at h = by (continues_chain graph before at) refl
    where
      by : (b : Bool) → continues_chain graph before at ≡ b → Followed zero before at
      by true e = record { more = []; is = ap (λ b. at ∷ cond b [] []) e; inner = tt }
      by false e = record { more = []; is = ap (λ b. at ∷ cond b [] []) e; inner = tt }
  followed (suc fuel) before at h = by (continues_chain graph before at) refl (followed fuel at)
    where
      by : (b : Bool) → continues_chain graph before at ≡ b
          → ((x : ℕ) → Among at (doubles graph x) → Followed fuel at x) → Followed (suc fuel) before at
      by true e rest =
          let next = next_atom graph before at in
          let i = leads_inner graph before at h e in
          let later = rest next (double_back graph sound at next i.on) in
          record {
            more = next ∷ later.more;
            is = ap (λ b. at ∷ cond b (chain_from graph (suc fuel) at next) []) e ∙ ap (λ vs. at ∷ vs) later.is;
            inner = (i, later.inner);
          }
      by false e rest = record {
        more = [];
        is = ap (λ b. at ∷ cond b (chain_from graph (suc fuel) at (next_atom graph before at)) []) e;
        inner = tt;
      }

  over_is : (chain : List ℕ) (c : IsCumulene graph chain) → chain_over graph c.a c.next ≡ chain
  over_is chain c =
      let few = chain_short graph sound chain c in
      let long : length chain ≡ suc (suc (length c.more)) = ap length c.atoms in
      ap (λ vs. c.a ∷ vs)
      (follows (length graph.vertices) c.a c.next c.more c.inner (last_ends graph sound chain c)
      (omega (arith, few, long)))
      ∙ sym c.atoms

  -- each is tried and passes
  listed : (chain : List ℕ) → IsCumulene graph chain → Among chain (chains_in graph)
  listed chain c =
      let begins : first_atom chain ≡ c.a = ap first_atom c.atoms in
      let lower : nat_lt (first_atom chain) (last_atom chain) ≡ true =
      ap (λ v. nat_lt v (last_atom chain)) begins ∙ lt-ltb c.a (last_atom chain) c.lower in
      let first : is_axis_end graph chain (first_atom chain) ≡ true = ap (is_axis_end graph chain) begins ∙ c.first in
      let test : is_cumulene graph chain ≡ true =
      and_from _ _ (and_from _ _ (and_from _ _ (and_from _ _ (le-leb 4 (length chain) c.long) lower) first) c.last)
      (not_from_false _ c.free) in
      let tried : Among chain (map (chain_over graph c.a) (doubles graph c.a)) =
      subst (λ vs. Among vs (map (chain_over graph c.a) (doubles graph c.a))) (over_is chain c)
      (among_map (chain_over graph c.a) c.next (doubles graph c.a) c.joined) in
      let there : Among chain (chains graph c.a) =
      subst (λ b. Among chain (cond b (map (chain_over graph c.a) (doubles graph c.a)) []))
      (sym (three_of graph chain c.a c.first)) tried in
      let drawn = c.drawn in
      among_flat (λ a. filter (is_cumulene graph) (chains graph a)) c.a chain (range_with_len 0 graph.drawn)
      (among_range 0 graph.drawn c.a (omega arith) (omega (arith, drawn)))
      (among_filter (is_cumulene graph) chain (chains graph c.a) there test)

  chain_is : (a next : ℕ) → Among next (doubles graph a) → a < graph.drawn
      → is_cumulene graph (chain_over graph a next) ≡ true → IsCumulene graph (chain_over graph a next)
  chain_is a next nearer drawn test =
      let count = length graph.vertices in
      let some = sound.drawn in
      let fuel : suc (count - 1) ≡ count = omega (arith, some, drawn) in
      let way = followed (count - 1) a next (double_back graph sound a next nearer) in
      let all4 = and_parts _ _ test in
      let all3 = and_parts _ _ all4.0 in
      let all2 = and_parts _ _ all3.0 in
      let all1 = and_parts _ _ all2.0 in
      record {
        a = a;
        next = next;
        more = way.more;
        atoms = ap (λ vs. a ∷ vs) (ap (λ n. chain_from graph n a next) (sym fuel) ∙ way.is);
        joined = nearer;
        inner = way.inner;
        long = leb-true 4 (length (chain_over graph a next)) all1.0;
        drawn = drawn;
        lower = ltb-true a (last_atom (chain_over graph a next)) all1.1;
        first = all2.1;
        last = all3.1;
        free = not-true _ all4.1;
      }

  -- and what passes is one
  found : (chain : List ℕ) → Among chain (chains_in graph) → IsCumulene graph chain
  found chain h =
      let at = from_flat (λ a. filter (is_cumulene graph) (chains graph a)) chain (range_with_len 0 graph.drawn) h in
      let kept = from_filter (is_cumulene graph) chain (chains graph at.0) at.2 in
      let over = from_map (chain_over graph at.0) chain (doubles graph at.0)
      (in_if (length (edges_at graph at.0) == 3) chain (map (chain_over graph at.0) (doubles graph at.0)) kept.0) in
      let lt = (from_range 0 graph.drawn at.0 at.1).1 in
      subst (IsCumulene graph) (sym over.2)
      (chain_is at.0 over.0 over.1 (omega (arith, lt)) (subst (λ vs. is_cumulene graph vs ≡ true) over.2 kept.1))

units_along : (drawing : Drawing) (graph : Graph) (atoms : List ℕ)
    → flat_map (cumulenes_of drawing graph) atoms
    ≡ map (cumulene_unit drawing graph) (flat_map (λ a. filter (is_cumulene graph) (chains graph a)) atoms)
units_along drawing graph [] = refl
units_along drawing graph (a ∷ atoms) =
    ap (λ us. cumulenes_of drawing graph a ++ us) (units_along drawing graph atoms)
    ∙ sym (map-append (cumulene_unit drawing graph) (filter (is_cumulene graph) (chains graph a))
    (flat_map (λ a. filter (is_cumulene graph) (chains graph a)) atoms))

pub chains_are_listed : ChainsAreListed
chains_are_listed drawing graph sound = record {
  units = units_along drawing graph (range_with_len 0 graph.drawn);
  each = listed graph sound;
  only = found graph sound;
  different = chain_differs graph sound;
  once = pairs_from_pairwise ◌≢◌ (chains_in graph) (chains_differ graph sound);
}

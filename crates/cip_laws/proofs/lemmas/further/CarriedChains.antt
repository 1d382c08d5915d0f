-- Chains of double bonds of a renamed graph, and from their other end.
use Rattle.std.proofs.Common.{◌≡◌, ◌≤◌, ◌+◌, ◌-◌, ℕ, zero, suc, List, [], ◌∷◌, map, length, refl, sym, ap, subst, ◌∙◌, Bool, true, false, not, cond, ◌==◌, ◌&&◌, eqb-true, arith}
use Rattle.std.specs.Prelude.{slice_index_or}
use Rattle.std.specs.List.Sorted.{IsPermutation}
use Rattle.std.proofs.lemmas.List.{length-map}
use Rattle.cip_digraph.specs.graph.Graph.{Graph, edges_at, vertex_at}
use Rattle.cip_digraph.specs.graph.SoundGraphs.{IsSound}
use Rattle.cip_digraph.specs.units.Allenes.{doubles, is_allene_middle}
use Rattle.cip_axis.specs.Cumulenes.{onward, continues_chain, next_atom, chain_from, chain_over}
use Rattle.cip_axis.proofs.lemmas.Drawn.{if_short}
use Rattle.cip_symmetry.specs.Images.{Among}
use Rattle.cip_symmetry.proofs.lemmas.lists.Arranged.{filter_arranged}
use Rattle.cip_laws.proofs.lemmas.units.CarriedAxes.{double_back, doubles_moved, middle_carried}
use Rattle.cip_laws.proofs.lemmas.units.CarriedSites.{moved_long}
use Rattle.cip_symmetry.proofs.lemmas.lists.CarriedLists.{filter_carried, same_eq}
use Rattle.cip_symmetry.specs.Renamed.{IsRenamed}
use Rattle.cip_symmetry.proofs.lemmas.graph.SingleLigands.{single}
use Rattle.std.proofs.lemmas.Bool.{and_parts}
use Rattle.cip_laws.proofs.lemmas.further.InnerAtoms.{inner_leads, leads_inner}
use Rattle.cip_laws.proofs.lemmas.further.TurnedLists.{long_onto, onto}

module _ (graph other : Graph) (image : ℕ → ℕ) (r : IsRenamed graph other image) where
  onward_moved : (before at : ℕ)
      → IsPermutation (map image (onward graph before at)) (onward other (image before) (image at))
  onward_moved before at =
      subst (λ vs. IsPermutation vs (onward other (image before) (image at)))
      (filter_carried image (λ to. not (to == before)) (λ to. not (to == image before))
      (λ to. ap not (same_eq image r.injective to before)) (doubles graph at))
      (filter_arranged (λ to. not (to == image before)) (map image (doubles graph at)) (doubles other (image at))
      (doubles_moved graph other image r at))

  onward_long : (before at : ℕ)
      → length (onward other (image before) (image at)) ≡ length (onward graph before at)
  onward_long before at = moved_long image (onward graph before at) _ (onward_moved before at)

  leads_carried : (before at : ℕ) → continues_chain other (image before) (image at) ≡ continues_chain graph before at
  leads_carried before at = rw (middle_carried graph other image r at, onward_long before at)

  first_image : (vs : List ℕ) (d : ℕ) → slice_index_or (map image vs) 0 (image d) ≡ image (slice_index_or vs 0 d)
  first_image [] d = refl
  first_image (v ∷ vs) d = refl

  next_carried : (before at : ℕ) → continues_chain graph before at ≡ true
      → next_atom other (image before) (image at) ≡ image (next_atom graph before at)
  next_carried before at e =
      let one : length (onward graph before at) ≡ 1 =
      eqb-true (length (onward graph before at)) 1 (and_parts (is_allene_middle graph at) _ e).1 in
      let few : length (map image (onward graph before at)) ≤ 1 =
      (let long = length-map (onward graph before at) image in omega (arith, one, long)) in
      sym
      (ap (λ vs. slice_index_or vs 0 (image at))
      (single (map image (onward graph before at)) (onward other (image before) (image at)) (onward_moved before at)
      few))
      ∙ first_image (onward graph before at) at

  pub from_carried : (more before at : ℕ)
      → chain_from other more (image before) (image at) ≡ map image (chain_from graph more before at)
  from_carried zero before at = refl
  from_carried (suc more) before at =
      ap (λ vs. image at ∷ vs) (by (continues_chain graph before at) refl (from_carried more))
    where
      by : (b : Bool) → continues_chain graph before at ≡ b
          → ((x y : ℕ) → chain_from other more (image x) (image y) ≡ map image (chain_from graph more x y))
          → cond (continues_chain other (image before) (image at))
          (chain_from other more (image at) (next_atom other (image before) (image at))) []
          ≡ map image (cond (continues_chain graph before at) (chain_from graph more at (next_atom graph before at)) [])
      by true e rest =
          let f = leads_carried before at ∙ e in
          rw (f, e, next_carried before at e) (rest at (next_atom graph before at))
      by false e rest = let f = leads_carried before at ∙ e in rw (f, e)

  pub over_carried : (a next : ℕ) → chain_over other (image a) (image next) ≡ map image (chain_over graph a next)
  over_carried a next =
      ap (λ n. image a ∷ chain_from other n (image a) (image next)) r.count
      ∙ ap (λ vs. image a ∷ vs) (from_carried (length graph.vertices) a next)

-- a chain that is followed back, from its last atom
pub record IsTurned (graph : Graph) (whole : List ℕ) : Type 0 where
  pub last : ℕ
  pub prev : ℕ
  pub rest : List ℕ
  pub is : whole ≡ last ∷ prev ∷ rest
  pub nearer : Among prev (doubles graph last)
  pub chain : (j : ℕ) → chain_from graph (suc (length rest) + j) last prev ≡ prev ∷ rest

module _ (graph : Graph) (sound : IsSound graph) where
  record LeadsBack (before at : ℕ) : Type 0 where
    leads : continues_chain graph (next_atom graph before at) at ≡ true
    next : next_atom graph (next_atom graph before at) at ≡ before
    nearer : Among at (doubles graph (next_atom graph before at))

  leads_back : (before at : ℕ) → Among before (doubles graph at) → continues_chain graph before at ≡ true
      → LeadsBack before at
  leads_back before at h e =
      let i = leads_inner graph before at h e in
      let l =
      inner_leads graph (next_atom graph before at) at before
      (record { middle = i.middle; back = i.on; on = i.back; differ = λ same. i.differ (sym same) }) in
      record { leads = l.0; next = l.1; nearer = double_back graph sound at (next_atom graph before at) i.on }

  abbrev Back : ℕ → ℕ → List ℕ → Type 0
  Back before at acc = (j : ℕ) → chain_from graph (suc (length acc) + j) at before ≡ before ∷ acc

  here : (before at : ℕ) (acc : List ℕ) → Among before (doubles graph at) → Back before at acc
      → IsTurned graph (at ∷ before ∷ acc)
  here before at acc h back =
      record { last = at; prev = before; rest = acc; is = refl; nearer = h; chain = back }

  further_back : (before at : ℕ) (acc : List ℕ) → continues_chain graph before at ≡ true → LeadsBack before at
      → Back before at acc
      → Back at (next_atom graph before at) (before ∷ acc)
  further_back before at acc e l back j =
      let n = next_atom graph before at in
      let sum : suc (suc (length acc)) + j ≡ suc (suc (length acc) + j) = omega arith in
      ap (λ k. chain_from graph k n at) sum
      ∙ ap (λ b. at ∷ cond b (chain_from graph (suc (length acc) + j) at (next_atom graph n at)) []) l.leads
      ∙ ap (λ v. at ∷ chain_from graph (suc (length acc) + j) at v) l.next
      ∙ ap (λ vs. at ∷ vs) (back j)

  turned : (more before at : ℕ) (acc : List ℕ) → Among before (doubles graph at) → Back before at acc
      → IsTurned graph (onto (chain_from graph (suc more) before at) (before ∷ acc))
  turned zero before at acc h back = by (continues_chain graph before at)
    where
      by : (b : Bool) → IsTurned graph (onto (at ∷ cond b [] []) (before ∷ acc))
      by true = here before at acc h back
      by false = here before at acc h back
  turned (suc more) before at acc h back =
      by (continues_chain graph before at) refl (λ x y bcc k b. turned more x y bcc k b)
    where
      by : (b : Bool) → continues_chain graph before at ≡ b
          → ((x y : ℕ) (bcc : List ℕ) → Among x (doubles graph y) → Back x y bcc
          → IsTurned graph (onto (chain_from graph (suc more) x y) (x ∷ bcc)))
          → IsTurned graph
          (onto (at ∷ cond b (chain_from graph (suc more) at (next_atom graph before at)) []) (before ∷ acc))
      by false e rest = here before at acc h back
      by true e rest =
          let l = leads_back before at h e in
          rest at (next_atom graph before at) (before ∷ acc) l.nearer (further_back before at acc e l back)

  pub from_short : (more before at : ℕ) → length (chain_from graph more before at) ≤ more
  from_short zero before at = omega arith
  from_short (suc more) before at =
      let le = if_short (continues_chain graph before at) (chain_from graph more at (next_atom graph before at)) more
      (from_short more at (next_atom graph before at)) in
      omega (arith, le)

  -- from an atom with three bonds
  pub no_middle : (a : ℕ) → length (edges_at graph a) ≡ 3 → is_allene_middle graph a ≡ false
  no_middle a three =
      rw three (by ((vertex_at graph a).z == 6))
    where
      by : (b : Bool) → (b && false && (length (doubles graph a) == 2)) ≡ false
      by true = refl
      by false = refl

  pub record IsTurnedOver (a next : ℕ) : Type 0 where
    pub last : ℕ
    pub prev : ℕ
    pub nearer : Among prev (doubles graph last)
    pub is : chain_over graph last prev ≡ onto (chain_from graph (length graph.vertices) a next) (a ∷ [])

  pub over_turned : (a next : ℕ) → length (edges_at graph a) ≡ 3 → Among next (doubles graph a)
      → 1 ≤ length graph.vertices → IsTurnedOver a next
  over_turned a next three h some =
      let count = length graph.vertices in
      let fuel : suc (count - 1) ≡ count = omega (arith, some) in
      let stop : Back a next [] =
      (λ j.
      let sum : 1 + j ≡ suc j = omega arith in
      ap (λ k. chain_from graph k next a) sum
      ∙ ap
      (λ b. a ∷ cond (b && (length (onward graph next a) == 1)) (chain_from graph j a (next_atom graph next a)) [])
      (no_middle a three)) in
      let t : IsTurned graph (onto (chain_from graph count a next) (a ∷ [])) =
      subst (λ n. IsTurned graph (onto (chain_from graph n a next) (a ∷ []))) fuel
      (turned (count - 1) a next [] (double_back graph sound a next h) stop) in
      let long : length (onto (chain_from graph count a next) (a ∷ [])) ≡ suc (suc (length t.rest)) = ap length t.is in
      let sum = long_onto (chain_from graph count a next) (a ∷ []) in
      let short = from_short count a next in
      let all : suc (length t.rest) + (count - suc (length t.rest)) ≡ count = omega (arith, long, sum, short) in
      record {
        last = t.last;
        prev = t.prev;
        nearer = t.nearer;
        is = ap (λ n. t.last ∷ chain_from graph n t.last t.prev) (sym all)
            ∙ ap (λ vs. t.last ∷ vs) (t.chain (count - suc (length t.rest))) ∙ sym t.is;
      }

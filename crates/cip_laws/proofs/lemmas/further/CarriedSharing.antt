-- Atoms of a renamed graph share an alternating ring where those of the graph do.
use Rattle.std.proofs.Common.{◌≡◌, ℕ, zero, suc, List, [], ◌∷◌, map, refl, sym, ap, ◌∙◌, Bool, true, false, cond, ◌==◌, ◌&&◌, ◌||◌}
use Rattle.std.specs.List.{list_any}
use Rattle.std.proofs.lemmas.List.Sorted.{list_any-IsPermutation}
use Rattle.cip_digraph.specs.graph.Graph.{Graph}
use Rattle.cip_digraph.specs.rings.Alternating.{is_in, is_alternating, partner, singles, goes_on}
use Rattle.cip_mancude.specs.SharedRings.{reaches_by, ring_meets, share_alternating_ring}
use Rattle.cip_symmetry.proofs.lemmas.lists.CarriedLists.{any_carried, same_eq, in_carried}
use Rattle.cip_symmetry.specs.Renamed.{IsRenamed}
use Rattle.cip_symmetry.proofs.lemmas.graph.CarriedPositions.{alternating_carried, partner_carried, singles_moved, goes_carried, goes_alternating}

module _ (graph other : Graph) (image : ℕ → ℕ) (r : IsRenamed graph other image) where
  abbrev onward : Graph → ℕ → ℕ → ℕ → List ℕ → ℕ → Bool
  onward g third target more path next =
      cond (goes_on g path next) (reaches_by g third target more (partner g next ∷ next ∷ path) (partner g next)) false

  onward_by : (third target more : ℕ)
      → ((path : List ℕ) (at : ℕ)
      → reaches_by other (image third) (image target) more (map image path) (image at)
      ≡ reaches_by graph third target more path at)
      → (path : List ℕ) (next : ℕ) (b : Bool) → goes_on graph path next ≡ b
      → onward other (image third) (image target) more (map image path) (image next)
      ≡ onward graph third target more path next
  onward_by third target more rest path next false e =
      let f = goes_carried graph other image r path next ∙ e in rw (f, e)
  onward_by third target more rest path next true e =
      let f = goes_carried graph other image r path next ∙ e in
      rw (f, e, partner_carried graph other image r next (goes_alternating graph other image r path next e))
      (rest (partner graph next ∷ next ∷ path) (partner graph next))

  ends_carried : (third target at : ℕ) (path : List ℕ)
      → ((image at == image target) && is_in (image third) (map image path)) ≡ ((at == target) && is_in third path)
  ends_carried third target at path =
      rw (same_eq image r.injective at target, in_carried image r.injective third path)

  reaches_carried : (third target more : ℕ) (path : List ℕ) (at : ℕ)
      → reaches_by other (image third) (image target) more (map image path) (image at)
      ≡ reaches_by graph third target more path at
  reaches_carried third target zero path at = ends_carried third target at path
  reaches_carried third target (suc more) path at =
      ap
      (λ b. b || list_any (onward other (image third) (image target) more (map image path)) (singles other (image at)))
      (ends_carried third target at path)
      ∙ ap (λ b. ((at == target) && is_in third path) || b)
      (sym
      (list_any-IsPermutation (onward other (image third) (image target) more (map image path))
      (map image (singles graph at)) (singles other (image at)) (singles_moved graph other image r at))
      ∙ any_carried image (onward graph third target more path)
      (onward other (image third) (image target) more (map image path))
      (λ next. onward_by third target more (reaches_carried third target more) path next (goes_on graph path next) refl)
      (singles graph at))

  meets_carried : (third vertex to : ℕ) → is_alternating graph vertex ≡ true
      → ring_meets other 11 (image third) (image vertex) (image to) ≡ ring_meets graph 11 third vertex to
  meets_carried third vertex to e =
      let next = partner graph vertex in
      rw (
        partner_carried graph other image r vertex e,
        alternating_carried graph other image r to,
        same_eq image r.injective to next,
        reaches_carried third to 11 (next ∷ vertex ∷ []) next,
      )

  abbrev share_by : Bool → Graph → ℕ → ℕ → ℕ → Bool
  share_by first g vertex third next =
      first && is_alternating g next && list_any (ring_meets g 11 third vertex) (singles g vertex)

  shared_by : (vertex third : ℕ) (b : Bool) → is_alternating graph vertex ≡ b
      → share_alternating_ring other (image vertex) (image third) ≡ share_alternating_ring graph vertex third
  unfolding share_alternating_ring
  shared_by vertex third false e =
      ap (λ b. share_by b other (image vertex) (image third) (partner other (image vertex)))
      (alternating_carried graph other image r vertex ∙ e)
      ∙ sym (ap (λ b. share_by b graph vertex third (partner graph vertex)) e)
  shared_by vertex third true e =
      ap
      (λ v. is_alternating other (image vertex) && is_alternating other v
      && list_any (ring_meets other 11 (image third) (image vertex)) (singles other (image vertex)))
      (partner_carried graph other image r vertex e)
      ∙ ap
      (λ b. b && is_alternating other (image (partner graph vertex))
      && list_any (ring_meets other 11 (image third) (image vertex)) (singles other (image vertex)))
      (alternating_carried graph other image r vertex)
      ∙ ap
      (λ b. is_alternating graph vertex && b
      && list_any (ring_meets other 11 (image third) (image vertex)) (singles other (image vertex)))
      (alternating_carried graph other image r (partner graph vertex))
      ∙ ap (λ b. is_alternating graph vertex && is_alternating graph (partner graph vertex) && b)
      (sym
      (list_any-IsPermutation (ring_meets other 11 (image third) (image vertex)) (map image (singles graph vertex))
      (singles other (image vertex)) (singles_moved graph other image r vertex))
      ∙ any_carried image (ring_meets graph 11 third vertex) (ring_meets other 11 (image third) (image vertex))
      (λ to. meets_carried third vertex to e) (singles graph vertex))

  pub shared_carried : (vertex third : ℕ)
      → share_alternating_ring other (image vertex) (image third) ≡ share_alternating_ring graph vertex third
  shared_carried vertex third = shared_by vertex third (is_alternating graph vertex) refl

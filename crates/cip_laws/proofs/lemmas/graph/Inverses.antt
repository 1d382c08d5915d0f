-- A renamed graph is the renaming of the other one by the inverse.
use Rattle.std.proofs.Common.{◌≡◌, ℕ, List, [], ◌∷◌, map, length, nat_lt, refl, sym, ap, subst, ◌∙◌}
use Rattle.std.specs.List.Sorted.{IsPermutation}
use Rattle.std.proofs.lemmas.List.Sorted.{IsPermutation-sym, IsPermutation-map}
use Rattle.cip_digraph.specs.graph.Graph.{Graph, vertex_at}
use Rattle.cip_symmetry.specs.Renamed.{Way, ways, way_image, IsRenamed}

-- each number is an image
abbrev pub IsOnto : (ℕ → ℕ) → Type 0
IsOnto image = (w : ℕ) → (v : ℕ) × (w ≡ image v)

abbrev pub inverse : (image : ℕ → ℕ) → IsOnto image → ℕ → ℕ
inverse image onto w = (onto w).0

module _ (graph other : Graph) (image : ℕ → ℕ) (r : IsRenamed graph other image) (onto : IsOnto image) where
  there_and_back : (ws : List Way) → map (way_image (inverse image onto)) (map (way_image image) ws) ≡ ws
  there_and_back [] = refl
  there_and_back (w ∷ ws) =
      ap (λ to. record { to = to; order = w.order; counted = w.counted }
      ∷ map (way_image (inverse image onto)) (map (way_image image) ws))
      (r.injective (inverse image onto (image w.to)) w.to (sym (onto (image w.to)).1))
      ∙ ap (λ vs. w ∷ vs) (there_and_back ws)

  pub renamed_back : IsRenamed other graph (inverse image onto)
  renamed_back = record {
    injective = λ a b e. (onto a).1 ∙ ap image e ∙ sym (onto b).1;
    count = sym r.count;
    vertices = λ w. sym (r.vertices (onto w).0) ∙ ap (vertex_at other) (sym (onto w).1);
    ways = λ w.
        let here = ways graph (onto w).0 in
        subst (λ v. IsPermutation (map (way_image (inverse image onto)) (ways other v)) here) (sym (onto w).1)
        (subst (IsPermutation (map (way_image (inverse image onto)) (ways other (image (onto w).0))))
        (there_and_back here)
        (IsPermutation-map (way_image (inverse image onto)) (ways other (image (onto w).0))
        (map (way_image image) here)
        (IsPermutation-sym (map (way_image image) here) (ways other (image (onto w).0)) (r.ways (onto w).0))));
    within = λ w. sym (r.within (onto w).0) ∙ ap (λ v. nat_lt v (length other.vertices)) (sym (onto w).1);
    drawn = λ w. sym (r.drawn (onto w).0) ∙ ap (λ v. nat_lt v other.drawn) (sym (onto w).1);
  }

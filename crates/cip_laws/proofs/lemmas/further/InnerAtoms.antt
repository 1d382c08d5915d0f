-- Inner atoms of a chain: two double bonds, the one that leads to it and the one that leads on.
use Rattle.std.proofs.Common.{◌≡◌, ◌≢◌, inl, inr, ℕ, List, [], ◌∷◌, length, filter, refl, sym, ap, ◌∙◌, true, not, ◌==◌, ◌&&◌, eqb-true, eq-eqb, arith}
use Rattle.std.specs.Prelude.{slice_index_or}
use Rattle.cip_axis.specs.Cumulenes.{onward, continues_chain, next_atom}
use Rattle.cip_symmetry.proofs.lemmas.lists.Among.{from_filter}
use Rattle.std.proofs.lemmas.Bool.{eqb-false, ne_eqb, and_from, and_parts, not-true}
use Rattle.cip_digraph.specs.graph.Graph.{Graph, edges_at, vertex_at}
use Rattle.cip_digraph.specs.units.Allenes.{doubles, is_allene_middle}
use Rattle.cip_symmetry.specs.Images.{Among}
use Rattle.cip_laws.specs.CumuleneLaws.{IsInner}

-- of two, the one that isn't the given one
pub other_kept : (before behind : ℕ) (ds : List ℕ) → length ds ≡ 2 → Among before ds → Among behind ds → before ≢ behind
    → filter (λ o. not (o == before)) ds ≡ behind ∷ []
other_kept before behind [] two h k differ = absurd h
other_kept before behind (p ∷ []) two h k differ = absurd (omega (arith, two))
other_kept before behind (p ∷ q ∷ []) two (inl e) (inl f) differ = absurd (differ (e ∙ sym f))
other_kept before behind (p ∷ q ∷ []) two (inl e) (inr (inl f)) differ =
    rw (eq-eqb p before (sym e), ne_eqb q before (λ s. differ (sym s ∙ sym f))) (ap (λ v. v ∷ []) (sym f))
other_kept before behind (p ∷ q ∷ []) two (inl e) (inr (inr bad)) differ = absurd bad
other_kept before behind (p ∷ q ∷ []) two (inr (inl e)) (inl f) differ =
    rw (ne_eqb p before (λ s. differ (sym s ∙ sym f)), eq-eqb q before (sym e)) (ap (λ v. v ∷ []) (sym f))
other_kept before behind (p ∷ q ∷ []) two (inr (inl e)) (inr (inl f)) differ = absurd (differ (e ∙ sym f))
other_kept before behind (p ∷ q ∷ []) two (inr (inl e)) (inr (inr bad)) differ = absurd bad
other_kept before behind (p ∷ q ∷ []) two (inr (inr bad)) k differ = absurd bad
other_kept before behind (p ∷ q ∷ r ∷ ds) two h k differ = absurd (omega (arith, two))

pub two_doubles : (graph : Graph) (before at behind : ℕ) → IsInner graph before at behind
    → length (doubles graph at) ≡ 2
two_doubles graph before at behind i =
    eqb-true (length (doubles graph at)) 2
    (and_parts (((vertex_at graph at).z == 6) && (length (edges_at graph at) == 2)) _ i.middle).1

pub head_among : (vs : List ℕ) (d : ℕ) → length vs ≡ 1 → Among (slice_index_or vs 0 d) vs
head_among [] d one = absurd (omega (arith, one))
head_among (v ∷ vs) d one = inl refl

module _ (graph : Graph) where
  pub inner_leads : (before at behind : ℕ) → IsInner graph before at behind
      → (continues_chain graph before at ≡ true) × (next_atom graph before at ≡ behind)
  inner_leads before at behind i =
      let two : length (doubles graph at) ≡ 2 = two_doubles graph before at behind i in
      let one : onward graph before at ≡ behind ∷ [] =
      other_kept before behind (doubles graph at) two i.back i.on i.differ in (
        and_from (is_allene_middle graph at) (length (onward graph before at) == 1) i.middle
            (ap (λ vs. length vs == 1) one),
        ap (λ vs. slice_index_or vs 0 at) one,
      )

  pub leads_inner : (before at : ℕ) → Among before (doubles graph at) → continues_chain graph before at ≡ true
      → IsInner graph before at (next_atom graph before at)
  leads_inner before at h e =
      let p = and_parts (is_allene_middle graph at) (length (onward graph before at) == 1) e in
      let next = next_atom graph before at in
      let among = from_filter (λ o. not (o == before)) next (doubles graph at)
      (head_among (onward graph before at) at (eqb-true (length (onward graph before at)) 1 p.1)) in
      record {
        middle = p.0;
        back = h;
        on = among.0;
        differ = λ same. eqb-false next before (not-true (next == before) among.1) (sym same);
      }

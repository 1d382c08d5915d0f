-- What is strictly inside the subtree of a node, by paths and by number.
use Rattle.std.proofs.Common.{◌≡◌, ℕ, zero, suc, ◌<◌, ◌==◌, Bool, true, false, cond, List, length, slice_index, refl, sym, ap, ◌∙◌, arith, inl, inr, eqb-true}
use Rattle.std.specs.Prelude.{None}
use Rattle.std.specs.declared.option.Option.{Option}
use Rattle.std.proofs.lemmas.Bool.{or_cases}
use Rattle.cip_mol.specs.declared.labels.descriptor.Descriptor.{Descriptor}
use Rattle.cip_mol.specs.declared.site.Unit as units
use Rattle.cip_digraph.specs.digraph.Digraph.{is_real}
use Rattle.cip_digraph.specs.digraph.NodeList.{parents_of}
use Rattle.cip_digraph.specs.digraph.Telling.{node_at}
use Rattle.cip_digraph.specs.rules.Auxiliary.{inside, auxiliary}
use Rattle.cip_aux.specs.Below.{is_below}
use Rattle.cip_aux.proofs.lemmas.BelowNodes.{inside_is, below_behind, next_below}
use Rattle.cip_aux.specs.InnerContext.{InnerContext, AgreesInside, descriptor_at}
use Rattle.cip_aux.specs.DescriptorsInside.{flag_at, AreInner, AreWanted}
use Rattle.cip_aux.specs.Views.{DigraphView, Shows, path_at, IsReal}
use Rattle.cip_aux.proofs.lemmas.Paths.{within_parents, earlier}

module _ (sight : DigraphView) (s : Shows sight) where
  -- below a node that is requested all are
  wanted_upto : (requested : List Bool) → AreWanted (parents_of sight.node_data) requested → (from : ℕ)
      → flag_at requested from ≡ true
      → (fuel n : ℕ) → n < fuel → n < length sight.nodes → is_below (parents_of sight.node_data) from n ≡ true
      → flag_at requested n ≡ true
  wanted_upto requested are from here zero n lt within e = absurd (omega arith)
  wanted_upto requested are from here (suc fuel) zero lt within e = absurd (let bad : false ≡ true = e in cc)
  wanted_upto requested are from here (suc fuel) (suc n) lt within e =
      let parents = parents_of sight.node_data in
      let up = slice_index parents (suc n) in
      let low = within_parents sight s (suc n) within in
      let less = earlier sight s (suc n) (omega arith) within in
      let split = next_below parents s.node_data.whole.tree from (suc n) up refl (omega arith) low ∙ e in
      are.below (suc n) (omega arith) low (elim (or_cases (up == from) (is_below parents from up) split) [
        | inl same ↦ ap (flag_at requested) (eqb-true up from same) ∙ here
        | inr above ↦ wanted_upto requested are from here fuel up (omega arith) (omega arith) above
      ])

  pub wanted_below : (requested : List Bool) → AreWanted (parents_of sight.node_data) requested → (from : ℕ)
      → flag_at requested from ≡ true → (n : ℕ) → n < length sight.nodes → is_below (parents_of sight.node_data) from n ≡ true
      → flag_at requested n ≡ true
  wanted_below requested are from here n within e = wanted_upto requested are from here (suc n) n (omega arith) within e

  -- only nodes after a node are below it
  pub behind : (from n : ℕ) → n < length sight.nodes → is_below (parents_of sight.node_data) from n ≡ true → from < n
  behind from n within e =
      below_behind (parents_of sight.node_data) s.node_data.whole.tree from n (within_parents sight s n within) e

abbrev when : Bool → Option Descriptor → Option Descriptor
when b found = elim b as (λ _. Option Descriptor) [ true ↦ found | false ↦ None ]

when_is : (b : Bool) (found : Option Descriptor) → when b found ≡ cond b found None
when_is true found = refl
when_is false found = refl

-- descriptors of the nodes below one of them are those strictly inside its subtree
module _ (inner : InnerContext) (s : Shows inner.sight) (r : IsReal inner.sight.nodes inner.from) (all : List units.Unit) where
  abbrev descriptor : List ℕ → Option Descriptor
  descriptor = auxiliary inner.sight.rules inner.sight.graph inner.sight.positions all

  by_kind : AreInner inner all → (n : ℕ) → n < length inner.sight.nodes
      → (b : Bool) → is_real (node_at inner.sight.nodes n).kind ≡ b
      → (d : Bool) → is_below (parents_of inner.sight.node_data) inner.from n ≡ d
      → cond d (descriptor_at inner.descriptors n) None
      ≡ cond b (inside descriptor (path_at inner.sight.nodes inner.from) (path_at inner.sight.nodes n)) None
  by_kind are n lt true real d e =
      by d e
      ∙ sym (when_is d (descriptor (path_at inner.sight.nodes n)))
      ∙ sym (ap (λ t. when t (descriptor (path_at inner.sight.nodes n)))
      (inside_is inner.sight.graph inner.sight.positions inner.sight.root inner.sight.nodes
      (parents_of inner.sight.node_data)
      s.node_data.whole s.sound inner.from (within_parents inner.sight s inner.from r.within) r.real n
      (within_parents inner.sight s n lt) real ∙ e))
    where
      by : (d : Bool) → is_below (parents_of inner.sight.node_data) inner.from n ≡ d
          → cond d (descriptor_at inner.descriptors n) None ≡ cond d (descriptor (path_at inner.sight.nodes n)) None
      by true e = are.each n lt e ∙ ap (λ b. cond b (descriptor (path_at inner.sight.nodes n)) None) real
      by false e = refl
  by_kind are n lt false other d e = by d e
    where
      by : (d : Bool) → is_below (parents_of inner.sight.node_data) inner.from n ≡ d
          → ◌≡◌ {A = Option Descriptor} (cond d (descriptor_at inner.descriptors n) None) None
      by true e = are.each n lt e ∙ ap (λ b. cond b (descriptor (path_at inner.sight.nodes n)) None) other
      by false e = refl

  pub agrees : AreInner inner all → AgreesInside inner (inside descriptor (path_at inner.sight.nodes inner.from))
  agrees are = record {
    each = λ n lt. by_kind are n lt (is_real (node_at inner.sight.nodes n).kind) refl
        (is_below (parents_of inner.sight.node_data) inner.from n) refl;
  }

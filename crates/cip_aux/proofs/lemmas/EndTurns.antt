-- The turns of a unit's ends.
use Rattle.std.proofs.Common.{◌≡◌, ℕ, ◌&&◌, Bool, true, false, List, [], ◌∷◌, ◌++◌, cond, sym, ap, ◌∙◌, subst, None, Some, eq-eqb}
use Rattle.std.specs.Option.{is_some}
use Rattle.std.specs.declared.option.Option.{Option}
use Rattle.cip_mol.specs.declared.site.Ligand.{Ligand}
use Rattle.cip_digraph.specs.rules.Auxiliary.{nearer_first, root_at, roots_at}
use Rattle.cip_digraph.specs.units.Ends.{end_at}
use Rattle.cip_digraph.specs.digraph.NodeList.{parents_of}
use Rattle.cip_digraph.specs.digraph.Telling.{node_at}
use Rattle.cip_digraph.specs.declared.decisions.parity.Parity.{Parity}
use Rattle.cip_aux.specs.InnerContext.{InnerContext, Ready}
use Rattle.cip_aux.specs.DescriptorsInside.{AreRootTurns, AreEndTurns}
use Rattle.cip_aux.specs.Neighbours.{shape_at}
use Rattle.cip_digraph.specs.TurnsOf.{both_turns, root_turns, roots_turns}
use Rattle.std.specs.Prelude.{option_to_list}
use Rattle.cip_aux.specs.Joining.{Joins, far_number}
use Rattle.cip_aux.specs.Views.{path_at}
use Rattle.cip_aux.proofs.lemmas.FarEnds.{IsFar, far_found, far_none, far_same}
use Rattle.cip_aux.proofs.lemmas.Keeping.{counts_both}
use Rattle.cip_aux.proofs.lemmas.RootsAt.{both_are, none_are}

module _ (inner : InnerContext) (node : ℕ) (r : Ready inner node) (between : Option ℕ) (far : ℕ) where
  far_is : (c : ℕ) → Some c ≡ far_number (shape_at inner.sight.node_data) (parents_of inner.sight.node_data) node between far
      → IsFar inner.sight r.shows node between far c
  far_is c e =
      far_found inner.sight r.shows node between far c
      (sym (e ∙ far_same inner.sight r.shows node between far))

  -- the node of the far end is ready too
  pub far_ready : (c : ℕ) → Some c
      ≡ far_number (shape_at inner.sight.node_data) (parents_of inner.sight.node_data) node between far → Ready inner c
  far_ready c e = record { shows = r.shows; real = (far_is c e).real; descriptors = r.descriptors }

  -- without a node for it there are no turns
  pub no_far : (nearer others : List Ligand) (at : ℕ)
      → Joins inner.sight.graph (node_at inner.sight.nodes node).vertex between far
      → None ≡ far_number (shape_at inner.sight.node_data) (parents_of inner.sight.node_data) node between far
      → AreEndTurns inner node true (option_to_list between) (end_at at nearer ∷ end_at far others ∷ []) None
  no_far nearer others at joins e =
      let none = far_none inner.sight r.shows node between far r.real joins
      (sym (e ∙ far_same inner.sight r.shows node between far)) in
      record {
        each =
            λ descriptor counts. sym (none_are inner.sight.rules inner.sight.graph inner.sight.positions descriptor
            (path_at inner.sight.nodes node) (option_to_list between) (end_at at nearer) (end_at far others) none);
      }

  pub both_ends : (nearer others : List Ligand) (at c : ℕ) (a b : Bool) (one other : Option Parity)
      → Some c ≡ far_number (shape_at inner.sight.node_data) (parents_of inner.sight.node_data) node between far
      → AreRootTurns inner node a nearer one → AreRootTurns inner c b others other
      → AreEndTurns inner node (a && b) (option_to_list between) (end_at at nearer ∷ end_at far others ∷ [])
      (both_turns one other)
  both_ends nearer others at c a b one other e first second =
      let found = far_is c e in
      record {
        each = λ descriptor counts.
            let both = counts_both inner a b descriptor counts in
            ap (λ t. both_turns t other) (first.each descriptor both.0)
            ∙ ap (both_turns (root_turns
            (root_at inner.sight.rules inner.sight.graph inner.sight.positions descriptor (path_at inner.sight.nodes node)
            nearer)))
            (second.each descriptor both.1 ∙ ap
            (λ path. root_turns (root_at inner.sight.rules inner.sight.graph inner.sight.positions descriptor path others))
            found.path)
            ∙ sym (both_are inner.sight.rules inner.sight.graph inner.sight.positions descriptor
            (path_at inner.sight.nodes node) (option_to_list between) (end_at at nearer) (end_at far others) found.new);
      }

  -- where the ligands of the near end tie, the far end doesn't matter
  pub near_ties : (nearer others : List Ligand) (at c : ℕ) (b : Bool) (parities : Option Parity) → is_some parities ≡ false
      → Some c ≡ far_number (shape_at inner.sight.node_data) (parents_of inner.sight.node_data) node between far
      → AreRootTurns inner node b nearer parities
      → AreEndTurns inner node b (option_to_list between) (end_at at nearer ∷ end_at far others ∷ []) parities
  near_ties nearer others at c b (Some parities) none e first = let bad : true ≡ false = none in cc
  near_ties nearer others at c b None none e first =
      let found = far_is c e in
      record {
        each = λ descriptor counts.
            ap (λ t. both_turns t (root_turns
            (root_at inner.sight.rules inner.sight.graph inner.sight.positions descriptor
            (far ∷ option_to_list between ++ path_at inner.sight.nodes node) others))) (first.each descriptor counts)
            ∙ sym (both_are inner.sight.rules inner.sight.graph inner.sight.positions descriptor
            (path_at inner.sight.nodes node) (option_to_list between) (end_at at nearer) (end_at far others) found.new);
      }

-- a centre has one end
pub centre_is : (inner : InnerContext) (node at vertex : ℕ) (b : Bool) (ligands : List Ligand) (parities : Option Parity)
    → at ≡ vertex → node ≡ inner.from → AreRootTurns inner node b ligands parities
    → AreEndTurns inner inner.from b [] (nearer_first vertex (end_at at ligands ∷ [])) parities
centre_is inner node at vertex b ligands parities here same are =
    subst (λ n. AreEndTurns inner n b [] (nearer_first vertex (end_at at ligands ∷ [])) parities) same (record {
      each = λ descriptor counts.
          are.each descriptor counts
          ∙ ap (λ ends. roots_turns (roots_at inner.sight.rules inner.sight.graph inner.sight.positions descriptor
          (path_at inner.sight.nodes node) [] ends))
          (sym (ap (λ b. cond b (end_at at ligands ∷ []) []) (eq-eqb at vertex here)));
    })

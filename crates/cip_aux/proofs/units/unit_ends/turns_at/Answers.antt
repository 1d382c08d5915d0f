use Rattle.std.proofs.Common.{◌≡◌, ◌∙◌, ℕ, List, map, sym, ap, subst, All, Contains, IfOk, IfSome}
use Rattle.std.specs.declared.option.Option.{Option}
use Rattle.cip_digraph.specs.digraph.NodeList.{parents_of}
use Rattle.cip_aux.specs.DescriptorsInside.{AreRootTurns, AreSeenTurns}
use Rattle.cip_aux.specs.Neighbours.{ligand_number, neighbours_of, shape_at}
use Rattle.cip_aux.specs.Views.{DigraphView}
use Rattle.cip_aux.specs.declared.ligand_ranker.FoundParity.{FoundParity}
use Rattle.cip_aux.proofs.lemmas.NodeDescriptors.{ok_by}
use Rattle.cip_aux.proofs.lemmas.ReadyNodes.{numbers_of, ready_neighbours, ready_turns}
use Rattle.cip_aux.proofs.units.unit_ends.turns_at.Goals as goal

pub ligand_parity-requires-clause-ligands : goal.ligand_parity-requires-clause-ligands
ligand_parity-requires-clause-ligands g c =
    let inner = c.args.inner.now in
    let node_data = c.nodes.ensures.node_data ∙ ap (λ (s : DigraphView). s.node_data) c.whole.ensures in
    let numbers : c.as_slice.result.now ≡ numbers_of inner c.args.node c.requires.ready c.args.ligands.now =
    c.as_slice.ensures.value ∙ c.ligands_at-numbers.ensures
    ∙ ap (λ all. map (ligand_number (shape_at all) (parents_of all) c.args.node) c.args.ligands.now) node_data in
    subst (All (λ number. IfSome number (Contains (neighbours_of (parents_of inner.sight.node_data) c.args.node))))
    (sym numbers) (ready_neighbours inner c.args.node c.requires.ready c.args.ligands.now)

pub returns-clause-parities : goal.returns-clause-parities
returns-clause-parities g c =
    let inner = c.args.inner.now in
    let node = c.args.node in
    let node_data = c.nodes.ensures.node_data ∙ ap (λ (s : DigraphView). s.node_data) c.whole.ensures in
    let numbers : c.as_slice.result.now ≡ numbers_of inner node c.requires.ready c.args.ligands.now =
    c.as_slice.ensures.value ∙ c.ligands_at-numbers.ensures
    ∙ ap (λ all. map (ligand_number (shape_at all) (parents_of all) node) c.args.ligands.now) node_data in
    ok_by (AreSeenTurns inner node (numbers_of inner node c.requires.ready c.args.ligands.now))
    (λ (found : FoundParity). AreRootTurns inner node found.by_constitution c.args.ligands.now found.parities) c.ligand_parity.result
    (ready_turns inner node c.requires.ready c.args.ligands.now)
    (subst (λ (ligands : List (Option ℕ)). IfOk c.ligand_parity.result (AreSeenTurns inner node ligands)) numbers
    c.ligand_parity.ensures.parities)

pub ligand_parity-requires-clause-ready : goal.ligand_parity-requires-clause-ready
ligand_parity-requires-clause-ready g c = c.requires.ready

pub ligand_parity-requires-clause-stands : goal.ligand_parity-requires-clause-stands
ligand_parity-requires-clause-stands g c = c.requires.stands

pub returns-clause-stands : goal.returns-clause-stands
returns-clause-stands g c = c.ligand_parity.ensures.stands

pub returns-clause-room : goal.returns-clause-room
returns-clause-room g c = c.ligand_parity.ensures.room

use Rattle.std.proofs.Common.{◌∙◌, ℕ, List, ap}
use Rattle.cip_digraph.specs.units.Ranked.{every_pair}
use Rattle.cip_constitution.specs.Following.{Trying, numbers_of}
use Rattle.cip_constitution.specs.Standing.{differ_told}
use Rattle.cip_constitution.proofs.lemmas.anew.LastSphere.{order_first}
use Rattle.cip_constitution.proofs.lemmas.node_data.Differ.{differ_is}
use Rattle.cip_constitution.proofs.work.Work.all_differ.Goals as goal

pub returns : goal.returns
returns c =
    let s = c.args.setting.now in
    let a = c.args.arena.now in
    let branched = c.args.self.now.branched in
    let grown = c.requires.grown in
    c.all_distinct.ensures
    ∙ ap (λ (ns : List ℕ). every_pair (differ_told ns a.nodes) s.ligands.now)
    (ap (λ (w : Trying). numbers_of w.branched) c.self.view_is)
    ∙ differ_is s.graph.now s.positions.now a grown.holds grown.some grown.sound (numbers_of branched)
    (order_first s.graph.now s.positions.now a grown.holds grown.some grown.sound grown.fits grown.last branched
    c.requires.followed) s.rules s.units.now s.ligands.now

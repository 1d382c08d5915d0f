use Rattle.std.proofs.Common.{◌≡◌, List, ◌<◌, ◌≤◌, ◌+◌, ◌∙◌, ℕ, sym, subst, length, arith}
use Rattle.cip_arena.specs.Growth.{Holds}
use Rattle.cip_constitution.specs.FollowedOut.{AreFollowedOut}
use Rattle.cip_constitution.specs.Settling.{RootContext, SettledAs, cost_of}
use Rattle.cip_digraph.specs.graph.Graph.{Graph}
use Rattle.cip_label.specs.Fitting.{IsFit}
use Rattle.cip_ranker.specs.Desks.{settled_by}
use Rattle.cip_ranker.proofs.lemmas.KnownRoots.{some_spheres}
use Rattle.cip_ranker.proofs.lemmas.RootLow.{root_low}
use Rattle.cip_ranker.proofs.lemmas.SettledRoots.{same_setting, started_one, rises}
use Rattle.cip_ranker.proofs.caches.uncached.settle_root.Goals as goal

pub settle-requires-clause-fits : goal.settle-requires-clause-fits
settle-requires-clause-fits g c =
    let positions = c.args.query.now.setting.now.positions in
    let one = started_one c.graph-graph.result.now positions c.start.new.self (c.start.ensures.holds positions)
    c.start.ensures.sphere in
    let bound = c.start.ensures.bound in
    let some = c.requires.some in
    omega (arith, one, bound, some)

pub settle-requires-clause-root : goal.settle-requires-clause-root
settle-requires-clause-root g c =
    let setting = c.args.query.now.setting.now in
    subst (λ (graph : Graph). c.start.new.self.root < length graph.vertices) (sym c.graph-graph.ensures.value)
    (subst (λ (root : ℕ). root < length setting.graph.vertices) (sym c.start.ensures.root)
    (root_low setting.graph c.args.query.now.root c.args.query.now.ligands.now c.graph-graph.ensures.proper.sound c.requires.fit))

pub returns-clause-settled : goal.returns-clause-settled
returns-clause-settled g c =
    let setting = c.args.query.now.setting.now in
    subst (λ (t : RootContext). SettledAs t c.settle.new.arena c.settle.result)
    (same_setting c.rules.result setting.rules c.graph-graph.result.now setting.graph c.positions.result.now
    setting.positions c.units.result.now setting.units c.as_slice.result.now c.args.query.now.ligands.now c.rules.ensures
    c.graph-graph.ensures.value c.positions.ensures c.units.ensures.value c.as_slice.ensures.value)
    c.settle.ensures.settled

pub settle-requires-clause-holds : goal.settle-requires-clause-holds
settle-requires-clause-holds g c = c.start.ensures.holds c.positions.result.now

pub returns-clause-rooted : goal.returns-clause-rooted
returns-clause-rooted g c =
    let setting = c.args.query.now.setting.now in
    let arena = c.settle.new.arena in
    record {
      holds = subst (λ (positions : List (List ℕ)). Holds setting.graph positions arena) c.positions.ensures
          (subst (λ (graph : Graph). Holds graph c.positions.result.now arena) c.graph-graph.ensures.value
          c.settle.ensures.holds);
      at = c.settle.ensures.root ∙ c.start.ensures.root;
      fit = c.requires.fit;
      fits = c.settle.ensures.fits;
    }

pub returns-clause-cost : goal.returns-clause-cost
returns-clause-cost g c =
    let setting = c.args.query.now.setting.now in
    let holds = (returns-clause-rooted g c).holds in
    let one = started_one c.graph-graph.result.now setting.positions c.start.new.self
    (c.start.ensures.holds setting.positions) c.start.ensures.sphere in
    rises setting c.args.query.now.ligands.now c.args.query.now.root c.settle.new.arena holds (c.settle.ensures.root ∙ c.start.ensures.root)
    c.args.arena.now.bound c.args.steps.now c.settle.new.steps (length c.start.new.self.nodes)
    (c.settle.ensures.bound ∙ c.start.ensures.bound) c.settle.ensures.fits one c.settle.ensures.cost
    (subst (λ (t : RootContext). c.settle.new.steps + 1 ≤ c.args.steps.now + cost_of t c.settle.new.arena.root)
    (same_setting c.rules.result setting.rules c.graph-graph.result.now setting.graph c.positions.result.now
    setting.positions c.units.result.now setting.units c.as_slice.result.now c.args.query.now.ligands.now c.rules.ensures
    c.graph-graph.ensures.value
    c.positions.ensures c.units.ensures.value c.as_slice.ensures.value) c.settle.ensures.lazy)

pub returns-clause-followed : goal.returns-clause-followed
returns-clause-followed g c is =
    let setting = c.args.query.now.setting.now in
    let arena = c.settle.new.arena in
    let at : arena.root ≡ c.args.query.now.root = c.settle.ensures.root ∙ c.start.ensures.root in
    let settled = subst (SettledAs (settled_by setting c.args.query.now.ligands.now) arena) is (returns-clause-settled g c) in
    let fit = subst (λ (root : ℕ). IsFit setting.graph root c.args.query.now.ligands.now) (sym at) c.requires.fit in
    let holds = (returns-clause-rooted g c).holds in
    let some = some_spheres setting c.args.query.now.ligands.now arena holds c.graph-graph.ensures.proper.sound fit
    c.settle.ensures.fits settled in
    let work = c.settle.new.work in
    subst (λ (positions : List (List ℕ)). AreFollowedOut setting.graph positions arena work) c.positions.ensures
    (subst (λ (graph : Graph). AreFollowedOut graph c.positions.result.now arena work) c.graph-graph.ensures.value
    (c.settle.ensures.whole is some))

pub returns-clause-bound : goal.returns-clause-bound
returns-clause-bound g c = c.settle.ensures.bound ∙ c.start.ensures.bound

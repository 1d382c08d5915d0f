use Rattle.std.proofs.Common.{◌≡◌, ◌+◌, suc, length, arith, sym, ap}
use Rattle.cip_branches.specs.ViewedTree.{kids_around}
use Rattle.cip_branches.specs.SphereColumns.{SphereColumns}
use Rattle.cip_partition.specs.Keys.{key_of}
use Rattle.cip_branches.proofs.lemmas.walked.Ranked.{Ready, ready, ranked_after, last_after}
use Rattle.cip_branches.proofs.growth.spheres.Spheres.follow.Goals as goal
use Rattle.cip_branches.proofs.growth.spheres.Spheres.follow.Goals.{After-grow_sphere}

-- the sphere that was walked
ready_here : (g : _) (c : After-grow_sphere g) → Ready c.args.self.now c.grow_sphere.new.self c.args.last
    (length c.args.around.now.table.now.parents)
ready_here g c = ready c.args.self.now c.args.first c.args.last (length c.args.around.now.table.now.parents)
    (kids_around c.args.around.now.table.now.parents c.args.around.now.way.now) c.args.unresolved.now c.requires.walk
    c.grow_sphere.new.self c.grow_sphere.ensures.walked c.requires.ranked

pub grow_sphere-requires : goal.grow_sphere-requires
grow_sphere-requires g c = (c.args.last, c.requires.walk)

pub pass-requires-clause-last : goal.pass-requires-clause-last
pass-requires-clause-last g c =
    let more = (ready_here g (goal.at.pass-requires-clause-last g c).After-grow_sphere).count in omega (arith, more)

pub pass-requires-clause-keyed : goal.pass-requires-clause-keyed
pass-requires-clause-keyed g c =
    (ready_here g (goal.at.pass-requires-clause-keyed g c).After-grow_sphere).keyed
    (g.K.Keyed.nodes c.args.keys.now) c.requires.keyed c.requires.nodes

pub pass-requires-clause-spheres : goal.pass-requires-clause-spheres
pass-requires-clause-spheres g c =
    let last : suc c.args.last ≡ c.args.last + 1 = omega arith in
    rw (sym last) (c.grow_sphere.ensures.spheres c.args.last c.requires.walk.count)

pub pass-requires-clause-noted : goal.pass-requires-clause-noted
pass-requires-clause-noted g c = (ready_here g (goal.at.pass-requires-clause-noted g c).After-grow_sphere).noted

pub pass-requires-clause-steady : goal.pass-requires-clause-steady
pass-requires-clause-steady g c = (ready_here g (goal.at.pass-requires-clause-steady g c).After-grow_sphere).steady

pub returns-clause-followed : goal.returns-clause-followed
returns-clause-followed g c = record {
  mid = c.grow_sphere.new.self;
  walked = c.grow_sphere.ensures.walked;
  passed = c.pass.ensures.passed;
  places = c.pass.ensures.places;
  place_tree = ap (λ (s : SphereColumns). s.place_tree) c.pass.ensures.others;
  starts = ap (λ (s : SphereColumns). s.starts) c.pass.ensures.others;
}

pub returns-clause-ranked : goal.returns-clause-ranked
returns-clause-ranked g c =
    let here = ready_here g (goal.at.returns-clause-ranked g c).After-grow_sphere in
    let mid = c.grow_sphere.new.self in
    let now = c.pass.new.self in
    let last : c.args.last + 1 ≡ suc c.args.last = omega arith in
    rw c.pass.ensures.others
    (ranked_after mid now.ranked now.before c.pass.ensures.places c.args.last
    (key_of (g.K.Keyed.key c.args.keys.now) mid.place_tree) here.count here.ends c.pass.ensures.passed
    (rw (sym last) c.pass.ensures.spheres) c.pass.ensures.before)

pub returns-clause-places : goal.returns-clause-places
returns-clause-places g c =
    λ others.
    let now = c.pass.new.self in
    rw c.pass.ensures.others (last_after c.grow_sphere.new.self now.ranked now.before c.pass.ensures.places others
    (length c.args.self.now.place_tree.place_parents) (suc c.args.last) (c.grow_sphere.ensures.places c.args.last c.requires.walk.count others))

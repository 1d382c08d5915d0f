use Rattle.std.proofs.Common.{◌≡◌, ◌+◌, suc, slice_index, subst, arith}
use Rattle.std.specs.Ordering.{int_cmp, on}
use Rattle.std.proofs.lemmas.Bool.{false≢true}
use Rattle.cip_partition.specs.Keys.{key_of}
use Rattle.cip_partition.specs.Kids.{kids_of}
use Rattle.cip_branches.specs.Turning.{IsInnermost}
use Rattle.cip_branches.proofs.lemmas.taken.Even.{deeper_even}
use Rattle.cip_branches.proofs.lemmas.refined.Dirty.{first_is, none_stirred, not_first}
use Rattle.cip_branches.proofs.lemmas.taken.Kept.{deeper_is, deeper_ranked, deeper_noted, deeper_steady}
use Rattle.cip_branches.proofs.lemmas.refined.Refinement.{FoundSphere, found_sphere, read_at}
use Rattle.cip_branches.proofs.growth.spheres.Spheres.extend_rule.Goals as goal
use Rattle.cip_branches.proofs.growth.spheres.Spheres.extend_rule.Goals.{After-first_row-to}

pub pass-requires-clause-noted : goal.pass-requires-clause-noted
pass-requires-clause-noted g c = deeper_noted c.args.self.now c.args.last c.requires.ranked c.args.far

pub pass-requires-clause-steady : goal.pass-requires-clause-steady
pass-requires-clause-steady g c = deeper_steady c.args.self.now c.args.last c.requires.ranked c.args.far c.requires.far

-- what the code reads of the starts
from_is : (g : _) (c : After-first_row-to g) → slice_index c.args.self.now.starts (suc c.args.far)
    ≡ c.first_row-from.result
from_is g c = read_at c.args.self.now.starts (c.args.far + 1) (suc c.args.far) c.first_row-from.result
    c.first_row-from.ensures.value (omega arith)

to_is : (g : _) (c : After-first_row-to g) → slice_index c.args.self.now.starts (suc (suc c.args.far))
    ≡ c.first_row-to.result
to_is g c = read_at c.args.self.now.starts (c.args.far + 2) (suc (suc c.args.far)) c.first_row-to.result
    c.first_row-to.ensures.value (omega arith)

sphere : (g : _) (c : After-first_row-to g) →
    let first = c.args.self.now in
    FoundSphere first.ranked.rows first.ranked.numbers c.first_row-from.result c.first_row-to.result
sphere g c =
    let first = c.args.self.now in
    found_sphere (kids_of first.place_tree) first.place_tree.place_parents first.ranked.rows first.starts c.args.last first.ranked.numbers
    c.requires.ranked.spheres (suc c.args.far) c.first_row-from.result c.first_row-to.result c.requires.far
    (from_is g c) (to_is g c)

pub stands_by-requires-clause-ordered : goal.stands_by-requires-clause-ordered
stands_by-requires-clause-ordered g c = (sphere g c).ordered

pub stands_by-requires-clause-within : goal.stands_by-requires-clause-within
stands_by-requires-clause-within g c = (sphere g c).within

pub stands_by-requires-clause-classed : goal.stands_by-requires-clause-classed
stands_by-requires-clause-classed g c = (sphere g c).classed

pub returns-then-stands_by-clause-deeper : goal.returns-then-stands_by-clause-deeper
returns-then-stands_by-clause-deeper g c =
    let at = (goal.at.returns-then-stands_by-clause-deeper g c).After-first_row-to in
    let all = c.args.self.now in
    let keys = g.K.Keyed.key c.args.keys.now in
    let compare = on (key_of keys all.place_tree) int_cmp in
    let alike = c.stands_by.ensures.0 c.if-stands_by.true in
    deeper_even all c.args.last c.requires.ranked c.args.far c.requires.far keys
    (rw (from_is g at, to_is g at) alike)

pub returns-then-stands_by-clause-reached : goal.returns-then-stands_by-clause-reached
returns-then-stands_by-clause-reached g c = (λ is. absurd (false≢true is), λ all. absurd (none_stirred all))

pub returns-else-stands_by-clause-deeper : goal.returns-else-stands_by-clause-deeper
returns-else-stands_by-clause-deeper g c =
    let now = c.pass.new.self in
    rw c.pass.ensures.others
    (deeper_is c.args.self.now c.args.last c.requires.ranked now.ranked now.before c.pass.ensures.before c.args.far
    c.requires.far (g.K.Keyed.key c.args.keys.now) c.pass.ensures.passed c.pass.ensures.places c.pass.ensures.spheres
    c.pass.ensures.room)

pub returns-else-stands_by-clause-ranked : goal.returns-else-stands_by-clause-ranked
returns-else-stands_by-clause-ranked g c =
    let now = c.pass.new.self in
    rw c.pass.ensures.others
    (deeper_ranked c.args.self.now c.args.last c.requires.ranked now.ranked now.before c.pass.ensures.before c.args.far
    c.requires.far (g.K.Keyed.key c.args.keys.now) c.pass.ensures.passed c.pass.ensures.places c.pass.ensures.spheres)

pub returns-else-stands_by-clause-reached : goal.returns-else-stands_by-clause-reached
returns-else-stands_by-clause-reached g c =
    let first = c.args.self.now in
    first_is first.place_tree.place_parents first.ranked.rows first.starts c.pass.result c.args.far first.ranked.numbers
    first.ranked.numbers c.pass.new.self.ranked.numbers
    (subst (λ ns. IsInnermost first.place_tree.place_parents first.ranked.rows first.starts c.pass.result c.args.far ns
    first.ranked.numbers c.pass.new.self.ranked.numbers) c.requires.ranked.before c.pass.ensures.inner)

pub returns-else-stands_by-clause-tops : goal.returns-else-stands_by-clause-tops
returns-else-stands_by-clause-tops g c = λ not. c.pass.ensures.tops (not_first c.pass.result not)

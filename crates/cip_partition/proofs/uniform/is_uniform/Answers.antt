use Rattle.std.proofs.Common.{◌≡◌, ◌==◌, ◌∙◌, false, not, true, slice_index, ap, sym, refl, arith}
use Rattle.std.specs.Ordering.{ordering_index}
use Rattle.std.specs.declared.cmp.Ordering.{Ordering}
use Rattle.std.specs.declared.cmp.Ordering.TheVariants.{Equal}
use Rattle.cip_partition.specs.Rows.{number_in}
use Rattle.cip_partition.proofs.lemmas.ClassInSphere.{num_high}
use Rattle.cip_partition.proofs.lemmas.TiedPlaces.{first_ties, tie_all}
use Rattle.cip_partition.proofs.uniform.is_uniform.Goals as goal
use Rattle.cip_partition.proofs.uniform.is_uniform.Goals.{After-number-first}

first_is : (g : _) (c : After-number-first g) → c.number-first.result ≡ number_in c.args.order.now.rows
    c.args.order.now.numbers c.loop-row.row
first_is g c = c.number-first.ensures ∙ ap (slice_index c.args.order.now.numbers) c.place-place.ensures.place

pub place-requires : goal.place-requires
place-requires g c =
    let order = c.args.order.now in
    let high = num_high order.rows order.numbers c.args.from c.args.to c.requires.classed c.loop-row.row
    c.loop-row.auto.row c.loop-row-test.true in
    let first = first_is g (goal.at.place-requires g c).After-number-first in
    omega (arith, high, first, c.loop-row-test.true, c.requires.within)

pub returns-then-ne : goal.returns-then-ne
returns-then-ne g c = (
  λ yes. let bad : false ≡ true = yes in cc,
  λ alike.
      let order = c.args.order.now in
      let compare = g.S.NodeOrder.order c.args.by.now in
      let first = first_is g (goal.at.returns-then-ne g c).After-number-first in
      let ties = first_ties compare (g.met.S.NodeOrder.total c.args.by.now) order.rows order.numbers c.args.from c.args.to
      c.requires.classed alike c.loop-row.row c.loop-row.auto.row c.loop-row-test.true in
      let same : c.compare_nodes.result ≡ Equal = c.compare_nodes.ensures
      ∙ ap (λ n. compare n c.place-place.result) (c.place.ensures.place ∙ ap (slice_index order.rows) first)
      ∙ ap (compare (slice_index order.rows (number_in order.rows order.numbers c.loop-row.row)))
      c.place-place.ensures.place ∙ ties in
      let bad : true ≡ false = sym c.if-ne.true ∙ c.ne.ensures
      ∙ ap (λ (r : Ordering). not (ordering_index r == 1)) same in
      cc,
)

pub returns : goal.returns
returns g c = (
  λ yes. tie_all (g.S.NodeOrder.order c.args.by.now) (g.met.S.NodeOrder.total c.args.by.now) c.args.order.now.rows
      c.args.order.now.numbers c.args.from c.args.to
      (λ k low high. c.loop-row.invariant k low (let done = c.loop-row-test.false in omega (arith, high, done))),
  λ alike. refl,
)

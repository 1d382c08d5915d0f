use Rattle.std.proofs.Common.{◌≡◌, ◌+◌, ◌-◌, ◌++◌, ◌∷◌, [], ℕ, List, length, arith, sym, ap, ◌∙◌}
use Rattle.std.specs.List.{range_with_len}
use Rattle.std.proofs.lemmas.List.FromFn.{length-range_with_len}
use Rattle.cip_rank.proofs.lemmas.Ranges.{range_more}
use Rattle.cip_partition.specs.ReservedList.{ReservedList}
use Rattle.cip_constitution.proofs.steps.following.fill_tops.Goals as goal

pub push-requires : goal.push-requires
push-requires c =
    let is = c.loop-node.invariant.filled in
    let items = ap (λ (tops : ReservedList ℕ). length tops.items) is ∙ length-range_with_len 1 (c.loop-node.node - 1) in
    let room = ap (λ (tops : ReservedList ℕ). tops.room) is in
    let enough = c.requires.room in
    let lt = c.loop-node-test.true in
    omega (arith, items, room, enough, lt)

pub loop-node-preserved : goal.loop-node-preserved
loop-node-preserved c =
    let node = c.loop-node.node in
    let low = c.loop-node.auto.node in
    let lt = c.loop-node-test.true in
    let at : 1 + (node - 1) ≡ node = omega (arith, low) in
    let count : (node - 1) + 1 ≡ node + 1 - 1 = omega (arith, low) in
    record {
      high = omega (arith, lt);
      filled = c.push.ensures
          ∙ ap (λ (tops : ReservedList ℕ). record tops { items = tops.items ++ node ∷ [] }) c.loop-node.invariant.filled
          ∙ ap (λ (ns : List ℕ). record c.args.tops.now { items = ns })
          (sym (range_more 1 (node - 1) node at) ∙ ap (range_with_len 1) count);
    }

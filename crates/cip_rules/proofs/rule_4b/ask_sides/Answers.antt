use Rattle.std.proofs.Common.{List, ◌++◌, ◌∷◌, [], length, map, sym, ap, ◌∙◌, arith}
use Rattle.std.specs.List.{range_with_len}
use Rattle.std.proofs.lemmas.List.FromFn.{length-map-range_with_len}
use Rattle.cip_partition.specs.ReservedList.{ReservedList}
use Rattle.cip_digraph.specs.declared.decisions.branch_pair.BranchPair.{BranchPair}
use Rattle.cip_rules.specs.Rule4bWorkspace.{side_of}
use Rattle.cip_rules.proofs.lemmas.ReadingKeys.{mapped_place}
use Rattle.cip_rules.proofs.rule_4b.ask_sides.Goals as goal

pub push-requires : goal.push-requires
push-requires c =
    let items = ap (λ (r : ReservedList BranchPair). length r.items) c.loop-branch.invariant.pairs in
    let room = ap (λ (r : ReservedList BranchPair). r.room) c.loop-branch.invariant.pairs in
    let len = length-map-range_with_len (side_of c.args.branches.now) 0 c.loop-branch.branch in
    omega (arith, items, room, len)

pub loop-branch-preserved : goal.loop-branch-preserved
loop-branch-preserved c = record {
  pairs = c.push.ensures
      ∙ ap (λ (r : ReservedList BranchPair). record r { items = r.items ++ c.side_of.result ∷ [] }) c.loop-branch.invariant.pairs
      ∙ ap {B = ReservedList BranchPair} (λ one. record c.args.sides.now {
        items = map (side_of c.args.branches.now) (range_with_len 0 c.loop-branch.branch) ++ one ∷ [];
      }) c.side_of.ensures
      ∙ ap (λ (all : List BranchPair). record c.args.sides.now { items = all })
      (sym (mapped_place (side_of c.args.branches.now) c.loop-branch.branch));
}

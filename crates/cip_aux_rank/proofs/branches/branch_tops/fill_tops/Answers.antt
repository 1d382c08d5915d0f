use Rattle.std.proofs.Common.{◌≡◌, ◌-◌, ◌++◌, ◌∷◌, [], ℕ, Bool, List, filter, length, arith, ◌∙◌, sym, ap}
use Rattle.std.specs.List.{list_any, range_with_len}
use Rattle.std.proofs.lemmas.List.FromFn.{length-range_with_len}
use Rattle.cip_rank.specs.Tree.{children_of}
use Rattle.cip_rank.proofs.lemmas.ChildrenSeen.{kept_one}
use Rattle.cip_partition.specs.ReservedList.{ReservedList}
use Rattle.cip_aux_rank.specs.LigandBranches.{is_ligand}
use Rattle.cip_aux_rank.proofs.lemmas.AskedTops.{some_few, with_parent}
use Rattle.cip_aux_rank.proofs.branches.branch_tops.fill_tops.Goals as goal

pub push_if_asked-requires : goal.push_if_asked-requires
push_if_asked-requires c =
    let test : ℕ → Bool = λ top. list_any (is_ligand top) c.args.ligands.now in
    let first = c.children-first.result.0 in
    let before = range_with_len first (c.loop-child.child - first) in
    let room = ap (λ (t : ReservedList ℕ). t.room) c.loop-child.invariant.pushed in
    let items = ap (λ (t : ReservedList ℕ). length t.items) c.loop-child.invariant.pushed in
    let few = some_few test before in
    let so_far = length-range_with_len first (c.loop-child.child - first) in
    let lt = c.loop-child-test.true in
    let low = c.loop-child.auto.child in
    let within = c.children-first.ensures.within in
    let wide = c.requires.room in
    omega (arith, room, items, few, so_far, lt, low, within, wide)

pub loop-child-preserved : goal.loop-child-preserved
loop-child-preserved c =
    let test : ℕ → Bool = λ top. list_any (is_ligand top) c.args.ligands.now in
    let first = c.children-first.result.0 in
    let child = c.loop-child.child in
    record {
      high = let lt = c.loop-child-test.true in omega (arith, lt);
      pushed = c.push_if_asked.ensures
          ∙ ap (λ (t : ReservedList ℕ). record t { items = t.items ++ filter test (child ∷ []) })
          c.loop-child.invariant.pushed
          ∙ ap (λ (ns : List ℕ). record c.args.tops.now { items = ns })
          (sym (kept_one test first child c.loop-child.auto.child));
    }

pub push_if_asked-requires-then-node-gt0 : goal.push_if_asked-requires-then-node-gt0
push_if_asked-requires-then-node-gt0 c =
    let test : ℕ → Bool = λ top. list_any (is_ligand top) c.args.ligands.now in
    let first = c.children-first.result.0 in
    let before = range_with_len first (c.loop-child.child - first) in
    let room = ap (λ (t : ReservedList ℕ). t.room) c.loop-child.invariant.pushed in
    let items = ap (λ (t : ReservedList ℕ). length t.items) c.loop-child.invariant.pushed in
    let few = some_few test before in
    let so_far = length-range_with_len first (c.loop-child.child - first) in
    let high = c.loop-child.invariant.high in
    let within = c.children-first.ensures.within in
    let wide = c.requires.room in
    omega (arith, room, items, few, so_far, high, within, wide)

pub returns-then-node-gt0 : goal.returns-then-node-gt0
returns-then-node-gt0 c =
    let test : ℕ → Bool = λ top. list_any (is_ligand top) c.args.ligands.now in
    let parents = c.args.table.now.parents in
    let first = c.children-first.result.0 in
    let past = c.children-first.result.1 in
    let parent = c.parent_of.result in
    let ended : c.loop-child.child ≡ past = let high = c.loop-child.invariant.high in
    let over = c.loop-child-test.false in omega (arith, high, over) in
    let kids : range_with_len first (c.loop-child.child - first) ≡ children_of parents c.args.node =
    ap (λ n. range_with_len first (n - first)) ended ∙ sym c.children-first.ensures.children in
    let filled = λ (ns : List ℕ) (t : ReservedList ℕ). record t { items = ns } in
    c.push_if_asked-then-node-gt0.ensures
    ∙ ap (λ (t : ReservedList ℕ). record t { items = t.items ++ filter test (parent ∷ []) }) c.loop-child.invariant.pushed
    ∙ ap (λ (ns : List ℕ). filled (filter test ns ++ filter test (parent ∷ [])) c.args.tops.now) kids
    ∙ ap (λ (ns : List ℕ). filled ns c.args.tops.now) (with_parent test parents (children_of parents c.args.node)
    c.args.node parent c.if-node-gt0.true c.parent_of.ensures.parent)

pub parent_of-requires-clause-node : goal.parent_of-requires-clause-node
parent_of-requires-clause-node c = c.requires.node

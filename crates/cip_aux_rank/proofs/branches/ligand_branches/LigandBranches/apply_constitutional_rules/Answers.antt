use Rattle.std.proofs.Common.{◌<◌, ◌∙◌, ◌^◌, ℕ, List, All, length, sym, ap, subst, arith}
use Rattle.cip_digraph.specs.digraph.NodeList.{parents_of}
use Rattle.cip_digraph.specs.Asking.{AreWithin}
use Rattle.cip_aux.specs.Views.{sight_of}
use Rattle.cip_aux.proofs.lemmas.Data.{whole_shows}
use Rattle.cip_rank.specs.View.{on_way}
use Rattle.cip_partition.specs.Parting.{has_flag}
use Rattle.cip_aux_rank.proofs.lemmas.KnownSteps.{in_table, table_len}
use Rattle.cip_aux_rank.specs.LigandBranches.{AreConstituted, AreTops, LigandBranches}
use Rattle.cip_aux_rank.proofs.branches.ligand_branches.LigandBranches.apply_constitutional_rules.Goals as goal

pub decide_constitutional_rules-done-requires-clause-room : goal.decide_constitutional_rules-done-requires-clause-room
decide_constitutional_rules-done-requires-clause-room g c =
    let room = c.requires.room in
    let branches = c.self.invariant.branches in
    let bound = ap (λ (ligand_branches : LigandBranches). ligand_branches.bound) c.self.view_is in
    omega (arith, room, branches, bound)

pub decide_constitutional_rules-done-requires-clause-few : goal.decide_constitutional_rules-done-requires-clause-few
decide_constitutional_rules-done-requires-clause-few g c =
    subst (λ n. n < 2 ^ 31) (sym c.self.invariant.branches) c.self.invariant.few

pub decide_constitutional_rules-done-requires-clause-steps_room : goal.decide_constitutional_rules-done-requires-clause-steps_room
decide_constitutional_rules-done-requires-clause-steps_room g c =
    let room = c.requires.room in
    let steps = c.self.invariant.steps in
    let bound = ap (λ (ligand_branches : LigandBranches). ligand_branches.bound) c.self.view_is in
    omega (arith, room, steps, bound)

pub decide_constitutional_rules-done-requires-clause-real : goal.decide_constitutional_rules-done-requires-clause-real
decide_constitutional_rules-done-requires-clause-real g c = c.requires.real

pub returns-clause-all : goal.returns-clause-all
returns-clause-all g c = c.decide_constitutional_rules-done.ensures.all

pub invariant_of-self : goal.invariant_of-self
invariant_of-self g c =
    let room = c.self.invariant in
    let way = room.way in
    record {
      few = room.few;
      branches = c.decide_constitutional_rules-done.ensures.room ∙ room.branches;
      tops = room.tops;
      steps = c.decide_constitutional_rules-done.ensures.steps_room ∙ room.steps;
      readings = room.readings;
      way = omega (arith, way, c.resize_flags.ensures.room, c.flag_path.ensures.room, c.clear_path.ensures.room);
      off = c.clear_path.ensures.off;
    }

pub resize_flags-requires-clause-off : goal.resize_flags-requires-clause-off
resize_flags-requires-clause-off g c = c.self.invariant.off

pub resize_flags-requires-clause-room : goal.resize_flags-requires-clause-room
resize_flags-requires-clause-room g c =
    let len = table_len c.args.whole.now.node_data c.table-table.result.now.parents
    (c.table-table.ensures ∙ ap parents_of c.nodes.ensures.node_data) in
    let count = c.len.ensures.len in
    let bound = ap (λ (ligand_branches : LigandBranches). ligand_branches.bound) c.self.view_is in
    let room = c.requires.room in
    let way = c.self.invariant.way in
    omega (arith, len, count, bound, room, way)

pub flag_path-requires-clause-node : goal.flag_path-requires-clause-node
flag_path-requires-clause-node g c =
    let whole = c.args.whole.now in
    in_table (sight_of whole) (whole_shows whole c.nodes.ensures.whole) c.table-table.result.now.parents
    (c.table-table.ensures ∙ ap parents_of c.nodes.ensures.node_data) c.args.node c.requires.real.within

pub flag_path-requires-clause-len : goal.flag_path-requires-clause-len
flag_path-requires-clause-len g c =
    let count = c.len.ensures.len in
    let flags = c.resize_flags.ensures.len in
    omega (arith, count, flags)

pub flag_path-requires-clause-off : goal.flag_path-requires-clause-off
flag_path-requires-clause-off g c = c.resize_flags.ensures.off

pub decide_constitutional_rules-done-requires-clause-way : goal.decide_constitutional_rules-done-requires-clause-way
decide_constitutional_rules-done-requires-clause-way g c = record {
  each = λ x lt.
      let parents = c.table-table.ensures ∙ ap parents_of c.nodes.ensures.node_data in
      ap (λ flags. has_flag flags x) c.deref.ensures.value
      ∙ c.flag_path.ensures.flags x (subst (λ (ps : List ℕ). x < length ps) (sym parents) lt)
      ∙ ap (λ (ps : List ℕ). on_way ps c.args.node x) parents;
}

pub decide_constitutional_rules-done-requires-clause-tops : goal.decide_constitutional_rules-done-requires-clause-tops
decide_constitutional_rules-done-requires-clause-tops g c =
    subst (AreTops (parents_of c.args.whole.now.node_data) c.args.node)
    (sym (c.as_slice.ensures ∙ ap (λ (ligand_branches : LigandBranches). ligand_branches.tops) c.self.view_is)) c.requires.tops

pub decide_constitutional_rules-done-requires-clause-within : goal.decide_constitutional_rules-done-requires-clause-within
decide_constitutional_rules-done-requires-clause-within g c =
    subst (λ (ns : List ℕ). All (AreWithin (length ns)) c.args.requested.now)
    (sym (c.as_slice.ensures ∙ ap (λ (ligand_branches : LigandBranches). ligand_branches.tops) c.self.view_is)) c.requires.within

pub clear_path-requires-clause-node : goal.clear_path-requires-clause-node
clear_path-requires-clause-node g c =
    let whole = c.args.whole.now in
    in_table (sight_of whole) (whole_shows whole c.nodes.ensures.whole) c.table-table.result.now.parents
    (c.table-table.ensures ∙ ap parents_of c.nodes.ensures.node_data) c.args.node c.requires.real.within

pub clear_path-requires-clause-len : goal.clear_path-requires-clause-len
clear_path-requires-clause-len g c =
    let count = c.len.ensures.len in
    let flags = c.resize_flags.ensures.len in
    let same = c.flag_path.ensures.len in
    omega (arith, count, flags, same)

pub clear_path-requires-clause-way : goal.clear_path-requires-clause-way
clear_path-requires-clause-way g c = c.flag_path.ensures.flags

pub clear_path-requires-clause-others : goal.clear_path-requires-clause-others
clear_path-requires-clause-others g c = c.flag_path.ensures.others

pub returns-clause-constituted : goal.returns-clause-constituted
returns-clause-constituted g c =
    subst (λ (ns : List ℕ). AreConstituted (sight_of c.args.whole.now) c.args.node ns c.decide_constitutional_rules-done.new.branches
    c.args.requested.now c.decide_constitutional_rules-done.new.requested) c.as_slice.ensures c.decide_constitutional_rules-done.ensures.constituted

pub returns-clause-tops : goal.returns-clause-tops
returns-clause-tops g c = ap (λ (ligand_branches : LigandBranches). ligand_branches.tops) c.self.view_is

pub returns-clause-bound : goal.returns-clause-bound
returns-clause-bound g c = ap (λ (ligand_branches : LigandBranches). ligand_branches.bound) c.self.view_is

use Rattle.std.proofs.Common.{rules, ◌≡◌, ◌++◌, ◌∷◌, [], true, List, take, drop, length, sym, ap, ◌∙◌, subst}
use Rattle.std.specs.List.{list_all}
use Rattle.std.proofs.Math.Seq.{take-append_seam}
use Rattle.cip_branches.specs.Deciding.{AreFollowed}
use Rattle.cip_branches.specs.Standing.{node_in}
use Rattle.cip_partition.specs.PlaceTree.{PlaceTree}
use Rattle.cip_constitution.specs.FollowedOut.{AreConstituted, AreFollowedOut, seen_with}
use Rattle.cip_constitution.specs.Following.{Trying, named}
use Rattle.cip_constitution.proofs.lemmas.followed.Ends.{begin, begin_within, constituted, count}
use Rattle.cip_digraph.specs.rules.Orders.{rule_1a}
use Rattle.cip_digraph.specs.Asking.{is_decided}
use Rattle.cip_rules.specs.Deciding.{AreDecidedBy}
use Rattle.cip_mol.specs.declared.labels.outcome.Rule.TheVariants.{R1a}
use Rattle.cip_digraph.specs.declared.decisions.branch_pair.BranchPair.{BranchPair}
use Rattle.cip_constitution.proofs.work.Work.apply_rules_1b_2.Goals as goal

pub decide_constitution-requires-clause-followed : goal.decide_constitution-requires-clause-followed
decide_constitution-requires-clause-followed c =
    subst (λ (t : Trying). AreFollowed t.branched) (sym c.self.view_is) c.requires.followed.2.follows.followed

pub returns-clause-all : goal.returns-clause-all
returns-clause-all c =
    let new = c.decide_constitution.new.pairs in
    let rest = drop (length new) c.self.inside.noted.items in
    let len : c.self.inside.noted.len ≡ length new = search rules in
    c.decide_constitution.ensures.all
    ∙ sym (ap (list_all is_decided) (ap (λ n. take n (new ++ rest)) len ∙ take-append_seam new rest))

pub returns-clause-bound : goal.returns-clause-bound
returns-clause-bound c = ap (λ (t : Trying). t.bound) c.self.view_is

pub returns-clause-constituted : goal.returns-clause-constituted
returns-clause-constituted c g positions followed =
    let arena = c.args.arena.now in
    let trying : Trying = record {
      bound = c.self.inside.bound;
      branched = c.self.inside.branches;
      pairs = c.self.inside.pairs.items;
      noted = c.self.inside.noted.items;
    } in
    let out : AreFollowedOut g positions arena trying =
    subst (AreFollowedOut g positions arena) (sym c.self.view_is) followed in
    let new = c.decide_constitution.new.pairs in
    let len : c.self.inside.noted.len ≡ length new = search rules in
    let whole : take c.self.inside.noted.len (new ++ drop (length new) c.self.inside.noted.items) ≡ new =
    rw len (take-append_seam new (drop (length new) c.self.inside.noted.items)) in
    let name = named g positions arena.root arena.bound in
    subst (AreConstituted c.args.rules g positions arena trying.pairs c.decide_constitution.new.branches) (sym whole)
    (constituted g positions arena trying out c.args.rules c.decide_constitution.new.branches new
    c.decide_constitution.ensures.followed c.decide_constitution.ensures.place_tree
    (λ descriptor first distances masses.
    let seen = seen_with c.args.rules g positions arena descriptor in
    let node = node_in name trying.branched in
    let all = begin g positions arena trying out in
    c.decide_constitution.ensures.decided seen name node (count g positions arena trying out) all
    (begin_within g positions arena trying out)
    (subst (λ (requested : List BranchPair). AreDecidedBy seen true name node (count g positions arena trying out) all (R1a ∷ [])
    (rule_1a seen seen.height) trying.branched requested) (sym c.as_mut_slice-noted.ensures.value) first) distances masses))

pub invariant_of-self : goal.invariant_of-self
invariant_of-self c =
    let room = c.self.invariant in
    record {
      branches = ap (λ (k : PlaceTree). k.room) c.decide_constitution.ensures.place_tree ∙ room.branches;
      tops = room.tops;
      pairs = room.pairs;
      few = room.few;
      noted = room.noted;
      saved = room.saved;
      under = room.under;
    }

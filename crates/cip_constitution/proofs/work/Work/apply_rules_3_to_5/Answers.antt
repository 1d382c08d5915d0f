use Rattle.std.proofs.Common.{rules, ◌≡◌, ◌++◌, List, take, drop, length, sym, ap, ◌∙◌, subst, ◌≤◌}
use Rattle.std.proofs.Math.Seq.{take-append_seam}
use Rattle.cip_branches.specs.Deciding.{AreFollowed}
use Rattle.cip_constitution.specs.Following.{Trying}
use Rattle.cip_partition.specs.PlaceTree.{PlaceTree}
use Rattle.cip_rules.specs.Taking.{AreSame}
use Rattle.cip_rules.specs.Deciding.{AreDecidedBy}
use Rattle.cip_rules.specs.DescriptorMap.{AreDescriptorsOf}
use Rattle.cip_rules.specs.Orders.{rules_before}
use Rattle.cip_digraph.specs.declared.decisions.branch_pair.BranchPair.{BranchPair}
use Rattle.cip_digraph.specs.rules.Orders.{rule_2}
use Rattle.cip_mol.specs.declared.labels.outcome.Rule.TheVariants.{R3}
use Rattle.std.specs.Prelude.{true}
use Rattle.cip_partition.specs.Keys.{AreKeyed}
use Rattle.cip_constitution.proofs.work.Work.apply_rules_3_to_5.Goals as goal

pub decide_configuration-requires-clause-followed : goal.decide_configuration-requires-clause-followed
decide_configuration-requires-clause-followed g c =
    subst (λ (t : Trying). AreFollowed t.branched) (sym c.self.view_is) c.requires.followed

pub returns-clause-same : goal.returns-clause-same
returns-clause-same g c =
    subst (λ (t : Trying). AreSame t.branched c.decide_configuration.new.branches) c.self.view_is
    c.decide_configuration.ensures.same

pub returns-clause-len : goal.returns-clause-len
returns-clause-len g c =
    let new = c.decide_configuration.new.pairs in
    let rest = drop (length new) c.self.inside.noted.items in
    let len : c.self.inside.noted.len ≡ length new = search rules in
    let requested = λ (all : List BranchPair). length all in
    ap requested (ap (λ n. take n (new ++ rest)) len ∙ take-append_seam new rest) ∙ c.decide_configuration.auto.pairs
    ∙ ap requested c.as_mut_slice-noted.ensures.value ∙ ap (λ (t : Trying). length t.noted) c.self.view_is

pub returns-clause-bound : goal.returns-clause-bound
returns-clause-bound g c = ap (λ (t : Trying). t.bound) c.self.view_is

pub returns-clause-ordered : goal.returns-clause-ordered
returns-clause-ordered g c =
    let new = c.decide_configuration.new.pairs in
    let rest = drop (length new) c.self.inside.noted.items in
    let len : c.self.inside.noted.len ≡ length new = search rules in
    record {
      each = λ seen named node count begin within decided descriptors.
          let both = c.decide_configuration.ensures.decided seen named node count begin within
          (subst (λ (requested : List BranchPair). AreDecidedBy seen true named node count begin (rules_before R3)
          (rule_2 seen seen.height) c.self.inside.branches requested) (sym c.as_mut_slice-noted.ensures.value)
          (subst (λ (t : Trying). AreDecidedBy seen true named node count begin (rules_before R3)
          (rule_2 seen seen.height) t.branched t.noted) (sym c.self.view_is) decided))
          (subst (λ (t : Trying). AreDescriptorsOf named seen.descriptor (g.M.DescriptorMap.descriptors c.args.descriptors.now) t.branched)
          (sym c.self.view_is) descriptors) in
          (ap (λ n. take n (new ++ rest)) len ∙ take-append_seam new rest ∙ both.0, both.1);
    }

pub invariant_of-self : goal.invariant_of-self
invariant_of-self g c =
    let room = c.self.invariant in
    record {
      branches = ap (λ (k : PlaceTree). k.room) c.decide_configuration.ensures.same.kept.place_tree ∙ room.branches;
      tops = room.tops;
      pairs = room.pairs;
      few = room.few;
      noted = room.noted;
      saved = room.saved;
      under = room.under;
    }

pub decide_configuration-requires-clause-keyed : goal.decide_configuration-requires-clause-keyed
decide_configuration-requires-clause-keyed g c =
    subst (λ (work : Trying). AreKeyed (length (g.M.DescriptorMap.descriptors c.args.descriptors.now)) work.branched.layers.place_tree) (sym
    c.self.view_is) c.requires.keyed

pub decide_configuration-requires-clause-room : goal.decide_configuration-requires-clause-room
decide_configuration-requires-clause-room g c =
    subst (λ (work : Trying). length work.branched.layers.place_tree.place_parents ≤ c.args.readings.now.bound) (sym c.self.view_is)
    c.requires.room

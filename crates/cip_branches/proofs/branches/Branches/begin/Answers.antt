use Rattle.std.proofs.Common.{Bool, List, length, replicate, true, ◌∙◌, sym, ap, subst, arith}
use Rattle.std.proofs.lemmas.List.{length-replicate}
use Rattle.cip_partition.specs.ReservedList.{ReservedList}
use Rattle.cip_branches.specs.Deciding.{Branched, FlagsOpen}
use Rattle.cip_branches.specs.Following.{Begins}
use Rattle.cip_branches.proofs.lemmas.ruled.Open.{flag_within, open_again}
use Rattle.cip_branches.proofs.branches.Branches.begin.Goals as goal

pub invariant_of-self : goal.invariant_of-self
invariant_of-self g c =
    let room = sym c.begin.ensures.room in
    let unresolved = ap (λ (column : ReservedList Bool). length column.items) c.fill-2.ensures
    ∙ length-replicate c.len-count.result true in
    let next_unresolved = ap (λ (column : ReservedList Bool). length column.items) c.fill.ensures
    ∙ length-replicate c.len-count.result true in
    record {
      wanted_room = ap (λ (column : ReservedList Bool). column.room) c.fill-2.ensures ∙ c.self.invariant.wanted_room ∙ room;
      opens_room = ap (λ (column : ReservedList Bool). column.room) c.fill.ensures ∙ c.self.invariant.opens_room ∙ room;
      tops = omega (arith, unresolved, c.len-count.ensures.count);
      opens_len = next_unresolved ∙ sym unresolved;
    }

pub returns-clause-begun : goal.returns-clause-begun
returns-clause-begun g c =
    subst (λ (b : Branched). Begins c.args.tops.now (g.K.Keyed.key c.args.keys.now) b.layers)
    (sym c.drop_distinct.ensures.others) c.begin.ensures.begun

pub returns-clause-chosen : goal.returns-clause-chosen
returns-clause-chosen g c =
    let flags = c.drop_distinct.new.self.unresolved in
    let all = ap (λ (column : ReservedList Bool). column.items) c.fill-2.ensures
    ∙ ap (λ n. replicate n true) (c.len-count.ensures.count ∙ c.begin.ensures.begun.count) in
    subst (λ (b : Branched). FlagsOpen b.layers.ranked.numbers (replicate (length c.args.tops.now) true) flags)
    (sym c.drop_distinct.ensures.others)
    (subst (λ (bs : List Bool). FlagsOpen c.begin.new.self.ranked.numbers bs flags) all c.drop_distinct.ensures.chosen)

pub returns-clause-followed : goal.returns-clause-followed
returns-clause-followed g c =
    let begins = c.begin.ensures.begun in
    let chosen = c.drop_distinct.ensures.chosen in
    rw c.drop_distinct.ensures.others (record {
      ranked = c.begin.ensures.ranked;
      places = c.begin.ensures.places;
      within = omega arith;
      nodes_len = ap (λ ns. length ns) begins.nodes ∙ sym begins.count;
      chosen = record {
        tie = open_again c.begin.new.self.ranked.numbers c.fill-2.new.self.items c.drop_distinct.new.self.unresolved chosen;
        top = λ branch has.
            let lt = flag_within c.fill-2.new.self.items branch (chosen.fewer.each branch has) in
            let len = length-replicate c.len-count.result true in
            let filled = ap (λ (column : ReservedList Bool). length column.items) c.fill-2.ensures in
            begins.here branch (omega (arith, lt, len, filled, c.len-count.ensures.count, begins.count));
      };
    })

pub begin-requires-clause-keyed : goal.begin-requires-clause-keyed
begin-requires-clause-keyed g c = c.requires.keyed

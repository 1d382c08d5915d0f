use Rattle.std.proofs.Common.{ap, arith}
use Rattle.cip_branches.specs.Deciding.{Branched}
use Rattle.cip_branches.specs.Saving.{Checkpoint}
use Rattle.cip_rules.proofs.lemmas.TwinsAside.{begun_aside, twice_long, made_keyed}
use Rattle.cip_rules.proofs.rule_4b.set_aside.Goals as goal

pub save-requires : goal.save-requires
save-requires c =
    let long = twice_long c.args.branches.now c.fill_copies.new.self c.args.twins.now.layers.place_tree.room
    c.fill_copies.ensures.twins in
    omega (arith, long, c.requires.saved_room)

pub returns-clause-aside : goal.returns-clause-aside
returns-clause-aside c =
    begun_aside c.args.branches.now c.fill_copies.ensures.few c.args.twins.now.layers.place_tree.room c.args.saved.now.room
    c.save.new.saved c.fill_copies.new.self c.fill_copies.ensures.twins c.fill_copies.ensures.followed c.save.ensures.count
    c.save.ensures.saved

pub returns-clause-keyed : goal.returns-clause-keyed
returns-clause-keyed c =
    made_keyed c.args.branches.now c.fill_copies.new.self c.args.twins.now.layers.place_tree.room c.fill_copies.ensures.twins

pub returns-clause-room : goal.returns-clause-room
returns-clause-room c = ap (λ (t : Branched). t.layers.place_tree.room) c.fill_copies.ensures.twins

pub returns-clause-saved_room : goal.returns-clause-saved_room
returns-clause-saved_room c = ap (λ (s : Checkpoint). s.room) c.save.ensures.saved

pub returns-clause-may : goal.returns-clause-may
returns-clause-may c = c.fill_copies.ensures.may

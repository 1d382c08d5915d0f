use Rattle.std.proofs.Common.{rules, ◌<◌, ◌∙◌, arith, length, sym}
use Rattle.std.proofs.lemmas.Grind.{common_steps}
use Rattle.cip_io.proofs.lemmas.Supply.{front_given, all_given}
use Rattle.cip_io.proofs.memory.SteadySourceSource.pull.Goals as goal

pub returns-clause-count : goal.returns-clause-count
returns-clause-count c = grind (arith, common_steps)

pub returns-clause-given : goal.returns-clause-given
returns-clause-given c =
    let items = c.self.inside.bytes.items in
    let given = c.self.inside.given in
    let count = c.copy_front-count.result in
    let view = sym c.self.view_is in
    let same = c.deref.ensures.value in
    let room : 0 < length c.copy_front-count.new.into → 0 < length c.args.into.now = λ some. search (rules, some) in (
      (λ i. (view i).left) ∙ front_given items _ given count (rw same at c.copy_front-count.ensures.copied),
      λ none some. all_given items given count c.self.inside.piece (length c.args.into.now) c.self.invariant.0
          (rw same at c.copy_front-count.ensures.count) c.self.invariant.1 none (room some),
    )

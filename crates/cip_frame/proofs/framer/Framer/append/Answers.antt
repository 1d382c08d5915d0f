use Rattle.std.proofs.Common.{arith, rules, ◌≡◌, ◌++◌, sym, ◌∙◌}
use Rattle.std.proofs.lemmas.Grind.{common_steps}
use Rattle.cip_frame.proofs.lemmas.PieceLines.{line_begun, line_kept}
use Rattle.cip_frame.proofs.framer.Framer.append.Goals as goal

pub invariant_of-self-then-ends_with_byte : goal.invariant_of-self-then-ends_with_byte
invariant_of-self-then-ends_with_byte c =
    let front = c.self.inside.open_bytes.items in
    let all : c.extend_from_slice.new.self.items ≡ front ++ c.args.line.now = search rules in
    let lent : c.deref.result.now ≡ front ++ c.args.line.now = search rules in
    let line = line_begun c.self.inside.line front c.args.line.now c.deref.result.now lent c.requires.line
    c.self.invariant.0 c.self.invariant.1 (sym c.ends_with_byte.ensures ∙ c.if-ends_with_byte.true) in
    search (rules, all, line)

pub invariant_of-self-else-ends_with_byte : goal.invariant_of-self-else-ends_with_byte
invariant_of-self-else-ends_with_byte c =
    let front = c.self.inside.open_bytes.items in
    let all : c.extend_from_slice.new.self.items ≡ front ++ c.args.line.now = search rules in
    let lent : c.deref.result.now ≡ front ++ c.args.line.now = search rules in
    let line = line_kept c.self.inside.line front c.args.line.now c.deref.result.now lent c.requires.line
    c.self.invariant.0 c.self.invariant.1 (sym c.ends_with_byte.ensures ∙ c.if-ends_with_byte.false) in
    search (rules, all, line)

pub returns-then-ends_with_byte-clause-closes : goal.returns-then-ends_with_byte-clause-closes
returns-then-ends_with_byte-clause-closes c = grind (arith, common_steps)

pub returns-else-ends_with_byte-clause-closes : goal.returns-else-ends_with_byte-clause-closes
returns-else-ends_with_byte-clause-closes c = grind (arith, common_steps)

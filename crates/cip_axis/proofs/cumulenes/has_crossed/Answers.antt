use Rattle.std.proofs.Common.{◌<◌, ◌∙◌, length, sym, arith}
use Rattle.std.proofs.lemmas.List.Elements.{All-get_or, All-rest}
use Rattle.std.proofs.lemmas.Grind.{common_steps}
use Rattle.cip_axis.proofs.lemmas.CrossedChains.{crossed_here, crossed_none, crossed_on}
use Rattle.cip_axis.proofs.cumulenes.has_crossed.Goals as goal

pub loop-atom-preserved : goal.loop-atom-preserved
loop-atom-preserved c =
    let rest = c.in-Some.rest.now in
    let here = c.loop-atom.atom-index in
    record {
      rest = sym (crossed_on c.args.molecule.now.bonds c.loop-atom.before rest here c.loop-atom-test.true
          (sym c.is_crossed.ensures ∙ c.if-is_crossed.false)) ∙ c.loop-atom.invariant.rest;
      within = All-get_or (λ atom. atom < length c.args.molecule.now.atoms) rest here 0 c.loop-atom-test.true
          (All-rest (λ atom. atom < length c.args.molecule.now.atoms) c.in-Some.first.now rest c.args.chain.now
          c.in-Some.ensures.cases.0 c.requires);
    }

pub returns-then-is_crossed : goal.returns-then-is_crossed
returns-then-is_crossed c =
    sym (crossed_here c.args.molecule.now.bonds c.loop-atom.before c.in-Some.rest.now c.loop-atom.atom-index
    c.loop-atom-test.true (sym c.is_crossed.ensures ∙ c.if-is_crossed.true)) ∙ c.loop-atom.invariant.rest

pub returns : goal.returns
returns c =
    sym (crossed_none c.args.molecule.now.bonds c.loop-atom.before c.in-Some.rest.now c.loop-atom.atom-index
    c.loop-atom-test.false) ∙ c.loop-atom.invariant.rest

pub returns-in_default : goal.returns-in_default
returns-in_default c = grind (arith, common_steps)

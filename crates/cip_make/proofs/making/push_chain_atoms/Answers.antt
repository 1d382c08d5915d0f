use Rattle.std.proofs.Common.{◌≡◌, ◌+◌, ◌++◌, ◌∙◌, ap, arith, suc}
use Rattle.cip_make.specs.Made.{chain_atom, chain_atoms}
use Rattle.cip_make.proofs.lemmas.Texts.{longer}
use Rattle.cip_make.proofs.making.push_chain_atoms.Goals as goal

pub loop-before-preserved : goal.loop-before-preserved
loop-before-preserved c =
    let before = c.loop-before.before in
    let next : suc before ≡ before + 1 = omega arith in
    longer c.args.text.now.items (chain_atoms before) (chain_atom (before + 1)) _ _ c.loop-before.invariant
    c.in-Ok.ensures
    ∙ ap (λ n. c.args.text.now.items ++ chain_atoms n) next

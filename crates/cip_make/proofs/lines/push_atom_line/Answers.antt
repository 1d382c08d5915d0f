use Rattle.std.proofs.Common.{rules, ◌≡◌, ◌++◌, ◌∙◌, pos, codes, ap}
use Rattle.cip_text.specs.Writing.{coordinate, right}
use Rattle.cip_make.specs.Lines.{atom_line, symbol}
use Rattle.cip_make.proofs.lemmas.Texts.{longer}
use Rattle.cip_make.proofs.lines.push_atom_line.Goals as goal

pub returns : goal.returns
unfolding atom_line
returns c =
    let text = c.args.text.now.items in
    let x = right 10 (coordinate c.args.x) in
    let y = right 10 (coordinate c.args.y) in
    let z = right 10 (coordinate (pos 0)) in
    let first : c.push_coordinate.new.line.items ≡ text ++ x = search rules in
    let second : c.push_coordinate-2.new.line.items ≡ c.push_coordinate.new.line.items ++ y = search rules in
    let third : c.push_coordinate-3.new.line.items ≡ c.push_coordinate-2.new.line.items ++ z = search rules in
    let named = c.in-Ok-extend_from_slice.ensures.items
    ∙ ap (λ symbol. c.push_coordinate-3.new.line.items ++ symbol) c.symbol.ensures in
    longer text (x ++ y ++ z ++ symbol c.args.element) (codes " 0  0  0  0  0  0  0  0  0  0  0  0\n") _ _
    (longer text (x ++ y ++ z) (symbol c.args.element) _ _ (longer text (x ++ y) z _ _ (longer text x y _ _ first second) third)
    named) c.in-Ok-extend_from_slice-2.ensures.items

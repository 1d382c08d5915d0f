use Rattle.std.proofs.Common.{◌≡◌, ◌∙◌, Some, None, ap, arith, sym, refl, length, List, slice_get, map}
use Rattle.std.specs.Option.{option_map}
use Rattle.std.proofs.lemmas.Grind.{common_steps}
use Rattle.std.proofs.lemmas.Option.{slice_get-map, slice_get_past, slice_get_read}
use Rattle.cip_v3000.specs.declared.lines.continuation.LogicalLine.{LogicalLine}
use Rattle.cip_v3000.specs.Joining.{seen}
use Rattle.cip_v3000.proofs.blocks.has_bond_block.Goals as goal

pub returns-in-None : goal.returns-in-None
returns-in-None c =
    let none : slice_get (map seen c.args.joined.now.lines.items) c.args.place ≡ None =
    slice_get-map seen c.args.joined.now.lines.items c.args.place
    ∙ ap (option_map seen) (ap (λ (all : List LogicalLine). slice_get all c.args.place) (sym c.deref.ensures.value)
    ∙ slice_get_past c.deref.result.now c.args.place c.in-None.ensures.lookup.3) in
    grind (arith, common_steps, none)

pub returns-in-Some : goal.returns-in-Some
returns-in-Some c =
    let lines = c.deref.result.now in
    let found = c.in-Some.ensures.lookup in
    let some : slice_get (map seen c.args.joined.now.lines.items) c.args.place ≡ Some (seen c.in-Some.line.now) =
    slice_get-map seen c.args.joined.now.lines.items c.args.place
    ∙ ap (option_map seen) (ap (λ (all : List LogicalLine). slice_get all c.args.place) (sym c.deref.ensures.value)
    ∙ slice_get_read lines (length lines) c.args.place c.in-Some.line.now refl found.3.0 found.1) in
    grind (arith, common_steps, some)

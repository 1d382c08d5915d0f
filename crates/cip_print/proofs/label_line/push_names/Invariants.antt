use Rattle.std.proofs.Common.{◌≡◌, ◌++◌, drop}
use Rattle.cip_print.specs.Labels.{names_at}
use Rattle.cip_print.proofs.label_line.push_names.Given as goal

abbrev pub invariant-loop-place : goal.invariant-loop-place
invariant-loop-place l =
    l.text.items ++ names_at l.drawn l.ligands (drop l.place-index l.places)
    ≡ l.fn.text.items ++ names_at l.drawn l.ligands l.places

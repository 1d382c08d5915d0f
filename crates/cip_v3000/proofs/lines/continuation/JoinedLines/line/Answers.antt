use Rattle.std.proofs.Common.{◌∙◌, ap, sym, refl, length, List, slice_get}
use Rattle.std.specs.Option.{option_map}
use Rattle.std.proofs.lemmas.Option.{slice_get-map, slice_get_past, slice_get_read}
use Rattle.cip_v3000.specs.declared.lines.continuation.LogicalLine.{LogicalLine}
use Rattle.cip_v3000.specs.Joining.{seen}
use Rattle.cip_v3000.proofs.lines.continuation.JoinedLines.line.Goals as goal

pub returns-in-Some-clause-found : goal.returns-in-Some-clause-found
returns-in-Some-clause-found c =
    let lines = c.deref.result.now in
    let found = c.in-Some.ensures.lookup in
    slice_get-map seen c.args.self.now.lines.items c.args.place
    ∙ ap (option_map seen) (ap (λ (all : List LogicalLine). slice_get all c.args.place) (sym c.deref.ensures.value)
    ∙ slice_get_read lines (length lines) c.args.place c.in-Some.line.now refl found.3.0 found.1)

pub returns-in-None-clause-missing : goal.returns-in-None-clause-missing
returns-in-None-clause-missing c = (
  slice_get-map seen c.args.self.now.lines.items c.args.place
      ∙ ap (option_map seen) (ap (λ (all : List LogicalLine). slice_get all c.args.place) (sym c.deref.ensures.value)
      ∙ slice_get_past c.deref.result.now c.args.place c.in-None.ensures.lookup.3),
  refl,
)

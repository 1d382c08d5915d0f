use Rattle.std.proofs.Common.{arith, ◌∷◌, ◌++◌, [], ◌∙◌, ap, sym, List, ℕ}
use Rattle.std.proofs.lemmas.Grind.{common_steps}
use Rattle.std.specs.List.{position}
use Rattle.std.proofs.lemmas.Result.{on_ok_weaker}
use Rattle.cip_stereogroups.specs.Names.{same_kind}
use Rattle.cip_stereogroups.proofs.lemmas.GroupLines.{kinds_stay, line_written, line_new}
use Rattle.cip_stereogroups.proofs.groups.put_line.Goals as goal

pub returns-in-Some-clause-names : goal.returns-in-Some-clause-names
returns-in-Some-clause-names c =
    c.requires
    ∙ sym (kinds_stay c.args.items.now.items c.in-Some.place c.index_mut.result.now c.extend.new.self
    c.index_mut.ensures.value)

pub returns-in-Some-clause-items : goal.returns-in-Some-clause-items
returns-in-Some-clause-items c =
    on_ok_weaker c.extend.result
    (λ more. line_written c.args.kind c.args.line c.args.atoms.items c.args.items.now.items c.in-Some.place
    c.index_mut.result.now c.extend.new.self
    (c.in-Some.ensures.value ∙ ap (position (same_kind c.args.kind)) c.requires)
    c.index_mut.ensures.value
    (more ∙ ap (λ (atoms : List ℕ). c.index_mut.result.now.atoms ++ atoms) c.deref.ensures.value))
    c.extend.ensures

pub returns-in-None-clause-items : goal.returns-in-None-clause-items
returns-in-None-clause-items c =
    on_ok_weaker c.push_group.result
    (λ pushed. pushed
    ∙ ap (λ (atoms : List ℕ). c.args.items.now.items
    ++ record { kind = c.args.kind; line = c.args.line; atoms = atoms } ∷ []) c.from_vec-atoms.ensures
    ∙ line_new c.args.kind c.args.line c.args.atoms.items c.args.items.now.items
    (c.in-None.ensures.value ∙ ap (position (same_kind c.args.kind)) c.requires))
    c.push_group.ensures.items

pub index_mut-requires : goal.index_mut-requires
index_mut-requires c = grind (arith, common_steps)

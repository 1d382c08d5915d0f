use Rattle.std.proofs.Common.{◌∷◌, ◌++◌, [], ◌∙◌, ap, cond}
use Rattle.std.specs.List.{list_any}
use Rattle.cip_stereogroups.specs.Names.{same_kind}
use Rattle.cip_stereogroups.proofs.lemmas.SameKinds.{any_same}
use Rattle.cip_stereogroups.proofs.names.Names.push.Goals as goal

pub returns-clause-added : goal.returns-clause-added
returns-clause-added c =
    let keys = c.self.inside.set.keys in
    c.in-Ok.ensures.keys
    ∙ ap (λ found. cond found keys (keys ++ c.args.kind ∷ []))
    (any_same c.args.kind keys ∙ ap (λ ks. list_any (same_kind c.args.kind) ks) c.self.view_is ∙ c.requires.absent)
    ∙ ap (λ ks. ks ++ c.args.kind ∷ []) c.self.view_is

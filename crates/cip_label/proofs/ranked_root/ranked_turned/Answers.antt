use Rattle.std.proofs.Common.{false, ◌∙◌, ap, length, sym}
use Rattle.cip_label.specs.Pairwise.{decided_each, ranked_in}
use Rattle.cip_label.proofs.lemmas.TurnedRanks.{turned_anew}
use Rattle.cip_label.proofs.ranked_root.ranked_turned.Goals as goal

pub returns-in-Ok : goal.returns-in-Ok
returns-in-Ok g c =
    let standing = g.D.RootRanker.standing c.args.digraphs.now in
    let ligands = c.args.ligands.now in
    c.ranked.ensures ∙ ap (λ n. ranked_in n c.as_slice-in-Ok.result.now) c.len.ensures.counted
    ∙ ap (ranked_in (length ligands)) (c.as_slice-in-Ok.ensures ∙ c.in-Ok.ensures
    ∙ ap (decided_each standing false) c.as_slice.ensures.value
    ∙ sym (turned_anew standing ligands c.args.decided.now c.requires.decided
    (sym c.has_rule_5.ensures ∙ c.if-has_rule_5.true)))

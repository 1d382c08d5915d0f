use Rattle.std.proofs.Common.{◌∙◌, ap, arith, length}
use Rattle.cip_set.proofs.lemmas.MirrorReads.{few_with_items, reads_of}
use Rattle.cip_set.proofs.mirror.mirror_record.Goals as goal

pub returns-clause-reads : goal.returns-clause-reads
returns-clause-reads c =
    reads_of c.args.bytes.now c.in_ok-lines.lines c.mirror_lines.result
    (c.in_ok-lines.ensures ∙ c.deref.ensures.value ∙ c.in_ok-bare.ensures.value) c.mirror_lines.ensures.answer

pub returns-clause-few : goal.returns-clause-few
returns-clause-few c =
    few_with_items c.args.bytes.now c.in_ok-lines.lines c.mirror_lines.result
    (omega (arith, c.in_ok-bare.ensures.few, ap length (c.in_ok-lines.ensures ∙ c.deref.ensures.value)))
    c.mirror_lines.ensures.few

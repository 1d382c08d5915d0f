use Rattle.cip_item.specs.Parts.{without_label_items}
use Rattle.cip_edit.proofs.lemmas.SetReads.{few_of, few_with_items}
use Rattle.cip_set.proofs.lemmas.SetReads.{reads_of}
use Rattle.cip_set.proofs.setting.set_letter.Goals as goal

pub returns-clause-gives : goal.returns-clause-gives
returns-clause-gives c =
    reads_of c.args.rules c.args.nodes c.args.atom c.args.letter c.args.bytes.now c.with_new_labeller.result c.with_new_labeller.ensures

pub returns-clause-few : goal.returns-clause-few
returns-clause-few c =
    few_with_items c.args.bytes.now c.with_new_labeller.result
    (few_of c.args.rules c.args.nodes c.args.atom c.args.letter (without_label_items c.args.bytes.now)
    c.with_new_labeller.result c.with_new_labeller.ensures)

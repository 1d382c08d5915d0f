use Rattle.cip_item.proofs.lemmas.Names.{held}
use Rattle.cip_item.proofs.line_kinds.holds_label_name.Goals as goal

pub returns : goal.returns
returns c = held c.args.text.now c.contains_str.result c.contains_str.ensures

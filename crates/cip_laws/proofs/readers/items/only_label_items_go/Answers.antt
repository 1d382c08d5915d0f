use Rattle.cip_item.proofs.lemmas.Numbered.{only_label_items_go}
use Rattle.cip_laws.proofs.readers.items.only_label_items_go.Goals as goal

pub returns : goal.returns
returns c = only_label_items_go

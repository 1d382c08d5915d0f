use Rattle.std.proofs.Common.{sym}
use Rattle.cip_mol.proofs.lemmas.Tables.{length-with_entry, row-other}
use Rattle.cip_mol.proofs.graph.adjacency.Table.join.Goals as goal

pub push-requires-2-clause-within : goal.push-requires-2-clause-within
push-requires-2-clause-within c = rw (c.push.ensures, length-with_entry) c.requires.b

pub push-requires-2-clause-room : goal.push-requires-2-clause-room
push-requires-2-clause-room c =
    rw (c.push.ensures, row-other c.args.self.now _ _ _ c.args.bond.b (λ same. c.requires.apart (sym same))) c.requires.room_b

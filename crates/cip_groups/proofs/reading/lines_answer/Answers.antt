use Rattle.std.proofs.Common.{◌≡◌, Result, Err, false, true, subst}
use Rattle.std.specs.Prelude.{IsOk}
use Rattle.cip_mol.specs.Drawing.{Drawing}
use Rattle.cip_mol.specs.declared.labels.refusal.ReadFault.{ReadFault}
use Rattle.cip_mol.specs.declared.labels.refusal.ReadRefusal.{ReadRefusal}
use Rattle.cip_text.specs.Slices.{texts}
use Rattle.cip_ctfile.specs.Reading.{Fails}
use Rattle.cip_v3000.specs.Tables.{table_of}
use Rattle.cip_v3000.proofs.lemmas.Tables.{undrawn_table}
use Rattle.cip_groups.proofs.reading.lines_answer.Goals as goal

no_fault : (read : Result Drawing ReadFault) (fault : ReadFault) → IsOk read → read ≡ Err fault → ⊥
no_fault read fault ok e = let bad : false ≡ true = subst (λ (r : Result Drawing ReadFault). IsOk r) e ok in cc

pub unreachable-requires : goal.unreachable-requires
unreachable-requires c =
    let lines = texts c.args.lines.now in
    let fails : table_of lines ≡ Err c.in-Err-Fault.field-0-0 =
    subst (λ (refusal : ReadRefusal). Fails refusal (table_of lines)) c.in-Err-Fault.field-0-is
    c.in-Err-Fault.ensures.value in
    no_fault _ c.in-Err-Fault.field-0-0 c.requires.read (undrawn_table lines c.in-Err-Fault.field-0-0 fails)

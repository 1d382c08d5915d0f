-- What is read of a record has bonds without a fault, and gives its answer.
use Rattle.std.proofs.Common.{◌≡◌, ℕ, List, length, Ok, Bool, true, false, refl, ap}
use Rattle.cip_rank.specs.declared.rules.Rules.{Rules}
use Rattle.cip_mol.specs.Bonds.{IsSound}
use Rattle.cip_mol.specs.Drawing.{Drawing}
use Rattle.cip_v2000.specs.Version.{is_v3000}
use Rattle.cip_laws.proofs.lemmas.v2000_lines.Soundness as old
use Rattle.cip_laws.proofs.lemmas.v3000_lines.Soundness as new
use Rattle.cip_answer.specs.Answers.{of_molecule, of_reading, answer_without_items, answer_by}
use Rattle.cip_molfile.specs.Molecules.{read_molecule}
use Rattle.cip_laws.specs.Records.{IsReadAs, ReadingsAreSound}

sound_by : (lines : List (List ℕ)) (drawing : Drawing) (k : Bool) → is_v3000 lines ≡ k → read_molecule lines ≡ Ok drawing
    → IsSound (length drawing.atoms) drawing.bonds
sound_by lines drawing true e h = new.readings_are_sound lines drawing (rw e at h)
sound_by lines drawing false e h = old.readings_are_sound lines drawing (rw e at h)

pub readings_are_sound : ReadingsAreSound
readings_are_sound lines drawing h = sound_by lines drawing (is_v3000 lines) refl h

pub answer_is : (rules : Rules) (nodes : ℕ) (bytes : List ℕ) (drawing : Drawing) → IsReadAs bytes drawing
    → answer_by rules nodes bytes ≡ of_molecule rules nodes drawing
unfolding answer_without_items
answer_is rules nodes bytes drawing h = ap (of_reading rules nodes) h

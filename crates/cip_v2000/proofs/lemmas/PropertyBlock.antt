-- Property lines read one after the other.
use Rattle.std.proofs.Common.{◌≡◌, ◌<◌, ◌≤◌, ◌+◌, ℕ, List, length, drop, get_or, Result, Ok, Err, Bor, true, false, refl, sym, ◌∙◌}
use Rattle.cip_text.specs.Kinds.{is_molecule_end}
use Rattle.cip_text.specs.Slices.{texts}
use Rattle.cip_mol.specs.declared.labels.refusal.ReadCause.TheVariants.{Short, Property}
use Rattle.cip_mol.specs.declared.labels.refusal.ReadFault.{ReadFault}
use Rattle.cip_mol.specs.declared.labels.refusal.ReadRefusal.{ReadRefusal}
use Rattle.cip_mol.specs.declared.labels.refusal.ReadRefusal.TheVariants as refusals
use Rattle.cip_v2000.specs.declared.atom_properties.Pair.{Pair}
use Rattle.cip_v2000.specs.Grammar.{pairs_from}
use Rattle.cip_v2000.specs.PropertyLines.{pairs_with}
use Rattle.cip_ctfile.specs.Reading.{Fails}
use Rattle.cip_ctfile.proofs.lemmas.Texts.{drop_texts, drop_texts_past}

-- the line at this place is `M  END`
pub pairs_end : (past atoms : ℕ) (before : List Pair) (number : ℕ) (lines : List (Bor (List ℕ))) (place : ℕ)
    (d : Bor (List ℕ)) (total : Result (List Pair) ReadFault)
    → place < length lines → is_molecule_end (get_or lines place d).now ≡ true
    → pairs_from past atoms before number (drop place (texts lines)) ≡ total → total ≡ Ok before
unfolding pairs_from
pairs_end past atoms before number lines place d total within ends so_far =
    let one : pairs_from past atoms before number (drop place (texts lines))
    ≡ Ok before = rw (drop_texts lines place d within, ends) refl in
    sym so_far ∙ one

pub pairs_refused : (past atoms : ℕ) (before : List Pair) (place : ℕ) (lines : List (Bor (List ℕ))) (d : Bor (List ℕ))
    (refusal : ReadRefusal) (total : Result (List Pair) ReadFault)
    → place < length lines → is_molecule_end (get_or lines place d).now ≡ false
    → Fails refusal (pairs_with (record { line = place + 1; cause = Property }) atoms before (get_or lines place d).now)
    → pairs_from past atoms before (place + 1) (drop place (texts lines)) ≡ total → Fails refusal total
unfolding pairs_from
pairs_refused past atoms before place lines d refusals.Memory total within goes_on fails so_far = tt
pairs_refused past atoms before place lines d (refusals.Fault fault) total within goes_on fails so_far =
    let one : pairs_from past atoms before (place + 1) (drop place (texts lines))
    ≡ Err fault = rw (drop_texts lines place d within, goes_on, fails) refl in
    sym so_far ∙ one

pub pairs_more : (past atoms : ℕ) (before pairs : List Pair) (place : ℕ) (lines : List (Bor (List ℕ)))
    (d : Bor (List ℕ)) (total : Result (List Pair) ReadFault)
    → place < length lines → is_molecule_end (get_or lines place d).now ≡ false
    → pairs_with (record { line = place + 1; cause = Property }) atoms before (get_or lines place d).now ≡ Ok pairs
    → pairs_from past atoms before (place + 1) (drop place (texts lines)) ≡ total
    → pairs_from past atoms pairs (place + 1 + 1) (drop (place + 1) (texts lines)) ≡ total
unfolding pairs_from
pairs_more past atoms before pairs place lines d total within goes_on gives so_far =
    let one : pairs_from past atoms before (place + 1) (drop place (texts lines))
    ≡ pairs_from past atoms pairs (place + 1 + 1) (drop (place + 1) (texts lines)) =
    rw (drop_texts lines place d within, goes_on, gives) refl in
    sym one ∙ so_far

-- no line is left
pub pairs_short : (past atoms : ℕ) (before : List Pair) (place : ℕ) (lines : List (Bor (List ℕ)))
    (total : Result (List Pair) ReadFault)
    → length lines ≤ place → past ≡ length lines + 1
    → pairs_from past atoms before (place + 1) (drop place (texts lines)) ≡ total
    → total ≡ Err (record { line = length lines + 1; cause = Short })
unfolding pairs_from
pairs_short past atoms before place lines total none is so_far =
    let one : pairs_from past atoms before (place + 1) (drop place (texts lines))
    ≡ Err (record { line = length lines + 1; cause = Short }) = rw (drop_texts_past lines place none, is) refl in
    sym so_far ∙ one

-- Lines after those that decide change no answer.
use Rattle.std.proofs.Common.{◌≡◌, ◌⊎◌, inl, inr, ◌≤◌, ◌<◌, ◌+◌, ℕ, zero, suc, List, [], ◌∷◌, ◌++◌, length, Result, Ok, Err, Option, Some, None, Bool, true, false, refl, sym, ap, ◌∙◌, arith, slice_get}
use Rattle.std.proofs.lemmas.Bool.{cases_lt}
use Rattle.std.proofs.lemmas.List.{take_all, take-append-le}
use Rattle.cip_mol.specs.Drawing.{Drawing}
use Rattle.cip_mol.specs.declared.labels.refusal.ReadCause.TheVariants.{Short}
use Rattle.cip_mol.specs.declared.labels.refusal.ReadFault.{ReadFault}
use Rattle.cip_rank.specs.declared.rules.Rules.{Rules}
use Rattle.cip_ctfile.specs.Laws.{Reader, IsDecidedBy, IsDecidedInOrder}
use Rattle.cip_ctfile.specs.Reading.{read_at}
use Rattle.cip_v2000.specs.Grammar as v2000
use Rattle.cip_v2000.specs.Version.{is_v3000, line_is_v3000}
use Rattle.cip_laws.proofs.lemmas.v2000_lines.InOrder as old
use Rattle.cip_v3000.specs.Grammar as v3000
use Rattle.cip_laws.proofs.lemmas.v3000_lines.InOrder as new
use Rattle.cip_answer.specs.Answers.{of_reading}
use Rattle.cip_answer.specs.Laws.{IsComplete, LinesBehindChangeNothing}
use Rattle.cip_molfile.specs.Molecules.{read_molecule}

-- a line is due and missing
abbrev pub IsShort : {A : Type 0} → Result A ReadFault → Type 0
IsShort (Ok x) = ⊥
IsShort (Err fault) = fault.cause ≡ Short

short_by : {A : Type 0} (result : Result A ReadFault) (number : ℕ)
    → result ≡ Err (record { line = number; cause = Short }) → IsShort result
short_by result number e = rw e refl

-- where no line is missing, nobody reads those after it
behind_by : {A : Type 0} (Tells : List (List ℕ) → ℕ → ℕ → Type 0) (read : Reader A) (lines more : List (List ℕ))
    (decisive : ℕ) → IsDecidedBy Tells read lines decisive → (IsShort (read lines) → ⊥)
    → (length lines < decisive) ⊎ (decisive ≤ length lines) → read (lines ++ more) ≡ read lines
behind_by Tells read lines more decisive by long (inl past) =
    absurd (long (short_by (read lines) (length lines + 1)
    (ap read (sym (take_all (length lines) lines (omega arith))) ∙ by.before (length lines) past)))
behind_by Tells read lines more decisive by long (inr within) =
    by.kept (lines ++ more) (take-append-le decisive lines more within)

pub read_behind : {A : Type 0} (Tells : List (List ℕ) → ℕ → ℕ → Type 0) (read : Reader A)
    → IsDecidedInOrder Tells read → (lines more : List (List ℕ)) → (IsShort (read lines) → ⊥)
    → read (lines ++ more) ≡ read lines
read_behind Tells read in_order lines more long =
    behind_by Tells read lines more (in_order lines).0 (in_order lines).1 long
    (cases_lt (length lines) (in_order lines).0)

-- the fourth line gives the version

same_line : (lines more : List (List ℕ)) (k : ℕ) (line : List ℕ) → slice_get lines k ≡ Some line
    → slice_get (lines ++ more) k ≡ Some line
same_line [] more k line h = absurd cc
same_line (x ∷ lines) more zero line h = h
same_line (x ∷ lines) more (suc k) line h = same_line lines more k line h

none_short : (lines : List (List ℕ)) → slice_get lines 3 ≡ None → IsShort (v2000.molecule_of lines)
unfolding v2000.molecule_of read_at
none_short lines h = rw h refl

version_by : (lines more : List (List ℕ)) (fourth : Option (List ℕ)) → slice_get lines 3 ≡ fourth
    → (IsShort (read_molecule lines) → ⊥) → is_v3000 (lines ++ more) ≡ is_v3000 lines
version_by lines more None h long = absurd (long (rw h (none_short lines h)))
version_by lines more (Some line) h long = ap line_is_v3000 (same_line lines more 3 line h ∙ sym h)

molecule_by : (lines more : List (List ℕ)) (k : Bool) → is_v3000 lines ≡ k → is_v3000 (lines ++ more) ≡ k
    → (IsShort (read_molecule lines) → ⊥) → read_molecule (lines ++ more) ≡ read_molecule lines
molecule_by lines more true e f long =
    rw (e, f) (read_behind _ v3000.molecule_of new.molecule_in_order lines more (rw e at long))
molecule_by lines more false e f long =
    rw (e, f) (read_behind _ v2000.molecule_of old.molecule_in_order lines more (rw e at long))

pub molecule_behind : (lines more : List (List ℕ)) → (IsShort (read_molecule lines) → ⊥)
    → read_molecule (lines ++ more) ≡ read_molecule lines
molecule_behind lines more long = molecule_by lines more (is_v3000 lines) refl
    (version_by lines more (slice_get lines 3) refl long) long

complete_by : (rules : Rules) (nodes : ℕ) (result : Result Drawing ReadFault) → IsComplete (of_reading rules nodes result)
    → IsShort result → ⊥
complete_by rules nodes (Ok drawing) complete short = short
complete_by rules nodes (Err fault) complete short = complete short

pub lines_behind : LinesBehindChangeNothing
lines_behind rules nodes lines more complete =
    ap (of_reading rules nodes) (molecule_behind lines more (complete_by rules nodes (read_molecule lines) complete))

-- The keys of an atom line. CTfile Formats, V3000; that every other key is passed over, and that of a repeated key the
-- last one holds, is own.
use Rattle.std.specs.Prelude.{◌≤◌, ℕ, ℤ, pos, negsuc, unsigned_abs, List, Result, Ok, codes, if◌then◌else◌}
use Rattle.std.specs.Option.{ok_or}
use Rattle.std.specs.Str.{bytes_eq}
use Rattle.cip_mol.specs.declared.labels.refusal.ReadCause.{ReadCause}
use Rattle.cip_mol.specs.declared.labels.refusal.ReadCause.TheVariants.{KeyValue}
use Rattle.cip_ctfile.specs.Fields.{parse_number, parse_signed}
use Rattle.cip_ctfile.specs.Reading.{◌>>=◌}
use Rattle.cip_ctfile.specs.Turns.{over}
use Rattle.cip_v3000.specs.declared.values.keys.AtomKeys.{AtomKeys}
use Rattle.cip_v3000.specs.Words.{keyed}

-- VAL=-1 says that there is no valence, which the mark 15 says
abbrev pub valence_of : ℤ → ℕ
valence_of (pos n) = n
valence_of (negsuc n) = 15

abbrev pub with_value : AtomKeys → List ℕ × List ℕ → Result AtomKeys ReadCause
with_value keys word =
    if bytes_eq word.0 (codes "CHG") then
    (ok_or (parse_signed 15 15 word.1) KeyValue >>= (λ n. Ok (record keys { charge = n })))
    else if bytes_eq word.0 (codes "RAD") then
    (ok_or (parse_number 3 word.1) KeyValue >>= (λ n. Ok (record keys { radical = n })))
    else if bytes_eq word.0 (codes "MASS") then
    (ok_or (parse_number 400 word.1) KeyValue >>= (λ n. Ok (record keys { mass = n })))
    else if bytes_eq word.0 (codes "VAL") then
    (ok_or (parse_signed 1 14 word.1) KeyValue >>= (λ n. Ok (record keys { valence_mark = valence_of n })))
    else Ok keys

-- a key word after those before it
unfoldable pub with_key : AtomKeys → List ℕ → Result AtomKeys ReadCause
with_key keys word = do
  parts ← ok_or (keyed word) KeyValue
  with_value keys parts

abbrev pub keys_from : AtomKeys → List (List ℕ) → Result AtomKeys ReadCause
keys_from keys words = over with_key keys words

pub record AreKeys (keys : AtomKeys) : Type 0 where
  pub charge : unsigned_abs keys.charge ≤ 15
  pub radical : keys.radical ≤ 3
  pub mass : keys.mass ≤ 400
  pub valence_mark : keys.valence_mark ≤ 15

-- What is read of a property line has one fault, or none.
use Rattle.std.proofs.Common.{◌≡◌, ◌+◌, ◌*◌, ℕ, zero, suc, List, [], ◌∷◌, ◌++◌, Result, Ok, Err, Option, Some, None, drop, ap}
use Rattle.std.specs.Option.{ok_or}
use Rattle.cip_mol.specs.declared.labels.refusal.ReadFault.{ReadFault}
use Rattle.cip_v2000.specs.declared.properties.Property.{Property}
use Rattle.cip_v2000.specs.declared.atom_properties.Pair.{Pair}
use Rattle.cip_ctfile.specs.Fields.{number_in, one_based_index}
use Rattle.cip_ctfile.specs.Spaces.{spaced_words_of}
use Rattle.cip_v2000.specs.PropertyLines.{pair_at, pair_row, pairs_of, counted_pairs, pairs_stated, pairs_with, property_of}
use Rattle.cip_ctfile.specs.Reading.{◌>>=◌, in_turn, through, pushing}

abbrev pub OnlyFails : {A : Type 0} → ReadFault → Result A ReadFault → Type 0
OnlyFails fault read = (other : ReadFault) → read ≡ Err other → other ≡ fault

ok_or_fails : {A : Type 0} (fault : ReadFault) (given : Option A) → OnlyFails fault (ok_or given fault)
ok_or_fails fault None other e = cc
ok_or_fails fault (Some x) other e = absurd cc

bind_fails : {A B : Type 0} (fault : ReadFault) (read : Result A ReadFault) (next : A → Result B ReadFault)
    → OnlyFails fault read → ((x : A) → OnlyFails fault (next x)) → OnlyFails fault (read >>= next)
bind_fails fault (Ok x) next fails each other e = each x other e
bind_fails fault (Err given) next fails each other e =
    let same : given ≡ other = cc in
    fails other (ap (λ f. Err f) same)

rows_fail : (fault : ReadFault) (row : List Pair → ℕ → Result Pair ReadFault)
    → ((before : List Pair) (number : ℕ) → OnlyFails fault (row before number))
    → (before : List Pair) (count number : ℕ) → OnlyFails fault (in_turn row before count number)
unfolding in_turn through
rows_fail fault row each before zero number other e = absurd cc
rows_fail fault row each before (suc count) number other e =
    bind_fails fault (pushing row before number) (λ now. in_turn row now count (number + 1))
    (bind_fails fault (row before number) (λ x. Ok (before ++ x ∷ [])) (each before number) (λ x last f. absurd cc))
    (λ now. rows_fail fault row each now count (number + 1)) other e

counted_fail : (fault : ReadFault) (property : Property) (atoms : ℕ) (before : List Pair) (words : List (List ℕ))
    → OnlyFails fault (counted_pairs fault property atoms before words)
counted_fail fault property atoms before [] other e = cc
counted_fail fault property atoms before (count ∷ words) other e =
    bind_fails fault (ok_or (one_based_index (number_in 8 count)) fault)
    (λ last. pairs_of fault property atoms before (last + 1) words)
    (ok_or_fails fault (one_based_index (number_in 8 count)))
    (λ last. rows_fail fault (pair_row fault property atoms words)
    (λ ps row. ok_or_fails fault (pair_at property atoms words (2 * row))) before (last + 1) 0) other e

stated_fail : (fault : ReadFault) (property : Option Property) (atoms : ℕ) (before : List Pair) (line : List ℕ)
    → OnlyFails fault (pairs_stated fault property atoms before line)
stated_fail fault None atoms before line other e = absurd cc
stated_fail fault (Some property) atoms before line other e =
    counted_fail fault property atoms before (spaced_words_of (drop 6 line)) other e

pub pairs_with_fails : (fault : ReadFault) (atoms : ℕ) (before : List Pair) (line : List ℕ)
    → OnlyFails fault (pairs_with fault atoms before line)
unfolding pairs_with
pairs_with_fails fault atoms before line = stated_fail fault (property_of line) atoms before line

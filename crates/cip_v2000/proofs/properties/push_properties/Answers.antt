use Rattle.std.proofs.Common.{◌≡◌, ◌∙◌, ◌-◌, ℕ, List, Bor, Some, arith, drop, length, sym, take, ap}
use Rattle.std.proofs.lemmas.Grind.{common_steps}
use Rattle.std.proofs.lemmas.List.{take_all}
use Rattle.cip_text.specs.Slices.{texts}
use Rattle.cip_mol.specs.declared.labels.refusal.ReadFault.{ReadFault}
use Rattle.cip_ctfile.specs.Spaces.{spaced_words_of}
use Rattle.cip_v2000.specs.PropertyLines.{counted_pairs, pairs_stated, pairs_with, property_of}
use Rattle.cip_v2000.specs.declared.properties.Property.{Property}
use Rattle.cip_v2000.specs.declared.atom_properties.Pair.{Pair}
use Rattle.cip_v2000.proofs.properties.push_properties.Goals as goal

whole_rest : {A : Type 0} (n : ℕ) (xs : List A) → take (length xs - n) (drop n xs) ≡ drop n xs
whole_rest n xs = take_all (length xs - n) (drop n xs) (grind (arith, common_steps))

module _ (fault : ReadFault) (atoms : ℕ) (before : List Pair) (property : Property) where
  -- what a line states of pairs is in the words after its first six columns
  in_words : (line : List ℕ) (words : List (Bor (List ℕ))) → Some property ≡ property_of line
      → texts words ≡ spaced_words_of (drop 6 line)
      → pairs_with fault atoms before line ≡ counted_pairs fault property atoms before (texts words)
  unfolding pairs_with
  in_words line words is read =
      ap (λ p. pairs_stated fault p atoms before line) (sym is)
      ∙ ap (counted_pairs fault property atoms before) (sym read)

pub returns-in-Ok-clause-value : goal.returns-in-Ok-clause-value
returns-in-Ok-clause-value c =
    rw (in_words c.args.fault c.args.atoms c.args.pairs.now.items c.in-Some.property c.args.line.now
    c.as_slice.result.now c.in-Some.ensures.value
    (ap texts c.as_slice.ensures.value ∙ c.in-Ok.ensures ∙ ap spaced_words_of (whole_rest 6 c.args.line.now)))
    c.push_counted.ensures.value

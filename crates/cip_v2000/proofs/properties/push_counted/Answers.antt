use Rattle.std.proofs.Common.{◌≡◌, ◌<◌, ◌≤◌, ◌∙◌, ◌+◌, ◌-◌, ℕ, List, [], ◌∷◌, Bor, Err, None, Some, Fits, w32, arith, drop, get_or, length, refl, sym, take, ap}
use Rattle.std.specs.Option.{ok_or}
use Rattle.std.proofs.lemmas.Grind.{common_steps}
use Rattle.std.proofs.lemmas.List.{take_all}
use Rattle.cip_text.specs.Slices.{texts}
use Rattle.cip_mol.specs.declared.labels.refusal.ReadFault.{ReadFault}
use Rattle.cip_ctfile.specs.Fields.{number_in, one_based_index}
use Rattle.cip_ctfile.specs.Reading.{◌>>=◌}
use Rattle.cip_v2000.specs.PropertyLines.{counted_pairs, pairs_of}
use Rattle.cip_v2000.specs.declared.properties.Property.{Property}
use Rattle.cip_v2000.specs.declared.atom_properties.Pair.{Pair}
use Rattle.cip_v2000.proofs.properties.push_counted.Goals as goal

whole_rest : {A : Type 0} (n : ℕ) (xs : List A) → take (length xs - n) (drop n xs) ≡ drop n xs
whole_rest n xs = take_all (length xs - n) (drop n xs) (grind (arith, common_steps))

one_more : (last : ℕ) → last < 8 → last + 1 ≤ 8
one_more last few = omega (arith, few)

fits_counted : (n : ℕ) → n ≤ 8 → Fits w32 n
fits_counted n few = omega (arith, few)

module _ (fault : ReadFault) (atoms : ℕ) (before : List Pair) (property : Property) where
  no_count : (words : List (Bor (List ℕ))) → length words < 1
      → counted_pairs fault property atoms before (texts words) ≡ Err fault
  no_count [] few = refl
  no_count (word ∷ words) few = absurd (omega (arith, few))

  no_last : (words : List (Bor (List ℕ))) (d : Bor (List ℕ)) → 1 ≤ length words
      → None ≡ one_based_index (number_in 8 (get_or words 0 d).now)
      → counted_pairs fault property atoms before (texts words) ≡ Err fault
  no_last [] d more at = absurd (omega (arith, more))
  no_last (word ∷ words) d more at =
      ap (λ o. ok_or o fault >>= λ last. pairs_of fault property atoms before (last + 1) (texts words)) (sym at)

  some_last : (words : List (Bor (List ℕ))) (d : Bor (List ℕ)) (last : ℕ)
      → 1 ≤ length words → Some last ≡ one_based_index (number_in 8 (get_or words 0 d).now)
      → counted_pairs fault property atoms before (texts words)
      ≡ pairs_of fault property atoms before (last + 1) (texts (drop 1 words))
  some_last [] d last more at = absurd (omega (arith, more))
  some_last (word ∷ words) d last more at =
      ap (λ o. ok_or o fault >>= λ last. pairs_of fault property atoms before (last + 1) (texts words)) (sym at)

pub returns-in-None-clause-value : goal.returns-in-None-clause-value
returns-in-None-clause-value c =
    no_last c.args.fault c.args.atoms c.args.pairs.now.items c.args.property c.args.words.now _
    c.in-len1-up.len_at_least c.in-None.ensures.value

pub returns-in-Some-clause-value : goal.returns-in-Some-clause-value
returns-in-Some-clause-value c =
    let e : counted_pairs c.args.fault c.args.property c.args.atoms c.args.pairs.now.items (texts c.args.words.now)
    ≡ pairs_of c.args.fault c.args.property c.args.atoms c.args.pairs.now.items (c.in-Some.last + 1)
    (texts (take (length c.args.words.now - 1) (drop 1 c.args.words.now))) =
    some_last c.args.fault c.args.atoms c.args.pairs.now.items c.args.property c.args.words.now _ _
    c.in-len1-up.len_at_least c.in-Some.ensures.value
    ∙ ap (λ words. pairs_of c.args.fault c.args.property c.args.atoms c.args.pairs.now.items (c.in-Some.last + 1)
    (texts words)) (sym (whole_rest 1 c.args.words.now)) in
    rw e c.push_pairs.ensures.value

pub push_pairs-requires-clause-few : goal.push_pairs-requires-clause-few
push_pairs-requires-clause-few c = c.requires.few

pub push_pairs-requires-clause-count : goal.push_pairs-requires-clause-count
push_pairs-requires-clause-count c = one_more c.in-Some.last c.in-Some.ensures.range

pub push_pairs-requires-clause-range : goal.push_pairs-requires-clause-range
push_pairs-requires-clause-range c = c.requires.range

pub overflow_add-last : goal.overflow_add-last
overflow_add-last c = fits_counted (c.in-Some.last + 1) (one_more c.in-Some.last c.in-Some.ensures.range)

-- Every value line of an answer may be in an item.
use Rattle.std.proofs.Common.{◌≡◌, ◌+◌, ◌/◌, ◌%◌, ◌++◌, ◌==◌, ℕ, zero, suc, List, [], ◌∷◌, Bool, true, false, Option, Some, None, refl, ◌∙◌, arith, codes, min, max, take, drop, length, slice_get, nat_le, nat_lt}
use Rattle.std.specs.Fmt.{digits, digits_onto, digit_glyph, decimal}
use Rattle.std.specs.List.{list_all, list_any, filter_map, cons_option}
use Rattle.std.proofs.lemmas.Bool.{and_parts, and_from}
use Rattle.std.proofs.lemmas.List.Folds.{list_all-append}
use Rattle.std.proofs.lemmas.Grind.{common_steps}
use Rattle.cip_item.specs.Putting.{is_value}
use Rattle.cip_mol.specs.declared.labels.descriptor.Descriptor.{Descriptor}
use Rattle.cip_mol.specs.declared.labels.descriptor.Descriptor.TheVariants.{R, S, SmallR, SmallS, M, P, SmallM, SmallP, Z, E, SeqCis, SeqTrans}
use Rattle.cip_mol.specs.declared.labels.outcome.Label.{Label}
use Rattle.cip_mol.specs.declared.labels.outcome.Outcome.{Outcome}
use Rattle.cip_mol.specs.declared.labels.outcome.Outcome.TheVariants as outcomes
use Rattle.cip_mol.specs.declared.labels.outcome.Rule.{Rule}
use Rattle.cip_mol.specs.declared.labels.outcome.Rule.TheVariants.{R1a, R1b, R2, R3, R4a, R4b, R4c, R5}
use Rattle.cip_mol.specs.declared.labels.refusal.ReadCause.{ReadCause}
use Rattle.cip_mol.specs.declared.labels.refusal.ReadCause.TheVariants.{Short, Version, Counts, Coordinate, Symbol, AtomField, BondEnd, BondType, BondMark, BondLoop, BondDoubled, Degree, Property, Frame, Index, KeyValue}
use Rattle.cip_mol.specs.declared.labels.refusal.ReadFault.{ReadFault}
use Rattle.cip_mol.specs.declared.site.Ligand.{Ligand}
use Rattle.cip_mol.specs.declared.site.Ligand.TheVariants.{Vertex, LonePair}
use Rattle.cip_mol.specs.declared.site.Site.{Site}
use Rattle.cip_mol.specs.declared.site.Site.TheVariants.{Centre, Bond, Axis}
use Rattle.cip_mol.specs.Causes.{cause_text}
use Rattle.cip_mol.specs.Letters.{letter_text, rule_text}
use Rattle.cip_rank.specs.declared.rules.Rules.{Rules}
use Rattle.cip_rank.specs.declared.rules.Rules.TheVariants.{Wording2013, Wording2018}
use Rattle.cip_print.specs.declared.answer.Answer.TheVariants.{Labelled, Refused}
use Rattle.cip_print.specs.declared.answer.UnitAnswer.{UnitAnswer}
use Rattle.cip_print.specs.declared.unit_name.UnitName.{UnitName}
use Rattle.cip_print.specs.declared.unit_name.UnitName.TheVariants as names
use Rattle.cip_print.specs.Labels.{ligand_name, spaced_name, names_at, names_of_ends, names_in_order, label_line, ordered_label}
use Rattle.cip_print.specs.Laws.{ValuesAreFit}
use Rattle.cip_print.specs.Naming.{number, pair, name_text}
use Rattle.cip_print.specs.Refusals.{refusal_line}
use Rattle.cip_print.specs.Values.{year_text, settings_line, outcome_line, unit_line, or_none, values_of}

-- bytes that end no line

abbrev is_plain : List ℕ → Bool
is_plain text = list_all (λ b. nat_le 32 b) text

plain_both : (xs ys : List ℕ) → is_plain xs ≡ true → is_plain ys ≡ true → is_plain (xs ++ ys) ≡ true
plain_both xs ys h k = list_all-append (λ b. nat_le 32 b) xs ys ∙ and_from (is_plain xs) (is_plain ys) h k

no_end : (b : ℕ) → nat_le 32 b ≡ true → ((b == 10) ≡ false) × ((b == 13) ≡ false)
no_end b h = (grind (arith, common_steps), grind (arith, common_steps))

record OnOneLine (text : List ℕ) : Type 0 where
  line : list_any (λ b. b == 10) text ≡ false
  return : list_any (λ b. b == 13) text ≡ false

on_one_line : (text : List ℕ) → is_plain text ≡ true → OnOneLine text
on_one_line [] h = record { line = refl; return = refl }
on_one_line (b ∷ bs) h =
    let each = and_parts (nat_le 32 b) (is_plain bs) h in
    let here = no_end b each.0 in
    let more : OnOneLine bs = on_one_line bs each.1 in
    record { line = rw (here.0, more.line) refl; return = rw (here.1, more.return) refl }

-- a text that begins with a small letter

abbrev begins_small : List ℕ → Bool
begins_small [] = false
begins_small (b ∷ bs) = nat_le 97 b

record IsFit (text : List ℕ) : Type 0 where
  begun : begins_small text ≡ true
  plain : is_plain text ≡ true

record IsSmall (b : ℕ) : Type 0 where
  space : (b == 32) ≡ false
  tab : (b == 9) ≡ false
  dollar : (b == 36) ≡ false
  letter : (b == 77) ≡ false

is_small : (b : ℕ) → nat_le 97 b ≡ true → IsSmall b
is_small b h = record {
  space = grind (arith, common_steps);
  tab = grind (arith, common_steps);
  dollar = grind (arith, common_steps);
  letter = grind (arith, common_steps);
}

fit_value : (text : List ℕ) → IsFit text → is_value text ≡ true
fit_value [] fit = absurd (grind (arith, fit.begun))
fit_value (b ∷ bs) fit =
    let small : IsSmall b = is_small b fit.begun in
    let one : OnOneLine (b ∷ bs) = on_one_line (b ∷ bs) fit.plain in
    let some : nat_lt 0 (length (b ∷ bs)) ≡ true = grind (arith, common_steps) in
    rw (one.line, one.return) (rw (small.space, small.tab, small.dollar, small.letter, some) refl)

begun_more : (xs ys : List ℕ) → begins_small xs ≡ true → begins_small (xs ++ ys) ≡ true
begun_more [] ys h = absurd (grind (arith, h))
begun_more (b ∷ bs) ys h = h

fit_more : (xs ys : List ℕ) → IsFit xs → is_plain ys ≡ true → IsFit (xs ++ ys)
fit_more xs ys fit plain =
    record { begun = begun_more xs ys fit.begun; plain = plain_both xs ys fit.plain plain }

-- numbers

glyph_plain : (d : ℕ) (k : Bool) → nat_lt d 10 ≡ k → nat_le 32 (digit_glyph false d) ≡ true
glyph_plain d true e = rw e (grind (arith, common_steps))
glyph_plain d false e = rw e (grind (arith, common_steps))

onto_by : (k n : ℕ) (more : List ℕ) (z : Bool) → (n / 10 == 0) ≡ z
    → is_plain (digit_glyph false (n % 10) ∷ more) ≡ true
    → is_plain (digits_onto k 10 false (n / 10) (digit_glyph false (n % 10) ∷ more)) ≡ true
    → is_plain (digits_onto (suc k) 10 false n more) ≡ true
onto_by k n more true e now later = rw e now
onto_by k n more false e now later = rw e later

onto_plain : (k n : ℕ) (more : List ℕ) → is_plain more ≡ true → is_plain (digits_onto k 10 false n more) ≡ true
onto_plain zero n more h = h
onto_plain (suc k) n more h =
    let now : is_plain (digit_glyph false (n % 10) ∷ more) ≡ true =
    and_from (nat_le 32 (digit_glyph false (n % 10))) (is_plain more)
    (glyph_plain (n % 10) (nat_lt (n % 10) 10) refl) h in
    onto_by k n more (n / 10 == 0) refl now (onto_plain k (n / 10) (digit_glyph false (n % 10) ∷ more) now)

decimal_plain : (n : ℕ) → is_plain (decimal n) ≡ true
unfolding digits
decimal_plain n = onto_plain 64 n [] refl

-- words

letter_plain : (letter : Descriptor) → is_plain (letter_text letter) ≡ true
letter_plain R = refl
letter_plain S = refl
letter_plain SmallR = refl
letter_plain SmallS = refl
letter_plain M = refl
letter_plain P = refl
letter_plain SmallM = refl
letter_plain SmallP = refl
letter_plain Z = refl
letter_plain E = refl
letter_plain SeqCis = refl
letter_plain SeqTrans = refl

rule_plain : (rule : Rule) → is_plain (rule_text rule) ≡ true
rule_plain R1a = refl
rule_plain R1b = refl
rule_plain R2 = refl
rule_plain R3 = refl
rule_plain R4a = refl
rule_plain R4b = refl
rule_plain R4c = refl
rule_plain R5 = refl

cause_plain : (cause : ReadCause) → is_plain (cause_text cause) ≡ true
cause_plain Short = refl
cause_plain Version = refl
cause_plain Counts = refl
cause_plain Coordinate = refl
cause_plain Symbol = refl
cause_plain AtomField = refl
cause_plain BondEnd = refl
cause_plain BondType = refl
cause_plain BondMark = refl
cause_plain BondLoop = refl
cause_plain BondDoubled = refl
cause_plain Degree = refl
cause_plain Property = refl
cause_plain Frame = refl
cause_plain Index = refl
cause_plain KeyValue = refl

year_plain : (rules : Rules) → is_plain (year_text rules) ≡ true
year_plain Wording2013 = refl
year_plain Wording2018 = refl

-- units

pair_plain : (a b : ℕ) → is_plain (pair a b) ≡ true
pair_plain a b = plain_both (number (min a b)) (codes "-" ++ number (max a b)) (decimal_plain (min a b + 1))
    (plain_both (codes "-") (number (max a b)) refl (decimal_plain (max a b + 1)))

name_fit : (name : UnitName) → IsFit (name_text name)
name_fit (names.Centre at) =
    fit_more (codes "a") (number at) (record { begun = refl; plain = refl }) (decimal_plain (at + 1))
name_fit (names.Bond a b) = fit_more (codes "b") (pair a b) (record { begun = refl; plain = refl }) (pair_plain a b)
name_fit (names.Axis a b) = fit_more (codes "x") (pair a b) (record { begun = refl; plain = refl }) (pair_plain a b)
name_fit (names.Cumulene a b) = fit_more (codes "c") (pair a b) (record { begun = refl; plain = refl }) (pair_plain a b)
name_fit (names.Biaryl a b) = fit_more (codes "t") (pair a b) (record { begun = refl; plain = refl }) (pair_plain a b)

ligand_by : (drawn vertex : ℕ) (k : Bool) → nat_lt vertex drawn ≡ k → is_plain (ligand_name drawn (Vertex vertex)) ≡ true
ligand_by drawn vertex true e = rw e (decimal_plain (vertex + 1))
ligand_by drawn vertex false e = rw e refl

ligand_plain : (drawn : ℕ) (ligand : Ligand) → is_plain (ligand_name drawn ligand) ≡ true
ligand_plain drawn (Vertex vertex) = ligand_by drawn vertex (nat_lt vertex drawn) refl
ligand_plain drawn LonePair = refl

spaced_plain : (drawn : ℕ) (ligand : Option Ligand) → is_plain (spaced_name drawn ligand) ≡ true
spaced_plain drawn None = refl
spaced_plain drawn (Some ligand) =
    plain_both (codes " ") (ligand_name drawn ligand) refl (ligand_plain drawn ligand)

names_plain : (drawn : ℕ) (ligands : List Ligand) (places : List ℕ) → is_plain (names_at drawn ligands places) ≡ true
names_plain drawn ligands [] = refl
names_plain drawn ligands (place ∷ places) =
    plain_both (spaced_name drawn (slice_get ligands place)) (names_at drawn ligands places)
    (spaced_plain drawn (slice_get ligands place)) (names_plain drawn ligands places)

ends_plain : (drawn : ℕ) (first second : List Ligand) (places : List ℕ)
    → is_plain (names_of_ends drawn first second places) ≡ true
unfolding names_of_ends
ends_plain drawn first second places =
    plain_both (names_at drawn first (take (length first) places) ++ codes " |")
    (names_at drawn second (drop (length first) places))
    (plain_both (names_at drawn first (take (length first) places)) (codes " |")
    (names_plain drawn first (take (length first) places)) refl)
    (names_plain drawn second (drop (length first) places))

order_plain : (drawn : ℕ) (site : Site) (places : List ℕ) → is_plain (names_in_order drawn site places) ≡ true
order_plain drawn (Centre at ligands) places = names_plain drawn ligands places
order_plain drawn (Bond a b first second) places = ends_plain drawn first second places
order_plain drawn (Axis a middle b first second) places = ends_plain drawn first second places

label_fit : (name : List ℕ) (label : Label) → IsFit name → IsFit (label_line name label)
label_fit name label fit =
    fit_more name (codes " " ++ (letter_text label.letter ++ (codes " " ++ (rule_text label.rule ++ (codes " " ++ decimal label.sphere)))))
    fit
    (plain_both (codes " ") (letter_text label.letter ++ (codes " " ++ (rule_text label.rule ++ (codes " " ++ decimal label.sphere)))) refl
    (plain_both (letter_text label.letter) (codes " " ++ (rule_text label.rule ++ (codes " " ++ decimal label.sphere)))
    (letter_plain label.letter)
    (plain_both (codes " ") (rule_text label.rule ++ (codes " " ++ decimal label.sphere)) refl
    (plain_both (rule_text label.rule) (codes " " ++ decimal label.sphere) (rule_plain label.rule)
    (plain_both (codes " ") (decimal label.sphere) refl (decimal_plain label.sphere))))))

ordered_fit : (unit : UnitAnswer) (label : Label) → IsFit (ordered_label unit label)
unfolding ordered_label
ordered_fit unit label =
    fit_more (label_line (name_text unit.name) label ++ codes " order") (names_in_order unit.drawn unit.site label.order)
    (fit_more (label_line (name_text unit.name) label) (codes " order")
    (label_fit (name_text unit.name) label (name_fit unit.name)) refl)
    (order_plain unit.drawn unit.site label.order)

-- lines

abbrev AreValues : List (List ℕ) → Type 0
AreValues lines = list_all is_value lines ≡ true

line_first : (line : List ℕ) (lines : List (List ℕ)) → IsFit line → AreValues lines → AreValues (line ∷ lines)
line_first line lines fit more = and_from (is_value line) (list_all is_value lines) (fit_value line fit) more

outcome_first : (unit : UnitAnswer) (outcome : Outcome) (lines : List (List ℕ)) → AreValues lines
    → AreValues (cons_option (outcome_line unit outcome) lines)
outcome_first unit (outcomes.Label label) lines more =
    line_first (ordered_label unit label) lines (ordered_fit unit label) more
outcome_first unit outcomes.Over lines more =
    line_first (name_text unit.name ++ codes " over") lines
    (fit_more (name_text unit.name) (codes " over") (name_fit unit.name) refl) more
outcome_first unit outcomes.Tie lines more = more
outcome_first unit (outcomes.NoGeometry cause) lines more = more

units_fit : (units : List UnitAnswer) → AreValues (filter_map unit_line units)
units_fit [] = refl
units_fit (unit ∷ units) = outcome_first unit unit.outcome (filter_map unit_line units) (units_fit units)

or_none_fit : (lines : List (List ℕ)) → AreValues lines → AreValues (or_none lines)
or_none_fit [] h = refl
or_none_fit (line ∷ lines) h = h

settings_fit : (nodes : ℕ) (rules : Rules) → IsFit (settings_line nodes rules)
settings_fit nodes rules =
    fit_more (codes "cip 2 rule1b ") (year_text rules ++ (codes " nodes " ++ decimal nodes))
    (record { begun = refl; plain = refl })
    (plain_both (year_text rules) (codes " nodes " ++ decimal nodes) (year_plain rules)
    (plain_both (codes " nodes ") (decimal nodes) refl (decimal_plain nodes)))

refusal_fit : (fault : ReadFault) → IsFit (refusal_line fault)
refusal_fit fault =
    fit_more (codes "refused ") (decimal fault.line ++ (codes " " ++ cause_text fault.cause))
    (record { begun = refl; plain = refl })
    (plain_both (decimal fault.line) (codes " " ++ cause_text fault.cause) (decimal_plain fault.line)
    (plain_both (codes " ") (cause_text fault.cause) refl (cause_plain fault.cause)))

pub values_are_fit : ValuesAreFit
unfolding values_of
values_are_fit nodes rules (Labelled units) =
    line_first (settings_line nodes rules) (or_none (filter_map unit_line units)) (settings_fit nodes rules)
    (or_none_fit (filter_map unit_line units) (units_fit units))
values_are_fit nodes rules (Refused fault) =
    line_first (settings_line nodes rules) (refusal_line fault ∷ []) (settings_fit nodes rules)
    (line_first (refusal_line fault) [] (refusal_fit fault) refl)

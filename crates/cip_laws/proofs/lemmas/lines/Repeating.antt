-- A line at which an atom is reported as repeated names an atom again.
use Rattle.std.proofs.Common.{◌≡◌, inl, inr, ℕ, List, [], ◌∷◌, ◌++◌, ◌||◌, Bool, true, false, not, Result, Ok, Err, Option, Some, None, cond, refl, sym, ap, ◌∙◌}
use Rattle.std.specs.Prelude.{nat_eq}
use Rattle.std.specs.List.{list_any, cons_option}
use Rattle.std.proofs.lemmas.List.{append-nil}
use Rattle.std.proofs.Math.Bool.{or-true}
use Rattle.cip_ctfile.specs.Reading.{◌>>=◌}
use Rattle.cip_ctfile.specs.Turns.{over}
use Rattle.cip_v3000.specs.declared.lines.block_lines.BlockLine.TheVariants.{BeginCollection, EndCollection}
use Rattle.cip_v3000.specs.Frames.{is_frame}
use Rattle.cip_stereogroups.specs.declared.collection_blocks.GroupBuilder.{GroupBuilder}
use Rattle.cip_stereogroups.specs.declared.faults.GroupCause.{GroupCause}
use Rattle.cip_stereogroups.specs.declared.faults.GroupCause.TheVariants.{Frame, Name, Repeated}
use Rattle.cip_stereogroups.specs.declared.faults.GroupFault.{GroupFault}
use Rattle.cip_stereogroups.specs.declared.groups.Group.{Group}
use Rattle.cip_stereogroups.specs.declared.kinds.GroupKind.{GroupKind}
use Rattle.cip_stereogroups.specs.AtomLists.{names_of, atoms_of, with_taken, all_taken}
use Rattle.cip_stereogroups.specs.Collections.{with_kind, with_words, with_joined}
use Rattle.cip_stereogroups.specs.Names.{kind_of}
use Rattle.cip_stereogroups.specs.Reading.{told_at}
use Rattle.cip_stereogroups.proofs.lemmas.LineBuilder.{read_from_told}
use Rattle.cip_laws.specs.GroupLines.{stands_in, listed, group_by, line_group, atoms_in, repeats}
use Rattle.cip_laws.proofs.lemmas.lines.LineSteps.{reads_as}
use Rattle.cip_laws.proofs.lemmas.lines.OtherCauses.{refused_of, kind_not_told, names_not_told, atoms_not_told}
use Rattle.cip_laws.proofs.lemmas.lines.TakenAtoms.{taken_by}

again : (before : List ℕ) (atom : ℕ) (b : Bool) → list_any (nat_eq atom) before ≡ b
    → with_taken before atom ≡ Err Repeated → b ≡ true
again before atom true is e = refl
again before atom false is e = absurd (let no : Ok (before ++ atom ∷ []) ≡ Err Repeated = rw is at e in cc)

taken_twice : (before atoms : List ℕ) → all_taken before atoms ≡ Err Repeated → repeats before atoms ≡ true
unfolding over
taken_twice before [] e = absurd cc
taken_twice before (atom ∷ atoms) e =
    elim (refused_of (with_taken before atom) (λ taken. all_taken taken atoms) Repeated e) [
      | inl first ↦
          ap (λ b. b || repeats (before ++ atom ∷ []) atoms)
          (again before atom (list_any (nat_eq atom) before) refl first)
      | inr later ↦
          let one = taken_by before atom later.0 (list_any (nat_eq atom) before) refl later.1 in
          ap (λ b. list_any (nat_eq atom) before || b)
          (ap (λ taken. repeats taken atoms) (sym one.all) ∙ taken_twice later.0 atoms later.2)
          ∙ or-true (list_any (nat_eq atom) before)
    ]

abbrev pub repeated_at : ℕ → GroupFault
repeated_at number = record { line = number; cause = Repeated }

-- what a line's cause is reported for
pub record IsTold {A : Type 0} (number line : ℕ) (read : Result A GroupCause) : Type 0 where
  pub at : number ≡ line
  pub cause : read ≡ Err Repeated

line_in : {A : Type 0} → Result A GroupFault → ℕ
line_in (Ok x) = 0
line_in (Err fault) = fault.line

cause_in : {A : Type 0} → Result A GroupFault → GroupCause
cause_in (Ok x) = Name
cause_in (Err fault) = fault.cause

told_of : {A : Type 0} (number line : ℕ) (read : Result A GroupCause)
    → told_at number read ≡ Err (repeated_at line) → IsTold number line read
unfolding line_in cause_in
told_of number line (Ok x) e = absurd cc
told_of number line (Err cause) e = record { at = ap line_in e; cause = ap Err (ap cause_in e) }

-- the end of the table inside a collection is another cause
abbrev frame_refused : ℕ → Result (List Group) GroupFault
frame_refused number = Err (record { line = number; cause = Frame })

pub frame_not_told : (number line : ℕ)
    → frame_refused number ≡ Err (repeated_at line) → ⊥
unfolding cause_in
frame_not_told number line e = let no : Frame ≡ Repeated = ap cause_in e in absurd cc

-- a line that is refused is in a collection, and names an atom again
pub record NamesAgain (indices : List ℕ) (found : GroupBuilder) (number line : ℕ) (words : List (List ℕ)) : Type 0 where
  pub at : number ≡ line
  pub stands : stands_in found.inside words ≡ true
  pub named : repeats found.taken (atoms_in (cons_option (line_group indices number words) [])) ≡ true

module _ (indices : List ℕ) (number line : ℕ) (found : GroupBuilder) where
  abbrev Named : List (List ℕ) → Type 0
  Named words = (number ≡ line) × (repeats found.taken (atoms_in (cons_option (line_group indices number words) [])) ≡ true)

  of_kind : (name : List ℕ) (words : List (List ℕ)) (kind : Option GroupKind) → kind_of name ≡ Ok kind
      → with_kind indices number found words kind ≡ Err (repeated_at line) → Named (name ∷ words)
  of_kind name words None is e = absurd cc
  of_kind name words (Some kind) is e = elim (refused_of (told_at number (names_of words)) _ (repeated_at line) e) [
    | inl first ↦ absurd (names_not_told words (told_of number line (names_of words) first).cause)
    | inr names ↦ elim (refused_of (told_at number (atoms_of indices names.0)) _ (repeated_at line) names.2) [
      | inl first ↦ absurd (atoms_not_told indices names.0 (told_of number line (atoms_of indices names.0) first).cause)
      | inr atoms ↦ elim (refused_of (told_at number (all_taken found.taken atoms.0)) _ (repeated_at line) atoms.2) [
        | inl first ↦
            let stated = told_of number line (all_taken found.taken atoms.0) first in
            let names_are : names_of words ≡ Ok names.0 = sym (read_from_told number (names_of words) names.0 names.1) in
            let atoms_are : atoms_of indices names.0 ≡ Ok atoms.0 =
            sym (read_from_told number (atoms_of indices names.0) atoms.0 atoms.1) in
            let lists : listed indices words ≡ Ok atoms.0 =
            ap (λ read. read >>= λ names. atoms_of indices names) names_are ∙ atoms_are in (
              stated.at,
              ap
                  (λ read. repeats found.taken (atoms_in (cons_option (group_by number read (listed indices words)) [])))
                  is
                  ∙ ap
                  (λ read. repeats found.taken
                  (atoms_in (cons_option (group_by number (Ok (Some kind)) read) []))) lists
                  ∙ ap (repeats found.taken) (append-nil atoms.0)
                  ∙ taken_twice found.taken atoms.0 stated.cause,
            )
        | inr taken ↦ absurd (let no = taken.2 in cc)
      ]
    ]
  ]

  of_words : (words : List (List ℕ)) → with_words indices number found words ≡ Err (repeated_at line) → Named words
  of_words [] e = absurd cc
  of_words (name ∷ words) e =
      elim (refused_of (told_at number (kind_of name)) (with_kind indices number found words) (repeated_at line) e) [
        | inl first ↦ absurd (kind_not_told name (told_of number line (kind_of name) first).cause)
        | inr kind ↦ of_kind name words kind.0 (sym (read_from_told number (kind_of name) kind.0 kind.1)) kind.2
      ]

  again_by : (words : List (List ℕ)) (inside ends : Bool) → found.inside ≡ inside → is_frame EndCollection words ≡ ends
      → cond (not inside) (Ok (record found { inside = is_frame BeginCollection words }))
      (cond ends (Ok (record found { inside = false })) (with_words indices number found words)) ≡ Err (repeated_at line)
      → NamesAgain indices found number line words
  again_by words false ends is at e = absurd cc
  again_by words true true is at e = absurd cc
  again_by words true false is at e =
      let named = of_words words e in
      record { at = named.0; stands = rw (is, at) refl; named = named.1 }

  pub names_again : (words : List (List ℕ)) → with_joined indices number found words ≡ Err (repeated_at line)
      → NamesAgain indices found number line words
  names_again words e =
      again_by words found.inside (is_frame EndCollection words) refl refl
      (sym (reads_as indices number found words found.inside (is_frame EndCollection words) refl refl) ∙ e)

-- No other cause is reported as an atom that is named twice.
use Rattle.std.proofs.Common.{◌≡◌, ◌⊎◌, inl, inr, ℕ, List, [], ◌∷◌, ◌++◌, Bool, true, false, Result, Ok, Err, Option, Some, None, cond, refl, ap, drop, codes, ◌==◌}
use Rattle.std.specs.Prelude.{nat_eq}
use Rattle.std.specs.List.{starts_with}
use Rattle.std.specs.Option.{ok_or}
use Rattle.std.specs.Str.{bytes_eq}
use Rattle.cip_ctfile.specs.Fields.{parse_number}
use Rattle.cip_ctfile.specs.Reading.{◌>>=◌}
use Rattle.cip_ctfile.specs.Spaces.{spaced_words_of}
use Rattle.cip_ctfile.specs.Turns.{over}
use Rattle.cip_v3000.specs.BondLine.{place_named}
use Rattle.cip_stereogroups.specs.declared.faults.GroupCause.{GroupCause}
use Rattle.cip_stereogroups.specs.declared.faults.GroupCause.TheVariants.{Name, Word, Atom, Repeated}
use Rattle.cip_stereogroups.specs.declared.kinds.GroupKind.{GroupKind}
use Rattle.cip_stereogroups.specs.declared.kinds.GroupKind.TheVariants.{Absolute}
use Rattle.cip_stereogroups.specs.AtomLists.{is_counted, inner, with_inner, with_names, names_of, atom_of, with_atom, atoms_of}
use Rattle.cip_stereogroups.specs.Names.{unless_zero, number_of, racemic_by, relative_by, kind_of}

-- where something is refused
pub refused_of : {A B E : Type 0} (read : Result A E) (next : A → Result B E) (cause : E) → (read >>= next) ≡ Err cause
    → (read ≡ Err cause) ⊎ ((x : A) × (read ≡ Ok x) × (next x ≡ Err cause))
refused_of (Ok x) next cause e = inr (x, refl, e)
refused_of (Err other) next cause e = inl (let same : other ≡ cause = cc in ap Err same)

abbrev NotTold : {A : Type 0} → Result A GroupCause → Type 0
NotTold read = read ≡ Err Repeated → ⊥

-- each item gives another cause, so all of them do
over_not_told : {A X : Type 0} (read : A → X → Result A GroupCause) → ((before : A) (x : X) → NotTold (read before x))
    → (before : A) (xs : List X) → NotTold (over read before xs)
unfolding over
over_not_told read each before [] e = absurd cc
over_not_told read each before (x ∷ xs) e = elim (refused_of (read before x) (λ now. over read now xs) Repeated e) [
  | inl first ↦ each before x first
  | inr later ↦ over_not_told read each later.0 xs later.2
]

-- names

zero_not_told : (number : Option ℕ) → NotTold (unless_zero number)
zero_not_told None e = absurd cc
zero_not_told (Some number) e = by (number == 0) e
  where
    by : (b : Bool) → NotTold (cond b (Err Name) (Ok number))
    by true e = absurd cc
    by false e = absurd cc

number_not_told : (text : List ℕ) → NotTold (number_of text)
unfolding number_of
number_not_told text e = zero_not_told (parse_number 1000000000 text) e

numbered_not_told : (text : List ℕ) (kind : ℕ → GroupKind)
    → NotTold (number_of text >>= λ number. Ok (Some (kind number)))
numbered_not_told text kind e = elim (refused_of (number_of text) (λ number. Ok (Some (kind number))) Repeated e) [
  | inl first ↦ number_not_told text first
  | inr later ↦ absurd (let no : Ok (Some (kind later.0)) ≡ Err Repeated = later.2 in cc)
]

pub kind_not_told : (word : List ℕ) → NotTold (kind_of word)
unfolding kind_of
kind_not_told word e =
    by (bytes_eq word (codes "MDLV30/STEABS")) (starts_with nat_eq word (codes "MDLV30/STERAC"))
    (starts_with nat_eq word (codes "MDLV30/STEREL")) e
  where
    by : (a b c : Bool)
        → NotTold (cond a (Ok (Some Absolute)) (cond b (racemic_by (drop 13 word))
        (cond c (relative_by (drop 13 word)) (Ok None))))
    by true b c e = absurd cc
    by false true c e = numbered_not_told (drop 13 word) _ e
    by false false true e = numbered_not_told (drop 13 word) _ e
    by false false false e = absurd cc

-- lists of atoms

word_by : (before parts : List (List ℕ)) (b : Bool)
    → NotTold (cond b (Ok (before ++ drop 1 parts)) (Err Word))
word_by before parts true e = absurd cc
word_by before parts false e = absurd cc

inner_not_told : (before : List (List ℕ)) (text : Option (List ℕ)) → NotTold (with_inner before text)
inner_not_told before None e = absurd cc
inner_not_told before (Some text) e =
    word_by before (spaced_words_of text) (is_counted (spaced_words_of text)) e

word_not_told : (before : List (List ℕ)) (word : List ℕ) → NotTold (with_names before word)
unfolding with_names
word_not_told before word e = by (starts_with nat_eq word (codes "ATOMS=")) e
  where
    by : (b : Bool) → NotTold (cond b (with_inner before (inner word)) (Ok before))
    by true e = inner_not_told before (inner word) e
    by false e = absurd cc

pub names_not_told : (words : List (List ℕ)) → NotTold (names_of words)
names_not_told words e = over_not_told with_names word_not_told [] words e

place_not_told : (place : Option ℕ) → NotTold (ok_or place Atom)
place_not_told None e = absurd cc
place_not_told (Some place) e = absurd cc

atom_not_told : (indices before name : List ℕ) → NotTold (with_atom indices before name)
atom_not_told indices before name e =
    elim (refused_of (atom_of indices name) (λ atom. Ok (before ++ atom ∷ [])) Repeated e) [
      | inl first ↦ place_not_told (place_named indices name) first
      | inr later ↦ absurd (let no : Ok (before ++ later.0 ∷ []) ≡ Err Repeated = later.2 in cc)
    ]

pub atoms_not_told : (indices : List ℕ) (names : List (List ℕ)) → NotTold (atoms_of indices names)
atoms_not_told indices names e = over_not_told (with_atom indices) (atom_not_told indices) [] names e

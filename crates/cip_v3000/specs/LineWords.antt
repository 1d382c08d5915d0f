-- The words of a line as its reader takes them: n that have a place, or the numbers that they are, and the keys
-- after them. Own.
use Rattle.std.specs.declared.option.Option.{Option}
use Rattle.cip_text.specs.Numbers.{decimal4_of}
use Rattle.cip_ctfile.specs.Causes.{coordinate}
use Rattle.std.specs.Prelude.{◌≡◌, ◌≤◌, ℕ, ℤ, List, ◌∷◌, true, nat_lt, length, drop, unsigned_abs, Result, IfOk, IfSome}
use Rattle.cip_v3000.specs.declared.atoms.AtomWords.{AtomWords}
use Rattle.cip_v3000.specs.declared.bonds.BondWords.{BondWords}
use Rattle.cip_num.specs.declared.plane.Vec3.{Vec3}
use Rattle.cip_mol.specs.Ranges.{IsPlace}
use Rattle.cip_mol.specs.declared.labels.refusal.ReadCause.{ReadCause}
use Rattle.cip_ctfile.specs.Fields.{parse_number}
use Rattle.cip_v3000.specs.AtomLine.{word_at, point_of}
use Rattle.cip_v3000.specs.Words.{words_of}

-- no coordinate is larger
abbrev pub IsNear : ℤ → Type 0
IsNear number = unsigned_abs number ≤ 500000000

-- the first word is this number, none where it isn't one up to a most, and these follow
pub record HaveNumber (most : ℕ) (words : List (List ℕ)) (number : Option ℕ) (rest : List (List ℕ)) : Type 0 where
  pub word : List ℕ
  pub split : words ≡ word ∷ rest
  pub is : number ≡ parse_number most word
  pub few : IfSome number (λ n. n ≤ most)

-- the first word is this coordinate, and these follow
pub record HaveCoordinate (words : List (List ℕ)) (found : Result ℤ ReadCause) (rest : List (List ℕ)) : Type 0 where
  pub word : List ℕ
  pub split : words ≡ word ∷ rest
  pub value : found ≡ coordinate (decimal4_of word)
  pub nearer : IfOk found IsNear

-- three words have this point, and those after them follow
pub record HavePoint (words : List (List ℕ)) (found : Result Vec3 ReadCause) (rest : List (List ℕ)) : Type 0 where
  pub x : List ℕ
  pub y : List ℕ
  pub z : List ℕ
  pub split : words ≡ x ∷ y ∷ z ∷ rest
  pub value : found ≡ point_of x y z
  pub nearer : IfOk found IsPlace

pub record AreAtomWords (words : List (List ℕ)) (found : AtomWords) : Type 0 where
  pub enough : nat_lt 5 (length words) ≡ true
  pub index : found.index ≡ parse_number 1000000000 (word_at words 0)
  pub symbol : found.symbol.now ≡ word_at words 1
  pub at : found.at ≡ point_of (word_at words 2) (word_at words 3) (word_at words 4)
  pub nearer : IfOk found.at IsPlace
  pub mapping : found.mapping.now ≡ word_at words 5
  pub keys : words_of found.keys.now ≡ drop 6 words

pub record AreBondWords (words : List (List ℕ)) (found : BondWords) : Type 0 where
  pub enough : nat_lt 3 (length words) ≡ true
  pub index : found.index ≡ parse_number 1000000000 (word_at words 0)
  pub order : found.order ≡ parse_number 3 (word_at words 1)
  pub few : IfSome found.order (λ order. order ≤ 3)
  pub a : found.a ≡ parse_number 1000000000 (word_at words 2)
  pub b : found.b ≡ parse_number 1000000000 (word_at words 3)
  pub keys : words_of found.keys.now ≡ drop 4 words

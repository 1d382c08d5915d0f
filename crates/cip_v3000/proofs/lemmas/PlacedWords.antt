-- Words that are taken one after the other are at their places.
use Rattle.std.proofs.Common.{◌≡◌, ℕ, ℤ, List, ◌∷◌, Result, refl, arith}
use Rattle.std.specs.Prelude.{IfOk}
use Rattle.std.proofs.lemmas.Bool.{lt-ltb}
use Rattle.cip_num.specs.declared.plane.Vec3.{Vec3}
use Rattle.cip_mol.specs.Ranges.{IsPlace}
use Rattle.cip_mol.specs.declared.labels.refusal.ReadCause.{ReadCause}
use Rattle.cip_v3000.specs.declared.atoms.AtomWords.{AtomWords}
use Rattle.cip_v3000.specs.declared.bonds.BondWords.{BondWords}
use Rattle.cip_v3000.specs.AtomLine.{point_by}
use Rattle.cip_v3000.specs.LineWords.{HaveNumber, HaveCoordinate, HavePoint, AreAtomWords, AreBondWords}
use Rattle.cip_v3000.specs.Words.{words_of}

pub point_words_are : (words second third rest : List (List ℕ)) (x y z : Result ℤ ReadCause)
    (at : Result Vec3 ReadCause)
    → HaveCoordinate words x second → HaveCoordinate second y third → HaveCoordinate third z rest
    → at ≡ point_by x y z → IfOk at IsPlace → HavePoint words at rest
point_words_are words second third rest x y z at a b c is nearer = record {
  x = a.word;
  y = b.word;
  z = c.word;
  split = rw (a.split, b.split, c.split) refl;
  value = rw (is, a.value, b.value, c.value) refl;
  nearer = nearer;
}

pub atom_words_are : (words second third : List (List ℕ)) (more : List (List ℕ)) (found : AtomWords)
    → HaveNumber 1000000000 words found.index second → second ≡ found.symbol.now ∷ third
    → HavePoint third found.at more → more ≡ found.mapping.now ∷ words_of found.keys.now → AreAtomWords words found
atom_words_are words second third more found index symbol point ends =
    let is : words ≡ index.word ∷ found.symbol.now ∷ point.x ∷ point.y ∷ point.z ∷ found.mapping.now
    ∷ words_of found.keys.now = rw (index.split, symbol, point.split, ends) refl in
    record {
      enough = rw is (lt-ltb 5 _ (omega arith));
      index = rw is index.is;
      symbol = rw is refl;
      at = rw is point.value;
      nearer = point.nearer;
      mapping = rw is refl;
      keys = rw is refl;
    }

pub bond_words_are : (words second third fourth : List (List ℕ)) (found : BondWords)
    → HaveNumber 1000000000 words found.index second → HaveNumber 3 second found.order third
    → HaveNumber 1000000000 third found.a fourth → HaveNumber 1000000000 fourth found.b (words_of found.keys.now)
    → AreBondWords words found
bond_words_are words second third fourth found index order a b =
    let is : words ≡ index.word ∷ order.word ∷ a.word ∷ b.word ∷ words_of found.keys.now
    = rw (index.split, order.split, a.split, b.split) refl in
    record {
      enough = rw is (lt-ltb 3 _ (omega arith));
      index = rw is index.is;
      order = rw is order.is;
      few = order.few;
      a = rw is a.is;
      b = rw is b.is;
      keys = rw is refl;
    }

-- What is at a pointer that C passes, and may be null. Own.
use Rattle.std.specs.Prelude.{◌≡◌, ◌^◌, ℕ, ℤ, List}
use base.Fml.{Fml, flt, fsep, ftrue}
use base.Fraction.{full_share}
use denote.Array.{Array}
use denote.Builtin.{u8}
use denote.RattleType.{RattleType}
use denote.RawPtr.{Ptr, block_ptr, lies_at, null_ptr, room_at}
use Rattle.cip_c.specs.Answers.{NULL_POINTER}

-- what is passed to a call: the labeller that is held, the bytes of the record, and what is at the place of the text
pub record Passed (X : Type 0) : Type 0 where
  pub labeller : X
  pub bytes : List ℕ
  pub text : List ℕ

-- a value of a type, unless the pointer is null
abbrev pub given : (R : RattleType) → Ptr → R.Denot → Fml
given R null_ptr x = ftrue
given R (block_ptr b o) x = fsep (flt o (2 ^ 63)) (lies_at R full_share (block_ptr b o) x)

-- n bytes
abbrev pub given_bytes : ℕ → Ptr → List ℕ → Fml
given_bytes n null_ptr xs = ftrue
given_bytes n (block_ptr b o) xs =
    fsep (fsep (flt o (2 ^ 63)) (flt n (2 ^ 63))) (lies_at (Array u8 n) full_share (block_ptr b o) xs)

-- room for a value
abbrev pub given_room : (R : RattleType) → Ptr → Fml
given_room R null_ptr = ftrue
given_room R (block_ptr b o) = fsep (flt o (2 ^ 63)) (room_at R (block_ptr b o))

-- a call answers so at a null pointer, and else as P says
abbrev pub unless_null : Ptr → Type 0 → ℤ → Type 0
unless_null null_ptr P result = result ≡ NULL_POINTER
unless_null (block_ptr b o) P result = P

-- What descriptors count in Rules 3 to 5. IUPAC 2013, P-92.4 to P-92.6. That r and m are alike, s and p, and that
-- seqCis and seqTrans count as kinds in Rules 4 and 5 and not in Rule 3, is own.
use Rattle.std.specs.Prelude.{ℕ, ℤ, pos, Bool, None, Some, if◌then◌else◌}
use Rattle.std.specs.declared.option.Option.{Option}
use Rattle.cip_mol.specs.declared.labels.descriptor.Descriptor.{Descriptor}
use Rattle.cip_mol.specs.declared.labels.descriptor.Descriptor.TheVariants.{R, S, SmallR, SmallS, M, P, SmallM, SmallP, Z, E, SeqCis, SeqTrans}

pub data Kind : Type 0 where
  KindR : Kind
  KindS : Kind
  Neither : Kind

abbrev pub kind_of : Descriptor → Kind
kind_of R = KindR
kind_of M = KindR
kind_of SeqCis = KindR
kind_of S = KindS
kind_of P = KindS
kind_of SeqTrans = KindS
kind_of SmallR = Neither
kind_of SmallS = Neither
kind_of SmallM = Neither
kind_of SmallP = Neither
kind_of Z = Neither
kind_of E = Neither

-- a key of a node by its descriptor: without one it has 0
abbrev pub key_or_zero : (Descriptor → ℕ) → Option Descriptor → ℤ
key_or_zero key None = pos 0
key_or_zero key (Some descriptor) = pos (key descriptor)

-- Rule 3: Z before E, and both before others
abbrev pub geometric_key : Descriptor → ℕ
geometric_key Z = 2
geometric_key E = 1
geometric_key R = 0
geometric_key S = 0
geometric_key SmallR = 0
geometric_key SmallS = 0
geometric_key M = 0
geometric_key P = 0
geometric_key SmallM = 0
geometric_key SmallP = 0
geometric_key SeqCis = 0
geometric_key SeqTrans = 0

-- Rule 4a: chiral units before pseudoasymmetric ones, and both before others
abbrev pub chirality_key : Descriptor → ℕ
chirality_key R = 2
chirality_key S = 2
chirality_key M = 2
chirality_key P = 2
chirality_key SeqCis = 2
chirality_key SeqTrans = 2
chirality_key SmallR = 1
chirality_key SmallS = 1
chirality_key SmallM = 1
chirality_key SmallP = 1
chirality_key Z = 0
chirality_key E = 0

-- Rule 4b: like the reference
abbrev pub like_kind : Kind → Kind → ℕ
like_kind KindR KindR = 1
like_kind KindS KindS = 1
like_kind KindR KindS = 0
like_kind KindS KindR = 0
like_kind KindR Neither = 0
like_kind KindS Neither = 0
like_kind Neither other = 0

abbrev pub like_key : Kind → Descriptor → ℕ
like_key reference descriptor = like_kind reference (kind_of descriptor)

-- Rule 4c: r before s
abbrev pub small_key : Descriptor → ℕ
small_key SmallR = 2
small_key SmallM = 2
small_key SmallS = 1
small_key SmallP = 1
small_key R = 0
small_key S = 0
small_key M = 0
small_key P = 0
small_key Z = 0
small_key E = 0
small_key SeqCis = 0
small_key SeqTrans = 0

-- Rule 5: kind R before kind S, or turned
abbrev pub capital_by : Bool → Kind → ℕ
capital_by r_first KindR = if r_first then 2 else 1
capital_by r_first KindS = if r_first then 1 else 2
capital_by r_first Neither = 0

abbrev pub capital_key : Bool → Descriptor → ℕ
capital_key r_first descriptor = capital_by r_first (kind_of descriptor)

-- The descriptor of a unit from its sense and the ranks of its ligands. IUPAC 2013, P-91.2 and P-93: R, S, Z, E, M and
-- P; r, s, m and p where Rule 5 turns them; seqCis and seqTrans for bonds in that case are own.
use Rattle.std.specs.Prelude.{ℕ, zero, suc, Bool, true, false, not, List, [], ◌∷◌, None, Some, map, flat_map, if◌then◌else◌}
use Rattle.std.specs.declared.option.Option.{Option}
use Rattle.cip_mol.specs.declared.labels.descriptor.Descriptor.{Descriptor}
use Rattle.cip_mol.specs.declared.labels.descriptor.Descriptor.TheVariants.{R, S, SmallR, SmallS, M, P, SmallM, SmallP, Z, E, SeqCis, SeqTrans}
use Rattle.cip_mol.specs.declared.labels.descriptor.Sense.{Sense}
use Rattle.cip_mol.specs.declared.labels.descriptor.Sense.TheVariants.{Plus, Minus}
use Rattle.cip_mol.specs.FlatCentres.{inversions}
use Rattle.cip_mol.specs.declared.ends.Shape.{Shape}
use Rattle.cip_mol.specs.declared.ends.Shape.TheVariants.{Flat, Crossed}
use Rattle.cip_mol.specs.declared.site.Site.{Site}
use Rattle.cip_mol.specs.declared.site.Site.TheVariants.{Centre, Bond, Axis}
use Rattle.cip_digraph.specs.units.Ranked.{Root, ranks, turned_ranks, decisions, last_reason, Reason}

abbrev pub is_odd : ℕ → Bool
is_odd zero = false
is_odd (suc n) = not (is_odd n)

abbrev pub opposite : Sense → Sense
opposite Plus = Minus
opposite Minus = Plus

abbrev pub turned_if : Bool → Sense → Sense
turned_if true sense = opposite sense
turned_if false sense = sense

-- The sense with the ligands of each root in rank order: each exchange of two ligands of a root turns it. At a bond and
-- an axis it is then that of the higher ligands of both ends.
abbrev pub sense_in_rank : Sense → List (List ℕ) → Sense
sense_in_rank sense [] = sense
sense_in_rank sense (places ∷ others) = turned_if (is_odd (inversions places)) (sense_in_rank sense others)

-- how the ligands of two ends lie; a centre has one end
abbrev pub shape_of : Site → Option Shape
shape_of (Centre at ligands) = None
shape_of (Bond a b first second) = Some Flat
shape_of (Axis a middle b first second) = Some Crossed

abbrev pub capital_by : Option Shape → Sense → Descriptor
capital_by None Plus = S
capital_by None Minus = R
capital_by (Some Flat) Plus = Z
capital_by (Some Flat) Minus = E
capital_by (Some Crossed) Plus = P
capital_by (Some Crossed) Minus = M

abbrev pub capital : Site → Sense → Descriptor
capital site sense = capital_by (shape_of site) sense

abbrev pub small : Descriptor → Descriptor
small R = SmallR
small S = SmallS
small M = SmallM
small P = SmallP
small Z = SeqCis
small E = SeqTrans
small SmallR = SmallR
small SmallS = SmallS
small SmallM = SmallM
small SmallP = SmallP
small SeqCis = SeqCis
small SeqTrans = SeqTrans

abbrev pub same_sense : Sense → Sense → Bool
same_sense Plus Plus = true
same_sense Plus Minus = false
same_sense Minus Plus = false
same_sense Minus Minus = true

-- small exactly where the turned last rule gives the opposite
abbrev pub letter_by : Site → Sense → Sense → Descriptor
letter_by site sense turned = if same_sense sense turned then capital site sense else small (capital site sense)

abbrev pub letter : {N : Type 0} → Site → Sense → List (Root N) → Descriptor
letter site sense roots =
    letter_by site (sense_in_rank sense (map ranks roots)) (sense_in_rank sense (map turned_ranks roots))

-- all roots of the unit are taken together
abbrev pub reason_needed : {N : Type 0} → List (Root N) → Reason
reason_needed roots = last_reason (flat_map decisions roots)

abbrev pub all_ranks : {N : Type 0} → List (Root N) → List ℕ
all_ranks roots = flat_map ranks roots

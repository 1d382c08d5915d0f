-- What the keys of Rules 3 to 5 make of exchanged descriptors.
use Rattle.std.proofs.Common.{◌≡◌, ℕ, pos, refl, ap, ◌∙◌, Bool, true, false, not, None, Some, Option}
use Rattle.cip_mol.specs.declared.labels.descriptor.Descriptor.{Descriptor}
use Rattle.cip_mol.specs.declared.labels.descriptor.Descriptor.TheVariants.{R}
use Rattle.cip_digraph.specs.rules.Exchange.{exchanged, exchanged_descriptor}
use Rattle.cip_digraph.specs.rules.Kinds.{Kind, KindR, KindS, Neither, kind_of, key_or_zero, geometric_key, chirality_key}
use Rattle.cip_digraph.specs.rules.Kinds.{like_kind, like_key, small_key, capital_key}

pub described_same : (key other : Descriptor → ℕ) → ((d : Descriptor) → key (exchanged d) ≡ other d)
    → (descriptor : Option Descriptor) → key_or_zero key (exchanged_descriptor descriptor) ≡ key_or_zero other descriptor
described_same key other h None = refl
described_same key other h (Some d) = ap pos (h d)

pub geometric_stays : (d : Descriptor) → geometric_key (exchanged d) ≡ geometric_key d
geometric_stays R = refl
geometric_stays d = refl

pub chirality_stays : (d : Descriptor) → chirality_key (exchanged d) ≡ chirality_key d
chirality_stays R = refl
chirality_stays d = refl

pub small_stays : (d : Descriptor) → small_key (exchanged d) ≡ small_key d
small_stays R = refl
small_stays d = refl

pub capital_turns : (r_first : Bool) (d : Descriptor) → capital_key r_first (exchanged d) ≡ capital_key (not r_first) d
capital_turns true R = refl
capital_turns false R = refl
capital_turns r_first d = refl

abbrev pub other_kind : Kind → Kind
other_kind KindR = KindS
other_kind KindS = KindR
other_kind Neither = Neither

kind_turns : (d : Descriptor) → kind_of (exchanged d) ≡ other_kind (kind_of d)
kind_turns R = refl
kind_turns d = refl

both_turned : (reference kind : Kind) → like_kind reference (other_kind kind) ≡ like_kind (other_kind reference) kind
both_turned KindR KindR = refl
both_turned KindS KindR = refl
both_turned reference kind = refl

-- what is like one reference is like the other one when exchanged
pub like_turns : (reference : Kind) (d : Descriptor)
    → like_key reference (exchanged d) ≡ like_key (other_kind reference) d
like_turns reference d = ap (like_kind reference) (kind_turns d) ∙ both_turned reference (kind_of d)

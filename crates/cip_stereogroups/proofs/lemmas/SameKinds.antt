-- Names that are equal in memory are the same names.
use Rattle.std.proofs.Common.{◌≡◌, List, refl}
use Rattle.std.specs.List.{list_any}
use Rattle.cip_stereogroups.specs.contracts.kinds.GroupKindPartialEq.TheImpl as equality
use Rattle.cip_stereogroups.specs.declared.kinds.GroupKind.{GroupKind}
use Rattle.cip_stereogroups.specs.declared.kinds.GroupKind.TheVariants.{Absolute, Racemic, Relative}
use Rattle.cip_stereogroups.specs.Names.{same_kind}

equal_is_same : (one other : GroupKind) → equality.eq-value.it one other ≡ same_kind one other
equal_is_same Absolute Absolute = refl
equal_is_same Absolute (Racemic b) = refl
equal_is_same Absolute (Relative b) = refl
equal_is_same (Racemic a) Absolute = refl
equal_is_same (Racemic a) (Racemic b) = refl
equal_is_same (Racemic a) (Relative b) = refl
equal_is_same (Relative a) Absolute = refl
equal_is_same (Relative a) (Racemic b) = refl
equal_is_same (Relative a) (Relative b) = refl

pub any_same : (kind : GroupKind) (kinds : List GroupKind)
    → list_any (equality.eq-value.it kind) kinds ≡ list_any (same_kind kind) kinds
any_same kind kinds = (λ i. list_any (λ other. equal_is_same kind other i) kinds)

use Rattle.std.proofs.Common.{◌≡◌, ◌≤◌, ◌∙◌}
use Rattle.std.specs.Prelude.{ℤ, unsigned_abs}
use Rattle.cip_num.specs.Space.{minor}
use Rattle.cip_num.proofs.lemmas.Sizes.{flat_back, flat_kept, minor_back, minor_kept}
use mir.Syntax.{w64, w128}
use mir.Val.{to_z, of_z}
use Rattle.cip_num.proofs.space.cross_of.Goals as goal

-- a minor in memory, of numbers in memory
minor_is : (m p q r s : ℤ) → unsigned_abs m ≤ 2000000000000000000 → unsigned_abs p ≤ 1000000000
    → unsigned_abs q ≤ 1000000000 → unsigned_abs r ≤ 1000000000 → unsigned_abs s ≤ 1000000000
    → m ≡ minor (to_z w64 (of_z w64 p)) (to_z w64 (of_z w64 q)) (to_z w64 (of_z w64 r)) (to_z w64 (of_z w64 s))
    → to_z w128 (of_z w128 m) ≡ minor p q r s
minor_is m p q r s small at_p at_q at_r at_s is =
    minor_back m small ∙ is
    ∙ (λ i. minor (flat_back p at_p i) (flat_back q at_q i) (flat_back r at_r i) (flat_back s at_s i))

pub minor-requires-clause-p : goal.minor-requires-clause-p
minor-requires-clause-p c = flat_kept c.args.u.y c.requires.u.y

pub minor-requires-clause-q : goal.minor-requires-clause-q
minor-requires-clause-q c = flat_kept c.args.u.z c.requires.u.z

pub minor-requires-clause-r : goal.minor-requires-clause-r
minor-requires-clause-r c = flat_kept c.args.a.y c.requires.a.y

pub minor-requires-clause-s : goal.minor-requires-clause-s
minor-requires-clause-s c = flat_kept c.args.a.z c.requires.a.z

pub minor-requires-2-clause-p : goal.minor-requires-2-clause-p
minor-requires-2-clause-p c = flat_kept c.args.u.z c.requires.u.z

pub minor-requires-2-clause-q : goal.minor-requires-2-clause-q
minor-requires-2-clause-q c = flat_kept c.args.u.x c.requires.u.x

pub minor-requires-2-clause-r : goal.minor-requires-2-clause-r
minor-requires-2-clause-r c = flat_kept c.args.a.z c.requires.a.z

pub minor-requires-2-clause-s : goal.minor-requires-2-clause-s
minor-requires-2-clause-s c = flat_kept c.args.a.x c.requires.a.x

pub minor-requires-3-clause-p : goal.minor-requires-3-clause-p
minor-requires-3-clause-p c = flat_kept c.args.u.x c.requires.u.x

pub minor-requires-3-clause-q : goal.minor-requires-3-clause-q
minor-requires-3-clause-q c = flat_kept c.args.u.y c.requires.u.y

pub minor-requires-3-clause-r : goal.minor-requires-3-clause-r
minor-requires-3-clause-r c = flat_kept c.args.a.x c.requires.a.x

pub minor-requires-3-clause-s : goal.minor-requires-3-clause-s
minor-requires-3-clause-s c = flat_kept c.args.a.y c.requires.a.y

pub returns-clause-small : goal.returns-clause-small
returns-clause-small c = record {
  x = minor_kept c.minor.result c.minor.ensures.small;
  y = minor_kept c.minor-2.result c.minor-2.ensures.small;
  z = minor_kept c.minor-3.result c.minor-3.ensures.small;
}

pub returns-clause-value : goal.returns-clause-value
returns-clause-value c = λ i. record {
  x = minor_is c.minor.result c.args.u.y c.args.u.z c.args.a.y c.args.a.z c.minor.ensures.small
      c.requires.u.y c.requires.u.z c.requires.a.y c.requires.a.z c.minor.ensures.value i;
  y = minor_is c.minor-2.result c.args.u.z c.args.u.x c.args.a.z c.args.a.x c.minor-2.ensures.small
      c.requires.u.z c.requires.u.x c.requires.a.z c.requires.a.x c.minor-2.ensures.value i;
  z = minor_is c.minor-3.result c.args.u.x c.args.u.y c.args.a.x c.args.a.y c.minor-3.ensures.small
      c.requires.u.x c.requires.u.y c.requires.a.x c.requires.a.y c.minor-3.ensures.value i;
}

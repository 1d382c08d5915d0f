use Rattle.std.proofs.Common.{length, ap, arith}
use Rattle.cip_tree.proofs.lemmas.OnPath.{no_longer}
use Rattle.cip_tree.proofs.paths.sphere_of_counterpart.Goals as goal

pub overflow_cast-result : goal.overflow_cast-result
overflow_cast-result c =
    let len = ap length c.path_from.ensures in
    omega (arith, len, c.requires, no_longer c.args.vertex c.args.path.now)

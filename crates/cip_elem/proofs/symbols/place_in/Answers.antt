use Rattle.std.proofs.Common.{◌≡◌, ◌==◌, ◌&&◌, ap, arith, false, get_or, length}
use Rattle.std.proofs.lemmas.Bool.Decides.{nat_tests}
use Rattle.std.proofs.lemmas.List.{length-drop, take_rest}
use Rattle.cip_elem.proofs.lemmas.Columns.{columns_step}
use Rattle.cip_elem.proofs.symbols.place_in.Goals.{else-first-a-via-then-first-a+else-second-b, else-first-a-via-else-first-a}
use Rattle.cip_elem.proofs.symbols.place_in.Goals as goal

pub loop-rest-preserved : goal.loop-rest-preserved
loop-rest-preserved c =
    let rest = c.loop-rest.rest.now in
    let other : ((c.args.first == get_or rest 0 0) && (c.args.second == get_or rest 1 0)) ≡ false =
    elim c.else-first-a.branch [
      | else-first-a-via-then-first-a+else-second-b w ↦ (let no = w.if-second-b.false in grind (arith, nat_tests, no))
      | else-first-a-via-else-first-a w ↦ (let no = w.if-first-a.false in grind (arith, nat_tests, no))
    ] in
    record {
      so_far = columns_step c.args.first c.args.second c.loop-rest.place rest 0 0 _ c.in-len2-up.len_at_least other
          c.loop-rest.invariant.so_far;
      within = omega (
        arith,
        ap length (take_rest rest 2),
        length-drop 2 rest,
        c.in-len2-up.len_at_least,
        c.loop-rest.invariant.within,
      );
    }

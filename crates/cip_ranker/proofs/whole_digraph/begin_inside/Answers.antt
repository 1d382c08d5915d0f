use Rattle.std.proofs.Common.{sym, subst, arith}
use Rattle.std.proofs.lemmas.Grind.{common_steps}
use Rattle.std.proofs.lemmas.List.Elements.{All-nil}
use Rattle.cip_aux.specs.Views.{sight_of}
use Rattle.cip_aux_rank.specs.RankingCache.{AreOpen}
use Rattle.cip_aux_rank.specs.Room.{Room}
use Rattle.cip_ranker.specs.Rooting.{whole_at}
use Rattle.cip_ranker.proofs.whole_digraph.begin_inside.Goals as goal

pub returns-then-is_worth_caching-clause-parities : goal.returns-then-is_worth_caching-clause-parities
returns-then-is_worth_caching-clause-parities c =
    let sight = sight_of (whole_at c.args.rooted.now.setting.now c.args.rooted.now.arena.now) in
    let fits = c.requires.fits in
    let room = c.requires.room.aux_ranker in (
      grind (arith, common_steps),
      subst (λ (looks : Room). AreOpen looks.bound sight looks.looks) (sym c.begin-then-is_worth_caching.ensures)
          (record { room = omega (arith, fits, room); each = All-nil _ }),
    )

pub returns-else-is_worth_caching-clause-parities : goal.returns-else-is_worth_caching-clause-parities
returns-else-is_worth_caching-clause-parities c =
    let sight = sight_of (whole_at c.args.rooted.now.setting.now c.args.rooted.now.arena.now) in
    let fits = c.requires.fits in
    let room = c.requires.room.aux_ranker in (
      grind (arith, common_steps),
      subst (λ (looks : Room). AreOpen looks.bound sight looks.looks) (sym c.begin-else-is_worth_caching.ensures)
          (record { room = omega (arith, fits, room); each = All-nil _ }),
    )

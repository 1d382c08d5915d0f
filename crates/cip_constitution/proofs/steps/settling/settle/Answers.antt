use Rattle.std.proofs.Common.{◌≡◌, refl, ap, sym, ◌∙◌, subst, arith}
use Rattle.cip_constitution.specs.declared.steps.settling.Settled.{Settled}
use Rattle.cip_constitution.specs.declared.steps.settling.Settled.TheVariants as settled
use Rattle.cip_constitution.specs.Following.{Trying}
use Rattle.cip_constitution.specs.Settling.{setting_of}
use Rattle.cip_constitution.specs.Trials.{KeepsTo}
use Rattle.cip_constitution.proofs.lemmas.settled.Rounds.{begins, goes_on, stays, nearer, ahead, none_before, ordered, tied}
use Rattle.cip_constitution.proofs.lemmas.settled.Rounds.{whole, over, all_followed, lazily}
use Rattle.cip_constitution.proofs.steps.settling.settle.Goals as goal

-- no two ways of settling are the same
ordered_whole : ◌≡◌ {A = Settled} settled.Ordered settled.Whole → ⊥
ordered_whole is = cc

tied_ordered : ◌≡◌ {A = Settled} settled.Tied settled.Ordered → ⊥
tied_ordered is = cc

tied_whole : ◌≡◌ {A = Settled} settled.Tied settled.Whole → ⊥
tied_whole is = cc

whole_ordered : ◌≡◌ {A = Settled} settled.Whole settled.Ordered → ⊥
whole_ordered is = cc

over_ordered : ◌≡◌ {A = Settled} settled.Over settled.Ordered → ⊥
over_ordered is = cc

over_whole : ◌≡◌ {A = Settled} settled.Over settled.Whole → ⊥
over_whole is = cc

pub loop-work-init : goal.loop-work-init
loop-work-init g c =
    let t = setting_of c.args.rules c.args.graph.now c.args.positions.now c.args.units.now c.args.ligands.now in
    let start = c.requires.started in
    record {
      kept = begins t c.args.arena.now c.args.steps.now c.vertices-vertices.ensures.sound c.requires.holds start
          c.requires.fits c.requires.root;
      tried = λ some. absurd (omega (arith, some, start));
      keeps = λ some. absurd (omega (arith, some, start));
      bound = refl;
      pairs = refl;
    }

pub grow-requires : goal.grow-requires
grow-requires g c = c.loop-work.invariant.kept.holds

pub follow-requires : goal.follow-requires
follow-requires g c =
    let t = setting_of c.args.rules c.args.graph.now c.args.positions.now c.args.units.now c.args.ligands.now in
    let inv = c.loop-work.invariant in
    let says = c.in-Grown.ensures.answer in
    let now = goes_on t c.args.arena.now c.loop-work.arena c.args.steps.now c.loop-work.steps inv.kept inv.tried
    c.grow.new.self c.grow.new.steps says c.grow.ensures.holds c.grow.ensures.fits in
    let bound = now.bound in
    let kept = inv.bound in
    let room = c.requires.room in
    record {
      ahead = (
        _,
        ahead t c.args.arena.now c.loop-work.arena c.grow.new.self c.args.steps.now c.loop-work.steps
            c.grow.new.steps c.loop-work.work inv.keeps says now,
      );
      room = omega (arith, bound, kept, room);
    }

pub all_differ-requires : goal.all_differ-requires
all_differ-requires g c =
    let t = setting_of c.args.rules c.args.graph.now c.args.positions.now c.args.units.now c.args.ligands.now in
    let inv = c.loop-work.invariant in
    let says = c.in-Grown.ensures.answer in
    let now = goes_on t c.args.arena.now c.loop-work.arena c.args.steps.now c.loop-work.steps inv.kept inv.tried
    c.grow.new.self c.grow.new.steps says c.grow.ensures.holds c.grow.ensures.fits in
    let before = ahead t c.args.arena.now c.loop-work.arena c.grow.new.self c.args.steps.now c.loop-work.steps
    c.grow.new.steps c.loop-work.work inv.keeps says now in
    record { grown = before.grown; followed = (c.follow.ensures.kept t before).follows }

pub some_alike-requires : goal.some_alike-requires
some_alike-requires g c =
    let t = setting_of c.args.rules c.args.graph.now c.args.positions.now c.args.units.now c.args.ligands.now in
    let inv = c.loop-work.invariant in
    let says = c.in-Grown.ensures.answer in
    let now = goes_on t c.args.arena.now c.loop-work.arena c.args.steps.now c.loop-work.steps inv.kept inv.tried
    c.grow.new.self c.grow.new.steps says c.grow.ensures.holds c.grow.ensures.fits in
    let before = ahead t c.args.arena.now c.loop-work.arena c.grow.new.self c.args.steps.now c.loop-work.steps
    c.grow.new.steps c.loop-work.work inv.keeps says now in
    let bound = now.bound in
    let kept = inv.bound in
    let followed = c.follow.ensures.bound in
    let room = c.requires.room in
    record {
      grown = before.grown;
      room = omega (arith, bound, kept, followed, room);
      followed = (c.follow.ensures.kept t before).follows;
      before = none_before t c.args.arena.now c.grow.new.self c.args.steps.now c.grow.new.steps now;
    }

pub loop-work-smaller : goal.loop-work-smaller
loop-work-smaller g c =
    let t = setting_of c.args.rules c.args.graph.now c.args.positions.now c.args.units.now c.args.ligands.now in
    let inv = c.loop-work.invariant in
    let says = c.in-Grown.ensures.answer in
    let now = goes_on t c.args.arena.now c.loop-work.arena c.args.steps.now c.loop-work.steps inv.kept inv.tried
    c.grow.new.self c.grow.new.steps says c.grow.ensures.holds c.grow.ensures.fits in
    nearer t c.args.arena.now c.loop-work.arena c.args.steps.now c.loop-work.steps inv.kept c.grow.new.self
    c.grow.new.steps says now

pub loop-work-preserved : goal.loop-work-preserved
loop-work-preserved g c =
    let t = setting_of c.args.rules c.args.graph.now c.args.positions.now c.args.units.now c.args.ligands.now in
    let inv = c.loop-work.invariant in
    let says = c.in-Grown.ensures.answer in
    let now = goes_on t c.args.arena.now c.loop-work.arena c.args.steps.now c.loop-work.steps inv.kept inv.tried
    c.grow.new.self c.grow.new.steps says c.grow.ensures.holds c.grow.ensures.fits in
    let before = ahead t c.args.arena.now c.loop-work.arena c.grow.new.self c.args.steps.now c.loop-work.steps
    c.grow.new.steps c.loop-work.work inv.keeps says now in
    let bound = ap (λ (w : Trying). w.bound) c.some_alike.ensures.kept ∙ c.follow.ensures.bound ∙ inv.bound in
    let pairs = ap (λ (w : Trying). w.pairs) c.some_alike.ensures.kept ∙ c.follow.ensures.pairs ∙ inv.pairs in
    record {
      kept = now;
      tried = λ some. (
        sym c.all_differ.ensures ∙ c.if-all_differ.false,
        sym c.some_alike.ensures.result ∙ c.if-some_alike.false,
      );
      keeps = λ some. subst (KeepsTo t c.grow.new.self c.grow.new.self.sphere) (sym c.some_alike.ensures.kept)
          (c.follow.ensures.kept t before);
      bound = bound;
      pairs = pairs;
    }

pub returns-then-all_differ : goal.returns-then-all_differ
returns-then-all_differ g c =
    let t = setting_of c.args.rules c.args.graph.now c.args.positions.now c.args.units.now c.args.ligands.now in
    let inv = c.loop-work.invariant in
    let says = c.in-Grown.ensures.answer in
    let now = goes_on t c.args.arena.now c.loop-work.arena c.args.steps.now c.loop-work.steps inv.kept inv.tried
    c.grow.new.self c.grow.new.steps says c.grow.ensures.holds c.grow.ensures.fits in
    let before = ahead t c.args.arena.now c.loop-work.arena c.grow.new.self c.args.steps.now c.loop-work.steps
    c.grow.new.steps c.loop-work.work inv.keeps says now in
    let here = ordered t c.args.arena.now c.grow.new.self c.args.steps.now c.grow.new.steps now before.grown.some
    (sym c.all_differ.ensures ∙ c.if-all_differ.true) in
    record {
      settled = here;
      holds = now.holds;
      root = now.root;
      bound = now.bound;
      fits = now.fits;
      cost = now.cost;
      lazy = lazily t c.args.arena.now c.grow.new.self c.args.steps.now c.grow.new.steps now settled.Ordered here;
      work = c.follow.ensures.bound ∙ inv.bound;
      noted = λ is. (c.follow.ensures.kept t before).notes;
      pairs = c.follow.ensures.pairs ∙ inv.pairs;
      whole = λ is. absurd (ordered_whole is);
    }

pub returns-then-some_alike : goal.returns-then-some_alike
returns-then-some_alike g c =
    let t = setting_of c.args.rules c.args.graph.now c.args.positions.now c.args.units.now c.args.ligands.now in
    let inv = c.loop-work.invariant in
    let says = c.in-Grown.ensures.answer in
    let now = goes_on t c.args.arena.now c.loop-work.arena c.args.steps.now c.loop-work.steps inv.kept inv.tried
    c.grow.new.self c.grow.new.steps says c.grow.ensures.holds c.grow.ensures.fits in
    let before = ahead t c.args.arena.now c.loop-work.arena c.grow.new.self c.args.steps.now c.loop-work.steps
    c.grow.new.steps c.loop-work.work inv.keeps says now in
    let bound = ap (λ (w : Trying). w.bound) c.some_alike.ensures.kept ∙ c.follow.ensures.bound ∙ inv.bound in
    let pairs = ap (λ (w : Trying). w.pairs) c.some_alike.ensures.kept ∙ c.follow.ensures.pairs ∙ inv.pairs in
    let here = tied t c.args.arena.now c.grow.new.self c.args.steps.now c.grow.new.steps now before.grown.some
    (sym c.all_differ.ensures ∙ c.if-all_differ.false)
    (sym c.some_alike.ensures.result ∙ c.if-some_alike.true) in
    record {
      settled = here;
      holds = now.holds;
      root = now.root;
      bound = now.bound;
      fits = now.fits;
      cost = now.cost;
      lazy = lazily t c.args.arena.now c.grow.new.self c.args.steps.now c.grow.new.steps now settled.Tied here;
      work = bound;
      noted = λ is. absurd (tied_ordered is);
      pairs = pairs;
      whole = λ is. absurd (tied_whole is);
    }

pub returns-in-Whole : goal.returns-in-Whole
returns-in-Whole g c =
    let t = setting_of c.args.rules c.args.graph.now c.args.positions.now c.args.units.now c.args.ligands.now in
    let inv = c.loop-work.invariant in
    let says = c.in-Whole.ensures.answer in
    let now = stays t c.args.arena.now c.loop-work.arena c.args.steps.now c.loop-work.steps inv.kept c.grow.new.self
    c.grow.new.steps says.0 says.1 in
    let here = whole t c.args.arena.now c.loop-work.arena c.args.steps.now c.loop-work.steps inv.kept inv.tried
    c.grow.new.self c.grow.new.steps says in
    record {
      settled = here;
      holds = now.holds;
      root = now.root;
      bound = now.bound;
      fits = now.fits;
      cost = now.cost;
      lazy = lazily t c.args.arena.now c.grow.new.self c.args.steps.now c.grow.new.steps now settled.Whole here;
      work = inv.bound;
      noted = λ is. absurd (whole_ordered is);
      pairs = inv.pairs;
      whole = λ is. all_followed t c.args.arena.now c.loop-work.arena c.args.steps.now c.loop-work.steps inv.kept
          c.loop-work.work inv.keeps c.grow.new.self c.grow.new.steps says;
    }

pub returns-in-Over : goal.returns-in-Over
returns-in-Over g c =
    let t = setting_of c.args.rules c.args.graph.now c.args.positions.now c.args.units.now c.args.ligands.now in
    let inv = c.loop-work.invariant in
    let says = c.in-Over.ensures.answer in
    let now = stays t c.args.arena.now c.loop-work.arena c.args.steps.now c.loop-work.steps inv.kept c.grow.new.self
    c.grow.new.steps says.0 says.1 in
    let here = over t c.args.arena.now c.loop-work.arena c.args.steps.now c.loop-work.steps inv.kept inv.tried
    c.grow.new.self c.grow.new.steps says in
    record {
      settled = here;
      holds = now.holds;
      root = now.root;
      bound = now.bound;
      fits = now.fits;
      cost = now.cost;
      lazy = lazily t c.args.arena.now c.grow.new.self c.args.steps.now c.grow.new.steps now settled.Over here;
      work = inv.bound;
      noted = λ is. absurd (over_ordered is);
      pairs = inv.pairs;
      whole = λ is. absurd (over_whole is);
    }

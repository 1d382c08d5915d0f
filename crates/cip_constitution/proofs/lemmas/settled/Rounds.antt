-- One more sphere keeps what is kept, and where it stops the ligands are settled.
use Rattle.std.proofs.Common.{◌≡◌, ◌≢◌, ◌<◌, ◌≤◌, ◌+◌, ◌-◌, ◌||◌, ℕ, zero, suc, Bool, true, false, List, [], ◌∷◌}
use Rattle.std.proofs.Common.{length, refl, sym, ap, ◌∙◌, subst, arith, add-one, inl, inr}
use Rattle.std.proofs.lemmas.List.{nil_from_length}
use Rattle.std.specs.Prelude.{flat_map}
use Rattle.std.proofs.lemmas.Bool.{cases_lt, cases_order, or_from, or_left, or_right, or_parts}
use Rattle.cip_digraph.specs.outcome.Deciding.{is_empty, is_whole}
use Rattle.cip_digraph.specs.digraph.Digraph.{Node, real_node, children, digraph}
use Rattle.cip_digraph.specs.rules.EarlyOrder.{seen_at}
use Rattle.cip_digraph.specs.outcome.Outcomes.{is_in_unit, end_root}
use Rattle.cip_digraph.specs.graph.SoundGraphs.{IsSound}
use Rattle.cip_digraph.proofs.lemmas.numbered.PlaceTrees.{digraph_length, some_nodes}
use Rattle.cip_arena.specs.Growth.{Growth, Holds, GrownAs, next_size}
use Rattle.cip_arena.specs.declared.arena.Grown.TheVariants.{Grown, Whole as Finished, Over as Full}
use Rattle.cip_constitution.specs.FollowedOut.{AreFollowedOut}
use Rattle.cip_constitution.specs.Following.{Trying}
use Rattle.cip_constitution.specs.Settling.{RootContext, end_of, differs, has_alike, settles, deciding, cost_of, behind}
use Rattle.cip_constitution.specs.Settling.{SettledAs}
use Rattle.cip_constitution.specs.Trials.{FollowsTo, IsAhead, IsGrown, KeepsTo, NotesTo}
use Rattle.cip_constitution.specs.declared.steps.settling.Settled.{Settled}
use Rattle.cip_constitution.specs.declared.steps.settling.Settled.TheVariants.{Ordered, Tied, Whole, Over}
use Rattle.cip_constitution.proofs.lemmas.settled.DecidingSphere.{whole_is, settled_is, settled_beyond, settled_alone}
use Rattle.cip_constitution.proofs.lemmas.settled.DecidingSphere.{cost_beyond}

some_of : {X : Type 0} (xs : List X) → 0 < length xs → xs ≢ []
some_of [] lt e = absurd (omega (arith, lt))
some_of (x ∷ xs) lt e = let bad : x ∷ xs ≡ [] = e in absurd (no bad)
  where
    no : x ∷ xs ≡ [] → ⊥
    no h = cc

not_empty : {X : Type 0} (xs : List X) → 0 < length xs → is_empty xs ≡ false
not_empty [] lt = absurd (omega (arith, lt))
not_empty (x ∷ xs) lt = refl

-- a digraph was grown to a sphere, and none before it settles
pub record Kept (t : RootContext) (first a : Growth) (before after : ℕ) : Type 0 where
  pub sound : IsSound t.graph
  pub one : length first.nodes ≡ 1
  pub holds : Holds t.graph t.positions a
  pub root : a.root ≡ first.root
  pub bound : a.bound ≡ first.bound
  pub fits : length a.nodes ≤ a.bound
  pub low : a.root < length t.graph.vertices
  pub some : 0 < length (behind t a.root a.sphere)
  pub none : (k : ℕ) → 1 ≤ k → k < a.sphere → settles t a.root k ≡ false
  pub cost : after + length first.nodes ≡ before + length a.nodes

-- within a sphere neither all ligands differ nor are two alike
abbrev pub Fails : RootContext → ℕ → ℕ → Type 0
Fails t root number = (differs t root number ≡ false) × (has_alike t root number ≡ false)

pub begins : (t : RootContext) (a : Growth) (steps : ℕ) → IsSound t.graph → Holds t.graph t.positions a → a.sphere ≡ 0
    → length a.nodes ≤ a.bound → a.root < length t.graph.vertices → Kept t a a steps steps
begins t a steps sound holds start fits low = record {
  sound = sound;
  one = holds.tells.len ∙ ap (λ s. length (digraph t.graph t.positions a.root s)) start;
  holds = holds;
  root = refl;
  bound = refl;
  fits = fits;
  low = low;
  some = subst (λ s. 0 < length (behind t a.root s)) (sym start) (omega arith);
  none = λ k some under. absurd (omega (arith, some, under, start));
  cost = refl;
}

module _ (t : RootContext) (first a : Growth) (before after : ℕ) (k : Kept t first a before after) where
  long : length (digraph t.graph t.positions a.root (suc a.sphere)) ≡ length a.nodes + next_size t.graph t.positions a
  long = let len = k.holds.tells.len in omega (arith, len, digraph_length t.graph t.positions a.root (suc a.sphere))

  abbrev whole_test : ℕ → Bool
  whole_test = is_whole (seen_at t.rules t.graph t.positions t.units a.root) (real_node a.root [])
      (end_root t.rules t.graph t.positions t.units (end_of t a.root)).ligands (is_in_unit t.rules t.graph t.positions
      t.units)

  abbrev node_data : ℕ → Bool
  node_data number = differs t a.root number || has_alike t a.root number

  whole_at : (number : ℕ) → whole_test number ≡ is_empty (behind t a.root (suc number))
  whole_at number = whole_is t.rules t.graph t.positions t.units (end_of t a.root) k.sound k.low number

  fails : (number : ℕ) → Fails t a.root number → 0 < length (behind t a.root (suc number))
      → settles t a.root number ≡ false
  fails number f some =
      or_from (node_data number) (whole_test number) (or_from (differs t a.root number) (has_alike t a.root number) f.0 f.1)
      (whole_at number ∙ not_empty (behind t a.root (suc number)) some)

  -- a sphere that settles where none before it does
  at : 0 < a.sphere → settles t a.root a.sphere ≡ true → a.sphere ≡ deciding t a.root
  at some here =
      sym (settled_is t.rules t.graph t.positions t.units (end_of t a.root) k.sound k.low a.sphere (omega (arith, some))
      (some_of (behind t a.root a.sphere) k.some) here k.none)

  at_told : 0 < a.sphere → node_data a.sphere ≡ true → a.sphere ≡ deciding t a.root
  at_told some is = at some (or_left (node_data a.sphere) (whole_test a.sphere) is)

  pub is_grown : 0 < a.sphere → IsGrown t a
  is_grown some = record {
    holds = k.holds;
    sound = k.sound;
    root = k.low;
    some = some;
    last = k.some;
    nodes = let len = k.holds.tells.len in omega (arith, len, some_nodes t.graph t.positions a.root a.sphere);
    fits = k.fits;
  }

  -- none are alike within the sphere before
  pub none_before : 1 < a.sphere → has_alike t a.root (a.sphere - 1) ≡ false
  none_before some =
      let none = k.none (a.sphere - 1) (omega (arith, some)) (omega (arith, some)) in
      (or_parts (differs t a.root (a.sphere - 1)) (has_alike t a.root (a.sphere - 1)) (or_parts _ _ none).0).1

  pub ordered : 0 < a.sphere → differs t a.root a.sphere ≡ true → SettledAs t a Ordered
  ordered some d = (some, at_told some (or_left (differs t a.root a.sphere) (has_alike t a.root a.sphere) d), d)

  pub tied : 0 < a.sphere → differs t a.root a.sphere ≡ false → has_alike t a.root a.sphere ≡ true
      → SettledAs t a Tied
  tied some d s = (some, at_told some (or_right (differs t a.root a.sphere) (has_alike t a.root a.sphere) s), d, s)

  -- 1 for the root and the steps taken are at most the cost
  pub lazily : (r : Settled) → SettledAs t a r → after + 1 ≤ before + cost_of t a.root
  lazily r says = let one = k.one in let cost = k.cost in omega (arith, one, cost, within r says)
    where
      at_cost : a.sphere ≡ deciding t a.root → length a.nodes ≤ cost_of t a.root
      at_cost e =
          let count : length a.nodes ≡ cost_of t a.root =
          k.holds.tells.len ∙ ap (λ s. length (digraph t.graph t.positions a.root s)) e in
          omega (arith, count)

      within : (r : Settled) → SettledAs t a r → length a.nodes ≤ cost_of t a.root
      within Ordered says = at_cost says.1
      within Tied says = at_cost says.1
      within Whole says = at_cost says.0
      within Over says = let fits = k.fits in omega (arith, says, fits)

  pub stays : (new : Growth) (later : ℕ) → new ≡ a → later ≡ after → Kept t first new before later
  stays new later is same = rw (is, same) k

  -- the last sphere doesn't settle but by being the last one
  module _ (tried : 0 < a.sphere → Fails t a.root a.sphere) where
    pub goes_on : (new : Growth) (later : ℕ) → GrownAs t.graph t.positions a new after later Grown
        → Holds t.graph t.positions new → length new.nodes ≤ new.bound → Kept t first new before later
    goes_on new later says holds fits =
        let now = subst (Holds t.graph t.positions) says.0 holds in
        let steps = says.1 in
        let some = says.2 in
        let cost = k.cost in
        let next = add-one a.sphere in
        let len : length new.nodes ≡ length (digraph t.graph t.positions a.root (suc a.sphere)) =
        now.tells.len ∙ ap (λ s. length (digraph t.graph t.positions a.root s)) next in
        subst (λ (b : Growth). Kept t first b before later) (sym says.0) (record {
          sound = k.sound;
          one = k.one;
          holds = now;
          root = k.root;
          bound = k.bound;
          fits = subst (λ (b : Growth). length b.nodes ≤ b.bound) says.0 fits;
          low = k.low;
          some = subst (λ s. 0 < length (behind t a.root s)) (sym next) some;
          none = λ j low under. elim (cases_lt j a.sphere) [
            | inl inner ↦ k.none j low inner
            | inr here ↦
                let same : a.sphere ≡ j = omega (arith, under, here) in
                subst (λ j. settles t a.root j ≡ false) same (fails a.sphere (tried (omega (arith, same, low))) some)
          ];
          cost = omega (arith, steps, cost, long, len);
        })

    whole_here : behind t a.root (suc a.sphere) ≡ [] → SettledAs t a Whole
    whole_here none = (
      elim (cases_order 0 a.sphere) [
        | inl at_root ↦
            sym (settled_alone t.rules t.graph t.positions t.units (end_of t a.root) k.sound k.low
            (subst (λ s. behind t a.root (suc s) ≡ []) (sym at_root) none) ∙ at_root)
        | inr (inl some) ↦
            at some (or_right (node_data a.sphere) (whole_test a.sphere) (whole_at a.sphere ∙ ap is_empty none))
        | inr (inr less) ↦ absurd (omega arith)
      ],
      none,
      tried,
    )

    pub whole : (new : Growth) (later : ℕ) → GrownAs t.graph t.positions a new after later Finished
        → SettledAs t new Whole
    whole new later says = subst (λ (b : Growth). SettledAs t b Whole) (sym says.0)
        (whole_here (nil_from_length (behind t a.root (suc a.sphere)) says.2))

    first_some : (number : ℕ) → 0 < length (behind t a.root (suc number)) → 0 < length (behind t a.root 1)
    first_some zero some = some
    first_some (suc number) some = elim (cases_order 0 (length (behind t a.root (suc number)))) [
      | inl none ↦ absurd (not_behind (nil_from_length (behind t a.root (suc number)) (sym none)) some)
      | inr (inl inner) ↦ first_some number inner
      | inr (inr less) ↦ absurd (omega arith)
    ]
      where
        not_behind : behind t a.root (suc number) ≡ [] → 0 < length (behind t a.root (suc (suc number))) → ⊥
        not_behind e lt = let none : length (behind t a.root (suc (suc number))) ≡ 0 =
            ap (λ nodes. length {A = Node} (flat_map (children t.graph t.positions) nodes)) e in
            absurd (omega (arith, lt, none))

    pub over : (new : Growth) (later : ℕ) → GrownAs t.graph t.positions a new after later Full → SettledAs t new Over
    over new later says =
        let past = says.2 in
        let fits = k.fits in
        let some : 0 < length (behind t a.root (suc a.sphere)) = omega (arith, past, fits) in
        let le = cost_beyond t.rules t.graph t.positions t.units (end_of t a.root) k.sound k.low a.sphere
        (settled_beyond t.rules t.graph t.positions t.units (end_of t a.root) k.sound k.low a.sphere
        (some_of (behind t a.root a.sphere) k.some) (some_of (behind t a.root 1) (first_some a.sphere some))
        (λ j low under. elim (cases_lt j a.sphere) [
          | inl inner ↦ k.none j low inner
          | inr at_last ↦
              let same : a.sphere ≡ j = omega (arith, under, at_last) in
              subst (λ j. settles t a.root j ≡ false) same (fails a.sphere (tried (omega (arith, same, low))) some)
        ])) in
        subst (λ (b : Growth). SettledAs t b Over) (sym says.0) (omega (arith, le, past, long))

  -- each round comes nearer to the end
  pub nearer : (new : Growth) (later : ℕ) → GrownAs t.graph t.positions a new after later Grown
      → Kept t first new before later → new.bound - length new.nodes < a.bound - length a.nodes
  nearer new later says now =
      let steps = says.1 in
      let some = says.2 in
      let old_cost = k.cost in
      let cost = now.cost in
      let old_bound = k.bound in
      let bound = now.bound in
      let fits = now.fits in
      omega (arith, steps, some, old_cost, cost, old_bound, bound, fits)

  -- where it was grown to the end, what settling keeps follows it so far
  module _ (trying : Trying) (keeps : 0 < a.sphere → KeepsTo t a a.sphere trying) where
    followed_out : behind t a.root (suc a.sphere) ≡ [] → 0 < a.sphere → AreFollowedOut t.graph t.positions a trying
    followed_out none some = record {
      holds = k.holds;
      sound = k.sound;
      low = k.low;
      some = some;
      last = k.some;
      none = none;
      fits = k.fits;
      follows = (keeps some).follows;
      notes = (keeps some).notes;
    }

    pub all_followed : (new : Growth) (later : ℕ) → GrownAs t.graph t.positions a new after later Finished
        → 0 < new.sphere → AreFollowedOut t.graph t.positions new trying
    all_followed new later says =
        subst (λ (b : Growth). 0 < b.sphere → AreFollowedOut t.graph t.positions b trying) (sym says.0)
        (followed_out (nil_from_length (behind t a.root (suc a.sphere)) says.2))

-- and where it was grown by a sphere, what is kept is one after
pub ahead : (t : RootContext) (first a new : Growth) (before after later : ℕ) (trying : Trying)
    → (0 < a.sphere → KeepsTo t a a.sphere trying) → GrownAs t.graph t.positions a new after later Grown
    → Kept t first new before later → IsAhead t new trying
ahead t first a new before after later trying keeps says now =
    let sphere : new.sphere ≡ a.sphere + 1 = ap (λ (b : Growth). b.sphere) says.0 in
    let back : a.sphere ≡ a.sphere + 1 - 1 = omega arith in
    record {
      grown = is_grown t first new before later now (omega (arith, sphere));
      kept = λ further.
          let k = keeps (omega (arith, sphere, further)) in
          subst (λ (b : Growth). KeepsTo t b (b.sphere - 1) trying) (sym says.0) (record {
            follows = subst (λ s. FollowsTo t a s trying.branched) back k.follows;
            notes = subst (λ s. NotesTo t a s trying.pairs trying.noted) back k.notes;
          });
    }

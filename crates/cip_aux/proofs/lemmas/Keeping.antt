-- What is kept of the turns of units, and what one entry more says.
use Rattle.std.proofs.Common.{◌≡◌, ℕ, zero, suc, ◌==◌, ◌&&◌, ◌⊎◌, Bool, true, false, cond, List, [], ◌∷◌, refl, sym, ap, ◌∙◌, subst, None, Some, IfSome, inl, inr, replicate, slice_index_or, slice_set, eqb-true}
use Rattle.std.specs.declared.option.Option.{Option}
use Rattle.cip_mol.specs.Ends.{as_site, between_in, between_of}
use Rattle.cip_mol.specs.declared.ends.Ends.{Ends}
use Rattle.cip_mol.specs.declared.labels.descriptor.Descriptor.{Descriptor}
use Rattle.cip_mol.specs.declared.site.Site.{Site}
use Rattle.cip_mol.specs.declared.site.Unit as units
use Rattle.cip_digraph.specs.digraph.Telling.{node_at}
use Rattle.cip_digraph.specs.rules.Auxiliary.{nearer_first, roots_at}
use Rattle.cip_digraph.specs.units.Ends.{End, ends_of}
use Rattle.cip_digraph.specs.declared.decisions.parity.Parity.{Parity}
use Rattle.cip_digraph.specs.LentEnds.{ends_in}
use Rattle.cip_digraph.specs.TurnsOf.{roots_turns}
use Rattle.cip_digraph.proofs.lemmas.LentEnds.{ends_are}
use Rattle.cip_partition.specs.ReservedList.{ReservedList}
use Rattle.cip_aux.specs.InnerContext.{InnerContext, AgreesInside, Counts}
use Rattle.cip_aux.specs.ParityCache.{AreConstant, AreKept, if_of, kept_at, site_at, sites_in}
use Rattle.cip_aux.specs.DescriptorsInside.{AreEndTurns}
use Rattle.cip_aux.specs.Views.{DigraphView, path_at}
use Rattle.cip_aux.specs.UnitIndex.{unit_at}
use Rattle.cip_aux.specs.declared.parities.parity_cache.CachedParity.{CachedParity}

-- no entries
pub none_kept : (sight : DigraphView) (sites : List Site) → AreKept sight sites []
none_kept sight sites = record { each = λ node turn e. let bad : None ≡ Some turn = e in cc }

abbrev nothing : Option CachedParity
nothing = None

nothing_at : (count node : ℕ) → slice_index_or (replicate count nothing) node nothing ≡ nothing
nothing_at zero node = refl
nothing_at (suc count) zero = refl
nothing_at (suc count) (suc node) = nothing_at count node

-- empty entries
pub empty_kept : (sight : DigraphView) (sites : List Site) (count : ℕ) → AreKept sight sites (replicate count None)
empty_kept sight sites count = record {
  each = λ node turn e. let bad : None ≡ Some turn = sym (nothing_at count node) ∙ e in cc;
}

-- what is kept rests on the sight and the sites alone
pub same_kept : (sight other : DigraphView) (sites others : List Site) (kept : List (Option CachedParity)) → sight ≡ other
    → sites ≡ others → AreKept sight sites kept → AreKept other others kept
same_kept sight other sites others kept e f are =
    subst (λ s. AreKept s others kept) e (subst (λ (of : List Site). AreKept sight of kept) f are)

set_gives : (kept : List (Option CachedParity)) (node k : ℕ) (turn found : CachedParity)
    → slice_index_or (slice_set kept node (Some turn)) k None ≡ Some found
    → ((node ≡ k) × (turn ≡ found)) ⊎ (slice_index_or kept k None ≡ Some found)
set_gives [] node k turn found e = inr e
set_gives (first ∷ kept) zero zero turn found e = let same : turn ≡ found = cc in inl (refl, same)
set_gives (first ∷ kept) zero (suc k) turn found e = inr e
set_gives (first ∷ kept) (suc node) zero turn found e = inr e
set_gives (first ∷ kept) (suc node) (suc k) turn found e = elim (set_gives kept node k turn found e) [
  | inl same ↦ inl (ap suc same.0, same.1)
  | inr before ↦ inr before
]

-- one entry more
pub more_kept : (sight : DigraphView) (sites : List Site) (kept : List (Option CachedParity)) (node : ℕ) (turn : CachedParity)
    → AreKept sight sites kept → AreConstant sight node (site_at sites turn.place) (Some turn.parities)
    → AreKept sight sites (slice_set kept node (Some turn))
more_kept sight sites kept node turn are new = record {
  each = λ k found e. elim (set_gives kept node k turn found e) [
    | inl same ↦
        subst (λ n. AreConstant sight n (site_at sites found.place) (Some found.parities)) same.0
        (subst (λ (t : CachedParity). AreConstant sight node (site_at sites t.place) (Some t.parities)) same.1 new)
    | inr before ↦ are.each k found before
  ];
}

-- the entry that is found at a node is that of the unit
pub kept_gives : (kept : List (Option CachedParity)) (node place : ℕ) (turn : CachedParity)
    → kept_at kept node place ≡ Some turn
    → (slice_index_or kept node None ≡ Some turn) × (turn.place ≡ place)
kept_gives kept node place turn e = by (slice_index_or kept node None) e
  where
    of_same : (found : CachedParity) (b : Bool) → found.place == place ≡ b → cond b (Some found) None ≡ Some turn
        → (Some found ≡ Some turn) × (turn.place ≡ place)
    of_same found true t e =
        let same : found ≡ turn = cc in
        (e, sym (ap (λ (k : CachedParity). k.place) same) ∙ eqb-true found.place place t)
    of_same found false t e = let bad : None ≡ Some turn = e in cc

    by : (found : Option CachedParity) → if_of place found ≡ Some turn → (found ≡ Some turn) × (turn.place ≡ place)
    by None e = let bad : None ≡ Some turn = e in cc
    by (Some found) e = of_same found (found.place == place) refl e

-- the site of a unit by its place
pub site_is : (all : List units.Unit) (place : ℕ) → site_at (sites_in all) place ≡ (unit_at all place).site
site_is [] place = refl
site_is (unit ∷ all) zero = refl
site_is (unit ∷ all) (suc place) = site_is all place

module _ (inner : InnerContext) where
  -- descriptors that agree count in any case
  pub agrees_count : (b : Bool) (descriptor : List ℕ → Option Descriptor) → AgreesInside inner descriptor → Counts b inner descriptor
  agrees_count true descriptor agrees = tt
  agrees_count false descriptor agrees = agrees

  pub counts_both : (a b : Bool) (descriptor : List ℕ → Option Descriptor) → Counts (a && b) inner descriptor
      → Counts a inner descriptor × Counts b inner descriptor
  counts_both true b descriptor counts = (tt, counts)
  counts_both false b descriptor counts = (counts, agrees_count b descriptor counts)

  module _ (vertex : ℕ) (site : Site) (parities : Option Parity)
      (here : vertex ≡ (node_at inner.sight.nodes inner.from).vertex) where
    abbrev TurnsBy : Bool → Type 0
    TurnsBy b = AreEndTurns inner inner.from b (between_of site) (nearer_first vertex (ends_of site)) parities

    abbrev at_vertex : (List ℕ → Option Descriptor) → ℕ → Option Parity
    at_vertex descriptor v =
        roots_turns (roots_at inner.sight.rules inner.sight.graph inner.sight.positions descriptor
        (path_at inner.sight.nodes inner.from) (between_of site) (nearer_first v (ends_of site)))

    -- what constitution decided of a unit
    pub constant_by : TurnsBy true → AreConstant inner.sight inner.from site parities
    constant_by node_data = record { each = λ descriptor. node_data.each descriptor tt ∙ ap (at_vertex descriptor) here }

    pub constant_is : AreConstant inner.sight inner.from site parities → TurnsBy false
    constant_is node_data = record { each = λ descriptor agrees. node_data.each descriptor ∙ ap (at_vertex descriptor) (sym here) }

  -- the turns of ends that are lent are those of the site
  pub lent_turns : (vertex : ℕ) (b : Bool) (parities : Option Parity) (lent : Ends) (site : Site) → as_site lent ≡ site
      → between_in lent ≡ between_of site
      → AreEndTurns inner inner.from b (between_in lent) (nearer_first vertex (ends_in lent)) parities
      → AreEndTurns inner inner.from b (between_of site) (nearer_first vertex (ends_of site)) parities
  lent_turns vertex b parities lent site same between node_data =
      subst
      (λ (ends : List End). AreEndTurns inner inner.from b (between_of site) (nearer_first vertex ends) parities)
      (sym (ends_are lent) ∙ ap ends_of same)
      (subst (λ (way : List ℕ). AreEndTurns inner inner.from b way (nearer_first vertex (ends_in lent)) parities) between
      node_data)

  module _ (vertex : ℕ) (all : List units.Unit) (place : ℕ)
      (here : vertex ≡ (node_at inner.sight.nodes inner.from).vertex) where
    abbrev UnitTurns : Bool → Option Parity → Type 0
    UnitTurns b parities =
        let site = (unit_at all place).site in
        AreEndTurns inner inner.from b (between_of site) (nearer_first vertex (ends_of site)) parities

    -- an entry that is found gives the turns of the unit
    pub found_told : (kept : List (Option CachedParity)) (node : ℕ) (turn : CachedParity) → node ≡ inner.from
        → AreKept inner.sight (sites_in all) kept → kept_at kept node place ≡ Some turn
        → UnitTurns false (Some turn.parities)
    found_told kept node turn same are e =
        let gives = kept_gives kept node place turn e in
        constant_is vertex (unit_at all place).site (Some turn.parities) here
        (subst (λ site. AreConstant inner.sight inner.from site (Some turn.parities)) (site_is all place)
        (subst (λ p. AreConstant inner.sight inner.from (site_at (sites_in all) p) (Some turn.parities)) gives.1
        (subst (λ n. AreConstant inner.sight n (site_at (sites_in all) turn.place) (Some turn.parities)) same
        (are.each node turn gives.0))))

    -- what constitution decided of the unit is kept
    pub told_kept : (parities : Option Parity) (old new : ReservedList (Option CachedParity)) (node : ℕ) → node ≡ inner.from
        → UnitTurns true parities → AreKept inner.sight (sites_in all) old.items
        → (parities ≡ None → new ≡ old)
        → IfSome parities (λ found. new ≡ record old {
          items = slice_set old.items node (Some (record { place = place; parities = found }));
        })
        → AreKept inner.sight (sites_in all) new.items
    told_kept None old new node same node_data are none some =
        subst (λ (kept : ReservedList (Option CachedParity)). AreKept inner.sight (sites_in all) kept.items)
        (sym (none refl)) are
    told_kept (Some found) old new node same node_data are none some =
        let constant = constant_by vertex (unit_at all place).site (Some found) here node_data in
        subst (λ (kept : ReservedList (Option CachedParity)). AreKept inner.sight (sites_in all) kept.items) (sym some)
        (more_kept inner.sight (sites_in all) old.items node (record { place = place; parities = found }) are
        (subst (λ n. AreConstant inner.sight n (site_at (sites_in all) place) (Some found)) (sym same)
        (subst (λ site. AreConstant inner.sight inner.from site (Some found)) (sym (site_is all place)) constant)))

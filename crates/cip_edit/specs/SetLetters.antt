-- How a centre gets the asked letter: by a mark at its first eligible ligand. Own.
use Rattle.std.specs.Prelude.{◌≡◌, ℕ, Bool, true, false, not, if◌then◌else◌, Ok, Err, None, Some}
use Rattle.std.specs.declared.option.Option.{Option}
use Rattle.std.specs.declared.result.Result.{Result}
use Rattle.cip_num.specs.Around.{has_coincident}
use Rattle.cip_rank.specs.declared.rules.Rules.{Rules}
use Rattle.cip_mol.specs.CentreLetters.{asks_small, descriptor_of}
use Rattle.cip_mol.specs.Drawing.{Drawing}
use Rattle.cip_mol.specs.Points.{is_spatial}
use Rattle.cip_mol.specs.declared.labels.descriptor.Descriptor.{Descriptor}
use Rattle.cip_mol.specs.declared.labels.descriptor.Descriptor.TheVariants as descriptors
use Rattle.cip_mol.specs.declared.graph.molecule.Mark.{Mark}
use Rattle.cip_mol.specs.declared.graph.molecule.Mark.TheVariants.{Up, Down}
use Rattle.cip_mol.specs.declared.labels.outcome.Outcome.{Outcome}
use Rattle.cip_mol.specs.declared.labels.outcome.Outcome.TheVariants as outcomes
use Rattle.cip_mol.specs.declared.labels.centre_letter.CentreLetter.{CentreLetter}
use Rattle.cip_edit.specs.declared.request.CentreRefusal.{CentreRefusal}
use Rattle.cip_edit.specs.declared.request.CentreRefusal.TheVariants as refusals
use Rattle.cip_edit.specs.declared.request.MarkedCentre.{MarkedCentre}
use Rattle.cip_edit.specs.FoundCentres.{found_at}
use Rattle.cip_edit.specs.Marking.{with_mark, directions, chosen, has_centre}

abbrev pub is_small : Descriptor → Bool
is_small descriptors.SmallR = true
is_small descriptors.SmallS = true
is_small _ = false

-- a descriptor of a centre is R or S, in its kind
abbrev pub is_r : Descriptor → Bool
is_r descriptors.R = true
is_r descriptors.SmallR = true
is_r _ = false

abbrev pub asks_r : CentreLetter → Bool
asks_r requested = is_r (descriptor_of requested)

abbrev pub same : Bool → Bool → Bool
same true b = b
same false b = not b

-- the mark to which a descriptor leads that was found with an up mark
abbrev pub mark_for : CentreLetter → Descriptor → Mark
mark_for requested found = if same (is_r found) (asks_r requested) then Up else Down

abbrev pub by_outcome : CentreLetter → ℕ → Outcome → Result MarkedCentre CentreRefusal
by_outcome requested neighbour outcomes.Over = Err refusals.Over
by_outcome requested neighbour outcomes.Tie = Err refusals.Tie
by_outcome requested neighbour (outcomes.Label label) =
    if same (is_small label.letter) (asks_small requested)
    then Ok (record { neighbour = neighbour; mark = mark_for requested label.letter })
    else Err (refusals.OtherKind (is_small label.letter))
-- a mark at an eligible ligand always shows a sense
by_outcome requested neighbour (outcomes.NoGeometry cause) = Err refusals.NoBond

abbrev pub by_chosen : Rules → ℕ → Drawing → ℕ → CentreLetter → Option ℕ → Result MarkedCentre CentreRefusal
by_chosen rules nodes drawing atom requested None = Err refusals.NoBond
by_chosen rules nodes drawing atom requested (Some neighbour) =
    by_outcome requested neighbour (found_at rules nodes (with_mark drawing atom neighbour Up) atom)

abbrev pub mark_centre : Rules → ℕ → Drawing → ℕ → CentreLetter → Result MarkedCentre CentreRefusal
mark_centre rules nodes drawing atom requested =
    if is_spatial drawing.atoms then Err refusals.ThreeD
    else if has_coincident (directions drawing atom) then Err refusals.Coincident
    else by_chosen rules nodes drawing atom requested (chosen drawing atom)

-- the mark that gives a centre the asked letter, or the first cause why none does
unfoldable pub mark_for_letter : Rules → ℕ → Drawing → ℕ → CentreLetter → Result MarkedCentre CentreRefusal
mark_for_letter rules nodes drawing atom requested =
    if not (has_centre drawing atom) then Err refusals.NoCentre else mark_centre rules nodes drawing atom requested

-- what is found of a centre is a label with this letter
abbrev pub HasLetter : Descriptor → Outcome → Type 0
HasLetter letter (outcomes.Label label) = label.letter ≡ letter
HasLetter letter outcomes.Over = ⊥
HasLetter letter outcomes.Tie = ⊥
HasLetter letter (outcomes.NoGeometry cause) = ⊥

-- the changed drawing has a centre there, with the asked letter
pub record IsGiven (rules : Rules) (nodes : ℕ) (drawing : Drawing) (atom : ℕ) (requested : CentreLetter)
    (marked : MarkedCentre) : Type 0 where
  pub centre : has_centre (with_mark drawing atom marked.neighbour marked.mark) atom ≡ true
  pub letter : HasLetter (descriptor_of requested)
      (found_at rules nodes (with_mark drawing atom marked.neighbour marked.mark) atom)

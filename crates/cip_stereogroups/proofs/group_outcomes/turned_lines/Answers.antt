use Rattle.std.proofs.Common.{ap, refl, sym, ◌∙◌, map}
use Rattle.cip_mol.specs.declared.site.Unit as units
use Rattle.cip_digraph.specs.units.Inverted.{inverted}
use Rattle.cip_digraph.specs.units.Units.{sites_of}
use Rattle.cip_digraph.proofs.lemmas.reflected.Inversions.{sites_stay}
use Rattle.cip_label.specs.Settings.{LabelContext}
use Rattle.cip_stereogroups.proofs.group_outcomes.turned_lines.Goals as goal

pub new-requires : goal.new-requires
new-requires g c = record {
  sites = ap (map (λ (unit : units.Unit). unit.site))
      (c.list.ensures ∙ c.requires.turned
      ∙ ap (λ (s : LabelContext). inverted c.args.group.now.atoms s.units) (sym c.setting-setting.ensures))
      ∙ sites_stay c.args.group.now.atoms c.setting-setting.result.now.units
      ∙ c.graph.ensures.proper.sites
      ∙ sym (λ i. sites_of (c.graph.ensures.value i) (c.positions.ensures i));
}

pub atom_lines-requires : goal.atom_lines-requires
atom_lines-requires g c = record {
  turned = c.in-Ok.ensures
      ∙ (λ i. record {
        rules = c.rules.ensures i;
        graph = c.graph.ensures.value i;
        positions = c.positions.ensures i;
        units = (c.list.ensures ∙ c.requires.turned) i;
      })
      ∙ ap (λ (s : LabelContext). record {
        rules = s.rules;
        graph = s.graph;
        positions = s.positions;
        units = inverted c.args.group.now.atoms c.args.centres.now.units;
      }) c.setting-setting.ensures;
}

pub returns-in-Ok-clause-lines : goal.returns-in-Ok-clause-lines
returns-in-Ok-clause-lines g c = c.atom_lines.ensures.lines

pub returns-in-Ok-clause-kept : goal.returns-in-Ok-clause-kept
returns-in-Ok-clause-kept g c = c.atom_lines.ensures.kept

pub returns-in-Err-clause-kept : goal.returns-in-Err-clause-kept
returns-in-Err-clause-kept g c = refl

pub returns-in-Err-clause-lines : goal.returns-in-Err-clause-lines
returns-in-Err-clause-lines g c = tt

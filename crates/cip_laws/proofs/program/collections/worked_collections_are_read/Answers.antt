use Rattle.std.proofs.Common.{refl}
use Rattle.cip_text.specs.Numbers.{integer_of}
use Rattle.cip_ctfile.specs.Fields.{parse_number}
use Rattle.cip_ctfile.specs.Spaces.{spaced_words_of}
use Rattle.cip_ctfile.specs.Turns.{over}
use Rattle.cip_v3000.specs.BondLine.{place_named}
use Rattle.cip_v3000.specs.Frames.{is_frame}
use Rattle.cip_v3000.specs.Words.{words_of}
use Rattle.cip_stereogroups.specs.AtomLists.{with_names}
use Rattle.cip_stereogroups.specs.Collections.{with_joined}
use Rattle.cip_stereogroups.specs.Names.{kind_of, number_of}
use Rattle.cip_laws.proofs.program.collections.worked_collections_are_read.Goals as goal

pub returns : goal.returns
unfolding is_frame over words_of parse_number integer_of place_named
    spaced_words_of with_names with_joined kind_of number_of
returns c = record {
  one = refl;
  of_one_name = refl;
  outside = refl;
  no_index = refl;
  wrong_count = refl;
  no_number = refl;
  repeated = refl;
  not_ended = refl;
}

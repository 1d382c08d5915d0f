use Rattle.std.proofs.Common.{arith}
use Rattle.cip_aux_rank.proofs.lemmas.CountedDescriptors.{descriptors_len}
use Rattle.cip_aux_rank.proofs.subtree_descriptors.SubtreeDescriptorsDescriptorMap.descriptor.Goals as goal

pub is_below-requires : goal.is_below-requires
is_below-requires c =
    let self = c.args.self.now in
    let low = c.requires in
    omega (arith, low, descriptors_len self.table.now.parents self.from self.descriptors.now.descriptors)

pub get-descriptor-requires : goal.get-descriptor-requires
get-descriptor-requires c =
    let self = c.args.self.now in
    let low = c.requires in
    let len = self.len in
    omega (arith, low, len, descriptors_len self.table.now.parents self.from self.descriptors.now.descriptors)

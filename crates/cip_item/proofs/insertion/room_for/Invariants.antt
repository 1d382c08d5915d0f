use Rattle.std.proofs.Common.{◌≡◌, ◌<◌, ◌+◌, ◌-◌, ◌^◌, min, drop}
use Rattle.cip_item.specs.Room.{room_of}
use Rattle.cip_item.proofs.insertion.room_for.Given as goal

abbrev pub invariant-loop-text : goal.invariant-loop-text
invariant-loop-text l = record {
  room : min (2 ^ 64 - 1) (l.room + room_of (drop l.text-index l.texts)) ≡ min (2 ^ 64 - 1) (room_of l.texts);
  fits : l.room < 2 ^ 64;
}

use Prim.Native.Nat.{ℕ}
use mathlib.Core.Path.{◌∙◌}
use lib.ListN.{length-replicate}
use Rattle.narrowing.proofs.Rising.{listed_room}
use Rattle.list.proofs.Sets.{none_in, set_room}
use Rattle.entries.proofs.Lines.{listed_inside, first_listed}
use Rattle.entries.proofs.reading.first_wrong_listed.Goals as goal

pub add_wrong-requires : goal.add_wrong-requires
add_wrong-requires c = (c.requires.2.room, set_room c.requires.0 (length-replicate {A = ℕ} 8192 0), none_in 8192)

pub first_of-requires : goal.first_of-requires
first_of-requires c = (listed_room _ _ _ c.requires.1, listed_inside _ _ _ c.requires.1 (set_room c.requires.0 (c.add_wrong.ensures.long ∙ length-replicate {A = ℕ} 8192 0)))

pub returns : goal.returns
returns c = first_listed _ _ _ c.requires.1 _ _ c.requires.2 c.add_wrong.ensures c.first_of.ensures

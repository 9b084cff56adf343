-- `packing::pack` meets its contract. Assumes nothing.
use Rattle.std.proofs.Common.{refl}
use Rattle.packing.specs.Packed.{packed}
use Rattle.packing.proofs.pack.Goals as goal

pub returns : goal.returns
unfolding packed
returns c = rw c.from.ensures refl

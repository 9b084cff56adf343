-- `fields::zero_at` meets its contract: five spaces and a 0. Assumes nothing.
use Rattle.fields.specs.QuickFields.{four_of, zero_read}
use Rattle.fields.proofs.zero_at.Goals as goal

pub returns : goal.returns
returns c =
    zero_read _ _ c.requires (four_of _ _ c.from_le_bytes-head.ensures c.type_inv.text) c.from_le_bytes-tail.ensures c.type_inv.text c.from_le_bytes.ensures c.from_le_bytes-2.ensures

-- `preceding::fill_marked` meets its contract. Assumes nothing.
use Rattle.std.specs.Prelude.{◌≡◌, length, replicate}
use Rattle.std.proofs.Common.{rules}
use Rattle.preceding.specs.MarkedLaws.{marked_is}
use Rattle.preceding.proofs.fill_marked.Goals as goal

pub returns : goal.returns
returns c = let empty : c.fill.new.self ≡ replicate (length c.args.out.now) 0 = search rules in marked_is _ c.requires empty
